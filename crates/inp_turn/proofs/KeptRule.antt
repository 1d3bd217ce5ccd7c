-- Each step keeps the rule of the turn.
use Rattle.std.proofs.Common.{◌≡◌, ◌≢◌, ℕ, zero, suc, ◌<◌, ◌≤◌, true, false, eqb, nat_eq, List, [], ◌∷◌, ◌++◌}
use Rattle.std.proofs.Common.{length, get_or, set, refl, sym, ap, ◌∙◌, subst, ⊎_elim, arith, Option, Some}
use Rattle.std.proofs.Common.{length-set, eq-eqb, ne_eqb}
use Rattle.std.specs.Prelude.{sum_by, count_by}
use Rattle.std.proofs.lemmas.Bool.{false≢true}
use Rattle.std.proofs.lemmas.List.{set-get_or}
use Rattle.std.proofs.lemmas.List.Sums.{sum_by_push}
use Rattle.std.specs.Option.{unwrap_or}
use mathlib.Core.Logic.{dite}
use mathlib.Core.List.{IsPrefix}
use mathlib.Core.Option.{none, some, some-injective, some-ne-none}
use mathlib.Core.Option as maybe
use native.Mathlib.Decide.{ℕ_discrete}
use lib.ListN.{get_elem?}
use prog.Atomic.{either}
use Rattle.atomic_table.specs.Table.{State, step, keeps, takes, gives, put_back, rest, stepped, Allows}
use Rattle.atomic_table.specs.Table.{Splits, Joins, opening}
use Rattle.atomic_table.proofs.Lists.{at_set, set_else, set_again, at_snoc}
use Rattle.inp_turn.specs.declared.pass_view.PassView.{PassView}
use Rattle.inp_turn.specs.declared.seat_view.SeatView.{SeatView}
use Rattle.inp_turn.specs.PassView.{added_places, spent_view}
use Rattle.inp_turn.specs.Turn.{first_seat, turn_count, share_of, own_count, FitsLog, SeatFits, IsTurn}
use Rattle.inp_turn.specs.Steps.{Sitting, seat_after_split, split_off_seat, seat_after_meeting, spent_seat}
use Rattle.inp_turn.specs.Steps.{seat_after_join, seat_after_take, seat_after_give, Tries, Releases, Unites}
use Rattle.inp_turn.proofs.Prefixes.{prefix-refl, prefix-trans, prefix-length, longer_is}
use Rattle.inp_turn.proofs.Places.{count-append, added-more, added-none, added-le-one}
use Rattle.inp_turn.proofs.Sums.{sum-set, at-le-sum, two-le-sum}

-- a list of one element, set anew
set-one : {A : Type 0} (xs : List A) (x : A) → length xs ≡ 1 → set xs 0 x ≡ x ∷ []
set-one [] x e = absurd (omega arith)
set-one (y ∷ []) x e = refl
set-one (y ∷ z ∷ zs) x e = absurd (omega arith)

module _ {B E : Type 0} where
  -- what holds of all seats but one and of what that one becomes holds of all then
  stays : (Q : SeatView B E → Type 0) (vs : List (SeatView B E)) (me : ℕ) (w : SeatView B E) → Q w
      → ((j : ℕ) (d : SeatView B E) → j ≢ me → get_elem? vs j ≡ some d → Q d)
      → (j : ℕ) (d : SeatView B E) → get_elem? (set vs me w) j ≡ some d → Q d
  stays Q vs me w mine others j d e =
      ⊎_elim (λ (t : (j ≡ me) × (w ≡ d)). subst Q t.1 mine)
      (λ (t : (j ≢ me) × (get_elem? vs j ≡ some d)). others j d t.0 t.1) (at_set vs me j w d e)

  spent_fits : (b : B) (first log : List E) → FitsLog b first log spent_view
  spent_fits b first log =
      record {
        seen = (log, refl);
        base_is = λ l. absurd (omega arith);
        first_seen =
            λ l. absurd (omega arith);
        spent = λ _. refl;
      }

  -- what fits a log fits a longer one
  still_fits : (b : B) (first log more : List E) (v : PassView B E) → IsPrefix log more
      → FitsLog b first log v → FitsLog b first more v
  still_fits b first log more v g f =
      record {
        seen = prefix-trans v.seen log more f.seen g;
        base_is = f.base_is;
        first_seen = f.first_seen;
        spent = f.spent;
      }

  -- a seat without the turn fits a log where both its passes do
  free_fits : (b : B) (first log : List E) (v : SeatView B E) → v.has_turn ≡ false
      → FitsLog b first log v.pass → FitsLog b first log v.met → SeatFits b first log v
  free_fits b first log v free pass met =
      record {
        pass = pass;
        met = met;
        all_seen = λ z. absurd (false≢true (sym free ∙ z));
        alive =
            λ z. absurd (false≢true (sym free ∙ z));
      }

-- what the slot in hand has
abbrev held_or : {S : Type 0} → S → List (ℕ × Option S) → S
held_or d [] = d
held_or d (x ∷ xs) = unwrap_or x.1 d

module _ {S B E : Type 0} (base : S → B) (entries : S → List E) where
  abbrev St : Type 0
  St = State (Option S) (SeatView B E)

  abbrev Rule : S → St → Type 0
  Rule = IsTurn base entries

  pub opens : (start : S) (slots : List (Option S)) → slots ≡ Some start ∷ []
      → Rule start (opening (0 ∷ []) slots (first_seat (base start) (entries start)))
  opens start slots e = rw e record {
    log = entries start;
    begins = prefix-refl (entries start);
    word = refl;
    one_turn = omega arith;
    one_slot = refl;
    home = λ _. (start, refl, refl, refl);
    shares = refl;
    owned = λ place. sym (added-none place (entries start));
    each_seat = only;
  }
    where
      only : (j : ℕ) (v : SeatView B E) → get_elem? (first_seat (base start) (entries start) ∷ []) j ≡ some v
          → SeatFits (base start) (entries start) (entries start) v
      only zero v k =
          subst (SeatFits (base start) (entries start) (entries start)) (some-injective _ v k) record {
            pass = record {
              seen = prefix-refl (entries start);
              base_is = λ _. refl;
              first_seen =
                  λ _. prefix-refl (entries start);
              spent = λ _. refl;
            };
            met = spent_fits (base start) (entries start) (entries start);
            all_seen = λ _. refl;
            alive = λ _. omega arith;
          }
      only (suc j) v k = absurd (some-ne-none v (sym k))

  unmoved : (start : S) (s : St) (r : Rule start s) (id : ℕ) (me : Sitting S B E)
      → get_elem? s.views id ≡ some me.0 → Rule start (stepped s 0 (get_or s.words 0 0) id me.1 me.0 keeps)
  unmoved start s r id me at =
      subst (λ (z : List ℕ × List (SeatView B E)).
      Rule start record { words = z.0; homes = s.homes; views = z.1 })
      (λ i. (sym (set-get_or s.words 0 0) i, sym (set_again s.views id me.0 at) i)) r

  -- a try for the turn takes the value out where the word is 0
  pub tries : (start : S) (slots id : ℕ) (me : Sitting S B E) → me.0.has_turn ≡ false → 0 < me.0.pass.share
      → Allows (Rule start) slots id me 0 (λ n. either (eqb n 0) 1 n)
      (Tries base entries (step slots 0 0 1 none) me)
  tries start slots id me free alive s r _ at _ = let n : ℕ =
      get_or s.words 0 0 in let is : n ≡ sum_by turn_count s.views = rw r.word in let fits =
      r.each_seat id me.0 at in
      dite (ℕ_discrete n 0) (λ hit. let h = r.home (sym is ∙ hit) in let x : S = h.0 in let w : SeatView B E =
      seat_after_take me.0 (entries x) in let none_had : turn_count me.0 ≡ 0 = rw free in
      let turns =
      sum-set turn_count s.views id me.0 w at in let shared =
      sum-set share_of s.views id me.0 w at in let zero_now : sum_by turn_count s.views ≡ 0 = sym is ∙ hit in
      let now : sum_by turn_count (set s.views id w) ≡ 1 = omega arith in (
        w,
        takes 0 (Some x),
        rw h.1,
        rw (eq-eqb n 0 hit) record {
          log = r.log;
          begins = r.begins;
          word = rw (now, ← set-one s.words 1 (ap length r.word));
          one_turn = omega arith;
          one_slot = length-set s.homes 0 none ∙ r.one_slot;
          home = λ z. absurd (omega arith);
          shares = omega (arith, r.shares);
          owned = λ place. omega (arith, sum-set (own_count place) s.views id me.0 w at, r.owned place);
          each_seat = stays (SeatFits (base start) (entries start) r.log) s.views id w record {
            pass = record {
              seen = rw h.3 (prefix-refl r.log);
              base_is = fits.pass.base_is;
              first_seen = λ _. subst (IsPrefix (entries start)) (sym h.3) r.begins;
              spent = fits.pass.spent;
            };
            met = fits.met;
            all_seen = λ _. h.3;
            alive = λ _. alive;
          } (λ j d _ k. r.each_seat j d k);
        },
        (
          (λ _. (
            x,
            record {
              base_is = rw (fits.pass.base_is alive, ← h.2);
              begins = subst (IsPrefix me.0.pass.seen) (sym h.3) fits.pass.seen;
              seat = refl;
              slots = refl;
            },
          )),
          λ not. absurd (not hit),
        ),
      ))
      (λ miss. (
        me.0,
        keeps,
        tt,
        rw (ne_eqb n 0 miss) (unmoved start s r id me at),
        ((λ hit. absurd (miss hit)), λ _. refl),
      ))

  -- the release: the value in hand goes home, with all that was entered
  pub releases : (start : S) (slots id : ℕ) (me : Sitting S B E) (y : S) → me.1 ≡ (0, Some y) ∷ []
      → me.0.has_turn ≡ true → 0 < me.0.pass.share → me.0.pass.base ≡ Some (base y)
      → IsPrefix me.0.pass.seen (entries y)
      → Allows (Rule start) slots id me 0 (λ _. 0) (λ _. Releases entries (step slots 0 0 0 none) me 0)
  releases start slots id me y held turn alive based more s r _ at _ = let fits =
      r.each_seat id me.0 at in let w : SeatView B E =
      seat_after_give me.0 (entries y) in let all : me.0.pass.seen ≡ r.log = fits.all_seen turn in
      let grown : IsPrefix r.log (entries y) =
      rw all at more in let both : Some (base y) ≡ Some (base start) = sym based
      ∙ fits.pass.base_is alive in let same : base y ≡ base start = cc in
      let homes : put_back s.homes me.1 ≡ some (Some y) ∷ [] =
      ap (put_back s.homes) held ∙ set-one s.homes (some (Some y)) r.one_slot in
      let had : turn_count me.0 ≡ 1 =
      rw turn in let turns = sum-set turn_count s.views id me.0 w at in let shared =
      sum-set share_of s.views id me.0 w at in
      let one = r.one_turn in let now : sum_by turn_count (set s.views id w) ≡ 0 = omega arith in (
        w,
        gives,
        tt,
        record {
          log = entries y;
          begins = prefix-trans (entries start) r.log (entries y) r.begins grown;
          word = rw (now, ← set-one s.words 0 (ap length r.word));
          one_turn = omega arith;
          one_slot = ap length homes;
          home = λ _. (y, homes, same, refl);
          shares = omega (arith, r.shares);
          owned = λ place. let added : count_by (nat_eq place) (added_places me.0.pass.seen (entries y))
              ≡ count_by (nat_eq place) (added_places r.log (entries y)) = rw all in
              omega (
                arith,
                sum-set (own_count place) s.views id me.0 w at,
                r.owned place,
                added,
                count-append place me.0.pass.own (added_places me.0.pass.seen (entries y)),
                added-more place (entries start) r.log (entries y)
                    (prefix-length (entries start) r.log r.begins) (prefix-length r.log (entries y) grown),
              );
          each_seat = stays (SeatFits (base start) (entries start) (entries y)) s.views id w
              (free_fits (base start) (entries start) (entries y) w refl (record {
                seen = prefix-refl (entries y);
                base_is = fits.pass.base_is;
                first_seen = λ _. prefix-trans (entries start) r.log (entries y) r.begins grown;
                spent = λ z. absurd (omega arith);
              }) (still_fits (base start) (entries start) r.log (entries y) me.0.met grown fits.met))
              (λ j d other k. let f = r.each_seat j d k in let idle : d.has_turn ≡ true → ⊥ =
              λ has. let has_one : turn_count d ≡ 1 =
              rw has in omega (arith, two-le-sum turn_count s.views id j me.0 d other at k) in record {
                pass = still_fits (base start) (entries start) r.log (entries y) d.pass grown f.pass;
                met = still_fits (base start) (entries start) r.log (entries y) d.met grown f.met;
                all_seen = λ z. absurd (idle z);
                alive = λ z. absurd (idle z);
              });
        },
        λ x e. let is : y ≡ x = ap (held_or y) (sym held ∙ e) in (rw is, ap rest held),
      )

  -- a split
  pub splits : (start : S) (id : ℕ) (v : SeatView B E) → v.has_turn ≡ false → 2 ≤ v.pass.share
      → Splits (Rule start) id v (seat_after_split v) (split_off_seat v)
  splits start id v free two s r at = let fits = r.each_seat id v at in let left : SeatView B E =
      seat_after_split v in let right : SeatView B E = split_off_seat v in let vs : List (SeatView B E) =
      set s.views id left in
      let turns : sum_by turn_count (vs ++ right ∷ []) ≡ sum_by turn_count s.views =
      omega (arith, sum-set turn_count s.views id v left at, sum_by_push turn_count vs right) in record {
        log = r.log;
        begins = r.begins;
        word = rw (r.word, ← turns);
        one_turn = omega (arith, r.one_turn);
        one_slot = r.one_slot;
        home = λ z. r.home (sym turns ∙ z);
        shares =
            omega (arith, r.shares, sum-set share_of s.views id v left at, sum_by_push share_of vs right);
        owned =
            λ place. omega (
              arith,
              r.owned place,
              sum-set (own_count place) s.views id v left at,
              sum_by_push (own_count place) vs right,
            );
        each_seat = λ j d k. ⊎_elim (stays (SeatFits (base start) (entries start) r.log) s.views id left
            (free_fits (base start) (entries start) r.log left free
            (record {
              seen = fits.pass.seen;
              base_is = λ _. fits.pass.base_is (omega arith);
              first_seen =
                  λ _. fits.pass.first_seen (omega arith);
              spent = λ z. absurd (omega arith);
            })
            fits.met) (λ i e _ l. r.each_seat i e l) j d)
            (λ (t : right ≡ d). subst (SeatFits (base start) (entries start) r.log) t
            (free_fits (base start) (entries start) r.log right refl
            (record {
              seen = fits.pass.seen;
              base_is = λ _. fits.pass.base_is (omega arith);
              first_seen =
                  λ _. fits.pass.first_seen (omega arith);
              spent = λ z. absurd (omega arith);
            })
            (spent_fits (base start) (entries start) r.log))) (at_snoc vs right d j k);
      }

  -- the first load of a join puts the other pass beside the seat's own
  pub meets : (start : S) (id : ℕ) (v : SeatView B E) (other : ℕ) (w : SeatView B E) → v.met ≡ spent_view
      → w.met ≡ spent_view → w.has_turn ≡ false
      → Joins (Rule start) id v other w (seat_after_meeting v w) spent_seat
  meets start id v other w clear clear' free s r at apart there = let both : SeatView B E =
      seat_after_meeting v w in let vs : List (SeatView B E) = set s.views id both in
      let fits =
      r.each_seat id v at in let others =
      r.each_seat other w (sym (set_else s.views id other both apart) ∙ there) in
      let none_had : turn_count w ≡ 0 = rw free in
      let turns : sum_by turn_count (set vs other spent_seat) ≡ sum_by turn_count s.views =
      omega (
        arith,
        sum-set turn_count s.views id v both at,
        sum-set turn_count vs other w spent_seat there,
      ) in
      let no_share : v.met.share ≡ 0 = rw clear in let no_share' : w.met.share ≡ 0 = rw clear' in record {
        log = r.log;
        begins = r.begins;
        word = rw (r.word, ← turns);
        one_turn = omega (arith, r.one_turn);
        one_slot = r.one_slot;
        home = λ z. r.home (sym turns ∙ z);
        shares =
            omega (
              arith,
              r.shares,
              sum-set share_of s.views id v both at,
              sum-set share_of vs other w spent_seat there,
            );
        owned = λ place. let no_own : count_by (nat_eq place) v.met.own ≡ 0 =
            rw clear in let no_own' : count_by (nat_eq place) w.met.own ≡ 0 = rw clear' in
            omega (
              arith,
              r.owned place,
              sum-set (own_count place) s.views id v both at,
              sum-set (own_count place) vs other w spent_seat there,
            );
        each_seat = stays (SeatFits (base start) (entries start) r.log) vs other spent_seat
            (free_fits (base start) (entries start) r.log spent_seat refl
            (spent_fits (base start) (entries start) r.log) (spent_fits (base start) (entries start) r.log))
            (λ j d _ k. stays (SeatFits (base start) (entries start) r.log) s.views id both record {
              pass = fits.pass;
              met = others.pass;
              all_seen = fits.all_seen;
              alive = fits.alive;
            }
            (λ i e _ l. r.each_seat i e l) j d k);
      }

  -- the second one makes one pass of both
  pub unites : (start : S) (slots id : ℕ) (me : Sitting S B E) → me.0.has_turn ≡ false → 0 < me.0.pass.share
      → 0 < me.0.met.share → Allows (Rule start) slots id me 0 (λ n. n) (λ _ after. Unites me after)
  unites start slots id me free alive met_alive s r _ at _ = let fits =
      r.each_seat id me.0 at in let w : SeatView B E = seat_after_join me.0 in
      let long = longer_is me.0.pass.seen me.0.met.seen r.log fits.pass.seen fits.met.seen in
      let turns : sum_by turn_count (set s.views id w) ≡ sum_by turn_count s.views =
      omega (arith, sum-set turn_count s.views id me.0 w at) in (
        w,
        keeps,
        tt,
        record {
          log = r.log;
          begins = r.begins;
          word = set-get_or s.words 0 0 ∙ (rw (r.word, ← turns));
          one_turn = omega (arith, r.one_turn);
          one_slot = r.one_slot;
          home = λ z. r.home (sym turns ∙ z);
          shares = omega (arith, r.shares, sum-set share_of s.views id me.0 w at);
          owned =
              λ place. omega (
                arith,
                r.owned place,
                sum-set (own_count place) s.views id me.0 w at,
                count-append place me.0.pass.own me.0.met.own,
              );
          each_seat = stays (SeatFits (base start) (entries start) r.log) s.views id w
              (free_fits (base start) (entries start) r.log w free (record {
                seen = long.whole;
                base_is = λ _. fits.pass.base_is alive;
                first_seen =
                    λ _. prefix-trans (entries start) me.0.pass.seen w.pass.seen
                    (fits.pass.first_seen alive) long.left;
                spent = λ z. absurd (omega arith);
              }) (spent_fits (base start) (entries start) r.log)) (λ j d _ k. r.each_seat j d k);
        },
        record {
          base_is = fits.met.base_is met_alive ∙ sym (fits.pass.base_is alive);
          seat = refl;
          slots = refl;
          seen = long.left;
          met_seen = long.right;
          apart =
              λ place. omega (
                arith,
                at-le-sum (own_count place) s.views id me.0 at,
                r.owned place,
                added-le-one place (entries start) r.log,
              );
        },
      )
