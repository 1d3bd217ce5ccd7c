-- What lies in the slot once the whole share is one pass's.
use Rattle.std.proofs.Common.{◌≡◌, ◌≢◌, ℕ, ◌+◌, ◌-◌, ◌<◌, ◌≤◌, Bool, true, false, nat_eq, List, [], length}
use Rattle.std.proofs.Common.{refl, sym, ◌∙◌, subst, arith, Option, Some}
use Rattle.std.specs.Prelude.{sum_by, count_by}
use mathlib.Core.Logic.{dite}
use mathlib.Core.List.{IsPrefix}
use mathlib.Core.Option.{some, some-injective}
use mathlib.Core.Option as maybe
use native.Mathlib.Decide.{dec_le}
use lib.ListN.{get_elem?}
use Rattle.atomic_table.specs.Table.{State}
use Rattle.inp_turn.specs.declared.pass_view.PassView.{PassView}
use Rattle.inp_turn.specs.declared.seat_view.SeatView.{SeatView}
use Rattle.inp_turn.specs.PassView.{whole_share, added_places, spent_view, OwnsSeen, IsEachAddedOnce}
use Rattle.inp_turn.specs.Turn.{turn_count, share_of, own_count, IsTurn}
use Rattle.inp_turn.specs.Steps.{ClosesWith}
use Rattle.inp_turn.proofs.Prefixes.{prefix-length, prefix_whole}
use Rattle.inp_turn.proofs.Places.{count-below, count-behind, count-within, count-unseen}
use Rattle.inp_turn.proofs.Sums.{sum-alone, two-le-sum}

plus-none : (a b : ℕ) → b ≡ 0 → a ≡ a + b
plus-none a b e = omega arith

some-share : 0 < whole_share
some-share = omega arith

less-all : (a b n : ℕ) → a + b ≤ n → n ≤ a → b ≡ 0
less-all a b n l h = omega arith

module _ {B E : Type 0} where
  -- beside a seat that has the whole share no other has any
  others-none : (vs : List (SeatView B E)) (id j : ℕ) (v d : SeatView B E) → j ≢ id → get_elem? vs id ≡ some v
      → get_elem? vs j ≡ some d → (n : ℕ) → sum_by share_of vs ≡ n → n ≤ share_of v → share_of d ≡ 0
  others-none vs id j v d other at k n sum all =
      less-all (share_of v) (share_of d) (sum_by share_of vs)
      (two-le-sum share_of vs id j v d other at k) (rw sum all)

  idle : (d : SeatView B E) (b : Bool) → d.has_turn ≡ b → (d.has_turn ≡ true → 0 < d.pass.share)
      → share_of d ≡ 0 → turn_count d ≡ 0
  idle d true e alive none = let l : 0 < d.pass.share = alive e in absurd (omega arith)
  idle d false e alive none = rw e

  owns-none : (place : ℕ) (d : SeatView B E) → (d.pass.share ≡ 0 → d.pass.own ≡ [])
      → (d.met.share ≡ 0 → d.met.own ≡ []) → share_of d ≡ 0 → own_count place d ≡ 0
  owns-none place d p m z = let a : count_by (nat_eq place) d.pass.own ≡ 0 = rw (p (omega arith)) in
      let b : count_by (nat_eq place) d.met.own ≡ 0 = rw (m (omega arith)) in omega arith

  -- where all that was added is a pass's own, it has seen all
  seen-all : (first log : List E) (v : PassView B E) → IsPrefix v.seen log → length first ≤ length v.seen
      → OwnsSeen v
      → ((place : ℕ) → count_by (nat_eq place) v.own ≡ count_by (nat_eq place) (added_places first log))
      → v.seen ≡ log
  seen-all first log v pre from owns own =
      prefix_whole v.seen log pre
      (dite (dec_le (length log) (length v.seen)) (λ l. l)
      (λ less. absurd (missing (length log - 1) (omega arith) (omega arith))))
    where
      missing : (place : ℕ) → length v.seen ≤ place → place < length log → ⊥
      missing place behind inside =
          omega (
            arith,
            own place,
            count-unseen v place owns behind,
            count-within place (length first) (length log - length first) (omega arith) (omega arith),
          )

module _ {E : Type 0} where
  -- where own places are those that were added, each stands there once
  each-once : (first log : List E) (own : List ℕ) → length first ≤ length log
      → ((place : ℕ) → count_by (nat_eq place) own ≡ count_by (nat_eq place) (added_places first log))
      → IsEachAddedOnce first log own
  each-once first log own l is = record {
    once = λ place from below. is place
        ∙ count-within place (length first) (length log - length first) from (omega arith);
    before = λ place h. is place ∙ count-below place (length first) (length log - length first) h;
    behind = λ place h. is place
        ∙ count-behind place (length first) (length log - length first) (omega arith);
  }

module _ {S B E : Type 0} (base : S → B) (entries : S → List E) where
  -- what a close says of the value x that comes out
  pub record IsClosed (start : S) (v : PassView B E) (x : S) : Type 0 where
    pub base_is : v.base ≡ Some (base x)
    pub entries_are : entries x ≡ v.seen
    pub begins : IsPrefix (entries start) (entries x)
    pub own : IsEachAddedOnce (entries start) (entries x) v.own

  -- what lies in the slot is such a value
  pub record Comes (start : S) (v : PassView B E) (x : Option S) : Type 0 where
    pub value : S
    pub is : x ≡ Some value
    pub closed : IsClosed start v value

  module _ (start : S) (id : ℕ) (v : SeatView B E) (free : v.has_turn ≡ false) (clear : v.met ≡ spent_view)
      (whole : v.pass.share ≡ whole_share) (owns : OwnsSeen v.pass) where
    no-met : v.met.share ≡ 0
    no-met = rw clear

    has-all : whole_share ≤ share_of v
    has-all = let z = no-met in omega arith

    others : (s : State (Option S) (SeatView B E)) → sum_by share_of s.views ≡ whole_share
        → get_elem? s.views id ≡ some v → (j : ℕ) (d : SeatView B E) → j ≢ id → get_elem? s.views j ≡ some d
        → share_of d ≡ 0
    others s shares at j d other k = others-none s.views id j v d other at k whole_share shares has-all

    no-turn : (s : State (Option S) (SeatView B E)) → IsTurn base entries start s
        → get_elem? s.views id ≡ some v → sum_by turn_count s.views ≡ 0
    no-turn s r at =
        rw (
          sum-alone turn_count s.views id v at (λ j d other k.
              idle d d.has_turn refl (r.each_seat j d k).alive (others s r.shares at j d other k)),
          free,
        )

    all-own : (s : State (Option S) (SeatView B E)) → (r : IsTurn base entries start s)
        → get_elem? s.views id ≡ some v → (place : ℕ)
        → count_by (nat_eq place) v.pass.own ≡ count_by (nat_eq place) (added_places (entries start) r.log)
    all-own s r at place = let none : count_by (nat_eq place) v.met.own ≡ 0 = rw clear in
        let alone : sum_by (own_count place) s.views ≡ own_count place v =
        sum-alone (own_count place) s.views id v at (λ j d other k. let f =
        r.each_seat j d k in owns-none place d f.pass.spent f.met.spent (others s r.shares at j d other k)) in
        plus-none (count_by (nat_eq place) v.pass.own) (count_by (nat_eq place) v.met.own) none
        ∙ (sym alone ∙ r.owned place)

    lies : (s : State (Option S) (SeatView B E)) → IsTurn base entries start s → get_elem? s.views id ≡ some v
        → (slots : List (Option S)) (x : Option S)
        → ((y : Option S) → get_elem? s.homes 0 ≡ some (some y) → get_elem? slots 0 ≡ some y)
        → get_elem? slots 0 ≡ some x
        → Comes start v.pass x
    lies s r at slots x stay is = let fits = r.each_seat id v at in let home =
        r.home (no-turn s r at) in let own = all-own s r at in let alive : 0 < v.pass.share =
        rw whole some-share in
        let first = prefix-length (entries start) v.pass.seen (fits.pass.first_seen alive) in
        let all : v.pass.seen ≡ r.log = seen-all (entries start) r.log v.pass fits.pass.seen first owns own in
        let there : get_elem? slots 0 ≡ some (Some home.0) = stay (Some home.0) (simp home.1) in record {
          value = home.0;
          is = some-injective x (Some home.0) (sym is ∙ there);
          closed = record {
            base_is = rw (home.2, ← fits.pass.base_is alive);
            entries_are = home.3 ∙ sym all;
            begins = subst (IsPrefix (entries start)) (sym home.3) r.begins;
            own =
                rw home.3
                (each-once (entries start) r.log v.pass.own
                (prefix-length (entries start) r.log r.begins) own);
          };
        }

    pub comes : (x : Option S) → ClosesWith base entries start id v x → Comes start v.pass x
    comes x e = lies e.final.0 e.final.1.0 e.final.1.1 e.slots x (λ y h. e.final.4 0 y h) e.slot

  -- the same of what was unwrapped
  pub closes : (start : S) (v : PassView B E) (x : Option S) (y : S) → x ≡ Some y → Comes start v x
      → IsClosed start v y
  closes start v x y e c = let both : Some c.value ≡ Some y = sym c.is ∙ e in let same : c.value ≡ y =
      cc in rw same at c.closed
