-- Each step of a device's history that names a client is a call of the job that opened it.
use Rattle.std.proofs.Common.{◌≡◌, ◌⊎◌, ℕ, zero, suc, ◌+◌, ◌<◌, ◌≤◌, Bool, true, false, ◌&&◌, ◌||◌}
use Rattle.std.proofs.Common.{if◌then◌else◌, nat_eq, nat_lt, List, [], ◌∷◌, ◌++◌, length, take, reverse, refl}
use Rattle.std.proofs.Common.{sym, ap, subst, ◌∙◌, arith, inl, inr, Option, Some, None}
use Rattle.std.specs.Prelude.{slice_get}
use Rattle.std.proofs.lemmas.Bool.{and_parts, cases_Bool}
use Rattle.inp_model.specs.Description.{IsDescription}
use Rattle.inp_model.specs.Past.{is_open}
use Rattle.inp_model.specs.Reply.{is_bad_client}
use Rattle.inp_runs.proofs.Common.{list_any, sum_by, true≢false, cases_lt, lt-ltb, eqb-true, reverse-append}
use Rattle.inp_runs.proofs.Common.{length-reverse, length-take, take_all, slice_get_within, same_Some}
use Rattle.inp_runs.proofs.Common.{get_or_from_slice_get, Stamped, Step, Reply, Opened, Refused, Description}
use Rattle.inp_runs.proofs.Common.{past_at, opens, Answer, IsAnswer, accepted, refused, is_accepted, Call}
use Rattle.inp_runs.proofs.Common.{HasPlace, IsLegalFrom, IsLegalRun, place_of, next_place, client_of}
use Rattle.inp_runs.proofs.Common.{Line, Role, IsHistory, NO_CLIENT, EndsWith, Waiting, Job, JobView}
use Rattle.inp_runs.proofs.Common.{first_job, sight_of_calls, tap_client_after, lines_talk}
use Rattle.inp_runs.proofs.Common.{AreTold, is_use, is_use_of}
use Rattle.std.proofs.lemmas.List.Sums.{sum_by-cons, get_or-le-sum_by}
use Rattle.inp_model.specs.declared.limits.TheConstants.{LOG_MAX}
use Rattle.inp_model.specs.declared.step.Step.TheVariants.{Open}
use Rattle.inp_model.specs.declared.reply.Refusal.TheVariants.{NoMemory}
use Rattle.inp_model.proofs.Opens.{opens-le}
use Rattle.inp_model.proofs.Refused.{refused-not_accepted, accepted-unrefused}
use Rattle.inp_reader.proofs.Calls.{IsPlaceOf}
use Rattle.inp_runs.proofs.Entries.{entries_at, entries, entries-cons_call, told-counts}
use Rattle.inp_runs.proofs.views.JobClients.{NameLast, job-names}
use Rattle.inp_runs.proofs.Lists.{eq_true}
use Rattle.inp_reader.proofs.StandsAfterTalks.{opens-steps, open-opens}
use Rattle.inp_model.proofs.Allowed.{named_open, head_fails}
use Rattle.inp_model.specs.Step.{is_same}

-- The calls of a job: a legal run of the history, with the places of those that its sight tells of, and each
-- names no client but the one that the job opened last.
pub record AreCallsOf (d : Description) (history : List Step) (job : JobView) : Type 0 where
  -- the calls that the job made
  pub calls : List Call
  -- they are a legal run of the history
  pub legal : IsLegalRun d history calls
  -- they have as many entries at each place as the job's sight
  pub told : (place : ℕ) → entries place (sight_of_calls calls) ≡ entries place job.sight
  -- each names no client but the one that was opened last
  pub names : NameLast NO_CLIENT calls

-- Each job of a device has its calls, and each place of the history is the place of one accepted call of one
-- job.
pub record HasOwners (d : Description) (history : List Step) (jobs : List JobView) : Type 0 where
  -- each job has such calls
  pub each : (i : ℕ) (job : JobView) → slice_get jobs i ≡ Some job → AreCallsOf d history job
  -- each place of the history is that of one accepted call of one job
  pub once : (place : ℕ) → entries_at place jobs ≡ (if nat_lt place (length history) then 1 else 0)
  -- the history is shorter than the number that no client has
  pub short : length history < NO_CLIENT

-- a job's lines name no client but the last one it opened, and its sight tells of its calls
pub calls-of : (role : Role) (d : Description) (history : List Step) (streams : List (List Stamped))
    (wait : Option Waiting) (rounds : ℕ) (lines : List Line) (job : JobView) (last : Job) (calls : List Call)
    → IsLegalRun d history calls → AreTold wait calls job.sight
    → EndsWith (lines_talk role d streams wait rounds lines (first_job role d)) calls (Some last)
    → AreCallsOf d history job
calls-of role d history streams wait rounds lines job last calls legal told follows =
    record {
      calls = calls;
      legal = legal;
      told = told-counts wait calls job.sight told;
      names = (job-names role d streams wait rounds lines last calls follows).0;
    }

-- no client has the last number
pub short-history : (d : Description) (history : List Step) → IsDescription d → length history ≤ d.log_limit
    → length history < NO_CLIENT
short-history d history is h =
    let most : d.log_limit ≤ LOG_MAX = is.log_limit.1 in
    omega (arith, h, most)

-- Sums of one

term-within : {X : Type 0} (f : X → ℕ) (xs : List X) (i : ℕ) (x : X) → slice_get xs i ≡ Some x
    → f x ≤ sum_by f xs
term-within f xs i x h =
    omega (
      arith,
      get_or-le-sum_by f xs i x (slice_get_within xs i x h),
      ap f (get_or_from_slice_get xs i x x h),
    )

-- where a sum is one at most, one item alone counts
only-one : {X : Type 0} (f : X → ℕ) (xs : List X) (i k : ℕ) (x y : X) → slice_get xs i ≡ Some x
    → slice_get xs k ≡ Some y → sum_by f xs ≤ 1 → 1 ≤ f x → 1 ≤ f y → x ≡ y
only-one f [] i k x y h j most m n = absurd cc
only-one f (z ∷ xs) zero zero x y h j most m n = cc
only-one f (z ∷ xs) zero (suc k) x y h j most m n =
    let same : z ≡ x = cc in
    let more : f y ≤ sum_by f xs = term-within f xs k y j in
    absurd (omega (arith, most, m, n, more, ap f same, sum_by-cons f z xs))
only-one f (z ∷ xs) (suc i) zero x y h j most m n =
    let same : z ≡ y = cc in
    let more : f x ≤ sum_by f xs = term-within f xs i x h in
    absurd (omega (arith, most, m, n, more, ap f same, sum_by-cons f z xs))
only-one f (z ∷ xs) (suc i) (suc k) x y h j most m n =
    only-one f xs i k x y h j (omega (arith, most, sum_by-cons f z xs)) m n

-- an item that counts
pub record Counts {X : Type 0} (f : X → ℕ) (xs : List X) : Type 0 where
  -- where the item stands
  pub index : ℕ
  -- the item that counts
  pub item : X
  -- it stands there
  pub is : slice_get xs index ≡ Some item
  -- it counts at least once
  pub some : 1 ≤ f item

-- a sum above 0 has a term above 0
pub has-one : {X : Type 0} (f : X → ℕ) (xs : List X) → 1 ≤ sum_by f xs → Counts f xs
has-one f [] h = absurd (omega (arith, h))
has-one f (z ∷ xs) h = elim (cases_lt 0 (f z)) [
  | inl some ↦ record { index = 0; item = z; is = refl; some = omega (arith, some) }
  | inr none ↦
      (let more : Counts f xs = has-one f xs (omega (arith, h, none, sum_by-cons f z xs)) in
      record { index = suc more.index; item = more.item; is = more.is; some = more.some })
]

place-counts : (place : ℕ) (calls : List Call) → IsPlaceOf place calls
    → 1 ≤ entries place (sight_of_calls calls)
unfolding IsPlaceOf
place-counts place [] h = absurd h
place-counts place (call ∷ calls) (inl same) =
    omega (
      arith,
      rw (same.0, eq_true (place_of call.answer.reply) place same.1) at (entries-cons_call place call calls),
    )
place-counts place (call ∷ calls) (inr h) =
    omega (arith, place-counts place calls h, entries-cons_call place call calls)

-- calls that count at a place have an accepted one there
pub counts-place : (place : ℕ) (calls : List Call) → 1 ≤ entries place (sight_of_calls calls)
    → IsPlaceOf place calls
unfolding IsPlaceOf
counts-place place [] h = absurd (omega (arith, h))
counts-place place (call ∷ calls) h =
    by (is_accepted call.answer.reply) (nat_eq (place_of call.answer.reply) place) refl refl
    (entries place (sight_of_calls calls)) (counts-place place calls)
    (omega (arith, h, entries-cons_call place call calls))
  where
    by : (a b : Bool) → is_accepted call.answer.reply ≡ a → nat_eq (place_of call.answer.reply) place ≡ b
        → (n : ℕ) → (1 ≤ n → IsPlaceOf place calls) → 1 ≤ (if a && b then 1 else 0) + n
        → ((is_accepted call.answer.reply ≡ true) × (place_of call.answer.reply ≡ place))
        ⊎ IsPlaceOf place calls
    by true true e f n more k = inl (e, eqb-true (place_of call.answer.reply) place f)
    by true false e f n more k = inr (more (omega (arith, k)))
    by false b e f n more k = inr (more (omega (arith, k)))

-- the reply opened this client
abbrev pub is_opening_of : ℕ → Reply → Bool
is_opening_of client (Opened at opened ring) = nat_eq opened client
is_opening_of client _ = false

abbrev pub is_opened_as : ℕ → Call → Bool
is_opened_as client call = is_opening_of client call.answer.reply

pub opened-step : (d : Description) (past : List Step) (x : Step) (at client ring : ℕ)
    → (accepted d past x).reply ≡ Opened at client ring → (x ≡ Open) × (client ≡ opens past)
opened-step d past Open at client ring h = (refl, cc)
opened-step d past _ at client ring h = absurd cc

-- only an Open opens a client, which is the next one
pub opened-exact : (d : Description) (past : List Step) (x : Step) (given : Answer) (at client ring : ℕ)
    → IsAnswer d past x given → given.reply ≡ Opened at client ring → (x ≡ Open) × (client ≡ opens past)
opened-exact d past x given at client ring (inl e) is = by (refused d past x) refl
  where
    by : (o : Option Reply) → refused d past x ≡ o → (x ≡ Open) × (client ≡ opens past)
    by None k =
        opened-step d past x at client ring
        (rw (e, k) at is)
    by (Some reply) k =
        let same : Opened at client ring ≡ reply = rw (← is, e, k) in
        absurd (true≢false (ap is_accepted same ∙ refused-not_accepted d past x reply k))
opened-exact d past x given at client ring (inr l) is =
    let same : Opened at client ring ≡ Refused (length past) NoMemory = rw (← is, l.2) in
    absurd cc

-- Where in a history a client was opened.
pub record IsOpenedAt (history : List Step) (client : ℕ) (calls : List Call) : Type 0 where
  -- where its Open stands
  pub place : ℕ
  pub of_calls : IsPlaceOf place calls
  -- an Open stands there
  pub is_open : slice_get history place ≡ Some Open
  -- the client's number is how many were opened before it
  pub number : client ≡ opens (past_at history place)

-- Pasts of a history

take-grows : (history : List Step) (at upto : ℕ) → at ≤ upto
    → (more : List Step) × (take upto history ≡ take at history ++ more)
take-grows history zero upto h = (take upto history, refl)
take-grows history (suc at) zero h = absurd (omega (arith, h))
take-grows [] (suc at) (suc upto) h = ([], refl)
take-grows (x ∷ history) (suc at) (suc upto) h =
    let rest = take-grows history at upto (omega (arith, h)) in
    (rest.0, rw rest.1)

take-next : (history : List Step) (at : ℕ) (x : Step) → slice_get history at ≡ Some x
    → take (suc at) history ≡ take at history ++ x ∷ []
take-next [] at x h = absurd cc
take-next (y ∷ history) zero x h = let same : y ≡ x = cc in rw same
take-next (y ∷ history) (suc at) x h = rw (take-next history at x h)

module _ (history : List Step) where
  -- a later past has the earlier one behind what came since
  pub past-grows : (at upto : ℕ) → at ≤ upto
      → (more : List Step) × (past_at history upto ≡ more ++ past_at history at)
  past-grows at upto h =
      let rest = take-grows history at upto h in
      (reverse rest.0, rw rest.1 (reverse-append (take at history) rest.0))

  -- the past behind a step
  pub past-next : (at : ℕ) (x : Step) → slice_get history at ≡ Some x
      → past_at history (suc at) ≡ x ∷ past_at history at
  past-next at x h = rw (take-next history at x h) (reverse-append (take at history) (x ∷ []))

  -- each Open has a client of its own
  opens-rise : (at upto : ℕ) → slice_get history at ≡ Some Open → suc at ≤ upto
      → opens (past_at history at) < opens (past_at history upto)
  opens-rise at upto is h =
      let before : List Step = past_at history at in
      let next : opens before < opens (past_at history (suc at)) =
      rw (past-next at Open is)
      (open-opens before (opens before) refl) in
      let later = past-grows (suc at) upto h in
      rw later.1
      (opens-steps (past_at history (suc at)) later.0 (opens before) next)

  -- a client is opened at one place
  pub opened-once : (one other : ℕ) → slice_get history one ≡ Some Open → slice_get history other ≡ Some Open
      → opens (past_at history one) ≡ opens (past_at history other) → one ≡ other
  opened-once one other h k same = grind (arith, opens-rise one other h, opens-rise other one k)

  -- an opened client is not the number that no client has
  pub no-client : (client : ℕ) (calls : List Call) → length history < NO_CLIENT
      → IsOpenedAt history client calls → client ≡ NO_CLIENT → ⊥
  no-client client calls short o is =
      omega (
        arith,
        short,
        is,
        o.number,
        opens-le (past_at history o.place),
        length-reverse (take o.place history),
        length-take o.place history,
      )

-- Who makes a step that names a client

after-or : (x : Step) (reply : Reply) (last client : ℕ) → tap_client_after x reply last ≡ client
    → (last ≡ client) ⊎ (is_opening_of client reply ≡ true)
after-or Open (Opened at opened ring) last client h = inr (eq_true opened client h)
after-or Open _ last client h = inl h
after-or _ reply last client h = inl h

-- one side that is true is enough
pub or-true : (b c : Bool) → c ≡ true → (b || c) ≡ true
or-true true c h = refl
or-true false c h = h

-- the job that made the step at a place
record IsMaker (d : Description) (history : List Step) (jobs : List JobView) (place : ℕ) : Type 0 where
  index : ℕ
  job : JobView
  is_job : slice_get jobs index ≡ Some job
  of_it : AreCallsOf d history job
  made : IsPlaceOf place of_it.calls

place-moves : (place : ℕ) (one other : JobView) (calls more : List Call)
    → entries place (sight_of_calls calls) ≡ entries place one.sight
    → entries place (sight_of_calls more) ≡ entries place other.sight → one ≡ other → IsPlaceOf place calls
    → IsPlaceOf place more
place-moves place one other calls more told also same h =
    counts-place place more
    (omega (arith, place-counts place calls h, told, rw (← same) at also))

take-past : (history : List Step) (n : ℕ) → slice_get history n ≡ None → take (suc n) history ≡ take n history
take-past [] zero h = refl
take-past [] (suc n) h = refl
take-past (x ∷ history) zero h = absurd cc
take-past (x ∷ history) (suc n) h = rw (take-past history n h)

module _ (d : Description) (history : List Step) where
  opened-here : (client : ℕ) (call : Call) (calls : List Call) (reply : Reply) → call.answer.reply ≡ reply
      → HasPlace d history call → is_opening_of client reply ≡ true → IsOpenedAt history client (call ∷ calls)
  unfolding IsPlaceOf
  opened-here client call calls (Opened at opened ring) is placed same =
      let place : ℕ = place_of call.answer.reply in
      let accepted_it : is_accepted call.answer.reply ≡ true = ap is_accepted is in
      let e = opened-exact d (past_at history place) call.step call.answer at opened ring placed.exact is in
      record {
        place = place;
        of_calls = inl (accepted_it, refl);
        is_open = rw (placed.entered, e.0);
        number = sym (eqb-true opened client same) ∙ e.1;
      }
  opened-here client call calls _ is placed same = absurd (true≢false (sym same))

  -- a client that one of these calls opened
  pub opened-at : (least client : ℕ) (calls : List Call) → IsLegalFrom d history least calls
      → list_any (is_opened_as client) calls ≡ true → IsOpenedAt history client calls
  unfolding IsPlaceOf
  opened-at least client [] legal h = absurd cc
  opened-at least client (call ∷ calls) legal h = elim (cases_Bool (is_opened_as client call)) [
    | inl e ↦ opened-here client call calls call.answer.reply refl legal.1 e
    | inr e ↦
        (let more = rw e at h in
        let o : IsOpenedAt history client calls =
        opened-at (next_place call.answer.reply) client calls legal.2 more in
        record { place = o.place; of_calls = inr o.of_calls; is_open = o.is_open; number = o.number })
  ]

  -- the calls of a job that enter it are those of the client that it opened last
  names-opened : (least last place client : ℕ) (x : Step) (calls : List Call)
      → IsLegalFrom d history least calls → NameLast last calls → IsPlaceOf place calls
      → slice_get history place ≡ Some x → client_of x ≡ Some client → (client ≡ NO_CLIENT → ⊥)
      → (last ≡ client) ⊎ (list_any (is_opened_as client) calls ≡ true)
  unfolding IsPlaceOf NameLast
  names-opened least last place client x [] legal names h at is other = absurd h
  names-opened least last place client x (call ∷ calls) legal names (inl same) at is other =
      let reply : Reply = call.answer.reply in
      let entered : slice_get history (place_of reply) ≡ Some call.step =
      (let p : HasPlace d history call = legal.1 in p.entered same.0) in
      let step : call.step ≡ x = same_Some call.step x (rw (← entered, same.1) at) in
      elim (names.0 client (ap client_of step ∙ is)) [ inl e ↦ inl (sym e) | inr e ↦ absurd (other e) ]
  names-opened least last place client x (call ∷ calls) legal names (inr h) at is other =
      let later : Bool = list_any (is_opened_as client) calls in
      elim (names-opened (next_place call.answer.reply)
      (tap_client_after call.step call.answer.reply last) place client x calls
      legal.2 names.1 h at is other) [
        | inl e ↦ elim (after-or call.step call.answer.reply last client e)
            [ inl same ↦ inl same | inr here ↦ inr (rw here) ]
        | inr e ↦ inr (or-true (is_opened_as client call) later e)
      ]

  -- a job whose calls have this place
  counts-at : (place : ℕ) (job : JobView) (a : AreCallsOf d history job) → IsPlaceOf place a.calls
      → 1 ≤ entries place job.sight
  counts-at place job a h = omega (arith, place-counts place a.calls h, a.told place)

  -- what made a step that names an opened client opened it
  maker-opens : (client place : ℕ) (x : Step) (job : JobView) (a : AreCallsOf d history job)
      → IsPlaceOf place a.calls → slice_get history place ≡ Some x → client_of x ≡ Some client
      → (client ≡ NO_CLIENT → ⊥) → list_any (is_opened_as client) a.calls ≡ true
  maker-opens client place x job a made at names other =
      elim (names-opened 0 NO_CLIENT place client x a.calls a.legal a.names made at names other)
      [ inl is ↦ absurd (other (sym is)) | inr h ↦ h ]

  -- Steps that nothing refused

  placed-accepted : (least place : ℕ) (x : Step) (calls : List Call) → IsLegalFrom d history least calls
      → IsPlaceOf place calls → slice_get history place ≡ Some x → refused d (past_at history place) x ≡ None
  unfolding IsPlaceOf
  placed-accepted least place x [] legal h at = absurd h
  placed-accepted least place x (call ∷ calls) legal (inl same) at =
      let reply : Reply = call.answer.reply in
      let placed : HasPlace d history call = legal.1 in
      let step : call.step ≡ x = same_Some call.step x (rw (← placed.entered same.0, same.1) at) in
      rw (← same.1, ← step)
      (accepted-unrefused d (past_at history (place_of reply)) call.step call.answer placed.exact same.0)
  placed-accepted least place x (call ∷ calls) legal (inr h) at =
      placed-accepted (next_place call.answer.reply) place x calls legal.2 h at

  module _ (jobs : List JobView) (owners : HasOwners d history jobs) where
    -- one accepted call of one job has each place of the history
    one-there : (place : ℕ) (x : Step) → slice_get history place ≡ Some x → entries_at place jobs ≡ 1
    one-there place x at =
        let within : place < length history = slice_get_within history place x at in
        rw (owners.once, lt-ltb)

    -- two jobs never open the same client
    pub opened-by-one : (i k client : ℕ) (one other : JobView) (a : AreCallsOf d history one)
        (b : AreCallsOf d history other) → slice_get jobs i ≡ Some one → slice_get jobs k ≡ Some other
        → list_any (is_opened_as client) a.calls ≡ true
        → list_any (is_opened_as client) b.calls ≡ true → one ≡ other
    opened-by-one i k client one other a b is_one is_other h j =
        let o : IsOpenedAt history client a.calls = opened-at 0 client a.calls a.legal h in
        let p : IsOpenedAt history client b.calls = opened-at 0 client b.calls b.legal j in
        let same : p.place ≡ o.place =
        opened-once history p.place o.place p.is_open o.is_open (sym p.number ∙ o.number) in
        let there : IsPlaceOf o.place b.calls = rw same at p.of_calls in
        let sum : entries_at o.place jobs ≡ 1 = one-there o.place Open o.is_open in
        only-one (λ (job : JobView). entries o.place job.sight) jobs i k one other is_one is_other
        (omega (arith, sum)) (counts-at o.place one a o.of_calls) (counts-at o.place other b there)

    maker-of : (place : ℕ) (x : Step) → slice_get history place ≡ Some x → IsMaker d history jobs place
    maker-of place x at =
        let sum : entries_at place jobs ≡ 1 = one-there place x at in
        let maker : Counts (λ (job : JobView). entries place job.sight) jobs =
        has-one (λ (job : JobView). entries place job.sight) jobs (omega (arith, sum)) in
        let a : AreCallsOf d history maker.item = owners.each maker.index maker.item maker.is in
        record {
          index = maker.index;
          job = maker.item;
          is_job = maker.is;
          of_it = a;
          made = counts-place place a.calls (omega (arith, maker.some, a.told place));
        }

    -- A step that names a client which a job opened is one of its calls.
    pub own-steps : (i : ℕ) (job : JobView) (a : AreCallsOf d history job) (client place : ℕ) (x : Step)
        → slice_get jobs i ≡ Some job → list_any (is_opened_as client) a.calls ≡ true
        → slice_get history place ≡ Some x → client_of x ≡ Some client → IsPlaceOf place a.calls
    own-steps i job a client place x is_job opened at names =
        let m : IsMaker d history jobs place = maker-of place x at in
        let other : client ≡ NO_CLIENT → ⊥ =
        no-client history client a.calls owners.short (opened-at 0 client a.calls a.legal opened) in
        let its : list_any (is_opened_as client) m.of_it.calls ≡ true =
        maker-opens client place x m.job m.of_it m.made at names other in
        place-moves place m.job job m.of_it.calls a.calls (m.of_it.told place) (a.told place)
        (opened-by-one m.index i client m.job job m.of_it a m.is_job is_job its opened) m.made

    -- each step of such a history was accepted after those before it
    pub step-accepted : (place : ℕ) (x : Step) → slice_get history place ≡ Some x
        → refused d (past_at history place) x ≡ None
    step-accepted place x at =
        let m : IsMaker d history jobs place = maker-of place x at in
        placed-accepted 0 place x m.of_it.calls m.of_it.legal m.made at

    -- each step before a place is an accepted call of some job, so nothing refused it
    pub history-at : (n : ℕ) → IsHistory d (past_at history n)
    history-at zero = tt
    history-at (suc n) = by (slice_get history n) refl (history-at n)
      where
        by : (o : Option Step) → slice_get history n ≡ o → IsHistory d (past_at history n)
            → IsHistory d (past_at history (suc n))
        by None e before = subst (IsHistory d) (sym (rw take-past)) before
        by (Some x) e before =
            subst (IsHistory d) (sym (past-next history n x e)) (before, step-accepted n x e)

    -- the whole history is the past at its end, and each of its steps was accepted
    pub history-of-jobs : IsHistory d (reverse history)
    history-of-jobs = rw (take_all (length history) history (omega arith)) at (history-at (length history))

-- each use of a client that these calls opened is one of them
abbrev pub OwnsItsUses : List Step → List Call → Type 0
OwnsItsUses history calls =
    (client place : ℕ) (x : Step) → list_any (is_opened_as client) calls ≡ true
    → slice_get history place ≡ Some x → is_use_of client x ≡ true → IsPlaceOf place calls

same-client : (o : Option ℕ) (client : ℕ) → is_same o client ≡ true → o ≡ Some client
same-client None client h = absurd cc
same-client (Some named) client h = rw (eqb-true named client h)

-- a use of a client names it
pub use-names : (client : ℕ) (x : Step) → is_use_of client x ≡ true → client_of x ≡ Some client
use-names client x h =
    let both : (is_use x ≡ true) × (is_same (client_of x) client ≡ true) =
    and_parts (is_use x) (is_same (client_of x) client) h in
    same-client (client_of x) client both.1

-- a use names its client, and only the job that opened a client makes steps that name it
pub own-uses : (role : Role) (d : Description) (history : List Step) (streams : List (List Stamped))
    (wait : Option Waiting) (rounds : ℕ) (lines : List Line) (jobs : List JobView) (i : ℕ) (job : JobView)
    (last : Job) (calls : List Call) → HasOwners d history jobs → slice_get jobs i ≡ Some job
    → IsLegalRun d history calls → AreTold wait calls job.sight
    → EndsWith (lines_talk role d streams wait rounds lines (first_job role d)) calls (Some last)
    → OwnsItsUses history calls
unfolding calls-of
own-uses role d history streams wait rounds lines jobs i job last calls owners is_job legal told follows =
    λ client place x opened at used.
    own-steps d history jobs owners i job
    (calls-of role d history streams wait rounds lines job last calls legal told follows) client place x
    is_job opened at (use-names client x used)

-- a step that names a client and is not refused has one that is open
pub names-open : (d : Description) (past : List Step) (x : Step) (client : ℕ) → refused d past x ≡ None
    → client_of x ≡ Some client → is_open past client ≡ true
names-open d past x client accepts names =
    named_open past x client names (head_fails (is_bad_client past (client_of x)) _ _ accepts)
