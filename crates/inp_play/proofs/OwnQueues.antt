-- How many events a client's own calls leave visible in its queue.
use Rattle.std.proofs.Common.{eq-eqb, ◌≡◌, ◌≤◌, ℕ, zero, suc, ◌-◌, Bool, true, false, if◌then◌else◌, nat_eq}
use Rattle.std.proofs.Common.{min, List, [], ◌∷◌, ◌++◌, length, drop, refl, ap, ◌∙◌, Option, Some, None}
use Rattle.std.proofs.Common.{arith}
use Rattle.std.proofs.lemmas.Bool.Decides.{nat_tests}
use Rattle.inp_model.specs.declared.step.Step.TheVariants.{Discard, GetKeys, SyncSlots, Read}
use Rattle.inp_script.proofs.Common.{Step, Description, Event, is_report}
use Rattle.inp_model.specs.Step.{Query, client_of, is_open_step, is_part_of, query_of}
use Rattle.inp_model.specs.Past.{is_call_of}
use Rattle.inp_model.specs.Cut.{cuts}
use Rattle.inp_model.specs.Raw.{raw_of_step}
use Rattle.inp_model.specs.Frame.{cuts_of_step}
use Rattle.inp_model.proofs.Removal.{stays, report_stays_after, flush_from, flush-walk}
use Rattle.inp_model.specs.Queue.{Entry, event_of, visible, flush_for, left_by_call, queue, queue_with}

-- how many are visible, with one event more in front
abbrev with_first : Bool → ℕ → ℕ
with_first report behind = if nat_eq behind 0 then (if report then 1 else 0) else suc behind

-- no more is visible than there is
pub visible-le : (q : List Entry) → visible event_of q ≤ length q
visible-le [] = omega arith
visible-le (x ∷ q) = step (is_report (event_of x)) (visible event_of q) (length q) (visible-le q)
  where
    step : (report : Bool) (behind n : ℕ) → behind ≤ n → with_first report behind ≤ suc n
    step true behind n h = grind (arith, nat_tests)
    step false behind n h = grind (arith, nat_tests)

-- what is taken from the front is no longer counted
visible-drop : (n : ℕ) (q : List Entry) → n ≤ visible event_of q
    → visible event_of (drop n q) ≡ visible event_of q - n
visible-drop zero q h = omega arith
visible-drop (suc n) [] h = omega (arith, h)
visible-drop (suc n) (x ∷ q) h =
    let first = behind_it (is_report (event_of x)) (visible event_of q) n h in
    visible-drop n q first.0 ∙ first.1
  where
    behind_it : (report : Bool) (behind n : ℕ) → suc n ≤ with_first report behind
        → (n ≤ behind) × (behind - n ≡ with_first report behind - suc n)
    behind_it true behind n h = (grind (arith, nat_tests), grind (arith, nat_tests))
    behind_it false behind n h = (grind (arith, nat_tests), grind (arith, nat_tests))

-- where no event is visible there is no report
none_behind : (report : Bool) (behind : ℕ) → with_first report behind ≡ 0 → (report ≡ false) × (behind ≡ 0)
none_behind true behind h = absurd (grind (arith, nat_tests))
none_behind false behind h = (refl, grind (arith, nat_tests))

-- and none comes of the removal of events
flush-none : (drops : Event → Bool) (flag : Bool) (q : List Entry) → visible event_of q ≡ 0
    → visible event_of (flush_from event_of drops flag q) ≡ 0
flush-none drops flag [] h = refl
flush-none drops flag (x ∷ q) h =
    let first = none_behind (is_report (event_of x)) (visible event_of q) h in
    by_flag (stays event_of drops flag x) first.0
    (flush-none drops (report_stays_after event_of drops flag x) q first.1)
  where
    by_flag : (b : Bool) → is_report (event_of x) ≡ false
        → visible event_of (flush_from event_of drops (report_stays_after event_of drops flag x) q) ≡ 0
        → visible event_of
        ((if b then x ∷ [] else []) ++ flush_from event_of drops
        (report_stays_after event_of drops flag x) q) ≡ 0
    by_flag true other more = rw (more, other)
    by_flag false other more = more

flush_for-none : (o : Option Query) (q : List Entry) → visible event_of q ≡ 0
    → visible event_of (flush_for event_of o q) ≡ 0
flush_for-none None q h = h
flush_for-none (Some query) q h =
    ap (visible event_of) (flush-walk event_of (is_part_of query) q) ∙ flush-none (is_part_of query) true q h

-- Own calls

-- the queue behind a client's own call that ends no frame
own_left : (d : Description) (past : List Step) (client : ℕ) (x : Step) → client_of x ≡ Some client
    → is_open_step x ≡ false → cuts_of_step d past x ≡ []
    → queue d (x ∷ past) client ≡ left_by_call d past x (queue d past client)
unfolding queue_with
own_left d past client x named unopened none =
    let q : List Entry = queue d past client in
    let called : is_call_of past client x ≡ true = rw (unopened, named) (eq-eqb client client refl) in
    rw (called, none)

-- a read ends no frame, and takes the first visible events, up to its count
pub read-leaves : (d : Description) (past : List Step) (client count : ℕ)
    → visible event_of (queue d (Read client count ∷ past) client)
    ≡ visible event_of (queue d past client) - min count (visible event_of (queue d past client))
unfolding raw_of_step cuts
read-leaves d past client count =
    let q : List Entry = queue d past client in
    ap (visible event_of) (own_left d past client (Read client count) refl refl refl)
    ∙ visible-drop (min count (visible event_of q)) q (omega arith)

-- a Discard ends no frame, and takes all visible events
pub discard-leaves : (d : Description) (past : List Step) (client : ℕ)
    → visible event_of (queue d (Discard client ∷ past) client) ≡ 0
unfolding raw_of_step cuts
discard-leaves d past client =
    let q : List Entry = queue d past client in
    let left : visible event_of (drop (visible event_of q) q) ≡ visible event_of q - visible event_of q =
    visible-drop (visible event_of q) q (omega arith) in
    ap (visible event_of) (own_left d past client (Discard client) refl refl refl)
    ∙ omega (arith, left)

-- the step leaves nothing visible to the client where nothing was
abbrev pub IsQuiet : Description → ℕ → Step → Type 0
IsQuiet d client x =
    (past : List Step) → visible event_of (queue d past client) ≡ 0
    → visible event_of (queue d (x ∷ past) client) ≡ 0

quiet-query : (d : Description) (client : ℕ) (x : Step)
    → ((past : List Step) → queue d (x ∷ past) client ≡ flush_for event_of (query_of x) (queue d past client))
    → IsQuiet d client x
quiet-query d client x left = λ past h. ap (visible event_of) (left past)
    ∙ flush_for-none (query_of x) (queue d past client) h

-- a query ends no frame and only removes events, so none becomes visible: for the keys
pub quiet-keys : (d : Description) (client : ℕ) → IsQuiet d client (GetKeys client)
unfolding raw_of_step cuts
quiet-keys d client =
    quiet-query d client (GetKeys client) (λ past. own_left d past client (GetKeys client) refl refl refl)

-- for the slots
pub quiet-slots : (d : Description) (client : ℕ) → IsQuiet d client (SyncSlots client)
unfolding raw_of_step cuts
quiet-slots d client =
    quiet-query d client (SyncSlots client) (λ past. own_left d past client (SyncSlots client) refl refl refl)
