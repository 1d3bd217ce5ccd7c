-- A queue of entries, seen as the events that a client reads.
use Rattle.std.proofs.Common.{◌≡◌, ◌≤◌, ℕ, suc, Bool, true, false, if◌then◌else◌, nat_eq, List, [], ◌∷◌}
use Rattle.std.proofs.Common.{length, map, refl, sym, arith}
use Rattle.std.proofs.lemmas.Bool.Decides.{nat_tests}
use Rattle.inp_model.specs.declared.taken.Taken.{Taken}
use Rattle.inp_model.specs.Event.{is_report}
use Rattle.inp_model.specs.Queue as queue
use Rattle.inp_model.specs.Queue.{Entry, dropped_at, entry_dropped_at, put_all, visible}
use Rattle.inp_model.specs.Reply.{taken_of}
use Rattle.inp_client.specs.Read.{taken_event as event_of}
use Rattle.inp_client.proofs.OnClock.{visible-on, put_all-on}

-- which entries are put in follows from their events, and those are the same as a client reads them
pub put_all-map : (places : ℕ) (xs q : List Entry)
    → map taken_of (put_all queue.event_of entry_dropped_at places q xs)
    ≡ put_all event_of dropped_at places (map taken_of q) (map taken_of xs)
put_all-map places xs q = sym
    (put_all-on taken_of queue.event_of event_of (λ x. refl) entry_dropped_at dropped_at
    (λ x. refl) places q xs)

-- what can be seen follows from the events, and those are the same as a client reads them
pub visible-map : (q : List Entry) → visible event_of (map taken_of q) ≡ visible queue.event_of q
visible-map q = visible-on taken_of queue.event_of event_of (λ x. refl) q

-- no more is visible than there is
pub visible-le : (q : List Taken) → visible event_of q ≤ length q
visible-le [] = omega arith
visible-le (x ∷ q) = visible_step (visible event_of q) (length q) (is_report (event_of x)) (visible-le q)
  where
    visible_step : (behind n : ℕ) (report : Bool) → behind ≤ n
        → (if nat_eq behind 0 then (if report then 1 else 0) else suc behind) ≤ suc n
    visible_step behind n true h = grind (arith, nat_tests)
    visible_step behind n false h = grind (arith, nat_tests)
