-- The first events of a queue that are handed out in one go, what is left behind them, and what the reader is
-- then.
use Rattle.std.proofs.Common.{◌≡◌, ℕ, zero, suc, ◌+◌, ◌-◌, ◌<◌, ◌≤◌, List, [], ◌∷◌, ◌++◌, length, map, take}
use Rattle.std.proofs.Common.{drop, get_or, Bool, true, false, if◌then◌else◌, refl, sym, ap, ◌∙◌, arith}
use Rattle.std.proofs.Common.{append-nil, append_assoc, length-append, add-one}
use Rattle.std.proofs.Math.Bool.{or-false}
use Rattle.std.proofs.Math.Seq.{drop-cons, drop-length}
use Rattle.std.proofs.lemmas.List.{length-take-le, nil_from_length, take_at, take_more}
use Rattle.std.proofs.lemmas.Bool.{cond_both}
use Rattle.inp_model.specs.declared.taken.Taken.{Taken}
use Rattle.inp_recon.specs.declared.view.View.{View}
use Rattle.inp_recon.specs.Synchronised.{is_dropped}
use Rattle.inp_recon.specs.View.{view_after_events, view_after_event}
use Rattle.inp_reader.specs.declared.phase.Phase.{Phase}
use Rattle.inp_reader.specs.declared.phase.Phase.TheVariants.{Needed}
use Rattle.inp_reader.specs.Reader.{ReaderState, first_run, has_loss, is_plain_phase, queued_run, after_run}
use Rattle.std.specs.List.{All}
use Rattle.std.proofs.lemmas.List.Elements.{All-head, All-tail, All-same}
use Rattle.inp_model.specs.declared.step.Step.{Step}
use Rattle.inp_model.specs.Description.{Description}
use Rattle.inp_reader.specs.Spare.{IsSpare, HasSpare}
use Rattle.inp_reader.specs.ReaderPlace.{StandsAt, is_needed}
use Rattle.inp_reader.proofs.StandsAfterTalks.{in-step-handed}
use Rattle.inp_reader.proofs.Supported.{IsTakenOf}
use Rattle.inp_reader.proofs.SpareAgrees.{IsSpare-after_event}

-- the run is a front part of its queue, and behind it stands the rest
pub run-front : (most : ℕ) (q : List Taken) → first_run most q ++ drop (length (first_run most q)) q ≡ q
unfolding first_run
run-front zero q = refl
run-front (suc most) [] = refl
run-front (suc most) (t ∷ q) =
    cond_both (is_dropped t.event) [] (first_run most q)
    (λ more. (t ∷ more) ++ drop (length (t ∷ more)) (t ∷ q) ≡ t ∷ q)
    (λ lost. refl) (λ kept. rw (run-front most q))

-- what is left of a run from an item on
run_from : (most i : ℕ) (q : List Taken) (default : Taken) → i < most → i < length q
    → first_run (most - i) (drop i q)
    ≡ get_or q i default
    ∷ (if is_dropped (get_or q i default).event then [] else first_run (most - (i + 1)) (drop (i + 1) q))
unfolding first_run
run_from most i q default few within =
    let n : most - i ≡ suc (most - (i + 1)) = omega (arith, few) in
    let front : drop i q ≡ get_or q i default ∷ drop (i + 1) q =
    rw (drop-cons q i default within, ← add-one) in
    rw (n, front)

if_lost : (b : Bool) (t : Taken) (more : List Taken) → b ≡ true → t ∷ (if b then [] else more) ≡ t ∷ []
if_lost b t more h = rw h

if_kept : (b : Bool) (t : Taken) (more : List Taken) → b ≡ false → t ∷ (if b then [] else more) ≡ t ∷ more
if_kept b t more h = rw h

-- a run grows by an event that tells of no loss
pub run-more : (most i : ℕ) (q : List Taken) (default : Taken) → i < most → i < length q
    → is_dropped (get_or q i default).event ≡ false
    → first_run most q ≡ take i q ++ first_run (most - i) (drop i q)
    → first_run most q ≡ take (i + 1) q ++ first_run (most - (i + 1)) (drop (i + 1) q)
run-more most i q default few within kept is =
    let t : Taken = get_or q i default in
    let more : List Taken = first_run (most - (i + 1)) (drop (i + 1) q) in
    rw (
      is,
      run_from most i q default few within,
      if_kept (is_dropped t.event) t more kept,
      ← append_assoc (take i q) (t ∷ []) more,
      ← take_more q i default within,
    )

-- a run ends with a loss
pub run-lost : (most i : ℕ) (q : List Taken) (default : Taken) → i < most → i < length q
    → is_dropped (get_or q i default).event ≡ true
    → first_run most q ≡ take i q ++ first_run (most - i) (drop i q) → take (i + 1) q ≡ first_run most q
run-lost most i q default few within lost is =
    let t : Taken = get_or q i default in
    rw (
      take_more q i default within,
      ← if_lost (is_dropped t.event) t (first_run (most - (i + 1)) (drop (i + 1) q)) lost,
      ← run_from most i q default few within,
    ) (sym is)

-- a run ends where nothing more may be handed out
pub run-full : (most i : ℕ) (q : List Taken) → i ≡ most
    → first_run most q ≡ take i q ++ first_run (most - i) (drop i q) → take i q ≡ first_run most q
unfolding first_run
run-full most i q e is =
    let none : most - i ≡ 0 = omega (arith, e) in
    sym (rw (is, none) (append-nil (take i q)))

of_nothing : (most : ℕ) → first_run most [] ≡ []
unfolding first_run
of_nothing zero = refl
of_nothing (suc most) = refl

-- and where nothing more is there
pub run-whole : (most i : ℕ) (q : List Taken) → i ≡ length q
    → first_run most q ≡ take i q ++ first_run (most - i) (drop i q) → take i q ≡ first_run most q
run-whole most i q e is =
    let none : drop i q ≡ [] = rw e (drop-length q) in
    sym (rw (is, none, of_nothing) (append-nil (take i q)))

-- a front part that is the run is as long as it
pub run-length : (most i : ℕ) (q : List Taken) → i ≤ length q → take i q ≡ first_run most q
    → i ≡ length (first_run most q)
run-length most i q within is = sym (length-take-le i q within) ∙ ap length is

-- what is known of an item by one number of its place is known by the other
pub at-index : (i j : ℕ) (q : List Taken) (default : Taken) (b : Bool) → i ≡ j
    → is_dropped (get_or q j default).event ≡ b → is_dropped (get_or q i default).event ≡ b
at-index i j q default b same is = rw same is

-- in phase Plain the run is that of the queue
pub plain-run : (most : ℕ) (r : ReaderState) → is_plain_phase r.phase ≡ true
    → queued_run most r ≡ first_run most r.queue
plain-run most r h = rw h

-- the run is a front part of the queue, or empty, and behind it stands the rest
pub queue-run : (most : ℕ) (r : ReaderState)
    → queued_run most r ++ drop (length (queued_run most r)) r.queue ≡ r.queue
queue-run most r =
    cond_both (is_plain_phase r.phase) (first_run most r.queue) []
    (λ run. run ++ drop (length run) r.queue ≡ r.queue)
    (λ plain. run-front most r.queue) (λ other. refl)

-- Where so many are queued, they are the first so many

-- the run is a front part of the queue, so the queue has as many events at least
pub few-queued : (count : ℕ) (r : ReaderState) → length (queued_run count r) ≡ count → count ≤ length r.queue
few-queued count r h =
    omega (
      arith,
      h,
      ap length (queue-run count r),
      length-append (queued_run count r) (drop (length (queued_run count r)) r.queue),
    )

-- the run is a front part of the queue, so the first events, as many, are the run
pub front-queued : (count : ℕ) (r : ReaderState) → length (queued_run count r) ≡ count
    → take count r.queue ≡ queued_run count r
front-queued count r h =
    rw queue-run at (take_at (queued_run count r) (drop (length (queued_run count r)) r.queue) count h)

-- and as many as are queued are queued again
run_again : (most : ℕ) (q : List Taken) → first_run (length (first_run most q)) q ≡ first_run most q
unfolding first_run
run_again zero q = refl
run_again (suc most) [] = refl
run_again (suc most) (t ∷ q) =
    cond_both (is_dropped t.event) [] (first_run most q)
    (λ more. first_run (length (t ∷ more)) (t ∷ q) ≡ t ∷ more)
    (λ lost. if_lost (is_dropped t.event) t (first_run 0 q) lost)
    (λ kept. rw (if_kept, run_again most q))

queued_again : (most : ℕ) (r : ReaderState) → queued_run (length (queued_run most r)) r ≡ queued_run most r
queued_again most r =
    cond_both (is_plain_phase r.phase) (first_run most r.queue) [] (λ run. queued_run (length run) r ≡ run)
    (λ plain. plain-run (length (first_run most r.queue)) r plain ∙ run_again most r.queue)
    (λ other. rw other)

-- where as many are asked for as the run has, the run is the same
pub queued-many : (most count : ℕ) (r : ReaderState) (run : List Taken) → run ≡ queued_run most r
    → count ≡ length run → queued_run count r ≡ queued_run most r
queued-many most count r run is many = rw (many, is) (queued_again most r)

-- The last event of a run alone may tell of a loss
last-loss : (most : ℕ) (q : List Taken) (last : ℕ) (default : Taken) → length (first_run most q) ≡ suc last
    → is_dropped (get_or (first_run most q) last default).event ≡ has_loss (first_run most q)
unfolding first_run
last-loss zero q last default = λ h. absurd (omega (arith, h))
last-loss (suc most) [] last default = λ h. absurd (omega (arith, h))
last-loss (suc most) (t ∷ q) last default =
    cond_both (is_dropped t.event) [] (first_run most q) (λ more. length (t ∷ more) ≡ suc last
    → is_dropped (get_or (t ∷ more) last default).event ≡ has_loss (t ∷ more))
    (λ lost. only last) (λ kept. behind kept (last-loss most q) last)
  where
    only : (i : ℕ) → length (t ∷ []) ≡ suc i
        → is_dropped (get_or (t ∷ []) i default).event ≡ has_loss (t ∷ [])
    only zero h = sym (or-false (is_dropped t.event))
    only (suc i) h = absurd (omega (arith, h))

    behind : is_dropped t.event ≡ false
        → ((i : ℕ) (d : Taken) → length (first_run most q) ≡ suc i
        → is_dropped (get_or (first_run most q) i d).event ≡ has_loss (first_run most q))
        → (i : ℕ) → length (t ∷ first_run most q) ≡ suc i
        → is_dropped (get_or (t ∷ first_run most q) i default).event ≡ has_loss (t ∷ first_run most q)
    behind kept ih zero h =
        let none : first_run most q ≡ [] = nil_from_length (first_run most q) (omega (arith, h)) in
        rw (none, or-false)
    behind kept ih (suc i) h = rw (kept, ← ih i default (omega (arith, h)))

queued_loss : (most : ℕ) (r : ReaderState) (last : ℕ) (default : Taken)
    → length (queued_run most r) ≡ suc last
    → is_dropped (get_or (queued_run most r) last default).event ≡ has_loss (queued_run most r)
queued_loss most r last default =
    cond_both (is_plain_phase r.phase) (first_run most r.queue) [] (λ run. length run ≡ suc last
    → is_dropped (get_or run last default).event ≡ has_loss run)
    (λ plain. last-loss most r.queue last default) (λ other h. absurd (omega (arith, h)))

-- a run goes no further than a loss, so its last event tells of one where any does
pub run-loss : (most : ℕ) (r : ReaderState) (run : List Taken) (last : ℕ) (default : Taken)
    → run ≡ queued_run most r → length run ≡ suc last
    → is_dropped (get_or run last default).event ≡ has_loss run
run-loss most r run last default is = rw is (queued_loss most r last default)

-- a reader that handed out the first of its queue, as many as are queued
pub run-taken : (count : ℕ) (r : ReaderState) (run queue : List Taken) (view : View) (lost : Bool)
    (phase : Phase) → length (queued_run count r) ≡ count → run ≡ queued_run count r
    → queue ≡ drop count r.queue → view ≡ view_after_events r.view (map (λ (t : Taken). t.event) run)
    → lost ≡ has_loss run → phase ≡ (if lost then Needed else r.phase)
    → record r { queue = queue; view = view; phase = phase } ≡ after_run r (queued_run count r)
run-taken count r run queue view lost phase many is rest taken loss goes =
    rw (← is, ← loss, ← goes, ← taken, is, many, ← rest)

-- its view keeps what its devices cannot have, and so will the rest of its queue
spare-run : (d : Description) (v : View) (run rest : List Taken)
    → All (IsTakenOf d) (run ++ rest) → IsSpare d v
    → IsSpare d (view_after_events v (map (λ (t : Taken). t.event) run)) × All (IsTakenOf d) rest
unfolding view_after_events
spare-run d v [] rest all h = (h, all)
spare-run d v (t ∷ run) rest all h =
    spare-run d (view_after_event v t.event) run rest (All-tail (IsTakenOf d) t (run ++ rest) all)
    (IsSpare-after_event d v t.event (All-head (IsTakenOf d) t (run ++ rest) all) h)

-- the events of the queue are the device's, so they set nothing that it cannot have
pub keeps-run : (d : Description) (most : ℕ) (r : ReaderState) → HasSpare d r
    → HasSpare d (after_run r (queued_run most r))
keeps-run d most r h =
    let run : List Taken = queued_run most r in
    let rest : List Taken = drop (length run) r.queue in
    let kept =
    spare-run d r.view run rest
    (All-same (IsTakenOf d) (run ++ rest) r.queue (queue-run most r) h.queue) h.view in
    record { view = kept.0; queue = kept.1 }

-- it stands where it stood
not_lost : (lost : Bool) (phase : Phase) → is_needed (if lost then Needed else phase) ≡ false
    → is_needed phase ≡ false
not_lost true phase h = absurd cc
not_lost false phase h = h

-- no step is made: the run goes from the queue to what was handed out
pub stands-run : (d : Description) (past : List Step) (most : ℕ) (r : ReaderState) → StandsAt d past r
    → StandsAt d past (after_run r (queued_run most r))
stands-run d past most r s =
    let run : List Taken = queued_run most r in
    record {
      history = s.history;
      opened = s.opened;
      in_step =
          λ e. in-step-handed (s.in_step (not_lost (has_loss run) r.phase e)) run (drop (length run) r.queue)
          (if has_loss run then Needed else r.phase) (sym (queue-run most r));
    }
