-- What a reader's client did since its start, on short histories that were worked out by hand.
use Rattle.std.specs.Prelude.{◌≡◌, pos, true, List, [], ◌∷◌, ◌++◌, take}
use Rattle.inp_model.specs.declared.step.Step.{Step}
use Rattle.inp_model.specs.declared.step.Step.TheVariants.{Open, Read, Discard, GetKeys, GetAxis}
use Rattle.inp_model.specs.Description.{Description, one_key}
use Rattle.inp_model.specs.examples.Frames.{key, report, at, stroke}
use Rattle.inp_recon.specs.View.{first_view, view_after_events}
use Rattle.inp_reader.specs.declared.mode.Mode.TheVariants.{Normal, Sync as Synchronising}
use Rattle.inp_reader.specs.Examples.{after_all, slider, slides}
use Rattle.inp_reader.specs.ReaderPlace.{calls_since, steps_of, taken_by_calls, view_after_answers, StandsAt}

-- what client 0 asked and read since its start
abbrev pub steps_since : Description → List Step → List Step
steps_since d past = steps_of (calls_since d past 0)

-- A reader started, a key went down, and the reader handed out the first event of that frame. Its client
-- asked for the keys and read once. The rest of what it read is the reader's queue, and the view is what both
-- made.
abbrev pub FollowsItsClient : Type 0
FollowsItsClient =
    let s = after_all one_key [] (stroke (pos 1) 0) (Normal ∷ []) in
    let calls = calls_since one_key s.past 0 in
    (steps_of calls ≡ GetKeys 0 ∷ Read 0 64 ∷ [])
    × (taken_by_calls calls ≡ at 3 0 (key (pos 1)) ∷ s.reading.queue)
    × (s.reading.queue ≡ at 3 0 report ∷ [])
    × (s.reading.view ≡ view_after_events (view_after_answers (first_view one_key) (take 1 calls)) (key (pos 1) ∷ []))

-- so it stands there
abbrev pub StandsAfterAFrame : Type 0
StandsAfterAFrame = let s = after_all one_key [] (stroke (pos 1) 0) (Normal ∷ []) in StandsAt one_key s.past s.reading

-- Steps of others change nothing of it, but those that use its client do.
abbrev pub SeesWhoUsesItsClient : Type 0
SeesWhoUsesItsClient =
    let past = (after_all one_key [] (stroke (pos 1) 0) (Normal ∷ [])).past in
    (steps_since one_key (stroke (pos 0) 0 ++ GetKeys 1 ∷ Open ∷ past) ≡ GetKeys 0 ∷ Read 0 64 ∷ [])
    × (steps_since one_key (Read 0 1 ∷ past) ≡ GetKeys 0 ∷ Read 0 64 ∷ Read 0 1 ∷ [])
    × (steps_since one_key (Discard 0 ∷ past) ≡ [])

-- after a loss the count begins anew with the synchronisation
abbrev pub BeginsAnewAfterALoss : Type 0
BeginsAnewAfterALoss =
    let s = after_all slider [] (slides 33 true) (Normal ∷ Synchronising ∷ []) in steps_since slider s.past ≡ GetAxis 0 0 ∷ []
