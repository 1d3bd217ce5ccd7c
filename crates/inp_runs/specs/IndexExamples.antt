-- Which event of its client a job took last, on a short sight that was worked out by hand (docs/RUNS.md, "What a sight
-- tells of the device").
use Rattle.std.specs.Prelude.{◌+◌, ◌≡◌, List, [], ◌∷◌, ◌++◌, length, take, Some, None}
use Rattle.inp_model.specs.declared.taken.Taken.{Taken}
use Rattle.inp_model.specs.declared.step.Step.{Step}
use Rattle.inp_model.specs.declared.step.Step.TheVariants.{Open, Read, Grab}
use Rattle.inp_model.specs.declared.reply.Reply.TheVariants.{Done, Opened, Took as TookSoMany, Refused}
use Rattle.inp_model.specs.declared.reply.Refusal.TheVariants.{NoDevice}
use Rattle.inp_model.specs.Description.{Description}
use Rattle.inp_model.specs.Past.{past_at}
use Rattle.inp_model.specs.Queue.{took}
use Rattle.inp_script.specs.declared.sight.Sight.{Sight}
use Rattle.inp_script.specs.declared.sight.Sight.TheVariants.{Call, Took}
use Rattle.inp_runs.specs.JobViews.{last_read, index_in_history}

-- A job opened client 2. Its read at place 7 gave three equal events, and its read at place 9 gave two more,
-- between which it took the grab.
abbrev pub two_reads : Taken → List Sight
two_reads t =
    Call Open (Opened 5 2 64) ∷ Call (Read 2 64) (TookSoMany 7 3) ∷ Took t ∷ Took t ∷ Took t
    ∷ Call (Read 2 64) (TookSoMany 9 2) ∷ Took t ∷ Call (Grab 2) (Done 10) ∷ Took t ∷ []

-- the events are counted from the last read on
abbrev pub CountsBehindTheLastRead : Type 0
CountsBehindTheLastRead =
    (t : Taken)
    → (last_read (take 3 (two_reads t)) ≡ Some (record { place = 7; events = 1 }))
    × (last_read (take 4 (two_reads t)) ≡ Some (record { place = 7; events = 2 }))
    × (last_read (take 7 (two_reads t)) ≡ Some (record { place = 9; events = 1 }))
    × (last_read (two_reads t) ≡ Some (record { place = 9; events = 2 }))

-- equal events have indices of their own
abbrev pub TellsEqualEventsApart : Type 0
TellsEqualEventsApart =
    (d : Description) (history : List Step) (t : Taken)
    → (index_in_history d history (take 3 (two_reads t)) ≡ Some (length (took d (past_at history 7) 2) + 0))
    × (index_in_history d history (take 4 (two_reads t)) ≡ Some (length (took d (past_at history 7) 2) + 1))
    × (index_in_history d history (take 7 (two_reads t)) ≡ Some (length (took d (past_at history 9) 2) + 0))
    × (index_in_history d history (two_reads t) ≡ Some (length (took d (past_at history 9) 2) + 1))

-- a read that was refused does not count, and after a second open the job has read nothing as its new client
abbrev pub CountsAcceptedReadsOfItsClient : Type 0
CountsAcceptedReadsOfItsClient =
    (t : Taken)
    → (last_read (two_reads t ++ Call (Read 2 64) (Refused 11 NoDevice) ∷ []) ≡ Some (record { place = 9; events = 2 }))
    × (last_read (two_reads t ++ Call Open (Opened 11 3 64) ∷ []) ≡ None)
