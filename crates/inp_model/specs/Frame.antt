-- The frames that the steps of a past end (docs/RULES.md, "Frames").
use Rattle.std.specs.Prelude.{ℕ, List, [], ◌∷◌, ◌++◌, length, map}
use Rattle.inp_model.specs.declared.step.Step.{Step}
use Rattle.inp_model.specs.Description.{Description}
use Rattle.inp_model.specs.Step.{moment_of}
use Rattle.inp_model.specs.RawItem.{Cut, Frame}
use Rattle.inp_model.specs.Cut.{cuts}
use Rattle.inp_model.specs.Raw.{raw_of_step, raw}

-- the place of the step that ended it
abbrev pub place : Frame → ℕ
place f = length f.before

-- the moment of that step
abbrev pub moment : Frame → ℕ
moment f = moment_of f.step

-- the cuts that a step makes
abbrev pub cuts_of_step : Description → List Step → Step → List Cut
cuts_of_step d past x = cuts d (raw d past) (raw_of_step d past x)

-- a cut of a step after this past
abbrev pub frame_of : List Step → Step → Cut → Frame
frame_of past x cut = record { cut = cut; before = past; step = x }

-- the frames that a step ends
abbrev pub frames_of_step : Description → List Step → Step → List Frame
frames_of_step d past x = map (frame_of past x) (cuts_of_step d past x)

-- all frames of a past, oldest first
unfoldable pub frames : Description → List Step → List Frame
frames d [] = []
frames d (x ∷ past) = frames d past ++ frames_of_step d past x
