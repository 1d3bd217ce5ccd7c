-- How the progress of a line that hands out events is kept.
use Rattle.std.specs.Prelude.{◌≡◌, ◌^◌, ◌<◌}
use Rattle.inp_script.specs.declared.role.client.Progress.{Progress}
use Rattle.inp_script.specs.declared.role.client.Turn.{Turn as KeptTurn}
use Rattle.inp_script.specs.declared.role.client.Turn.TheVariants.{GoesOn, Ends}
use Rattle.inp_script.specs.Client.{LineProgress, Turn, goes_on, ends_with}
use Rattle.inp_script.specs.Job.{Job}

abbrev pub going : Progress → Job → LineProgress
going progress j = record { job = j; left = progress.left; agains = progress.agains }

abbrev pub turn_of : KeptTurn → Job → Turn
turn_of (GoesOn progress) j = goes_on (going progress j)
turn_of Ends j = ends_with j

-- the count of answers Again is one of 32 bits
abbrev pub IsPatient : KeptTurn → Type 0
IsPatient (GoesOn progress) = progress.agains < 2 ^ 32
IsPatient Ends = Unit {0}

-- a line that goes on counts answers Again anew
abbrev pub IsAnew : KeptTurn → Type 0
IsAnew (GoesOn progress) = progress.agains ≡ 0
IsAnew Ends = Unit {0}
