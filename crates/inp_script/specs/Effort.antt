-- How much a line that hands out events may still do, by which its loop ends: what its reader may still do,
-- and how often the line may wait.
use Rattle.std.specs.Prelude.{ℕ, suc, ◌+◌, ◌*◌, ◌-◌, ◌<◌, Option, Some, None}
use Rattle.inp_script.specs.declared.role.client.Turn.{Turn}
use Rattle.inp_script.specs.declared.role.client.Turn.TheVariants.{GoesOn, Ends}
use Rattle.inp_script.specs.declared.waiting.Waiting.{Waiting}

abbrev pub idle_of : Option Waiting → ℕ
idle_of None = 0
idle_of (Some waiting) = waiting.idle

-- falls with each answer of a reader, where so many answers Again came last
abbrev pub total_effort : Option Waiting → ℕ → ℕ → ℕ
total_effort wait effort agains = effort * suc (idle_of wait) + (idle_of wait - agains)

-- where a line goes on there is less to do than before
abbrev pub Shrinks : Option Waiting → ℕ → ℕ → Turn → Type 0
Shrinks wait before effort (GoesOn progress) = total_effort wait effort progress.agains < before
Shrinks wait before effort Ends = Unit {0}
