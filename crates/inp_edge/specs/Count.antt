-- Counts of 64 bits, which rise and never fall.
use Rattle.std.specs.Prelude.{ℕ, ◌+◌, ◌-◌, ◌^◌, ◌<◌, min, Bool, if◌then◌else◌}

-- the greatest `u64`, at which a count stays
abbrev pub LAST : ℕ
LAST = 2 ^ 64 - 1

-- the count rose, or stood at its end before, where no call can raise it
abbrev pub RoseUnlessSaturated : ℕ → ℕ → Type 0
RoseUnlessSaturated before after = before < LAST → before < after

-- a count after a call that was at fault or was not
abbrev pub faults_after : ℕ → Bool → ℕ
faults_after before at_fault = if at_fault then min (before + 1) LAST else before
