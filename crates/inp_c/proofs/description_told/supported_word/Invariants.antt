use Rattle.std.proofs.Common.{◌≡◌, ◌+◌, ◌-◌}
use Rattle.inp_c.specs.DescriptionTold.{is_supported}
use Rattle.inp_c.proofs.Digits.{number_from}
use Rattle.inp_c.proofs.description_told.supported_word.Given as goal

-- the word has the digits that were passed, of which the last one is the lowest
abbrev pub invariant-loop-passed : goal.invariant-loop-passed
invariant-loop-passed l =
    l.word ≡ number_from (λ k. is_supported l.caps l.kind (l.start + k)) (64 - l.passed) l.passed
