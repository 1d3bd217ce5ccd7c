use Rattle.std.proofs.Common.{ℕ, ◌*◌}
use Rattle.inp_model.specs.Reply.{bitmap_word}
use Rattle.inp_c.specs.DescriptionTold.{is_supported}
use Rattle.inp_c.proofs.Digits.{AreFilled}
use Rattle.inp_c.proofs.description_told.supported_words.Given as goal

-- the words below the index are those of the description
abbrev pub invariant-loop-index : goal.invariant-loop-index
invariant-loop-index l =
    AreFilled (λ (k : ℕ). bitmap_word (is_supported l.caps l.kind) (64 * k)) l.index l.words
