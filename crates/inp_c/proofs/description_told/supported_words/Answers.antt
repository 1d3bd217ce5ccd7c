use Rattle.std.proofs.Common.{ℕ, ◌*◌}
use Rattle.inp_model.specs.Reply.{bitmap_word}
use Rattle.inp_c.specs.DescriptionTold.{is_supported}
use Rattle.inp_c.proofs.Digits.{none_filled, more_filled, all_filled}
use Rattle.inp_c.proofs.description_told.supported_words.Goals as goal

-- before the first word all twelve are 0
pub loop-index-init : goal.loop-index-init
loop-index-init c = none_filled (λ (k : ℕ). bitmap_word (is_supported c.args.caps.now c.args.kind) (64 * k))

-- the word at the index is the one of its 64 codes
pub loop-index-preserved : goal.loop-index-preserved
loop-index-preserved c =
    more_filled (λ (k : ℕ). bitmap_word (is_supported c.args.caps.now c.args.kind) (64 * k))
    c.loop-index.index c.loop-index.words c.supported_word.result
    c.loop-index-test.true c.supported_word.ensures c.loop-index.invariant

-- all twelve words are set
pub returns : goal.returns
returns c =
    all_filled (λ (k : ℕ). bitmap_word (is_supported c.args.caps.now c.args.kind) (64 * k)) c.loop-index.index
    c.loop-index.words
    c.loop-index-test.false c.loop-index.invariant
