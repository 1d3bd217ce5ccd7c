-- Lines of plain words, read by what their words mean.
use Rattle.std.proofs.Common.{◌≡◌, Ok, [], ◌∷◌, refl, ap}
use Rattle.inp_record.specs.canon.Words.{Words}
use Rattle.inp_record.proofs.PlainLines.{further_line, no_comment, line_printed, printed_text, words_kept}
use Rattle.inp_record.proofs.PlainLines.{IsPlainLine, line_of}
use Rattle.inp_record.specs.ItemsBefore.{ItemsBefore}
use Rattle.inp_record.specs.Meaning.{behind_words, behind_line}

-- a line of plain words means what its words mean
pub line_read : (past : ItemsBefore) (ws : Words) → IsPlainLine ws
    → behind_line past (line_of ws) ≡ behind_words past ws
unfolding behind_line
line_read past [] h = refl
line_read past (w ∷ ws) h =
    rw (
      no_comment w (further_line ws) h.first,
      printed_text (line_of (w ∷ ws)) (line_printed (w ∷ ws) h.plain),
    )
    (ap (behind_words past) (words_kept w ws h.plain))

-- an empty line means nothing
pub empty_read : (past : ItemsBefore) → behind_line past [] ≡ Ok past
unfolding behind_line
empty_read past = refl
