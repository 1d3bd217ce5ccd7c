-- How replies are written (docs/FORMATS.md, "Steps and replies").
use Rattle.std.specs.Prelude.{ℕ, List, ◌++◌, codes, decimal, Option, Some}
use Rattle.std.specs.Fmt.{signed_decimal}
use Rattle.inp_model.specs.declared.event.TheConstants.{EV_SYN}
use Rattle.inp_model.specs.declared.step.Step.{Step}
use Rattle.inp_model.specs.declared.reply.Reply.{Reply}
use Rattle.inp_model.specs.declared.reply.Reply.TheVariants.{Done, Opened, Took as Taking, Discarded, Bits, Axis, Cells, Again as Nothing, Refused}
use Rattle.inp_model.specs.Step.{Query, Codes, query_of}
use Rattle.inp_recon.specs.View.{key_count, bits_in}
use Rattle.inp_report.specs.Words.{flags_text, axis_numbers, refusal_text}

-- the type whose codes a query tells, EV_SYN for none
abbrev pub query_kind : Option Query → ℕ
query_kind (Some (Codes kind)) = kind
query_kind _ = EV_SYN

-- the reply to a step; of 768 bits it tells the codes whose bits are set
unfoldable pub reply_text : Step → Reply → List ℕ
reply_text x (Done at) = codes "done " ++ decimal at
reply_text x (Opened at client places) = codes "opened " ++ (decimal at ++ (codes " " ++ (decimal client ++ (codes " " ++ decimal places))))
reply_text x (Taking at count) = codes "took " ++ (decimal at ++ (codes " " ++ decimal count))
reply_text x (Discarded at count) = codes "discarded " ++ (decimal at ++ (codes " " ++ decimal count))
reply_text x (Bits at words) = codes "bits " ++ (decimal at ++ flags_text (query_kind (query_of x)) (bits_in key_count words))
reply_text x (Axis at axis) = codes "axis " ++ (decimal at ++ axis_numbers axis)
reply_text x (Cells at count slot) = codes "cells " ++ (decimal at ++ (codes " " ++ (decimal count ++ (codes " " ++ signed_decimal slot))))
reply_text x (Nothing at ends) = codes "again " ++ decimal at
reply_text x (Refused at why) = codes "refused " ++ (decimal at ++ (codes " " ++ refusal_text why))
