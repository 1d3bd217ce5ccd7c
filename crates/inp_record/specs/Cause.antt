-- Causes as they are printed (docs/FORMATS.md, "Causes").
use Rattle.std.specs.Prelude.{ℕ, List, codes}
use Rattle.inp_caps.specs.declared.caps_refused.CapsRefused.TheVariants.{BadCode, BadAxis, BadSlots, BadHint, BadLog, BadOffset, BadFilter}
use Rattle.inp_record.specs.declared.cause.Cause.{Cause}
use Rattle.inp_record.specs.declared.cause.Cause.TheVariants.{NotText, BadHeader, BadLine, OutOfPlace, NoActor, BadCommand, BadWord, Twice, TooMany, Caps, BadStream}

abbrev pub cause_text : Cause → List ℕ
cause_text NotText = codes "not-text"
cause_text BadHeader = codes "bad-header"
cause_text BadLine = codes "bad-line"
cause_text OutOfPlace = codes "out-of-place"
cause_text NoActor = codes "no-actor"
cause_text BadCommand = codes "bad-command"
cause_text BadWord = codes "bad-word"
cause_text Twice = codes "twice"
cause_text TooMany = codes "too-many"
cause_text (Caps BadCode) = codes "bad-code"
cause_text (Caps BadAxis) = codes "bad-axis"
cause_text (Caps BadSlots) = codes "bad-slots"
cause_text (Caps BadHint) = codes "bad-hint"
cause_text (Caps BadLog) = codes "bad-log"
cause_text (Caps BadOffset) = codes "bad-offset"
cause_text (Caps BadFilter) = codes "bad-filter"
cause_text BadStream = codes "bad-stream"
