-- The number of each cause for which a line of a record is refused.
use Rattle.std.specs.Prelude.{ℕ}
use Rattle.inp_caps.specs.declared.caps_refused.CapsRefused.{CapsRefused}
use Rattle.inp_caps.specs.declared.caps_refused.CapsRefused.TheVariants.{BadCode, BadAxis, BadSlots, BadHint, BadLog, BadOffset, BadFilter}
use Rattle.inp_record.specs.declared.cause.Cause.{Cause}
use Rattle.inp_record.specs.declared.cause.Cause.TheVariants.{NotText, BadHeader, BadLine, OutOfPlace, NoActor, BadCommand, BadWord, Twice, TooMany, Caps, BadStream}

abbrev pub caps_number : CapsRefused → ℕ
caps_number BadCode = 10
caps_number BadAxis = 11
caps_number BadSlots = 12
caps_number BadHint = 13
caps_number BadLog = 14
caps_number BadOffset = 15
caps_number BadFilter = 16

abbrev pub cause_number : Cause → ℕ
cause_number NotText = 1
cause_number BadHeader = 2
cause_number BadLine = 3
cause_number OutOfPlace = 4
cause_number NoActor = 5
cause_number BadCommand = 6
cause_number BadWord = 7
cause_number Twice = 8
cause_number TooMany = 9
cause_number (Caps why) = caps_number why
cause_number BadStream = 17
