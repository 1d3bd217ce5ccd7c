-- What a reader answers, beside what it should mean.
use Rattle.std.specs.Prelude.{◌≡◌, ℕ, Result, Ok, Err}
use Rattle.inp_record.specs.declared.cause.Cause.{Cause}
use Rattle.inp_record.specs.declared.line_fault.LineFault.{LineFault}
use Rattle.inp_record.specs.declared.line_fault.LineFault.TheVariants as line
use Rattle.inp_record.specs.declared.refused.Refused.{Refused}
use Rattle.inp_record.specs.declared.refused.ParseFault.{ParseFault}
use Rattle.inp_record.specs.declared.refused.ParseFault.TheVariants as fault

-- the fault of a line, with its number
abbrev pub fault_at : ℕ → LineFault → ParseFault
fault_at number (line.Refused cause) = fault.Refused (record { line = number; cause = cause })
fault_at number line.NoMemory = fault.NoMemory

-- the result is this meaning or this cause, unless memory ran out
abbrev pub IsReading : {A : Type 0} → Result A LineFault → Result A Cause → Type 0
IsReading (Ok item) meaning = meaning ≡ Ok item
IsReading (Err (line.Refused cause)) meaning = meaning ≡ Err cause
IsReading (Err line.NoMemory) meaning = Unit {0}

-- the result is this record or this refused line, unless memory ran out
abbrev pub IsParsing : {A : Type 0} → Result A ParseFault → Result A Refused → Type 0
IsParsing (Ok found) meaning = meaning ≡ Ok found
IsParsing (Err (fault.Refused refused)) meaning = meaning ≡ Err refused
IsParsing (Err fault.NoMemory) meaning = Unit {0}
