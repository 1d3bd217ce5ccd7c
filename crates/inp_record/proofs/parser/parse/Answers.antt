use Rattle.std.proofs.Common.{ℕ, length, Ok, subst, rules}
use Rattle.inp_texts.specs.Line.{lines_of}
use Rattle.inp_record.specs.Fault.{IsParsing}
use Rattle.inp_record.specs.Meaning.{as_record}
use Rattle.inp_record.proofs.Good.{IsRecord-read}
use Rattle.inp_record.proofs.LineByLine.{fault_parsed, meaning_read}
use Rattle.inp_record.proofs.parser.parse.Goals as goal

pub into_record-requires : goal.into_record-requires
into_record-requires c =
    let read = c.in-Ok.ensures in
    record { «record» = rw read.2 (IsRecord-read (lines_of c.args.text.now) read.0 c.requires.few read.1) }

-- all lines were read, and the text means the record of what they left
pub returns-in-Ok : goal.returns-in-Ok
returns-in-Ok c =
    let read = c.in-Ok.ensures in
    let counted : IsParsing c.into_record.result (as_record (length (lines_of c.args.text.now)) (Ok read.0)) =
    subst (λ (n : ℕ). IsParsing c.into_record.result (as_record n (Ok read.0))) read.3
    (c.into_record.ensures read.0 read.2) in
    record { meaning = rw (meaning_read c.args.text.now read.0 read.1) counted }

-- the fault of a line is the fault of the text
pub returns-in-Err : goal.returns-in-Err
returns-in-Err c = record { meaning = fault_parsed c.args.text.now c.in-Err.fault (search rules) }
