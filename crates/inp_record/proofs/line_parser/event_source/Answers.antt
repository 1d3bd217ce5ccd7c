use Rattle.std.proofs.Common.{◌≡◌, ℕ, Bor, List, length, false, true, bytes_eq, codes, arith}
use Rattle.std.proofs.lemmas.List.{length-map}
use Rattle.inp_codes.specs.ByNumber.{texts}
use Rattle.inp_record.specs.Place.{is_first_place}
use Rattle.inp_record.specs.Words.{word}
use Rattle.inp_record.proofs.EventLines.{event_line}
use Rattle.inp_record.proofs.line_parser.event_source.Goals as goal

pub returns-in-Some-default-Source-clause-item : goal.returns-in-Some-default-Source-clause-item
returns-in-Some-default-Source-clause-item c =
    let ws = texts c.args.words.now in
    let first : is_first_place c.args.context.now.place ≡ false = grind arith in
    let text : Bor (List ℕ) → List ℕ = λ w. w.now in
    let count : length ws ≡ 7 = omega (arith, length-map c.args.words.now text) in
    let does : bytes_eq (word 0 ws) (codes "do") ≡ true = grind arith in
    let event : bytes_eq (word 2 ws) (codes "event") ≡ true = grind arith in
    event_line c.args.context.now ws c.in-Some-default-Source.source first count does event (grind arith)
