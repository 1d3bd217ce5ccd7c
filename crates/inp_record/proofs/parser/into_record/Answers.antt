use Rattle.std.proofs.Common.{◌≡◌, sym, ◌∙◌, arith, rules}
use Rattle.inp_record.specs.declared.place.Place.TheVariants.{Start}
use Rattle.inp_record.specs.Meaning.{record_of_context}
use Rattle.inp_record.proofs.LineByLine.{headless, headed}
use Rattle.inp_record.proofs.parser.into_record.Goals as goal

-- nothing was read, so there is no header
pub returns-then-eq : goal.returns-then-eq
returns-then-eq c = λ past e.
    let start : c.args.context.place ≡ Start = search rules in
    headless past c.args.line (sym (rw e) ∙ start)

-- something was read, and the record is made of what it left
pub returns-in-Ok : goal.returns-in-Ok
returns-in-Ok c = λ past e.
    let made : c.in-Ok.«record» ≡ record_of_context c.args.context = search rules in
    rw (
      headed past c.args.line (λ q. let start : c.args.context.place ≡ Start = rw e q in grind arith),
      ← e,
      ← made,
    )
