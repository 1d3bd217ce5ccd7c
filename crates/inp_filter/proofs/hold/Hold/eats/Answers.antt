-- An event about another key leaves the hold; one about the key starts it, goes on in it or ends it.
use Rattle.std.proofs.Common.{◌∙◌, sym, arith}
use Rattle.std.proofs.lemmas.Bool.Decides.{nat_tests}
use Rattle.inp_model.specs.Filter.{Given, is_on_key}
use Rattle.inp_filter.proofs.StandsAfterEvents.{last_press-other, last_press-on}
use Rattle.inp_filter.proofs.hold.Hold.eats.Goals.{then-is_press, else-is_press}
use Rattle.inp_filter.proofs.hold.Hold.eats.Goals as goal

pub returns-then-not-is_on_key-clause-stands : goal.returns-then-not-is_on_key-clause-stands
returns-then-not-is_on_key-clause-stands c = λ code test moment eaten given h starts.
    let g : Given = record { event = c.args.event; moment = moment; eaten = eaten } in
    let on = rw (c.is_on_key.ensures, h.code_is) at c.if-not-is_on_key.true in
    record { code_is = h.code_is; eaten = h.eaten ∙ sym (last_press-other code test g given on) }

pub returns-clause-stands : goal.returns-clause-stands
returns-clause-stands c = λ code test moment eaten given h starts.
    let g : Given = record { event = c.args.event; moment = moment; eaten = eaten } in
    let on = rw (c.is_on_key.ensures, h.code_is) at c.if-not-is_on_key.false in
    let after = last_press-on code test g given on in
    record {
      code_is = elim c.if-is_press.branch [
        | then-is_press w ↦ rw w.self-is h.code_is
        | else-is_press w ↦ rw w.self-is h.code_is
      ];
      eaten = grind (arith, nat_tests);
    }
