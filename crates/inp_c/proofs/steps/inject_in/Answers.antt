use Rattle.std.proofs.Common.{ap, ◌∙◌, sym, refl, inl, Some}
use Rattle.inp_model.specs.declared.step.Step.TheVariants.{Inject}
use Rattle.inp_model.specs.Reply.{answer}
use Rattle.inp_feedback.specs.UEntry.{steps_in}
use Rattle.inp_c.proofs.Injected.{one_step}
use Rattle.inp_c.proofs.steps.inject_in.Goals as goal

-- the event is injected by the call for many, which is a step of the kept device
pub returns-clause-made : goal.returns-clause-made
returns-clause-made c = λ _.
    let old = c.in-Device.device in
    let new = c.inject-injected.new.self in
    let i = c.inject-injected.result in
    let s = c.inject-injected.ensures in
    let one =
    one_step old.udev.description old.udev.kept new.udev.kept c.args.event c.args.now i.from i.count s.from
    s.count s.kept in
    record {
      old = old;
      new = new;
      given = answer old.udev.description (steps_in old.udev.kept) (Inject c.args.event c.args.now);
      was = ap Some c.in-Device.is;
      is = refl;
      answered = record {
        exact = inl refl;
        kept = one.enters;
        description = s.description;
        agains = s.agains ∙ sym (one.stays old.udev.agains);
        reader = s.reader;
        joy = s.joy;
      };
      place = one.place;
      cause = c.inject_cause.ensures ∙ one.cause;
    }
