use Rattle.std.proofs.Common.{List, get_or, pos, ap, sym, ◌∙◌, Some}
use Rattle.std.specs.Prelude.{slice_get}
use Rattle.std.proofs.lemmas.Option.{slice_get-get_or}
use Rattle.inp_model.specs.declared.step.Step.TheVariants.{Inject}
use Rattle.inp_model.specs.declared.reply.Reply.TheVariants.{Done}
use Rattle.inp_reader.specs.declared.call_made.CallMade.{CallMade}
use Rattle.inp_c.proofs.step_told.call_in.Goals as goal

-- what stands past the end of a list of calls
abbrev past_end : CallMade
past_end = record { step = Inject (record { kind = 0; code = 0; value = pos 0 }) 0; reply = Done 0 }

-- the call is the one of the reader's last calls at that index, with its step and reply
pub returns-clause-told : goal.returns-clause-told
returns-clause-told c = λ _. record {
  device = c.in-Device.device;
  call = get_or c.made-made.result.now c.args.index past_end;
  is = ap Some c.in-Device.is;
  there =
      ap (λ (l : List CallMade). slice_get l c.args.index) (sym c.made-made.ensures.made)
      ∙ slice_get-get_or c.made-made.result.now c.args.index past_end c.if-index-made.false;
  step_is = c.c_step.ensures;
  reply_is = c.tell_reply.ensures;
}
