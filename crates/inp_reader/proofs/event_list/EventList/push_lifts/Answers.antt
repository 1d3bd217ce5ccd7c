use Rattle.std.proofs.Common.{rules, ◌≡◌, ◌∙◌, arith, false, true}
use Rattle.inp_reader.specs.Synthesis.{is_replaced, lift}
use Rattle.inp_reader.proofs.SynthesisedEvents.{IsWalked-skip, IsWalked-next}
use Rattle.inp_reader.proofs.event_list.EventList.push_lifts.Goals as goal

pub loop-slot-preserved-then-not-is_replaced : goal.loop-slot-preserved-then-not-is_replaced
loop-slot-preserved-then-not-is_replaced c =
    let no : is_replaced c.args.old.now c.args.new.now c.loop-slot.slot ≡ false = search rules in
    record {
      walked = IsWalked-skip c.loop-slot.invariant.walked no;
      room = c.loop-slot.invariant.room;
      few = omega (arith, c.loop-slot.invariant.few);
    }

-- a slot with another contact is made the current one where it is not, and adds the end
pub loop-slot-preserved : goal.loop-slot-preserved
loop-slot-preserved c =
    let is : is_replaced c.args.old.now c.args.new.now c.loop-slot.slot ≡ true = search rules in
    record {
      walked =
          IsWalked-next c.loop-slot.invariant.walked is c.event_of_slot-this.ensures
          c.push_to_slot.ensures.pushed
          (rw (c.push.ensures.pushed, c.lift.ensures));
      room = c.push.ensures.room ∙ c.push_to_slot.ensures.room ∙ c.loop-slot.invariant.room;
      few = omega (arith, c.loop-slot.invariant.few, c.push_to_slot.ensures.few, c.push.ensures.few);
    }
