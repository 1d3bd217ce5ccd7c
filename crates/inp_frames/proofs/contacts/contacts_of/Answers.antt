use Rattle.std.proofs.Common.{false, arith}
use Rattle.inp_model.proofs.Descriptions.{get_or-replicate_same}
use Rattle.std.proofs.lemmas.List.{length-replicate}
use Rattle.inp_frames.proofs.contacts.contacts_of.Goals as goal

pub loop-slot-init : goal.loop-slot-init
loop-slot-init c = record {
  long = rw c.new-contacts.ensures.all_false (length-replicate 256 false);
  before = λ k h. absurd (omega arith);
  behind = λ k h. rw c.new-contacts.ensures.all_false (get_or-replicate_same 256 k false);
}
