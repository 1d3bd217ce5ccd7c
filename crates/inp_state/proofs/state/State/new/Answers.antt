use Rattle.std.proofs.Common.{false, refl}
use Rattle.inp_model.specs.State.{key_down, turned_on, axis_info, axis_value, repeat_setting}
use Rattle.inp_model.proofs.Descriptions.{get_or-replicate_same}
use Rattle.inp_state.proofs.state.State.new.Goals as goal

pub returns : goal.returns
unfolding key_down turned_on axis_info axis_value repeat_setting
returns c = record {
  fresh = record {
    keys = λ k. rw c.new.ensures.all_false (get_or-replicate_same 768 k false);
    switches = λ k. rw c.new-2.ensures.all_false (get_or-replicate_same 64 k false);
    leds = λ k. rw c.new-3.ensures.all_false (get_or-replicate_same 64 k false);
    sounds = λ k. rw c.new-4.ensures.all_false (get_or-replicate_same 64 k false);
    axes = c.described_values.ensures;
    infos = c.descriptions.ensures;
    delay = refl;
    period = refl;
  };
}
