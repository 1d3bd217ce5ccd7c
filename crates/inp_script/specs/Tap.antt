-- How a tap's parts are kept, and what one of its calls leaves.
use Rattle.std.specs.Prelude.{◌≡◌, ◌*◌, ◌≤◌, List, [], length, take, vec_len}
use Rattle.inp_model.specs.declared.multi_touch.TheConstants.{SLOT_VALUES}
use Rattle.inp_model.specs.declared.taken.Taken.{Taken}
use Rattle.inp_model.specs.declared.step.Step.{Step}
use Rattle.inp_model.specs.declared.reply.Reply.{Reply}
use Rattle.inp_model.specs.Description.{Description}
use Rattle.inp_model.specs.Evdev.{EvdevView, IsCall}
use Rattle.inp_model.specs.Reply.{Answer}
use Rattle.inp_actors.specs.declared.command.TheConstants.{READ_MAX}
use Rattle.inp_recon.specs.declared.view.View.{View}
use Rattle.inp_reader.specs.declared.phase.Phase.TheVariants.{Plain}
use Rattle.inp_reader.specs.Reader.{ReaderState}
use Rattle.inp_script.specs.declared.role.tap.Tap.{Tap}
use Rattle.inp_script.specs.Line.{view_after_call}
use Rattle.inp_script.specs.Notes.{count_taken}

abbrev pub tap_reading : Tap → ReaderState
tap_reading t = record { client = t.client; queue = []; view = t.view; phase = Plain; left = [] }

-- the view and the buffers have room for whatever is read or asked for
pub record IsSizedTap (d : Description) (t : Tap) : Type 0 where
  pub view : length t.view.cells ≡ SLOT_VALUES * d.slots
  pub buffer : vec_len t.buffer ≡ READ_MAX
  pub cells : vec_len t.cells ≡ SLOT_VALUES * d.slots

-- A call was made, and a view was set by its answer and by the events that it read, which stand at the front of the
-- buffer.
pub record IsTapCall (before after : EvdevView) (x : Step) (reply : Reply) (old new : View) (out : List Taken) : Type 0 where
  pub answer : Answer
  pub replied : reply ≡ answer.reply
  pub is_call : IsCall before after (record { step = x; answer = answer })
  pub view : new ≡ view_after_call old x answer
  pub events : take (count_taken reply) out ≡ answer.events
  pub few : count_taken reply ≤ length out
