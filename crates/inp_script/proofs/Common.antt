-- What most proofs of lines and jobs speak of, here and in the crates above: where each word is from is said
-- once.
pub use Rattle.inp_model.specs.Description.{Description, IsDescription}
pub use Rattle.inp_model.specs.Evdev.{BeginsWith, EvdevView, IsCall, is_again}
pub use Rattle.inp_model.specs.Event.{is_report}
unfoldable pub use Rattle.inp_model.specs.Leaves.{AreCalls}
pub use Rattle.inp_model.specs.Past.{past_at}
pub use Rattle.inp_model.specs.Reply.{Answer, IsAnswer, accepted, answer, answer_by, is_accepted, past_after}
pub use Rattle.inp_model.specs.Run.{Call, HasPlace, IsLegalFrom, place_of}
pub use Rattle.inp_model.specs.declared.event.Event.{Event}
pub use Rattle.inp_model.specs.declared.reply.Reply.{Reply}
pub use Rattle.inp_model.specs.declared.reply.Reply.TheVariants.{Refused}
pub use Rattle.inp_model.specs.declared.stamped.Stamped.{Stamped}
pub use Rattle.inp_model.specs.declared.step.Step.{Step}
pub use Rattle.inp_model.specs.declared.taken.Taken.{Taken}
pub use Rattle.inp_actors.specs.Command.{feedback_room, is_command_of, is_owner}
pub use Rattle.inp_actors.specs.Record.{IsRecord, RecordView}
pub use Rattle.inp_actors.specs.declared.actor_text.ActorText.{ActorText}
pub use Rattle.inp_actors.specs.declared.command.Command.{Command}
pub use Rattle.inp_actors.specs.declared.device_text.DeviceText.{DeviceText}
pub use Rattle.inp_actors.specs.declared.line.Line.{Line}
pub use Rattle.inp_actors.specs.declared.role.Role.{Role}
pub use Rattle.inp_actors.specs.declared.role.Role.TheVariants.{Client, Joy, Owner, Source, Tap}
pub use Rattle.inp_feedback.specs.UEntry.{step_made, steps_in}
pub use Rattle.inp_feedback.specs.declared.fed.TheConstants.{FEEDBACK_MAX}
pub use Rattle.inp_feedback.specs.declared.u_entry.UEntry.{UEntry}
pub use Rattle.inp_recon.specs.declared.view.View.{View}
unfoldable pub use Rattle.inp_reader.specs.Effort.{effort}
pub use Rattle.inp_reader.specs.Reader.{ReaderState, next_talk, start_talk, stop_of}
pub use Rattle.inp_reader.specs.Talk.{EndsWith, Talk, and_then, ask, finish}
unfoldable pub use Rattle.inp_reader.specs.Talk.{LeadsTo, talk_with}
pub use Rattle.inp_reader.specs.declared.call_made.CallMade.{CallMade}
pub use Rattle.inp_reader.specs.declared.mode.Mode.{Mode}
pub use Rattle.inp_reader.specs.declared.next.Next.{Next}
pub use Rattle.inp_reader.specs.declared.next.Next.TheVariants.{Dropped, Success}
pub use Rattle.inp_reader.specs.declared.phase.Phase.{Phase}
pub use Rattle.inp_reader.specs.declared.phase.Phase.TheVariants.{Plain}
pub use Rattle.inp_reader.specs.declared.reader.TheConstants.{NO_CLIENT}
pub use Rattle.inp_reader.specs.declared.started.Started.{Started}
pub use Rattle.inp_joy.specs.Joy.{JoyAnswer, JoystickState}
unfoldable pub use Rattle.inp_joy.specs.Joy.{joy_start, turns}
pub use Rattle.inp_joy.specs.declared.joy_read.JoyRead.{JoyRead}
pub use Rattle.inp_joy.specs.declared.joy_record.JoyRecord.{JoyRecord}
pub use Rattle.inp_script.specs.Client.{LineProgress, after_next, mode_of, turn_after, with_sight}
unfoldable pub use Rattle.inp_script.specs.Client.{next_round, start_job}
pub use Rattle.inp_script.specs.DoneLine.{Begins, BeginsLine, DoesLine, HasActor, Holds}
pub use Rattle.inp_script.specs.DoneLine.{IsCommandFor, command_talk, inject_talk, unless_stopped}
unfoldable pub use Rattle.inp_script.specs.DoneLine.{line_talk}
pub use Rattle.inp_script.specs.Effort.{total_effort}
pub use Rattle.inp_script.specs.Ended.{ended_of, played_of}
pub use Rattle.inp_script.specs.Job.{ActorView, Job, Stick, first_job, joying_of, no_stick}
pub use Rattle.inp_script.specs.Joystick.{Reach, after_joy_answer, after_joy_read, after_joy_start}
pub use Rattle.inp_script.specs.Joystick.{after_turns, handed_out, joystick_talk, line_ends, on_reach}
pub use Rattle.inp_script.specs.Joystick.{record_sight}
unfoldable pub use Rattle.inp_script.specs.Joystick.{read_on, read_records, start_joystick}
pub use Rattle.inp_script.specs.Legal.{LeavesOut, is_call_entry, sight_of_calls}
pub use Rattle.inp_script.specs.Line.{after_call, after_tap_call, call_if, call_talk, end_talk, step_of}
pub use Rattle.inp_script.specs.Line.{tap_call_if}
unfoldable pub use Rattle.inp_script.specs.Line.{stream_talk}
pub use Rattle.inp_script.specs.Notes.{IsStepMade, count_taken, job_of, job_with, joy_job}
pub use Rattle.inp_script.specs.Progress.{going, turn_of}
pub use Rattle.inp_script.specs.RoleState.{job_in, role_of, stick_of}
pub use Rattle.inp_script.specs.Sight.{again_sight, call_sight, lacks_memory, made_sight, noted}
pub use Rattle.inp_script.specs.Sight.{stop_after, stop_after_start}
pub use Rattle.inp_script.specs.Sight.{taken_sight}
pub use Rattle.inp_script.specs.declared.notes.Notes.{Notes}
pub use Rattle.inp_script.specs.declared.role.state.RoleState.{RoleState}
pub use Rattle.inp_script.specs.declared.sight.Sight.{Sight}
pub use Rattle.inp_script.specs.declared.stop.Stop.{Stop}
pub use Rattle.inp_script.specs.declared.waiting.Waiting.{Waiting}
