-- The words that most files of proofs here use, so that each says once where it comes from.
pub use Rattle.std.proofs.lemmas.Bool.{cases_lt, cond_both, eq-eqb, eqb-true, false_from_ne_true}
pub use Rattle.std.proofs.lemmas.Bool.{lt-ltb, true≢false}
pub use Rattle.std.proofs.lemmas.Bool.Decides.{nat_tests}
pub use Rattle.std.proofs.lemmas.List.{length-map, length-reverse, length-take, map-append, reverse-append}
pub use Rattle.std.proofs.lemmas.List.{take_all}
pub use Rattle.std.proofs.lemmas.List.Elements.{filter-append}
pub use Rattle.std.proofs.lemmas.Option.{get_or_from_slice_get, same_Some, slice_get-map, slice_get_within}
pub use Rattle.std.specs.List.{list_any, range_with_len, sum_by}
pub use Rattle.std.specs.Prelude.{Err, Ok, Result, filter, option_map, slice_set}
pub use Rattle.inp_model.specs.Description.{Description}
pub use Rattle.inp_model.specs.Evdev.{EvdevView, is_again}
pub use Rattle.inp_model.specs.History.{IsHistory}
pub use Rattle.inp_model.specs.Left.{eaten}
pub use Rattle.inp_model.specs.Past.{opens, past_at}
pub use Rattle.inp_model.specs.Reply.{Answer, IsAnswer, accepted, answer, answer_by, is_accepted, past_after}
pub use Rattle.inp_model.specs.Reply.{refused, taken_of}
pub use Rattle.inp_model.specs.Run.{Call, HasPlace, IsLegalFrom, IsLegalRun, next_place, place_of}
pub use Rattle.inp_model.specs.Step.{client_of, is_open_step}
pub use Rattle.inp_model.specs.declared.reply.Reply.{Reply}
pub use Rattle.inp_model.specs.declared.reply.Reply.TheVariants.{Opened, Refused}
pub use Rattle.inp_model.specs.declared.stamped.Stamped.{Stamped}
pub use Rattle.inp_model.specs.declared.step.Step.{Step}
pub use Rattle.inp_model.specs.declared.step.Step.TheVariants.{End, GetKeys, GetLeds, GetSwitches, Inject}
pub use Rattle.inp_model.specs.declared.taken.Taken.{Taken}
pub use Rattle.inp_actors.specs.Command.{feedback_room, is_command_of, is_joy, is_owner}
pub use Rattle.inp_actors.specs.Record.{IsRecord, RecordView}
pub use Rattle.inp_actors.specs.declared.actor_text.ActorText.{ActorText}
pub use Rattle.inp_actors.specs.declared.command.Command.{Command}
pub use Rattle.inp_actors.specs.declared.command.Command.TheVariants.{Feedback, Follow, Force, Inhibit, Skip}
pub use Rattle.inp_actors.specs.declared.command.Command.TheVariants.{Stream, Stream16, Tick, Uninhibit}
pub use Rattle.inp_actors.specs.declared.line.Line.{Line}
pub use Rattle.inp_actors.specs.declared.role.Role.{Role}
pub use Rattle.inp_actors.specs.declared.role.Role.TheVariants.{Client, Joy, Owner, Source, Tap}
pub use Rattle.inp_recon.proofs.Each.{Each}
pub use Rattle.inp_recon.proofs.Sizes.{IsSizedFor-after_events, IsSizedFor-first_view}
pub use Rattle.inp_recon.specs.View.{IsSizedFor}
pub use Rattle.inp_recon.specs.declared.view.View.{View}
pub use Rattle.inp_reader.proofs.Calls.{finished, split-and_then}
pub use Rattle.inp_reader.proofs.Meets.{Any, Listed, Meets, listed-run, meets-ends, meets-then}
pub use Rattle.inp_reader.specs.Reader.{ReaderState, next_talk, queries, start_talk, stop_of}
pub use Rattle.inp_reader.specs.ReaderPlace.{is_read, is_use, is_use_of}
pub use Rattle.inp_reader.specs.Talk.{EndsWith, Talk, and_then, ask, finish}
pub use Rattle.inp_reader.specs.declared.mode.Mode.{Mode}
pub use Rattle.inp_reader.specs.declared.next.Next.TheVariants.{Dropped, Success, Sync}
pub use Rattle.inp_reader.specs.declared.reader.TheConstants.{NO_CLIENT}
pub use Rattle.inp_reader.specs.declared.started.Started.{Started}
pub use Rattle.inp_script.proofs.LineWalk.{LineRules, NotedBy, OfGoing, OfJob, OfTurn, job-ends-meet}
pub use Rattle.inp_script.proofs.LineWalk.{line-meets, read_so}
pub use Rattle.inp_script.proofs.Told.{noted_sight}
pub use Rattle.inp_script.specs.DoneLine.{line_talk, unless_stopped}
pub use Rattle.inp_script.specs.Job.{ActorView, Job, JobView, first_job, joying_of}
pub use Rattle.inp_script.specs.Legal.{is_call_entry, sight_of_calls}
pub use Rattle.inp_script.specs.Line.{after_call, end_talk, source_talk, step_of, tap_call_if}
pub use Rattle.inp_script.specs.Line.{tap_client_after, tap_talk}
pub use Rattle.inp_script.specs.Owner.{OwnerState}
pub use Rattle.inp_script.specs.Sight.{again_sight, call_sight, noted, taken_sight}
pub use Rattle.inp_script.specs.declared.sight.Sight.{Sight}
pub use Rattle.inp_script.specs.declared.sight.Sight.TheVariants.{Took}
pub use Rattle.inp_script.specs.declared.stop.Stop.{Stop}
pub use Rattle.inp_script.specs.declared.waiting.Waiting.{Waiting}
pub use Rattle.inp_runs.specs.Job.{AreTold, call_lacks_memory, last_talk, lines_by, lines_talk}
pub use Rattle.inp_runs.specs.Job.{on_job}
pub use Rattle.inp_runs.specs.JobViews.{AgreesIn, LastRead, index_in_history, is_read_as, reads_as}
pub use Rattle.inp_runs.proofs.views.Shown.{ShowsAt}
pub use Rattle.inp_runs.specs.Owner.{rooms_of}
pub use Rattle.inp_runs.specs.Play.{Stage, description_at}
