-- What most proofs of this crate speak of, beside the words of inp_script.
pub use Rattle.inp_script.specs.declared.waiting.Waiting.{Waiting}
pub use Rattle.inp_runs.specs.Owner.{rooms_of}
pub use Rattle.inp_turn.specs.Pass.{view_of}
pub use Rattle.inp_turn.specs.PassView.{OwnsSeen}
pub use Rattle.inp_turn.specs.declared.kept.Kept.{Ghosts}
pub use Rattle.inp_turn.specs.declared.pass.Pass.{Pass}
pub use Rattle.inp_turn.specs.declared.pass_view.PassView.{PassView}
pub use Rattle.inp_uinput.specs.UdevView.{UdevView}
pub use Rattle.inp_port.specs.Entries.{step_places, steps_among}
pub use Rattle.inp_port.specs.declared.port.PortOf.{PortOf}
pub use Rattle.inp_threads.specs.Joined.{AreJoined, AreWorkersDone}
pub use Rattle.inp_threads.specs.Owner.{HasFedLines}
pub use Rattle.inp_threads.specs.Worker.{HasDoneLines, HasOwnedLines, HasWorked, IsReadyOn}
pub use Rattle.inp_threads.specs.Worker.{actor_number}
pub use Rattle.inp_threads.specs.declared.worker.Worker.{Worker}
