-- What most proofs of this crate speak of.
pub use Rattle.inp_script.specs.declared.stop.Stop.{Stop}
pub use Rattle.inp_runs.specs.Play.{Stage, runs_of}
unfoldable pub use Rattle.inp_runs.specs.Play.{after_line, after_lines}
pub use Rattle.inp_uinput.specs.UdevView.{UdevView}
pub use Rattle.inp_play.specs.Player.{HasActors, HasDevices, stage_of, stage_with}
