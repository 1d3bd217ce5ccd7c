use Rattle.inp_model.proofs.Injection.{injected-calls}
use Rattle.inp_model.proofs.laws.injected_events_are_calls.Goals as goal

pub returns : goal.returns
returns c = record { calls = injected-calls }
