-- The laws of the synthesised events.
use Rattle.inp_reader.proofs.SynthesisedViews.{LeadsTheView-synth}
use Rattle.inp_reader.proofs.Counts.{length-synth}
use Rattle.inp_reader.proofs.laws.synthesis.Goals as goal

-- they lead to the new view, each but a report changes the view, and their parts are counted
pub returns : goal.returns
returns c = record {
  new_view = λ slots old new h. (LeadsTheView-synth slots old new h).to;
  no_idle_event = λ slots old new h. (LeadsTheView-synth slots old new h).changes;
  few = length-synth;
}
