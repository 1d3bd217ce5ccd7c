-- The laws of the views that a reader keeps.
use Rattle.inp_reader.proofs.UnsetSlotAxes.{IsKeptView-first_view}
use Rattle.inp_reader.proofs.SynthesisedViews.{start-kept, next-kept, AreOfOneDevice-kept, leads-next}
use Rattle.inp_reader.proofs.SynthesisedViews.{leads-from_needed, leads-from_handing}
use Rattle.inp_reader.proofs.laws.views.Goals as goal

-- what is shown of new and of kept views, of starts, of `next` and of the events that are left
pub returns : goal.returns
returns c = record {
  new_view = IsKeptView-first_view;
  one_device = AreOfOneDevice-kept;
  start = start-kept;
  next = λ d mode. next-kept d mode;
  synchronises = λ d r before after old new result same kept needed says.
      leads-next d r r.view before after old new result (leads-from_needed d before r same kept needed) says;
  hands_out = λ d r view before after old new result is leads says.
      leads-next d r view before after old new result (leads-from_handing d before r view is leads) says;
}
