-- What is sent to a device: the passed events that set its lights, sounds and the like (docs/RULES.md, "What
-- is passed").
use Rattle.std.specs.Prelude.{List, [], ◌∷◌, ◌++◌, filter}
use Rattle.inp_model.specs.declared.event.Event.{Event}
use Rattle.inp_model.specs.declared.step.Step.{Step}
use Rattle.inp_model.specs.Description.{Description}
use Rattle.inp_model.specs.RawItem.{RawItem}
use Rattle.inp_model.specs.Passed.{passed_for, is_output}
use Rattle.inp_model.specs.Raw.{raw, raw_of_step}

-- what is sent for an item after others, which are written newest first
abbrev pub sent_for : Description → List RawItem → RawItem → List Event
sent_for d r item = filter is_output (passed_for d r item)

-- what is sent for items, oldest first, one after another
unfoldable pub sent_for_all : Description → List RawItem → List RawItem → List Event
sent_for_all d r [] = []
sent_for_all d r (item ∷ items) = sent_for d r item ++ sent_for_all d (item ∷ r) items

-- what is sent at a step after a past, whether or not its frame has ended
abbrev pub sent_at_step : Description → List Step → Step → List Event
sent_at_step d past x = sent_for_all d (raw d past) (raw_of_step d past x)

-- all that was sent in a past, oldest first
unfoldable pub sent : Description → List Step → List Event
sent d [] = []
sent d (x ∷ past) = sent d past ++ sent_at_step d past x
