-- The report of a record's owners, which stands after that of its joysticks (docs/FORMATS.md, "The owners").
use Rattle.std.specs.Prelude.{ℕ, List, [], ◌++◌, codes, decimal, flat_map}
use Rattle.inp_actors.specs.declared.role.Role.TheVariants.{Owner}
use Rattle.inp_actors.specs.declared.actor_text.ActorText.{ActorText}
use Rattle.inp_actors.specs.Record.{RecordView}
use Rattle.inp_feedback.specs.declared.fed.Fed.TheVariants.{Took, Full}
use Rattle.inp_script.specs.declared.fed_sight.FedSight.{FedSight}
use Rattle.inp_script.specs.declared.fed_sight.FedSight.TheVariants.{Answer, Event}
use Rattle.inp_script.specs.Job.{OwnerView}
use Rattle.inp_report.specs.Words.{LINE_FEED, event_text}
use Rattle.inp_report.specs.Report.{role_part, text_at}

-- feedback AT COUNT, of a call; fed KIND CODE VALUE, of an event that it took; a call that was refused has no line
unfoldable pub fed_line : FedSight → List ℕ
fed_line (Answer (Took at count)) = codes "feedback " ++ (decimal at ++ (codes " " ++ (decimal count ++ LINE_FEED)))
fed_line (Answer (Full at)) = []
fed_line (Event e) = codes "fed " ++ (event_text e ++ LINE_FEED)

-- the part of the owner of this number: what it was told
abbrev pub owner_text : RecordView → OwnerView → List ℕ
owner_text r owner =
    text_at (λ (actor : ActorText). role_part Owner actor.name (flat_map fed_line owner.fed) owner.stop) r.actors owner.actor

-- the owners in order
unfoldable pub owner_report : RecordView → List OwnerView → List ℕ
owner_report r owners = flat_map (owner_text r) owners
