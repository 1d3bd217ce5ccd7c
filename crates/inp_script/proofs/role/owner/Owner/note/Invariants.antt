use Rattle.std.proofs.Common.{◌≡◌, ◌++◌, map, take}
use Rattle.inp_script.specs.declared.fed_sight.FedSight.TheVariants.{Event as Given}
use Rattle.inp_script.proofs.role.owner.Owner.note.Given as goal

abbrev pub invariant-loop-event : goal.invariant-loop-event
invariant-loop-event l =
    l.self ≡ record l.initial.self { fed = l.initial.self.fed ++ map Given (take l.event-index l.events) }
