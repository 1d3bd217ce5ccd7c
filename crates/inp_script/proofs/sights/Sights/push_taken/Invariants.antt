use Rattle.std.proofs.Common.{◌≡◌, ◌++◌, map, take}
use Rattle.inp_script.specs.declared.kept_sight.KeptSight.TheVariants.{Took}
use Rattle.inp_script.proofs.sights.Sights.push_taken.Given as goal

abbrev pub invariant-loop-event : goal.invariant-loop-event
invariant-loop-event l =
    l.self-inside ≡ record l.initial.self-inside {
      kept = l.initial.self-inside.kept ++ map (λ t. Took t) (take l.event-index l.events);
    }
