use Rattle.std.proofs.Common.{◌≡◌, take, false}
use Rattle.std.specs.List.{list_any}
use Rattle.std.specs.Str.{bytes_eq}
use Rattle.inp_record.proofs.context.Context.has_actor.Given as goal

abbrev pub invariant-loop-actor : goal.invariant-loop-actor
invariant-loop-actor l = list_any (λ x. bytes_eq x.name l.name) (take l.actor-index l.self.actors) ≡ false
