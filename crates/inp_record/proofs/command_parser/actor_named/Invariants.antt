use Rattle.std.proofs.Common.{◌≡◌, drop}
use Rattle.inp_record.specs.Words.{actor_from}
use Rattle.inp_record.proofs.command_parser.actor_named.Given as goal

abbrev pub invariant-loop-place : goal.invariant-loop-place
invariant-loop-place l = actor_from 0 l.actors l.name ≡ actor_from l.place (drop l.place l.actors) l.name
