use Rattle.std.proofs.Common.{map, string_bytes}
use Rattle.inp_args.proofs.Taken.{is_simple_at, taken, refused, found}
use Rattle.inp_args.proofs.command.matches_in.Goals as goal

pub returns-in-Ok-clause-taken : goal.returns-in-Ok-clause-taken
returns-in-Ok-clause-taken c =
    taken _ (map string_bytes c.args.words.now) c.in_ok-command.ensures
    (c.in-Ok.ensures.kinds (is_simple_at _ c.in_ok-command.ensures))

pub returns-in-Ok-clause-texts : goal.returns-in-Ok-clause-texts
returns-in-Ok-clause-texts c =
    found _ (map string_bytes c.args.words.now) c.in-Ok.matches c.in_ok-command.ensures
    c.in-Ok.ensures.matches

pub returns-in-Err-clause-usage : goal.returns-in-Err-clause-usage
returns-in-Err-clause-usage c is =
    refused _ (map string_bytes c.args.words.now) c.in-Err.error c.in_ok-command.ensures
    (c.in-Err.ensures.kinds (is_simple_at _ c.in_ok-command.ensures))
    (λ memory. let there = c.fault_of.ensures.1 memory in cc)
