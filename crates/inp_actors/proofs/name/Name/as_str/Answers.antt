use Rattle.std.proofs.Common.{sym, subst}
use Rattle.std.specs.Str.{IsUtf8}
use Rattle.inp_actors.proofs.Names.{IsUtf8-from_name, is_ok_from_cases}
use Rattle.inp_actors.proofs.name.Name.as_str.Goals as goal

pub unwrap-requires : goal.unwrap-requires
unwrap-requires c =
    is_ok_from_cases _ _ _ c.from_utf8.ensures.cases
    (λ e q.
    q.0 (subst IsUtf8 (sym c.bytes.ensures.bytes) (IsUtf8-from_name c.args.self.now c.bytes.ensures.name)))
