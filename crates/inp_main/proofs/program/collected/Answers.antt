use Rattle.std.proofs.Common.{◌≡◌, length, vec_len, refl, rules}
use Rattle.std.specs.Vec.Iter.{into_iter_items}
use Rattle.std.proofs.lemmas.Iterator.Adapters.{fact_from_collect, YieldsList-from_vec}
use Rattle.inp_main.proofs.program.collected.Goals as goal

pub returns : goal.returns
returns c =
    let all =
    fact_from_collect (λ xs v. (v.items ≡ xs) × (vec_len v ≡ length xs)) c.collect.result
    c.collect.ensures.ran
    (YieldsList-from_vec {s = c.args.args} (into_iter_items c.args.args) refl c.args.args.rest.ok.0) in
    search rules
