use Rattle.std.proofs.Common.{◌≡◌, [], ◌∷◌, ◌*◌, sym, ◌∙◌, rules}
use Rattle.inp_bits.specs.Bits.{true_indices}
use Rattle.inp_bits.proofs.Indices.{true_indices-first, true_indices-none}
use Rattle.inp_bits.proofs.ones.OnesIterator.next.Goals as goal

pub returns-in_err-index-clause-steps : goal.returns-in_err-index-clause-steps
returns-in_err-index-clause-steps g c =
    let none : c.args.self.now ≡ [] =
    sym c.self.view_is
    ∙ true_indices-none c.self.inside.left (64 * g.row.W)
    (64 * c.self.inside.first_word) c.self.invariant c.in_err-index.ensures.none in
    rw c.from_residual.ensures (none, none)

pub returns-clause-steps : goal.returns-clause-steps
returns-clause-steps g c =
    rw (
      ← c.self.view_is,
      true_indices-first c.self.inside.left (64 * g.row.W)
          (64 * c.self.inside.first_word) c.in_ok-index.index c.self.invariant c.in_ok-index.ensures.found,
      ← c.set.ensures.written,
    )

pub returns-clause-goes : goal.returns-clause-goes
returns-clause-goes g c =
    let steps : c.args.self.now ≡ c.in_ok-index.index ∷ true_indices c.set.new.self =
    rw (
      ← c.self.view_is,
      true_indices-first c.self.inside.left (64 * g.row.W)
          (64 * c.self.inside.first_word) c.in_ok-index.index c.self.invariant c.in_ok-index.ensures.found,
      ← c.set.ensures.written,
    ) in
    search rules
