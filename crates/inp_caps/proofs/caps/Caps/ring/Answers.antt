use Rattle.std.proofs.Common.{◌∙◌, ℕ, ◌*◌, ap, arith}
use Rattle.inp_model.specs.Description.{Description, doubled}
use Rattle.inp_caps.proofs.Rings.{ring_is, ring_range}
use Rattle.inp_caps.proofs.caps.Caps.ring.Goals as goal

pub returns-clause-ring : goal.returns-clause-ring
returns-clause-ring c =
    let hint = ap (λ (d : Description). d.hint) c.self.view_is in
    ring_is c.self.inside.hint c.max.result c.next_power_of_two.result (omega arith) (omega arith)
    (omega arith) c.next_power_of_two.ensures.power c.next_power_of_two.ensures.lower_bound
    c.next_power_of_two.ensures.upper_bound
    ∙ ap (λ (h : ℕ). doubled 6 (8 * h) 64) hint

pub returns-clause-range : goal.returns-clause-range
returns-clause-range c =
    let ring =
    ring_is c.self.inside.hint c.max.result c.next_power_of_two.result (omega arith) (omega arith)
    (omega arith) c.next_power_of_two.ensures.power c.next_power_of_two.ensures.lower_bound
    c.next_power_of_two.ensures.upper_bound in
    let range = ring_range c.self.inside.hint (omega arith) (omega arith) in
    (omega (arith, ring, range.0), omega (arith, ring, range.1))
