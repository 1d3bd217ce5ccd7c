use Rattle.std.proofs.Common.{◌≡◌, Bool, false, sym, ◌∙◌, subst}
use Rattle.std.proofs.lemmas.List.{length-map}
use Rattle.inp_model.specs.Queue.{is_same_clock}
use Rattle.inp_ring.specs.Ring.{cell_at}
use Rattle.inp_client.specs.Numbers.{IsRingOnClock}
use Rattle.inp_client.proofs.Numbers.{ring_on_clock}
use Rattle.inp_client.proofs.client.Client.set_clock.Goals as goal

-- the clock is another one, so of a queue a SYN_DROPPED is left, which its ring alone holds
pub returns-clause-stored : goal.returns-clause-stored
returns-clause-stored c =
    let old = c.self.inside.ring.numbers in
    let new = c.clock_changed.new.self.numbers in
    let other : is_same_clock c.self.inside.clock c.args.clock ≡ false =
    sym c.is_same_clock.ensures ∙ c.if-is_same_clock.false in
    let P : Bool → Type 0 = λ b. IsRingOnClock b c.clock_changed.new.store old new in
    rw (← c.self.view_is)
    (subst P (sym other)
    (ring_on_clock c.clock_changed.new.store old new _ _
    (length-map old (cell_at c.args.store.now)) c.clock_changed.ensures.changed
    c.clock_changed.ensures.alone))
