use Rattle.std.proofs.Common.{◌≡◌, ◌<◌, true, false, ℤ, get_or, length, sym, subst, ◌∙◌, arith, rules, to_z}
use Rattle.std.proofs.Common.{of_z, w32, FitsSigned}
use Rattle.std.proofs.lemmas.Bool.Decides.{nat_tests}
use Rattle.std.proofs.lemmas.Int.{to_z-of_z}
use Rattle.inp_model.specs.Description.{supports, no_info}
use Rattle.inp_caps.proofs.Supported.{key-within, axis-within, switch-within, led-within, sound-within}
use Rattle.inp_state.specs.State.{StateStandsFor}
use Rattle.inp_state.specs.contracts.state.State.{the_view}
use Rattle.inp_state.proofs.Steps.{StateStandsFor-unsupported, StateStandsFor-stateless}
use Rattle.inp_state.proofs.Arms.{key-stands, key-passes, switch-stands, switch-passes, led-stands}
use Rattle.inp_state.proofs.Arms.{led-passes, sound-stands, axis-stands, axis-passes, delay-stands}
use Rattle.inp_state.proofs.Arms.{delay-passes, period-stands, period-passes, syn-stands, motion-stands}
use Rattle.inp_state.proofs.Arms.{setting-within}
use Rattle.inp_state.proofs.state.State.change.Goals as goal

pub returns-then-event-eq-EV_SYN-clause-stands : goal.returns-then-event-eq-EV_SYN-clause-stands
returns-then-event-eq-EV_SYN-clause-stands c =
    λ r h. syn-stands c.args.caps.now r c.args.self.now c.args.event c.if-event-eq-EV_SYN.true h

pub returns-then-not-supports-clause-stands : goal.returns-then-not-supports-clause-stands
returns-then-not-supports-clause-stands c =
    let u : supports c.args.caps.now c.args.event.kind c.args.event.code ≡ false =
    sym c.supports.ensures.supported ∙ c.if-not-supports.true in
    λ r h. StateStandsFor-unsupported c.args.caps.now r c.args.self.now c.args.event u h

pub returns-in-1 : goal.returns-in-1
returns-in-1 c =
    let u : supports c.args.caps.now c.args.event.kind c.args.event.code ≡ true =
    sym c.supports.ensures.supported ∙ c.if-not-supports.false in
    let w =
    key-within c.args.caps.now c.args.event.kind c.args.event.code c.in-1.is
    c.supports.ensures.description u in
    let l : c.args.event.code < length c.self.inside.keys = omega (arith, w, c.set_key.ensures.len) in
    record {
      stands =
          λ r h. key-stands c.args.caps.now r
          (the_view c.self.inside) c.args.event c.set_key.new.keys c.in-1.is u l c.set_key.ensures.keys
          (subst (StateStandsFor c.args.caps.now r) (sym c.self.view_is) h);
      passes =
          λ r h. key-passes c.args.caps.now r
          (the_view c.self.inside) c.args.event c.set_key.result c.in-1.is u c.set_key.ensures.passed
          (subst (StateStandsFor c.args.caps.now r) (sym c.self.view_is) h);
    }

pub returns-in-2-clause-stands : goal.returns-in-2-clause-stands
returns-in-2-clause-stands c = λ r h. motion-stands c.args.caps.now r c.args.self.now c.args.event c.in-2.is h

pub returns-in-3 : goal.returns-in-3
returns-in-3 c =
    let u : supports c.args.caps.now c.args.event.kind c.args.event.code ≡ true =
    sym c.supports.ensures.supported ∙ c.if-not-supports.false in
    let fuzz : ℤ = (get_or c.self.inside.infos c.from.result no_info).fuzz in
    let fits : FitsSigned w32 fuzz = search rules in
    let w =
    axis-within c.args.caps.now c.args.event.kind c.args.event.code c.in-3.is
    c.supports.ensures.description u in
    let l : c.args.event.code < length c.self.inside.axes = omega (arith, w) in
    record {
      stands = λ r h.
          let at : StateStandsFor c.args.caps.now r (the_view c.self.inside) =
          subst (StateStandsFor c.args.caps.now r) (sym c.self.view_is) h in
          axis-stands c.args.caps.now r (the_view c.self.inside) c.args.event c.move_axis.new.axes
          (to_z w32 (of_z w32 fuzz)) c.in-3.is u c.requires.no_slot w l
          (rw (to_z-of_z w32 fuzz fits, c.from.ensures, at.infos c.args.event.code w))
          c.move_axis.ensures.axes at;
      passes = λ r h.
          let at : StateStandsFor c.args.caps.now r (the_view c.self.inside) =
          subst (StateStandsFor c.args.caps.now r) (sym c.self.view_is) h in
          axis-passes c.args.caps.now r (the_view c.self.inside) c.args.event c.move_axis.result
          (to_z w32 (of_z w32 fuzz)) c.in-3.is u c.requires.no_slot w
          (rw (to_z-of_z w32 fuzz fits, c.from.ensures, at.infos c.args.event.code w))
          c.move_axis.ensures.passed at;
    }

pub returns-in-5 : goal.returns-in-5
returns-in-5 c =
    let u : supports c.args.caps.now c.args.event.kind c.args.event.code ≡ true =
    sym c.supports.ensures.supported ∙ c.if-not-supports.false in
    let w =
    switch-within c.args.caps.now c.args.event.kind c.args.event.code c.in-5.is
    c.supports.ensures.description u in
    let l : c.args.event.code < length c.self.inside.switches = omega (arith, w, c.set_bit.ensures.len) in
    record {
      stands =
          λ r h. switch-stands c.args.caps.now r
          (the_view c.self.inside) c.args.event c.set_bit.new.bits c.in-5.is u l c.set_bit.ensures.bits
          (subst (StateStandsFor c.args.caps.now r) (sym c.self.view_is) h);
      passes =
          λ r h. switch-passes c.args.caps.now r
          (the_view c.self.inside) c.args.event c.set_bit.result c.in-5.is u c.set_bit.ensures.passed
          (subst (StateStandsFor c.args.caps.now r) (sym c.self.view_is) h);
    }

pub returns-in-17 : goal.returns-in-17
returns-in-17 c =
    let u : supports c.args.caps.now c.args.event.kind c.args.event.code ≡ true =
    sym c.supports.ensures.supported ∙ c.if-not-supports.false in
    let w =
    led-within c.args.caps.now c.args.event.kind c.args.event.code c.in-17.is
    c.supports.ensures.description u in
    let l : c.args.event.code < length c.self.inside.leds = omega (arith, w, c.set_bit-in-17.ensures.len) in
    record {
      stands =
          λ r h. led-stands c.args.caps.now r
          (the_view c.self.inside) c.args.event c.set_bit-in-17.new.bits c.in-17.is u l
          c.set_bit-in-17.ensures.bits (subst (StateStandsFor c.args.caps.now r) (sym c.self.view_is) h);
      passes =
          λ r h. led-passes c.args.caps.now r
          (the_view c.self.inside) c.args.event c.set_bit-in-17.result c.in-17.is u
          c.set_bit-in-17.ensures.passed (subst (StateStandsFor c.args.caps.now r) (sym c.self.view_is) h);
    }

pub returns-in-18-clause-stands : goal.returns-in-18-clause-stands
returns-in-18-clause-stands c =
    let u : supports c.args.caps.now c.args.event.kind c.args.event.code ≡ true =
    sym c.supports.ensures.supported ∙ c.if-not-supports.false in
    let w =
    sound-within c.args.caps.now c.args.event.kind c.args.event.code c.in-18.is
    c.supports.ensures.description u in
    let l : c.args.event.code < length c.self.inside.sounds = omega (arith, w, c.set_bit-in-18.ensures.len) in
    λ r h. sound-stands c.args.caps.now r
    (the_view c.self.inside) c.args.event c.set_bit-in-18.new.bits c.in-18.is u l c.set_bit-in-18.ensures.bits
    (subst (StateStandsFor c.args.caps.now r) (sym c.self.view_is) h)

pub returns-in-20 : goal.returns-in-20
returns-in-20 c =
    let u : supports c.args.caps.now c.args.event.kind c.args.event.code ≡ true =
    sym c.supports.ensures.supported ∙ c.if-not-supports.false in
    record {
      stands =
          λ r h. delay-stands c.args.caps.now r
          (the_view c.self.inside) c.args.event c.set_setting.new.setting c.in-20.is
          c.if-event-eq-REP_DELAY.true u c.set_setting.ensures.setting
          (subst (StateStandsFor c.args.caps.now r) (sym c.self.view_is) h);
      passes =
          λ r h. delay-passes c.args.caps.now r
          (the_view c.self.inside) c.args.event c.set_setting.result c.in-20.is c.if-event-eq-REP_DELAY.true u
          c.set_setting.ensures.passed (subst (StateStandsFor c.args.caps.now r) (sym c.self.view_is) h);
    }

pub returns-in-20-2 : goal.returns-in-20-2
returns-in-20-2 c =
    let u : supports c.args.caps.now c.args.event.kind c.args.event.code ≡ true =
    sym c.supports.ensures.supported ∙ c.if-not-supports.false in
    let q : c.args.event.code ≡ 1 =
    omega (
      arith,
      setting-within c.args.caps.now c.args.event.kind c.args.event.code c.in-20.is u,
      c.if-event-eq-REP_DELAY.false,
    ) in
    record {
      stands =
          λ r h. period-stands c.args.caps.now r
          (the_view c.self.inside) c.args.event c.set_setting-in-20-2.new.setting c.in-20.is q u
          c.set_setting-in-20-2.ensures.setting
          (subst (StateStandsFor c.args.caps.now r) (sym c.self.view_is) h);
      passes =
          λ r h. period-passes c.args.caps.now r
          (the_view c.self.inside) c.args.event c.set_setting-in-20-2.result c.in-20.is q u
          c.set_setting-in-20-2.ensures.passed
          (subst (StateStandsFor c.args.caps.now r) (sym c.self.view_is) h);
    }

pub returns-in_default-clause-stands : goal.returns-in_default-clause-stands
returns-in_default-clause-stands c =
    λ r h. StateStandsFor-stateless c.args.caps.now r c.args.self.now c.args.event (grind (arith, nat_tests))
    (grind (arith, nat_tests)) (grind (arith, nat_tests)) (grind (arith, nat_tests))
    (grind (arith, nat_tests)) (grind (arith, nat_tests)) h
