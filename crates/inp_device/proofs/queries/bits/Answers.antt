use Rattle.std.proofs.Common.{ℕ, sym, subst, ap, ◌∙◌, ◌≡◌, inl, inr}
use Rattle.inp_model.specs.Raw.{raw}
use Rattle.inp_model.specs.Reply.{code_on}
use Rattle.inp_state.specs.State.{StateStandsFor}
use Rattle.inp_device.proofs.WordLists.{words-same}
use Rattle.inp_model.specs.declared.event.TheConstants.{EV_KEY, EV_SW, EV_LED, EV_SND}
use Rattle.inp_device.specs.Queries.{HasBits}
use Rattle.inp_device.proofs.queries.bits.Goals as goal

-- the one that is left
sound : (kind : ℕ) → HasBits kind → (kind ≡ EV_KEY → ⊥) → (kind ≡ EV_SW → ⊥) → (kind ≡ EV_LED → ⊥)
    → kind ≡ EV_SND
sound kind (inl e) key switch led = absurd (key e)
sound kind (inr (inl e)) key switch led = absurd (switch e)
sound kind (inr (inr (inl e))) key switch led = absurd (led e)
sound kind (inr (inr (inr e))) key switch led = e

pub returns-then-kind-eq-EV_KEY : goal.returns-then-kind-eq-EV_KEY
returns-then-kind-eq-EV_KEY c = record {
  bits = λ d past h. words-same _ (code_on d (raw d past) c.args.kind) _ c.bitmap_of.ensures
      (λ code. c.keys.ensures.keys d (raw d past)
      (subst (StateStandsFor d (raw d past)) (sym c.state-state.ensures.state) h.raw_events.state) code
      ∙ ap (λ (k : ℕ). code_on d (raw d past) k code) (sym c.if-kind-eq-EV_KEY.true));
}

pub returns-then-kind-eq-EV_SW : goal.returns-then-kind-eq-EV_SW
returns-then-kind-eq-EV_SW c = record {
  bits =
      λ d past h. words-same _ (code_on d (raw d past) c.args.kind) _ c.bitmap_of-then-kind-eq-EV_SW.ensures
      (λ code. c.switches.ensures.switches d (raw d past)
      (subst (StateStandsFor d (raw d past)) (sym c.state-state.ensures.state) h.raw_events.state) code
      ∙ ap (λ (k : ℕ). code_on d (raw d past) k code) (sym c.if-kind-eq-EV_SW.true));
}

pub returns-then-kind-eq-EV_LED : goal.returns-then-kind-eq-EV_LED
returns-then-kind-eq-EV_LED c = record {
  bits =
      λ d past h. words-same _ (code_on d (raw d past) c.args.kind) _ c.bitmap_of-then-kind-eq-EV_LED.ensures
      (λ code. c.leds.ensures.leds d (raw d past)
      (subst (StateStandsFor d (raw d past)) (sym c.state-state.ensures.state) h.raw_events.state) code
      ∙ ap (λ (k : ℕ). code_on d (raw d past) k code) (sym c.if-kind-eq-EV_LED.true));
}

-- the kind is none of the other three, so it is that of the sounds
pub returns : goal.returns
returns c = record {
  bits = λ d past h. words-same _ (code_on d (raw d past) c.args.kind) _ c.bitmap_of-2.ensures
      (λ code. c.sounds.ensures.sounds d (raw d past)
      (subst (StateStandsFor d (raw d past)) (sym c.state-state.ensures.state) h.raw_events.state) code
      ∙ ap (λ (k : ℕ). code_on d (raw d past) k code)
      (sym
      (sound c.args.kind c.requires.kind c.if-kind-eq-EV_KEY.false c.if-kind-eq-EV_SW.false
      c.if-kind-eq-EV_LED.false)));
}
