-- Keys, switches and LEDs are classes of flags.
use Rattle.std.proofs.Common.{◌<◌, ℕ, ℤ, pos, Bool, false, get_or, refl, arith}
use Rattle.std.proofs.Math.Bool.{and-true}
use Rattle.std.specs.Ordering.{int_eq}
use Rattle.inp_model.proofs.Descriptions.{get_or-replicate_same}
use Rattle.inp_model.specs.declared.event.TheConstants.{EV_KEY, EV_SW, EV_LED}
use Rattle.inp_model.specs.declared.step.Step.TheVariants.{GetKeys, GetSwitches, GetLeds}
use Rattle.inp_model.specs.Description.{Description}
use Rattle.inp_model.specs.State.{key_down, turned_on}
use Rattle.inp_model.specs.Raw.{raw}
use Rattle.inp_model.specs.Left.{Eats}
use Rattle.inp_model.specs.Reply.{code_on}
use Rattle.inp_recon.specs.View.{first_view, view_after_event, view_after_answer}
use Rattle.inp_recon.specs.Synchronised.{AllKeys, AllSwitches, AllLeds}
use Rattle.inp_recon.proofs.ToldBits.{told_flag}
use Rattle.inp_recon.proofs.FlagPasses.{StepsFlag}
use Rattle.inp_recon.proofs.FlagsFollow.{IsFlagClass}
use Rattle.inp_recon.proofs.ViewSteps.{ByAnswers}

-- ---- keys

abbrev pub is_repeat_value : ℤ → Bool
is_repeat_value value = int_eq value (pos 2)

key_answer : (eats : Eats) (d : Description) (client code : ℕ) → code < 768
    → ByAnswers eats d client AllKeys (λ r. key_down d r code) (λ v. get_or v.keys code false)
unfolding view_after_answer
key_answer eats d client code within past (GetKeys named) v h own =
    rw (own, ← told_flag 768 (code_on d (raw d past) EV_KEY) code within within)
key_answer eats d client code within past x v h own = refl

pub keys-class : (eats : Eats) (d : Description) (client : ℕ)
    → IsFlagClass eats d client EV_KEY is_repeat_value (key_down d) 768 AllKeys (λ v. v.keys)
unfolding key_down first_view view_after_event
keys-class eats d client = record {
  steps = λ r e code. refl;
  passes = λ r code value. refl;
  off = λ code. refl;
  described = λ r axis i code. refl;
  not_abs = refl;
  not_syn = refl;
  viewed = refl;
  long = λ v h. h.keys;
  first = λ code. get_or-replicate_same 768 code false;
  event = λ v e. refl;
  answer = key_answer eats d client;
  query = refl;
}

-- ---- switches and LEDs

abbrev pub is_never : ℤ → Bool
is_never value = false

bit-steps : (d : Description) (kind : ℕ) → StepsFlag d kind is_never (λ r code. turned_on d r kind code)
unfolding turned_on
bit-steps d kind r e code = rw and-true

switch_answer : (eats : Eats) (d : Description) (client code : ℕ) → code < 64
    → ByAnswers eats d client AllSwitches (λ r. turned_on d r EV_SW code) (λ v. get_or v.switches code false)
unfolding view_after_answer
switch_answer eats d client code within past (GetSwitches named) v h own =
    rw (own, ← told_flag 64 (code_on d (raw d past) EV_SW) code within (omega arith))
switch_answer eats d client code within past x v h own = refl

pub switches-class : (eats : Eats) (d : Description) (client : ℕ)
    → IsFlagClass eats d client EV_SW is_never (λ r code. turned_on d r EV_SW code) 64 AllSwitches
    (λ v. v.switches)
unfolding turned_on first_view view_after_event
switches-class eats d client = record {
  steps = bit-steps d EV_SW;
  passes = λ r code value. refl;
  off = λ code. refl;
  described = λ r axis i code. refl;
  not_abs = refl;
  not_syn = refl;
  viewed = refl;
  long = λ v h. h.switches;
  first = λ code. get_or-replicate_same 64 code false;
  event = λ v e. rw and-true;
  answer = switch_answer eats d client;
  query = refl;
}

led_answer : (eats : Eats) (d : Description) (client code : ℕ) → code < 64
    → ByAnswers eats d client AllLeds (λ r. turned_on d r EV_LED code) (λ v. get_or v.leds code false)
unfolding view_after_answer
led_answer eats d client code within past (GetLeds named) v h own =
    rw (own, ← told_flag 64 (code_on d (raw d past) EV_LED) code within (omega arith))
led_answer eats d client code within past x v h own = refl

pub leds-class : (eats : Eats) (d : Description) (client : ℕ)
    → IsFlagClass eats d client EV_LED is_never (λ r code. turned_on d r EV_LED code) 64 AllLeds (λ v. v.leds)
unfolding turned_on first_view view_after_event
leds-class eats d client = record {
  steps = bit-steps d EV_LED;
  passes = λ r code value. refl;
  off = λ code. refl;
  described = λ r axis i code. refl;
  not_abs = refl;
  not_syn = refl;
  viewed = refl;
  long = λ v h. h.leds;
  first = λ code. get_or-replicate_same 64 code false;
  event = λ v e. rw and-true;
  answer = led_answer eats d client;
  query = refl;
}
