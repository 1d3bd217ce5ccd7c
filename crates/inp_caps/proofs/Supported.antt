-- A code that is supported is at most its type's greatest. For callers.
use Rattle.std.proofs.Common.{◌≡◌, ℕ, ◌≤◌, Bool, true, false, ◌&&◌, List, get_or, subst, inl, inr}
use Rattle.std.proofs.lemmas.Bool.{cases_lt}
use Rattle.inp_model.specs.declared.event.TheConstants.{EV_KEY, EV_ABS, EV_SW, EV_LED, EV_SND, KEY_MAX}
use Rattle.inp_model.specs.declared.event.TheConstants.{ABS_MAX, SW_MAX, LED_MAX, SND_MAX}
use Rattle.inp_model.specs.Description.{Description, IsDescription, AreCodes, has_kind, supports}

second : (a b : Bool) → (a && b) ≡ true → b ≡ true
second true b h = h
second false b h = absurd (cc h)

within_by : (a : Bool) (count greatest : ℕ) (codes : List Bool) (code : ℕ) → AreCodes count greatest codes
    → (a && get_or codes code false) ≡ true → code ≤ greatest
within_by a count greatest codes code h p =
    elim (cases_lt greatest code) [
      | inl past ↦ let on : get_or codes code false ≡ true = second a (get_or codes code false) p in
          let off : get_or codes code false ≡ false = h.within code past in
          absurd (cc (on, off))
      | inr within ↦ within
    ]

pub key-within : (d : Description) (kind code : ℕ) → kind ≡ EV_KEY → IsDescription d
    → supports d kind code ≡ true → code ≤ KEY_MAX
key-within d kind code p h s =
    within_by (has_kind d EV_KEY) 768 KEY_MAX d.keys code h.keys
    (subst (λ (k : ℕ). supports d k code ≡ true) p s)

pub axis-within : (d : Description) (kind code : ℕ) → kind ≡ EV_ABS → IsDescription d
    → supports d kind code ≡ true → code ≤ ABS_MAX
axis-within d kind code p h s =
    within_by (has_kind d EV_ABS) 64 ABS_MAX d.axes code h.axes
    (subst (λ (k : ℕ). supports d k code ≡ true) p s)

pub switch-within : (d : Description) (kind code : ℕ) → kind ≡ EV_SW → IsDescription d
    → supports d kind code ≡ true → code ≤ SW_MAX
switch-within d kind code p h s =
    within_by (has_kind d EV_SW) 64 SW_MAX d.switches code h.switches
    (subst (λ (k : ℕ). supports d k code ≡ true) p s)

pub led-within : (d : Description) (kind code : ℕ) → kind ≡ EV_LED → IsDescription d
    → supports d kind code ≡ true → code ≤ LED_MAX
led-within d kind code p h s =
    within_by (has_kind d EV_LED) 64 LED_MAX d.leds code h.leds
    (subst (λ (k : ℕ). supports d k code ≡ true) p s)

pub sound-within : (d : Description) (kind code : ℕ) → kind ≡ EV_SND → IsDescription d
    → supports d kind code ≡ true → code ≤ SND_MAX
sound-within d kind code p h s =
    within_by (has_kind d EV_SND) 64 SND_MAX d.sounds code h.sounds
    (subst (λ (k : ℕ). supports d k code ≡ true) p s)
