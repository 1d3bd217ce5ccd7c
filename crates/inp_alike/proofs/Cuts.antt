-- The frames that the same items end after alike ones have the same events, and end at alike items.
use Rattle.std.proofs.Common.{◌≡◌, ℕ, suc, ◌+◌, List, [], ◌∷◌, ◌++◌, length, refl, ap, ◌∙◌, arith}
use Rattle.std.specs.Prelude.{Option, Some, None, option_map, option_to_list}
use Rattle.inp_model.specs.declared.event.Event.{Event}
use Rattle.inp_model.specs.declared.event.TheConstants.{REP_DELAY, REP_PERIOD}
use Rattle.inp_model.specs.declared.timer.Timer.{Timer}
use Rattle.inp_model.specs.Description.{Description}
use Rattle.inp_model.specs.RawItem.{RawItem, Occurred, Described, Cut}
use Rattle.inp_model.specs.Cut.{cut_events, cut_for, cuts}
use Rattle.inp_model.specs.Timer.{setting, timer_at_events, timer_at_cuts}
use Rattle.inp_alike.specs.Alike.{AreItemsAlike}
use Rattle.inp_alike.proofs.Items.{item_more, cut_alike}

-- two cuts, where so many items came before the first of each
pub record IsCutAlike (d : Description) (n m : ℕ) (c k : Cut) : Type 0 where
  pub events : c.events ≡ k.events
  pub items : AreItemsAlike d c.until k.until
  pub long : length c.until + m ≡ length k.until + n

-- two lists of as many cuts
abbrev pub AreCutsAlike : Description → ℕ → ℕ → List Cut → List Cut → Type 0
AreCutsAlike d n m [] [] = Unit {0}
AreCutsAlike d n m [] (k ∷ ks) = ⊥
AreCutsAlike d n m (c ∷ cs) [] = ⊥
AreCutsAlike d n m (c ∷ cs) (k ∷ ks) = IsCutAlike d n m c k × AreCutsAlike d n m cs ks

append : (d : Description) (n m : ℕ) (cs ks more1 more2 : List Cut) → AreCutsAlike d n m cs ks
    → AreCutsAlike d n m more1 more2 → AreCutsAlike d n m (cs ++ more1) (ks ++ more2)
append d n m [] [] more1 more2 h more = more
append d n m [] (k ∷ ks) more1 more2 h more = absurd h
append d n m (c ∷ cs) [] more1 more2 h more = absurd h
append d n m (c ∷ cs) (k ∷ ks) more1 more2 h more = (h.0, append d n m cs ks more1 more2 h.1 more)

cut_of : Event → List RawItem → Option (List Event) → List Cut
cut_of e r o = option_to_list (option_map (λ events. record { events = events; until = Occurred e ∷ r }) o)

one : (d : Description) (n m : ℕ) (r s : List RawItem) (e : Event)
    → AreItemsAlike d (Occurred e ∷ r) (Occurred e ∷ s) → suc (length r) + m ≡ suc (length s) + n
    → (o : Option (List Event)) → AreCutsAlike d n m (cut_of e r o) (cut_of e s o)
unfolding cut_of
one d n m r s e h long None = tt
one d n m r s e h long (Some events) = (record { events = refl; items = h; long = long }, tt)

for_item : (d : Description) (n m : ℕ) (r s : List RawItem) (x : RawItem) → AreItemsAlike d r s
    → length r + m ≡ length s + n → AreCutsAlike d n m (cut_for d r x) (cut_for d s x)
unfolding cut_of
for_item d n m r s (Occurred e) h long =
    rw (← cut_alike d r s e h)
    (one d n m r s e (item_more d r s (Occurred e) h) (omega (arith, long)) (cut_events d r e))
for_item d n m r s (Described axis i) h long = tt

pub cuts_alike : (d : Description) (n m : ℕ) (r s xs : List RawItem) → AreItemsAlike d r s
    → length r + m ≡ length s + n → AreCutsAlike d n m (cuts d r xs) (cuts d s xs)
unfolding cuts
cuts_alike d n m r s [] h long = tt
cuts_alike d n m r s (x ∷ xs) h long =
    append d n m (cut_for d r x) (cut_for d s x) (cuts d (x ∷ r) xs) (cuts d (x ∷ s) xs)
    (for_item d n m r s x h long)
    (cuts_alike d n m (x ∷ r) (x ∷ s) xs (item_more d r s x h) (omega (arith, long)))

-- and they arm and disarm the timer alike
pub timers_alike : (d : Description) (n m now : ℕ) (cs ks : List Cut) (t : Timer)
    → AreCutsAlike d n m cs ks → timer_at_cuts d now cs t ≡ timer_at_cuts d now ks t
timers_alike d n m now [] [] t h = refl
timers_alike d n m now [] (k ∷ ks) t h = absurd h
timers_alike d n m now (c ∷ cs) [] t h = absurd h
timers_alike d n m now (c ∷ cs) (k ∷ ks) t h =
    let same : timer_at_events now (setting d c.until REP_DELAY) (setting d c.until REP_PERIOD) c.events t
    ≡ timer_at_events now (setting d k.until REP_DELAY) (setting d k.until REP_PERIOD) k.events t
    = cc (h.0.events, h.0.items.settings REP_DELAY, h.0.items.settings REP_PERIOD) in
    ap (timer_at_cuts d now cs) same ∙ timers_alike d n m now cs ks _ h.1
