-- Events that are entered one after another.
use Rattle.std.proofs.Common.{◌≡◌, ℕ, suc, ◌+◌, ◌-◌, ◌<◌, ◌≤◌, List, [], ◌∷◌, ◌++◌, length, map, take}
use Rattle.std.proofs.Common.{reverse, get_or, refl, sym, ap, ◌∙◌, pos, arith, append_assoc, append-nil}
use Rattle.std.specs.Prelude.{min}
use Rattle.std.proofs.lemmas.List.{length-reverse, length-take, take_more, get_or-take, map-append}
use Rattle.inp_model.specs.declared.stamped.Stamped.{Stamped}
use Rattle.inp_model.specs.declared.step.Step.{Step}
use Rattle.inp_model.specs.DeviceView.{DeviceView}
use Rattle.inp_model.specs.History.{IsHistory}
use Rattle.inp_model.specs.Injection.{inject_of, history_with}
use Rattle.inp_device.specs.Device.{StoringView, plain_view, stored_most, stored_since}
use Rattle.inp_model.proofs.Injection.{history_with-long}
use Rattle.inp_model.proofs.Told.{turned}

abbrev pub no_stamped : Stamped
no_stamped = record { event = record { kind = 0; code = 0; value = pos 0 }; now = 0 }

-- A device after so many of these events, which it had not yet when it was the first one.
pub record HasEntered (first : StoringView) (events : List Stamped) (count : ℕ)
    (device : StoringView) : Type 0 where
  -- no event changes the description
  pub description : device.description ≡ first.description
  -- injecting is never answered Again, so the count of such answers stays
  pub agains : device.agains ≡ first.agains
  -- the history is the first one's, and so many of the events behind it
  pub entered : reverse device.past ≡ history_with (reverse first.past) count events
  -- no more was added to what is kept than these steps may add
  pub stored : device.stored ≤ first.stored + stored_since device.description count device.past
  -- each step of the history was accepted
  pub accepted : IsHistory device.description device.past

-- before the first event the device is as it was
pub entered-none : (device : StoringView) (events : List Stamped) → IsHistory device.description device.past
    → HasEntered device events 0 device
entered-none device events h =
    record {
      description = refl;
      agains = refl;
      entered = sym (append-nil (reverse device.past));
      stored = omega arith;
      accepted = h;
    }

entered-long : (first : StoringView) (events : List Stamped) (count : ℕ) (device : StoringView)
    → HasEntered first events count device → count ≤ length events
    → length device.past ≡ length first.past + count
entered-long first events count device h few =
    rw (← length-reverse, h.entered, history_with-long, length-reverse)

-- one of those for which there is room
pub entered-room : (first : StoringView) (events : List Stamped) (most count : ℕ) (device : StoringView)
    → HasEntered first events count device
    → most ≡ min (length events) (first.description.log_limit - length first.past)
    → count < length (take most events) → length device.past < device.description.log_limit
entered-room first events most count device h is below =
    let few : count < most = omega (arith, below, length-take most events) in
    let long : length device.past ≡ length first.past + count =
    entered-long first events count device h (omega (arith, few, is)) in
    let limit : device.description.log_limit ≡ first.description.log_limit = rw h.description in
    omega (arith, few, is, long, limit)

history_with-more : (history : List Step) (events : List Stamped) (count : ℕ) → count < length events
    → history_with history (count + 1) events ≡ history_with history count events
    ++ inject_of (get_or events count no_stamped) ∷ []
history_with-more history events count h =
    let one : List Stamped = get_or events count no_stamped ∷ [] in
    rw (take_more events count no_stamped h, map-append)
    (sym (append_assoc history (map inject_of (take count events)) (map inject_of one)))

stored-more : (first : StoringView) (events : List Stamped) (count : ℕ) (device new : StoringView) (x : Step)
    → HasEntered first events count device
    → (let now : DeviceView = record (plain_view device) { past = x ∷ device.past } in plain_view new ≡ now)
    → new.stored ≤ device.stored + stored_most device.description device.past x
    → new.stored ≤ first.stored + stored_since new.description (count + 1) new.past
stored-more first events count device new x h same grows =
    let more : count + 1 ≡ suc count = omega arith in
    let is : stored_since new.description (count + 1) new.past
    ≡ stored_most device.description device.past x + stored_since device.description count device.past =
    ap (λ (n : ℕ). stored_since new.description n new.past) more
    ∙ ap (λ (d : DeviceView). stored_since d.description (suc count) d.past) same in
    omega (arith, is, grows, h.stored)

-- the next event comes behind those that were entered, and adds no more than its step may
pub entered-more : (first : StoringView) (events : List Stamped) (most count : ℕ) (device new : StoringView)
    (stamped : Stamped) → HasEntered first events count device → count < length (take most events)
    → stamped ≡ get_or (take most events) count no_stamped
    → (let now : DeviceView = record (plain_view device) { past = inject_of stamped ∷ device.past } in
    plain_view new ≡ now)
    → new.stored ≤ device.stored + stored_most device.description device.past (inject_of stamped)
    → IsHistory new.description new.past → HasEntered first events (count + 1) new
entered-more first events most count device new stamped h below is same grows accepted =
    let few : count < most = omega (arith, below, length-take most events) in
    let within : count < length events = omega (arith, below, length-take most events) in
    let item : stamped ≡ get_or events count no_stamped = is ∙ get_or-take most events count no_stamped few in
    record {
      description = ap (λ (d : DeviceView). d.description) same ∙ h.description;
      agains = ap (λ (d : DeviceView). d.agains) same ∙ h.agains;
      entered = ap (λ (d : DeviceView). reverse d.past) same ∙ turned device.past (inject_of stamped)
          ∙ ap (λ (xs : List Step). xs ++ inject_of stamped ∷ []) h.entered
          ∙ ap (λ (s : Stamped). history_with (reverse first.past) count events ++ inject_of s ∷ []) item
          ∙ sym (history_with-more (reverse first.past) events count within);
      stored = stored-more first events count device new (inject_of stamped) h same grows;
      accepted = accepted;
    }
