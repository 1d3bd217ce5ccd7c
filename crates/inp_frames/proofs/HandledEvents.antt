-- Raw events that come one after another: what the core makes of none, and of some behind others.
use Rattle.std.proofs.Common.{◌≡◌, ℕ, Bool, true, false, if◌then◌else◌, List, [], ◌∷◌, ◌++◌, refl, sym, ap}
use Rattle.std.proofs.Common.{subst, ◌∙◌, append_assoc, map, pos, nat_lt, nat_le, length, Some, None, is_some}
use Rattle.std.proofs.Common.{option_to_list, option_map}
use Rattle.inp_model.specs.declared.event.Event.{Event}
use Rattle.std.proofs.lemmas.List.{map-append}
use Rattle.inp_model.specs.declared.timer.Timer.{Timer}
use Rattle.inp_model.specs.RawItem.{RawItem, Occurred, Cut}
use Rattle.inp_model.specs.Description.{Description}
use Rattle.inp_model.specs.Cut.{raw_after, cut_for, cuts, pending, cut_events, at_frame}
use Rattle.inp_model.specs.Timer.{repeats_keys, timer_at_cuts, timer_at_events, setting, first_timer}
use Rattle.inp_frames.specs.Core.{CoreValues, StandsAfter, CoreStandsFor}
use Rattle.inp_frames.specs.Frames.{TakesAll}
use Rattle.inp_frames.specs.HandledEvents.{Handles, timer_after_cuts, timer_at_frame}
use Rattle.inp_model.specs.Event.{is_report, core_report}
use Rattle.inp_model.specs.Passed.{passed, announced}
use Rattle.inp_model.specs.Past.{is_inhibited}
use Rattle.inp_model.specs.Raw.{raw, timer, raw_and_timer}
use Rattle.inp_state.specs.State.{Values, StateStandsFor}
use Rattle.inp_slots.specs.Slots.{SlotValues, SlotsStandFor}
use Rattle.inp_frames.specs.Batch.{Waiting, are_frame}

raw_after-append : (r xs ys : List RawItem) → raw_after r (xs ++ ys) ≡ raw_after (raw_after r xs) ys
raw_after-append r [] ys = refl
raw_after-append r (x ∷ xs) ys = raw_after-append (x ∷ r) xs ys

cuts-append : (d : Description) (r xs ys : List RawItem)
    → cuts d r (xs ++ ys) ≡ cuts d r xs ++ cuts d (raw_after r xs) ys
unfolding cuts
cuts-append d r [] ys = refl
cuts-append d r (x ∷ xs) ys =
    rw (cuts-append d (x ∷ r) xs ys)
    (sym (append_assoc (cut_for d r x) (cuts d (x ∷ r) xs) (cuts d (raw_after (x ∷ r) xs) ys)))

-- the same of raw events
raw_after-events : (r : List RawItem) (xs ys : List Event)
    → raw_after r (map Occurred (xs ++ ys)) ≡ raw_after (raw_after r (map Occurred xs)) (map Occurred ys)
raw_after-events r xs ys =
    ap (raw_after r) (map-append Occurred xs ys) ∙ raw_after-append r (map Occurred xs) (map Occurred ys)

cuts-events : (d : Description) (r : List RawItem) (xs ys : List Event)
    → cuts d r (map Occurred (xs ++ ys)) ≡ cuts d r (map Occurred xs)
    ++ cuts d (raw_after r (map Occurred xs)) (map Occurred ys)
cuts-events d r xs ys =
    ap (cuts d r) (map-append Occurred xs ys) ∙ cuts-append d r (map Occurred xs) (map Occurred ys)

TakesAll-append : {T : Type 0} (takes : T → List Event → ℕ → T → Type 0) (now : ℕ) (xs ys : List Cut)
    (a b c : T) → TakesAll takes now xs a b → TakesAll takes now ys b c → TakesAll takes now (xs ++ ys) a c
TakesAll-append {T} takes now [] ys a b c h k = rw h at k
TakesAll-append takes now (x ∷ xs) ys a b c h k = (h.0, h.1, TakesAll-append takes now xs ys h.0 b c h.2 k)

timer_at_cuts-append : (d : Description) (now : ℕ) (xs ys : List Cut) (t : Timer)
    → timer_at_cuts d now (xs ++ ys) t ≡ timer_at_cuts d now ys (timer_at_cuts d now xs t)
timer_at_cuts-append d now [] ys t = refl
timer_at_cuts-append d now (x ∷ xs) ys t =
    timer_at_cuts-append d now xs ys
    (timer_at_events now (setting d x.until 0) (setting d x.until 1) x.events t)

pub either : {X : Type 0} (b : Bool) (x : X) → (if b then x else x) ≡ x
either true x = refl
either false x = refl

twice : (b : Bool) (f g : Timer → Timer) (t : Timer)
    → (if b then g (f t) else t) ≡ (let u = if b then f t else t in if b then g u else u)
twice true f g t = refl
twice false f g t = refl

timer_after_cuts-append : (d : Description) (now : ℕ) (xs ys : List Cut) (t : Timer)
    → timer_after_cuts d now (xs ++ ys) t ≡ timer_after_cuts d now ys (timer_after_cuts d now xs t)
timer_after_cuts-append d now xs ys t =
    rw timer_at_cuts-append (twice (repeats_keys d) (timer_at_cuts d now xs) (timer_at_cuts d now ys) t)

-- none
pub Handles-none : {T : Type 0} (d : Description) (r : List RawItem) (now : ℕ) (takes : T → List Event → ℕ → T
    → Type 0) (core : CoreValues) (to : T) → StandsAfter d r core → Handles d r [] now takes core core to to
unfolding cuts
Handles-none d r now takes core to h = record {
  stands_after = h;
  takes_all = refl;
  timer = sym (either (repeats_keys d) core.timer);
  inhibited = refl;
}

-- some behind others
pub Handles-append : {T : Type 0} (d : Description) (r : List RawItem) (xs ys : List Event) (now : ℕ)
    (takes : T → List Event → ℕ → T → Type 0) (old mid new : CoreValues) (to_old to_mid to_new : T)
    → Handles d r xs now takes old mid to_old to_mid
    → Handles d (raw_after r (map Occurred xs)) ys now takes mid new to_mid to_new
    → Handles d r (xs ++ ys) now takes old new to_old to_new
Handles-append d r xs ys now takes old mid new to_old to_mid to_new h k = record {
  stands_after = rw raw_after-events k.stands_after;
  takes_all =
      rw cuts-events
      (TakesAll-append takes now (cuts d r (map Occurred xs))
      (cuts d (raw_after r (map Occurred xs)) (map Occurred ys)) to_old to_mid to_new
      h.takes_all k.takes_all);
  timer = rw (k.timer, h.timer, ← timer_after_cuts-append, ← cuts-events);
  inhibited = k.inhibited ∙ h.inhibited;
}

-- from the same core
pub Handles-from : {T : Type 0} {d : Description} {r : List RawItem} {es : List Event} {now : ℕ} {takes : T
    → List Event → ℕ → T → Type 0} {old before new : CoreValues} {to_old to_new : T} → old ≡ before
    → Handles d r es now takes old new to_old to_new → Handles d r es now takes before new to_old to_new
Handles-from {d} {r} {es} {now} {takes} {new} {to_old} {to_new} same h = rw same at h

-- One raw event, by whether the events that wait are a frame then

-- the frame with these events that e ends after the items r
abbrev cut_of : Event → List RawItem → List Event → Cut
cut_of e r events = record { events = events; until = Occurred e ∷ r }

abbrev waiting : Description → List RawItem → Event → Waiting
waiting d r e = record { events = pending d r ++ passed d r e; hint = d.hint }

-- the events that wait behind what e passes, on a device with this description
pub record WaitsBehind (d : Description) (r : List RawItem) (e : Event) (w : Waiting) : Type 0 where
  pub events : w.events ≡ pending d r ++ passed d r e
  pub hint : w.hint ≡ d.hint

is_waiting : (d : Description) (r : List RawItem) (e : Event) (w : Waiting) → WaitsBehind d r e w
    → w ≡ waiting d r e
is_waiting d r e w h = rw (h.events, h.hint)

-- the events of the frame that e ends
abbrev frame_events : Description → List RawItem → Event → List Event
frame_events d r e =
    if is_report e then pending d r ++ passed d r e else (pending d r ++ passed d r e) ++ core_report ∷ []

-- what follows from whether the events that wait are a frame then
module _ (d : Description) (r : List RawItem) (e : Event) (frame : Bool)
    (is : are_frame (is_report e) (waiting d r e) ≡ frame) where
  abbrev batch : List Event
  batch = pending d r ++ passed d r e

  cut_is : cut_events d r e ≡ (if frame then Some (frame_events d r e) else None)
  cut_is = rw (by_report, is)
    where
      by_report : (report : Bool)
          → (if report then (if nat_lt 1 (length batch) then Some batch else None)
          else if nat_le d.hint (length batch) then Some (batch ++ core_report ∷ []) else None)
          ≡ (if are_frame report (waiting d r e)
          then Some (if report then batch else batch ++ core_report ∷ []) else None)
      by_report true = refl
      by_report false = refl

  pending_is : pending d (Occurred e ∷ r) ≡ (if frame then [] else if is_report e then [] else batch)
  unfolding pending
  pending_is = rw (by_report, is)
    where
      by_report : (report : Bool)
          → (if report then [] else if nat_le d.hint (length batch) then [] else batch) ≡
          (if are_frame report (waiting d r e) then [] else if report then [] else batch)
      by_report true = sym (either (nat_lt 1 (length batch)) [])
      by_report false = refl

  at_frame_is : at_frame d (Occurred e ∷ r) ≡ (if frame then announced d (Occurred e ∷ r) else at_frame d r)
  unfolding at_frame
  at_frame_is = rw cut_is (some_cut frame)
    where
      some_cut : (b : Bool)
          → (if is_some (if b then Some (frame_events d r e) else None) then announced d (Occurred e ∷ r)
          else at_frame d r) ≡ (if b then announced d (Occurred e ∷ r) else at_frame d r)
      some_cut true = refl
      some_cut false = refl

  cuts_are : cuts d r (Occurred e ∷ []) ≡ (if frame then cut_of e r (frame_events d r e) ∷ [] else [])
  unfolding cuts
  cuts_are = rw cut_is (cut_list frame)
    where
      cut_list : (b : Bool) → option_to_list
          (option_map (cut_of e r) (if b then Some (frame_events d r e) else None)) ++ [] ≡
          (if b then cut_of e r (frame_events d r e) ∷ [] else [])
      cut_list true = refl
      cut_list false = refl

-- the core

-- before any step nothing waits, no key is held and the device is not inhibited
pub stands-first : (d : Description) (state : Values) (slots : SlotValues) (w : Waiting) (t : Timer)
    → StateStandsFor d [] state → SlotsStandFor d [] slots → slots.at_frame ≡ pos 0 → w.events ≡ []
    → w.hint ≡ d.hint → t ≡ first_timer
    → CoreStandsFor d []
    (record {
      state = state;
      slots = slots;
      batch = w.events;
      hint = w.hint;
      timer = t;
      inhibited = false;
      goes = false;
    })
unfolding pending at_frame raw timer raw_and_timer is_inhibited
stands-first d state slots w t s k f e h first = record {
  raw_events = record {
    made = record { hint = h; slots = k.count };
    state = s;
    slots = k;
    at_frame = f;
    batch = e;
  };
  timer = first;
  inhibited = refl;
}

-- what the code knows once what e passes is put behind the events that waited
pub record Adds (d : Description) (r : List RawItem) (e : Event) (new : Values) (touched : SlotValues)
    (w : Waiting) : Type 0 where
  pub state : StateStandsFor d (Occurred e ∷ r) new
  pub slots : SlotsStandFor d (Occurred e ∷ r) touched
  pub at_frame : touched.at_frame ≡ at_frame d r
  pub waits : WaitsBehind d r e w

pub adds : (d : Description) (r : List RawItem) (e : Event) (old : CoreValues) (state : Values)
    (slots : SlotValues) (given : List Event) (w : Waiting) → StandsAfter d r old
    → ((q : List RawItem) → StateStandsFor d q old.state → StateStandsFor d (Occurred e ∷ q) state)
    → ((q : List RawItem) → SlotsStandFor d q old.slots → SlotsStandFor d (Occurred e ∷ q) slots)
    → given ≡ passed d r e
    → slots.at_frame ≡ old.slots.at_frame
    → w.events ≡ old.batch ++ given → w.hint ≡ old.hint
    → Adds d r e state slots w
adds d r e old state slots given w h moves touches passes same added hint = record {
  state = moves r h.state;
  slots = touches r h.slots;
  at_frame = same ∙ h.at_frame;
  waits = record {
    events = rw (added, h.batch, passes);
    hint = hint ∙ h.made.hint;
  };
}

frame_is : (d : Description) (r : List RawItem) (e : Event) (w : Waiting) (report frame : Bool)
    → WaitsBehind d r e w → report ≡ is_report e → frame ≡ are_frame report w
    → are_frame (is_report e) (waiting d r e) ≡ frame
frame_is d r e w report frame h p f = sym (rw (f, p, is_waiting d r e w h))

-- the core waits for more
pub handles-more : {T : Type 0} (d : Description) (r : List RawItem) (e : Event) (now : ℕ) (takes : T
    → List Event → ℕ → T → Type 0) (old : CoreValues) (to : T) (state : Values) (slots : SlotValues)
    (w left : Waiting) (goes report frame : Bool) → Adds d r e state slots w → report ≡ is_report e
    → frame ≡ are_frame report w → frame ≡ false → left.events ≡ (if report then [] else w.events)
    → left.hint ≡ w.hint
    → Handles d r (e ∷ []) now takes old
    (record {
      state = state;
      slots = slots;
      batch = left.events;
      hint = left.hint;
      timer = old.timer;
      inhibited = old.inhibited;
      goes = goes;
    }) to to
handles-more d r e now takes old to state slots w left goes report frame h p f off events hint =
    let none : are_frame (is_report e) (waiting d r e) ≡ false =
    frame_is d r e w report frame h.waits p f ∙ off in
    record {
      stands_after = record {
        made = record { hint = hint ∙ h.waits.hint; slots = h.slots.count };
        state = h.state;
        slots = h.slots;
        at_frame = h.at_frame ∙ sym (at_frame_is d r e false none);
        batch = rw (events, p, h.waits.events) (sym (pending_is d r e false none));
      };
      takes_all = rw (cuts_are d r e false none) refl;
      timer = rw (cuts_are d r e false none, either);
      inhibited = refl;
    }

-- the events of the frame, as the code has them
framed : (d : Description) (r : List RawItem) (e : Event) (w : Waiting) (report : Bool) (given : List Event)
    → WaitsBehind d r e w → report ≡ is_report e
    → given ≡ (if report then w.events else w.events ++ core_report ∷ []) → given ≡ frame_events d r e
framed d r e w report given h p q = rw (q, p, h.events)

-- the timer after the frame, by the settings of the state at its end
timer-ends : (d : Description) (r : List RawItem) (e : Event) (now : ℕ) (s : Values) (given : List Event)
    (t : Timer) → StateStandsFor d (Occurred e ∷ r) s → given ≡ frame_events d r e
    → cuts d r (Occurred e ∷ []) ≡ cut_of e r (frame_events d r e) ∷ []
    → timer_at_frame d now s given t ≡ timer_after_cuts d now (cuts d r (Occurred e ∷ [])) t
timer-ends d r e now s given t h g c = rw (c, ← g, ← h.period, ← h.delay)

-- the frame was passed on, and nothing waits
pub handles-cut : {T : Type 0} (d : Description) (r : List RawItem) (e : Event) (now : ℕ) (takes : T
    → List Event → ℕ → T → Type 0) (old : CoreValues) (to_old to_new : T) (state : Values)
    (slots after : SlotValues) (w left : Waiting) (passed_on : List Event) (timer : Timer)
    (goes report frame : Bool) → Adds d r e state slots w → report ≡ is_report e
    → frame ≡ are_frame report w → frame ≡ true
    → passed_on ≡ (if report then w.events else w.events ++ core_report ∷ [])
    → timer ≡ timer_at_frame d now state passed_on old.timer
    → takes to_old passed_on now to_new
    → left.events ≡ [] → left.hint ≡ w.hint → after ≡ record slots { at_frame = slots.announced }
    → Handles d r (e ∷ []) now takes old
    (record {
      state = state;
      slots = after;
      batch = left.events;
      hint = left.hint;
      timer = timer;
      inhibited = old.inhibited;
      goes = goes;
    }) to_old to_new
handles-cut d r e now takes old to_old to_new state slots after w left passed_on timer goes report frame h p f
    on given armed took events hint told =
    let some : are_frame (is_report e) (waiting d r e) ≡ true =
    frame_is d r e w report frame h.waits p f ∙ on in
    let ends : cuts d r (Occurred e ∷ []) ≡ cut_of e r (frame_events d r e) ∷ [] = cuts_are d r e true some in
    let same : passed_on ≡ frame_events d r e = framed d r e w report passed_on h.waits p given in
    let frames_at : SlotsStandFor d (Occurred e ∷ r) after =
    subst (SlotsStandFor d (Occurred e ∷ r)) (sym told)
    (record {
      count = h.slots.count;
      staged = h.slots.staged;
      announced = h.slots.announced;
      values = h.slots.values;
    }) in
    record {
      stands_after = record {
        made = record { hint = hint ∙ h.waits.hint; slots = frames_at.count };
        state = h.state;
        slots = frames_at;
        at_frame = rw (told, h.slots.announced) (sym (at_frame_is d r e true some));
        batch = events ∙ sym (pending_is d r e true some);
      };
      takes_all = rw ends (to_new, rw same at took, refl);
      timer = armed ∙ timer-ends d r e now state passed_on old.timer h.state same ends;
      inhibited = refl;
    }
