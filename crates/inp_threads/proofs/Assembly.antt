-- What comes of a device whose actors all did their lines, each on what it saw of the device's entries.
use Rattle.std.proofs.Common.{◌≡◌, ℕ, ◌<◌, ◌≤◌, false, List, length, reverse, refl, sym, ap, ◌∙◌, arith}
use Rattle.std.proofs.Common.{Option, Some}
use Rattle.std.specs.Prelude.{slice_get, map, flat_map, option_map}
use Rattle.std.specs.List.{range_with_len}
use Rattle.std.proofs.lemmas.List.{length-reverse, reverse-reverse}
use Rattle.std.proofs.lemmas.Option.{slice_get-map, same_Some}
use Rattle.std.proofs.lemmas.Simd.{map-map}
use mathlib.Core.List.{IsPrefix}
use Rattle.inp_script.proofs.Common.{Description, IsDescription, ActorText, DeviceText, Role, is_owner}
use Rattle.inp_script.proofs.Common.{RecordView, IsRecord, UEntry, step_made, HasActor, ActorView}
use Rattle.inp_script.proofs.Common.{ended_of, Owner}
use Rattle.inp_script.specs.Runs.{actors_of, is_on_device}
use Rattle.inp_runs.proofs.Done.{device-promised}
use Rattle.inp_runs.proofs.Lists.{IsAt, IsImage, eq_same, option_map-some, slice_get-filter}
use Rattle.inp_port.specs.Entries.{is_step_at}
use Rattle.inp_runs.specs.Done.{HasFollowed, IsDeviceDone}
use Rattle.inp_runs.specs.Job.{IsRun, calls_at, wait_of}
use Rattle.inp_threads.proofs.Common.{PassView, OwnsSeen, steps_among, step_places, HasWorked, HasOwnedLines}
use Rattle.inp_threads.proofs.Common.{HasDoneLines, Waiting}
use Rattle.inp_port.proofs.Places.{other_places-begins}
use Rattle.inp_threads.proofs.CallsAt.{HasAllCalls, all-calls}
use Rattle.inp_threads.proofs.Counts.{times, sum-places, HasIn, one-has, same-worker, few-numbers}
use Rattle.inp_threads.proofs.Followed.{caller-followed, owner-followed, caller-counts, owner-counts}
use Rattle.inp_threads.proofs.StepPlaces.{no-others, steps-of-all, steps-once}
use Rattle.inp_script.specs.Ended.{HasDeviceSlots}

-- An actor of the record did all its lines on a beginning of the entries, and its view, if one comes of
-- it, has the device's slots.
pub record HasDoneAllLines (r : RecordView) (d : Description) (wait : Option Waiting) (entries : List UEntry)
    (view : PassView Description UEntry) (a : ActorView) : Type 0 where
  -- it did all its lines
  pub worked : HasDoneLines a.role r d wait a view
  -- the record has it
  pub has_actor : HasActor r a
  -- its pass saw a beginning of the entries
  pub seen : IsPrefix view.seen entries
  -- each place that its pass owns is one that it saw
  pub owns : OwnsSeen view
  -- its view, if there is one, has the device's slots
  pub cells : HasDeviceSlots d (ended_of a)

-- a caller or an owner
data Does (r : RecordView) (d : Description) (wait : Option Waiting) (a : ActorView)
    (view : PassView Description UEntry) : Type 0 where
  calls : is_owner a.role ≡ false → HasWorked r d wait a view → Does r d wait a view
  owns : a.role ≡ Owner → HasOwnedLines r d a view → Does r d wait a view

which : (role : Role) (r : RecordView) (d : Description) (wait : Option Waiting) (a : ActorView)
    (view : PassView Description UEntry) → a.role ≡ role → HasDoneLines role r d wait a view
    → Does r d wait a view
which Owner r d wait a view is h = owns is h
which _ r d wait a view is h = calls (ap is_owner is) h

module _ (r : RecordView) (d : Description) (wait : Option Waiting) (entries : List UEntry)
    (view : PassView Description UEntry) (a : ActorView) (h : HasDoneAllLines r d wait entries view a) where
  does : Does r d wait a view
  does = which a.role r d wait a view refl h.worked

  -- the text of the actor has its role
  role_of : (text : ActorText) → slice_get r.actors a.actor ≡ Some text → a.role ≡ text.role
  role_of text is_text =
      let has : HasActor r a = h.has_actor in
      rw (← has.role, same_Some has.text text (sym has.is_text ∙ is_text))

  followed : (text : ActorText) → slice_get r.actors a.actor ≡ Some text
      → (a.role ≡ Owner → HasAllCalls (reverse entries) view.own)
      → HasFollowed r d wait (steps_among step_made entries) text.role a
  followed text is_text all =
      let role : a.role ≡ text.role = role_of text is_text in
      elim does [
        | calls caller w ↦ caller-followed r d wait a view entries text role h.seen h.cells
            (ap is_owner (sym role) ∙ caller) w
        | owns owner w ↦ owner-followed r d wait a view entries text role h.seen h.cells (sym role
            ∙ owner) w (all owner)
      ]

  counts : IsRecord r → (place : ℕ) → calls_at place a ≡ times place (step_places step_made entries view.own)
  counts is_record place =
      let has : HasActor r a = h.has_actor in
      elim does [
        | calls caller w ↦ caller-counts r d wait a view entries has.text (sym has.role) h.seen h.cells h.owns
            (ap is_owner has.role ∙ caller) w is_record has.is_text place
        | owns owner w ↦ owner-counts r d wait a view entries has.text
            (sym has.role) h.seen h.cells h.owns w place
      ]

  -- whoever owns a place without a step is an owner
  owner-there : (place : ℕ) → is_step_at step_made entries place ≡ false → 1 ≤ times place view.own
      → a.role ≡ Owner
  owner-there place away some = elim does [
    | calls caller w ↦
        absurd
        (omega (
          arith,
          some,
          no-others step_made entries view.own place
              (other_places-begins step_made view.seen entries view.own h.seen h.owns ∙ w.others) away,
        ))
    | owns owner w ↦ owner
  ]

-- All actors of a device

module _ {W : Type 0} (view : W → PassView Description UEntry) (actor : W → ActorView) where
  -- Each of them did its lines, and each place of the entries is own to one of them, once.
  pub record AreAllDone (idle : Option ℕ) (r : RecordView) (i : ℕ) (d : Description) (entries : List UEntry)
      (ws : List W) : Type 0 where
    -- they are the actors of the device, in the record's order
    pub numbers : map (λ (a : ActorView). a.actor) (map actor ws) ≡ actors_of r.actors i
    -- each of them did all its lines
    pub each : (k : ℕ) (w : W) → slice_get ws k ≡ Some w
        → HasDoneAllLines r d (wait_of idle r i) entries (view w) (actor w)
    -- each place is own to one of them, once
    pub once : (place : ℕ) → place < length entries → times place (flat_map (λ (w : W). (view w).own) ws) ≡ 1

  module _ (idle : Option ℕ) (r : RecordView) (i : ℕ) (d : Description) (entries : List UEntry) (ws : List W)
      (is_record : IsRecord r) (h : AreAllDone idle r i d entries ws) where
    -- each of them is on the device
    on_it : (k : ℕ) (w : W) (text : ActorText) → slice_get ws k ≡ Some w
        → slice_get r.actors (actor w).actor ≡ Some text → text.device ≡ i
    on_it k w text at is_text =
        let number : slice_get (map (λ (a : ActorView). a.actor) (map actor ws)) k ≡ Some (actor w).actor =
        slice_get-map (λ (a : ActorView). a.actor) (map actor ws) k
        ∙ ap (option_map (λ (a : ActorView). a.actor)) (slice_get-map actor ws k
        ∙ ap (option_map actor) at) in
        let kept : IsAt (λ n. is_on_device i (slice_get r.actors n)) (range_with_len 0 (length r.actors))
        (actor w).actor =
        slice_get-filter (λ n. is_on_device i (slice_get r.actors n)) (range_with_len 0 (length r.actors)) k
        (actor w).actor (rw (← h.numbers) number) in
        eq_same text.device i (sym (ap (is_on_device i) is_text) ∙ kept.passes)

    -- the device has one owner at most
    one-owner : (k m : ℕ) (w u : W) → slice_get ws k ≡ Some w → slice_get ws m ≡ Some u
        → (actor w).role ≡ Owner → (actor u).role ≡ Owner → u ≡ w
    one-owner k m w u at there owner other =
        let a : HasActor r (actor w) = (h.each k w at).has_actor in
        let b : HasActor r (actor u) = (h.each m u there).has_actor in
        let same : (actor u).actor ≡ (actor w).actor =
        is_record.one_owner (actor u).actor (actor w).actor b.text a.text b.is_text a.is_text (b.role ∙ other)
        (a.role ∙ owner) (on_it m u b.text there b.is_text ∙ sym (on_it k w a.text at a.is_text)) in
        same-worker (λ (w : W). (actor w).actor) ws m k u w there at same
        (few-numbers (λ (w : W). (actor w).actor) (λ n. is_on_device i (slice_get r.actors n))
        (length r.actors) ws (sym (map-map (λ (a : ActorView). a.actor) actor ws) ∙ h.numbers))

    -- and that one owns all feedback calls
    owns-all : (k : ℕ) (w : W) → slice_get ws k ≡ Some w → (actor w).role ≡ Owner
        → HasAllCalls (reverse entries) (view w).own
    owns-all k w at owner = all-calls (reverse entries) (view w).own (λ place within away.
        (let below : place < length entries = omega (arith, within, length-reverse entries) in
        let there : is_step_at step_made entries place ≡ false = rw (← reverse-reverse entries) away in
        let one : HasIn (λ (w : W). (view w).own) place ws =
        one-has (λ (w : W). (view w).own) place ws (omega (arith, h.once place below)) in
        let its : (actor one.item).role ≡ Owner =
        owner-there r d (wait_of idle r i) entries (view one.item) (actor one.item)
        (h.each one.index one.item one.is) place there one.some in
        let same : one.item ≡ w = one-owner k one.index w one.item at one.is owner its in
        omega (arith, one.some, ap (λ (u : W). times place (view u).own) same)))

    done_at : (k : ℕ) (a : ActorView) (text : ActorText) → slice_get (map actor ws) k ≡ Some a
        → slice_get r.actors a.actor ≡ Some text
        → HasFollowed r d (wait_of idle r i) (steps_among step_made entries) text.role a
    done_at k a text at is_text =
        let image : IsImage actor (slice_get ws k) a =
        option_map-some actor (slice_get ws k) a (sym (slice_get-map actor ws k) ∙ at) in
        let w : W = image.from in
        let here : slice_get r.actors (actor w).actor ≡ Some text = rw image.same is_text in
        rw image.same at
        (followed r d (wait_of idle r i) entries (view w) (actor w) (h.each k w image.is) text here
        (owns-all k w image.is))

    pub device-done : IsDeviceDone idle r i d (steps_among step_made entries) (map actor ws)
    device-done = record {
      numbers = h.numbers;
      each = done_at;
      once = λ place below.
          sum-places (λ (w : W). step_places step_made entries (view w).own) actor place ws
          (λ k w at. counts r d (wait_of idle r i) entries (view w) (actor w) (h.each k w at) is_record place)
          ∙ ap (times place) (sym (steps-of-all step_made entries (λ (w : W). (view w).own) ws))
          ∙ steps-once step_made entries (flat_map (λ (w : W). (view w).own) ws) h.once place below;
    }

  -- and so all that is promised of the device holds
  pub done-promised : (idle : Option ℕ) (r : RecordView) (i : ℕ) (device : DeviceText) (entries : List UEntry)
      (ws : List W) → IsRecord r → IsDescription device.caps → AreAllDone idle r i device.caps entries ws
      → IsRun idle r i device.caps
      (record { history = steps_among step_made entries; ends = map ended_of (map actor ws) })
  done-promised idle r i device entries ws is_record described h =
      device-promised idle r i device (steps_among step_made entries) (map actor ws) is_record described
      (device-done idle r i device.caps entries ws is_record h)
