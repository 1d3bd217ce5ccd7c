-- An answer of a reader leaves it less to do: each call that is accepted takes a place of the history, and
-- each other answer but Again takes an event that was read or made before.
use Rattle.std.proofs.Common.{◌≡◌, ℕ, suc, ◌+◌, ◌*◌, ◌<◌, ◌≤◌, true, false, List, [], length, None, refl, ap}
use Rattle.std.proofs.Common.{◌∙◌, arith, length-append}
use Rattle.std.specs.Prelude.{Result, Ok, Err}
use Rattle.std.proofs.lemmas.Bool.{true≢false}
use Rattle.std.proofs.lemmas.Bool.Decides.{nat_tests}
use Rattle.std.proofs.Math.Nat.{mul-le-mul_right}
use Rattle.inp_model.specs.declared.event.Event.{Event}
use Rattle.inp_model.specs.declared.step.Step.{Step}
use Rattle.inp_model.specs.declared.step.Step.TheVariants.{Read}
use Rattle.inp_model.specs.declared.reply.Reply.{Reply}
use Rattle.inp_model.specs.Description.{Description}
use Rattle.inp_model.specs.Evdev.{EvdevView, IsCall}
use Rattle.inp_model.specs.Past.{past_at}
use Rattle.inp_model.specs.Reply.{Answer, IsAnswer, refused, is_accepted, is_full}
use Rattle.inp_model.specs.Run.{Call, place_of, next_place}
use Rattle.inp_model.proofs.Allowed.{allowed}
use Rattle.inp_model.proofs.Refused.{accepted-unrefused}
use Rattle.inp_model.proofs.Told.{given_place}
use Rattle.inp_recon.specs.declared.view.View.{View}
use Rattle.inp_recon.specs.View.{IsSizedFor, view_after_event}
use Rattle.inp_reader.specs.declared.call_made.CallMade.{CallMade}
use Rattle.inp_reader.specs.declared.mode.Mode.{Mode}
use Rattle.inp_reader.specs.declared.mode.Mode.TheVariants.{Sync as Synchronising}
use Rattle.inp_reader.specs.declared.phase.Phase.{Phase}
use Rattle.inp_reader.specs.declared.phase.Phase.TheVariants.{Plain, Needed}
use Rattle.inp_reader.specs.declared.next.Next.{Next}
use Rattle.inp_reader.specs.Reader.{ReaderState, stop_of, as_plain, after_full_sync, after_failed_sync}
use Rattle.inp_reader.specs.Reader.{next_talk}
use Rattle.inp_reader.specs.Effort.{steps_left, most_events, held_back, effort, IsLess, is_idle}
use Rattle.inp_reader.specs.FollowsTalk.{FollowsTalk}
use Rattle.inp_reader.specs.Synthesis.{synth}
use Rattle.inp_reader.proofs.Meets.{Any, IsCallOn}
use Rattle.inp_reader.proofs.NextWalk.{AskRules, sync-meets, Renewed, NextRules, next-says, stop-cases}
use Rattle.inp_reader.proofs.Counts.{length-synth_sized}
use Rattle.inp_reader.proofs.ReadCounts.{few-taken}

-- No accepted step is past the limit

not_full : (d : Description) (past : List Step) (x : Step) → refused d past x ≡ None
    → length past < d.log_limit
not_full d past x h =
    let full : is_full d past ≡ false = (allowed d past x h).room in
    grind (arith, nat_tests, full)

-- an accepted step's place is below the limit
pub place-below : (d : Description) (past : List Step) (x : Step) (given : Answer) → IsAnswer d past x given
    → is_accepted given.reply ≡ true → place_of given.reply < d.log_limit
place-below d past x given h is =
    omega (arith, given_place d past x given h, not_full d past x (accepted-unrefused d past x given h is))

-- What calls leave of the history

next_place-accepted : (reply : Reply) → is_accepted reply ≡ true → next_place reply ≡ suc (place_of reply)
next_place-accepted reply h = rw h

steps_left-call : (a b : EvdevView) (call : Call) → IsCall a b call → steps_left b ≤ steps_left a
steps_left-call a b call h =
    let more : length b.seen ≡ length a.seen + length h.seen.0 =
    ap length h.seen.1 ∙ length-append a.seen h.seen.0 in
    omega (arith, more, ap (λ (d : Description). d.log_limit) h.description)

steps_left-accepted : (a b : EvdevView) (call : Call) → IsCall a b call → is_accepted call.answer.reply ≡ true
    → steps_left b < steps_left a
steps_left-accepted a b call h is =
    let long : length b.seen ≡ suc (place_of call.answer.reply) =
    h.long ∙ next_place-accepted call.answer.reply is in
    let below =
    place-below b.description (past_at b.seen (place_of call.answer.reply)) call.step call.answer
    h.placed.exact is in
    omega (arith, long, below, h.fresh, ap (λ (d : Description). d.log_limit) h.description)

-- Answers that leave less to do

is_less-stopped : (reply : Reply) (after before : ℕ) → after ≤ before → IsLess (stop_of reply) after before
is_less-stopped reply after before h =
    stop-cases (λ next. IsLess next after before) reply (λ at ends is. h) tt tt (λ at. tt)

-- what an answer leaves is less than before
abbrev LeavesLess : ℕ → EvdevView → Next × ReaderState → Type 0
LeavesLess before b o = IsLess o.0 (effort b o.1) before

-- one place less is worth more than all that a call hands out
place_worth : (left before most behind : ℕ) → left < before → behind < most
    → left * most + behind < before * most
place_worth left before most behind h k =
    omega (arith, mul-le-mul_right most (let one_more : left + 1 ≤ before = omega arith in one_more))

-- by the device's description
effort-of : (d : Description) (t : EvdevView) (r : ReaderState) → t.description ≡ d
    → effort t r ≡ steps_left t * most_events d + (length r.queue + held_back r.phase r.left)
unfolding effort
effort-of d t r h =
    let e : steps_left t * most_events t.description ≡ steps_left t * most_events d = rw h in
    omega (arith, e)

effort-plain : (d : Description) (a : EvdevView) (r : ReaderState) → a.description ≡ d → r.phase ≡ Plain
    → effort a r ≡ steps_left a * most_events d + length r.queue
effort-plain d a r same plain =
    omega (arith, effort-of d a r same, ap (λ (p : Phase). held_back p r.left) plain)

-- Synchronising

synced-less : (d : Description) (a b : EvdevView) (r : ReaderState) (view : View) → a.description ≡ d
    → b.description ≡ d → IsSizedFor d.slots r.view → steps_left b < steps_left a
    → effort b (after_full_sync r view) ≤ effort a r
synced-less d a b r view same same_b sized falls =
    let made : List Event = synth r.view view in
    let few : length made ≤ 963 + 17 * d.slots = length-synth_sized d.slots r.view view sized in
    let worth : steps_left b * most_events d + suc (length made) < steps_left a * most_events d =
    place_worth (steps_left b) (steps_left a) (most_events d) (suc (length made)) falls
    (omega (arith, few)) in
    omega (arith, worth, effort-of d b (after_full_sync r view) same_b, effort-of d a r same)

failed-less : (d : Description) (a b : EvdevView) (r : ReaderState) → a.description ≡ d → b.description ≡ d
    → steps_left b ≤ steps_left a → effort b (after_failed_sync r) ≤ effort a r
failed-less d a b r same same_b falls =
    let fall = mul-le-mul_right (most_events d) falls in
    omega (arith, fall, effort-of d b (after_failed_sync r) same_b, effort-of d a r same)

-- `next`

-- no more is left to do than this, and a call of `next` has something to do
record IsWithin (d : Description) (most : ℕ) (mode : Mode) (told : EvdevView) (r : ReaderState) : Type 0 where
  described : told.description ≡ d
  within : effort told r ≤ most
  sized : r.phase ≡ Needed → IsSizedFor d.slots r.view
  busy : mode ≡ Synchronising → r.phase ≡ Plain → ⊥

-- before a synchronisation's steps: no more of the history is left than this, and less once a step was
-- accepted
record HasLess (d : Description) (n : ℕ) (told : EvdevView) (view : View) (left : List Step) : Type 0 where
  described : told.description ≡ d
  falls : steps_left told ≤ n
  fell : left ≡ [] → steps_left told < n

less-asks : (d : Description) (n : ℕ) (Q : EvdevView → Result View Reply → Type 0)
    → ((told : EvdevView) (view : View) → told.description ≡ d → steps_left told < n → Q told (Ok view))
    → ((told : EvdevView) (reply : Reply) → told.description ≡ d → steps_left told ≤ n → Q told (Err reply))
    → AskRules Any IsCallOn (HasLess d n) Q
less-asks d n Q whole stopped = record {
  asks = λ s view x xs j. tt;
  told = λ s t view x xs a j h is.
      let fall : steps_left t < steps_left s =
      steps_left-accepted s t (record { step = x; answer = a }) h is in
      record {
        described = h.description ∙ j.described;
        falls = omega (arith, fall, j.falls);
        fell =
            λ none. omega (arith, fall, j.falls);
      };
  stopped = λ s t view x xs a j h is.
      stopped t a.reply (h.description ∙ j.described)
      (omega (arith, steps_left-call s t (record { step = x; answer = a }) h, j.falls));
  whole = λ s view j. whole s view j.described (j.fell refl);
}

less-rules : (d : Description) (most : ℕ) (mode : Mode)
    → NextRules Any IsCallOn (IsWithin d most mode) (LeavesLess most) d mode
less-rules d most mode = record {
  asks_read = λ s r i. tt;
  reads = λ s t r a i plain none h is. record {
    described = h.description ∙ i.described;
    within = less-read s t r a i plain h is;
    sized = i.sized;
    busy = i.busy;
  };
  stops = λ s t r a i plain none h is.
      let falls : steps_left t * most_events d ≤ steps_left s * most_events d =
      mul-le-mul_right (most_events d)
      (steps_left-call s t (record { step = Read r.client 64; answer = a }) h) in
      is_less-stopped a.reply (effort t r) most
      (omega (
        arith,
        falls,
        effort-of d s r i.described,
        effort-of d t r (h.description ∙ i.described),
        i.within,
      ));
  hands = λ s r taken rest i plain q is.
      omega (
        arith,
        effort-plain d s r i.described plain,
        effort-plain d s (record r { queue = rest; view = view_after_event r.view taken.event }) i.described
            plain,
        ap length q,
        i.within,
      );
  loses = λ s r taken rest i plain q is.
      omega (
        arith,
        effort-plain d s r i.described plain,
        effort-of d s
            (record r { queue = rest; view = view_after_event r.view taken.event; phase = Needed })
            i.described,
        ap length q,
        i.within,
      );
  empty = λ s r i plain q. tt;
  idles = λ s r i plain is. absurd (i.busy is plain);
  syncs = λ s r i needed.
      let Q : EvdevView → Result View Reply → Type 0 = Renewed (IsWithin d most mode) (LeavesLess most) r in
      sync-meets Any IsCallOn (HasLess d (steps_left s)) Q d s r
      (less-asks d (steps_left s) Q
      (λ t view same fall. record {
        described = same;
        within = omega (arith, synced-less d s t r view i.described same (i.sized needed) fall, i.within);
        sized = λ e. absurd cc;
        busy = λ e p. cc;
      })
      (λ t reply same falls. is_less-stopped reply (effort t (after_failed_sync r)) most
      (omega (arith, failed-less d s t r i.described same falls, i.within))))
      (record { described = i.described; falls = omega arith; fell = λ none. absurd cc });
  makes = λ s r event left i handing sync is.
      omega (
        arith,
        effort-of d s r i.described,
        effort-of d s (record r { left = left }) i.described,
        ap (λ (p : Phase). held_back p r.left) handing,
        ap (λ (p : Phase). held_back p left) handing,
        ap length is,
        i.within,
      );
  made_all = λ s r i handing sync is.
      omega (
        arith,
        effort-of d s r i.described,
        effort-of d s (as_plain r) i.described,
        ap (λ (p : Phase). held_back p r.left) handing,
        i.within,
      );
  goes_on = λ s r i handing is. record {
    described = i.described;
    within = omega (arith, effort-of d s r i.described, effort-of d s (as_plain r) i.described, i.within);
    sized = λ e. absurd cc;
    busy = λ e p. cc;
  };
}
  where
    less-read : (s t : EvdevView) (r : ReaderState) (a : Answer) → IsWithin d most mode s r → r.phase ≡ Plain
        → IsCallOn s (Read r.client 64) a t → is_accepted a.reply ≡ true
        → effort t (record r { queue = a.events }) ≤ most
    less-read s t r a i plain h is =
        let few : length a.events ≤ 64 =
        few-taken t.description (past_at t.seen (place_of a.reply)) r.client 64 a h.placed.exact is in
        let worth : steps_left t * most_events d + length a.events < steps_left s * most_events d =
        place_worth (steps_left t) (steps_left s) (most_events d) (length a.events)
        (steps_left-accepted s t (record { step = Read r.client 64; answer = a }) h is)
        (omega (arith, few)) in
        omega (
          arith,
          worth,
          effort-plain d s r i.described plain,
          effort-plain d t (record r { queue = a.events }) (h.description ∙ i.described) plain,
          i.within,
        )

-- each `next` but an idle one
pub says-less : (d : Description) {before after : EvdevView} {old made : List CallMade} (mode : Mode)
    (r : ReaderState) {s : ReaderState} {next : Next} → before.description ≡ d → IsSizedFor d.slots r.view
    → FollowsTalk before after old made (next_talk d mode r) (next, s) → is_idle mode r.phase ≡ false
    → IsLess next (effort after s) (effort before r)
says-less d {before} {after} {old} {made} mode r {s} {next} same sized h busy =
    let most : ℕ = effort before r in
    next-says (IsWithin d most mode) (LeavesLess most) d mode
    (less-rules d most mode) before after old made r (next, s)
    (record {
      described = same;
      within = omega arith;
      sized = λ needed. sized;
      busy =
          λ is plain. true≢false (rw (plain, is) at busy);
    }) h
