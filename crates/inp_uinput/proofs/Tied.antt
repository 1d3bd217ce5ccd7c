-- Calls of an evdev leave the feedback calls of a device with its owner as they are.
use Rattle.std.proofs.Common.{◌≡◌, ℕ, Bool, true, false, if◌then◌else◌, List, [], ◌∷◌, refl, ap, ◌∙◌, Some}
use Rattle.std.proofs.Common.{None, ℤ}
use Rattle.inp_model.specs.declared.taken.Taken.{Taken}
use Rattle.inp_model.specs.declared.step.Step.{Step}
use Rattle.inp_model.specs.declared.reply.Reply.{Reply}
use Rattle.inp_model.specs.declared.stamped.Stamped.{Stamped}
use Rattle.inp_model.specs.declared.injected.Injected.{Injected}
use Rattle.inp_model.specs.DeviceView.{evdev_view}
use Rattle.inp_model.specs.Evdev.{EvdevView, IsCall, IsEvdevCall}
use Rattle.inp_model.specs.Injection.{inject_of, IsInjectAll}
use Rattle.inp_model.specs.Leaves.{AreCalls}
use Rattle.inp_model.specs.Reply.{is_accepted}
use Rattle.inp_model.specs.Run.{Call}
use Rattle.inp_model.proofs.Leaves.{tie-kept}
use Rattle.inp_feedback.specs.declared.u_entry.UEntry.{UEntry}
use Rattle.inp_feedback.specs.declared.u_entry.UEntry.TheVariants.{Made}
use Rattle.inp_feedback.specs.UEntry.{kept_after_step, kept_after_events}
use Rattle.inp_feedback.specs.KeptList.{calls_in, feedback_numbers, call_numbers}
use Rattle.inp_feedback.proofs.Woven.{numbers-apart}
use Rattle.inp_uinput.specs.UdevView.{UdevView, device_of, owned_view}

-- A step, and many events, are no feedback calls

calls-step : (b : Bool) (x : Step) (kept : List UEntry)
    → calls_in (if b then Made x ∷ kept else kept) ≡ calls_in kept
calls-step true x kept = refl
calls-step false x kept = refl

calls-events : (events : List Stamped) (kept : List UEntry)
    → calls_in (kept_after_events events kept) ≡ calls_in kept
calls-events [] kept = refl
calls-events (stamped ∷ events) kept = calls-events events (Made (inject_of stamped) ∷ kept)

-- a step is no feedback call, so these stay as they were
pub numbers-step : (reply : Reply) (x : Step) (kept new : List UEntry) → new ≡ kept_after_step reply x kept
    → call_numbers new ≡ call_numbers kept
numbers-step reply x kept new h =
    ap call_numbers h ∙ ap feedback_numbers (calls-step (is_accepted reply) x kept)

-- injected events are no feedback calls, so these stay as they were
pub numbers-events : (events : List Stamped) (kept new : List UEntry) → new ≡ kept_after_events events kept
    → call_numbers new ≡ call_numbers kept
numbers-events events kept new h = ap call_numbers h ∙ ap feedback_numbers (calls-events events kept)

-- What is told with the tie

-- the call is that of the steps alone, and the tie stays as the feedback calls do
pub owned_called : (before after : UdevView) (x : Step) (reply : Reply) (out new_out : List Taken)
    (cells new_cells : List ℤ)
    → IsEvdevCall (evdev_view (device_of before))
    (evdev_view (device_of after)) x reply out new_out cells new_cells
    → call_numbers after.kept ≡ call_numbers before.kept
    → IsEvdevCall (owned_view before) (owned_view after) x reply out new_out cells new_cells
owned_called before after x reply out new_out cells new_cells h tie = record {
  call = h.call;
  step = h.step;
  replied = h.replied;
  out_written = h.out_written;
  cells_written = h.cells_written;
  is_call = assumption (ap Some tie, h.is_call);
  turns = h.turns;
}

-- the injection is that of the steps alone, and the tie stays as the feedback calls do
pub owned_injected : (before after : UdevView) (events : List Stamped) (injected : Injected)
    → IsInjectAll (evdev_view (device_of before)) (evdev_view (device_of after)) events injected
    → call_numbers after.kept ≡ call_numbers before.kept
    → IsInjectAll (owned_view before) (owned_view after) events injected
owned_injected before after events injected h tie = record {
  found = h.found;
  description = h.description;
  tie = ap Some tie;
  begins = h.begins;
  from = h.from;
  count = h.count;
  within = h.within;
  seen = h.seen;
  own = h.own;
  agains = h.agains;
  turns = h.turns;
  history = h.history;
}

-- What calls of an evdev leave

abbrev untied : EvdevView → EvdevView
untied v = record v { tie = None }

untied-call : (before after : EvdevView) (call : Call) → IsCall before after call
    → IsCall (untied before) (untied after) call
untied-call before after call c = assumption

untied-all : (before after : EvdevView) (calls : List Call) → AreCalls before after calls
    → AreCalls (untied before) (untied after) calls
unfolding AreCalls
untied-all before after [] h = ap untied h
untied-all before after (call ∷ calls) h =
    (untied h.0, untied-call before h.0 call h.1, untied-all h.0 after calls h.2)

-- they are calls of the device without its owner too
pub untied-calls : (before after : UdevView) (calls : List Call)
    → AreCalls (owned_view before) (owned_view after) calls
    → AreCalls (evdev_view (device_of before)) (evdev_view (device_of after)) calls
untied-calls before after calls h = untied-all (owned_view before) (owned_view after) calls h

-- and its feedback calls stay
pub tied-calls : (before after : UdevView) (calls : List Call)
    → AreCalls (owned_view before) (owned_view after) calls → calls_in after.kept ≡ calls_in before.kept
tied-calls before after calls h =
    numbers-apart after.kept before.kept
    (some_same (call_numbers after.kept) (call_numbers before.kept)
    (tie-kept (owned_view before) (owned_view after) calls h))
  where
    some_same : (xs ys : List ℕ) → Some xs ≡ Some ys → xs ≡ ys
    some_same xs ys e = cc
