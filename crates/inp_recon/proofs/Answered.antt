-- What an answer makes of each part of a view.
use Rattle.std.proofs.Common.{◌≡◌, ℤ, Bool, List, refl}
use Rattle.inp_model.specs.declared.step.Step.{Step}
use Rattle.inp_model.specs.declared.step.Step.TheVariants.{GetKeys, GetSwitches, GetLeds, GetAxis, SyncSlots}
use Rattle.inp_model.specs.declared.reply.Reply.{Reply}
use Rattle.inp_recon.specs.declared.view.View.{View}
use Rattle.inp_recon.specs.View.{key_count, code_count, flags_after_reply, axes_after_reply, slot_after_reply}
use Rattle.inp_recon.specs.View.{cells_after_reply, view_after_answer}

-- all keys are as the answer to their query tells
abbrev pub keys_after_answer : Step → Reply → List Bool → List Bool
keys_after_answer (GetKeys client) reply keys = flags_after_reply key_count reply keys
keys_after_answer _ reply keys = keys

abbrev pub switches_after_answer : Step → Reply → List Bool → List Bool
switches_after_answer (GetSwitches client) reply switches = flags_after_reply code_count reply switches
switches_after_answer _ reply switches = switches

abbrev pub leds_after_answer : Step → Reply → List Bool → List Bool
leds_after_answer (GetLeds client) reply leds = flags_after_reply code_count reply leds
leds_after_answer _ reply leds = leds

-- the axis that was asked for has the value that was told
abbrev pub axes_after_answer : Step → Reply → List ℤ → List ℤ
axes_after_answer (GetAxis client code) reply axes = axes_after_reply code reply axes
axes_after_answer _ reply axes = axes

-- the current slot is the one that a synchronisation of slots tells
abbrev pub slot_after_answer : Step → Reply → ℤ → ℤ
slot_after_answer (SyncSlots client) reply slot = slot_after_reply reply slot
slot_after_answer _ reply slot = slot

-- all values of all slots are those that a synchronisation of slots wrote to the buffer
abbrev pub cells_after_answer : Step → Reply → List ℤ → List ℤ → List ℤ
cells_after_answer (SyncSlots client) reply buffer cells = cells_after_reply reply buffer cells
cells_after_answer _ reply buffer cells = cells

-- a view after an answer, part by part
abbrev pub answered_parts : View → Step → Reply → List ℤ → View
answered_parts v x reply buffer = record {
  keys = keys_after_answer x reply v.keys;
  switches = switches_after_answer x reply v.switches;
  leds = leds_after_answer x reply v.leds;
  axes = axes_after_answer x reply v.axes;
  slot = slot_after_answer x reply v.slot;
  cells = cells_after_answer x reply buffer v.cells;
}

pub view_after_answer-parts : (v : View) (x : Step) (reply : Reply) (buffer : List ℤ)
    → view_after_answer v x reply buffer ≡ answered_parts v x reply buffer
unfolding view_after_answer
view_after_answer-parts v (GetKeys client) reply buffer = refl
view_after_answer-parts v (GetSwitches client) reply buffer = refl
view_after_answer-parts v (GetLeds client) reply buffer = refl
view_after_answer-parts v (GetAxis client code) reply buffer = refl
view_after_answer-parts v (SyncSlots client) reply buffer = refl
view_after_answer-parts v _ reply buffer = refl
