-- The current slot of a view and its values of slots follow the device.
use Rattle.std.proofs.Common.{◌≡◌, ◌<◌, ℕ, pos, true, false, nat_eq, List, length, get_or, refl, ◌∙◌, inl}
use Rattle.std.proofs.Common.{inr, arith}
use Rattle.std.proofs.lemmas.Bool.{cases_Bool, eqb-true}
use Rattle.std.proofs.lemmas.List.{get_or-take}
use Rattle.inp_model.specs.declared.event.TheConstants.{EV_ABS}
use Rattle.inp_model.specs.declared.event.Event.{Event}
use Rattle.inp_model.specs.declared.step.Step.{Step}
use Rattle.inp_model.specs.declared.step.Step.TheVariants.{SyncSlots}
use Rattle.inp_model.specs.Description.{Description, is_slot_code}
use Rattle.inp_model.specs.Event.{is_slot_value}
use Rattle.inp_model.specs.Step.{Codes, Slots, is_part_of}
use Rattle.inp_model.specs.State.{cell}
use Rattle.inp_model.specs.Cut.{at_frame}
use Rattle.inp_model.specs.Raw.{raw}
use Rattle.inp_model.specs.Left.{Eats}
use Rattle.inp_model.specs.Queue.{queue_with}
use Rattle.inp_model.specs.Reply.{rows}
use Rattle.inp_recon.specs.declared.view.View.{View}
use Rattle.inp_recon.specs.Cells.{cell_index}
use Rattle.inp_recon.specs.View.{IsSizedFor, slot_after_event, view_after_event, view_after_events}
use Rattle.inp_recon.specs.View.{view_after_answer}
use Rattle.inp_recon.specs.ClientView.{client_view_with}
use Rattle.inp_recon.specs.Synchronised.{AllSlots, asks_for, has_asked}
use Rattle.inp_recon.proofs.Each.{and-right}
use Rattle.inp_recon.proofs.Over.{over}
use Rattle.inp_recon.proofs.QueuedValues.{reports-idle, flush-idle}
use Rattle.inp_recon.proofs.FrameSteps.{IsNow}
use Rattle.inp_model.specs.RawItem.{RawItem}
use Rattle.inp_recon.proofs.CallsLeft.{left_in_queue, part-asked, asked-only}
use Rattle.inp_recon.proofs.FrameEntries.{Receives}
use Rattle.inp_recon.proofs.AxesFollow.{no_abs_query}
use Rattle.inp_recon.proofs.SlotPasses.{SlotCell, both, cell_then, single_touch-idle, kind-idle}
use Rattle.inp_recon.proofs.SlotPasses.{cell-unviewed, cell_now, cell-passes}
use Rattle.inp_recon.proofs.SlotCells.{slot_code-bounds, rows-cell, get-with_cell}
use Rattle.inp_recon.proofs.SlotBatch.{pair, cell_told, cell-pending}
use Rattle.inp_recon.proofs.FollowedValues.{HasLostNone, Spares, Stands, stands}
use Rattle.inp_recon.proofs.ViewSteps.{ByEvents, ByAnswers, get-after_events, get-follows}

module _ (eats : Eats) (d : Description) (client : ℕ) (some : nat_eq d.slots 0 ≡ false) (slot code : ℕ)
    (within : slot < d.slots) (is_cell : is_slot_code code ≡ true) where
  abbrev pub slot_cell_of : View → SlotCell
  slot_cell_of v = pair v.slot (get_or v.cells (cell_index (pos slot) code) (pos 0))

  abbrev t : SlotCell → Event → SlotCell
  t = cell_then (pos slot) code

  -- both as a synchronisation tells them, and both now
  abbrev told : List RawItem → SlotCell
  told r = cell_told d some (pos slot) code is_cell r

  abbrev now : List RawItem → SlotCell
  now r = cell_now d some (pos slot) code is_cell r

  spares : Spares client AllSlots t
  spares x asks own (Codes k) asked e part = elim (cases_Bool (nat_eq k EV_ABS)) [
    | inl h ↦ absurd (no_abs_query x (rw (asked, eqb-true k EV_ABS h)))
    | inr h ↦ kind-idle (pos slot) code e (rw (eqb-true e.kind k part) h)
  ]
  spares x asks own Slots asked e part = absurd (asked-only AllSlots client x Slots refl asks own asked)

  cell_event : ByEvents d t slot_cell_of
  unfolding view_after_event
  cell_event v e h = elim (cases_Bool (is_slot_value e)) [
    | inl k ↦
        (let is_code : is_slot_code e.code ≡ true =
        and-right (nat_eq e.kind EV_ABS) (is_slot_code e.code) k in
        rw k (both (slot_after_event v.slot e) _ _ _ refl
        (get-with_cell v.cells d.slots v.slot e.code e.value slot code h.cells within is_code is_cell)))
    | inr k ↦ rw k
  ]

  cell_answered : ByAnswers eats d client AllSlots told slot_cell_of
  unfolding view_after_answer
  cell_answered past (SyncSlots named) v h own =
      let r : List RawItem = raw d past in
      let bounds = slot_code-bounds code is_cell in
      rw own
      (both (at_frame d r) (at_frame d r) _ (cell d r (pos slot) code) refl
      (get_or-take (length v.cells) (rows d r) (cell_index (pos slot) code) (pos 0)
      (omega (arith, h.cells, bounds.0, bounds.1)) ∙ rows-cell d r slot code within is_cell))
  cell_answered past x v h own = refl

  pub cell-after_events : (v : View) (es : List Event) → IsSizedFor d.slots v
      → slot_cell_of (view_after_events v es) ≡ over t (slot_cell_of v) es
  cell-after_events = get-after_events eats d client t AllSlots told slot_cell_of cell_event cell_answered

  fresh : (past : List Step) (x : Step) → asks_for AllSlots client x ≡ true
      → IsNow d t now (raw d past) (told (raw d past)) (left_in_queue eats d past client x)
  fresh past x asks =
      rw (
        (part-asked AllSlots client x asks).flushes eats d past,
        flush-idle t (reports-idle t (cell-unviewed (pos slot) code)) (is_part_of Slots)
            (λ e h. single_touch-idle (pos slot) code e h) (queue_with eats d past client)
            (told (raw d past)),
      )
      (cell-pending d some (pos slot) code is_cell (raw d past))

  -- the slots, once they were asked for
  pub cell-stands : (past : List Step) → Receives past client → HasLostNone eats d past client
      → has_asked AllSlots past client ≡ true
      → Stands eats d client t (cell-unviewed (pos slot) code) now
      (cell-passes d some (pos slot) code is_cell)
      (λ past. slot_cell_of (client_view_with eats d past client)) past
  cell-stands =
      stands eats d client t (cell-unviewed (pos slot) code) now
      (cell-passes d some (pos slot) code is_cell) AllSlots spares told
      (λ past. slot_cell_of (client_view_with eats d past client))
      (get-follows eats d client t AllSlots told slot_cell_of cell_event cell_answered)
      (λ past x start asks receives none clear kept. fresh past x asks)
