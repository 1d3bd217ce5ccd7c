-- The keys, switches or LEDs of a view follow the device, for any of the three.
use Rattle.std.proofs.Common.{◌≡◌, ◌<◌, ℕ, ℤ, Bool, true, false, ◌&&◌, not, if◌then◌else◌, cond, nat_eq, List}
use Rattle.std.proofs.Common.{[], ◌∷◌, length, get_or, refl, ◌∙◌, Some, inl, inr}
use Rattle.std.proofs.Math.Bool.{and-true}
use Rattle.std.proofs.lemmas.Bool.{cases_Bool, eqb-true, and_left, and_right}
use Rattle.inp_model.specs.declared.event.TheConstants.{EV_ABS}
use Rattle.inp_model.specs.declared.event.Event.{Event}
use Rattle.inp_model.specs.declared.axis_info.AxisInfo.{AxisInfo}
use Rattle.inp_model.specs.declared.step.Step.{Step}
use Rattle.inp_model.specs.Description.{Description, supports}
use Rattle.inp_model.specs.RawItem.{RawItem, Occurred, Described}
use Rattle.inp_model.specs.Event.{is_set}
use Rattle.inp_model.specs.Step.{Codes, Slots, is_part_of}
use Rattle.inp_model.specs.Raw.{raw}
use Rattle.inp_model.specs.Left.{Eats}
use Rattle.inp_model.specs.Queue.{Entry, event_of, queue_with, taken_by_with}
use Rattle.inp_recon.specs.declared.view.View.{View}
use Rattle.inp_recon.specs.View.{IsSizedFor, with_value_at, first_view, view_after_event, view_after_events}
use Rattle.inp_recon.specs.ClientView.{client_view_with}
use Rattle.inp_recon.specs.Synchronised.{Part, asks_for, has_asked}
use Rattle.inp_recon.specs.Undisturbed.{is_viewed}
use Rattle.inp_recon.proofs.Each.{Each, Each-weaker, and-left}
use Rattle.inp_recon.proofs.Over.{over, IsIdle}
use Rattle.inp_recon.proofs.QueuedValues.{over_queue, over_queue-idle, UnviewedIdle, reports-idle, flush-idle}
use Rattle.inp_recon.proofs.EventKinds.{is_on_code, unviewed-other}
use Rattle.inp_recon.proofs.Cuts.{LeadsOn}
use Rattle.inp_recon.proofs.FrameSteps.{IsNow}
use Rattle.inp_recon.proofs.LastWrite.{set_by, pending-again}
use Rattle.inp_recon.proofs.CallsLeft.{left_in_queue, query_for, part-asked, asked-only}
use Rattle.inp_recon.proofs.FrameEntries.{Receives}
use Rattle.inp_recon.proofs.FlagPasses.{sets_flag, PassesFlag, StepsFlag, flag-passes, unsupported-same}
use Rattle.inp_recon.proofs.FlagPasses.{unsupported-each}
use Rattle.inp_recon.proofs.QueueEvents.{taken-events}
use Rattle.inp_recon.proofs.FollowedValues.{HasLostNone, Spares, Stands, stands}
use Rattle.inp_recon.proofs.ViewSteps.{ByEvents, ByAnswers, BySteps, get-after_events, get-follows}
use Rattle.inp_recon.proofs.ViewSteps.{get_or-with_value_at}

-- a class of flags: its type, how the device has it, and how a view has it and is told it
pub record IsFlagClass (eats : Eats) (d : Description) (client kind : ℕ) (skips : ℤ → Bool)
    (on : List RawItem → ℕ → Bool) (count : ℕ) (part : Part) (flags : View → List Bool) : Type 0 where
  pub steps : StepsFlag d kind skips on
  pub passes : PassesFlag d kind skips on
  pub off : (code : ℕ) → on [] code ≡ false
  pub described : (r : List RawItem) (axis : ℕ) (i : AxisInfo) (code : ℕ)
      → on (Described axis i ∷ r) code ≡ on r code
  pub not_abs : nat_eq EV_ABS kind ≡ false
  pub not_syn : nat_eq 0 kind ≡ false
  pub viewed : is_viewed kind ≡ true
  pub long : (v : View) → IsSizedFor d.slots v → length (flags v) ≡ count
  pub first : (code : ℕ) → get_or (flags (first_view d)) code false ≡ false
  pub event : (v : View) (e : Event)
      → flags (view_after_event v e)
      ≡ (if nat_eq e.kind kind && not (skips e.value)
      then with_value_at count (flags v) e.code (is_set e) else flags v)
  pub answer : (code : ℕ) → code < count
      → ByAnswers eats d client part (λ r. on r code) (λ v. get_or (flags v) code false)
  pub query : query_for part ≡ Some (Codes kind)

module _ {eats : Eats} {d : Description} {client kind : ℕ} {skips : ℤ → Bool} {on : List RawItem → ℕ
    → Bool} {count : ℕ} {part : Part} {flags : View → List Bool}
    (c : IsFlagClass eats d client kind skips on count part flags) (code : ℕ) where
  -- how an event changes the flag, and the flag of a view
  abbrev pub flag_after : Bool → Event → Bool
  flag_after = set_by (sets_flag kind skips code) is_set

  abbrev pub flag_of : View → Bool
  flag_of v = get_or (flags v) code false

  -- the flag now
  abbrev now : List RawItem → Bool
  now r = on r code

  kind_idle : (e : Event) → nat_eq e.kind kind ≡ false → IsIdle flag_after e
  kind_idle e h b = rw h

  pub flag-unviewed : UnviewedIdle flag_after
  flag-unviewed e h = kind_idle e (unviewed-other e.kind kind c.viewed h)

  pub flag-passes_on : LeadsOn d flag_after now
  flag-passes_on = flag-passes d kind skips on c.steps c.passes c.not_abs code

  flag_event : code < count → ByEvents d flag_after flag_of
  flag_event within v e h = rw (c.event v e) (by (nat_eq e.kind kind) (skips e.value))
    where
      by : (k s : Bool)
          → get_or (if k && not s then with_value_at count (flags v) e.code (is_set e) else flags v) code
          false ≡ (if (k && nat_eq e.code code) && not s then is_set e else flag_of v)
      by true true = rw (and_right (nat_eq e.code code) false refl)
      by true false =
          rw (and-true (nat_eq e.code code))
          (get_or-with_value_at count (flags v) e.code code (is_set e) false (c.long v h) within)
      by false s = refl

  pub flag-after_events : code < count → (v : View) (es : List Event) → IsSizedFor d.slots v
      → flag_of (view_after_events v es) ≡ over flag_after (flag_of v) es
  flag-after_events within =
      get-after_events eats d client flag_after part now flag_of (flag_event within) (c.answer code within)

  follows : code < count
      → BySteps eats d client flag_after part now (λ past. flag_of (client_view_with eats d past client))
  follows within =
      get-follows eats d client flag_after part now flag_of (flag_event within) (c.answer code within)

  spares : Spares client part flag_after
  spares x asks own (Codes k) asked e of_kind = elim (cases_Bool (nat_eq k kind)) [
    | inl h ↦ absurd (asked-only part client x (Codes kind) c.query asks own (rw (asked, eqb-true k kind h)))
    | inr h ↦ kind_idle e (rw (eqb-true e.kind k of_kind) h)
  ]
  spares x asks own Slots asked e part =
      kind_idle e (rw (eqb-true e.kind EV_ABS (and-left _ _ part)) c.not_abs)

  fresh : (past : List Step) (x : Step) → asks_for part client x ≡ true
      → IsNow d flag_after now (raw d past) (now (raw d past)) (left_in_queue eats d past client x)
  fresh past x asks =
      rw (
        (part-asked part client x asks).flushes eats d past,
        c.query,
        flush-idle flag_after (reports-idle flag_after flag-unviewed) (is_part_of (Codes kind))
            (λ e h. kind_idle e h) (queue_with eats d past client) (now (raw d past)),
      )
      (pending-again (sets_flag kind skips code) is_set d now flag-passes_on (λ r. true)
      (λ r e cut fits. refl) (λ r axis i fits. (refl, c.described r axis i code)) (raw d past) refl)

  -- a flag that was asked for
  pub flag-stands : code < count → (past : List Step) → Receives past client → HasLostNone eats d past client
      → has_asked part past client ≡ true
      → Stands eats d client flag_after flag-unviewed now flag-passes_on
      (λ past. flag_of (client_view_with eats d past client)) past
  flag-stands within =
      stands eats d client flag_after flag-unviewed now flag-passes_on part spares now
      (λ past. flag_of (client_view_with eats d past client)) (follows within)
      (λ past x start asks receives none clear kept. fresh past x asks)

  -- ---- a flag that the device does not support is never on

  pub unsupported-off : supports d kind code ≡ false → (r : List RawItem) → on r code ≡ false
  unsupported-off h [] = c.off code
  unsupported-off h (Described axis i ∷ r) = c.described r axis i code ∙ unsupported-off h r
  unsupported-off h (Occurred e ∷ r) =
      unsupported-same d kind skips on c.steps c.passes c.not_abs code h r e ∙ unsupported-off h r

  pub unsupported-taken : supports d kind code ≡ false → (past : List Step) (x : Step)
      → Each (λ y. IsIdle flag_after (event_of y)) (taken_by_with eats d past client x)
  unsupported-taken h past x =
      Each-weaker (λ y. is_on_code kind code (event_of y) ≡ false) (λ y. IsIdle flag_after (event_of y))
      (λ y off b. rw off) (taken_by_with eats d past client x)
      (taken-events eats d (λ e. is_on_code kind code e ≡ false)
      (λ e syn. and_left (nat_eq e.kind kind) _ (rw (eqb-true e.kind 0 syn) c.not_syn))
      (unsupported-each d kind skips on c.steps c.passes c.not_abs code h) past client x)

  pub unsupported-unseen : code < count → supports d kind code ≡ false → (past : List Step)
      → flag_of (client_view_with eats d past client) ≡ false
  unfolding client_view_with
  unsupported-unseen within h [] = c.first code
  unsupported-unseen within h (x ∷ past) =
      let v : View = client_view_with eats d past client in
      let taken : List Entry = taken_by_with eats d past client x in
      follows within past x
      ∙ elim (asks_for part client x) as (λ b.
      cond b (now (raw d past)) (over_queue flag_after (flag_of v) taken) ≡ false) [
        | true ↦ unsupported-off h (raw d past)
        | false ↦ over_queue-idle flag_after (flag_of v) taken (unsupported-taken h past x)
            ∙ unsupported-unseen within h past
      ]
