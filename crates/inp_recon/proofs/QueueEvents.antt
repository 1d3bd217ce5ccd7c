-- What holds of every event that is passed holds of every event that a client is queued and takes.
use Rattle.std.proofs.Common.{◌≡◌, ℕ, Bool, true, List, [], ◌∷◌, ◌++◌, length, map, filter, min, nat_eq}
use Rattle.std.proofs.Common.{nat_le, refl, inl, inr}
use Rattle.std.proofs.lemmas.Bool.{cases_Bool, cond_both}
use Rattle.inp_model.specs.declared.event.Event.{Event}
use Rattle.inp_model.specs.declared.step.Step.{Step}
use Rattle.inp_model.specs.declared.step.Step.TheVariants.{Read}
use Rattle.inp_model.specs.RawItem.{RawItem, Occurred, Described, Cut, Frame}
use Rattle.inp_model.specs.Description.{Description, ring}
use Rattle.inp_model.specs.Event.{is_report, syn_dropped}
use Rattle.inp_model.specs.Passed.{passed, passed_for}
use Rattle.inp_model.specs.Past.{admits}
use Rattle.inp_model.specs.Cut.{pending, cuts}
use Rattle.inp_model.specs.Raw.{raw, raw_of_step}
use Rattle.inp_model.specs.Frame.{frame_of}
use Rattle.inp_model.specs.Left.{Eats, left}
use Rattle.inp_model.specs.Queue.{Entry, event_of, entry, entries_of, entries_with, is_offered, visible}
use Rattle.inp_model.specs.Queue.{queue_with, taken_by_with}
use Rattle.inp_recon.specs.Synchronised.{is_dropped}
use Rattle.inp_recon.proofs.Each.{Each, Each-append, Each-map, Each-filtered, Each-take, and-left}
use Rattle.inp_recon.proofs.QueuedValues.{put_all-each}
use Rattle.inp_recon.proofs.EventKinds.{of_losses}
use Rattle.inp_recon.proofs.Cuts.{OneCut, over_items}
use Rattle.inp_recon.proofs.CallsLeft.{left_in_queue}
use Rattle.inp_recon.proofs.FrameEntries.{Each-left_from}
use Rattle.inp_recon.proofs.Steps.{queue-step, left-each}

module _ (eats : Eats) (d : Description) (P : Event → Type 0) (syn : (e : Event) → nat_eq e.kind 0 ≡ true
    → P e) (passes : (r : List RawItem) (e : Event) → Each P (passed d r e)) where
  item_passes : (r : List RawItem) (x : RawItem) → Each P (passed_for d r x)
  item_passes r (Occurred e) = passes r e
  item_passes r (Described code axis) = tt

  batch_each : (r : List RawItem) (x : RawItem) → Each P (pending d r)
      → Each P (pending d r ++ passed_for d r x)
  batch_each r x h = Each-append P (pending d r) (passed_for d r x) h (item_passes r x)

  pending_each : (r : List RawItem) → Each P (pending d r)
  unfolding pending
  pending_each [] = tt
  pending_each (Described code axis ∷ r) = pending_each r
  pending_each (Occurred e ∷ r) =
      let batch = batch_each r (Occurred e) (pending_each r) in
      elim (cases_Bool (is_report e)) [
        | inl h ↦ rw h tt
        | inr h ↦ elim (cases_Bool (nat_le d.hint (length (pending d r ++ passed d r e))))
            [ inl k ↦ rw (h, k) tt | inr k ↦ rw (h, k) batch ]
      ]

  cut_each : (r : List RawItem) (x : RawItem) → (h : OneCut d r x) → Each P (h.body ++ h.report ∷ [])
  cut_each r x h = elim h.same [
    | inl whole ↦ rw whole (batch_each r x (pending_each r))
    | inr body ↦ Each-append P h.body (h.report ∷ []) (rw body (batch_each r x (pending_each r)))
        (syn h.report (and-left _ _ h.ends), tt)
  ]

  cuts_each : (xs r : List RawItem) → Each (λ c. Each P c.events) (cuts d r xs)
  cuts_each =
      over_items d (λ r xs cs. Each (λ (c : Cut). Each P c.events) cs) (λ r. tt) (λ r x xs cs h ih. ih)
      (λ r x xs cs h ih. (cut_each r x h, ih))

  -- the entry's event
  abbrev Q : Entry → Type 0
  Q x = P (event_of x)

  kept_each : (client : ℕ) (f : Frame) (p : Event → Bool) (es : List Event) → Each P es
      → Each Q (map (entry d client f) (filter p es))
  kept_each client f p es h = Each-map Q (entry d client f) (filter p es) (Each-filtered P p es h)

  entries_each : (client : ℕ) (past : List Step) (s : Step) (cs : List Cut) → Each (λ c. Each P c.events) cs
      → Each Q (entries_with eats d client (map (frame_of past s) cs))
  entries_each client past s [] h = tt
  entries_each client past s (c ∷ cs) h =
      Each-append Q (entries_of eats d client (frame_of past s c))
      (entries_with eats d client (map (frame_of past s) cs))
      (cond_both (is_offered past client)
      (map (entry d client (frame_of past s c))
      (filter (admits past client) (left eats (frame_of past s c)))) [] (Each Q)
      (λ offered. kept_each client (frame_of past s c) (admits past client) (left eats (frame_of past s c))
      (Each-left_from P (eats (frame_of past s c)) 0 c.events h.0)) (λ other. tt))
      (entries_each client past s cs h.1)

  lost : (x : Entry) → is_dropped (event_of x) ≡ true → Q x
  lost x h = of_losses P (λ value. syn _ refl) (event_of x) h

  pub queue-events : (past : List Step) (client : ℕ) → Each Q (queue_with eats d past client)
  unfolding queue_with
  queue-events [] client = tt
  queue-events (x ∷ past) client =
      rw (queue-step eats d past client x)
      (put_all-each Q (λ e k. syn syn_dropped refl) (ring d) (left_in_queue eats d past client x) _
      (left-each eats d past client Q (λ e loss frame. lost e loss) x (queue-events past client))
      (entries_each client past x (cuts d (raw d past) (raw_of_step d past x))
      (cuts_each (raw_of_step d past x) (raw d past))))

  pub taken-events : (past : List Step) (client : ℕ) (x : Step) → Each Q (taken_by_with eats d past client x)
  taken-events past client (Read reader count) =
      cond_both (nat_eq reader client) _ _ (Each Q)
      (λ _. Each-take Q (min count (visible event_of q)) q (queue-events past client)) (λ _. tt)
    where
      q : List Entry
      q = queue_with eats d past client
  taken-events past client x = tt
