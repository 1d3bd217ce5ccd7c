-- Between two steps a queue is empty, ends in a report, or is one SYN_DROPPED alone.
use Rattle.std.proofs.Common.{◌≡◌, ◌⊎◌, ℕ, zero, suc, Bool, true, false, ◌||◌, not, if◌then◌else◌, nat_lt}
use Rattle.std.proofs.Common.{List, [], ◌∷◌, ◌++◌, length, map, filter, drop, refl, ap, ◌∙◌, inl, inr, arith}
use Rattle.std.proofs.lemmas.Bool.{cases_Bool, ne_eqb}
use Rattle.std.proofs.Math.Seq.{drop-nil, drop-length}
use Rattle.inp_model.specs.declared.event.Event.{Event}
use Rattle.inp_model.specs.declared.step.Step.{Step}
use Rattle.inp_model.specs.RawItem.{RawItem, Frame}
use Rattle.inp_model.specs.Description.{Description, ring}
use Rattle.inp_model.specs.Event.{is_report}
use Rattle.inp_model.specs.Past.{admits}
use Rattle.inp_model.specs.Raw.{raw, raw_of_step}
use Rattle.inp_model.specs.Frame.{frame_of}
use Rattle.inp_model.specs.Left.{Eats, left_from}
use Rattle.inp_model.proofs.Removal.{stays, report_stays_after, flush_from, flush-walk}
use Rattle.inp_model.specs.Queue.{Entry, event_of, is_empty, ends_in_report, visible, flush, entry}
use Rattle.inp_model.specs.Queue.{queue_with}
use Rattle.inp_recon.specs.Synchronised.{is_dropped, has_no_loss, is_start}
use Rattle.inp_recon.proofs.QueuedValues.{NoLoss, KeepsLosses, put_all-append, with_entry, with_entries}
use Rattle.inp_recon.proofs.Cuts.{cut_at, over_items}
use Rattle.inp_recon.proofs.CallsLeft.{left_in_queue}
use Rattle.inp_recon.proofs.FrameEntries.{entries_split}
use Rattle.inp_recon.proofs.FrameSteps.{frames_by, with_frame, offered_to, offered-first}
use Rattle.inp_recon.proofs.Steps.{queue-step, start_left, left-holds}

-- it ends in a report
abbrev Ends : List Entry → Type 0
Ends q = ends_in_report event_of q ≡ true

pub data IsShaped (q : List Entry) : Type 0 where
  IsEmpty : q ≡ [] → IsShaped q
  EndsInReport : Ends q → IsShaped q
  IsLoss : (e : Entry) → q ≡ e ∷ [] → is_dropped (event_of e) ≡ true → IsShaped q

-- ---- a part of a queue

drop-ends : (n : ℕ) (q : List Entry) → Ends q → IsShaped (drop n q)
drop-ends zero q h = EndsInReport h
drop-ends (suc n) [] h = IsEmpty refl
drop-ends (suc zero) (x ∷ []) h = IsEmpty refl
drop-ends (suc (suc n)) (x ∷ []) h = IsEmpty refl
drop-ends (suc n) (x ∷ y ∷ q) h = drop-ends n (y ∷ q) h

drop-loss : (n : ℕ) (e : Entry) → is_dropped (event_of e) ≡ true → IsShaped (drop n (e ∷ []))
drop-loss zero e h = IsLoss e refl h
drop-loss (suc zero) e h = IsEmpty refl
drop-loss (suc (suc n)) e h = IsEmpty refl

pub drop-shaped : (n : ℕ) (q : List Entry) → IsShaped q → IsShaped (drop n q)
drop-shaped n q (IsEmpty is) = IsEmpty (rw is (drop-nil n))
drop-shaped n q (EndsInReport ends) = drop-ends n q ends
drop-shaped n q (IsLoss e is loss) = rw is (drop-loss n e loss)

-- all of a queue that ends in a report is visible
visible-ends : (q : List Entry) → Ends q → visible event_of q ≡ length q
visible-ends [] h = absurd cc
visible-ends (x ∷ []) h = rw h
visible-ends (x ∷ y ∷ q) h = rw (visible-ends (y ∷ q) h, ne_eqb (suc (length q)) 0 (λ e. omega arith))

-- what a discard leaves is nothing, or a loss
pub discarded : (q : List Entry) → IsShaped q
    → (drop (visible event_of q) q ≡ []) ⊎ (has_no_loss (drop (visible event_of q) q) ≡ false)
discarded q (IsEmpty is) = inl (rw is)
discarded q (EndsInReport ends) = inl (rw visible-ends (drop-length q))
discarded q (IsLoss e is loss) =
    elim (cases_Bool (is_report (event_of e)))
    [ inl report ↦ inl (rw (is, report)) | inr other ↦ inr (rw (is, other, loss)) ]

-- ---- a flushed queue

ends-more : (b : Bool) (x : Entry) (q : List Entry) → Ends q → Ends ((if b then x ∷ [] else []) ++ q)
ends-more false x q h = h
ends-more true x [] h = absurd cc
ends-more true x (y ∷ q) h = h

-- Where all that is left of a queue goes, nothing was kept since the last report before it.
abbrev AllGoes : Bool → List Entry → Type 0
AllGoes flag flushed = (flushed ≡ []) × (flag ≡ false)

abbrev FlushesWell : Bool → List Entry → Type 0
FlushesWell flag flushed = AllGoes flag flushed ⊎ Ends flushed

flush_step : (flag : Bool) (x : Entry) (rest : List Entry) (report dropped : Bool)
    → is_report (event_of x) ≡ report
    → FlushesWell (if report then false else if dropped then flag else true) rest
    → FlushesWell flag ((if (if report then flag else not dropped) then x ∷ [] else []) ++ rest)
flush_step flag x rest report dropped is (inr ends) =
    inr (ends-more (if report then flag else not dropped) x rest ends)
flush_step true x rest true dropped is (inl goes) = inr (rw goes.0 is)
flush_step false x rest true dropped is (inl goes) = inl goes
-- it is no report, and nothing was kept up to it: it goes, and so did what was before it
flush_step flag x rest false true is (inl goes) = inl goes
flush_step flag x rest false false is (inl goes) = absurd (cc goes.1)

flush_from-well : (drops : Event → Bool) (flag : Bool) (q : List Entry) → Ends q
    → FlushesWell flag (flush_from event_of drops flag q)
flush_from-well drops flag [] h = absurd cc
flush_from-well drops flag (x ∷ []) h =
    flush_step flag x [] (is_report (event_of x)) (drops (event_of x)) refl (inl (refl, rw h))
flush_from-well drops flag (x ∷ y ∷ q) h =
    flush_step flag x (flush_from event_of drops (report_stays_after event_of drops flag x) (y ∷ q))
    (is_report (event_of x)) (drops (event_of x)) refl
    (flush_from-well drops (report_stays_after event_of drops flag x) (y ∷ q) h)

flush-shaped : (drops : Event → Bool) → KeepsLosses drops → (q : List Entry) → IsShaped q
    → IsShaped (flush event_of drops q)
flush-shaped drops keeps q (IsEmpty is) = IsEmpty (ap (flush event_of drops) is)
flush-shaped drops keeps q (EndsInReport ends) = elim (flush_from-well drops true q ends) [
  | inl goes ↦ absurd (cc goes.1)
  | inr well ↦ EndsInReport (ap (ends_in_report event_of) (flush-walk event_of drops q) ∙ well)
]
flush-shaped drops keeps q (IsLoss e is loss) =
    let k = keeps (event_of e) loss in
    let stays_there : stays event_of drops true e ≡ true = rw (k.0, k.1) in
    IsLoss e (rw (is, flush-walk event_of drops (e ∷ []), stays_there)) loss

-- ---- frames

ends-push : (q : List Entry) (x : Entry) → is_report (event_of x) ≡ true → Ends (q ++ x ∷ [])
ends-push [] x h = h
ends-push (y ∷ []) x h = h
ends-push (y ∷ z ∷ q) x h = ends-push (z ∷ q) x h

left_out : (q : List Entry) → (is_empty q || ends_in_report event_of q) ≡ true → IsShaped q
left_out [] h = IsEmpty refl
left_out (y ∷ q) h = EndsInReport h

-- a report is put, whatever was there
put_report : (places : ℕ) (q : List Entry) (x : Entry) → is_report (event_of x) ≡ true
    → IsShaped (with_entry places q x)
put_report places q x report = elim (cases_Bool (is_empty q || ends_in_report event_of q)) [
  | inl out ↦ rw (report, out) (left_out q out)
  | inr in_it ↦ elim (cases_Bool (nat_lt (suc (length q)) places)) [
    | inl fits ↦ rw (report, in_it, fits) (EndsInReport (ends-push q x report))
    | inr full ↦ rw (report, in_it, full) (EndsInReport report)
  ]
]

frame-shaped : (eats : Eats) (d : Description) (client : ℕ) (f : Frame) (body : List Event) (report : Event)
    → f.cut.events ≡ body ++ report ∷ [] → is_report report ≡ true → (q : List Entry) → IsShaped q
    → IsShaped (with_frame eats d client q f)
frame-shaped eats d client f body report is ends q h =
    elim (entries_split eats d client f body report is ends) [
      | inl none ↦ rw none h
      | inr split ↦
          (let front : List Entry =
          map (entry d client f) (filter (admits f.before client) (left_from (eats f) 0 body)) in
          let last : Entry = entry d client f report in
          rw (split, put_all-append) (put_report (ring d) (with_entries (ring d) q front) last ends))
    ]

frames-shaped : (eats : Eats) (d : Description) (client : ℕ) (past : List Step) (s : Step)
    (xs r : List RawItem) (q : List Entry) → IsShaped q
    → IsShaped (offered_to eats d client q (frames_by d past s r xs))
frames-shaped eats d client past s =
    over_items d (λ r xs cs. (q : List Entry) → IsShaped q
    → IsShaped (offered_to eats d client q (map (frame_of past s) cs))) (λ r q h. h) (λ r x xs cs k ih. ih)
    (λ r x xs cs k ih q h.
    let f : Frame = frame_of past s (cut_at r x k.body k.report) in
    rw (offered-first eats d client q f (map (frame_of past s) cs))
    (ih (with_frame eats d client q f) (frame-shaped eats d client f k.body k.report refl k.ends q h)))

-- ---- every queue

pub queue-shaped : (eats : Eats) (d : Description) (past : List Step) (client : ℕ)
    → IsShaped (queue_with eats d past client)
unfolding queue_with
queue-shaped eats d [] client = IsEmpty refl
queue-shaped eats d (x ∷ past) client =
    let q : List Entry = queue_with eats d past client in
    let h : IsShaped q = queue-shaped eats d past client in
    let left =
    left-holds eats d past client IsShaped x (IsEmpty refl) h (λ n. drop-shaped n q h)
    (λ e is frame. IsLoss e refl is) (λ drops keeps. flush-shaped drops keeps q h) in
    rw queue-step
    (frames-shaped eats d client past x (raw_of_step d past x) (raw d past)
    (left_in_queue eats d past client x) left)

-- a start leaves nothing in the queue, or a loss
pub start-empties : (eats : Eats) (d : Description) (past : List Step) (client : ℕ) (x : Step)
    → is_start past client x ≡ true → NoLoss (left_in_queue eats d past client x)
    → left_in_queue eats d past client x ≡ []
start-empties eats d past client x start none =
    elim (start_left eats d past client x start) [
      | inl e ↦ e
      | inr e ↦ elim (discarded (queue_with eats d past client) (queue-shaped eats d past client)) [
        | inl empty ↦ e ∙ empty
        | inr loss ↦ absurd (cc (none, e, loss))
      ]
    ]
