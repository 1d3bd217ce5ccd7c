-- What a client's queue and a value that follows it become by the frames of a step.
use Rattle.std.proofs.Common.{◌≡◌, ℕ, true, List, [], ◌∷◌, ◌++◌, map, filter, refl, sym, subst, Some, inl}
use Rattle.std.proofs.Common.{inr}
use Rattle.inp_model.specs.declared.event.Event.{Event}
use Rattle.inp_model.specs.declared.step.Step.{Step}
use Rattle.inp_model.specs.RawItem.{RawItem, Occurred, Described, is_event_item, Cut, Frame}
use Rattle.inp_model.specs.Description.{Description, ring}
use Rattle.inp_model.specs.Passed.{passed_for}
use Rattle.inp_model.specs.Past.{admits}
use Rattle.inp_model.specs.Cut.{raw_after, pending, cuts}
use Rattle.inp_model.specs.Frame.{frame_of}
use Rattle.inp_model.specs.Left.{Eats, left_from}
use Rattle.inp_model.specs.Queue.{Entry, entry, entries_of, entries_with}
use Rattle.inp_recon.proofs.Each.{Each}
use Rattle.inp_recon.proofs.Over.{over, over-append}
use Rattle.inp_recon.proofs.QueuedValues.{NoLoss, over_queue, with_entry, with_entries, UnviewedIdle}
use Rattle.inp_recon.proofs.QueuedValues.{reports-idle, put_all-grows, put_all-append, Promised, Promised-put}
use Rattle.inp_recon.proofs.QueuedValues.{Promised-put_all}
use Rattle.inp_recon.proofs.Cuts.{LeadsOn, IsNoReport, OneCut, cut_at, over_items, over-no_cut, over-one_cut}
use Rattle.inp_recon.proofs.FrameEntries.{IsWhole, Receives, Each-left_from, over-entries, quiet_entries}
use Rattle.inp_recon.proofs.FrameEntries.{entries_split}

-- all that is passed for items
abbrev pub passed_by : Description → List RawItem → List RawItem → List Event
passed_by d r [] = []
passed_by d r (x ∷ xs) = passed_for d r x ++ passed_by d (x ∷ r) xs

-- a raw event
abbrev pub IsEventItem : RawItem → Type 0
IsEventItem x = is_event_item x ≡ true

-- the frames of items
abbrev pub frames_by : Description → List Step → Step → List RawItem → List RawItem → List Frame
frames_by d past s r xs = map (frame_of past s) (cuts d r xs)

-- a queue to which the entries of a frame are put
abbrev pub with_frame : Eats → Description → ℕ → List Entry → Frame → List Entry
with_frame eats d client q f = with_entries (ring d) q (entries_of eats d client f)

-- frames are offered to a queue
abbrev pub offered_to : Eats → Description → ℕ → List Entry → List Frame → List Entry
offered_to eats d client q fs = with_entries (ring d) q (entries_with eats d client fs)

-- the first frame is put, and then the others
pub offered-first : (eats : Eats) (d : Description) (client : ℕ) (q : List Entry) (f : Frame)
    (fs : List Frame)
    → offered_to eats d client q (f ∷ fs) ≡ offered_to eats d client (with_frame eats d client q f) fs
offered-first eats d client q f fs =
    put_all-append (ring d) q (entries_of eats d client f) (entries_with eats d client fs)

-- each frame is whole
abbrev pub AreWhole : Eats → ℕ → List Frame → Type 0
AreWhole eats client fs = Each (IsWhole eats client) fs

-- by the queue and the batch the value is that of the state now
abbrev pub IsNow : {V : Type 0} → Description → (V → Event → V) → (List RawItem → V) → List RawItem → V
    → List Entry → Type 0
IsNow d t st r v q = over t (over_queue t v q) (pending d r) ≡ st r

-- What the queue and the batch make of a value is what they made of it before, moved on by what was passed;
-- and the queue had no loss.
pub record Grown {V : Type 0} (d : Description) (t : V → Event → V) (r later : List RawItem)
    (q grown : List Entry) (ps : List Event) : Type 0 where
  pub kept : NoLoss q
  pub same : (v : V)
      → over t (over_queue t v grown) (pending d later) ≡ over t (over t (over_queue t v q) (pending d r)) ps

-- what an entry of a frame says of a value, where a condition holds of the frame
abbrev pub Says : {V : Type 0} → (List RawItem → V) → (Frame → Type 0) → Entry → V → Type 0
Says st D x v = (f : Frame) → x.frame ≡ Some f → D f → v ≡ st f.cut.until

-- the condition of a frame wants what was wanted before it, and that it is whole, as all before it
abbrev pub Wants : Eats → ℕ → (Frame → Type 0) → Type 0 → List Frame → Type 0
Wants eats client D C [] = Unit {0}
Wants eats client D C (f ∷ fs) =
    (D f → C × IsWhole eats client f) × Wants eats client D (C × IsWhole eats client f) fs

-- the frame that an item ends
abbrev frame_by : {d : Description} → List Step → Step → (r : List RawItem) (x : RawItem)
    → OneCut d r x → Frame
frame_by past s r x h = frame_of past s (cut_at r x h.body h.report)

-- what raw events pass leads the state on
module _ {V : Type 0} (d : Description) (t : V → Event → V) (st : List RawItem → V)
    (passes : LeadsOn d t st) where
  passes_item : (r : List RawItem) (x : RawItem) → IsEventItem x
      → over t (st r) (passed_for d r x) ≡ st (x ∷ r)
  passes_item r (Occurred e) h = passes r e
  passes_item r (Described code axis) h = absurd cc

  pub passes_all : (xs r : List RawItem) → Each IsEventItem xs
      → over t (st r) (passed_by d r xs) ≡ st (raw_after r xs)
  passes_all [] r h = refl
  passes_all (x ∷ xs) r h = rw (over-append, passes_item r x h.0) (passes_all xs (x ∷ r) h.1)

module _ (eats : Eats) (d : Description) (client : ℕ) {V : Type 0} (t : V → Event → V)
    (unviewed : UnviewedIdle t) where
  module _ (past : List Step) (s : Step) (receives : Receives past client) where
    -- one frame, which is whole
    frame_grown : (r : List RawItem) (x : RawItem) (q : List Entry) (h : OneCut d r x)
        → IsWhole eats client (frame_by past s r x h)
        → NoLoss (with_frame eats d client q (frame_by past s r x h))
        → Grown d t r (x ∷ r) q (with_frame eats d client q (frame_by past s r x h)) (passed_for d r x)
    frame_grown r x q h whole none =
        let f : Frame = frame_by past s r x h in
        let g = put_all-grows t (reports-idle t unviewed) (ring d) q (entries_of eats d client f) none in
        record {
          kept = g.kept;
          same =
              λ v. rw (
                h.left,
                g.same v,
                over-entries t unviewed eats d client f receives whole (over_queue t v q),
              )
              (over-one_cut t (reports-idle t unviewed) d r x h (over_queue t v q));
        }

    -- all frames of raw events, each of which is whole
    abbrev GrowBy : List RawItem → List RawItem → List Cut → Type 0
    GrowBy r xs cs =
        (q : List Entry) → AreWhole eats client (map (frame_of past s) cs)
        → NoLoss (offered_to eats d client q (map (frame_of past s) cs))
        → Grown d t r (raw_after r xs) q (offered_to eats d client q (map (frame_of past s) cs))
        (passed_by d r xs)

    pub all_grown : (xs r : List RawItem) → GrowBy r xs (cuts d r xs)
    all_grown =
        over_items d GrowBy
        (λ r q whole none. record { kept = none; same = λ v. refl })
        (λ r x xs cs h ih q whole none.
        let g = ih q whole none in
        record {
          kept = g.kept;
          same =
              λ v. rw (
                g.same v,
                over-no_cut t (reports-idle t unviewed) d r x h (over_queue t v q),
                over-append,
              );
        })
        (λ r x xs cs h ih q whole none.
        let f : Frame = frame_by past s r x h in
        let same = offered-first eats d client q f (map (frame_of past s) cs) in
        let g = ih (with_frame eats d client q f) whole.1 (rw same at none) in
        let one = frame_grown r x q h whole.0 g.kept in
        record { kept = one.kept; same = λ v. rw (same, g.same v, one.same v, over-append) })

  module _ (st : List RawItem → V) (passes : LeadsOn d t st) (D : Frame → Type 0) (past : List Step)
      (s : Step) (receives : Receives past client) where
    -- one frame: what is promised of its report
    frame_promised : (r : List RawItem) (x : RawItem) → IsEventItem x
        → (q : List Entry) (v : V) (h : OneCut d r x) (C : Type 0)
        → (D (frame_by past s r x h) → C × IsWhole eats client (frame_by past s r x h))
        → (C → NoLoss q → IsNow d t st r v q)
        → Promised (Says st D) t v q
        → Promised (Says st D) t v (with_frame eats d client q (frame_by past s r x h))
    frame_promised r x event q v h C wants at old =
        elim (entries_split eats d client f h.body h.report refl h.ends) [
          | inl none ↦ rw none old
          | inr split ↦
              (let before : List Entry = with_entries places q front in
              let all : with_entries places q xs ≡ with_entry places before last =
              rw split (put_all-append places q front (last ∷ [])) in
              rw all
              (Promised-put (Says st D) t v places before last
              (Promised-put_all (Says st D) t v places q front
              (quiet_entries d client f (admits f.before client) (left_from (eats f) 0 h.body)
              (Each-left_from IsNoReport (eats f) 0 h.body h.quiet)) old)
              (λ none report. says (with_entry places before last) all none)))
        ]
      where
        f : Frame
        f = frame_by past s r x h

        xs : List Entry
        xs = entries_of eats d client f

        front : List Entry
        front = map (entry d client f) (filter (admits f.before client) (left_from (eats f) 0 h.body))

        last : Entry
        last = entry d client f h.report

        places : ℕ
        places = ring d

        -- behind the frame the value is the state at its end
        ends : NoLoss (with_entries places q xs) → D f
            → over_queue t v (with_entries places q xs) ≡ st (x ∷ r)
        ends none here =
            let w = wants here in
            let g = frame_grown past s receives r x q h w.1 none in
            rw (← at w.0 g.kept, ← g.same v, h.left) at (passes_item d t st passes r x event)

        says : (l : List Entry) → with_entries places q xs ≡ l → NoLoss l → Says st D last (over_queue t v l)
        says l same none g frame here =
            let is : f ≡ g = cc in
            rw (← is, ← ends (rw (← same) at none) (subst D (sym is) here), same)

    -- all frames of raw events
    abbrev ArePromised : List RawItem → List RawItem → List Cut → Type 1
    ArePromised r xs cs =
        Each IsEventItem xs → (q : List Entry) (v : V) (C : Type 0)
        → Wants eats client D C (map (frame_of past s) cs) → (C → NoLoss q → IsNow d t st r v q)
        → Promised (Says st D) t v q
        → Promised (Says st D) t v (offered_to eats d client q (map (frame_of past s) cs))

    pub all_promised : (xs r : List RawItem) → ArePromised r xs (cuts d r xs)
    all_promised =
        over_items d ArePromised
        (λ r events q v C wants at old. old)
        (λ r x xs cs h ih events q v C wants at old.
        ih events.1 q v C wants
        (λ clear none. rw (over-no_cut t (reports-idle t unviewed) d r x h (over_queue t v q), at clear none)
        (passes_item d t st passes r x events.0)) old)
        (λ r x xs cs h ih events q v C wants at old.
        let f : Frame = frame_by past s r x h in
        rw (offered-first eats d client q f (map (frame_of past s) cs))
        (ih events.1 (with_frame eats d client q f) v (C × IsWhole eats client f) wants.1
        (λ clear none. (let g = frame_grown past s receives r x q h clear.1 none in
        rw (g.same v, at clear.0 g.kept) (passes_item d t st passes r x events.0)))
        (frame_promised r x events.0 q v h C wants.0 at old)))
