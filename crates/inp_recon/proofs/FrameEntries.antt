-- What comes to a client of a frame: all that its view follows, where nothing is kept from it.
use Rattle.std.proofs.Common.{◌≡◌, ◌⊎◌, ℕ, suc, Bool, true, false, ◌&&◌, ◌||◌, not, nat_eq, List, [], ◌∷◌}
use Rattle.std.proofs.Common.{◌++◌, map, filter, refl, ap, inl, inr}
use Rattle.std.proofs.lemmas.Bool.{cases_Bool, and_from, not-true}
use Rattle.std.proofs.lemmas.List.{map-append}
use Rattle.std.proofs.lemmas.List.Elements.{filter-append}
use Rattle.inp_model.specs.declared.event.Event.{Event}
use Rattle.inp_model.specs.declared.step.Step.{Step}
use Rattle.inp_model.specs.Description.{Description}
use Rattle.inp_model.specs.Event.{is_report}
use Rattle.inp_model.specs.Past.{is_open, is_revoked, holder, is_other, admits}
use Rattle.inp_model.specs.RawItem.{Frame}
use Rattle.inp_model.specs.Left.{Eats, is_left, left_from, left}
use Rattle.inp_model.specs.Queue.{event_of, is_offered, entry, entries_of}
use Rattle.inp_recon.specs.Undisturbed.{is_viewed, all_come, is_whole_for}
use Rattle.inp_recon.proofs.Each.{Each, Each-map, Each-filtered, and-left, and-right}
use Rattle.inp_recon.proofs.Over.{over}
use Rattle.inp_recon.proofs.EventKinds.{of_reports}
use Rattle.inp_recon.proofs.Cuts.{IsNoReport}
use Rattle.inp_recon.proofs.QueuedValues.{UnviewedIdle, over_queue}

-- nothing of the frame that a view follows is kept from the client
abbrev pub IsWhole : Eats → ℕ → Frame → Type 0
IsWhole eats client f = is_whole_for eats client f ≡ true

-- the client is open and not revoked
pub record Receives (past : List Step) (client : ℕ) : Type 0 where
  pub is_there : is_open past client ≡ true
  pub unrevoked : is_revoked past client ≡ false

pub events_of_entries : (d : Description) (client : ℕ) (f : Frame) (es : List Event)
    → map event_of (map (entry d client f) es) ≡ es
events_of_entries d client f [] = refl
events_of_entries d client f (e ∷ es) = rw (events_of_entries d client f es)

offered : (past : List Step) (client : ℕ) → Receives past client → is_other (holder past) client ≡ false
    → is_offered past client ≡ true
offered past client h free = and_from _ _ (and_from _ _ h.is_there (ap not h.unrevoked)) (ap not free)

-- ---- what is left of a frame

pub Each-left_from : (P : Event → Type 0) (eats : ℕ → Bool) (k : ℕ) (es : List Event) → Each P es
    → Each P (left_from eats k es)
Each-left_from P eats k [] h = tt
Each-left_from P eats k (e ∷ es) h =
    let rest = Each-left_from P eats (suc k) es h.1 in
    elim (cases_Bool (is_left eats k e)) [ inl l ↦ rw l (h.0, rest) | inr l ↦ rw l rest ]

-- a report that comes last is left
left-end : (eats : ℕ → Bool) (k : ℕ) (body : List Event) (report : Event) → is_report report ≡ true
    → left_from eats k (body ++ report ∷ []) ≡ left_from eats k body ++ report ∷ []
left-end eats k [] report h = rw (and-left (nat_eq report.kind 0) _ h)
left-end eats k (e ∷ body) report h =
    let ih = left-end eats (suc k) body report h in
    elim (cases_Bool (is_left eats k e)) [ inl l ↦ rw (l, ih) | inr l ↦ rw l ih ]

-- what does not come is not followed
missed : (a b : Bool) → (not a || b) ≡ true → b ≡ false → a ≡ false
missed true b h k = cc
missed false b h k = refl

-- Where all events that a view follows are left and admitted, what is left and admitted changes a value as
-- all events do.
module _ {V : Type 0} (t : V → Event → V) (unviewed : UnviewedIdle t) where
  over-left : (eats : ℕ → Bool) (p : Event → Bool) (k : ℕ) (es : List Event) → all_come eats p k es ≡ true
      → (v : V) → over t v (filter p (left_from eats k es)) ≡ over t v es
  over-left eats p k [] h v = refl
  over-left eats p k (e ∷ es) h v =
      let rest : (w : V) → over t w (filter p (left_from eats (suc k) es)) ≡ over t w es =
      over-left eats p (suc k) es (and-right _ _ h) in
      let idle : (is_left eats k e && p e) ≡ false → t v e ≡ v =
      λ out. unviewed e (missed (is_viewed e.kind) (is_left eats k e && p e) (and-left _ _ h) out) v in
      elim (cases_Bool (is_left eats k e)) [
        | inl l ↦ elim (cases_Bool (p e))
            [ inl q ↦ rw (l, q) (rest (t v e)) | inr q ↦ rw (l, q) (cc (rest v, idle (rw (l, q)))) ]
        | inr l ↦ rw l (cc (rest v, idle (rw l)))
      ]

  -- the entries of a frame that is whole change a value as the frame does
  pub over-entries : (eats : Eats) (d : Description) (client : ℕ) (f : Frame) → Receives f.before client
      → IsWhole eats client f → (v : V) → over_queue t v (entries_of eats d client f) ≡ over t v f.cut.events
  over-entries eats d client f receives whole v =
      let free : is_other (holder f.before) client ≡ false = not-true _ (and-left _ _ whole) in
      rw (offered, events_of_entries)
      (over-left (eats f) (admits f.before client) 0 f.cut.events (and-right _ _ whole) v)

-- ---- a frame is some events and a report

-- the entries before the report
pub quiet_entries : (d : Description) (client : ℕ) (f : Frame) (p : Event → Bool) (es : List Event)
    → Each IsNoReport es → Each (λ x. is_report (event_of x) ≡ false) (map (entry d client f) (filter p es))
quiet_entries d client f p es h =
    Each-map (λ x. is_report (event_of x) ≡ false) (entry d client f) (filter p es)
    (Each-filtered IsNoReport p es h)

report-admitted : (past : List Step) (client : ℕ) (e : Event) → is_report e ≡ true
    → admits past client e ≡ true
report-admitted past client = of_reports (λ e. admits past client e ≡ true) (λ value. refl)

-- a frame that is not offered brings nothing, and else the report comes last
pub entries_split : (eats : Eats) (d : Description) (client : ℕ) (f : Frame) (body : List Event)
    (report : Event) → f.cut.events ≡ body ++ report ∷ [] → is_report report ≡ true
    → (entries_of eats d client f ≡ [])
    ⊎ (entries_of eats d client f
    ≡ map (entry d client f) (filter (admits f.before client) (left_from (eats f) 0 body))
    ++ entry d client f report ∷ [])
entries_split eats d client f body report is ends =
    elim (cases_Bool (is_offered f.before client)) [ inl e ↦ inr (rw e all) | inr e ↦ inl (rw e) ]
  where
    p : Event → Bool
    p = admits f.before client

    front : List Event
    front = left_from (eats f) 0 body

    last : filter p (report ∷ []) ≡ report ∷ []
    last = rw report-admitted

    all : map (entry d client f) (filter p (left eats f)) ≡ map (entry d client f) (filter p front)
        ++ entry d client f report ∷ []
    all =
        rw (
          ← last,
          ← filter-append,
          ← left-end,
          ← is,
        ) at (map-append (entry d client f) (filter p front) (report ∷ []))
