-- What a value becomes by the entries of a queue: when entries are put, flushed, lost and read.
use Rattle.std.proofs.Common.{◌≡◌, ℕ, suc, zero, Bool, true, false, ◌&&◌, ◌||◌, not, if◌then◌else◌, nat_lt}
use Rattle.std.proofs.Common.{List, [], ◌∷◌, ◌++◌, length, map, take, drop, refl, sym, ap, inl, inr}
use Rattle.std.proofs.lemmas.Bool.{and_from, not-true, not-false, cases_Bool, false_from_ne_true}
use Rattle.std.proofs.lemmas.Bool.{not_from_false}
use Rattle.std.proofs.lemmas.List.{map-append}
use Rattle.inp_model.specs.declared.event.Event.{Event}
use Rattle.inp_model.specs.Event.{is_report}
use Rattle.inp_model.specs.Queue.{Entry, event_of, entry_dropped_at, is_empty, ends_in_report, put, put_all}
use Rattle.inp_model.specs.Queue.{flush}
use Rattle.inp_model.proofs.Removal.{stays, report_stays_after, flush_from, flush-walk}
use Rattle.inp_recon.specs.Synchronised.{is_dropped, has_no_loss}
use Rattle.inp_recon.specs.Undisturbed.{is_viewed}
use Rattle.inp_recon.proofs.EventKinds.{report-unviewed}
use Rattle.inp_recon.proofs.Each.{Each, Each-append, Each-map, and-left, and-right, all-left}
use Rattle.inp_recon.proofs.Over.{over, over-append, over-idle, IsIdle}

-- what the events of a queue make of a value
abbrev pub over_queue : {V : Type 0} → (V → Event → V) → V → List Entry → V
over_queue t v q = over t v (map event_of q)

-- entries whose events change nothing leave the value
pub over_queue-idle : {V : Type 0} (t : V → Event → V) (v : V) (q : List Entry)
    → Each (λ x. IsIdle t (event_of x)) q → over_queue t v q ≡ v
over_queue-idle t v q h = over-idle t v (map event_of q) (Each-map (IsIdle t) event_of q h)

-- a queue with so many places after an entry is put, or entries are
abbrev pub with_entry : ℕ → List Entry → Entry → List Entry
with_entry places q x = put event_of entry_dropped_at places q x

abbrev pub with_entries : ℕ → List Entry → List Entry → List Entry
with_entries places q xs = put_all event_of entry_dropped_at places q xs

-- reports change nothing
abbrev pub ReportsIdle : {V : Type 0} → (V → Event → V) → Type 0
ReportsIdle t = (e : Event) → is_report e ≡ true → IsIdle t e

-- events that a view does not follow change nothing
abbrev pub UnviewedIdle : {V : Type 0} → (V → Event → V) → Type 0
UnviewedIdle t = (e : Event) → is_viewed e.kind ≡ false → IsIdle t e

pub reports-idle : {V : Type 0} (t : V → Event → V) → UnviewedIdle t → ReportsIdle t
reports-idle t unviewed e h = unviewed e (report-unviewed e h)

-- these entries tell of no loss
abbrev pub NoLoss : List Entry → Type 0
NoLoss q = has_no_loss q ≡ true

-- an event that tells of a loss is no report, and is not among those that are flushed
abbrev pub KeepsLosses : (Event → Bool) → Type 0
KeepsLosses drops = (e : Event) → is_dropped e ≡ true → (is_report e ≡ false) × (drops e ≡ false)

-- ---- one entry is put

-- what is put, by whether the report is left out and whether there is a place
abbrev put_by : Bool → Bool → List Entry → Entry → List Entry
put_by out fits q x = if out then q else if fits then q ++ x ∷ [] else entry_dropped_at x ∷ x ∷ []

abbrev is_left_out : List Entry → Entry → Bool
is_left_out q x = is_report (event_of x) && (is_empty q || ends_in_report event_of q)

-- what a put leaves, where it loses nothing: the queue and the entry, or the queue, where the entry is a
-- report
pub record Grows {V : Type 0} (t : V → Event → V) (q xs grown : List Entry) : Type 0 where
  pub kept : NoLoss q
  pub same : (v : V) → over_queue t v grown ≡ over_queue t (over_queue t v q) xs

module _ {V : Type 0} (t : V → Event → V) where
  over-put : (v : V) (q : List Entry) (x : Entry)
      → over_queue t v (q ++ x ∷ []) ≡ t (over_queue t v q) (event_of x)
  over-put v q x = rw (map-append event_of q (x ∷ []), over-append)

  put_by-grows : (out fits : Bool) (q : List Entry) (x : Entry) → (out ≡ true → IsIdle t (event_of x))
      → NoLoss (put_by out fits q x) → Grows t q (x ∷ []) (put_by out fits q x)
  put_by-grows true fits q x idle h = record { kept = h; same = λ v. sym (idle refl (over_queue t v q)) }
  put_by-grows false true q x idle h = record { kept = all-left _ q (x ∷ []) h; same = λ v. over-put v q x }
  put_by-grows false false q x idle h = absurd cc

  module _ (idle : ReportsIdle t) (places : ℕ) where
    put-grows : (q : List Entry) (x : Entry) → NoLoss (with_entry places q x)
        → Grows t q (x ∷ []) (with_entry places q x)
    put-grows q x h =
        put_by-grows (is_left_out q x) (nat_lt (suc (length q)) places) q x
        (λ out. idle (event_of x) (and-left (is_report (event_of x)) _ out)) h

    pub put_all-grows : (q xs : List Entry) → NoLoss (with_entries places q xs)
        → Grows t q xs (with_entries places q xs)
    put_all-grows q [] h = record { kept = h; same = λ v. refl }
    put_all-grows q (x ∷ xs) h =
        let rest = put_all-grows (with_entry places q x) xs h in
        let one = put-grows q x rest.kept in
        record { kept = one.kept; same = λ v. rw (rest.same v, one.same v) }

pub put_all-append : (places : ℕ) (q xs ys : List Entry)
    → put_all event_of entry_dropped_at places q (xs ++ ys)
    ≡ put_all event_of entry_dropped_at places (put_all event_of entry_dropped_at places q xs) ys
put_all-append places q [] ys = refl
put_all-append places q (x ∷ xs) ys = put_all-append places (with_entry places q x) xs ys

-- ---- what holds of each entry

module _ (G : Entry → Type 0) where
  module _ (drops : (x : Entry) → G x → G (entry_dropped_at x)) where
    put_by-each : (out fits : Bool) (q : List Entry) (x : Entry) → Each G q → G x
        → Each G (put_by out fits q x)
    put_by-each true fits q x h k = h
    put_by-each false true q x h k = Each-append G q (x ∷ []) h (k, tt)
    put_by-each false false q x h k = (drops x k, (k, tt))

    pub put_all-each : (places : ℕ) (q xs : List Entry) → Each G q → Each G xs
        → Each G (with_entries places q xs)
    put_all-each places q [] h k = h
    put_all-each places q (x ∷ xs) h k =
        put_all-each places (with_entry places q x) xs
        (put_by-each (is_left_out q x) (nat_lt (suc (length q)) places) q x h k.0) k.1

  flush_from-each : (drops : Event → Bool) (flag : Bool) (q : List Entry) → Each G q
      → Each G (flush_from event_of drops flag q)
  flush_from-each drops flag [] h = tt
  flush_from-each drops flag (x ∷ q) h =
      let rest = flush_from-each drops (report_stays_after event_of drops flag x) q h.1 in
      elim (cases_Bool (stays event_of drops flag x))
      [ inl stay ↦ rw stay (h.0, rest) | inr goes ↦ rw goes rest ]

  pub flush-each : (drops : Event → Bool) (q : List Entry) → Each G q → Each G (flush event_of drops q)
  flush-each drops q h = rw (flush-walk event_of drops q) (flush_from-each drops true q h)

-- ---- entries are flushed

module _ {V : Type 0} (t : V → Event → V) (idle : ReportsIdle t) (drops : Event → Bool) where
  -- what a flush removes changes nothing
  module _ (out : (e : Event) → drops e ≡ true → IsIdle t e) where
    stays_or_idle : (flag : Bool) (x : Entry) → stays event_of drops flag x ≡ false → IsIdle t (event_of x)
    stays_or_idle flag x h = elim (cases_Bool (is_report (event_of x))) [
      | inl e ↦ idle (event_of x) e
      | inr e ↦ out (event_of x) (not-false _ (rw e at h))
    ]

    flush_from-same : (flag : Bool) (q : List Entry) (v : V)
        → over_queue t v (flush_from event_of drops flag q) ≡ over_queue t v q
    flush_from-same flag [] v = refl
    flush_from-same flag (x ∷ q) v =
        let rest = flush_from-same (report_stays_after event_of drops flag x) q in
        elim (cases_Bool (stays event_of drops flag x)) [
          | inl stay ↦ rw stay (rest (t v (event_of x)))
          | inr goes ↦ rw goes
              (cc (rest v, stays_or_idle flag x goes v))
        ]

    pub flush-same : (q : List Entry) (v : V) → over_queue t v (flush event_of drops q) ≡ over_queue t v q
    flush-same q v = rw (flush-walk event_of drops q) (flush_from-same true q v)

  -- what a flush keeps changes nothing
  module _ (out : (e : Event) → drops e ≡ false → IsIdle t e) where
    kept_idle : (flag : Bool) (x : Entry) → stays event_of drops flag x ≡ true → IsIdle t (event_of x)
    kept_idle flag x h = elim (cases_Bool (is_report (event_of x))) [
      | inl e ↦ idle (event_of x) e
      | inr e ↦ out (event_of x) (not-true _ (rw e at h))
    ]

    flush_from-idle : (flag : Bool) (q : List Entry) (v : V)
        → over_queue t v (flush_from event_of drops flag q) ≡ v
    flush_from-idle flag [] v = refl
    flush_from-idle flag (x ∷ q) v =
        let rest = flush_from-idle (report_stays_after event_of drops flag x) q v in
        elim (cases_Bool (stays event_of drops flag x))
        [ inl stay ↦ rw (stay, kept_idle flag x stay v) rest | inr goes ↦ rw goes rest ]

    pub flush-idle : (q : List Entry) (v : V) → over_queue t v (flush event_of drops q) ≡ v
    flush-idle q v = rw (flush-walk event_of drops q) (flush_from-idle true q v)

-- a loss stays in a flushed queue
module _ (drops : Event → Bool) (keeps : KeepsLosses drops) where
  loss_stays : (flag : Bool) (x : Entry) → is_dropped (event_of x) ≡ true → stays event_of drops flag x ≡ true
  loss_stays flag x h = let k = keeps (event_of x) h in rw (k.0, k.1)

  -- so what does not stay is none
  gone_no_loss : (flag : Bool) (x : Entry) → stays event_of drops flag x ≡ false
      → is_dropped (event_of x) ≡ false
  gone_no_loss flag x goes = false_from_ne_true _ (λ e. cc (loss_stays flag x e, goes))

  flush_from-no_loss : (flag : Bool) (q : List Entry) → NoLoss (flush_from event_of drops flag q) → NoLoss q
  flush_from-no_loss flag [] h = refl
  flush_from-no_loss flag (x ∷ q) h =
      let rest = flush_from-no_loss (report_stays_after event_of drops flag x) q in
      elim (cases_Bool (stays event_of drops flag x)) [
        | inl stay ↦ (let k = rw stay at h in and_from _ _ (and-left _ _ k) (rest (and-right _ _ k)))
        | inr goes ↦ and_from _ _ (not_from_false _ (gone_no_loss flag x goes)) (rest (rw goes at h))
      ]

  pub flush-no_loss : (q : List Entry) → NoLoss (flush event_of drops q) → NoLoss q
  flush-no_loss q h = flush_from-no_loss true q (rw (flush-walk event_of drops q) at h)

-- ---- what is promised at each report of a queue, up to a loss

abbrev pub Promised : {V : Type 0} → (Entry → V → Type 0) → (V → Event → V) → V → List Entry → Type 0
Promised P t v [] = Unit {0}
Promised P t v (x ∷ q) =
    is_dropped (event_of x) ≡ false
    → (is_report (event_of x) ≡ true → P x (t v (event_of x))) × Promised P t (t v (event_of x)) q

pub Promised-weaker : {V : Type 0} (P Q : Entry → V → Type 0) (t : V → Event → V) (v : V) (q : List Entry)
    → ((x : Entry) (w : V) → P x w → Q x w) → Promised P t v q → Promised Q t v q
Promised-weaker P Q t v [] f h = tt
Promised-weaker P Q t v (x ∷ q) f h =
    λ here. ((λ report. f x _ ((h here).0 report)), Promised-weaker P Q t (t v (event_of x)) q f (h here).1)

module _ {V : Type 0} (P : Entry → V → Type 0) (t : V → Event → V) where
  -- where nothing that is asked of an entry holds
  pub Promised-from_each : (v : V) (q : List Entry) → Each (λ x. (w : V) → P x w) q → Promised P t v q
  Promised-from_each v [] h = tt
  Promised-from_each v (x ∷ q) h = λ here. ((λ report. h.0 _), Promised-from_each (t v (event_of x)) q h.1)

  pub Promised-take : (v : V) (n : ℕ) (q : List Entry) → Promised P t v q → Promised P t v (take n q)
  Promised-take v zero q h = tt
  Promised-take v (suc n) [] h = tt
  Promised-take v (suc n) (x ∷ q) h = λ here. ((h here).0, Promised-take (t v (event_of x)) n q (h here).1)

  pub Promised-drop : (v : V) (n : ℕ) (q : List Entry) → NoLoss (take n q) → Promised P t v q
      → Promised P t (over_queue t v (take n q)) (drop n q)
  Promised-drop v zero q h k = k
  Promised-drop v (suc n) [] h k = tt
  Promised-drop v (suc n) (x ∷ q) h k =
      Promised-drop (t v (event_of x)) n q (and-right _ _ h) (k (not-true _ (and-left _ _ h))).1

  -- at the entry that was put last, where the queue tells of no loss
  abbrev HoldsLast : V → Entry → List Entry → Type 0
  HoldsLast v x q = NoLoss q → is_report (event_of x) ≡ true → P x (over_queue t v q)

  Promised-push : (v : V) (q : List Entry) (x : Entry) → Promised P t v q → HoldsLast v x (q ++ x ∷ [])
      → Promised P t v (q ++ x ∷ [])
  Promised-push v [] x h k = λ here. (k (and_from _ _ (ap not here) refl), tt)
  Promised-push v (y ∷ q) x h k =
      λ here. (
        (h here).0,
        Promised-push (t v (event_of y)) q x (h here).1 (λ none. k (and_from _ _ (ap not here) none)),
      )

  Promised-put_by : (v : V) (out fits : Bool) (q : List Entry) (x : Entry) → Promised P t v q
      → HoldsLast v x (put_by out fits q x) → Promised P t v (put_by out fits q x)
  Promised-put_by v true fits q x h k = h
  Promised-put_by v false true q x h k = Promised-push v q x h k
  Promised-put_by v false false q x h k = λ here. absurd cc

  -- one entry is put: what is promised at it holds, where nothing is lost
  pub Promised-put : (v : V) (places : ℕ) (q : List Entry) (x : Entry) → Promised P t v q
      → HoldsLast v x (with_entry places q x) → Promised P t v (with_entry places q x)
  Promised-put v places q x h k = Promised-put_by v (is_left_out q x) (nat_lt (suc (length q)) places) q x h k

  -- entries are put that are no reports
  pub Promised-put_all : (v : V) (places : ℕ) (q xs : List Entry)
      → Each (λ x. is_report (event_of x) ≡ false) xs → Promised P t v q
      → Promised P t v (with_entries places q xs)
  Promised-put_all v places q [] quiet h = h
  Promised-put_all v places q (x ∷ xs) quiet h =
      Promised-put_all v places (with_entry places q x) xs quiet.1
      (Promised-put v places q x h (λ none report. absurd (cc (report, quiet.0))))

  -- a flush of events that change nothing
  module _ (idle : ReportsIdle t) (drops : Event → Bool) (out : (e : Event) → drops e ≡ true → IsIdle t e)
      (keeps : KeepsLosses drops) where
    Promised-flush_from : (flag : Bool) (q : List Entry) (v : V) → Promised P t v q
        → Promised P t v (flush_from event_of drops flag q)
    Promised-flush_from flag [] v h = tt
    Promised-flush_from flag (x ∷ q) v h =
        let rest = Promised-flush_from (report_stays_after event_of drops flag x) q (t v (event_of x)) in
        elim (cases_Bool (stays event_of drops flag x)) [
          | inl stay ↦ rw stay (λ here. ((h here).0, rest (h here).1))
          | inr goes ↦ rw goes
              (rw (stays_or_idle t idle drops out flag x goes v) at (rest
              (h (gone_no_loss drops keeps flag x goes)).1))
        ]

    pub Promised-flush : (q : List Entry) (v : V) → Promised P t v q → Promised P t v (flush event_of drops q)
    Promised-flush q v h = rw (flush-walk event_of drops q) (Promised-flush_from true q v h)
