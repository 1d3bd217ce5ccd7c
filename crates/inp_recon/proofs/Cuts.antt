-- What one item makes of the batch: no frame, or one that is the batch and a report.
use Rattle.std.proofs.Common.{◌≡◌, ◌⊎◌, ℤ, Bool, true, false, if◌then◌else◌, nat_lt, nat_le, List, [], ◌∷◌}
use Rattle.std.proofs.Common.{◌++◌, length, refl, sym, Option, Some, None, option_to_list, option_map, inl}
use Rattle.std.proofs.Common.{inr, arith, length-append}
use Rattle.std.proofs.lemmas.Bool.{cases_Bool, lt-ltb}
use Rattle.std.proofs.lemmas.List.{append-nil}
use Rattle.inp_model.specs.declared.event.Event.{Event}
use Rattle.inp_model.specs.Description.{Description}
use Rattle.inp_model.specs.Event.{is_report, core_report, slot_event}
use Rattle.inp_model.specs.RawItem.{RawItem, Occurred, Described, Cut}
use Rattle.inp_model.specs.Passed.{passes_as, announces, announcement, passed, passed_for}
use Rattle.inp_model.specs.State.{staged}
use Rattle.inp_model.specs.Cut.{pending, cut_for, cuts}
use Rattle.inp_recon.proofs.Each.{Each, Each-append}
use Rattle.inp_recon.proofs.Over.{over, over-append}
use Rattle.inp_recon.proofs.QueuedValues.{ReportsIdle}
use Rattle.inp_recon.proofs.EventKinds.{of_reports}

-- a report is passed as it is
pub passed-report : (d : Description) (r : List RawItem) (e : Event) → is_report e ≡ true
    → passed d r e ≡ e ∷ []
passed-report d r = of_reports (λ e. passed d r e ≡ e ∷ []) (λ value. refl)

abbrev pub IsNoReport : Event → Type 0
IsNoReport e = is_report e ≡ false

slot_each : (P : Event → Type 0) → ((slot : ℤ) → P (slot_event slot)) → (b : Bool) (slot : ℤ)
    → Each P (if b then slot_event slot ∷ [] else [])
slot_each P h true slot = (h slot, tt)
slot_each P h false slot = tt

pub value_each : (P : Event → Type 0) (e : Event) → ((value : ℤ) → P (record e { value = value }))
    → (o : Option ℤ) → Each P (option_to_list (option_map (λ v. record e { value = v }) o))
value_each P e h None = tt
value_each P e h (Some v) = (h v, tt)

-- what holds of slot events and of the event under any value holds of all that is passed for it
pub passed-each : (P : Event → Type 0) (d : Description) (r : List RawItem) (e : Event)
    → ((slot : ℤ) → P (slot_event slot)) → ((value : ℤ) → P (record e { value = value }))
    → Each P (passed d r e)
passed-each P d r e slots values =
    Each-append P (announcement d r e) _ (slot_each P slots (announces d r e) (staged d r))
    (value_each P e values (passes_as d r e))

-- nothing else is passed as a report
pub passed-quiet : (d : Description) (r : List RawItem) (e : Event) → is_report e ≡ false
    → Each IsNoReport (passed d r e)
passed-quiet d r e h = passed-each IsNoReport d r e (λ slot. refl) (λ value. h)

-- no report waits in a batch
pub pending-quiet : (d : Description) (r : List RawItem) → Each IsNoReport (pending d r)
unfolding pending
pending-quiet d [] = tt
pending-quiet d (Described code axis ∷ r) = pending-quiet d r
pending-quiet d (Occurred e ∷ r) =
    let before : Each IsNoReport (pending d r) = pending-quiet d r in
    elim (cases_Bool (is_report e)) [
      | inl h ↦ rw h tt
      | inr h ↦ elim (cases_Bool (nat_le d.hint (length (pending d r ++ passed d r e)))) [
        | inl k ↦ rw (h, k) tt
        | inr k ↦ rw (h, k)
            (Each-append IsNoReport (pending d r) (passed d r e) before (passed-quiet d r e h))
      ]
    ]

-- it is a report
abbrev pub is_report_item : RawItem → Bool
is_report_item (Occurred e) = is_report e
is_report_item (Described code axis) = false

-- the item makes no frame: what it passes waits, or it is a report and nothing waits
pub record NoCut (d : Description) (r : List RawItem) (x : RawItem) : Type 0 where
  pub none : cut_for d r x ≡ []
  pub left : (pending d (x ∷ r) ≡ pending d r ++ passed_for d r x)
      ⊎ ((pending d (x ∷ r) ≡ []) × (pending d r ≡ []) × (is_report_item x ≡ true))

-- it makes one, of what waited and what it passes, with a report at the end
pub record OneCut (d : Description) (r : List RawItem) (x : RawItem) : Type 0 where
  pub body : List Event
  pub report : Event
  pub one : cut_for d r x ≡ record { events = body ++ report ∷ []; until = x ∷ r } ∷ []
  pub quiet : Each IsNoReport body
  pub ends : is_report report ≡ true
  pub left : pending d (x ∷ r) ≡ []
  pub same : (body ++ report ∷ [] ≡ pending d r ++ passed_for d r x)
      ⊎ (body ≡ pending d r ++ passed_for d r x)

-- a report, by what waits
report_case : (d : Description) (r : List RawItem) (e : Event) → is_report e ≡ true → (p : List Event)
    → pending d r ≡ p → NoCut d r (Occurred e) ⊎ OneCut d r (Occurred e)
unfolding pending
report_case d r e h [] k = inl (record { none = rw (h, passed-report d r e h, k); left = inr (rw h, k, h) })
report_case d r e h (y ∷ p) k =
    let long : nat_lt 1 (length (y ∷ (p ++ e ∷ []))) ≡ true =
    lt-ltb 1 _ (omega (arith, length-append p (e ∷ []))) in
    inr (record {
      body = pending d r;
      report = e;
      one = rw (h, passed-report d r e h, k, long);
      quiet = pending-quiet d r;
      ends = h;
      left = rw h;
      same = inl (rw (passed-report d r e h));
    })

-- another event, by whether the batch is full
other_case : (d : Description) (r : List RawItem) (e : Event) → is_report e ≡ false → (full : Bool)
    → nat_le d.hint (length (pending d r ++ passed d r e)) ≡ full
    → NoCut d r (Occurred e) ⊎ OneCut d r (Occurred e)
unfolding pending
other_case d r e h false k = inl (record { none = rw (h, k); left = inl (rw (h, k)) })
other_case d r e h true k = inr (record {
  body = pending d r ++ passed d r e;
  report = core_report;
  one = rw (h, k);
  quiet = Each-append IsNoReport (pending d r) (passed d r e) (pending-quiet d r) (passed-quiet d r e h);
  ends = refl;
  left = rw (h, k);
  same = inr refl;
})

-- an item makes no frame, or one; a description leaves the batch
pub cut_cases : (d : Description) (r : List RawItem) (x : RawItem) → NoCut d r x ⊎ OneCut d r x
unfolding pending
cut_cases d r (Described code axis) =
    inl (record { none = refl; left = inl (sym (append-nil (pending d r))) })
cut_cases d r (Occurred e) = elim (cases_Bool (is_report e)) [
  | inl h ↦ report_case d r e h (pending d r) refl
  | inr h ↦ other_case d r e h (nat_le d.hint (length (pending d r ++ passed d r e))) refl
]

-- ---- what a value becomes by it

-- what is passed for a raw event leads from the value of the state before to that of the state behind
abbrev pub LeadsOn : {V : Type 0} → Description → (V → Event → V) → (List RawItem → V) → Type 0
LeadsOn d t st = (r : List RawItem) (e : Event) → over t (st r) (passed d r e) ≡ st (Occurred e ∷ r)

module _ {V : Type 0} (t : V → Event → V) (idle : ReportsIdle t) (d : Description) (r : List RawItem) where
  -- what a report passes changes nothing
  report_item_idle : (x : RawItem) → is_report_item x ≡ true → (v : V) → over t v (passed_for d r x) ≡ v
  report_item_idle (Occurred e) h v = rw (passed-report d r e h) (idle e h v)
  report_item_idle (Described code axis) h v = absurd cc

  pub over-no_cut : (x : RawItem) → NoCut d r x → (v : V)
      → over t v (pending d (x ∷ r)) ≡ over t (over t v (pending d r)) (passed_for d r x)
  over-no_cut x h v =
      elim h.left [
        | inl more ↦ rw (more, over-append)
        | inr report ↦ rw
            (report.0, report.1, report_item_idle x report.2 v)
      ]

  pub over-one_cut : (x : RawItem) (h : OneCut d r x) (v : V)
      → over t v (h.body ++ h.report ∷ []) ≡ over t (over t v (pending d r)) (passed_for d r x)
  over-one_cut x h v = elim h.same [
    | inl whole ↦ rw (whole, over-append)
    | inr body ↦ rw (over-append t v h.body (h.report ∷ []), idle h.report h.ends, body, over-append)
  ]

-- the cut of a batch that ends at an item
abbrev pub cut_at : List RawItem → RawItem → List Event → Event → Cut
cut_at r x body report = record { events = body ++ report ∷ []; until = x ∷ r }

-- what holds of no items, and goes on over each, whether a batch waits or ends there, holds of the cuts of
-- all
pub over_items {ℓ} : (d : Description) (P : List RawItem → List RawItem → List Cut → Type ℓ)
    → ((r : List RawItem) → P r [] [])
    → ((r : List RawItem) (x : RawItem) (xs : List RawItem) (cs : List Cut) → NoCut d r x → P (x ∷ r) xs cs
    → P r (x ∷ xs) cs)
    → ((r : List RawItem) (x : RawItem) (xs : List RawItem) (cs : List Cut) (h : OneCut d r x)
    → P (x ∷ r) xs cs → P r (x ∷ xs) (cut_at r x h.body h.report ∷ cs))
    → (xs r : List RawItem) → P r xs (cuts d r xs)
unfolding cuts
over_items d P none waits ends [] r = none r
over_items d P none waits ends (x ∷ xs) r =
    let rest : P (x ∷ r) xs (cuts d (x ∷ r) xs) = over_items d P none waits ends xs (x ∷ r) in
    elim (cut_cases d r x) [
      | inl h ↦ rw h.none (waits r x xs (cuts d (x ∷ r) xs) h rest)
      | inr h ↦ rw h.one (ends r x xs (cuts d (x ∷ r) xs) h rest)
    ]
