-- Events by their types and codes.
use Rattle.std.proofs.Common.{◌≡◌, ℕ, ℤ, Bool, true, false, ◌&&◌, nat_eq, refl, ap, inl, inr}
use Rattle.std.proofs.lemmas.Bool.{eqb-true, ne_eqb, cases_Bool}
use Rattle.inp_model.specs.declared.event.TheConstants.{EV_SYN, SYN_REPORT, SYN_DROPPED}
use Rattle.inp_model.specs.declared.event.Event.{Event}
use Rattle.inp_model.specs.Event.{is_report}
use Rattle.inp_recon.specs.Synchronised.{is_dropped}
use Rattle.inp_recon.specs.Undisturbed.{is_viewed}
use Rattle.inp_recon.proofs.Each.{and-left, and-right}

abbrev pub event : ℕ → ℕ → ℤ → Event
event kind code value = record { kind = kind; code = code; value = value }

pub is_event : (e : Event) (kind code : ℕ) → e.kind ≡ kind → e.code ≡ code → e ≡ event kind code e.value
is_event e kind code h k = rw (h, k)

pub report_is : (e : Event) → is_report e ≡ true → e ≡ event EV_SYN SYN_REPORT e.value
report_is e h =
    is_event e EV_SYN SYN_REPORT (eqb-true e.kind EV_SYN (and-left _ _ h))
    (eqb-true e.code SYN_REPORT (and-right _ _ h))

pub dropped_is : (e : Event) → is_dropped e ≡ true → e ≡ event EV_SYN SYN_DROPPED e.value
dropped_is e h =
    is_event e EV_SYN SYN_DROPPED (eqb-true e.kind EV_SYN (and-left _ _ h))
    (eqb-true e.code SYN_DROPPED (and-right _ _ h))

-- what holds of each report
pub of_reports : (P : Event → Type 0) → ((value : ℤ) → P (event EV_SYN SYN_REPORT value)) → (e : Event)
    → is_report e ≡ true → P e
of_reports P h e report = rw (report_is e report) (h e.value)

-- what holds of each loss
pub of_losses : (P : Event → Type 0) → ((value : ℤ) → P (event EV_SYN SYN_DROPPED value)) → (e : Event)
    → is_dropped e ≡ true → P e
of_losses P h e loss = rw (dropped_is e loss) (h e.value)

pub report-unviewed : (e : Event) → is_report e ≡ true → is_viewed e.kind ≡ false
report-unviewed = of_reports (λ e. is_viewed e.kind ≡ false) (λ value. refl)

-- an event of a type that is not viewed is of none of these
pub unviewed-other : (kind k : ℕ) → is_viewed k ≡ true → is_viewed kind ≡ false → nat_eq kind k ≡ false
unviewed-other kind k h n = ne_eqb kind k (λ same. cc (n, ap is_viewed same, h))

-- the event is of this type and code
abbrev pub is_on_code : ℕ → ℕ → Event → Bool
is_on_code kind code e = nat_eq e.kind kind && nat_eq e.code code

-- what holds of each event on a code, and of each that is not on it, holds of all
pub on_or_off : (P : Event → Type 0) (kind code : ℕ) (e : Event) → ((value : ℤ) → P (event kind code value))
    → (is_on_code kind code e ≡ false → P e) → P e
on_or_off P kind code e on off = elim (cases_Bool (is_on_code kind code e)) [
  | inl is ↦ (let same =
      is_event e kind code (eqb-true e.kind kind (and-left _ _ is))
      (eqb-true e.code code (and-right (nat_eq e.kind kind) _ is)) in rw same (on e.value))
  | inr other ↦ off other
]
