-- A value that events change one after another.
use Rattle.std.proofs.Common.{◌≡◌, List, [], ◌∷◌, ◌++◌, refl, ◌∙◌}
use Rattle.inp_model.specs.declared.event.Event.{Event}
use Rattle.inp_recon.proofs.Each.{Each}

abbrev pub over : {V : Type 0} → (V → Event → V) → V → List Event → V
over t v [] = v
over t v (e ∷ es) = over t (t v e) es

pub over-append : {V : Type 0} (t : V → Event → V) (v : V) (es later : List Event)
    → over t v (es ++ later) ≡ over t (over t v es) later
over-append t v [] later = refl
over-append t v (e ∷ es) later = over-append t (t v e) es later

-- an event that changes nothing
abbrev pub IsIdle : {V : Type 0} → (V → Event → V) → Event → Type 0
IsIdle {V} t e = (v : V) → t v e ≡ v

pub over-idle : {V : Type 0} (t : V → Event → V) (v : V) (es : List Event) → Each (IsIdle t) es
    → over t v es ≡ v
over-idle t v [] h = refl
over-idle t v (e ∷ es) h = over-idle t (t v e) es h.1 ∙ h.0 v
