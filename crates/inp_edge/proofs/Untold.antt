-- What holds of an input or a sink that tells nothing.
use Rattle.std.proofs.Common.{◌≡◌, ℕ, ◌⊎◌, inl, Result, Ok, Err, OnOk, OnErr, IfOk, arith}
use Rattle.std.specs.Prelude.{is_err}
use Rattle.inp_edge.specs.Count.{RoseUnlessSaturated, faults_after}

-- a fact that always holds does so for either variant
pub OnOk-always : {T E : Type 0} (P : Type 0) (r : Result T E) → P → OnOk r P
OnOk-always P (Ok x) p = p
OnOk-always P (Err e) p = tt

pub IfOk-always : {T E : Type 0} (P : T → Type 0) (r : Result T E) → ((x : T) → P x) → IfOk r P
IfOk-always P (Ok x) p = p x
IfOk-always P (Err e) p = tt

pub OnErr-always : {T E : Type 0} (P : Type 0) (r : Result T E) → P → OnErr r P
OnErr-always P (Ok x) p = tt
OnErr-always P (Err e) p = p

-- a count that is raised at each error rose where there is one
pub RoseUnlessSaturated-on_err : {T E : Type 0} (r : Result T E) (before after : ℕ)
    → after ≡ faults_after before (is_err r) → OnErr r (RoseUnlessSaturated before after)
RoseUnlessSaturated-on_err (Ok x) before after e = tt
RoseUnlessSaturated-on_err (Err x) before after e = λ h. omega arith

-- and stays where there is none
pub faults_stay-on_ok : {T E : Type 0} (r : Result T E) (before after : ℕ)
    → after ≡ faults_after before (is_err r) → OnOk r (after ≡ before)
faults_stay-on_ok (Ok x) before after e = e
faults_stay-on_ok (Err x) before after e = tt

pub RoseUnlessSaturated-on_err_or : {T E : Type 0} (P : Type 0) (r : Result T E) (before after : ℕ)
    → after ≡ faults_after before (is_err r) → OnErr r (RoseUnlessSaturated before after ⊎ P)
RoseUnlessSaturated-on_err_or P (Ok x) before after e = tt
RoseUnlessSaturated-on_err_or P (Err x) before after e = inl (λ h. omega arith)
