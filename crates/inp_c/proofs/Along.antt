-- What holds of what is kept holds of the handle that keeps it.
use Rattle.std.proofs.Common.{◌≡◌, Option, Some, sym, ap, ◌∙◌, subst}

-- a relation of two values holds of any that are equal to them
pub along : (A : Type 0) (P : A → A → Type 0) (before after x y : A) → before ≡ x → after ≡ y → P x y
    → P before after
along A P before after x y e f h = subst (λ (z : A). P before z) (sym f) (subst (λ (z : A). P z y) (sym e) h)

-- what holds of the value that was taken and lent holds of the handle that had it
pub at_contents : (A : Type 0) (P : Option A → Type 0) (before : Option A) (taken lent : A)
    → before ≡ Some taken → lent ≡ taken → P (Some lent) → P before
at_contents A P before taken lent e f h = subst P (sym (e ∙ ap Some (sym f))) h
