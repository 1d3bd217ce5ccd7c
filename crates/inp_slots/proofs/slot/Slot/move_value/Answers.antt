use Rattle.std.proofs.Common.{◌≡◌, Bool, true, false, if◌then◌else◌, ℤ, to_z, of_z, w32, FitsSigned, refl, ap}
use Rattle.std.proofs.Common.{sym, ◌∙◌, Some, None}
use Rattle.std.specs.Ordering.{int_eq}
use Rattle.std.proofs.lemmas.Bool.Decides.{Decides-int_eq}
use Rattle.std.proofs.lemmas.Int.{to_z-of_z}
use Rattle.inp_model.specs.Defuzz.{defuzz}
use Rattle.inp_slots.specs.Changes.{on_axis, taken}
use Rattle.inp_slots.proofs.slot.Slot.move_value.Goals as goal

abbrev kept : ℤ → ℤ
kept z = to_z w32 (of_z w32 z)

differs : (a b : ℤ) (t : Bool) → int_eq a b ≡ t → (of_z w32 a ≡ of_z w32 b → ⊥) → int_eq a b ≡ false
differs a b true p h = absurd (h (ap (of_z w32) ((Decides-int_eq a b).0 p)))
differs a b false p h = p

defuzz_same : (v o f w p g : ℤ) → v ≡ w → o ≡ p → f ≡ g → defuzz v o f ≡ defuzz w p g
defuzz_same v o f w p g x y z = cc

chosen : (b a x : ℤ) → int_eq b a ≡ false → x ≡ a → Some x ≡ (if int_eq b a then None else Some a)
chosen b a x p q = rw p (ap Some q)

pub returns-else-before-after-clause-change : goal.returns-else-before-after-clause-change
returns-else-before-after-clause-change c =
    let before : ℤ = on_axis c.args.self.now c.args.code in
    let after : ℤ = taken c.args.self.now c.args.code c.args.value c.args.fuzz in
    let before_fits : FitsSigned w32 c.value-before.result = record { sfits = c.value-before.type_inv } in
    let after_fits : FitsSigned w32 c.defuzz-after.result = record { sfits = c.defuzz-after.type_inv } in
    let after_is : c.defuzz-after.result ≡ after =
    c.defuzz-after.ensures.value
    ∙ defuzz_same (kept c.args.value) (kept c.value-before.result)
    (kept c.args.fuzz) c.args.value before c.args.fuzz
    (to_z-of_z w32 c.args.value c.ranges.value) (to_z-of_z w32 c.value-before.result before_fits
    ∙ c.value-before.ensures.value) (to_z-of_z w32 c.args.fuzz c.ranges.fuzz) in
    chosen before after (kept c.defuzz-after.result)
    (differs before after (int_eq before after) refl
    (λ same. c.if-before-after.false (ap (of_z w32) c.value-before.ensures.value ∙ same
    ∙ ap (of_z w32) (sym after_is))))
    (to_z-of_z w32 c.defuzz-after.result after_fits ∙ after_is)
