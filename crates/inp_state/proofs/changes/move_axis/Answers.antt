use Rattle.std.proofs.Common.{◌≡◌, Bool, true, false, if◌then◌else◌, ℤ, pos, get_or, to_z, of_z, w32}
use Rattle.std.proofs.Common.{FitsSigned, refl, sym, ap, ◌∙◌, rules, Some, None}
use Rattle.std.specs.Ordering.{int_eq}
use Rattle.std.proofs.lemmas.Bool.Decides.{Decides-int_eq}
use Rattle.std.proofs.lemmas.Int.{to_z-of_z}
use Rattle.inp_model.specs.Defuzz.{defuzz}
use Rattle.inp_state.proofs.changes.move_axis.Goals as goal

abbrev kept : ℤ → ℤ
kept z = to_z w32 (of_z w32 z)

differs : (a b : ℤ) (t : Bool) → int_eq a b ≡ t → (of_z w32 a ≡ of_z w32 b → ⊥) → int_eq a b ≡ false
differs a b true p h = absurd (h (ap (of_z w32) ((Decides-int_eq a b).0 p)))
differs a b false p h = p

defuzz_same : (v o f w p g : ℤ) → v ≡ w → o ≡ p → f ≡ g → defuzz v o f ≡ defuzz w p g
defuzz_same v o f w p g x y z = cc

chosen : (b a x : ℤ) → int_eq b a ≡ false → x ≡ a → Some x ≡ (if int_eq b a then None else Some a)
chosen b a x p q = rw p (ap Some q)

pub returns-else-before-after-clause-passed : goal.returns-else-before-after-clause-passed
returns-else-before-after-clause-passed c =
    let place : get_or c.args.axes.now c.from.result (pos 0)
    ≡ get_or c.args.axes.now c.args.event.code (pos 0) = rw c.from.ensures in
    let value_fits : FitsSigned w32 c.args.event.value = search rules in
    let before_fits : FitsSigned w32 (get_or c.args.axes.now c.from.result (pos 0)) = search rules in
    let after_fits : FitsSigned w32 c.defuzz-after.result = record { sfits = c.defuzz-after.type_inv } in
    let after : c.defuzz-after.result
    ≡ defuzz c.args.event.value (get_or c.args.axes.now c.args.event.code (pos 0)) c.args.fuzz =
    c.defuzz-after.ensures.value
    ∙ defuzz_same (kept c.args.event.value) (kept (get_or c.args.axes.now c.from.result (pos 0)))
    (kept c.args.fuzz) c.args.event.value (get_or c.args.axes.now c.args.event.code (pos 0)) c.args.fuzz
    (to_z-of_z w32 c.args.event.value value_fits)
    (to_z-of_z w32 (get_or c.args.axes.now c.from.result (pos 0)) before_fits ∙ place)
    (to_z-of_z w32 c.args.fuzz c.ranges.fuzz) in
    chosen (get_or c.args.axes.now c.args.event.code (pos 0))
    (defuzz c.args.event.value (get_or c.args.axes.now c.args.event.code (pos 0)) c.args.fuzz) _
    (differs (get_or c.args.axes.now c.args.event.code (pos 0))
    (defuzz c.args.event.value (get_or c.args.axes.now c.args.event.code (pos 0)) c.args.fuzz)
    (int_eq (get_or c.args.axes.now c.args.event.code (pos 0))
    (defuzz c.args.event.value (get_or c.args.axes.now c.args.event.code (pos 0)) c.args.fuzz)) refl
    (λ same. c.if-before-after.false (ap (of_z w32) place ∙ same ∙ ap (of_z w32) (sym after))))
    (to_z-of_z w32 c.defuzz-after.result after_fits ∙ after)
