-- What stands for no events.
use Rattle.std.proofs.Common.{◌≡◌, ℕ, zero, suc, ◌+◌, ◌-◌, ◌<◌, true, ℤ, pos, List, [], length, get_or, refl}
use Rattle.std.proofs.Common.{sym, ap, subst, ◌∙◌, arith}
use Rattle.std.specs.Prelude.{replicate}
use Rattle.std.proofs.lemmas.List.{get_or-replicate, length-replicate}
use Rattle.std.proofs.lemmas.Bool.Decides.{nat_tests}
use Rattle.inp_model.specs.declared.multi_touch.TheConstants.{ABS_MT_TOUCH_MAJOR}
use Rattle.inp_model.specs.Description.{Description, is_slot_code}
use Rattle.inp_model.specs.State.{staged, cell, first_cell}
use Rattle.inp_model.specs.Passed.{announced}
use Rattle.inp_slots.specs.Slots.{SlotsStandFor}
use Rattle.inp_slots.specs.Contact.{no_contact}

past_all : (j : ℕ) (code : ℕ) → code ≡ 62 + j → pos 0 ≡ first_cell code
past_all j code p = grind (arith, nat_tests)

-- each value of a slot without a contact
value_at : (j code : ℕ) → code ≡ 48 + j → get_or no_contact j (pos 0) ≡ first_cell code
value_at zero code p = sym (ap first_cell p)
value_at (suc zero) code p = sym (ap first_cell p)
value_at (suc (suc zero)) code p = sym (ap first_cell p)
value_at (suc (suc (suc zero))) code p = sym (ap first_cell p)
value_at (suc (suc (suc (suc zero)))) code p = sym (ap first_cell p)
value_at (suc (suc (suc (suc (suc zero))))) code p = sym (ap first_cell p)
value_at (suc (suc (suc (suc (suc (suc zero)))))) code p = sym (ap first_cell p)
value_at (suc (suc (suc (suc (suc (suc (suc zero))))))) code p = sym (ap first_cell p)
value_at (suc (suc (suc (suc (suc (suc (suc (suc zero)))))))) code p = sym (ap first_cell p)
value_at (suc (suc (suc (suc (suc (suc (suc (suc (suc zero))))))))) code p = sym (ap first_cell p)
value_at (suc (suc (suc (suc (suc (suc (suc (suc (suc (suc zero)))))))))) code p = sym (ap first_cell p)
value_at (suc (suc (suc (suc (suc (suc (suc (suc (suc (suc (suc zero))))))))))) code p = sym (ap first_cell p)
value_at (suc (suc (suc (suc (suc (suc (suc (suc (suc (suc (suc (suc zero)))))))))))) code p =
    sym (ap first_cell p)
value_at (suc (suc (suc (suc (suc (suc (suc (suc (suc (suc (suc (suc (suc zero))))))))))))) code p =
    sym (ap first_cell p)
value_at (suc (suc (suc (suc (suc (suc (suc (suc (suc (suc (suc (suc (suc (suc j)))))))))))))) code p =
    past_all j code (omega arith)

place_of : (code : ℕ) → is_slot_code code ≡ true → code ≡ 48 + (code - ABS_MT_TOUCH_MAJOR)
place_of code h = grind (arith, nat_tests)

pub SlotsStandFor-fresh : (d : Description) (count : ℕ) (slots : List (List ℤ))
    → slots ≡ replicate count no_contact → d.slots ≡ count
    → SlotsStandFor d [] (record { slots = slots; staged = pos 0; announced = pos 0; at_frame = pos 0 })
unfolding staged announced cell
SlotsStandFor-fresh d count slots p q = record {
  count = ap length p ∙ length-replicate count no_contact ∙ sym q;
  staged = refl;
  announced = refl;
  values = λ slot code l k.
      rw (p, get_or-replicate count slot no_contact [] (subst (λ (n : ℕ). slot < n) q l))
      (value_at (code - ABS_MT_TOUCH_MAJOR) code (place_of code k));
}
