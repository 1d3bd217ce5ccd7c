use Rattle.std.proofs.Common.{◌≡◌, Bool, true, false, refl, arith}
use Rattle.inp_texts.proofs.Cuts.{first_line, last_line}
use Rattle.inp_texts.proofs.words.line_end.Goals as goal

-- a test that does not answer true answers false
not_true : (b : Bool) → (b ≡ true → ⊥) → b ≡ false
not_true true h = absurd (h refl)
not_true false h = refl

pub returns-in-Some : goal.returns-in-Some
returns-in-Some c =
    let first = c.in-Some.ensures in
    record {
      within = omega (arith, first.0.high);
      first =
          first_line c.args.text.now c.in-Some.end first.0.high
          (λ k lt. not_true _ (first.0.before k (omega arith) lt)) first.1;
    }

pub returns-in-None : goal.returns-in-None
returns-in-None c =
    record {
      within = omega arith;
      first = last_line c.args.text.now (λ k lt. not_true _ (c.in-None.ensures k (omega arith) lt));
    }
