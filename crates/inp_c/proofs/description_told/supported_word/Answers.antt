use Rattle.std.proofs.Common.{◌≡◌, ℕ, ◌+◌, ◌-◌, ◌*◌, if◌then◌else◌, ap, ◌∙◌, arith}
use Rattle.inp_c.specs.DescriptionTold.{is_supported}
use Rattle.inp_c.proofs.Digits.{number_from-lt, digit-le, number_from-more, number_from-whole}
use Rattle.inp_c.proofs.description_told.supported_word.Goals as goal

pub overflow_mul-word : goal.overflow_mul-word
overflow_mul-word c =
    let few =
    number_from-lt (λ k. is_supported c.args.caps.now c.args.kind (c.args.start + k))
    (64 - c.loop-passed.passed) c.loop-passed.passed (omega arith) in
    omega (arith, few, c.loop-passed.invariant)

pub overflow_add-word : goal.overflow_add-word
overflow_add-word c =
    let few =
    number_from-lt (λ k. is_supported c.args.caps.now c.args.kind (c.args.start + k))
    (64 - c.loop-passed.passed) c.loop-passed.passed (omega arith) in
    let digit =
    digit-le (is_supported c.args.caps.now c.args.kind (c.args.start + 63 - c.loop-passed.passed)) in
    omega (arith, few, digit, c.loop-passed.invariant, c.supported_digit.ensures)

pub loop-passed-preserved : goal.loop-passed-preserved
loop-passed-preserved c =
    let test = λ (k : ℕ). is_supported c.args.caps.now c.args.kind (c.args.start + k) in
    let code : c.args.start + 63 - c.loop-passed.passed ≡ c.args.start + (63 - c.loop-passed.passed) =
    omega arith in
    ap (λ (n : ℕ). 2 * c.loop-passed.word + n) (c.supported_digit.ensures
    ∙ ap (λ (k : ℕ). if is_supported c.args.caps.now c.args.kind k then 1 else 0) code)
    ∙ number_from-more test c.loop-passed.word c.loop-passed.passed (omega arith) c.loop-passed.invariant

-- all 64 codes of the word were gone through
pub returns : goal.returns
returns c =
    number_from-whole (λ k. is_supported c.args.caps.now c.args.kind (c.args.start + k)) c.loop-passed.word
    c.loop-passed.passed (omega arith) c.loop-passed.invariant
