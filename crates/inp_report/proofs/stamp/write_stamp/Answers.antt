-- Each number has twenty digits at most.
use Rattle.std.proofs.Common.{◌≡◌, ℕ, ◌+◌, List, ◌++◌, length, ap, ◌∙◌, arith, length-append}
use Rattle.std.specs.Prelude.{codes}
use Rattle.std.specs.Fmt.{decimal}
use Rattle.std.proofs.lemmas.Fmt.{length-decimal-le}
use Rattle.inp_report.proofs.stamp.write_stamp.Goals as goal

pub push_number-requires : goal.push_number-requires
push_number-requires c =
    let word : length c.push_str.new.self ≡ 5 =
    ap length (c.push_str.ensures.pushed ∙ ap (λ (l : List ℕ). l ++ codes "took ") c.clear.ensures.empty) in
    let place = length-decimal-le 20 c.from.result (omega arith) (omega arith) (omega arith) in
    record { room = omega arith }

pub push_str-requires-2 : goal.push_str-requires-2
push_str-requires-2 c =
    let word : length c.push_str.new.self ≡ 5 =
    ap length (c.push_str.ensures.pushed ∙ ap (λ (l : List ℕ). l ++ codes "took ") c.clear.ensures.empty) in
    let place = length-decimal-le 20 c.from.result (omega arith) (omega arith) (omega arith) in
    let second : length c.push_number.new.self ≡ length c.push_str.new.self + length (decimal c.from.result) =
    ap length c.push_number.ensures.pushed ∙ length-append _ _ in
    record { room = omega arith }

pub push_number-requires-2 : goal.push_number-requires-2
push_number-requires-2 c =
    let word : length c.push_str.new.self ≡ 5 =
    ap length (c.push_str.ensures.pushed ∙ ap (λ (l : List ℕ). l ++ codes "took ") c.clear.ensures.empty) in
    let place = length-decimal-le 20 c.from.result (omega arith) (omega arith) (omega arith) in
    let second : length c.push_number.new.self ≡ length c.push_str.new.self + length (decimal c.from.result) =
    ap length c.push_number.ensures.pushed ∙ length-append _ _ in
    let third : length c.push_str-2.new.self ≡ length c.push_number.new.self + 1 =
    ap length c.push_str-2.ensures.pushed ∙ length-append _ _ in
    let time = length-decimal-le 20 c.args.time (omega arith) (omega arith) c.ranges.time.fits in
    record { room = omega arith }

pub push_str-requires-3 : goal.push_str-requires-3
push_str-requires-3 c =
    let word : length c.push_str.new.self ≡ 5 =
    ap length (c.push_str.ensures.pushed ∙ ap (λ (l : List ℕ). l ++ codes "took ") c.clear.ensures.empty) in
    let place = length-decimal-le 20 c.from.result (omega arith) (omega arith) (omega arith) in
    let second : length c.push_number.new.self ≡ length c.push_str.new.self + length (decimal c.from.result) =
    ap length c.push_number.ensures.pushed ∙ length-append _ _ in
    let third : length c.push_str-2.new.self ≡ length c.push_number.new.self + 1 =
    ap length c.push_str-2.ensures.pushed ∙ length-append _ _ in
    let time = length-decimal-le 20 c.args.time (omega arith) (omega arith) c.ranges.time.fits in
    let fourth : length c.push_number-2.new.self
    ≡ length c.push_str-2.new.self + length (decimal c.args.time) = ap length c.push_number-2.ensures.pushed
    ∙ length-append _ _ in
    record { room = omega arith }
