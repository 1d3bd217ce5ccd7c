use Rattle.std.proofs.Common.{◌≡◌, true, false, [], drop, rules, tests, arith, ◌∙◌}
use Rattle.std.specs.List.{slice_split}
use Rattle.std.specs.Str.Lines.{strip_carriage_return}
use Rattle.std.proofs.lemmas.List.{length_push, drop_all}
use Rattle.std.proofs.lemmas.Iterator.Splits.{YieldsList-from_slice_split}
use Rattle.std.proofs.lemmas.Iterator.Consumers.{YieldsList-at, YieldsList-turn, YieldsList-end}
use Rattle.inp_texts.specs.Line.{is_line_feed, lines_of}
use Rattle.inp_record.specs.LineNumber.{is_action_line}
use Rattle.inp_record.proofs.LineNumbers.{here, another, none_here, not_missed}
use Rattle.inp_record.proofs.LineByLine.{IsTurn, turn_is, lines_length}
use Rattle.inp_record.proofs.line_numbers.line_number.Goals as goal
use Rattle.inp_record.proofs.line_numbers.line_number.Goals.{In-Some}

-- the line that a turn of the loop is given
turn : (c : In-Some)
    → IsTurn (slice_split is_line_feed c.args.text.now) c.loop-piece.number c.in-Some.piece.now
turn c =
    turn_is (slice_split is_line_feed c.args.text.now) c.loop-piece.number _ c.in-Some.piece.now
    c.loop-piece.invariant.counted
    (YieldsList-turn
    (YieldsList-at c.into_iter-piece-iterator.ensures.into_iter_gives
    (YieldsList-from_slice_split _ is_line_feed c.args.text.now c.split-piece-items.ensures.rest
    c.split-piece-items.ensures.done c.split-piece-items.ensures.closure (λ x b q k. search (rules, tests))))
    c.loop-piece.yielded _ c.loop-piece.yielded_by _ _ c.in-Some.piece c.in-Some.is c.next.ensures.steps)

pub overflow_add-number : goal.overflow_add-number
overflow_add-number c = omega (arith, (turn (goal.at.overflow_add-number c).In-Some).below, c.requires.few)

pub returns-then-left-eq0 : goal.returns-then-left-eq0
returns-then-left-eq0 c =
    let t = turn (goal.at.returns-then-left-eq0 c).In-Some in
    let stripped : c.strip_carriage_return.result.now ≡ strip_carriage_return c.in-Some.piece.now =
    c.strip_carriage_return.ensures.stripped in
    let is : is_action_line (strip_carriage_return c.in-Some.piece.now) ≡ true = cc in
    record {
      number = c.loop-piece.invariant.left
          ∙ here (lines_of c.args.text.now) c.loop-piece.number c.loop-piece.left _ t.line is (omega arith);
    }

pub loop-piece-preserved-then-is_action_line : goal.loop-piece-preserved-then-is_action_line
loop-piece-preserved-then-is_action_line c =
    let t = turn (goal.at.loop-piece-preserved-then-is_action_line c).In-Some in
    let stripped : c.strip_carriage_return.result.now ≡ strip_carriage_return c.in-Some.piece.now =
    c.strip_carriage_return.ensures.stripped in
    let is : is_action_line (strip_carriage_return c.in-Some.piece.now) ≡ true = cc in
    record {
      counted =
          omega (arith, length_push c.loop-piece.yielded c.in-Some.piece, c.loop-piece.invariant.counted);
      within = omega (arith, t.below);
      left = c.loop-piece.invariant.left
          ∙ another (lines_of c.args.text.now) c.loop-piece.number c.loop-piece.left _ t.line
          is (omega arith);
    }

-- a line that is no action leaves as many actions to go
pub loop-piece-preserved : goal.loop-piece-preserved
loop-piece-preserved c =
    let t = turn (goal.at.loop-piece-preserved c).In-Some in
    let stripped : c.strip_carriage_return.result.now ≡ strip_carriage_return c.in-Some.piece.now =
    c.strip_carriage_return.ensures.stripped in
    let is : is_action_line (strip_carriage_return c.in-Some.piece.now) ≡ false = cc in
    record {
      counted =
          omega (arith, length_push c.loop-piece.yielded c.in-Some.piece, c.loop-piece.invariant.counted);
      within = omega (arith, t.below);
      left = c.loop-piece.invariant.left
          ∙ none_here (lines_of c.args.text.now) c.loop-piece.number c.loop-piece.left _ t.line is;
    }

-- the wanted action is one of the lines, so they do not end before it
pub returns : goal.returns
returns c =
    let e =
    YieldsList-end
    (YieldsList-at c.into_iter-piece-iterator.ensures.into_iter_gives
    (YieldsList-from_slice_split _ is_line_feed c.args.text.now c.split-piece-items.ensures.rest
    c.split-piece-items.ensures.done c.split-piece-items.ensures.closure (λ x b q k. search (rules, tests))))
    c.loop-piece.yielded _ c.loop-piece.yielded_by _ _ c.in-None.is c.next.ensures.steps in
    let parts = slice_split is_line_feed c.args.text.now in
    let size = lines_length parts in let lines = lines_of c.args.text.now in
    let none : drop c.loop-piece.number lines ≡ [] =
    drop_all c.loop-piece.number lines (omega (arith, e.1, c.loop-piece.invariant.counted)) in
    absurd
    (not_missed lines (drop c.loop-piece.number lines) c.loop-piece.number c.args.line c.loop-piece.left
    c.requires.there none c.loop-piece.invariant.left)
