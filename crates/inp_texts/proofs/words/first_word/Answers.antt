use Rattle.std.proofs.Common.{◌≡◌, true, false, length, sym, rules, tests, arith}
use Rattle.std.specs.List.{slice_split}
use Rattle.std.proofs.lemmas.Bool.Decides.{nat_tests}
use Rattle.std.proofs.lemmas.List.{drop_all, length_push}
use Rattle.std.proofs.lemmas.Iterator.Splits.{YieldsList-from_slice_split}
use Rattle.std.proofs.lemmas.Iterator.Consumers.{YieldsList-at, YieldsList-turn, YieldsList-end}
use Rattle.inp_texts.specs.Line.{is_blank, is_word}
use Rattle.inp_texts.proofs.FirstWords.{word_at, none_at}
use Rattle.inp_texts.proofs.words.first_word.Goals as goal

pub returns-then-not-is_empty : goal.returns-then-not-is_empty
returns-then-not-is_empty c =
    let t =
    YieldsList-turn
    (YieldsList-at c.into_iter-piece-iterator.ensures.into_iter_gives
    (YieldsList-from_slice_split _ is_blank c.args.line.now c.split-piece-items.ensures.rest
    c.split-piece-items.ensures.done c.split-piece-items.ensures.closure (λ x b q k. search (rules, tests))))
    c.loop-piece.yielded _ c.loop-piece.yielded_by _ _ c.in-Some.piece c.in-Some.is c.next.ensures.steps in
    let pieces = slice_split is_blank c.args.line.now in
    let is : is_word c.in-Some.piece.now ≡ true = grind (arith, nat_tests) in
    record {
      word =
          sym
          (rw (
            c.loop-piece.invariant,
            word_at pieces (length c.loop-piece.yielded) c.in-Some.piece.now t.0 t.1 is,
          ));
    }

pub loop-piece-preserved : goal.loop-piece-preserved
loop-piece-preserved c =
    let t =
    YieldsList-turn
    (YieldsList-at c.into_iter-piece-iterator.ensures.into_iter_gives
    (YieldsList-from_slice_split _ is_blank c.args.line.now c.split-piece-items.ensures.rest
    c.split-piece-items.ensures.done c.split-piece-items.ensures.closure (λ x b q k. search (rules, tests))))
    c.loop-piece.yielded _ c.loop-piece.yielded_by _ _ c.in-Some.piece c.in-Some.is c.next.ensures.steps in
    let pieces = slice_split is_blank c.args.line.now in
    let is : is_word c.in-Some.piece.now ≡ false = grind (arith, nat_tests) in
    rw (
      c.loop-piece.invariant,
      none_at pieces (length c.loop-piece.yielded) c.in-Some.piece.now t.0 t.1 is,
      ← length_push c.loop-piece.yielded c.in-Some.piece,
    )

pub returns : goal.returns
returns c =
    let e =
    YieldsList-end
    (YieldsList-at c.into_iter-piece-iterator.ensures.into_iter_gives
    (YieldsList-from_slice_split _ is_blank c.args.line.now c.split-piece-items.ensures.rest
    c.split-piece-items.ensures.done c.split-piece-items.ensures.closure (λ x b q k. search (rules, tests))))
    c.loop-piece.yielded _ c.loop-piece.yielded_by _ _ c.in-None.is c.next.ensures.steps in
    let pieces = slice_split is_blank c.args.line.now in
    record {
      word =
          sym
          (rw (c.loop-piece.invariant, drop_all (length c.loop-piece.yielded) pieces (omega (arith, e.1))));
    }
