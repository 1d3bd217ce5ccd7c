use Rattle.std.proofs.Common.{get_or, refl, arith, None}
use Rattle.std.proofs.lemmas.Bool.Decides.{nat_tests}
use Rattle.std.proofs.lemmas.List.{take_all, nil_from_length}
use Rattle.inp_script.proofs.Batches.{no_stamped, entered-more, noted-anew}
use Rattle.inp_script.proofs.notes.Notes.note_entered.Goals as goal

-- of no event nothing is noted
pub returns-then-is_empty : goal.returns-then-is_empty
returns-then-is_empty c =
    rw (nil_from_length c.args.events.now (let h = c.if-is_empty.true in
    grind (arith, nat_tests, h, c.is_empty.ensures)))

-- before the first event nothing is noted
pub loop-stamped-init : goal.loop-stamped-init
loop-stamped-init c = record { place = omega arith; noted = refl }

pub overflow_add-at : goal.overflow_add-at
overflow_add-at c = omega (arith, c.loop-stamped.invariant.place, c.loop-stamped-test.true, c.requires.fits)

-- one event more is noted, at the place behind the one before
pub loop-stamped-preserved : goal.loop-stamped-preserved
loop-stamped-preserved c =
    let events = c.args.events.now in
    let i = c.loop-stamped.stamped-index in
    let before = record c.args.self.now { stop = None } in
    let mid = record c.loop-stamped.self { stop = None } in
    let at = c.loop-stamped.at in
    record {
      place = omega (arith, c.loop-stamped.invariant.place);
      noted =
          entered-more c.args.from i at events (get_or events i no_stamped) before mid
          (record { sight = c.push_entered.new.self; stop = None }) c.loop-stamped-test.true refl
          c.loop-stamped.invariant.place c.loop-stamped.invariant.noted
          (rw c.in_ok-push_entered.ensures.ok);
    }

-- at the end of the list all events are noted
pub returns : goal.returns
returns c =
    rw (
      c.loop-stamped.invariant.noted,
      take_all c.loop-stamped.stamped-index c.args.events.now c.loop-stamped-test.false,
    )
    (noted-anew c.args.from c.args.events.now c.args.self.now (let h = c.if-is_empty.false in
    grind (arith, nat_tests, h, c.is_empty.ensures)))
