use Rattle.std.proofs.Common.{sym}
use Rattle.inp_script.proofs.Batches.{all-entered, all-noted, some-entered, some-noted}
use Rattle.inp_script.proofs.notes.Notes.note_injected.Goals as goal

-- behind those that were entered none is left
pub returns-in_default-clause-all : goal.returns-in_default-clause-all
returns-in_default-clause-all c =
    all-entered c.args.injected.count c.args.events.now
    (rw (← c.split_at.ensures.back) (sym c.in_default.ensures.value))

pub returns-in_default-clause-noted : goal.returns-in_default-clause-noted
returns-in_default-clause-noted c =
    all-noted c.args.injected c.args.events.now c.split_at.result.0.now c.args.self.now
    c.note_entered.new.self c.split_at.ensures.front
    (rw (← c.split_at.ensures.back) (sym c.in_default.ensures.value)) c.in_ok-note_entered.ensures

-- behind those that were entered one is left, which was refused
pub returns-clause-all : goal.returns-clause-all
returns-clause-all c =
    some-entered c.args.injected.count c.args.events.now c.in-Some.refused.now
    (rw (← c.split_at.ensures.back) (sym c.in-Some.ensures.value))

pub returns-clause-noted : goal.returns-clause-noted
returns-clause-noted c =
    some-noted c.args.injected c.args.events.now c.split_at.result.0.now c.in-Some.refused.now
    c.args.self.now c.note_entered.new.self c.note.new.self c.split_at.ensures.front
    (rw (← c.split_at.ensures.back) (sym c.in-Some.ensures.value)) c.in_ok-note_entered.ensures
    (rw (c.in_ok-note.ensures, c.injecting.ensures.step))
