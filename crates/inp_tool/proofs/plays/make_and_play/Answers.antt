use Rattle.std.proofs.Common.{◌≡◌, ℕ, subst, None}
use Rattle.inp_actors.specs.Record.{RecordView}
use Rattle.inp_make.specs.Generated.{generated}
use Rattle.inp_script.specs.declared.run.Played.{Played}
use Rattle.inp_runs.proofs.Results.{promised-runs, promised-joys, promised-owners}
use Rattle.inp_runs.specs.Job.{ArePromised}
use Rattle.inp_tool.specs.Promise.{IsResultOf}
use Rattle.inp_tool.proofs.MadeAlone.{made-no_joys, made-no_owners}
use Rattle.inp_tool.proofs.plays.make_and_play.Goals as goal

-- what is promised of the record that was made is promised of the generated one
of_made : (number count : ℕ) (r : RecordView) (played : Played) → r ≡ generated number count
    → ArePromised None r played → ArePromised None (generated number count) played
of_made number count r played same p = subst (λ (x : RecordView). ArePromised None x played) same p

-- the result that was promised has the runs of the record
pub summary-requires : goal.summary-requires
summary-requires c = record {
  runs = promised-runs None _ c.in_ok-played.played c.in_ok-played.ensures.promised;
}

pub returns-clause-came : goal.returns-clause-came
returns-clause-came c =
    subst (λ (r : RecordView). IsResultOf None r c.in_ok-played.played) c.in_ok-made.ensures.generated
    (record { promised = c.in_ok-played.ensures.promised; in_order = λ same. c.in_ok-played.ensures.played })

-- a record that was made has no joystick and no owner
pub returns-clause-joys : goal.returns-clause-joys
returns-clause-joys c =
    made-no_joys c.args.number c.args.count _
    (promised-joys None (generated c.args.number c.args.count) c.in_ok-played.played
    (of_made c.args.number c.args.count _ c.in_ok-played.played c.in_ok-made.ensures.generated
    c.in_ok-played.ensures.promised))

pub returns-clause-owners : goal.returns-clause-owners
returns-clause-owners c =
    made-no_owners c.args.number c.args.count _
    (promised-owners None (generated c.args.number c.args.count) c.in_ok-played.played
    (of_made c.args.number c.args.count _ c.in_ok-played.played c.in_ok-made.ensures.generated
    c.in_ok-played.ensures.promised))
