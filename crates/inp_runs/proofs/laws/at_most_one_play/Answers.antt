use Rattle.std.proofs.Common.{◌≡◌, ◌+◌, Some, add_comm}
use Rattle.inp_runs.specs.Play.{IsPlay, play}
use Rattle.inp_runs.proofs.Common.{RecordView}
use Rattle.inp_script.specs.declared.run.Played.{Played}
use Rattle.inp_runs.proofs.order.Rounds.{play-more}
use Rattle.inp_runs.proofs.laws.at_most_one_play.Goals as goal

-- as many rounds as are enough for both
same : (r : RecordView) (played other : Played) → IsPlay r played → IsPlay r other → played ≡ other
same r played other one two =
    let first : play (one.rounds + two.rounds) r ≡ Some played =
    play-more one.rounds two.rounds r played one.plays in
    let second : play (two.rounds + one.rounds) r ≡ Some other =
    play-more two.rounds one.rounds r other two.plays in
    let swap : play (one.rounds + two.rounds) r ≡ play (two.rounds + one.rounds) r = rw add_comm in
    cc

-- the rounds of both plays together are enough for either, so that both give the same
pub returns : goal.returns
returns c = record { one_play = same }
