use Rattle.std.proofs.Common.{ℕ, List, [], ◌∷◌, ◌++◌, codes, decimal}
use Rattle.inp_model.specs.declared.clock.Clock.TheVariants.{Realtime, Boottime}
use Rattle.inp_record.specs.canon.Words.{Words}
use Rattle.inp_record.specs.canon.Device.{clock_words, number_lines}
use Rattle.inp_record.proofs.Written.{sections}
use Rattle.inp_record.proofs.canon.devices.push_numbers.Goals as goal

abbrev count_line : List ℕ → ℕ → List Words
count_line word n = (word ∷ decimal n ∷ []) ∷ []

-- the hint, the limit of the history and both offsets are written in that order
pub returns : goal.returns
unfolding number_lines
returns c =
    let d = c.args.caps.now in
    let hint = rw c.hint.ensures.hint at c.in_ok-push_count.ensures.pushed in
    let log = rw c.log.ensures.log at c.in_ok-push_count-2.ensures.pushed in
    record {
      pushed =
          sections _ _ _ (count_line (codes "hint") d.hint)
          (count_line (codes "log") d.log_limit
          ++ (clock_words d Realtime ∷ clock_words d Boottime ∷ [])) hint
          (sections _ _ _ (count_line (codes "log") d.log_limit)
          (clock_words d Realtime ∷ clock_words d Boottime ∷ []) log
          (sections _ _ _ (clock_words d Realtime ∷ [])
          (clock_words d Boottime ∷ []) c.in_ok-push_clock.ensures.pushed
          c.in_ok-push_clock-2.ensures.pushed));
    }
