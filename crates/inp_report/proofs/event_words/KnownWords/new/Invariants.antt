use Rattle.std.proofs.Common.{◌≡◌, length, replicate, None}
use Rattle.inp_report.proofs.event_words.KnownWords.new.Given as goal

-- one place for each turn, with no words
abbrev pub invariant-loop : goal.invariant-loop
invariant-loop l =
    record { count : length l.known.items ≡ l.counter; none : l.known.items ≡ replicate l.counter None }
