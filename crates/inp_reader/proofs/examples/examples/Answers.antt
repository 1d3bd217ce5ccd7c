-- Each example computes.
use Rattle.std.proofs.Common.{refl, lit<, pos, List, [], ◌∷◌, take, drop}
use Rattle.inp_model.specs.Description.{one_key}
use Rattle.inp_model.specs.examples.Frames.{key, at, stroke}
use Rattle.inp_model.specs.Run.{Call}
use Rattle.inp_reader.specs.declared.mode.Mode.TheVariants.{Normal}
use Rattle.inp_reader.specs.Examples.{after_all}
use Rattle.inp_reader.specs.ReaderPlace.{calls_since}
use Rattle.inp_model.proofs.Computation.{computing}
use Rattle.inp_reader.proofs.Computation.{computing_reader}
use Rattle.inp_reader.proofs.examples.examples.Goals as goal

-- what the client asked, what it read and the view that both made are given, and compute
pub returns-clause-stands : goal.returns-clause-stands
unfolding computing computing_reader
returns-clause-stands c = record {
  history = (((((tt, refl), refl), refl), refl), refl);
  opened = lit< tt;
  in_step = λ needed. record {
    asked = take 1 calls;
    reads = drop 1 calls;
    handed = at 3 0 (key (pos 1)) ∷ [];
    calls = refl;
    queries = refl;
    reads_only = (refl, tt);
    taken = refl;
    view = refl;
  };
}
  where
    calls : List Call
    calls = calls_since one_key (after_all one_key [] (stroke (pos 1) 0) (Normal ∷ [])).past 0
