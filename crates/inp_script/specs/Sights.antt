-- How what a job saw is kept.
use Rattle.std.specs.Prelude.{List, map, All}
use Rattle.inp_reader.specs.declared.call_made.CallMade.{CallMade}
use Rattle.inp_script.specs.declared.sight.Sight.{Sight}
use Rattle.inp_script.specs.declared.kept_sight.KeptSight.{KeptSight}
use Rattle.inp_script.specs.declared.sights.Sights.TheInside.{Inside}
use Rattle.inp_script.specs.KeptSight.{sight_in, IsWithin}

-- the entries that are kept so, where these calls stand in a second list
abbrev pub sights_kept : List CallMade → List KeptSight → List Sight
sights_kept calls kept = map (sight_in calls) kept

abbrev pub sights_of : Inside → List Sight
sights_of s = sights_kept s.calls s.kept

-- each index stands within the second list
abbrev pub AreKeptWithin : List CallMade → List KeptSight → Type 0
AreKeptWithin calls kept = All (IsWithin calls) kept

abbrev pub AreWithin : Inside → Type 0
AreWithin s = AreKeptWithin s.calls s.kept
