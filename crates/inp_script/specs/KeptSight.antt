-- What an entry of what a job saw is kept as.
use Rattle.std.specs.Prelude.{◌<◌, List, length, get_or}
use Rattle.inp_model.specs.declared.step.Step.TheVariants.{Inject, Read as ReadStep, End}
use Rattle.inp_model.specs.declared.reply.Reply.TheVariants.{Done, Took as TookReply}
use Rattle.inp_reader.specs.declared.call_made.CallMade.{CallMade}
use Rattle.inp_script.specs.declared.kept_sight.KeptSight.{KeptSight}
use Rattle.inp_script.specs.declared.kept_sight.KeptSight.TheVariants.{Took as KeptTook, Injected, Read, Made as KeptMade, Again as KeptAgain, Record as KeptRecord, Call as KeptCall}
use Rattle.inp_script.specs.declared.sight.Sight.{Sight}
use Rattle.inp_script.specs.declared.sight.Sight.TheVariants.{Call, Took, Made, Again, Record}
use Rattle.inp_script.specs.Sight.{made_sight}

-- what stands past the end of the second list
abbrev pub no_call : CallMade
no_call = record { step = End; reply = Done 0 }

-- the entry that is kept so, where these calls stand in a second list
abbrev pub sight_in : List CallMade → KeptSight → Sight
sight_in calls (KeptTook event) = Took event
sight_in calls (Injected event now at) = Call (Inject event now) (Done at)
sight_in calls (Read client most at count) = Call (ReadStep client most) (TookReply at count)
sight_in calls (KeptMade event) = Made event
sight_in calls (KeptAgain at ends) = Again at ends
sight_in calls (KeptRecord bytes) = Record bytes
sight_in calls (KeptCall index) = made_sight (get_or calls index no_call)

-- an index stands within the second list
abbrev pub IsWithin : List CallMade → KeptSight → Type 0
IsWithin calls (KeptCall index) = index < length calls
IsWithin calls _ = Unit {0}
