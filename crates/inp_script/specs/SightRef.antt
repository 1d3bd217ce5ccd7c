-- What is lent of an entry of what a job saw.
use Rattle.inp_model.specs.declared.step.Step.TheVariants.{Inject, Read as ReadStep}
use Rattle.inp_model.specs.declared.reply.Reply.TheVariants.{Done, Took as TookReply}
use Rattle.inp_script.specs.declared.sight.Sight.{Sight}
use Rattle.inp_script.specs.declared.sight.Sight.TheVariants.{Call, Took, Made, Again, Record}
use Rattle.inp_script.specs.declared.sight_ref.SightRef.{SightRef}
use Rattle.inp_script.specs.declared.sight_ref.SightRef.TheVariants.{Took as TookRef, Injected, Read, Made as MadeRef, Again as AgainRef, Record as RecordRef, Call as CallRef}
use Rattle.inp_script.specs.Sight.{made_sight}

-- the entry that is lent so
abbrev pub sight_of : SightRef → Sight
sight_of (TookRef event) = Took event.now
sight_of (Injected event now at) = Call (Inject event now) (Done at)
sight_of (Read client most at count) = Call (ReadStep client most) (TookReply at count)
sight_of (MadeRef event) = Made event
sight_of (AgainRef at ends) = Again at ends
sight_of (RecordRef bytes) = Record bytes
sight_of (CallRef call) = made_sight call.now
