-- What an actor did at a line on a device that it may own: an owner feeds the device, and any other actor
-- makes the calls of its job.
use Rattle.std.proofs.Common.{◌≡◌, ℕ, true, false, refl, inl, inr, Option, Some}
use Rattle.std.specs.Prelude.{min}
use Rattle.std.specs.List.{slice_get}
use Rattle.inp_feedback.specs.Feeds.{Feeding}
use Rattle.inp_script.proofs.Common.{Description, EvdevView, Command, Line, RecordView, RoleState, Waiting}
use Rattle.inp_script.proofs.Common.{ActorView, role_of, is_command_of, is_owner, feedback_room, BeginsLine}
use Rattle.inp_script.proofs.Common.{DoesLine, IsCommandFor, Owner as OwnerRole, FEEDBACK_MAX}
use Rattle.inp_actors.specs.declared.command.Command.TheVariants.{Feedback}
use Rattle.inp_script.specs.declared.role.state.RoleState.TheVariants.{Owner}
use Rattle.inp_script.specs.declared.role.owner.Owner as owner
use Rattle.inp_script.specs.ActorLine.{Acts, BeginsToAct}
use Rattle.inp_script.specs.Owner.{OwnerState, FeedsLine, MayHaveFed}

-- each command of an owner is a feedback call
owner-room : (command : Command) → is_command_of OwnerRole command ≡ true
    → (room : ℕ) × (feedback_room command ≡ Some room)
owner-room (Feedback count) h = (count, refl)
owner-room _ h = absurd cc

-- what keeps no owner's is of another role
pub caller-of : (state : RoleState)
    → ((caps : Description) (owner : owner.Owner) → state ≡ Owner caps owner → ⊥)
    → is_owner (role_of state) ≡ false
caller-of (Owner caps owner) other = absurd (other caps owner refl)
caller-of _ other = refl

module _ {S : Type 0} (told : S → EvdevView) (feeds : Feeding S) (before after : S) (r : RecordView)
    (wait : Option Waiting) (number : ℕ) (old : ActorView) where
  module _ (line : Line) (is_line : slice_get r.lines number ≡ Some line)
      (command : IsCommandFor old.role r.streams line.command) (owner : old.role ≡ OwnerRole) where
    its-room : (room : ℕ) × (feedback_room line.command ≡ Some room)
    its-room = owner-room line.command (rw owner at command.of_role)

    -- an owner's command is a feedback call, and the call was made
    pub owns-done : (new : ActorView) (was : OwnerState) → was ≡ old.owning
        → new ≡ record old { owning = new.owning }
        → ((room : ℕ) → feedback_room line.command ≡ Some room
        → FeedsLine feeds before after (min room FEEDBACK_MAX) was new.owning)
        → Acts told feeds before after r wait number old new
    owns-done new was same actor fed = record {
      line = line;
      is_line = is_line;
      acts =
          inl (record {
            owner = owner;
            room = its-room.0;
            is_room = its-room.1;
            fed = rw same at (fed its-room.0 its-room.1);
            actor = actor;
          });
    }

    -- an owner begins a line where it made the line's feedback call, or did nothing
    pub owns-begun : ((room : ℕ) → feedback_room line.command ≡ Some room
        → MayHaveFed feeds before after (min room FEEDBACK_MAX))
        → BeginsToAct told feeds before after r wait number old
    owns-begun may =
        inl (record {
          owner = owner;
          line = line;
          is_line = is_line;
          room = its-room.0;
          is_room = its-room.1;
          may = may its-room.0 its-room.1;
        })

  -- an actor that is seen as this before the line
  module _ (seen : ActorView) (same : seen ≡ old) (caller : is_owner seen.role ≡ false) where
    -- an actor that is no owner acts by the calls of its line, and these were made
    pub calls-done : (new : ActorView) → new ≡ record seen { job = new.job }
        → DoesLine (told before) (told after) seen r wait number new.job
        → Acts told feeds before after r wait number old new
    calls-done new actor does =
        rw (← same) (record {
          line = does.line;
          is_line = does.is_line;
          acts = inr (record { caller = caller; rounds = does.rounds; holds = does.holds; actor = actor });
        })

    -- an actor that is no owner begins to act where it begins its line
    pub calls-begun : BeginsLine (told before) (told after) seen r wait number
        → BeginsToAct told feeds before after r wait number old
    calls-begun begun = rw (← same) (inr (caller, begun))

-- where the job alone changed, what an owner keeps is as it was
pub still-actor : (old seen new : ActorView) → seen ≡ old → new ≡ record seen { job = new.job }
    → new ≡ record old { job = new.job; owning = new.owning }
still-actor old seen new same actor =
    let keeps : new.owning ≡ seen.owning = rw actor in
    cc (same, actor, keeps)
