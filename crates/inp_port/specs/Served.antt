-- What a step leaves of a value that makes the steps of a device.
use Rattle.std.specs.Prelude.{◌≡◌, ◌+◌, ◌≤◌, ℤ, List, length, map, take, Option}
use Rattle.inp_model.specs.declared.limits.TheConstants.{LOG_MAX}
use Rattle.inp_model.specs.declared.stamped.Stamped.{Stamped}
use Rattle.inp_model.specs.declared.injected.Injected.{Injected}
use Rattle.inp_model.specs.declared.step.Step.{Step}
use Rattle.inp_model.specs.declared.reply.Reply.{Reply}
use Rattle.inp_model.specs.declared.taken.Taken.{Taken}
use Rattle.inp_model.specs.Description.{Description}
use Rattle.inp_model.specs.History.{IsHistory}
use Rattle.inp_model.specs.Reply.{IsDeviceStep, past_after, is_accepted}
use Rattle.inp_model.specs.Injection.{inject_of, entered_count}
use Rattle.inp_port.specs.Entries.{steps_among, past_of, Grown, GrownBy}

module _ {E : Type 0} (made : E → Option Step) where
  -- The reply, and what is written to the caller's buffers, are the one-thread device's after the steps so far. An
  -- accepted step is the last entry, and nothing else was entered.
  pub record IsServed (d : Description) (entries : List E) (x : Step) (reply : Reply) (out new_out : List Taken) (cells new_cells : List ℤ) (now : List E) : Type 0 where
    pub step : IsDeviceStep d (past_of made entries) x reply out new_out cells new_cells (past_after reply x (past_of made entries))
    pub grown : Grown made entries x (is_accepted reply) now
    -- the steps so far were accepted, each after those before it
    pub accepted : IsHistory d (past_of made entries)

  -- Events were injected, as many of them as the log limit left room for. They are the last entries, and
  -- nothing else was entered.
  pub record IsServedAll (d : Description) (entries : List E) (events : List Stamped) (injected : Injected) (now : List E) : Type 0 where
    pub from : injected.from ≡ length (steps_among made entries)
    pub count : injected.count ≡ entered_count d injected.from events
    pub within : injected.from + injected.count ≤ LOG_MAX
    pub grown : GrownBy made entries (map inject_of (take injected.count events)) now
    -- the steps now were accepted, each after those before it
    pub accepted : IsHistory d (past_of made now)
