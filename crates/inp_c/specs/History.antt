-- The steps that the device of a handle accepted, as C is told of them.
use Rattle.std.specs.Prelude.{◌≡◌, ℕ, nat_le, List, length, map, take, drop, reverse, Option, Some}
use Rattle.inp_model.specs.declared.step.Step.{Step}
use Rattle.inp_model.specs.Reply.{written}
use Rattle.inp_feedback.specs.UEntry.{steps_in}
use Rattle.inp_c.specs.declared.kept.Kept.{Kept}
use Rattle.inp_c.specs.declared.kept.Kept.TheVariants.{Device}
use Rattle.inp_c.specs.declared.kept_device.KeptDevice.{KeptDevice}
use Rattle.inp_c.specs.declared.c_step.CStep.{CStep}
use Rattle.inp_c.specs.declared.status.TheConstants.{BAD_HANDLE}
use Rattle.inp_c.specs.Status.{argument_status}
use Rattle.inp_c.specs.ToldStep.{told_step}

-- the steps that a kept device accepted, oldest first
abbrev pub history_of : KeptDevice → List Step
history_of device = reverse (steps_in device.udev.kept)

-- a call that wants a device, and a place in its history or its end
abbrev pub history_status : Option Kept → ℕ → ℕ
history_status (Some (Device device)) from = argument_status (nat_le from (length (history_of device)))
history_status _ from = BAD_HANDLE

-- the steps from a place on stand at the front of C's array, as many as fit, and C is told how many there are
pub record IsToldHistory (before : Option Kept) (from : ℕ) (steps new_steps : List CStep) (left : ℕ) : Type 0 where
  pub device : KeptDevice
  pub is : before ≡ Some (Device device)
  pub left_is : left ≡ length (drop from (history_of device))
  pub steps_written : new_steps ≡ written (map told_step (take (length steps) (drop from (history_of device)))) steps
