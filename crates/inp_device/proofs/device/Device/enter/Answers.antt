use Rattle.inp_model.specs.declared.step.Step.TheVariants.{Inject}
use Rattle.inp_device.proofs.EnteredSteps.{device_stored}
use Rattle.inp_device.proofs.device.Device.enter.Goals as goal

-- no more was added than the injection itself added behind the pointer
pub returns-clause-stored : goal.returns-clause-stored
returns-clause-stored c =
    rw (← c.self.view_is)
    (device_stored _ c.deref_mut.result.now c.inject.new.self _ c.deref.result.now
    (Inject c.args.event c.args.now) c.deref_mut.ensures.value c.deref.ensures.value c.inject.ensures.stored)
