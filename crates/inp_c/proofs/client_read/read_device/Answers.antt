use Rattle.inp_c.proofs.client_read.read_device.Goals as goal

-- a read is a step of the device, and it writes no values of slots
pub returns : goal.returns
returns c =
    let s = c.step.ensures in
    record { given = s.given; answered = s.answered; replied = s.replied; events_written = s.events_written }
