use Rattle.std.specs.Prelude.{Some}
use Rattle.inp_model.specs.declared.step.Step.TheVariants.{Close}
use Rattle.inp_script.proofs.Common.{Answer, JoystickState, finish, after_call, joy_job}
use Rattle.inp_script.proofs.TalkCalls.{begins-one}
use Rattle.inp_script.proofs.Streams.{holds-noted}
use Rattle.inp_script.proofs.role.joystick.close.Goals as goal

-- a close of the joystick's client is one call, which was noted
pub returns-clause-done : goal.returns-clause-done
returns-clause-done g c =
    let k : JoystickState = c.args.joy.now.joying in
    rw c.client-client.ensures.client at
    (holds-noted _ _ (Close c.client-client.result) c.in_ok-call.field-0 c.args.notes.now c.call.new.self
    k.reading (record { handed = k.handed; picture = k.picture }) c.in_ok-call.ensures.noted)

-- a close of the joystick's client is one call, which was made
pub returns-clause-begun : goal.returns-clause-begun
returns-clause-begun g c =
    let k : JoystickState = c.args.joy.now.joying in
    rw c.client-client.ensures.client at
    (begins-one _ _ _ (λ (answer : Answer).
    finish (Some (after_call (joy_job k c.args.notes.now) (Close c.client-client.result) answer)))
    c.in_ok-call.ensures.made)

-- the close was made, though memory ran out while it was noted
pub returns-in_err-call-clause-begun : goal.returns-in_err-call-clause-begun
returns-in_err-call-clause-begun g c =
    let k : JoystickState = c.args.joy.now.joying in
    rw c.client-client.ensures.client at
    (begins-one _ _ _ (λ (answer : Answer).
    finish (Some (after_call (joy_job k c.args.notes.now) (Close c.client-client.result) answer)))
    c.in_err-call.ensures.made)
