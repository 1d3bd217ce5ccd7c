use Rattle.std.proofs.Common.{refl, sym}
use Rattle.inp_joy.specs.JoyState.{kept_joying}
use Rattle.inp_joy.proofs.TurnCases.{stopped-other}
use Rattle.inp_joy.proofs.joy_state.JoyState.after_next.Goals as goal

-- the answer is no event, and it is one of a read too, so the read stops with it
pub returns-in-Some : goal.returns-in-Some
returns-in-Some c =
    let j = kept_joying c.args.self.now in
    record {
      turn =
          sym (rw (
            stopped-other c.args.self.now.reader.description j c.args.next c.in_default.not-Success,
            ← c.in-Some.ensures,
          ));
      rest = refl;
    }

-- the answer is no event and none of a read, so the read goes on
pub returns-in-None : goal.returns-in-None
returns-in-None c =
    let j = kept_joying c.args.self.now in
    record {
      turn =
          sym (rw (
            stopped-other c.args.self.now.reader.description j c.args.next c.in_default.not-Success,
            ← c.in-None.ensures,
          ));
      rest = refl;
    }
