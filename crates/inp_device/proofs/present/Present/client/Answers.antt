use Rattle.std.proofs.Common.{sym, ◌∙◌}
use Rattle.inp_model.specs.Step.{is_same}
use Rattle.inp_model.specs.Past.{is_revoked, holder, clock_of}
use Rattle.inp_device.proofs.QueryAnswers.{told_none, told_state}
use Rattle.inp_device.proofs.present.Present.client.Goals as goal

-- the client is not open, so nothing is told of it
pub returns-then-not-is_open : goal.returns-then-not-is_open
returns-then-not-is_open c = record {
  client = λ d past stands.
      told_none stands c.args.client
      (record {
        clock = clock_of past c.args.client;
        revoked = is_revoked past c.args.client;
        grabs = is_same (holder past) c.args.client;
      }) (sym c.is_open.ensures.«open» ∙ c.if-not-is_open.true);
}

-- the client is open, and its clock, its revocation and its grab are told
pub returns : goal.returns
returns c = record {
  client = λ d past stands. told_state stands c.args.client (sym c.is_open.ensures.«open»
      ∙ c.if-not-is_open.false) c.clock.result c.is_revoked.result c.is_same.result
      c.clock.ensures.clock c.is_revoked.ensures.revoked
      (rw (c.is_same.ensures.same, c.holder.ensures.holder));
}
