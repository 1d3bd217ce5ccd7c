use Rattle.std.proofs.Common.{◌+◌, Some, refl, arith, false}
use Rattle.inp_threads.proofs.Common.{Worker, IsReadyOn}
use Rattle.inp_threads.proofs.Passes.{dealt-few, dealt-more, its-device, its-description}
use Rattle.inp_threads.proofs.workers.deal_one.Goals as goal

pub split-requires-clause-share : goal.split-requires-clause-share
split-requires-clause-share c =
    omega (
      arith,
      dealt-few c.args.port.now c.args.rec.now c.args.device c.args.number c.args.pass.now
          c.args.workers.now.items c.requires.dealt,
      c.requires.few,
      c.requires.dealt.share,
    )

-- the actor is before its first line, and its pass was split off with one unit of the share
pub returns : goal.returns
returns c =
    let port = c.args.port.now in
    let r = c.args.rec.now in
    let device = c.args.device in
    let before = c.requires.dealt in
    let actor = c.in_ok-actor.ensures in
    let new = c.split.ensures.new in
    let w : Worker =
    record {
      actor = c.in_ok-actor.actor;
      number = c.args.number;
      pass = Some c.split.result;
      is_done = false;
    } in
    let is_ready : IsReadyOn port r device w = record {
      ready = record {
        pass = record {
          pass = c.split.result;
          is_pass = refl;
          fresh = record {
            ready = c.split.ensures.ready.1;
            share = rw new;
            seen = rw new before.seen;
            own = rw new;
          };
        };
        number = actor.number;
        start = record {
          actor = actor.actor;
          description =
              its-description port r device c.args.number c.in_ok-actor.actor c.requires.port actor.actor
              actor.number c.requires.actor;
          job = actor.job;
          owning = actor.owning;
        };
      };
      text = actor.actor.text;
      is_text = actor.actor.is_text;
      on_device =
          its-device r device c.args.number c.in_ok-actor.actor actor.actor actor.number c.requires.actor;
    } in
    record {
      dealt = rw c.in_ok-push.ensures.items
          (dealt-more port r device c.args.number
          (c.args.number + 1) c.args.pass.now c.split.new.pass c.args.workers.now.items w before
          c.requires.actor refl c.split.ensures.ready.0 c.split.ensures.old
          (omega (
            arith,
            dealt-few port r device c.args.number c.args.pass.now c.args.workers.now.items before,
            c.requires.few,
            before.share,
          )) is_ready actor.number);
    }
