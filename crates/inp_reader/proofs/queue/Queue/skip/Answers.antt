use Rattle.std.proofs.Common.{◌-◌, drop, length, length-take, ap, arith}
use Rattle.inp_reader.proofs.Queues.{part-rest}
use Rattle.inp_reader.proofs.queue.Queue.skip.Goals as goal

-- behind the first events of a part of the buffer stands the rest of it
pub returns : goal.returns
returns c =
    rw (
      part-rest c.self.inside.buffer c.self.inside.next c.self.inside.end c.args.count
          (omega (
            arith,
            c.requires.few,
            ap length c.self.view_is,
            length-take (c.self.inside.end - c.self.inside.next)
                (drop c.self.inside.next c.self.inside.buffer),
          )),
      c.self.view_is,
    )
