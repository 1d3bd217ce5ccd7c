use Rattle.std.proofs.Common.{arith}
use Rattle.inp_reader.proofs.Counts.{length-classes}
use Rattle.inp_reader.proofs.SynthesisedEvents.{four-parts}
use Rattle.inp_reader.proofs.event_list.EventList.push_classes.Goals as goal

-- keys, LEDs, switches and axes were added one behind another
pub returns-clause-pushed : goal.returns-clause-pushed
returns-clause-pushed c =
    four-parts _ _ _ _ _ c.push_bits.ensures.pushed c.push_bits-2.ensures.pushed c.push_bits-3.ensures.pushed
    c.push_axes.ensures.pushed

pub push_bits-requires : goal.push_bits-requires
push_bits-requires c =
    (omega arith, (omega arith, omega (arith, length-classes c.args.old.now c.args.new.now, c.requires.few)))

pub push_bits-requires-2 : goal.push_bits-requires-2
push_bits-requires-2 c = (
  omega arith,
  (
    omega arith,
    omega (
      arith,
      length-classes c.args.old.now c.args.new.now,
      c.requires.few,
      c.push_bits.ensures.few,
      c.push_bits.ensures.room,
    ),
  ),
)

pub push_bits-requires-3 : goal.push_bits-requires-3
push_bits-requires-3 c = (
  omega arith,
  (
    omega arith,
    omega (
      arith,
      length-classes c.args.old.now c.args.new.now,
      c.requires.few,
      c.push_bits.ensures.few,
      c.push_bits.ensures.room,
      c.push_bits-2.ensures.few,
      c.push_bits-2.ensures.room,
    ),
  ),
)

pub push_axes-requires : goal.push_axes-requires
push_axes-requires c = record {
  few = omega (
    arith,
    length-classes c.args.old.now c.args.new.now,
    c.requires.few,
    c.push_bits.ensures.few,
    c.push_bits.ensures.room,
    c.push_bits-2.ensures.few,
    c.push_bits-2.ensures.room,
    c.push_bits-3.ensures.few,
    c.push_bits-3.ensures.room,
  );
}

-- all changes are those of keys, LEDs, switches and axes, and each added no more than its own
pub returns-clause-few : goal.returns-clause-few
returns-clause-few c =
    omega (
      arith,
      length-classes c.args.old.now c.args.new.now,
      c.push_bits.ensures.few,
      c.push_bits-2.ensures.few,
      c.push_bits-3.ensures.few,
      c.push_axes.ensures.few,
    )
