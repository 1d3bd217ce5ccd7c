use Rattle.inp_script.proofs.BlockLists.{in-full, in-last}
use Rattle.inp_script.proofs.blocks.block_with.Goals as goal

pub returns-in-Some-clause-front : goal.returns-in-Some-clause-front
returns-in-Some-clause-front g c =
    let there = c.in-Some.ensures.lookup in
    rw c.deref.ensures.value
    (in-full (λ block. block.items) c.args.full.now c.args.last.now c.args.index c.in-Some.block.now
    c.requires.full there.3.0 there.1).1

pub returns-in-None-clause-inside : goal.returns-in-None-clause-inside
returns-in-None-clause-inside g c =
    (in-last (λ block. block.items) c.args.full.now c.args.last.now c.args.index
    c.requires.full c.requires.last c.requires.within c.in-None.ensures.lookup.3).0

pub returns-in-None-clause-front : goal.returns-in-None-clause-front
returns-in-None-clause-front g c =
    (in-last (λ block. block.items) c.args.full.now c.args.last.now c.args.index
    c.requires.full c.requires.last c.requires.within c.in-None.ensures.lookup.3).1
