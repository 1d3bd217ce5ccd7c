-- What it owns says the same to every thread, since what is kept does.
use mir.Raw.{raw}
use base.Fraction.{full_share}
use base.Shift.{Keyless}
use denote.Exit.{Exit, unchanged, leaves, hidden, under}
use denote.Memory.{lone}
use denote.RawPtr.{Ptr, block_ptr, null_ptr}
use denote.Struct.Struct.{exits_of}
use denote.Struct.Owning.{shape, fields, to}
use denote.Param.Send.{IsSend, AllSend, Quiet, owning_send, part_keyless, struct_send, sendable}
use Rattle.std.specs.Prelude.{Option, Some, None}
use Rattle.std.proofs.Crossing as heap
use Rattle.inp_c.specs.declared.kept.Kept.{Kept}
use Rattle.inp_c.specs.contracts.kept.Kept as Kept
use Rattle.inp_c.proofs.kept.Kept.TheSendSync.{the_send as kept}
use Rattle.inp_c.specs.Loose.{loose_owns, the_heap}
use Rattle.inp_c.specs.contracts.loose.Loose.{the_row, the_type}

-- what a box owns, and the right to free its block
owned_keyless : (p : Ptr) (value : Option Kept) → Keyless (loose_owns p value)
owned_keyless p None = tt
owned_keyless (block_ptr b o) (Some x) = (
  part_keyless Kept.the_row kept full_share x b o,
  heap.frees.frees the_heap (raw (lone Kept.the_row.mir)) (block_ptr b o),
)
owned_keyless null_ptr (Some x) = (tt, heap.frees.frees the_heap (raw (lone Kept.the_row.mir)) null_ptr)

quiet : {D X : Type 0} (to : D → X) (e : Exit X) → Quiet e → Quiet (hidden (under to e))
quiet to unchanged q = λ x w. tt
quiet to (leaves L l S s r₀) q = λ d. q (to d)

pub send : IsSend the_row
send =
    let all : AllSend (fields the_type) = (search sendable, tt) in
    owning_send the_type all (λ l. owned_keyless l.at l.value)
    (λ k. quiet (to the_type) (exits_of k (fields the_type)) ((struct_send (shape the_type) all).leaving k))
