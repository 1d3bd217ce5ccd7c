use base.Fml.{Fml, ftrue}
use denote.RawPtr.{Ptr}
use Rattle.std.specs.Prelude.{Option, Some, None}
use Rattle.std.specs.Box.Ownership.{box_owns}
use Rattle.std.specs.contracts.impls.GlobalAllocator.TheImpl.{ghosts}
use Rattle.std.specs.Global.{Global}
use Rattle.inp_c.specs.declared.kept.Kept.{Kept}
use Rattle.inp_c.specs.contracts.kept.Kept.{the_row}

-- the heap's handle, of which there is one value
abbrev pub the_heap : Global
the_heap = record { memory = record { seal = tt } }

-- what a box's pointer owns: the box, if there is one
abbrev pub loose_owns : Ptr → Option Kept → Fml
loose_owns p None = ftrue
loose_owns p (Some x) = box_owns (ghosts.dealloc_token the_heap) the_row p x
