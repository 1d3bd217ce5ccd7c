-- Why a whole input could not be read.
use Rattle.std.specs.Prelude.{ℕ, List, codes}
use Rattle.inp_edge.specs.declared.fault.ReadFault.{ReadFault}
use Rattle.inp_edge.specs.declared.fault.ReadFault.TheVariants.{Failed, TooLong, NoMemory}

-- what it prints
abbrev pub read_fault_text : ReadFault → List ℕ
read_fault_text Failed = codes "the input failed"
read_fault_text TooLong = codes "the input is too long"
read_fault_text NoMemory = codes "out of memory"
