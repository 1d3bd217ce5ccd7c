-- Why words gave no request.
use Rattle.std.specs.Prelude.{ℕ, List, codes}
use Rattle.inp_args.specs.declared.words_fault.WordsFault.{WordsFault}
use Rattle.inp_args.specs.declared.words_fault.WordsFault.TheVariants.{Usage, NoMemory}

-- what it prints
abbrev pub words_fault_text : WordsFault → List ℕ
words_fault_text Usage = codes "the words are not accepted"
words_fault_text NoMemory = codes "out of memory"
