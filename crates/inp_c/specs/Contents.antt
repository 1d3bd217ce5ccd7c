-- What a handle keeps.
use Rattle.std.specs.Prelude.{Option}
use Rattle.inp_c.specs.declared.handle.Handle.{Handle}
use Rattle.inp_c.specs.declared.kept.Kept.{Kept}

abbrev pub contents : Handle → Option Kept
contents handle = handle.inner.value
