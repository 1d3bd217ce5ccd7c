use Rattle.std.proofs.Common.{◌≡◌, ◌<◌, ◌*◌, length}
use Rattle.inp_device.proofs.WordLists.{AreWordsBelow}
use Rattle.inp_device.proofs.bitmap.bitmap_of.Given as goal

-- the words below the index are those of the list
abbrev pub invariant-loop-index : goal.invariant-loop-index
invariant-loop-index g l = record {
  words : AreWordsBelow l.index l.bits l.words;
  long : 0 < l.index → length l.bits ≡ 64 * g.row.W;
}
