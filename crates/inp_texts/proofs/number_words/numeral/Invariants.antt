use Rattle.std.proofs.Common.{◌≡◌, take, length, ◌<◌, true}
use Rattle.std.specs.List.{list_all}
use Rattle.inp_texts.specs.Number.{is_digit, value_of}
use Rattle.inp_texts.proofs.number_words.numeral.Given as goal

abbrev pub invariant-loop-byte : goal.invariant-loop-byte
invariant-loop-byte l =
    record {
      longer : 0 < length l.digits;
      digits : list_all (is_digit l.base) (take l.byte-index l.digits) ≡ true;
      value : l.value ≡ value_of l.base (take l.byte-index l.digits);
    }
