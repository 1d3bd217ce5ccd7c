use Rattle.inp_codes.proofs.LawLemmas.{kind_name-iff_entry, kind_name-iff_kind_of, is_name_word-kind_name}
use Rattle.inp_codes.proofs.laws.kinds_are_one_to_one.Goals as goal

pub returns : goal.returns
returns c = record {
  entries = kind_name-iff_entry;
  one_to_one = kind_name-iff_kind_of;
  words = is_name_word-kind_name;
}
