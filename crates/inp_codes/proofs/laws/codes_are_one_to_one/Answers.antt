use Rattle.inp_codes.proofs.LawLemmas.{name_of-iff_entry, name_of-iff_code_of, is_name_word-name_of}
use Rattle.inp_codes.proofs.laws.codes_are_one_to_one.Goals as goal

pub returns : goal.returns
returns c = record {
  entries = name_of-iff_entry;
  one_to_one = name_of-iff_code_of;
  words = is_name_word-name_of;
}
