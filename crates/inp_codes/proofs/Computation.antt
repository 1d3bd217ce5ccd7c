-- One name to unfold where a proof computes with the tables.
use Rattle.inp_codes.specs.ByNumber.{names_from, name_at}
use Rattle.inp_codes.specs.CodeNames.{syn_codes, key_codes, rel_codes, abs_codes, msc_codes, sw_codes}
use Rattle.inp_codes.specs.CodeNames.{led_codes, snd_codes, rep_codes, kinds_with_codes, code_entries}
use Rattle.inp_codes.specs.CodeNames.{name_of, code_of, codes_in}
use Rattle.inp_codes.specs.KindNames.{kind_entries, kind_name, kind_of}
use Rattle.inp_codes.specs.Table.{with_byte, words_between_spaces, entries_from, code_run}
use Rattle.inp_codes.specs.Table.{name_in, number_in}
use Rattle.inp_codes.proofs.ByNumberLemmas.{numbers_rise}
use Rattle.inp_codes.proofs.CodeNamesLemmas.{kinds_rise_from, codes_rise}
use Rattle.inp_codes.proofs.TableLemmas.{names_found, numbers_found}

-- `unfolding event_codes` opens the tables, how they are read, and each test of this crate
unfoldable pub event_codes : Unit {0}
unfolding names_from name_at with_byte words_between_spaces entries_from code_run syn_codes key_codes
    rel_codes abs_codes msc_codes sw_codes led_codes snd_codes rep_codes kinds_with_codes code_entries name_of
    code_of codes_in kind_entries kind_name kind_of name_in number_in numbers_rise kinds_rise_from codes_rise
    names_found numbers_found
event_codes = tt
