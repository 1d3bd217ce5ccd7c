-- The laws of the tables, for the proofs of this crate and of those above it.
use Rattle.std.proofs.Common.{◌≡◌, ℕ, true, false, List, [], ◌∷◌, get_or, Option, Some, None, nat_eq}
use Rattle.std.proofs.Common.{eqb-true, refl}
use Rattle.std.specs.Char.{is_ascii_uppercase}
use Rattle.std.specs.List.{list_all}
use Rattle.std.proofs.lemmas.Bool.{and_parts}
use Rattle.inp_codes.specs.CodeNames.{code_entries, name_of, code_of, is_same_code, CodeNamesAreEntries}
use Rattle.inp_codes.specs.CodeNames.{CodesAreOneToOne, CodeNamesAreWords}
use Rattle.inp_codes.specs.KindNames.{kind_entries, kind_name, kind_of, KindNamesAreEntries, KindsAreOneToOne}
use Rattle.inp_codes.specs.KindNames.{KindNamesAreWords}
use Rattle.inp_codes.specs.Table.{is_word_byte, is_name_word}
use Rattle.inp_codes.proofs.CodeNamesLemmas.{is_same_code-true}
use Rattle.inp_codes.proofs.Computation.{event_codes}
use Rattle.inp_codes.proofs.TableLemmas.{names_found, numbers_found, name_in-iff_entry, name_in-iff_number}
use Rattle.inp_codes.proofs.TableLemmas.{is_name_word-name_in}

-- the table of types finds the name and the number of each of its entries, and each name is a word
kind_names_found : names_found nat_eq kind_entries kind_entries ≡ true
unfolding event_codes
kind_names_found = refl

kind_numbers_found : numbers_found nat_eq kind_entries kind_entries ≡ true
unfolding event_codes
kind_numbers_found = refl

kind_words : list_all (λ e. is_name_word e.1) kind_entries ≡ true
unfolding event_codes
kind_words = refl

-- the table of codes does too
code_names_found : names_found is_same_code code_entries code_entries ≡ true
unfolding event_codes
code_names_found = refl

code_numbers_found : numbers_found is_same_code code_entries code_entries ≡ true
unfolding event_codes
code_numbers_found = refl

code_words : list_all (λ e. is_name_word e.1) code_entries ≡ true
unfolding event_codes
code_words = refl

pub kind_name-iff_entry : KindNamesAreEntries
unfolding kind_name
kind_name-iff_entry = name_in-iff_entry nat_eq eqb-true kind_entries kind_names_found

pub kind_name-iff_kind_of : KindsAreOneToOne
unfolding kind_name kind_of
kind_name-iff_kind_of = name_in-iff_number nat_eq eqb-true kind_entries kind_names_found kind_numbers_found

pub is_name_word-kind_name : KindNamesAreWords
unfolding kind_name
is_name_word-kind_name = is_name_word-name_in nat_eq eqb-true kind_entries kind_words

pub name_of-iff_entry : CodeNamesAreEntries
unfolding name_of
name_of-iff_entry kind code =
    name_in-iff_entry is_same_code is_same_code-true code_entries code_names_found (kind, code)

pub name_of-iff_code_of : CodesAreOneToOne
unfolding name_of code_of
name_of-iff_code_of kind code =
    name_in-iff_number is_same_code is_same_code-true code_entries code_names_found
    code_numbers_found (kind, code)

pub is_name_word-name_of : CodeNamesAreWords
unfolding name_of
is_name_word-name_of kind code =
    is_name_word-name_in is_same_code is_same_code-true code_entries code_words (kind, code)

-- what begins with no upper-case letter is no word
no_word : (text : List ℕ) → is_name_word text ≡ true → is_ascii_uppercase (get_or text 0 0) ≡ false → ⊥
no_word [] word other = cc
no_word (b ∷ bs) word other = let upper =
    (and_parts (is_ascii_uppercase b) (list_all is_word_byte bs) word).0 in cc

-- and no code's name
pub no_code : (text : List ℕ) (found : Option (ℕ × ℕ)) → code_of text ≡ found
    → is_ascii_uppercase (get_or text 0 0) ≡ false → found ≡ None
no_code text None is other = refl
no_code text (Some n) is other =
    absurd (no_word text (is_name_word-name_of n.0 n.1 text ((name_of-iff_code_of n.0 n.1 text).1 is)) other)
