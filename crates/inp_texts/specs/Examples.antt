-- Words and lines worked out by hand.
use Rattle.std.specs.Prelude.{◌≡◌, pos, negsuc, true, false, [], ◌∷◌, ◌++◌, codes, replicate, Some, None}
use Rattle.inp_texts.specs.Line.{lines_of, words_of, is_comment, is_text}
use Rattle.inp_texts.specs.Number.{number, signed_number}
use Rattle.inp_texts.specs.Code.{kind_word, code_word}

-- Lines and their words.
pub record CutsLines : Type 0 where
  -- what stands behind the last line feed is a line
  pub empty : lines_of [] ≡ [] ∷ []
  pub ended : lines_of (codes "a" ++ 10 ∷ []) ≡ codes "a" ∷ [] ∷ []
  pub open_end : lines_of (codes "a" ++ 10 ∷ codes "b") ≡ codes "a" ∷ codes "b" ∷ []
  -- one carriage return is dropped at a line's end, at the last line too
  pub returned : lines_of (codes "a" ++ 13 ∷ 10 ∷ codes "b" ++ 13 ∷ []) ≡ codes "a" ∷ codes "b" ∷ []
  pub twice : lines_of (codes "a" ++ 13 ∷ 13 ∷ []) ≡ (codes "a" ++ 13 ∷ []) ∷ []
  pub within : lines_of (13 ∷ codes "a") ≡ (13 ∷ codes "a") ∷ []

pub record CutsWords : Type 0 where
  pub blanks : words_of (codes "  a " ++ 9 ∷ codes "b" ++ 9 ∷ []) ≡ codes "a" ∷ codes "b" ∷ []
  pub none : words_of (32 ∷ 9 ∷ []) ≡ []
  pub comment : is_comment (9 ∷ 32 ∷ 35 ∷ 0 ∷ 255 ∷ []) ≡ true
  pub late : is_comment (codes "a #") ≡ false
  pub returned : is_comment (13 ∷ 35 ∷ []) ≡ false
  pub text : is_text (9 ∷ 32 ∷ 126 ∷ []) ≡ true
  pub unit : is_text (31 ∷ []) ≡ false
  pub delete : is_text (127 ∷ []) ≡ false

-- Numbers at their bounds, in both bases.
pub record ReadsNumbers : Type 0 where
  pub most : number 65535 (codes "65535") ≡ Some 65535
  pub more : number 65535 (codes "65536") ≡ None
  pub either_case : number 65535 (codes "0xFf0a") ≡ Some 65290
  pub hexadecimal_most : number 65535 (codes "0xffff") ≡ Some 65535
  pub hexadecimal_more : number 65535 (codes "0x10000") ≡ None
  pub wide : number 18446744073709551615 (codes "0xffffffffffffffff") ≡ Some 18446744073709551615
  pub wider : number 18446744073709551615 (codes "18446744073709551616") ≡ None
  pub zeros : number 9 (replicate 1000 48) ≡ Some 0
  pub leading : number 99 (codes "00012") ≡ Some 12
  pub capital : number 99 (codes "0X1") ≡ None
  pub no_digit : number 99 (codes "0x") ≡ None
  pub no_word : number 99 [] ≡ None
  pub plus : number 99 (codes "+1") ≡ None
  pub minus : number 99 (codes "-1") ≡ None
  pub letter : number 99 (codes "1a") ≡ None
  pub past_f : number 99 (codes "0xg") ≡ None

pub record ReadsSigned : Type 0 where
  pub most : signed_number (codes "2147483647") ≡ Some (pos 2147483647)
  pub more : signed_number (codes "2147483648") ≡ None
  pub least : signed_number (codes "-2147483648") ≡ Some (negsuc 2147483647)
  pub less : signed_number (codes "-2147483649") ≡ None
  pub hexadecimal : signed_number (codes "-0x10") ≡ Some (negsuc 15)
  pub hexadecimal_least : signed_number (codes "-0x80000000") ≡ Some (negsuc 2147483647)
  pub zero : signed_number (codes "-0") ≡ Some (pos 0)
  pub lone : signed_number (codes "-") ≡ None
  pub twice : signed_number (codes "--1") ≡ None

-- Types and codes, by name and by number.
pub record ReadsCodes : Type 0 where
  pub kind : kind_word (codes "EV_KEY") ≡ Some 1
  pub kind_number : kind_word (codes "0x1") ≡ Some 1
  pub other_kind : kind_word (codes "65535") ≡ Some 65535
  pub no_kind : kind_word (codes "EV_FF") ≡ None
  pub lower : kind_word (codes "ev_key") ≡ None
  pub code : code_word 1 (codes "KEY_A") ≡ Some 30
  pub code_number : code_word 1 (codes "30") ≡ Some 30
  pub unnamed : code_word 7 (codes "5") ≡ Some 5
  pub of_no_kind : code_word 7 (codes "KEY_A") ≡ None
  pub of_another : code_word 1 (codes "ABS_X") ≡ None
  pub too_great : code_word 1 (codes "65536") ≡ None
