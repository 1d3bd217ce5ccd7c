-- The text of a record that a handle keeps, and what C is told of it.
use Rattle.std.specs.Prelude.{◌≡◌, ℕ, nat_le, List, length, take, drop, Option, Some}
use Rattle.inp_model.specs.Reply.{written}
use Rattle.inp_c.specs.declared.kept.Kept.{Kept}
use Rattle.inp_c.specs.declared.kept.Kept.TheVariants.{Record}
use Rattle.inp_c.specs.declared.kept_record.KeptRecord.{KeptRecord}
use Rattle.inp_c.specs.declared.status.TheConstants.{BAD_HANDLE}
use Rattle.inp_c.specs.Status.{argument_status}

-- a call that wants a record, and a place in its text or its end
abbrev pub text_status : Option Kept → ℕ → ℕ
text_status (Some (Record kept)) from = argument_status (nat_le from (length kept.text.items))
text_status _ from = BAD_HANDLE

-- the text from a place on stands at the front of C's array, as many bytes as fit, and C is told how many there are
pub record IsToldText (before : Option Kept) (from : ℕ) (out new_out : List ℕ) (left : ℕ) : Type 0 where
  pub kept : KeptRecord
  pub is : before ≡ Some (Record kept)
  pub left_is : left ≡ length (drop from kept.text.items)
  pub bytes : new_out ≡ written (take (length out) (drop from kept.text.items)) out

-- the handle keeps a record before and after, and only its text is another one; C is told how many bytes that has
pub record IsTextKept (before after : Option Kept) (old new : KeptRecord) (len : ℕ) : Type 0 where
  pub was : before ≡ Some (Record old)
  pub is : after ≡ Some (Record new)
  pub recorded : new.recorded ≡ old.recorded
  pub loaded : new.loaded ≡ old.loaded
  pub len_is : len ≡ length new.text.items
