-- Where the action lines of a text stand.
use Rattle.std.specs.Prelude.{ℕ, suc, Bool, if◌then◌else◌, List, [], ◌∷◌, codes}
use Rattle.inp_texts.specs.Line.{words_of}
use Rattle.inp_record.specs.Words.{has_word}

-- the first word is do
abbrev pub is_action_line : List ℕ → Bool
is_action_line line = has_word (words_of line) 0 (codes "do")

-- the numbers of the action lines, where the first line has the number n
unfoldable pub action_numbers : ℕ → List (List ℕ) → List ℕ
action_numbers n [] = []
action_numbers n (line ∷ lines) =
    if is_action_line line then n ∷ action_numbers (suc n) lines else action_numbers (suc n) lines
