-- A slot without a contact.
use Rattle.std.specs.Prelude.{ℤ, pos, negsuc, List, [], ◌∷◌}

-- the tracking id is -1, and the other values are 0
abbrev pub no_contact : List ℤ
no_contact =
    pos 0 ∷ pos 0 ∷ pos 0 ∷ pos 0 ∷ pos 0 ∷ pos 0 ∷ pos 0 ∷ pos 0 ∷ pos 0 ∷ negsuc 0 ∷ pos 0 ∷ pos 0 ∷ pos 0 ∷ pos 0 ∷ []
