-- The event types and their names, as the kernel's header `input-event-codes.h` has them.
use Rattle.std.specs.Prelude.{◌≡◌, ◌↔◌, ℕ, List, [], ◌∷◌, Option, Some, IsTrue, Contains, codes, nat_eq}
use Rattle.inp_codes.specs.Table.{NamedNumber, name_in, number_in, is_name_word}

-- the types that have a name
unfoldable pub kind_entries : List (NamedNumber ℕ)
kind_entries =
    (0x00, codes "EV_SYN")
    ∷ (0x01, codes "EV_KEY")
    ∷ (0x02, codes "EV_REL")
    ∷ (0x03, codes "EV_ABS")
    ∷ (0x04, codes "EV_MSC")
    ∷ (0x05, codes "EV_SW")
    ∷ (0x11, codes "EV_LED")
    ∷ (0x12, codes "EV_SND")
    ∷ (0x14, codes "EV_REP")
    ∷ []

-- the name of a type
unfoldable pub kind_name : ℕ → Option (List ℕ)
kind_name kind = name_in nat_eq kind_entries kind

-- the type that has this name
unfoldable pub kind_of : List ℕ → Option ℕ
kind_of name = number_in kind_entries name

-- a type has a name exactly where the table has an entry of both
abbrev pub KindNamesAreEntries : Type 0
KindNamesAreEntries =
    (kind : ℕ) (name : List ℕ)
    → (kind_name kind ≡ Some name) ↔ Contains kind_entries (kind, name)

-- a type has a name exactly where the name has that type
abbrev pub KindsAreOneToOne : Type 0
KindsAreOneToOne =
    (kind : ℕ) (name : List ℕ) → (kind_name kind ≡ Some name) ↔ (kind_of name ≡ Some kind)

-- a type's name is a word
abbrev pub KindNamesAreWords : Type 0
KindNamesAreWords = (kind : ℕ) (name : List ℕ) → kind_name kind ≡ Some name → IsTrue (is_name_word name)
