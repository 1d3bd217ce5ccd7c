-- Lines that are no actions, as rows of their table.
use Rattle.std.proofs.Common.{◌≡◌, ℕ, zero, suc, ◌^◌, ◌<◌, Bool, true, false, List, [], ◌∷◌, drop, take, Some}
use Rattle.std.proofs.Common.{refl, sym, ap, ◌∙◌, arith}
use Rattle.std.specs.List.{list_all}
use Rattle.std.proofs.lemmas.Bool.{and_parts, and_from}
use Rattle.inp_model.specs.declared.filter.Filter.TheVariants as filters
use Rattle.inp_texts.specs.Texts.{role_text}
use Rattle.inp_record.specs.canon.Words.{Words}
use Rattle.inp_record.specs.canon.Device.{fuzz_words, info_words, filter_words}
use Rattle.inp_actors.specs.declared.role.Role.TheVariants as roles
use Rattle.inp_actors.specs.declared.actor_text.ActorText.{ActorText}
use Rattle.inp_record.specs.declared.item.Item.{Item}
use Rattle.inp_record.specs.declared.item.Item.TheVariants.{Header, Device, Hint, Log, Realtime, Boottime}
use Rattle.inp_record.specs.declared.item.Item.TheVariants.{Slots, Kind, Code, Axis, Filter, Actor, Action}
use Rattle.inp_record.specs.declared.keyword.Keyword as keyword
use Rattle.inp_record.specs.declared.keyword.Keyword.TheVariants as keywords
use Rattle.inp_record.specs.Field.{made}
use Rattle.inp_record.specs.Line.{LineRow, offset_item, line_row}
use Rattle.inp_record.specs.Words.{word, is_action, plain_item}
use Rattle.inp_record.specs.Spelling.{item_words}
use Rattle.inp_record.proofs.FieldFits.{is_sound, Values, FitsFields, of_values, written}
use Rattle.inp_record.proofs.Fields.{made_read, made_fits, written_plain}
use Rattle.inp_record.proofs.PlainLines.{is_plain, line_begins_small, IsPlainLine, IsPlainWord}
use Rattle.inp_record.proofs.Sayable.{IsSayable, keyword_for}

abbrev pub line_item : (row : LineRow) → Values row.fields → Item
line_item row vs = of_values Item row.fields row.make vs

line_read : (k : keyword.Keyword) (ws : Words)
    → (line_row k).read ws ≡ made Item (line_row k).fields 0 (line_row k).first ws (line_row k).make
unfolding line_row
line_read keywords.Header ws = refl
line_read k ws = refl

line_sound : (k : keyword.Keyword) → list_all is_sound (line_row k).fields ≡ true
unfolding line_row
line_sound keywords.Header = refl
line_sound k = refl

-- the row of the line that says an item
abbrev item_row : Item → LineRow
item_row i = line_row (keyword_for i)

-- What an item says by a line of its keyword, and how its canonical line says it.
pub record IsOfLine (actors : List ActorText) (i : Item) : Type 0 where
  -- what the fields of the line say
  pub values : Values (item_row i).fields
  -- each field can say its value
  pub fits : FitsFields IsPlainWord (item_row i).fields values
  -- the item is the one that the line's row makes of these values
  pub is : i ≡ line_item (item_row i) values
  -- behind the words of its keyword stand its fields, as they are written
  pub rest : drop (item_row i).first (item_words actors i) ≡ written (item_row i).fields 0 values
  -- the words before the fields are plain
  pub front : list_all is_plain (take (item_row i).first (item_words actors i)) ≡ true
  -- the line begins with a small letter
  pub small : line_begins_small (item_words actors i) ≡ true

said : {actors : List ActorText} {i : Item} (values : Values (item_row i).fields)
    → FitsFields IsPlainWord (item_row i).fields values → i ≡ line_item (item_row i) values
    → drop (item_row i).first (item_words actors i) ≡ written (item_row i).fields 0 values
    → list_all is_plain (take (item_row i).first (item_words actors i)) ≡ true
    → line_begins_small (item_words actors i) ≡ true → IsOfLine actors i
said values fits is rest front small =
    record { values = values; fits = fits; is = is; rest = rest; front = front; small = small }

-- each item that can be said, and is no action, is one of a line
pub of_line : (actors : List ActorText) (streams : ℕ) (i : Item) → is_action (keyword_for i) ≡ false
    → IsSayable actors streams i → IsOfLine actors i
unfolding line_row info_words fuzz_words filter_words role_text
of_line actors s (Header version) n h = said (version, tt) (h, tt) refl refl refl refl
of_line actors s (Device true name) n h = said (name, tt) (h, tt) refl refl refl refl
of_line actors s (Device false name) n h = said (name, tt) (h, tt) refl refl refl refl
of_line actors s (Hint count) n h = said (count, tt) (omega arith, tt) refl refl refl refl
of_line actors s (Log count) n h = said (count, tt) (omega arith, tt) refl refl refl refl
of_line actors s (Realtime offset) n h =
    said (false, (offset, tt)) (tt, (omega arith, tt)) refl refl refl refl
of_line actors s (Boottime offset) n h = said (true, (offset, tt)) (tt, (omega arith, tt)) refl refl refl refl
of_line actors s (Slots count) n h = said (count, tt) (omega arith, tt) refl refl refl refl
of_line actors s (Kind kind) n h = said (kind, tt) (h, tt) refl refl refl refl
of_line actors s (Code kind code) n h = said (kind, (code, tt)) (h.0, (h.1, tt)) refl refl refl refl
of_line actors s (Axis code i) n h =
    said (code, (i.value, (i.minimum, (i.maximum, (i.fuzz, (i.flat, (i.resolution, tt)))))))
    (h.0, (h.1.value, (h.1.minimum, (h.1.maximum, (h.1.fuzz, (h.1.flat, (h.1.resolution, tt)))))))
    refl refl refl refl
of_line actors s (Filter (filters.Eat kind code)) n h =
    said (kind, (code, tt)) (h.0, (h.1, tt)) refl refl refl refl
of_line actors s (Filter filters.Norepeat) n h = said tt tt refl refl refl refl
of_line actors s (Filter (filters.Chord first second)) n h =
    said (first, (second, tt)) (h.0, (h.1, tt)) refl refl refl refl
of_line actors s (Filter (filters.Bounce code micros)) n h =
    said (code, (micros, tt)) (h.0, ((h.1, h.2), tt)) refl refl refl refl
of_line actors s (Actor roles.Source name) n h = said (name, tt) (h, tt) refl refl refl refl
of_line actors s (Actor r name) n h = said (name, tt) (h, tt) refl refl refl refl
of_line actors s (Action actor does) n h = absurd (cc n)

-- its words are read again
pub plain_read : (actors : List ActorText) (i : Item) → IsOfLine actors i
    → plain_item (keyword_for i) (item_words actors i) ≡ Some i
unfolding plain_item
plain_read actors i h =
    let row = item_row i in
    rw (
      line_read,
      made_read Item row.fields 0 row.first (item_words actors i) row.make h.values
          (line_sound (keyword_for i)) h.fits h.rest,
      ← h.is,
    )

all_plain : (n : ℕ) (ws : Words) → list_all is_plain (take n ws) ≡ true → list_all is_plain (drop n ws) ≡ true
    → list_all is_plain ws ≡ true
all_plain zero ws h k = k
all_plain (suc n) [] h k = refl
all_plain (suc n) (w ∷ ws) h k = let parts =
    and_parts _ _ h in and_from _ _ parts.0 (all_plain n ws parts.1 k)

-- and make a line
pub plain_line : (actors : List ActorText) (i : Item) → IsOfLine actors i → IsPlainLine (item_words actors i)
plain_line actors i h =
    let row = item_row i in
    let rest =
    ap (list_all is_plain) h.rest ∙ written_plain row.fields 0 h.values (line_sound (keyword_for i)) h.fits in
    record { first = h.small; plain = all_plain row.first (item_words actors i) h.front rest }

-- What words say, by the values of the fields.
pub values_said : (P : List ℕ → Type 0) (k : keyword.Keyword) (ws : Words) (i : Item)
    → ((n : ℕ) → P (word n ws)) → plain_item k ws ≡ Some i
    → (vs : Values (line_row k).fields) × FitsFields P (line_row k).fields vs
    × (i ≡ line_item (line_row k) vs)
unfolding plain_item
values_said P k ws i p e =
    let row =
    line_row k in made_fits P Item row.fields 0 row.first ws row.make i (λ n le lt. p n)
    (sym (line_read k ws) ∙ e)

by_clock : (P : Item → Type 0) (boot : Bool) (offset : ℕ) → P (Realtime offset) → P (Boottime offset)
    → P (offset_item boot offset)
by_clock P true offset a b = b
by_clock P false offset a b = a

line_keyword : (k : keyword.Keyword) (vs : Values (line_row k).fields)
    → keyword_for (line_item (line_row k) vs) ≡ k
unfolding line_row
line_keyword keywords.Clock vs = by_clock (λ i. keyword_for i ≡ keywords.Clock) vs.0 vs.1.0 refl refl
line_keyword keywords.Filter vs = absurd vs.0
line_keyword keywords.Action vs = absurd vs.0
line_keyword k vs = refl

-- the item that a line's row makes has the keyword of that row
pub plain_keyword : (k : keyword.Keyword) (ws : Words) (i : Item) → plain_item k ws ≡ Some i
    → keyword_for i ≡ k
plain_keyword k ws i e = let h = values_said (λ w. Unit {0}) k ws i (λ n. tt) e in ap keyword_for h.2
    ∙ line_keyword k h.0

-- they can be said
line_said : (P : List ℕ → Type 0) (actors : List ActorText) (s : ℕ) (k : keyword.Keyword)
    (vs : Values (line_row k).fields) → FitsFields P (line_row k).fields vs
    → IsSayable actors s (line_item (line_row k) vs)
unfolding line_row
line_said P actors s keywords.Hint vs h = omega (arith, h.0)
line_said P actors s keywords.Log vs h = omega (arith, h.0)
line_said P actors s keywords.Slots vs h = omega (arith, h.0)
line_said P actors s keywords.Clock vs h = let small : vs.1.0 < 2 ^ 64 =
    omega (arith, h.1.0) in by_clock (IsSayable actors s) vs.0 vs.1.0 small small
line_said P actors s keywords.Code vs h = (h.0, h.1.0)
line_said P actors s keywords.Axis vs h = (
  h.0,
  record {
    value = h.1.0;
    minimum = h.1.1.0;
    maximum = h.1.1.1.0;
    fuzz = h.1.1.1.1.0;
    flat = h.1.1.1.1.1.0;
    resolution = h.1.1.1.1.1.1.0;
  },
)
line_said P actors s keywords.Eat vs h = (h.0, h.1.0)
line_said P actors s keywords.Norepeat vs h = tt
line_said P actors s keywords.Chord vs h = (h.0, h.1.0)
line_said P actors s keywords.Bounce vs h = (h.0, h.1.0.0, h.1.0.1)
line_said P actors s keywords.Filter vs h = absurd vs.0
line_said P actors s keywords.Action vs h = absurd vs.0
line_said P actors s k vs h = h.0

-- values that were read from words are within the limits of their fields
pub plain_said : (actors : List ActorText) (s : ℕ) (k : keyword.Keyword) (ws : Words) (i : Item)
    → plain_item k ws ≡ Some i → IsSayable actors s i
plain_said actors s k ws i e =
    let h = values_said (λ w. Unit {0}) k ws i (λ n. tt) e in
    rw h.2 (line_said (λ w. Unit {0}) actors s k h.0 h.1)
