-- Reading line by line.
use Rattle.std.proofs.Common.{◌≡◌, ℕ, zero, suc, ◌+◌, ◌-◌, ◌<◌, ◌≤◌, List, [], ◌∷◌, map, length, take, drop}
use Rattle.std.proofs.Common.{get_or, Result, Ok, Err, refl, ap, add-one, arith}
use Rattle.std.specs.List.{slice_split}
use Rattle.std.proofs.lemmas.List.{drop_all, drop_more, take_rest}
use Rattle.std.specs.Str.Lines.{strip_carriage_return}
use Rattle.inp_actors.specs.Record.{RecordView}
use Rattle.inp_record.specs.declared.cause.Cause.{Cause}
use Rattle.inp_record.specs.declared.cause.Cause.TheVariants.{BadHeader}
use Rattle.inp_record.specs.declared.line_fault.LineFault.{LineFault}
use Rattle.inp_record.specs.declared.line_fault.LineFault.TheVariants as line
use Rattle.inp_record.specs.declared.refused.ParseFault.{ParseFault}
use Rattle.inp_record.specs.declared.refused.ParseFault.TheVariants as fault
use Rattle.inp_record.specs.declared.context.Context.{Context}
use Rattle.inp_record.specs.declared.item.Item.TheVariants.{Header}
use Rattle.inp_record.specs.declared.place.Place.TheVariants.{Start}
use Rattle.std.proofs.lemmas.List.Splits.{length-slice_split}
use Rattle.std.proofs.lemmas.List.Sums.{count_by-le-length}
use Rattle.inp_texts.specs.Line.{is_line_feed, lines_behind, lines_of}
use Rattle.inp_record.specs.Fault.{fault_at, IsParsing}
use Rattle.inp_record.specs.ItemsBefore.{ItemsBefore, context_of}
use Rattle.inp_record.specs.Meaning.{behind_line, then_lines, behind_lines, record_of_past, as_record}
use Rattle.inp_record.specs.Meaning.{meaning, IsBehind, AreLinesRead}

-- the line at a place, and those behind it
pub line_at : (parts : List (List ℕ)) (n : ℕ) (piece : List ℕ) → n < length parts
    → piece ≡ get_or parts n piece
    → drop n (map strip_carriage_return parts) ≡ strip_carriage_return piece
    ∷ drop (n + 1) (map strip_carriage_return parts)
line_at [] n piece h e = absurd (omega arith)
line_at (part ∷ parts) zero piece h e = rw (← e)
line_at (part ∷ parts) (suc n) piece h e =
    let next : suc (n + 1) ≡ suc n + 1 = omega arith in
    rw (← next, ← line_at parts n piece (omega arith) e)

-- each piece of the text is one line
pub lines_length : (parts : List (List ℕ)) → length (map strip_carriage_return parts) ≡ length parts
lines_length [] = refl
lines_length (part ∷ parts) = omega (arith, lines_length parts)

-- the piece that a turn is given, behind so many, and the line that it is
pub record IsTurn (parts : List (List ℕ)) (n : ℕ) (piece : List ℕ) : Type 0 where
  -- there is a line at the place
  pub below : n < length (map strip_carriage_return parts)
  -- the line at the place is the piece without its carriage return
  pub line : drop n (map strip_carriage_return parts) ≡ strip_carriage_return piece
      ∷ drop (n + 1) (map strip_carriage_return parts)

-- the pieces are as many as the lines, and each is the line at its place
pub turn_is : (parts : List (List ℕ)) (n k : ℕ) (piece : List ℕ) → n ≡ k
    → (k < length parts) × (piece ≡ get_or parts k piece) → IsTurn parts n piece
turn_is parts n k piece e t =
    let within : n < length parts = omega (arith, t.0) in
    record { below = omega (arith, lines_length parts); line = line_at parts n piece within (rw e t.1) }

-- a text has at most one line more than bytes
pub few_lines : (text : List ℕ) → length (lines_of text) ≤ length text + 1
few_lines text =
    omega (
      arith,
      lines_length (slice_split is_line_feed text),
      length-slice_split is_line_feed text,
      count_by-le-length is_line_feed text,
    )

-- the first line of what is left of a text, and those behind it
pub line_and_more : (rest : List ℕ) (end : ℕ) → end < length rest
    → slice_split is_line_feed rest ≡ take end rest ∷ lines_behind (drop end rest)
    → lines_of rest ≡ strip_carriage_return (take end rest)
    ∷ lines_of (take (length rest - (end + 1)) (drop (end + 1) rest))
line_and_more rest end within e = cc (e, drop_more rest end 0 within, take_rest rest (end + 1))

-- a text has a line
pub some_line : (text : List ℕ) → 1 ≤ length (lines_of text)
some_line text =
    omega (arith, lines_length (slice_split is_line_feed text), length-slice_split is_line_feed text)

-- the last one
pub line_alone : (rest : List ℕ) (end : ℕ) → length rest ≤ end
    → slice_split is_line_feed rest ≡ take end rest ∷ lines_behind (drop end rest)
    → lines_of rest ≡ strip_carriage_return (take end rest) ∷ []
line_alone rest end past e = rw (e, drop_all end rest past)

-- as many lines were read as are not left
pub counted_more : (all left more : List (List ℕ)) (n : ℕ) (x : List ℕ) → left ≡ x ∷ more
    → n + length left ≡ length all → (n + 1) + length more ≡ length all
counted_more all left more n x d e = omega (arith, ap length d)

-- one line more
pub read_more : (all left more : List (List ℕ)) (n : ℕ) (past : ItemsBefore) (x : List ℕ) → left ≡ x ∷ more
    → behind_lines 1 all [] ≡ behind_lines (n + 1) left past
    → behind_lines 1 all [] ≡ then_lines (n + 1) (behind_line past x)
    (λ now. behind_lines (suc (n + 1)) more now)
unfolding behind_lines
read_more all left more n past x d e = rw (e, d)

-- a line that was read
pub more_read : (all more : List (List ℕ)) (n : ℕ) (means : Result ItemsBefore Cause) (done : Unit {0})
    (now : Context)
    → behind_lines 1 all [] ≡ then_lines (n + 1) means (λ now. behind_lines (suc (n + 1)) more now)
    → IsBehind (Ok done) means now
    → (past : ItemsBefore) × (now ≡ context_of past)
    × (behind_lines 1 all [] ≡ behind_lines (n + 1 + 1) more past)
more_read all more n means done now e h = (h.0, h.2, rw (rw h.1 at e, ← add-one))

-- a line that was not read
pub fault_read : (all more : List (List ℕ)) (n : ℕ) (means : Result ItemsBefore Cause) (f : LineFault)
    (now : Context)
    → behind_lines 1 all [] ≡ then_lines (n + 1) means (λ now. behind_lines (suc (n + 1)) more now)
    → IsBehind (Err f) means now
    → AreLinesRead (Err (fault_at (n + 1) f)) all
fault_read all more n means (line.Refused cause) now e h = rw h at e
fault_read all more n means line.NoMemory now e h = tt

-- all lines were read
pub all_read : (all : List (List ℕ)) (n : ℕ) (context : Context) → n + length {A = List ℕ} [] ≡ length all
    → (past : ItemsBefore) × (context ≡ context_of past)
    × (behind_lines 1 all [] ≡ behind_lines (n + 1) [] past)
    → (past : ItemsBefore) × (behind_lines 1 all [] ≡ Ok past) × (context ≡ context_of past)
    × (n ≡ length all)
unfolding behind_lines
all_read all n context counted h = (h.0, h.2, h.1, omega (arith, counted))

-- a fault of a line is one of the text
pub fault_parsed : (text : List ℕ) (f : ParseFault) → AreLinesRead (Err f) (lines_of text)
    → IsParsing {A = RecordView} (Err f) (meaning text)
unfolding meaning
fault_parsed text (fault.Refused refused) h = ap (as_record (length (lines_of text))) h
fault_parsed text fault.NoMemory h = tt

-- all lines were read, so the meaning is the record of what they left
pub meaning_read : (text : List ℕ) (past : ItemsBefore) → behind_lines 1 (lines_of text) [] ≡ Ok past
    → meaning text ≡ as_record (length (lines_of text)) (Ok past)
unfolding meaning
meaning_read text past h = ap (as_record (length (lines_of text))) h

-- nothing was read before the first line alone
pub start_is : (past : ItemsBefore) → (context_of past).place ≡ Start → past ≡ []
start_is [] e = refl
start_is (Header version ∷ past) e = absurd (cc)
start_is (i ∷ past) e = absurd (cc)

-- nothing was read, so there is no header
pub headless : (past : ItemsBefore) (n : ℕ) → (context_of past).place ≡ Start
    → as_record n (Ok past) ≡ Err (record { line = n; cause = BadHeader })
headless past n e = rw (start_is past e)

-- something was read, and the record is made of it
pub headed : (past : ItemsBefore) (n : ℕ) → ((context_of past).place ≡ Start → ⊥)
    → as_record n (Ok past) ≡ Ok (record_of_past past)
headed [] n h = absurd (h refl)
headed (item ∷ past) n h = refl
