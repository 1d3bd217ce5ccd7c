-- Which stream a stream line takes.
use Rattle.std.proofs.Common.{◌≡◌, ℕ, ◌+◌, ◌<◌, List, [], ◌∷◌, ◌++◌, length, get_or, take, Option, Some, None}
use Rattle.std.proofs.Common.{option_map, refl, ap, ◌∙◌, arith}
use Rattle.std.specs.Prelude.{slice_get, flat_map}
use Rattle.std.specs.List.{range_with_len}
use Rattle.std.proofs.lemmas.List.{append-nil, take_more}
use Rattle.std.proofs.lemmas.List.Concat.{get_or-flat_map}
use Rattle.std.proofs.lemmas.List.Folds.{length-flat_map-take}
use Rattle.std.proofs.lemmas.List.FromFn.{get_or-range_with_len, length-range_with_len}
use Rattle.std.proofs.lemmas.Grind.{flat_map-append}
use Rattle.std.proofs.lemmas.Option.{slice_get_within, get_or_from_slice_get}
use Rattle.inp_actors.specs.declared.command.Command.{Command}
use Rattle.inp_actors.specs.declared.command.Command.TheVariants.{Stream, Stream16, Open}
use Rattle.inp_actors.specs.declared.line.Line.{Line}
use Rattle.inp_actors.specs.Command.{stream_of}
use Rattle.inp_actors.specs.Record.{streams_of}
use Rattle.inp_stream.specs.declared.record_form.RecordForm.TheVariants.{Wide, Narrow}
use Rattle.inp_record.specs.Stream.{stamps_of_command}
use Rattle.inp_tool.specs.Streams.{StreamFile, file_of, stream_files, events_in}

-- a command that names a file takes one stream
pub one_stream : (c : Command) (file : StreamFile) → file_of c ≡ file ∷ []
    → (index : ℕ) × (stream_of c ≡ index ∷ [])
one_stream (Stream name index) file h = (index, refl)
one_stream (Stream16 name index) file h = (index, refl)
one_stream _ file h = absurd (cc h)

-- a command takes the events that its file holds
pub stamps_of_command-file : (c : Command) (file : StreamFile) (bytes : List ℕ) → file_of c ≡ file ∷ []
    → stamps_of_command c bytes ≡ events_in file bytes
stamps_of_command-file (Stream name index) file bytes h =
    let its : StreamFile = record { name = name; form = Wide } in let same : its ≡ file = cc h in rw (← same)
stamps_of_command-file (Stream16 name index) file bytes h =
    let its : StreamFile = record { name = name; form = Narrow } in let same : its ≡ file =
    cc h in rw (← same)
stamps_of_command-file _ file bytes h = absurd (cc h)

-- a command takes one stream and names one file, or neither
pub as_many : (c : Command) → length (stream_of c) ≡ length (file_of c)
as_many Open = refl
as_many _ = refl

-- as many files as streams
pub as_many_files : (lines : List Line) → length (streams_of lines) ≡ length (stream_files lines)
as_many_files [] = refl
as_many_files (line ∷ lines) = grind (arith, as_many line.command, as_many_files lines)

-- the line of this number, by what is found of it
pub line_found : {A : Type 0} (f : Line → A) (found : Option Line) (a : A) → option_map f found ≡ Some a
    → (l : Line) × (found ≡ Some l) × (f l ≡ a)
line_found f None a h = absurd (cc h)
line_found f (Some l) a h = (l, refl, cc h)

-- one more line
pub files_more : (lines : List Line) (i : ℕ) (l : Line) → slice_get lines i ≡ Some l
    → stream_files (take (i + 1) lines) ≡ stream_files (take i lines) ++ file_of l.command
files_more lines i l h =
    let f : Line → List StreamFile = λ line. file_of line.command in
    let here : get_or lines i l ≡ l = get_or_from_slice_get lines i l l h in
    let more : take (i + 1) lines ≡ take i lines ++ get_or lines i l ∷ [] =
    take_more lines i l (slice_get_within lines i l h) in
    rw (more, here, flat_map-append f (take i lines) (l ∷ []), append-nil (file_of l.command))

-- a line's stream has the number of streams before it
pub stream_number : (lines : List Line) (i : ℕ) (l : Line) (n index : ℕ)
    → streams_of lines ≡ range_with_len 0 n → slice_get lines i ≡ Some l → stream_of l.command ≡ index ∷ []
    → (index ≡ length (stream_files (take i lines))) × (index < n)
stream_number lines i l n index numbered h one =
    let f : Line → List ℕ = λ line. stream_of line.command in
    let here : get_or lines i l ≡ l = get_or_from_slice_get lines i l l h in
    let within : i < length lines = slice_get_within lines i l h in
    let is : f (get_or lines i l) ≡ index ∷ [] = ap f here ∙ one in
    let count : length (f (get_or lines i l)) ≡ 1 = rw is in
    let k = length (streams_of (take i lines)) in
    let fits = length-flat_map-take f lines i l within in
    let all : length (flat_map f lines) ≡ n = rw numbered (length-range_with_len 0 n) in
    let room : k < n = omega (arith, fits, all, count) in
    let at = get_or-flat_map f lines i 0 l 0 within (omega (arith, count)) in
    let first : get_or (f (get_or lines i l)) 0 0 ≡ index = rw is in
    let counted : get_or (range_with_len 0 n) k 0 ≡ 0 + k = get_or-range_with_len 0 n k 0 room in
    let zero_k : 0 + k ≡ k = omega arith in
    let k_zero : k + 0 ≡ k = omega arith in
    let there : get_or (flat_map f lines) (k + 0) 0 ≡ get_or (range_with_len 0 n) (k + 0) 0 = rw numbered in
    let moved : get_or (range_with_len 0 n) (k + 0) 0 ≡ get_or (range_with_len 0 n) k 0 = rw k_zero in
    let same : index ≡ k = cc in
    (same ∙ as_many_files (take i lines), omega (arith, same, room))
