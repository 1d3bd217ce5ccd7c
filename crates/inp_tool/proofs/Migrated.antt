-- The text of an upgraded record, by what was read of it.
use Rattle.std.proofs.Common.{◌≡◌, ℕ, ◌<◌, ◌^◌, List, [], ◌∷◌, length, replicate, Result, Ok, Err, refl}
use Rattle.std.proofs.Common.{sym, ap, subst, ◌∙◌, arith}
use Rattle.std.proofs.lemmas.List.{length-replicate}
use Rattle.std.proofs.lemmas.List.FromFn.{length-range_with_len}
use Rattle.inp_actors.specs.Record.{RecordView, IsRecord}
use Rattle.inp_texts.specs.Line.{lines_of as text_lines}
use Rattle.inp_record.specs.canon.Text.{record_lines, record_text}
use Rattle.inp_record.specs.declared.refused.Refused.{Refused}
use Rattle.inp_record.specs.ItemsBefore.{ItemsBefore, context_of}
use Rattle.inp_model.specs.declared.stamped.Stamped.{Stamped}
use Rattle.inp_record.specs.Meaning.{as_record, behind_lines, record_of_past, meaning}
use Rattle.inp_record.proofs.Good.{IsRecord-read}
use Rattle.inp_record.proofs.LineByLine.{few_lines}
use Rattle.inp_record.proofs.RaisedPasts.{reads_again}
use Rattle.inp_tool.specs.Upgrade.{upgraded}
use Rattle.inp_tool.specs.Edge.{Reads}
use Rattle.inp_tool.specs.RecordFile.{HasRecord}
use Rattle.inp_tool.specs.Streams.{stream_files}
use Rattle.inp_tool.proofs.Spans.{are_read_length}
use Rattle.inp_tool.proofs.StreamFiles.{as_many_files}

-- the text has no event of a stream
same_text : (r : RecordView) (streams : List (List Stamped))
    → record_text (upgraded (record r { streams = streams })) ≡ record_text (upgraded r)
unfolding record_text record_lines
same_text r streams = refl

-- what lines mean is a record whose streams are empty
meant : (lines : List (List ℕ)) (count : ℕ) (o : Result ItemsBefore Refused) (r : RecordView)
    → length lines < 2 ^ 32 → behind_lines 1 lines [] ≡ o → as_record count o ≡ Ok r
    → IsRecord r × (r.streams ≡ replicate (length r.streams) [])
meant lines count (Err refused) r few h e = absurd (cc e)
meant lines count (Ok []) r few h e = absurd (cc e)
meant lines count (Ok (item ∷ past)) r few h e =
    let same : record_of_past (item ∷ past) ≡ r = cc e in
    let P : RecordView → Type 0 = λ x. IsRecord x × (x.streams ≡ replicate (length x.streams) []) in
    let n : length (replicate {A = List Stamped} (context_of (item ∷ past)).streams [])
    ≡ (context_of (item ∷ past)).streams = length-replicate (context_of (item ∷ past)).streams [] in
    let all : P (record_of_past (item ∷ past)) =
    (IsRecord-read lines (item ∷ past) few h, ap (λ k. replicate k []) (sym n)) in
    subst P same all

-- the record that was read has as many streams as its text, where they are empty
text_streams : (r : Reads) (file : List ℕ) (recorded : RecordView) (h : HasRecord r file recorded)
    → h.is.parsed.streams ≡ replicate (length h.is.all.streams) []
unfolding meaning
text_streams r file recorded h =
    let parsed = h.is.parsed in
    let all = h.is.all in
    let lines = text_lines all.text in
    let within = all.read.within in
    let few : length lines < 2 ^ 32 = omega (arith, few_lines all.text, within) in
    let is = meant lines (length lines) (behind_lines 1 lines []) parsed few refl all.means in
    let files : length (stream_files parsed.lines) ≡ length parsed.streams =
    rw (← as_many_files parsed.lines, is.0.numbered) (length-range_with_len 0 (length parsed.streams)) in
    let read = are_read_length r (stream_files parsed.lines) all.contents all.streams all.loaded in
    is.1 ∙ ap (λ n. replicate n []) (sym files ∙ read)

-- it means the record of the lines that were read, in version 2
pub means_upgraded : (r : Reads) (file text : List ℕ) (recorded : RecordView) → HasRecord r file recorded
    → text ≡ record_text (upgraded recorded)
    → meaning text
    ≡ Ok (record (upgraded recorded) { streams = replicate (length recorded.streams) [] })
means_upgraded r file text recorded h says =
    let parsed = h.is.parsed in
    let same : text ≡ record_text (upgraded parsed) =
    rw (says, h.is.whole) (same_text parsed h.is.all.streams) in
    let empty : upgraded parsed
    ≡ record (upgraded parsed) { streams = replicate (length h.is.all.streams) [] } =
    ap (λ (s : List (List Stamped)). record (upgraded parsed) { streams = s })
    (text_streams r file recorded h) in
    let P : RecordView → Type 0 =
    λ x. meaning text ≡ Ok (record (upgraded x) { streams = replicate (length x.streams) [] }) in
    subst P (sym h.is.whole)
    (ap meaning same ∙ reads_again h.is.all.text parsed h.is.all.means
    ∙ ap (λ (x : RecordView). Ok x) empty)
