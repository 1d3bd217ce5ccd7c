-- What a call of the program found, and how it is told (docs/FORMATS.md, "Statuses").
use Rattle.std.specs.Prelude.{ℕ, Bool, true, false, ◌||◌, if◌then◌else◌, List, [], ◌++◌, codes, decimal, string_bytes, Option, Some, None}
use Rattle.std.specs.List.{list_any}
use Rattle.inp_args.specs.Usage.{usage_text}
use Rattle.inp_record.specs.declared.refused.Refused.{Refused}
use Rattle.inp_record.specs.Cause.{cause_text}
use Rattle.inp_script.specs.declared.stop.Stop.{Stop}
use Rattle.inp_script.specs.declared.stop.Stop.TheVariants.{Full}
use Rattle.inp_script.specs.declared.run.Played.{Played}
use Rattle.inp_script.specs.declared.run.Run.{Run}
use Rattle.inp_script.specs.Job.{JobView, JoyJobView, OwnerView}
use Rattle.inp_report.specs.Words.{LINE_FEED}
use Rattle.inp_tool.specs.declared.end.End.{End}
use Rattle.inp_tool.specs.declared.outcome.Outcome.{Outcome}
use Rattle.inp_tool.specs.declared.outcome.Outcome.TheVariants.{Usage, Unread, TooLong, Refused as IsRefused, NoMemory, Played as WasPlayed, Migrated}

-- inputplay: line L: CAUSE
abbrev pub refused_text : Refused → List ℕ
refused_text refused =
    codes "inputplay: line " ++ (decimal refused.line ++ (codes ": " ++ (cause_text refused.cause ++ LINE_FEED)))

-- it tells of a list that was full
abbrev pub is_stopped_full : Stop → Bool
is_stopped_full (Full at) = true
is_stopped_full _ = false

-- a job stopped since a history was full, or an owner since its calls were as many as may be kept
abbrev pub has_full : Played → Bool
has_full played =
    list_any (λ (run : Run). list_any (λ (job : JobView). is_stopped_full job.stop) run.jobs) played.runs
    || list_any (λ (joy : JoyJobView). is_stopped_full joy.stop) played.joys
    || list_any (λ (owner : OwnerView). is_stopped_full owner.stop) played.owners

-- the status where a report or a summary of the result of a record was written
abbrev pub played_status : Played → ℕ
played_status played = if has_full played then 6 else 0

-- what comes where nothing is played
abbrev pub no_play : Played
no_play = record { runs = []; joys = []; owners = [] }

-- what each outcome writes
abbrev pub text_of : Outcome → List ℕ
text_of Usage = usage_text
text_of Unread = codes "inputplay: read failed" ++ LINE_FEED
text_of TooLong = codes "inputplay: input too long" ++ LINE_FEED
text_of (IsRefused refused text) = string_bytes text
text_of NoMemory = codes "inputplay: out of memory" ++ LINE_FEED
text_of (WasPlayed played text) = text.items
text_of (Migrated text) = text.items

-- an end with this status, the line that is refused and why, and these results
abbrev pub end_with : ℕ → Option Refused → Played → End
end_with status refused played =
    record { status = status; refused = refused; runs = played.runs; joys = played.joys; owners = played.owners }

-- the end where the text of an outcome was written whole
abbrev pub end_of : Outcome → End
end_of Usage = end_with 2 None no_play
end_of Unread = end_with 3 None no_play
end_of TooLong = end_with 7 None no_play
end_of (IsRefused refused text) = end_with 1 (Some refused) no_play
end_of NoMemory = end_with 5 None no_play
end_of (WasPlayed played text) = end_with (played_status played) None played
end_of (Migrated text) = end_with 0 None no_play
