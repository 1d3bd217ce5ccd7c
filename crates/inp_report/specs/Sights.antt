-- How what a job saw is written, and how its entries are counted (docs/FORMATS.md, "Sights").
use Rattle.std.specs.Prelude.{ℕ, Bool, true, false, ◌&&◌, not, List, ◌++◌, codes, decimal}
use Rattle.std.specs.Fmt.{signed_decimal}
use Rattle.inp_model.specs.Step.{is_end_step}
use Rattle.inp_model.specs.Reply.{is_accepted}
use Rattle.inp_joy.specs.JoyRecord.{record_in}
use Rattle.inp_script.specs.declared.sight.Sight.{Sight}
use Rattle.inp_script.specs.declared.sight.Sight.TheVariants.{Call, Took, Made, Again, Record}
use Rattle.inp_report.specs.Words.{LINE_FEED, event_text}
use Rattle.inp_report.specs.Steps.{step_text}
use Rattle.inp_report.specs.Replies.{reply_text}

-- the words before an event that was taken, which all events of a frame share
unfoldable pub stamp_text : ℕ → ℕ → List ℕ
stamp_text place time = codes "took " ++ (decimal place ++ (codes " " ++ (decimal time ++ codes " ")))

-- one line for each entry of a sight; of a joystick's record js TIME VALUE TYPE NUMBER
unfoldable pub sight_line : Sight → List ℕ
sight_line (Call x reply) = codes "call " ++ (step_text x ++ (codes " reply " ++ (reply_text x reply ++ LINE_FEED)))
sight_line (Took t) = codes "took " ++ (decimal t.place ++ (codes " " ++ (decimal t.time ++ (codes " " ++ (event_text t.event ++ LINE_FEED)))))
sight_line (Made e) = codes "made " ++ (event_text e ++ LINE_FEED)
sight_line (Again at ends) = codes "again " ++ (decimal at ++ LINE_FEED)
sight_line (Record bytes) = let r = record_in bytes in
    codes "js " ++ (decimal r.time ++ (codes " " ++ (signed_decimal r.value ++ (codes " " ++ (decimal r.kind
    ++ (codes " " ++ (decimal r.number ++ LINE_FEED)))))))

-- a call that counts as one of a source: an accepted one, but for the End that follows its lines
abbrev pub is_counted_call : Sight → Bool
is_counted_call (Call x reply) = is_accepted reply && not (is_end_step x)
is_counted_call _ = false

-- the other kinds of entries
abbrev pub is_took : Sight → Bool
is_took (Took t) = true
is_took _ = false

abbrev pub is_made : Sight → Bool
is_made (Made e) = true
is_made _ = false

abbrev pub is_again_sight : Sight → Bool
is_again_sight (Again at ends) = true
is_again_sight _ = false
