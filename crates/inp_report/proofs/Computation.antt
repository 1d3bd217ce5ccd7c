-- The words that a worked example unfolds, in one place: `unfolding computing` opens all of them.
use Rattle.std.specs.Fmt.{digits}
use Rattle.inp_bits.specs.Bits.{true_indices}
use Rattle.inp_codes.proofs.Computation.{event_codes}
use Rattle.inp_reader.specs.Reader.{axes_among}
use Rattle.inp_recon.proofs.Computation.{computing as of_views}
use Rattle.inp_texts.specs.Texts.{kind_text, code_text, bits_text, clock_text, role_text}
use Rattle.inp_report.specs.Words.{flags_text, event_text, axis_numbers, refusal_text, stop_text}
use Rattle.inp_report.specs.Steps.{step_text}
use Rattle.inp_report.specs.Replies.{reply_text}
use Rattle.inp_report.specs.Sights.{sight_line}
use Rattle.inp_report.specs.Views.{kind_line, slot_line, slots_text, view_text}
use Rattle.inp_report.specs.Report.{device_line, step_line, calls_text, role_part, report}
use Rattle.inp_report.specs.JoyReport.{picture_text, joy_report}
use Rattle.inp_report.specs.OwnerReport.{fed_line, owner_report}
use Rattle.inp_report.specs.Summary.{counts_line, summary}

unfoldable pub computing : Type 0
unfolding digits true_indices axes_among event_codes of_views kind_text code_text bits_text event_text
    clock_text axis_numbers refusal_text stop_text role_text step_text reply_text sight_line flags_text
    kind_line slot_line slots_text view_text device_line step_line calls_text role_part report picture_text
    joy_report fed_line owner_report counts_line summary
computing = Unit {0}
