-- The words that a worked example unfolds, in one place: `unfolding record_computing` opens all of what a
-- text means, and `unfolding text_computing` of how one is written.
use Rattle.std.specs.Fmt.{digits}
use Rattle.inp_codes.proofs.Computation.{event_codes}
use Rattle.inp_texts.specs.Texts.{kind_text, code_text, bits_text, clock_text, role_text}
use Rattle.inp_record.specs.canon.Command.{command_words}
use Rattle.inp_record.specs.canon.Device.{number_lines, kinds_lines, codes_lines, caps_lines, fuzz_words}
use Rattle.inp_record.specs.canon.Device.{info_words, axes_lines, filter_words, filters_lines, plain_lines}
use Rattle.inp_record.specs.canon.Device.{description_lines}
use Rattle.inp_record.specs.canon.Text.{actors_lines, device_lines, devices_lines, record_lines, record_text}
use Rattle.inp_texts.proofs.Computation.{words_computing}
use Rattle.inp_record.specs.Keyword.{keyword_rows, filter_rows, keyword_of, has_words}
use Rattle.inp_record.specs.Field.{clock_rows, other_clock_rows}
use Rattle.inp_record.specs.Line.{line_row}
use Rattle.inp_record.specs.Action.{command_rows}
use Rattle.inp_record.specs.Words.{plain_item, actor_from, item_of}
use Rattle.inp_record.specs.Meaning.{item_of_words, behind_line, behind_lines, meaning}

unfoldable pub text_computing : Type 0
unfolding digits event_codes kind_text code_text bits_text clock_text role_text command_words number_lines
    kinds_lines codes_lines caps_lines fuzz_words info_words axes_lines filter_words filters_lines plain_lines
    description_lines actors_lines device_lines devices_lines record_lines record_text
text_computing = Unit {0}

unfoldable pub record_computing : Type 0
unfolding words_computing keyword_rows has_words filter_rows keyword_of command_rows clock_rows
    other_clock_rows line_row plain_item actor_from item_of item_of_words behind_line
    behind_lines meaning
record_computing = Unit {0}
