use Rattle.inp_actors.proofs.Names.{is_ok_from_cases}
use Rattle.inp_record.proofs.Texts.{IsUtf8-from_text}
use Rattle.inp_record.proofs.command_parser.file_name.Goals as goal

pub unwrap-text-requires : goal.unwrap-text-requires
unwrap-text-requires c =
    is_ok_from_cases c.from_utf8.result _ _ c.from_utf8.ensures.cases
    (λ e h. h.0 (IsUtf8-from_text c.args.word.now c.requires))
