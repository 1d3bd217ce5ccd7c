use Rattle.std.proofs.Common.{◌≡◌, ◌∙◌, ap, ap₂, codes, true, [], ◌∷◌}
use Rattle.std.specs.List.{fold}
use Rattle.std.proofs.lemmas.Result.{IfOk-weaker}
use Rattle.clap.specs.Simple.{App, Shape, app_of, app_of_fields, new_app, on_top, with_rule}
use Rattle.inp_args.specs.Command.{command, flag, no_arguments, option}
use Rattle.inp_args.proofs.command.command.Goals as goal

-- the command with the flags, and with the options too
abbrev with_flags : App
with_flags = fold with_rule no_arguments
    (flag (codes "threads") ∷ flag (codes "history") ∷ flag (codes "migrate") ∷ [])

abbrev with_options : App
with_options = fold with_rule with_flags
    (option (codes "idle") ∷ option (codes "make") ∷ option (codes "count") ∷ [])

pub returns : goal.returns
unfolding command
returns c =
    let unnamed : app_of c.no_binary_name.result ≡ on_top (λ (s : Shape). record s { no_binary_name = true })
    (new_app (codes "inputplay")) =
    ap app_of_fields c.no_binary_name.ensures
    ∙ ap (on_top (λ (s : Shape). record s { no_binary_name = true })) c.new.ensures.app in
    let none : app_of c.disable_help_flag.result ≡ no_arguments =
    ap app_of_fields c.disable_help_flag.ensures
    ∙ ap (on_top (λ (s : Shape). record s { disable_help_flag = true })) unnamed in
    let threads : app_of c.in_ok-arg.field-0 ≡ with_rule no_arguments (flag (codes "threads")) =
    c.in_ok-arg.ensures.shape c.flag.ensures.local ∙ ap₂ with_rule none c.flag.ensures.rule in
    let history : app_of c.in_ok-arg-2.field-0 ≡ with_rule (with_rule no_arguments (flag (codes "threads")))
    (flag (codes "history")) =
    c.in_ok-arg-2.ensures.shape c.flag-2.ensures.local ∙ ap₂ with_rule threads c.flag-2.ensures.rule in
    let migrate : app_of c.in_ok-arg-3.field-0 ≡ with_flags =
    c.in_ok-arg-3.ensures.shape c.flag-3.ensures.local ∙ ap₂ with_rule history c.flag-3.ensures.rule in
    let idle : app_of c.in_ok-arg-4.field-0 ≡ with_rule with_flags (option (codes "idle")) =
    c.in_ok-arg-4.ensures.shape c.option.ensures.local ∙ ap₂ with_rule migrate c.option.ensures.rule in
    let make : app_of c.in_ok-arg-5.field-0 ≡ with_rule (with_rule with_flags (option (codes "idle")))
    (option (codes "make")) =
    c.in_ok-arg-5.ensures.shape c.option-2.ensures.local ∙ ap₂ with_rule idle c.option-2.ensures.rule in
    let count : app_of c.in_ok-arg-6.field-0 ≡ with_options =
    c.in_ok-arg-6.ensures.shape c.option-3.ensures.local ∙ ap₂ with_rule make c.option-3.ensures.rule in
    IfOk-weaker c.arg-7.result _ _ (λ made h. h.shape c.new-2.ensures.optional.1
    ∙ ap₂ with_rule count c.new-2.ensures.rule) c.arg-7.ensures
