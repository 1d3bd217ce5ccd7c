use Rattle.std.proofs.Common.{◌≡◌, [], ◌∷◌, map, Ok, Err, ap, sym, ◌∙◌}
use Rattle.std.proofs.lemmas.Result.{err_from_is_err_and}
use Rattle.inp_model.specs.declared.event.TheConstants.{EV_KEY, EV_REL, EV_MSC, EV_SW, EV_LED, EV_SND}
use Rattle.inp_model.specs.Description.{Description, syn_alone}
use Rattle.inp_caps.specs.Builder.{built}
use Rattle.inp_c.specs.declared.c_description.CDescription.{CDescription}
use Rattle.inp_c.specs.DescriptionOfC.{Described, set_codes, kind_call, code_call, axis_call, number_calls}
use Rattle.inp_c.specs.DescriptionOfC.{filter_calls, calls_of_c, described_then, with_calls, description_of_c}
use Rattle.inp_c.proofs.Described.{Reaches, going, halting}
use Rattle.inp_c.proofs.c_description.description_of.Goals as goal

-- what all calls make of a new builder is the description of the struct
described : (d : CDescription) (s : Description) (made : Described) → s ≡ syn_alone
    → Reaches s (calls_of_c d) made → description_of_c d ≡ described_then made (λ e. Ok (built e))
unfolding description_of_c
described d s made fresh r =
    ap (λ (e : Description). described_then (with_calls e (calls_of_c d)) (λ e. Ok (built e))) (sym fresh)
    ∙ ap (λ (t : Described). described_then t (λ e. Ok (built e))) r.is

-- the types come first, so a refusal of one is the whole call's
pub returns-in_err-builder : goal.returns-in_err-builder
returns-in_err-builder c =
    let d = c.args.c.now in
    let p = err_from_is_err_and c.from_residual.result c.from_residual.ensures.1 in
    let bad : Reaches c.new.result (map kind_call (set_codes (d.types ∷ [])))
    (Err c.in_err-builder.field-0.0) = record { is = sym c.with_types.ensures ∙ c.in_err-builder.was } in
    rw (p.1, p.2)
    (sym (described d c.new.result _ c.new.ensures.fresh
    (halting (filter_calls d.filters d.filter_count)
    (halting (number_calls d)
    (halting (map (axis_call d.infos) (set_codes (d.axes ∷ [])))
    (halting (map (code_call EV_SND) (set_codes (d.sounds ∷ [])))
    (halting (map (code_call EV_LED) (set_codes (d.leds ∷ [])))
    (halting (map (code_call EV_SW) (set_codes (d.switches ∷ [])))
    (halting (map (code_call EV_MSC) (set_codes (d.miscs ∷ [])))
    (halting (map (code_call EV_REL) (set_codes (d.relatives ∷ [])))
    (halting (map (code_call EV_KEY) (set_codes d.keys)) (bad))))))))))))

pub returns-in_err-builder-2 : goal.returns-in_err-builder-2
returns-in_err-builder-2 c =
    let d = c.args.c.now in
    let p =
    err_from_is_err_and c.from_residual-in_err-builder-2.result c.from_residual-in_err-builder-2.ensures.1 in
    let r1 : Reaches c.new.result (map kind_call (set_codes (d.types ∷ []))) (Ok c.in_ok-builder.builder) =
    record { is = sym c.with_types.ensures ∙ c.in_ok-builder.was } in
    let bad : Reaches c.in_ok-builder.builder (map (code_call EV_KEY) (set_codes d.keys))
    (Err c.in_err-builder-2.field-0.0) = record { is = sym c.with_codes.ensures ∙ c.in_err-builder-2.was } in
    rw (p.1, p.2)
    (sym (described d c.new.result _ c.new.ensures.fresh
    (halting (filter_calls d.filters d.filter_count)
    (halting (number_calls d)
    (halting (map (axis_call d.infos) (set_codes (d.axes ∷ [])))
    (halting (map (code_call EV_SND) (set_codes (d.sounds ∷ [])))
    (halting (map (code_call EV_LED) (set_codes (d.leds ∷ [])))
    (halting (map (code_call EV_SW) (set_codes (d.switches ∷ [])))
    (halting (map (code_call EV_MSC) (set_codes (d.miscs ∷ [])))
    (halting (map (code_call EV_REL) (set_codes (d.relatives ∷ []))) (going (r1) bad)))))))))))

pub returns-in_err-builder-3 : goal.returns-in_err-builder-3
returns-in_err-builder-3 c =
    let d = c.args.c.now in
    let p =
    err_from_is_err_and c.from_residual-in_err-builder-3.result c.from_residual-in_err-builder-3.ensures.1 in
    let r1 : Reaches c.new.result (map kind_call (set_codes (d.types ∷ []))) (Ok c.in_ok-builder.builder) =
    record { is = sym c.with_types.ensures ∙ c.in_ok-builder.was } in
    let r2 : Reaches c.in_ok-builder.builder (map (code_call EV_KEY) (set_codes d.keys))
    (Ok c.in_ok-builder-2.builder) = record { is = sym c.with_codes.ensures ∙ c.in_ok-builder-2.was } in
    let bad : Reaches c.in_ok-builder-2.builder (map (code_call EV_REL) (set_codes (d.relatives ∷ [])))
    (Err c.in_err-builder-3.field-0.0) =
    record { is = sym c.with_codes-2.ensures ∙ c.in_err-builder-3.was } in
    rw (p.1, p.2)
    (sym (described d c.new.result _ c.new.ensures.fresh
    (halting (filter_calls d.filters d.filter_count)
    (halting (number_calls d)
    (halting (map (axis_call d.infos) (set_codes (d.axes ∷ [])))
    (halting (map (code_call EV_SND) (set_codes (d.sounds ∷ [])))
    (halting (map (code_call EV_LED) (set_codes (d.leds ∷ [])))
    (halting (map (code_call EV_SW) (set_codes (d.switches ∷ [])))
    (halting (map (code_call EV_MSC) (set_codes (d.miscs ∷ []))) (going (going r1 r2) bad))))))))))

pub returns-in_err-builder-4 : goal.returns-in_err-builder-4
returns-in_err-builder-4 c =
    let d = c.args.c.now in
    let p =
    err_from_is_err_and c.from_residual-in_err-builder-4.result c.from_residual-in_err-builder-4.ensures.1 in
    let r1 : Reaches c.new.result (map kind_call (set_codes (d.types ∷ []))) (Ok c.in_ok-builder.builder) =
    record { is = sym c.with_types.ensures ∙ c.in_ok-builder.was } in
    let r2 : Reaches c.in_ok-builder.builder (map (code_call EV_KEY) (set_codes d.keys))
    (Ok c.in_ok-builder-2.builder) = record { is = sym c.with_codes.ensures ∙ c.in_ok-builder-2.was } in
    let r3 : Reaches c.in_ok-builder-2.builder (map (code_call EV_REL) (set_codes (d.relatives ∷ [])))
    (Ok c.in_ok-builder-3.builder) = record { is = sym c.with_codes-2.ensures ∙ c.in_ok-builder-3.was } in
    let bad : Reaches c.in_ok-builder-3.builder (map (code_call EV_MSC) (set_codes (d.miscs ∷ [])))
    (Err c.in_err-builder-4.field-0.0) =
    record { is = sym c.with_codes-3.ensures ∙ c.in_err-builder-4.was } in
    rw (p.1, p.2)
    (sym (described d c.new.result _ c.new.ensures.fresh
    (halting (filter_calls d.filters d.filter_count)
    (halting (number_calls d)
    (halting (map (axis_call d.infos) (set_codes (d.axes ∷ [])))
    (halting (map (code_call EV_SND) (set_codes (d.sounds ∷ [])))
    (halting (map (code_call EV_LED) (set_codes (d.leds ∷ [])))
    (halting (map (code_call EV_SW) (set_codes (d.switches ∷ [])))
    (going (going (going r1 r2) r3) bad)))))))))

pub returns-in_err-builder-5 : goal.returns-in_err-builder-5
returns-in_err-builder-5 c =
    let d = c.args.c.now in
    let p =
    err_from_is_err_and c.from_residual-in_err-builder-5.result c.from_residual-in_err-builder-5.ensures.1 in
    let r1 : Reaches c.new.result (map kind_call (set_codes (d.types ∷ []))) (Ok c.in_ok-builder.builder) =
    record { is = sym c.with_types.ensures ∙ c.in_ok-builder.was } in
    let r2 : Reaches c.in_ok-builder.builder (map (code_call EV_KEY) (set_codes d.keys))
    (Ok c.in_ok-builder-2.builder) = record { is = sym c.with_codes.ensures ∙ c.in_ok-builder-2.was } in
    let r3 : Reaches c.in_ok-builder-2.builder (map (code_call EV_REL) (set_codes (d.relatives ∷ [])))
    (Ok c.in_ok-builder-3.builder) = record { is = sym c.with_codes-2.ensures ∙ c.in_ok-builder-3.was } in
    let r4 : Reaches c.in_ok-builder-3.builder (map (code_call EV_MSC) (set_codes (d.miscs ∷ [])))
    (Ok c.in_ok-builder-4.builder) = record { is = sym c.with_codes-3.ensures ∙ c.in_ok-builder-4.was } in
    let bad : Reaches c.in_ok-builder-4.builder (map (code_call EV_SW) (set_codes (d.switches ∷ [])))
    (Err c.in_err-builder-5.field-0.0) =
    record { is = sym c.with_codes-4.ensures ∙ c.in_err-builder-5.was } in
    rw (p.1, p.2)
    (sym (described d c.new.result _ c.new.ensures.fresh
    (halting (filter_calls d.filters d.filter_count)
    (halting (number_calls d)
    (halting (map (axis_call d.infos) (set_codes (d.axes ∷ [])))
    (halting (map (code_call EV_SND) (set_codes (d.sounds ∷ [])))
    (halting (map (code_call EV_LED) (set_codes (d.leds ∷ [])))
    (going (going (going (going r1 r2) r3) r4) bad))))))))

pub returns-in_err-builder-6 : goal.returns-in_err-builder-6
returns-in_err-builder-6 c =
    let d = c.args.c.now in
    let p =
    err_from_is_err_and c.from_residual-in_err-builder-6.result c.from_residual-in_err-builder-6.ensures.1 in
    let r1 : Reaches c.new.result (map kind_call (set_codes (d.types ∷ []))) (Ok c.in_ok-builder.builder) =
    record { is = sym c.with_types.ensures ∙ c.in_ok-builder.was } in
    let r2 : Reaches c.in_ok-builder.builder (map (code_call EV_KEY) (set_codes d.keys))
    (Ok c.in_ok-builder-2.builder) = record { is = sym c.with_codes.ensures ∙ c.in_ok-builder-2.was } in
    let r3 : Reaches c.in_ok-builder-2.builder (map (code_call EV_REL) (set_codes (d.relatives ∷ [])))
    (Ok c.in_ok-builder-3.builder) = record { is = sym c.with_codes-2.ensures ∙ c.in_ok-builder-3.was } in
    let r4 : Reaches c.in_ok-builder-3.builder (map (code_call EV_MSC) (set_codes (d.miscs ∷ [])))
    (Ok c.in_ok-builder-4.builder) = record { is = sym c.with_codes-3.ensures ∙ c.in_ok-builder-4.was } in
    let r5 : Reaches c.in_ok-builder-4.builder (map (code_call EV_SW) (set_codes (d.switches ∷ [])))
    (Ok c.in_ok-builder-5.builder) = record { is = sym c.with_codes-4.ensures ∙ c.in_ok-builder-5.was } in
    let bad : Reaches c.in_ok-builder-5.builder (map (code_call EV_LED) (set_codes (d.leds ∷ [])))
    (Err c.in_err-builder-6.field-0.0) =
    record { is = sym c.with_codes-5.ensures ∙ c.in_err-builder-6.was } in
    rw (p.1, p.2)
    (sym (described d c.new.result _ c.new.ensures.fresh
    (halting (filter_calls d.filters d.filter_count)
    (halting (number_calls d)
    (halting (map (axis_call d.infos) (set_codes (d.axes ∷ [])))
    (halting (map (code_call EV_SND) (set_codes (d.sounds ∷ [])))
    (going (going (going (going (going r1 r2) r3) r4) r5) bad)))))))

pub returns-in_err-builder-7 : goal.returns-in_err-builder-7
returns-in_err-builder-7 c =
    let d = c.args.c.now in
    let p =
    err_from_is_err_and c.from_residual-in_err-builder-7.result c.from_residual-in_err-builder-7.ensures.1 in
    let r1 : Reaches c.new.result (map kind_call (set_codes (d.types ∷ []))) (Ok c.in_ok-builder.builder) =
    record { is = sym c.with_types.ensures ∙ c.in_ok-builder.was } in
    let r2 : Reaches c.in_ok-builder.builder (map (code_call EV_KEY) (set_codes d.keys))
    (Ok c.in_ok-builder-2.builder) = record { is = sym c.with_codes.ensures ∙ c.in_ok-builder-2.was } in
    let r3 : Reaches c.in_ok-builder-2.builder (map (code_call EV_REL) (set_codes (d.relatives ∷ [])))
    (Ok c.in_ok-builder-3.builder) = record { is = sym c.with_codes-2.ensures ∙ c.in_ok-builder-3.was } in
    let r4 : Reaches c.in_ok-builder-3.builder (map (code_call EV_MSC) (set_codes (d.miscs ∷ [])))
    (Ok c.in_ok-builder-4.builder) = record { is = sym c.with_codes-3.ensures ∙ c.in_ok-builder-4.was } in
    let r5 : Reaches c.in_ok-builder-4.builder (map (code_call EV_SW) (set_codes (d.switches ∷ [])))
    (Ok c.in_ok-builder-5.builder) = record { is = sym c.with_codes-4.ensures ∙ c.in_ok-builder-5.was } in
    let r6 : Reaches c.in_ok-builder-5.builder (map (code_call EV_LED) (set_codes (d.leds ∷ [])))
    (Ok c.in_ok-builder-6.builder) = record { is = sym c.with_codes-5.ensures ∙ c.in_ok-builder-6.was } in
    let bad : Reaches c.in_ok-builder-6.builder (map (code_call EV_SND) (set_codes (d.sounds ∷ [])))
    (Err c.in_err-builder-7.field-0.0) =
    record { is = sym c.with_codes-6.ensures ∙ c.in_err-builder-7.was } in
    rw (p.1, p.2)
    (sym (described d c.new.result _ c.new.ensures.fresh
    (halting (filter_calls d.filters d.filter_count)
    (halting (number_calls d)
    (halting (map (axis_call d.infos) (set_codes (d.axes ∷ [])))
    (going (going (going (going (going (going r1 r2) r3) r4) r5) r6) bad))))))

pub returns-in_err-builder-8 : goal.returns-in_err-builder-8
returns-in_err-builder-8 c =
    let d = c.args.c.now in
    let p =
    err_from_is_err_and c.from_residual-in_err-builder-8.result c.from_residual-in_err-builder-8.ensures.1 in
    let r1 : Reaches c.new.result (map kind_call (set_codes (d.types ∷ []))) (Ok c.in_ok-builder.builder) =
    record { is = sym c.with_types.ensures ∙ c.in_ok-builder.was } in
    let r2 : Reaches c.in_ok-builder.builder (map (code_call EV_KEY) (set_codes d.keys))
    (Ok c.in_ok-builder-2.builder) = record { is = sym c.with_codes.ensures ∙ c.in_ok-builder-2.was } in
    let r3 : Reaches c.in_ok-builder-2.builder (map (code_call EV_REL) (set_codes (d.relatives ∷ [])))
    (Ok c.in_ok-builder-3.builder) = record { is = sym c.with_codes-2.ensures ∙ c.in_ok-builder-3.was } in
    let r4 : Reaches c.in_ok-builder-3.builder (map (code_call EV_MSC) (set_codes (d.miscs ∷ [])))
    (Ok c.in_ok-builder-4.builder) = record { is = sym c.with_codes-3.ensures ∙ c.in_ok-builder-4.was } in
    let r5 : Reaches c.in_ok-builder-4.builder (map (code_call EV_SW) (set_codes (d.switches ∷ [])))
    (Ok c.in_ok-builder-5.builder) = record { is = sym c.with_codes-4.ensures ∙ c.in_ok-builder-5.was } in
    let r6 : Reaches c.in_ok-builder-5.builder (map (code_call EV_LED) (set_codes (d.leds ∷ [])))
    (Ok c.in_ok-builder-6.builder) = record { is = sym c.with_codes-5.ensures ∙ c.in_ok-builder-6.was } in
    let r7 : Reaches c.in_ok-builder-6.builder (map (code_call EV_SND) (set_codes (d.sounds ∷ [])))
    (Ok c.in_ok-builder-7.builder) = record { is = sym c.with_codes-6.ensures ∙ c.in_ok-builder-7.was } in
    let bad : Reaches c.in_ok-builder-7.builder (map (axis_call d.infos) (set_codes (d.axes ∷ [])))
    (Err c.in_err-builder-8.field-0.0) = record { is = sym c.with_axes.ensures ∙ c.in_err-builder-8.was } in
    rw (p.1, p.2)
    (sym (described d c.new.result _ c.new.ensures.fresh
    (halting (filter_calls d.filters d.filter_count)
    (halting (number_calls d)
    (going (going (going (going (going (going (going r1 r2) r3) r4) r5) r6) r7) bad)))))

pub returns-in_err-builder-9 : goal.returns-in_err-builder-9
returns-in_err-builder-9 c =
    let d = c.args.c.now in
    let p =
    err_from_is_err_and c.from_residual-in_err-builder-9.result c.from_residual-in_err-builder-9.ensures.1 in
    let r1 : Reaches c.new.result (map kind_call (set_codes (d.types ∷ []))) (Ok c.in_ok-builder.builder) =
    record { is = sym c.with_types.ensures ∙ c.in_ok-builder.was } in
    let r2 : Reaches c.in_ok-builder.builder (map (code_call EV_KEY) (set_codes d.keys))
    (Ok c.in_ok-builder-2.builder) = record { is = sym c.with_codes.ensures ∙ c.in_ok-builder-2.was } in
    let r3 : Reaches c.in_ok-builder-2.builder (map (code_call EV_REL) (set_codes (d.relatives ∷ [])))
    (Ok c.in_ok-builder-3.builder) = record { is = sym c.with_codes-2.ensures ∙ c.in_ok-builder-3.was } in
    let r4 : Reaches c.in_ok-builder-3.builder (map (code_call EV_MSC) (set_codes (d.miscs ∷ [])))
    (Ok c.in_ok-builder-4.builder) = record { is = sym c.with_codes-3.ensures ∙ c.in_ok-builder-4.was } in
    let r5 : Reaches c.in_ok-builder-4.builder (map (code_call EV_SW) (set_codes (d.switches ∷ [])))
    (Ok c.in_ok-builder-5.builder) = record { is = sym c.with_codes-4.ensures ∙ c.in_ok-builder-5.was } in
    let r6 : Reaches c.in_ok-builder-5.builder (map (code_call EV_LED) (set_codes (d.leds ∷ [])))
    (Ok c.in_ok-builder-6.builder) = record { is = sym c.with_codes-5.ensures ∙ c.in_ok-builder-6.was } in
    let r7 : Reaches c.in_ok-builder-6.builder (map (code_call EV_SND) (set_codes (d.sounds ∷ [])))
    (Ok c.in_ok-builder-7.builder) = record { is = sym c.with_codes-6.ensures ∙ c.in_ok-builder-7.was } in
    let r8 : Reaches c.in_ok-builder-7.builder (map (axis_call d.infos) (set_codes (d.axes ∷ [])))
    (Ok c.in_ok-builder-8.builder) = record { is = sym c.with_axes.ensures ∙ c.in_ok-builder-8.was } in
    let bad : Reaches c.in_ok-builder-8.builder (number_calls d) (Err c.in_err-builder-9.field-0.0) =
    record { is = sym c.with_numbers.ensures ∙ c.in_err-builder-9.was } in
    rw (p.1, p.2)
    (sym (described d c.new.result _ c.new.ensures.fresh
    (halting (filter_calls d.filters d.filter_count)
    (going (going (going (going (going (going (going (going r1 r2) r3) r4) r5) r6) r7) r8) bad))))

pub returns-in_err-builder-10 : goal.returns-in_err-builder-10
returns-in_err-builder-10 c =
    let d = c.args.c.now in
    let p =
    err_from_is_err_and c.from_residual-in_err-builder-10.result
    c.from_residual-in_err-builder-10.ensures.1 in
    let r1 : Reaches c.new.result (map kind_call (set_codes (d.types ∷ []))) (Ok c.in_ok-builder.builder) =
    record { is = sym c.with_types.ensures ∙ c.in_ok-builder.was } in
    let r2 : Reaches c.in_ok-builder.builder (map (code_call EV_KEY) (set_codes d.keys))
    (Ok c.in_ok-builder-2.builder) = record { is = sym c.with_codes.ensures ∙ c.in_ok-builder-2.was } in
    let r3 : Reaches c.in_ok-builder-2.builder (map (code_call EV_REL) (set_codes (d.relatives ∷ [])))
    (Ok c.in_ok-builder-3.builder) = record { is = sym c.with_codes-2.ensures ∙ c.in_ok-builder-3.was } in
    let r4 : Reaches c.in_ok-builder-3.builder (map (code_call EV_MSC) (set_codes (d.miscs ∷ [])))
    (Ok c.in_ok-builder-4.builder) = record { is = sym c.with_codes-3.ensures ∙ c.in_ok-builder-4.was } in
    let r5 : Reaches c.in_ok-builder-4.builder (map (code_call EV_SW) (set_codes (d.switches ∷ [])))
    (Ok c.in_ok-builder-5.builder) = record { is = sym c.with_codes-4.ensures ∙ c.in_ok-builder-5.was } in
    let r6 : Reaches c.in_ok-builder-5.builder (map (code_call EV_LED) (set_codes (d.leds ∷ [])))
    (Ok c.in_ok-builder-6.builder) = record { is = sym c.with_codes-5.ensures ∙ c.in_ok-builder-6.was } in
    let r7 : Reaches c.in_ok-builder-6.builder (map (code_call EV_SND) (set_codes (d.sounds ∷ [])))
    (Ok c.in_ok-builder-7.builder) = record { is = sym c.with_codes-6.ensures ∙ c.in_ok-builder-7.was } in
    let r8 : Reaches c.in_ok-builder-7.builder (map (axis_call d.infos) (set_codes (d.axes ∷ [])))
    (Ok c.in_ok-builder-8.builder) = record { is = sym c.with_axes.ensures ∙ c.in_ok-builder-8.was } in
    let r9 : Reaches c.in_ok-builder-8.builder (number_calls d) (Ok c.in_ok-builder-9.builder) =
    record { is = sym c.with_numbers.ensures ∙ c.in_ok-builder-9.was } in
    let bad : Reaches c.in_ok-builder-9.builder (filter_calls d.filters d.filter_count)
    (Err c.in_err-builder-10.field-0.0) =
    record { is = sym c.with_filters.ensures ∙ c.in_err-builder-10.was } in
    rw (p.1, p.2)
    (sym (described d c.new.result _ c.new.ensures.fresh
    (going (going (going (going (going (going (going (going (going r1 r2) r3) r4) r5) r6) r7) r8) r9) bad)))

-- no call was refused, so all of them one after another make the description
pub returns : goal.returns
returns c =
    let d = c.args.c.now in
    let r1 : Reaches c.new.result (map kind_call (set_codes (d.types ∷ []))) (Ok c.in_ok-builder.builder) =
    record { is = sym c.with_types.ensures ∙ c.in_ok-builder.was } in
    let r2 : Reaches c.in_ok-builder.builder (map (code_call EV_KEY) (set_codes d.keys))
    (Ok c.in_ok-builder-2.builder) = record { is = sym c.with_codes.ensures ∙ c.in_ok-builder-2.was } in
    let r3 : Reaches c.in_ok-builder-2.builder (map (code_call EV_REL) (set_codes (d.relatives ∷ [])))
    (Ok c.in_ok-builder-3.builder) = record { is = sym c.with_codes-2.ensures ∙ c.in_ok-builder-3.was } in
    let r4 : Reaches c.in_ok-builder-3.builder (map (code_call EV_MSC) (set_codes (d.miscs ∷ [])))
    (Ok c.in_ok-builder-4.builder) = record { is = sym c.with_codes-3.ensures ∙ c.in_ok-builder-4.was } in
    let r5 : Reaches c.in_ok-builder-4.builder (map (code_call EV_SW) (set_codes (d.switches ∷ [])))
    (Ok c.in_ok-builder-5.builder) = record { is = sym c.with_codes-4.ensures ∙ c.in_ok-builder-5.was } in
    let r6 : Reaches c.in_ok-builder-5.builder (map (code_call EV_LED) (set_codes (d.leds ∷ [])))
    (Ok c.in_ok-builder-6.builder) = record { is = sym c.with_codes-5.ensures ∙ c.in_ok-builder-6.was } in
    let r7 : Reaches c.in_ok-builder-6.builder (map (code_call EV_SND) (set_codes (d.sounds ∷ [])))
    (Ok c.in_ok-builder-7.builder) = record { is = sym c.with_codes-6.ensures ∙ c.in_ok-builder-7.was } in
    let r8 : Reaches c.in_ok-builder-7.builder (map (axis_call d.infos) (set_codes (d.axes ∷ [])))
    (Ok c.in_ok-builder-8.builder) = record { is = sym c.with_axes.ensures ∙ c.in_ok-builder-8.was } in
    let r9 : Reaches c.in_ok-builder-8.builder (number_calls d) (Ok c.in_ok-builder-9.builder) =
    record { is = sym c.with_numbers.ensures ∙ c.in_ok-builder-9.was } in
    let r10 : Reaches c.in_ok-builder-9.builder (filter_calls d.filters d.filter_count)
    (Ok c.in_ok-builder-10.builder) = record { is = sym c.with_filters.ensures ∙ c.in_ok-builder-10.was } in
    ap Ok c.build.ensures.built
    ∙ sym (described d c.new.result _ c.new.ensures.fresh
    (going (going (going (going (going (going (going (going (going r1 r2) r3) r4) r5) r6) r7) r8) r9) r10))
