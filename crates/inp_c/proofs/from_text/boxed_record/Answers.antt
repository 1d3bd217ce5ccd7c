use Rattle.std.proofs.Common.{◌≡◌, ap, ◌∙◌, refl, false, Some}
use Rattle.std.proofs.lemmas.Result.{IfOk-weaker}
use Rattle.std.specs.Prelude.{replicate}
use Rattle.inp_c.specs.declared.kept.Kept.TheVariants.{Record}
use Rattle.inp_c.specs.declared.kept_record.KeptRecord.{KeptRecord}
use Rattle.inp_c.specs.FromText.{IsRecordKept}
use Rattle.inp_c.proofs.from_text.boxed_record.Goals as goal

-- the box keeps the record with no stream loaded and no text made
pub returns : goal.returns
returns c =
    let record_kept : KeptRecord =
    record { recorded = c.args.recorded; loaded = c.in_ok-loaded.loaded; text = c.new-text.result } in
    IfOk-weaker c.boxed.result (λ kept. kept.value ≡ Record record_kept)
    (λ kept. IsRecordKept c.args.recorded (Some kept.value))
    (λ kept is. record {
      kept = record_kept;
      is = ap Some is;
      recorded_is = refl;
      none_loaded =
          c.in_ok-loaded.ensures.items_if_clones_equal (λ y same. same)
          ∙ ap (λ n. replicate n false) c.stream_count.ensures.count;
      no_text = c.new-text.ensures.items;
    })
    c.boxed.ensures
