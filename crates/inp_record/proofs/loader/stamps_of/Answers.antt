use Rattle.std.proofs.Common.{◌≡◌, ◌<◌, ℕ, ◌++◌, ◌∷◌, [], length, Ok, sym, ap, ◌∙◌, rules, arith}
use Rattle.inp_model.specs.declared.event.Event.{Event}
use Rattle.inp_stream.specs.Stream.{decoded}
use Rattle.inp_stream.specs.Form.{time_len}
use Rattle.inp_record.specs.Stream.{stamps_of}
use Rattle.inp_record.proofs.Stamps.{decoded_is, rest_refused, none_left, none_yet, pushed_in_time, stamp_of}
use Rattle.inp_record.proofs.Stamps.{onto, smaller, more_read}
use Rattle.inp_record.proofs.loader.stamps_of.Goals as goal

-- before the first record no event was read
pub loop-rest-init : goal.loop-rest-init
loop-rest-init c =
    let none = c.of-stamps.ensures.items ∙ c.in-Ok.ensures.items in
    rw none (none_yet (stamps_of (time_len c.args.form) c.args.bytes.now))

pub returns-in_default-decode-clause-stamps : goal.returns-in_default-decode-clause-stamps
returns-in_default-decode-clause-stamps c =
    let some : 0 < length c.loop-rest.rest.now = search rules in
    c.loop-rest.invariant.read
    ∙ ap (onto c.loop-rest.stamps)
    (rest_refused (time_len c.args.form) c.loop-rest.rest.now c.in_default-decode.field-0 some
    (sym c.decode.ensures ∙ c.in_default-decode.is))

pub loop-rest-smaller : goal.loop-rest-smaller
loop-rest-smaller c =
    let it : Event × ℕ = (c.in-Ok-decode.event, c.in-Ok-decode.now) in
    let rest = c.loop-rest.rest.now in
    let is : decoded (time_len c.args.form) rest ≡ Ok it = sym c.decode.ensures ∙ c.in-Ok-decode.is in
    let read = (decoded_is (time_len c.args.form) rest it is).0 in
    let len = c.record_len-in-loop-rest.ensures in
    smaller c.record_len-in-loop-rest.result rest (omega (arith, len)) (omega (arith, len, read))

-- the record that was decoded gives the next event, which is in time
pub loop-rest-preserved : goal.loop-rest-preserved
loop-rest-preserved c =
    let it : Event × ℕ = (c.in-Ok-decode.event, c.in-Ok-decode.now) in
    let is : decoded (time_len c.args.form) c.loop-rest.rest.now ≡ Ok it =
    sym c.decode.ensures ∙ c.in-Ok-decode.is in
    let pushed : c.push.new.self ≡ c.loop-rest.stamps ++ stamp_of it ∷ [] = search rules in
    rw (pushed, c.record_len-in-loop-rest.ensures) (record {
      read =
          more_read (time_len c.args.form)
          (stamps_of (time_len c.args.form) c.args.bytes.now) c.loop-rest.rest.now c.loop-rest.stamps
          it c.loop-rest.invariant.read is;
      in_time =
          pushed_in_time c.loop-rest.stamps
          (stamp_of it) c.loop-rest.invariant.in_time
          (decoded_is (time_len c.args.form) c.loop-rest.rest.now it is).1;
    })

pub returns-clause-stamps : goal.returns-clause-stamps
returns-clause-stamps c =
    let none : length c.loop-rest.rest.now ≡ 0 = search rules in
    c.loop-rest.invariant.read ∙ none_left (time_len c.args.form) c.loop-rest.stamps c.loop-rest.rest.now none
