use Rattle.std.proofs.Common.{◌≡◌, ◌/◌, ◌%◌, length, refl, ap, ◌∙◌, w32, of_z, SFits, rules}
use Rattle.std.specs.Int.{cast_unsigned}
use Rattle.std.proofs.lemmas.Int.{to_z-of_z}
use Rattle.byteorder.specs.Endian.{little_bytes}
use Rattle.inp_stream.specs.declared.fields.TheConstants.{SECOND}
use Rattle.inp_stream.proofs.Writes.{written}
use Rattle.inp_stream.proofs.event_record.encode.Goals as goal

pub returns : goal.returns
returns c =
    let t = c.args.time in let e = c.args.event in
    let fits : SFits w32 e.value = search rules in
    let value : c.cast_unsigned.result ≡ cast_unsigned w32 e.value =
    c.cast_unsigned.ensures ∙ ap (of_z w32) (to_z-of_z w32 e.value fits) in
    let size : length c.args.out.now ≡ 24 = search rules in
    record {
      bytes =
          written 8 c.args.out.now c.write_u64.new.buf c.write_u64-2.new.buf c.write_u16.new.buf
          c.write_u16-2.new.buf c.write_u32.new.buf (little_bytes 8 (t / SECOND))
          (little_bytes 8 (t % SECOND)) (little_bytes 2 e.kind) (little_bytes 2 e.code)
          (little_bytes 4 (cast_unsigned w32 e.value))
          size refl refl refl refl refl c.write_u64.ensures c.write_u64-2.ensures c.write_u16.ensures
          c.write_u16-2.ensures (rw value at c.write_u32.ensures);
    }
