-- The two phrases have 96 bytes at most, the number eleven, and the line feed is one.
use Rattle.std.proofs.Common.{ℤ, ◌<◌, ◌≤◌, ◌++◌, length, take, ap, ◌∙◌, arith, to_z-of_z}
use Rattle.std.specs.Fmt.{signed_decimal}
use Rattle.inp_texts.proofs.Decimals.{signed-length-le}
use Rattle.inp_texts.proofs.Pages.{written-length, line-stored}
use Rattle.inp_texts.proofs.lines.Lines.push_line.Goals as goal

pub store_signed-at-requires : goal.store_signed-at-requires
store_signed-at-requires c =
    let fits : c.self.inside.len ≤ length c.self.inside.bytes = omega arith in
    let start = written-length c.self.inside.bytes c.args.self.now c.self.inside.len fits c.self.view_is in
    let most = signed-length-le c.args.number c.ranges.number in
    let back = to_z-of_z c.ranges.number in
    rw back
    (record { room = omega (arith, c.store_phrase-at.ensures.short, c.store_phrase-at-2.ensures.short) })

pub bounds-self-inside-at : goal.bounds-self-inside-at
bounds-self-inside-at c =
    let fits : c.self.inside.len ≤ length c.self.inside.bytes = omega arith in
    let start = written-length c.self.inside.bytes c.args.self.now c.self.inside.len fits c.self.view_is in
    let most = signed-length-le c.args.number c.ranges.number in
    let back = to_z-of_z c.ranges.number in
    let end = rw back at c.store_signed-at.ensures.end in
    omega (arith, end, c.store_phrase-at.ensures.short, c.store_phrase-at-2.ensures.short)

pub invariant_of-self : goal.invariant_of-self
invariant_of-self c =
    let fits : c.self.inside.len ≤ length c.self.inside.bytes = omega arith in
    let start = written-length c.self.inside.bytes c.args.self.now c.self.inside.len fits c.self.view_is in
    let most = signed-length-le c.args.number c.ranges.number in
    let back = to_z-of_z c.ranges.number in
    let end = rw back at c.store_signed-at.ensures.end in
    omega (arith, end, c.store_phrase-at.ensures.short, c.store_phrase-at-2.ensures.short)

pub returns : goal.returns
returns c =
    let fits : c.self.inside.len ≤ length c.self.inside.bytes = omega arith in
    let start = written-length c.self.inside.bytes c.args.self.now c.self.inside.len fits c.self.view_is in
    let most = signed-length-le c.args.number c.ranges.number in
    let back = to_z-of_z c.ranges.number in
    let end = rw back at c.store_signed-at.ensures.end in
    let inside : c.store_signed-at.result < length c.store_signed-at.new.bytes =
    omega (arith, end, c.store_phrase-at.ensures.short, c.store_phrase-at-2.ensures.short) in
    let stored = c.store_signed-at.ensures.stored
    ∙ ap (λ (z : ℤ). take c.store_phrase-at-2.result c.store_phrase-at-2.new.bytes
    ++ signed_decimal z) back in
    record {
      pushed =
          line-stored c.self.inside.bytes c.store_phrase-at.new.bytes c.store_phrase-at-2.new.bytes
          c.store_signed-at.new.bytes
          c.args.self.now c.args.first.now c.args.second.now (signed_decimal c.args.number)
          c.self.inside.len c.store_phrase-at.result c.store_phrase-at-2.result c.store_signed-at.result
          c.self.view_is c.store_phrase-at.ensures.stored c.store_phrase-at-2.ensures.stored stored inside;
    }
