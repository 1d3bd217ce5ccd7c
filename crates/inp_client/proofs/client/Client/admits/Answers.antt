use Rattle.std.proofs.Common.{sym, ◌∙◌}
use Rattle.inp_client.proofs.MaskBits.{admits_of-full_masks}
use Rattle.inp_client.proofs.client.Client.admits.Goals as goal

pub returns-then-is_full : goal.returns-then-is_full
returns-then-is_full c =
    let full = c.is_full.ensures.full c.if-is_full.true in
    rw (← c.self.view_is)
    (record { admits = c.if-is_full.true ∙ sym (rw full (admits_of-full_masks c.args.event)) })
