use Rattle.std.proofs.Common.{◌≡◌, length, ◌-◌, Some, sym, ap, ◌∙◌, option_copied, slice_get}
use Rattle.inp_ring.specs.Store.{event_of_cell}
use Rattle.inp_ring.specs.Ring.{cell_at}
use Rattle.inp_ring.proofs.Counts.{ends_last, ends_none}
use Rattle.inp_ring.proofs.Moves.{number_there}
use Rattle.inp_ring.proofs.Rings.{ends_map}
use Rattle.inp_ring.proofs.ring.Ring.is_all_visible.Goals as goal

pub get-requires : goal.get-requires
get-requires c =
    let q = c.self.inside.numbers.items in
    record {
      there =
          number_there c.args.store.now q (length q - 1) c.in-Some.number.now
          (rw (← c.self.view_is) at c.requires.held) (sym c.back.ensures ∙ ap option_copied c.in-Some.is);
    }

pub returns-in-Some : goal.returns-in-Some
returns-in-Some c =
    let q = c.self.inside.numbers.items in
    let last : slice_get q (length q - 1) ≡ Some c.in-Some.number.now =
    sym c.back.ensures ∙ ap option_copied c.in-Some.is in
    rw (← c.self.view_is) (record {
      whole =
          rw (
            c.get.ensures.cell,
            ← c.is_report.ensures.report,
          ) at (sym (ends_map c.args.store.now q
          ∙ ends_last (λ n. event_of_cell (cell_at c.args.store.now n)) q c.in-Some.number.now last));
    })

pub returns-in-None : goal.returns-in-None
returns-in-None c =
    let q = c.self.inside.numbers.items in
    rw (← c.self.view_is) (record {
      whole =
          sym (ends_map c.args.store.now q
          ∙ ends_none (λ n. event_of_cell (cell_at c.args.store.now n)) q (sym c.back.ensures
          ∙ ap option_copied c.in-None.is));
    })
