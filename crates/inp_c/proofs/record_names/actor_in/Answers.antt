use Rattle.std.proofs.Common.{◌≡◌, ℕ, List, length, take, ap, sym, refl, ◌∙◌, Some}
use Rattle.std.specs.Prelude.{slice_get}
use Rattle.inp_model.specs.Reply.{written}
use Rattle.inp_actors.specs.declared.actor_text.ActorText.{ActorText}
use Rattle.inp_c.proofs.record_names.actor_in.Goals as goal

-- the role, the device and the name are those of the kept record's actor at that number
pub returns-clause-told : goal.returns-clause-told
returns-clause-told c = λ _.
    let name : c.bytes-name.result.now ≡ c.get-found.result.now.name = c.bytes-name.ensures.bytes in
    record {
      kept = c.in-Record.record;
      actor = c.get-found.result.now;
      is = ap Some c.in-Record.is;
      there =
          ap (λ (l : List ActorText). slice_get l c.args.actor) (sym c.actors-actors.ensures.actors)
          ∙ c.get-found.ensures.item;
      role_is = c.role_number.ensures;
      device_is = refl;
      len_is = ap length name;
      bytes =
          c.copy_bytes.ensures
          ∙ ap (λ (l : List ℕ). written (take (length c.args.out.now) l) c.args.out.now) name;
    }
