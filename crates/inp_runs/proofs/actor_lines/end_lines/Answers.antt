use Rattle.std.proofs.Common.{◌≡◌, not, refl, sym, ap, ◌∙◌, inl, inr}
use Rattle.inp_runs.proofs.Common.{slice_get_within, ActorText, Source, is_owner}
use Rattle.std.proofs.lemmas.Result.{on_ok_weaker}
use Rattle.inp_script.proofs.TalkCalls.{holds-same}
use Rattle.inp_runs.proofs.DoingAll.{acted_on-none, last-none, last-source, last-reader, its-role}
use Rattle.inp_runs.proofs.actor_lines.end_lines.Goals as goal

-- lines do not wait, so nothing is asked behind them
pub returns-then-is_none : goal.returns-then-is_none
returns-then-is_none g c = record {
  done =
      inl (
        refl,
        refl,
        last-none c.args.wait c.args.actor.now.role c.args.actor.now.job (c.is_none.ensures
            ∙ ap not c.if-is_none.true),
      );
  actor = refl;
  left = acted_on-none g.D.Evdev.told g.D.Feeds.feeds _ _;
}

-- the record has a text for the actor, so its number is within the record's actors
pub get-requires : goal.get-requires
get-requires g c = record {
  within =
      slice_get_within c.actors.result.now c.args.number c.requires.actor.text
      (rw (c.actors.ensures.actors, ← c.requires.number) c.requires.actor.is_text);
}

pub end-requires : goal.end-requires
end-requires g c =
    let text : ActorText = c.get.result.now in
    let same : text.role ≡ c.args.actor.now.role =
    its-role c.args.rec.now c.args.actor.now c.args.number text c.requires.actor c.requires.number
    (rw (← c.actors.ensures.actors) c.get.ensures.item) in
    let source : c.args.actor.now.role ≡ Source = sym same ∙ c.in-Source.is in
    record { source = source; device = c.requires.device (ap is_owner source) }

pub returns-in-Source : goal.returns-in-Source
returns-in-Source g c =
    let text : ActorText = c.get.result.now in
    let same : text.role ≡ c.args.actor.now.role =
    its-role c.args.rec.now c.args.actor.now c.args.number text c.requires.actor c.requires.number
    (rw (← c.actors.ensures.actors) c.get.ensures.item) in
    let source : c.args.actor.now.role ≡ Source = sym same ∙ c.in-Source.is in
    record {
      done =
          on_ok_weaker c.end.result
          (λ holds. inr (
            source,
            holds-same _ _ _ _ _
                (sym (last-source c.args.wait c.args.actor.now.role c.args.actor.now.job (c.is_none.ensures
                ∙ ap not c.if-is_none.false) source)) holds,
            c.end.ensures.actor,
          ))
          c.end.ensures.done;
      actor = c.end.ensures.actor;
      left = inr (ap is_owner source, c.end.ensures.left);
    }

pub returns-in-Client : goal.returns-in-Client
returns-in-Client g c =
    let text : ActorText = c.get.result.now in
    let same : text.role ≡ c.args.actor.now.role =
    its-role c.args.rec.now c.args.actor.now c.args.number text c.requires.actor c.requires.number
    (rw (← c.actors.ensures.actors) c.get.ensures.item) in
    record {
      done =
          inl (
            refl,
            refl,
            last-reader c.args.wait c.args.actor.now.role c.args.actor.now.job (elim c.in-Client.is [
              | inl h ↦ inl (sym same ∙ h)
              | inr rest ↦ elim rest [
                | inl h ↦ inr (inl (sym same ∙ h))
                | inr more ↦ elim more
                    [ inl h ↦ inr (inr (inl (sym same ∙ h))) | inr h ↦ inr (inr (inr (sym same ∙ h))) ]
              ]
            ]),
          );
      actor = refl;
      left = acted_on-none g.D.Evdev.told g.D.Feeds.feeds _ _;
    }
