-- The hold of the second key goes on by the flag, and the flag by the events on the first key.
use Rattle.std.proofs.Common.{◌≡◌, false, ◌&&◌, not, sym, ◌∙◌}
use Rattle.std.proofs.lemmas.Bool.{and_from, and_left, and_right, not_from_true, not_from_false}
use Rattle.inp_model.specs.Event.{is_repeat}
use Rattle.inp_model.specs.Filter.{is_on_key, is_chorded}
use Rattle.inp_filter.proofs.StandsAfterEvents.{is_down-on, is_down-other}
use Rattle.inp_filter.proofs.chord.Chord.eats.Goals.{else-is_on_key-via-then-is_on_key+else-not-is_repeat}
use Rattle.inp_filter.proofs.chord.Chord.eats.Goals.{else-is_on_key-via-else-is_on_key}
use Rattle.inp_filter.proofs.chord.Chord.eats.Goals as goal

pub returns-then-not-is_repeat-clause-stands : goal.returns-then-not-is_repeat-clause-stands
returns-then-not-is_repeat-clause-stands c = λ first second moment given h.
    let on = rw (c.is_on_key.ensures, h.first_is) at c.if-is_on_key.true in
    let no_repeat = sym c.is_repeat.ensures.repeat ∙ c.if-not-is_repeat.true in
    record {
      first_is = h.first_is;
      down =
          c.is_set-self.ensures.set
          ∙ sym (is_down-on first _ given (and_from _ _ on (not_from_false _ no_repeat)));
      hold = c.eats-is_eaten.ensures.stands second (is_chorded first) moment _ given h.hold h.down;
    }

pub returns-else-is_on_key-clause-stands : goal.returns-else-is_on_key-clause-stands
returns-else-is_on_key-clause-stands c = λ first second moment given h.
    let on : is_on_key first c.args.event ≡ c.is_on_key.result =
    rw (← h.first_is) (sym c.is_on_key.ensures) in
    let other : (is_on_key first c.args.event && not (is_repeat c.args.event)) ≡ false =
    elim c.else-is_on_key.branch [
      | else-is_on_key-via-then-is_on_key+else-not-is_repeat w ↦ and_right _ _
          (not_from_true _ (sym w.is_repeat.ensures.repeat ∙ w.if-not-is_repeat.false))
      | else-is_on_key-via-else-is_on_key w ↦ and_left _ _ (on ∙ w.if-is_on_key.false)
    ] in
    record {
      first_is = h.first_is;
      down = h.down ∙ sym (is_down-other first _ given other);
      hold = c.eats-is_eaten.ensures.stands second (is_chorded first) moment _ given h.hold h.down;
    }
