-- A frame that passes the filters by is offered whole; another one is offered as the filters leave it.
use Rattle.std.proofs.Common.{◌≡◌, ℕ, true, List, map, Option, None, sym, ap, subst, ◌∙◌, refl, Bool, false}
use Rattle.std.proofs.Common.{[], ◌∷◌, Some, is_some}
use Rattle.inp_model.specs.declared.event.Event.{Event}
use Rattle.inp_model.specs.declared.filter.Filter.{Filter}
use Rattle.inp_model.specs.Filter.{Timed}
use Rattle.inp_model.specs.Queue.{is_empty}
use Rattle.inp_filter.specs.FilterState.{FiltersStandFor}
use Rattle.inp_client.specs.Client.{after_offer}
use Rattle.inp_client.specs.Numbers.{IsStoredOnce}
use Rattle.inp_device.specs.Handler.{offered_of, given_with}
use Rattle.inp_filter.specs.declared.filter_state.FilterState.{FilterState}
use Rattle.inp_filter.proofs.RowLaws.{let_through-no_filter}
use Rattle.inp_device.proofs.handler.HandlerFrames.pass.Goals.{then-is_some, else-is_some}
use Rattle.inp_device.proofs.handler.HandlerFrames.pass.Goals as goal

whole_offered : (o : Option ℕ) (fs : List Filter) (now : ℕ) (given : List Timed) (events : List Event)
    → (o ≡ None → is_empty fs ≡ true) → offered_of o fs now given events ≡ events
whole_offered (Some client) fs now given events h = refl
whole_offered None [] now given events h = let_through-no_filter now given events
whole_offered None (f ∷ fs) now given events h = absurd (cc (h refl))

whole_given : (o : Option ℕ) (fs : List Filter) (now : ℕ) (given : List Timed) (events : List Event)
    (kept : List FilterState) → (o ≡ None → is_empty fs ≡ true) → FiltersStandFor fs given kept
    → FiltersStandFor fs (given_with o now given events) kept
unfolding FiltersStandFor
whole_given (Some client) fs now given events kept h stands = stands
whole_given None [] now given events [] h stands = tt
whole_given None [] now given events (s ∷ kept) h stands = absurd stands
whole_given None (f ∷ fs) now given events kept h stands = absurd (cc (h refl))

-- Whether a client holds the grab

nobody_holds : (o : Option ℕ) (is : Bool) → is ≡ is_some o → is ≡ false → o ≡ None
nobody_holds None is e h = refl
nobody_holds (Some client) is e h = absurd (cc (e, h))

somebody_holds : (o : Option ℕ) (is : Bool) → is ≡ is_some o → is ≡ true → o ≡ None → ⊥
somebody_holds o is e h none = absurd (cc (e, h, ap is_some none))

-- where nobody holds the grab there is no filter
passes_by : (c : goal.After-offer) (fs : List Filter) (given : List Timed)
    → FiltersStandFor fs given c.args.self.now.filters.kept → c.args.self.now.holder ≡ None
    → is_empty fs ≡ true
passes_by c fs given stands none =
    elim c.if-is_some.branch [
      | then-is_some w ↦ absurd
          (somebody_holds c.args.self.now.holder c.is_some.result c.is_some.ensures w.if-is_some.true none)
      | else-is_some w ↦ sym (w.is_empty-frame_is_whole.ensures fs given stands) ∙ sym w.frame_is_whole-is
          ∙ c.if-frame_is_whole.true
    ]

pub returns-then-frame_is_whole : goal.returns-then-frame_is_whole
returns-then-frame_is_whole c =
    let h = c.args.self.now in
    record {
      taken = record {
        clients = λ fs given stands.
            rw (
              whole_offered h.holder fs c.args.now given c.args.events.now (passes_by c fs given stands),
              ← c.offer.ensures.offered,
            );
        once = λ fs given stands.
            rw (whole_offered h.holder fs c.args.now given c.args.events.now (passes_by c fs given stands))
            c.offer.ensures.once;
        filters = λ fs given stands.
            whole_given h.holder fs c.args.now given c.args.events.now h.filters.kept
            (passes_by c fs given stands) stands;
        place = refl;
        holder = refl;
      };
    }

-- nobody holds the grab
is_free : (c : goal.After-offer-else-frame_is_whole) → c.args.self.now.holder ≡ None
is_free c =
    elim c.if-is_some.branch [
      | then-is_some w ↦ absurd (cc (w.frame_is_whole-is, c.if-frame_is_whole.false))
      | else-is_some w ↦ nobody_holds c.args.self.now.holder c.is_some.result c.is_some.ensures
          w.if-is_some.false
    ]

pub returns-else-frame_is_whole : goal.returns-else-frame_is_whole
returns-else-frame_is_whole c =
    let h = c.args.self.now in
    record {
      taken = record {
        clients = λ fs given stands.
            c.offer-else-frame_is_whole.ensures.offered
            ∙ ap (λ (es : List Event). map (after_offer es c.args.now h.place h.holder) h.clients.list)
            (c.left-left.ensures ∙ c.pass.ensures.left fs given stands
            ∙ ap (λ (o : Option ℕ). offered_of o fs c.args.now given c.args.events.now) (sym (is_free c)));
        once = λ fs given stands.
            subst (λ (es : List Event).
            IsStoredOnce es c.args.now h.place h.holder h.clients c.offer-else-frame_is_whole.new.self)
            (c.left-left.ensures ∙ c.pass.ensures.left fs given stands
            ∙ ap (λ (o : Option ℕ). offered_of o fs c.args.now given c.args.events.now) (sym (is_free c)))
            c.offer-else-frame_is_whole.ensures.once;
        filters = λ fs given stands.
            rw is_free (c.pass.ensures.stands fs given stands);
        place = refl;
        holder = refl;
      };
    }
