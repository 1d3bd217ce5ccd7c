-- What each kind says of its own events is said of the filter that it stands for.
use Rattle.std.proofs.Common.{◌≡◌, refl}
use Rattle.inp_model.specs.declared.filter.Filter.{Filter}
use Rattle.inp_filter.specs.declared.filter_state.FilterState.TheVariants.{Eat as EatState}
use Rattle.inp_filter.specs.declared.filter_state.FilterState.TheVariants.{Norepeat as NorepeatState}
use Rattle.inp_filter.specs.declared.filter_state.FilterState.TheVariants.{Chord as ChordState}
use Rattle.inp_filter.specs.declared.filter_state.FilterState.TheVariants.{Bounce as BounceState}
use Rattle.inp_model.specs.Filter.{Timed, eats, given_more}
use Rattle.inp_filter.specs.FilterState.{FilterStandsFor}
use Rattle.inp_filter.proofs.StandsAfterEvents.{of_eat, of_norepeat, of_chord, of_bounce}
use Rattle.inp_filter.proofs.filter_state.FilterState.eats.Goals as goal

pub returns-in-Eat-clause-eats : goal.returns-in-Eat-clause-eats
returns-in-Eat-clause-eats c = λ f given holds.
    let x : Timed = record { event = c.args.event; moment = c.args.now } in
    of_eat given c.in-Eat.eat (λ (f : Filter). c.eats.result ≡ eats f x given)
    (c.eats.ensures) f
    (rw c.in-Eat.is at holds)

pub returns-in-Eat-clause-stands : goal.returns-in-Eat-clause-stands
unfolding FilterStandsFor
returns-in-Eat-clause-stands c = λ f given holds.
    let x : Timed = record { event = c.args.event; moment = c.args.now } in
    of_eat given c.in-Eat.eat
    (λ (f : Filter). FilterStandsFor f (given_more f x given) (EatState c.in-Eat.eat))
    ((refl, refl)) f
    (rw c.in-Eat.is at holds)

pub returns-in-Norepeat-clause-eats : goal.returns-in-Norepeat-clause-eats
returns-in-Norepeat-clause-eats c = λ f given holds.
    let x : Timed = record { event = c.args.event; moment = c.args.now } in
    of_norepeat given c.in-Norepeat.norepeat (λ (f : Filter). c.eats-in-Norepeat.result ≡ eats f x given)
    (c.eats-in-Norepeat.ensures) f
    (rw c.in-Norepeat.is at holds)

pub returns-in-Norepeat-clause-stands : goal.returns-in-Norepeat-clause-stands
unfolding FilterStandsFor
returns-in-Norepeat-clause-stands c = λ f given holds.
    let x : Timed = record { event = c.args.event; moment = c.args.now } in
    of_norepeat given c.in-Norepeat.norepeat
    (λ (f : Filter). FilterStandsFor f (given_more f x given) (NorepeatState c.in-Norepeat.norepeat))
    (tt) f
    (rw c.in-Norepeat.is at holds)

pub returns-in-Chord-clause-eats : goal.returns-in-Chord-clause-eats
returns-in-Chord-clause-eats c = λ f given holds.
    let x : Timed = record { event = c.args.event; moment = c.args.now } in
    of_chord given c.in-Chord.chord (λ (f : Filter). c.eats-in-Chord.result ≡ eats f x given)
    (λ first second h. c.eats-in-Chord.ensures.eats first second c.args.now given h) f
    (rw c.in-Chord.is at holds)

pub returns-in-Chord-clause-stands : goal.returns-in-Chord-clause-stands
unfolding FilterStandsFor
returns-in-Chord-clause-stands c = λ f given holds.
    let x : Timed = record { event = c.args.event; moment = c.args.now } in
    of_chord given c.in-Chord.chord
    (λ (f : Filter). FilterStandsFor f (given_more f x given) (ChordState c.eats-in-Chord.new.self))
    (λ first second h. c.eats-in-Chord.ensures.stands first second c.args.now given h) f
    (rw c.in-Chord.is at holds)

pub returns-in-Bounce-clause-eats : goal.returns-in-Bounce-clause-eats
returns-in-Bounce-clause-eats c = λ f given holds.
    let x : Timed = record { event = c.args.event; moment = c.args.now } in
    of_bounce given c.in-Bounce.bounce (λ (f : Filter). c.eats-in-Bounce.result ≡ eats f x given)
    (λ code micros h. c.eats-in-Bounce.ensures.eats code micros given h) f
    (rw c.in-Bounce.is at holds)

pub returns-in-Bounce-clause-stands : goal.returns-in-Bounce-clause-stands
unfolding FilterStandsFor
returns-in-Bounce-clause-stands c = λ f given holds.
    let x : Timed = record { event = c.args.event; moment = c.args.now } in
    of_bounce given c.in-Bounce.bounce
    (λ (f : Filter). FilterStandsFor f (given_more f x given) (BounceState c.eats-in-Bounce.new.self))
    (λ code micros h. c.eats-in-Bounce.ensures.stands code micros given h) f
    (rw c.in-Bounce.is at holds)
