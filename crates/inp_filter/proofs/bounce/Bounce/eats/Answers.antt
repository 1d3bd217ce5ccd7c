-- The hold goes on by the moment of the last release, and that moment by the releases that are not eaten.
use Rattle.std.proofs.Common.{ℕ, Option, sym, ap, ◌∙◌}
use Rattle.inp_model.specs.Filter.{is_soon, is_bounced, is_in_hold}
use Rattle.inp_filter.proofs.StandsAfterEvents.{last_release-on, last_release-other}
use Rattle.inp_filter.proofs.bounce.Bounce.eats.Goals as goal

pub returns-then-counts-clause-stands : goal.returns-then-counts-clause-stands
returns-then-counts-clause-stands c = λ code micros given h.
    let starts =
    c.is_soon-starts_eaten.ensures ∙ ap (λ (t : ℕ). is_soon t c.args.self.now.released c.args.now) h.micros_is
    ∙ ap (λ (r : Option ℕ). is_soon micros r c.args.now) h.released in
    let eaten =
    is_in_hold code (is_bounced code micros) (record { event = c.args.event; moment = c.args.now }) given in
    let stands =
    c.eats-is_eaten.ensures.stands code (is_bounced code micros) c.args.now eaten given h.hold starts in
    let counts =
    rw (
      c.counts.ensures,
      c.eats-is_eaten.ensures.eats code (is_bounced code micros) c.args.now given h.hold starts,
      stands.code_is,
    ) at c.if-counts.true in
    record { micros_is = h.micros_is; released = sym (last_release-on code _ given counts); hold = stands }

pub returns-else-counts-clause-stands : goal.returns-else-counts-clause-stands
returns-else-counts-clause-stands c = λ code micros given h.
    let starts =
    c.is_soon-starts_eaten.ensures ∙ ap (λ (t : ℕ). is_soon t c.args.self.now.released c.args.now) h.micros_is
    ∙ ap (λ (r : Option ℕ). is_soon micros r c.args.now) h.released in
    let eaten =
    is_in_hold code (is_bounced code micros) (record { event = c.args.event; moment = c.args.now }) given in
    let stands =
    c.eats-is_eaten.ensures.stands code (is_bounced code micros) c.args.now eaten given h.hold starts in
    let counts =
    rw (
      c.counts.ensures,
      c.eats-is_eaten.ensures.eats code (is_bounced code micros) c.args.now given h.hold starts,
      stands.code_is,
    ) at c.if-counts.false in
    record {
      micros_is = h.micros_is;
      released = h.released
          ∙ sym (last_release-other code _ given counts);
      hold = stands;
    }
