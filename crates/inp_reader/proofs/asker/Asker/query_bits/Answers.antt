use Rattle.std.proofs.Common.{sym, ◌∙◌, ◌++◌}
use Rattle.inp_model.specs.declared.event.TheConstants.{EV_KEY, EV_LED, EV_SW}
use Rattle.inp_model.specs.declared.step.Step.TheVariants.{GetKeys, GetLeds, GetSwitches}
use Rattle.inp_model.specs.Description.{has_kind}
use Rattle.inp_reader.specs.Reader.{only_if}
use Rattle.inp_reader.proofs.TalksInTurn.{says-stop-if, says-go-on, says-only_if}
use Rattle.inp_reader.proofs.asker.Asker.query_bits.Goals as goal

-- stopped at the keys, it does not ask for LEDs and switches
pub returns-then-is_some-clause-says : goal.returns-then-is_some-clause-says
returns-then-is_some-clause-says g c =
    let d = c.args.caps.now in
    let keys = only_if (has_kind d EV_KEY) (GetKeys c.args.client) in
    let leds = only_if (has_kind d EV_LED) (GetLeds c.args.client) in
    let switches = only_if (has_kind d EV_SW) (GetSwitches c.args.client) in
    let view = c.args.self.now.view in
    let stopped = sym c.is_some.ensures ∙ c.if-is_some.true in
    let asked =
    says-only_if _ _ (GetKeys c.args.client) view _ c.has_kind-has_keys.ensures.kind
    c.query_if-stop.ensures.says in
    says-stop-if (keys ++ leds) switches view c.query_if-stop.new.self.view c.query_if-stop.result stopped
    (says-stop-if keys leds view c.query_if-stop.new.self.view c.query_if-stop.result stopped asked)

-- stopped at the LEDs, it does not ask for the switches
pub returns-then-is_some-2-clause-says : goal.returns-then-is_some-2-clause-says
returns-then-is_some-2-clause-says g c =
    let d = c.args.caps.now in
    let keys = only_if (has_kind d EV_KEY) (GetKeys c.args.client) in
    let leds = only_if (has_kind d EV_LED) (GetLeds c.args.client) in
    let switches = only_if (has_kind d EV_SW) (GetSwitches c.args.client) in
    let view = c.args.self.now.view in
    let first =
    says-only_if _ _ (GetKeys c.args.client) view _ c.has_kind-has_keys.ensures.kind
    c.query_if-stop.ensures.says in
    let second =
    says-only_if _ _ (GetLeds c.args.client) c.query_if-stop.new.self.view _ c.has_kind-has_leds.ensures.kind
    c.query_if-stop-2.ensures.says in
    says-stop-if (keys ++ leds) switches view c.query_if-stop-2.new.self.view c.query_if-stop-2.result
    (sym c.is_some-2.ensures ∙ c.if-is_some-2.true)
    (says-go-on keys leds view c.query_if-stop.new.self.view c.query_if-stop.result _ (sym c.is_some.ensures
    ∙ c.if-is_some.false) first second)

-- keys, LEDs and switches in order, each where the device has the type
pub returns-clause-says : goal.returns-clause-says
returns-clause-says g c =
    let d = c.args.caps.now in
    let keys = only_if (has_kind d EV_KEY) (GetKeys c.args.client) in
    let leds = only_if (has_kind d EV_LED) (GetLeds c.args.client) in
    let switches = only_if (has_kind d EV_SW) (GetSwitches c.args.client) in
    let view = c.args.self.now.view in
    let first =
    says-only_if _ _ (GetKeys c.args.client) view _ c.has_kind-has_keys.ensures.kind
    c.query_if-stop.ensures.says in
    let second =
    says-only_if _ _ (GetLeds c.args.client) c.query_if-stop.new.self.view _ c.has_kind-has_leds.ensures.kind
    c.query_if-stop-2.ensures.says in
    let third =
    says-only_if _ _ (GetSwitches c.args.client) c.query_if-stop-2.new.self.view _
    c.has_kind-has_switches.ensures.kind c.query_if.ensures.says in
    says-go-on (keys ++ leds) switches view c.query_if-stop-2.new.self.view c.query_if-stop-2.result _
    (sym c.is_some-2.ensures ∙ c.if-is_some-2.false)
    (says-go-on keys leds view c.query_if-stop.new.self.view c.query_if-stop.result _ (sym c.is_some.ensures
    ∙ c.if-is_some.false) first second)
    third
