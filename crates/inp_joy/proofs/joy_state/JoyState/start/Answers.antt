use Rattle.std.proofs.Common.{refl, List, [], ◌++◌, ◌∙◌, ap}
use Rattle.inp_reader.specs.declared.call_made.CallMade.{CallMade}
use Rattle.inp_reader.proofs.SynthesisedViews.{start-kept}
use Rattle.inp_joy.specs.declared.joy_state.JoyState.{JoyState}
use Rattle.inp_joy.specs.Joy.{with_reading}
use Rattle.inp_joy.specs.JoyState.{kept_joying}
use Rattle.inp_joy.proofs.Nexts.{start-left}
use Rattle.inp_joy.proofs.TurnCases.{says-started}
use Rattle.inp_joy.proofs.TurnEnds.{start-pictured}
use Rattle.inp_joy.proofs.joy_state.JoyState.start.Goals as goal

pub after_start-requires : goal.after_start-requires
after_start-requires g c = record {
  state = rw c.start-started.ensures.reader (record {
    description = refl;
    buttons = c.requires.state.buttons;
    axes = c.requires.state.axes;
    handed = c.requires.state.handed;
    view =
        start-kept c.args.self.now.reader.description c.args.self.now.reader.reading _ _ _ _
        (c.start-started.result, c.start-started.new.self.reading)
        c.requires.description c.requires.state.view c.start-started.ensures.says;
  });
}

-- the calls made are those of the reader's start alone, as the list was cleared before
pub returns-clause-says : goal.returns-clause-says
returns-clause-says g c =
    let d = c.args.self.now.reader.description in
    let j = kept_joying c.args.self.now in
    let k = with_reading j c.start-started.new.self.reading in
    let made =
    ap (λ (s : JoyState). s.made) c.after_start.ensures.rest ∙ c.add_all.ensures.added
    ∙ ap (λ (ms : List CallMade). ms ++ c.made.result.now) c.clear.ensures.none ∙ c.made.ensures.made in
    rw made
    (says-started _ _ [] _ d j k
    (kept_joying c.after_start.new.self) c.start-started.result c.start-started.new.self.reading
    c.start-started.ensures.says refl (rw c.start-started.ensures.reader at c.after_start.ensures.joying))

-- the reader keeps its description and a view of the right lengths, and the rest is as it was
pub returns-clause-state : goal.returns-clause-state
returns-clause-state g c =
    let d = c.args.self.now.reader.description in
    let kept =
    start-kept d c.args.self.now.reader.reading _ _ _ _
    (c.start-started.result, c.start-started.new.self.reading) c.requires.description c.requires.state.view
    c.start-started.ensures.says in
    rw c.after_start.ensures.rest (record {
      description = c.start-started.ensures.reader;
      buttons = c.requires.state.buttons;
      axes = c.requires.state.axes;
      handed = rw c.start-started.ensures.reader at c.after_start.ensures.handed;
      view = kept;
    })

pub returns-clause-pictured : goal.returns-clause-pictured
returns-clause-pictured g c =
    let d = c.args.self.now.reader.description in
    let r = c.start-started.new.self.reading in
    let says = c.start-started.ensures.says in
    start-pictured d (kept_joying c.args.self.now)
    (kept_joying c.after_start.new.self) r c.start-started.result
    (start-left d c.args.self.now.reader.reading says.calls (c.start-started.result, r) says.talk_ends)
    (rw c.start-started.ensures.reader at c.after_start.ensures.joying) c.requires.pictured
