use Rattle.inp_reader.proofs.SynthesisedViews.{next-kept}
use Rattle.inp_joy.proofs.ReaderCalls.{calls-next}
use Rattle.inp_joy.proofs.joy_state.JoyState.next.Goals as goal

-- the reader's calls are put behind those made before
pub returns-clause-calls : goal.returns-clause-calls
returns-clause-calls g c =
    calls-next _ _ c.args.self.now.made c.add_all.new.self c.args.mode c.args.self.now.reader
    c.next-next.new.self c.next-next.result c.next-next.ensures.says c.next-next.ensures.reader
    c.next-next.ensures.left
    (rw (c.add_all.ensures.added, c.made.ensures.made)) c.next-next.ensures.stands c.next-next.ensures.shows

-- the reader keeps its description and a view of the right lengths, and the rest stays
pub returns-clause-state : goal.returns-clause-state
returns-clause-state g c = record {
  description = c.next-next.ensures.reader;
  buttons = c.requires.state.buttons;
  axes = c.requires.state.axes;
  handed = c.requires.state.handed;
  view =
      next-kept c.args.self.now.reader.description c.args.mode c.args.self.now.reader.reading _ _ _ _
      (c.next-next.result, c.next-next.new.self.reading) c.requires.description c.requires.state.view
      c.next-next.ensures.says;
}
