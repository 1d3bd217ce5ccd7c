-- What a reader did in one call, and then in another.
use Rattle.std.proofs.Common.{◌≡◌, List, [], ◌++◌, refl, sym, ◌∙◌, append_assoc, append-nil}
use Rattle.inp_model.specs.Description.{Description}
use Rattle.inp_model.specs.Evdev.{EvdevView}
use Rattle.inp_reader.specs.declared.call_made.CallMade.{CallMade}
use Rattle.inp_reader.specs.declared.mode.Mode.{Mode}
use Rattle.inp_reader.specs.declared.next.Next.{Next}
use Rattle.inp_reader.specs.LeftEvdev.{LeavesMade}
use Rattle.inp_reader.specs.Reader.{ReaderState, ReaderView, next_talk}
use Rattle.inp_reader.specs.FollowsTalk.{FollowsTalk}
use Rattle.inp_reader.specs.TrueView.{AnswerShows}
use Rattle.inp_reader.specs.ReaderPlace.{Stands, IsAlone}
use Rattle.inp_reader.proofs.Calls.{alone-first, alone-then, leaves_made-none, leaves_made-then}
use Rattle.inp_reader.proofs.StandsByCalls.{client-next}
use Rattle.inp_joy.specs.JoyState.{ReaderCalls}

-- one `next`
pub calls-next : (before after : EvdevView) (old new : List CallMade) (mode : Mode) (r s : ReaderView)
    (next : Next) → FollowsTalk before after [] s.made (next_talk r.description mode r.reading)
    (next, s.reading) → s.description ≡ r.description → LeavesMade before after s.made → new ≡ old ++ s.made
    → (Stands before r → IsAlone before after s.reading.client s.made → Stands after s)
    → (Stands before r → IsAlone before after s.reading.client s.made → AnswerShows after s next)
    → ReaderCalls before after old new r.description r.reading s.reading (AnswerShows after s next)
calls-next before after old new mode r s next says same left kept stands shows = record {
  more = s.made;
  kept = kept;
  left = left;
  client = client-next r.description mode r.reading says.calls (next, s.reading) says.talk_ends;
  stands = λ stood alone. rw same at (stands stood alone);
  shows = shows;
}

-- nothing
pub calls-none : (told : EvdevView) (made : List CallMade) (d : Description) (r : ReaderState)
    (Shown : Type 0) → Shown → ReaderCalls told told made made d r r Shown
calls-none told made d r Shown shown = record {
  more = [];
  kept = sym (append-nil made);
  left = leaves_made-none told;
  client = refl;
  stands = λ stood alone. stood;
  shows = λ stood alone. shown;
}

-- one call, and then another
pub calls-then : (before between after : EvdevView) (old mid new : List CallMade) (d : Description)
    (r s t : ReaderState) (Shown First : Type 0) → ReaderCalls before between old mid d r s First
    → ReaderCalls between after mid new d s t Shown → ReaderCalls before after old new d r t Shown
calls-then before between after old mid new d r s t Shown First g h = record {
  more = g.more ++ h.more;
  kept = rw (h.kept, g.kept) (append_assoc old g.more h.more);
  left = leaves_made-then before between after g.more h.more g.left h.left;
  client = h.client ∙ g.client;
  stands = λ stood alone.
      h.stands (g.stands stood (first alone))
      (alone-then before between after t.client g.more h.more g.left alone);
  shows = λ stood alone.
      h.shows (g.stands stood (first alone))
      (alone-then before between after t.client g.more h.more g.left alone);
}
  where
    first : IsAlone before after t.client (g.more ++ h.more) → IsAlone before between s.client g.more
    first alone = rw h.client at (alone-first before between after t.client g.more h.more h.left alone)

-- what is shown says something else too
pub calls-weaker : (before after : EvdevView) (old new : List CallMade) (d : Description) (r s : ReaderState)
    (Shown Other : Type 0) → (Shown → Other) → ReaderCalls before after old new d r s Shown
    → ReaderCalls before after old new d r s Other
calls-weaker before after old new d r s Shown Other other g = record {
  more = g.more;
  kept = g.kept;
  left = g.left;
  client = g.client;
  stands = g.stands;
  shows = λ stood alone. other (g.shows stood alone);
}
