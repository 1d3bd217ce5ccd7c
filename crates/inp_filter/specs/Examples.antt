-- What filters leave of short frames, worked out by hand.
use Rattle.std.specs.Prelude.{◌≡◌, ℕ, ℤ, pos, List, [], ◌∷◌}
use Rattle.inp_model.specs.declared.event.TheConstants.{EV_SYN, EV_KEY, EV_REL, SYN_REPORT, SYN_CONFIG, KEY_A}
use Rattle.inp_model.specs.declared.event.Event.{Event}
use Rattle.inp_model.specs.declared.filter.Filter.{Filter}
use Rattle.inp_model.specs.declared.filter.Filter.TheVariants.{Eat, Norepeat, Chord, Bounce}
use Rattle.inp_model.specs.Filter.{Timed, given_after}
use Rattle.inp_filter.specs.Row.{let_through}

-- a frame, by its moment and its events
pub record At : Type 0 where
  pub moment : ℕ
  pub events : List Event

-- what is left of frames, one after another, after what the first filter was given before
unfoldable pub left_of_frames : List Filter → List Timed → List At → List (List Event)
left_of_frames fs before [] = []
left_of_frames fs before (f ∷ frames) =
    let_through fs f.moment before f.events ∷ left_of_frames fs (given_after f.moment before f.events) frames

-- of these frames this is left
abbrev pub Leave : List Filter → List At → List (List Event) → Type 0
Leave fs frames given = left_of_frames fs [] frames ≡ given

abbrev pub A : ℤ → Event
A value = record { kind = EV_KEY; code = KEY_A; value = value }

-- the code of the key B
abbrev pub KEY_B : ℕ
KEY_B = 48

abbrev pub B : ℤ → Event
B value = record { kind = EV_KEY; code = KEY_B; value = value }

abbrev pub R : Event
R = record { kind = EV_SYN; code = SYN_REPORT; value = pos 0 }

-- the relative axis X
abbrev pub X : ℤ → Event
X value = record { kind = EV_REL; code = 0; value = value }

abbrev pub config : Event
config = record { kind = EV_SYN; code = SYN_CONFIG; value = pos 0 }

-- a frame of one event and its report
abbrev pub one : ℕ → Event → At
one moment e = record { moment = moment; events = e ∷ R ∷ [] }

-- all of such a frame is left
abbrev pub whole : Event → List Event
whole e = e ∷ R ∷ []

-- the report alone is left
abbrev pub alone : List Event
alone = R ∷ []

-- with no filter all is left
abbrev pub LeavesAll : Type 0
LeavesAll = Leave [] (one 0 (A (pos 1)) ∷ one 1 (A (pos 2)) ∷ []) (whole (A (pos 1)) ∷ whole (A (pos 2)) ∷ [])

-- every event of the type and code is eaten, and no other; the events of EV_SYN stay
abbrev pub EatsACode : Type 0
EatsACode =
    Leave (Eat EV_KEY KEY_A ∷ [])
    (record { moment = 0; events = A (pos 1) ∷ config ∷ X (pos 3) ∷ A (pos 0) ∷ B (pos 1) ∷ R ∷ [] } ∷ [])
    ((config ∷ X (pos 3) ∷ B (pos 1) ∷ R ∷ []) ∷ [])

-- a filter on EV_SYN would eat nothing
abbrev pub EatsNoReport : Type 0
EatsNoReport = Leave (Eat EV_SYN SYN_REPORT ∷ []) (one 0 (A (pos 1)) ∷ []) (whole (A (pos 1)) ∷ [])

-- the autorepeats of all keys are eaten, and neither presses nor releases, nor the 2 of another type
abbrev pub EatsRepeats : Type 0
EatsRepeats =
    Leave (Norepeat ∷ [])
    (one 0 (A (pos 1)) ∷ one 1 (A (pos 2)) ∷ one 2 (B (pos 2)) ∷ one 3 (X (pos 2)) ∷ one 4 (A (pos 0)) ∷ [])
    (whole (A (pos 1)) ∷ alone ∷ alone ∷ whole (X (pos 2)) ∷ whole (A (pos 0)) ∷ [])

-- a hold of B that starts while A is down is eaten whole, and A is not
abbrev pub EatsTheSecondKey : Type 0
EatsTheSecondKey =
    Leave (Chord KEY_A KEY_B ∷ [])
    (one 2 (A (pos 1)) ∷ one 4 (B (pos 1)) ∷ one 6 (B (pos 0)) ∷ one 8 (A (pos 0)) ∷ [])
    (whole (A (pos 1)) ∷ alone ∷ alone ∷ whole (A (pos 0)) ∷ [])

-- What decides is whether A is down at the press of B. The repeats and the release of an eaten hold are eaten after A
-- went up, and those of another are left while A is down.
abbrev pub DecidesAtThePress : Type 0
DecidesAtThePress =
    Leave (Chord KEY_A KEY_B ∷ [])
    (one 0 (A (pos 1)) ∷ one 1 (B (pos 1)) ∷ one 2 (A (pos 0)) ∷ one 3 (B (pos 2)) ∷ one 4 (B (pos 0))
    ∷ one 5 (B (pos 1)) ∷ one 6 (A (pos 1)) ∷ one 7 (B (pos 2)) ∷ one 8 (B (pos 0)) ∷ [])
    (whole (A (pos 1)) ∷ alone ∷ whole (A (pos 0)) ∷ alone ∷ alone
    ∷ whole (B (pos 1)) ∷ whole (A (pos 1)) ∷ whole (B (pos 2)) ∷ whole (B (pos 0)) ∷ [])

-- A press of B that comes while B is down decides anew, and what follows goes by it.
abbrev pub DecidesAnew : Type 0
DecidesAnew =
    Leave (Chord KEY_A KEY_B ∷ [])
    (one 0 (B (pos 1)) ∷ one 1 (A (pos 1)) ∷ one 2 (B (pos 1)) ∷ one 3 (B (pos 2)) ∷ one 4 (A (pos 0))
    ∷ one 5 (B (pos 1)) ∷ one 6 (B (pos 0)) ∷ [])
    (whole (B (pos 1)) ∷ whole (A (pos 1)) ∷ alone ∷ alone ∷ whole (A (pos 0))
    ∷ whole (B (pos 1)) ∷ whole (B (pos 0)) ∷ [])

-- A release or a repeat of B whose press is not there is left, also while A is down. A repeat of A alone does not say
-- that A is down.
abbrev pub NeedsAPress : Type 0
NeedsAPress =
    Leave (Chord KEY_A KEY_B ∷ [])
    (one 0 (A (pos 2)) ∷ one 1 (B (pos 1)) ∷ one 2 (B (pos 0)) ∷ one 3 (A (pos 1)) ∷ one 4 (B (pos 2))
    ∷ one 5 (B (pos 0)) ∷ one 6 (B (pos 1)) ∷ one 7 (B (pos 0)) ∷ one 8 (B (pos 0)) ∷ [])
    (whole (A (pos 2)) ∷ whole (B (pos 1)) ∷ whole (B (pos 0)) ∷ whole (A (pos 1)) ∷ whole (B (pos 2))
    ∷ whole (B (pos 0)) ∷ alone ∷ alone ∷ whole (B (pos 0)) ∷ [])

-- A hold that starts too soon after a release is eaten whole, and its own release does not count for the next one.
abbrev pub EatsABounce : Type 0
EatsABounce =
    Leave (Bounce KEY_A 5000 ∷ [])
    (one 0 (A (pos 1)) ∷ one 10000 (A (pos 0)) ∷ one 12000 (A (pos 1)) ∷ one 13000 (A (pos 0)) ∷ one 16000 (A (pos 1)) ∷ [])
    (whole (A (pos 1)) ∷ whole (A (pos 0)) ∷ alone ∷ alone ∷ whole (A (pos 1)) ∷ [])

-- The first press is left, also one after a repeat alone. A press in the time is eaten up to its last
-- microsecond, and one at its end is left. So is one at an earlier moment than the release.
abbrev pub EatsInTime : Type 0
EatsInTime =
    Leave (Bounce KEY_A 5000 ∷ [])
    (one 0 (A (pos 2)) ∷ one 0 (A (pos 1)) ∷ one 0 (A (pos 0)) ∷ one 0 (A (pos 1)) ∷ one 1 (A (pos 0))
    ∷ one 4999 (A (pos 1)) ∷ one 4999 (A (pos 2)) ∷ one 9000 (A (pos 0)) ∷ one 5000 (A (pos 1)) ∷ one 6000 (A (pos 0))
    ∷ one 5999 (A (pos 1)) ∷ one 6001 (A (pos 0)) ∷ [])
    (whole (A (pos 2)) ∷ whole (A (pos 1)) ∷ whole (A (pos 0)) ∷ alone ∷ alone
    ∷ alone ∷ alone ∷ alone ∷ whole (A (pos 1)) ∷ whole (A (pos 0))
    ∷ whole (A (pos 1)) ∷ whole (A (pos 0)) ∷ [])

-- A press that comes while the key is down decides anew, by the same release; a release without a press is left, and
-- counts.
abbrev pub BouncesAnew : Type 0
BouncesAnew =
    Leave (Bounce KEY_A 5000 ∷ [])
    (one 0 (A (pos 0)) ∷ one 1 (A (pos 1)) ∷ one 4999 (A (pos 1)) ∷ one 5000 (A (pos 1)) ∷ one 5001 (A (pos 2))
    ∷ one 5002 (A (pos 0)) ∷ one 10001 (A (pos 1)) ∷ one 10002 (B (pos 1)) ∷ one 10003 (A (pos 0)) ∷ [])
    (whole (A (pos 0)) ∷ alone ∷ alone ∷ whole (A (pos 1)) ∷ whole (A (pos 2))
    ∷ whole (A (pos 0)) ∷ alone ∷ whole (B (pos 1)) ∷ alone ∷ [])

-- in one frame, at one moment: a key that goes up and down again is left up
abbrev pub EatsWithinAFrame : Type 0
EatsWithinAFrame =
    Leave (Bounce KEY_A 1000 ∷ [])
    (record { moment = 7; events = A (pos 1) ∷ A (pos 0) ∷ A (pos 1) ∷ R ∷ [] } ∷ [])
    ((A (pos 1) ∷ A (pos 0) ∷ R ∷ []) ∷ [])

-- The second of two filters does not see what the first one ate: after it A is never down.
abbrev pub GivesWhatIsLeft : Type 0
GivesWhatIsLeft =
    Leave (Eat EV_KEY KEY_A ∷ Chord KEY_A KEY_B ∷ [])
    (one 0 (A (pos 1)) ∷ one 1 (B (pos 1)) ∷ one 2 (B (pos 0)) ∷ one 3 (A (pos 0)) ∷ [])
    (alone ∷ whole (B (pos 1)) ∷ whole (B (pos 0)) ∷ alone ∷ [])

-- the same two in the other order, which leave the reports alone
abbrev pub GivesInOrder : Type 0
GivesInOrder =
    Leave (Chord KEY_A KEY_B ∷ Eat EV_KEY KEY_A ∷ [])
    (one 0 (A (pos 1)) ∷ one 1 (B (pos 1)) ∷ one 2 (B (pos 0)) ∷ one 3 (A (pos 0)) ∷ [])
    (alone ∷ alone ∷ alone ∷ alone ∷ [])

-- A chord after a bounce: the bounced press of A is not there for it, so B is left then.
abbrev pub ChordsBehindABounce : Type 0
ChordsBehindABounce =
    Leave (Bounce KEY_A 5000 ∷ Chord KEY_A KEY_B ∷ [])
    (one 0 (A (pos 1)) ∷ one 10 (A (pos 0)) ∷ one 20 (A (pos 1)) ∷ one 30 (B (pos 1)) ∷ one 40 (B (pos 0))
    ∷ one 50 (A (pos 0)) ∷ one 5010 (A (pos 1)) ∷ one 5020 (B (pos 1)) ∷ [])
    (whole (A (pos 1)) ∷ whole (A (pos 0)) ∷ alone ∷ whole (B (pos 1)) ∷ whole (B (pos 0))
    ∷ alone ∷ whole (A (pos 1)) ∷ alone ∷ [])
