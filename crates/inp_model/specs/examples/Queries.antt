-- Short histories worked out by hand: what queries answer, and what they leave to read.
use Rattle.std.specs.Prelude.{◌^◌, ◌≡◌, pos, true, false, List, [], ◌∷◌, ◌++◌, replicate, reverse}
use Rattle.inp_model.specs.declared.event.TheConstants.{EV_KEY, EV_ABS}
use Rattle.inp_model.specs.declared.event.Event.{Event}
use Rattle.inp_model.specs.declared.step.Step.{Step}
use Rattle.inp_model.specs.declared.step.Step.TheVariants.{Inject, Open, Read, GetKeys, GetAxis}
use Rattle.inp_model.specs.declared.reply.Reply.TheVariants.{Bits, Axis, Again, Refused}
use Rattle.inp_model.specs.declared.reply.Refusal.TheVariants.{BadKind, BadCode, LogFull}
use Rattle.inp_model.specs.Description.{Description, one_key, no_info}
use Rattle.inp_model.specs.Reply.{Answer, answer, alone}
use Rattle.inp_model.specs.examples.Frames.{key, report, at, took, panel}

-- the keys A and B and the axis X, without fuzz
abbrev pub desk : Description
desk = record panel {
  keys = replicate 30 false ++ true ∷ replicate 17 false ++ true ∷ replicate 719 false;
  infos = replicate 64 no_info;
}

abbrev pub key_b : Event
key_b = record { kind = EV_KEY; code = 48; value = pos 1 }

abbrev pub move : Event
move = record { kind = EV_ABS; code = 0; value = pos 5 }

abbrev pub inject : Event → Step
inject e = Inject e 0

-- A 1, R; X 5, B 1, R; A 0, R; and the first of these events was read
abbrev pub typed : List Step
typed =
    Open ∷ inject (key (pos 1)) ∷ inject report ∷ inject move ∷ inject key_b ∷ inject report
    ∷ inject (key (pos 0)) ∷ inject report ∷ Read 0 1 ∷ []

abbrev pub GivesOn : Description → List Step → Step → Answer → Type 0
GivesOn d steps x given = answer d (reverse steps) x ≡ given

-- the key B alone is down
abbrev pub TellsTheKeys : Type 0
TellsTheKeys = GivesOn desk typed (GetKeys 0) (alone (Bits 9 (2 ^ 48 ∷ replicate 11 0)))

-- The queued key events are gone, and the report of the frame that had no other event; the first report stays.
abbrev pub RemovesQueuedKeys : Type 0
RemovesQueuedKeys =
    GivesOn desk (typed ++ GetKeys 0 ∷ []) (Read 0 16) (took 10 3 (at 2 0 report ∷ at 5 0 move ∷ at 5 0 report ∷ []))

-- an axis query removes nothing
abbrev pub LeavesAxisEvents : Type 0
LeavesAxisEvents =
    GivesOn desk typed (GetAxis 0 0) (alone (Axis 9 (record no_info { value = pos 5 })))
    × GivesOn desk (typed ++ GetAxis 0 0 ∷ GetKeys 0 ∷ []) (Read 0 16) (took 11 3 (at 2 0 report ∷ at 5 0 move ∷ at 5 0 report ∷ []))

-- an axis that the device lacks is all 0; one that no device has is refused, and so is any without axes
abbrev pub AnswersOtherAxes : Type 0
AnswersOtherAxes =
    GivesOn desk typed (GetAxis 0 1) (alone (Axis 9 no_info))
    × GivesOn desk typed (GetAxis 0 64) (alone (Refused 9 BadCode))
    × GivesOn one_key (Open ∷ []) (GetAxis 0 64) (alone (Refused 1 BadKind))

-- a history of one step: what finds nothing to read comes before the limit
abbrev pub EndsAtItsLimit : Type 0
EndsAtItsLimit =
    GivesOn (record one_key { log_limit = 1 }) (Open ∷ []) (inject report) (alone (Refused 1 LogFull))
    × GivesOn (record one_key { log_limit = 1 }) (Open ∷ []) (Read 0 1) (alone (Again 1 0))
