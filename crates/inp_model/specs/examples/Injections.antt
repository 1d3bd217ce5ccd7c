-- Many events that one call injects, worked out by hand: five of them, at a limit of three steps.
use Rattle.std.specs.Prelude.{◌≡◌, ℕ, pos, List, [], ◌∷◌}
use Rattle.inp_model.specs.declared.stamped.Stamped.{Stamped}
use Rattle.inp_model.specs.declared.step.Step.TheVariants.{Inject, Open}
use Rattle.inp_model.specs.declared.reply.Reply.TheVariants.{Done, Refused}
use Rattle.inp_model.specs.declared.reply.Refusal.TheVariants.{LogFull}
use Rattle.inp_model.specs.Description.{Description, one_key}
use Rattle.inp_model.specs.examples.Frames.{key, report}
use Rattle.inp_model.specs.Reply.{alone}
use Rattle.inp_model.specs.Injection.{entered_count, history_with, calls_of}

abbrev pub three_steps : Description
three_steps = record one_key { log_limit = 3 }

abbrev pub press : ℕ → Stamped
press now = record { event = key (pos 1); now = now }

abbrev pub five : List Stamped
five = press 10 ∷ record { event = report; now = 11 } ∷ press 12 ∷ press 13 ∷ press 14 ∷ []

abbrev pub two : List Stamped
two = press 10 ∷ press 12 ∷ []

-- of five events three are entered on a new device, two after one step, and none at the limit; two have room
abbrev pub CountsToTheLimit : Type 0
CountsToTheLimit =
    (entered_count three_steps 0 five ≡ 3) × (entered_count three_steps 1 five ≡ 2)
    × (entered_count three_steps 3 five ≡ 0) × (entered_count three_steps 3 [] ≡ 0) × (entered_count three_steps 0 two ≡ 2)

-- they follow what is there, in order
abbrev pub EntersToTheLimit : Type 0
EntersToTheLimit =
    history_with (Open ∷ []) 2 five ≡ Open ∷ Inject (key (pos 1)) 10 ∷ Inject report 11 ∷ []

-- the fourth one is refused at the limit, and the fifth is no call
abbrev pub CallsToTheLimit : Type 0
CallsToTheLimit =
    (calls_of 3 0 five
    ≡ record { step = Inject (key (pos 1)) 10; answer = alone (Done 0) }
    ∷ record { step = Inject report 11; answer = alone (Done 1) }
    ∷ record { step = Inject (key (pos 1)) 12; answer = alone (Done 2) }
    ∷ record { step = Inject (key (pos 1)) 13; answer = alone (Refused 3 LogFull) } ∷ [])
    × (calls_of 3 3 five ≡ record { step = Inject (key (pos 1)) 10; answer = alone (Refused 3 LogFull) } ∷ [])
    × (calls_of 3 1 two
    ≡ record { step = Inject (key (pos 1)) 10; answer = alone (Done 1) }
    ∷ record { step = Inject (key (pos 1)) 12; answer = alone (Done 2) } ∷ [])
    × (calls_of 3 3 [] ≡ [])
