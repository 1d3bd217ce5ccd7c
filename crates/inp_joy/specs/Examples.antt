-- Short histories, worked out by hand: what a joystick client hands out on a one-thread device.
use Rattle.std.specs.Prelude.{ℕ, zero, suc, ◌≡◌, pos, true, false, List, [], ◌∷◌, ◌++◌, replicate, reverse, unwrap_or}
use Rattle.inp_model.specs.declared.event.TheConstants.{EV_KEY}
use Rattle.inp_model.specs.declared.event.Event.{Event}
use Rattle.inp_model.specs.declared.step.Step.{Step}
use Rattle.inp_model.specs.declared.step.Step.TheVariants.{Inject, Read, Discard, GetAxis}
use Rattle.inp_model.specs.declared.reply.Reply.TheVariants.{Took, Discarded, Axis}
use Rattle.inp_model.specs.Description.{Description, no_info}
use Rattle.inp_model.specs.examples.Frames.{report}
use Rattle.inp_reader.specs.declared.call_made.CallMade.{CallMade}
use Rattle.inp_reader.specs.Examples.{played, new_reading, slider, slides, axis}
use Rattle.inp_reader.specs.FollowsTalk.{calls_kept}
use Rattle.inp_joy.specs.declared.joy_read.JoyRead.{JoyRead}
use Rattle.inp_joy.specs.declared.joy_read.JoyRead.TheVariants.{Record, Frame, Again, More}
use Rattle.inp_joy.specs.Codes.{startup_len}
use Rattle.inp_joy.specs.Joy.{JoystickState, joy_start, turns, stop_with}
use Rattle.inp_joy.specs.Picture.{blank_picture, up_to_64}
use Rattle.inp_joy.specs.Reads.{bytes_after}

-- a joystick client on a one-thread device: its answers with the bytes that it handed out, and the calls that it made
pub record JoyStand : Type 0 where
  pub past : List Step
  pub joying : JoystickState
  pub answers : List (JoyRead × List ℕ)
  pub made : List CallMade

abbrev pub new_joying : Description → JoystickState
new_joying d = record { reading = new_reading d; handed = startup_len d; picture = blank_picture }

-- a new client starts after these steps
abbrev pub started_joy : Description → List Step → JoyStand
started_joy d steps =
    let p = played d (reverse steps) (joy_start d (new_joying d)) in
    record { past = p.past; joying = p.result.1; answers = []; made = calls_kept p.calls }

-- so many reads, of at most four turns each
abbrev pub after_reads : Description → List Step → JoystickState → ℕ → List (JoyRead × List ℕ) → List CallMade → JoyStand
after_reads d past j zero answers made = record { past = past; joying = j; answers = answers; made = made }
after_reads d past j (suc n) answers made =
    let p = played d past (turns d 4 0 j) in
    let answer = unwrap_or p.result (stop_with More j) in
    after_reads d p.past answer.joying n (answers ++ (answer.read, bytes_after answer.record_out []) ∷ []) (made ++ calls_kept p.calls)

-- a new client starts, these steps come, and it reads so often
abbrev pub after_joy : Description → List Step → ℕ → JoyStand
after_joy d steps reads =
    let s = started_joy d [] in after_reads d (reverse steps ++ s.past) s.joying reads [] []

-- a stick with a trigger and the axis X, from 0 to 100 and 5 at first
abbrev pub stick : Description
stick = record slider {
  kinds = true ∷ true ∷ false ∷ true ∷ replicate 60 false;
  keys = replicate 288 false ++ true ∷ replicate 479 false;
}

abbrev pub trigger : Event
trigger = record { kind = EV_KEY; code = 288; value = pos 1 }

-- A startup, a press of the trigger and a move of the axis past its range, two seconds and a half later. It
-- has what each read answers, and the bytes of each record.
abbrev pub TellsAPressAndAMove : Type 0
TellsAPressAndAMove =
    let steps = Inject trigger 0 ∷ Inject (axis 0 (pos 40000)) 0 ∷ Inject report 2500000 ∷ [] in
    let s = after_joy stick steps 6 in
    (s.answers ≡ (Record, 0 ∷ 0 ∷ 0 ∷ 0 ∷ 0 ∷ 0 ∷ 0x81 ∷ 0 ∷ [])
    ∷ (Record, 0 ∷ 0 ∷ 0 ∷ 0 ∷ 5 ∷ 0 ∷ 0x82 ∷ 0 ∷ [])
    ∷ (Record, 0xc4 ∷ 9 ∷ 0 ∷ 0 ∷ 1 ∷ 0 ∷ 1 ∷ 0 ∷ [])
    ∷ (Record, 0xc4 ∷ 9 ∷ 0 ∷ 0 ∷ 0xff ∷ 0x7f ∷ 2 ∷ 0 ∷ [])
    ∷ (Frame 5, []) ∷ (Again 7 0, []) ∷ [])
    × (s.made ≡ record { step = Read 0 64; reply = Took 6 3 } ∷ [])
    × (s.joying.picture ≡ record { buttons = up_to_64 false (true ∷ []); axes = up_to_64 (pos 0) (pos 32767 ∷ []) })

-- A client that lost events after its startup began: the rest of that startup first, then the read that meets the loss
-- synchronises, and another startup begins.
abbrev pub BeginsAnewAfterALoss : Type 0
BeginsAnewAfterALoss =
    let s = after_joy slider (slides 33 true) 3 in
    (s.answers ≡ (Record, 0 ∷ 0 ∷ 0 ∷ 0 ∷ 5 ∷ 0 ∷ 130 ∷ 0 ∷ [])
    ∷ (Record, 0 ∷ 0 ∷ 0 ∷ 0 ∷ 6 ∷ 0 ∷ 130 ∷ 0 ∷ []) ∷ (Again 71 0, []) ∷ [])
    × (s.made ≡ record { step = Read 0 64; reply = Took 68 4 } ∷ record { step = Discard 0; reply = Discarded 69 0 }
    ∷ record { step = GetAxis 0 0; reply = Axis 70 (record no_info { value = pos 6; maximum = pos 100 }) } ∷ [])
