-- Short histories, worked out by hand: what a reader asks and answers on a one-thread device.
use Rattle.std.specs.Prelude.{ℕ, zero, suc, ◌≡◌, ℤ, pos, negsuc, Bool, true, false, not, if◌then◌else◌, List, [], ◌∷◌, ◌++◌, replicate, reverse}
use Rattle.inp_model.specs.declared.event.TheConstants.{EV_ABS}
use Rattle.inp_model.specs.declared.multi_touch.TheConstants.{ABS_MT_POSITION_X, ABS_MT_TRACKING_ID}
use Rattle.inp_model.specs.declared.event.Event.{Event}
use Rattle.inp_model.specs.declared.step.Step.{Step}
use Rattle.inp_model.specs.declared.step.Step.TheVariants.{Inject, Open, Close, Read, Discard, GetKeys, GetAxis, Revoke}
use Rattle.inp_model.specs.declared.reply.Reply.TheVariants.{Opened, Took, Discarded, Axis, Refused as StepRefused}
use Rattle.inp_model.specs.declared.reply.Refusal.TheVariants.{LogFull}
use Rattle.inp_model.specs.Description.{Description, one_key, no_info}
use Rattle.inp_model.specs.Event.{syn_dropped}
use Rattle.inp_model.specs.Run.{Call}
use Rattle.inp_model.specs.examples.Frames.{report, at, stroke}
use Rattle.inp_recon.specs.View.{first_view}
use Rattle.inp_reader.specs.declared.mode.Mode.{Mode}
use Rattle.inp_reader.specs.declared.mode.Mode.TheVariants.{Normal, Sync as Synchronising}
use Rattle.inp_reader.specs.declared.phase.Phase.TheVariants.{Plain, Needed}
use Rattle.inp_reader.specs.declared.started.Started.{Started}
use Rattle.inp_reader.specs.declared.started.Started.TheVariants.{Refused}
use Rattle.inp_reader.specs.declared.next.Next.{Next}
use Rattle.inp_reader.specs.declared.next.Next.TheVariants.{Dropped, Sync, Again, Synced, NoDevice, Closed}
use Rattle.inp_reader.specs.declared.call_made.CallMade.{CallMade}
use Rattle.inp_reader.specs.Talk.{Talk, talk_with, calls_with}
use Rattle.inp_reader.specs.Reader.{ReaderState, start_talk, next_talk}
use Rattle.inp_reader.specs.FollowsTalk.{calls_kept}

-- a talk on a one-thread device: its calls, the past after them and its result
pub record Played (A : Type 0) : Type 0 where
  pub calls : List Call
  pub past : List Step
  pub result : A

abbrev pub played : {A : Type 0} → Description → List Step → Talk A → Played A
played d past talk =
    let after = talk_with d past talk in
    record { calls = calls_with d past talk; past = after.1; result = after.0 }

-- a reader on a one-thread device, with its last answers and the calls that it made
pub record Stand (A : Type 0) : Type 0 where
  pub past : List Step
  pub reading : ReaderState
  pub answers : List A
  pub made : List CallMade

abbrev pub new_reading : Description → ReaderState
new_reading d = record { client = 4294967295; queue = []; view = first_view d; phase = Plain; left = [] }

-- a new reader starts after these steps
abbrev pub after_start : Description → List Step → Stand Started
after_start d steps =
    let p = played d (reverse steps) (start_talk d (new_reading d)) in
    record { past = p.past; reading = p.result.1; answers = p.result.0 ∷ []; made = calls_kept p.calls }

-- `next` is called in these modes
abbrev pub after_nexts : Description → List Step → ReaderState → List Mode → List Next → List CallMade → Stand Next
after_nexts d past r [] answers made = record { past = past; reading = r; answers = answers; made = made }
after_nexts d past r (mode ∷ modes) answers made =
    let p = played d past (next_talk d mode r) in
    after_nexts d p.past p.result.1 modes (answers ++ p.result.0 ∷ []) (made ++ calls_kept p.calls)

-- a new reader starts after some steps, then these come, and `next` is called in these modes
abbrev pub after_all : Description → List Step → List Step → List Mode → Stand Next
after_all d before steps modes =
    let s = after_start d before in after_nexts d (reverse steps ++ s.past) s.reading modes [] []

abbrev pub inject : Event → Step
inject e = Inject e 0

abbrev pub axis : ℕ → ℤ → Event
axis code value = record { kind = EV_ABS; code = code; value = value }

-- the axis X, from 0 to 100 and 5 at first, in frames of at most eight events
abbrev pub slider : Description
slider = record one_key {
  kinds = true ∷ false ∷ false ∷ true ∷ replicate 60 false;
  keys = replicate 768 false;
  axes = true ∷ replicate 63 false;
  infos = record no_info { value = pos 5; maximum = pos 100 } ∷ replicate 63 no_info;
  hint = 8;
}

-- so many frames in which the slider goes up and down by turns
abbrev pub slides : ℕ → Bool → List Step
slides zero up = []
slides (suc n) up = inject (axis 0 (if up then pos 6 else pos 5)) ∷ inject report ∷ slides n (not up)

-- A reader that lost events synchronises: it removes what is left to read, asks for the axis and hands out the change.
abbrev pub SynchronisesAfterALoss : Type 0
SynchronisesAfterALoss =
    let s = after_all slider [] (slides 33 true) (Normal ∷ Synchronising ∷ Synchronising ∷ Synchronising ∷ Normal ∷ []) in
    (s.answers ≡ Dropped (at 65 0 syn_dropped) ∷ Sync (axis 0 (pos 6)) ∷ Sync report ∷ Synced ∷ Again 71 0 ∷ [])
    × (s.made ≡ record { step = Read 0 64; reply = Took 68 4 }
    ∷ record { step = Discard 0; reply = Discarded 69 0 }
    ∷ record { step = GetAxis 0 0; reply = Axis 70 (record no_info { value = pos 6; maximum = pos 100 }) } ∷ [])

-- One slot with the position X.
abbrev pub pad : Description
pad = record one_key {
  kinds = true ∷ false ∷ false ∷ true ∷ replicate 60 false;
  keys = replicate 768 false;
  axes = replicate 47 false ++ true ∷ replicate 5 false ++ true ∷ replicate 3 false ++ true ∷ replicate 6 false;
  slots = 1;
}

abbrev pub id : ℤ → Event
id = axis ABS_MT_TRACKING_ID

abbrev pub x : ℤ → Event
x = axis ABS_MT_POSITION_X

-- A contact ended and another came in its slot, unread: the end comes first, and nothing of what was queued.
abbrev pub EndsAContactFirst : Type 0
EndsAContactFirst =
    let s = after_start pad (inject (id (pos 5)) ∷ inject (x (pos 10)) ∷ inject report ∷ []) in
    let later = inject (id (negsuc 0)) ∷ inject report ∷ inject (x (pos 20)) ∷ inject (id (pos 9)) ∷ inject report ∷ [] in
    let forced = record s.reading { phase = Needed; left = [] } in
    let modes = Synchronising ∷ Synchronising ∷ Synchronising ∷ Synchronising ∷ Synchronising ∷ Synchronising ∷ Normal ∷ [] in
    (after_nexts pad (reverse later ++ s.past) forced modes [] []).answers
    ≡ Sync (id (negsuc 0)) ∷ Sync report ∷ Sync (x (pos 20)) ∷ Sync (id (pos 9)) ∷ Sync report ∷ Synced ∷ Again 12 0 ∷ []

-- a start that is refused in its first query
abbrev pub StartsInPart : Type 0
StartsInPart =
    let s = after_start (record one_key { log_limit = 1 }) [] in
    (s.answers ≡ Refused 1 LogFull ∷ [])
    × (s.made ≡ record { step = Open; reply = Opened 0 0 128 } ∷ record { step = GetKeys 0; reply = StepRefused 1 LogFull } ∷ [])
    × (s.reading ≡ record (new_reading one_key) { client = 0; phase = Needed })

-- in phase Plain nothing is to be synchronised
abbrev pub SyncsWithoutACall : Type 0
SyncsWithoutACall =
    let s = after_all one_key [] [] (Synchronising ∷ []) in
    (s.answers ≡ Synced ∷ []) × (s.made ≡ []) × (s.reading ≡ record (new_reading one_key) { client = 0 })

-- a client that was revoked, and then closed
abbrev pub StopsForGood : Type 0
StopsForGood =
    let s = after_all one_key (stroke (pos 1) 0) (Revoke 0 ∷ []) (Normal ∷ []) in
    let closed = after_nexts one_key (Close 0 ∷ s.past) s.reading (Normal ∷ []) [] [] in
    (s.answers ≡ NoDevice ∷ []) × (closed.answers ≡ Closed ∷ []) × (closed.reading ≡ (after_start one_key (stroke (pos 1) 0)).reading)
