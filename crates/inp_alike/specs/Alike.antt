-- When two pasts of a device are alike: each later step is then answered alike, but for places and times. So
-- a tool that asks what may come of a device has to keep no more of it.
use Rattle.std.specs.Prelude.{◌≡◌, ℕ, ℤ, List, ◌++◌, map}
use Rattle.inp_model.specs.declared.event.Event.{Event}
use Rattle.inp_model.specs.declared.taken.Taken.{Taken}
use Rattle.inp_model.specs.declared.filter.Filter.{Filter}
use Rattle.inp_model.specs.declared.step.Step.{Step}
use Rattle.inp_model.specs.declared.reply.Reply.{Reply}
use Rattle.inp_model.specs.declared.reply.Reply.TheVariants.{Done, Opened, Took, Discarded, Bits, Axis, Cells, Again, Refused}
use Rattle.inp_model.specs.Description.{Description}
use Rattle.inp_model.specs.RawItem.{RawItem}
use Rattle.inp_model.specs.State.{key_down, turned_on, repeat_setting, axis_info, axis_value, staged, cell}
use Rattle.inp_model.specs.Passed.{announced}
use Rattle.inp_model.specs.Cut.{pending, at_frame}
use Rattle.inp_model.specs.Raw.{raw, timer}
use Rattle.inp_model.specs.Filter.{Timed, is_eaten}
use Rattle.inp_model.specs.Left.{given_in}
use Rattle.inp_model.specs.Past.{opens, is_open, is_revoked, holder, clock_of, mask_bit, is_inhibited, ends}
use Rattle.inp_model.specs.Queue.{event_of, queue}
use Rattle.inp_model.specs.Reply.{Answer, answer, past_after, is_full}

-- After these items the core has the same state, the same batch and the same slots.
pub record AreItemsAlike (d : Description) (r s : List RawItem) : Type 0 where
  pub keys : (key : ℕ) → key_down d r key ≡ key_down d s key
  pub codes : (kind code : ℕ) → turned_on d r kind code ≡ turned_on d s kind code
  pub settings : (code : ℕ) → repeat_setting d r code ≡ repeat_setting d s code
  pub infos : (code : ℕ) → axis_info d r code ≡ axis_info d s code
  pub values : (code : ℕ) → axis_value d r code ≡ axis_value d s code
  pub cells : (slot : ℤ) (code : ℕ) → cell d r slot code ≡ cell d s slot code
  pub slot : staged d r ≡ staged d s
  pub told_slot : announced d r ≡ announced d s
  pub frame_slot : at_frame d r ≡ at_frame d s
  pub batch : pending d r ≡ pending d s

-- After these events the filters decide each later one alike, whatever else comes before it.
abbrev pub DecideAlike : List Filter → List Timed → List Timed → Type 0
DecideAlike fs given other =
    (later : List Timed) (x : Timed) → is_eaten fs x (later ++ given) ≡ is_eaten fs x (later ++ other)

-- All that a later step can tell of a past, but for places and times: state, batch, timer, holder, inhibition,
-- clients with their queues (their events alone), clocks, masks and revocations, filters, and how many sources
-- are done.
pub record AreAlike (d : Description) (past other : List Step) : Type 0 where
  pub items : AreItemsAlike d (raw d past) (raw d other)
  pub timers : timer d past ≡ timer d other
  pub opened : opens past ≡ opens other
  pub are_open : (client : ℕ) → is_open past client ≡ is_open other client
  pub are_revoked : (client : ℕ) → is_revoked past client ≡ is_revoked other client
  pub holders : holder past ≡ holder other
  pub clocks : (client : ℕ) → clock_of past client ≡ clock_of other client
  pub masks : (client kind index : ℕ) → mask_bit past client kind index ≡ mask_bit other client kind index
  pub inhibited : is_inhibited past ≡ is_inhibited other
  pub ended : ends past ≡ ends other
  pub queues : (client : ℕ) → map event_of (queue d past client) ≡ map event_of (queue d other client)
  pub filters : DecideAlike d.filters (given_in d past) (given_in d other)

-- a reply without its place
abbrev pub without_place : Reply → Reply
without_place (Done at) = Done 0
without_place (Opened at client places) = Opened 0 client places
without_place (Took at count) = Took 0 count
without_place (Discarded at count) = Discarded 0 count
without_place (Bits at words) = Bits 0 words
without_place (Axis at axis) = Axis 0 axis
without_place (Cells at count slot) = Cells 0 count slot
without_place (Again at n) = Again 0 n
without_place (Refused at why) = Refused 0 why

abbrev pub event_taken : Taken → Event
event_taken t = t.event

-- two answers that differ in places and times alone
pub record AreAnswersAlike (one other : Answer) : Type 0 where
  pub reply : without_place one.reply ≡ without_place other.reply
  pub events : map event_taken one.events ≡ map event_taken other.events
  pub cells : one.cells ≡ other.cells

-- Alike pasts answer each step alike, and are alike after it.
abbrev pub AreAnsweredAlike : Type 0
AreAnsweredAlike =
    (d : Description) (past other : List Step) (x : Step) → AreAlike d past other → is_full d past ≡
    is_full d other
    → AreAnswersAlike (answer d past x) (answer d other x)
    × AreAlike d (past_after (answer d past x).reply x past) (past_after (answer d other x).reply x other)
