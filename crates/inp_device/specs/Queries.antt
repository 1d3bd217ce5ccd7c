-- What a device answers with no step, from its description and its past.
use Rattle.std.specs.Prelude.{ℕ, ◌*◌, ◌≡◌, ◌⊎◌, if◌then◌else◌, nat_lt, List, filter, Option, Some, None}
use Rattle.inp_model.specs.declared.event.TheConstants.{EV_KEY, EV_SW, EV_LED, EV_SND, REP_DELAY, REP_PERIOD}
use Rattle.inp_model.specs.declared.step.Step.{Step}
use Rattle.inp_model.specs.Description.{Description}
use Rattle.inp_model.specs.Step.{is_same}
use Rattle.inp_model.specs.Past.{is_open, open_clients, is_revoked, holder, clock_of, mask_bit}
use Rattle.inp_model.specs.State.{repeat_setting}
use Rattle.inp_model.specs.Raw.{raw, timer}
use Rattle.inp_model.specs.Queue.{event_of, visible, queue}
use Rattle.inp_model.specs.Reply.{bitmap_word}
use Rattle.inp_device.specs.declared.client_state.ClientState.{ClientState}
use Rattle.inp_device.specs.declared.repeat.Repeat.{Repeat}

-- how many events an open client could read now (docs/RULES.md, "A client's queue")
abbrev pub visible_to : Description → List Step → ℕ → Option ℕ
visible_to d past client = if is_open past client then Some (visible event_of (queue d past client)) else None

-- the open clients that could read something now, ascending (docs/RULES.md, "A client's queue")
abbrev pub readable_clients : Description → List Step → List ℕ
readable_clients d past = filter (λ client. nat_lt 0 (visible event_of (queue d past client))) (open_clients past)

-- the clock of an open client, whether it was revoked, and whether it holds the grab (docs/RULES.md, "Clocks",
-- "Revocation" and "The grab")
abbrev pub state_of_client : List Step → ℕ → Option ClientState
state_of_client past client =
    if is_open past client
    then Some (record { clock = clock_of past client; revoked = is_revoked past client; grabs = is_same (holder past) client })
    else None

-- 64 bits of a mask of an open client, the first as the lowest bit (docs/RULES.md, "Masks")
abbrev pub mask_word_of : List Step → ℕ → ℕ → ℕ → Option ℕ
mask_word_of past client kind word =
    if is_open past client then Some (bitmap_word (mask_bit past client kind) (64 * word)) else None

-- the settings of the autorepeat, and its timer (docs/RULES.md, "Autorepeat")
abbrev pub repeat_after : Description → List Step → Repeat
repeat_after d past = record {
  delay = repeat_setting d (raw d past) REP_DELAY;
  period = repeat_setting d (raw d past) REP_PERIOD;
  timer = timer d past;
}

-- a type whose codes are on or off: keys, switches, LEDs or sounds
abbrev pub HasBits : ℕ → Type 0
HasBits kind = (kind ≡ EV_KEY) ⊎ (kind ≡ EV_SW) ⊎ (kind ≡ EV_LED) ⊎ (kind ≡ EV_SND)
