-- A line that hands out events goes by rounds: the calls of these rounds, one after another, are the calls of
-- the line.
use Rattle.std.proofs.Common.{◌≡◌, ℕ, suc, ◌+◌, List, [], ◌++◌, refl, arith, Bool, true, false, Option, Some}
use Rattle.inp_script.specs.Rounds.{IsAdvanced}
use Rattle.inp_script.specs.DoneLine.{HandsOut}
use Rattle.inp_script.proofs.Common.{Description, EvdevView, Call, Waiting, Job, Holds, Begins, AreCalls}
use Rattle.inp_script.proofs.Common.{finish, LeadsTo, EndsWith}
use Rattle.inp_model.proofs.Leaves.{AreCalls-append}
use Rattle.inp_reader.proofs.Talks.{LeadsTo-append, LeadsTo-and_then}
use Rattle.inp_script.specs.Client.{LineProgress, Turn, goes_on, ends_with, is_done, next_round, on_turn}
use Rattle.inp_script.specs.Client.{rounds}
use Rattle.inp_script.specs.Client.{hand_talk}
use Rattle.inp_script.proofs.TalkCalls.{holds-nothing, begins-first}

module _ (d : Description) (wait : Option Waiting) (skips : Bool) where
  -- so many rounds were made, and the line goes on from here
  pub record Passed (before now : EvdevView) (start here : LineProgress) : Type 0 where
    -- how many rounds were made
    pub count : ℕ
    -- the calls of those rounds
    pub calls : List Call
    -- a line with those rounds and n more comes by the calls to here, with n left
    pub leads : (n m : ℕ) → m ≡ count + n
        → LeadsTo (rounds d wait skips m start) calls (rounds d wait skips n here)
    -- the calls were made, one after another
    pub are_calls : AreCalls before now calls

  -- before the first round no call was made
  pub passed-none : (told : EvdevView) (start : LineProgress) → Passed told told start start
  unfolding LeadsTo AreCalls
  passed-none told start = record {
    count = 0;
    calls = [];
    leads = λ n m e. let same : m ≡ n = omega arith in rw same;
    are_calls = refl;
  }

  -- one round more, and what follows it
  one_round : (here : LineProgress) (turn : Turn) (n : ℕ) (calls : List Call)
      → EndsWith (next_round d wait skips here) calls turn
      → LeadsTo (rounds d wait skips (suc n) here) calls (on_turn (rounds d wait skips n) turn)
  unfolding rounds
  one_round here turn n calls h =
      LeadsTo-and_then (next_round d wait skips here) (finish turn) (on_turn (rounds d wait skips n)) calls h

  -- one call of a reader, in which it was asked once
  pub advanced-round : (before after : EvdevView) (here : LineProgress) (turn : Turn)
      → Holds before after (next_round d wait skips here) turn
      → IsAdvanced before after d wait skips here turn
  advanced-round before after here turn h = record {
    count = 1;
    calls = h.calls;
    leads = λ n m e.
        let same : m ≡ suc n = omega (arith, e) in rw same (one_round here turn n h.calls h.talk_ends);
    are_calls = h.are_calls;
  }

  -- the first calls of a round are those of so many rounds
  pub begun-round : (before after : EvdevView) (here : LineProgress)
      → Begins before after (next_round d wait skips here)
      → (n : ℕ) × Begins before after (rounds d wait skips n here)
  unfolding rounds
  begun-round before after here h = (1, begins-first before after _ _ h)

  -- the reader was asked or handed out a run: its rounds and calls follow those before
  pub passed-more : (before between after : EvdevView) (start here next : LineProgress)
      → Passed before between start here → IsAdvanced between after d wait skips here (goes_on next)
      → Passed before after start next
  passed-more before between after start here next s h = record {
    count = s.count + h.count;
    calls = s.calls ++ h.calls;
    leads = λ n m e.
        LeadsTo-append (rounds d wait skips m start) (rounds d wait skips (h.count + n) here)
        (rounds d wait skips n next) s.calls h.calls (s.leads (h.count + n) m (omega (arith, e)))
        (h.leads n (h.count + n) refl);
    are_calls = AreCalls-append before between after s.calls h.calls s.are_calls h.are_calls;
  }

  passed-last : (before between after : EvdevView) (start here : LineProgress) (j : Job)
      → (s : Passed before between start here)
      → (h : IsAdvanced between after d wait skips here (ends_with j))
      → Holds before after (rounds d wait skips (s.count + h.count) start) (Some j)
  passed-last before between after start here j s h = record {
    calls = s.calls ++ h.calls;
    talk_ends =
        LeadsTo-append (rounds d wait skips (s.count + h.count) start) (rounds d wait skips h.count here)
        (finish (Some j)) s.calls h.calls (s.leads h.count (s.count + h.count) refl)
        (h.leads 0 h.count (omega arith));
    are_calls = AreCalls-append before between after s.calls h.calls s.are_calls h.are_calls;
  }

  -- a line that has events to hand out goes by rounds, and one that has none makes no call

  -- a line with events to hand out goes by rounds, and the last of them ended it
  pub hands_out-last : (before between after : EvdevView) (left : Option ℕ) (old new : Job)
      (here : LineProgress)
      → is_done left ≡ false → Passed before between (record { job = old; left = left; agains = 0 }) here
      → IsAdvanced between after d wait skips here (ends_with new)
      → HandsOut before after d wait skips left old new
  hands_out-last before between after left old new here some s h = record {
    rounds = s.count + h.count;
    holds = rw some (passed-last before between after _ here new s h);
  }

  -- a line with nothing to hand out makes no call
  pub hands_out-none : (told : EvdevView) (left : Option ℕ) (j : Job) → is_done left ≡ true
      → HandsOut told told d wait skips left j j
  hands_out-none told left j h = record {
    rounds = 0;
    holds = holds-nothing told _ (Some j) (rw h);
  }

  -- so many rounds were made, and of the next ones the first calls
  pub hands_out-begun : (kept : Description) (before between after : EvdevView) (left : Option ℕ) (old : Job)
      (here : LineProgress) → kept ≡ d → is_done left ≡ false
      → Passed before between (record { job = old; left = left; agains = 0 }) here
      → (k : ℕ) × Begins between after (rounds kept wait skips k here)
      → (n : ℕ) × Begins before after (hand_talk d wait skips left n old)
  hands_out-begun kept before between after left old here same some s (k, h) =
      let start : LineProgress = record { job = old; left = left; agains = 0 } in
      let more : Begins between after (rounds d wait skips k here) = rw same at h in (
        s.count + k,
        rw some (record {
          calls = s.calls ++ more.calls;
          rest = more.rest;
          leads =
              LeadsTo-append (rounds d wait skips (s.count + k) start)
              (rounds d wait skips k here) more.rest s.calls more.calls
              (s.leads k (s.count + k) refl) more.leads;
          are_calls = AreCalls-append before between after s.calls more.calls s.are_calls more.are_calls;
        }),
      )
