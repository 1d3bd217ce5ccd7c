-- The calls of a joystick's line that reads are those of its reads, one after another, and of its records,
-- one after another.
use Rattle.std.proofs.Common.{◌≡◌, ℕ, suc, ◌+◌, ◌-◌, ◌<◌, ◌≤◌, List, [], ◌++◌, map, refl, append-nil, arith}
use Rattle.std.proofs.Common.{Option, Some, None}
use Rattle.inp_script.proofs.Common.{Description, EvdevView, JoyRead, JoyRecord, CallMade, Notes, Sight, Stop}
use Rattle.inp_script.proofs.Common.{Holds, Begins, Job, joy_job, made_sight, noted, AreCalls, JoystickState}
use Rattle.inp_script.proofs.Common.{JoyAnswer, turns, Talk, finish, and_then, LeadsTo, EndsWith, Reach}
use Rattle.inp_script.proofs.Common.{handed_out, line_ends, record_sight, after_joy_read, after_turns}
use Rattle.inp_script.proofs.Common.{read_on, on_reach, read_records}
use Rattle.inp_model.proofs.Leaves.{AreCalls-append, description-kept}
use Rattle.inp_script.proofs.TalkCalls.{holds-begins, begins-first}
use Rattle.inp_joy.specs.declared.joy_read.JoyRead.TheVariants.{Record as HandedOut, Frame, More}
use Rattle.inp_joy.specs.Reads.{IsJoyRead, IsReadLess, bytes_after}
use Rattle.inp_joy.proofs.MoreTurns.{turns-longer}
use Rattle.inp_joy.proofs.Records.{HandsOutAsSaid, turns-said}
use Rattle.inp_reader.proofs.Talks.{LeadsTo-append, LeadsTo-and_then}
use Rattle.inp_script.specs.declared.role.joystick.AfterRead.{AfterRead}
use Rattle.inp_script.specs.declared.role.joystick.AfterRead.TheVariants.{Hands, GoesOn, Ends}
use Rattle.inp_script.specs.JoyProgress.{Leads, after_bytes, then_reads, HasRead, BeginsRead, LeavesLess}
use Rattle.inp_script.specs.JoyProgress.{ReadsOn, BeginsReading, ReadsRecords}
use Rattle.inp_script.proofs.Noted.{noted-ends}

-- The first calls of a talk, one part after another

pub leads-none : {A : Type 0} (told : EvdevView) (talk left : Talk A) → talk ≡ left
    → Leads told told talk left
unfolding LeadsTo AreCalls
leads-none told talk left same = record { calls = []; leads = same; are_calls = refl }

leads-then : {A : Type 0} (before between after : EvdevView) (talk mid left : Talk A)
    → Leads before between talk mid → Leads between after mid left → Leads before after talk left
leads-then before between after talk mid left s t = record {
  calls = s.calls ++ t.calls;
  leads = LeadsTo-append talk mid left s.calls t.calls s.leads t.leads;
  are_calls = AreCalls-append before between after s.calls t.calls s.are_calls t.are_calls;
}

leads-begins : {A : Type 0} (before between after : EvdevView) (talk mid : Talk A)
    → Leads before between talk mid → Begins between after mid → Begins before after talk
leads-begins before between after talk mid s t = record {
  calls = s.calls ++ t.calls;
  rest = t.rest;
  leads = LeadsTo-append talk mid t.rest s.calls t.calls s.leads t.leads;
  are_calls = AreCalls-append before between after s.calls t.calls s.are_calls t.are_calls;
}

leads-holds : {A : Type 0} (before after : EvdevView) (talk left : Talk A) (result : A) → left ≡ finish result
    → Leads before after talk left → Holds before after talk result
leads-holds {A = A} before after talk left result same s =
    record { calls = s.calls; talk_ends = rw same at s.leads; are_calls = s.are_calls }

holds-leads : {A B : Type 0} (before after : EvdevView) (talk : Talk A) (next : A → Talk B) (a : A)
    → Holds before after talk a → Leads before after (and_then talk next) (next a)
holds-leads before after talk next a s =
    record {
      calls = s.calls;
      leads = LeadsTo-and_then talk (finish a) next s.calls s.talk_ends;
      are_calls = s.are_calls;
    }

-- One read

-- how a line goes on by an answer, and by the bytes that were written
answer-bytes : (go_on : Job → Talk (Option Reach)) (read : JoyRead) (out : Option JoyRecord)
    (k : JoystickState)
    (sight : List Sight) (stop : Option Stop) (bytes before : List ℕ) → HandsOutAsSaid read out
    → bytes ≡ bytes_after out before
    → after_joy_read go_on read (joy_job k (record { sight = sight ++ record_sight out; stop = stop }))
    ≡ after_bytes go_on read bytes (joy_job k (record { sight = sight; stop = stop }))
answer-bytes go_on HandedOut None k sight stop bytes before said is = absurd said
answer-bytes go_on HandedOut (Some r) k sight stop bytes before said is = rw (← is)
answer-bytes go_on read None k sight stop bytes before said is = rw append-nil
answer-bytes go_on read (Some r) k sight stop bytes before said is = absurd said

module _ (before after : EvdevView) (d : Description) (old new : JoystickState) (notes : Notes)
    (made : List CallMade) (read : JoyRead) (out bytes : List ℕ)
    (is : IsJoyRead before after d old new made read out bytes) where
  -- what the client answers at that read
  abbrev its-answer : JoyAnswer
  its-answer = record { read = read; record_out = is.record_out; joying = new }

  -- a read with so many turns or more, as its line notes it
  read-holds : (most : ℕ) → is.count ≤ most
      → Holds before after (noted (turns d most 0 old) notes.sight)
      (Some its-answer, notes.sight ++ map made_sight made)
  read-holds most enough =
      let ends : EndsWith (turns d most 0 old) is.says.calls (Some its-answer) =
      turns-longer d is.count most 0 old is.says.calls its-answer enough is.says.talk_ends in
      record {
        calls = is.says.calls;
        talk_ends = rw is.says.kept
            (noted-ends (turns d most 0 old) notes.sight is.says.calls (Some its-answer) ends);
        are_calls = is.says.are_calls;
      }

  -- where nothing was noted of it
  pub read-begun : BeginsRead before after d (joy_job old notes)
  unfolding read_on
  read-begun = (
    is.count,
    λ most n enough.
        begins-first before after _
        (λ (o : Option JoyAnswer × List Sight). after_turns (read_on d most n) (joy_job old notes) o.0 o.1)
        (holds-begins before after _ _ (read-holds most enough)),
  )

  -- a read that was made, with its entries noted, is one round of its line
  pub read-noted : (mid final : Notes) (left_by : AfterRead)
      → mid ≡ record notes { sight = notes.sight ++ map made_sight made }
      → ((go_on : Job → Talk (Option Reach)) (k : JoystickState)
      → after_bytes go_on read bytes (joy_job k mid) ≡ then_reads go_on left_by (joy_job k final))
      → HasRead before after d (joy_job old notes) left_by (joy_job new final)
  unfolding read_on
  read-noted mid final left_by seen goes = record {
    turns = is.count;
    leads = λ most n enough.
        let sight : List Sight = notes.sight ++ map made_sight made in
        let next : Option JoyAnswer × List Sight → Talk (Option Reach) =
        λ o. after_turns (read_on d most n) (joy_job old notes) o.0 o.1 in
        let same : next (Some its-answer, sight) ≡ then_reads (read_on d most n) left_by (joy_job new final) =
        rw (
          seen,
          ← answer-bytes (read_on d most n) read is.record_out new sight notes.stop bytes out
              (turns-said d is.count 0 old is.says.calls its-answer is.says.talk_ends) is.out_written,
        ) at (goes
        (read_on d most n) new) in
        rw same at (holds-leads before after _ next _ (read-holds most enough));
  }

-- the same of an equal description
pub has-read : (before after : EvdevView) (d kept : Description) (old new : Job) (left_by same : AfterRead)
    → kept ≡ d → same ≡ left_by → HasRead before after kept old same new
    → HasRead before after d old left_by new
has-read before after d kept old new left_by same is goes h = rw (is, goes) at h

-- the device stays
pub read-device : (before after : EvdevView) (d : Description) (old new : Job) (left_by : AfterRead)
    → HasRead before after d old left_by new → after.description ≡ before.description
read-device before after d old new left_by h =
    let l = h.leads h.turns 0 (omega arith) in
    description-kept before after l.calls l.are_calls

-- after which the line reads on only where less is to do
goes-differ : (j k : Job) (reach : Reach)
    → ((go_on : Job → Talk (Option Reach)) → finish (Some reach) ≡ go_on k) → ⊥
goes-differ j k reach same = let e : finish (Some reach) ≡ finish None = same (λ l. finish None) in cc

read-on-less : (read : JoyRead) (bytes : List ℕ) (j k : Job) (after before : ℕ)
    → ((go_on : Job → Talk (Option Reach)) → after_bytes go_on read bytes j ≡ go_on k)
    → IsReadLess read after before → after < before
read-on-less (Frame place) bytes j k after before goes less = less
read-on-less More bytes j k after before goes less = less
read-on-less read bytes j k after before goes less = absurd (goes-differ j k _ goes)

-- a line reads on only behind an answer that leaves less to do
pub read-less : (read : JoyRead) (bytes : List ℕ) (left_by : AfterRead) (mid final : Notes)
    (k : JoystickState) (after before : ℕ)
    → ((go_on : Job → Talk (Option Reach)) (l : JoystickState)
    → after_bytes go_on read bytes (joy_job l mid) ≡ then_reads go_on left_by (joy_job l final))
    → IsReadLess read after before
    → LeavesLess left_by after before
read-less read bytes Hands mid final k after before goes less = tt
read-less read bytes GoesOn mid final k after before goes less =
    read-on-less read bytes (joy_job k mid) (joy_job k final) after before (λ go_on. goes go_on k) less
read-less read bytes Ends mid final k after before goes less = tt

-- Reads, one after another

module _ (d : Description) (start : Job) (before : EvdevView) where
  -- so many reads were made, of no more than so many turns each, and the line reads on from here
  pub record PassedReads (now : EvdevView) (here : Job) : Type 0 where
    -- how many reads were made
    pub count : ℕ
    -- a number of turns that is enough for each of them
    pub turns : ℕ
    -- with so many turns, or more, the calls made lead to the reads that are left
    pub leads : (most n m : ℕ) → turns ≤ most → m ≡ count + n
        → Leads before now (read_on d most m start) (read_on d most n here)

  -- before the first read no call was made
  pub reads-none : PassedReads before start
  reads-none = record {
    count = 0;
    turns = 0;
    leads = λ most n m enough e. let same : m ≡ n = omega arith in leads-none before _ _ (rw same);
  }

  module _ (between after : EvdevView) (here : Job) (s : PassedReads between here) where
    -- one read more, behind which the line goes on: its calls follow the others
    pub reads-more : (next : Job) → HasRead between after d here GoesOn next → PassedReads after next
    reads-more next h = record {
      count = s.count + 1;
      turns = s.turns + h.turns;
      leads = λ most n m enough e.
          leads-then before between after (read_on d most m start) (read_on d most (suc n) here)
          (read_on d most n next) (s.leads most (suc n) m (omega (arith, enough)) (omega (arith, e)))
          (h.leads most n (omega (arith, enough)));
    }

    -- the reads from the start on are those up to here, and one more at least
    behind : (more n : ℕ) → s.turns + more + (s.count + 1) ≤ n
        → Leads before between (read_on d n n start) (read_on d n (suc (n - (s.count + 1))) here)
    behind more n enough =
        s.leads n (suc (n - (s.count + 1))) n (omega (arith, enough)) (omega (arith, enough))

    -- a read behind which the line does not go on is the last, and all calls were made
    pub reads-last : (next : Job) (left_by : AfterRead) (reach : Reach)
        → ((go_on : Job → Talk (Option Reach)) → then_reads go_on left_by next ≡ finish (Some reach))
        → HasRead between after d here left_by next → ReadsOn before after d start reach
    reads-last next left_by reach is h = record {
      bound = s.turns + h.turns + (s.count + 1);
      holds = λ n enough.
          let go_on : Job → Talk (Option Reach) = read_on d n (n - (s.count + 1)) in
          leads-holds before after _ (then_reads go_on left_by next) (Some reach) (is go_on)
          (leads-then before between after _ _ _ (behind h.turns n enough)
          (h.leads n (n - (s.count + 1)) (omega (arith, enough))));
    }

    -- a read of which the line's memory ran out
    pub reads-begun : (kept : Description) → kept ≡ d → BeginsRead between after kept here
        → BeginsReading before after d start
    reads-begun kept is begun =
        let h : BeginsRead between after d here = rw is at begun in (
          s.turns + h.0 + (s.count + 1),
          λ n enough.
              leads-begins before between after _ _ (behind h.0 n enough)
              (h.1 n (n - (s.count + 1)) (omega (arith, enough))),
        )

-- the same of an equal description
pub reads-on : (before after : EvdevView) (d kept : Description) (old : Job) (reach same : Reach) → kept ≡ d
    → same ≡ reach → ReadsOn before after kept old same → ReadsOn before after d old reach
reads-on before after d kept old reach same is goes h = rw (is, goes) at h

-- the device stays
pub reads-device : (before after : EvdevView) (d : Description) (old : Job) (reach : Reach)
    → ReadsOn before after d old reach → after.description ≡ before.description
reads-device before after d old reach h =
    let l = h.holds h.bound (omega arith) in
    description-kept before after l.calls l.are_calls

-- Records, one after another

module _ (d : Description) (total : ℕ) (start : Job) (before : EvdevView) where
  -- of so many records so many are left, and the line reads on from here
  pub record PassedRecords (now : EvdevView) (left : ℕ) (here : Job) : Type 0 where
    -- a number of turns and reads that is enough for each record so far
    pub bound : ℕ
    -- with so many, or more, the calls made lead to the records that are left
    pub leads : (n : ℕ) → bound ≤ n
        → Leads before now (read_records d n total start) (read_records d n left here)

  -- before the first record no call was made, and all are left
  pub records-none : (left : ℕ) → left ≡ total → PassedRecords before left start
  records-none left same = record {
    bound = 0;
    leads = λ n enough. leads-none before _ _ (rw (← same));
  }

  -- all were read
  pub records-all : (after : EvdevView) (left : ℕ) (new : Job) → left ≡ 0 → PassedRecords after left new
      → ReadsRecords before after d total start new
  unfolding read_records
  records-all after left new none s = record {
    bound = s.bound;
    holds = leads-holds before after _ _ (Some new) (rw none) (s.leads s.bound (omega arith));
  }

  module _ (between after : EvdevView) (left rest : ℕ) (here : Job) (is : left ≡ suc rest)
      (s : PassedRecords between left here) where
    -- what is left is one record and the others
    next_record : (n : ℕ) → s.bound ≤ n
        → Leads before between (read_records d n total start) (read_records d n (suc rest) here)
    next_record n enough = rw is at (s.leads n enough)

    -- that record was read, or the line ended
    one_record : (n : ℕ) (reach : Reach) (h : ReadsOn between after d here reach) → s.bound + h.bound ≤ n
        → Leads before after (read_records d n total start) (on_reach (read_records d n rest) (Some reach))
    unfolding read_records
    one_record n reach h enough =
        leads-then before between after _ _ _ (next_record n (omega (arith, enough)))
        (holds-leads between after _ _ (Some reach) (h.holds n (omega (arith, enough))))

    -- a record was handed out, so one less is left
    pub records-more : (next : Job) → ReadsOn between after d here (handed_out next)
        → PassedRecords after rest next
    records-more next h = record { bound = s.bound + h.bound; leads = λ n enough. one_record n _ h enough }

    -- a read that ended the line ended it for the records that were left too
    pub records-ended : (new : Job) → ReadsOn between after d here (line_ends new)
        → ReadsRecords before after d total start new
    records-ended new h = record {
      bound = s.bound + h.bound;
      holds = leads-holds before after _ _ (Some new) refl (one_record (s.bound + h.bound) _ h (omega arith));
    }

    -- one of which the line's memory ran out
    pub records-begun : (kept : Description) → kept ≡ d → BeginsReading between after kept here
        → (n : ℕ) × Begins before after (read_records d n total start)
    unfolding read_records
    records-begun kept same begun =
        let h : BeginsReading between after d here = rw same at begun in
        let n : ℕ = s.bound + h.0 in (
          n,
          leads-begins before between after _ _ (next_record n (omega arith))
              (begins-first between after _ _ (h.1 n (omega arith))),
        )
