-- The turns of a read, one after another, and how many steps of them were accepted.
use Rattle.std.proofs.Common.{◌≡◌, ℕ, suc, ◌+◌, ◌<◌, true, false, if◌then◌else◌, nat_le, List, [], ◌++◌}
use Rattle.std.proofs.Common.{length, Some, refl, sym, ap, ◌∙◌, arith, length-append, ◌∷◌}
use Rattle.std.specs.Prelude.{Option}
use Rattle.std.proofs.lemmas.Bool.{true≢false}
use Rattle.std.proofs.lemmas.Bool.Decides.{nat_tests}
use Rattle.inp_model.specs.Description.{Description}
use Rattle.inp_model.specs.Evdev.{EvdevView}
use Rattle.inp_model.specs.Leaves.{AreCalls}
use Rattle.inp_model.specs.Run.{Call}
use Rattle.inp_model.proofs.Leaves.{AreCalls-append}
use Rattle.inp_reader.specs.declared.call_made.CallMade.{CallMade}
use Rattle.inp_reader.specs.FollowsTalk.{FollowsTalk, calls_kept, kept_call}
use Rattle.inp_reader.specs.Talk.{Talk, finish, LeadsTo, EndsWith, ask}
use Rattle.inp_reader.proofs.Talks.{LeadsTo-append, LeadsTo-and_then, calls_kept-append}
use Rattle.inp_joy.specs.declared.turn_end.TurnEnd.{TurnEnd}
use Rattle.inp_joy.specs.declared.turn_end.TurnEnd.TheVariants.{Hands, Stops, GoesOn}
use Rattle.inp_joy.specs.Joy.{JoystickState, JoyAnswer, JoyTurn, goes_on, is_startup_over, turn_talk}
use Rattle.inp_joy.specs.Joy.{with_count}
use Rattle.inp_joy.specs.Joy.{after_turn, turns}
use Rattle.inp_joy.specs.JoyState.{answer_of_turn, turn_of_end, is_end, IsTurnEndLess, agains_after_turn}
use Rattle.inp_joy.specs.JoyState.{HasTurned}
use Rattle.inp_joy.proofs.TurnEnds.{turn-accepted}
use Rattle.inp_model.specs.declared.step.Step.{Step}
use Rattle.inp_model.specs.declared.reply.Reply.{Reply}
use Rattle.inp_model.specs.declared.reply.Reply.TheVariants.{Again}
use Rattle.inp_model.specs.Reply.{is_accepted}
use Rattle.inp_reader.proofs.Calls.{AreAccepted}

-- so many before, and those of these calls that were accepted
abbrev pub count_after : List Call → ℕ → ℕ
count_after [] n = n
count_after (call ∷ calls) n = count_after calls (if is_accepted call.answer.reply then n + 1 else n)

pub with_count-ends : {A : Type 0} (talk : Talk A) (calls : List Call) (a : A) (n : ℕ) → EndsWith talk calls a
    → EndsWith (with_count talk n) calls (count_after calls n, a)
unfolding LeadsTo
with_count-ends (finish b) [] a n h = let e : b ≡ a = cc in rw e
with_count-ends (finish b) (call ∷ calls) a n h = elim h [ ]
with_count-ends (ask x rest) [] a n h = absurd cc
with_count-ends (ask x rest) (call ∷ calls) a n h =
    (h.0, with_count-ends (rest call.answer) calls a (if is_accepted call.answer.reply then n + 1 else n) h.1)

kept_one : (x : Step) (reply : Reply) → is_accepted reply ≡ true → length (kept_call x reply) ≡ 1
kept_one x (Again at ends) h = absurd (true≢false (sym h))
kept_one x _ h = refl

-- where all were accepted each of them is kept
pub count-kept : (calls : List Call) (n : ℕ) → AreAccepted calls
    → count_after calls n ≡ n + length (calls_kept calls)
count-kept [] n h = omega arith
count-kept (call ∷ calls) n h =
    let one : length (kept_call call.step call.answer.reply) ≡ 1 = kept_one call.step call.answer.reply h.0 in
    let long : length (kept_call call.step call.answer.reply ++ calls_kept calls)
    ≡ length (kept_call call.step call.answer.reply) + length (calls_kept calls) =
    length-append (kept_call call.step call.answer.reply) (calls_kept calls) in
    rw (h.0, count-kept calls (n + 1) h.1) (omega (arith, one, long))

-- so many turns were made, all calls of which were accepted and kept, and the read goes on from here
pub record Passed (before now : EvdevView) (d : Description) (start here : JoystickState)
    (made : List CallMade) : Type 0 where
  -- how many turns were made
  pub count : ℕ
  -- the calls of these turns, in order
  pub calls : List Call
  -- the read leads by these calls to the turns that remain
  pub leads : (n m : ℕ) → m ≡ count + n → LeadsTo (turns d m 0 start) calls (turns d n (length made) here)
  -- they are calls on the evdev, from the state before to the one after
  pub are_calls : AreCalls before now calls
  -- those not answered Again are kept as made
  pub kept : made ≡ calls_kept calls

-- before the first turn no call was made, and all turns remain
pub passed-none : (told : EvdevView) (d : Description) (start : JoystickState) (made : List CallMade)
    → made ≡ [] → Passed told told d start start made
unfolding LeadsTo AreCalls
passed-none told d start made none = record {
  count = 0;
  calls = [];
  leads = λ n m e.
      let same : m ≡ n = omega arith in
      rw (none, ← same);
  are_calls = refl;
  kept = none;
}

-- one turn more, and what follows it
one_turn : (d : Description) (here : JoystickState) (turn : JoyTurn) (n count : ℕ) (calls : List Call)
    → EndsWith (turn_talk d here) calls turn
    → LeadsTo (turns d (suc n) count here) calls (after_turn d (turns d n) (count_after calls count) turn)
unfolding turns
one_turn d here turn n count calls h =
    let next : ℕ × JoyTurn → Talk (Option JoyAnswer) = λ o. after_turn d (turns d n) o.0 o.1 in
    LeadsTo-and_then (with_count (turn_talk d here) count) (finish (count_after calls count, turn)) next calls
    (with_count-ends (turn_talk d here) calls turn count h)

-- a turn after which no other one follows
ended : (d : Description) (go_on : ℕ → JoystickState → Talk (Option JoyAnswer)) (n : ℕ) (outcome : TurnEnd)
    (j : JoystickState) → is_end d outcome j n ≡ true
    → after_turn d go_on n (turn_of_end outcome j) ≡ finish (Some (answer_of_turn outcome j))
ended d go_on n (Hands r) j h = refl
ended d go_on n (Stops read) j h = refl
ended d go_on n GoesOn j h = rw h

-- another one
goes : (d : Description) (go_on : ℕ → JoystickState → Talk (Option JoyAnswer)) (n : ℕ) (outcome : TurnEnd)
    (j : JoystickState) → is_end d outcome j n ≡ false
    → after_turn d go_on n (turn_of_end outcome j) ≡ go_on n j
goes d go_on n (Hands r) j h = absurd (true≢false h)
goes d go_on n (Stops read) j h = absurd (true≢false h)
goes d go_on n GoesOn j h = rw h

-- it goes on alone where it is no end
only-on : (d : Description) (outcome : TurnEnd) (j : JoystickState) (n : ℕ) → is_end d outcome j n ≡ false
    → outcome ≡ GoesOn
only-on d (Hands r) j n h = absurd (true≢false h)
only-on d (Stops read) j n h = absurd (true≢false h)
only-on d GoesOn j n h = refl

-- the count of the calls that were accepted is that of those that were kept
with_count-kept : (d : Description) (here next : JoystickState) (calls : List Call) (made new : List CallMade)
    → EndsWith (turn_talk d here) calls (goes_on next) → new ≡ made ++ calls_kept calls
    → count_after calls (length made) ≡ length new
with_count-kept d here next calls made new h kept =
    count-kept calls (length made) (turn-accepted d here next calls h)
    ∙ sym (ap length kept ∙ length-append made (calls_kept calls))

-- after a turn that goes on
pub passed-more : (before between after : EvdevView) (d : Description) (start here next : JoystickState)
    (made new : List CallMade) (outcome : TurnEnd) → Passed before between d start here made
    → FollowsTalk between after made new (turn_talk d here) (turn_of_end outcome next)
    → is_end d outcome next (length new) ≡ false → Passed before after d start next new
passed-more before between after d start here next made new outcome s h on =
    let ends : EndsWith (turn_talk d here) h.calls (goes_on next) =
    rw (only-on d outcome next (length new) on) at h.talk_ends in
    record {
      count = s.count + 1;
      calls = s.calls ++ h.calls;
      leads = λ n m e.
          LeadsTo-append (turns d m 0 start) (turns d (suc n) (length made) here)
          (turns d n (length new) next) s.calls h.calls (s.leads (suc n) m (omega (arith, e)))
          (rw (with_count-kept d here next h.calls made new ends h.kept, goes) at
          (one_turn d here (turn_of_end outcome next) n (length made) h.calls h.talk_ends));
      are_calls = AreCalls-append before between after s.calls h.calls s.are_calls h.are_calls;
      kept = rw (h.kept, s.kept) (sym (calls_kept-append s.calls h.calls));
    }

-- the number of accepted calls after the last turn, where that matters
end-with_count : (d : Description) (here next : JoystickState) (calls : List Call) (made new : List CallMade)
    (outcome : TurnEnd) → EndsWith (turn_talk d here) calls (turn_of_end outcome next)
    → new ≡ made ++ calls_kept calls → is_end d outcome next (length new) ≡ true
    → is_end d outcome next (count_after calls (length made)) ≡ true
end-with_count d here next calls made new (Hands r) h kept end = refl
end-with_count d here next calls made new (Stops read) h kept end = refl
end-with_count d here next calls made new GoesOn h kept end =
    rw (with_count-kept d here next calls made new h kept) end

-- after the last one
pub passed-last : (before between after : EvdevView) (d : Description) (start here next : JoystickState)
    (made new : List CallMade) (outcome : TurnEnd) → Passed before between d start here made
    → FollowsTalk between after made new (turn_talk d here) (turn_of_end outcome next)
    → is_end d outcome next (length new) ≡ true
    → HasTurned before after d start new (answer_of_turn outcome next)
passed-last before between after d start here next made new outcome s h end = record {
  count = s.count + 1;
  says = record {
    calls = s.calls ++ h.calls;
    talk_ends =
        LeadsTo-append (turns d (s.count + 1) 0 start) (turns d (suc 0) (length made) here)
        (finish (Some (answer_of_turn outcome next))) s.calls h.calls
        (s.leads (suc 0) (s.count + 1) (omega arith))
        (rw (ended d (turns d 0) (count_after h.calls (length made)) outcome next
        (end-with_count d here next h.calls made new outcome h.talk_ends h.kept end)) at
        (one_turn d here (turn_of_end outcome next) 0 (length made) h.calls h.talk_ends));
    are_calls = AreCalls-append before between after s.calls h.calls s.are_calls h.are_calls;
    kept = rw (h.kept, s.kept) (sym (calls_kept-append s.calls h.calls));
  };
}

-- What a turn that goes on leaves

-- a turn that is no end goes on, and one that goes on leaves less
pub on-less : (d : Description) (outcome : TurnEnd) (j : JoystickState) (n after before : ℕ)
    → is_end d outcome j n ≡ false → IsTurnEndLess outcome after before → after < before
on-less d outcome j n after before on h = rw (only-on d outcome j n on) at h

-- with the startup over a read ends at 64 accepted calls, so one that goes on has fewer
pub on-short : (d : Description) (outcome : TurnEnd) (j : JoystickState) (n : ℕ)
    → is_end d outcome j n ≡ false → is_startup_over d j ≡ true → n < 64
on-short d (Hands r) j n on over = absurd (true≢false on)
on-short d (Stops read) j n on over = absurd (true≢false on)
on-short d GoesOn j n on over =
    let few : nat_le 64 n ≡ false = sym (rw over) ∙ on in grind (arith, nat_tests, few)

-- a turn that is no end gives no answer Again, so their count stays
pub on-agains : (d : Description) (outcome : TurnEnd) (j : JoystickState) (n count : ℕ)
    → is_end d outcome j n ≡ false → agains_after_turn outcome count ≡ count
on-agains d outcome j n count on = rw (only-on d outcome j n on)
