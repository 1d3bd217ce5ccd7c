-- How many events a read takes: at most so many as it asks for, and one at least where it is accepted and
-- asks for any.
use Rattle.std.proofs.Common.{◌≡◌, ℕ, ◌<◌, ◌≤◌, Bool, true, false, if◌then◌else◌, List, [], ◌∷◌, length, take}
use Rattle.std.proofs.Common.{sym, ap, ◌∙◌, arith, inl, inr, length-take, nat_eq, min}
use Rattle.std.proofs.lemmas.Bool.{true≢false, eq-eqb}
use Rattle.std.proofs.lemmas.Bool.Decides.{nat_tests}
use Rattle.std.proofs.lemmas.List.{length-map}
use Rattle.inp_model.specs.declared.taken.Taken.{Taken}
use Rattle.inp_model.specs.declared.step.Step.{Step}
use Rattle.inp_model.specs.declared.step.Step.TheVariants.{Read}
use Rattle.inp_model.specs.declared.reply.Reply.{Reply}
use Rattle.inp_model.specs.Description.{Description}
use Rattle.inp_model.specs.Evdev.{EvdevView}
use Rattle.inp_model.specs.Past.{past_at}
use Rattle.inp_model.specs.Left.{eaten}
use Rattle.inp_model.specs.Queue.{Entry, event_of, queue, visible, taken_by}
use Rattle.inp_model.specs.Reply.{Answer, IsAnswer, accepted, is_accepted, finds_nothing, taken_of}
use Rattle.inp_model.specs.Run.{place_of}
use Rattle.inp_model.proofs.Allowed.{allowed}
use Rattle.inp_model.proofs.Refused.{accepted-unrefused}
use Rattle.inp_reader.specs.ReaderCalls.{MakesRead}
use Rattle.inp_reader.proofs.ClientViews.{accepted-answer}

-- An accepted read is answered from its client's queue

length-few : {X : Type 0} (b : Bool) (n m : ℕ) (xs : List X)
    → length (if b then take (min n m) xs else []) ≤ n
length-few true n m xs = omega (arith, length-take (min n m) xs)
length-few false n m xs = omega arith

module _ (d : Description) (past : List Step) (client count : ℕ) where
  read-answer : (given : Answer) → IsAnswer d past (Read client count) given → is_accepted given.reply ≡ true
      → given ≡ accepted d past (Read client count)
  read-answer given (inl e) is =
      e ∙ accepted-answer d past (Read client count)
      (accepted-unrefused d past (Read client count) given (inl e) is)
  read-answer given (inr l) is = absurd (true≢false (rw (← is, l.2)))

  -- No more than it asks for

  few-accepted : length (accepted d past (Read client count)).events ≤ count
  few-accepted =
      let q : List Entry = queue d past client in
      omega (
        arith,
        length-map (taken_by d past client (Read client count)) taken_of,
        length-few (nat_eq client client) count (visible event_of q) q,
      )

  -- an accepted read takes the first events of its client's queue, at most as many as it asks for
  pub few-taken : (given : Answer) → IsAnswer d past (Read client count) given
      → is_accepted given.reply ≡ true → length given.events ≤ count
  few-taken given h is =
      omega (arith, ap (λ (a : Answer). length a.events) (read-answer given h is), few-accepted)

-- One at least

-- so many of a queue of which something is visible
length-some : (count : ℕ) (q : List Entry) → 0 < count → nat_eq (visible event_of q) 0 ≡ false
    → 0 < length (take (min count (visible event_of q)) q)
length-some count [] some found = absurd cc
length-some count (x ∷ q) some found =
    let seen : 0 < visible event_of (x ∷ q) = above_zero (visible event_of (x ∷ q)) found in
    omega (arith, some, seen, length-take (min count (visible event_of (x ∷ q))) (x ∷ q))
  where
    above_zero : (n : ℕ) → nat_eq n 0 ≡ false → 0 < n
    above_zero n h = grind (arith, nat_tests, h)

some-accepted : (d : Description) (past : List Step) (client count : ℕ) → 0 < count
    → finds_nothing (eaten d) d past (Read client count) ≡ false
    → 0 < length (accepted d past (Read client count)).events
some-accepted d past client count some found =
    let q : List Entry = queue d past client in
    let own : taken_by d past client (Read client count) ≡ take (min count (visible event_of q)) q =
    rw eq-eqb in
    omega (
      arith,
      length-map (taken_by d past client (Read client count)) taken_of,
      ap length own,
      length-some count q some found,
    )

some-taken : (d : Description) (past : List Step) (client count : ℕ) (given : Answer) → 0 < count
    → IsAnswer d past (Read client count) given → is_accepted given.reply ≡ true → 0 < length given.events
some-taken d past client count given some h is =
    let found : finds_nothing (eaten d) d past (Read client count) ≡ false =
    (allowed d past (Read client count) (accepted-unrefused d past (Read client count) given h is)).found in
    omega (
      arith,
      ap (λ (a : Answer). length a.events) (read-answer d past client count given h is),
      some-accepted d past client count some found,
    )

-- a reader's read that is accepted has queued an event
pub some-queued : (before after : EvdevView) (client : ℕ) (reply : Reply) (queue : List Taken)
    → MakesRead before after client reply queue → is_accepted reply ≡ true → 0 < length queue
some-queued before after client reply queue reads accepted =
    let a : Answer = reads.answer in
    let is : is_accepted a.reply ≡ true = ap is_accepted (sym reads.replied) ∙ accepted in
    let queued : queue ≡ a.events = rw (reads.queued, is) in
    let some : 0 < length a.events =
    some-taken after.description (past_at after.seen (place_of a.reply)) client 64 a
    (omega arith) reads.is_call.placed.exact is in
    omega (arith, ap length queued, some)
