-- Where so many rounds are enough for a line of a joystick, more of them change nothing, whatever is
-- answered.
use Rattle.std.proofs.Common.{◌≡◌, ℕ, zero, suc, ◌≤◌, List, ◌++◌, map, refl, sym, ◌∙◌, arith, Option, Some}
use Rattle.std.proofs.Common.{None}
use Rattle.inp_reader.specs.FollowsTalk.{calls_kept}
use Rattle.inp_script.proofs.Common.{Description, Call, Command, JoyRead, Talk, finish, and_then, EndsWith}
use Rattle.inp_script.proofs.Common.{Sight, Job, joying_of, made_sight, noted, JoystickState, JoyAnswer}
use Rattle.inp_script.proofs.Common.{turns}
use Rattle.inp_script.proofs.Common.{Reach, handed_out, line_ends, after_joy_read, after_turns, read_on}
use Rattle.inp_script.proofs.Common.{on_reach, read_records, joystick_talk}
use Rattle.inp_actors.specs.declared.command.Command.TheVariants.{Open, Read}
use Rattle.inp_joy.specs.declared.joy_read.JoyRead.TheVariants.{Frame, More}
use Rattle.inp_joy.proofs.MoreTurns.{turns-longer}
use Rattle.inp_reader.proofs.Talks.{LeadsTo-append, LeadsTo-and_then}
use Rattle.inp_reader.proofs.Calls.{finished, split-and_then}
use Rattle.inp_script.proofs.Noted.{noted-ends}
use Rattle.inp_script.proofs.Told.{noted-back, noted_sight}

-- a talk, and the one that its result says, end with the calls of both
pub ends-then : {A B : Type 0} (talk : Talk A) (next : A → Talk B) (mid : A) (result : B)
    (first second : List Call) → EndsWith talk first mid → EndsWith (next mid) second result
    → EndsWith (and_then talk next) (first ++ second) result
ends-then talk next mid result first second h k =
    LeadsTo-append (and_then talk next) (next mid) (finish result) first second
    (LeadsTo-and_then talk (finish mid) next first h) k

-- a read of more turns is noted with the same entries
read-longer : (d : Description) (n m : ℕ) (j : JoystickState) (sight : List Sight) (calls : List Call)
    (o : Option JoyAnswer × List Sight) (answer : JoyAnswer) → Some answer ≡ o.0 → n ≤ m
    → EndsWith (noted (turns d n 0 j) sight) calls o → EndsWith (noted (turns d m 0 j) sight) calls o
read-longer d n m j sight calls o answer is le h =
    let short : EndsWith (turns d n 0 j) calls o.0 × (o.1 ≡ sight ++ noted_sight calls) =
    noted-back _ sight calls o h in
    let long : EndsWith (turns d m 0 j) calls (Some answer) =
    turns-longer d n m 0 j calls answer le (rw is short.0) in
    let entries : List Sight = sight ++ map made_sight (calls_kept calls) in
    let ends : EndsWith (noted (turns d m 0 j) sight) calls (Some answer, entries) =
    noted-ends _ sight calls _ long in
    let back : EndsWith (turns d m 0 j) calls (Some answer) × (entries ≡ sight ++ noted_sight calls) =
    noted-back _ sight calls _ ends in
    let same : entries ≡ o.1 = back.1 ∙ sym short.1 in
    rw (same, is) at ends

-- reads behind a read
answer-longer : (short long : Job → Talk (Option Reach)) (read : JoyRead) (j : Job) (reach : Reach)
    (calls : List Call)
    → ((k : Job) → EndsWith (short k) calls (Some reach) → EndsWith (long k) calls (Some reach))
    → EndsWith (after_joy_read short read j) calls (Some reach)
    → EndsWith (after_joy_read long read j) calls (Some reach)
answer-longer short long (Frame place) j reach calls more h = more j h
answer-longer short long More j reach calls more h = more j h
answer-longer short long _ j reach calls more h = h

read_on-longer : (d : Description) (most max n m : ℕ) (j : Job) (reach : Reach) (calls : List Call)
    → most ≤ max → n ≤ m → EndsWith (read_on d most n j) calls (Some reach)
    → EndsWith (read_on d max m j) calls (Some reach)
unfolding read_on
read_on-longer d most max zero m j reach calls turns_le le h =
    let f = finished None (Some reach) calls h in
    absurd cc
read_on-longer d most max (suc n) zero j reach calls turns_le le h = absurd (omega (arith, le))
read_on-longer d most max (suc n) (suc m) j reach calls turns_le le h =
    let short : Option JoyAnswer × List Sight → Talk (Option Reach) =
    λ o. after_turns (read_on d most n) j o.0 o.1 in
    let p = split-and_then _ short calls (Some reach) h in
    by_answer p.between.0 p.between p.first p.later refl p.calls_are p.first_ends
    (λ k e. read_on-longer d most max n m k reach p.later turns_le (omega (arith, le)) e) p.later_ends
  where
    long : Option JoyAnswer × List Sight → Talk (Option Reach)
    long = λ o. after_turns (read_on d max m) j o.0 o.1

    talk : Talk (Option JoyAnswer × List Sight)
    talk = noted (turns d max 0 (joying_of j)) j.sight

    by_answer : (a : Option JoyAnswer) (o : Option JoyAnswer × List Sight) (first second : List Call)
        → a ≡ o.0 → calls ≡ first ++ second → EndsWith (noted (turns d most 0 (joying_of j)) j.sight) first o
        → ((k : Job) → EndsWith (read_on d most n k) second (Some reach)
        → EndsWith (read_on d max m k) second (Some reach))
        → EndsWith (after_turns (read_on d most n) j a o.1) second (Some reach)
        → EndsWith (and_then talk long) calls (Some reach)
    by_answer None o first second is whole e more k = let f = finished None (Some reach) second k in absurd cc
    by_answer (Some answer) o first second is whole e more k =
        rw whole
        (ends-then talk long o (Some reach) first second
        (read-longer d most max _ j.sight first o answer is turns_le e)
        (rw (← is)
        (answer-longer _ _ answer.read _ reach second more k)))

read_records-longer : (d : Description) (n m count : ℕ) (j k : Job) (calls : List Call) → n ≤ m
    → EndsWith (read_records d n count j) calls (Some k) → EndsWith (read_records d m count j) calls (Some k)
unfolding read_records
read_records-longer d n m zero j k calls le h = h
read_records-longer d n m (suc count) j k calls le h =
    let p = split-and_then _ _ calls (Some k) h in
    rw p.calls_are
    (by_reach p.between p.first p.later p.first_ends
    (λ i e. read_records-longer d n m count i k p.later le e) p.later_ends)
  where
    by_reach : (o : Option Reach) (first second : List Call) → EndsWith (read_on d n n j) first o
        → ((i : Job) → EndsWith (read_records d n count i) second (Some k)
        → EndsWith (read_records d m count i) second (Some k))
        → EndsWith (on_reach (read_records d n count) o) second (Some k)
        → EndsWith (and_then (read_on d m m j) (on_reach (read_records d m count))) (first ++ second) (Some k)
    by_reach None first second e more w = let f = finished None (Some k) second w in absurd cc
    by_reach (Some (handed_out i)) first second e more w =
        ends-then _ _ _ (Some k) first second (read_on-longer d n m n m j _ first le le e) (more i w)
    by_reach (Some (line_ends i)) first second e more w =
        ends-then _ _ _ (Some k) first second (read_on-longer d n m n m j _ first le le e) w

-- a line that ended within n rounds ends after the same calls where it may have more
pub joystick-longer : (d : Description) (n m : ℕ) (command : Command) (j k : Job) (calls : List Call) → n ≤ m
    → EndsWith (joystick_talk d n command j) calls (Some k)
    → EndsWith (joystick_talk d m command j) calls (Some k)
joystick-longer d n m Open j k calls le h = h
joystick-longer d n m (Read count) j k calls le h = read_records-longer d n m count j k calls le h
joystick-longer d n m command j k calls le h = h
