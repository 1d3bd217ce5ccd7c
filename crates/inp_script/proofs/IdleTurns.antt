-- Where a job stopped as idle, at least as many calls of its line were answered Again as it says.
use Rattle.std.proofs.Common.{◌≡◌, ℕ, suc, ◌+◌, ◌-◌, ◌^◌, ◌≤◌, ◌⊎◌, inl, inr, ◌&&◌, Bool, true, false}
use Rattle.std.proofs.Common.{if◌then◌else◌, List, [], ◌∷◌, refl, sym, ◌∙◌, arith, Option, Some, None, nat_lt}
use Rattle.std.proofs.lemmas.Bool.Decides.{nat_tests}
use Rattle.inp_script.specs.Client.{job_after_start}
use Rattle.inp_model.specs.Evdev.{agains_after}
use Rattle.inp_reader.specs.Reader.{after_failed_sync}
use Rattle.inp_script.specs.Legal.{CountsTurns}
use Rattle.inp_script.proofs.Common.{Stamped, Step, Reply, Description, Call, Command, Role, Next, Started}
use Rattle.inp_script.proofs.Common.{EndsWith, Sight, Stop, Waiting, LineProgress, turn_after, after_next}
use Rattle.inp_script.proofs.Common.{mode_of}
use Rattle.inp_script.proofs.Common.{Job, ActorView, stop_after, stop_after_start, RecordView, Answer, View}
use Rattle.inp_script.proofs.Common.{Mode, joystick_talk, EvdevView, is_again, ReaderState, stop_of}
use Rattle.inp_script.proofs.Common.{start_talk}
use Rattle.inp_script.proofs.Common.{next_talk, AreCalls, DoesLine, line_talk}
use Rattle.inp_reader.specs.declared.next.Next.TheVariants.{Again}
use Rattle.inp_script.specs.declared.stop.Stop.TheVariants.{Idle, Full as FullHistory}
use Rattle.inp_reader.proofs.Meets.{Any, Runs, meets-ends, meets-always, meets-weaker}
use Rattle.inp_reader.proofs.NextWalk.{sync-meets, Renewed, NextRules, next-meets, stop-cases}
use Rattle.inp_script.proofs.LineWalk.{NotedBy, OfJob, OfTurn, AfterNext, read_so, LineRules, start_job-meets}
use Rattle.inp_script.proofs.LineWalk.{round-meets, turn-cases, line-meets}
use Rattle.inp_script.proofs.JoyStops.{IsNotIdle, NotIdle, none-not_idle, reply-not_idle, started-not_idle}
use Rattle.inp_script.proofs.JoyStops.{joy-stops}
use Rattle.inp_script.proofs.JoyWalk.{joystick-meets}
use Rattle.inp_model.specs.declared.step.Step.TheVariants.{Read}

-- how many calls were answered Again
again_count : List Call → ℕ
again_count [] = 0
again_count (call ∷ calls) = (if is_again call.answer.reply then 1 else 0) + again_count calls

abbrev AgainBy : ℕ → Step → Answer → ℕ → Type 0
AgainBy n x a m = m ≡ n + (if is_again a.reply then 1 else 0)

again-run : (n : ℕ) (calls : List Call) → Runs AgainBy n calls (n + again_count calls)
unfolding Runs again_count
again-run n [] = omega arith
again-run n (call ∷ calls) =
    let one : ℕ = if is_again call.answer.reply then 1 else 0 in
    let more : (n + one) + again_count calls ≡ n + (one + again_count calls) = omega arith in
    (n + one, refl, rw more at (again-run (n + one) calls))

-- the evdev counts them, up to the end of the count's type
record Counted (before after more : ℕ) : Type 0 where
  rises : before ≤ after
  counts : (before + more ≤ after) ⊎ (2 ^ 64 - 1 ≤ after)

counted-one : (reply : Reply) (n : ℕ) → Counted n (agains_after reply n) (if is_again reply then 1 else 0)
counted-one reply n = by_flag _ _ refl
  where
    by_flag : (again below : Bool) → nat_lt n (2 ^ 64 - 1) ≡ below
        → Counted n (if again && below then n + 1 else n) (if again then 1 else 0)
    by_flag true true h = record { rises = omega arith; counts = inl (omega arith) }
    by_flag true false h = record { rises = omega arith; counts = inr (grind (arith, nat_tests)) }
    by_flag false below h = record { rises = omega arith; counts = inl (omega arith) }

counted-then : (a b c m n : ℕ) → Counted a b m → Counted b c n → Counted a c (m + n)
counted-then a b c m n s t = record {
  rises = omega (arith, s.rises, t.rises);
  counts = elim t.counts [
    | inl y ↦ elim s.counts [ inl x ↦ inl (omega (arith, x, y)) | inr x ↦ inr (omega (arith, x, t.rises)) ]
    | inr y ↦ inr y
  ];
}

calls-counted : (a b : EvdevView) (calls : List Call) → AreCalls a b calls
    → Counted a.agains b.agains (again_count calls)
unfolding AreCalls again_count
calls-counted a b [] are =
    let same : b.agains ≡ a.agains = rw are in
    record { rises = omega (arith, same); counts = inl (omega (arith, same)) }
calls-counted a b (call ∷ calls) are =
    let n : ℕ = if is_again call.answer.reply then 1 else 0 in
    let one : Counted a.agains are.0.agains n = rw are.1.agains (counted-one _ a.agains) in
    counted-then a.agains are.0.agains b.agains n (again_count calls) one (calls-counted are.0 b calls are.2)

-- Where a job says that it stopped as idle, so many calls were answered Again.
abbrev Idles : ℕ → Option Stop → Type 0
Idles n stop = (turns at : ℕ) → stop ≡ Some (Idle turns at) → turns ≤ n

not_idle : (n : ℕ) (stop : Option Stop) → IsNotIdle stop → Idles n stop
not_idle n stop h turns at e = absurd (h turns at e)

idles-more : (n m : ℕ) (stop : Option Stop) → n ≤ m → Idles n stop → Idles m stop
idles-more n m stop more h turns at e = omega (arith, more, h turns at e)

abbrev IdlesOf : ℕ → Job → Type 0
IdlesOf n j = Idles n j.stop

-- in the midst of a line those that came last, one after another, are counted too
abbrev IdlesGoing : ℕ → LineProgress → Type 0
IdlesGoing n g = (g.agains ≤ n) × IdlesOf n g.job

idles-turn : (n before : ℕ) (wait : Option Waiting) (left : Option ℕ) (next : Next) (j : Job) → IdlesOf n j
    → ((at ends : ℕ) → next ≡ Again at ends → suc before ≤ n)
    → OfTurn IdlesOf IdlesGoing n (turn_after wait left before next j)
idles-turn n before wait left next j i one =
    turn-cases IdlesOf IdlesGoing n wait left before next j (λ k l h. (omega arith, h))
    (λ at ends e. (one at ends e, i))
    (λ at ends idle e enough turns place is.
    let most : idle ≤ suc before = grind (arith, nat_tests) in
    let same : idle ≡ turns = (let k : Some (Idle idle at) ≡ Some (Idle turns place) = is in cc) in
    omega (arith, most, same, one at ends e))
    (λ at e turns place is. (let k : Some (FullHistory at) ≡ Some (Idle turns place) = is in absurd cc))
    (as_before next)
  where
    as_before : (k : Next) → AfterNext IdlesOf n k j
    as_before (Again at ends) = (i, i)
    as_before _ = i

-- A `next`: the count does not fall, and it rises where that answers Again.

abbrev HasCounted : ℕ → ℕ × List Sight → ReaderState → Type 0
HasCounted n u r = n ≤ u.0

abbrev HasRisen : ℕ → ℕ × List Sight → Next × ReaderState → Type 0
HasRisen n u o = (n ≤ u.0) × ((at ends : ℕ) → o.0 ≡ Again at ends → suc n ≤ u.0)

risen-stop : (n : ℕ) (u v : ℕ × List Sight) (x : Step) (a : Answer) (r : ReaderState) → n ≤ u.0
    → NotedBy AgainBy u x a v → HasRisen n v (stop_of a.reply, r)
risen-stop n u v x a r h by = (
  omega (arith, h, by.0),
  stop-cases (λ next. (at ends : ℕ) → next ≡ Again at ends → suc n ≤ v.0) a.reply
      (λ place m is at ends e. (let one : ◌≡◌ {A = ℕ} (if is_again a.reply then 1 else 0) 1 =
      rw is in omega (arith, h, by.0, one)))
      (λ at ends e. cc) (λ at ends e. cc) (λ place at ends e. cc),
)

risen-rules : (n : ℕ) (d : Description) (mode : Mode)
    → NextRules Any (NotedBy AgainBy) (HasCounted n) (HasRisen n) d mode
risen-rules n d mode = record {
  asks_read = λ s r h. tt;
  reads = λ s t r a h plain none by is. omega (arith, h, by.0);
  stops = λ s t r a h plain none by is. risen-stop n s t (Read r.client 64) a r h by;
  hands = λ s r taken rest h plain q is. (h, λ at ends e. cc);
  loses = λ s r taken rest h plain q is. (h, λ at ends e. cc);
  empty = λ s r h plain q. (h, λ at ends e. cc);
  idles = λ s r h plain is. (h, λ at ends e. cc);
  syncs = λ s r h needed.
      sync-meets Any (NotedBy AgainBy) (λ (u : ℕ × List Sight) (view : View) (left : List Step). n ≤ u.0)
      (Renewed (HasCounted n) (HasRisen n) r) d s r (record {
        asks = λ u view x xs j. tt;
        told = λ u v view x xs a j by is. omega (arith, j, by.0);
        stopped = λ u v view x xs a j by is. risen-stop n u v x a (after_failed_sync r) j by;
        whole = λ u view j. j;
      }) h;
  makes = λ s r event left h handing sync is. (h, λ at ends e. cc);
  made_all = λ s r h handing sync is. (h, λ at ends e. cc);
  goes_on = λ s r h handing is. h;
}

-- A line

idles-line : (d : Description) (role : Role) (command : Command) (wait : Option Waiting)
    → LineRules AgainBy IdlesOf IdlesGoing d role command wait
idles-line d role command wait = record {
  injects = λ e s t j x a i by. not_idle t (stop_after a.reply) (reply-not_idle a.reply);
  calls = λ e one s t j x a is i by. not_idle t (stop_after a.reply) (reply-not_idle a.reply);
  taps = λ e s t j x a i by. not_idle t (stop_after a.reply) (reply-not_idle a.reply);
  starts = λ e s j i.
      start_job-meets AgainBy IdlesOf d s j
      (meets-always (NotedBy AgainBy)
      (λ (u : ℕ × List Sight) (o : Started × ReaderState). IdlesOf u.0 (job_after_start o.0 o.1 u.1))
      (s, j.sight)
      (start_talk d j.reading) (λ u o. not_idle u.0 (stop_after_start o.0) (started-not_idle o.0)));
  begins = λ e s j left i. (omega arith, i);
  rounds = λ e s waits skips g none i.
      let mode : Mode = mode_of skips g.job.reading.phase in
      round-meets AgainBy IdlesOf IdlesGoing d s waits skips g
      (meets-weaker Any (NotedBy AgainBy) (HasRisen s)
      (λ (u : ℕ × List Sight) (o : Next × ReaderState).
      OfTurn IdlesOf IdlesGoing u.0 (after_next waits g (o, u.1))) (s, g.job.sight)
      (next_talk d mode g.job.reading)
      (next-meets Any (NotedBy AgainBy) (HasCounted s) (HasRisen s) d mode (risen-rules s d mode)
      (s, g.job.sight) g.job.reading (omega arith))
      (λ u o h. idles-turn u.0 g.agains waits g.left o.0 (read_so g.job o.1 u.1)
      (idles-more s u.0 g.job.stop h.0 i.1) (λ at ends is. omega (arith, h.1 at ends is, i.0))));
  forces = λ e s j i. i;
  joys = λ e s j n none i.
      meets-weaker Any AgainBy (OfJob NotIdle) (OfJob IdlesOf) s (joystick_talk d n command j)
      (joystick-meets AgainBy NotIdle d command (joy-stops AgainBy d command) n s j
      (none-not_idle j.stop none))
      (λ t o. elim o as (λ p. OfJob NotIdle t p → OfJob IdlesOf t p)
      [ None ↦ λ h. h | Some k ↦ not_idle t k.stop ]);
}

line-idles : (role : Role) (d : Description) (streams : List (List Stamped)) (wait : Option Waiting) (n : ℕ)
    (command : Command) (j k : Job) (calls : List Call) → j.stop ≡ None
    → EndsWith (line_talk role d streams wait n command j) calls (Some k) → Idles (again_count calls) k.stop
line-idles role d streams wait n command j k calls none h =
    idles-more (0 + again_count calls) (again_count calls) k.stop (omega arith)
    (meets-ends Any AgainBy (OfJob IdlesOf) 0 (0 + again_count calls)
    (line_talk role d streams wait n command j) calls (Some k)
    (line-meets AgainBy IdlesOf IdlesGoing d role command wait (idles-line d role command wait) streams n 0 j
    (λ turns at e. (let no : None ≡ Some (Idle turns at) = sym none ∙ e in absurd cc))) (again-run 0 calls) h)

-- a job stops as idle after so many answers Again, each of which the evdev counts, up to its end
pub counts-turns : (a b : EvdevView) (actor : ActorView) (r : RecordView) (wait : Option Waiting) (number : ℕ)
    (new : Job) → DoesLine a b actor r wait number new → CountsTurns a b actor.job new
counts-turns a b actor r wait number new does turns at none idle =
    let most : turns ≤ again_count does.holds.calls =
    line-idles actor.role actor.description r.streams wait does.rounds does.line.command actor.job new
    does.holds.calls none does.holds.talk_ends turns at idle in
    elim (calls-counted a b does.holds.calls does.holds.are_calls).counts
    [ inl x ↦ inl (omega (arith, x, most)) | inr x ↦ inr x ]
