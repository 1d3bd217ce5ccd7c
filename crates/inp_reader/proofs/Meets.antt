-- What is so of each call of a talk and of each of its ends, whatever the answers: a weakest precondition
-- over talks.
--
-- A rule says which answers a step may get in a state, and in which state that leaves. `Meets P R Q s
-- talk`: from state s each step that the talk asks for meets P, and each end meets Q, whatever the
-- answers that R allows.
use Rattle.std.proofs.Common.{append-nil, append_assoc, ◌++◌, ◌∙◌, ◌≡◌, Bool, true, false, if◌then◌else◌}
use Rattle.std.proofs.Common.{List, [], ◌∷◌, refl, sym}
use Rattle.inp_model.specs.declared.step.Step.{Step}
use Rattle.inp_model.specs.Evdev.{EvdevView, IsCall}
use Rattle.inp_model.specs.Leaves.{AreCalls}
use Rattle.inp_model.specs.Description.{Description}
use Rattle.inp_model.specs.Reply.{Answer, IsAnswer}
use Rattle.inp_model.specs.Run.{Call}
use Rattle.inp_reader.specs.declared.call_made.CallMade.{CallMade}
use Rattle.inp_reader.specs.FollowsTalk.{FollowsTalk}
use Rattle.inp_reader.proofs.Calls.{AreAnswered}
use Rattle.inp_reader.specs.Talk.{Talk, finish, ask, and_then, LeadsTo, EndsWith}

abbrev pub Meets : {S A : Type 0} → (S → Step → Type 0) → (S → Step → Answer → S → Type 0) → (S → A → Type 0)
    → S → Talk A → Type 0
Meets P R Q s (finish a) = Q s a
Meets {S} P R Q s (ask x rest) =
    P s x × ((t : S) (answer : Answer) → R s x answer t → Meets P R Q t (rest answer))

-- of any state and step
abbrev pub Any : {S : Type 0} → S → Step → Type 0
Any s x = Unit {0}

-- of any state and end
abbrev pub AnyEnd : {S A : Type 0} → S → A → Type 0
AnyEnd s a = Unit {0}

-- of a step or an end alone, where there is no state
abbrev pub OfEach : {A : Type 0} → (A → Type 0) → Unit {0} → A → Type 0
OfEach P s x = P x

-- any answer
abbrev pub AnyAnswer : Unit {0} → Step → Answer → Unit {0} → Type 0
AnyAnswer s x answer t = Unit {0}

-- ---- the ways to make a talk

-- each end of the first talk is a state from which the next one goes on
pub meets-then : {S A B : Type 0} (P : S → Step → Type 0) (R : S → Step → Answer → S → Type 0) (Q : S → A
    → Type 0) (Q' : S → B → Type 0) (s : S) (talk : Talk A) (next : A → Talk B)
    → Meets P R Q s talk → ((t : S) (a : A) → Q t a → Meets P R Q' t (next a))
    → Meets P R Q' s (and_then talk next)
meets-then P R Q Q' s (finish a) next h more = more s a h
meets-then P R Q Q' s (ask x rest) next h more =
    (h.0, λ t answer allowed. meets-then P R Q Q' t (rest answer) next (h.1 t answer allowed) more)

-- by the test: the one talk where it holds, and the other where it does not
pub meets-if : {S A : Type 0} (P : S → Step → Type 0) (R : S → Step → Answer → S → Type 0) (Q : S → A
    → Type 0) (s : S) (b : Bool) (talk other : Talk A)
    → (b ≡ true → Meets P R Q s talk) → (b ≡ false → Meets P R Q s other)
    → Meets P R Q s (if b then talk else other)
meets-if P R Q s true talk other h k = h refl
meets-if P R Q s false talk other h k = k refl

-- what follows from Q at each end is so of each end
pub meets-weaker : {S A : Type 0} (P : S → Step → Type 0) (R : S → Step → Answer → S → Type 0) (Q Q' : S → A
    → Type 0) (s : S) (talk : Talk A)
    → Meets P R Q s talk → ((t : S) (a : A) → Q t a → Q' t a) → Meets P R Q' s talk
meets-weaker P R Q Q' s (finish a) h more = more s a h
meets-weaker P R Q Q' s (ask x rest) h more =
    (h.0, λ t answer allowed. meets-weaker P R Q Q' t (rest answer) (h.1 t answer allowed) more)

-- what is so of any end in any state
pub meets-always : {S A : Type 0} (R : S → Step → Answer → S → Type 0) (Q : S → A → Type 0) (s : S)
    (talk : Talk A) → ((t : S) (a : A) → Q t a) → Meets Any R Q s talk
meets-always R Q s (finish a) h = h s a
meets-always R Q s (ask x rest) h = (tt, λ t answer allowed. meets-always R Q t (rest answer) h)

-- what each call keeps
pub meets-keeps : {S A : Type 0} (R : S → Step → Answer → S → Type 0) (I : S → Type 0) (s : S) (talk : Talk A)
    → ((u v : S) (x : Step) (answer : Answer) → I u → R u x answer v → I v) → I s
    → Meets Any R (λ (t : S) (a : A). I t) s talk
meets-keeps R I s (finish a) keeps i = i
meets-keeps R I s (ask x rest) keeps i =
    (tt, λ t answer allowed. meets-keeps R I t (rest answer) keeps (keeps s t x answer i allowed))

-- ---- what came of a talk

-- these calls, one after another, take one state to the other
unfoldable pub Runs : {S : Type 0} → (S → Step → Answer → S → Type 0) → S → List Call → S → Type 0
Runs R s [] t = t ≡ s
Runs {S} R s (call ∷ calls) t = (between : S) × R s call.step call.answer between × Runs R between calls t

-- calls with answers that R allows are a way through the talk, and it ends where they end
pub meets-ends : {S A : Type 0} (P : S → Step → Type 0) (R : S → Step → Answer → S → Type 0) (Q : S → A
    → Type 0) (s t : S) (talk : Talk A) (calls : List Call) (a : A)
    → Meets P R Q s talk → Runs R s calls t → EndsWith talk calls a → Q t a
unfolding LeadsTo Runs
meets-ends P R Q s t (finish b) [] a h run ends =
    let same : b ≡ a = cc in
    rw run (rw same at h)
meets-ends P R Q s t (finish b) (call ∷ calls) a h run ends = elim ends [ ]
meets-ends P R Q s t (ask x rest) [] a h run ends = absurd cc
meets-ends P R Q s t (ask x rest) (call ∷ calls) a h run ends =
    let allowed : R s x call.answer run.0 = rw ends.0 at run.1 in
    meets-ends P R Q run.0 t (rest call.answer) calls a (h.1 run.0 call.answer allowed) run.2 ends.1

-- and the other way round: what is so of each end, of whatever calls
pub ends-meet : {S A : Type 0} (R : S → Step → Answer → S → Type 0) (Q : S → A → Type 0) (s : S)
    (talk : Talk A)
    → ((t : S) (calls : List Call) (a : A) → Runs R s calls t → EndsWith talk calls a → Q t a)
    → Meets Any R Q s talk
unfolding LeadsTo Runs
ends-meet R Q s (finish a) h = h s [] a refl refl
ends-meet R Q s (ask x rest) h = (
  tt,
  λ t answer allowed.
      ends-meet R Q t (rest answer)
      (λ u calls a run ends. h u (record { step = x; answer = answer } ∷ calls) a
      (t, allowed, run) (refl, ends)),
)

-- ---- properties of steps alone

-- each step that the talk asks for has this property, whatever is answered
abbrev pub Asks : {A : Type 0} → (Step → Type 0) → Talk A → Type 0
Asks P (finish a) = Unit {0}
Asks P (ask x rest) = P x × ((answer : Answer) → Asks P (rest answer))

-- the steps asked for are those of the first talk, and then those of the one that its result says
pub asks-then : {A B : Type 0} (P : Step → Type 0) (talk : Talk A) (next : A → Talk B) → Asks P talk
    → ((a : A) → Asks P (next a)) → Asks P (and_then talk next)
asks-then P (finish a) next h more = more a
asks-then P (ask x rest) next h more = (h.0, λ answer. asks-then P (rest answer) next (h.1 answer) more)

-- where any answer is allowed, P holds of each step whatever was answered before it
pub meets-asks : {A : Type 0} (P : Step → Type 0) (talk : Talk A)
    → Meets (λ (s : Unit {0}) (x : Step). P x) AnyAnswer
    (λ (s : Unit {0}) (a : A). Unit {0}) tt talk → Asks P talk
meets-asks P (finish a) h = tt
meets-asks P (ask x rest) h = (h.0, λ answer. meets-asks P (rest answer) (h.1 tt answer tt))

-- ---- calls that the one-thread device answered, each after some past

abbrev pub Answered : Description → Unit {0} → Step → Answer → Unit {0} → Type 0
Answered d s x answer t = (past : List Step) × IsAnswer d past x answer

-- each call was answered after some past, and a run asks for no more
pub answered-run : (d : Description) (calls : List Call) → AreAnswered d calls → Runs (Answered d) tt calls tt
unfolding AreAnswered Runs
answered-run d [] h = refl
answered-run d (call ∷ calls) h = (tt, (h.0, h.1), answered-run d calls h.2)

-- ---- calls, listed

abbrev pub Listed : List Call → Step → Answer → List Call → Type 0
Listed before x a after = after ≡ before ++ record { step = x; answer = a } ∷ []

-- each call is put at the end of the list, so all of them together come behind what was there
pub listed-run : (before calls : List Call) → Runs Listed before calls (before ++ calls)
unfolding Runs
listed-run before [] = append-nil before
listed-run before (call ∷ calls) =
    (before ++ call ∷ [], refl, rw append_assoc at (listed-run (before ++ call ∷ []) calls))

-- each call of the run made the list longer by itself, so the list has all of them behind it
pub run-listed : (before after calls : List Call) → Runs Listed before calls after → after ≡ before ++ calls
unfolding Runs
run-listed before after [] h = h ∙ sym (append-nil before)
run-listed before after (call ∷ calls) h =
    rw (run-listed h.0 after calls h.2, h.1) (append_assoc before (call ∷ []) calls)

-- ---- any calls

-- any answer is allowed, so any calls are a run
pub any-run : (calls : List Call) → Runs AnyAnswer tt calls tt
unfolding Runs
any-run [] = refl
any-run (call ∷ calls) = (tt, tt, any-run calls)

-- ---- calls on an evdev

abbrev pub IsCallOn : EvdevView → Step → Answer → EvdevView → Type 0
IsCallOn before x answer after = IsCall before after (record { step = x; answer = answer })

pub calls-run : (before after : EvdevView) (calls : List Call) → AreCalls before after calls
    → Runs IsCallOn before calls after
unfolding AreCalls Runs
calls-run before after [] h = h
calls-run before after (call ∷ calls) h = (h.0, h.1, calls-run h.0 after calls h.2)

-- the calls that were made are a run on the evdev, and they end the talk
pub says-meets : {A : Type 0} (P : EvdevView → Step → Type 0) (Q : EvdevView → A → Type 0)
    (before after : EvdevView) (old new : List CallMade) (talk : Talk A) (a : A)
    → Meets P IsCallOn Q before talk → FollowsTalk before after old new talk a → Q after a
says-meets P Q before after old new talk a h s =
    meets-ends P IsCallOn Q before after talk s.calls a h
    (calls-run before after s.calls s.are_calls) s.talk_ends
