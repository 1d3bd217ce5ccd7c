-- Talks and calls, one after another.
use Rattle.std.proofs.Common.{◌≡◌, List, [], ◌∷◌, ◌++◌, refl, sym, append_assoc, Bool, true, false}
use Rattle.std.proofs.Common.{if◌then◌else◌}
use Rattle.std.specs.Prelude.{Result, Ok, Err}
use Rattle.inp_model.specs.declared.step.Step.{Step}
use Rattle.inp_model.specs.declared.reply.Reply.{Reply}
use Rattle.inp_model.specs.Reply.{is_accepted}
use Rattle.inp_model.specs.Run.{Call}
use Rattle.inp_recon.specs.declared.view.View.{View}
use Rattle.inp_recon.specs.View.{view_after_answer}
use Rattle.inp_reader.specs.Talk.{Talk, finish, ask, and_then, LeadsTo}
use Rattle.inp_reader.specs.Reader.{ask_each}
use Rattle.inp_reader.specs.FollowsTalk.{kept_call, calls_kept}

-- Talks

-- more calls of what is left of a talk are calls of the talk behind the first ones
pub LeadsTo-append : {A : Type 0} (talk between left : Talk A) (calls more : List Call)
    → LeadsTo talk calls between → LeadsTo between more left → LeadsTo talk (calls ++ more) left
unfolding LeadsTo
LeadsTo-append talk between left [] more h k = rw h k
LeadsTo-append (finish a) between left (call ∷ calls) more h k = elim h [ ]
LeadsTo-append (ask x rest) between left (call ∷ calls) more h k =
    (h.0, LeadsTo-append (rest call.answer) between left calls more h.1 k)

-- the first calls are those of the first talk, and the next one is still to come
pub LeadsTo-and_then : {A B : Type 0} (talk left : Talk A) (next : A → Talk B) (calls : List Call)
    → LeadsTo talk calls left → LeadsTo (and_then talk next) calls (and_then left next)
unfolding LeadsTo
LeadsTo-and_then talk left next [] h = rw h
LeadsTo-and_then (finish a) left next (call ∷ calls) h = elim h [ ]
LeadsTo-and_then (ask x rest) left next (call ∷ calls) h =
    (h.0, LeadsTo-and_then (rest call.answer) left next calls h.1)

-- Talks that ask for steps in order

-- nothing more is asked, after a refusal or with a view
abbrev pub stopped_at : Reply → Talk (Result View Reply)
stopped_at reply = finish (Err reply)

abbrev pub told : View → Talk (Result View Reply)
told view = finish (Ok view)

-- these steps follow a talk, unless it was stopped
abbrev pub ask_on : List Step → Result View Reply → Talk (Result View Reply)
ask_on ys (Ok view) = ask_each ys view
ask_on ys (Err reply) = finish (Err reply)

ask_on-if : (b : Bool) (ys : List Step) (talk longer : Talk (Result View Reply)) (reply : Reply)
    → and_then talk (ask_on ys) ≡ longer
    → and_then (if b then talk else finish (Err reply)) (ask_on ys)
    ≡ (if b then longer else finish (Err reply))
ask_on-if true ys talk longer reply h = h
ask_on-if false ys talk longer reply h = refl

-- where all of the first steps are accepted the others follow, and a refusal ends both ways
pub ask_each-append : (xs ys : List Step) (view : View)
    → and_then (ask_each xs view) (ask_on ys) ≡ ask_each (xs ++ ys) view
unfolding ask_each
ask_each-append [] ys view = refl
ask_each-append (x ∷ xs) ys view = λ i. ask x (λ a.
    let next : View = view_after_answer view x a.reply a.cells in
    ask_on-if (is_accepted a.reply) ys (ask_each xs next) (ask_each (xs ++ ys) next) a.reply
    (ask_each-append xs ys next) i)

-- Calls

-- whether a call is kept is told by its own reply alone
pub calls_kept-append : (calls more : List Call)
    → calls_kept (calls ++ more) ≡ calls_kept calls ++ calls_kept more
calls_kept-append [] more = refl
calls_kept-append (call ∷ calls) more =
    rw (calls_kept-append calls more)
    (sym (append_assoc (kept_call call.step call.answer.reply) (calls_kept calls) (calls_kept more)))
