-- Facts on `FollowsTalk`: one part of a talk after another.
use Rattle.std.proofs.Common.{◌≡◌, List, [], ◌∷◌, ◌++◌, refl, sym, ap, ◌∙◌, append_assoc, append-nil, Bool}
use Rattle.std.proofs.Common.{true, false, Option, Some, None, ℤ, ◌*◌, length}
use Rattle.std.specs.Prelude.{Result, Ok, Err, is_some}
use Rattle.inp_model.specs.declared.step.Step.{Step}
use Rattle.inp_model.specs.declared.reply.Reply.{Reply}
use Rattle.inp_model.specs.Description.{Description}
use Rattle.inp_model.specs.Evdev.{EvdevView, IsCall}
use Rattle.inp_model.specs.Reply.{Answer, is_accepted}
use Rattle.inp_model.specs.Run.{Call}
use Rattle.inp_recon.specs.declared.view.View.{View}
use Rattle.inp_recon.specs.View.{view_after_answer}
use Rattle.inp_reader.specs.declared.call_made.CallMade.{CallMade}
use Rattle.inp_reader.specs.Talk.{Talk, finish, ask, and_then, LeadsTo}
use Rattle.inp_reader.specs.ReaderCalls.{Asks, asked_result}
use Rattle.inp_reader.specs.Reader.{ask_each, only_if}
use Rattle.inp_model.specs.Leaves.{AreCalls}
use Rattle.inp_reader.specs.FollowsTalk.{kept_call, calls_kept, FollowsTalk}
use Rattle.inp_reader.proofs.QueryAnswers.{view-answered}
use Rattle.inp_model.proofs.Leaves.{AreCalls-append}
use Rattle.inp_reader.proofs.Talks.{LeadsTo-append, LeadsTo-and_then, calls_kept-append, ask_on}
use Rattle.inp_reader.proofs.Talks.{ask_each-append}

kept_after : (old mid new : List CallMade) (calls more : List Call) → mid ≡ old ++ calls_kept calls
    → new ≡ mid ++ calls_kept more → new ≡ old ++ calls_kept (calls ++ more)
kept_after old mid new calls more h k = rw (k, h, append_assoc, ← calls_kept-append)

-- no call
pub says-nothing : {A : Type 0} (told : EvdevView) (made : List CallMade) (talk : Talk A) (result : A)
    → talk ≡ finish result → FollowsTalk told told made made talk result
unfolding LeadsTo AreCalls
says-nothing told made talk result h =
    record { calls = []; talk_ends = h; are_calls = refl; kept = sym (append-nil made) }

-- a talk, and then the one that its result says
pub says-then : {A B : Type 0} (before between after : EvdevView) (old mid new : List CallMade)
    (talk : Talk A) (next : A → Talk B) (a : A) (b : B) → FollowsTalk before between old mid talk a
    → FollowsTalk between after mid new (next a) b → FollowsTalk before after old new (and_then talk next) b
says-then before between after old mid new talk next a b s t = record {
  calls = s.calls ++ t.calls;
  talk_ends =
      LeadsTo-append (and_then talk next) (next a) (finish b) s.calls t.calls
      (LeadsTo-and_then talk (finish a) next s.calls s.talk_ends) t.talk_ends;
  are_calls = AreCalls-append before between after s.calls t.calls s.are_calls t.are_calls;
  kept = kept_after old mid new s.calls t.calls s.kept t.kept;
}

-- steps that are accepted, and then others
pub says-each : {before between after : EvdevView} {old mid new : List CallMade} (xs ys : List Step)
    (view asked : View) (result : Result View Reply)
    → FollowsTalk before between old mid (ask_each xs view) (Ok asked)
    → FollowsTalk between after mid new (ask_each ys asked) result
    → FollowsTalk before after old new (ask_each (xs ++ ys) view) result
says-each xs ys view asked result s t =
    rw ask_each-append at
    (says-then _ _ _ _ _ _ (ask_each xs view) (ask_on ys) (Ok asked) result s t)

-- steps of which one is refused: the others are not asked for
pub says-stop : {before after : EvdevView} {old new : List CallMade} (xs ys : List Step) (view : View)
    (stop : Reply) → FollowsTalk before after old new (ask_each xs view) (Err stop)
    → FollowsTalk before after old new (ask_each (xs ++ ys) view) (Err stop)
says-stop xs ys view stop s =
    rw ask_each-append at
    (says-then _ _ _ _ _ _ (ask_each xs view) (ask_on ys) (Err stop) (Err stop) s
    (says-nothing _ _ (finish (Err stop)) (Err stop) refl))

-- one call, after which nothing more is asked
pub says-one : {A : Type 0} {before after : EvdevView} {old new : List CallMade} (x : Step) (answer : Answer)
    (rest : Answer → Talk A) (result : A) → IsCall before after (record { step = x; answer = answer })
    → new ≡ old ++ kept_call x answer.reply
    → rest answer ≡ finish result
    → FollowsTalk before after old new (ask x rest) result
unfolding LeadsTo AreCalls
says-one x answer rest result call kept ended = record {
  calls = record { step = x; answer = answer } ∷ [];
  talk_ends = (refl, ended);
  are_calls = (_, call, refl);
  kept = rw (append-nil, ← kept);
}

-- a query that is accepted sets the view
pub says-accepted : (d : Description) (before after : EvdevView) (old new : List CallMade) (x : Step)
    (reply : Reply) (cells new_cells : List ℤ) (view asked : View) → before.description ≡ d
    → length view.cells ≡ 14 * d.slots
    → Asks before after old new x reply cells new_cells → is_accepted reply ≡ true
    → asked ≡ view_after_answer view x reply new_cells
    → FollowsTalk before after old new (ask_each (x ∷ []) view) (Ok asked)
unfolding ask_each
says-accepted d before after old new x reply cells new_cells view asked same fits a accepted set =
    let told : View = view_after_answer view x a.answer.reply a.answer.cells in
    let is : is_accepted a.answer.reply ≡ true = ap is_accepted (sym a.replied) ∙ accepted in
    let e : told ≡ asked =
    sym
    (view-answered d before after x a.answer reply cells new_cells view asked same fits a.is_call a.replied
    a.cells_written set) in
    says-one x a.answer _ (Ok asked) a.is_call a.kept (rw (is, e))

-- a query that is not stops
pub says-refused : {before after : EvdevView} {old new : List CallMade} (x : Step) (reply : Reply)
    (cells new_cells : List ℤ) (view : View) → Asks before after old new x reply cells new_cells
    → is_accepted reply ≡ false → FollowsTalk before after old new (ask_each (x ∷ []) view) (Err reply)
unfolding ask_each
says-refused x reply cells new_cells view a refused =
    let is : is_accepted a.answer.reply ≡ false = ap is_accepted (sym a.replied) ∙ refused in
    says-one x a.answer _ (Err reply) a.is_call a.kept (rw (is, ← a.replied))

-- a query that is not wanted
pub says-unwanted : {told : EvdevView} {made : List CallMade} (wanted : Bool) (x : Step) (view : View)
    → wanted ≡ false → FollowsTalk told told made made (ask_each (only_if wanted x) view) (Ok view)
unfolding ask_each
says-unwanted wanted x view h = says-nothing _ _ (ask_each (only_if wanted x) view) (Ok view) (rw h)

-- steps of which one stopped the rest
pub says-stop-if : {before after : EvdevView} {old new : List CallMade} (xs ys : List Step)
    (view asked : View) (stop : Option Reply) → is_some stop ≡ true
    → FollowsTalk before after old new (ask_each xs view) (asked_result stop asked)
    → FollowsTalk before after old new (ask_each (xs ++ ys) view) (asked_result stop asked)
says-stop-if xs ys view asked None h s = absurd cc
says-stop-if xs ys view asked (Some reply) h s = says-stop xs ys view reply s

-- steps of which none did, and then others
pub says-go-on : {before between after : EvdevView} {old mid new : List CallMade} (xs ys : List Step)
    (view asked : View) (stop : Option Reply) (result : Result View Reply) → is_some stop ≡ false
    → FollowsTalk before between old mid (ask_each xs view) (asked_result stop asked)
    → FollowsTalk between after mid new (ask_each ys asked) result
    → FollowsTalk before after old new (ask_each (xs ++ ys) view) result
says-go-on xs ys view asked None result h s t = says-each xs ys view asked result s t
says-go-on xs ys view asked (Some reply) result h s t = absurd cc

-- the same steps, written otherwise
pub says-same : {before after : EvdevView} {old new : List CallMade} (xs ys : List Step) (view : View)
    (result : Result View Reply) → xs ≡ ys → FollowsTalk before after old new (ask_each xs view) result
    → FollowsTalk before after old new (ask_each ys view) result
says-same xs ys view result h s = rw h at s

-- the same view as a result
pub says-asked : {before after : EvdevView} {old new : List CallMade} (talk : Talk (Result View Reply))
    (asked : View) (stop : Option Reply) → is_some stop ≡ false
    → FollowsTalk before after old new talk (asked_result stop asked)
    → FollowsTalk before after old new talk (Ok asked)
says-asked talk asked None h s = s
says-asked talk asked (Some reply) h s = absurd cc

-- no step is asked for
pub says-none : {told : EvdevView} {made : List CallMade} (xs : List Step) (view : View) → xs ≡ []
    → FollowsTalk told told made made (ask_each xs view) (Ok view)
unfolding ask_each
says-none xs view h = says-nothing _ _ (ask_each xs view) (Ok view) (rw h)

-- the same test, written otherwise
pub says-only_if : {before after : EvdevView} {old new : List CallMade} (wanted same : Bool) (x : Step)
    (view : View) (result : Result View Reply) → wanted ≡ same
    → FollowsTalk before after old new (ask_each (only_if wanted x) view) result
    → FollowsTalk before after old new (ask_each (only_if same x) view) result
says-only_if wanted same x view result h s = rw h at s
