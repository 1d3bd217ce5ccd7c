-- Facts on `FollowsTalk` for the talks of `start` and `next`.
use Rattle.std.proofs.Common.{◌≡◌, List, [], ◌∷◌, ◌++◌, refl, sym, ap, ◌∙◌, true, false, ℕ}
use Rattle.std.specs.Prelude.{Result}
use Rattle.inp_model.specs.declared.step.Step.{Step}
use Rattle.inp_model.specs.declared.reply.Reply.{Reply}
use Rattle.inp_model.specs.Description.{Description}
use Rattle.inp_model.specs.Evdev.{EvdevView, IsCall}
use Rattle.inp_model.specs.Reply.{Answer, is_accepted}
use Rattle.inp_recon.specs.declared.view.View.{View}
use Rattle.inp_reader.specs.declared.call_made.CallMade.{CallMade}
use Rattle.inp_reader.specs.Talk.{Talk, finish, ask, and_then}
use Rattle.inp_reader.specs.ReaderCalls.{MakesRead}
use Rattle.inp_reader.specs.Reader.{ask_each, ReaderState, read_or_hand_out, read_talk, after_read, hand_out}
use Rattle.inp_reader.specs.Reader.{stop_of, start_stop_of, after_open, after_queries, start_talk}
use Rattle.inp_reader.specs.Reader.{talk_after_sync}
use Rattle.inp_reader.specs.FollowsTalk.{kept_call, FollowsTalk}
use Rattle.inp_model.specs.declared.taken.Taken.{Taken}
use Rattle.inp_model.specs.declared.step.Step.TheVariants.{Open, Read}
use Rattle.inp_model.specs.declared.reply.Reply.TheVariants.{Opened}
use Rattle.inp_reader.specs.declared.mode.Mode.{Mode}
use Rattle.inp_reader.specs.declared.next.Next.{Next}
use Rattle.inp_reader.specs.declared.started.Started.{Started}
use Rattle.inp_reader.proofs.TalksInTurn.{says-nothing, says-then, says-one}

-- no call, and the calls that were kept stay
pub says-still : {A : Type 0} {told : EvdevView} {old new : List CallMade} {talk : Talk A} {result : A}
    → new ≡ old → talk ≡ finish result → FollowsTalk told told old new talk result
says-still h k = rw h (says-nothing _ _ _ _ k)

-- one call, and then what its answer says
pub says-first : {A : Type 0} {before between after : EvdevView} {old mid new : List CallMade} (x : Step)
    (answer : Answer) (rest : Answer → Talk A) (result : A)
    → IsCall before between (record { step = x; answer = answer }) → mid ≡ old ++ kept_call x answer.reply
    → FollowsTalk between after mid new (rest answer) result
    → FollowsTalk before after old new (ask x rest) result
says-first x answer rest result call kept s =
    says-then _ _ _ _ _ _ (ask x finish) rest answer result (says-one x answer finish answer call kept refl) s

-- the same view
pub says-view : {before after : EvdevView} {old new : List CallMade} (xs : List Step) (view same : View)
    (result : Result View Reply) → view ≡ same → FollowsTalk before after old new (ask_each xs view) result
    → FollowsTalk before after old new (ask_each xs same) result
says-view xs view same result h s = rw h at s

-- Reading

hand_out-queue : (r : ReaderState) (queue q : List Taken)
    → hand_out (record r { queue = queue }) q ≡ hand_out r q
hand_out-queue r queue [] = refl
hand_out-queue r queue (taken ∷ rest) = refl

says-by_read : {before after : EvdevView} {old new : List CallMade} (r : ReaderState) (answer : Answer)
    (reply : Reply) (result : Next × ReaderState) → r.queue ≡ []
    → IsCall before after (record { step = Read r.client 64; answer = answer }) → reply ≡ answer.reply
    → new ≡ old ++ kept_call (Read r.client 64) reply
    → after_read r answer ≡ result → FollowsTalk before after old new (read_talk r) result
unfolding read_talk
says-by_read r answer reply result empty call replied kept is =
    let talk : read_or_hand_out r r.queue ≡ ask (Read r.client 64) (λ (a : Answer). finish (after_read r a)) =
    rw empty in
    rw talk (says-first (Read r.client 64) answer (λ (a : Answer). finish (after_read r a)) result call
    (rw (kept, replied)) (says-still refl (rw is)))

-- a read that took events
pub says-took : {before after : EvdevView} {old new : List CallMade} (r : ReaderState) (reply : Reply)
    (queue : List Taken) (result : Next × ReaderState) → r.queue ≡ []
    → MakesRead before after r.client reply queue → new ≡ old ++ kept_call (Read r.client 64) reply
    → is_accepted reply ≡ true → result ≡ hand_out (record r { queue = queue }) queue
    → FollowsTalk before after old new (read_talk r) result
says-took r reply queue result empty reads kept accepted handed =
    let a : Answer = reads.answer in
    let is : is_accepted a.reply ≡ true = ap is_accepted (sym reads.replied) ∙ accepted in
    let queued : queue ≡ a.events = rw (reads.queued, is) in
    let out : result ≡ hand_out r a.events = rw (handed, hand_out-queue, queued) in
    let after_it : after_read r a ≡ hand_out r a.events = rw is in
    says-by_read r a reply result empty reads.is_call reads.replied kept (after_it ∙ sym out)

-- a read that was not accepted
pub says-read_nothing : {before after : EvdevView} {old new : List CallMade} (r : ReaderState) (reply : Reply)
    (queue : List Taken) (next : Next) → r.queue ≡ [] → MakesRead before after r.client reply queue
    → new ≡ old ++ kept_call (Read r.client 64) reply
    → is_accepted reply ≡ false → next ≡ stop_of reply
    → FollowsTalk before after old new (read_talk r) (next, record r { queue = queue })
says-read_nothing r reply queue next empty reads kept refused stopped =
    let a : Answer = reads.answer in
    let is : is_accepted a.reply ≡ false = ap is_accepted (sym reads.replied) ∙ refused in
    let queued : queue ≡ r.queue = rw (reads.queued, is) (sym empty) in
    let same : record r { queue = queue } ≡ r = rw queued in
    let stop : stop_of a.reply ≡ next = rw (← reads.replied) (sym stopped) in
    let after_it : after_read r a ≡ (stop_of a.reply, r) = rw is in
    let result : Next × ReaderState = (next, record r { queue = queue }) in
    says-by_read r a reply result empty reads.is_call reads.replied kept
    (rw (after_it, stop, ← same))

-- an event of the queue
hand_out-queued : (r : ReaderState) (q : List Taken) → (q ≡ [] → ⊥)
    → read_or_hand_out r q ≡ finish (hand_out r q)
hand_out-queued r [] h = absurd (h refl)
hand_out-queued r (taken ∷ rest) h = refl

-- where an event is queued the first one is handed out, and no call is made
pub says-queued : {told : EvdevView} {old new : List CallMade} (r : ReaderState) (result : Next × ReaderState)
    → (r.queue ≡ [] → ⊥) → new ≡ old → result ≡ hand_out r r.queue
    → FollowsTalk told told old new (read_talk r) result
unfolding read_talk
says-queued r result h kept handed = says-still kept (rw (hand_out-queued, ← handed))

-- Synchronising

-- and what follows it
pub says-synchronised : {before between after : EvdevView} {old mid new : List CallMade}
    (talk : Talk (Result View Reply)) (rest : Talk (Next × ReaderState)) (mode : Mode) (r : ReaderState)
    (asked : Result View Reply) (result : Next × ReaderState) → FollowsTalk before between old mid talk asked
    → rest ≡ talk_after_sync mode r asked → FollowsTalk between after mid new rest result
    → FollowsTalk before after old new (and_then talk (talk_after_sync mode r)) result
says-synchronised talk rest mode r asked result h is k =
    says-then _ _ _ _ _ _ talk (talk_after_sync mode r) asked result h
    (rw is at k)

-- Starting

-- the queries of a start
pub says-begun : {before after : EvdevView} {old new : List CallMade} (xs : List Step) (client ring : ℕ)
    (r : ReaderState) (asked : Result View Reply) (result : Started × ReaderState)
    → FollowsTalk before after old new (ask_each xs r.view) asked → after_queries client ring r asked ≡ result
    → FollowsTalk before after old new
    (and_then (ask_each xs r.view) (λ o. finish (after_queries client ring r o))) result
says-begun xs client ring r asked result h is =
    let next : Result View Reply → Talk (Started × ReaderState) = λ o. finish
    (after_queries client ring r o) in
    says-then _ _ _ _ _ _ (ask_each xs r.view) next asked result h
    (says-still refl (rw is))

-- a start, once its Open was accepted
pub says-opened : {before between after : EvdevView} {old mid new : List CallMade} (d : Description)
    (r : ReaderState) (reply : Reply) (result : Started × ReaderState) → (answer : Answer)
    → reply ≡ answer.reply → IsCall before between (record { step = Open; answer = answer })
    → mid ≡ old ++ kept_call Open answer.reply
    → FollowsTalk between after mid new (after_open d r reply) result
    → FollowsTalk before after old new (start_talk d r) result
unfolding start_talk
says-opened d r reply result answer replied call kept s =
    says-first Open answer (λ (a : Answer). after_open d r a.reply) result call kept
    (rw replied at s)

after_open-stopped : (d : Description) (r : ReaderState) (reply : Reply)
    → ((at client ring : ℕ) → reply ≡ Opened at client ring → ⊥)
    → after_open d r reply ≡ finish (start_stop_of reply, r)
after_open-stopped d r (Opened at client ring) h = absurd (h at client ring refl)
after_open-stopped d r _ h = refl

-- a start whose Open was refused
pub says-not_opened : {before after : EvdevView} {old new : List CallMade} (d : Description) (r : ReaderState)
    (reply : Reply) (started : Started) (answer : Answer) → reply ≡ answer.reply
    → IsCall before after (record { step = Open; answer = answer }) → new ≡ old ++ kept_call Open answer.reply
    → ((at client ring : ℕ) → reply ≡ Opened at client ring → ⊥) → started ≡ start_stop_of reply
    → FollowsTalk before after old new (start_talk d r) (started, r)
says-not_opened d r reply started answer replied call kept h stopped =
    let result : Started × ReaderState = (started, r) in
    says-opened d r reply result answer replied call kept
    (says-still refl (rw (after_open-stopped, ← stopped)))
