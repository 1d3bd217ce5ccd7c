-- What is known of a job stays so through a whole line, where it stays so at a single call, at a start and at
-- a `next` (`LineRules`).
use Rattle.std.proofs.Common.{◌≡◌, ℕ, zero, suc, Bool, true, false, List, [], ◌∷◌, ◌++◌, refl, Option, Some}
use Rattle.std.proofs.Common.{None, nat_le}
use Rattle.std.proofs.lemmas.Bool.{cond_both}
use Rattle.inp_model.specs.declared.step.Step.TheVariants.{Inject, End}
use Rattle.inp_script.specs.Line.{stream_numbered, source_talk}
use Rattle.inp_script.proofs.Common.{Stamped, Step, Description, Answer, is_accepted, Command, Role, Next}
use Rattle.inp_script.proofs.Common.{Started, ReaderState, start_talk, next_talk, Talk, finish, ask, EndsWith}
use Rattle.inp_script.proofs.Common.{Sight, Stop, Waiting, Job, joystick_talk, noted, call_sight}
use Rattle.inp_script.proofs.Common.{lacks_memory, Call, Source, Client, Tap, Joy, Owner}
use Rattle.inp_script.proofs.Common.{NO_CLIENT, command_talk, unless_stopped, line_talk, step_of, after_call}
use Rattle.inp_script.proofs.Common.{call_if, stream_talk, end_talk, after_tap_call, tap_call_if}
use Rattle.inp_actors.specs.declared.command.Command.TheVariants.{Stream, Stream16, Open, Next as ToNext}
use Rattle.inp_actors.specs.declared.command.Command.TheVariants.{Skip, Follow, Force}
use Rattle.inp_reader.specs.declared.next.Next.TheVariants.{Success, Dropped, Sync, Again, Synced, Full}
use Rattle.inp_reader.proofs.Meets.{Meets, Any, meets-then, meets-if, Runs, ends-meet}
use Rattle.inp_script.specs.declared.sight.Sight.TheVariants.{Took, Made, Again as AgainSight}
use Rattle.inp_script.specs.declared.stop.Stop.TheVariants.{Idle, Full as FullStop}
use Rattle.inp_script.specs.Client.{LineProgress, Turn, goes_on, ends_with, start_job, start_ends}
use Rattle.inp_script.specs.Client.{job_after_start}
use Rattle.inp_script.specs.Client.{handed, one_less, is_done, patience, after_again, turn_after, after_next}
use Rattle.inp_script.specs.Client.{mode_of, with_sight, with_stop, forced, next_round, on_turn, rounds}
use Rattle.inp_script.specs.Client.{hand_talk, client_talk}
use Rattle.inp_script.proofs.Told.{noted-back, noted_sight}
use Rattle.inp_script.specs.Sight.{start_lacks_memory}

-- ---- a talk whose calls are noted

-- the same rule, with what is noted of the calls
abbrev pub NotedBy : {S : Type 0} → (S → Step → Answer → S → Type 0) → S × List Sight → Step → Answer
    → S × List Sight → Type 0
NotedBy R u x a v = R u.0 x a v.0 × (v.1 ≡ u.1 ++ call_sight x a.reply)

module _ {S : Type 0} (R : S → Step → Answer → S → Type 0) where
  -- what holds of a talk with its notes beside it holds of the talk that notes them
  pub meets-noted : {A : Type 0} (Q : S → A × List Sight → Type 0) (s : S) (sight : List Sight)
      (talk : Talk A)
      → Meets Any (NotedBy R) (λ (u : S × List Sight) (a : A). Q u.0 (a, u.1)) (s, sight) talk
      → Meets Any R Q s (noted talk sight)
  meets-noted Q s sight (finish a) h = h
  meets-noted Q s sight (ask x rest) h = (
    tt,
    λ t answer allowed. meets-noted Q t (sight ++ call_sight x answer.reply) (rest answer)
        (h.1 (t, sight ++ call_sight x answer.reply) answer (allowed, refl)),
  )

  -- what needs no note
  pub note-meets : {A : Type 0} (Q : S → A → Type 0) (s : S) (sight : List Sight) (talk : Talk A)
      → Meets Any R Q s talk → Meets Any (NotedBy R) (λ (u : S × List Sight) (a : A). Q u.0 a) (s, sight) talk
  note-meets Q s sight (finish a) h = h
  note-meets Q s sight (ask x rest) h = (tt, λ u a by. note-meets Q u.0 u.1 (rest a) (h.1 u.0 a by.0))

  -- by the calls that it makes, and what is noted of them
  pub noted-ends-meet : {A : Type 0} (Q : S → A × List Sight → Type 0)
      (s : S) (sight : List Sight) (talk : Talk A)
      → ((t : S) (calls : List Call) (a : A) → Runs R s calls t → EndsWith talk calls a
      → Q t (a, sight ++ noted_sight calls)) → Meets Any R Q s (noted talk sight)
  noted-ends-meet Q s sight talk each = ends-meet R Q s _ (λ t calls o run ends.
      let b = noted-back talk sight calls o ends in
      rw b.1 (each t calls o.0 run b.0))

-- ---- what is known of a job

abbrev pub OfJob : {S : Type 0} → (S → Job → Type 0) → S → Option Job → Type 0
OfJob I s None = Unit {0}
OfJob I s (Some j) = I s j

abbrev pub OfTurn : {S : Type 0} → (S → Job → Type 0) → (S → LineProgress → Type 0) → S → Turn → Type 0
OfTurn I G s (goes_on g) = G s g
OfTurn I G s (ends_with j) = I s j

-- what is known of the job alone
abbrev pub OfGoing : {S : Type 0} → (S → Job → Type 0) → S → LineProgress → Type 0
OfGoing I s g = I s g.job

-- of a job behind an answer of its reader, with the entry that the answer adds
abbrev pub AfterNext : {S : Type 0} → (S → Job → Type 0) → S → Next → Job → Type 0
AfterNext I s (Success taken) j = I s (with_sight j (Took taken))
AfterNext I s (Dropped taken) j = I s (with_sight j (Took taken))
AfterNext I s (Sync event) j = I s (with_sight j (Made event))
AfterNext I s (Again at ends) j = I s j × I s (with_sight j (AgainSight at ends))
AfterNext I s _ j = I s j

abbrev pub read_so : Job → ReaderState → List Sight → Job
read_so j r sight = record j { reading = r; sight = sight }

-- a client's command that is a call, and no more
abbrev pub is_one_call : Command → Bool
is_one_call Open = false
is_one_call (ToNext count) = false
is_one_call (Skip count) = false
is_one_call Follow = false
is_one_call Force = false
is_one_call _ = true

handed-cases : {S : Type 0} (I : S → Job → Type 0) (G : S → LineProgress → Type 0) (s : S) (left : Option ℕ)
    (k : Job) → G s (record { job = k; left = one_less left; agains = 0 }) → I s k
    → OfTurn I G s (handed (one_less left) k)
handed-cases I G s left k anew i = cond_both (is_done (one_less left)) _ _ (OfTurn I G s) (λ _. i) (λ _. anew)

-- what a turn leaves, by the ways in which a line goes on or stops
pub turn-cases : {S : Type 0} (I : S → Job → Type 0) (G : S → LineProgress → Type 0) (s : S)
    (wait : Option Waiting) (left : Option ℕ) (agains : ℕ) (next : Next) (j : Job)
    → ((k : Job) (l : Option ℕ) → I s k → G s (record { job = k; left = l; agains = 0 }))
    → ((at ends : ℕ) → next ≡ Again at ends → G s (record { job = j; left = left; agains = suc agains }))
    → ((at ends idle : ℕ) → next ≡ Again at ends → nat_le idle (suc agains) ≡ true
    → I s (with_stop (with_sight j (AgainSight at ends)) (Idle idle at)))
    → ((at : ℕ) → next ≡ Full at → I s (with_stop j (FullStop at)))
    → AfterNext I s next j → OfTurn I G s (turn_after wait left agains next j)
turn-cases I G s wait left agains (Success taken) j anew more idles full i =
    handed-cases I G s left _ (anew _ _ i) i
turn-cases I G s wait left agains (Dropped taken) j anew more idles full i =
    handed-cases I G s left _ (anew _ _ i) i
turn-cases I G s wait left agains (Sync event) j anew more idles full i =
    handed-cases I G s left _ (anew _ _ i) i
turn-cases I G s wait left agains Synced j anew more idles full i = anew j left i
turn-cases {S} I G s wait left agains (Again at ends) j anew more idles full i = by (patience wait ends)
  where
    by : (patient : Option ℕ) → OfTurn I G s (after_again patient left (suc agains) at ends j)
    by None = i.1
    by (Some idle) =
        cond_both (nat_le idle (suc agains)) _ _ (OfTurn I G s) (λ most. idles at ends idle refl most)
        (λ _. more at ends refl)
turn-cases I G s wait left agains (Full at) j anew more idles full i = full at refl
turn-cases I G s wait left agains next j anew more idles full i = i

-- where it is known of the job alone
pub turn-of : {S : Type 0} (I : S → Job → Type 0)
    → ((s : S) (j : Job) (stop : Stop) → I s j → I s (with_stop j stop))
    → (s : S) (wait : Option Waiting) (left : Option ℕ) (agains : ℕ) (next : Next) (j : Job)
    → AfterNext I s next j → OfTurn I (OfGoing I) s (turn_after wait left agains next j)
turn-of I stops s wait left agains next j h =
    let this : (n : Next) → next ≡ n → AfterNext I s n j =
    λ n e. rw e at h in
    turn-cases I (OfGoing I) s wait left agains next j (λ k l i. i) (λ at ends e. (this (Again at ends) e).0)
    (λ at ends idle e most. stops s _ (Idle idle at) (this (Again at ends) e).1)
    (λ at e. stops s j (FullStop at) (this (Full at) e)) h

module _ {S : Type 0} (R : S → Step → Answer → S → Type 0) where
  module _ (I : S → Job → Type 0) where
    -- the same of each job that a talk ends with
    pub job-ends-meet : (s : S) (talk : Talk (Option Job))
        → ((t : S) (calls : List Call) (k : Job) → Runs R s calls t → EndsWith talk calls (Some k) → I t k)
        → Meets Any R (OfJob I) s talk
    job-ends-meet s talk each = ends-meet R (OfJob I) s talk (λ t calls o run.
        elim o as (λ p. EndsWith talk calls p → OfJob I t p)
        [ None ↦ λ ends. tt | Some k ↦ each t calls k run ])

    -- what is known of a job stays so where a call is answered, and the job is what this leaves of it
    abbrev pub StaysAt : (Job → Step → Answer → Job) → Type 0
    StaysAt after = (s t : S) (j : Job) (x : Step) (a : Answer) → I s j → R s x a t → I t (after j x a)

    -- ---- single calls

    -- a command without a step does nothing, and with one makes a single call
    pub call_if-meets : (j : Job) (o : Option Step)
        → ((u v : S) (y : Step) (b : Answer) → o ≡ Some y → I u j → R u y b v → I v (after_call j y b))
        → (s : S) → I s j → Meets Any R (OfJob I) s (call_if j o)
    call_if-meets j None calls s i = i
    call_if-meets j (Some x) calls s i = (tt, λ t a allowed. calls s t x a refl i allowed)

    -- a tap makes one call or none, and ends with no job where memory ran out
    pub tap-meets : StaysAt after_tap_call → (s : S) (j : Job) (o : Option Step) → I s j
        → Meets Any R (OfJob I) s (tap_call_if j o)
    tap-meets calls s j None i = i
    tap-meets calls s j (Some x) i = (
      tt,
      λ t a allowed.
          cond_both (lacks_memory a.reply) _ _ (OfJob I t) (λ _. tt) (λ _. calls s t j x a i allowed),
    )

    stream-meets : StaysAt after_call → (stream : List Stamped) (s : S) (j : Job) → I s j
        → Meets Any R (OfJob I) s (stream_talk stream j)
    unfolding stream_talk
    stream-meets calls [] s j i = i
    stream-meets calls (stamped ∷ stream) s j i = (
      tt,
      λ t a allowed.
          let x : Step = Inject stamped.event stamped.now in
          let k : Job = after_call j x a in
          let here : I t k = calls s t j x a i allowed in
          meets-if Any R (OfJob I) t (is_accepted a.reply) (stream_talk stream k) (finish (Some k))
          (λ is. stream-meets calls stream t k here) (λ is. here),
    )

    source-meets : StaysAt after_call → (streams : List (List Stamped)) (command : Command) (s : S) (j : Job)
        → I s j → Meets Any R (OfJob I) s (source_talk streams command j)
    source-meets calls streams (Stream file index) s j i =
        stream-meets calls (stream_numbered streams index) s j i
    source-meets calls streams (Stream16 file index) s j i =
        stream-meets calls (stream_numbered streams index) s j i
    source-meets calls streams command s j i =
        call_if-meets j (step_of NO_CLIENT command) (λ u v y b is. calls u v j y b) s i

    -- a source that did not stop makes the call End, and another one none
    pub end-meets : StaysAt after_call → (stop : Option Stop) (s : S) (j : Job) → I s j
        → Meets Any R (OfJob I) s (end_talk stop j)
    end-meets calls None s j i = (tt, λ t a allowed. calls s t j End a i allowed)
    end-meets calls (Some stop) s j i = i

    -- ---- a client

    -- a start of a job is that of its reader, noted, and ends with no job where memory ran out
    pub start_job-meets : (d : Description) (s : S) (j : Job)
        → Meets Any (NotedBy R) (λ (u : S × List Sight) (o : Started × ReaderState).
        I u.0 (job_after_start o.0 o.1 u.1)) (s, j.sight) (start_talk d j.reading)
        → Meets Any R (OfJob I) s (start_job d j)
    unfolding start_job
    start_job-meets d s j h =
        let Q : S → (Started × ReaderState) × List Sight → Type 0 =
        λ t o. I t (job_after_start o.0.0 o.0.1 o.1) in
        meets-then Any R Q (OfJob I) s _ (λ o. finish (start_ends o)) (meets-noted R Q s j.sight _ h)
        (λ t o k. cond_both (start_lacks_memory o.0.0) _ _ (OfJob I t) (λ _. tt) (λ _. k))

    module _ (G : S → LineProgress → Type 0) where
      -- What is known of a job, I, stays so on each way through a line; and so does what is known of one in
      -- the midst of a line, G.
      pub record LineRules (d : Description) (role : Role) (command : Command)
          (wait : Option Waiting) : Type 0 where
        -- for an event that a source injects
        pub injects : role ≡ Source → StaysAt after_call
        -- for a single call of a client
        pub calls : role ≡ Client → is_one_call command ≡ true → (s t : S) (j : Job) (x : Step) (a : Answer)
            → step_of j.reading.client command ≡ Some x → I s j → R s x a t → I t (after_call j x a)
        -- for a call of a tap
        pub taps : role ≡ Tap → StaysAt after_tap_call
        -- for a client's start
        pub starts : role ≡ Client → (s : S) (j : Job) → I s j → Meets Any R (OfJob I) s (start_job d j)
        -- a job that is to be handed events is in the midst of a line
        pub begins : role ≡ Client → (s : S) (j : Job) (left : Option ℕ) → I s j
            → G s (record { job = j; left = left; agains = 0 })
        -- a line that does not wait has no round that does
        pub rounds : role ≡ Client → (s : S) (waits : Option Waiting) (skips : Bool) (g : LineProgress)
            → (wait ≡ None → waits ≡ None) → G s g → Meets Any R (OfTurn I G) s (next_round d waits skips g)
        -- for a synchronisation that is asked for, without a call
        pub forces : role ≡ Client → (s : S) (j : Job) → I s j → I s (forced j)
        -- for a joystick's line
        pub joys : role ≡ Joy → (s : S) (j : Job) (n : ℕ) → j.stop ≡ None → I s j
            → Meets Any R (OfJob I) s (joystick_talk d n command j)

      -- a round, by what `next` leaves
      pub round-meets : (d : Description) (s : S) (wait : Option Waiting) (skips : Bool) (g : LineProgress)
          → Meets Any (NotedBy R)
          (λ (u : S × List Sight) (o : Next × ReaderState). OfTurn I G u.0 (after_next wait g (o, u.1)))
          (s, g.job.sight) (next_talk d (mode_of skips g.job.reading.phase) g.job.reading)
          → Meets Any R (OfTurn I G) s (next_round d wait skips g)
      unfolding next_round
      round-meets d s wait skips g h =
          let talk : Talk (Next × ReaderState) = next_talk d
          (mode_of skips g.job.reading.phase) g.job.reading in
          let Q : S → (Next × ReaderState) × List Sight
          → Type 0 = λ t o. OfTurn I G t (after_next wait g o) in
          meets-then Any R Q (OfTurn I G) s _ (λ o. finish (after_next wait g o))
          (meets-noted R Q s g.job.sight talk h) (λ t o k. k)

      -- each round keeps what is known, and a line that runs out of rounds ends with no job
      pub rounds-meets : (d : Description) (wait : Option Waiting) (skips : Bool)
          → ((s : S) (g : LineProgress) → G s g → Meets Any R (OfTurn I G) s (next_round d wait skips g))
          → (n : ℕ) (s : S) (g : LineProgress) → G s g → Meets Any R (OfJob I) s (rounds d wait skips n g)
      unfolding rounds
      rounds-meets d wait skips round zero s g i = tt
      rounds-meets d wait skips round (suc n) s g i =
          meets-then Any R (OfTurn I G) (OfJob I) s (next_round d wait skips g)
          (on_turn (rounds d wait skips n)) (round s g i) (λ t turn.
          elim turn as (λ u. OfTurn I G t u → Meets Any R (OfJob I) t (on_turn (rounds d wait skips n) u)) [
            | goes_on here ↦ rounds-meets d wait skips round n t here
            | ends_with j ↦ λ h. h
          ])

      hand-meets : (d : Description) (command : Command) (wait : Option Waiting)
          → LineRules d Client command wait
          → (waits : Option Waiting) (skips : Bool) (left : Option ℕ) (n : ℕ) (s : S) (j : Job)
          → (wait ≡ None → waits ≡ None) → I s j → Meets Any R (OfJob I) s (hand_talk d waits skips left n j)
      hand-meets d command wait rules waits skips left n s j none i =
          let start : LineProgress = record { job = j; left = left; agains = 0 } in
          meets-if Any R (OfJob I) s (is_done left) (finish (Some j)) (rounds d waits skips n start) (λ is. i)
          (λ is. rounds-meets d waits skips (λ t g h. rules.rounds refl t waits skips g none h) n s start
          (rules.begins refl s j left i))

      client-meets : (d : Description) (command : Command) (wait : Option Waiting)
          → LineRules d Client command wait → (n : ℕ) (s : S) (j : Job) → I s j
          → Meets Any R (OfJob I) s (client_talk d wait n command j)
      client-meets d Open wait rules n s j i = rules.starts refl s j i
      client-meets d (ToNext count) wait rules n s j i =
          hand-meets d (ToNext count) wait rules None false (Some count) n s j (λ e. refl) i
      client-meets d (Skip count) wait rules n s j i =
          hand-meets d (Skip count) wait rules None true (Some count) n s j (λ e. refl) i
      client-meets d Follow wait rules n s j i =
          hand-meets d Follow wait rules wait false None n s j (λ e. e) i
      client-meets d Force wait rules n s j i = rules.forces refl s j i
      client-meets d command wait rules n s j i =
          call_if-meets j _ (λ u v y b is. rules.calls refl refl u v j y b is) s i

      -- ---- a line

      command-meets : (d : Description) (role : Role) (command : Command) (wait : Option Waiting)
          → LineRules d role command wait
          → (streams : List (List Stamped)) (n : ℕ) (s : S) (j : Job) → j.stop ≡ None → I s j
          → Meets Any R (OfJob I) s (command_talk role d streams wait n command j)
      command-meets d Source command wait rules streams n s j none i =
          source-meets (rules.injects refl) streams command s j i
      command-meets d Client command wait rules streams n s j none i =
          client-meets d command wait rules n s j i
      command-meets d Tap command wait rules streams n s j none i =
          tap-meets (rules.taps refl) s j (step_of j.reading.client command) i
      command-meets d Joy command wait rules streams n s j none i = rules.joys refl s j n none i
      command-meets d Owner command wait rules streams n s j none i = i

      -- a job that stopped does nothing, and another one goes by its role
      pub line-meets : (d : Description) (role : Role) (command : Command) (wait : Option Waiting)
          → LineRules d role command wait
          → (streams : List (List Stamped)) (n : ℕ) (s : S) (j : Job) → I s j
          → Meets Any R (OfJob I) s (line_talk role d streams wait n command j)
      unfolding line_talk
      line-meets d role command wait rules streams n s j i =
          (elim j.stop as (λ (stop : Option Stop). j.stop ≡ stop
          → Meets Any R (OfJob I) s (unless_stopped stop j (command_talk role d streams wait n command j))) [
            | None ↦ λ none. command-meets d role command wait rules streams n s j none i
            | Some stop ↦ λ is. i
          ]) refl
