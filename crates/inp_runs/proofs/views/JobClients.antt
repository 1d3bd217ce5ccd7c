-- Which clients the calls of a job name: each names none, or the one that the job opened last.
use Rattle.std.proofs.Common.{◌≡◌, ◌⊎◌, ℕ, true, false, List, [], ◌∷◌, ◌++◌, refl, sym, ap, subst, ◌∙◌, inl}
use Rattle.std.proofs.Common.{inr, Option, Some, None}
use Rattle.inp_reader.proofs.Meets.{meets-weaker}
use Rattle.inp_script.specs.Job.{Stick}
use Rattle.inp_script.specs.Sight.{lacks_memory}
use Rattle.inp_script.proofs.LineWalk.{meets-noted, note-meets, AfterNext, is_one_call, start_job-meets}
use Rattle.inp_script.proofs.LineWalk.{round-meets, turn-of}
use Rattle.inp_runs.proofs.Common.{Result, Ok, Err, true≢false, cond_both, same_Some, Stamped, Step, Inject}
use Rattle.inp_runs.proofs.Common.{GetKeys, GetSwitches, GetLeds, End, Reply, Opened, Description, Answer}
use Rattle.inp_runs.proofs.Common.{Call, client_of, is_open_step, Command, Tick, Inhibit, Uninhibit, Stream}
use Rattle.inp_runs.proofs.Common.{Stream16, Skip, Follow, Force, Feedback, Line, Role, Source, Client, Tap}
use Rattle.inp_runs.proofs.Common.{Joy, Owner, View, Each, Mode, Dropped, Started, NO_CLIENT, ReaderState}
use Rattle.inp_runs.proofs.Common.{queries, start_talk, stop_of, next_talk, Meets, Any, Listed, meets-ends}
use Rattle.inp_runs.proofs.Common.{listed-run, Talk, finish, EndsWith, Sight, Waiting, Job, first_job}
use Rattle.inp_runs.proofs.Common.{joying_of, step_of, after_call, source_talk, tap_client_after, tap_call_if}
use Rattle.inp_runs.proofs.Common.{tap_talk, NotedBy, OfJob, OfTurn, OfGoing, read_so, LineRules, line-meets}
use Rattle.inp_runs.proofs.Common.{last_talk, lines_talk}
use Rattle.inp_model.specs.declared.step.Step.TheVariants.{Open as ToOpen, Read as ToRead}
use Rattle.inp_model.specs.declared.step.Step.TheVariants.{Discard as ToDiscard, SyncSlots as ToSyncSlots}
use Rattle.inp_model.specs.declared.step.Step.TheVariants.{GetAxis}
use Rattle.inp_actors.specs.declared.command.Command.TheVariants.{Event as ToEvent, Open, Next as ToNext}
use Rattle.inp_reader.specs.declared.next.Next.{Next}
use Rattle.inp_reader.specs.declared.next.Next.TheVariants.{Again}
use Rattle.inp_recon.specs.Synchronised.{is_dropped}
use Rattle.inp_joy.specs.declared.joy_read.JoyRead.{JoyRead}
use Rattle.inp_joy.specs.declared.joy_read.JoyRead.TheVariants.{Again as NothingToRead}
use Rattle.inp_joy.specs.Joy.{JoyAnswer, turns}
use Rattle.inp_reader.proofs.NextWalk.{OfQueries, each-query, each-sync, AskRules, asked-meets, sync-meets}
use Rattle.inp_reader.proofs.NextWalk.{Queried, start-meets, Renewed, NextRules, next-meets, stop-cases}
use Rattle.inp_script.specs.Client.{job_after_start, after_next, mode_of}
use Rattle.inp_script.specs.DoneLine.{line_talk}
use Rattle.inp_script.specs.Joystick.{after_joy_answer, joystick_talk}
use Rattle.inp_script.proofs.JoyWalk.{AfterRead, AfterTurns, is_joy_call, JoyRules, joystick-meets}
use Rattle.inp_joy.proofs.TurnsWalk.{OfAnswer as JoyAnswers, TurnRules, turns-meets}
use Rattle.inp_runs.proofs.memory.LineTalks.{start_joystick-meets}
use Rattle.inp_runs.proofs.LinesWalk.{OfStep, any-lines, unless-keeps, source-keeps, last-keeps, lines-keep}
use Rattle.inp_runs.proofs.LinesWalk.{is_open_if}

-- A step names no client, the one that was opened last, or the number that no client has.
abbrev pub NamesOr : ℕ → Step → Type 0
NamesOr last x = (client : ℕ) → client_of x ≡ Some client → (client ≡ last) ⊎ (client ≡ NO_CLIENT)

-- it is so of each of these calls, where this client was opened last before them
unfoldable pub NameLast : ℕ → List Call → Type 0
NameLast last [] = Unit {0}
NameLast last (call ∷ calls) =
    NamesOr last call.step × NameLast (tap_client_after call.step call.answer.reply last) calls

-- the client that was opened last behind these calls
unfoldable pub last_opened : ℕ → List Call → ℕ
last_opened last [] = last
last_opened last (call ∷ calls) = last_opened (tap_client_after call.step call.answer.reply last) calls

-- the job reads as the client that was opened last; a source reads as none, and so does an owner
abbrev pub ReadsAs : Role → ℕ → Job → Type 0
ReadsAs Source last j = Unit {0}
ReadsAs Owner last j = Unit {0}
ReadsAs _ last j = last ≡ j.reading.client

names-none : (last : ℕ) (x : Step) → client_of x ≡ None → NamesOr last x
names-none last x none = λ client e. absurd cc

names-it : (last : ℕ) (x : Step) → client_of x ≡ Some last → NamesOr last x
names-it last x is = λ client e. inl (same_Some client last (sym e ∙ is))

-- the step names the client and opens none
abbrev IsNamed : ℕ → Step → Type 0
IsNamed last x = NamesOr last x × (is_open_step x ≡ false)

-- a step that opens no client leaves the one that was opened last
pub stays-last : (x : Step) (reply : Reply) (last : ℕ) → is_open_step x ≡ false
    → tap_client_after x reply last ≡ last
stays-last ToOpen reply last h = absurd cc
stays-last _ reply last h = refl

-- these calls name so, where this client was opened last before them, and behind them this one is
abbrev Named : ℕ → List Call → ℕ → Type 0
Named first calls client = NameLast first calls × (last_opened first calls ≡ client)

named-more : (first : ℕ) (s t : List Call) (client : ℕ) (x : Step) (a : Answer) → Named first s client
    → NamesOr client x → Listed s x a t → Named first t (tap_client_after x a.reply client)
unfolding NameLast last_opened
named-more first [] t client x a h of by =
    let now : ℕ → ℕ = tap_client_after x a.reply in
    rw by ((rw h.1 of, tt), ap now h.1)
named-more first (call ∷ calls) t client x a h of by =
    let after : List Call = calls ++ record { step = x; answer = a } ∷ [] in
    let more : Named (tap_client_after call.step call.answer.reply first) after
    (tap_client_after x a.reply client) =
    named-more (tap_client_after call.step call.answer.reply first) calls after client x a
    (h.0.1, h.1) of refl in
    rw by ((h.0.0, more.0), more.1)

of_queries : (d : Description) (client : ℕ) → OfQueries d client (IsNamed client)
of_queries d client = record {
  keys = λ h. (names-it client (GetKeys client) refl, refl);
  leds = λ h. (names-it client (GetLeds client) refl, refl);
  switches = λ h. (names-it client (GetSwitches client) refl, refl);
  axes = λ code h. (names-it client (GetAxis client code) refl, refl);
  slots = λ h. (names-it client (ToSyncSlots client) refl, refl);
}

abbrev SoFar : ℕ → ℕ → List Call → View → List Step → Type 0
SoFar first client s view left = Named first s client × Each (IsNamed client) left

abbrev OfStart : ℕ → List Call → Started × ReaderState → Type 0
OfStart first s o = Named first s o.1.client

-- an answer that tells of a loss has it in its event
abbrev pub Drops : Next → Type 0
Drops (Dropped taken) = is_dropped taken.event ≡ true
Drops _ = Unit {0}

abbrev OfAnswer : ℕ → List Call → Next × ReaderState → Type 0
OfAnswer first s o = Named first s o.1.client × Drops o.0

drops-stop : (reply : Reply) → Drops (stop_of reply)
drops-stop reply = stop-cases Drops reply (λ at ends is. tt) tt tt (λ at. tt)

abbrev IsReader : ℕ → List Call → ReaderState → Type 0
IsReader first s r = Named first s r.client

-- a command's step names the client, or none
names-command : (client : ℕ) (command : Command) → OfStep (NamesOr client) (step_of client command)
names-command client (ToEvent moment kind code value) = λ named e. absurd cc
names-command client (Tick moment) = λ named e. absurd cc
names-command client (Inhibit moment) = λ named e. absurd cc
names-command client Uninhibit = λ named e. absurd cc
names-command client (Stream file index) = tt
names-command client (Stream16 file index) = tt
names-command client Open = λ named e. absurd cc
names-command client (ToNext count) = tt
names-command client (Skip count) = tt
names-command client Follow = tt
names-command client Force = tt
names-command client (Feedback count) = tt
names-command client _ = λ named e. inl (same_Some named client (sym e))

shut-command : (client : ℕ) (command : Command) → (command ≡ Open → ⊥)
    → is_open_if (step_of client command) ≡ false
shut-command client Open h = absurd (h refl)
shut-command client _ h = refl

one_call : (client : ℕ) (command : Command) (x : Step) → step_of client command ≡ Some x
    → (command ≡ Open → ⊥) → IsNamed client x
one_call client command x is other =
    subst (OfStep (IsNamed client)) is
    (both (step_of client command) (names-command client command) (shut-command client command other))
  where
    both : (o : Option Step) → OfStep (NamesOr client) o → is_open_if o ≡ false → OfStep (IsNamed client) o
    both None h shut = tt
    both (Some y) h shut = (h, shut)

-- the calls so far name so, and the job reads as the client opened last
abbrev Reads : Role → ℕ → List Call → Job → Type 0
Reads role first s j = NameLast first s × ReadsAs role (last_opened first s) j

-- it is so of the job that a talk leaves, if there is one
abbrev Keeps : Role → ℕ → List Call → Talk (Option Job) → Type 0
Keeps role first s talk = Meets Any Listed (OfJob (Reads role first)) s talk

module _ (first : ℕ) where
  named-none : Named first [] first
  unfolding NameLast last_opened
  named-none = (tt, refl)

  -- a step that names the client and opens none
  named-by : (s t : List Call) (client : ℕ) (x : Step) (a : Answer) → Named first s client → IsNamed client x
      → Listed s x a t → Named first t client
  named-by s t client x a h of by =
      subst (Named first t) (stays-last x a.reply client of.1) (named-more first s t client x a h of.0 by)

  named-asks : (client : ℕ) (Q : List Call → Result View Reply → Type 0)
      → ((s : List Call) (view : View) → Named first s client → Q s (Ok view))
      → ((s : List Call) (reply : Reply) → Named first s client → Q s (Err reply))
      → AskRules Any Listed (SoFar first client) Q
  named-asks client Q whole stopped = record {
    asks = λ s view x xs j. tt;
    told = λ s t view x xs a j by is. (named-by s t client x a j.0 j.1.0 by, j.1.1);
    stopped = λ s t view x xs a j by is. stopped t a.reply (named-by s t client x a j.0 j.1.0 by);
    whole = λ s view j. whole s view j.0;
  }

  names-start : (d : Description) (r : ReaderState) (s : List Call) → Named first s r.client
      → Meets Any Listed (OfStart first) s (start_talk d r)
  names-start d r s h =
      start-meets Any Listed (OfStart first) d r s (record {
        asks_open = tt;
        opened = λ t a at client ring by is.
            asked-meets Any Listed (SoFar first client) (Queried (OfStart first) client ring r)
            (named-asks client (Queried (OfStart first) client ring r) (λ u view k. k) (λ u reply k. k)) t
            (queries d client) r.view
            (rw is at (opens t a by), each-query d client (IsNamed client) (of_queries d client));
        refused = λ t a by other. subst (Named first t) (unopened a.reply other) (opens t a by);
      })
    where
      opens : (t : List Call) (a : Answer) → Listed s ToOpen a t
          → Named first t (tap_client_after ToOpen a.reply r.client)
      opens t a by = named-more first s t r.client ToOpen a h (names-none r.client ToOpen refl) by

      unopened : (reply : Reply) → ((at client ring : ℕ) → reply ≡ Opened at client ring → ⊥)
          → tap_client_after ToOpen reply r.client ≡ r.client
      unopened (Opened at client ring) other = absurd (other at client ring refl)
      unopened _ other = refl

  names-rules : (d : Description) (mode : Mode)
      → NextRules Any Listed (IsReader first) (OfAnswer first) d mode
  names-rules d mode = record {
    asks_read = λ s r h. tt;
    reads = λ s t r a h plain none by is. read s t r a h by;
    stops = λ s t r a h plain none by is. (read s t r a h by, drops-stop a.reply);
    hands = λ s r taken rest h plain q is. (h, tt);
    loses = λ s r taken rest h plain q is. (h, is);
    empty = λ s r h plain q. (h, tt);
    idles = λ s r h plain is. (h, tt);
    syncs = λ s r h needed.
        let Q : List Call → Result View Reply → Type 0 = Renewed (IsReader first) (OfAnswer first) r in
        sync-meets Any Listed (SoFar first r.client) Q d s r
        (named-asks r.client Q (λ u view k. k) (λ u reply k. (k, drops-stop reply))) (
          h,
          each-sync d r.client (IsNamed r.client) (names-it r.client (ToDiscard r.client) refl, refl)
              (of_queries d r.client),
        );
    makes = λ s r event left h handing sync is. (h, tt);
    made_all = λ s r h handing sync is. (h, tt);
    goes_on = λ s r h handing is. h;
  }
    where
      read : (s t : List Call) (r : ReaderState) (a : Answer) → Named first s r.client
          → Listed s (ToRead r.client 64) a t → Named first t r.client
      read s t r a h by =
          named-by s t r.client (ToRead r.client 64) a h
          (names-it r.client (ToRead r.client 64) refl, refl) by

  names-next : (d : Description) (mode : Mode) (r : ReaderState) (s : List Call) → Named first s r.client
      → Meets Any Listed (OfAnswer first) s (next_talk d mode r)
  names-next d mode r s h =
      next-meets Any Listed (IsReader first) (OfAnswer first) d mode (names-rules d mode) s r h

  -- a step that names no client
  no-client : (s t : List Call) (j k : Job) (x : Step) (a : Answer) → Reads Source first s j
      → NamesOr NO_CLIENT x → Listed s x a t → Reads Source first t k
  no-client s t j k x a h of by = (
    (named-more first s t (last_opened first s) x a (h.0, refl)
        (λ client e. none client (of client e)) by).0,
    tt,
  )
    where
      none : (client : ℕ) → (client ≡ NO_CLIENT) ⊎ (client ≡ NO_CLIENT)
          → (client ≡ last_opened first s) ⊎ (client ≡ NO_CLIENT)
      none client (inl is) = inr is
      none client (inr is) = inr is

  names-tap : (j : Job) (o : Option Step) (s : List Call) → OfStep (NamesOr j.reading.client) o
      → Reads Tap first s j → Keeps Tap first s (tap_call_if j o)
  names-tap j None s of h = h
  names-tap j (Some x) s of h = (
    tt,
    λ t a by. cond_both (lacks_memory a.reply) _ _ (OfJob (Reads Tap first) t) (λ _. tt)
        (λ _. named-more first s t j.reading.client x a h of by),
  )

  client-rules : (d : Description) (command : Command) (wait : Option Waiting)
      → LineRules Listed (Reads Client first) (OfGoing (Reads Client first)) d Client command wait
  client-rules d command wait = record {
    injects = λ e. absurd cc;
    calls = λ e one s t j x a is h by.
        named-by s t j.reading.client x a h
        (one_call j.reading.client command x is (λ o. true≢false (sym one ∙ ap is_one_call o))) by;
    taps = λ e. absurd cc;
    starts = λ e s j h. start_job-meets Listed (Reads Client first) d s j
        (note-meets Listed (OfStart first) s j.sight (start_talk d j.reading) (names-start d j.reading s h));
    begins = λ e s j left h. h;
    rounds = λ e s waits skips g none h.
        let talk : Talk (Next × ReaderState) = next_talk d
        (mode_of skips g.job.reading.phase) g.job.reading in
        round-meets Listed (Reads Client first) (OfGoing (Reads Client first)) d s waits skips g
        (meets-weaker Any (NotedBy Listed)
        (λ (u : List Call × List Sight) (o : Next × ReaderState). OfAnswer first u.0 o)
        (λ (u : List Call × List Sight) (o : Next × ReaderState).
        OfTurn (Reads Client first) (OfGoing (Reads Client first)) u.0 (after_next waits g (o, u.1)))
        (s, g.job.sight) talk
        (note-meets Listed (OfAnswer first) s g.job.sight talk
        (names-next d (mode_of skips g.job.reading.phase) g.job.reading s h))
        (λ u o k. turn-of (Reads Client first) (λ v j stop i. i) u.0 waits g.left g.agains o.0
        (read_so g.job o.1 u.1) (of_next u.0 o.0 (read_so g.job o.1 u.1) k.0)));
    forces = λ e s j h. h;
    joys = λ e. absurd cc;
  }
    where
      of_next : (s : List Call) (next : Next) (j : Job) → Reads Client first s j
          → AfterNext (Reads Client first) s next j
      of_next s (Again at ends) j h = (h, h)
      of_next s _ j h = h

  turn-rules : (d : Description)
      → TurnRules Any Listed (IsReader first) (OfAnswer first) (λ s read r. IsReader first s r) d
  turn-rules d = record {
    nexts = λ s mode r h. names-next d mode r s h;
    stops = λ s next r read h is. h.0;
    continues = λ s next r h is. h.0;
    hands = λ s r h. h;
    frames = λ s r place h. h;
    longs = λ s r h. h;
  }

  joy-rules : (d : Description) (command : Command) → JoyRules Listed (Reads Joy first) d command
  joy-rules d command = record {
    starts = λ s j h.
        start_joystick-meets Listed (Reads Joy first) d s j
        (meets-weaker Any (NotedBy Listed)
        (λ (u : List Call × List Sight) (o : Started × ReaderState). OfStart first u.0 o)
        (λ (u : List Call × List Sight) (o : Started × ReaderState). (stick : Stick)
        → Reads Joy first u.0 (record (job_after_start o.0 o.1 u.1) { stick = stick }))
        (s, j.sight) (start_talk d j.reading)
        (note-meets Listed (OfStart first) s j.sight (start_talk d j.reading) (names-start d j.reading s h))
        (λ u o k stick. k));
    reads = λ s j most h.
        let talk : Talk (Option JoyAnswer) = turns d most 0 (joying_of j) in
        meets-noted Listed (λ (t : List Call) (o : Option JoyAnswer × List Sight).
        AfterTurns (Reads Joy first) j t o.0 o.1) s j.sight talk
        (meets-weaker Any (NotedBy Listed)
        (λ (u : List Call × List Sight) (o : Option JoyAnswer). Answers u.0 o)
        (λ (u : List Call × List Sight) (o : Option JoyAnswer). AfterTurns (Reads Joy first) j u.0 o u.1)
        (s, j.sight) talk
        (note-meets Listed Answers s j.sight talk
        (turns-meets Any Listed (IsReader first) (OfAnswer first) (λ t read r. IsReader first t r) d
        (turn-rules d) most 0 s (joying_of j) h))
        (λ u o k. of_turns j u.0 u.1 o k));
    calls = λ one s t j x a is h by.
        named-by s t j.reading.client x a h
        (one_call j.reading.client command x is (λ o. true≢false (sym one ∙ ap is_joy_call o))) by;
  }
    where
      Answers : List Call → Option JoyAnswer → Type 0
      Answers s o = JoyAnswers (λ (t : List Call) (read : JoyRead) (r : ReaderState). IsReader first t r) s o

      of_read : (s : List Call) (read : JoyRead) (j : Job) → Reads Joy first s j
          → AfterRead (Reads Joy first) s read j
      of_read s (NothingToRead at ends) j h = h
      of_read s _ j h = h

      of_turns : (j : Job) (s : List Call) (sight : List Sight) (o : Option JoyAnswer) → Answers s o
          → AfterTurns (Reads Joy first) j s o sight
      of_turns j s sight None h = tt
      of_turns j s sight (Some answer) h = of_read s answer.read (after_joy_answer j answer sight) h

  names-line : (role : Role) (d : Description) (streams : List (List Stamped)) (wait : Option Waiting) (n : ℕ)
      (command : Command) (j : Job) (s : List Call) → Reads role first s j
      → Keeps role first s (line_talk role d streams wait n command j)
  unfolding line_talk
  names-line Source d streams wait n command j s h =
      unless-keeps Listed (Reads Source first) j.stop s j (source_talk streams command j) h
      (source-keeps Listed (Reads Source first) (NamesOr NO_CLIENT)
      (λ u t k x a of had. no-client u t k (after_call k x a) x a had of)
      (λ stamped. names-none NO_CLIENT (Inject stamped.event stamped.now) refl) streams command
      (names-command NO_CLIENT command) s j h)
  names-line Client d streams wait n command j s h =
      line-meets Listed (Reads Client first) (OfGoing (Reads Client first)) d Client command wait
      (client-rules d command wait) streams n s j h
  names-line Tap d streams wait n command j s h =
      unless-keeps Listed (Reads Tap first) j.stop s j (tap_talk command j) h
      (names-tap j (step_of j.reading.client command) s (names-command j.reading.client command) h)
  names-line Joy d streams wait n command j s h =
      unless-keeps Listed (Reads Joy first) j.stop s j (joystick_talk d n command j) h
      (joystick-meets Listed (Reads Joy first) d command (joy-rules d command) n s j h)
  names-line Owner d streams wait n command j s h =
      unless-keeps Listed (Reads Owner first) j.stop s j (finish (Some j)) h h

  names-last : (wait : Option Waiting) (role : Role) (s : List Call) (j : Job) → Reads role first s j
      → Keeps role first s (last_talk wait role j)
  names-last wait role s j h =
      last-keeps Listed (Reads role first) wait role s j
      (λ e t a by. rw e
      (no-client s t j (after_call j End a) End a (rw e at h) (names-none NO_CLIENT End refl) by)) h

-- the client that a reader's calls opened last
pub start-names : (d : Description) (r s : ReaderState) (started : Started) (calls : List Call)
    → EndsWith (start_talk d r) calls (started, s) → last_opened r.client calls ≡ s.client
start-names d r s started calls h =
    (meets-ends Any Listed (OfStart r.client) [] calls (start_talk d r) calls (started, s)
    (names-start r.client d r [] (named-none r.client)) (listed-run [] calls) h).1

-- a next opens no client, and what it answers as a loss is a SYN_DROPPED
pub next-names : (d : Description) (mode : Mode) (r s : ReaderState) (next : Next) (calls : List Call)
    → EndsWith (next_talk d mode r) calls (next, s) → (last_opened r.client calls ≡ s.client) × Drops next
next-names d mode r s next calls h =
    let k : OfAnswer r.client calls (next, s) =
    meets-ends Any Listed (OfAnswer r.client) [] calls (next_talk d mode r) calls (next, s)
    (names-next r.client d mode r [] (named-none r.client)) (listed-run [] calls) h in (k.0.1, k.1)

first-reads : (role : Role) (d : Description) → ReadsAs role NO_CLIENT (first_job role d)
first-reads Source d = tt
first-reads Owner d = tt
first-reads _ d = refl

-- before the first line a job has opened no client, and then the calls of its lines name so
pub job-names : (role : Role) (d : Description) (streams : List (List Stamped)) (wait : Option Waiting)
    (n : ℕ) (lines : List Line) (k : Job) (calls : List Call)
    → EndsWith (lines_talk role d streams wait n lines (first_job role d)) calls (Some k)
    → NameLast NO_CLIENT calls × ReadsAs role (last_opened NO_CLIENT calls) k
job-names role d streams wait n lines k calls h =
    meets-ends Any Listed (OfJob (Reads role NO_CLIENT)) [] calls
    (lines_talk role d streams wait n lines (first_job role d)) calls (Some k)
    (lines-keep Listed (Reads role NO_CLIENT) (λ command. Unit {0}) role d streams wait n
    (λ command any s j had. names-line NO_CLIENT role d streams wait n command j s had)
    (names-last NO_CLIENT wait role)
    lines (any-lines lines) [] (first_job role d) first) (listed-run [] calls) h
  where
    first : Reads role NO_CLIENT [] (first_job role d)
    first =
        let none : Named NO_CLIENT [] NO_CLIENT = named-none NO_CLIENT in
        (none.0, rw none.1 (first-reads role d))
