-- What a line that does not wait leaves of a job: a view of the device's size, and a sight that tells of all
-- calls.
use Rattle.std.proofs.Common.{◌≡◌, ℕ, Bool, List, [], ◌∷◌, ◌++◌, map, sym, ap, ◌∙◌, append-nil, Option, Some}
use Rattle.std.proofs.Common.{None, refl}
use Rattle.inp_recon.specs.View.{view_after_answer}
use Rattle.inp_reader.specs.ReaderPlace.{is_needed}
use Rattle.inp_script.specs.Job.{Stick, with_joying}
use Rattle.inp_script.specs.Line.{event_of_taken, after_tap_call}
use Rattle.inp_script.specs.Sight.{sight_of_call, start_lacks_memory, stop_after_start}
use Rattle.inp_script.proofs.Told.{no_calls_taken, call_kept, again_kept}
use Rattle.inp_reader.proofs.Meets.{meets-weaker}
use Rattle.inp_script.proofs.LineWalk.{meets-noted, start_job-meets, round-meets}
use Rattle.inp_runs.proofs.Common.{filter, filter-append, cond_both, Stamped, Step, Description, Answer}
use Rattle.inp_runs.proofs.Common.{answer, Command, Line, Role, IsSizedFor, IsSizedFor-after_events, Mode}
use Rattle.inp_runs.proofs.Common.{Success, Dropped, Sync, Started, ReaderState, start_talk, next_talk, Talk}
use Rattle.inp_runs.proofs.Common.{finish, and_then, Sight, Took, line_talk, Job, joying_of, is_call_entry}
use Rattle.inp_runs.proofs.Common.{after_call, call_sight, again_sight, taken_sight, noted, lines_talk, Meets}
use Rattle.inp_runs.proofs.Common.{Any, meets-then, NotedBy, OfJob, OfTurn, OfGoing, read_so, LineRules}
use Rattle.inp_runs.proofs.Common.{line-meets}
use Rattle.inp_reader.specs.declared.next.Next.{Next}
use Rattle.inp_reader.specs.declared.next.Next.TheVariants.{Again}
use Rattle.inp_reader.specs.declared.started.Started.TheVariants.{Opened, Refused}
use Rattle.inp_joy.specs.declared.joy_read.JoyRead.{JoyRead}
use Rattle.inp_joy.specs.declared.joy_read.JoyRead.TheVariants.{Again as NothingToRead}
use Rattle.inp_joy.specs.declared.joy_record.JoyRecord.{JoyRecord}
use Rattle.inp_joy.specs.JoyRecord.{bytes_of_record}
use Rattle.inp_joy.specs.Joy as joy
use Rattle.inp_joy.specs.Joy.{JoystickState, JoyAnswer, with_reading, joy_started, joy_start, turns}
use Rattle.inp_joy.proofs.TurnsWalk.{OfAnswer, TurnRules, turns-meets}
use Rattle.inp_script.specs.declared.sight.Sight.TheVariants.{Again as AgainSight, Made, Record}
use Rattle.inp_script.specs.Client.{job_after_start, LineProgress, Turn, handed, one_less, is_done}
use Rattle.inp_script.specs.Client.{turn_after}
use Rattle.inp_script.specs.Client.{after_next, mode_of, with_sight, next_round}
use Rattle.inp_script.specs.Joystick.{record_sight, after_joy_start, start_joystick, after_joy_answer}
use Rattle.inp_runs.proofs.Entries.{call_entries}
use Rattle.inp_script.proofs.JoyWalk.{AfterRead, AfterTurns, joystick-meets}
use Rattle.inp_runs.proofs.memory.ReaderTalks.{EntriesBy, Leaves, Both, IsSizedReader, LeavesNext, IsStarted}
use Rattle.inp_runs.proofs.memory.ReaderTalks.{IsNext, again_of, sized-answered, answers-start, answers-next}
use Rattle.inp_runs.proofs.LinesWalk.{any-lines, lines-keep}

-- the job's view has the device's slots, and its sight tells of these calls
abbrev pub IsKept : Description → Job → List Sight → Type 0
IsKept d j entries = IsSizedFor d.slots j.reading.view × (filter is_call_entry j.sight ≡ entries)

abbrev KeptAt : Description → List Sight → Job → Type 0
KeptAt d entries j = IsKept d j entries

abbrev pub IsKeptIfSome : Description → Option Job → List Sight → Type 0
IsKeptIfSome d o entries = OfJob (KeptAt d) entries o

call_told : (x : Step) (a : Answer) (sight entries : List Sight) → filter is_call_entry sight ≡ entries
    → filter is_call_entry (sight ++ sight_of_call x a.reply a.events) ≡ entries ++ call_entries x a.reply
call_told x a sight entries same =
    let calls : List Sight = call_sight x a.reply in
    let agains : List Sight = again_sight a.reply in
    let events : List Sight = map taken_sight a.events in
    let parts : filter is_call_entry ((calls ++ agains) ++ events) ≡ calls ++ agains =
    rw (filter-append, filter-append, call_kept, again_kept, no_calls_taken) (append-nil (calls ++ agains)) in
    rw (filter-append, same, parts)

module _ (d : Description) (s t : List Sight) (j : Job) (x : Step) (a : Answer) (h : KeptAt d s j)
    (by : EntriesBy d s x a t) where
  kept-call : KeptAt d t (after_call j x a)
  kept-call = (h.0, call_told x a j.sight s h.1 ∙ sym by.1)

  kept-tap_call : KeptAt d t (after_tap_call j x a)
  kept-tap_call =
      let sized : IsSizedFor d.slots (view_after_answer j.reading.view x a.reply a.cells) =
      rw by.0.1 (sized-answered d by.0.0 x j.reading.view h.0) in (
        IsSizedFor-after_events d.slots (view_after_answer j.reading.view x a.reply a.cells)
            (map event_of_taken a.events) sized,
        call_told x a j.sight s h.1 ∙ sym by.1,
      )

abbrev IsKeptTurn : Description → Turn → List Sight → Type 0
IsKeptTurn d turn entries = OfTurn (KeptAt d) (OfGoing (KeptAt d)) entries turn

silent : (sight entries : List Sight) → filter is_call_entry sight ++ [] ≡ entries
    → filter is_call_entry sight ≡ entries
silent sight entries h = sym (append-nil (filter is_call_entry sight)) ∙ h

-- where a read answers Again there is one entry more
abbrev again_of_read : JoyRead → List Sight
again_of_read (NothingToRead at ends) = AgainSight at ends ∷ []
again_of_read _ = []

abbrev again_if : Option JoyRead → List Sight
again_if None = []
again_if (Some read) = again_of_read read

again_same : (next : Next) → again_if (joy.joy_read_of next) ≡ again_of next
again_same (Again at ends) = refl
again_same _ = refl

abbrev AtBoth : {A : Type 0} → (A → List Sight → List Sight → Type 0) → Both → A → Type 0
AtBoth P u a = P a (filter is_call_entry u.1) u.0

abbrev LeavesRead : Description → Both → JoyRead → ReaderState → Type 0
LeavesRead d u read r = IsSizedFor d.slots r.view × (filter is_call_entry u.1 ++ again_of_read read ≡ u.0)

-- records are no calls
record_told : (sight : List Sight) (out : Option JoyRecord)
    → filter is_call_entry (sight ++ record_sight out) ≡ filter is_call_entry sight
record_told sight None = ap (filter is_call_entry) (append-nil sight)
record_told sight (Some r) =
    filter-append is_call_entry sight (Record (bytes_of_record r) ∷ [])
    ∙ append-nil (filter is_call_entry sight)

-- a start, by what its reader leaves, whatever is left of a startup then
pub start_joystick-meets : {S : Type 0} (R : S → Step → Answer → S → Type 0) (I : S → Job → Type 0) (d :
    Description) (s : S) (j : Job)
    → Meets Any (NotedBy R) (λ (u : S × List Sight) (o : Started × ReaderState). (stick : Stick) → I u.0
    (record (job_after_start o.0 o.1 u.1) { stick = stick })) (s, j.sight) (start_talk d j.reading)
    → Meets Any R (OfJob I) s (start_joystick d j)
unfolding start_joystick joy_start
start_joystick-meets {S} R I d s j h =
    let joins : Started × ReaderState → Talk (Started × JoystickState) = λ o. finish
    (joy_started d (joying_of j) o) in
    let talk : Talk (Started × JoystickState) = and_then (start_talk d j.reading) joins in
    let N : S → (Started × JoystickState) × List Sight → Type 0 = λ t o. I t
    (record (with_joying j o.0.1) { sight = o.1; stop = stop_after_start o.0.0 }) in
    meets-then Any R N (OfJob I) s (noted talk j.sight) (λ o. finish (after_joy_start j o))
    (meets-noted R N s j.sight talk
    (meets-then Any (NotedBy R) Left (λ (u : S × List Sight) (o : Started × JoystickState). N u.0 (o, u.1))
    (s, j.sight) (start_talk d j.reading) joins h (λ u o left. of_start u o.0 o.1 left)))
    (λ t o k. cond_both (start_lacks_memory o.0.0) _ _ (OfJob I t) (λ _. tt) (λ _. k))
  where
    Left : S × List Sight → Started × ReaderState → Type 0
    Left u o = (stick : Stick) → I u.0 (record (job_after_start o.0 o.1 u.1) { stick = stick })

    of_start : (u : S × List Sight) (started : Started) (r : ReaderState) → Left u (started, r)
        → I u.0 (record (with_joying j (joy.joying_after_start d (with_reading (joying_of j) r) started))
        { sight = u.1; stop = stop_after_start started })
    of_start u (Opened client ring) r left = left _
    of_start u (Refused at why) r left =
        cond_both (is_needed r.phase) _ _
        (λ (k : JoystickState). I u.0
        (record (with_joying j k) { sight = u.1; stop = stop_after_start (Refused at why) }))
        (λ _. left _) (λ _. left _)

module _ (d : Description) where
  kept_handed : (left : Option ℕ) (j : Job) (entries : List Sight) → IsKept d j entries
      → IsKeptTurn d (handed left j) entries
  kept_handed left j entries h = cond_both (is_done left) _ _ (λ x. IsKeptTurn d x entries) (λ _. h) (λ _. h)

  kept_turn : (left : Option ℕ) (agains : ℕ) (next : Next) (j : Job) (entries : List Sight)
      → IsSizedFor d.slots j.reading.view → filter is_call_entry j.sight ++ again_of next ≡ entries
      → IsKeptTurn d (turn_after None left agains next j) entries
  kept_turn left agains (Success taken) j entries sized h =
      kept_handed (one_less left) (with_sight j (Took taken)) entries
      (sized, filter-append is_call_entry j.sight (Took taken ∷ []) ∙ h)
  kept_turn left agains (Dropped taken) j entries sized h =
      kept_handed (one_less left) (with_sight j (Took taken)) entries
      (sized, filter-append is_call_entry j.sight (Took taken ∷ []) ∙ h)
  kept_turn left agains (Sync event) j entries sized h =
      kept_handed (one_less left) (with_sight j (Made event)) entries
      (sized, filter-append is_call_entry j.sight (Made event ∷ []) ∙ h)
  kept_turn left agains (Again at ends) j entries sized h =
      (sized, filter-append is_call_entry j.sight (AgainSight at ends ∷ []) ∙ h)
  kept_turn left agains _ j entries sized h = (sized, silent j.sight entries h)

  kept-round : (s : List Sight) (skips : Bool) (g : LineProgress) → KeptAt d s g.job
      → Meets Any (EntriesBy d) (OfTurn (KeptAt d) (OfGoing (KeptAt d))) s (next_round d None skips g)
  kept-round s skips g h =
      let mode : Mode = mode_of skips g.job.reading.phase in
      round-meets (EntriesBy d) (KeptAt d) (OfGoing (KeptAt d)) d s None skips g
      (meets-weaker Any (NotedBy (EntriesBy d))
      (λ (u : Both) (o : Next × ReaderState). IsNext d o (filter is_call_entry u.1) u.0)
      (λ (u : Both) (o : Next × ReaderState). IsKeptTurn d (after_next None g (o, u.1)) u.0)
      (s, g.job.sight) (next_talk d mode g.job.reading)
      (answers-next d mode g.job.reading (s, g.job.sight) h.0 h.1)
      (λ u o k. kept_turn g.left g.agains o.0 (read_so g.job o.1 u.1) u.0 k.0 k.1))

  turn-rules : TurnRules Any (NotedBy (EntriesBy d)) (IsSizedReader d) (LeavesNext d) (LeavesRead d) d
  turn-rules = record {
    nexts = λ u mode r h. answers-next d mode r u h.0 h.1;
    stops = λ u next r read h is. (h.0, same_agains u next (Some read) is ∙ h.1);
    continues = λ u next r h is.
        (h.0, sym (append-nil (filter is_call_entry u.1)) ∙ same_agains u next None is ∙ h.1);
    hands = λ u r h. (h.0, append-nil (filter is_call_entry u.1) ∙ h.1);
    frames = λ u r place h. (h.0, append-nil (filter is_call_entry u.1) ∙ h.1);
    longs = λ u r h. (h.0, append-nil (filter is_call_entry u.1) ∙ h.1);
  }
    where
      same_agains : (u : Both) (next : Next) (o : Option JoyRead) → joy.joy_read_of next ≡ o
          → filter is_call_entry u.1 ++ again_if o ≡ filter is_call_entry u.1 ++ again_of next
      same_agains u next o is = rw (← is, again_same)

  kept-read : (s : List Sight) (j : Job) (most : ℕ) → KeptAt d s j
      → Meets Any (EntriesBy d)
      (λ (t : List Sight) (o : Option JoyAnswer × List Sight). AfterTurns (KeptAt d) j t o.0 o.1) s
      (noted (turns d most 0 (joying_of j)) j.sight)
  kept-read s j most h =
      let Q : List Sight → Option JoyAnswer × List Sight → Type 0 =
      λ t o. AfterTurns (KeptAt d) j t o.0 o.1 in
      meets-noted (EntriesBy d) Q s j.sight (turns d most 0 (joying_of j))
      (meets-weaker Any (NotedBy (EntriesBy d)) (OfAnswer (LeavesRead d))
      (λ (u : Both) (o : Option JoyAnswer). AfterTurns (KeptAt d) j u.0 o u.1) (s, j.sight)
      (turns d most 0 (joying_of j))
      (turns-meets Any (NotedBy (EntriesBy d)) (IsSizedReader d) (LeavesNext d) (LeavesRead d) d
      turn-rules most 0 (s, j.sight) (joying_of j) h) (λ u o k. of_turns u o k))
    where
      of_read : (es : List Sight) (read : JoyRead) (here : Job) → IsSizedFor d.slots here.reading.view
          → filter is_call_entry here.sight ++ again_of_read read ≡ es → AfterRead (KeptAt d) es read here
      of_read es (NothingToRead at ends) here sized told =
          (sized, filter-append is_call_entry here.sight (AgainSight at ends ∷ []) ∙ told)
      of_read es _ here sized told = (sized, silent here.sight es told)

      of_turns : (u : Both) (o : Option JoyAnswer) → OfAnswer (LeavesRead d) u o
          → AfterTurns (KeptAt d) j u.0 o u.1
      of_turns u None k = tt
      of_turns u (Some answer) k =
          of_read u.0 answer.read (after_joy_answer j answer u.1) k.0 (rw record_told k.1)

  kept-joy_start : (s : List Sight) (j : Job) → KeptAt d s j
      → Meets Any (EntriesBy d) (OfJob (KeptAt d)) s (start_joystick d j)
  kept-joy_start s j h =
      start_joystick-meets (EntriesBy d) (KeptAt d) d s j
      (meets-weaker Any (NotedBy (EntriesBy d)) (AtBoth (IsStarted d))
      (λ (u : Both) (o : Started × ReaderState). (stick : Stick) → KeptAt d u.0
      (record (job_after_start o.0 o.1 u.1) { stick = stick }))
      (s, j.sight) (start_talk d j.reading) (answers-start d j.reading (s, j.sight) h.0 h.1)
      (λ u o k stick. k))

kept-rules : (role : Role) (d : Description) (command : Command)
    → LineRules (EntriesBy d) (KeptAt d) (OfGoing (KeptAt d)) d role command None
kept-rules role d command = record {
  injects = λ e. kept-call d;
  calls = λ e one s t j x a is. kept-call d s t j x a;
  taps = λ e. kept-tap_call d;
  starts = λ e s j h. start_job-meets (EntriesBy d) (KeptAt d) d s j
      (answers-start d j.reading (s, j.sight) h.0 h.1);
  begins = λ e s j left h. h;
  rounds = λ e s waits skips g none h. rw none (kept-round d s skips g h);
  forces = λ e s j h. h;
  joys = λ e s j n none h.
      joystick-meets (EntriesBy d) (KeptAt d) d command
      (record {
        starts = kept-joy_start d;
        reads = kept-read d;
        calls =
            λ one u v k x a is. kept-call d u v k x a;
      }) n s j h;
}

-- each call of a line leaves the view's size as it was and adds its own entry to the sight
pub leaves-line : (role : Role) (d : Description) (streams : List (List Stamped)) (n : ℕ) (command : Command)
    (j : Job) (entries : List Sight) → IsKept d j entries
    → Leaves d (IsKeptIfSome d) entries (line_talk role d streams None n command j)
leaves-line role d streams n command j entries h =
    line-meets (EntriesBy d) (KeptAt d) (OfGoing (KeptAt d)) d role command None
    (kept-rules role d command) streams n entries j h

-- each line leaves the view's size as it was and tells of its calls, and so do all in a row
pub leaves-lines : (role : Role) (d : Description) (streams : List (List Stamped)) (n : ℕ) (lines : List Line)
    (j : Job) (entries : List Sight) → IsKept d j entries
    → Leaves d (IsKeptIfSome d) entries (lines_talk role d streams None n lines j)
leaves-lines role d streams n lines j entries h =
    lines-keep (EntriesBy d) (KeptAt d) (λ command. Unit {0}) role d streams None n
    (λ command any s k. leaves-line role d streams n command k s) (λ s k i. i) lines (any-lines lines) entries
    j h
