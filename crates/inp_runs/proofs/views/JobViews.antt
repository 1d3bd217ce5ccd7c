-- At each report that a job took, its view is its client's in the history, and each loss that it took has its
-- cause.
use Rattle.std.proofs.Common.{◌≡◌, ◌<◌, inl, inr, ℕ, true, false, ◌||◌, List, [], ◌∷◌, ◌++◌, length, take}
use Rattle.std.proofs.Common.{reverse, suc, refl, sym, subst, arith, append-nil, Option, Some, None, not}
use Rattle.std.specs.Prelude.{slice_get}
use Rattle.inp_script.proofs.LineWalk.{noted-ends-meet}
use Rattle.inp_runs.specs.JobViews.{sight_view}
use Rattle.inp_runs.proofs.Common.{list_any, eq-eqb, Stamped, Taken, Step, End, Opened, Description, past_at}
use Rattle.inp_runs.proofs.Common.{Answer, IsAnswer, Call, IsLegalRun, place_of, HasPlace, ActorText, Command}
use Rattle.inp_runs.proofs.Common.{Tick, Inhibit, Uninhibit, Stream, Stream16, Line, Role, Source, Client}
use Rattle.inp_runs.proofs.Common.{Tap, Joy, Owner, is_command_of, is_joy, is_owner, RecordView, IsRecord}
use Rattle.inp_runs.proofs.Common.{IsHistory, Each, NO_CLIENT, is_read, Talk, finish, EndsWith, Sight}
use Rattle.inp_runs.proofs.Common.{Waiting, Job, JobView, first_job, joying_of, step_of, after_call}
use Rattle.inp_runs.proofs.Common.{source_talk, tap_talk, Any, meets-ends, Meets, OfJob, job-ends-meet}
use Rattle.inp_runs.proofs.Common.{OfGoing, line-meets, noted_sight, lines_by, last_talk, lines_talk, AreTold}
use Rattle.inp_runs.proofs.Common.{IsSizedFor, IsSizedFor-first_view}
use Rattle.inp_actors.specs.declared.command.Command.TheVariants.{Event as ToEvent, Close}
use Rattle.inp_joy.specs.declared.joy_read.JoyRead.{JoyRead}
use Rattle.inp_joy.specs.declared.joy_read.JoyRead.TheVariants.{Again as NothingToRead}
use Rattle.inp_joy.specs.declared.joy_record.JoyRecord.{JoyRecord}
use Rattle.inp_joy.specs.JoyRecord.{bytes_of_record}
use Rattle.inp_joy.specs.Joy.{JoyAnswer, turns}
use Rattle.inp_reader.proofs.ClientViews.{no_read-takes}
use Rattle.inp_reader.proofs.PastsAtCalls.{AreAllOwn}
use Rattle.inp_script.specs.declared.sight.Sight.TheVariants.{Again as AgainSight, Record}
use Rattle.inp_script.specs.DoneLine.{line_talk}
use Rattle.inp_script.specs.Joystick.{record_sight, start_joystick, after_joy_answer, joystick_talk}
use Rattle.inp_script.proofs.JoyTold.{starts}
use Rattle.inp_script.proofs.JoyWalk.{AfterRead, AfterTurns, is_joy_call, JoyRules, joystick-meets}
use Rattle.inp_runs.proofs.views.AtHand.{own-caused, shown-own}
use Rattle.inp_runs.proofs.views.ClientReports.{IsClientJob, ClientSaw, client-first, client-rules}
use Rattle.inp_runs.proofs.views.Folded.{AreOfRole, its_lines, view-folded}
use Rattle.inp_runs.proofs.owners.Owners.{HasOwners, is_opened_as, history-of-jobs, or-true, own-uses}
use Rattle.inp_runs.proofs.views.Reports.{AtEntry, AtEach, at_each-append, at_each-at, at_each-noted}
use Rattle.inp_runs.proofs.views.Reports.{AreToCome, Coming, Comes, coming-run, at_each-eventless}
use Rattle.inp_runs.proofs.views.TapViews.{TapStands, TapSaw, tap-line, tap-first}
use Rattle.inp_runs.proofs.LinesWalk.{OfStep, unless-keeps, source-keeps, last-keeps, lines-keep}
use Rattle.inp_script.specs.Fold.{IsFolded}
use Rattle.inp_runs.proofs.views.Shown.{AreEventsOwn, AreLossesCaused, AreReportsSeen}

-- ---- sources, which read nothing, and joysticks, which take nothing

-- a step that is no read gives no event
unread : (d : Description) (past : List Step) (x : Step) (given : Answer) → is_read x ≡ false
    → IsAnswer d past x given → given.events ≡ []
unread d past x given h (inl e) = rw e (no_read-takes d past x h)
unread d past x given h (inr l) = rw l.2

source-step : (client : ℕ) (command : Command) → is_command_of Source command ≡ true
    → OfStep (λ x. is_read x ≡ false) (step_of client command)
source-step client (ToEvent moment kind code value) h = refl
source-step client (Tick moment) h = refl
source-step client (Inhibit moment) h = refl
source-step client Uninhibit h = refl
source-step client (Stream file index) h = tt
source-step client (Stream16 file index) h = tt
source-step client _ h = absurd cc

-- ---- sights that took nothing

-- what is promised of each event that a source, a joystick or an owner took: it took none
abbrev TookNothing : List Sight → Taken → Type 0
TookNothing sight taken = ⊥

module _ (d : Description) (h : List Step) where
  abbrev HasNone : Job → Type 0
  HasNone j = AtEach TookNothing [] j.sight

  -- a call that is no read
  unread-call : (j : Job) (x : Step) (a : Answer) → is_read x ≡ false
      → HasPlace d h (record { step = x; answer = a }) → HasNone j → HasNone (after_call j x a)
  unread-call j x a no_read there s =
      at_each-eventless TookNothing j x a (unread d (past_at h (place_of a.reply)) x a no_read there.exact) s

  -- Joysticks: their calls are told, and no events

  noted-each : (sight : List Sight) (calls : List Call) → AtEach TookNothing [] sight
      → AtEach TookNothing [] (sight ++ noted_sight calls)
  noted-each sight calls s =
      at_each-append TookNothing [] sight (noted_sight calls) s (at_each-noted TookNothing sight calls)

  joystick-rules : {S : Type 0} (R : S → Step → Answer → S → Type 0)
      → ((s t : S) (x : Step) (a : Answer) → R s x a t → HasPlace d h (record { step = x; answer = a }))
      → (command : Command) → is_command_of Joy command ≡ true → JoyRules R (λ (s : S). HasNone) d command
  joystick-rules {S} R places command of_role = record {
    starts = λ u j s.
        job-ends-meet R (λ (t : S). HasNone) u (start_joystick d j)
        (λ t calls k run ends. subst HasNone (sym (starts d j k calls ends).is) (noted-each j.sight calls s));
    reads = λ u j most s.
        let talk : Talk (Option JoyAnswer) = turns d most 0 (joying_of j) in
        noted-ends-meet R (λ (t : S) (o : Option JoyAnswer × List Sight).
        AfterTurns (λ (v : S). HasNone) j t o.0 o.1) u j.sight talk
        (λ t calls o run ends. of_turns t j o (j.sight ++ noted_sight calls) (noted-each j.sight calls s));
    calls = λ one u v j x a is s by.
        unread-call j x a (subst (OfStep (λ y. is_read y ≡ false)) is
        (of_call command one of_role j.reading.client)) (places u v x a by) s;
  }
    where
      of_call : (c : Command) → is_joy_call c ≡ true → is_command_of Joy c ≡ true → (client : ℕ)
          → OfStep (λ x. is_read x ≡ false) (step_of client c)
      of_call Close one joy client = refl
      of_call c one joy client = absurd cc

      -- an entry of no event more
      entry-each : (entry : Sight) (sight : List Sight) → AtEntry TookNothing sight entry
          → AtEach TookNothing [] sight → AtEach TookNothing [] (sight ++ entry ∷ [])
      entry-each entry sight none s = at_each-append TookNothing [] sight (entry ∷ []) s (none, tt)

      of_read : (t : S) (read : JoyRead) (j : Job) → HasNone j → AfterRead (λ (v : S). HasNone) t read j
      of_read t (NothingToRead at ends) j s = entry-each (AgainSight at ends) j.sight tt s
      of_read t _ j s = s

      of_record : (out : Option JoyRecord) (sight : List Sight) → AtEach TookNothing [] sight
          → AtEach TookNothing [] (sight ++ record_sight out)
      of_record None sight s = subst (AtEach TookNothing []) (sym (append-nil sight)) s
      of_record (Some r) sight s = entry-each (Record (bytes_of_record r)) sight tt s

      of_turns : (t : S) (j : Job) (o : Option JoyAnswer) (sight : List Sight) → AtEach TookNothing [] sight
          → AfterTurns (λ (v : S). HasNone) j t o sight
      of_turns t j None sight s = tt
      of_turns t j (Some answer) sight s =
          of_read t answer.read (after_joy_answer j answer sight) (of_record answer.record_out sight s)

-- ---- the lines of a job

-- how a job of a role stands behind so many steps of the history
abbrev JobStands : Role → Description → List Step → (ℕ → Type 0) → ℕ → Job → Type 0
JobStands Client d h Q least j = IsClientJob d h Q least j
JobStands Tap d h Q least j = TapStands d h Q least j
JobStands _ d h Q least j = AtEach TookNothing [] j.sight

module _ (d : Description) (h : List Step) (Q : ℕ → Type 0) (history : IsHistory d (reverse h))
    (short : length h < NO_CLIENT) where
  abbrev On : Role → Coming d h Q → Job → Type 0
  On role s j = JobStands role d h Q s.place j

  place-of_call : (s t : Coming d h Q) (x : Step) (a : Answer) → Comes d h Q s x a t
      → HasPlace d h (record { step = x; answer = a })
  place-of_call s t x a by = (subst (AreToCome d h Q s.place) by.0 s.to_come).legal.1

  line-stands : (role : Role) (streams : List (List Stamped)) (wait : Option Waiting) (n : ℕ)
      (command : Command) → is_command_of role command ≡ true
      → (s : Coming d h Q) (j : Job) → On role s j → Meets Any (Comes d h Q) (OfJob (On role)) s
      (line_talk role d streams wait n command j)
  unfolding line_talk
  line-stands Source streams wait n command of_role s j i =
      unless-keeps (Comes d h Q) (On Source) j.stop s j (source_talk streams command j) i
      (source-keeps (Comes d h Q) (On Source) (λ x. is_read x ≡ false)
      (λ u t k x a no_read had by. unread-call d h k x a no_read (place-of_call u t x a by) had)
      (λ stamped. refl) streams command (source-step NO_CLIENT command of_role) s j i)
  line-stands Client streams wait n command of_role s j i =
      line-meets (Comes d h Q) (On Client) (OfGoing (On Client)) d Client command wait
      (client-rules d h Q history short command wait of_role) streams n s j i
  line-stands Tap streams wait n command of_role s j i =
      unless-keeps (Comes d h Q) (On Tap) j.stop s j (tap_talk command j) i
      (tap-line d h Q history short command of_role s j i)
  line-stands Joy streams wait n command of_role s j i =
      unless-keeps (Comes d h Q) (On Joy) j.stop s j (joystick_talk d n command j) i
      (joystick-meets (Comes d h Q) (On Joy) d command (joystick-rules d h (Comes d h Q) place-of_call command
      of_role) n s j i)
  line-stands Owner streams wait n command of_role s j i = unless-keeps (Comes d h Q) (On Owner) j.stop s j
      (finish (Some j)) i i

  -- a source's end is no read
  last-stands : (wait : Option Waiting) (role : Role) (s : Coming d h Q) (j : Job) → On role s j
      → Meets Any (Comes d h Q) (OfJob (On role)) s (last_talk wait role j)
  last-stands wait role s j i =
      last-keeps (Comes d h Q) (On role) wait role s j
      (λ e t a by. rw e
      (unread-call d h j End a refl (place-of_call s t End a by) (rw e at i))) i

  lines-stand : (role : Role) (streams : List (List Stamped)) (wait : Option Waiting) (n : ℕ)
      (lines : List Line) → AreOfRole role lines
      → (s : Coming d h Q) (j : Job) → On role s j → Meets Any (Comes d h Q) (OfJob (On role)) s
      (lines_talk role d streams wait n lines j)
  lines-stand role streams wait n =
      lines-keep (Comes d h Q) (On role) (λ command. is_command_of role command ≡ true) role d streams wait n
      (line-stands role streams wait n) (last-stands wait role)

  first-stands : (role : Role) → JobStands role d h Q 0 (first_job role d)
  first-stands Client = client-first d h Q history short
  first-stands Tap = tap-first d h Q history short
  first-stands _ = tt

  stands-seen : (role : Role) (least : ℕ) (j : Job) → JobStands role d h Q least j
      → AreReportsSeen d h role j.sight
  stands-seen Client least j s =
      λ k taken at report. (let saw : ClientSaw d h (take (suc k) j.sight) taken =
      at_each-at (ClientSaw d h) [] j.sight k taken s.seen at in saw.seen report)
  stands-seen Tap least j s = λ k taken at report. at_each-at (TapSaw d h) [] j.sight k taken s.seen at
  stands-seen _ least j s = λ k taken at report. absurd (at_each-at TookNothing [] j.sight k taken s at)

  -- each event that it took is the one of its own index
  stands-own : (role : Role) (least : ℕ) (j : Job) → JobStands role d h Q least j → AreEventsOwn d h j.sight
  stands-own Client least j s =
      λ k taken at. (let saw : ClientSaw d h (take (suc k) j.sight) taken =
      at_each-at (ClientSaw d h) [] j.sight k taken s.seen at in saw.own)
  stands-own Tap least j s =
      λ k taken at. shown-own d h (take (suc k) j.sight) taken (sight_view Tap d h (take (suc k) j.sight))
      (at_each-at (TapSaw d h) [] j.sight k taken s.seen at)
  stands-own _ least j s = λ k taken at. absurd (at_each-at TookNothing [] j.sight k taken s at)

  -- its view has the device's size
  stands-sized : (role : Role) (least : ℕ) (j : Job) → IsFolded role d h j → JobStands role d h Q least j
      → not (is_joy role || is_owner role) ≡ true → IsSizedFor d.slots j.reading.view
  stands-sized Source least j folded s other = subst (IsSizedFor d.slots) (sym folded)
      (IsSizedFor-first_view d)
  stands-sized Client least j folded s other = s.reading.spare.view.sized
  stands-sized Tap least j folded s other = s.sized
  stands-sized _ least j folded s other = absurd cc

-- ---- all of it

-- each client that these calls open is one that they do
opened-among : (all : List Call) (calls : List Call)
    → ((client : ℕ) → list_any (is_opened_as client) calls ≡ true → list_any (is_opened_as client) all ≡ true)
    → Each (λ (call : Call). (at client ring : ℕ) → call.answer.reply ≡ Opened at client ring
    → list_any (is_opened_as client) all ≡ true) calls
opened-among all [] f = tt
opened-among all (call ∷ calls) f = (
  λ at client ring is. f client (rw (is, eq-eqb)),
  opened-among all calls
      (λ client k. f client (or-true (is_opened_as client call) (list_any (is_opened_as client) calls) k)),
)

-- What a job shows: which events it took, its view at each report, why it lost events, and how large its view
-- is.
pub record IsShown (d : Description) (h : List Step) (role : Role) (last : Job) : Type 0 where
  -- each event that it took is the one of its own index
  pub own : AreEventsOwn d h last.sight
  -- at each report that it took its view is its client's
  pub seen : AreReportsSeen d h role last.sight
  -- each loss that it took has its cause
  pub losses : AreLossesCaused d h last.sight
  -- its view is of the device's size, where its result has a view
  pub sized : not (is_joy role || is_owner role) ≡ true → IsSizedFor d.slots last.reading.view

-- a job's client is used by its own calls alone, so each line keeps its view that of the client
pub job-shown : (r : RecordView) (d : Description) (h : List Step) (jobs : List JobView) (i : ℕ)
    (job : JobView) (text : ActorText) (wait : Option Waiting) (rounds : ℕ) (last : Job) (calls : List Call)
    → IsRecord r → HasOwners d h jobs → slice_get jobs i ≡ Some job → slice_get r.actors job.actor ≡ Some text
    → IsLegalRun d h calls → AreTold wait calls job.sight
    → EndsWith (lines_talk text.role d r.streams wait rounds (lines_by job.actor r.lines)
    (first_job text.role d)) calls (Some last) → IsShown d h text.role last
job-shown r d h jobs i job text wait rounds last calls is_record owners is_job is_text legal told follows =
    let lines : List Line = lines_by job.actor r.lines in
    let Q : ℕ → Type 0 = λ client. list_any (is_opened_as client) calls ≡ true in
    let own : (client : ℕ) → Q client → AreAllOwn client 0 h calls =
    λ client q place x from at used.
    own-uses text.role d h r.streams wait rounds lines jobs i job last calls owners is_job legal told follows
    client place x q at used in
    let history : IsHistory d (reverse h) = history-of-jobs d h jobs owners in
    let c : AreToCome d h Q 0 calls =
    record {
      within = omega arith;
      legal = legal;
      own = own;
      opened = opened-among calls calls (λ client k. k);
    } in
    let first : Coming d h Q = record { place = 0; left = calls; to_come = c } in
    let run = coming-run d h Q 0 calls c in
    let talk : Talk (Option Job) =
    lines_talk text.role d r.streams wait rounds lines (first_job text.role d) in
    let stands : JobStands text.role d h Q run.0.place last =
    meets-ends Any (Comes d h Q) (OfJob (λ (s : Coming d h Q). JobStands text.role d h Q s.place)) first run.0
    talk calls (Some last)
    (lines-stand d h Q history owners.short text.role r.streams wait rounds lines
    (its_lines r job.actor text is_text r.lines is_record.commands)
    first (first_job text.role d) (first-stands d h Q history owners.short text.role)) run.1 follows in
    let own_events : AreEventsOwn d h last.sight =
    stands-own d h Q history owners.short text.role run.0.place last stands in
    record {
      own = own_events;
      seen = stands-seen d h Q history owners.short text.role run.0.place last stands;
      losses = λ k taken at lost. own-caused d h (take (suc k) last.sight) taken (own_events k taken at) lost;
      sized =
          stands-sized d h Q history owners.short text.role run.0.place last
          (view-folded r d h wait rounds job.actor text last calls is_record is_text legal follows) stands;
    }
