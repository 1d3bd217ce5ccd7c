-- The picture of a joystick's job is the fold of its sight, through a start, each read and a close.
use Rattle.std.proofs.Common.{◌≡◌, ℕ, true, false, List, [], ◌∷◌, ◌++◌, map, refl, sym, ap, ◌∙◌, append-nil}
use Rattle.std.proofs.Common.{append_assoc, Option, Some, None}
use Rattle.std.specs.Prelude.{Result, Ok, Err}
use Rattle.std.proofs.lemmas.Bool.{true≢false, cond_both}
use Rattle.inp_reader.specs.Reader.{after_queries, start_stop_of, hand_synthesised, after_full_sync}
use Rattle.inp_script.proofs.Common.{Taken, Step, Reply, Description, is_again, past_at, Answer, IsAnswer}
use Rattle.inp_script.proofs.Common.{Call, place_of, Command, Joy, is_command_of, JoyRead, JoyRecord, View}
use Rattle.inp_script.proofs.Common.{Next, Success, Dropped, Started, Talk, finish, EndsWith, Sight}
use Rattle.inp_script.proofs.Common.{with_sight, Job, joying_of, after_call, step_of, call_sight, again_sight}
use Rattle.inp_script.proofs.Common.{taken_sight, ReaderState, start_talk, stop_of as reader_stop, next_talk}
use Rattle.inp_script.proofs.Common.{is_report, start_joystick, record_sight, after_joy_answer, joystick_talk}
use Rattle.inp_model.specs.declared.step.Step.TheVariants.{Open as ToOpen, Read as ToRead, Discard}
use Rattle.inp_model.specs.declared.step.Step.TheVariants.{Close as ToClose}
use Rattle.inp_model.specs.declared.reply.Reply.TheVariants.{Opened, Again as NothingVisible}
use Rattle.inp_model.specs.declared.reply.Reply.TheVariants.{Refused as StepRefused}
use Rattle.inp_actors.specs.declared.command.Command.TheVariants.{Close}
use Rattle.inp_joy.specs.declared.joy_read.JoyRead.TheVariants.{Again}
use Rattle.inp_joy.specs.JoyRecord.{bytes_of_record}
use Rattle.inp_joy.specs.Joy.{JoystickState, JoyAnswer, JoyTurn, gives, goes_on, joy_read_of, record_or_on}
use Rattle.inp_joy.specs.Joy.{stop_or_on, joying_after_next, turn_talk, turns, with_reading, with_startup}
use Rattle.inp_joy.specs.Joy.{joying_after_start, joy_started, joy_start}
use Rattle.inp_joy.specs.Picture.{PictureView, blank_picture, picture_after}
use Rattle.inp_joy.proofs.Nexts.{lost-needed}
use Rattle.inp_joy.proofs.Records.{FitsBytes, record-back, startup-fits, FitsIf, event-fits}
use Rattle.inp_joy.proofs.TurnCases.{Synchronises, TurnCase, of_startup, of_sync, of_loss, of_next, turn-case}
use Rattle.inp_joy.proofs.TurnCases.{turns-all}
use Rattle.inp_reader.specs.declared.mode.Mode.TheVariants.{Normal, Sync as Synchronising}
use Rattle.inp_reader.specs.ReaderPlace.{is_needed}
use Rattle.inp_script.specs.declared.sight.Sight.TheVariants.{Again as AgainSight, Record}
use Rattle.inp_script.specs.Folding.{Folding, settled, asking, asked_on}
use Rattle.inp_script.specs.JoyFold.{after_joy_call, after_joy_entry, joy_fold}
use Rattle.inp_recon.proofs.Each.{Each}
use Rattle.inp_reader.proofs.Meets.{Any, Runs, meets-ends}
use Rattle.inp_reader.proofs.NextWalk.{AskRules, asked-meets, sync-by_parts, Queried, start-meets, Handed}
use Rattle.inp_reader.proofs.NextWalk.{needed-meets, NextRules, next-ends, stop-cases}
use Rattle.inp_reader.proofs.AgainCounts.{IsNoRead, no_read-queries, not_again}
use Rattle.inp_script.proofs.ClientFolds.{placed-left, placed-right}
use Rattle.inp_script.proofs.Folds.{Placed, placed-run, run-placed, ArePlaced}
use Rattle.inp_script.proofs.LineWalk.{OfJob, job-ends-meet}
use Rattle.inp_script.proofs.JoyWalk.{AfterRead, turns-meet, is_joy_call, JoyRules, joystick-meets}
use Rattle.inp_script.proofs.JoyTold.{starts}
use Rattle.inp_reader.proofs.Calls.{finished, split-and_then}
use Rattle.inp_script.proofs.Told.{noted_sight, noted_sight-append}

-- how the buttons and axes stand
abbrev Showing : Type 0
Showing = Folding PictureView

-- Queries

-- the picture once asking ended
abbrev asked_picture : PictureView → Result View Reply → PictureView
asked_picture p (Ok view) = blank_picture
asked_picture p (Err reply) = p

abbrev AsksSoFar : PictureView → Showing → View → List Step → Type 0
AsksSoFar p s view left = (s ≡ asked_on p blank_picture left) × Each IsNoRead left

-- A synchronisation

-- one that was stopped leaves the picture, and with another one a startup begins
abbrev synced_picture : PictureView → Option JoyRead → PictureView
synced_picture p None = blank_picture
synced_picture p (Some read) = p

abbrev IsStopped : Option JoyRead → Type 0
IsStopped None = ⊥
IsStopped (Some read) = Unit {0}

reply-stops : (reply : Reply) → IsStopped (joy_read_of (reader_stop reply))
reply-stops reply =
    stop-cases (λ next. IsStopped (joy_read_of next)) reply (λ at ends is. tt) tt tt (λ at. tt)

stopped-picture : (p : PictureView) (stop : Option JoyRead) → IsStopped stop → p ≡ synced_picture p stop
stopped-picture p None h = absurd h
stopped-picture p (Some read) h = refl

abbrev Syncs : PictureView → Showing → Next × ReaderState → Type 0
Syncs p s o = s ≡ settled (synced_picture p (joy_read_of o.0))

-- Turns

-- the record that a turn hands out, and what is kept then
abbrev out_of : JoyTurn → Option JoyRecord
out_of (gives answer) = answer.record_out
out_of (goes_on j) = None

abbrev joying_after : JoyTurn → JoystickState
joying_after (gives answer) = answer.joying
joying_after (goes_on j) = j

abbrev IsStill : PictureView → Showing → ReaderState → Type 0
IsStill p s r = (s ≡ settled p) × (is_needed r.phase ≡ false)

module _ (d : Description) where
  pub joy_fold-append : (s : Showing) (sight more : List Sight)
      → joy_fold d s (sight ++ more) ≡ joy_fold d (joy_fold d s sight) more
  unfolding joy_fold
  joy_fold-append s [] more = refl
  joy_fold-append s (entry ∷ sight) more = joy_fold-append (after_joy_entry d s entry) sight more

  called : (s : Showing) (x : Step) (reply : Reply) → is_again reply ≡ false
      → joy_fold d s (call_sight x reply) ≡ after_joy_call d s x reply
  unfolding joy_fold
  called s x reply e = rw e

  -- A start

  -- a start that was refused leaves the picture
  refused-picture : (j : JoystickState) (r : ReaderState) (reply : Reply)
      → (joying_after_start d (with_reading j r) (start_stop_of reply)).picture ≡ j.picture
  refused-picture j r (StepRefused at why) =
      cond_both (is_needed r.phase) _ _ (λ (x : JoystickState). x.picture ≡ j.picture) (λ _. refl) (λ _. refl)
  refused-picture j r _ =
      cond_both (is_needed r.phase) _ _ (λ (x : JoystickState). x.picture ≡ j.picture) (λ _. refl) (λ _. refl)

  asked-picture : (j : JoystickState) (client ring : ℕ) (result : Result View Reply)
      → (joy_started d j (after_queries client ring j.reading result)).1.picture
      ≡ asked_picture j.picture result
  asked-picture j client ring (Ok view) = refl
  asked-picture j client ring (Err reply) = refused-picture j _ reply

  not_opened : (p : PictureView) (reply : Reply) → ((at client ring : ℕ) → reply ≡ Opened at client ring → ⊥)
      → after_joy_call d (settled p) ToOpen reply ≡ settled p
  not_opened p (Opened at client ring) other = absurd (other at client ring refl)
  not_opened p reply other = refl

  -- these calls and the record behind them make the picture of what is kept
  abbrev Shows : PictureView → List Sight → JoyTurn → Type 0
  Shows p sight t =
      joy_fold d (settled p) (sight ++ record_sight (out_of t)) ≡ settled (joying_after t).picture

  joying_after_sync-shows : (sight : List Sight) (j : JoystickState) (r : ReaderState) (stop : Option JoyRead)
      → joy_fold d (settled j.picture) sight ≡ settled (synced_picture j.picture stop)
      → Shows j.picture sight (stop_or_on (with_reading j r) (with_startup r) stop)
  joying_after_sync-shows sight j r None h = rw append-nil h
  joying_after_sync-shows sight j r (Some read) h = rw append-nil h

  -- a record that was handed out moves the picture
  record-shows : (p : PictureView) (r : JoyRecord) → FitsBytes r
      → joy_fold d (settled p) (Record (bytes_of_record r) ∷ []) ≡ settled (picture_after p r)
  unfolding joy_fold
  record-shows p r fits = rw record-back

  -- nothing but that record
  made-shows : (j : JoystickState) (o : Option JoyRecord) → FitsIf o → Shows j.picture [] (record_or_on j o)
  unfolding joy_fold
  made-shows j None fits = refl
  made-shows j (Some r) fits = record-shows j.picture r fits

  stop-shows : (j : JoystickState) (stop : Option JoyRead) → Shows j.picture [] (stop_or_on j j stop)
  unfolding joy_fold
  stop-shows j None = refl
  stop-shows j (Some read) = refl

  after_next-shows : (j : JoystickState) (next : Next) → Shows j.picture [] (joying_after_next d j next)
  unfolding joy_fold
  after_next-shows j (Success taken) =
      cond_both (is_report taken.event) _ _ (Shows j.picture [])
      (λ _. refl) (λ _. made-shows j _ (event-fits d j.picture taken))
  after_next-shows j next = stop-shows j (joy_read_of next)

  -- the calls of a read tell nothing of the picture

  read_once : (p : PictureView) (client count : ℕ) (reply : Reply)
      → joy_fold d (settled p) (call_sight (ToRead client count) reply) ≡ settled p
  unfolding joy_fold
  read_once p client count reply =
      cond_both (is_again reply) _ _ (λ x. joy_fold d (settled p) x ≡ settled p) (λ _. refl) (λ _. refl)

  -- Lines

  abbrev pub IsShown : Job → Type 0
  IsShown j = joy_fold d (settled blank_picture) j.sight ≡ settled j.stick.picture

  shows-on : (j : Job) (more : List Sight) → IsShown j
      → joy_fold d (settled blank_picture) (j.sight ++ more) ≡ joy_fold d (settled j.stick.picture) more
  shows-on j more fold = rw (joy_fold-append, fold)

  -- an answer Again tells nothing of the picture
  again-shown : (j : Job) (at ends : ℕ) → IsShown j → IsShown (with_sight j (AgainSight at ends))
  unfolding joy_fold
  again-shown j at ends fold = shows-on j _ fold

  -- a close tells nothing of the picture, nor do the events that a call read
  taken-shown : (s : Showing) (events : List Taken) → joy_fold d s (map taken_sight events) ≡ s
  unfolding joy_fold
  taken-shown s [] = refl
  taken-shown s (taken ∷ events) = taken-shown s events

  close_entry : (p : PictureView) (client : ℕ) (reply : Reply)
      → joy_fold d (settled p) (call_sight (ToClose client) reply ++ again_sight reply) ≡ settled p
  unfolding joy_fold
  close_entry p client (NothingVisible at n) = refl
  close_entry p client reply = refl

  -- a joystick's line

  abbrev IsShownAt : Unit {0} → Job → Type 0
  IsShownAt s j = IsShown j

  module _ (h : List Step) where
    -- Calls, each answered at its place: what they make of the picture

    abbrev ShownAt : Showing → Step → Answer → Showing → Type 0
    ShownAt s x a t =
        IsAnswer d (past_at h (place_of a.reply)) x a × (t ≡ joy_fold d s (call_sight x a.reply))

    shown-run : (s : Showing) (calls : List Call) → ArePlaced d h calls
        → Runs ShownAt s calls (joy_fold d s (noted_sight calls))
    unfolding Runs joy_fold
    shown-run s [] placed = refl
    shown-run s (call ∷ calls) placed =
        let entry : List Sight = call_sight call.step call.answer.reply in (
          joy_fold d s entry,
          (placed.0.exact, refl),
          rw joy_fold-append (shown-run (joy_fold d s entry) calls placed.1),
        )

    -- one that is no read
    once : (s t e : Showing) (x : Step) (a : Answer) → s ≡ e → IsNoRead x → ShownAt s x a t
        → t ≡ after_joy_call d e x a.reply
    once s t e x a is no_read by =
        rw (by.1, called s x a.reply (not_again d (past_at h (place_of a.reply)) x a no_read by.0), is)

    shows-asks : (p : PictureView) (Q : Showing → Result View Reply → Type 0)
        → ((s : Showing) (asked : Result View Reply) → s ≡ settled (asked_picture p asked) → Q s asked)
        → AskRules Any ShownAt (AsksSoFar p) Q
    shows-asks p Q so = record {
      asks = λ s view x xs j. tt;
      told = λ s t view x xs a j by is.
          (rw (once s t (asking p blank_picture (x ∷ xs)) x a j.0 j.1.0 by, is), j.1.1);
      stopped = λ s t view x xs a j by is.
          so t (Err a.reply) (rw (once s t (asking p blank_picture (x ∷ xs)) x a j.0 j.1.0 by, is));
      whole = λ s view j. so s (Ok view) j.0;
    }

    reader_start-shows : (j : JoystickState) (o : Started × ReaderState) (calls : List Call)
        → ArePlaced d h calls
        → EndsWith (start_talk d j.reading) calls o
        → joy_fold d (settled j.picture) (noted_sight calls) ≡ settled (joy_started d j o).1.picture
    reader_start-shows j o calls placed ends =
        let p : PictureView = j.picture in
        let Q : Showing → Started × ReaderState → Type 0 = λ s q. s ≡ settled (joy_started d j q).1.picture in
        meets-ends Any ShownAt Q (settled p) _ _ calls o
        (start-meets Any ShownAt Q d j.reading (settled p) (record {
          asks_open = tt;
          opened = λ t a at client ring by is.
              asked-meets Any ShownAt _ _
              (shows-asks p (Queried Q client ring j.reading)
              (λ u asked e. rw (e, ← asked-picture j client ring asked))) t _ j.reading.view
              (rw (once (settled p) t (settled p) ToOpen a refl refl by, is), no_read-queries d client);
          refused = λ t a by other.
              rw (
                refused-picture j j.reading a.reply,
                ← not_opened p a.reply other,
                ← once (settled p) t (settled p) ToOpen a refl refl by,
              );
        })) (shown-run (settled p) calls placed) ends

    joy_start-shows : (j : JoystickState) (o : Started × JoystickState) (calls : List Call)
        → ArePlaced d h calls
        → EndsWith (joy_start d j) calls o
        → joy_fold d (settled j.picture) (noted_sight calls) ≡ settled o.1.picture
    unfolding joy_start
    joy_start-shows j o calls placed ends =
        let next : Started × ReaderState → Talk (Started × JoystickState) = λ q. finish (joy_started d j q) in
        let p = split-and_then _ next calls o ends in
        let f = finished (joy_started d j p.between) o p.later p.later_ends in
        let first : ArePlaced d h p.first = placed-left d h p.first p.later (rw p.calls_are at placed) in
        rw (
          ← f.1,
          ← reader_start-shows j p.between p.first first p.first_ends,
          ← append-nil p.first,
          ← f.0,
          ← p.calls_are,
        )

    needed-shows : (p : PictureView) (r : ReaderState) (calls : List Call) (o : Next × ReaderState)
        → is_needed r.phase ≡ true → ArePlaced d h calls → EndsWith (next_talk d Synchronising r) calls o
        → joy_fold d (settled p) (noted_sight calls) ≡ settled (synced_picture p (joy_read_of o.0))
    needed-shows p r calls o needed placed ends =
        let Q : Showing → Result View Reply → Type 0 = Handed (Syncs p) r in
        meets-ends Any ShownAt (Syncs p) (settled p) _ _ calls o
        (needed-meets Any ShownAt (Syncs p) d (settled p) r needed
        (sync-by_parts Any ShownAt Q d r (settled p) (record {
          asks_discard = tt;
          discarded = λ t a by is.
              asked-meets Any ShownAt _ Q (shows-asks p Q so) t _ r.view (
                rw (once (settled p) t (settled p) (Discard r.client) a refl refl by, is),
                no_read-queries d r.client,
              );
          refused = λ t a by is.
              so t (Err a.reply) (rw (once (settled p) t (settled p) (Discard r.client) a refl refl by, is));
        }))) (shown-run (settled p) calls placed) ends
      where
        made : (s : Showing) (view : View) (left : List _) → s ≡ (settled blank_picture)
            → Syncs p s (hand_synthesised (after_full_sync r view) left)
        made s view [] e = e
        made s view (event ∷ left) e = e

        so : (s : Showing) (asked : Result View Reply) → s ≡ settled (asked_picture p asked)
            → Handed (Syncs p) r s asked
        so s (Ok view) e = made s view (after_full_sync r view).left e
        so s (Err reply) e =
            rw (← stopped-picture p (joy_read_of (reader_stop reply)) (reply-stops reply), ← e)

    synchronises-shows : (j : JoystickState) (calls : List Call) (t : JoyTurn)
        → is_needed j.reading.phase ≡ true
        → ArePlaced d h calls → Synchronises d j calls t → Shows j.picture (noted_sight calls) t
    synchronises-shows j calls t needed placed s =
        rw (← s.comes_to) (joying_after_sync-shows _ j s.reading _
        (needed-shows j.picture j.reading calls _ needed placed s.talk_ends))

    still-rules : (p : PictureView)
        → NextRules Any ShownAt (IsStill p) (λ (s : Showing) (o : Next × ReaderState). s ≡ settled p) d Normal
    still-rules p = record {
      asks_read = λ s r i. tt;
      reads = λ s t r a i plain none by is. (after_read s t r a i.0 by, i.1);
      stops = λ s t r a i plain none by is. after_read s t r a i.0 by;
      hands = λ s r taken rest i plain q is. i.0;
      loses = λ s r taken rest i plain q is. i.0;
      empty = λ s r i plain q. i.0;
      idles = λ s r i plain is. i.0;
      syncs = λ s r i needed. absurd (true≢false (sym (ap is_needed needed) ∙ i.1));
      makes = λ s r event left i is sync more. i.0;
      made_all = λ s r i is sync none. i.0;
      goes_on = λ s r i is mode. (i.0, refl);
    }
      where
        after_read : (s t : Showing) (r : ReaderState) (a : Answer) → s ≡ settled p
            → ShownAt s (ToRead r.client 64) a t → t ≡ settled p
        after_read s t r a is by = rw (by.1, is) (read_once p r.client 64 a.reply)

    next-tells_nothing : (p : PictureView) (r : ReaderState) (calls : List Call) (o : Next × ReaderState)
        (more : List Sight) → is_needed r.phase ≡ false → ArePlaced d h calls
        → EndsWith (next_talk d Normal r) calls o
        → joy_fold d (settled p) (noted_sight calls ++ more) ≡ joy_fold d (settled p) more
    next-tells_nothing p r calls o more plain placed ends =
        rw (
          joy_fold-append,
          next-ends Any ShownAt (IsStill p) (λ (s : Showing) (q : Next × ReaderState). s ≡ settled p) d Normal
              (still-rules p) (settled p) (joy_fold d (settled p) (noted_sight calls)) r calls o (refl, plain)
              (shown-run (settled p) calls placed) ends,
        )

    turn-shows : (j : JoystickState) (calls : List Call) (t : JoyTurn) → ArePlaced d h calls
        → TurnCase d j calls t
        → Shows j.picture (noted_sight calls) t
    turn-shows j calls t placed (of_startup r at none is) =
        rw (← is, none) (record-shows j.picture r (startup-fits d j.reading.view j.handed r at))
    turn-shows j calls t placed (of_sync needed s) = synchronises-shows j calls t needed placed s
    turn-shows j calls t placed (of_loss first second taken r plain whole ends s) =
        let both : ArePlaced d h (first ++ second) = rw whole at placed in
        let out : List Sight = record_sight (out_of t) in
        rw (
          whole,
          noted_sight-append,
          append_assoc,
          next-tells_nothing j.picture j.reading first (Dropped taken, r) (noted_sight second ++ out) plain
              (placed-left d h first second both) ends,
        )
        (synchronises-shows _ second t (lost-needed d j.reading r first taken plain ends)
        (placed-right d h first second both) s)
    turn-shows j calls t placed (of_next next r plain ends is) =
        next-tells_nothing j.picture j.reading calls (next, r) _ plain placed ends
        ∙ rw (← is) (after_next-shows (with_reading j r) next)

    -- a turn that goes on
    on-shows : (j k : JoystickState) (calls : List Call) → ArePlaced d h calls
        → EndsWith (turn_talk d j) calls (goes_on k)
        → joy_fold d (settled j.picture) (noted_sight calls) ≡ settled k.picture
    on-shows j k calls placed e =
        rw (← append-nil (noted_sight calls))
        (turn-shows j calls (goes_on k) placed (turn-case d j calls (goes_on k) e))

    -- what holds of each read
    abbrev ReadShows : JoystickState → List Call → JoyAnswer → Type 0
    ReadShows j calls answer =
        ArePlaced d h calls
        → joy_fold d (settled j.picture) (noted_sight calls ++ record_sight answer.record_out)
        ≡ settled answer.joying.picture

    more-shows : (j k : JoystickState) (calls more : List Call) (answer : JoyAnswer)
        → EndsWith (turn_talk d j) calls (goes_on k) → ReadShows k more answer
        → ReadShows j (calls ++ more) answer
    more-shows j k calls more answer e rest placed =
        rw (
          noted_sight-append,
          append_assoc,
          joy_fold-append,
          on-shows j k calls (placed-left d h calls more placed) e,
        ) (rest (placed-right d h calls more placed))

    turns-shows : (n count : ℕ) (j : JoystickState) (calls : List Call) (answer : JoyAnswer)
        → EndsWith (turns d n count j) calls (Some answer) → ReadShows j calls answer
    turns-shows n count j calls answer ends =
        turns-all d (λ i cs a. ReadShows i cs a)
        (λ i cs a e placed. turn-shows i cs (gives a) placed (turn-case d i cs (gives a) e))
        (λ i k cs e placed. rw append-nil (on-shows i k cs placed e))
        (λ i k cs more a e p. more-shows i k cs more a e p) n count j calls answer ends

    start_joystick-shows : (j k : Job) (calls : List Call) → ArePlaced d h calls
        → EndsWith (start_joystick d j) calls (Some k) → IsShown j → IsShown k
    start_joystick-shows j k calls placed ends fold =
        let s = starts d j k calls ends in
        rw s.is (shows-on j _ fold ∙ joy_start-shows _ _ calls placed s.talk_ends)

    joy-shown : (command : Command) → is_command_of Joy command ≡ true
        → JoyRules (Placed d h) IsShownAt d command
    joy-shown command of_role = record {
      starts = λ s j fold. job-ends-meet (Placed d h) IsShownAt s _
          (λ t calls k run ends. start_joystick-shows j k calls (run-placed d h s t calls run) ends fold);
      reads = λ s j most fold.
          turns-meet (Placed d h) IsShownAt d s j most
          (λ t calls answer run ends.
          of_turns t j most calls answer (run-placed d h s t calls run) ends fold);
      calls = λ one s t j x a is fold by. of_call command of_role one j x a is fold;
    }
      where
        of_read : (t : Unit {0}) (read : JoyRead) (j : Job) → IsShown j → AfterRead IsShownAt t read j
        of_read t (Again at n) j fold = again-shown j at n fold
        of_read t _ j fold = fold

        of_turns : (t : Unit {0}) (j : Job) (most : ℕ) (calls : List Call) (answer : JoyAnswer)
            → ArePlaced d h calls → EndsWith (turns d most 0 (joying_of j)) calls (Some answer) → IsShown j
            → AfterRead IsShownAt t answer.read (after_joy_answer j answer (j.sight ++ noted_sight calls))
        of_turns t j most calls answer placed ends fold =
            let out : List Sight = record_sight answer.record_out in
            of_read t answer.read _
            (rw (append_assoc, shows-on) (turns-shows most 0 _ calls answer ends placed))

        of_call : (c : Command) → is_command_of Joy c ≡ true → is_joy_call c ≡ true
            → (j : Job) (x : Step) (a : Answer) → step_of j.reading.client c ≡ Some x → IsShown j
            → IsShown (after_call j x a)
        of_call Close joy one j x a is fold =
            let close : ToClose j.reading.client ≡ x = cc in
            let front : List Sight = call_sight (ToClose j.reading.client) a.reply ++ again_sight a.reply in
            rw close at
            (shows-on j _ fold
            ∙ joy_fold-append _ front (map taken_sight a.events)
            ∙ taken-shown _ a.events
            ∙ close_entry _ _ a.reply)
        of_call c joy one j x a is fold = absurd cc

    -- each start, read and close of a joystick changes its picture as the new entries change the fold
    pub joystick-folds : (n : ℕ) (command : Command) (j k : Job) (calls : List Call)
        → is_command_of Joy command ≡ true → ArePlaced d h calls
        → EndsWith (joystick_talk d n command j) calls (Some k) → IsShown j → IsShown k
    joystick-folds n command j k calls of_role placed ends fold =
        meets-ends Any (Placed d h) (OfJob IsShownAt) tt tt (joystick_talk d n command j) calls (Some k)
        (joystick-meets (Placed d h) IsShownAt d command (joy-shown command of_role) n tt j fold)
        (placed-run d h calls placed) ends
