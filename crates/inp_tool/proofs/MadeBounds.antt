-- No job of a record that is made stops since a history is full.
use Rattle.std.proofs.Common.{◌≡◌, ◌≤◌, ℕ, zero, suc, ◌+◌, ◌*◌, ◌%◌, nat_eq, Bool, true, false, if◌then◌else◌}
use Rattle.std.proofs.Common.{List, [], ◌∷◌, ◌++◌, map, length, refl, sym, ap, arith, Option, Some, None}
use Rattle.std.specs.Prelude.{◌&&◌, codes, nat_le, filter, slice_get, flat_map, option_and_then, option_map}
use Rattle.std.specs.List.{enumerate_from, list_any, range_with_len}
use Rattle.std.proofs.lemmas.Bool.{ne_eqb, cond_both, and_parts, leb-true}
use Rattle.std.proofs.lemmas.Option.{option_and_then_some, cond_some}
use Rattle.inp_args.specs.declared.request.Request.TheVariants.{Make}
use Rattle.inp_args.specs.Command.{is_taken, is_given, found_text}
use Rattle.inp_args.specs.Number.{number_of}
use Rattle.inp_args.specs.declared.request.Request.{Request}
use Rattle.inp_args.specs.Request.{number_or, request_of, requested}
use Rattle.inp_model.specs.declared.event.Event.{Event}
use Rattle.inp_model.specs.declared.step.Step.{Step}
use Rattle.inp_model.specs.Description.{ring}
use Rattle.inp_actors.specs.declared.command.Command.TheVariants as command
use Rattle.inp_actors.specs.declared.line.Line.{Line}
use Rattle.inp_actors.specs.Record.{RecordView}
use Rattle.inp_make.specs.Generated.{pad, line, injected, finger_events}
use Rattle.inp_make.specs.Generated.{touches, frame_events, follows, frame_lines, open_lines, lines}
use Rattle.inp_make.specs.Generated.{generated}
use Rattle.inp_reader.specs.Reader.{queries, axes_among}
use Rattle.inp_actors.specs.declared.role.Role.{Role}
use Rattle.inp_actors.specs.declared.role.Role.TheVariants.{Owner}
use Rattle.inp_script.specs.declared.end.ended.Ended.{Ended}
use Rattle.inp_script.specs.declared.end.ended.Ended.TheVariants.{Job as JobEnded, Joy as JoyEnded}
use Rattle.inp_script.specs.declared.end.ended.Ended.TheVariants.{Owner as OwnerEnded}
use Rattle.inp_script.specs.declared.run.DeviceEnds.{DeviceEnds}
use Rattle.inp_script.specs.declared.run.Played.{Played}
use Rattle.inp_script.specs.declared.run.Run.{Run}
use Rattle.inp_script.specs.Ended.{ended_as, ended_of, ended_run, jobs_among, played_of}
use Rattle.inp_script.specs.Job.{ActorView, JobView, last_stop}
use Rattle.inp_script.specs.Runs.{AreJoysOf, AreOwnersOf}
use Rattle.inp_runs.specs.Play.{Stage, first_stage, after_lines, run_of, runs_of, play, IsPlay}
use Rattle.inp_play.proofs.Follows.{HasQueries}
use Rattle.inp_play.proofs.Growth.{IsBound, IsShort, Adds, event-bound, open-bound, follow-bound, adds-none}
use Rattle.inp_play.proofs.Growth.{adds-line, adds-more, adds-append}
use Rattle.inp_runs.proofs.Lists.{IsImage, option_map-some}
use Rattle.inp_play.proofs.OwnQueues.{quiet-keys, quiet-slots}
use Rattle.inp_tool.specs.Outcome.{is_stopped_full, has_full}
use Rattle.inp_tool.proofs.MadeAlone.{made-no_joys, made-no_owners}

-- The device

pad-limit : pad.log_limit ≡ 1048576
unfolding pad
pad-limit = refl

pad-ring : ring pad ≡ 512
unfolding pad
pad-ring = refl

-- a reader asks for the keys and for the slots
pad-queries : HasQueries pad 2
unfolding pad queries axes_among
pad-queries = record {
  few = λ client. omega arith;
  quiet = λ client. (quiet-keys pad client, (quiet-slots pad client, tt));
}

opening : IsBound pad command.Open 3
opening = open-bound pad 2 pad-queries

-- eight reads and a synchronisation
following : IsBound pad command.Follow 11
following = follow-bound pad 2 8 pad-queries (omega (arith, pad-ring))

-- The lines

adds-events : (r : RecordView) (frame : ℕ) (es : List Event)
    → Adds r pad (length es) (map (injected frame) es)
adds-events r frame [] = adds-none r pad
adds-events r frame (e ∷ es) =
    adds-more r pad (1 + length es) (suc (length es)) (map (injected frame) (e ∷ es)) (omega arith)
    (adds-line r pad (length es) 1 (injected frame e) (map (injected frame) es)
    (event-bound pad (10000 * (frame + 1)) e.kind e.code e.value) (adds-events r frame es))

adds-follows : (r : RecordView) (frame : ℕ) → Adds r pad 22 (follows frame)
adds-follows r frame =
    let mid_line : List Line = line 2 command.Follow ∷ [] in
    adds-line r pad 11 11 (line 1 command.Follow) _ following
    (cond_both (nat_eq (frame % 10) 9) mid_line [] (λ (ls : List Line). Adds r pad 11 ls)
    (λ _. adds-line r pad 0 11 (line 2 command.Follow) [] following (adds-none r pad))
    (λ _. adds-more r pad 0 11 [] (omega arith) (adds-none r pad)))

first-events : (number : ℕ) → length (frame_events number 0) ≡ 42
unfolding frame_events touches finger_events
first-events number = refl

later-events : (number frame : ℕ) → length (frame_events number (suc frame)) ≡ 31
unfolding frame_events touches finger_events
later-events number frame =
    let no : nat_eq (suc frame) 0 ≡ false = ne_eqb (suc frame) 0 (omega arith) in
    rw no refl

most-events : (number frame : ℕ) → length (frame_events number frame) ≤ 42
most-events number zero = omega (arith, first-events number)
most-events number (suc frame) = omega (arith, later-events number frame)

adds-frame : (r : RecordView) (number frame : ℕ) → Adds r pad 64 (frame_lines number frame)
unfolding frame_lines
adds-frame r number frame =
    adds-append r pad 42 22 (map (injected frame) (frame_events number frame)) (follows frame)
    (adds-more r pad (length (frame_events number frame)) 42
    (map (injected frame) (frame_events number frame)) (most-events number frame)
    (adds-events r frame (frame_events number frame)))
    (adds-follows r frame)

adds-frames : (r : RecordView) (number first count : ℕ)
    → Adds r pad (64 * count) (flat_map (frame_lines number) (range_with_len first count))
adds-frames r number first zero = adds-none r pad
adds-frames r number first (suc count) =
    adds-more r pad (64 + 64 * count) (64 * suc count) _ (omega arith)
    (adds-append r pad 64 (64 * count) (frame_lines number first)
    (flat_map (frame_lines number) (range_with_len (first + 1) count)) (adds-frame r number first)
    (adds-frames r number (first + 1) count))

adds-opens : (r : RecordView) → Adds r pad 9 open_lines
adds-opens r =
    adds-line r pad 6 3 (line 1 command.Open) _ opening
    (adds-line r pad 3 3 (line 2 command.Open) _ opening
    (adds-line r pad 0 3 (line 3 command.Open) [] opening (adds-none r pad)))

adds-lines : (r : RecordView) (number count : ℕ) → Adds r pad (20 + 64 * count) (lines number count)
unfolding lines
adds-lines r number count =
    let frames : List Line = flat_map (frame_lines number) (range_with_len 0 count) in
    let last : List Line = line 3 command.Follow ∷ [] in
    adds-more r pad (9 + 64 * count + 11) (20 + 64 * count) _ (omega arith)
    (adds-append r pad (9 + 64 * count) 11 (open_lines ++ frames) last
    (adds-append r pad 9 (64 * count) open_lines frames (adds-opens r) (adds-frames r number 0 count))
    (adds-line r pad 0 11 (line 3 command.Follow) [] following (adds-none r pad)))

-- Before the first line

first_short : (number count : ℕ) → IsShort pad 0 (first_stage (generated number count))
first_short number count = record { pasts = pasts; actors = actors }
  where
    stage : Stage
    stage = first_stage (generated number count)

    pasts : (i : ℕ) (past : List Step) → slice_get stage.pasts i ≡ Some past → length past ≤ 0
    pasts zero past h = let same : [] ≡ past = cc in omega (arith, ap length (sym same))
    pasts (suc i) past h = absurd cc

    same_some : (a b : ActorView) → Some a ≡ Some b → (a.description ≡ pad) × (a.job.stop ≡ None)
        → (b.description ≡ pad) × (b.job.stop ≡ None)
    same_some a b h fine = let same : a ≡ b = cc in rw same at fine

    actors : (i : ℕ) (a : ActorView) → slice_get stage.actors i ≡ Some a
        → (a.description ≡ pad) × (a.job.stop ≡ None)
    actors zero a h = same_some _ a h (refl, refl)
    actors (suc zero) a h = same_some _ a h (refl, refl)
    actors (suc (suc zero)) a h = same_some _ a h (refl, refl)
    actors (suc (suc (suc zero))) a h = same_some _ a h (refl, refl)
    actors (suc (suc (suc (suc i)))) a h = absurd cc

-- What came of it

-- an actor's job stopped since the history was full; an owner's end is no job's
abbrev is_full_end : Ended → Bool
is_full_end (JobEnded job) = is_stopped_full job.stop
is_full_end (JoyEnded joy) = is_stopped_full joy.stop
is_full_end (OwnerEnded owner) = false

no_full_end : (a : ActorView) → a.job.stop ≡ None → is_full_end (ended_of a) ≡ false
no_full_end a none = by_role a.role
  where
    goes_on : is_stopped_full (last_stop a.job.stop) ≡ false
    goes_on = rw none

    by_role : (role : Role) → is_full_end (ended_as role a) ≡ false
    by_role Owner = refl
    by_role role = goes_on

-- some of these jobs did, and some of the runs' jobs
abbrev has_full_job : List JobView → Bool
has_full_job jobs = list_any (λ (job : JobView). is_stopped_full job.stop) jobs

abbrev has_full_run : List Run → Bool
has_full_run runs = list_any (λ (run : Run). has_full_job run.jobs) runs

-- one more that did not
no_more_full : (ended : Ended) (ends : List Ended) → is_full_end ended ≡ false
    → has_full_job (jobs_among ends) ≡ false → has_full_job (jobs_among (ended ∷ ends)) ≡ false
no_more_full (JobEnded job) ends first more = rw first more
no_more_full ended ends first more = more

no_full_job : (p : ActorView → Bool) (actors : List ActorView)
    → ((i : ℕ) (a : ActorView) → slice_get actors i ≡ Some a → a.job.stop ≡ None)
    → has_full_job (jobs_among (map ended_of (filter p actors))) ≡ false
no_full_job p [] none = refl
no_full_job p (a ∷ actors) none =
    let P : List ActorView → Type 0 = λ xs. has_full_job (jobs_among (map ended_of xs)) ≡ false in
    let more = no_full_job p actors (λ i b h. none (suc i) b h) in
    cond_both (p a) (a ∷ filter p actors) (filter p actors) P
    (λ _. no_more_full (ended_of a) (map ended_of (filter p actors)) (no_full_end a (none 0 a refl)) more)
    (λ _. more)

-- the runs of these devices
abbrev runs_among : List DeviceEnds → List Run
runs_among devices = map ended_run devices

no_full_run : (r : RecordView) (stage : Stage) (numbered : List (ℕ × List Step))
    → ((i : ℕ) (a : ActorView) → slice_get stage.actors i ≡ Some a → a.job.stop ≡ None)
    → has_full_run (runs_among (map (run_of r stage) numbered)) ≡ false
no_full_run r stage [] none = refl
no_full_run r stage (first ∷ numbered) none =
    rw (no_full_job _ stage.actors none) (no_full_run r stage numbered none)

made-no_full_run : (number count : ℕ) (played : Played) → 1 ≤ count → count ≤ 10000
    → IsPlay (generated number count) played → has_full_run played.runs ≡ false
unfolding play
made-no_full_run number count played least most is =
    let r : RecordView = generated number count in
    let finish : Stage → Played = λ stage. played_of (runs_of r stage) in
    let image : IsImage finish (after_lines r is.rounds (first_stage r) r.lines) played =
    option_map-some finish (after_lines r is.rounds (first_stage r) r.lines) played is.plays in
    let short : IsShort pad (0 + (20 + 64 * count)) image.from =
    adds-lines r number count is.rounds 0 (first_stage r) image.from (first_short number count)
    (omega (arith, most, pad-limit)) image.is in
    rw (← image.same)
    (no_full_run r image.from (enumerate_from 0 image.from.pasts) (λ i a h. (short.actors i a h).1))

made-not_full : (number count : ℕ) (played : Played) → 1 ≤ count → count ≤ 10000
    → IsPlay (generated number count) played → AreJoysOf (generated number count) played.joys
    → AreOwnersOf (generated number count) played.owners → has_full played ≡ false
made-not_full number count played least most is joys owners =
    rw (
      made-no_full_run number count played least most is,
      made-no_joys number count played.joys joys,
      made-no_owners number count played.owners owners,
    )

-- The count that is asked for

made_count : (number count : ℕ) (a b : Option ℕ)
    → option_and_then (λ n. option_map (λ frames. Make n frames) b) a ≡ Some (Make number count)
    → b ≡ Some count
made_count number count (Some x) (Some y) h = cc
made_count number count (Some x) None h = absurd cc
made_count number count None b h = absurd cc

read_count : (count : ℕ) (text : Option (List ℕ)) → number_or 100 10000 text ≡ Some count
    → (1 ≤ count) × (count ≤ 10000)
read_count count None h = let same : 100 ≡ count = cc in (omega arith, omega arith)
read_count count (Some text) h =
    let within : ℕ → Option ℕ = λ n. if nat_le 1 n && nat_le n 10000 then Some n else None in
    option_and_then_some within (number_of text) count h (λ n is e.
    let found = cond_some (nat_le 1 n && nat_le n 10000) n count e in
    let range = and_parts (nat_le 1 n) (nat_le n 10000) found.0 in
    (omega (arith, leb-true 1 n range.0, found.1), omega (arith, leb-true n 10000 range.1, found.1)))

asked_count : (number count : ℕ) (file make text bound : Option (List ℕ)) (migrate history : Bool)
    (idle : Option ℕ) → request_of file make text bound migrate history idle ≡ Some (Make number count)
    → (1 ≤ count) × (count ≤ 10000)
asked_count number count (Some file) None None bound false history idle h = absurd cc
asked_count number count (Some file) None None None true false None h = absurd cc
asked_count number count None (Some make) text bound false false None h =
    read_count count text (made_count number count (number_of make) (number_or 100 10000 text) h)
asked_count number count file make text bound migrate history idle h = absurd cc

has_count : (words : List (List ℕ)) (number count : ℕ) → requested words ≡ Some (Make number count)
    → (1 ≤ count) × (count ≤ 10000)
has_count words number count h = by_flag (is_taken words) h
  where
    with_bound : ℕ → Option Request
    with_bound n =
        request_of (found_text (codes "FILE") words) (found_text (codes "make") words)
        (found_text (codes "count") words) (found_text (codes "idle") words)
        (is_given (found_text (codes "migrate") words)) (is_given (found_text (codes "history") words))
        (if is_given (found_text (codes "threads") words) then Some n else None)

    by_idle : (idle : Option ℕ) → option_and_then with_bound idle ≡ Some (Make number count)
        → (1 ≤ count) × (count ≤ 10000)
    by_idle None e = absurd cc
    by_idle (Some n) e =
        asked_count number count (found_text (codes "FILE") words) (found_text (codes "make") words)
        (found_text (codes "count") words) (found_text (codes "idle") words)
        (is_given (found_text (codes "migrate") words)) (is_given (found_text (codes "history") words))
        (if is_given (found_text (codes "threads") words) then Some n else None) e

    idle : Option ℕ
    idle = number_or 1000000 1000000000 (found_text (codes "idle") words)

    by_flag : (b : Bool) → (if b then option_and_then with_bound idle else None) ≡ Some (Make number count)
        → (1 ≤ count) × (count ≤ 10000)
    by_flag true e = by_idle idle e
    by_flag false e = absurd cc

-- what is asked for and comes of it in file order stops no job as full
pub asked-not_full : (words : List (List ℕ)) (number count : ℕ) (played : Played)
    → requested words ≡ Some (Make number count) → IsPlay (generated number count) played
    → AreJoysOf (generated number count) played.joys → AreOwnersOf (generated number count) played.owners
    → has_full played ≡ false
asked-not_full words number count played asked is joys owners =
    let range = has_count words number count asked in
    made-not_full number count played range.0 range.1 is joys owners
