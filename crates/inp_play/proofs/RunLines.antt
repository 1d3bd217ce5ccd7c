-- Lines that follow each other and inject events of one source leave what the talk of all these events
-- leaves.
use Rattle.std.proofs.Common.{◌≡◌, ℕ, Bool, true, false, if◌then◌else◌, List, [], ◌∷◌, length, map}
use Rattle.std.proofs.Common.{Option, Some, None, refl, sym, ap, ◌∙◌}
use Rattle.std.specs.Prelude.{slice_get, slice_set, option_map, option_and_then}
use Rattle.std.proofs.lemmas.List.{set-set}
use Rattle.inp_model.specs.Reply.{done_answer, is_full}
use Rattle.inp_script.proofs.Common.{Stamped, Step, ActorText, Line, Source, RecordView}
use Rattle.inp_script.proofs.Common.{Job, ActorView, Answer, answer_by, is_accepted, past_after, Refused}
use Rattle.inp_script.proofs.Common.{Talk, finish, talk_with, unless_stopped, inject_talk, line_talk}
use Rattle.inp_script.proofs.Common.{after_call, call_talk, stream_talk}
use Rattle.inp_model.specs.Injection.{inject_of}
use Rattle.inp_script.specs.declared.stop.Stop.TheVariants.{Full}
use Rattle.inp_runs.specs.Play.{after_talk, after_line_of}
use Rattle.inp_runs.specs.EventLines.{inject_line}
use Rattle.inp_play.proofs.Common.{Stage, after_line, after_lines, Stop}
use Rattle.inp_runs.proofs.order.LineDone.{set_same}
use Rattle.inp_runs.proofs.Lists.{slice_get-set_same}
use Rattle.inp_model.specs.declared.reply.Refusal.TheVariants.{LogFull}

-- a line whose actor's text, actor and device's past are found
pub line-finds : (r : RecordView) (n : ℕ) (s : Stage) (line : Line) (text : ActorText) (a : ActorView)
    (past : List Step)
    → slice_get r.actors line.actor ≡ Some text → slice_get s.actors line.actor ≡ Some a
    → slice_get s.pasts text.device ≡ Some past
    → after_line r n s line ≡ after_line_of r n s line text.device a past
unfolding after_line
line-finds r n s line text a past is_text is_actor is_past =
    let by_past : ActorText → ActorView → List Step → Option Stage =
    λ t b p. after_line_of r n s line t.device b p in
    let by_actor : ActorText → ActorView → Option Stage =
    λ t b. option_and_then (by_past t b) (slice_get s.pasts t.device) in
    let by_text : ActorText → Option Stage =
    λ t. option_and_then (by_actor t) (slice_get s.actors line.actor) in
    ap (option_and_then by_text) is_text ∙ ap (option_and_then (by_actor text)) is_actor
    ∙ ap (option_and_then (by_past text a)) is_past

module _ (r : RecordView) (n number : ℕ) (text : ActorText)
    (is_text : slice_get r.actors number ≡ Some text) where
  -- a source, and what its device accepted
  pub record IsSourceAt (s : Stage) (a : ActorView) (past : List Step) : Type 0 where
    -- it is a source
    pub role : a.role ≡ Source
    -- it has that number
    pub place : a.actor ≡ number
    -- it stands at its number
    pub is_actor : slice_get s.actors number ≡ Some a
    -- what its device accepted so far
    pub is_past : slice_get s.pasts text.device ≡ Some past

  -- the stage behind a talk of it
  abbrev behind : Stage → ActorView → List Step → Talk (Option Job) → Option Stage
  behind s a past talk = after_talk s text.device a (talk_with a.description past talk)

  -- one line
  one-inject : (s : Stage) (a : ActorView) (past : List Step) (x : Stamped) → IsSourceAt s a past
      → after_line r n s (inject_line number x)
      ≡ behind s a past (unless_stopped a.job.stop a.job (call_talk a.job (inject_of x)))
  unfolding line_talk
  one-inject s a past x h =
      let line : Line = inject_line number x in
      rw (line-finds r n s line text a past is_text h.is_actor h.is_past, h.role)

  -- where nothing is done the stage stays
  stays : (s : Stage) (a : ActorView) (past : List Step) → IsSourceAt s a past
      → behind s a past (finish (Some a.job)) ≡ Some s
  unfolding talk_with
  stays s a past h =
      ap (λ (pasts : List (List Step)). let t : Stage =
      record { pasts = pasts; calls = s.calls; actors = slice_set s.actors a.actor a } in Some t)
      (set_same s.pasts text.device past h.is_past)
      ∙ ap (λ (k : ℕ). let t : Stage =
      record { pasts = s.pasts; calls = s.calls; actors = slice_set s.actors k a } in Some t) h.place
      ∙ ap (λ (actors : List ActorView). let t : Stage =
      record { pasts = s.pasts; calls = s.calls; actors = actors } in Some t)
      (set_same s.actors number a h.is_actor)

  -- lines of a source that stopped
  lines-stopped : (events : List Stamped) (s : Stage) (a : ActorView) (past : List Step) (stop : Stop)
      → IsSourceAt s a past → a.job.stop ≡ Some stop
      → after_lines r n s (map (inject_line number) events) ≡ Some s
  unfolding after_lines
  lines-stopped [] s a past stop h e = refl
  lines-stopped (x ∷ events) s a past stop h e =
      ap (option_and_then (λ (now : Stage). after_lines r n now (map (inject_line number) events)))
      (one-inject s a past x h
      ∙ ap (λ (o : Option Stop). behind s a past (unless_stopped o a.job (call_talk a.job (inject_of x)))) e
      ∙ stays s a past h)
      ∙ lines-stopped events s a past stop h e

  -- the stage behind a call of it, by what its device accepted then
  abbrev stage_behind : Stage → ActorView → Job → List Step → Stage
  stage_behind s a j past =
      record {
        pasts = slice_set s.pasts text.device past;
        calls = s.calls;
        actors = slice_set s.actors a.actor (record a { job = j });
      }

  still-source : (s : Stage) (a : ActorView) (past now : List Step) (j : Job) → IsSourceAt s a past
      → IsSourceAt (stage_behind s a j now) (record a { job = j }) now
  still-source s a past now j h = record {
    role = h.role;
    place = h.place;
    is_actor =
        ap (λ (k : ℕ). slice_get (slice_set s.actors k (record a { job = j })) number) h.place
        ∙ slice_get-set_same s.actors number a (record a { job = j }) h.is_actor;
    is_past = slice_get-set_same s.pasts text.device past now h.is_past;
  }

  -- what follows a call replaces what the call left
  behind-again : (s : Stage) (a : ActorView) (j : Job) (past : List Step) (done : Option Job × List Step)
      → after_talk (stage_behind s a j past) text.device (record a { job = j }) done
      ≡ after_talk s text.device a done
  behind-again s a j past done =
      rw (set-set s.pasts text.device past done.1) (by done.0)
    where
      by : (o : Option Job)
          → option_map {U = Stage}
          (λ (job : Job). record {
            pasts = slice_set s.pasts text.device done.1;
            calls = s.calls;
            actors =
                slice_set (slice_set s.actors a.actor (record a { job = j })) a.actor
                (record a { job = job });
          }) o
          ≡ option_map {U = Stage}
          (λ (job : Job). record {
            pasts = slice_set s.pasts text.device done.1;
            calls = s.calls;
            actors = slice_set s.actors a.actor (record a { job = job });
          }) o
      by None = refl
      by (Some job) = rw (set-set s.actors a.actor (record a { job = j }) (record a { job = job }))

  -- what is answered to an injected event, by whether the history is full
  abbrev given : List Step → Bool → Answer
  given past full = answer_by (if full then Some (Refused (length past) LogFull) else None) (done_answer past)

  -- lines of a source that has not stopped
  lines-going : (events : List Stamped) (s : Stage) (a : ActorView) (past : List Step) → IsSourceAt s a past
      → a.job.stop ≡ None
      → after_lines r n s (map (inject_line number) events) ≡ behind s a past (stream_talk events a.job)
  unfolding after_lines talk_with stream_talk
  lines-going [] s a past h e = sym (stays s a past h)
  lines-going (x ∷ events) s a past h e =
      let more : Stage → Option Stage = λ now. after_lines r n now (map (inject_line number) events) in
      ap (option_and_then more) (one-inject s a past x h
      ∙ ap (λ (o : Option Stop). behind s a past (unless_stopped o a.job (call_talk a.job (inject_of x)))) e)
      ∙ by (is_full a.description past)
      (λ (t : Stage) (b : ActorView) (now : List Step). lines-going events t b now)
    where
      by : (full : Bool)
          → ((t : Stage) (b : ActorView) (now : List Step) → IsSourceAt t b now → b.job.stop ≡ None
          → after_lines r n t (map (inject_line number) events) ≡ behind t b now (stream_talk events b.job))
          → (let answer : Answer = given past full in
          let now : List Step = past_after answer.reply (inject_of x) past in
          let j : Job = after_call a.job (inject_of x) answer in
          after_lines r n (stage_behind s a j now) (map (inject_line number) events)
          ≡ behind s a now (if is_accepted answer.reply then stream_talk events j else finish (Some j)))
      by true go_on =
          let j : Job = after_call a.job (inject_of x) (given past true) in
          lines-stopped events (stage_behind s a j past) (record a { job = j }) past (Full (length past))
          (still-source s a past past j h) refl
      by false go_on =
          let j : Job = after_call a.job (inject_of x) (given past false) in
          let now : List Step = inject_of x ∷ past in
          go_on (stage_behind s a j now) (record a { job = j }) now (still-source s a past now j h) refl
          ∙ behind-again s a j now (talk_with a.description now (stream_talk events j))

  -- each line makes the talk's next call, and behind a stop neither makes one
  pub injects-lines : (events : List Stamped) (s : Stage) (a : ActorView) (past : List Step)
      → IsSourceAt s a past
      → after_lines r n s (map (inject_line number) events) ≡ behind s a past (inject_talk events a.job)
  injects-lines events s a past h =
      (elim a.job.stop as (λ o. a.job.stop ≡ o
      → after_lines r n s (map (inject_line number) events)
      ≡ behind s a past (unless_stopped o a.job (stream_talk events a.job))) [
        | None ↦ λ e. lines-going events s a past h e
        | Some stop ↦ λ e. lines-stopped events s a past stop h e ∙ sym (stays s a past h)
      ]) refl
