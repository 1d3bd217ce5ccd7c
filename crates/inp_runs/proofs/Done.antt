-- What comes of a device whose actors did all their lines is promised.
use Rattle.std.proofs.Common.{◌≡◌, ℕ, ◌<◌, ◌≤◌, Bool, true, if◌then◌else◌, nat_lt, List, [], ◌∷◌, length}
use Rattle.std.proofs.Common.{map, take, reverse, suc, refl, sym, subst, ◌∙◌, arith, inl, inr, Option, Some}
use Rattle.std.proofs.Common.{None}
use Rattle.inp_model.specs.Description.{IsDescription}
use Rattle.inp_model.specs.Event.{is_report}
use Rattle.inp_script.specs.Job.{job_end}
use Rattle.inp_runs.specs.Job.{FollowsLines, IsRun, calls_at, wait_of}
use Rattle.inp_runs.specs.JobViews.{IsEventTaken, sight_view}
use Rattle.inp_runs.proofs.views.Shown.{HasLossCause, IsOwnEvent, IsSeenAt}
use Rattle.inp_runs.proofs.Common.{range_with_len, sum_by, nat_tests, same_Some, slice_get-map}
use Rattle.inp_runs.proofs.Common.{slice_get_within, Taken, Step, Description, eaten, IsHistory, past_at}
use Rattle.inp_runs.proofs.Common.{Call, HasPlace, IsLegalFrom, place_of, next_place, ActorText, Line, Role}
use Rattle.inp_runs.proofs.Common.{RecordView, IsRecord, Talk, Waiting, ActorView, AgreesIn, reads_as, Sight}
use Rattle.inp_runs.proofs.Common.{Job, first_job, lines_by, lines_talk, AreTold}
use Rattle.std.specs.Prelude.{slice_get}
use Rattle.inp_actors.specs.declared.device_text.DeviceText.{DeviceText}
use Rattle.inp_recon.specs.ClientView.{ReadEntry, view_at}
use Rattle.inp_recon.specs.Synchronised.{is_dropped, is_synchronised}
use Rattle.inp_recon.proofs.FaithfulHistories.{faithful_by_reads}
use Rattle.inp_recon.proofs.FaithfulReads.{reads-faithful}
use Rattle.inp_runs.proofs.losses.Causes.{all_taken-caused}
use Rattle.inp_reader.proofs.Calls.{IsPlaceOf}
use Rattle.inp_reader.proofs.LessEffort.{place-below}
use Rattle.inp_script.specs.Ended.{ended_of}
use Rattle.inp_script.specs.Runs.{is_on_device, actors_of}
use Rattle.inp_runs.specs.Done.{HasFollowed, IsDeviceDone}
use Rattle.inp_runs.proofs.Entries.{entries_at, told-counts}
use Rattle.inp_runs.proofs.views.Folded.{its_lines, view-folded}
use Rattle.inp_runs.proofs.JobEnds.{sum-ends}
use Rattle.inp_runs.proofs.JobTold.{job-told}
use Rattle.inp_runs.proofs.views.JobViews.{IsShown, job-shown}
use Rattle.inp_runs.proofs.memory.ReaderTalks.{AreAnswered}
use Rattle.inp_runs.proofs.Lists.{IsAt, IsImage, option_map-some, slice_get-filter}
use Rattle.inp_runs.proofs.memory.Memory.{answered-memory, gives_up-lines, talk-answered}
use Rattle.inp_runs.proofs.owners.Owners.{AreCallsOf, Counts, HasOwners, calls-of, counts-place, has-one}
use Rattle.inp_runs.proofs.owners.Owners.{history-of-jobs, short-history}

-- the place of an accepted call is one of the history, and below its limit
place-within : (d : Description) (history : List Step) (least place : ℕ) (calls : List Call)
    → IsLegalFrom d history least calls → IsPlaceOf place calls
    → (place < length history) × (place < d.log_limit)
unfolding IsPlaceOf
place-within d history least place [] legal h = absurd h
place-within d history least place (call ∷ calls) legal (inl same) =
    let p : HasPlace d history call = legal.1 in
    let at : ℕ = place_of call.answer.reply in
    let here : at < length history = slice_get_within history at call.step (p.entered same.0) in
    let below : at < d.log_limit = place-below d (past_at history at) call.step call.answer p.exact same.0 in
    (omega (arith, same.1, here), omega (arith, same.1, below))
place-within d history least place (call ∷ calls) legal (inr h) =
    place-within d history (next_place call.answer.reply) place calls legal.2 h

-- an event that is its client's own, is shown at a report and has a cause at a loss is taken so
event-taken : (d : Description) (history : List Step) (role : Role) (sight : List Sight) (taken : Taken)
    → IsOwnEvent d history sight taken
    → (is_report taken.event ≡ true → IsSeenAt d history role sight taken)
    → (is_dropped taken.event ≡ true → HasLossCause d history sight taken)
    → IsEventTaken d history role sight taken
event-taken d history role sight taken own seen caused = record {
  index = own.index;
  is_own = own.is_own;
  at = own.at;
  is_at = own.is_at;
  is_taken = own.is_taken;
  agrees = λ report.
      let s = seen report in
      let index : s.index ≡ own.index = same_Some s.index own.index (sym s.is_own ∙ own.is_own) in
      let at : s.at ≡ own.at = same_Some s.at own.at (sym s.is_at ∙ rw index own.is_at) in
      subst (λ (e : ReadEntry). is_synchronised d e.before (reads_as sight) e.taken ≡ true
      → AgreesIn d (sight_view role d history sight) (view_at d (reads_as sight) e)) at s.agrees;
  caused = caused;
}

module _ (r : RecordView) (d : Description) (wait : Option Waiting) (history : List Step) (text : ActorText)
    (a : ActorView) (is_record : IsRecord r) (is_text : slice_get r.actors a.actor ≡ Some text)
    (f : HasFollowed r d wait history text.role a) where
  -- the calls of one that did its lines were answered
  followed-answered : AreAnswered d f.calls
  followed-answered =
      let lines : List Line = lines_by a.actor r.lines in
      let talk : Talk (Option Job) =
      lines_talk text.role d r.streams wait f.rounds lines (first_job text.role d) in
      talk-answered d history 0 talk f.calls a.job
      (gives_up-lines text.role d r.streams wait f.rounds lines (first_job text.role d)
      (its_lines r a.actor text is_text r.lines is_record.commands)) f.legal f.follows

  -- the sight tells of the calls, as they were answered and are those of the actor's lines
  pub followed-told : AreTold wait f.calls a.job.sight
  followed-told =
      job-told text.role d r.streams wait f.rounds
      (lines_by a.actor r.lines) a.job f.calls followed-answered f.follows

  -- what it did is promised, by what its sight shows
  followed : IsShown d history text.role a.job → FollowsLines r d wait history text.role a
  followed shown = record {
    is_role = f.is_role;
    calls = f.calls;
    legal = f.legal;
    memory = answered-memory d f.calls followed-answered;
    told = followed-told;
    rounds = f.rounds;
    follows = f.follows;
    folded =
        view-folded r d history wait f.rounds a.actor text a.job f.calls is_record is_text f.legal f.follows;
    sized = λ other. shown.sized (rw other);
    took = λ k taken at.
        event-taken d history text.role (take (suc k) a.job.sight) taken (shown.own k taken at)
        (shown.seen k taken at) (shown.losses k taken at);
    owned = f.owned;
  }

-- The actors of a device

-- an actor of the device, with what it did
record IsActorOf (r : RecordView) (i : ℕ) (d : Description) (wait : Option Waiting) (history : List Step)
    (a : ActorView) : Type 0 where
  text : ActorText
  is_text : slice_get r.actors a.actor ≡ Some text
  followed : HasFollowed r d wait history text.role a

pub its_text : (i : ℕ) (o : Option ActorText) → is_on_device i o ≡ true → (text : ActorText) × (o ≡ Some text)
its_text i None h = absurd cc
its_text i (Some text) h = (text, refl)

-- a sum that is 1 below a length, and 0 from it on
one_or_none : (sum place long : ℕ) → (place < long → sum ≡ 1) → (1 ≤ sum → place < long)
    → sum ≡ (if nat_lt place long then 1 else 0)
one_or_none sum place long below above = grind (arith, nat_tests, below, above)

-- what the sight of an actor shows
shown-of : (r : RecordView) (i : ℕ) (d : Description) (wait : Option Waiting) (history : List Step)
    (actors : List ActorView) (k : ℕ) (a : ActorView) → IsRecord r → HasOwners d history (map job_end actors)
    → slice_get actors k ≡ Some a → (its : IsActorOf r i d wait history a)
    → IsShown d history its.text.role a.job
shown-of r i d wait history actors k a is_record owners is its =
    let f = its.followed in
    job-shown r d history (map job_end actors) k
    (job_end a) its.text wait f.rounds a.job f.calls is_record owners
    (rw (slice_get-map, is)) its.is_text f.legal
    (followed-told r d wait history its.text a is_record its.is_text f) f.follows

module _ (idle : Option ℕ) (r : RecordView) (i : ℕ) (d : Description) (history : List Step)
    (actors : List ActorView) (s : IsDeviceDone idle r i d history actors) where
  abbrev wait : Option Waiting
  wait = wait_of idle r i

  actor_of : (k : ℕ) (a : ActorView) → slice_get actors k ≡ Some a → IsActorOf r i d wait history a
  actor_of k a h =
      let number : ActorView → ℕ = λ (b : ActorView). b.actor in
      let on : ℕ → Bool = λ (n : ℕ). is_on_device i (slice_get r.actors n) in
      let there : slice_get (actors_of r.actors i) k ≡ Some a.actor = rw (← s.numbers, slice_get-map, h) in
      let at : IsAt on (range_with_len 0 (length r.actors)) a.actor =
      slice_get-filter on (range_with_len 0 (length r.actors)) k a.actor there in
      let text = its_text i (slice_get r.actors a.actor) at.passes in
      record { text = text.0; is_text = text.1; followed = s.each k a text.0 h text.1 }

  -- an actor that counts at a place has a call there
  called-within : (k place : ℕ) (a : ActorView) → IsRecord r → slice_get actors k ≡ Some a
      → 1 ≤ calls_at place a → (place < length history) × (place < d.log_limit)
  called-within k place a is_record h some =
      let its = actor_of k a h in
      let f = its.followed in
      let counted =
      told-counts wait f.calls a.job.sight
      (followed-told r d wait history its.text a is_record its.is_text f) place in
      place-within d history 0 place f.calls f.legal
      (counts-place place f.calls (omega (arith, some, counted)))

  counts-within : (place : ℕ) → IsRecord r → 1 ≤ sum_by (calls_at place) actors
      → (place < length history) × (place < d.log_limit)
  counts-within place is_record some =
      let one : Counts (calls_at place) actors = has-one (calls_at place) actors some in
      called-within one.index place one.item is_record one.is one.some

  -- so the history is within its limit
  within-limit : IsRecord r → length history ≤ d.log_limit
  within-limit is_record =
      let below : 1 ≤ sum_by (calls_at d.log_limit) actors → d.log_limit < d.log_limit =
      λ some. (counts-within d.log_limit is_record some).1 in
      grind (arith, s.once d.log_limit, below)

  once-each : IsRecord r → (place : ℕ)
      → entries_at place (map job_end actors) ≡ (if nat_lt place (length history) then 1 else 0)
  once-each is_record = λ place.
      rw sum-ends (one_or_none (sum_by (calls_at place) actors) place (length history) (s.once place)
      (λ some. (counts-within place is_record some).0))

  -- The jobs of a device

  owners-of : IsRecord r → IsDescription d → HasOwners d history (map job_end actors)
  owners-of is_record described = record {
    each = λ k job h.
        let image : IsImage job_end (slice_get actors k) job =
        option_map-some job_end (slice_get actors k) job (sym (slice_get-map job_end actors k) ∙ h) in
        let a : ActorView = image.from in
        let its = actor_of k a image.is in
        let f = its.followed in
        subst (AreCallsOf d history) image.same
        (calls-of its.text.role d history r.streams wait f.rounds (lines_by a.actor r.lines)
        (job_end a) a.job f.calls f.legal
        (followed-told r d wait history its.text a is_record its.is_text f) f.follows);
    once = once-each is_record;
    short = short-history d history described (within-limit is_record);
  }

  -- all promises on a device follow from what its actors did and from one call at each place
  device_is : IsRecord r → IsDescription d
      → IsRun idle r i d (record { history = history; ends = map ended_of actors })
  device_is is_record described =
      let owners : HasOwners d history (map job_end actors) = owners-of is_record described in
      let past : IsHistory d (reverse history) = history-of-jobs d history (map job_end actors) owners in
      record {
        within = within-limit is_record;
        accepted = past;
        faithful =
            λ client. faithful_by_reads reads-faithful (eaten d) d (reverse history) client described past;
        losses = λ client. all_taken-caused d (reverse history) client;
        actors = actors;
        numbers = s.numbers;
        each = λ k a text is is_text.
            let its : IsActorOf r i d wait history a =
            record { text = text; is_text = is_text; followed = s.each k a text is is_text } in
            followed r d wait history text a is_record is_text its.followed
            (shown-of r i d wait history actors k a is_record owners is its);
        ended = refl;
        once = λ place. sym (sum-ends place actors) ∙ once-each is_record place;
      }

-- so the result of a device whose actors did all their lines is promised
pub device-promised : (idle : Option ℕ) (r : RecordView) (i : ℕ) (device : DeviceText) (history : List Step)
    (actors : List ActorView) → IsRecord r → IsDescription device.caps
    → IsDeviceDone idle r i device.caps history actors
    → IsRun idle r i device.caps (record { history = history; ends = map ended_of actors })
device-promised idle r i device history actors is_record described s =
    device_is idle r i device.caps history actors s is_record described
