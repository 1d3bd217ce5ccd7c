-- The view of a client's job at each report that it took.
use Rattle.std.proofs.Common.{◌≡◌, ◌<◌, inl, inr, ℕ, Bool, true, false, nat_eq, List, [], ◌∷◌, ◌++◌, length}
use Rattle.std.proofs.Common.{reverse, refl, sym, ap, subst, ◌∙◌, arith, append-nil, append_assoc, Option}
use Rattle.std.proofs.Common.{Some, None}
use Rattle.inp_actors.specs.declared.command.Command.TheVariants.{Close, Grab, Ungrab, Revoke, Mask, Clock}
use Rattle.inp_actors.specs.declared.command.Command.TheVariants.{Write, SetAxis}
use Rattle.inp_recon.specs.View.{first_view}
use Rattle.inp_recon.proofs.Each.{and-right}
use Rattle.inp_script.proofs.LineWalk.{AfterNext, turn-of, is_one_call, noted-ends-meet}
use Rattle.inp_script.specs.Job.{first_reading}
use Rattle.inp_script.specs.Sight.{start_lacks_memory}
use Rattle.inp_reader.proofs.Meets.{Runs}
use Rattle.inp_runs.proofs.Common.{true≢false, cond_both, eqb-true, Taken, Step, Reply, Description, past_at}
use Rattle.inp_runs.proofs.Common.{Answer, accepted, Call, HasPlace, place_of, is_open_step, Command, Client}
use Rattle.inp_runs.proofs.Common.{is_command_of, eaten, View, IsHistory, Mode, Success, Dropped, Sync}
use Rattle.inp_runs.proofs.Common.{NO_CLIENT, Started, ReaderState, start_talk, next_talk, is_use, is_use_of}
use Rattle.inp_runs.proofs.Common.{Talk, finish, EndsWith, Sight, Took, Stop, Waiting, OfTurn, OfGoing}
use Rattle.inp_runs.proofs.Common.{LineRules, OfJob, read_so, Job, first_job, after_call, tap_client_after}
use Rattle.inp_runs.proofs.Common.{step_of, noted, call_sight, noted_sight, LastRead, reads_as, is_read_as}
use Rattle.inp_runs.proofs.Common.{index_in_history, Any, Meets, meets-then}
use Rattle.inp_model.specs.declared.event.Event.{Event}
use Rattle.inp_model.specs.declared.event.TheConstants.{EV_SYN, SYN_DROPPED, SYN_REPORT}
use Rattle.inp_model.specs.declared.reply.Reply.TheVariants.{Again as NothingVisible}
use Rattle.inp_model.specs.Event.{is_report}
use Rattle.inp_recon.proofs.ReadEntries.{HasEntry, entry-of}
use Rattle.inp_reader.specs.declared.next.Next.{Next}
use Rattle.inp_reader.specs.declared.next.Next.TheVariants.{Again}
use Rattle.inp_recon.specs.Synchronised.{is_dropped}
use Rattle.inp_reader.specs.TrueView.{index_handed_out}
use Rattle.inp_reader.proofs.StandsByCalls.{client-next}
use Rattle.inp_reader.proofs.TalksKeepSpare.{new-spare}
use Rattle.inp_script.specs.declared.sight.Sight.TheVariants.{Again as AgainSight, Made}
use Rattle.inp_script.specs.Client.{LineProgress, Turn, start_job, start_ends, job_after_start, after_next}
use Rattle.inp_script.specs.Client.{mode_of}
use Rattle.inp_script.specs.Client.{with_sight, with_stop, next_round, forced}
use Rattle.inp_script.specs.Folding.{settled, after_first_call}
use Rattle.inp_script.specs.Fold.{client_fold}
use Rattle.inp_script.proofs.ClientFolds.{next-folds, entries_of_next, start-folds}
use Rattle.inp_script.proofs.Folds.{ArePlaced}
use Rattle.inp_script.proofs.LineFolds.{folds-on, IsSilent, no_events, silent-fold}
use Rattle.inp_runs.specs.JobViews.{client_after_sight, read_after_sight, folded_view, sight_view}
use Rattle.inp_runs.proofs.views.AtHand.{AreAtHand, IsRest, hand-first, hand-took, hand-index, hand-taken}
use Rattle.inp_runs.proofs.views.AtHand.{taken-later, index-took, next-hand, read_after-append}
use Rattle.inp_runs.proofs.views.AtHand.{read_after-took, read_after-told, unused-unread, with_handed}
use Rattle.inp_runs.proofs.views.AtHand.{next-sources}
use Rattle.inp_runs.proofs.views.ClientReadings.{IsReadingAt, NextReads, HandsAt, next-reads, start-reads}
use Rattle.inp_runs.proofs.views.ClientReadings.{quiet-reads, quiet-hand, start-hand, legal-first}
use Rattle.inp_runs.proofs.views.Folded.{legal-placed}
use Rattle.inp_runs.proofs.views.JobClients.{Drops, last_opened, next-names, start-names, stays-last}
use Rattle.inp_runs.proofs.views.Reports.{sight_told, AtEach, at_each-append, at_each-noted, place_behind}
use Rattle.inp_runs.proofs.views.Reports.{AreToCome, Coming, Comes, HaveCome, have-come, shows-as}
use Rattle.inp_runs.proofs.views.Reports.{at_each-eventless}
use Rattle.inp_runs.proofs.views.TapViews.{client_after-append, client_after-none, client_after-told}
use Rattle.inp_runs.proofs.LinesWalk.{OfStep}
use Rattle.inp_runs.proofs.views.Shown.{IsOwnEvent, IsSeenAt}

-- What is promised of an event that a client's job took: it is the one of its own index, and at a report the
-- view is shown.
pub record ClientSaw (d : Description) (h : List Step) (sight : List Sight) (taken : Taken) : Type 0 where
  -- it is the one of its own index among those that its client took
  pub own : IsOwnEvent d h sight taken
  -- at a report that was taken the view is the one of its client in the history
  pub seen : is_report taken.event ≡ true → IsSeenAt d h Client sight taken

-- the last read that a job's sight tells of
abbrev last_read : Job → Option LastRead
last_read j = read_after_sight j.reading.client None j.sight

-- the events that a job's reader has at hand, by that read
abbrev pub HasAtHand : Description → List Step → ℕ → Job → List Taken → Type 0
HasAtHand d h least j queue = AreAtHand d h least j.reading.client (last_read j) queue

-- A client's job before the calls that are to come: its view is the fold of its sight, it reads as the client
-- that it opened last, its reader stands so in the history, what it has at hand is the rest of its last read,
-- and at each report its view was that of its client.
pub record IsClientJob (d : Description) (h : List Step) (Q : ℕ → Type 0) (least : ℕ) (j : Job) : Type 0 where
  -- its reader stands so in the history
  pub reading : IsReadingAt d h Q least j.reading
  -- its view is the fold of its sight
  pub folded : client_fold d h (settled (first_view d)) j.sight ≡ settled j.reading.view
  -- it reads as the client that it opened last
  pub reads : reads_as j.sight ≡ j.reading.client
  -- what it has at hand is the rest of its last read
  pub hand : HasAtHand d h least j j.reading.queue
  -- at a report that was taken the view is the one of its client in the history
  pub seen : AtEach (ClientSaw d h) [] j.sight

-- a loss is no report
not-both : (e : Event) → is_dropped e ≡ true → is_report e ≡ true → ⊥
not-both e lost report =
    let one : e.code ≡ SYN_DROPPED =
    eqb-true e.code SYN_DROPPED (and-right (nat_eq e.kind EV_SYN) (nat_eq e.code SYN_DROPPED) lost) in
    let other : e.code ≡ SYN_REPORT =
    eqb-true e.code SYN_REPORT (and-right (nat_eq e.kind EV_SYN) (nat_eq e.code SYN_REPORT) report) in
    omega (arith, one, other)

-- the client that the entries of calls lead to
call-client : (client : ℕ) (x : Step) (reply : Reply)
    → client_after_sight client (call_sight x reply) ≡ tap_client_after x reply client
unfolding client_after_sight
call-client client x (NothingVisible at n) = sym (client_after-none x at n client)
call-client client x _ = refl

noted-client : (client : ℕ) (calls : List Call)
    → client_after_sight client (noted_sight calls) ≡ last_opened client calls
unfolding client_after_sight last_opened
noted-client client [] = refl
noted-client client (call ∷ calls) =
    rw (client_after-append, call-client)
    (noted-client (tap_client_after call.step call.answer.reply client) calls)

module _ (d : Description) (h : List Step) (Q : ℕ → Type 0) (history : IsHistory d (reverse h))
    (short : length h < NO_CLIENT) where
  abbrev IsAt : ℕ → Job → Type 0
  IsAt least j = IsClientJob d h Q least j

  abbrev pub IsClientOn : Coming d h Q → Job → Type 0
  IsClientOn s j = IsAt s.place j

  -- One entry more

  -- A job behind the calls of its reader, where the answer is to add these entries.
  record IsReadTo (least : ℕ) (j : Job) (entries : List Sight) : Type 0 where
    reading : IsReadingAt d h Q least j.reading
    folded : client_fold d h (settled (first_view d)) (j.sight ++ entries) ≡ settled j.reading.view
    reads : reads_as j.sight ≡ j.reading.client
    seen : AtEach (ClientSaw d h) [] j.sight

  module _ (least : ℕ) (j : Job) where
    -- what is promised of an event that was at hand
    took-saw : (taken : Taken) → IsReadTo least j (Took taken ∷ [])
        → IsRest d h least j.reading.client (last_read j) (taken ∷ j.reading.queue)
        → (is_report taken.event ≡ true → HandsAt d h Q least (Success taken) j.reading)
        → ClientSaw d h (j.sight ++ Took taken ∷ []) taken
    unfolding client_after_sight
    took-saw taken r rest shows =
        let client : ℕ = j.reading.client in
        let sight : List Sight = j.sight ++ Took taken ∷ [] in
        let i : ℕ = index_handed_out d (past_at h least) j.reading in
        let now : reads_as sight ≡ client =
        client_after-append NO_CLIENT j.sight (Took taken ∷ []) ∙ r.reads in
        let own : index_in_history d h sight ≡ Some i =
        index-took d h client j.sight taken now ∙ hand-index d h least client (last_read j) taken
        j.reading.queue rest in
        let e : HasEntry (eaten d) d (reverse h) client i taken =
        entry-of (eaten d) d (reverse h) client i taken
        (taken-later d h least client i taken
        (hand-taken d h least client (last_read j) taken j.reading.queue rest)) in
        record {
          own = record {
            index = i;
            is_own = own;
            at = e.at;
            is_at = rw now e.is_at;
            is_taken = e.is_taken;
          };
          seen = λ report.
              shows-as d (reverse h) client (reads_as sight) (Some i) (index_in_history d h sight) taken
              j.reading.view (sight_view Client d h sight) now own (ap folded_view r.folded) (shows report);
        }

    -- what the reader has at hand goes on with the job
    hand-on : (entry : Sight) (queue : List Taken)
        → read_after_sight j.reading.client (last_read j) (entry ∷ []) ≡ last_read j
        → HasAtHand d h least j queue → HasAtHand d h least (with_sight j entry) queue
    hand-on entry queue same hand = rw (read_after-append, same) hand

    took-job : (taken : Taken) → IsReadTo least j (Took taken ∷ [])
        → HasAtHand d h least j (taken ∷ j.reading.queue)
        → (is_report taken.event ≡ true → HandsAt d h Q least (Success taken) j.reading)
        → IsAt least (with_sight j (Took taken))
    unfolding client_after_sight
    took-job taken r hand shows =
        let client : ℕ = j.reading.client in
        let queue : List Taken = j.reading.queue in
        let rest = hand-first d h least client (last_read j) taken queue hand in
        record {
          reading = r.reading;
          folded = r.folded;
          reads = client_after-append NO_CLIENT j.sight (Took taken ∷ []) ∙ r.reads;
          hand =
              rw (read_after-append, read_after-took)
              (inr (hand-took d h least client (last_read j) taken queue rest));
          seen =
              at_each-append (ClientSaw d h) [] j.sight (Took taken ∷ []) r.seen
              (took-saw taken r rest shows, tt);
        }

    made-job : (event : Event) → IsReadTo least j (Made event ∷ []) → HasAtHand d h least j j.reading.queue
        → IsAt least (with_sight j (Made event))
    unfolding client_after_sight read_after_sight
    made-job event r hand = record {
      reading = r.reading;
      folded = r.folded;
      reads = client_after-append NO_CLIENT j.sight (Made event ∷ []) ∙ r.reads;
      hand = hand-on (Made event) j.reading.queue refl hand;
      seen = at_each-append (ClientSaw d h) [] j.sight (Made event ∷ []) r.seen (tt, tt);
    }

    again-job : (at ends : ℕ) → IsAt least j → IsAt least (with_sight j (AgainSight at ends))
    unfolding client_after_sight client_fold read_after_sight
    again-job at ends s = record {
      reading = s.reading;
      folded = folds-on d h (first_view d) j (AgainSight at ends ∷ []) s.folded;
      reads = client_after-append NO_CLIENT j.sight (AgainSight at ends ∷ []) ∙ s.reads;
      hand = hand-on (AgainSight at ends) j.reading.queue refl s.hand;
      seen = at_each-append (ClientSaw d h) [] j.sight (AgainSight at ends ∷ []) s.seen (tt, tt);
    }

    stop-job : (stop : Stop) → IsAt least j → IsAt least (with_stop j stop)
    stop-job stop s =
        record { reading = s.reading; folded = s.folded; reads = s.reads; hand = s.hand; seen = s.seen }

    -- Rounds

    -- no entry is added
    bare-job : IsReadTo least j [] → HasAtHand d h least j j.reading.queue → IsAt least j
    bare-job r hand = record {
      reading = r.reading;
      folded = rw (← append-nil j.sight) r.folded;
      reads = r.reads;
      hand = hand;
      seen = r.seen;
    }

  turn-job : (t : Coming d h Q) (next : Next) (j : Job) → IsReadTo t.place j (entries_of_next next)
      → HasAtHand d h t.place j (with_handed next j.reading.queue) → HandsAt d h Q t.place next j.reading
      → Drops next → AfterNext IsClientOn t next j
  turn-job t (Success taken) j r hand hands drops = took-job t.place j taken r hand (λ report. hands)
  turn-job t (Dropped taken) j r hand hands drops =
      took-job t.place j taken r hand (λ report. absurd (not-both taken.event drops report))
  turn-job t (Sync event) j r hand hands drops = made-job t.place j event r hand
  turn-job t (Again at ends) j r hand hands drops =
      let bare : IsAt t.place j = bare-job t.place j r hand in (bare, again-job t.place j at ends bare)
  turn-job t _ j r hand hands drops = bare-job t.place j r hand

  placed : (least : ℕ) (calls more : List Call) → AreToCome d h Q least (calls ++ more) → ArePlaced d h calls
  placed least calls more c = legal-placed d h least calls (legal-first d h least calls more c.legal)

  -- the sight with the entries of a reader's calls
  noted-reads : (j : Job) (calls : List Call) (client : ℕ) → reads_as j.sight ≡ j.reading.client
      → last_opened j.reading.client calls ≡ client → reads_as (j.sight ++ noted_sight calls) ≡ client
  noted-reads j calls client reads last = rw (client_after-append, reads, noted-client) last

  noted-seen : (j : Job) (calls : List Call) → AtEach (ClientSaw d h) [] j.sight
      → AtEach (ClientSaw d h) [] (j.sight ++ noted_sight calls)
  noted-seen j calls seen =
      at_each-append (ClientSaw d h) [] j.sight (noted_sight calls) seen
      (at_each-noted (ClientSaw d h) j.sight calls)

  -- what is at hand behind them
  noted-hand : (at client now : ℕ) (sight : List Sight) (calls : List Call)
      (queue : List Taken) → now ≡ client
      → AreAtHand d h at client
      (read_after_sight client (read_after_sight client None sight) (noted_sight calls)) queue
      → AreAtHand d h at now (read_after_sight now None (sight ++ noted_sight calls)) queue
  noted-hand at client now sight calls queue same hand = rw (same, read_after-append) hand

  -- the job behind an answer of its reader
  next-job : (s t : Coming d h Q) (mode : Mode) (j : Job) (calls : List Call) (o : Next × ReaderState)
      → Runs (Comes d h Q) s calls t → EndsWith (next_talk d mode j.reading) calls o → IsClientOn s j
      → AfterNext IsClientOn t o.0 (read_so j o.1 (j.sight ++ noted_sight calls))
  next-job s t mode j calls o run ends i =
      let c : HaveCome d h Q s t calls = have-come d h Q s t calls run in
      let client : ℕ = j.reading.client in
      let queue : List Taken = with_handed o.0 o.1.queue in
      let told : List Sight = noted_sight calls in
      let entries : List Sight = entries_of_next o.0 in
      let reads : NextReads d h Q t.place o.0 o.1 =
      rw c.place
      (next-reads d h Q s.place mode j.reading o.1 o.0 calls t.left history short c.to_come i.reading ends) in
      let names = next-names d mode j.reading o.1 o.0 calls ends in
      let hand : AreAtHand d h t.place client (read_after_sight client (last_read j) told) queue =
      rw c.place
      (next-hand d h Q s.place client (last_read j) j.reading.queue queue calls t.left c.to_come i.hand
      (next-sources d mode j.reading o.1 o.0 calls ends)) in
      let read : IsReadTo t.place (read_so j o.1 (j.sight ++ told)) entries = record {
        reading = reads.reading;
        folded =
            rw (append_assoc, folds-on d h (first_view d) j (told ++ entries) i.folded)
            (next-folds d h mode j.reading o.1 o.0 calls (placed s.place calls t.left c.to_come) ends);
        reads = noted-reads j calls o.1.client i.reads names.0;
        seen = noted-seen j calls i.seen;
      } in
      turn-job t o.0 (read_so j o.1 (j.sight ++ told)) read
      (noted-hand t.place client o.1.client j.sight calls queue (client-next d mode j.reading calls o ends)
      hand)
      reads.hands names.1

  round-job : (s : Coming d h Q) (wait : Option Waiting) (skips : Bool) (g : LineProgress)
      → IsClientOn s g.job
      → Meets Any (Comes d h Q) (OfTurn IsClientOn (OfGoing IsClientOn)) s (next_round d wait skips g)
  unfolding next_round
  round-job s wait skips g i =
      let mode : Mode = mode_of skips g.job.reading.phase in
      let talk : Talk (Next × ReaderState) = next_talk d mode g.job.reading in
      let T : Coming d h Q → Turn → Type 0 = OfTurn IsClientOn (OfGoing IsClientOn) in
      let A : Coming d h Q → (Next × ReaderState) × List Sight → Type 0 = λ t o. T t (after_next wait g o) in
      meets-then Any (Comes d h Q) A T s (noted talk g.job.sight) (λ o. finish (after_next wait g o))
      (noted-ends-meet (Comes d h Q) A s g.job.sight talk (λ t calls o run ends.
      turn-of IsClientOn (λ u k stop. stop-job u.place k stop) t wait g.left g.agains o.0
      (read_so g.job o.1 (g.job.sight ++ noted_sight calls)) (next-job s t mode g.job calls o run ends i)))
      (λ t o k. k)

  -- Starts

  started-job : (s t : Coming d h Q) (j : Job) (calls : List Call) (o : Started × ReaderState)
      → Runs (Comes d h Q) s calls t → EndsWith (start_talk d j.reading) calls o → IsClientOn s j
      → IsClientOn t (job_after_start o.0 o.1 (j.sight ++ noted_sight calls))
  started-job s t j calls o run ends i =
      let c : HaveCome d h Q s t calls = have-come d h Q s t calls run in
      let client : ℕ = o.1.client in
      rw c.place
      (record {
        reading = start-reads d h Q s.place j.reading o.1 o.0 calls t.left c.to_come i.reading ends;
        folded =
            folds-on d h (first_view d) j (noted_sight calls) i.folded
            ∙ start-folds d h j.reading o.1 o.0 calls (placed s.place calls t.left c.to_come) ends;
        reads = noted-reads j calls client i.reads (start-names d j.reading o.1 o.0 calls ends);
        hand =
            noted-hand (place_behind s.place calls) client client j.sight calls o.1.queue refl
            (start-hand d h Q s.place j.reading o.1 o.0 calls t.left
            (λ n. read_after_sight n None j.sight) c.to_come
            i.reading ends i.hand);
        seen = noted-seen j calls i.seen;
      })

  start-job : (s : Coming d h Q) (j : Job) → IsClientOn s j
      → Meets Any (Comes d h Q) (OfJob IsClientOn) s (start_job d j)
  unfolding start_job
  start-job s j i =
      let talk : Talk (Started × ReaderState) = start_talk d j.reading in
      let A : Coming d h Q → (Started × ReaderState) × List Sight → Type 0 = λ t o.
      IsClientOn t (job_after_start o.0.0 o.0.1 o.1) in
      meets-then Any (Comes d h Q) A (OfJob IsClientOn) s (noted talk j.sight) (λ o. finish (start_ends o))
      (noted-ends-meet (Comes d h Q) A s j.sight talk (λ t calls o run ends. started-job s t j calls o run
      ends i))
      (λ t o k. cond_both (start_lacks_memory o.0.0) _ _ (OfJob IsClientOn t) (λ _. tt) (λ _. k))

  -- Single calls, which ask for nothing and read nothing

  record IsIdle (x : Step) : Type 0 where
    silent : IsSilent d x
    unused : is_use x ≡ false
    shut : is_open_step x ≡ false

  idle : {x : Step}
      → ((view : View) (reply : Reply) → after_first_call (λ v. v) d view x reply ≡ settled view)
      → ((past : List Step) → (accepted d past x).events ≡ []) → is_use x ≡ false
      → is_open_step x ≡ false → IsIdle x
  idle alone unread unused shut =
      record { silent = record { alone = alone; unread = unread }; unused = unused; shut = shut }

  -- a call that reads nothing leaves the last read
  idle-last : (j : Job) (x : Step) (a : Answer) → a.events ≡ [] → is_read_as j.reading.client x ≡ false
      → read_after_sight j.reading.client None (after_call j x a).sight ≡ last_read j
  idle-last j x a none other =
      let client : ℕ = j.reading.client in
      let front : List Sight = sight_told x a.reply in
      rw (none, append-nil, read_after-append) (read_after-told client (last_read j) x a.reply other)

  call-job : (s t : Coming d h Q) (j : Job) (x : Step) (a : Answer) → IsIdle x → IsClientOn s j
      → Comes d h Q s x a t → IsClientOn t (after_call j x a)
  call-job s t j x a idle i by =
      let client : ℕ = j.reading.client in
      let call : Call = record { step = x; answer = a } in
      let c : AreToCome d h Q s.place (call ∷ t.left) = subst (AreToCome d h Q s.place) by.0 s.to_come in
      let there : HasPlace d h call = c.legal.1 in
      let none : a.events ≡ [] = no_events d (past_at h (place_of a.reply)) x a idle.silent there.exact in
      let unused : is_use_of client x ≡ false = rw idle.unused in
      rw by.1 (record {
        reading = quiet-reads d h Q s.place j.reading call t.left c unused i.reading;
        folded = silent-fold d h (first_view d) j x a idle.silent there i.folded;
        reads = client_after-told j x a.reply a.events i.reads ∙ stays-last x a.reply client idle.shut;
        hand =
            rw (idle-last j x a none (unused-unread client x idle.unused))
            (quiet-hand d h Q s.place j.reading call t.left (last_read j) c unused i.reading i.hand);
        seen = at_each-eventless (ClientSaw d h) j x a none i.seen;
      })

  forced-job : (least : ℕ) (j : Job) → IsAt least j → IsAt least (forced j)
  forced-job least j s = record {
    reading = record {
      spare = record { view = s.reading.spare.view; queue = s.reading.spare.queue };
      stands = elim s.reading.stands [
        | inl t ↦ inl (t.0, record { opened = t.1.opened; in_step = λ needed. absurd (true≢false needed) })
        | inr u ↦ inr (record { client = u.client; queue = u.queue })
      ];
    };
    folded = s.folded;
    reads = s.reads;
    hand = s.hand;
    seen = s.seen;
  }

  idle_step : (client : ℕ) (command : Command) → is_command_of Client command ≡ true
      → is_one_call command ≡ true
      → OfStep IsIdle (step_of client command)
  idle_step client Close of_role one = idle (λ view reply. refl) (λ past. refl) refl refl
  idle_step client Grab of_role one = idle (λ view reply. refl) (λ past. refl) refl refl
  idle_step client Ungrab of_role one = idle (λ view reply. refl) (λ past. refl) refl refl
  idle_step client Revoke of_role one = idle (λ view reply. refl) (λ past. refl) refl refl
  idle_step client (Mask kind word bits) of_role one = idle (λ view reply. refl) (λ past. refl) refl refl
  idle_step client (Clock clock moment) of_role one = idle (λ view reply. refl) (λ past. refl) refl refl
  idle_step client (Write moment kind code value) of_role one = idle (λ view reply. refl) (λ past. refl) refl
      refl
  idle_step client (SetAxis code info) of_role one = idle (λ view reply. refl) (λ past. refl) refl refl
  idle_step client command of_role one = absurd cc

  -- a client's line keeps it
  pub client-rules : (command : Command) (wait : Option Waiting) → is_command_of Client command ≡ true
      → LineRules (Comes d h Q) IsClientOn (OfGoing IsClientOn) d Client command wait
  client-rules command wait of_role = record {
    injects = λ e. absurd cc;
    calls = λ e one s t j x a is.
        call-job s t j x a (subst (OfStep IsIdle) is (idle_step j.reading.client command of_role one));
    taps = λ e. absurd cc;
    starts = λ e. start-job;
    begins = λ e s j left i. i;
    rounds = λ e s waits skips g none. round-job s waits skips g;
    forces = λ e s. forced-job s.place;
    joys = λ e. absurd cc;
  }

  -- before its first line
  pub client-first : IsClientJob d h Q 0 (first_job Client d)
  unfolding client_fold client_after_sight
  client-first = record {
    reading = record {
      spare = new-spare d d (first_reading d) refl refl refl;
      stands = inr (record { client = refl; queue = refl });
    };
    folded = refl;
    reads = refl;
    hand = inl refl;
    seen = tt;
  }
