-- What a talk leaves, whatever the one-thread device answers: of its result, and of the entries of its calls.
-- A reader's talks leave a view of the device's size, and each answer told but Again, which ends them.
use Rattle.std.proofs.Common.{◌≡◌, List, [], ◌∷◌, ◌++◌, ◌∙◌, append_assoc, append-nil, refl, true, false, sym}
use Rattle.std.proofs.Common.{inl}
use Rattle.inp_script.proofs.Told.{call_kept}
use Rattle.inp_recon.proofs.Answered.{view_after_answer-parts}
use Rattle.inp_recon.proofs.Sizes.{IsSizedFor-after_event, length-keys_after_answer}
use Rattle.inp_recon.proofs.Sizes.{length-switches_after_answer, length-leds_after_answer}
use Rattle.inp_recon.proofs.Sizes.{length-axes_after_answer}
use Rattle.inp_reader.specs.Reader.{as_plain, after_failed_sync}
use Rattle.inp_runs.proofs.Common.{filter, Result, Ok, Err, filter-append, Step, Description, Answer, answer}
use Rattle.inp_runs.proofs.Common.{is_accepted, Call, Talk, EndsWith, Sight, sight_of_calls, is_call_entry}
use Rattle.inp_runs.proofs.Common.{call_sight, again_sight, Meets, Any, meets-ends, NotedBy, Reply, is_again}
use Rattle.inp_runs.proofs.Common.{View, IsSizedFor, Mode, Started, Success, Dropped, Sync, ReaderState}
use Rattle.inp_runs.proofs.Common.{queries}
use Rattle.inp_runs.proofs.Common.{start_talk, stop_of, next_talk, Each}
use Rattle.inp_runs.proofs.Entries.{call_entries}
use Rattle.inp_reader.proofs.Meets.{Runs}
use Rattle.inp_model.specs.declared.step.Step.TheVariants.{Open, Read}
use Rattle.inp_model.specs.declared.reply.Reply.TheVariants.{Again as NothingVisible, Refused as StepRefused}
use Rattle.inp_model.specs.declared.reply.Refusal.TheVariants.{NoDevice as Revoked, LogFull}
use Rattle.inp_recon.specs.View.{view_after_answer, view_after_event}
use Rattle.inp_reader.specs.declared.phase.Phase.TheVariants.{Needed}
use Rattle.inp_reader.specs.declared.next.Next.{Next}
use Rattle.inp_reader.specs.declared.next.Next.TheVariants.{Again, Synced, Closed}
use Rattle.inp_script.specs.declared.sight.Sight.TheVariants.{Again as AgainSight}
use Rattle.inp_reader.proofs.AgainCounts.{IsNoRead, not_again, no_read-queries, no_read-sync}
use Rattle.inp_reader.proofs.NextWalk.{AskRules, asked-meets, sync-meets, Queried, start-meets, Renewed}
use Rattle.inp_reader.proofs.NextWalk.{NextRules, next-meets}
use Rattle.inp_reader.proofs.AgreedViews.{sized-answer}
use Rattle.inp_script.proofs.Told as told

-- the one-thread device answers, after some past, and these are the entries of all calls
abbrev pub EntriesBy : Description → List Sight → Step → Answer → List Sight → Type 0
EntriesBy d es x a fs = ((past : List Step) × (a ≡ answer d past x)) × (fs ≡ es ++ call_entries x a.reply)

-- This is so of the result of a talk and of the entries of all calls, where there were these before.
abbrev pub Leaves : {A : Type 0} → Description → (A → List Sight → Type 0) → List Sight → Talk A → Type 0
Leaves {A} d P entries talk = Meets Any (EntriesBy d) (λ (es : List Sight) (a : A). P a es) entries talk

-- Calls that the one-thread device answered, each after some past.
abbrev pub AreAnswered : Description → List Call → Type 0
AreAnswered d [] = Unit {0}
AreAnswered d (call ∷ calls) =
    (past : List Step) × (call.answer ≡ answer d past call.step) × AreAnswered d calls

-- Talks of a reader, which are noted

-- What a talk leaves, with the entries that a note of the calls has: it has none of an answer Again.
abbrev pub Answers : {A : Type 0} → Description → (A → List Sight → List Sight → Type 0)
    → List Sight × List Sight → Talk A → Type 0
Answers {A} d P u talk =
    Meets Any (NotedBy (EntriesBy d))
    (λ (v : List Sight × List Sight) (a : A). P a (filter is_call_entry v.1) v.0) u talk

accepted_again : (reply : Reply) → is_accepted reply ≡ true → again_sight reply ≡ []
accepted_again (NothingVisible at ends) h = absurd cc
accepted_again _ h = refl

-- a call that was not answered Again is told
one_told : (kept entries : List Sight) (x : Step) (reply : Reply) → again_sight reply ≡ [] → kept ≡ entries
    → kept ++ call_sight x reply ≡ entries ++ call_entries x reply
one_told kept entries x reply none same = rw (none, append-nil, ← same)

-- the entries of all calls, and what is noted
abbrev pub Both : Type 0
Both = List Sight × List Sight

-- the same is noted and told
abbrev pub IsSame : Both → Type 0
IsSame u = filter is_call_entry u.1 ≡ u.0

-- a view of the device's size, and steps to ask for that read nothing
abbrev IsSizedSoFar : Description → Both → View → List Step → Type 0
IsSizedSoFar d u view left = IsSizedFor d.slots view × IsSame u × Each IsNoRead left

abbrev pub IsStarted : Description → Started × ReaderState → List Sight → List Sight → Type 0
IsStarted d o kept entries = IsSizedFor d.slots o.1.view × (kept ≡ entries)

-- where a reader answers Again there is one entry more
abbrev pub again_of : Next → List Sight
again_of (Again at ends) = AgainSight at ends ∷ []
again_of _ = []

stopped-again : (reply : Reply) → again_of (stop_of reply) ≡ again_sight reply
stopped-again (StepRefused at Revoked) = refl
stopped-again (StepRefused at LogFull) = refl
stopped-again (StepRefused at _) = refl
stopped-again (NothingVisible at ends) = refl
stopped-again _ = refl

abbrev pub IsNext : Description → Next × ReaderState → List Sight → List Sight → Type 0
IsNext d o kept entries = IsSizedFor d.slots o.1.view × (kept ++ again_of o.0 ≡ entries)

abbrev pub IsSizedReader : Description → Both → ReaderState → Type 0
IsSizedReader d u r = IsSizedFor d.slots r.view × IsSame u

abbrev pub LeavesNext : Description → Both → Next × ReaderState → Type 0
LeavesNext d u o = IsNext d o (filter is_call_entry u.1) u.0

module _ (d : Description) where
  entries-run : (entries : List Sight) (calls : List Call) → AreAnswered d calls
      → Runs (EntriesBy d) entries calls (entries ++ sight_of_calls calls)
  unfolding Runs
  entries-run entries [] answered = append-nil entries
  entries-run entries (call ∷ calls) answered =
      let more : List Sight = entries ++ call_entries call.step call.answer.reply in (
        more,
        ((answered.0, answered.1), refl),
        rw append_assoc at (entries-run more calls answered.2),
      )

  -- what is noted of one call more
  pub note-kept : (u v : List Sight × List Sight) (x : Step) (a : Answer) → NotedBy (EntriesBy d) u x a v
      → filter is_call_entry v.1 ≡ filter is_call_entry u.1 ++ call_sight x a.reply
  note-kept u v x a by = rw (by.1, filter-append, call_kept)

  -- a view keeps its size
  pub sized-answered : (past : List Step) (x : Step) (view : View) → IsSizedFor d.slots view
      → IsSizedFor d.slots (view_after_answer view x (answer d past x).reply (answer d past x).cells)
  sized-answered past x view h =
      let reply : Reply = (answer d past x).reply in
      let parts = view_after_answer-parts view x reply (answer d past x).cells in
      record {
        keys = rw parts (length-keys_after_answer x reply view.keys h.keys);
        switches = rw parts (length-switches_after_answer x reply view.switches h.switches);
        leds = rw parts (length-leds_after_answer x reply view.leds h.leds);
        axes = rw parts (length-axes_after_answer x reply view.axes ∙ h.axes);
        cells = sized-answer d past x (answer d past x) view (inl refl) h.cells;
      }

  told-by : (u v : Both) (x : Step) (a : Answer) → again_sight a.reply ≡ [] → IsSame u
      → NotedBy (EntriesBy d) u x a v → IsSame v
  told-by u v x a none same by =
      note-kept u v x a by ∙ one_told (filter is_call_entry u.1) u.0 x a.reply none same ∙ sym by.0.1

  quiet-by : (u v : Both) (x : Step) (a : Answer) → IsNoRead x → NotedBy (EntriesBy d) u x a v
      → is_again a.reply ≡ false
  quiet-by u v x a no_read by = not_again d by.0.0.0 x a no_read (inl by.0.0.1)

  sized-asks : (Q : Both → Result View Reply → Type 0)
      → ((u : Both) (view : View) → IsSizedFor d.slots view → IsSame u → Q u (Ok view))
      → ((u : Both) (reply : Reply) → is_again reply ≡ false → IsSame u → Q u (Err reply))
      → AskRules Any (NotedBy (EntriesBy d)) (IsSizedSoFar d) Q
  sized-asks Q whole stopped = record {
    asks = λ u view x xs j. tt;
    told = λ u v view x xs a j by is. (
      rw by.0.0.1 (sized-answered by.0.0.0 x view j.0),
      told-by u v x a (told.not_again a.reply (quiet-by u v x a j.2.0 by)) j.1 by,
      j.2.1,
    );
    stopped = λ u v view x xs a j by is.
        let never : is_again a.reply ≡ false = quiet-by u v x a j.2.0 by in
        stopped v a.reply never (told-by u v x a (told.not_again a.reply never) j.1 by);
    whole = λ u view j. whole u view j.0 j.1;
  }

  -- a start makes no read, so no call of it is answered Again, and all are noted
  pub answers-start : (r : ReaderState) (u : Both) → IsSizedFor d.slots r.view → IsSame u
      → Answers d (IsStarted d) u (start_talk d r)
  answers-start r u sized same =
      let Q : Both → Started × ReaderState → Type 0 = λ v o. IsStarted d o (filter is_call_entry v.1) v.0 in
      let opens : (v : Both) (a : Answer) → NotedBy (EntriesBy d) u Open a v → IsSame v =
      λ v a by. told-by u v Open a (told.not_again a.reply (quiet-by u v Open a refl by)) same by in
      start-meets Any (NotedBy (EntriesBy d)) Q d r u (record {
        asks_open = tt;
        opened = λ v a at client ring by is.
            asked-meets Any (NotedBy (EntriesBy d)) (IsSizedSoFar d) (Queried Q client ring r)
            (sized-asks (Queried Q client ring r) (λ w view s e. (s, e)) (λ w reply never e. (sized, e))) v
            (queries d client) r.view
            (sized, opens v a by, no_read-queries d client);
        refused = λ v a by other. (sized, opens v a by);
      })

  next-nothing : (u : Both) (o : Next × ReaderState) → IsSizedFor d.slots o.1.view → again_of o.0 ≡ []
      → IsSame u → LeavesNext d u o
  next-nothing u o sized none same = (sized, rw (none, append-nil) same)

  next-rules : (mode : Mode) → NextRules Any (NotedBy (EntriesBy d)) (IsSizedReader d) (LeavesNext d) d mode
  next-rules mode = record {
    asks_read = λ u r h. tt;
    reads =
        λ u v r a h plain none by is.
        (h.0, told-by u v (Read r.client 64) a (accepted_again a.reply is) h.1 by);
    stops = λ u v r a h plain none by is. (
      h.0,
      rw (note-kept u v (Read r.client 64) a by, stopped-again, append_assoc, h.1) (sym by.0.1),
    );
    hands = λ u r taken rest h plain q is.
        next-nothing u (Success taken, record r { queue = rest; view = view_after_event r.view taken.event })
        (IsSizedFor-after_event d.slots r.view taken.event h.0) refl h.1;
    loses = λ u r taken rest h plain q is.
        next-nothing u (
          Dropped taken,
          record r { queue = rest; view = view_after_event r.view taken.event; phase = Needed },
        )
        (IsSizedFor-after_event d.slots r.view taken.event h.0) refl h.1;
    empty = λ u r h plain q. next-nothing u (Closed, r) h.0 refl h.1;
    idles = λ u r h plain is. next-nothing u (Synced, r) h.0 refl h.1;
    syncs = λ u r h needed.
        let Q : Both → Result View Reply → Type 0 = Renewed (IsSizedReader d) (LeavesNext d) r in
        sync-meets Any (NotedBy (EntriesBy d)) (IsSizedSoFar d) Q d u r
        (sized-asks Q (λ v view sized same. (sized, same))
        (λ v reply never same. next-nothing v (stop_of reply, after_failed_sync r) h.0 (stopped-again reply
        ∙ told.not_again reply never) same))
        (h.0, h.1, no_read-sync d r.client);
    makes = λ u r event left h handing sync is.
        next-nothing u (Sync event, record r { left = left }) h.0 refl h.1;
    made_all = λ u r h handing sync is. next-nothing u (Synced, as_plain r) h.0 refl h.1;
    goes_on = λ u r h handing is. h;
  }

  -- only a read is answered Again, and it is the last call then; all others are noted
  pub answers-next : (mode : Mode) (r : ReaderState) (u : Both) → IsSizedFor d.slots r.view → IsSame u
      → Answers d (IsNext d) u (next_talk d mode r)
  answers-next mode r u sized same =
      next-meets Any (NotedBy (EntriesBy d)) (IsSizedReader d) (LeavesNext d) d mode
      (next-rules mode) u r (sized, same)

-- what a talk leaves whatever is answered, it leaves after these answers too
pub leaves-ends : {A : Type 0} (d : Description) (P : A → List Sight → Type 0) (entries : List Sight)
    (talk : Talk A) (calls : List Call) (result : A) → AreAnswered d calls → EndsWith talk calls result
    → Leaves d P entries talk → P result (entries ++ sight_of_calls calls)
leaves-ends {A} d P entries talk calls result answered ends h =
    meets-ends Any (EntriesBy d) (λ (es : List Sight) (a : A). P a es) entries
    (entries ++ sight_of_calls calls) talk calls result h (entries-run d entries calls answered) ends
