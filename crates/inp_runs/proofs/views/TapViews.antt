-- At each report that a tap took, its view is its client's in the history.
use Rattle.std.proofs.Common.{◌≡◌, ◌≤◌, ◌<◌, ◌⊎◌, inl, inr, ℕ, zero, suc, ◌+◌, ◌-◌, nat_eq, nat_lt, Bool}
use Rattle.std.proofs.Common.{true, false, ◌&&◌, not, ℤ, pos, List, [], ◌∷◌, ◌++◌, length, map, take, drop}
use Rattle.std.proofs.Common.{reverse, refl, sym, ap, subst, ◌∙◌, arith, append-nil, append_assoc}
use Rattle.std.proofs.Common.{length-append, Option, Some, None}
use Rattle.std.specs.List.{All, list_all}
use Rattle.std.proofs.lemmas.Bool.{false≢true, cond-false, and_parts, cond-true}
use Rattle.std.proofs.lemmas.List.{take_at, get_or_past}
use Rattle.std.proofs.lemmas.List.Elements.{All-take}
use Rattle.inp_model.specs.Description.{has_kind, ring, supports, is_multi_touch_code}
use Rattle.inp_recon.proofs.Each.{and-left, and-right}
use Rattle.inp_recon.proofs.Sizes.{IsSizedFor-after_answer}
use Rattle.inp_reader.specs.ReaderPlace.{taken_events}
use Rattle.inp_script.specs.Line.{event_of_taken, view_after_call, after_tap_call}
use Rattle.inp_script.specs.Sight.{lacks_memory}
use Rattle.inp_runs.proofs.Common.{list_any, range_with_len, true≢false, cond_both, cases_lt}
use Rattle.inp_runs.proofs.Common.{eqb-true, eq-eqb, lt-ltb, length-map, length-reverse, length-take}
use Rattle.inp_runs.proofs.Common.{map-append, Taken, Step, GetKeys, GetSwitches, GetLeds, Reply, Opened}
use Rattle.inp_runs.proofs.Common.{Refused, Description, past_at, opens, Answer, IsAnswer, answer, answer_by}
use Rattle.inp_runs.proofs.Common.{accepted, refused, is_accepted, past_after, taken_of, Call, HasPlace}
use Rattle.inp_runs.proofs.Common.{place_of, next_place, client_of, is_open_step, Command, Tick, Inhibit}
use Rattle.inp_runs.proofs.Common.{Uninhibit, Stream, Stream16, Skip, Follow, Force, Feedback, Tap}
use Rattle.inp_runs.proofs.Common.{is_command_of, View, IsSizedFor, eaten, IsHistory, Any, Meets, OfJob}
use Rattle.inp_runs.proofs.Common.{IsSizedFor-after_events, IsSizedFor-first_view, NO_CLIENT, is_use}
use Rattle.inp_runs.proofs.Common.{is_use_of, is_read, Sight, Took, Job, first_job, step_of, tap_client_after}
use Rattle.inp_runs.proofs.Common.{tap_call_if, tap_talk, taken_sight, reads_as, index_in_history, ShowsAt}
use Rattle.std.specs.Prelude.{slice_get, slice_index_or}
use Rattle.std.proofs.Math.Bool.{and-false}
use Rattle.inp_model.specs.declared.event.Event.{Event}
use Rattle.inp_model.specs.declared.event.TheConstants.{EV_KEY, EV_ABS, EV_SW, EV_LED, ABS_MAX}
use Rattle.inp_model.specs.declared.step.Step.TheVariants.{Open as ToOpen, Read, GetAxis, SyncSlots}
use Rattle.inp_model.specs.declared.reply.Reply.TheVariants.{Again as NothingVisible}
use Rattle.inp_model.specs.declared.reply.Refusal.{Refusal}
use Rattle.inp_model.specs.Queue.{Entry, taken_by, took, took_with}
use Rattle.inp_model.proofs.Opens.{is_open-lt, opens-le}
use Rattle.inp_actors.specs.declared.command.Command.TheVariants.{Event as ToEvent, Open, Next}
use Rattle.inp_recon.specs.View.{view_after_events, view_after_answer, code_count, first_view}
use Rattle.inp_recon.specs.ClientView.{client_view, client_view_with, view_at}
use Rattle.inp_recon.proofs.ReadEntries.{IsOfRead, HasEntry, of-read, entry-behind, entry-of}
use Rattle.inp_recon.specs.Synchronised.{Part, AllKeys, AllSwitches, AllLeds, OneAxis, AllSlots, asks_for}
use Rattle.inp_recon.specs.Synchronised.{has_asked, has_asked_where, has_axis, is_synchronised, is_start}
use Rattle.inp_recon.proofs.FaithfulReads.{HasAskedForAll, all-asked}
use Rattle.inp_recon.proofs.ViewSteps.{client_view-sized}
use Rattle.inp_reader.specs.Spare.{is_event_of}
use Rattle.inp_reader.proofs.AgreedViews.{Compared, AgreeBut, is_get_keys, is_get_switches, is_get_leds}
use Rattle.inp_reader.proofs.AgreedViews.{is_get_axis, is_sync_slots, agree-answer}
use Rattle.inp_reader.proofs.ClientViews.{accepted-answer, accepted-accepts, at-last, idle-step, no-events}
use Rattle.inp_reader.proofs.ClientViews.{no_read-takes, read-view, taken-events, used-taken, used-view}
use Rattle.inp_reader.proofs.PastsAtCalls.{AreQuiet}
use Rattle.inp_reader.proofs.ShowsDevice.{what_is_had, agree-events, at-it}
use Rattle.inp_reader.proofs.StandsAfterTalks.{open-opens, opens-step}
use Rattle.inp_reader.proofs.Supported.{events-of}
use Rattle.inp_script.specs.declared.sight.Sight.TheVariants.{Call as CallSight}
use Rattle.inp_script.specs.Fold.{tap_fold}
use Rattle.inp_script.proofs.Folds.{tap_fold-append, call-folds, entries-fold, fold-taken, again_sets_nothing}
use Rattle.inp_runs.specs.JobViews.{client_after_sight}
use Rattle.inp_runs.proofs.views.AtHand.{accepted-exact, index-read, read-as}
use Rattle.inp_runs.proofs.LinesWalk.{OfStep}
use Rattle.inp_runs.proofs.views.Reports.{sight_told, AtEach, at_each-told, Coming, Comes, shows-as}
use Rattle.inp_runs.proofs.views.Reports.{shows-later, history-at, whole-past, HasNoOthers, no-others-first}
use Rattle.inp_runs.proofs.views.Reports.{no-others-events, no-others-answer, no-others-at, agrees-had}
use Rattle.inp_runs.proofs.views.Reports.{sized-at, AreToCome, quiet-before, past-entered}
use Rattle.inp_reader.proofs.UnsetSlotAxes.{has_cells}
use Rattle.inp_runs.proofs.views.JobClients.{stays-last}
use Rattle.inp_runs.proofs.owners.Owners.{names-open}
use Rattle.inp_runs.proofs.views.Shown.{IsSeenAt}

-- ---- what was asked for since the client's start

abbrev pub asked_at : List Step → ℕ → Compared
asked_at past client = record {
  keys = has_asked AllKeys past client;
  switches = has_asked AllSwitches past client;
  leds = has_asked AllLeds past client;
  axes = λ code. has_asked (OneAxis code) past client
      && (nat_lt code code_count && not (is_multi_touch_code code));
  slots = has_asked AllSlots past client;
}

-- whether a part of a view is compared, and whether these steps ask for it
abbrev compared : Compared → Part → Bool
compared which AllKeys = which.keys
compared which AllSwitches = which.switches
compared which AllLeds = which.leds
compared which (OneAxis code) = which.axes code
compared which AllSlots = which.slots

abbrev told_by : List Step → Part → Bool
told_by xs AllKeys = list_any is_get_keys xs
told_by xs AllSwitches = list_any is_get_switches xs
told_by xs AllLeds = list_any is_get_leds xs
told_by xs (OneAxis code) = list_any (is_get_axis code) xs
told_by xs AllSlots = list_any is_sync_slots xs

-- less is compared, but for what these steps ask for
narrower : (which other : Compared) (xs : List Step) (v w : View) → AgreeBut which [] v w
    → ((part : Part) → compared other part ≡ true → told_by xs part ≡ false → compared which part ≡ true)
    → AgreeBut other xs v w
narrower which other xs v w a had = record {
  keys = λ is none. a.keys (had AllKeys is none) refl;
  switches = λ is none. a.switches (had AllSwitches is none) refl;
  leds = λ is none. a.leds (had AllLeds is none) refl;
  axes = λ code is none. a.axes code (had (OneAxis code) is none) refl;
  slot = λ is none. a.slot (had AllSlots is none) refl;
  cells = λ is none. a.cells (had AllSlots is none) refl;
  left_long = a.left_long;
  right_long = a.right_long;
  cells_long = a.cells_long;
}

-- the client is opened, and in all that it asked for since its start this view is its own
pub record IsAsked (d : Description) (past : List Step) (client : ℕ) (v : View) : Type 0 where
  -- the client was opened before
  pub opened : client < opens past
  -- in all that it asked for since its start the view is its own
  pub agree : AgreeBut (asked_at past client) [] v (client_view d past client)

-- a step that is no use of the client

idle-asks : (part : Part) (client : ℕ) (x : Step) → is_use_of client x ≡ false
    → asks_for part client x ≡ false
idle-asks AllKeys client (GetKeys named) h = h
idle-asks AllSwitches client (GetSwitches named) h = h
idle-asks AllLeds client (GetLeds named) h = h
idle-asks (OneAxis code) client (GetAxis named asked) h = rw h
idle-asks AllSlots client (SyncSlots named) h = h
idle-asks part client _ h = refl

had-before : (part : Part) (past : List Step) (client : ℕ) (x : Step) → asks_for part client x ≡ false
    → has_asked part (x ∷ past) client ≡ true → has_asked part past client ≡ true
unfolding has_asked
had-before part past client x none h =
    (cond_both (is_start past client x) _ _ (λ (b : Bool). b ≡ true → has_asked part past client ≡ true)
    (λ _ e. absurd cc)
    (λ _ e. sym (rw none) ∙ e)) h

-- an axis with a value of its own, or another part
abbrev is_plain : Part → Bool
is_plain (OneAxis code) = nat_lt code code_count && not (is_multi_touch_code code)
is_plain _ = true

asked-before : (past : List Step) (client : ℕ) (x : Step) (part : Part)
    → (is_plain part ≡ true → asks_for part client x ≡ false)
    → compared (asked_at (x ∷ past) client) part ≡ true → compared (asked_at past client) part ≡ true
asked-before past client x (OneAxis code) none h =
    let plain : Bool = is_plain (OneAxis code) in
    let both : (has_asked (OneAxis code) (x ∷ past) client ≡ true) × (plain ≡ true) =
    and_parts (has_asked (OneAxis code) (x ∷ past) client) plain h in
    rw (had-before (OneAxis code) past client x (none both.1) both.0) both.1
asked-before past client x part none h = had-before part past client x (none refl) h

-- ---- a step of the client's own

not_asked : (part : Part) (client : ℕ) (x : Step) → is_plain part ≡ true → told_by (x ∷ []) part ≡ false
    → asks_for part client x ≡ false
not_asked AllKeys client (GetKeys named) plain h = absurd cc
not_asked AllSwitches client (GetSwitches named) plain h = absurd cc
not_asked AllLeds client (GetLeds named) plain h = absurd cc
not_asked AllSlots client (SyncSlots named) plain h = absurd cc
not_asked (OneAxis code) client (GetAxis named asked) plain h = by (nat_eq asked code) refl
  where
    by : (b : Bool) → nat_eq asked code ≡ b → (nat_eq named client && b) ≡ false
    by false is = and-false (nat_eq named client)
    by true is =
        let same : asked ≡ code = eqb-true asked code is in
        let whole : is_get_axis code (GetAxis named asked) ≡ true = rw (is, same) plain in
        absurd (true≢false (sym (rw whole) ∙ h))
not_asked part client _ plain h = refl

-- what a step makes of both views
abbrev view_made : View → Step → Answer → View
view_made v x given =
    view_after_answer (view_after_events v (taken_events given.events)) x given.reply given.cells

-- ---- where all is asked for

in-range : (first count code : ℕ) (p : ℕ → Bool) → list_all p (range_with_len first count) ≡ true
    → first ≤ code → code < first + count → p code ≡ true
in-range first zero code p h from below = absurd (omega (arith, from, below))
in-range first (suc count) code p h from below = elim (cases_lt first code) [
  | inl above ↦ in-range (first + 1) count code p
      (and-right (p first) (list_all p (range_with_len (first + 1) count)) h) (omega (arith, above))
      (omega (arith, below))
  | inr at ↦ (let same : first ≡ code = omega (arith, from, at) in ap p (sym same)
      ∙ and-left (p first) (list_all p (range_with_len (first + 1) count)) h)
]

where-had : (has_it : Bool) (part : Part) (past : List Step) (client : ℕ)
    → has_asked_where has_it part past client ≡ true → has_it ≡ true → has_asked part past client ≡ true
where-had true part past client h is = h
where-had false part past client h is = absurd cc

-- ---- an event of a read

front-of : (done rest es : List Taken) (t : Taken) → es ≡ done ++ t ∷ rest
    → take (suc (length done)) es ≡ done ++ t ∷ []
front-of done rest es t h =
    rw (h, ← append_assoc done (t ∷ []) rest)
    (take_at (done ++ t ∷ []) rest (suc (length done)) (length-append done (t ∷ []) ∙ omega arith))

module _ (d : Description) (past : List Step) (client : ℕ) where
  asked-idle : (x : Step) (v : View) → is_use_of client x ≡ false → IsAsked d past client v
      → IsAsked d (x ∷ past) client v
  unfolding client_view_with
  asked-idle x v idle a = record {
    opened = opens-step past x client a.opened;
    agree =
        rw idle-step
        (narrower _ _ _ _ _ a.agree
        (λ part is none. asked-before past client x part (λ plain. idle-asks part client x idle) is));
  }

  asked-own : (x : Step) (v : View) → refused d past x ≡ None → is_use_of client x ≡ true
      → IsSizedFor d.slots v → IsAsked d past client v
      → IsAsked d (x ∷ past) client (view_made v x (answer d past x))
  unfolding client_view_with
  asked-own x v accepts used sized a =
      let given : Answer = answer d past x in
      let es : List Event = taken_events given.events in
      let w : View = client_view d past client in
      let events = agree-events (asked_at past client) v w es a.agree in
      let is : is_accepted given.reply ≡ true = rw accepted-answer (accepted-accepts d past x) in
      record {
        opened = opens-step past x client a.opened;
        agree =
            rw used-view
            (agree-answer (asked_at (x ∷ past) client) d past x [] given (view_after_events v es)
            (view_after_events w es) (inl refl) is (IsSizedFor-after_events d.slots v es sized).cells
            (narrower _ _ _ _ _ events
            (λ part is none. asked-before past client x part (λ plain. not_asked part client x plain none)
            is)));
      }

  agrees-asked : (taken : List Entry) (v w : View) → is_synchronised d past client taken ≡ true
      → AgreeBut (asked_at past client) [] v w → AgreeBut (what_is_had d) [] v w
  agrees-asked taken v w h a =
      let all : HasAskedForAll (eaten d) d past client taken = all-asked (eaten d) d past client taken h in
      record {
        keys = λ is k. a.keys (where-had (has_kind d EV_KEY) AllKeys past client all.keys is) refl;
        switches = λ is k. a.switches (where-had (has_kind d EV_SW) AllSwitches past client all.switches is)
            refl;
        leds = λ is k. a.leds (where-had (has_kind d EV_LED) AllLeds past client all.leds is) refl;
        axes = λ code is k. axis code is all.axes;
        slot = λ is k. a.slot (where-had (nat_lt 0 d.slots) AllSlots past client all.slots is) refl;
        cells = λ is k. a.cells (where-had (nat_lt 0 d.slots) AllSlots past client all.slots is) refl;
        left_long = a.left_long;
        right_long = a.right_long;
        cells_long = a.cells_long;
      }
    where
      axis : (code : ℕ) → has_axis d code ≡ true
          → list_all (λ code. has_asked_where (has_axis d code) (OneAxis code) past client)
          (range_with_len 0 (ABS_MAX + 1)) ≡ true
          → slice_index_or v.axes code (pos 0) ≡ slice_index_or w.axes code (pos 0)
      axis code is all = elim (cases_lt code 64) [
        | inl below ↦
            (let had : has_asked (OneAxis code) past client ≡ true =
            where-had (has_axis d code) (OneAxis code) past client
            (in-range 0 64 code (λ c. has_asked_where (has_axis d c) (OneAxis c) past client) all
            (omega arith) (omega (arith, below))) is in
            let own : not (is_multi_touch_code code) ≡ true =
            and-right (supports d EV_ABS code) (not (is_multi_touch_code code)) is in
            a.axes code (rw (had, lt-ltb) own) refl)
        | inr past_end ↦ get_or_past v.axes code (pos 0) (omega (arith, past_end, a.left_long))
            ∙ sym (get_or_past w.axes code (pos 0) (omega (arith, past_end, a.right_long)))
      ]

  read-shows : (x : Step) (v : View) (done rest : List Taken) (t : Taken) → IsHistory d (x ∷ past)
      → is_use_of client x ≡ true → (answer d past x).events ≡ done ++ t ∷ rest → HasNoOthers d v
      → IsSizedFor d.slots v → IsAsked d past client v
      → ShowsAt d (x ∷ past) client (Some (length (took d past client) + length done)) t
      (view_after_events v (taken_events (done ++ t ∷ [])))
  unfolding took_with
  read-shows x v done rest t history used is bare sized a =
      let T : List Entry = took d past client in
      let E : List Entry = taken_by d past client x in
      let i : ℕ = length T + length done in
      let es : List Event = taken_events (done ++ t ∷ []) in
      let behind : length T ≤ i = omega arith in
      let given : Answer = answer d past x in
      let told : map taken_of E ≡ given.events = used-taken d past client x history.1 used in
      let n : suc i - length T ≡ suc (length done) = omega arith in
      let own : slice_get (map taken_of (T ++ E)) i ≡ Some t =
      rw (map-append taken_of T E, told, is, ← append_assoc done (t ∷ []) rest)
      (at-it (map taken_of T) done rest t i (rw (← length-map T taken_of))) in
      let e : HasEntry (eaten d) d (x ∷ past) client i t = entry-of (eaten d) d (x ∷ past) client i t own in
      let o : IsOfRead past [] E (i - length T) e.at =
      of-read past [] E (i - length T) e.at
      (sym (entry-behind (eaten d) d past client i x behind) ∙ e.is_at) in
      let view : view_at d client e.at ≡ view_after_events (client_view d past client) es =
      rw (
        at-last d past client i x e.at behind e.is_at,
        taken-events d past client (suc i - length T) x history.1 used,
        n,
        front-of done rest given.events t is,
      ) in
      let all : All (λ (u : Taken). is_event_of d u.event ≡ true) (done ++ t ∷ []) =
      rw (front-of done rest given.events t is) at (All-take (λ (u : Taken). is_event_of d u.event ≡ true)
      (suc (length done)) given.events (events-of d past x given (inl refl))) in
      record {
        index = i;
        is_own = refl;
        at = e.at;
        is_at = e.is_at;
        is_taken = e.is_taken;
        agrees = λ h.
            let synchronised : is_synchronised d past client e.at.taken ≡ true = rw o.is_before at h in
            let had : AgreeBut (what_is_had d) [] v (client_view d past client) =
            agrees-asked e.at.taken v (client_view d past client) synchronised a.agree in
            agrees-had d (view_after_events v es) (view_at d client e.at)
            (rw view (agree-events (what_is_had d) v (client_view d past client) es had))
            (no-others-events d v (done ++ t ∷ []) all bare)
            (no-others-at d (x ∷ past) client i e.at history e.is_at)
            (IsSizedFor-after_events d.slots v es sized) (sized-at d client e.at);
      }

pub asked-quiet : (d : Description) (past others : List Step) (client : ℕ) (v : View) → AreQuiet client others
    → IsAsked d past client v → IsAsked d (others ++ past) client v
unfolding AreQuiet
asked-quiet d past [] client v quiet a = a
asked-quiet d past (x ∷ others) client v quiet a =
    asked-idle d (others ++ past) client x v quiet.0 (asked-quiet d past others client v quiet.1 a)

-- ---- a call of a tap

-- what is promised of each event that a tap took
abbrev pub TapSaw : Description → List Step → List Sight → Taken → Type 0
TapSaw d h sight taken = IsSeenAt d h Tap sight taken

-- how a tap stands behind so many steps of the history
pub record TapStands (d : Description) (h : List Step) (Q : ℕ → Type 0) (least : ℕ) (j : Job) : Type 0 where
  -- at each report that it took its view is its client's
  pub seen : AtEach (TapSaw d h) [] j.sight
  -- its view is the fold of its sight
  pub fold : tap_fold d h (first_view d) j.sight ≡ j.reading.view
  -- it reads as the client that it opened last
  pub reads : reads_as j.sight ≡ j.reading.client
  -- of a kind that the device does not have, nothing is on in its view
  pub bare : HasNoOthers d j.reading.view
  -- its view is of the device's size
  pub sized : IsSizedFor d.slots j.reading.view
  -- it has opened no client, or its view is its client's in all that it asked for
  pub asked : (j.reading.client ≡ NO_CLIENT)
      ⊎ (Q j.reading.client × IsAsked d (past_at h least) j.reading.client j.reading.view)

-- The client that a sight leads to

-- two sights in a row are gone through one after the other
pub client_after-append : (client : ℕ) (xs ys : List Sight)
    → client_after_sight client (xs ++ ys) ≡ client_after_sight (client_after_sight client xs) ys
unfolding client_after_sight
client_after-append client [] ys = refl
client_after-append client (CallSight x reply ∷ xs) ys =
    client_after-append (tap_client_after x reply client) xs ys
client_after-append client (entry ∷ xs) ys = client_after-append client xs ys

client_after-takens : (client : ℕ) (events : List Taken)
    → client_after_sight client (map taken_sight events) ≡ client
unfolding client_after_sight
client_after-takens client [] = refl
client_after-takens client (taken ∷ events) = client_after-takens client events

-- an answer Again opens no client
pub client_after-none : (x : Step) (at n client : ℕ)
    → tap_client_after x (NothingVisible at n) client ≡ client
client_after-none ToOpen at n client = refl
client_after-none _ at n client = refl

pub client_after-call : (client : ℕ) (x : Step) (reply : Reply)
    → client_after_sight client (sight_told x reply) ≡ tap_client_after x reply client
unfolding client_after_sight
client_after-call client x (NothingVisible at n) = sym (client_after-none x at n client)
client_after-call client x _ = refl

pub client_after-taking : (client : ℕ) (x : Step) (reply : Reply) (events : List Taken)
    → client_after_sight client (sight_told x reply ++ map taken_sight events)
    ≡ tap_client_after x reply client
client_after-taking client x reply events =
    rw (client_after-append, client_after-call) (client_after-takens (tap_client_after x reply client) events)

-- a job's sight after a call
pub client_after-told : (j : Job) (x : Step) (reply : Reply) (events : List Taken)
    → reads_as j.sight ≡ j.reading.client
    → reads_as (j.sight ++ (sight_told x reply ++ map taken_sight events))
    ≡ tap_client_after x reply j.reading.client
client_after-told j x reply events reads =
    let more : List Sight = sight_told x reply ++ map taken_sight events in
    rw (client_after-append, reads) (client_after-taking j.reading.client x reply events)

client_after-refused : (x : Step) (reply : Reply) (client : ℕ) → is_accepted reply ≡ false
    → tap_client_after x reply client ≡ client
client_after-refused ToOpen (Opened at opened ring) client h = absurd cc
client_after-refused ToOpen _ client h = refl
client_after-refused _ reply client h = refl

refusal_sets_nothing : (v : View) (x : Step) (at : ℕ) (why : Refusal) (cells : List ℤ)
    → view_after_answer v x (Refused at why) cells ≡ v
unfolding view_after_answer
refusal_sets_nothing v (GetKeys client) at why cells = refl
refusal_sets_nothing v _ at why cells = refl

refused-view : (v : View) (x : Step) (reply : Reply) (cells : List ℤ) → is_accepted reply ≡ false
    → view_after_answer v x reply cells ≡ v
refused-view v x (NothingVisible at n) cells h = again_sets_nothing v x at n cells
refused-view v x (Refused at why) cells h = refusal_sets_nothing v x at why cells
refused-view v x _ cells h = absurd cc

-- a tap sets its view by an answer and then by the events, of which only a read has any
made-same : (d : Description) (past : List Step) (v : View) (x : Step) (o : Option Reply)
    → (let given : Answer = answer_by o (accepted d past x) in
    view_after_call v x given ≡ view_made v x given)
unfolding view_after_answer view_after_events
made-same d past v (Read client count) o = refl
made-same d past v x (Some reply) = refl
made-same d past v x None = refl

idle-made : (d : Description) (past : List Step) (v : View) (x : Step) (o : Option Reply) → is_use x ≡ false
    → (let given : Answer = answer_by o (accepted d past x) in is_accepted given.reply ≡ true
    → view_after_call v x given ≡ v)
unfolding view_after_answer view_after_events
idle-made d past v (Read client count) o h is = absurd cc
idle-made d past v (GetKeys client) o h is = absurd cc
idle-made d past v (GetSwitches client) o h is = absurd cc
idle-made d past v (GetLeds client) o h is = absurd cc
idle-made d past v (GetAxis client code) o h is = absurd cc
idle-made d past v (SyncSlots client) o h is = absurd cc
idle-made d past v x (Some reply) h is = refl
idle-made d past v x None h is = refl

module _ (d : Description) (past : List Step) (x : Step) where
  -- an answer that is not accepted gives no event
  refused-events-by : (o : Option Reply) → is_accepted (answer_by o (accepted d past x)).reply ≡ false
      → (answer_by o (accepted d past x)).events ≡ []
  refused-events-by None h = absurd (cc (accepted-accepts d past x))
  refused-events-by (Some reply) h = refl

  refused-events : (given : Answer) → IsAnswer d past x given → is_accepted given.reply ≡ false
      → given.events ≡ []
  refused-events given (inl e) h = rw e (refused-events-by (refused d past x) (rw (← e) h))
  refused-events given (inr l) h = rw l.2

  bare-given : (v : View) (given : Answer) → IsAnswer d past x given → HasNoOthers d v
      → HasNoOthers d (view_after_answer v x given.reply given.cells)
  bare-given v given (inl e) s = rw (← e) at (no-others-answer d past v x given.cells s)
  bare-given v given (inr l) s =
      subst (HasNoOthers d) (sym (refused-view v x given.reply given.cells (rw l.2))) s

-- an event at a time
events-seen : (P : List Sight → Taken → Type 0) (before : List Sight) (done rest es : List Taken)
    → es ≡ done ++ rest
    → ((front : List Taken) (t : Taken) (behind : List Taken) → es ≡ front ++ t ∷ behind
    → P (before ++ map taken_sight (front ++ t ∷ [])) t)
    → AtEach P (before ++ map taken_sight done) (map taken_sight rest)
events-seen P before done [] es e f = tt
events-seen P before done (t ∷ rest) es e f =
    let more : before ++ map taken_sight (done ++ t ∷ []) ≡ (before ++ map taken_sight done) ++ Took t ∷ [] =
    rw map-append (sym (append_assoc before (map taken_sight done) (Took t ∷ []))) in (
      rw more at (f done t rest e),
      rw more at (events-seen P before (done ++ t ∷ []) rest es (e
          ∙ sym (append_assoc done (t ∷ []) rest)) f),
    )

-- an Open asks for nothing
opened-asked : (d : Description) (past : List Step) (v : View) → IsSizedFor d.slots v
    → IsAsked d (ToOpen ∷ past) (opens past) v
unfolding has_asked
opened-asked d past v sized =
    let w : View = client_view d (ToOpen ∷ past) (opens past) in
    let sized_w : IsSizedFor d.slots w = client_view-sized d (ToOpen ∷ past) (opens past) in
    let starts : is_start past (opens past) ToOpen ≡ true = rw (eq-eqb (opens past) (opens past) refl) in
    let none : (part : Part) → has_asked part (ToOpen ∷ past) (opens past) ≡ false = λ part. rw starts in
    record {
      opened = open-opens past (opens past) refl;
      agree = record {
        keys = λ is k. cc (none AllKeys);
        switches = λ is k. cc (none AllSwitches);
        leds = λ is k. cc (none AllLeds);
        axes = λ code is k. absurd (true≢false (rw (none (OneAxis code)) at (sym is)));
        slot = λ is k. cc (none AllSlots);
        cells = λ is k. cc (none AllSlots);
        left_long = sized.axes;
        right_long = sized_w.axes;
        cells_long = sized.cells ∙ sym sized_w.cells;
      };
    }

-- an accepted Open opens the next client
opened-by : (d : Description) (past : List Step) (x : Step) (given : Answer) (client : ℕ)
    → given ≡ answer d past x → refused d past x ≡ None → x ≡ ToOpen
    → (given.reply ≡ Opened (length past) (opens past) (ring d))
    × (tap_client_after x given.reply client ≡ opens past)
opened-by d past x given client same accepts opening =
    let opened : given.reply ≡ Opened (length past) (opens past) (ring d) =
    rw (same, accepted-answer d past x accepts, opening) in
    (opened, rw (opening, opened))

-- what a tap asks for: an Open, or a step of its client
abbrev pub IsTapStep : ℕ → Step → Type 0
IsTapStep client x = (x ≡ ToOpen) ⊎ (client_of x ≡ Some client)

read-is_use : (client : ℕ) (x : Step) → is_read x ≡ true → client_of x ≡ Some client
    → is_use_of client x ≡ true
read-is_use client (Read named count) h is = let same : named ≡ client = cc in eq-eqb named client same
read-is_use client _ h is = absurd cc

named-no_open : (client : ℕ) (x : Step) → client_of x ≡ Some client → is_open_step x ≡ false
named-no_open client ToOpen e = absurd cc
named-no_open client _ e = refl

module _ (d : Description) (h : List Step) (Q : ℕ → Type 0) (history : IsHistory d (reverse h))
    (short : length h < NO_CLIENT) where
  few-opens : (at : ℕ) → opens (past_at h at) < NO_CLIENT
  few-opens at = omega (arith, short, opens-le (past_at h at), length-reverse (take at h), length-take at h)

  -- One call of a tap
  module _ (least : ℕ) (j : Job) (call : Call) (calls : List Call) (c : AreToCome d h Q least (call ∷ calls))
      (s : TapStands d h Q least j) where
    abbrev x : Step
    x = call.step

    abbrev given : Answer
    given = call.answer

    abbrev reply : Reply
    reply = call.answer.reply

    abbrev past : List Step
    past = past_at h (place_of call.answer.reply)

    abbrev client : ℕ
    client = j.reading.client

    abbrev v : View
    v = j.reading.view

    abbrev made : View
    made = view_after_call j.reading.view call.step call.answer

    abbrev told : List Sight
    told = sight_told call.step call.answer.reply

    placed : HasPlace d h call
    placed = c.legal.1

    entered : past_at h (next_place reply) ≡ past_after reply x past
    entered = past-entered d h call c.legal.1

    exact : is_accepted reply ≡ true → (given ≡ answer d past x) × (refused d past x ≡ None)
    exact is = accepted-exact d past x given placed.exact is

    -- how a client stands behind a past
    abbrev Stands : ℕ → List Step → View → Type 0
    Stands n p u = (n ≡ NO_CLIENT) ⊎ (Q n × IsAsked d p n u)

    -- the tap's own before the call
    stood : Stands client past v
    stood = elim s.asked [
      | inl none ↦ inl none
      | inr (q, a) ↦
          (let b = quiet-before d h Q client least call calls c q in
          inr (q, rw b.2 (asked-quiet d (past_at h least) b.0 client v b.1 a)))
    ]

    -- the client that an accepted step names was opened by the tap
    named-asked : refused d past x ≡ None → client_of x ≡ Some client → Q client × IsAsked d past client v
    named-asked accepts named = elim stood [
      | inl none ↦ absurd (omega (
        arith,
        few-opens (place_of reply),
        none,
        is_open-lt past client
            (names-open d past x client accepts named),
      ))
      | inr a ↦ a
    ]

    -- an event that it read
    tap-read : client_of x ≡ Some client → is_read x ≡ true → is_accepted reply ≡ true
        → (front : List Taken) (t : Taken) (behind : List Taken)
        → given.events ≡ front ++ t ∷ behind → TapSaw d h
        ((j.sight ++ told) ++ map taken_sight (front ++ t ∷ [])) t
    tap-read named read is front t behind e =
        let taken : List Taken = front ++ t ∷ [] in
        let es : List Sight = map taken_sight taken in
        let now : View = view_after_events v (taken_events taken) in
        let a : Q client × IsAsked d past client v = named-asked (exact is).1 named in
        let next : past_at h (next_place reply) ≡ x ∷ past = rw (entered, is) in
        let here : IsHistory d (x ∷ past) =
        subst (IsHistory d) next (history-at d h (next_place reply) history) in
        let i : ℕ = length (took d past client) + length front in
        let shown : ShowsAt d (x ∷ past) client (Some i) t now =
        read-shows d past client x v front behind t here (read-is_use client x read named)
        (rw (← (exact is).0) e) s.bare s.sized a.1 in
        let later : List Step = reverse (drop (next_place reply) h) in
        let whole : reverse h ≡ later ++ (x ∷ past) = rw (whole-past h (next_place reply), next) in
        let sight : (j.sight ++ told) ++ es ≡ j.sight ++ (told ++ es) = append_assoc j.sight told es in
        let same : reads_as ((j.sight ++ told) ++ es) ≡ client =
        ap reads_as sight ∙ client_after-told j x reply taken s.reads ∙ stays-last x reply client
        (named-no_open client x named) in
        let view : tap_fold d h (first_view d) ((j.sight ++ told) ++ es) ≡ now =
        rw (
          sight,
          tap_fold-append d h (first_view d) j.sight (told ++ es),
          s.fold,
          tap_fold-append d h v told es,
          entries-fold d h v x given placed.exact,
          read-view x v reply given.cells read,
        ) (fold-taken d h v taken) in
        let count : (0 + length taken) - 1 ≡ length front = omega (arith, length-append front (t ∷ [])) in
        let own : index_in_history d h ((j.sight ++ told) ++ es) ≡ Some i =
        rw (index-read d h client j.sight x reply taken same (read-as client x read named) is, count) in
        shows-as d (reverse h) client _ (Some i) _ t now _ same own view
        (rw whole
        (shows-later d later (x ∷ past) client (Some i) t now shown))

    -- all that the call gave
    tap-events : IsTapStep client x → AtEach (TapSaw d h) (j.sight ++ told) (map taken_sight given.events)
    tap-events step = by (is_accepted reply) (is_read x) refl refl step
      where
        by : (a r : Bool) → is_accepted reply ≡ a → is_read x ≡ r → IsTapStep client x
            → AtEach (TapSaw d h) (j.sight ++ told) (map taken_sight given.events)
        by false r is read step = rw (refused-events d past x given placed.exact is) tt
        by true false is read step =
            (let none : given.events ≡ [] = rw ((exact is).0) (no_read-takes d past x read) in rw none tt)
        by true true is read (inl opens_it) = absurd (false≢true (ap is_read (sym opens_it) ∙ read))
        by true true is read (inr named) =
            rw append-nil at
            (events-seen (TapSaw d h) (j.sight ++ told) [] given.events given.events refl
            (tap-read named read is))

    -- the client is open behind an Open, and nothing was asked for
    opens-one : is_accepted reply ≡ true → IsSizedFor d.slots made → x ≡ ToOpen
        → Stands (tap_client_after x reply client) (x ∷ past) made
    opens-one is sized opening =
        let o = opened-by d past x given client (exact is).0 (exact is).1 opening in
        rw o.1
        (inr (
          c.opened.0 (length past) (opens past) (ring d) o.0,
          rw (← opening) at (opened-asked d past made sized),
        ))

    own-one : is_accepted reply ≡ true → client_of x ≡ Some client
        → Stands (tap_client_after x reply client) (x ∷ past) made
    own-one is named =
        let a : Q client × IsAsked d past client v = named-asked (exact is).1 named in
        rw (stays-last x reply client (named-no_open client x named))
        (inr (
          a.0,
          used_or_idle (is_use x) refl given (exact is).0 is a.1,
        ))
      where
        used_or_idle : (b : Bool) → is_use x ≡ b → (g : Answer) → g ≡ answer d past x
            → is_accepted g.reply ≡ true → IsAsked d past client v
            → IsAsked d (x ∷ past) client (view_after_call v x g)
        used_or_idle true used g same good a =
            let own_use : is_use_of client x ≡ true = rw (used, named) (eq-eqb client client refl) in
            rw (same, made-same d past v x (refused d past x))
            (asked-own d past client x v (exact is).1 own_use s.sized a)
        used_or_idle false idle g same good a =
            let own_use : is_use_of client x ≡ false = rw idle in
            rw (same, idle-made d past v x (refused d past x) idle (rw same at good))
            (asked-idle d past client x v own_use a)

    -- what the tap's client was asked for after the call
    tap-asked : IsTapStep client x → IsSizedFor d.slots made
        → Stands (tap_client_after x reply client) (past_at h (next_place reply)) made
    tap-asked step sized = by (is_accepted reply) refl
      where
        by : (b : Bool) → is_accepted reply ≡ b
            → Stands (tap_client_after x reply client) (past_at h (next_place reply)) made
        by true is =
            rw (entered, cond-true)
            (elim step [ inl opening ↦ opens-one is sized opening | inr named ↦ own-one is named ])
        by false is =
            let answered : View = view_after_answer v x reply given.cells in
            let view : made ≡ v =
            rw (refused-events d past x given placed.exact is, no-events)
            (refused-view v x reply given.cells is) in
            rw (entered, cond-false, client_after-refused) (subst (Stands client past) (sym view) stood)

    -- a tap stands so after its call
    pub tap-call : IsTapStep client x → TapStands d h Q (next_place reply) (after_tap_call j x given)
    tap-call step =
        let supported = events-of d past x given placed.exact in
        let answered : View = view_after_answer v x reply given.cells in
        let sized : IsSizedFor d.slots made =
        IsSizedFor-after_events d.slots answered (map event_of_taken given.events)
        (IsSizedFor-after_answer d.slots v x reply given.cells
        (has_cells d past x given v.cells placed.exact s.sized.cells) s.sized) in
        record {
          seen = at_each-told (TapSaw d h) j.sight x reply given.events s.seen (tap-events step);
          fold = call-folds d h (first_view d) j (after_tap_call j x given) x call placed refl refl s.fold;
          reads = client_after-told j x reply given.events s.reads;
          bare =
              no-others-events d answered given.events supported
              (bare-given d past x v given placed.exact s.bare);
          sized = sized;
          asked = tap-asked step sized;
        }

  -- what a tap does at a command
  tap-step : (client : ℕ) (command : Command) → is_command_of Tap command ≡ true
      → OfStep (IsTapStep client) (step_of client command)
  tap-step client (ToEvent moment kind code value) h = absurd cc
  tap-step client (Tick moment) h = absurd cc
  tap-step client (Inhibit moment) h = absurd cc
  tap-step client Uninhibit h = absurd cc
  tap-step client (Stream file index) h = absurd cc
  tap-step client (Stream16 file index) h = absurd cc
  tap-step client (Next count) h = absurd cc
  tap-step client (Skip count) h = absurd cc
  tap-step client Follow h = absurd cc
  tap-step client Force h = absurd cc
  tap-step client (Feedback count) h = absurd cc
  tap-step client Open h = inl refl
  tap-step client _ h = inr refl

  abbrev pub IsTapOn : Coming d h Q → Job → Type 0
  IsTapOn s j = TapStands d h Q s.place j

  -- a tap's line is at most one call, an Open or one on its own client
  pub tap-line : (command : Command) → is_command_of Tap command ≡ true → (s : Coming d h Q) (j : Job)
      → IsTapOn s j
      → Meets Any (Comes d h Q) (OfJob IsTapOn) s (tap_talk command j)
  tap-line command of_role s j i =
      by_step (step_of j.reading.client command) (tap-step j.reading.client command of_role)
    where
      by_step : (o : Option Step) → OfStep (IsTapStep j.reading.client) o
          → Meets Any (Comes d h Q) (OfJob IsTapOn) s (tap_call_if j o)
      by_step None step = i
      by_step (Some x) step = (
        tt,
        λ t a by. cond_both (lacks_memory a.reply) _ _ (OfJob IsTapOn t) (λ _. tt)
            (λ _. rw by.1
            (tap-call s.place j (record { step = x; answer = a }) t.left
            (subst (AreToCome d h Q s.place) by.0 s.to_come) i step)),
      )

  -- a new tap saw nothing, opened nothing, and has the first view
  pub tap-first : TapStands d h Q 0 (first_job Tap d)
  unfolding tap_fold client_after_sight
  tap-first = record {
    seen = tt;
    fold = refl;
    reads = refl;
    bare = no-others-first d;
    sized = IsSizedFor-first_view d;
    asked = inl refl;
  }
