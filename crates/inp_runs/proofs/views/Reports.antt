-- What holds at each event that a sight took, and what a client took and saw where its history grows.
use Rattle.std.proofs.Common.{◌≡◌, ◌≤◌, ◌<◌, inl, inr, ℕ, zero, suc, ◌+◌, ◌-◌, nat_eq, Bool, true, false, not}
use Rattle.std.proofs.Common.{if◌then◌else◌, ℤ, List, [], ◌∷◌, ◌++◌, length, map, take, drop, reverse}
use Rattle.std.proofs.Common.{replicate, refl, sym, subst, ◌∙◌, arith, append-nil, append_assoc}
use Rattle.std.proofs.Common.{take-append-drop, Option, Some, None}
use Rattle.std.specs.Prelude.{slice_get}
use Rattle.std.specs.List.{All}
use Rattle.std.proofs.lemmas.Bool.{cases_Bool}
use Rattle.std.proofs.lemmas.List.{ext_get_or, length-replicate, nil_from_length, get_or-replicate}
use Rattle.std.proofs.lemmas.List.Elements.{All-nil, All-head, All-tail, All-take}
use Rattle.inp_model.specs.Description.{has_kind}
use Rattle.inp_model.specs.Reply.{bitmap_of, code_on}
use Rattle.inp_reader.specs.ReaderPlace.{taken_events}
use Rattle.inp_reader.proofs.Calls.{IsPlaceOf, place-least}
use Rattle.inp_runs.proofs.Common.{cases_lt, lt-ltb, false_from_ne_true, cond_both, length-take}
use Rattle.inp_runs.proofs.Common.{reverse-append, Taken, Step, GetKeys, GetSwitches, GetLeds, Reply, Opened}
use Rattle.inp_runs.proofs.Common.{Description, is_again, past_at, Answer, answer, answer_by, accepted}
use Rattle.inp_runs.proofs.Common.{refused, is_accepted, past_after, Call, IsLegalFrom, HasPlace, place_of}
use Rattle.inp_runs.proofs.Common.{next_place, View, IsSizedFor, eaten, IsHistory, Each}
use Rattle.inp_runs.proofs.Common.{IsSizedFor-after_events, is_use_of, Sight, Took, call_sight, again_sight}
use Rattle.inp_runs.proofs.Common.{taken_sight, Job, after_call, noted_sight, AgreesIn, ShowsAt}
use Rattle.std.proofs.lemmas.List.FromFn.{length-map-range_with_len}
use Rattle.inp_model.specs.declared.event.Event.{Event}
use Rattle.inp_model.specs.declared.event.TheConstants.{EV_KEY, EV_SW, EV_LED}
use Rattle.inp_model.specs.declared.reply.Reply.TheVariants.{Again as NothingVisible, Bits}
use Rattle.inp_model.specs.Event.{is_repeat}
use Rattle.inp_model.specs.Queue.{event_of, taken_by, took}
use Rattle.inp_model.specs.Raw.{raw}
use Rattle.inp_recon.specs.View.{bits_in, first_view, view_after_event, view_after_events, view_after_answer}
use Rattle.inp_recon.specs.View.{key_count, code_count, with_flag, flags_after_reply}
use Rattle.inp_recon.proofs.Answered.{keys_after_answer, switches_after_answer, leds_after_answer}
use Rattle.inp_recon.proofs.Answered.{view_after_answer-parts}
use Rattle.inp_recon.specs.ClientView.{ReadEntry, client_view, client_view_with, read_entries}
use Rattle.inp_recon.specs.ClientView.{read_entries_with, view_at}
use Rattle.inp_recon.proofs.ReadEntries.{entry-before, entry-kept}
use Rattle.inp_recon.proofs.ToldBits.{told_flag}
use Rattle.inp_recon.proofs.ViewSteps.{client_view-sized}
use Rattle.inp_reader.specs.Spare.{is_event_of}
use Rattle.inp_reader.proofs.AgreedViews.{AgreeBut}
use Rattle.inp_model.proofs.Refused.{refused-not_accepted}
use Rattle.inp_reader.proofs.ClientViews.{at-last, idle-step, idle-taken, used-view, taken-events}
use Rattle.inp_reader.proofs.PastsAtCalls.{AreQuiet, IsMet, AreMet, AreAllOwn, later_own, past_before}
use Rattle.inp_reader.proofs.PastsAtCalls.{quiet-from_places, quiet-reversed, slice_get-taken}
use Rattle.inp_reader.proofs.PastsAtCalls.{slice_get-behind}
use Rattle.inp_reader.proofs.ShowsDevice.{what_is_had, no-key-down, nothing-on}
use Rattle.inp_reader.proofs.SpareAgrees.{no-keys, no-switches, no-leds, keys-stay}
use Rattle.inp_reader.proofs.Supported.{events-of}
use Rattle.inp_reader.proofs.Meets.{Runs}
use Rattle.inp_script.proofs.Runs.{next_place-within}
use Rattle.inp_model.proofs.Injection.{past-shorter}
use Rattle.inp_runs.proofs.owners.Owners.{past-next}
use Rattle.std.proofs.Math.Seq.{take-nil}

-- ---- what a sight took

-- of an entry, with the sight before it
abbrev pub AtEntry : (List Sight → Taken → Type 0) → List Sight → Sight → Type 0
AtEntry P before (Took taken) = P (before ++ Took taken ∷ []) taken
AtEntry P before _ = Unit {0}

-- what a sight has of a call before its events
abbrev pub sight_told : Step → Reply → List Sight
sight_told x reply = call_sight x reply ++ again_sight reply

abbrev pub AtEach : (List Sight → Taken → Type 0) → List Sight → List Sight → Type 0
AtEach P before [] = Unit {0}
AtEach P before (entry ∷ sight) = AtEntry P before entry × AtEach P (before ++ entry ∷ []) sight

module _ (P : List Sight → Taken → Type 0) where
  -- what holds at each event of a sight and of the one behind it holds at each of both
  pub at_each-append : (before xs ys : List Sight) → AtEach P before xs → AtEach P (before ++ xs) ys
      → AtEach P before (xs ++ ys)
  at_each-append before [] ys h k = rw append-nil at k
  at_each-append before (x ∷ xs) ys h k =
      (h.0, at_each-append (before ++ x ∷ []) xs ys h.1 (rw append_assoc k))

  -- what holds at each event that was taken holds at the one of the index
  pub at_each-at : (before sight : List Sight) (k : ℕ) (taken : Taken) → AtEach P before sight
      → slice_get sight k ≡ Some (Took taken) → P (before ++ take (suc k) sight) taken
  at_each-at before [] k taken h at = absurd cc
  at_each-at before (entry ∷ sight) zero taken h at =
      let same : entry ≡ Took taken = cc in
      rw same (rw same at h.0)
  at_each-at before (entry ∷ sight) (suc k) taken h at =
      rw append_assoc at (at_each-at (before ++ entry ∷ []) sight k taken h.1 at)

  pub at_each-call : (before : List Sight) (x : Step) (reply : Reply) → AtEach P before (call_sight x reply)
  at_each-call before x reply = cond_both (is_again reply) _ _ (AtEach P before) (λ _. tt) (λ _. (tt, tt))

  pub at_each-again : (before : List Sight) (reply : Reply) → AtEach P before (again_sight reply)
  at_each-again before (NothingVisible at ends) = (tt, tt)
  at_each-again before _ = tt

  -- the entries of calls are no events, so nothing is to be shown
  pub at_each-noted : (before : List Sight) (calls : List Call) → AtEach P before (noted_sight calls)
  at_each-noted before [] = tt
  at_each-noted before (call ∷ calls) =
      at_each-append before (call_sight call.step call.answer.reply) (noted_sight calls)
      (at_each-call before call.step call.answer.reply)
      (at_each-noted (before ++ call_sight call.step call.answer.reply) calls)

  -- what a call tells of, and then the events that it gave
  pub at_each-told : (sight : List Sight) (x : Step) (reply : Reply) (events : List Taken) → AtEach P [] sight
      → AtEach P (sight ++ (sight_told x reply)) (map taken_sight events)
      → AtEach P [] (sight ++ (sight_told x reply ++ map taken_sight events))
  at_each-told sight x reply events s es =
      at_each-append [] sight (sight_told x reply ++ map taken_sight events) s
      (at_each-append sight (sight_told x reply) (map taken_sight events)
      (at_each-append sight (call_sight x reply) (again_sight reply) (at_each-call sight x reply)
      (at_each-again (sight ++ call_sight x reply) reply)) es)

  -- a call that gave no event
  pub at_each-eventless : (j : Job) (x : Step) (a : Answer) → a.events ≡ [] → AtEach P [] j.sight
      → AtEach P [] (after_call j x a).sight
  at_each-eventless j x a none s =
      at_each-told j.sight x a.reply a.events s
      (rw none tt)

-- ---- a history that grows

-- the whole past is what came from the place on, in front of the past at the place
pub whole-past : (h : List Step) (at : ℕ) → reverse h ≡ reverse (drop at h) ++ past_at h at
whole-past h at = rw take-append-drop at (reverse-append (take at h) (drop at h))

-- ---- keys, switches and LEDs of a device that has none

pub record HasNoOthers (d : Description) (v : View) : Type 0 where
  -- where the device has no keys, none is down
  pub keys : has_kind d EV_KEY ≡ false → v.keys ≡ replicate key_count false
  -- where the device has no switches, none is on
  pub switches : has_kind d EV_SW ≡ false → v.switches ≡ replicate code_count false
  -- where the device has no LEDs, none is on
  pub leds : has_kind d EV_LED ≡ false → v.leds ≡ replicate code_count false

module _ (d : Description) where
  -- what is shown, told by what is the same
  pub shows-as : (past : List Step) (client now : ℕ) (own here : Option ℕ) (taken : Taken) (view shown : View)
      → now ≡ client → here ≡ own → shown ≡ view → ShowsAt d past client own taken view
      → ShowsAt d past now here taken shown
  shows-as past client now own here taken view shown n o v s = rw (n, o) (rw v s)

  shows-one : (past : List Step) (client : ℕ) (own : Option ℕ) (taken : Taken) (view : View) (x : Step)
      → ShowsAt d past client own taken view → ShowsAt d (x ∷ past) client own taken view
  shows-one past client own taken view x s = record {
    index = s.index;
    is_own = s.is_own;
    at = s.at;
    is_at = entry-kept (eaten d) d past client s.index x s.at s.is_at;
    is_taken = s.is_taken;
    agrees = s.agrees;
  }

  -- what a client took stays so
  pub shows-later : (more past : List Step) (client : ℕ) (own : Option ℕ) (taken : Taken) (view : View)
      → ShowsAt d past client own taken view → ShowsAt d (more ++ past) client own taken view
  shows-later [] past client own taken view s = s
  shows-later (x ∷ more) past client own taken view s =
      shows-one (more ++ past) client own taken view x (shows-later more past client own taken view s)

  -- each step of the whole past was accepted, and so was each before the place
  pub history-at : (h : List Step) (at : ℕ) → IsHistory d (reverse h) → IsHistory d (past_at h at)
  history-at h at k =
      past-shorter d (reverse (drop at h)) (past_at h at) (subst (IsHistory d) (whole-past h at) k)

  -- in the first view nothing is on
  pub no-others-first : HasNoOthers d (first_view d)
  unfolding first_view
  no-others-first = record { keys = λ none. refl; switches = λ none. refl; leds = λ none. refl }

  no-others-event : (v : View) (e : Event) → is_event_of d e ≡ true → HasNoOthers d v
      → HasNoOthers d (view_after_event v e)
  unfolding view_after_event
  no-others-event v e is s = record {
    keys = λ none. keys-stay (nat_eq e.kind EV_KEY) (not (is_repeat e)) (with_flag key_count v.keys e) v.keys
        (no-keys d e is none) ∙ s.keys none;
    switches = λ none. rw (no-switches d e is none) (s.switches none);
    leds = λ none. rw (no-leds d e is none) (s.leds none);
  }

  -- the events are of kinds that the device has, so they change no others
  pub no-others-events : (v : View) (taken : List Taken)
      → All (λ (t : Taken). is_event_of d t.event ≡ true) taken → HasNoOthers d v
      → HasNoOthers d (view_after_events v (taken_events taken))
  unfolding view_after_events
  no-others-events v [] all s = s
  no-others-events v (t ∷ taken) all s =
      no-others-events (view_after_event v t.event) taken
      (All-tail (λ (t : Taken). is_event_of d t.event ≡ true) t taken all)
      (no-others-event v t.event (All-head (λ (t : Taken). is_event_of d t.event ≡ true) t taken all) s)

told-off : (count : ℕ) (test : ℕ → Bool) → count ≤ 768 → ((code : ℕ) → test code ≡ false)
    → bits_in count (bitmap_of test) ≡ replicate count false
unfolding bits_in
told-off count test few off =
    let long : length (bits_in count (bitmap_of test)) ≡ count = length-map-range_with_len _ 0 count in
    ext_get_or false (bits_in count (bitmap_of test)) (replicate count false) (long
    ∙ sym (length-replicate count false))
    (λ code within. told_flag count test code (omega (arith, within, long)) (omega (arith, within, long, few))
    ∙ off code ∙ sym (get_or-replicate count code false false (omega (arith, within, long))))

not-told : (count : ℕ) (reply : Reply) (flags : List Bool) → is_accepted reply ≡ false
    → flags_after_reply count reply flags ≡ flags
not-told count (Bits at words) flags h = absurd cc
not-told count _ flags h = refl

module _ (d : Description) (past : List Step) where
  -- flags after the answer to their query
  told-none : (x : Step) (count kind : ℕ) (flags : List Bool) (o : Option Reply) → count ≤ 768
      → refused d past x ≡ o
      → (accepted d past x).reply ≡ Bits (length past) (bitmap_of (code_on d (raw d past) kind))
      → ((code : ℕ) → code_on d (raw d past) kind code ≡ false) → flags ≡ replicate count false
      → flags_after_reply count (answer_by o (accepted d past x)).reply flags ≡ replicate count false
  told-none x count kind flags None few h is off s =
      rw is (told-off count (code_on d (raw d past) kind) few off)
  told-none x count kind flags (Some reply) few h is off s =
      not-told count reply flags (refused-not_accepted d past x reply h) ∙ s

  keys-none : (x : Step) (keys : List Bool) → has_kind d EV_KEY ≡ false → keys ≡ replicate key_count false
      → keys_after_answer x (answer d past x).reply keys ≡ replicate key_count false
  keys-none (GetKeys client) keys none s =
      told-none (GetKeys client) 768 EV_KEY keys (refused d past (GetKeys client)) (omega arith) refl refl
      (λ code. no-key-down d (raw d past) code none) s
  keys-none _ keys none s = s

  switches-none : (x : Step) (flags : List Bool) → has_kind d EV_SW ≡ false
      → flags ≡ replicate code_count false
      → switches_after_answer x (answer d past x).reply flags ≡ replicate code_count false
  switches-none (GetSwitches client) flags none s =
      told-none (GetSwitches client) 64 EV_SW flags (refused d past (GetSwitches client))
      (omega arith) refl refl (λ code. nothing-on d (raw d past) EV_SW code none) s
  switches-none _ flags none s = s

  leds-none : (x : Step) (flags : List Bool) → has_kind d EV_LED ≡ false → flags ≡ replicate code_count false
      → leds_after_answer x (answer d past x).reply flags ≡ replicate code_count false
  leds-none (GetLeds client) flags none s =
      told-none (GetLeds client) 64 EV_LED flags (refused d past (GetLeds client)) (omega arith) refl refl
      (λ code. nothing-on d (raw d past) EV_LED code none) s
  leds-none _ flags none s = s

  -- where a device has no keys, switches or LEDs, the answer to their query tells of none
  pub no-others-answer : (v : View) (x : Step) (cells : List ℤ) → HasNoOthers d v
      → HasNoOthers d (view_after_answer v x (answer d past x).reply cells)
  no-others-answer v x cells s =
      rw (view_after_answer-parts v x (answer d past x).reply cells)
      (record {
        keys = λ none. keys-none x v.keys none (s.keys none);
        switches = λ none. switches-none x v.switches none (s.switches none);
        leds = λ none. leds-none x v.leds none (s.leds none);
      })

no-others-client : (d : Description) (past : List Step) (client : ℕ) → IsHistory d past
    → HasNoOthers d (client_view d past client)
unfolding client_view_with
no-others-client d [] client h = no-others-first d
no-others-client d (x ∷ past) client h =
    let v : View = client_view d past client in
    let s : HasNoOthers d v = no-others-client d past client h.0 in
    let given : Answer = answer d past x in
    elim (cases_Bool (is_use_of client x)) [
      | inl used ↦
          subst (HasNoOthers d) (sym (used-view d past client x v h.1 used))
          (no-others-answer d past (view_after_events v (taken_events given.events)) x given.cells
          (no-others-events d v given.events (events-of d past x given (inl refl)) s))
      | inr idle ↦ subst (HasNoOthers d) (sym (idle-step d past client x v idle)) s
    ]

-- the view at an event
pub no-others-at : (d : Description) (past : List Step) (client i : ℕ) (at : ReadEntry) → IsHistory d past
    → slice_get (read_entries d past client) i ≡ Some at → HasNoOthers d (view_at d client at)
unfolding read_entries_with
no-others-at d [] client i at h is = absurd cc
no-others-at d (x ∷ past) client i at h is = elim (cases_lt i (length (took d past client))) [
  | inl before ↦ no-others-at d past client i at h.0
      (sym (entry-before (eaten d) d past client i x before) ∙ is)
  | inr behind ↦ subst (HasNoOthers d) (sym (at-last d past client i x at behind is))
      (by (is_use_of client x) refl)
]
  where
    v : View
    v = client_view d past client

    n : ℕ
    n = suc i - length (took d past client)

    by : (b : Bool) → is_use_of client x ≡ b
        → HasNoOthers d (view_after_events v (map event_of (take n (taken_by d past client x))))
    by true used =
        let given : Answer = answer d past x in
        rw (taken-events d past client n x h.1 used)
        (no-others-events d v (take n given.events)
        (All-take (λ (t : Taken). is_event_of d t.event ≡ true) n given.events
        (events-of d past x given (inl refl))) (no-others-client d past client h.0))
    by false idle =
        rw (idle-taken, take-nil)
        (no-others-events d v [] (All-nil (λ (t : Taken). is_event_of d t.event ≡ true))
        (no-others-client d past client h.0))

-- ---- views that agree in what the device has

-- what the device has agrees, and what it has not is off in both views
pub agrees-had : (d : Description) (v w : View) → AgreeBut (what_is_had d) [] v w → HasNoOthers d v
    → HasNoOthers d w → IsSizedFor d.slots v → IsSizedFor d.slots w → AgreesIn d v w
agrees-had d v w a s t sized_v sized_w = record {
  keys =
      flags (has_kind d EV_KEY) v.keys w.keys (replicate key_count false)
      (λ is. a.keys is refl) s.keys t.keys;
  switches =
      flags (has_kind d EV_SW) v.switches w.switches (replicate code_count false)
      (λ is. a.switches is refl) s.switches t.switches;
  leds =
      flags (has_kind d EV_LED) v.leds w.leds (replicate code_count false)
      (λ is. a.leds is refl) s.leds t.leds;
  axes = λ code has. a.axes code has refl;
  cells = by d.slots refl;
  slot = λ some. a.slot (lt-ltb 0 d.slots some) refl;
}
  where
    flags : (b : Bool) (xs ys zs : List Bool) → (b ≡ true → xs ≡ ys) → (b ≡ false → xs ≡ zs)
        → (b ≡ false → ys ≡ zs) → xs ≡ ys
    flags true xs ys zs same left right = same refl
    flags false xs ys zs same left right = left refl ∙ sym (right refl)

    by : (n : ℕ) → d.slots ≡ n → v.cells ≡ w.cells
    by zero none =
        nil_from_length v.cells (omega (arith, none, sized_v.cells))
        ∙ sym (nil_from_length w.cells (omega (arith, none, sized_w.cells)))
    by (suc n) some = a.cells (rw some (lt-ltb 0 (suc n) (omega arith))) refl

-- no event changes the size of a view
pub sized-at : (d : Description) (client : ℕ) (at : ReadEntry) → IsSizedFor d.slots (view_at d client at)
sized-at d client at =
    IsSizedFor-after_events d.slots (client_view d at.before client) (map event_of at.taken)
    (client_view-sized d at.before client)

-- ---- the pasts of calls

-- the least place behind these calls
abbrev pub place_behind : ℕ → List Call → ℕ
place_behind least [] = least
place_behind least (call ∷ calls) = place_behind (next_place call.answer.reply) calls

-- the second calls begin at the place behind the first ones
pub place_behind-append : (least : ℕ) (first second : List Call)
    → place_behind least (first ++ second) ≡ place_behind (place_behind least first) second
place_behind-append least [] second = refl
place_behind-append least (call ∷ first) second =
    place_behind-append (next_place call.answer.reply) first second

-- Calls that are to come: a legal run of the history from this place on. Each use of one of these clients is
-- among them from then on, and each client that is opened is one of these.
pub record AreToCome (d : Description) (h : List Step) (Q : ℕ → Type 0) (least : ℕ)
    (calls : List Call) : Type 0 where
  -- the place is in the history or at its end
  pub within : least ≤ length h
  -- the calls are a legal run from the place on
  pub legal : IsLegalFrom d h least calls
  -- from there on each use of one of the clients is among the calls
  pub own : (client : ℕ) → Q client → AreAllOwn client least h calls
  -- each client that they open is one of the clients
  pub opened : Each (λ (call : Call). (at client ring : ℕ) → call.answer.reply ≡ Opened at client ring
      → Q client) calls

at_most_next : (reply : Reply) (b : Bool)
    → place_of reply ≤ (if b then suc (place_of reply) else place_of reply)
at_most_next reply true = omega arith
at_most_next reply false = omega arith

-- what a call leaves
pub past-entered : (d : Description) (h : List Step) (call : Call) → HasPlace d h call
    → past_at h (next_place call.answer.reply)
    ≡ past_after call.answer.reply call.step (past_at h (place_of call.answer.reply))
past-entered d h call placed = by (is_accepted call.answer.reply) (place_of call.answer.reply) placed.entered
  where
    by : (b : Bool) (at : ℕ) → (b ≡ true → slice_get h at ≡ Some call.step)
        → past_at h (if b then suc at else at) ≡ (if b then call.step ∷ past_at h at else past_at h at)
    by true at there = past-next h at call.step (there refl)
    by false at there = refl

-- ---- a walk of talks, which meets these calls

-- the place from which on calls are to come
pub record Coming (d : Description) (h : List Step) (Q : ℕ → Type 0) : Type 0 where
  -- the place behind the calls that were made
  pub place : ℕ
  -- the calls that are left
  pub left : List Call
  -- what is left at a place is to come from there on
  pub to_come : AreToCome d h Q place left

-- these calls were to come between the two
pub record HaveCome (d : Description) (h : List Step) (Q : ℕ → Type 0) (s t : Coming d h Q)
    (calls : List Call) : Type 0 where
  -- what is left at a place is to come from there on
  pub to_come : AreToCome d h Q s.place (calls ++ t.left)
  -- the place behind the calls that were made
  pub place : t.place ≡ place_behind s.place calls

module _ (d : Description) (h : List Step) (Q : ℕ → Type 0) where
  -- a use from the next place on is not the first call, so the other calls have them all
  pub to-come-next : (least : ℕ) (call : Call) (calls : List Call) → AreToCome d h Q least (call ∷ calls)
      → AreToCome d h Q (next_place call.answer.reply) calls
  to-come-next least call calls c = record {
    within = next_place-within d h call c.legal.1;
    legal = c.legal.2;
    own = λ client q. later_own client h (next_place call.answer.reply) call calls least
        (omega (arith, c.legal.0, at_most_next call.answer.reply (is_accepted call.answer.reply))) refl
        (c.own client q);
    opened = c.opened.1;
  }

  -- behind each of the first calls the others are still to come, and so behind all of them
  pub to-come-behind : (least : ℕ) (first second : List Call) → AreToCome d h Q least (first ++ second)
      → AreToCome d h Q (place_behind least first) second
  to-come-behind least [] second c = c
  to-come-behind least (call ∷ first) second c =
      to-come-behind (next_place call.answer.reply) first second (to-come-next least call (first ++ second) c)

  -- what others did before a call
  pub quiet-before : (client least : ℕ) (call : Call) (calls : List Call)
      → AreToCome d h Q least (call ∷ calls) → Q client
      → (others : List Step) × AreQuiet client others
      × (past_at h (place_of call.answer.reply) ≡ others ++ past_at h least)
  quiet-before client least call calls c q =
      let at : ℕ = place_of call.answer.reply in
      let before : List Step = take least h in
      let more : List Step = drop least h in
      let n : ℕ = length before in
      let long : n ≡ least = omega (arith, length-take least h, c.within) in
      let whole : h ≡ before ++ more = sym (take-append-drop least h) in
      let others : List Step = reverse (take (at - n) more) in
      let from : n ≤ at = omega (arith, long, c.legal.0) in
      let quiet_at : (k : ℕ) (x : Step) → slice_get (take (at - n) more) k ≡ Some x
      → is_use_of client x ≡ false = λ k x is.
      let t : (k < at - n) × (slice_get more k ≡ Some x) = slice_get-taken (at - n) k more x is in
      let there : slice_get h (n + k) ≡ Some x = rw (← whole) at (slice_get-behind before more k x t.1) in
      false_from_ne_true (is_use_of client x) (λ used.
      let mine : IsPlaceOf (n + k) (call ∷ calls) =
      c.own client q (n + k) x (omega (arith, long)) there used in
      let late : at ≤ n + k =
      place-least d h at (n + k) (call ∷ calls) (omega arith, c.legal.1, c.legal.2) mine in
      absurd (omega (arith, late, t.0))) in (
        others,
        quiet-reversed client (take (at - n) more)
            (quiet-from_places client (take (at - n) more) quiet_at),
        past_before h before more at whole from,
      )

  -- a call, and what others did before it
  pub call-met : (client least : ℕ) (call : Call) (calls : List Call) → AreToCome d h Q least (call ∷ calls)
      → Q client → IsMet d client (past_at h least) (past_at h (next_place call.answer.reply)) call
  call-met client least call calls c q =
      let b = quiet-before client least call calls c q in
      record {
        others = b.0;
        quiet = b.1;
        exact = rw b.2 at c.legal.1.exact;
        entered = rw (past-entered d h call c.legal.1, b.2);
      }

  -- calls, and what others did in between
  pub calls-met : (client least : ℕ) (first second : List Call) → AreToCome d h Q least (first ++ second)
      → Q client → AreMet d client (past_at h least) (past_at h (place_behind least first)) first
  unfolding AreMet
  calls-met client least [] second c q = refl
  calls-met client least (call ∷ first) second c q = (
    past_at h (next_place call.answer.reply),
    call-met client least call (first ++ second) c q,
    calls-met client (next_place call.answer.reply) first second
        (to-come-next least call (first ++ second) c) q,
  )

  -- the first of them is made
  abbrev pub Comes : Coming d h Q → Step → Answer → Coming d h Q → Type 0
  Comes s x a t = (s.left ≡ record { step = x; answer = a } ∷ t.left) × (t.place ≡ next_place a.reply)

  -- each call in turn is the first one that is left
  pub coming-run : (least : ℕ) (calls : List Call) (c : AreToCome d h Q least calls)
      → (t : Coming d h Q) × Runs Comes (record { place = least; left = calls; to_come = c }) calls t
  unfolding Runs
  coming-run least [] c = (record { place = least; left = []; to_come = c }, refl)
  coming-run least (call ∷ calls) c =
      let later : AreToCome d h Q (next_place call.answer.reply) calls = to-come-next least call calls
      c in
      let rest = coming-run (next_place call.answer.reply) calls later in (
        rest.0,
        (
          record { place = next_place call.answer.reply; left = calls; to_come = later },
          (refl, refl),
          rest.1,
        ),
      )

  were-left : (s t : Coming d h Q) (calls : List Call) → Runs Comes s calls t
      → (s.left ≡ calls ++ t.left) × (t.place ≡ place_behind s.place calls)
  unfolding Runs
  were-left s t [] run = (
    rw (← run),
    rw run,
  )
  were-left s t (call ∷ calls) run =
      let rest = were-left run.0 t calls run.2 in (
        rw (run.1.0, rest.0),
        rw (rest.1, run.1.1),
      )

  -- a run makes the calls in order, so what was left before is the calls and what is left now
  pub have-come : (s t : Coming d h Q) (calls : List Call) → Runs Comes s calls t → HaveCome d h Q s t calls
  have-come s t calls run =
      let w = were-left s t calls run in
      record { to_come = subst (AreToCome d h Q s.place) w.0 s.to_come; place = w.1 }
