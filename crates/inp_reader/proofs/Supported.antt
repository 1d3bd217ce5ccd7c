-- A client takes no event that its device cannot have.
use Rattle.std.proofs.Common.{◌≡◌, inl, inr, ℕ, suc, nat_eq, nat_lt, nat_le, min, ℤ, pos, Bool, true, false}
use Rattle.std.proofs.Common.{◌&&◌, ◌||◌, not, List, [], ◌∷◌, ◌++◌, length, map, filter, take, refl, sym, ◌∙◌}
use Rattle.std.proofs.Common.{arith, if◌then◌else◌, Option, Some, None}
use Rattle.std.specs.Prelude.{int_lt, is_some, option_to_list, option_map}
use Rattle.std.specs.Ordering.{int_eq}
use Rattle.std.specs.List.{All}
use Rattle.std.proofs.lemmas.Bool.{true≢false, eqb-true, and_parts, lt-ltb, cond_both, cases_Bool, and_right}
use Rattle.std.proofs.lemmas.List.Elements.{All-nil, All-cons, All-append, All-map, All-filter, All-take}
use Rattle.std.proofs.lemmas.List.Elements.{All-drop, All-head, All-tail}
use Rattle.inp_model.specs.declared.event.Event.{Event}
use Rattle.inp_model.specs.declared.event.TheConstants.{EV_SYN, EV_ABS}
use Rattle.inp_model.specs.declared.multi_touch.TheConstants.{ABS_MT_SLOT}
use Rattle.inp_model.specs.declared.taken.Taken.{Taken}
use Rattle.inp_model.specs.declared.clock.Clock.{Clock}
use Rattle.inp_model.specs.declared.step.Step.{Step}
use Rattle.inp_model.specs.declared.step.Step.TheVariants.{Open, Read, Discard, Clock as ToClock}
use Rattle.inp_model.specs.declared.reply.Reply.{Reply}
use Rattle.inp_model.specs.RawItem.{RawItem, Occurred, Described, Cut, Frame}
use Rattle.inp_model.specs.Description.{Description, supports, ring}
use Rattle.inp_model.specs.Event.{is_report, is_on, core_report, slot_event}
use Rattle.inp_model.specs.State.{staged, is_slot}
use Rattle.inp_model.specs.Passed.{passed, passes_as, passed_if, code_passes_as, passes_slot_value, announced}
use Rattle.inp_model.specs.Passed.{announces, announcement}
use Rattle.inp_model.specs.Cut.{pending, cut_events, cut_for, cuts}
use Rattle.inp_model.specs.Frame.{frame_of, frames_of_step, cuts_of_step}
use Rattle.inp_model.specs.Raw.{raw, raw_of_step}
use Rattle.inp_model.specs.Past.{is_call_of, admits, clock_of}
use Rattle.inp_model.specs.Step.{Query, query_of, is_part_of}
use Rattle.inp_model.specs.Left.{eaten, is_left, left_from, left}
use Rattle.inp_model.proofs.Removal.{flush-all}
use Rattle.inp_model.specs.Queue.{Entry, event_of, entry_dropped_at, put, put_all, visible, flush_for}
use Rattle.inp_model.specs.Queue.{is_offered, entry, entries_of, entries, clock_entry, clock_changed}
use Rattle.inp_model.specs.Queue.{is_same_clock, left_by_call, queue, queue_with, taken_by, is_empty}
use Rattle.inp_model.specs.Queue.{ends_in_report}
use Rattle.inp_model.specs.Reply.{Answer, IsAnswer, answer_by, accepted, refused, taken_of}
use Rattle.inp_reader.specs.Spare.{is_event_of}

neither : (b : Bool) → (not b && b) ≡ false
neither true = refl
neither false = refl

never_staged : (b c : Bool) (x y : ℤ) → c ≡ false → y ≡ pos 0 → (if b && c then x else y) ≡ pos 0
never_staged true true x y h k = absurd cc
never_staged true false x y h k = k
never_staged false c x y h k = k

one-of : {X : Type 0} (P : X → Type 0) (b : Bool) (xs ys : List X) → All P xs → All P ys
    → All P (if b then xs else ys)
one-of P b xs ys h k = cond_both b xs ys (All P) (λ _. h) (λ _. k)

module _ (d : Description) where
  abbrev IsOf : Event → Type 0
  IsOf e = is_event_of d e ≡ true

  -- Slots are named on devices with slots alone

  is_slot-none : (v : ℤ) → d.slots ≡ 0 → is_slot d v ≡ false
  is_slot-none v h = rw h (neither (int_lt v (pos 0)))

  staged-none : (r : List RawItem) → d.slots ≡ 0 → staged d r ≡ pos 0
  unfolding staged
  staged-none [] h = refl
  staged-none (Described code axis ∷ r) h = staged-none r h
  staged-none (Occurred e ∷ r) h =
      never_staged (is_on d EV_ABS ABS_MT_SLOT e) (is_slot d e.value) e.value (staged d r)
      (is_slot-none e.value h) (staged-none r h)

  announced-none : (r : List RawItem) → d.slots ≡ 0 → announced d r ≡ pos 0
  unfolding announced
  announced-none [] h = refl
  announced-none (Described code axis ∷ r) h = announced-none r h
  announced-none (Occurred e ∷ r) h =
      cond_both (passes_slot_value d r e) _ _ (λ (z : ℤ). z ≡ pos 0) (λ _. staged-none r h)
      (λ _. announced-none r h)

  announces-none : (r : List RawItem) (e : Event) → d.slots ≡ 0 → announces d r e ≡ false
  announces-none r e h =
      and_right (passes_slot_value d r e) (not (int_eq (staged d r) (announced d r)))
      (rw (staged-none r h, announced-none r h))

  has_slots : (d.slots ≡ 0 → ⊥) → nat_lt 0 d.slots ≡ true
  has_slots h = lt-ltb 0 d.slots (omega (arith, h))

  announcement-of : (r : List RawItem) (e : Event) → All IsOf (announcement d r e)
  announcement-of r e =
      cond_both (announces d r e) _ _ (All IsOf)
      (λ is. All-cons IsOf (slot_event (staged d r)) []
      (has_slots (λ none. true≢false (sym is ∙ announces-none r e none))) (All-nil IsOf))
      (λ is. All-nil IsOf)

  -- What is passed

  slot-code-not-passed : (r : List RawItem) (e : Event) → e.kind ≡ EV_ABS → e.code ≡ ABS_MT_SLOT
      → is_some (code_passes_as d r e) ≡ false
  slot-code-not-passed r e h k = rw (h, k)

  -- the event is of the device where it is supported and passes
  supported-of : (r : List RawItem) (e : Event) → supports d e.kind e.code ≡ true
      → is_some (code_passes_as d r e) ≡ true
      → (if nat_eq e.kind EV_ABS && nat_eq e.code ABS_MT_SLOT then nat_lt 0 d.slots
      else supports d e.kind e.code) ≡ true
  supported-of r e h k = elim (cases_Bool (nat_eq e.kind EV_ABS && nat_eq e.code ABS_MT_SLOT)) [
    | inl is ↦
        (let both = and_parts (nat_eq e.kind EV_ABS) (nat_eq e.code ABS_MT_SLOT) is in
        absurd
        (cc (slot-code-not-passed r e (eqb-true e.kind EV_ABS both.0) (eqb-true e.code ABS_MT_SLOT both.1))))
    | inr is ↦ rw is h
  ]

  passes-of : (r : List RawItem) (e : Event) → is_some (passes_as d r e) ≡ true → is_event_of d e ≡ true
  passes-of r e = by (nat_eq e.kind EV_SYN)
    where
      slot_or : Bool
      slot_or =
          if nat_eq e.kind EV_ABS && nat_eq e.code ABS_MT_SLOT then nat_lt 0 d.slots
          else supports d e.kind e.code

      of_pass : (s : Bool) → supports d e.kind e.code ≡ s
          → is_some (if s then code_passes_as d r e else None) ≡ true → slot_or ≡ true
      of_pass true h is = supported-of r e h is
      of_pass false h is = absurd cc

      by : (syn : Bool)
          → is_some (if syn then passed_if (nat_lt e.code 3) e.value else if supports d e.kind e.code
          then code_passes_as d r e else None) ≡ true
          → (if syn then true else slot_or) ≡ true
      by true is = refl
      by false is = of_pass (supports d e.kind e.code) refl is

  passed-value-of : (e : Event) (o : Option ℤ) → (is_some o ≡ true → is_event_of d e ≡ true)
      → All IsOf (option_to_list (option_map (λ v. record e { value = v }) o))
  passed-value-of e None h = All-nil IsOf
  passed-value-of e (Some v) h = All-cons IsOf (record e { value = v }) [] (h refl) (All-nil IsOf)

  passed-of : (r : List RawItem) (e : Event) → All IsOf (passed d r e)
  passed-of r e =
      All-append IsOf (announcement d r e)
      (option_to_list (option_map (λ v. record e { value = v }) (passes_as d r e))) (announcement-of r e)
      (passed-value-of e (passes_as d r e) (passes-of r e))

  -- Frames

  pending-of : (r : List RawItem) → All IsOf (pending d r)
  unfolding pending
  pending-of [] = All-nil IsOf
  pending-of (Described code axis ∷ r) = pending-of r
  pending-of (Occurred e ∷ r) =
      let batch : List Event = pending d r ++ passed d r e in
      let all : All IsOf batch =
      All-append IsOf (pending d r) (passed d r e) (pending-of r) (passed-of r e) in
      one-of IsOf (is_report e) [] (if nat_le d.hint (length batch) then [] else batch) (All-nil IsOf)
      (one-of IsOf (nat_le d.hint (length batch)) [] batch (All-nil IsOf) all)

  abbrev AllSome : Option (List Event) → Type 0
  AllSome None = Unit {0}
  AllSome (Some es) = All IsOf es

  cut_events-of : (r : List RawItem) (e : Event) → AllSome (cut_events d r e)
  cut_events-of r e = by (is_report e) (nat_lt 1 (length batch)) (nat_le d.hint (length batch))
    where
      batch : List Event
      batch = pending d r ++ passed d r e

      all : All IsOf batch
      all = All-append IsOf (pending d r) (passed d r e) (pending-of r) (passed-of r e)

      by : (report long full : Bool)
          → AllSome (if report then (if long then Some batch else None) else if full
          then Some (batch ++ core_report ∷ []) else None)
      by true true full = all
      by true false full = tt
      by false long true =
          All-append IsOf batch (core_report ∷ []) all (All-cons IsOf core_report [] refl (All-nil IsOf))
      by false long false = tt

  abbrev IsCutOf : Cut → Type 0
  IsCutOf c = All IsOf c.events

  cut-of : (until : List RawItem) (o : Option (List Event)) → AllSome o
      → All IsCutOf (option_to_list (option_map (λ events. record { events = events; until = until }) o))
  cut-of until None h = All-nil IsCutOf
  cut-of until (Some es) h = All-cons IsCutOf (record { events = es; until = until }) [] h (All-nil IsCutOf)

  cut_for-of : (r : List RawItem) (x : RawItem) → All IsCutOf (cut_for d r x)
  cut_for-of r (Occurred e) = cut-of (Occurred e ∷ r) (cut_events d r e) (cut_events-of r e)
  cut_for-of r (Described code axis) = All-nil IsCutOf

  cuts-of : (r xs : List RawItem) → All IsCutOf (cuts d r xs)
  unfolding cuts
  cuts-of r [] = All-nil IsCutOf
  cuts-of r (x ∷ xs) =
      All-append IsCutOf (cut_for d r x) (cuts d (x ∷ r) xs) (cut_for-of r x) (cuts-of (x ∷ r) xs)

  abbrev IsFrameOf : Frame → Type 0
  IsFrameOf f = All IsOf f.cut.events

  frames-of : (past : List Step) (x : Step) → All IsFrameOf (frames_of_step d past x)
  frames-of past x =
      All-map IsFrameOf (frame_of past x) (cuts_of_step d past x)
      (cuts-of (raw d past) (raw_of_step d past x))

  -- The queue

  abbrev IsEntryOf : Entry → Type 0
  IsEntryOf e = is_event_of d (event_of e) ≡ true

  -- so are those that are left, whatever is eaten
  left_from-of : (eats : ℕ → Bool) (k : ℕ) (es : List Event) → All IsOf es → All IsOf (left_from eats k es)
  left_from-of eats k [] h = All-nil IsOf
  left_from-of eats k (e ∷ es) h =
      (let rest : All IsOf (left_from eats (suc k) es) =
      left_from-of eats (suc k) es (All-tail IsOf e es h) in
      one-of IsOf (is_left eats k e) (e ∷ left_from eats (suc k) es) (left_from eats (suc k) es)
      (All-cons IsOf e _ (All-head IsOf e es h) rest) rest)

  entries_of-of : (client : ℕ) (f : Frame) → IsFrameOf f → All IsEntryOf (entries_of (eaten d) d client f)
  entries_of-of client f h =
      let all : List Event = left (eaten d) f in
      let some : List Event = filter (admits f.before client) all in
      one-of IsEntryOf (is_offered f.before client) (map (entry d client f) some) []
      (All-map IsEntryOf (entry d client f) some
      (All-filter (admits f.before client) IsOf all (left_from-of (eaten d f) 0 f.cut.events h)))
      (All-nil IsEntryOf)

  entries-of : (client : ℕ) (fs : List Frame) → All IsFrameOf fs → All IsEntryOf (entries d client fs)
  entries-of client [] h = All-nil IsEntryOf
  entries-of client (f ∷ fs) h =
      All-append IsEntryOf (entries_of (eaten d) d client f) (entries d client fs)
      (entries_of-of client f (All-head IsFrameOf f fs h)) (entries-of client fs (All-tail IsFrameOf f fs h))

  put-of : (places : ℕ) (q : List Entry) (x : Entry) → All IsEntryOf q → IsEntryOf x
      → All IsEntryOf (put event_of entry_dropped_at places q x)
  put-of places q x h k =
      by (is_report (event_of x) && (is_empty q || ends_in_report event_of q))
      (nat_lt (suc (length q)) places)
    where
      one : All IsEntryOf (x ∷ [])
      one = All-cons IsEntryOf x [] k (All-nil IsEntryOf)

      by : (same fits : Bool)
          → All IsEntryOf (if same then q else if fits then q ++ x ∷ [] else entry_dropped_at x ∷ x ∷ [])
      by true fits = h
      by false true = All-append IsEntryOf q (x ∷ []) h one
      by false false = All-cons IsEntryOf (entry_dropped_at x) (x ∷ []) refl one

  put_all-of : (places : ℕ) (q xs : List Entry) → All IsEntryOf q → All IsEntryOf xs
      → All IsEntryOf (put_all event_of entry_dropped_at places q xs)
  put_all-of places q [] h k = h
  put_all-of places q (x ∷ xs) h k =
      put_all-of places (put event_of entry_dropped_at places q x) xs
      (put-of places q x h (All-head IsEntryOf x xs k)) (All-tail IsEntryOf x xs k)

  flush_for-of : (o : Option Query) (q : List Entry) → All IsEntryOf q
      → All IsEntryOf (flush_for event_of o q)
  flush_for-of None q h = h
  flush_for-of (Some query) q h = flush-all event_of (is_part_of query) IsEntryOf q h

  clock_changed-of : (same : Bool) (past : List Step) (clock : Clock) (now : ℕ) (q : List Entry)
      → All IsEntryOf q → All IsEntryOf (clock_changed same (clock_entry d past clock now) q)
  clock_changed-of same past clock now [] h = h
  clock_changed-of true past clock now (x ∷ q) h = h
  clock_changed-of false past clock now (x ∷ q) h =
      All-cons IsEntryOf (clock_entry d past clock now) [] refl (All-nil IsEntryOf)

  left_by_call-of : (past : List Step) (x : Step) (q : List Entry) → All IsEntryOf q
      → All IsEntryOf (left_by_call d past x q)
  left_by_call-of past Open q h = All-nil IsEntryOf
  left_by_call-of past (Read client count) q h = All-drop IsEntryOf (min count (visible event_of q)) q h
  left_by_call-of past (Discard client) q h = All-drop IsEntryOf (visible event_of q) q h
  left_by_call-of past (ToClock client clock now) q h =
      clock_changed-of (is_same_clock (clock_of past client) clock) past clock now q h
  left_by_call-of past x q h = flush_for-of (query_of x) q h

  queue-of : (past : List Step) (client : ℕ) → All IsEntryOf (queue d past client)
  unfolding queue_with
  queue-of [] client = All-nil IsEntryOf
  queue-of (x ∷ past) client =
      let q : List Entry = queue d past client in
      let rest : All IsEntryOf q = queue-of past client in
      let own : List Entry = if is_call_of past client x then left_by_call d past x q else q in
      put_all-of (ring d) own (entries d client (frames_of_step d past x))
      (one-of IsEntryOf (is_call_of past client x) (left_by_call d past x q) q
      (left_by_call-of past x q rest) rest) (entries-of client (frames_of_step d past x) (frames-of past x))

  -- What an answer hands over

  abbrev pub IsTakenOf : Taken → Type 0
  IsTakenOf t = is_event_of d t.event ≡ true

  taken_by-of : (past : List Step) (client : ℕ) (x : Step) → All IsEntryOf (taken_by d past client x)
  taken_by-of past client (Read reader count) =
      let q : List Entry = queue d past client in
      one-of IsEntryOf (nat_eq reader client) (take (min count (visible event_of q)) q) []
      (All-take IsEntryOf (min count (visible event_of q)) q (queue-of past client)) (All-nil IsEntryOf)
  taken_by-of past client _ = All-nil IsEntryOf

  accepted-of : (past : List Step) (x : Step) → All IsTakenOf (accepted d past x).events
  accepted-of past (Read client count) =
      All-map IsTakenOf taken_of (taken_by d past client (Read client count))
      (taken_by-of past client (Read client count))
  accepted-of past _ = All-nil IsTakenOf

  answer_by-of : (o : Option Reply) (given : Answer) → All IsTakenOf given.events
      → All IsTakenOf (answer_by o given).events
  answer_by-of None given h = h
  answer_by-of (Some reply) given h = All-nil IsTakenOf

  -- what is taken is of the device
  pub events-of : (past : List Step) (x : Step) (given : Answer) → IsAnswer d past x given
      → All (λ (t : Taken). is_event_of d t.event ≡ true) given.events
  events-of past x given (inl e) =
      rw e (answer_by-of (refused d past x) (accepted d past x) (accepted-of past x))
  events-of past x given (inr l) = rw l.2 (All-nil IsTakenOf)
