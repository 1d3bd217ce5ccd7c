-- The synthesised events, index by index, and the list that all groups of them make.
use Rattle.std.proofs.Common.{◌≡◌, ℕ, zero, suc, ◌+◌, ◌-◌, ◌<◌, ◌≤◌, ℤ, pos, Bool, true, false, cond}
use Rattle.std.proofs.Common.{if◌then◌else◌, List, [], ◌∷◌, ◌++◌, length, map, take, drop, refl, sym, ap}
use Rattle.std.proofs.Common.{arith, append-nil, append_assoc, zero-add, Some, get_or, length-drop}
use Rattle.std.proofs.Common.{length-append}
use Rattle.std.specs.List.{slice_get, range_with_len, filter, list_any}
use Rattle.std.proofs.lemmas.Bool.{or_right}
use Rattle.std.proofs.lemmas.List.{map-append, take_more, get_or-drop, take_at, drop_at}
use Rattle.std.proofs.lemmas.List.Folds.{list_any-append}
use Rattle.std.proofs.lemmas.Option.{get_or_from_slice_get}
use Rattle.inp_model.specs.Event.{slot_event}
use Rattle.inp_recon.proofs.Folds.{view_after_events-append}
use Rattle.std.proofs.lemmas.List.Elements.{filter-append}
use Rattle.inp_model.specs.declared.event.Event.{Event}
use Rattle.inp_recon.specs.declared.view.View.{View}
use Rattle.inp_recon.specs.View.{view_after_events, view_after_event}
use Rattle.inp_model.specs.declared.event.TheConstants.{EV_SYN, SYN_REPORT}
use Rattle.inp_reader.specs.Synthesis.{where_below, unless_same, to_slot, in_slots, with_report, lifts}
use Rattle.inp_reader.specs.Synthesis.{class_changes, cell_changes, slot_changes, synth}
use Rattle.inp_model.proofs.Injection.{range-append}

-- One index more

-- the number at the old bound comes last, where it passes the test
pub where_below-more : (n : ℕ) (test : ℕ → Bool)
    → where_below (n + 1) test ≡ where_below n test ++ cond (test n) (n ∷ []) []
where_below-more n test = rw (range-append, filter-append, zero-add)

map-one : (f : ℕ → Event) (n : ℕ) (wanted : Bool)
    → (if wanted then f n ∷ [] else []) ≡ map f (cond wanted (n ∷ []) [])
map-one f n true = refl
map-one f n false = refl

-- the event of one number more, if it passes the test
events-one : (f : ℕ → Event) (test : ℕ → Bool) (n : ℕ)
    (some : List ℕ) {more : List ℕ} {wanted : Bool} {event : Event}
    (before : List Event) {list new : List Event} → more ≡ some ++ cond (test n) (n ∷ []) []
    → new ≡ list ++ (if wanted then event ∷ [] else []) → list ≡ before ++ map f some
    → wanted ≡ test n → event ≡ f n
    → new ≡ before ++ map f more
events-one f test n some before one pushed is w e =
    rw (pushed, w, e, map-one f n (test n), is, append_assoc, ← map-append, ← one)

-- the next number adds its event at the end, where it passes the test
pub events-more : (f : ℕ → Event) (test : ℕ → Bool) (n : ℕ) {wanted : Bool} {event : Event}
    (before : List Event) {list new : List Event} → new ≡ list ++ (if wanted then event ∷ [] else [])
    → list ≡ before ++ map f (where_below n test) → wanted ≡ test n → event ≡ f n
    → new ≡ before ++ map f (where_below (n + 1) test)
events-more f test n before = events-one f test n _ before (where_below-more n test)

-- the numbers from the first to before a code that pass a test
abbrev pub passing : ℕ → (ℕ → Bool) → ℕ → List ℕ
passing first test code = filter test (range_with_len first (code - first))

-- the next code comes last, where it passes the test
pub passing-more : (first code : ℕ) (test : ℕ → Bool) → first ≤ code
    → passing first test (code + 1) ≡ passing first test code ++ cond (test code) (code ∷ []) []
passing-more first code test h =
    let n : ℕ = code - first in
    let e : code + 1 - first ≡ n + 1 = omega (arith, h) in
    let f : first + n ≡ code = omega (arith, h) in
    rw (e, range-append, filter-append, f)

-- the next code adds its event at the end, where it passes the test
pub events-next : (f : ℕ → Event) (test : ℕ → Bool) (first code : ℕ) {wanted : Bool} {event : Event}
    (before : List Event) {list new : List Event} → first ≤ code
    → new ≡ list ++ (if wanted then event ∷ [] else []) → list ≡ before ++ map f (passing first test code)
    → wanted ≡ test code → event ≡ f code
    → new ≡ before ++ map f (passing first test (code + 1))
events-next f test first code before h = events-one f test code _ before (passing-more first code test h)

-- Slots

-- the current slot behind the events of these slots
abbrev pub last_slot : List ℕ → ℤ → ℤ
last_slot [] current = current
last_slot (slot ∷ slots) current = last_slot slots (pos slot)

-- behind the events of a slot it is the current one
pub last_slot-more : (slots : List ℕ) (slot : ℕ) (current : ℤ)
    → last_slot (slots ++ slot ∷ []) current ≡ pos slot
last_slot-more [] slot current = refl
last_slot-more (s ∷ slots) slot current = last_slot-more slots slot (pos s)

-- the events of a last slot come behind the one that makes it the current slot
pub in_slots-more : (f : ℕ → List Event) (slots : List ℕ) (slot : ℕ) (current : ℤ)
    → in_slots f (slots ++ slot ∷ []) current ≡ in_slots f slots current
    ++ (to_slot (last_slot slots current) (pos slot) ++ f slot)
in_slots-more f [] slot current = append-nil (to_slot current (pos slot) ++ f slot)
in_slots-more f (s ∷ slots) slot current =
    rw (in_slots-more f slots slot (pos s))
    (sym (append_assoc (to_slot current (pos s) ++ f s) (in_slots f slots (pos s))
    (to_slot (last_slot slots (pos s)) (pos slot) ++ f slot)))

-- a number that does not pass the test adds nothing
pub where_below-skip : (test : ℕ → Bool) (n : ℕ) → test n ≡ false
    → where_below (n + 1) test ≡ where_below n test
where_below-skip test n h = rw (where_below-more, h) (append-nil (where_below n test))

-- a number that passes the test comes last
pub where_below-next : (test : ℕ → Bool) (n : ℕ) → test n ≡ true
    → where_below (n + 1) test ≡ where_below n test ++ n ∷ []
where_below-next test n h = rw (where_below-more, h)

-- what a walk over slots has added, and the current slot behind it
pub record IsWalked (f : ℕ → List Event) (test : ℕ → Bool) (n : ℕ) (start : ℤ) (before list : List Event)
    (current : Event) : Type 0 where
  -- the events of the slots so far, behind what was there
  pub added : list ≡ before ++ in_slots f (where_below n test) start
  -- the current slot is the last of them, or the one at the start
  pub slot : current ≡ slot_event (last_slot (where_below n test) start)

module _ {f : ℕ → List Event} {test : ℕ
    → Bool} {n : ℕ} {start : ℤ} {before list : List Event} {current : Event}
    (w : IsWalked f test n start before list current) where
  -- a slot that does not pass the test adds no event, and the current slot stays
  pub IsWalked-skip : test n ≡ false → IsWalked f test (n + 1) start before list current
  IsWalked-skip h = record {
    added = rw (w.added, ← where_below-skip test n h);
    slot = rw (w.slot, ← where_below-skip test n h);
  }

  -- a slot that passes the test is made the current one where it is not, and adds its events
  pub IsWalked-next : {mid new : List Event} {this : Event} → test n ≡ true → this ≡ slot_event (pos n)
      → mid ≡ list ++ unless_same current this → new ≡ mid ++ f n
      → IsWalked f test (n + 1) start before new this
  IsWalked-next h is to events =
      let slots : List ℕ = where_below n test in
      record {
        added =
            rw (
              events,
              to,
              is,
              append_assoc list (unless_same current (slot_event (pos n))) (f n),
              w.slot,
              w.added,
              append_assoc before (in_slots f slots start)
                  (to_slot (last_slot slots start) (pos n) ++ f n),
              ← in_slots-more f slots n start,
              ← where_below-next test n h,
            );
        slot = rw (is, ← last_slot-more slots n start, ← where_below-next test n h);
      }

-- Any index

-- no number so far passes the test, and the next one does not
pub any-none_more : (test : ℕ → Bool) (first code : ℕ) → first ≤ code
    → list_any test (range_with_len first (code - first)) ≡ false → test code ≡ false
    → list_any test (range_with_len first (code + 1 - first)) ≡ false
any-none_more test first code from h k =
    let n : ℕ = code - first in
    let e : code + 1 - first ≡ n + 1 = omega (arith, from) in
    let f : first + n ≡ code = omega (arith, from) in
    rw (e, range-append, list_any-append, h, f, k)

-- a number of the range passes the test
pub any-there : (test : ℕ → Bool) (first n code : ℕ) → first ≤ code → code < first + n → test code ≡ true
    → list_any test (range_with_len first n) ≡ true
any-there test first n code from h t =
    let k : ℕ = code - first in
    let m : ℕ = n - (k + 1) in
    let e : n ≡ k + suc m = omega (arith, from, h) in
    let f : first + k ≡ code = omega (arith, from) in
    rw (e, range-append, list_any-append, f, t) (or_right (list_any test (range_with_len first k)) true refl)

-- The same numbers, counted from another one on

-- the event of the first number, if it passes the test, before those of the others
event-before : (f g : ℕ → Event) (i j : ℕ) (is js : List ℕ) (b : Bool) → f i ≡ g j → map f is ≡ map g js
    → map f (cond b (i ∷ is) is) ≡ map g (cond b (j ∷ js) js)
event-before f g i j is js true one others = rw (one, others)
event-before f g i j is js false one others = others

-- number by number the tests and the events are the same, so the lists are
pub map-filter_from : (f g : ℕ → Event) (p q : ℕ → Bool) (first start n : ℕ) → ((k : ℕ) → f (first + k) ≡ g k)
    → ((k : ℕ) → p (first + k) ≡ q k)
    → map f (filter p (range_with_len (first + start) n)) ≡ map g (filter q (range_with_len start n))
map-filter_from f g p q first start zero same_event same_test = refl
map-filter_from f g p q first start (suc n) same_event same_test =
    let is : List ℕ = filter p (range_with_len (first + start + 1) n) in
    let js : List ℕ = filter q (range_with_len (start + 1) n) in
    let e : first + start + 1 ≡ first + (start + 1) = omega arith in
    let others : map f is ≡ map g js =
    rw e (map-filter_from f g p q first (start + 1) n same_event same_test) in
    rw same_test (event-before f g (first + start) start is js (q start) (same_event start) others)

-- number by number the tests are the same, so both find one or neither does
pub any-from : (p q : ℕ → Bool) (first start n : ℕ) → ((k : ℕ) → p (first + k) ≡ q k)
    → list_any p (range_with_len (first + start) n) ≡ list_any q (range_with_len start n)
any-from p q first start zero same = refl
any-from p q first start (suc n) same =
    let e : first + start + 1 ≡ first + (start + 1) = omega arith in
    rw (same, e, any-from p q first (start + 1) n same)

-- Events taken over

-- from an index to itself there is no event to take
pub taken-none : (view : View) (list : List Event) (first : ℕ)
    → view ≡ view_after_events view (take (first - first) (drop first list))
unfolding view_after_events
taken-none view list first = let e : first - first ≡ 0 = omega arith in rw e

-- the next event is taken behind those before it
pub taken-more : (start : View) {view new : View} (list : List Event) {first index : ℕ} {event : Event}
    → first ≤ index → index < length list → slice_get list index ≡ Some event
    → view ≡ view_after_events start (take (index - first) (drop first list))
    → new ≡ view_after_event view event
    → new ≡ view_after_events start (take (index + 1 - first) (drop first list))
unfolding view_after_events
taken-more start {view} {new} list {first} {index} {event} h k is taken next =
    let n : ℕ = index - first in
    let e : n + 1 ≡ index + 1 - first = omega (arith, h) in
    let f : first + n ≡ index = omega (arith, h) in
    let within : n < length (drop first list) = simp length-drop (omega (arith, h, k)) in
    let there : get_or (drop first list) n event ≡ event =
    rw (get_or-drop, f) (get_or_from_slice_get list index event event is) in
    rw (
      next,
      taken,
      ← view_after_events-append start (take n (drop first list)) (event ∷ []),
      ← there,
      ← take_more,
      e,
    )

-- Parts of a list

-- each part is put behind those before it, so all four stand behind what was there
pub four-parts : (old : List Event) {one two three four : List Event} (a b c d : List Event) → one ≡ old ++ a
    → two ≡ one ++ b → three ≡ two ++ c → four ≡ three ++ d → four ≡ old ++ (a ++ b ++ c ++ d)
four-parts old a b c d h1 h2 h3 h4 = simp (h4, h3, h2, h1, append_assoc)

-- All of it

abbrev pub report : Event
report = record { kind = EV_SYN; code = SYN_REPORT; value = pos 0 }

-- a report makes the list longer by one, or there is none
pub length-with_report : (list : List Event) → length list ≤ length (with_report list)
length-with_report [] = omega arith
length-with_report (e ∷ es) = omega (arith, length-append (e ∷ es) (report ∷ []))

-- what a report was put behind
report_follows : (list : List Event) → (more : List Event) × (with_report list ≡ list ++ more)
report_follows [] = ([], refl)
report_follows (e ∷ es) = (report ∷ [], refl)

pub record IsFilled (old new old1 old2 : View) (l0 l1 l2 l3 l4 l5 : List Event)
    (ended start first end : ℕ) : Type 0 where
  -- the list is empty at first
  pub none : l0 ≡ []
  -- the ends of contacts come first
  pub lifted : l1 ≡ l0 ++ lifts old new
  -- how many events these are
  pub is_ended : ended ≡ length l1
  -- the report after them, where there are any
  pub reported : l2 ≡ with_report l1
  -- here the second group starts
  pub is_start : start ≡ length l2
  -- it starts with keys, LEDs, switches and axes
  pub classes : l3 ≡ l2 ++ class_changes old new
  -- the old view takes the ends of contacts
  pub applied : old1 ≡ view_after_events old (take (ended - 0) (drop 0 l3))
  -- here the values of slots start
  pub is_first : first ≡ length l3
  -- the values of slots that still differ
  pub cells : l4 ≡ l3 ++ cell_changes old1 new
  -- here they end
  pub is_end : end ≡ length l4
  -- the view takes these values too
  pub applied_again : old2 ≡ view_after_events old1 (take (end - first) (drop first l4))
  -- the current slot comes last, where it differs
  pub slot : l5 ≡ l4 ++ to_slot old2.slot new.slot

-- what was filled in these steps
module _ {old new old1 old2 : View} {l0 l1 l2 l3 l4 l5 : List Event} {ended start first end : ℕ}
    (w : IsFilled old new old1 old2 l0 l1 l2 l3 l4 l5 ended start first end) where
  is_lifted : l1 ≡ lifts old new
  is_lifted = rw (w.lifted, w.none)

  -- the first group alone was taken over
  first_group : old1 ≡ view_after_events old (lifts old new)
  first_group =
      let more = report_follows l1 in
      let whole : l3 ≡ l1 ++ (more.0 ++ class_changes old new) =
      simp (w.classes, w.reported, more.1) (append_assoc l1 more.0 (class_changes old new)) in
      let n : ended - 0 ≡ length l1 = omega (arith, w.is_ended) in
      rw (w.applied, whole, take_at l1 (more.0 ++ class_changes old new) (ended - 0) (sym n), is_lifted)

  -- and then the changes of the slots
  second_group : old2 ≡ view_after_events old1 (cell_changes old1 new)
  second_group =
      let cells : List Event = cell_changes old1 new in
      let rest : drop first l4 ≡ cells = rw w.cells (drop_at l3 cells first (sym w.is_first)) in
      let n : end - first ≡ length cells =
      omega (arith, w.is_end, w.is_first, ap length w.cells, length-append l3 cells) in
      rw (← take_at cells [] (end - first) (sym n), append-nil cells, ← rest, ← w.applied_again)

  -- the views took each group of slot events whole, so the second group is as defined
  pub group_behind : l5 ≡ l2
      ++ (class_changes old new ++ slot_changes (view_after_events old (lifts old new)) new)
  group_behind =
      let classes : List Event = class_changes old new in
      let cells : List Event = cell_changes old1 new in
      let to : List Event = to_slot old2.slot new.slot in
      cc (
        w.slot,
        w.cells,
        append_assoc l3 cells to,
        w.classes,
        append_assoc l2 classes (cells ++ to),
        second_group,
        first_group,
      )

  -- the list was empty, and both groups with their reports are as defined
  pub filled : (l6 : List Event)
      → l6 ≡ l2 ++ with_report
      (class_changes old new ++ slot_changes (view_after_events old (lifts old new)) new) → l6 ≡ synth old new
  unfolding synth
  filled l6 last = simp (last, w.reported, is_lifted)
