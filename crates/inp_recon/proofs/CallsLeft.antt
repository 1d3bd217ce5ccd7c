-- What a step leaves in a client's queue before its frames come: what the client reads, loses or flushes,
-- and what it asks for.
use Rattle.std.proofs.Common.{◌≡◌, ◌⊎◌, ℕ, ℤ, Bool, true, false, if◌then◌else◌, nat_eq, min, List, [], ◌∷◌}
use Rattle.std.proofs.Common.{take, drop, refl, sym, ap, ◌∙◌, Option, Some, None, inl, inr, arith}
use Rattle.std.proofs.lemmas.Bool.{cases_Bool, or_parts}
use Rattle.inp_model.specs.declared.event.TheConstants.{EV_KEY, EV_SW, EV_LED, EV_SND}
use Rattle.inp_model.specs.declared.step.Step.{Step}
use Rattle.inp_model.specs.declared.step.Step.TheVariants.{Open, Read, Discard, GetKeys, GetSwitches, GetLeds}
use Rattle.inp_model.specs.declared.step.Step.TheVariants.{GetSounds, GetAxis, SyncSlots, Clock as ToClock}
use Rattle.inp_model.specs.Description.{Description}
use Rattle.inp_model.specs.Event.{is_report}
use Rattle.inp_model.specs.Step.{Query, Codes, Slots, client_of, is_same, query_of, is_part_of}
use Rattle.inp_model.specs.Past.{is_opening, is_call_of, clock_of}
use Rattle.inp_model.specs.Left.{Eats}
use Rattle.inp_model.specs.Queue.{Entry, event_of, visible, flush, queue_with, flush_for, is_same_clock}
use Rattle.inp_model.specs.Queue.{clock_entry, clock_changed, left_by_call, taken_by_with}
use Rattle.inp_recon.specs.Synchronised.{Part, AllKeys, AllSwitches, AllLeds, OneAxis, AllSlots, asks_for}
use Rattle.inp_recon.specs.Synchronised.{is_dropped, is_start, is_query_of}
use Rattle.inp_recon.proofs.Each.{and-left}
use Rattle.inp_recon.proofs.EventKinds.{of_losses}
use Rattle.inp_recon.proofs.QueuedValues.{KeepsLosses}

-- what a step takes from a client's queue, and what it leaves there
pub data LeftBy (x : Step) (client : ℕ) (q taken left : List Entry) : Type 0 where
  ByRead : (n : ℕ) → taken ≡ take n q → left ≡ drop n q → LeftBy x client q taken left
  ByLoss : (e : Entry) → is_dropped (event_of e) ≡ true → e.frame ≡ None → taken ≡ [] → left ≡ e ∷ []
      → LeftBy x client q taken left
  ByFlush : (query : Query) → query_of x ≡ Some query → is_same (client_of x) client ≡ true
      → (is_query_of client x ≡ true) ⊎ (query ≡ Codes EV_SND) → KeepsLosses (is_part_of query) → taken ≡ []
      → left ≡ flush event_of (is_part_of query) q → LeftBy x client q taken left
  ByNone : taken ≡ [] → left ≡ q → LeftBy x client q taken left

keeps : (query : Query)
    → ((value : ℤ) → is_part_of query (record { kind = 0; code = 3; value = value }) ≡ false)
    → KeepsLosses (is_part_of query)
keeps query k =
    of_losses (λ e. (is_report e ≡ false) × (is_part_of query e ≡ false)) (λ value. (refl, k value))

by_clock : (x : Step) (client : ℕ) (q taken : List Entry) (same : Bool) (e : Entry)
    → is_dropped (event_of e) ≡ true → e.frame ≡ None → taken ≡ []
    → LeftBy x client q taken (clock_changed same e q)
by_clock x client [] taken same e loss frame none = ByNone none refl
by_clock x client (y ∷ q) taken true e loss frame none = ByNone none refl
by_clock x client (y ∷ q) taken false e loss frame none = ByLoss e loss frame none refl

module _ (eats : Eats) (d : Description) (past : List Step) (client : ℕ) where
  abbrev queue : List Entry
  queue = queue_with eats d past client

  -- the client's own step
  own_left : (x : Step) → is_same (client_of x) client ≡ true → is_start past client x ≡ false
      → LeftBy x client queue (taken_by_with eats d past client x) (left_by_call d past x queue)
  own_left (Read reader count) own start = ByRead (min count (visible event_of queue)) (rw own) refl
  own_left (ToClock reader clock now) own start =
      by_clock (ToClock reader clock now) client queue [] (is_same_clock (clock_of past reader) clock)
      (clock_entry d past clock now) refl refl refl
  own_left Open own start = absurd cc
  own_left (Discard reader) own start = absurd cc
  own_left (GetKeys reader) own start =
      ByFlush (Codes EV_KEY) refl own (inl own) (keeps (Codes EV_KEY) (λ value. refl)) refl refl
  own_left (GetSwitches reader) own start =
      ByFlush (Codes EV_SW) refl own (inl own) (keeps (Codes EV_SW) (λ value. refl)) refl refl
  own_left (GetLeds reader) own start =
      ByFlush (Codes EV_LED) refl own (inl own) (keeps (Codes EV_LED) (λ value. refl)) refl refl
  own_left (GetSounds reader) own start =
      ByFlush (Codes EV_SND) refl own (inr refl) (keeps (Codes EV_SND) (λ value. refl)) refl refl
  own_left (SyncSlots reader) own start =
      ByFlush Slots refl own (inl own) (keeps Slots (λ value. refl)) refl refl
  own_left x own start = ByNone refl refl

  -- another's step takes nothing
  pub not_taken : (x : Step) → is_same (client_of x) client ≡ false → taken_by_with eats d past client x ≡ []
  not_taken (Read reader count) other = rw other
  not_taken x other = refl

  -- what a step leaves, whoever makes it
  abbrev pub left_in_queue : Step → List Entry
  left_in_queue x = if is_call_of past client x then left_by_call d past x queue else queue

  pub left_by : (x : Step) → is_start past client x ≡ false
      → LeftBy x client queue (taken_by_with eats d past client x) (left_in_queue x)
  left_by x start =
      let opening : is_opening past client x ≡ false = (or_parts _ _ start).0 in
      elim (cases_Bool (is_same (client_of x) client)) [
        | inl e ↦ rw (opening, e) (own_left x e start)
        | inr e ↦ ByNone (not_taken x e) (rw (opening, e))
      ]

-- ---- what a client asks for

-- the query that asks for a part, where it flushes what it tells
abbrev pub query_for : Part → Option Query
query_for AllKeys = Some (Codes EV_KEY)
query_for AllSwitches = Some (Codes EV_SW)
query_for AllLeds = Some (Codes EV_LED)
query_for (OneAxis code) = None
query_for AllSlots = Some Slots

-- a step that asks for the part is the client's own query, and flushes what it tells
pub record Asks (part : Part) (client : ℕ) (x : Step) : Type 0 where
  pub own : is_same (client_of x) client ≡ true
  pub queries : is_query_of client x ≡ true
  pub flushes : (eats : Eats) (d : Description) (past : List Step)
      → left_in_queue eats d past client x
      ≡ flush_for event_of (query_for part) (queue_with eats d past client)

pub part-asked : (part : Part) (client : ℕ) (x : Step) → asks_for part client x ≡ true → Asks part client x
part-asked AllKeys client (GetKeys named) h = record { own = h; queries = h; flushes = λ eats d past. rw h }
part-asked AllSwitches client (GetSwitches named) h =
    record { own = h; queries = h; flushes = λ eats d past. rw h }
part-asked AllLeds client (GetLeds named) h = record { own = h; queries = h; flushes = λ eats d past. rw h }
part-asked (OneAxis code) client (GetAxis named asked) h =
    let own : nat_eq named client ≡ true = and-left _ _ h in
    record { own = own; queries = own; flushes = λ eats d past. rw own }
part-asked AllSlots client (SyncSlots named) h =
    record { own = h; queries = h; flushes = λ eats d past. rw h }
part-asked part client _ h = absurd cc

-- the type that a query tells
unfoldable pub kind_asked : Option Query → ℕ
kind_asked None = 100
kind_asked (Some Slots) = 101
kind_asked (Some (Codes kind)) = kind

-- no other step of the client makes that query
pub asked-only : (part : Part) (client : ℕ) (x : Step) (query : Query) → query_for part ≡ Some query
    → asks_for part client x ≡ false → is_same (client_of x) client ≡ true → query_of x ≡ Some query → ⊥
unfolding kind_asked
asked-only AllKeys client (GetKeys named) query q other own e = cc
asked-only AllSwitches client (GetSwitches named) query q other own e = cc
asked-only AllLeds client (GetLeds named) query q other own e = cc
asked-only AllSlots client (SyncSlots named) query q other own e = cc
asked-only (OneAxis code) client x query q other own e = cc
asked-only part client x query q other own e = omega (arith, ap kind_asked (e ∙ sym q))
