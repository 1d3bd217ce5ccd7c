-- The talks of a reader, walked once: what has to be shown of `start`, of `next`, and of steps asked for in
-- order, for `Meets` of the whole.
use Rattle.std.proofs.Common.{◌≡◌, ◌≤◌, ◌<◌, ℕ, zero, suc, ◌+◌, nat_lt, nat_le, Bool, true, false, List, []}
use Rattle.std.proofs.Common.{◌∷◌, ◌++◌, refl, sym, arith}
use Rattle.std.specs.Prelude.{Result, Ok, Err}
use Rattle.std.specs.List.{range_with_len, filter}
use Rattle.std.proofs.lemmas.Bool.{and_left, and_right, lt-leb, cond_both, true≢false}
use Rattle.inp_model.specs.declared.event.Event.{Event}
use Rattle.inp_model.specs.declared.event.TheConstants.{EV_KEY, EV_ABS, EV_SW, EV_LED}
use Rattle.inp_model.specs.declared.taken.Taken.{Taken}
use Rattle.inp_model.specs.declared.step.Step.{Step}
use Rattle.inp_model.specs.declared.step.Step.TheVariants.{Open, Read, Discard, GetKeys, GetSwitches, GetLeds}
use Rattle.inp_model.specs.declared.step.Step.TheVariants.{GetAxis, SyncSlots}
use Rattle.inp_model.specs.declared.reply.Reply.{Reply}
use Rattle.inp_model.specs.declared.reply.Reply.TheVariants.{Opened, Again as NothingVisible}
use Rattle.inp_model.specs.declared.reply.Reply.TheVariants.{Refused as StepRefused}
use Rattle.inp_model.specs.declared.reply.Refusal.TheVariants.{NoDevice as Revoked, LogFull}
use Rattle.inp_model.specs.declared.multi_touch.TheConstants.{ABS_MT_SLOT, ABS_MT_TOOL_Y}
use Rattle.inp_model.specs.Description.{Description, has_kind, supports, is_multi_touch_code}
use Rattle.inp_model.specs.Reply.{Answer, is_accepted}
use Rattle.inp_recon.specs.declared.view.View.{View}
use Rattle.inp_recon.specs.View.{view_after_event, view_after_answer}
use Rattle.inp_recon.specs.Synchronised.{is_dropped, has_axis}
use Rattle.inp_recon.proofs.Each.{Each, Each-append, Each-map, Each-weaker}
use Rattle.inp_model.specs.Evdev.{EvdevView}
use Rattle.inp_model.specs.Run.{Call}
use Rattle.inp_reader.specs.declared.call_made.CallMade.{CallMade}
use Rattle.inp_reader.specs.declared.mode.Mode.{Mode}
use Rattle.inp_reader.specs.declared.mode.Mode.TheVariants.{Normal, Sync as Synchronising}
use Rattle.inp_reader.specs.declared.phase.Phase.{Phase}
use Rattle.inp_reader.specs.declared.phase.Phase.TheVariants.{Plain, Needed, Handing}
use Rattle.inp_reader.specs.declared.next.Next.{Next}
use Rattle.inp_reader.specs.declared.next.Next.TheVariants.{Success, Dropped, Sync, Synced, Again, NoDevice}
use Rattle.inp_reader.specs.declared.next.Next.TheVariants.{Closed, Full}
use Rattle.inp_reader.specs.declared.started.Started.{Started}
use Rattle.inp_reader.specs.Reader.{ReaderState, only_if, axes_among, plain_axes, bit_queries, axis_queries}
use Rattle.inp_reader.specs.Reader.{slot_queries, queries, ask_each, start_stop_of, after_queries, after_open}
use Rattle.inp_reader.specs.Reader.{start_talk, stop_of, hand_out_event, hand_out, after_read}
use Rattle.inp_reader.specs.Reader.{read_or_hand_out, read_talk, hand_synthesised, handing, as_plain}
use Rattle.inp_reader.specs.Reader.{after_full_sync, after_failed_sync, talk_after_sync, sync_talk, talk_in}
use Rattle.inp_reader.specs.Reader.{next_talk}
use Rattle.inp_reader.specs.ReaderPlace.{is_needed}
use Rattle.inp_reader.specs.FollowsTalk.{FollowsTalk}
use Rattle.inp_reader.specs.Talk.{finish, EndsWith}
use Rattle.inp_reader.proofs.Meets.{Meets, Any, AnyAnswer, AnyEnd, OfEach, meets-then, meets-if, Asks}
use Rattle.inp_reader.proofs.Meets.{meets-asks, Runs, meets-ends, IsCallOn, says-meets}

-- ---- queries

-- each query of a reader has this property
pub record OfQueries (d : Description) (client : ℕ) (P : Step → Type 0) : Type 0 where
  -- the query of all keys, where the device has their type
  pub keys : has_kind d EV_KEY ≡ true → P (GetKeys client)
  -- the query of all LEDs, where the device has their type
  pub leds : has_kind d EV_LED ≡ true → P (GetLeds client)
  -- the query of all switches, where the device has their type
  pub switches : has_kind d EV_SW ≡ true → P (GetSwitches client)
  -- the query of each axis that the device has with a value of its own
  pub axes : (code : ℕ) → has_axis d code ≡ true → P (GetAxis client code)
  -- the query of all slots, where the device has any
  pub slots : nat_lt 0 d.slots ≡ true → P (SyncSlots client)

-- the axes that a reader asks for are the device's own

own-range : (d : Description) (first count : ℕ)
    → ((code : ℕ) → first ≤ code → code < first + count → is_multi_touch_code code ≡ false)
    → Each (λ (code : ℕ). has_axis d code ≡ true) (filter (supports d EV_ABS) (range_with_len first count))
own-range d first zero own = tt
own-range d first (suc count) own =
    (cond_both (supports d EV_ABS first) _ _ (λ x. Each P rest → Each P x)
    (λ is others. (rw (is, own first (omega arith) (omega arith)), others))
    (λ is others. others))
    (own-range d (first + 1) count (λ code from below. own code (omega (arith, from)) (omega (arith, below))))
  where
    P : ℕ → Type 0
    P code = has_axis d code ≡ true

    rest : List ℕ
    rest = filter (supports d EV_ABS) (range_with_len (first + 1) count)

own-axes : (d : Description) → Each (λ (code : ℕ). has_axis d code ≡ true) (plain_axes d)
unfolding axes_among
own-axes d =
    Each-append (λ (code : ℕ). has_axis d code ≡ true) (filter (supports d EV_ABS) (range_with_len 0 47))
    (filter (supports d EV_ABS) (range_with_len 62 2))
    (own-range d 0 47 (λ code from below.
    and_left (nat_le ABS_MT_SLOT code) (nat_le code ABS_MT_TOOL_Y) (lt-leb 47 code (omega (arith, below)))))
    (own-range d 62 2 (λ code from below.
    and_right (nat_le ABS_MT_SLOT code) (nat_le code ABS_MT_TOOL_Y) (lt-leb code 61 (omega (arith, from)))))

each-if : (P : Step → Type 0) (wanted : Bool) (x : Step) → (wanted ≡ true → P x) → Each P (only_if wanted x)
each-if P true x h = (h refl, tt)
each-if P false x h = tt

-- the queries are these parts in order, and the axes among them are the device's own
pub each-query : (d : Description) (client : ℕ) (P : Step → Type 0) → OfQueries d client P
    → Each P (queries d client)
unfolding queries
each-query d client P h =
    let keys : List Step = only_if (has_kind d EV_KEY) (GetKeys client) in
    let leds : List Step = only_if (has_kind d EV_LED) (GetLeds client) in
    let switches : List Step = only_if (has_kind d EV_SW) (GetSwitches client) in
    let axes : List Step = axis_queries client (plain_axes d) in
    Each-append P (bit_queries d client ++ axes) (slot_queries d client)
    (Each-append P (bit_queries d client) axes
    (Each-append P (keys ++ leds) switches
    (Each-append P keys leds (each-if P (has_kind d EV_KEY) (GetKeys client) h.keys)
    (each-if P (has_kind d EV_LED) (GetLeds client) h.leds))
    (each-if P (has_kind d EV_SW) (GetSwitches client) h.switches))
    (Each-map P (GetAxis client) (plain_axes d)
    (Each-weaker (λ (code : ℕ). has_axis d code ≡ true) (λ (code : ℕ). P (GetAxis client code)) h.axes
    (plain_axes d) (own-axes d))))
    (each-if P (nat_lt 0 d.slots) (SyncSlots client) h.slots)

-- the steps of a synchronisation, of which the first removes what is visible
abbrev pub sync_steps : Description → ℕ → List Step
sync_steps d client = Discard client ∷ queries d client

-- the Discard comes first, and then the queries
pub each-sync : (d : Description) (client : ℕ) (P : Step → Type 0) → P (Discard client) → OfQueries d client P
    → Each P (sync_steps d client)
each-sync d client P discard h = (discard, each-query d client P h)

-- ---- steps asked for in order

abbrev pub Queried : {S : Type 0} → (S → Started × ReaderState → Type 0) → ℕ → ℕ → ReaderState → S
    → Result View Reply → Type 0
Queried Q client ring r s asked = Q s (after_queries client ring r asked)

-- what a synchronisation has to leave
abbrev pub Renewed : {S : Type 0} → (S → ReaderState → Type 0) → (S → Next × ReaderState → Type 0)
    → ReaderState → S → Result View Reply → Type 0
Renewed I Q r s (Ok view) = I s (after_full_sync r view)
Renewed I Q r s (Err reply) = Q s (stop_of reply, after_failed_sync r)

-- In Sync mode, where a synchronisation is needed: what that has to leave, of which the first event is handed
-- out.
abbrev pub Handed : {S : Type 0} → (S → Next × ReaderState → Type 0) → ReaderState → S → Result View Reply
    → Type 0
Handed Q r s (Ok view) = Q s (handing (after_full_sync r view))
Handed Q r s (Err reply) = Q s (stop_of reply, after_failed_sync r)

module _ {S : Type 0} (P : S → Step → Type 0) (R : S → Step → Answer → S → Type 0) where
  -- What is known before each step that is still to be asked for, by the view so far, stays so; and it shows
  -- Q of each end.
  pub record AskRules (J : S → View → List Step → Type 0) (Q : S → Result View Reply → Type 0) : Type 0 where
    -- the next step may be asked for
    pub asks : (s : S) (view : View) (x : Step) (xs : List Step) → J s view (x ∷ xs) → P s x
    -- an accepted answer sets the view, and what is known is so of the steps that are left
    pub told : (s t : S) (view : View) (x : Step) (xs : List Step) (a : Answer) → J s view (x ∷ xs)
        → R s x a t → is_accepted a.reply ≡ true → J t (view_after_answer view x a.reply a.cells) xs
    -- a step that is not accepted ends the talk with its reply
    pub stopped : (s t : S) (view : View) (x : Step) (xs : List Step) (a : Answer) → J s view (x ∷ xs)
        → R s x a t → is_accepted a.reply ≡ false → Q t (Err a.reply)
    -- where no step is left, the talk ends with the view so far
    pub whole : (s : S) (view : View) → J s view [] → Q s (Ok view)

  -- after each accepted answer one step less is left, and any other answer ends the talk
  pub asked-meets : (J : S → View → List Step → Type 0) (Q : S → Result View Reply → Type 0)
      → AskRules J Q → (s : S) (xs : List Step) (view : View) → J s view xs → Meets P R Q s (ask_each xs view)
  unfolding ask_each
  asked-meets J Q rules s [] view j = rules.whole s view j
  asked-meets J Q rules s (x ∷ xs) view j = (
    rules.asks s view x xs j,
    λ t a allowed.
        let next : View = view_after_answer view x a.reply a.cells in
        meets-if P R Q t (is_accepted a.reply) (ask_each xs next) (finish (Err a.reply))
        (λ is. asked-meets J Q rules t xs next (rules.told s t view x xs a j allowed is))
        (λ is. rules.stopped s t view x xs a j allowed is),
  )

  -- a synchronisation's
  pub sync-meets : (J : S → View → List Step → Type 0) (Q : S → Result View Reply → Type 0) (d : Description)
      (s : S) (r : ReaderState)
      → AskRules J Q → J s r.view (sync_steps d r.client) → Meets P R Q s (sync_talk d r)
  unfolding sync_talk
  sync-meets J Q d s r rules j = asked-meets J Q rules s (sync_steps d r.client) r.view j

  -- the same by its two parts, of a step that sets nothing in the view and of the queries
  pub record SyncRules (Q : S → Result View Reply → Type 0) (d : Description) (r : ReaderState)
      (s : S) : Type 0 where
    -- the Discard may be asked for
    pub asks_discard : P s (Discard r.client)
    -- where it is accepted, the queries come next, with the view as it was
    pub discarded : (t : S) (a : Answer) → R s (Discard r.client) a t → is_accepted a.reply ≡ true
        → Meets P R Q t (ask_each (queries d r.client) r.view)
    -- where it is not, the talk ends with its reply
    pub refused : (t : S) (a : Answer) → R s (Discard r.client) a t → is_accepted a.reply ≡ false
        → Q t (Err a.reply)

  -- the reply to a Discard sets nothing in the view, so the queries start with the reader's view
  pub sync-by_parts : (Q : S → Result View Reply → Type 0) (d : Description) (r : ReaderState) (s : S)
      → SyncRules Q d r s → Meets P R Q s (sync_talk d r)
  unfolding sync_talk ask_each view_after_answer
  sync-by_parts Q d r s rules = (
    rules.asks_discard,
    λ t a allowed.
        meets-if P R Q t (is_accepted a.reply)
        (ask_each (queries d r.client) (view_after_answer r.view (Discard r.client) a.reply a.cells))
        (finish (Err a.reply))
        (λ is. rules.discarded t a allowed is)
        (λ is. rules.refused t a allowed is),
  )

  -- ---- a start

  pub record StartRules (Q : S → Started × ReaderState → Type 0) (d : Description) (r : ReaderState)
      (s : S) : Type 0 where
    -- the Open may be asked for
    pub asks_open : P s Open
    -- where it opens a client, the queries come next, as that client
    pub opened : (t : S) (a : Answer) (at client ring : ℕ) → R s Open a t → a.reply ≡ Opened at client ring
        → Meets P R (Queried Q client ring r) t (ask_each (queries d client) r.view)
    -- any other reply ends the start, and the reader stays as it was
    pub refused : (t : S) (a : Answer) → R s Open a t
        → ((at client ring : ℕ) → a.reply ≡ Opened at client ring → ⊥) → Q t (start_stop_of a.reply, r)

  -- by the reply to the Open: the queries follow, or the start ends there
  pub start-meets : (Q : S → Started × ReaderState → Type 0) (d : Description) (r : ReaderState) (s : S)
      → StartRules Q d r s → Meets P R Q s (start_talk d r)
  unfolding start_talk
  start-meets Q d r s rules = (
    rules.asks_open,
    λ t a allowed.
        by t a.reply (λ at client ring is. rules.opened t a at client ring allowed is)
        (λ other. rules.refused t a allowed other),
  )
    where
      by : (t : S) (reply : Reply)
          → ((at client ring : ℕ) → reply ≡ Opened at client ring
          → Meets P R (Queried Q client ring r) t (ask_each (queries d client) r.view))
          → (((at client ring : ℕ) → reply ≡ Opened at client ring → ⊥) → Q t (start_stop_of reply, r))
          → Meets P R Q t (after_open d r reply)
      by t (Opened at client ring) opened refused =
          meets-then P R (Queried Q client ring r) Q t (ask_each (queries d client) r.view)
          (λ asked. finish (after_queries client ring r asked)) (opened at client ring refl) (λ u asked h. h)
      by t reply opened refused = refused (λ at client ring is. cc)

  -- ---- `next`

  -- What is known of the reader, I, stays so on each way through `next`, and shows Q of each end.
  pub record NextRules (I : S → ReaderState → Type 0) (Q : S → Next × ReaderState → Type 0) (d : Description)
      (mode : Mode) : Type 0 where
    -- a read, where the queue is empty
    pub asks_read : (s : S) (r : ReaderState) → I s r → P s (Read r.client 64)
    -- a read that was accepted: what it took is the queue
    pub reads : (s t : S) (r : ReaderState) (a : Answer) → I s r → r.phase ≡ Plain → r.queue ≡ []
        → R s (Read r.client 64) a t → is_accepted a.reply ≡ true → I t (record r { queue = a.events })
    -- a read that was not accepted: its reply says how `next` ends
    pub stops : (s t : S) (r : ReaderState) (a : Answer) → I s r → r.phase ≡ Plain → r.queue ≡ []
        → R s (Read r.client 64) a t → is_accepted a.reply ≡ false → Q t (stop_of a.reply, r)
    -- the first event of the queue
    pub hands : (s : S) (r : ReaderState) (taken : Taken) (rest : List Taken) → I s r → r.phase ≡ Plain
        → r.queue ≡ taken ∷ rest → is_dropped taken.event ≡ false
        → Q s (Success taken, record r { queue = rest; view = view_after_event r.view taken.event })
    -- the same of a SYN_DROPPED: the next call is to synchronise
    pub loses : (s : S) (r : ReaderState) (taken : Taken) (rest : List Taken) → I s r → r.phase ≡ Plain
        → r.queue ≡ taken ∷ rest → is_dropped taken.event ≡ true
        → Q s (
          Dropped taken,
          record r { queue = rest; view = view_after_event r.view taken.event; phase = Needed },
        )
    -- an accepted read that took nothing, which never comes, would end with Closed
    pub empty : (s : S) (r : ReaderState) → I s r → r.phase ≡ Plain → r.queue ≡ [] → Q s (Closed, r)
    -- synchronised already
    pub idles : (s : S) (r : ReaderState) → I s r → r.phase ≡ Plain → mode ≡ Synchronising → Q s (Synced, r)
    -- a synchronisation
    pub syncs : (s : S) (r : ReaderState) → I s r → r.phase ≡ Needed
        → Meets P R (Renewed I Q r) s (sync_talk d r)
    -- the next event that it made, if there is one, or on without them
    pub makes : (s : S) (r : ReaderState) (event : Event) (left : List Event) → I s r → r.phase ≡ Handing
        → mode ≡ Synchronising → r.left ≡ event ∷ left → Q s (Sync event, record r { left = left })
    -- where none is left, the answer is Synced, and the phase is Plain
    pub made_all : (s : S) (r : ReaderState) → I s r → r.phase ≡ Handing → mode ≡ Synchronising → r.left ≡ []
        → Q s (Synced, as_plain r)
    -- a call in Normal mode drops those that are left, and reads on
    pub goes_on : (s : S) (r : ReaderState) → I s r → r.phase ≡ Handing → mode ≡ Normal → I s (as_plain r)

  -- by phase and mode, each way through `next` is made of the rules in order
  pub next-meets : (I : S → ReaderState → Type 0) (Q : S → Next × ReaderState → Type 0)
      (d : Description) (mode : Mode)
      → NextRules I Q d mode → (s : S) (r : ReaderState) → I s r → Meets P R Q s (next_talk d mode r)
  unfolding read_talk
  next-meets I Q d mode rules s r i = in_phase mode refl s r r.phase refl i
    where
      event : (t : S) (r : ReaderState) (taken : Taken) (rest : List Taken) → I t r → r.phase ≡ Plain
          → r.queue ≡ taken ∷ rest → Q t (hand_out_event r taken rest)
      event t r taken rest i plain is =
          cond_both (is_dropped taken.event) _ _ (λ (o : Next × ReaderState). Q t o)
          (λ e. rules.loses t r taken rest i plain is e) (λ e. rules.hands t r taken rest i plain is e)

      queue : (t : S) (r : ReaderState) (q : List Taken) → I t (record r { queue = q }) → r.phase ≡ Plain
          → Q t (hand_out r q)
      queue t r [] i plain = rules.empty t (record r { queue = [] }) i plain refl
      queue t r (taken ∷ rest) i plain = event t (record r { queue = taken ∷ rest }) taken rest i plain refl

      after : (t u : S) (r : ReaderState) (a : Answer) → I t r → r.phase ≡ Plain → r.queue ≡ []
          → R t (Read r.client 64) a u → Q u (after_read r a)
      after t u r a i plain is allowed =
          cond_both (is_accepted a.reply) _ _ (λ (o : Next × ReaderState). Q u o)
          (λ e. queue u r a.events (rules.reads t u r a i plain is allowed e) plain)
          (λ e. rules.stops t u r a i plain is allowed e)

      read : (t : S) (r : ReaderState) (q : List Taken) → r.queue ≡ q → I t r → r.phase ≡ Plain
          → Meets P R Q t (read_or_hand_out r q)
      read t r [] is i plain = (rules.asks_read t r i, λ u a allowed. after t u r a i plain is allowed)
      read t r (taken ∷ rest) is i plain = event t r taken rest i plain is

      synthesised : mode ≡ Synchronising → (t : S) (r : ReaderState) (left : List Event) → r.left ≡ left
          → I t r
          → r.phase ≡ Handing → Q t (hand_synthesised r left)
      synthesised e t r [] is i p = rules.made_all t r i p e is
      synthesised e t r (event ∷ left) is i p = rules.makes t r event left i p e is

      going : (m : Mode) → mode ≡ m → (t : S) (r : ReaderState) → I t r → r.phase ≡ Handing
          → Meets P R Q t (talk_in d m Handing r)
      going Normal e t r i p = read t (as_plain r) r.queue refl (rules.goes_on t r i p e) refl
      going Synchronising e t r i p = synthesised e t r r.left refl i p

      renewed : (m : Mode) → mode ≡ m → (t : S) (r : ReaderState) (asked : Result View Reply)
          → Renewed I Q r t asked → Meets P R Q t (talk_after_sync m r asked)
      renewed m e t r (Err reply) h = h
      renewed Normal e t r (Ok view) h = going Normal e t (after_full_sync r view) h refl
      renewed Synchronising e t r (Ok view) h = going Synchronising e t (after_full_sync r view) h refl

      in_phase : (m : Mode) → mode ≡ m → (t : S) (r : ReaderState) (phase : Phase) → r.phase ≡ phase → I t r
          → Meets P R Q t (talk_in d m phase r)
      in_phase Normal e t r Plain p i = read t r r.queue refl i p
      in_phase Synchronising e t r Plain p i = rules.idles t r i p e
      in_phase m e t r Needed p i =
          meets-then P R (Renewed I Q r) Q t (sync_talk d r) (talk_after_sync m r) (rules.syncs t r i p)
          (λ u asked h. renewed m e u r asked h)
      in_phase m e t r Handing p i = going m e t r i p

  -- a Sync call in phase Needed synchronises, and then hands out the first event that it made
  pub needed-meets : (Q : S → Next × ReaderState → Type 0) (d : Description) (s : S) (r : ReaderState)
      → is_needed r.phase ≡ true → Meets P R (Handed Q r) s (sync_talk d r)
      → Meets P R Q s (next_talk d Synchronising r)
  needed-meets Q d s r needed h = by r.phase needed
    where
      after : (t : S) (asked : Result View Reply) → Handed Q r t asked
          → Meets P R Q t (talk_after_sync Synchronising r asked)
      after t (Ok view) k = k
      after t (Err reply) k = k

      by : (phase : Phase) → is_needed phase ≡ true → Meets P R Q s (talk_in d Synchronising phase r)
      by Plain e = absurd (true≢false (sym e))
      by Needed e =
          meets-then P R (Handed Q r) Q s (sync_talk d r) (talk_after_sync Synchronising r) h
          (λ t asked k. after t asked k)
      by Handing e = absurd (true≢false (sym e))

  -- the same of calls that were made
  pub next-ends : (I : S → ReaderState → Type 0) (Q : S → Next × ReaderState → Type 0) (d : Description)
      (mode : Mode) → NextRules I Q d mode
      → (s t : S) (r : ReaderState) (calls : List Call) (o : Next × ReaderState) → I s r → Runs R s calls t
      → EndsWith (next_talk d mode r) calls o → Q t o
  next-ends I Q d mode rules s t r calls o i run ends =
      meets-ends P R Q s t (next_talk d mode r) calls o (next-meets I Q d mode rules s r i) run ends

-- the calls that a reader made are one way through `next`, which ends where they end
pub next-says : (I : EvdevView → ReaderState → Type 0) (Q : EvdevView → Next × ReaderState → Type 0)
    (d : Description) (mode : Mode) → NextRules Any IsCallOn I Q d mode
    → (before after : EvdevView) (old new : List CallMade) (r : ReaderState) (o : Next × ReaderState)
    → I before r → FollowsTalk before after old new (next_talk d mode r) o → Q after o
next-says I Q d mode rules before after old new r o i says =
    says-meets Any Q before after old new (next_talk d mode r) o
    (next-meets Any IsCallOn I Q d mode rules before r i) says

-- how `next` ends on a step that was not accepted: what has to be shown, by the reply
pub stop-cases : (P : Next → Type 0) (reply : Reply)
    → ((at ends : ℕ) → reply ≡ NothingVisible at ends → P (Again at ends)) → P NoDevice → P Closed
    → ((at : ℕ) → P (Full at)) → P (stop_of reply)
stop-cases P (NothingVisible at ends) again revoked closed full = again at ends refl
stop-cases P (StepRefused at Revoked) again revoked closed full = revoked
stop-cases P (StepRefused at LogFull) again revoked closed full = full at
stop-cases P (StepRefused at _) again revoked closed full = closed
stop-cases P _ again revoked closed full = closed

-- ---- the steps alone

-- an accepted answer leads to the steps that are left, and any other to the end
pub asks-each : (P : Step → Type 0) (xs : List Step) (view : View) → Each P xs → Asks P (ask_each xs view)
unfolding ask_each
asks-each P [] view h = tt
asks-each P (x ∷ xs) view h = (
  h.0,
  λ a.
      let next : View = view_after_answer view x a.reply a.cells in
      cond_both (is_accepted a.reply) (ask_each xs next) (finish (Err a.reply)) (Asks P)
      (λ _. asks-each P xs next h.1) (λ _. tt),
)

-- each step of `next` has this property
pub record OfNext (d : Description) (client : ℕ) (P : Step → Type 0) : Type 0 where
  -- the read, of up to 64 events
  pub read : P (Read client 64)
  -- the Discard of a synchronisation
  pub discard : P (Discard client)
  -- the queries of a synchronisation
  pub queries : OfQueries d client P

-- a reader of this client
abbrev IsOfClient : ℕ → Unit {0} → ReaderState → Type 0
IsOfClient client s r = client ≡ r.client

next-asks-rules : (d : Description) (client : ℕ) (mode : Mode) (P : Step → Type 0) → OfNext d client P
    → NextRules (OfEach P) AnyAnswer (IsOfClient client) AnyEnd d mode
next-asks-rules d client mode P of = record {
  asks_read = λ s r h. rw h at of.read;
  reads = λ s t r a h plain none any is. h;
  stops = λ s t r a h plain none any is. tt;
  hands = λ s r taken rest h plain q is. tt;
  loses = λ s r taken rest h plain q is. tt;
  empty = λ s r h plain q. tt;
  idles = λ s r h plain is. tt;
  syncs = λ s r h needed.
      sync-meets (OfEach P) AnyAnswer (λ (u : Unit {0}) (view : View) (left : List Step). Each P left)
      (Renewed (IsOfClient client) AnyEnd r) d s r
      (record {
        asks = λ u view x xs j. j.0;
        told = λ u t view x xs a j any is. j.1;
        stopped =
            λ u t view x xs a j any is. tt;
        whole = λ u view j. h;
      })
      (rw h at (each-sync d client P of.discard of.queries));
  makes = λ s r event left h handing sync is. tt;
  made_all = λ s r h handing sync is. tt;
  goes_on = λ s r h handing is. h;
}

-- a reader stays with its client, and `next` asks for a read, a Discard and queries alone
pub next-asks : (P : Step → Type 0) (d : Description) (mode : Mode) (r : ReaderState) → OfNext d r.client P
    → Asks P (next_talk d mode r)
next-asks P d mode r of =
    meets-asks P (next_talk d mode r)
    (next-meets (OfEach P) AnyAnswer (IsOfClient r.client) AnyEnd d mode
    (next-asks-rules d r.client mode P of) tt r refl)

-- ---- the rows that the code follows

-- in phase Plain a Sync call asks for nothing
pub plain-synced : (d : Description) (mode : Mode) (r : ReaderState) → r.phase ≡ Plain → mode ≡ Synchronising
    → next_talk d mode r ≡ finish (Synced, r)
plain-synced d mode r plain is = rw (plain, is)

-- in phase Handing it hands out the next synthesised event
pub handing-made : (d : Description) (mode : Mode) (r : ReaderState) → mode ≡ Synchronising
    → talk_in d mode Handing r ≡ finish (handing r)
handing-made d mode r is = rw is

-- behind a synchronisation a call goes on as in phase Handing
pub synced-handing : (d : Description) (mode : Mode) (r s : ReaderState) (view : View)
    → s ≡ after_full_sync r view → talk_in d mode Handing s ≡ talk_after_sync mode r (Ok view)
synced-handing d mode r s view same = rw same (by mode)
  where
    by : (m : Mode) → talk_in d m Handing (after_full_sync r view) ≡ talk_after_sync m r (Ok view)
    by Normal = refl
    by Synchronising = refl

-- in phase Plain a `next` hands out the first event of the queue, and makes no call
pub next-queued : (d : Description) (r : ReaderState) (t : Taken) (q : List Taken) → r.phase ≡ Plain
    → r.queue ≡ t ∷ q → next_talk d Normal r ≡ finish (hand_out_event r t q)
unfolding read_talk
next-queued d r t q plain queue = rw (plain, queue)
