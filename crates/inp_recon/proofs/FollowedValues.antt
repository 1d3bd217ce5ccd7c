-- One value of a view follows the device: by one induction over the past, for any value that events and
-- answers change.
use Rattle.std.proofs.Common.{◌≡◌, ◌<◌, ◌≤◌, ℕ, suc, zero, true, false, List, [], ◌∷◌, ◌++◌, length, map}
use Rattle.std.proofs.Common.{take, drop, refl, sym, ◌∙◌, Some, inl, inr, arith, append_assoc}
use Rattle.std.proofs.lemmas.Bool.{cases_Bool, eqb-true, not-true}
use Rattle.inp_model.specs.declared.event.TheConstants.{EV_SND}
use Rattle.inp_model.specs.declared.event.Event.{Event}
use Rattle.inp_model.specs.declared.step.Step.{Step}
use Rattle.inp_model.specs.RawItem.{RawItem, Cut, Frame}
use Rattle.inp_model.specs.Description.{Description}
use Rattle.inp_model.specs.Step.{Query, Codes, client_of, is_same, query_of, is_part_of, is_description}
use Rattle.inp_model.specs.Cut.{cuts}
use Rattle.inp_model.specs.Raw.{raw, raw_of_step}
use Rattle.inp_model.specs.Frame.{place, frame_of}
use Rattle.inp_model.specs.Left.{Eats}
use Rattle.inp_model.specs.Queue.{Entry, event_of, taken_by_with, queue_with}
use Rattle.inp_recon.specs.Synchronised.{Part, asks_for, is_query_of, is_start, sync_place, has_asked}
use Rattle.inp_recon.specs.Synchronised.{taken_since_start}
use Rattle.inp_recon.specs.Undisturbed.{is_viewed, frames_since_start, steps_since_frame_before_start}
use Rattle.inp_recon.proofs.Each.{Each, Each-append, Each-left, Each-right, Each-weaker, all-left, all-right}
use Rattle.inp_recon.proofs.Each.{all-take_drop}
use Rattle.inp_recon.proofs.Over.{IsIdle}
use Rattle.inp_recon.proofs.QueuedValues.{NoLoss, over_queue, UnviewedIdle, reports-idle, flush-same}
use Rattle.inp_recon.proofs.QueuedValues.{flush-no_loss, Promised, Promised-weaker, Promised-from_each}
use Rattle.inp_recon.proofs.QueuedValues.{Promised-drop, Promised-flush}
use Rattle.inp_recon.proofs.Cuts.{LeadsOn, cut_at, over_items}
use Rattle.inp_recon.proofs.CallsLeft.{LeftBy, ByRead, ByLoss, ByFlush, ByNone, left_by, left_in_queue}
use Rattle.inp_recon.proofs.CallsLeft.{part-asked}
use Rattle.inp_recon.proofs.FrameEntries.{IsWhole, Receives}
use Rattle.inp_recon.proofs.FrameSteps.{IsEventItem, frames_by, passes_all, AreWhole, IsNow, Says, Wants}
use Rattle.inp_recon.proofs.FrameSteps.{all_grown, all_promised}
use Rattle.inp_recon.proofs.DescriptionSteps.{AreUndescribed, items-are_events, since-described}
use Rattle.inp_recon.proofs.DescriptionSteps.{queue-described, steps-step}
use Rattle.inp_recon.proofs.ViewSteps.{BySteps}
use Rattle.inp_recon.proofs.Steps.{raw-step, queue-step, since-step, sync-same, sync-query, receives-before}
use Rattle.inp_recon.proofs.Steps.{left-each, IsPlacedBelow, queue-placed, IsEndedWithin, since-within}

-- ---- frames and steps since the client's start

-- those that ended no later than f are
abbrev pub AreWholeTo : Eats → ℕ → Frame → List Frame → Type 0
AreWholeTo eats client f fs = Each (λ g. length g.cut.until ≤ length f.cut.until → IsWhole eats client g) fs

-- nothing was kept from the client by these frames, and none of these steps describes an axis
abbrev pub IsClear : Eats → ℕ → List Frame → List Step → Type 0
IsClear eats client fs steps = AreWhole eats client fs × AreUndescribed steps

-- the same of all frames since the client's start, and of the steps since the frame before it
abbrev pub IsClearSince : Eats → Description → List Step → ℕ → Type 0
IsClearSince eats d past client =
    IsClear eats client (frames_since_start d past client) (steps_since_frame_before_start d past client)

-- the frame came behind the last query, and up to it nothing was kept from the client, and no axis was
-- described anew
abbrev pub IsBehind : Eats → Description → ℕ → ℕ → List Frame → Frame → Type 0
IsBehind eats d sync client fs f =
    (sync < place f) × AreWholeTo eats client f fs
    × AreUndescribed (steps_since_frame_before_start d f.before client)

longer : (r : List RawItem) (fs : List Frame) → Each (IsEndedWithin (length r)) fs
    → Each (IsEndedWithin (suc (length r))) fs
longer r = Each-weaker (IsEndedWithin (length r)) (IsEndedWithin (suc (length r))) (λ f k. omega arith)

fronts : (eats : Eats) (client : ℕ) (f : Frame) (bs : List Frame)
    → Each (IsEndedWithin (length f.cut.until)) bs → AreWholeTo eats client f bs → AreWhole eats client bs
fronts eats client f [] h k = tt
fronts eats client f (g ∷ bs) h k = (k.0 h.0, fronts eats client f bs h.1 k.1)

-- each frame that a step ends is judged by the frames up to it
module _ (eats : Eats) (d : Description) (client sync : ℕ) (past : List Step) (s : Step)
    (all : List Frame) where
  abbrev AreWanted : List RawItem → List Cut → Type 1
  AreWanted r cs =
      (before : List Frame) (C : Type 0) → all ≡ before ++ map (frame_of past s) cs
      → Each (IsEndedWithin (length r)) before
      → (IsClear eats client before (steps_since_frame_before_start d past client) → C)
      → Wants eats client (IsBehind eats d sync client all) C (map (frame_of past s) cs)

  frames-wanted : (xs r : List RawItem) → AreWanted r (cuts d r xs)
  frames-wanted =
      over_items d (λ r xs cs. AreWanted r cs) (λ r before C is ended clear. tt)
      (λ r x xs cs h ih before C is ended clear. ih before C is (longer r before ended) clear)
      (λ r x xs cs h ih before C is ended clear.
      let f : Frame = frame_of past s (cut_at r x h.body h.report) in
      let rest : List Frame = map (frame_of past s) cs in
      let older : Each (IsEndedWithin (suc (length r))) before = longer r before ended in
      let wants : IsBehind eats d sync client all f → C × IsWhole eats client f = λ here.
      let w : AreWholeTo eats client f (before ++ f ∷ rest) = rw is at here.1 in (
        clear (fronts eats client f before older (Each-left _ before (f ∷ rest) w), here.2),
        (Each-right _ before (f ∷ rest) w).0 (omega arith),
      ) in (
        wants,
        ih (before ++ f ∷ []) (C × IsWhole eats client f) (is ∙ sym (append_assoc before (f ∷ []) rest))
            (Each-append (IsEndedWithin (suc (length r))) before (f ∷ []) older (omega arith, tt))
            (λ w. (clear (Each-left _ before (f ∷ []) w.0, w.1), (Each-right _ before (f ∷ []) w.0).0)),
      ))

-- ---- what stands between two steps

-- Folded by the queue and the batch a value is the state now, where all frames since the start are whole,
-- no axis was described anew, and nothing was lost. Folded by the queue up to a report it is the state at
-- the end of its frame, where the frame is behind the last query, and up to it nothing was kept from the
-- client, and no axis was described anew.
pub record FollowsReports {V : Type 0} (eats : Eats) (d : Description) (client : ℕ) (t : V → Event → V)
    (st : List RawItem → V) (sync : ℕ) (fs : List Frame) (steps : List Step) (r : List RawItem) (v : V)
    (q : List Entry) : Type 0 where
  pub now : IsClear eats client fs steps → NoLoss q → IsNow d t st r v q
  pub reports : Promised (Says st (IsBehind eats d sync client fs)) t v q

over-take_drop : {V : Type 0} (t : V → Event → V) (v : V) (n : ℕ) (q : List Entry)
    → over_queue t (over_queue t v (take n q)) (drop n q) ≡ over_queue t v q
over-take_drop t v zero q = refl
over-take_drop t v (suc n) [] = refl
over-take_drop t v (suc n) (x ∷ q) = over-take_drop t (t v (event_of x)) n q

sound-unviewed : (e : Event) → is_part_of (Codes EV_SND) e ≡ true → is_viewed e.kind ≡ false
sound-unviewed e h = rw (eqb-true e.kind EV_SND h)

-- another step's queries spare what is followed
abbrev pub Spares : {V : Type 0} → ℕ → Part → (V → Event → V) → Type 0
Spares client part t =
    (x : Step) → asks_for part client x ≡ false → is_same (client_of x) client ≡ true → (query : Query)
    → query_of x ≡ Some query
    → (e : Event) → is_part_of query e ≡ true → IsIdle t e

-- what the client took since its start tells of no loss
abbrev pub HasLostNone : Eats → Description → List Step → ℕ → Type 0
HasLostNone eats d past client = NoLoss (taken_since_start eats d past client)

module _ (eats : Eats) (d : Description) (client : ℕ) {V : Type 0} (t : V → Event → V)
    (unviewed : UnviewedIdle t) (st : List RawItem → V) (passes : LeadsOn d t st) where
  -- what stands of the value, and what an entry says of it
  abbrev Follows : ℕ → List Frame → List Step → List RawItem → V → List Entry → Type 0
  Follows sync fs steps r v q = FollowsReports eats d client t st sync fs steps r v q

  abbrev SaysBehind : ℕ → List Frame → Entry → V → Type 0
  SaysBehind sync fs x v = Says st (IsBehind eats d sync client fs) x v

  -- the frames and the steps since the client's start
  abbrev Since : List Step → List Frame
  Since past = frames_since_start d past client

  abbrev Steps : List Step → List Step
  Steps past = steps_since_frame_before_start d past client

  module _ (x : Step) (q taken left : List Entry) where
    -- A step that asks for another part, or for none: what it takes and leaves make of a value what the
    -- queue made.
    pub call-keeps : (part : Part) → Spares client part t → LeftBy x client q taken left
        → asks_for part client x ≡ false → NoLoss taken → NoLoss left
        → NoLoss q × ((v : V) → over_queue t (over_queue t v taken) left ≡ over_queue t v q)
    call-keeps part spares (ByRead n takes leaves) asks none kept = (
      all-take_drop _ n q (rw takes at none) (rw leaves at kept),
      (λ v. rw (takes, leaves) (over-take_drop t v n q)),
    )
    call-keeps part spares (ByLoss lost is frame takes leaves) asks none kept =
        absurd (let bad : false ≡ true = rw (leaves, is) at kept in cc)
    call-keeps part spares (ByFlush query asked own kind keeps takes leaves) asks none kept = (
      flush-no_loss (is_part_of query) keeps q (rw leaves at kept),
      (λ v. rw (takes, leaves)
          (flush-same t (reports-idle t unviewed) (is_part_of query) (spares x asks own query asked) q v)),
    )
    call-keeps part spares (ByNone takes leaves) asks none kept =
        (rw leaves at kept, (λ v. rw (takes, leaves)))

    -- what is promised at reports stays promised behind a step that asks for nothing
    call-promises : (P : Entry → V → Type 0) (v : V) → LeftBy x client q taken left
        → is_query_of client x ≡ false → NoLoss taken → Promised P t v q
        → Promised P t (over_queue t v taken) left
    call-promises P v (ByRead n takes leaves) asks none h =
        rw (takes, leaves) (Promised-drop P t v n q (rw takes at none) h)
    call-promises P v (ByLoss lost is frame takes leaves) asks none h = rw leaves (λ here. absurd cc)
    call-promises P v (ByFlush query asked own (inl queries) keeps takes leaves) asks none h = absurd cc
    call-promises P v (ByFlush query asked own (inr sounds) keeps takes leaves) asks none h =
        rw (takes, leaves)
        (Promised-flush P t (reports-idle t unviewed) (is_part_of query)
        (λ e part. unviewed e (sound-unviewed e (rw sounds at part))) keeps q v h)
    call-promises P v (ByNone takes leaves) asks none h = rw (takes, leaves) h

  -- ---- one step

  -- the parts of a past, for what stands after it
  abbrev pub Stands : (List Step → V) → List Step → Type 0
  Stands b past =
      Follows (sync_place past client) (Since past) (Steps past) (raw d past) (b past)
      (queue_with eats d past client)

  -- behind the client's own call, before the frames
  Midway : (List Step → V) → List Step → Step → Type 0
  Midway b past x =
      Follows (sync_place (x ∷ past) client) (Since past) (Steps past) (raw d past) (b (x ∷ past))
      (left_in_queue eats d past client x)

  frames_follow : (b : List Step → V) (past : List Step) (x : Step) → is_start past client x ≡ false
      → Receives past client → Midway b past x → Stands b (x ∷ past)
  unfolding Midway
  frames_follow b past x start receives h =
      let v : V = b (x ∷ past) in
      let q : List Entry = left_in_queue eats d past client x in
      let sync : ℕ = sync_place (x ∷ past) client in
      let fs : List Frame = Since past in
      elim (cases_Bool (is_description x)) [
        | inl e ↦
            rw (
              since-described d past client x start e,
              steps-step d past client x start,
              queue-described eats d past client x e,
            )
            (record { now = λ clear none. absurd (cc (e, not-true _ clear.1.0)); reports = h.reports })
        | inr e ↦
            (let r : List RawItem = raw d past in
            let xs : List RawItem = raw_of_step d past x in
            let new : List Frame = frames_by d past x r xs in
            let events : Each IsEventItem xs = items-are_events d past x e in
            rw (
              since-step d past client x start,
              steps-step d past client x start,
              queue-step eats d past client x,
              raw-step d past x,
            )
            (record {
              now = λ clear none.
                  let g =
                  all_grown eats d client t unviewed past x receives xs r q
                  (Each-right _ fs new clear.0) none in
                  rw (g.same v, h.now (Each-left _ fs new clear.0, clear.1.1) g.kept)
                  (passes_all d t st passes xs r events);
              reports =
                  all_promised eats d client t unviewed st passes
                  (IsBehind eats d sync client (fs ++ new)) past x receives xs r events q v
                  (IsClearSince eats d past client)
                  (frames-wanted eats d client sync past x (fs ++ new) xs r fs
                  (IsClearSince eats d past client) refl (since-within d past client) (λ w. w)) h.now
                  (Promised-weaker (SaysBehind sync fs) (SaysBehind sync (fs ++ new)) t v q
                  (λ y w says f is here. says f is (here.0, Each-left _ fs new here.1, here.2)) h.reports);
            }))
      ]

  -- at a query no report of the queue is behind it
  none_behind : (past : List Step) (x : Step) (v : V) → is_query_of client x ≡ true → (fs : List Frame)
      → Promised (SaysBehind (sync_place (x ∷ past) client) fs) t v (left_in_queue eats d past client x)
  none_behind past x v query fs =
      let left : List Entry = left_in_queue eats d past client x in
      let P : Entry → V → Type 0 = SaysBehind (sync_place (x ∷ past) client) fs in
      Promised-from_each P t v left
      (Each-weaker (IsPlacedBelow (length past)) (λ e. (w : V) → P e w)
      (λ e placed w f is here. (let below : place f < length past = placed f is in
      let above : length past < place f = rw sync-query at here.0 in
      absurd (omega arith)))
      left
      (left-each eats d past client (IsPlacedBelow (length past)) (λ e loss none f is. absurd cc) x
      (queue-placed eats d past client)))

  module _ (part : Part) (spares : Spares client part t) (told : List RawItem → V) (b : List Step → V)
      (follows : BySteps eats d client t part told b)
      (fresh : (past : List Step) (x : Step) → is_start past client x ≡ false → asks_for part client x ≡ true
      → Receives past client → HasLostNone eats d past client
      → IsClearSince eats d past client → NoLoss (left_in_queue eats d past client x)
      → IsNow d t st (raw d past) (told (raw d past)) (left_in_queue eats d past client x)) where
    -- the client asked for this part
    asked_midway : (past : List Step) (x : Step) → is_start past client x ≡ false
        → asks_for part client x ≡ true → Receives past client → HasLostNone eats d past client
        → Midway b past x
    unfolding Midway
    asked_midway past x start asks receives none = record {
      now = λ clear kept. rw (follows past x, asks) (fresh past x start asks receives none clear kept);
      reports = none_behind past x (b (x ∷ past)) (part-asked part client x asks).queries (Since past);
    }

    -- it made another step, or another made one
    other_midway : (past : List Step) (x : Step) → is_start past client x ≡ false
        → asks_for part client x ≡ false → NoLoss (taken_by_with eats d past client x) → Stands b past
        → Midway b past x
    unfolding Midway
    other_midway past x start asks none h =
        let q : List Entry = queue_with eats d past client in
        let taken : List Entry = taken_by_with eats d past client x in
        let left : List Entry = left_in_queue eats d past client x in
        let by = left_by eats d past client x start in
        let is : b (x ∷ past) ≡ over_queue t (b past) taken = rw (follows past x, asks) in
        record {
          now = λ clear kept. (let k = call-keeps x q taken left part spares by asks none kept in
              rw (is, k.1 (b past)) (h.now clear k.0));
          reports = elim (cases_Bool (is_query_of client x)) [
            | inl query ↦ none_behind past x (b (x ∷ past)) query (Since past)
            | inr query ↦ rw (sync-same past client x start query, is)
                (call-promises x q taken left (SaysBehind (sync_place past client) (Since past))
                (b past) by query none h.reports)
          ];
        }

    -- The value follows the device, once it was asked for.
    pub stands : (past : List Step) → Receives past client → HasLostNone eats d past client
        → has_asked part past client ≡ true → Stands b past
    unfolding taken_since_start has_asked
    stands [] receives none asked = absurd cc
    stands (x ∷ past) receives none asked =
        let took : List Entry = taken_since_start eats d past client in
        let taken : List Entry = taken_by_with eats d past client x in
        elim (cases_Bool (is_start past client x)) [
          | inl start ↦ absurd (let bad : false ≡ true = rw start at asked in cc)
          | inr start ↦
              (let before : Receives past client = receives-before past client x start receives in
              let all : NoLoss (took ++ taken) = rw start at none in
              let clear : NoLoss took = all-left _ took taken all in
              frames_follow b past x start before
              (elim (cases_Bool (asks_for part client x)) [
                | inl asks ↦ asked_midway past x start asks before clear
                | inr asks ↦
                    other_midway past x start asks (all-right _ took taken all)
                    (stands past before clear (rw (start, asks) at asked))
              ]))
        ]
