-- What is so of owners between two lines.
use Rattle.std.proofs.Common.{◌≡◌, ℕ, List, [], ◌∷◌, ◌++◌, length, refl, sym, ap, ◌∙◌, arith, append-nil}
use Rattle.std.proofs.Common.{append_assoc, length-set, length-append, ◌⊎◌, inl, inr, Option, Some, None}
use Rattle.std.specs.List.{cons_option}
use Rattle.std.proofs.lemmas.List.Elements.{filter_map-append}
use Rattle.inp_runs.specs.Play.{after_lines}
use Rattle.inp_runs.proofs.Common.{slice_set, same_Some, Step, Description, is_accepted, past_after, Call}
use Rattle.inp_runs.proofs.Common.{ActorText, Line, Owner, feedback_room, RecordView, Stop, ActorView}
use Rattle.inp_runs.proofs.Common.{OwnerState}
use Rattle.inp_runs.proofs.Common.{lines_by, rooms_of, Stage, description_at, cond_both}
use Rattle.std.specs.Prelude.{slice_get}
use Rattle.inp_feedback.specs.declared.feedback_call.FeedbackCall.{FeedbackCall}
use Rattle.inp_feedback.specs.KeptList.{kept_of, StandsWithin}
use Rattle.inp_runs.proofs.LinesWalk.{lines_by-more, lines_by-other}
use Rattle.inp_runs.proofs.Lists.{IsSetAt, eq_true, eq_false, slice_get-set, slice_get-set_same}
use Rattle.inp_runs.proofs.order.Calls.{AreExact}
use Rattle.inp_runs.proofs.owners.OwnerLaws.{calls_behind, owning_behind, IsToldByLines, told-stopped}
use Rattle.inp_runs.proofs.owners.OwnerLaws.{so-far-steps, so-far-called, called-within}
use Rattle.inp_runs.proofs.order.LineDone.{actor_behind, IsFedUnless, IsFedWhereAsked, IsLinePlayed}
use Rattle.inp_runs.proofs.order.LineDone.{feedback-of}
use Rattle.inp_runs.proofs.order.Stages.{IsStage, AreCommandsOf, number_is, its_number, its_actor}
use Rattle.inp_runs.proofs.order.Stages.{actor-behind, past-behind, stages-keep}

-- what an owner keeps is what it was told by its lines among these
abbrev pub IsToldUpTo : RecordView → List Line → ℕ → List Step → List FeedbackCall → ℕ → OwnerState → Type 0
IsToldUpTo r lines device past calls actor owning =
    IsToldByLines (description_at r device) (kept_of past calls) (rooms_of (lines_by actor lines)) owning

-- What stands of owners when these lines were done.
pub record AreOwned (r : RecordView) (lines : List Line) (stage : Stage) : Type 0 where
  -- each device has a list of feedback calls
  pub counts : length stage.calls ≡ length r.devices
  -- each feedback call stands behind no more steps than its device's past has
  pub within : (i : ℕ) (past : List Step) (calls : List FeedbackCall) → slice_get stage.pasts i ≡ Some past
      → slice_get stage.calls i ≡ Some calls → StandsWithin (length past) calls
  -- each owner was told what its lines so far took of what its device kept
  pub owners : (i : ℕ) (a : ActorView) (text : ActorText) (past : List Step) (calls : List FeedbackCall)
      → slice_get stage.actors i ≡ Some a → slice_get r.actors i ≡ Some text → text.role ≡ Owner
      → slice_get stage.pasts text.device ≡ Some past → slice_get stage.calls text.device ≡ Some calls
      → IsToldUpTo r lines text.device past calls a.actor a.owning

-- no device has two owners
abbrev pub HasOneOwner : RecordView → Type 0
HasOneOwner r =
    (i k : ℕ) (a b : ActorText) → slice_get r.actors i ≡ Some a → slice_get r.actors k ≡ Some b
    → a.role ≡ Owner → b.role ≡ Owner → a.device ≡ b.device → i ≡ k

-- The steps of a line stand in front of its device's past

exact-front : (d : Description) (past after : List Step) (calls : List Call) → AreExact d past after calls
    → (more : List Step) × (after ≡ more ++ past)
exact-front d past after [] e = ([], e)
exact-front d past after (call ∷ calls) e =
    let between : List Step = past_after call.answer.reply call.step past in
    let one : (more : List Step) × (between ≡ more ++ past) = cond_both (is_accepted call.answer.reply) _ _
    (λ (p : List Step). (more : List Step) × (p ≡ more ++ past)) (λ _. (call.step ∷ [], refl))
    (λ _. ([], refl)) in
    let rest : (more : List Step) × (after ≡ more ++ between) = exact-front d between after calls e.1 in
    (rest.0 ++ one.0, rw (← one.1, ← rest.1) at (sym (append_assoc rest.0 one.0 past)))

-- the past of a device before a line
record IsGrown (stage : Stage) (i : ℕ) (after : List Step) : Type 0 where
  past : List Step
  is_past : slice_get stage.pasts i ≡ Some past
  more : List Step
  grown : after ≡ more ++ past

longer-within : (past after more : List Step) (calls : List FeedbackCall) → after ≡ more ++ past
    → StandsWithin (length past) calls → StandsWithin (length after) calls
longer-within past after more [] grown h = tt
longer-within past after more (call ∷ calls) grown h =
    omega (arith, h, ap length grown, length-append more past)

-- What a line leaves of feedback calls

-- The line made no feedback call: it is another one, or its owner had stopped.
record IsUncalled (r : RecordView) (rounds : ℕ) (stage now : Stage) (line : Line)
    (u : IsLinePlayed r rounds stage now line) : Type 0 where
  calls : now.calls ≡ stage.calls
  owning : u.owning ≡ u.actor.owning
  why : (feedback_room line.command ≡ None)
      ⊎ ((room : ℕ) × (feedback_room line.command ≡ Some room) × (stop : Stop)
      × (u.actor.owning.stop ≡ Some stop))

-- The line made a feedback call.
record IsCalled (r : RecordView) (rounds : ℕ) (stage now : Stage) (line : Line)
    (u : IsLinePlayed r rounds stage now line) : Type 0 where
  room : ℕ
  is_room : feedback_room line.command ≡ Some room
  going : u.actor.owning.stop ≡ None
  calls : List FeedbackCall
  is_calls : slice_get stage.calls u.text.device ≡ Some calls
  now_calls : now.calls ≡ slice_set stage.calls u.text.device
      (calls_behind u.actor.description u.past calls room)
  owning : u.owning ≡ owning_behind u.actor.description (kept_of u.past calls) room u.actor.owning

-- the feedback calls of the line's device behind it
abbrev calls_of : {r : RecordView} {rounds : ℕ} {stage now : Stage} {line : Line}
    {u : IsLinePlayed r rounds stage now line} → IsCalled r rounds stage now line u → List FeedbackCall
calls_of {u = u} c = calls_behind u.actor.description u.past c.calls c.room

-- the rooms of the line's actor, and of another one

rooms-line : (number : ℕ) (lines : List Line) (line : Line) (o : Option ℕ) → line.actor ≡ number
    → feedback_room line.command ≡ o
    → rooms_of (lines_by number (lines ++ line ∷ [])) ≡ rooms_of (lines_by number lines) ++ cons_option o []
rooms-line number lines line o own is =
    rw (lines_by-more number lines line (eq_true line.actor number own), filter_map-append, is)

rooms-other : (number : ℕ) (lines : List Line) (line : Line) → (line.actor ≡ number → ⊥)
    → rooms_of (lines_by number (lines ++ line ∷ [])) ≡ rooms_of (lines_by number lines)
rooms-other number lines line other =
    ap rooms_of (lines_by-other number lines line (eq_false line.actor number other))

module _ (r : RecordView) (rounds : ℕ) (stage now : Stage) (line : Line)
    (u : IsLinePlayed r rounds stage now line) where
  past-grown : (i : ℕ) (after : List Step) → slice_get now.pasts i ≡ Some after → IsGrown stage i after
  past-grown i after is_after = elim (past-behind r rounds stage now line u i after is_after) [
    | inl behind ↦
        (let front : (more : List Step) × (u.after ≡ more ++ u.past) =
        exact-front u.actor.description u.past u.after u.calls u.exact in
        record { past = u.past; is_past = rw behind.0 u.is_past; more = front.0; grown = behind.1 ∙ front.1 })
    | inr behind ↦ record { past = after; is_past = behind.1; more = []; grown = refl }
  ]

  by-call : IsUncalled r rounds stage now line u ⊎ IsCalled r rounds stage now line u
  by-call = by_room (feedback_room line.command) refl u.is_fed
    where
      by_stop : (room : ℕ) → feedback_room line.command ≡ Some room → (calls : List FeedbackCall)
          → slice_get stage.calls u.text.device ≡ Some calls
          → (stop : Option Stop) → u.actor.owning.stop ≡ stop
          → IsFedUnless stop stage now u.text.device u.actor room u.past calls u.owning
          → IsUncalled r rounds stage now line u ⊎ IsCalled r rounds stage now line u
      by_stop room e calls is None f h =
          inr (record {
            room = room;
            is_room = e;
            going = f;
            calls = calls;
            is_calls = is;
            now_calls = h.0;
            owning = h.1;
          })
      by_stop room e calls is (Some stop) f h =
          inl (record { calls = h.0; owning = h.1; why = inr (room, e, stop, f) })

      by_room : (o : Option ℕ) → feedback_room line.command ≡ o
          → IsFedWhereAsked o stage now u.text.device u.actor u.past u.owning
          → IsUncalled r rounds stage now line u ⊎ IsCalled r rounds stage now line u
      by_room None e h = inl (record { calls = h.0; owning = h.1; why = inl e })
      by_room (Some room) e h = by_stop room e h.0 h.1 u.actor.owning.stop refl h.2

  -- each device has its calls as before, or the line's call besides
  calls-behind : (i : ℕ) (calls : List FeedbackCall) → slice_get now.calls i ≡ Some calls
      → (slice_get stage.calls i ≡ Some calls)
      ⊎ ((c : IsCalled r rounds stage now line u) × (i ≡ u.text.device) × (calls ≡ calls_of c))
  calls-behind i calls is_calls = elim by-call [
    | inl n ↦ inl (rw (← n.calls) is_calls)
    | inr c ↦ elim (slice_get-set stage.calls u.text.device i c.calls (calls_of c) calls c.is_calls
        (rw (← c.now_calls) is_calls)) [ inl here ↦ inr (c, here.0, here.1) | inr there ↦ inl there.1 ]
  ]

  -- a line is a feedback call of this owner, or leaves its device's calls
  calls-before : HasOneOwner r
      → (feedback : (room : ℕ) → feedback_room line.command ≡ Some room → u.text.role ≡ Owner)
      → (i : ℕ) (text : ActorText) (calls : List FeedbackCall) → slice_get r.actors i ≡ Some text
      → text.role ≡ Owner → (i ≡ line.actor → ⊥) → slice_get now.calls text.device ≡ Some calls
      → slice_get stage.calls text.device ≡ Some calls
  calls-before one feedback i text calls is_text owner other is_calls =
      elim (calls-behind text.device calls is_calls) [
        | inl is ↦ is
        | inr (c, on, same) ↦ absurd
            (other (one i line.actor text u.text is_text u.is_text owner (feedback c.room c.is_room) on))
      ]

  module _ (lines : List Line) (o : AreOwned r lines stage) where
    within-more : (i : ℕ) (past : List Step) (calls : List FeedbackCall) → slice_get now.pasts i ≡ Some past
        → slice_get now.calls i ≡ Some calls → StandsWithin (length past) calls
    within-more i past calls is_past is_calls =
        let g : IsGrown stage i past = past-grown i past is_past in
        longer-within g.past past g.more calls g.grown
        (elim (calls-behind i calls is_calls) [
          | inl is ↦ o.within i g.past calls g.is_past is
          | inr (c, on, same) ↦
              (let before : g.past ≡ u.past = same_Some g.past u.past (rw (← g.is_past, on) u.is_past) in
              rw (same, before)
              (called-within u.actor.description u.past c.calls c.room
              (o.within u.text.device u.past c.calls u.is_past c.is_calls)))
        ])

    -- the owner of the line, behind it
    its_owning : IsStage r rounds lines stage → (past : List Step) (calls : List FeedbackCall)
        → u.text.role ≡ Owner → slice_get now.pasts u.text.device ≡ Some past
        → slice_get now.calls u.text.device ≡ Some calls
        → IsToldUpTo r (lines ++ line ∷ []) u.text.device past calls u.actor.actor u.owning
    its_owning s past calls owner is_past is_calls = by (by-call)
      where
        d : Description
        d = description_at r u.text.device

        rooms : List ℕ
        rooms = rooms_of (lines_by u.actor.actor lines)

        more_rooms : List ℕ
        more_rooms = rooms_of (lines_by u.actor.actor (lines ++ line ∷ []))

        own : line.actor ≡ u.actor.actor
        own = sym (its_number r rounds lines stage now line s u)

        description : u.actor.description ≡ d
        description = (its_actor r rounds lines stage now line s u).description

        g : IsGrown stage u.text.device past
        g = past-grown u.text.device past is_past

        before : g.past ≡ u.past
        before = same_Some g.past u.past (sym g.is_past ∙ u.is_past)

        grown : past ≡ g.more ++ u.past
        grown = simp (g.grown, before)

        old : (cs : List FeedbackCall) → slice_get stage.calls u.text.device ≡ Some cs
            → IsToldByLines d (kept_of u.past cs) rooms u.actor.owning
        old cs is = o.owners line.actor u.actor u.text u.past cs u.is_actor u.is_text owner u.is_past is

        uncalled : (n : IsUncalled r rounds stage now line u)
            → IsToldByLines d (kept_of u.past calls) rooms u.actor.owning
            → (feedback_room line.command ≡ None)
            ⊎ ((room : ℕ) × (feedback_room line.command ≡ Some room) × (stop : Stop)
            × (u.actor.owning.stop ≡ Some stop))
            → IsToldByLines d (kept_of u.past calls) more_rooms u.actor.owning
        uncalled n far (inl none) = rw (rooms-line u.actor.actor lines line None own none, append-nil) far
        uncalled n far (inr stopped) =
            rw (rooms-line u.actor.actor lines line (Some stopped.0) own stopped.1)
            (told-stopped d (kept_of u.past calls) rooms stopped.0 u.actor.owning stopped.2 stopped.3 far)

        called : (c : IsCalled r rounds stage now line u)
            → IsToldByLines d (kept_of u.past (calls_behind d u.past c.calls c.room)) (rooms ++ c.room ∷ [])
            (owning_behind d (kept_of u.past c.calls) c.room u.actor.owning)
        called c = so-far-called d u.past c.calls c.room rooms u.actor.owning c.going (old c.calls c.is_calls)

        by : IsUncalled r rounds stage now line u ⊎ IsCalled r rounds stage now line u
            → IsToldByLines d (kept_of past calls) more_rooms u.owning
        by (inl n) =
            let is : slice_get stage.calls u.text.device ≡ Some calls = rw (← n.calls) is_calls in
            rw n.owning
            (so-far-steps d u.past past g.more calls more_rooms u.actor.owning
            (o.within u.text.device u.past calls u.is_past is) grown (uncalled n (old calls is) n.why))
        by (inr c) =
            let e : Description = u.actor.description in
            let new : List FeedbackCall = calls_behind e u.past c.calls c.room in
            let is : new ≡ calls =
            same_Some new calls
            (rw (
              ← slice_get-set_same stage.calls u.text.device c.calls new c.is_calls,
              ← c.now_calls,
            ) is_calls) in
            let far : IsToldByLines d (kept_of u.past new) (rooms ++ c.room ∷ [])
            (owning_behind e (kept_of u.past c.calls) c.room u.actor.owning) =
            rw description
            (called c) in
            let told : IsToldByLines d (kept_of u.past new) more_rooms u.owning =
            rw (c.owning, rooms-line u.actor.actor lines line (Some c.room) own c.is_room) far in
            let within : StandsWithin (length u.past) new =
            called-within e u.past c.calls c.room
            (o.within u.text.device u.past c.calls u.is_past c.is_calls) in
            rw is at
            (so-far-steps d u.past past g.more new more_rooms u.owning within grown told)

    owners-more : IsStage r rounds lines stage → HasOneOwner r
        → (feedback : (room : ℕ) → feedback_room line.command ≡ Some room → u.text.role ≡ Owner) (i : ℕ)
        (a : ActorView) (text : ActorText) (past : List Step) (calls : List FeedbackCall)
        → slice_get now.actors i ≡ Some a → slice_get r.actors i ≡ Some text → text.role ≡ Owner
        → slice_get now.pasts text.device ≡ Some past → slice_get now.calls text.device ≡ Some calls
        → IsToldUpTo r (lines ++ line ∷ []) text.device past calls a.actor a.owning
    owners-more s one feedback i a text past calls is_a is_text owner is_past is_calls =
        by_actor (actor-behind r rounds lines stage now line s u i a is_a)
      where
        new : ActorView
        new = actor_behind u

        own : i ≡ line.actor → a ≡ new
            → IsToldUpTo r (lines ++ line ∷ []) text.device past calls a.actor a.owning
        own same is =
            let texts : text ≡ u.text = same_Some text u.text (rw (← is_text, same) u.is_text) in
            let on : text.device ≡ u.text.device = rw texts in
            rw (is, on)
            (its_owning s past calls (rw (← texts) owner) (rw (← on) is_past) (rw (← on) is_calls))

        other : (i ≡ line.actor → ⊥) → slice_get stage.actors i ≡ Some a
            → IsToldUpTo r (lines ++ line ∷ []) text.device past calls a.actor a.owning
        other differs is =
            let number : a.actor ≡ i = number_is r rounds lines stage i a s is in
            let g : IsGrown stage text.device past = past-grown text.device past is_past in
            let before : slice_get stage.calls text.device ≡ Some calls =
            calls-before one feedback i text calls is_text owner differs is_calls in
            let far = o.owners i a text g.past calls is is_text owner g.is_past before in
            rw (rooms-other a.actor lines line (λ e. differs (sym (e ∙ number))))
            (so-far-steps (description_at r text.device) g.past past g.more calls
            (rooms_of (lines_by a.actor lines)) a.owning
            (o.within text.device g.past calls g.is_past before) g.grown far)

        by_actor : IsSetAt stage.actors line.actor new i a
            → IsToldUpTo r (lines ++ line ∷ []) text.device past calls a.actor a.owning
        by_actor (inl is) = own is.0 is.1
        by_actor (inr is) = other is.0 is.1

    counts-more : length now.calls ≡ length r.devices
    counts-more = elim (by-call) [
      | inl n ↦ rw n.calls o.counts
      | inr c ↦
          rw (c.now_calls, length-set) o.counts
    ]

    owned-more : IsStage r rounds lines stage → HasOneOwner r
        → (feedback : (room : ℕ) → feedback_room line.command ≡ Some room → u.text.role ≡ Owner)
        → AreOwned r (lines ++ line ∷ []) now
    owned-more s one feedback = record {
      counts = counts-more;
      within = within-more;
      owners = owners-more s one feedback;
    }

-- each line more keeps what stands of owners, and so do all in a row
pub owned-stages : (r : RecordView) (rounds : ℕ) (lines more : List Line) (stage last : Stage) → HasOneOwner r
    → IsStage r rounds lines stage → AreOwned r lines stage → AreCommandsOf r more
    → after_lines r rounds stage more ≡ Some last → AreOwned r (lines ++ more) last
owned-stages r rounds lines more stage last one s o commands h =
    (stages-keep r rounds (AreOwned r)
    (λ ls ms line u now k p c done. owned-more r rounds u now line done ls p k one
    (λ room is. feedback-of done.text.role line.command room is (c 0 line done.text refl done.is_text)))
    lines more stage last s o commands h).1
