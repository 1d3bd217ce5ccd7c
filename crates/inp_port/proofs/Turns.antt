-- A call under the turn is an evdev's call for the caller with the pass.
use Rattle.std.proofs.Common.{◌≡◌, ℕ, ◌+◌, Bool, true, false, if◌then◌else◌, List, [], ◌∷◌, ◌++◌, length}
use Rattle.std.proofs.Common.{reverse, refl, sym, ap, ◌∙◌, subst, ℤ, arith, Option, Some, ◌-◌, ◌≤◌, map, take}
use Rattle.std.proofs.Common.{length-append}
use Rattle.std.proofs.lemmas.List.{length-reverse, reverse-reverse, reverse-append, append-nil, length-map}
use Rattle.std.proofs.lemmas.List.{length-take-le}
use mathlib.Core.List.{IsPrefix}
use Rattle.inp_model.specs.declared.taken.Taken.{Taken}
use Rattle.inp_model.specs.declared.step.Step.{Step}
use Rattle.inp_model.specs.declared.reply.Reply.{Reply}
use Rattle.inp_model.specs.Description.{Description}
use Rattle.inp_model.specs.History.{IsHistory}
use Rattle.inp_model.specs.Reply.{Answer, IsAnswer, is_accepted}
use Rattle.inp_model.specs.Run.{Call, place_of}
use Rattle.inp_model.specs.Evdev.{agains_after, IsCall, IsEvdevCall}
use Rattle.inp_model.proofs.Told.{given_place, called_by}
use Rattle.inp_turn.specs.declared.pass_view.PassView.{PassView}
use Rattle.inp_turn.specs.PassView.{added_places, OwnsSeen, view_after_take, view_after_give}
use Rattle.inp_turn.proofs.Prefixes.{prefix-refl, prefix-trans, prefix-length}
use Rattle.inp_port.specs.Entries.{steps_among, past_of, step_places, other_places, Grown, is_step_at}
use Rattle.inp_port.specs.Turn.{IsServedTurn, told_of, IsServedAllTurn}
use Rattle.inp_port.proofs.Places.{added-one, added-none, steps-begins, steps-push, step_places-begins}
use Rattle.inp_port.proofs.Places.{other_places-begins, step_places-push, other_places-push}
use Rattle.inp_port.proofs.Places.{step_places-append, as_many, steps-added, grown_by-begins}
use Rattle.inp_port.proofs.Places.{step_places-added, other_places-added}
use Rattle.inp_device.proofs.EnteredSteps.{out-stays, cells-stay}
use Rattle.inp_port.specs.Served.{IsServed, IsServedAll}
use Rattle.std.specs.List.{range_with_len}
use Rattle.std.specs.Prelude.{not}
use Rattle.std.proofs.lemmas.List.Elements.{filter-append}
use Rattle.inp_model.specs.declared.injected.Injected.{Injected}
use Rattle.inp_model.specs.declared.stamped.Stamped.{Stamped}
use Rattle.inp_model.specs.Injection.{inject_of, IsInjectAll}

-- one step more, oldest first
pub turned : (past : List Step) (x : Step) → reverse (x ∷ past) ≡ reverse past ++ x ∷ []
turned past x =
    ap reverse
    (sym (reverse-append (reverse past) (x ∷ []) ∙ ap (λ (ss : List Step). x ∷ ss) (reverse-reverse past)))
    ∙ reverse-reverse (reverse past ++ x ∷ [])

module _ {E : Type 0} (made : E → Option Step) where
  -- an entry comes behind the others, or none is added
  pub grown-begins : (found : List E) (x : Step) (b : Bool) (now : List E) → Grown made found x b now
      → IsPrefix found now
  grown-begins found x true now g = (g.0 ∷ [], sym g.2)
  grown-begins found x false now g = subst (IsPrefix found) (sym g) (prefix-refl found)

  -- the steps that are seen after the call
  seen-now : (found : List E) (x : Step) (b : Bool) (now : List E) → Grown made found x b now
      → steps_among made now ≡ reverse (if b then x ∷ past_of made found else past_of made found)
  seen-now found x true now g =
      rw (
        reverse-reverse (steps_among made found),
        ← steps-push made found g.0 x g.1,
        ← g.2,
      ) at (sym (turned (past_of made found) x))
  seen-now found x false now g = ap (steps_among made) g ∙ sym (reverse-reverse (steps_among made found))

  -- the places that are own after it
  own-now : (found : List E) (own : List ℕ) (x : Step) (b : Bool) (now : List E) (place : ℕ)
      → Grown made found x b now → place ≡ length (steps_among made found)
      → step_places made now (own ++ added_places found now)
      ≡ (if b then step_places made now own ++ place ∷ [] else step_places made now own)
  own-now found own x true now place g is =
      rw (g.2, added-one found g.0, step_places-push made found g.0 x own g.1, ← g.2, ← is)
  own-now found own x false now place g is = rw (g, added-none found, append-nil own)

  others-now : (found : List E) (own : List ℕ) (x : Step) (b : Bool) (now : List E) → Grown made found x b now
      → other_places made now (own ++ added_places found now) ≡ other_places made now own
  others-now found own x true now g =
      rw (g.2, added-one found g.0, other_places-push made found g.0 x own g.1, ← g.2)
  others-now found own x false now g = rw (g, added-none found, append-nil own)

  -- the call by what was found
  called_at : (d : Description) (name : List ℕ) (v w : PassView Description E) (found : List E) (x : Step)
      (given : Answer) (b : Bool) (agains : ℕ) → is_accepted given.reply ≡ b
      → IsAnswer d (past_of made found) x given → IsHistory d (past_of made found) → OwnsSeen v
      → IsPrefix v.seen found → Grown made found x b w.seen
      → w.own ≡ v.own ++ added_places found w.seen → w.turns ≡ v.turns + 1 → w.share ≡ v.share
      → IsCall (told_of made d name v agains) (told_of made d name w (agains_after given.reply agains))
      (record { step = x; answer = given })
  called_at d name v w found x given b agains enters exact history owns begins grown own turns share =
      let call : Call = record { step = x; answer = given } in
      let at : place_of given.reply ≡ length (past_of made found) =
      given_place d (past_of made found) x given exact in
      let there : place_of given.reply ≡ length (steps_among made found) =
      at ∙ length-reverse (steps_among made found) in
      let c = called_by d (past_of made found) agains x given b enters at exact history in
      let now = sym (seen-now found x b w.seen grown) in
      let whole : IsPrefix v.seen w.seen =
      prefix-trans v.seen found w.seen begins (grown-begins found x b w.seen grown) in
      let steps = steps-begins made v.seen w.seen whole in
      record {
        description = refl;
        tie =
            λ i.
            Some (share i ∷ length name ∷ name
            ++ (ap (other_places made w.seen) own ∙ others-now found v.own x b w.seen grown
            ∙ other_places-begins made v.seen w.seen v.own whole owns) i);
        seen = (steps.0, sym steps.1);
        fresh =
            omega (
              arith,
              there,
              prefix-length (steps_among made v.seen) (steps_among made found)
                  (steps-begins made v.seen found begins),
            );
        long = rw now at c.long;
        placed = rw now at c.placed;
        own =
            rw (
              own,
              own-now found v.own x b w.seen (place_of given.reply) grown there,
              step_places-begins made v.seen w.seen v.own whole owns,
              ← enters,
            );
        agains = refl;
        turns = omega (arith, turns);
        rises = λ _. omega (arith, turns);
        history = rw now at c.history;
      }

  -- the device answers after the steps found at the turn, and an accepted step is the caller's own
  pub told_call : (d : Description) (name : List ℕ) (v w : PassView Description E) (x : Step) (reply : Reply)
      (out new_out : List Taken) (cells new_cells : List ℤ) → OwnsSeen v
      → IsServedTurn made d v x reply out new_out cells new_cells w
      → (agains : ℕ)
      → IsEvdevCall (told_of made d name v agains)
      (told_of made d name w (agains_after reply agains)) x reply out new_out cells new_cells
  told_call d name v w x reply out new_out cells new_cells owns t agains =
      let s =
      t.served.step in let same : is_accepted reply ≡ is_accepted s.given.reply = ap is_accepted s.replied in
      record {
        call = record { step = x; answer = s.given };
        step = refl;
        replied = s.replied;
        out_written = s.out_written;
        cells_written = s.cells_written;
        is_call = rw s.replied
            (called_at d name v w t.found x s.given (is_accepted reply) agains
            (sym same) s.exact t.served.accepted owns t.begins t.served.grown t.own t.turns t.share);
        turns = omega (arith, t.turns);
      }

  -- what the pass has seen is still there
  pub turn-begins : (d : Description) (v w : PassView Description E) (x : Step) (reply : Reply)
      (out new_out : List Taken) (cells new_cells : List ℤ)
      → IsServedTurn made d v x reply out new_out cells new_cells w → IsPrefix v.seen w.seen
  turn-begins d v w x reply out new_out cells new_cells t =
      prefix-trans v.seen t.found w.seen t.begins
      (grown-begins t.found x (is_accepted reply) w.seen t.served.grown)

-- What stands after a call under the turn whose step was not accepted

module _ {E : Type 0} (made : E → Option Step) where
  same-refused : (found : List E) (x : Step) (b : Bool) (now : List E) → Grown made found x b now
      → b ≡ false → now ≡ found
  same-refused found x true now g h = absurd cc
  same-refused found x false now g h = g

  module _ (d : Description) (v w : PassView Description E) (x : Step) (reply : Reply)
      (out new_out : List Taken) (cells new_cells : List ℤ) where
    seen-found : (t : IsServedTurn made d v x reply out new_out cells new_cells w) → is_accepted reply ≡ false
        → w.seen ≡ t.found
    seen-found t h = same-refused t.found x (is_accepted reply) w.seen t.served.grown h

    -- the step was answered from what is seen now
    pub turn-enters_nothing : IsServedTurn made d v x reply out new_out cells new_cells w
        → is_accepted reply ≡ false → IsServed made d w.seen x reply out new_out cells new_cells w.seen
    turn-enters_nothing t h = rw (← seen-found t h) at t.served

    -- no place was added
    pub turn-own_stays : IsServedTurn made d v x reply out new_out cells new_cells w
        → is_accepted reply ≡ false → w.own ≡ v.own
    turn-own_stays t h = rw (t.own, seen-found t h, added-none t.found) (append-nil v.own)

    -- nothing was written to the caller's buffers
    pub turn-out_stays : IsServedTurn made d v x reply out new_out cells new_cells w
        → is_accepted reply ≡ false → new_out ≡ out
    turn-out_stays t h = out-stays t.served.step h

    -- no values of slots were written either
    pub turn-cells_stay : IsServedTurn made d v x reply out new_out cells new_cells w
        → is_accepted reply ≡ false → new_cells ≡ cells
    turn-cells_stay t h = cells-stay t.served.step h

-- Events that are injected under one turn are an evdev's call for the caller with the pass

module _ {E : Type 0} (made : E → Option Step) where
  -- as many entries are added as events were entered
  added-count : (d : Description) (found : List E) (events : List Stamped) (injected : Injected)
      (now : List E) → (s : IsServedAll made d found events injected now) → length s.grown.0 ≡ injected.count
  added-count d found events injected now s =
      let few : injected.count ≤ length events = omega (arith, s.count) in
      as_many made s.grown.0 (map inject_of (take injected.count events)) s.grown.2
      ∙ length-map (take injected.count events) inject_of ∙ length-take-le injected.count events few

  -- the entries of the events come behind those that were found
  pub all-begins : (d : Description) (found : List E) (events : List Stamped) (injected : Injected)
      (now : List E) → IsServedAll made d found events injected now → IsPrefix found now
  all-begins d found events injected now s =
      grown_by-begins made found (map inject_of (take injected.count events)) now s.grown

  -- the places that were added
  pub all-added : (d : Description) (found : List E) (events : List Stamped) (injected : Injected)
      (now : List E) → IsServedAll made d found events injected now
      → added_places found now ≡ range_with_len (length found) injected.count
  all-added d found events injected now s =
      let more : length now ≡ length found + length s.grown.0 =
      ap length s.grown.1 ∙ length-append found s.grown.0 in
      let added : length now - length found ≡ injected.count =
      omega (arith, more, added-count d found events injected now s) in
      ap (range_with_len (length found)) added

  -- the turn, by what was taken and what was given back
  pub turn-served : (d base : Description) (v w : PassView Description E) (found now : List E)
      (events : List Stamped) (injected : Injected) → base ≡ d → IsPrefix v.seen found
      → IsServedAll made base found events injected now
      → w ≡ view_after_give (view_after_take v found) now → IsServedAllTurn made d v events injected w
  turn-served d base v w found now events injected same begins s view = record {
    found = found;
    begins = begins;
    served = rw view
        (rw same at s);
    own = rw (view, all-added base found events injected now s);
    turns = rw view;
    share = rw view;
    base = rw view;
  }

  -- what the pass has seen is still there
  pub all-turn-begins : (d : Description) (v w : PassView Description E) (events : List Stamped)
      (injected : Injected) → IsServedAllTurn made d v events injected w → IsPrefix v.seen w.seen
  all-turn-begins d v w events injected t =
      prefix-trans v.seen t.found w.seen t.begins (all-begins d t.found events injected w.seen t.served)

  -- the events are the last entries, and all their places are the caller's own steps
  pub told_all : (d : Description) (name : List ℕ) (v w : PassView Description E) (events : List Stamped)
      (injected : Injected) → OwnsSeen v → IsServedAllTurn made d v events injected w
      → (agains : ℕ)
      → IsInjectAll (told_of made d name v agains) (told_of made d name w agains) events injected
  told_all d name v w events injected owns t agains =
      let s = t.served in
      let more : List E = s.grown.0 in
      let steps : List Step = map inject_of (take injected.count events) in
      let count : length more ≡ injected.count = added-count d t.found events injected w.seen s in
      let whole : IsPrefix v.seen w.seen =
      prefix-trans v.seen t.found w.seen t.begins (all-begins d t.found events injected w.seen s) in
      let begun = steps-begins made v.seen t.found t.begins in
      let places : List ℕ = range_with_len (length t.found) injected.count in
      let steps_there : step_places made w.seen places ≡ range_with_len injected.from injected.count =
      (λ i. step_places made (s.grown.1 i) (range_with_len (length t.found) (sym count i)))
      ∙ step_places-added made t.found more steps s.grown.2
      ∙ (λ i. range_with_len (sym s.from i) (count i)) in
      let others_there : other_places made w.seen places ≡ [] =
      (λ i. other_places made (s.grown.1 i) (range_with_len (length t.found) (sym count i)))
      ∙ other_places-added made t.found more steps s.grown.2 in
      let others : other_places made w.seen w.own ≡ other_places made v.seen v.own =
      ap (other_places made w.seen) t.own
      ∙ filter-append (λ place. not (is_step_at made w.seen place)) v.own places
      ∙ (λ i. other_places-begins made v.seen w.seen v.own whole owns i ++ others_there i)
      ∙ append-nil (other_places made v.seen v.own) in
      record {
        found = steps_among made t.found;
        description = refl;
        tie = λ i. Some (t.share i ∷ length name ∷ name ++ others i);
        begins = (begun.0, sym begun.1);
        from = s.from;
        count = s.count;
        within = s.within;
        seen = ap (steps_among made) s.grown.1 ∙ steps-added made t.found more steps s.grown.2;
        own = ap (step_places made w.seen) t.own ∙ step_places-append made w.seen v.own places
            ∙ (λ i. step_places-begins made v.seen w.seen v.own whole owns i ++ steps_there i);
        agains = refl;
        turns = omega (arith, t.turns);
        history = s.accepted;
      }
