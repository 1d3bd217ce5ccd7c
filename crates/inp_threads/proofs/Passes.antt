-- Passes are dealt to the actors of a device, one after another, and joined again once their actors are
-- finished.
use Rattle.std.proofs.Common.{◌≡◌, ℕ, ◌+◌, ◌-◌, ◌≤◌, Bool, true, false, cond, nat_eq, List, [], ◌∷◌, ◌++◌}
use Rattle.std.proofs.Common.{length, refl, sym, ap, ◌∙◌, arith, Some, ◌&&◌, append_assoc, length-append}
use Rattle.std.specs.Prelude.{map, filter, slice_get}
use Rattle.std.specs.List.{range_with_len}
use Rattle.std.proofs.lemmas.List.{append-nil, map-append, length-map}
use Rattle.std.proofs.lemmas.List.Elements.{filter-append, All-push, All-append, All-weaker}
use Rattle.std.proofs.lemmas.List.FromFn.{length-range_with_len}
use Rattle.std.proofs.lemmas.List.Sums.{length-filter, count_by-le-length}
use Rattle.inp_runs.proofs.Lists.{eq_same}
use Rattle.inp_script.specs.Runs.{is_on_device}
use Rattle.inp_script.proofs.Common.{UEntry, Description, ActorText, RecordView, HasActor, ActorView}
use Rattle.inp_port.specs.Port.{IsReadyAt, description_of}
use Rattle.inp_turn.specs.PassView.{view_after_split}
use Rattle.inp_threads.specs.Worker.{IsPortOf, AreDealtUpTo, view_in}
use Rattle.inp_threads.specs.Joined.{own_of}
use Rattle.inp_threads.proofs.Common.{UdevView, Ghosts, Pass, PassView, view_of, PortOf}
use Rattle.inp_threads.proofs.Common.{Worker, actor_number, IsReadyOn, AreJoined, AreWorkersDone}
use Rattle.inp_model.proofs.Injection.{range-append}
use Rattle.std.proofs.lemmas.Grind.{flat_map-append}
use mathlib.Core.List.{IsPrefix}
use Rattle.inp_turn.proofs.Prefixes.{prefix-trans}

-- Passes that are dealt

-- the numbers of a device's actors, one number more
up : (p : ℕ → Bool) (n : ℕ)
    → filter p (range_with_len 0 (n + 1)) ≡ filter p (range_with_len 0 n) ++ cond (p n) (n ∷ []) []
up p n =
    let from : 0 + n ≡ n = omega arith in
    rw (range-append 0 n 1, filter-append p (range_with_len 0 n) (range_with_len (0 + n) 1), from)

module _ {K : Ghosts UdevView Description UEntry} (port : PortOf UdevView UEntry) (r : RecordView)
    (device : ℕ) where
  -- an actor of another device gets no pass, so the workers are the same
  pub dealt-other : (n m : ℕ) (left : Pass UdevView Description UEntry K) (workers : List Worker)
      → AreDealtUpTo port r device n left workers
      → is_on_device device (slice_get r.actors n) ≡ false → m ≡ n + 1
      → AreDealtUpTo port r device m left workers
  dealt-other n m left workers h other next =
      let p = λ (i : ℕ). is_on_device device (slice_get r.actors i) in
      let numbers : map actor_number workers ≡ filter p (range_with_len 0 (n + 1)) =
      h.numbers ∙ sym (rw (up p n, other) (append-nil (filter p (range_with_len 0 n)))) in
      record {
        numbers = rw (numbers, ← next);
        each = h.each;
        ready = h.ready;
        seen = h.seen;
        own = h.own;
        share = h.share;
      }

  -- the actor's worker comes last, with one unit of the share that was left
  pub dealt-more : (n m : ℕ) (left rest : Pass UdevView Description UEntry K) (workers : List Worker)
      (w : Worker) → AreDealtUpTo port r device n left workers
      → is_on_device device (slice_get r.actors n) ≡ true → m ≡ n + 1 → IsReadyAt port rest
      → view_of rest ≡ view_after_split (view_of left)
      → 2 ≤ (view_of left).share → IsReadyOn port r device w → actor_number w ≡ n
      → AreDealtUpTo port r device m rest (workers ++ w ∷ [])
  dealt-more n m left rest workers w h on next ready view enough is_ready number =
      let p = λ (i : ℕ). is_on_device device (slice_get r.actors i) in
      let numbers : map actor_number (workers ++ w ∷ []) ≡ filter p (range_with_len 0 (n + 1)) =
      rw (map-append actor_number workers (w ∷ []), h.numbers, number)
      (sym (up p n ∙ ap (λ (b : Bool). filter p (range_with_len 0 n) ++ cond b (n ∷ []) []) on)) in
      let share : (view_of rest).share ≡ (view_of left).share - 1 = rw view in
      record {
        numbers = rw (numbers, ← next);
        each = All-push (IsReadyOn port r device) workers w h.each is_ready;
        ready = ready;
        seen = rw view h.seen;
        own = rw view h.own;
        share = omega (arith, share, enough, h.share, length-append workers (w ∷ []));
      }

  -- no more passes are dealt than there are numbers
  pub dealt-few : (n : ℕ) (left : Pass UdevView Description UEntry K) (workers : List Worker)
      → AreDealtUpTo port r device n left workers → length workers ≤ n
  dealt-few n left workers h =
      let p = λ (i : ℕ). is_on_device device (slice_get r.actors i) in
      omega (
        arith,
        length-map workers actor_number,
        ap length h.numbers,
        length-filter p (range_with_len 0 n),
        count_by-le-length p (range_with_len 0 n),
        length-range_with_len 0 n,
      )

-- an actor with this text is one of the device, or is not
pub on_device : (r : RecordView) (device n : ℕ) (text : ActorText) (b : Bool)
    → slice_get r.actors n ≡ Some text → nat_eq text.device device ≡ b
    → is_on_device device (slice_get r.actors n) ≡ b
on_device r device n text b is same = ap (is_on_device device) is ∙ same

-- the actor's own text stands at its number, and names the device
pub its-device : (r : RecordView) (device n : ℕ) (a : ActorView) (has : HasActor r a) → a.actor ≡ n
    → is_on_device device (slice_get r.actors n) ≡ true → has.text.device ≡ device
its-device r device n a has number on =
    let is : slice_get r.actors n ≡ Some has.text = ap (slice_get r.actors) (sym number) ∙ has.is_text in
    eq_same has.text.device device (sym (ap (is_on_device device) is) ∙ on)

-- the actor is on the port's device, so both have the description of its text
pub its-description : (port : PortOf UdevView UEntry) (r : RecordView) (device n : ℕ) (a : ActorView)
    → IsPortOf port r device → HasActor r a → a.actor ≡ n → is_on_device device (slice_get r.actors n) ≡ true
    → a.description ≡ description_of port
its-description port r device n a of has number on =
    sym has.description ∙ sym (of has.device (rw (its-device r device n a has number on) at has.is_device))

-- Passes that are joined

-- the passes of some were joined, and then those of others
pub joined-more : (ws vs : List Worker) (a b c : PassView Description UEntry) → AreJoined ws a b
    → AreJoined vs b c → AreJoined (ws ++ vs) a c
joined-more ws vs a b c h k = record {
  share = omega (arith, h.share, k.share, length-append ws vs);
  own =
      rw (
        k.own,
        h.own,
        append_assoc a.own (own_of ws) (own_of vs),
        ← flat_map-append (λ (w : Worker). (view_in w.pass).own) ws vs,
      );
  more = prefix-trans a.seen b.seen c.seen h.more k.more;
  seen = All-append (λ (u : Worker). IsPrefix (view_in u.pass).seen c.seen) ws vs
      (All-weaker (λ (u : Worker). IsPrefix (view_in u.pass).seen b.seen)
      (λ (u : Worker). IsPrefix (view_in u.pass).seen c.seen)
      (λ u p. prefix-trans (view_in u.pass).seen b.seen c.seen p k.more) ws h.seen)
      k.seen;
}

-- those so far are done, and the next one
pub done-more : (ws : List Worker) (w : Worker) (so_far : Bool) → (so_far ≡ true → AreWorkersDone ws)
    → (so_far && w.is_done) ≡ true → AreWorkersDone (ws ++ w ∷ [])
done-more ws w true h both = All-push (λ (u : Worker). u.is_done ≡ true) ws w (h refl) both
done-more ws w false h both = absurd cc
