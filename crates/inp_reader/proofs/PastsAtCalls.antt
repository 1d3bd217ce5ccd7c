-- The pasts at which a reader's calls were answered: what others did in between, and then the call.
use Rattle.std.proofs.Common.{◌≡◌, ◌≤◌, ◌<◌, inl, inr, ℕ, suc, ◌+◌, ◌-◌, Bool, true, false, List, [], ◌∷◌}
use Rattle.std.proofs.Common.{◌++◌, length, take, reverse, get_or, refl, ap, ◌∙◌, arith, length-append}
use Rattle.std.proofs.Common.{if◌then◌else◌, Some}
use Rattle.std.specs.List.{slice_get, Contains}
use Rattle.std.proofs.lemmas.Bool.{false_from_ne_true, cond-true, cond_both}
use Rattle.std.proofs.lemmas.List.{reverse-append, take_more, take_all, get_or-append-add, length-take}
use Rattle.std.proofs.lemmas.List.{get_or-take}
use Rattle.std.proofs.Math.Seq.{take-append-add}
use Rattle.std.proofs.lemmas.Option.{slice_get-get_or, slice_get_within, get_or_from_slice_get}
use Rattle.inp_model.specs.declared.step.Step.{Step}
use Rattle.inp_model.specs.Description.{Description}
use Rattle.inp_model.specs.Evdev.{EvdevView, IsCall}
use Rattle.inp_model.specs.Past.{past_at}
use Rattle.inp_model.specs.Reply.{IsAnswer, is_accepted, past_after}
use Rattle.inp_model.specs.Run.{Call, place_of, next_place}
use Rattle.inp_reader.specs.declared.call_made.CallMade.{CallMade}
use Rattle.inp_reader.specs.LeftEvdev.{accepted_places}
use Rattle.inp_model.specs.Leaves.{AreCalls}
use Rattle.inp_reader.specs.FollowsTalk.{calls_kept}
use Rattle.inp_reader.specs.ReaderPlace.{is_use_of}
use Rattle.inp_reader.proofs.Calls.{AreAnswered, IsPlaceOf, place-known, place-least}
use Rattle.inp_model.proofs.Leaves.{seen-kept, calls-legal, slice_get-longer}

-- none of these steps is a use of the client
unfoldable pub AreQuiet : ℕ → List Step → Type 0
AreQuiet client [] = Unit {0}
AreQuiet client (x ∷ xs) = (is_use_of client x ≡ false) × AreQuiet client xs

module _ (d : Description) (client : ℕ) where
  -- From one past to another others made these steps, newest first, and then came the call, with its answer.
  pub record IsMet (past after : List Step) (call : Call) : Type 0 where
    -- the steps of others, newest first
    pub others : List Step
    -- none of them is a use of the client
    pub quiet : AreQuiet client others
    -- the call is answered as after them
    pub exact : IsAnswer d (others ++ past) call.step call.answer
    -- and it enters behind them, where it was accepted
    pub entered : after ≡ past_after call.answer.reply call.step (others ++ past)

  unfoldable pub AreMet : List Step → List Step → List Call → Type 0
  AreMet past after [] = after ≡ past
  AreMet past after (call ∷ calls) =
      (between : List Step) × IsMet past between call × AreMet between after calls

  pub AreMet-split : (past after : List Step) (calls more : List Call) → AreMet past after (calls ++ more)
      → (between : List Step) × AreMet past between calls × AreMet between after more
  unfolding AreMet
  AreMet-split past after [] more h = (past, refl, h)
  AreMet-split past after (call ∷ calls) more h =
      let s = AreMet-split h.0 after calls more h.2 in
      (s.0, (h.0, h.1, s.1), s.2)

  -- each call was answered after the past before it and what others did then
  pub AreMet-answered : (past after : List Step) (calls : List Call) → AreMet past after calls
      → AreAnswered d calls
  unfolding AreMet AreAnswered
  AreMet-answered past after [] h = tt
  AreMet-answered past after (call ∷ calls) h =
      let m : IsMet past h.0 call = h.1 in
      (m.others ++ past, m.exact, AreMet-answered h.0 after calls h.2)

-- Lists

quiet-append : (client : ℕ) (xs ys : List Step) → AreQuiet client xs → AreQuiet client ys
    → AreQuiet client (xs ++ ys)
unfolding AreQuiet
quiet-append client [] ys h k = k
quiet-append client (x ∷ xs) ys h k = (h.0, quiet-append client xs ys h.1 k)

-- in the other order they are the same steps
pub quiet-reversed : (client : ℕ) (xs : List Step) → AreQuiet client xs → AreQuiet client (reverse xs)
unfolding AreQuiet
quiet-reversed client [] h = tt
quiet-reversed client (x ∷ xs) h =
    rw (reverse-append (x ∷ []) xs)
    (quiet-append client (reverse xs) (x ∷ []) (quiet-reversed client xs h.1) (h.0, tt))

-- what is so at each place is so of all of them
pub quiet-from_places : (client : ℕ) (xs : List Step)
    → ((k : ℕ) (x : Step) → slice_get xs k ≡ Some x → is_use_of client x ≡ false) → AreQuiet client xs
unfolding AreQuiet
quiet-from_places client [] h = tt
quiet-from_places client (x ∷ xs) h = (h 0 x refl, quiet-from_places client xs (λ k y e. h (suc k) y e))

-- an item among the first n has a place below n, and the same place in the whole list
pub slice_get-taken : (n k : ℕ) (xs : List Step) (x : Step) → slice_get (take n xs) k ≡ Some x
    → (k < n) × (slice_get xs k ≡ Some x)
slice_get-taken n k xs x h =
    let within : k < length (take n xs) = slice_get_within (take n xs) k x h in
    let few : k < n = omega (arith, length-take n xs) in
    let long : k < length xs = omega (arith, length-take n xs) in (
      few,
      rw (
        slice_get-get_or xs k x long,
        ← get_or-take n xs k x few,
        get_or_from_slice_get (take n xs) k x x h,
      ),
    )

-- behind another list a place is higher by as many as that list has
pub slice_get-behind : (xs ys : List Step) (k : ℕ) (x : Step) → slice_get ys k ≡ Some x
    → slice_get (xs ++ ys) (length xs + k) ≡ Some x
slice_get-behind xs ys k x h =
    let within : k < length ys = slice_get_within ys k x h in
    rw (
      slice_get-get_or (xs ++ ys) (length xs + k) x (omega (arith, length-append xs ys)),
      get_or-append-add xs ys k x,
      get_or_from_slice_get ys k x x h,
    )

-- what an accepted or a refused call leaves
pub entered_if : (b : Bool) (x : Step) (history : List Step) (at : ℕ)
    → length history ≡ (if b then suc at else at) → (b ≡ true → slice_get history at ≡ Some x)
    → reverse history ≡ (if b then x ∷ past_at history at else past_at history at)
entered_if true x history at long entered =
    let within : at < length history = omega (arith, long) in
    let last : get_or history at x ≡ x = get_or_from_slice_get history at x x (entered refl) in
    let whole : history ≡ take at history ++ x ∷ [] =
    rw (← last, ← take_more history at x within, take_all (at + 1) history (omega (arith, long))) in
    rw (← whole) at (reverse-append (take at history) (x ∷ []))
entered_if false x history at long entered = rw (take_all at history (omega (arith, long)))

-- each use of the client that entered after so many steps is one of these calls
abbrev pub AreAllOwn : ℕ → ℕ → List Step → List Call → Type 0
AreAllOwn client least history calls =
    (place : ℕ) (x : Step) → least ≤ place → slice_get history place ≡ Some x → is_use_of client x ≡ true
    → IsPlaceOf place calls

pub not_own : (d : Description) (history : List Step) (place : ℕ) (call : Call) (calls : List Call)
    (before after : EvdevView) → AreCalls before after calls
    → length before.seen ≡ next_place call.answer.reply → place < place_of call.answer.reply
    → IsPlaceOf place (call ∷ calls) → ⊥
unfolding IsPlaceOf
not_own d history place call calls before after h long below (inl same) = omega (arith, below, same.1)
not_own d history place call calls before after h long below (inr k) =
    let least : length before.seen ≤ place =
    place-least after.description after.seen (length before.seen) place calls
    (calls-legal before after calls h) k in
    let at : ℕ = place_of call.answer.reply in
    let next : at ≤ next_place call.answer.reply =
    cond_both (is_accepted call.answer.reply) (suc at) at (λ (n : ℕ). at ≤ n) (λ _. omega arith)
    (λ _. omega arith) in
    omega (arith, below, least, long, next)

-- the first call has no place from there on, so a use there is one of the calls that are left
pub later_own : (client : ℕ) (history : List Step) (before : ℕ) (call : Call) (calls : List Call) (least : ℕ)
    → least ≤ before → before ≡ next_place call.answer.reply → AreAllOwn client least history (call ∷ calls)
    → AreAllOwn client before history calls
unfolding IsPlaceOf
later_own client history before call calls least below long own =
    λ place x from at used. elim (own place x (omega (arith, below, from)) at used) [
      | inl same ↦ absurd
          (omega (
            arith,
            from,
            same.1,
            long,
            cond-true (is_accepted call.answer.reply) (suc (place_of call.answer.reply))
                (place_of call.answer.reply) same.0,
          ))
      | inr k ↦ k
    ]

-- the past at a later place is the steps that came since, newest first, and then those before
pub past_before : (history before more : List Step) (at : ℕ) → history ≡ before ++ more → length before ≤ at
    → past_at history at ≡ reverse (take (at - length before) more) ++ reverse before
past_before history before more at h from =
    let e : at ≡ length before + (at - length before) = omega (arith, from) in
    rw (← take-append-add, ← e, ← h) at (reverse-append before (take (at - length before) more))

met : (d : Description) (client : ℕ) (before between after : EvdevView) (call : Call) (calls : List Call)
    → before.description ≡ d → IsCall before between call → AreCalls between after calls
    → AreAllOwn client (length before.seen) after.seen (call ∷ calls)
    → IsMet d client (reverse before.seen) (reverse between.seen) call
met d client before between after call calls same c h own =
    let at : ℕ = place_of call.answer.reply in
    let n : ℕ = length before.seen in
    let more : List Step = c.seen.0 in
    let past : List Step = reverse before.seen in
    let others : List Step = reverse (take (at - n) more) in
    let e : past_at between.seen at ≡ others ++ past =
    past_before between.seen before.seen more at c.seen.1 c.fresh in
    let quiet_at : (k : ℕ) (x : Step) → slice_get (take (at - n) more) k ≡ Some x
    → is_use_of client x ≡ false = λ k x is.
    let t : (k < at - n) × (slice_get more k ≡ Some x) = slice_get-taken (at - n) k more x is in
    let there : slice_get between.seen (n + k) ≡ Some x =
    rw c.seen.1 (slice_get-behind before.seen more k x t.1) in
    let seen = seen-kept between after calls h in
    let later : slice_get after.seen (n + k) ≡ Some x =
    rw seen.1 (slice_get-longer between.seen seen.0 (n + k) x there) in
    false_from_ne_true (is_use_of client x) (λ used.
    not_own d after.seen (n + k) call calls between after h c.long (omega (arith, t.0))
    (own (n + k) x (omega arith) later used)) in
    record {
      others = others;
      quiet =
          quiet-reversed client (take (at - n) more) (quiet-from_places client (take (at - n) more) quiet_at);
      exact = rw (c.description, same, e) at c.placed.exact;
      entered =
          rw (
            entered_if (is_accepted call.answer.reply) call.step between.seen at c.long
                (λ is. c.placed.entered is),
            e,
          );
    }

are-met : (d : Description) (client : ℕ) (before after : EvdevView) (calls : List Call)
    → before.description ≡ d → AreCalls before after calls
    → AreAllOwn client (length before.seen) after.seen calls
    → AreMet d client (reverse before.seen) (reverse after.seen) calls
unfolding AreCalls AreMet
are-met d client before after [] same h own = rw h
are-met d client before after (call ∷ calls) same h own =
    let c : IsCall before h.0 call = h.1 in
    let between : EvdevView = h.0 in
    let longer : length before.seen ≤ length between.seen =
    omega (arith, ap length c.seen.1, length-append before.seen c.seen.0) in (
      reverse between.seen,
      met d client before between after call calls same c h.2 own,
      are-met d client between after calls (c.description ∙ same) h.2
          (later_own client after.seen (length between.seen) call calls (length before.seen) longer c.long
          own),
    )

-- What a caller shows of the places, read as the pasts of the calls.
pub says-met : (d : Description) (client : ℕ) (before after : EvdevView) (made : List CallMade)
    (calls : List Call) → before.description ≡ d → AreCalls before after calls → made ≡ calls_kept calls
    → ((place : ℕ) (x : Step) → length before.seen ≤ place → slice_get after.seen place ≡ Some x
    → is_use_of client x ≡ true → Contains (accepted_places made) place)
    → AreMet d client (reverse before.seen) (reverse after.seen) calls
says-met d client before after made calls same h kept alone =
    are-met d client before after calls same h
    (λ place x from at used. place-known calls place (rw kept at (alone place x from at used)))
