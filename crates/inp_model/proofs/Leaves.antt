-- What calls on an evdev leave, one after another: none, one, and others behind them.
use Rattle.std.proofs.Common.{◌≡◌, ◌≤◌, ◌<◌, ℕ, Bool, true, false, if◌then◌else◌, List, [], ◌∷◌, ◌++◌, length}
use Rattle.std.proofs.Common.{reverse, refl, sym, subst, ◌∙◌, arith, append_assoc, append-nil, length-append}
use Rattle.std.proofs.Common.{Some}
use Rattle.std.proofs.lemmas.List.{take-append-le, get_or_append_left}
use Rattle.std.proofs.lemmas.Option.{slice_get-get_or, slice_get_within, get_or_from_slice_get}
use Rattle.std.specs.List.{slice_get}
use Rattle.inp_model.specs.declared.step.Step.{Step}
use Rattle.inp_model.specs.declared.reply.Reply.{Reply}
use Rattle.inp_model.specs.Description.{Description}
use Rattle.inp_model.specs.Evdev.{EvdevView, IsCall, BeginsWith, own_after}
use Rattle.inp_model.specs.History.{IsHistory}
use Rattle.inp_model.specs.Leaves.{AreCalls, places_of, agains_after_calls, Leaves, IsLeft}
use Rattle.inp_model.specs.Past.{past_at}
use Rattle.inp_model.specs.Reply.{is_accepted}
use Rattle.inp_model.specs.Run.{Call, place_of, HasPlace, IsLegalFrom}

-- What stays

pub description-kept : (before after : EvdevView) (calls : List Call) → AreCalls before after calls
    → after.description ≡ before.description
unfolding AreCalls
description-kept before after [] h = rw h
description-kept before after (call ∷ calls) h = let c : IsCall before h.0 call =
    h.1 in description-kept h.0 after calls h.2 ∙ c.description

pub tie-kept : (before after : EvdevView) (calls : List Call) → AreCalls before after calls
    → after.tie ≡ before.tie
unfolding AreCalls
tie-kept before after [] h = rw h
tie-kept before after (call ∷ calls) h = let c : IsCall before h.0 call =
    h.1 in tie-kept h.0 after calls h.2 ∙ c.tie

pub BeginsWith-trans : (xs ys zs : List Step) → BeginsWith xs ys → BeginsWith ys zs → BeginsWith xs zs
BeginsWith-trans xs ys zs h k = (h.0 ++ k.0, rw (k.1, h.1) (append_assoc xs h.0 k.0))

pub seen-kept : (before after : EvdevView) (calls : List Call) → AreCalls before after calls
    → BeginsWith before.seen after.seen
unfolding AreCalls
seen-kept before after [] h = ([], rw h (sym (append-nil before.seen)))
seen-kept before after (call ∷ calls) h =
    let c : IsCall before h.0 call = h.1 in
    let between : EvdevView = h.0 in
    BeginsWith-trans before.seen between.seen after.seen c.seen (seen-kept h.0 after calls h.2)

-- Own places

own_more : (reply : Reply) (own : List ℕ) → own_after reply own ≡ own ++ own_after reply []
own_more reply own = by_flag (is_accepted reply)
  where
    by_flag : (b : Bool)
        → (if b then own ++ place_of reply ∷ [] else own) ≡ own
        ++ (if b then [] ++ place_of reply ∷ [] else [])
    by_flag true = refl
    by_flag false = sym (append-nil own)

pub own-grown : (before after : EvdevView) (calls : List Call) → AreCalls before after calls
    → after.own ≡ before.own ++ places_of calls
unfolding AreCalls
own-grown before after [] h = rw h (sym (append-nil before.own))
own-grown before after (call ∷ calls) h =
    let c : IsCall before h.0 call = h.1 in
    let one : List ℕ = own_after call.answer.reply [] in
    rw (own-grown h.0 after calls h.2, c.own, own_more) (append_assoc before.own one (places_of calls))

-- Answers Again

pub agains-counted : (before after : EvdevView) (calls : List Call) → AreCalls before after calls
    → after.agains ≡ agains_after_calls calls before.agains
unfolding AreCalls
agains-counted before after [] h = rw h
agains-counted before after (call ∷ calls) h =
    let c : IsCall before h.0 call = h.1 in
    rw (agains-counted h.0 after calls h.2, c.agains)

-- Accepted steps

pub history-kept : (before after : EvdevView) (calls : List Call) → AreCalls before after calls
    → IsHistory before.description (reverse before.seen) → IsHistory after.description (reverse after.seen)
unfolding AreCalls
history-kept before after [] h k = rw h k
history-kept before after (call ∷ calls) h k =
    let c : IsCall before h.0 call = h.1 in
    history-kept h.0 after calls h.2 c.history

-- A legal run

pub past_at-longer : (history more : List Step) (at : ℕ) → at ≤ length history
    → past_at (history ++ more) at ≡ past_at history at
past_at-longer history more at h = rw take-append-le

pub slice_get-longer : (history more : List Step) (at : ℕ) (x : Step) → slice_get history at ≡ Some x
    → slice_get (history ++ more) at ≡ Some x
slice_get-longer history more at x h =
    let within : at < length history = slice_get_within history at x h in
    rw (
      slice_get-get_or (history ++ more) at x (omega (arith, length-append history more)),
      get_or_append_left history more x at within,
      get_or_from_slice_get history at x x h,
    )

-- a call keeps its place in a longer history
pub HasPlace-longer : (d : Description) (history longer : List Step) (call : Call) → BeginsWith history longer
    → HasPlace d history call → HasPlace d longer call
HasPlace-longer d history longer call h p =
    let at : ℕ = place_of call.answer.reply in
    let P : List Step → Type 0 = λ xs. HasPlace d xs call in
    subst P (sym h.1) (record {
      within = omega (arith, p.within, length-append history h.0);
      exact = rw (past_at-longer history h.0 at p.within) p.exact;
      entered = λ is. slice_get-longer history h.0 at call.step (p.entered is);
    })

pub calls-legal : (before after : EvdevView) (calls : List Call) → AreCalls before after calls
    → IsLegalFrom after.description after.seen (length before.seen) calls
unfolding AreCalls
calls-legal before after [] h = tt
calls-legal before after (call ∷ calls) h =
    let c : IsCall before h.0 call = h.1 in
    let between : EvdevView = h.0 in
    let d : HasPlace after.description between.seen call =
    rw (description-kept h.0 after calls h.2) c.placed in (
      c.fresh,
      HasPlace-longer after.description between.seen after.seen call (seen-kept h.0 after calls h.2) d,
      rw c.long at (calls-legal h.0 after calls h.2),
    )

-- All of it

pub calls-leave : (before after : EvdevView) (calls : List Call) → AreCalls before after calls
    → Leaves before after calls
calls-leave before after calls h = record {
  description = description-kept before after calls h;
  tie = tie-kept before after calls h;
  seen = seen-kept before after calls h;
  own = own-grown before after calls h;
  agains = agains-counted before after calls h;
  legal = calls-legal before after calls h;
  history = history-kept before after calls h;
}

pub calls-left : (before after : EvdevView) (calls : List Call) → AreCalls before after calls
    → IsLeft before after
calls-left before after calls h =
    record { calls = calls; are_calls = h; leaves = calls-leave before after calls h }

pub AreCalls-append : (before between after : EvdevView) (calls more : List Call)
    → AreCalls before between calls → AreCalls between after more → AreCalls before after (calls ++ more)
unfolding AreCalls
AreCalls-append before between after [] more h k = rw h at k
AreCalls-append before between after (call ∷ calls) more h k =
    (h.0, h.1, AreCalls-append h.0 between after calls more h.2 k)

-- no call
pub left-none : (told : EvdevView) → IsLeft told told
unfolding AreCalls
left-none told = calls-left told told [] refl

-- one call
pub left-one : (before after : EvdevView) (call : Call) → IsCall before after call → IsLeft before after
unfolding AreCalls
left-one before after call h = calls-left before after (call ∷ []) (after, h, refl)

-- calls, and then others
pub left-then : (before between after : EvdevView) → IsLeft before between → IsLeft between after
    → IsLeft before after
left-then before between after h k =
    calls-left before after (h.calls ++ k.calls)
    (AreCalls-append before between after h.calls k.calls h.are_calls k.are_calls)
