-- A legal run stays one where the history grows, where calls are added that follow it, and where calls that
-- were answered Again are left out.
use Rattle.std.proofs.Common.{◌≡◌, ℕ, ◌≤◌, inl, inr, true, false, List, [], ◌∷◌, ◌++◌, length, refl, arith}
use Rattle.std.proofs.lemmas.Option.{slice_get_within}
use Rattle.std.proofs.lemmas.Bool.{cond_both}
use Rattle.inp_model.specs.Run.{IsLegalRun, next_place}
use Rattle.inp_script.proofs.Common.{Step, Reply, Description, is_accepted, EvdevView, BeginsWith, is_again}
use Rattle.inp_script.proofs.Common.{Call, HasPlace, IsLegalFrom, place_of, AreCalls, LeavesOut}
use Rattle.inp_model.proofs.Leaves.{HasPlace-longer, calls-legal, description-kept, seen-kept}

-- Fewer answers Again

-- calls that are left out of a part were answered Again there, and so in the whole
pub leaves_out-append : (kept more calls others : List Call) → LeavesOut kept calls → LeavesOut more others
    → LeavesOut (kept ++ more) (calls ++ others)
leaves_out-append kept more [] others h k = rw h k
leaves_out-append kept more (call ∷ calls) others (inl h) k =
    inl (h.0 ++ more, rw h.1, leaves_out-append h.0 more calls others h.2 k)
leaves_out-append kept more (call ∷ calls) others (inr h) k =
    inr (h.0, leaves_out-append kept more calls others h.1 k)

-- a call is itself with nothing left out
pub leaves_out-none : (call : Call) → LeavesOut (call ∷ []) (call ∷ [])
leaves_out-none call = inl ([], refl, refl)

again_place : (reply : Reply) → is_again reply ≡ true → is_accepted reply ≡ false
again_place reply h = grind arith

module _ (d : Description) where
  legal-weaker : (h : List Step) (least lower : ℕ) (calls : List Call) → lower ≤ least
      → IsLegalFrom d h least calls → IsLegalFrom d h lower calls
  legal-weaker h least lower [] less l = tt
  legal-weaker h least lower (call ∷ calls) less l = (omega (arith, l.0, less), l.1, l.2)

  module _ (h : List Step) where
    -- an accepted step stands in the history, and any other call's place is within its length
    pub next_place-within : (call : Call) → HasPlace d h call → next_place call.answer.reply ≤ length h
    next_place-within call p =
        cond_both (is_accepted call.answer.reply) _ _ (λ n. n ≤ length h)
        (λ e. omega (arith, slice_get_within h (place_of call.answer.reply) call.step (p.entered e)))
        (λ e. p.within)

    legal-append : (k : List Step) (least : ℕ) (before calls : List Call) → BeginsWith h k → least ≤ length h
        → IsLegalFrom d h least before → IsLegalFrom d k (length h) calls
        → IsLegalFrom d k least (before ++ calls)
    legal-append k least [] calls begins less l m = legal-weaker k (length h) least calls less m
    legal-append k least (call ∷ before) calls begins less l m = (
      l.0,
      HasPlace-longer d h k call begins l.1,
      legal-append k _ before calls begins (next_place-within call l.1) l.2 m,
    )

  -- a legal run goes on with the calls that are made
  pub runs-on : (a b : EvdevView) (before calls : List Call) → a.description ≡ d → IsLegalRun d a.seen before
      → AreCalls a b calls → IsLegalRun d b.seen (before ++ calls)
  runs-on a b before calls same l are =
      legal-append a.seen b.seen 0 before calls (seen-kept a b calls are) (omega arith) l
      (rw (description-kept a b calls are, same) at (calls-legal a b calls are))

  -- a legal run less some answers Again is one
  pub legal-less : (h : List Step) (least : ℕ) (kept calls : List Call) → LeavesOut kept calls
      → IsLegalFrom d h least calls → IsLegalFrom d h least kept
  legal-less h least kept [] out l = rw out tt
  legal-less h least kept (call ∷ calls) (inl out) l =
      rw out.1 (l.0, l.1, legal-less h _ out.0 calls out.2 l.2)
  legal-less h least kept (call ∷ calls) (inr out) l =
      let stays : next_place call.answer.reply ≡ place_of call.answer.reply =
      rw (again_place call.answer.reply out.0) in
      legal-less h least kept calls out.1 (legal-weaker h _ least calls (omega (arith, l.0, stays)) l.2)
