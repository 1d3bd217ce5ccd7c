use Rattle.std.proofs.Common.{◌≡◌, ◌≢◌, None, Some, IsSome, [], ◌∷◌, List, ℕ, Option, arith, ap, ◌∙◌, sym}
use Rattle.std.proofs.Common.{subst, refl}
use Rattle.std.proofs.lemmas.List.{drop_all}
use Rattle.std.proofs.lemmas.List.Elements.{All-cons, All-nil}
use Rattle.circular_buffer.specs.Buffer.{buffer}
use Rattle.inp_ring.specs.declared.cell.Held.{Held}
use Rattle.inp_ring.specs.Store.{held_under, holders, holders_of}
use Rattle.inp_ring.specs.Ring.{times, AreHeldAlone, IsMoved}
use Rattle.inp_ring.proofs.Rings.{keep_last-all}
use Rattle.inp_ring.proofs.Times.{once_other}
use Rattle.inp_ring.proofs.Moves.{moved_add, moved_then, entry_same}
use Rattle.inp_ring.proofs.removal.replace_all.Goals as goal

pub add_held-number-requires : goal.add_held-number-requires
add_held-number-requires c = record { room = omega (arith, c.release_front.ensures.moved.spare) }

-- the one number that is there
only : (c : goal.After-push_back) → c.push_back.new.self.items ≡ c.add_held-number.result ∷ []
only c =
    let number = c.add_held-number.result in
    let rest : c.release_front.new.numbers ≡ buffer [] c.args.numbers.now.capacity =
    rw (c.release_front.ensures.rest, drop_all c.len-count.result c.args.numbers.now.items (omega arith)) in
    rw (c.push_back.ensures.items, rest)
    (keep_last-all c.args.numbers.now.capacity (number ∷ []) (omega arith))

-- all that was there is released
emptied : (c : goal.After-push_back)
    → IsMoved c.args.store.now c.release_front.new.store c.args.numbers.now.items []
emptied c =
    let P : List ℕ → Type 0 =
    λ r. IsMoved c.args.store.now c.release_front.new.store c.args.numbers.now.items r in
    subst P
    (rw c.release_front.ensures.rest (drop_all c.len-count.result c.args.numbers.now.items (omega arith)))
    c.release_front.ensures.moved.moved

pub returns-clause-moved : goal.returns-clause-moved
returns-clause-moved c =
    let came =
    moved_add c.add_held-number.result c.args.cell c.add_held-number.ensures.new
    c.add_held-number.ensures.added
    (omega (arith, c.add_held-number.ensures.spare, c.add_held-number.ensures.count)) in
    rw (only c) (moved_then (emptied c) came (λ n i e. refl))

pub returns-clause-alone : goal.returns-clause-alone
returns-clause-alone c =
    let store = c.add_held-number.new.self in
    let P : List ℕ → Type 0 = λ q. AreHeldAlone store q in
    subst P (sym (only c))
    (All-cons (λ (n : ℕ). holders store n ≡ 1) c.add_held-number.result []
    (ap holders_of c.add_held-number.ensures.added.changed) (All-nil (λ (n : ℕ). holders store n ≡ 1)))

pub returns-clause-fresh : goal.returns-clause-fresh
returns-clause-fresh c n there out =
    let here : held_under c.release_front.new.store n ≡ held_under c.args.store.now n =
    entry_same n (emptied c) there out refl in
    let other : c.add_held-number.result ≢ n =
    λ e. apart (held_under c.args.store.now n) there (sym here
    ∙ ap (held_under c.release_front.new.store) (sym e) ∙ c.add_held-number.ensures.new) in
    omega (arith, ap (times n) (only c), once_other n c.add_held-number.result other)
  where
    apart : (o : Option Held) → IsSome o → o ≡ None → ⊥
    apart None h e = cc
    apart (Some x) h e = cc
