-- An owner's feedback calls among what its device kept.
use Rattle.std.proofs.Common.{◌≡◌, ℕ, suc, ◌≤◌, ◌<◌, false, nat_eq, List, [], ◌∷◌, ◌++◌, length, reverse}
use Rattle.std.proofs.Common.{refl, sym, ap, subst, ◌∙◌, arith, inl, inr, Option, None, length-append}
use Rattle.std.specs.Prelude.{All, map, is_some}
use Rattle.std.specs.List.{count_by}
use Rattle.std.specs.Option.{option_and_then}
use Rattle.std.proofs.lemmas.List.{length-reverse, reverse-append, reverse-reverse}
use Rattle.std.proofs.lemmas.List.Elements.{All-nil, All-push, All-weaker}
use Rattle.inp_recon.proofs.ReadEntries.{get-front}
use mathlib.Core.List.{IsPrefix}
use Rattle.inp_script.proofs.Common.{Description, UEntry, step_made, steps_in}
use Rattle.inp_port.specs.Entries.{is_step_at}
use Rattle.inp_threads.specs.Owner.{HasCallsAt}
use Rattle.inp_threads.proofs.Common.{PassView, steps_among, step_places, HasFedLines}
use Rattle.inp_turn.proofs.Places.{here-other, count-cons, count-append}
use Rattle.inp_port.proofs.Places.{slice_get-seam, step_places-append, step_places-begins}
use Rattle.inp_feedback.specs.declared.u_entry.UEntry.TheVariants.{Made, Feedback}
use Rattle.inp_feedback.proofs.Lists.{reverse-cons}
use Rattle.inp_uinput.proofs.ServedEntries.{steps-reverse}
use Rattle.inp_script.specs.Owner.{OwnerState, first_owning}
use Rattle.inp_runs.specs.Owner.{HasFed, HasOwned}
use Rattle.inp_runs.proofs.owners.OwnerLaws.{ends-steps, free-goes_on, grew-free}

-- the place of each feedback call that a device kept, newest first, is one of these
unfoldable pub HasAllCalls : List UEntry → List ℕ → Type 0
HasAllCalls [] own = Unit {0}
HasAllCalls (Made x ∷ kept) own = HasAllCalls kept own
HasAllCalls (Feedback count ∷ kept) own = (1 ≤ count_by (nat_eq (length kept)) own) × HasAllCalls kept own

-- before the first call
pub no-calls : (d : Description) (view : PassView Description UEntry) (o : OwnerState) → view.seen ≡ []
    → view.own ≡ [] → o ≡ first_owning → HasCallsAt d (reverse view.seen) view.own [] o
unfolding HasCallsAt
no-calls d view o seen own first = rw seen (own, refl, first)

-- they were made, so the owner goes on
pub calls-go_on : (d : Description) (kept : List UEntry) (own rooms : List ℕ) (o : OwnerState)
    → HasCallsAt d kept own rooms o → o.stop ≡ None
unfolding HasCallsAt
calls-go_on d [] own rooms o h = rw h.2
calls-go_on d (Made x ∷ kept) own rooms o h = calls-go_on d kept own rooms o h
calls-go_on d (Feedback count ∷ kept) own rooms o (inl h) = calls-go_on d kept own rooms o h
calls-go_on d (Feedback count ∷ kept) own rooms o (inr (earlier, done, before, h, next)) =
    rw next.told (free-goes_on d kept next.room (grew-free d kept next.room (Feedback count) next.answered))

-- what others did behind them changes nothing
pub calls-longer : (d : Description) (more kept : List UEntry) (own rooms : List ℕ) (o : OwnerState)
    → HasCallsAt d kept own rooms o → HasCallsAt d (more ++ kept) own rooms o
unfolding HasCallsAt
calls-longer d [] kept own rooms o h = h
calls-longer d (Made x ∷ more) kept own rooms o h = calls-longer d more kept own rooms o h
calls-longer d (Feedback count ∷ more) kept own rooms o h = inl (calls-longer d more kept own rooms o h)

-- Their places

-- a call stands behind what was kept before it, so its place is within what is kept now
pub calls-within : (d : Description) (kept : List UEntry) (own rooms : List ℕ) (o : OwnerState)
    → HasCallsAt d kept own rooms o → All (λ place. place < length kept) own
unfolding HasCallsAt
calls-within d [] own rooms o h = subst (All (λ place. place < 0)) (sym h.0) (All-nil (λ place. place < 0))
calls-within d (Made x ∷ kept) own rooms o h =
    All-weaker (λ place. place < length kept) (λ place. place < suc (length kept))
    (λ place l. omega (arith, l)) own (calls-within d kept own rooms o h)
calls-within d (Feedback count ∷ kept) own rooms o (inl h) =
    All-weaker (λ place. place < length kept) (λ place. place < suc (length kept))
    (λ place l. omega (arith, l)) own (calls-within d kept own rooms o h)
calls-within d (Feedback count ∷ kept) own rooms o (inr (earlier, done, before, h, next)) =
    subst (All (λ place. place < suc (length kept))) (sym next.place)
    (All-push (λ place. place < suc (length kept)) earlier (length kept)
    (All-weaker (λ place. place < length kept) (λ place. place < suc (length kept))
    (λ place l. omega (arith, l)) earlier (calls-within d kept earlier done before h))
    (omega arith))

-- a place behind them is none of theirs
pub none-behind : (d : Description) (kept : List UEntry) (own rooms : List ℕ) (o : OwnerState) (place : ℕ)
    → HasCallsAt d kept own rooms o → length kept ≤ place → count_by (nat_eq place) own ≡ 0
unfolding HasCallsAt
none-behind d [] own rooms o place h l = ap (count_by (nat_eq place)) h.0
none-behind d (Made x ∷ kept) own rooms o place h l =
    none-behind d kept own rooms o place h (omega (arith, l))
none-behind d (Feedback count ∷ kept) own rooms o place (inl h) l =
    none-behind d kept own rooms o place h (omega (arith, l))
none-behind d (Feedback count ∷ kept) own rooms o place (inr (earlier, done, before, h, next)) l =
    let none : count_by (nat_eq place) earlier ≡ 0 =
    none-behind d kept earlier done before place h (omega (arith, l)) in
    omega (
      arith,
      none,
      ap (count_by (nat_eq place)) next.place,
      count-append place earlier (length kept ∷ []),
      count-cons place (length kept) [],
      here-other place (length kept) (λ e. omega (arith, e, l)),
    )

begins-cons : (kept : List UEntry) (e : UEntry) → IsPrefix (reverse kept) (reverse (e ∷ kept))
begins-cons kept e = (e ∷ [], sym (reverse-cons kept e))

within-reverse : (kept : List UEntry) (own : List ℕ) → All (λ place. place < length kept) own
    → All (λ place. place < length (reverse kept)) own
within-reverse kept own all =
    All-weaker (λ place. place < length kept) (λ place. place < length (reverse kept))
    (λ place l. omega (arith, l, length-reverse kept)) own all

same-steps : (kept : List UEntry) (e : UEntry) (own : List ℕ) → All (λ place. place < length kept) own
    → step_places step_made (reverse (e ∷ kept)) own ≡ step_places step_made (reverse kept) own
same-steps kept e own all =
    step_places-begins step_made (reverse kept) (reverse (e ∷ kept)) own (begins-cons kept e)
    (within-reverse kept own all)

call-no_step : (kept : List UEntry) (count : ℕ)
    → is_step_at step_made (reverse (Feedback count ∷ kept)) (length kept) ≡ false
call-no_step kept count =
    (λ i. is_step_at step_made (reverse-cons kept (Feedback count) i) (sym (length-reverse kept) i))
    ∙ ap (λ (o : Option UEntry). is_some (option_and_then step_made o))
    (slice_get-seam (reverse kept) [] (Feedback count))

-- no step stands at one of them
pub calls-no_steps : (d : Description) (kept : List UEntry) (own rooms : List ℕ) (o : OwnerState)
    → HasCallsAt d kept own rooms o → step_places step_made (reverse kept) own ≡ []
unfolding HasCallsAt
calls-no_steps d [] own rooms o h = ap (step_places step_made []) h.0
calls-no_steps d (Made x ∷ kept) own rooms o h =
    same-steps kept (Made x) own (calls-within d kept own rooms o h) ∙ calls-no_steps d kept own rooms o h
calls-no_steps d (Feedback count ∷ kept) own rooms o (inl h) =
    same-steps kept (Feedback count) own (calls-within d kept own rooms o h)
    ∙ calls-no_steps d kept own rooms o h
calls-no_steps d (Feedback count ∷ kept) own rooms o (inr (earlier, done, before, h, next)) =
    let now : List UEntry = reverse (Feedback count ∷ kept) in
    let first : step_places step_made now earlier ≡ [] =
    same-steps kept (Feedback count) earlier (calls-within d kept earlier done before h)
    ∙ calls-no_steps d kept earlier done before h in
    let last : step_places step_made now (length kept ∷ []) ≡ [] =
    no_step now (length kept) (call-no_step kept count) in
    ap (step_places step_made now) next.place ∙ step_places-append step_made now earlier (length kept ∷ [])
    ∙ (λ i. first i ++ last i)
  where
    no_step : (entries : List UEntry) (place : ℕ) → is_step_at step_made entries place ≡ false
        → step_places step_made entries (place ∷ []) ≡ []
    no_step entries place away = rw away refl

-- Where all feedback calls are the owner's

all-earlier : (kept : List UEntry) (earlier : List ℕ) (place : ℕ) → length kept ≤ place
    → HasAllCalls kept (earlier ++ place ∷ []) → HasAllCalls kept earlier
unfolding HasAllCalls
all-earlier [] earlier place l h = tt
all-earlier (Made x ∷ kept) earlier place l h = all-earlier kept earlier place (omega (arith, l)) h
all-earlier (Feedback count ∷ kept) earlier place l h = (
  omega (
    arith,
    h.0,
    count-append (length kept) earlier (place ∷ []),
    count-cons (length kept) place [],
    here-other (length kept) place (λ e. omega (arith, e, l)),
  ),
  all-earlier kept earlier place (omega (arith, l)) h.1,
)

pub all-fed : (d : Description) (kept : List UEntry) (own rooms : List ℕ) (o : OwnerState)
    → HasCallsAt d kept own rooms o → HasAllCalls kept own → HasFed d kept rooms o
unfolding HasCallsAt HasAllCalls HasFed
all-fed d [] own rooms o h all = rw h.1 h.2
all-fed d (Made x ∷ kept) own rooms o h all = all-fed d kept own rooms o h all
all-fed d (Feedback count ∷ kept) own rooms o (inl h) all =
    absurd (omega (arith, all.0, none-behind d kept own rooms o (length kept) h (omega arith)))
all-fed d (Feedback count ∷ kept) own rooms o (inr (earlier, done, before, h, next)) all =
    let rest : HasAllCalls kept earlier =
    all-earlier kept earlier (length kept) (omega arith) (subst (HasAllCalls kept) next.place all.1) in
    rw next.rooms_are
    (before, all-fed d kept earlier done before h rest, next.answered, next.told)

-- only steps stand behind the last of them
only-steps : (more kept : List UEntry) (own : List ℕ) → HasAllCalls (more ++ kept) own
    → ((place : ℕ) → length kept ≤ place → count_by (nat_eq place) own ≡ 0) → more ≡ map Made (steps_in more)
unfolding HasAllCalls
only-steps [] kept own all none = refl
only-steps (Made x ∷ more) kept own all none = rw (← only-steps more kept own all none)
only-steps (Feedback count ∷ more) kept own all none =
    absurd (omega (arith, all.0, none (length (more ++ kept)) (omega (arith, length-append more kept))))

-- An owner that did its lines owned all feedback calls of the device, of which its pass saw a beginning.
pub lines-owned : (d : Description) (rooms : List ℕ) (view : PassView Description UEntry)
    (entries : List UEntry) (last : OwnerState) → HasFedLines d rooms view last → IsPrefix view.seen entries
    → HasAllCalls (reverse entries) view.own
    → HasOwned d (steps_among step_made entries) rooms last
lines-owned d rooms view entries last h begins all =
    let kept : List UEntry = reverse view.seen in
    let more : List UEntry = reverse begins.0 in
    let whole : reverse entries ≡ more ++ kept =
    ap reverse (sym begins.1) ∙ reverse-append view.seen begins.0 in
    let here : HasAllCalls (more ++ kept) view.own = rw whole at all in
    let steps : more ≡ map Made (steps_in more) =
    only-steps more kept view.own here
    (λ place l. none-behind d kept view.own h.done h.before place h.calls l) in
    record {
      kept = more ++ kept;
      steps = rw (← whole, steps-reverse entries) (reverse-reverse (steps_in entries));
      done = h.done;
      before = h.before;
      fed =
          all-fed d (more ++ kept) view.own h.done h.before
          (calls-longer d more kept view.own h.done h.before h.calls) here;
      ends = rw steps
          (ends-steps d kept rooms h.done h.before last (steps_in more) h.ends);
    }

-- each place that has no step is owned
same-place : (kept : List UEntry) (e : UEntry) (place : ℕ) → place < length kept
    → is_step_at step_made (reverse (e ∷ kept)) place ≡ is_step_at step_made (reverse kept) place
same-place kept e place l =
    rw (reverse-cons kept e, get-front (reverse kept) (e ∷ []) place (omega (arith, l, length-reverse kept)))

-- a feedback call's place has no step, and each such place is owned
pub all-calls : (kept : List UEntry) (own : List ℕ)
    → ((place : ℕ) → place < length kept → is_step_at step_made (reverse kept) place ≡ false
    → 1 ≤ count_by (nat_eq place) own) → HasAllCalls kept own
unfolding HasAllCalls
all-calls [] own each = tt
all-calls (Made x ∷ kept) own each =
    all-calls kept own (λ place l away.
    each place (omega (arith, l)) (same-place kept (Made x) place l ∙ away))
all-calls (Feedback count ∷ kept) own each = (
  each (length kept) (omega arith) (call-no_step kept count),
  all-calls kept own (λ place l away.
      each place (omega (arith, l)) (same-place kept (Feedback count) place l ∙ away)),
)
