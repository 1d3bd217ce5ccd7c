-- No more than 15 events ever wait, so room for these is enough.
use Rattle.std.proofs.Common.{◌≡◌, ℕ, ◌-◌, ◌≤◌, if◌then◌else◌, List, [], ◌∷◌, ◌++◌, length, take, drop, sym}
use Rattle.std.proofs.Common.{ap, ◌∙◌, arith, zero, suc, ◌+◌, refl}
use Rattle.std.specs.Prelude.{min}
use Rattle.std.proofs.lemmas.List.{length-drop, take_min, length-append, drop-append-le}
use Rattle.circular_buffer.specs.Buffer.{keep_last}
use Rattle.inp_model.specs.declared.event.Event.{Event}
use Rattle.inp_model.specs.Description.{Description}
use Rattle.inp_feedback.specs.declared.u_entry.UEntry.{UEntry}
use Rattle.inp_feedback.specs.declared.u_entry.UEntry.TheVariants.{Made, Feedback}
use Rattle.inp_feedback.specs.declared.fed.Fed.TheVariants.{Took, Full}
use Rattle.inp_feedback.specs.declared.fed.TheConstants.{FEEDBACK_MAX}
use Rattle.inp_feedback.specs.UEntry.{steps_in}
use Rattle.inp_feedback.specs.Sent.{sent_at_step, sent}
use Rattle.inp_feedback.specs.Feedback.{feedback_queue, is_full_of_feedback, taken_by_feedback, fed}
use Rattle.inp_feedback.specs.Feedback.{kept_after_feedback}
use Rattle.inp_feedback.specs.Laws.{WaitsOfAllSent}

keep_last-few : (n : ℕ) (es : List Event) → length (keep_last n es) ≤ n
keep_last-few n es = omega (arith, length-drop (length es - n) es)

drop-few : (n count : ℕ) (es : List Event) → length es ≤ n → length (drop count es) ≤ n
drop-few n count es h = omega (arith, length-drop count es, h)

pub queue-few : (d : Description) (kept : List UEntry) → length (feedback_queue d kept) ≤ FEEDBACK_MAX
unfolding feedback_queue
queue-few d [] = omega arith
queue-few d (Made x ∷ kept) =
    keep_last-few FEEDBACK_MAX (feedback_queue d kept ++ sent_at_step d (steps_in kept) x)
queue-few d (Feedback count ∷ kept) = drop-few FEEDBACK_MAX count (feedback_queue d kept) (queue-few d kept)

-- Room for as many events as ever wait takes the same as more room

min-few : (n most count : ℕ) → count ≤ most → min (min n most) count ≡ min n count
min-few n most count h = omega (arith, h)

take-few : (n most : ℕ) (es : List Event) → length es ≤ most → take (min n most) es ≡ take n es
take-few n most es h =
    sym (take_min (min n most) es) ∙ ap (λ (k : ℕ). take k es) (min-few n most (length es) h) ∙ take_min n es

pub room-enough-taken : (d : Description) (kept : List UEntry) (n : ℕ)
    → taken_by_feedback d kept (min n FEEDBACK_MAX) ≡ taken_by_feedback d kept n
room-enough-taken d kept n =
    ap (λ (es : List Event). if is_full_of_feedback d kept then [] else es)
    (take-few n FEEDBACK_MAX (feedback_queue d kept) (queue-few d kept))

pub room-enough : (d : Description) (kept : List UEntry) (n : ℕ)
    → fed d kept (min n FEEDBACK_MAX) ≡ fed d kept n
room-enough d kept n =
    ap (λ (es : List Event). if is_full_of_feedback d kept then Full (length (steps_in kept))
    else Took (length (steps_in kept)) (length es)) (room-enough-taken d kept n)

pub room-enough-kept : (d : Description) (kept : List UEntry) (n : ℕ)
    → kept_after_feedback d kept (min n FEEDBACK_MAX) ≡ kept_after_feedback d kept n
room-enough-kept d kept n =
    ap (λ (es : List Event). if is_full_of_feedback d kept then kept else Feedback (length es) ∷ kept)
    (room-enough-taken d kept n)

-- What waits without a feedback call is the last of all that was sent

drop-none : (n : ℕ) (xs : List Event) → xs ≡ [] → drop n xs ≡ []
drop-none zero xs h = h
drop-none (suc n) [] h = refl
drop-none (suc n) (x ∷ xs) h = absurd (cc h)

drop-twice : (n m : ℕ) (xs : List Event) → drop m (drop n xs) ≡ drop (n + m) xs
drop-twice zero m xs = let e : m ≡ 0 + m = omega arith in ap (λ (k : ℕ). drop k xs) e
drop-twice (suc n) m [] = drop-none m (drop (suc n) []) refl ∙ sym (drop-none (suc n + m) [] refl)
drop-twice (suc n) m (x ∷ xs) = let e : suc (n + m) ≡ suc n + m = omega arith in drop-twice n m xs
    ∙ ap (λ (k : ℕ). drop k (x ∷ xs)) e

-- what is kept of a list that was cut before is what is kept of the whole
keep_last-cut : (n : ℕ) (xs ys : List Event) → keep_last n (keep_last n xs ++ ys) ≡ keep_last n (xs ++ ys)
keep_last-cut n xs ys =
    let cut : ℕ = length xs - n in
    let within : cut ≤ length xs = omega arith in
    let rest : ℕ = length (drop cut xs ++ ys) - n in
    let count : cut + rest ≡ length (xs ++ ys) - n =
    omega (arith, length-append (drop cut xs) ys, length-append xs ys, length-drop cut xs) in
    ap (drop rest) (sym (drop-append-le cut xs ys within)) ∙ drop-twice cut rest (xs ++ ys)
    ∙ ap (λ k. drop k (xs ++ ys)) count

pub waits_of_all_sent : WaitsOfAllSent
unfolding feedback_queue sent
waits_of_all_sent d [] h = refl
waits_of_all_sent d (Made x ∷ kept) h =
    let es : List Event = sent_at_step d (steps_in kept) x in
    ap (λ q. keep_last FEEDBACK_MAX (q ++ es)) (waits_of_all_sent d kept h)
    ∙ keep_last-cut FEEDBACK_MAX (sent d (steps_in kept)) es
waits_of_all_sent d (Feedback count ∷ kept) h = absurd (omega arith)
