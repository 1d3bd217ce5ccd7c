-- How many entries of a sight are accepted calls at a place.
use Rattle.std.proofs.Common.{◌≡◌, ℕ, ◌+◌, true, ◌&&◌, if◌then◌else◌, nat_eq, nat_lt, List, [], ◌∷◌, ◌++◌}
use Rattle.std.proofs.Common.{refl, sym, ◌∙◌, zero-add, inl, inr, Option, Some, None}
use Rattle.std.specs.List.{count_by}
use Rattle.inp_script.specs.Legal.{LeavesOut}
use Rattle.inp_runs.specs.Job.{is_entry_at}
use Rattle.inp_runs.proofs.Common.{filter, sum_by, Step, Reply, is_again, is_accepted, Call, place_of, Sight}
use Rattle.inp_runs.proofs.Common.{JobView, Waiting, sight_of_calls, is_call_entry, call_sight, again_sight}
use Rattle.inp_runs.proofs.Common.{AreTold}
use Rattle.std.proofs.lemmas.List.Sums.{sum_by-cons, sum_by-append}
use Rattle.inp_model.specs.declared.reply.Reply.TheVariants.{Again as NothingVisible}
use Rattle.inp_script.specs.declared.sight.Sight.TheVariants.{Call as Called, Again}

-- the entries of one call
abbrev pub call_entries : Step → Reply → List Sight
call_entries x reply = call_sight x reply ++ again_sight reply

-- how many accepted calls at this place a sight tells of
abbrev pub entries : ℕ → List Sight → ℕ
entries place sight = count_by (is_entry_at place) sight

-- how many accepted calls of all jobs have this place
abbrev pub entries_at : ℕ → List JobView → ℕ
entries_at place jobs = sum_by (λ (job : JobView). entries place job.sight) jobs

-- one where the place is below this length
abbrev pub below : ℕ → ℕ → ℕ
below place n = if nat_lt place n then 1 else 0

-- the entries of two sights in a row are those of the first and those of the second
pub entries-append : (place : ℕ) (xs ys : List Sight)
    → entries place (xs ++ ys) ≡ entries place xs + entries place ys
entries-append place xs ys = sum_by-append (λ s. if is_entry_at place s then 1 else 0) xs ys

entries-cons : (place : ℕ) (x : Sight) (xs : List Sight)
    → entries place (x ∷ xs) ≡ (if is_entry_at place x then 1 else 0) + entries place xs
entries-cons place x xs = sum_by-cons (λ s. if is_entry_at place s then 1 else 0) x xs

-- the entries that are no calls count for nothing
pub entries-calls : (place : ℕ) (sight : List Sight)
    → entries place (filter is_call_entry sight) ≡ entries place sight
entries-calls place [] = refl
entries-calls place (Called x reply ∷ sight) =
    rw (entries-cons, entries-calls place sight) (sym (entries-cons place (Called x reply) sight))
entries-calls place (Again at ends ∷ sight) =
    rw (entries-cons place (Again at ends) (filter is_call_entry sight), entries-calls place sight)
    (sym (entries-cons place (Again at ends) sight))
entries-calls place (entry ∷ sight) =
    entries-calls place sight ∙ sym (zero-add (entries place sight)) ∙ sym (entries-cons place entry sight)

-- one call
pub entries-call : (place : ℕ) (x : Step) (reply : Reply)
    → entries place (call_entries x reply)
    ≡ (if is_accepted reply && nat_eq (place_of reply) place then 1 else 0)
entries-call place x (NothingVisible at ends) = refl
entries-call place x reply = zero-add (if is_accepted reply && nat_eq (place_of reply) place then 1 else 0)

-- the first call counts where it was accepted at the place, and the rest as without it
pub entries-cons_call : (place : ℕ) (call : Call) (calls : List Call)
    → entries place (sight_of_calls (call ∷ calls))
    ≡ (if is_accepted call.answer.reply && nat_eq (place_of call.answer.reply) place then 1 else 0) + entries
    place (sight_of_calls calls)
entries-cons_call place call calls = rw (entries-append, entries-call)

-- Calls that a sight leaves out

again_none : (place : ℕ) (reply : Reply) → is_again reply ≡ true
    → ◌≡◌ {A = ℕ} (if is_accepted reply && nat_eq (place_of reply) place then 1 else 0) 0
again_none place (NothingVisible at ends) h = refl
again_none place _ h = absurd cc

-- answers Again have no place
left_out-entries : (place : ℕ) (kept calls : List Call) → LeavesOut kept calls
    → entries place (sight_of_calls kept) ≡ entries place (sight_of_calls calls)
left_out-entries place kept [] out = rw out
left_out-entries place kept (call ∷ calls) (inl out) =
    rw (out.1, entries-cons_call place call out.0, left_out-entries place out.0 calls out.2)
    (sym (entries-cons_call place call calls))
left_out-entries place kept (call ∷ calls) (inr out) =
    rw (
      again_none place call.answer.reply out.0,
      zero-add (entries place (sight_of_calls calls)),
      ← left_out-entries place kept calls out.1,
    ) at (sym (entries-cons_call place call calls))

-- a sight has as many entries at a place as the calls that it tells of
pub told-counts : (wait : Option Waiting) (calls : List Call) (sight : List Sight) → AreTold wait calls sight
    → (place : ℕ) → entries place (sight_of_calls calls) ≡ entries place sight
told-counts None calls sight told = λ place. rw told (entries-calls place sight)
told-counts (Some waiting) calls sight told = λ place.
    rw (← left_out-entries place told.kept calls told.part, told.entries) (entries-calls place sight)
