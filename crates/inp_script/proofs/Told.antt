-- What a line adds to a sight tells of its calls: of each, but for some that were answered Again.
use Rattle.std.proofs.Common.{◌≡◌, ℕ, inl, inr, Bool, true, false, if◌then◌else◌, List, [], ◌∷◌, ◌++◌, map}
use Rattle.std.proofs.Common.{refl, sym, append_assoc, append-nil, Some, None}
use Rattle.std.specs.Prelude.{filter}
use Rattle.std.proofs.lemmas.List.Elements.{filter-append}
use Rattle.std.proofs.lemmas.Bool.{cond_both}
use Rattle.inp_script.proofs.Common.{Taken, Step, Reply, is_again, Call, Sight, Job, call_sight, again_sight}
use Rattle.inp_script.proofs.Common.{taken_sight, noted, Talk, finish, ask, LeadsTo, EndsWith}
use Rattle.inp_script.proofs.Common.{sight_of_calls, is_call_entry, LeavesOut}
use Rattle.inp_model.specs.declared.reply.Reply.TheVariants.{Again as NothingVisible}
use Rattle.inp_script.specs.declared.sight.Sight.TheVariants.{Again}
use Rattle.inp_script.proofs.Runs.{leaves_out-append, leaves_out-none}
use Rattle.inp_script.specs.Sight.{sight_of_call}

-- these calls made the one sight of the other
pub record Tells (calls : List Call) (old new : List Sight) : Type 0 where
  -- the entries that were added
  pub gained : List Sight
  -- they stand behind the old ones
  pub sight : new ≡ old ++ gained
  -- the calls that are told
  pub kept : List Call
  -- only calls that were answered Again are left out
  pub part : LeavesOut kept calls
  -- of the entries added, those of calls are the ones of the calls told
  pub entries : sight_of_calls kept ≡ filter is_call_entry gained

-- no call was made, and no entry added
pub tells-none : (sight : List Sight) → Tells [] sight sight
tells-none sight =
    record { gained = []; sight = sym (append-nil sight); kept = []; part = refl; entries = refl }

-- each call adds entries of its own, so they follow one another as the calls do
pub sight_of_calls-append : (calls more : List Call)
    → sight_of_calls (calls ++ more) ≡ sight_of_calls calls ++ sight_of_calls more
sight_of_calls-append [] more = refl
sight_of_calls-append (call ∷ calls) more =
    let e : List Sight = call_sight call.step call.answer.reply ++ again_sight call.answer.reply in
    rw (sight_of_calls-append calls more) (sym (append_assoc e (sight_of_calls calls) (sight_of_calls more)))

-- more calls add their entries behind those of the first
pub tells-then : (calls more : List Call) (old mid new : List Sight) → Tells calls old mid
    → Tells more mid new → Tells (calls ++ more) old new
tells-then calls more old mid new s t = record {
  gained = s.gained ++ t.gained;
  sight = rw (t.sight, s.sight) (append_assoc old s.gained t.gained);
  kept = s.kept ++ t.kept;
  part = leaves_out-append s.kept t.kept calls more s.part t.part;
  entries =
      rw (sight_of_calls-append, s.entries, t.entries) (sym (filter-append is_call_entry s.gained t.gained));
}

-- an entry of an event tells of no call
pub tells-event : (sight : List Sight) (entry : Sight) → is_call_entry entry ≡ false
    → Tells [] sight (sight ++ entry ∷ [])
tells-event sight entry h = record {
  gained = entry ∷ [];
  sight = refl;
  kept = [];
  part = refl;
  entries = rw h;
}

-- One call

-- the entry of an event that was read is none of a call
pub no_calls_taken : (events : List Taken) → filter is_call_entry (map taken_sight events) ≡ []
no_calls_taken [] = refl
no_calls_taken (taken ∷ events) = no_calls_taken events

-- the entry of a call counts as one of a call
pub call_kept : (x : Step) (reply : Reply) → filter is_call_entry (call_sight x reply) ≡ call_sight x reply
call_kept x (NothingVisible at ends) = refl
call_kept x reply = refl

-- the entry of an answer Again counts as one of a call
pub again_kept : (reply : Reply) → filter is_call_entry (again_sight reply) ≡ again_sight reply
again_kept (NothingVisible at ends) = refl
again_kept _ = refl

-- a single call adds its own entry, and the events that it read tell of no call
pub tells-call : (x : Step) (call : Call) (sight : List Sight) → call.step ≡ x
    → Tells (call ∷ []) sight (sight ++ sight_of_call x call.answer.reply call.answer.events)
tells-call x call sight same =
    let reply : Reply = call.answer.reply in
    let events : List Sight = map taken_sight call.answer.events in
    record {
      gained = sight_of_call x reply call.answer.events;
      sight = refl;
      kept = call ∷ [];
      part = leaves_out-none call;
      entries =
          cc (
            append-nil (call_sight call.step reply ++ again_sight reply),
            same,
            call_kept x reply,
            again_kept reply,
            filter-append is_call_entry (call_sight x reply) (again_sight reply),
            append-nil (filter is_call_entry (call_sight x reply ++ again_sight reply)),
            no_calls_taken call.answer.events,
            sym (filter-append is_call_entry (call_sight x reply ++ again_sight reply) events),
          );
    }

-- Talks that are noted

-- what the calls of a talk add where it is noted
abbrev pub noted_sight : List Call → List Sight
noted_sight [] = []
noted_sight (call ∷ calls) = call_sight call.step call.answer.reply ++ noted_sight calls

abbrev pub without_agains : List Call → List Call
without_agains [] = []
without_agains (call ∷ calls) =
    if is_again call.answer.reply then without_agains calls else call ∷ without_agains calls

-- a talk is noted call by call, so its calls are the same and their entries are added
pub noted-back : {A : Type 0} (talk : Talk A) (sight : List Sight) (calls : List Call) (o : A × List Sight)
    → EndsWith (noted talk sight) calls o → EndsWith talk calls o.0 × (o.1 ≡ sight ++ noted_sight calls)
unfolding LeadsTo
noted-back {A = A} (finish a) sight [] o h =
    let same : (a, sight) ≡ o = cc in
    (rw (← same), rw (← same) (sym (append-nil sight)))
noted-back (finish a) sight (call ∷ calls) o h = elim h [ ]
noted-back (ask x rest) sight [] o h = absurd cc
noted-back (ask x rest) sight (call ∷ calls) o h =
    let reply : Reply = call.answer.reply in
    let m = noted-back _ _ calls o h.1 in
    ((h.0, m.0), rw (m.1, append_assoc, ← h.0))

leaves_agains_out : (calls : List Call) → LeavesOut (without_agains calls) calls
leaves_agains_out [] = refl
leaves_agains_out (call ∷ calls) =
    (cond_both (is_again call.answer.reply) _ _ (λ x. LeavesOut (without_agains calls) calls
    → LeavesOut x (call ∷ calls))
    (λ e out. inr (e, out)) (λ e out. inl (without_agains calls, refl, out))) (leaves_agains_out calls)

-- only an answer Again has an entry of an answer Again
pub not_again : (reply : Reply) → is_again reply ≡ false → again_sight reply ≡ []
not_again (NothingVisible at ends) h = absurd cc
not_again _ h = refl

entries_without_agains : (calls : List Call)
    → sight_of_calls (without_agains calls) ≡ filter is_call_entry (noted_sight calls)
entries_without_agains [] = refl
entries_without_agains (call ∷ calls) =
    let entry : List Sight = call_sight call.step call.answer.reply in
    rw filter-append
    (cond_both (is_again call.answer.reply) _ _
    (λ cs. sight_of_calls cs ≡ filter is_call_entry entry ++ filter is_call_entry (noted_sight calls))
    (λ e. rw (e, ← entries_without_agains calls))
    (λ e. cc (
      not_again call.answer.reply e,
      append-nil entry,
      call_kept call.step call.answer.reply,
      entries_without_agains calls,
    )))

-- where a talk is noted, only the calls answered Again are left out
pub tells-noted : (calls : List Call) (old new : List Sight) → new ≡ old ++ noted_sight calls
    → Tells calls old new
tells-noted calls old new h =
    record {
      gained = noted_sight calls;
      sight = h;
      kept = without_agains calls;
      part = leaves_agains_out calls;
      entries = entries_without_agains calls;
    }

-- the same of calls of which the last one was answered Again, which is told too
pub noted_sight-append : (calls more : List Call)
    → noted_sight (calls ++ more) ≡ noted_sight calls ++ noted_sight more
noted_sight-append [] more = refl
noted_sight-append (call ∷ calls) more =
    rw (noted_sight-append calls more)
    (sym (append_assoc (call_sight call.step call.answer.reply) (noted_sight calls) (noted_sight more)))

-- the last call has the entry that is added, and the calls before it are noted
pub tells-again : (calls front : List Call) (last : Call) (old new : List Sight) (at ends : ℕ)
    → calls ≡ front ++ last ∷ [] → last.answer.reply ≡ NothingVisible at ends → new ≡ old ++ noted_sight calls
    → Tells calls old (new ++ Again at ends ∷ [])
tells-again calls front last old new at ends whole again h =
    let nothing : noted_sight (last ∷ []) ≡ [] = rw again in
    let same : noted_sight calls ≡ noted_sight front =
    rw (whole, noted_sight-append, nothing) (append-nil (noted_sight front)) in
    let one : Tells (last ∷ []) new (new ++ Again at ends ∷ []) = record {
      gained = Again at ends ∷ [];
      sight = refl;
      kept = last ∷ [];
      part = leaves_out-none last;
      entries = rw again;
    } in
    rw whole
    (tells-then front (last ∷ []) old new _ (tells-noted front old new (rw (h, same))) one)

-- Jobs

-- memory did not run out
pub memory_there : (lacks : Bool) (j k : Job) → (if lacks then None else Some j) ≡ Some k → j ≡ k
memory_there true j k h = absurd cc
memory_there false j k h = cc
