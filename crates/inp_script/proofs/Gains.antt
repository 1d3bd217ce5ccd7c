-- The places in the history that a line adds are those of the entries that it adds, and the calls that a job
-- saw stay a legal run.
use Rattle.std.proofs.Common.{◌≡◌, ℕ, true, List, [], ◌∷◌, ◌++◌, refl, sym, append_assoc, append-nil, Option}
use Rattle.std.proofs.Common.{Some, inl, inr}
use Rattle.std.specs.Prelude.{filter}
use Rattle.std.proofs.lemmas.List.Elements.{filter-append}
use Rattle.std.proofs.lemmas.Bool.{cond_both}
use Rattle.inp_model.specs.Evdev.{own_after}
use Rattle.inp_script.specs.Legal.{places_in, IsLegalSight, GainsPlaces}
use Rattle.inp_script.proofs.Common.{Step, Reply, Description, Call, Sight, Holds, DoesLine, Job, ActorView}
use Rattle.inp_script.proofs.Common.{end_talk, call_sight, again_sight, Waiting, RecordView, EvdevView}
use Rattle.inp_script.proofs.Common.{is_again, AreCalls, sight_of_calls, is_call_entry, LeavesOut}
use Rattle.inp_model.specs.declared.reply.Reply.TheVariants.{Again as NothingVisible}
use Rattle.inp_model.proofs.Leaves.{own-grown}
use Rattle.inp_script.specs.declared.sight.Sight.TheVariants.{Call as Called}
use Rattle.inp_script.proofs.LineTold.{line-told, end-told}
use Rattle.inp_script.proofs.Runs.{leaves_out-append, legal-less, runs-on}
use Rattle.inp_script.proofs.Told.{Tells, sight_of_calls-append}
use Rattle.inp_model.specs.Leaves.{places_of}

-- The places of calls

again_has_none : (reply : Reply) → is_again reply ≡ true → own_after reply [] ≡ []
again_has_none (NothingVisible at ends) h = refl
again_has_none _ h = absurd cc

left_out-places : (kept calls : List Call) → LeavesOut kept calls → places_of kept ≡ places_of calls
left_out-places kept [] out = rw out
left_out-places kept (call ∷ calls) (inl out) = rw (out.1, left_out-places out.0 calls out.2)
left_out-places kept (call ∷ calls) (inr out) =
    rw (again_has_none call.answer.reply out.0, ← left_out-places kept calls out.1)

places_in-append : (sight more : List Sight) → places_in (sight ++ more) ≡ places_in sight ++ places_in more
places_in-append [] more = refl
places_in-append (Called x reply ∷ sight) more =
    rw (places_in-append sight more)
    (sym (append_assoc (own_after reply []) (places_in sight) (places_in more)))
places_in-append (entry ∷ sight) more = places_in-append sight more

-- events have none
places_in-entries : (sight : List Sight) → places_in (filter is_call_entry sight) ≡ places_in sight
places_in-entries [] = refl
places_in-entries (Called x reply ∷ sight) = rw (places_in-entries sight)
places_in-entries (entry ∷ sight) = places_in-entries sight

again_sight-places : (reply : Reply) → places_in (again_sight reply) ≡ []
again_sight-places (NothingVisible at ends) = refl
again_sight-places _ = refl

call_sight-places : (x : Step) (reply : Reply) → places_in (call_sight x reply) ≡ own_after reply []
call_sight-places x reply =
    cond_both (is_again reply) _ _ (λ y. places_in y ≡ own_after reply []) (λ e. sym (again_has_none reply e))
    (λ e. append-nil (own_after reply []))

entries-places : (calls : List Call) → places_in (sight_of_calls calls) ≡ places_of calls
entries-places [] = refl
entries-places (call ∷ calls) =
    let reply : Reply = call.answer.reply in
    rw (
      places_in-append,
      places_in-append,
      again_sight-places,
      append-nil,
      call_sight-places,
      entries-places calls,
    )

-- The two laws

-- only calls that were answered Again are left out of a sight, and these have no place
pub gains-places : (a b : EvdevView) (calls : List Call) (old new : List Sight) → AreCalls a b calls
    → Tells calls old new → GainsPlaces a b old new
gains-places a b calls old new are t = record {
  gained = t.gained;
  sight = t.sight;
  own =
      rw (
        own-grown a b calls are,
        ← left_out-places t.kept calls t.part,
        ← entries-places t.kept,
        t.entries,
        places_in-entries t.gained,
      );
}

-- the line's calls go on with the legal run, which may leave out those answered Again
pub stays-legal : (d : Description) (a b : EvdevView) (calls : List Call) (old new : List Sight)
    → a.description ≡ d → AreCalls a b calls → Tells calls old new → IsLegalSight d a.seen old
    → IsLegalSight d b.seen new
stays-legal d a b calls old new same are t l = record {
  calls = l.calls ++ t.kept;
  legal =
      legal-less d b.seen 0 _ _ (leaves_out-append l.calls t.kept l.calls calls (all_kept l.calls) t.part)
      (runs-on d a b l.calls calls same l.legal are);
  entries = rw (sight_of_calls-append, l.entries, t.entries, ← filter-append, ← t.sight);
}
  where
    all_kept : (cs : List Call) → LeavesOut cs cs
    all_kept [] = refl
    all_kept (c ∷ cs) = inl (cs, refl, all_kept cs)

-- of a line
pub line-tells : (a b : EvdevView) (actor : ActorView) (r : RecordView) (wait : Option Waiting) (number : ℕ)
    (new : Job) → (does : DoesLine a b actor r wait number new)
    → Tells does.holds.calls actor.job.sight new.sight
line-tells a b actor r wait number new does =
    line-told actor.role actor.description r.streams wait does.rounds does.line.command actor.job new
    does.holds.calls does.holds.talk_ends

-- of the end of a source
pub end-tells : (a b : EvdevView) (old new : Job) → (h : Holds a b (end_talk old.stop old) (Some new))
    → Tells h.calls old.sight new.sight
end-tells a b old new h = end-told old.stop old new h.calls h.talk_ends
