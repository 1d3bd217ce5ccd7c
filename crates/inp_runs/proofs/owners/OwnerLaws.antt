-- What an owner was told, as its device goes on.
use Rattle.std.proofs.Common.{◌≡◌, ℕ, Bool, true, false, if◌then◌else◌, List, [], ◌∷◌, ◌++◌, length, map}
use Rattle.std.proofs.Common.{reverse, refl, sym, ap, subst, ◌∙◌, append_assoc, arith, inl, inr, Some, None}
use Rattle.inp_script.specs.Owner.{stop_after_answer, first_owning, after_feedback}
use Rattle.inp_runs.proofs.Common.{map-append, Step, Description, Stop, OwnerState}
use Rattle.inp_runs.proofs.Common.{false_from_ne_true, cond_both}
use Rattle.inp_feedback.specs.declared.fed.Fed.TheVariants.{Took, Full}
use Rattle.inp_feedback.specs.declared.u_entry.UEntry.{UEntry}
use Rattle.inp_feedback.specs.declared.u_entry.UEntry.TheVariants.{Made, Feedback}
use Rattle.inp_feedback.specs.UEntry.{steps_in}
use Rattle.inp_feedback.specs.Feedback.{is_full_of_feedback, taken_by_feedback, fed, kept_after_feedback}
use Rattle.inp_feedback.proofs.Lists.{reverse-cons, steps_in-kept_of, kept_of-fed}
use Rattle.inp_script.specs.declared.stop.Stop.TheVariants.{Full as FullList}
use Rattle.inp_runs.specs.Owner.{HasFed, EndsFed}
use Rattle.inp_feedback.specs.declared.feedback_call.FeedbackCall.{FeedbackCall}
use Rattle.inp_feedback.specs.KeptList.{kept_of, StandsWithin}
use Rattle.inp_feedback.proofs.Woven.{kept-longer}
use Rattle.inp_runs.specs.Play.{feedback_calls_after}

-- the feedback calls of a device behind one more
abbrev pub calls_behind : Description → List Step → List FeedbackCall → ℕ → List FeedbackCall
calls_behind d past calls room = feedback_calls_after (fed d (kept_of past calls) room) calls

-- what an owner keeps behind a call
abbrev pub owning_behind : Description → List UEntry → ℕ → OwnerState → OwnerState
owning_behind d kept room o = after_feedback (fed d kept room) (taken_by_feedback d kept room) o

-- What a call leaves, takes and answers, by whether as many are kept as the log limit says

module _ (d : Description) (kept : List UEntry) (room : ℕ) where
  -- a call that is not refused is kept, with how many events it took
  pub kept-free : is_full_of_feedback d kept ≡ false
      → kept_after_feedback d kept room ≡ Feedback (length (taken_by_feedback d kept room)) ∷ kept
  kept-free free = rw free

  pub kept-full : is_full_of_feedback d kept ≡ true → kept_after_feedback d kept room ≡ kept
  kept-full full = rw full

  pub taken-full : is_full_of_feedback d kept ≡ true → taken_by_feedback d kept room ≡ []
  taken-full full = rw full

  -- a call that is not refused is told behind how many steps it came and how many events it took
  pub fed-free : is_full_of_feedback d kept ≡ false
      → fed d kept room ≡ Took (length (steps_in kept)) (length (taken_by_feedback d kept room))
  fed-free free = rw free

  -- where the limit of calls is reached the answer is Full, with how many steps are kept
  pub fed-full : is_full_of_feedback d kept ≡ true → fed d kept room ≡ Full (length (steps_in kept))
  fed-full full = rw full

-- An owner and its device, line by line

-- What an owner was told by its lines so far, with room for so many events each, of a device that kept this.
-- Of the rooms of its calls that were kept, the last call first, and of what it was told by them, something
-- is known.
pub record IsToldSo (H : List ℕ → OwnerState → Type 0) (d : Description) (kept : List UEntry) (rooms : List ℕ)
    (last : OwnerState) : Type 0 where
  -- the rooms of its calls that were kept, the last call first
  pub done : List ℕ
  -- what it was told by those calls
  pub before : OwnerState
  -- what is known of both
  pub fed : H done before
  -- all its calls were made, or one was refused at the limit
  pub ends : EndsFed d kept rooms done before last

-- the device kept no other calls
abbrev pub IsToldByLines : Description → List UEntry → List ℕ → OwnerState → Type 0
IsToldByLines d kept rooms last = IsToldSo (HasFed d kept) d kept rooms last

-- before the first line
pub told-nothing : (d : Description) → IsToldByLines d [] [] first_owning
unfolding HasFed
told-nothing d = record { done = []; before = first_owning; fed = refl; ends = inl (refl, refl) }

module _ (d : Description) (kept : List UEntry) (room : ℕ) where
  -- a refused call stops, and one that was made does not
  pub full-stops : is_full_of_feedback d kept ≡ true
      → stop_after_answer (fed d kept room) ≡ Some (FullList (length (steps_in kept)))
  full-stops full = rw fed-full

  -- a call that is not refused is answered Took, at which nobody stops
  pub free-goes_on : is_full_of_feedback d kept ≡ false → stop_after_answer (fed d kept room) ≡ None
  free-goes_on free = rw fed-free

  -- a device that keeps one entry more was not full
  pub grew-free : (entry : UEntry) → entry ∷ kept ≡ kept_after_feedback d kept room
      → is_full_of_feedback d kept ≡ false
  grew-free entry grew =
      false_from_ne_true (is_full_of_feedback d kept) (λ full.
      let same : entry ∷ kept ≡ kept = grew ∙ kept-full d kept room full in
      omega (arith, ap length same))

-- an owner all of whose calls were made goes on
fed-goes_on : (d : Description) (kept : List UEntry) (rooms : List ℕ) (o : OwnerState) → HasFed d kept rooms o
    → o.stop ≡ None
unfolding HasFed
fed-goes_on d [] [] o h = rw h
fed-goes_on d [] (room ∷ rooms) o h = absurd h
fed-goes_on d (Made x ∷ kept) rooms o h = fed-goes_on d kept rooms o h
fed-goes_on d (Feedback count ∷ kept) [] o h = absurd h
fed-goes_on d (Feedback count ∷ kept) (room ∷ rooms) o h =
    rw h.3 (free-goes_on d kept room (grew-free d kept room (Feedback count) h.2))

-- one call more, which was made or refused
module _ (H N : List ℕ → OwnerState → Type 0) (d : Description) (seen kept after : List UEntry) (room : ℕ)
    (o : OwnerState) where
  abbrev now : OwnerState
  now = after_feedback (fed d kept room) (taken_by_feedback d kept room) o

  module _ (refused : is_full_of_feedback d kept ≡ true
      → (after ≡ kept) × ((done : List ℕ) (last : OwnerState) → H done last → N done last))
      (made : is_full_of_feedback d kept ≡ false → (done : List ℕ) → H done o → N (room ∷ done) now) where
    -- a line of an owner that goes on
    pub told-call-so : (rooms : List ℕ) → o.stop ≡ None → IsToldSo H d seen rooms o
        → IsToldSo N d after (rooms ++ room ∷ []) now
    told-call-so rooms goes_on t = by_ends t.ends
      where
        by_full : (b : Bool) → is_full_of_feedback d kept ≡ b → reverse t.done ≡ rooms → o ≡ t.before
            → IsToldSo N d after (rooms ++ room ∷ []) now
        by_full false free all same = record {
          done = room ∷ t.done;
          before = now;
          fed = made free t.done (subst (H t.done) (sym same) t.fed);
          ends = inl (rw (reverse-cons, all), refl);
        }
        by_full true full all same =
            let r = refused full in
            record {
              done = t.done;
              before = t.before;
              fed = r.1 t.done t.before t.fed;
              ends =
                  inr (record {
                    room = room;
                    left = [];
                    is_next = rw (← all);
                    later = [];
                    found = kept;
                    split = r.0;
                    full = full;
                    told = (λ i. after_feedback (fed d kept room) (taken-full d kept room full i) (same i));
                  });
            }

        by_ends : EndsFed d seen rooms t.done t.before o → IsToldSo N d after (rooms ++ room ∷ []) now
        by_ends (inl all) = by_full (is_full_of_feedback d kept) refl all.0 all.1
        by_ends (inr f) =
            let same : None ≡ Some (FullList (length (steps_in f.found))) =
            rw (← goes_on, f.told) (full-stops d f.found f.room f.full) in
            absurd cc

-- a line of an owner that stopped; one all of whose calls were made goes on
pub told-stopped-so : (H : List ℕ → OwnerState → Type 0) (d : Description) (kept : List UEntry)
    (rooms : List ℕ) (room : ℕ) (o : OwnerState) (stop : Stop)
    → ((done : List ℕ) (last : OwnerState) → H done last → last.stop ≡ None) → o.stop ≡ Some stop
    → IsToldSo H d kept rooms o → IsToldSo H d kept (rooms ++ room ∷ []) o
told-stopped-so H d kept rooms room o stop goes_on stops t =
    record { done = t.done; before = t.before; fed = t.fed; ends = by t.ends }
  where
    by : EndsFed d kept rooms t.done t.before o → EndsFed d kept (rooms ++ room ∷ []) t.done t.before o
    by (inl all) =
        let same : None ≡ Some stop = rw (← goes_on t.done t.before t.fed, ← all.1) stops in
        absurd cc
    by (inr f) =
        inr (record {
          room = f.room;
          left = f.left ++ room ∷ [];
          is_next = rw f.is_next (append_assoc (reverse t.done) (f.room ∷ f.left) (room ∷ []));
          later = f.later;
          found = f.found;
          split = f.split;
          full = f.full;
          told = f.told;
        })

module _ (d : Description) (kept : List UEntry) where
  -- one call more, which was not refused
  fed-more : (rooms : List ℕ) (room : ℕ) (o : OwnerState) → is_full_of_feedback d kept ≡ false
      → HasFed d kept rooms o
      → HasFed d (kept_after_feedback d kept room) (room ∷ rooms) (owning_behind d kept room o)
  unfolding HasFed
  fed-more rooms room o free h =
      rw kept-free
      (o, h, sym (kept-free d kept room free), refl)

  -- further steps tell an owner nothing
  fed-steps : (rooms : List ℕ) (o : OwnerState) (xs : List Step) → HasFed d kept rooms o
      → HasFed d (map Made xs ++ kept) rooms o
  unfolding HasFed
  fed-steps rooms o [] h = h
  fed-steps rooms o (x ∷ xs) h = fed-steps rooms o xs h

  -- further steps come behind a refused call, and where all calls were made they change nothing
  pub ends-steps : (rooms done : List ℕ) (before last : OwnerState) (xs : List Step)
      → EndsFed d kept rooms done before last → EndsFed d (map Made xs ++ kept) rooms done before last
  ends-steps rooms done before last xs (inl all) = inl all
  ends-steps rooms done before last xs (inr f) =
      inr (record {
        room = f.room;
        left = f.left;
        is_next = f.is_next;
        later = xs ++ f.later;
        found = f.found;
        split = rw (f.split, ← append_assoc, ← map-append);
        full = f.full;
        told = f.told;
      })

  pub told-steps : (rooms : List ℕ) (o : OwnerState) (xs : List Step) → IsToldByLines d kept rooms o
      → IsToldByLines d (map Made xs ++ kept) rooms o
  told-steps rooms o xs t = record {
    done = t.done;
    before = t.before;
    fed = fed-steps t.done t.before xs t.fed;
    ends = ends-steps rooms t.done t.before o xs t.ends;
  }

  -- a call that is made is kept behind the others, and a refused one leaves them as they were
  pub told-call : (rooms : List ℕ) (room : ℕ) (o : OwnerState) → o.stop ≡ None → IsToldByLines d kept rooms o
      → IsToldByLines d (kept_after_feedback d kept room) (rooms ++ room ∷ []) (owning_behind d kept room o)
  told-call rooms room o goes_on t =
      told-call-so (HasFed d kept) (HasFed d (kept_after_feedback d kept room)) d kept kept
      (kept_after_feedback d kept room) room o
      (λ full. (kept-full d kept room full, λ done last h. rw kept-full h))
      (λ free done h. fed-more done room o free h) rooms goes_on t

  -- an owner stops at a refused call alone, and does nothing at its later lines
  pub told-stopped : (rooms : List ℕ) (room : ℕ) (o : OwnerState) (stop : Stop) → o.stop ≡ Some stop
      → IsToldByLines d kept rooms o → IsToldByLines d kept (rooms ++ room ∷ []) o
  told-stopped rooms room o stop stops t =
      told-stopped-so (HasFed d kept) d kept rooms room o stop (fed-goes_on d kept) stops t

-- steps that came to be kept besides
pub so-far-steps : (d : Description) (past after more : List Step) (calls : List FeedbackCall)
    (rooms : List ℕ) (last : OwnerState) → StandsWithin (length past) calls → after ≡ more ++ past
    → IsToldByLines d (kept_of past calls) rooms last
    → IsToldByLines d (kept_of after calls) rooms last
so-far-steps d past after more calls rooms last within grown s =
    let whole : kept_of after calls ≡ map Made more ++ kept_of past calls =
    rw grown (kept-longer more past calls within) in
    rw whole (told-steps d (kept_of past calls) rooms last more s)

module _ (d : Description) (past : List Step) (calls : List FeedbackCall) (room : ℕ) where
  -- a call stands behind the steps that were kept when it was made
  pub called-within : StandsWithin (length past) calls
      → StandsWithin (length past) (calls_behind d past calls room)
  called-within within =
      cond_both (is_full_of_feedback d (kept_of past calls)) _ _
      (λ x. StandsWithin (length past) (feedback_calls_after x calls))
      (λ _. within) (λ _. omega (arith, ap length (steps_in-kept_of past calls)))

  -- what is kept behind a call, by the calls
  called-kept : kept_of past (calls_behind d past calls room)
      ≡ kept_after_feedback d (kept_of past calls) room
  called-kept = by_flag (is_full_of_feedback d kept)
    where
      kept : List UEntry
      kept = kept_of past calls

      at : ℕ
      at = length (steps_in kept)

      count : ℕ
      count = length (taken_by_feedback d kept room)

      by_flag : (b : Bool) → kept_of past (feedback_calls_after (if b then Full at else Took at count) calls)
          ≡ (if b then kept else Feedback count ∷ kept)
      by_flag true = refl
      by_flag false =
          kept_of-fed past calls (record { at = at; count = count }) (ap length (steps_in-kept_of past calls))

  -- the owner made its call
  pub so-far-called : (rooms : List ℕ) (last : OwnerState) → last.stop ≡ None
      → IsToldByLines d (kept_of past calls) rooms last
      → IsToldByLines d (kept_of past (calls_behind d past calls room)) (rooms ++ room ∷ [])
      (owning_behind d (kept_of past calls) room last)
  so-far-called rooms last going s =
      rw called-kept
      (told-call d (kept_of past calls) rooms room last going s)
