-- The lines of a record are dealt to its actors, one after another.
use Rattle.std.proofs.Common.{◌≡◌, ℕ, zero, suc, ◌+◌, ◌<◌, ◌≤◌, Bool, true, false, cond, nat_eq, List, []}
use Rattle.std.proofs.Common.{◌∷◌, ◌++◌, length, take, sym, ap, ◌∙◌, inl, inr, Some, replicate, get_or}
use Rattle.std.specs.Prelude.{map, slice_get}
use Rattle.std.proofs.lemmas.List.{append-nil, map-append, length-replicate, length-set, take_all, take_more}
use Rattle.std.proofs.lemmas.List.Elements.{filter-append}
use Rattle.std.proofs.lemmas.Option.{slice_get-get_or, slice_get_within, get_or_from_slice_get}
use Rattle.inp_script.proofs.Common.{Line, RecordView}
use Rattle.inp_runs.specs.Job.{lines_by}
use Rattle.inp_runs.proofs.Lists.{eq_true, eq_false, slice_get-set}
use Rattle.inp_threads.specs.Lines.{AreLinesDealt, HasLineMore}

module _ (r : RecordView) where
  -- the first so many lines are dealt
  pub record AreFirstDealt (n : ℕ) (lists : List (List ℕ)) : Type 0 where
    -- there is a list for each actor
    pub count : length lists ≡ length r.actors
    -- an actor's list has the numbers of its lines among the first ones, in order
    pub each : (actor : ℕ) (numbers : List ℕ) → slice_get lists actor ≡ Some numbers
        → map (slice_get r.lines) numbers ≡ map Some (lines_by actor (take n r.lines))

  in-none : (n k : ℕ) (numbers : List ℕ) → slice_get (replicate n []) k ≡ Some numbers → numbers ≡ []
  in-none zero k numbers is = absurd cc
  in-none (suc n) zero numbers is = cc
  in-none (suc n) (suc k) numbers is = in-none n k numbers is

  -- before the first line each list is empty
  pub none-dealt : (n : ℕ) (lists : List (List ℕ)) → lists ≡ replicate n [] → n ≡ length r.actors
      → AreFirstDealt 0 lists
  none-dealt n lists is long = record {
    count = ap length is ∙ length-replicate n [] ∙ long;
    each = λ actor numbers at. ap (map (slice_get r.lines)) (in-none n actor numbers (sym (rw is) ∙ at));
  }

  -- the lines of an actor among those up to one more
  next : (n : ℕ) (line : Line) (actor : ℕ) → slice_get r.lines n ≡ Some line
      → lines_by actor (take (n + 1) r.lines) ≡ lines_by actor (take n r.lines)
      ++ cond (nat_eq line.actor actor) (line ∷ []) []
  next n line actor is =
      ap (lines_by actor)
      (rw (
        take_more r.lines n line (slice_get_within r.lines n line is),
        get_or_from_slice_get r.lines n line line is,
      ))
      ∙ filter-append (λ (l : Line). nat_eq l.actor actor) (take n r.lines) (line ∷ [])

  -- the line's number goes to the end of its actor's list, and the other lists stay
  pub one-more : (n : ℕ) (line : Line) (lists new : List (List ℕ)) → AreFirstDealt n lists
      → slice_get r.lines n ≡ Some line → line.actor < length lists → HasLineMore lists new line.actor n
      → AreFirstDealt (n + 1) new
  one-more n line lists new h is within more =
      let numbers : List ℕ = get_or lists line.actor [] in
      let at : slice_get lists line.actor ≡ Some numbers = slice_get-get_or lists line.actor [] within in
      let longer = numbers ++ n ∷ [] in
      record {
        count = ap length (more numbers at) ∙ length-set lists line.actor longer ∙ h.count;
        each = λ actor xs there.
            elim (slice_get-set lists line.actor actor numbers longer
            xs at (sym (rw (more numbers at)) ∙ there)) [
              | inl (same, is_longer) ↦
                  rw (
                    is_longer,
                    map-append (slice_get r.lines) numbers (n ∷ []),
                    h.each actor numbers (ap (slice_get lists) same ∙ at),
                    is,
                    ← map-append Some (lines_by actor (take n r.lines)) (line ∷ []),
                    ← own actor true (eq_true line.actor actor (sym same)),
                  )
              | inr (other, before) ↦
                  h.each actor xs before
                  ∙ ap (map Some)
                  (sym (own actor false (eq_false line.actor actor (λ e. other (sym e)))
                  ∙ append-nil (lines_by actor (take n r.lines))))
            ];
      }
    where
      own : (actor : ℕ) (b : Bool) → nat_eq line.actor actor ≡ b
          → lines_by actor (take (n + 1) r.lines) ≡ lines_by actor (take n r.lines) ++ cond b (line ∷ []) []
      own actor b same = rw (next n line actor is, same)

  -- the first lines are all lines
  pub all-dealt : (n : ℕ) (lists : List (List ℕ)) → AreFirstDealt n lists → length r.lines ≤ n
      → AreLinesDealt r lists
  all-dealt n lists h all = record {
    count = h.count;
    each = λ actor numbers is. rw (h.each actor numbers is, take_all n r.lines all);
  }
