-- All workers of a device do their lines.
use Rattle.std.proofs.Common.{◌≡◌, ℕ, suc, ◌<◌, ◌≤◌, List, [], ◌∷◌, ◌++◌, length, get_or, take, drop, refl}
use Rattle.std.proofs.Common.{sym, ap, subst, ◌∙◌, arith, drop_of_length-le}
use Rattle.std.specs.Prelude.{map, All}
use Rattle.std.proofs.lemmas.List.{append-nil, take_all}
use Rattle.inp_script.specs.DoneLine.{source_count}
use Rattle.inp_script.proofs.Common.{UEntry, RecordView}
use Rattle.inp_threads.specs.Lines.{AreLinesDealt}
use Rattle.inp_threads.specs.Worker.{IsReadyToWork}
use Rattle.inp_threads.proofs.Common.{UdevView, PortOf, Worker, actor_number, IsReadyOn, Waiting}

module _ (port : PortOf UdevView UEntry) (r : RecordView) (lists : List (List ℕ))
    (dealt : AreLinesDealt r lists) (device : ℕ) (waiting : Waiting)
    (sources : waiting.sources ≡ source_count r device) where
  -- a worker of the device waits for its sources, and the lines of all actors are dealt
  pub ready-to-work : (workers : List Worker) → All (IsReadyOn port r device) workers → 1 ≤ waiting.idle
      → (i : ℕ) (w : Worker) → i < length workers → w ≡ get_or workers i w
      → IsReadyToWork port r lists waiting w
  ready-to-work workers all bound i w within is =
      let h : IsReadyOn port r device w = subst (IsReadyOn port r device) (sym is) (all i w within) in
      record {
        ready = h.ready;
        waits =
            record {
              idle = bound;
              text = h.text;
              is_text = h.is_text;
              sources = sources
                  ∙ ap (source_count r) (sym h.on_device);
            };
        dealt = dealt;
      }

-- a vector of which all elements were changed in place
pub changed : {A : Type 0} (n : ℕ) (items new : List A) → n ≡ length items → length new ≡ length items
    → take n (new ++ drop (length new) items) ≡ new
changed {A = A} n items new long same =
    ap (λ (rest : List A). take n (new ++ rest)) (drop_of_length-le items (omega (arith, same)))
    ∙ ap (take n) (append-nil new) ∙ take_all n new (omega (arith, long, same))

-- each worker has the number of the one that stood in its place
pub same-numbers : (old new : List Worker) → length new ≡ length old
    → ((i : ℕ) (d : Worker) → i < length old → actor_number (get_or new i d) ≡ actor_number (get_or old i d))
    → map actor_number new ≡ map actor_number old
same-numbers [] [] long each = refl
same-numbers [] (v ∷ new) long each = absurd (omega (arith, long))
same-numbers (w ∷ old) [] long each = absurd (omega (arith, long))
same-numbers (w ∷ old) (v ∷ new) long each =
    let first = each 0 w (omega arith) in
    let rest =
    same-numbers old new (omega (arith, long)) (λ i d within. each (suc i) d (omega (arith, within))) in
    λ i. first i ∷ rest i
