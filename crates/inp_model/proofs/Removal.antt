-- The removal of events from a queue, in one walk over it.
use Rattle.std.proofs.Common.{◌≡◌, ◌≤◌, suc, Bool, true, false, ◌&&◌, ◌||◌, not, if◌then◌else◌, List, [], ◌∷◌}
use Rattle.std.proofs.Common.{◌++◌, length, map, All, refl, sym, ap, subst, ◌∙◌, arith}
use Rattle.std.proofs.lemmas.Bool.{cond_both}
use Rattle.std.proofs.lemmas.List.Elements.{All-cons, All-head, All-tail}
use Rattle.inp_model.specs.declared.event.Event.{Event}
use Rattle.inp_model.specs.Event.{is_report}
use Rattle.inp_model.specs.Queue.{without, apart, flush}

module _ {X : Type 0} (event : X → Event) (drops : Event → Bool) where
  -- a report stays where the flag says so, and another item where it is not dropped
  abbrev pub stays : Bool → X → Bool
  stays flag x = if is_report (event x) then flag else not (drops (event x))

  -- whether a report stays that comes after an item
  abbrev pub report_stays_after : Bool → X → Bool
  report_stays_after flag x = if is_report (event x) then false else if drops (event x) then flag else true

  -- what stays of a queue
  abbrev pub flush_from : Bool → List X → List X
  flush_from flag [] = []
  flush_from flag (x ∷ q) = (if stays flag x then x ∷ [] else []) ++ flush_from (report_stays_after flag x) q

  -- one item more in front of a queue
  apart-step : (x : X) (q : List X) (flag : Bool)
      → ((after : Bool) → apart event (not after) (without event drops q) ≡ flush_from after q) →
      apart event (not flag) (without event drops (x ∷ q)) ≡ flush_from flag (x ∷ q)
  apart-step x q flag later = by (is_report (event x)) (drops (event x)) refl refl
    where
      rest : List X
      rest = without event drops q

      -- what the walk makes of an item, by whether it is a report, and whether it is dropped
      walked : Bool → Bool → List X
      walked report dropped =
          (if (if report then flag else not dropped) then x ∷ [] else [])
          ++ flush_from (if report then false else if dropped then flag else true) q

      kept : Bool → Bool → List X
      kept report dropped = apart event (not flag) (if report || not dropped then x ∷ rest else rest)

      first : Bool → List X
      first report = (if report && not flag then [] else x ∷ []) ++ apart event report rest

      report_first : (b : Bool) (r : List X)
          → (if not b then [] else x ∷ []) ++ r ≡ (if b then x ∷ [] else []) ++ r
      report_first true r = refl
      report_first false r = refl

      by : (report dropped : Bool) → is_report (event x) ≡ report → drops (event x) ≡ dropped
          → kept (is_report (event x)) (drops (event x)) ≡ walked (is_report (event x)) (drops (event x))
      by true dropped r d =
          ap (λ b. kept b (drops (event x))) r ∙ ap first r ∙ report_first flag (apart event true rest)
          ∙ ap (λ s. (if flag then x ∷ [] else []) ++ s) (later false)
          ∙ sym (ap (λ b. walked b (drops (event x))) r)
      by false true r d =
          ap (λ b. kept b (drops (event x))) r ∙ ap (kept false) d ∙ later flag
          ∙ sym (ap (λ b. walked b (drops (event x))) r ∙ ap (walked false) d)
      by false false r d =
          ap (λ b. kept b (drops (event x))) r ∙ ap (kept false) d ∙ ap first r ∙ ap (λ s. x ∷ s) (later true)
          ∙ sym (ap (λ b. walked b (drops (event x))) r ∙ ap (walked false) d)

  apart-walk : (q : List X) (flag : Bool) → apart event (not flag) (without event drops q) ≡ flush_from flag q
  apart-walk [] flag = refl
  apart-walk (x ∷ q) flag = apart-step x q flag (apart-walk q)

  -- a flush is that walk from its start on
  pub flush-walk : (q : List X) → flush event drops q ≡ flush_from true q
  flush-walk q = apart-walk q true

  -- no item is added
  pub flush_from-length : (flag : Bool) (q : List X) → length (flush_from flag q) ≤ length q
  flush_from-length flag [] = omega arith
  flush_from-length flag (x ∷ q) =
      let rest = flush_from (report_stays_after flag x) q in
      cond_both (stays flag x) (x ∷ []) [] (λ y. length (y ++ rest) ≤ suc (length q))
      (λ _. omega (arith, flush_from-length (report_stays_after flag x) q))
      (λ _. omega (arith, flush_from-length (report_stays_after flag x) q))

  pub flush-length : (q : List X) → length (flush event drops q) ≤ length q
  flush-length q = omega (arith, ap length (flush-walk q), flush_from-length true q)

  -- what is so of each item is so of each that stays
  pub flush-all : (P : X → Type 0) (q : List X) → All P q → All P (flush event drops q)
  flush-all P q all = subst (All P) (sym (flush-walk q)) (walk true q all)
    where
      walk : (flag : Bool) (q : List X) → All P q → All P (flush_from flag q)
      walk flag [] all = all
      walk flag (x ∷ q) all =
          let rest = flush_from (report_stays_after flag x) q in
          let later : All P rest = walk (report_stays_after flag x) q (All-tail P x q all) in
          cond_both (stays flag x) (x ∷ []) [] (λ y. All P (y ++ rest))
          (λ _. All-cons P x rest (All-head P x q all) later) (λ _. later)

-- Items that are made of others, with the same events, are flushed alike.
module _ {X Y : Type 0} (f : X → Y) (event : X → Event) (event' : Y → Event) (same : (x : X)
    → event' (f x) ≡ event x) where
  pub flush-map : (drops : Event → Bool) (q : List X)
      → map f (flush event drops q) ≡ flush event' drops (map f q)
  flush-map drops q =
      ap (map f) (flush-walk event drops q) ∙ walk true q ∙ sym (flush-walk event' drops (map f q))
    where
      walk : (flag : Bool) (q : List X)
          → map f (flush_from event drops flag q) ≡ flush_from event' drops flag (map f q)
      walk flag [] = refl
      walk flag (x ∷ q) =
          let next = report_stays_after event drops flag x in
          rw (one (stays event drops flag x) (flush_from event drops next q), walk next q, ← same x)
        where
          one : (b : Bool) (r : List X)
              → map f ((if b then x ∷ [] else []) ++ r) ≡ (if b then f x ∷ [] else []) ++ map f r
          one true r = refl
          one false r = refl
