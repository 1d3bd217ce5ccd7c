-- A line that hands out events, round by round: each round that goes on leaves less to do.
use Rattle.std.proofs.Common.{◌≡◌, ℕ, suc, ◌+◌, ◌<◌, ◌≤◌, Bool, true, false, nat_le, nat_lt, Option, Some}
use Rattle.std.proofs.Common.{None, refl, arith}
use Rattle.std.proofs.lemmas.Bool.Decides.{nat_tests}
use Rattle.std.proofs.Math.Nat.{mul-le-mul_right}
use Rattle.std.proofs.lemmas.Bool.{cond_both}
use Rattle.inp_reader.specs.Effort.{IsLess, is_idle}
use Rattle.inp_script.proofs.Common.{Next, Waiting, Phase, going, turn_of, Job, Plain}
use Rattle.inp_reader.specs.declared.next.Next.TheVariants.{Success, Dropped, Sync, Again, Synced}
use Rattle.inp_script.specs.declared.role.client.Progress.{Progress}
use Rattle.inp_script.specs.declared.role.client.Turn.{Turn as KeptTurn}
use Rattle.inp_script.specs.declared.role.client.Turn.TheVariants.{GoesOn, Ends}
use Rattle.inp_script.specs.Client.{LineProgress, goes_on, handed, one_less, is_done, patience, after_again}
use Rattle.inp_script.specs.Client.{turn_after, mode_of}
use Rattle.inp_script.specs.Effort.{idle_of, total_effort, Shrinks}

-- a line never asks its reader for nothing
pub mode_of-busy : (skips : Bool) (phase : Phase) → is_idle (mode_of skips phase) phase ≡ false
mode_of-busy true Plain = refl
mode_of-busy false Plain = refl
mode_of-busy _ _ = refl

same_agains : (g h : LineProgress) → goes_on g ≡ goes_on h → h.agains ≡ g.agains
same_agains g h e = let same : g ≡ h = cc in rw (← same)

-- a line that goes on after an event was handed out counts answers Again anew
handed-anew : (left : Option ℕ) (j k : Job) (progress : Progress) → handed left j ≡ goes_on (going progress k)
    → progress.agains ≡ 0
handed-anew left j k progress h =
    (cond_both (is_done left) _ _ (λ x. x ≡ goes_on (going progress k) → progress.agains ≡ 0)
    (λ _ e. absurd cc) (λ _ e. same_agains _ _ e)) h

-- one that goes on after an answer Again may wait once more
again-waits : (patient : Option ℕ) (wait : Option Waiting) (left : Option ℕ) (agains at ends : ℕ) (j k : Job)
    (progress : Progress) → ((n : ℕ) → patient ≡ Some n → n ≡ idle_of wait)
    → after_again patient left agains at ends j ≡ goes_on (going progress k)
    → (progress.agains ≡ agains) × (agains < idle_of wait)
again-waits None wait left agains at ends j k progress idle h = absurd cc
again-waits (Some n) wait left agains at ends j k progress idle h =
    let here : LineProgress = record { job = j; left = left; agains = agains } in
    (cond_both (nat_le n agains) _ _
    (λ x. x ≡ goes_on (going progress k) → (progress.agains ≡ agains) × (agains < idle_of wait))
    (λ _ is. absurd cc)
    (λ more is.
    (same_agains here _ is, let same = idle n refl in grind (arith, nat_tests)))) h

patience-idle : (wait : Option Waiting) (ends n : ℕ) → patience wait ends ≡ Some n → n ≡ idle_of wait
patience-idle None ends n h = absurd cc
patience-idle (Some waiting) ends n h =
    (cond_both (nat_lt ends waiting.sources) _ _ (λ x. x ≡ Some n → n ≡ waiting.idle) (λ _ e. cc)
    (λ _ e. absurd cc)) h

module _ (wait : Option Waiting) where
  total-less : (after before agains : ℕ) → after < before
      → total_effort wait after 0 < total_effort wait before agains
  total-less after before agains h =
      let n : ℕ = idle_of wait in
      omega (arith, mul-le-mul_right (suc n) (let one_more : after + 1 ≤ before = omega arith in one_more))

  total-again : (after before agains : ℕ) → after ≤ before → suc agains < idle_of wait
      → total_effort wait after (suc agains) < total_effort wait before agains
  total-again after before agains h k = omega (arith, mul-le-mul_right (suc (idle_of wait)) h)

  -- less to do lowers the measure by more than counting answers Again anew raises it
  pub less_anew : (after before agains : ℕ) (progress : Progress) → after < before → progress.agains ≡ 0
      → total_effort wait after progress.agains < total_effort wait before agains
  less_anew after before agains progress h e = rw e (total-less after before agains h)

  goes_on-less : (left : Option ℕ) (agains : ℕ) (next : Next) (j k : Job) (progress : Progress)
      (after before : ℕ) → turn_after wait left agains next j ≡ goes_on (going progress k)
      → IsLess next after before → total_effort wait after progress.agains < total_effort wait before agains
  goes_on-less left agains (Success taken) j k progress after before h less =
      less_anew after before agains progress less (handed-anew (one_less left) _ k progress h)
  goes_on-less left agains (Dropped taken) j k progress after before h less =
      less_anew after before agains progress less (handed-anew (one_less left) _ k progress h)
  goes_on-less left agains (Sync event) j k progress after before h less =
      less_anew after before agains progress less (handed-anew (one_less left) _ k progress h)
  goes_on-less left agains Synced j k progress after before h less =
      less_anew after before agains progress less (same_agains _ _ h)
  goes_on-less left agains (Again at ends) j k progress after before h less =
      let w = again-waits _ wait left (suc agains) at ends j k progress (patience-idle wait ends) h in
      rw w.0 (total-again after before agains less w.1)
  goes_on-less left agains next j k progress after before h less = absurd cc

  -- behind an event less is left to do, and behind an answer Again one wait less
  pub turn-shrinks : (left : Option ℕ) (agains : ℕ) (next : Next) (j k : Job) (turn : KeptTurn)
      (after before : ℕ) → turn_after wait left agains next j ≡ turn_of turn k → IsLess next after before
      → Shrinks wait (total_effort wait before agains) after turn
  turn-shrinks left agains next j k Ends after before h less = tt
  turn-shrinks left agains next j k (GoesOn progress) after before h less =
      goes_on-less left agains next j k progress after before h less
