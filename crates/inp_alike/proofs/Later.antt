-- Alike pasts stay alike by each later step.
use Rattle.std.proofs.Common.{◌≡◌, ℕ, Bool, true, false, List, ◌∷◌, if◌then◌else◌}
use Rattle.inp_model.specs.declared.step.Step.{Step}
use Rattle.inp_model.specs.Description.{Description}
use Rattle.inp_model.specs.Past.{opens, is_open, is_revoked, holder, clock_of, mask_bit, is_inhibited, ends}
use Rattle.inp_model.specs.Reply.{answer, past_after, is_accepted, is_full}
use Rattle.inp_alike.specs.Alike.{AreAlike, AreAnswersAlike}
use Rattle.inp_alike.proofs.Raws.{core_alike, timer_more}
use Rattle.inp_alike.proofs.Filters.{filters_more}
use Rattle.inp_alike.proofs.Queues.{queue_more}
use Rattle.inp_alike.proofs.Answered.{answer_alike, entered_alike}

module _ (d : Description) (past other : List Step) (x : Step) (h : AreAlike d past other) where
  opens_more : opens (x ∷ past) ≡ opens (x ∷ other)
  unfolding opens
  opens_more = cc h.opened

  open_more : (client : ℕ) → is_open (x ∷ past) client ≡ is_open (x ∷ other) client
  unfolding is_open
  open_more client = cc (h.opened, h.are_open client)

  revoked_more : (client : ℕ) → is_revoked (x ∷ past) client ≡ is_revoked (x ∷ other) client
  unfolding is_revoked
  revoked_more client = cc (h.are_revoked client)

  holder_more : holder (x ∷ past) ≡ holder (x ∷ other)
  unfolding holder
  holder_more = cc h.holders

  clock_more : (client : ℕ) → clock_of (x ∷ past) client ≡ clock_of (x ∷ other) client
  unfolding clock_of
  clock_more client = cc (h.clocks client)

  mask_more : (client kind index : ℕ)
      → mask_bit (x ∷ past) client kind index ≡ mask_bit (x ∷ other) client kind index
  unfolding mask_bit
  mask_more client kind index = cc (h.masks client kind index)

  inhibited_more : is_inhibited (x ∷ past) ≡ is_inhibited (x ∷ other)
  unfolding is_inhibited
  inhibited_more = cc h.inhibited

  ends_more : ends (x ∷ past) ≡ ends (x ∷ other)
  unfolding ends
  ends_more = cc h.ended

  pub step_more : AreAlike d (x ∷ past) (x ∷ other)
  step_more = record {
    items = core_alike d past other x h;
    timers = timer_more d past other x h;
    opened = opens_more;
    are_open = open_more;
    are_revoked = revoked_more;
    holders = holder_more;
    clocks = clock_more;
    masks = mask_more;
    inhibited = inhibited_more;
    ended = ends_more;
    queues = λ client. queue_more d past other x client h;
    filters = filters_more d past other x h;
  }

after_by : (d : Description) (past other : List Step) (x : Step) (b also : Bool) → b ≡ also
    → AreAlike d past other → AreAlike d (if b then x ∷ past else past) (if also then x ∷ other else other)
after_by d past other x true true e h = step_more d past other x h
after_by d past other x false false e h = h
after_by d past other x true false e h = absurd (cc e)
after_by d past other x false true e h = absurd (cc e)

pub later : (d : Description) (past other : List Step) (x : Step) → AreAlike d past other
    → is_full d past ≡ is_full d other
    → AreAnswersAlike (answer d past x) (answer d other x) × AreAlike d
    (past_after (answer d past x).reply x past) (past_after (answer d other x).reply x other)
later d past other x h full =
    let same = answer_alike d past other x h full in (
      same,
      after_by d past other x (is_accepted (answer d past x).reply)
          (is_accepted (answer d other x).reply)
          (entered_alike (answer d past x).reply (answer d other x).reply same.reply) h,
    )
