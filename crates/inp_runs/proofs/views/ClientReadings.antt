-- Where a client's reader stands in the history of its device, and what an event shows that it hands out.
use Rattle.std.proofs.Common.{◌≡◌, ◌<◌, ◌⊎◌, inl, inr, ℕ, suc, true, false, List, [], ◌∷◌, ◌++◌, length, map}
use Rattle.std.proofs.Common.{take, reverse, refl, sym, ap, subst, ◌∙◌, arith, append-nil, Option, Some, None}
use Rattle.inp_reader.specs.ReaderPlace.{calls_since}
use Rattle.inp_runs.proofs.Common.{Result, Ok, Err, true≢false, false_from_ne_true, length-reverse}
use Rattle.inp_runs.proofs.Common.{length-take, Taken, Step, Reply, Opened, Description, past_at, opens}
use Rattle.inp_runs.proofs.Common.{Answer, is_accepted, refused, taken_of, Call, HasPlace, IsLegalFrom}
use Rattle.inp_runs.proofs.Common.{place_of, next_place, client_of, View, eaten, IsHistory, Each, Mode}
use Rattle.inp_runs.proofs.Common.{Success, Dropped, NO_CLIENT, Started, ReaderState, queries, stop_of}
use Rattle.inp_runs.proofs.Common.{next_talk}
use Rattle.inp_runs.proofs.Common.{is_use_of, Talk, finish, EndsWith, finished, split-and_then, Any}
use Rattle.inp_runs.proofs.Common.{noted_sight, LastRead, AgreesIn, ShowsAt, is_read_as}
use Rattle.std.specs.Prelude.{slice_get}
use Rattle.inp_model.specs.declared.step.Step.TheVariants.{Open}
use Rattle.inp_model.specs.Queue.{took}
use Rattle.inp_recon.specs.ClientView.{view_at}
use Rattle.inp_recon.proofs.ReadEntries.{HasEntry, entry-of}
use Rattle.inp_model.proofs.Opens.{is_open-lt, opens-le}
use Rattle.inp_reader.specs.declared.next.Next.{Next}
use Rattle.inp_reader.specs.Reader.{start_talk, ask_each, after_queries, after_open, start_stop_of}
use Rattle.inp_reader.specs.TrueView.{index_handed_out}
use Rattle.inp_reader.specs.Spare.{IsSpare, HasSpare}
use Rattle.inp_reader.specs.Talk.{LeadsTo}
use Rattle.inp_reader.proofs.AgreedViews.{spare-made_anew}
use Rattle.inp_reader.proofs.Calls.{AreAnswered}
use Rattle.inp_reader.proofs.Meets.{Runs}
use Rattle.inp_reader.proofs.NextWalk.{sync-by_parts, Renewed, NextRules, next-ends, stop-cases}
use Rattle.inp_reader.proofs.PastsAtCalls.{IsMet}
use Rattle.inp_reader.proofs.StandsByCalls.{client-next}
use Rattle.inp_reader.proofs.ShowsDevice.{handed-is-taken, agree-then}
use Rattle.inp_reader.proofs.TalksKeepSpare.{keeps-next, keeps-start}
use Rattle.inp_reader.proofs.StandsAfterTalks.{IsHandedOut, HandsOut, IsOpenInStep, Leaves, met-opens}
use Rattle.inp_reader.proofs.StandsAfterTalks.{met-unused, in-step-kept, stands-after-next, stands-queried}
use Rattle.inp_reader.proofs.StandsAfterTalks.{open-step, open-opens}
use Rattle.inp_runs.specs.JobViews.{read_after_sight}
use Rattle.inp_runs.proofs.views.AtHand.{AreAtHand, hand-kept, met-took, read_after-other}
use Rattle.inp_runs.proofs.owners.Owners.{opened-exact, past-next, names-open}
use Rattle.inp_runs.proofs.views.Reports.{HasNoOthers, no-others-at, agrees-had, sized-at, shows-later}
use Rattle.inp_runs.proofs.views.Reports.{whole-past, history-at, place_behind, AreToCome, to-come-next}
use Rattle.inp_runs.proofs.views.Reports.{call-met, calls-met}
use Rattle.inp_model.proofs.Refused.{accepted-unrefused}

agrees-back : (d : Description) (v w : View) → AgreesIn d v w → AgreesIn d w v
agrees-back d v w a = record {
  keys = sym a.keys;
  switches = sym a.switches;
  leds = sym a.leds;
  axes = λ code has. sym (a.axes code has);
  cells = sym a.cells;
  slot = λ some. sym (a.slot some);
}

handed-shows : (d : Description) (past : List Step) (r : ReaderState) (t : Taken) → IsHistory d past
    → IsSpare d r.view → IsHandedOut d past r t
    → ShowsAt d past r.client (Some (index_handed_out d past r)) t r.view
handed-shows d past r t history spare out =
    let i : ℕ = index_handed_out d past r in
    let is : slice_get (map taken_of (took d past r.client)) i ≡ Some t =
    handed-is-taken d past r t out history in
    let e : HasEntry (eaten d) d past r.client i t = entry-of (eaten d) d past r.client i t is in
    let bare : HasNoOthers d r.view =
    record { keys = spare.keys; switches = spare.switches; leds = spare.leds } in
    record {
      index = i;
      is_own = refl;
      at = e.at;
      is_at = e.is_at;
      is_taken = e.is_taken;
      agrees = λ synchronised.
          agrees-back d (view_at d r.client e.at) r.view
          (agrees-had d (view_at d r.client e.at) r.view (agree-then d past r t e.at out history e.is_at)
          (no-others-at d past r.client i e.at history e.is_at) bare (sized-at d r.client e.at) spare.sized);
    }

-- a call as the client that no device has is not accepted
abbrev IsShut : Call → Type 0
IsShut call = client_of call.step ≡ Some NO_CLIENT → is_accepted call.answer.reply ≡ false

module _ (d : Description) (h : List Step) where
  legal-answered : (least : ℕ) (calls : List Call) → IsLegalFrom d h least calls → AreAnswered d calls
  unfolding AreAnswered
  legal-answered least [] legal = tt
  legal-answered least (call ∷ calls) legal =
      let placed : HasPlace d h call = legal.1 in (
        past_at h (place_of call.answer.reply),
        placed.exact,
        legal-answered (next_place call.answer.reply) calls legal.2,
      )

  -- the first calls of a legal run are a legal run
  pub legal-first : (least : ℕ) (calls more : List Call) → IsLegalFrom d h least (calls ++ more)
      → IsLegalFrom d h least calls
  legal-first least [] more legal = tt
  legal-first least (call ∷ calls) more legal =
      (legal.0, legal.1, legal-first (next_place call.answer.reply) calls more legal.2)

  shut-call : (call : Call) → length h < NO_CLIENT → HasPlace d h call → IsShut call
  shut-call call short placed names =
      let at : ℕ = place_of call.answer.reply in
      let past : List Step = past_at h at in
      false_from_ne_true (is_accepted call.answer.reply) (λ e.
      let accepts : refused d past call.step ≡ None =
      accepted-unrefused d past call.step call.answer placed.exact e in
      let below : NO_CLIENT < opens past =
      is_open-lt past NO_CLIENT (names-open d past call.step NO_CLIENT accepts names) in
      omega (arith, short, below, opens-le past, length-reverse (take at h), length-take at h))

  shut-calls : (least : ℕ) (calls : List Call) → length h < NO_CLIENT → IsLegalFrom d h least calls
      → Each IsShut calls
  shut-calls least [] short legal = tt
  shut-calls least (call ∷ calls) short legal =
      (shut-call call short legal.1, shut-calls (next_place call.answer.reply) calls short legal.2)

-- A reader that has opened no client hands out no event

pub record IsUnopened (r : ReaderState) : Type 0 where
  -- it reads as the number that no client has
  pub client : r.client ≡ NO_CLIENT
  -- it has no event at hand
  pub queue : r.queue ≡ []

abbrev HandsNone : Next → Type 0
HandsNone (Success taken) = ⊥
HandsNone (Dropped taken) = ⊥
HandsNone _ = Unit {0}

none-stop : (reply : Reply) → HandsNone (stop_of reply)
none-stop reply = stop-cases HandsNone reply (λ at ends is. tt) tt tt (λ at. tt)

record StaysUnopened (o : Next × ReaderState) : Type 0 where
  unopened : IsUnopened o.1
  none : HandsNone o.0

abbrev ShutBy : Unit {0} → Step → Answer → Unit {0} → Type 0
ShutBy s x a t = IsShut (record { step = x; answer = a })

shut-run : (calls : List Call) → Each IsShut calls → Runs ShutBy tt calls tt
unfolding Runs
shut-run [] shut = refl
shut-run (call ∷ calls) shut = (tt, shut.0, shut-run calls shut.1)

abbrev Unopened : Unit {0} → ReaderState → Type 0
Unopened s r = IsUnopened r

abbrev Stays : Unit {0} → Next × ReaderState → Type 0
Stays s o = StaysUnopened o

unopened-rules : (d : Description) (mode : Mode) → NextRules Any ShutBy Unopened Stays d mode
unopened-rules d mode = record {
  asks_read = λ s r u. tt;
  reads = λ s t r a u plain none shut is. absurd (true≢false (sym is ∙ shut (named r u)));
  stops = λ s t r a u plain none shut is. record { unopened = u; none = none-stop a.reply };
  hands = λ s r taken rest u plain q is. absurd (let k : [] ≡ taken ∷ rest = sym u.queue ∙ q in cc);
  loses = λ s r taken rest u plain q is. absurd (let k : [] ≡ taken ∷ rest = sym u.queue ∙ q in cc);
  empty = λ s r u plain q. record { unopened = u; none = tt };
  idles = λ s r u plain is. record { unopened = u; none = tt };
  syncs = λ s r u needed.
      sync-by_parts Any ShutBy (Renewed Unopened Stays r) d r s (record {
        asks_discard = tt;
        discarded = λ t a shut is. absurd (true≢false (sym is ∙ shut (named r u)));
        refused = λ t a shut is. record {
          unopened = record { client = u.client; queue = refl };
          none = none-stop a.reply;
        };
      });
  makes = λ s r event left u handing sync is.
      record { unopened = record { client = u.client; queue = u.queue }; none = tt };
  made_all = λ s r u handing sync is.
      record { unopened = record { client = u.client; queue = u.queue }; none = tt };
  goes_on = λ s r u handing is. record { client = u.client; queue = u.queue };
}
  where
    named : (r : ReaderState) → IsUnopened r → ◌≡◌ {A = Option ℕ} (Some r.client) (Some NO_CLIENT)
    named r u = rw u.client

-- Where a reader stands

module _ (d : Description) (h : List Step) (Q : ℕ → Type 0) where
  -- It stands in the past before this place as one of its clients, or has opened none. What its device cannot
  -- have is off.
  pub record IsReadingAt (least : ℕ) (r : ReaderState) : Type 0 where
    -- what the device cannot have is off in its view
    pub spare : HasSpare d r
    -- it stands in the past as one of its clients, or has opened none
    pub stands : (Q r.client × IsOpenInStep d (past_at h least) r) ⊎ IsUnopened r

  -- what an event shows that it hands out
  abbrev pub HandsAt : ℕ → Next → ReaderState → Type 0
  HandsAt least (Success taken) r =
      ShowsAt d (reverse h) r.client (Some (index_handed_out d (past_at h least) r)) taken r.view
  HandsAt least _ r = Unit {0}

  pub record NextReads (least : ℕ) (next : Next) (r : ReaderState) : Type 0 where
    -- its reader stands at the place
    pub reading : IsReadingAt least r
    -- an event that it handed out is shown at its own index
    pub hands : HandsAt least next r

  hands-later : (least : ℕ) (next : Next) (r : ReaderState) → IsHistory d (reverse h) → IsSpare d r.view
      → HandsOut d (past_at h least) next r → HandsAt least next r
  hands-later least (Success taken) r history spare out =
      let own : Option ℕ = Some (index_handed_out d (past_at h least) r) in
      rw (whole-past h least)
      (shows-later d _ (past_at h least) r.client own taken r.view
      (handed-shows d (past_at h least) r taken (history-at d h least history) spare out))
  hands-later least _ r history spare out = tt

  hands-none : (least : ℕ) (next : Next) (r : ReaderState) → HandsNone next → HandsAt least next r
  hands-none least (Success taken) r none = absurd none
  hands-none least _ r none = tt

  -- its calls are its client's, and no other use comes between; where it opened none all are refused
  pub next-reads : (least : ℕ) (mode : Mode) (r s : ReaderState) (next : Next) (calls more : List Call)
      → IsHistory d (reverse h) → length h < NO_CLIENT → AreToCome d h Q least (calls ++ more)
      → IsReadingAt least r → EndsWith (next_talk d mode r) calls (next, s)
      → NextReads (place_behind least calls) next s
  next-reads least mode r s next calls more history short c reads ends = by reads.stands
    where
      legal : IsLegalFrom d h least calls
      legal = legal-first d h least calls more c.legal

      spare : HasSpare d s
      spare = keeps-next d mode r calls (next, s) reads.spare (legal-answered d h least calls legal) ends

      by : (Q r.client × IsOpenInStep d (past_at h least) r) ⊎ IsUnopened r
          → NextReads (place_behind least calls) next s
      by (inl at) =
          let same : s.client ≡ r.client = client-next d mode r calls (next, s) ends in
          let met = calls-met d h Q r.client least calls more c at.0 in
          let l : Leaves d (past_at h (place_behind least calls)) (next, s) =
          stands-after-next d mode (past_at h least) (past_at h (place_behind least calls)) r calls
          (next, s) at.1 (spare-made_anew d r.client r.view reads.spare.view) met ends in
          record {
            reading = record { spare = spare; stands = inl (subst Q (sym same) at.0, l.stands) };
            hands = hands-later (place_behind least calls) next s history spare.view l.hands_out;
          }
      by (inr u) =
          let o : StaysUnopened (next, s) =
          next-ends Any ShutBy Unopened Stays d mode (unopened-rules d mode) tt tt r calls (next, s) u
          (shut-run calls (shut-calls d h least calls short legal)) ends in
          record {
            reading = record { spare = spare; stands = inr o.unopened };
            hands = hands-none (place_behind least calls) next s o.none;
          }

  -- a call that is no use of its client leaves it
  pub quiet-reads : (least : ℕ) (r : ReaderState) (call : Call) (more : List Call)
      → AreToCome d h Q least (call ∷ more) → is_use_of r.client call.step ≡ false → IsReadingAt least r
      → IsReadingAt (next_place call.answer.reply) r
  quiet-reads least r call more c unused reads = record {
    spare = reads.spare;
    stands = elim reads.stands [
      | inl s ↦
          (let before : List Step = past_at h least in
          let after : List Step = past_at h (next_place call.answer.reply) in
          let met : IsMet d r.client before after call = call-met d h Q r.client least call more c s.0 in
          let quiet = met-unused d r.client before after call s.1.opened met unused in
          inl (
            s.0,
            record {
              opened = met-opens d r.client before after call s.1.opened met;
              in_step = λ needed. in-step-kept d before after r (s.1.in_step needed) quiet;
            },
          ))
      | inr u ↦ inr u
    ];
  }

  -- nor does it change what is at hand
  pub quiet-hand : (least : ℕ) (r : ReaderState) (call : Call) (more : List Call) (last : Option LastRead)
      → AreToCome d h Q least (call ∷ more) → is_use_of r.client call.step ≡ false → IsReadingAt least r
      → AreAtHand d h least r.client last r.queue
      → AreAtHand d h (next_place call.answer.reply) r.client last r.queue
  quiet-hand least r call more last c unused reads hand = elim reads.stands [
    | inl s ↦
        (let at : ℕ = next_place call.answer.reply in
        let met : IsMet d r.client (past_at h least) (past_at h at) call =
        call-met d h Q r.client least call more c s.0 in
        hand-kept d h least at r.client last r.queue
        (met-took d r.client (past_at h least) (past_at h at) call met unused) hand)
    | inr u ↦ inl u.queue
  ]

  -- what an accepted Open leaves: a client that did nothing yet
  opened-stands : (least at client ring : ℕ) (r : ReaderState) (call : Call) (calls more : List Call)
      (asked : Result View Reply) → AreToCome d h Q least (call ∷ calls ++ more)
      → call.answer.reply ≡ Opened at client ring → HasSpare d r
      → EndsWith (ask_each (queries d client) r.view) calls asked
      → Q client × IsOpenInStep d (past_at h (place_behind (next_place call.answer.reply) calls))
      (after_queries client ring r asked).1
  opened-stands least at client ring r call calls more asked c is spare ends =
      let place : ℕ = place_of call.answer.reply in
      let n : ℕ = next_place call.answer.reply in
      let q : Q client = c.opened.0 at client ring is in
      let placed : HasPlace d h call = c.legal.1 in
      let e : (call.step ≡ Open) × (client ≡ opens (past_at h place)) =
      opened-exact d (past_at h place) call.step call.answer at client ring placed.exact is in
      let ok : is_accepted call.answer.reply ≡ true = ap is_accepted is in
      let next : n ≡ suc place = rw ok in
      let entered : past_at h n ≡ Open ∷ past_at h place =
      rw next (past-next h place Open (rw (placed.entered, e.0))) in
      let none : calls_since d (past_at h n) client ≡ [] =
      rw entered (open-step d (past_at h place) client e.1) in
      let opened : client < opens (past_at h n) = rw entered (open-opens (past_at h place) client e.1) in
      let met = calls-met d h Q client n calls more (to-come-next d h Q least call (calls ++ more) c) q in (
        q,
        stands-queried d client ring (past_at h n)
            (past_at h (place_behind n calls)) r asked calls opened none
            (spare-made_anew d client r.view spare.view) met ends,
      )

  client-queried : (client ring : ℕ) (r : ReaderState) (asked : Result View Reply)
      → (after_queries client ring r asked).1.client ≡ client
  client-queried client ring r (Ok view) = refl
  client-queried client ring r (Err reply) = refl

  start-opened : (least at client ring : ℕ) (r s : ReaderState) (started : Started) (call : Call)
      (calls more : List Call) → AreToCome d h Q least (call ∷ calls ++ more)
      → call.answer.reply ≡ Opened at client ring → HasSpare d r
      → EndsWith (after_open d r (Opened at client ring)) calls (started, s)
      → Q s.client × IsOpenInStep d (past_at h (place_behind (next_place call.answer.reply) calls)) s
  start-opened least at client ring r s started call calls more c is spare ends =
      let n : ℕ = next_place call.answer.reply in
      let next : Result View Reply → Talk (Started × ReaderState) =
      λ asked. finish (after_queries client ring r asked) in
      let p = split-and_then (ask_each (queries d client) r.view) next calls (started, s) ends in
      let f = finished (after_queries client ring r p.between) (started, s) p.later p.later_ends in
      let whole : calls ≡ p.first = rw (← f.0, ← p.calls_are) at (append-nil p.first) in
      let t =
      opened-stands least at client ring r call p.first more p.between
      (rw whole at c) is spare p.first_ends in
      let same : (after_queries client ring r p.between).1 ≡ s = rw f.1 in
      let own : Q (after_queries client ring r p.between).1.client =
      subst Q (sym (client-queried client ring r p.between)) t.0 in
      rw whole
      (simp (← same) (own, t.1))

  -- an accepted Open leaves a client with no calls before its queries, a refused one changes nothing
  pub start-reads : (least : ℕ) (r s : ReaderState) (started : Started) (calls more : List Call)
      → AreToCome d h Q least (calls ++ more) → IsReadingAt least r
      → EndsWith (start_talk d r) calls (started, s) → IsReadingAt (place_behind least calls) s
  unfolding LeadsTo start_talk
  start-reads least r s started [] more c reads ends = absurd cc
  start-reads least r s started (call ∷ calls) more c reads ends = by call.answer.reply refl ends.1
    where
      n : ℕ
      n = next_place call.answer.reply

      spare : HasSpare d s
      spare =
          keeps-start d r (call ∷ calls) (started, s) reads.spare
          (legal-answered d h least (call ∷ calls) (legal-first d h least (call ∷ calls) more c.legal)) ends

      by : (reply : Reply) → call.answer.reply ≡ reply → EndsWith (after_open d r reply) calls (started, s)
          → IsReadingAt (place_behind n calls) s
      by (Opened at client ring) is e =
          record {
            spare = spare;
            stands = inl (start-opened least at client ring r s started call calls more c is reads.spare e);
          }
      by reply is e =
          let f = finished (start_stop_of reply, r) (started, s) calls e in
          let same : r ≡ s = ap (λ (o : Started × ReaderState). o.1) f.1 in
          let quiet : IsReadingAt n r = quiet-reads least r call (calls ++ more) c (rw ends.0) reads in
          subst (IsReadingAt (place_behind n calls)) same (rw f.0 quiet)

  no-queue : (client ring : ℕ) (r : ReaderState) (asked : Result View Reply)
      → (after_queries client ring r asked).1.queue ≡ []
  no-queue client ring r (Ok view) = refl
  no-queue client ring r (Err reply) = refl

  -- a start leaves nothing at hand, or all as it was
  pub start-hand : (least : ℕ) (r s : ReaderState) (started : Started) (calls more : List Call) (last : ℕ
      → Option LastRead) → AreToCome d h Q least (calls ++ more) → IsReadingAt least r
      → EndsWith (start_talk d r) calls (started, s)
      → AreAtHand d h least r.client (last r.client) r.queue
      → AreAtHand d h (place_behind least calls) s.client
      (read_after_sight s.client (last s.client) (noted_sight calls)) s.queue
  unfolding LeadsTo start_talk read_after_sight
  start-hand least r s started [] more last c reads ends hand = absurd cc
  start-hand least r s started (call ∷ calls) more last c reads ends hand = by call.answer.reply ends.1
    where
      n : ℕ
      n = next_place call.answer.reply

      by : (reply : Reply) → EndsWith (after_open d r reply) calls (started, s)
          → AreAtHand d h (place_behind n calls) s.client
          (read_after_sight s.client (last s.client) (noted_sight (call ∷ calls))) s.queue
      by (Opened at client ring) e =
          let next : Result View Reply → Talk (Started × ReaderState) =
          λ asked. finish (after_queries client ring r asked) in
          let p = split-and_then (ask_each (queries d client) r.view) next calls (started, s) e in
          let f = finished (after_queries client ring r p.between) (started, s) p.later p.later_ends in
          inl (ap (λ (o : Started × ReaderState). o.1.queue) (sym f.1) ∙ no-queue client ring r p.between)
      by reply e =
          let f = finished (start_stop_of reply, r) (started, s) calls e in
          let same : r ≡ s = ap (λ (o : Started × ReaderState). o.1) f.1 in
          let quiet : AreAtHand d h n r.client (last r.client) r.queue =
          quiet-hand least r call (calls ++ more) (last r.client) c (rw ends.0) reads hand in
          let other : is_read_as r.client call.step ≡ false = rw ends.0 in
          let told : read_after_sight r.client (last r.client) (noted_sight (call ∷ [])) ≡ last r.client =
          rw append-nil (read_after-other r.client (last r.client) call.step call.answer.reply other) in
          rw same at
          (subst (λ (cs : List Call).
          AreAtHand d h (place_behind n cs) r.client
          (read_after_sight r.client (last r.client) (noted_sight (call ∷ cs))) r.queue) (sym f.0)
          (rw (← told) at quiet))
