-- `start` and `next` keep in a reader's view what its device cannot have.
use Rattle.std.proofs.Common.{◌≡◌, ℕ, false, List, [], ◌∷◌, refl, sym}
use Rattle.std.specs.Prelude.{Result, Ok, Err, Option, Some, None, is_some}
use Rattle.std.specs.List.{All}
use Rattle.std.proofs.lemmas.List.Elements.{All-nil, All-head, All-tail, All-same}
use Rattle.inp_model.specs.declared.taken.Taken.{Taken}
use Rattle.inp_model.specs.declared.step.Step.{Step}
use Rattle.inp_model.specs.declared.step.Step.TheVariants.{Read}
use Rattle.inp_model.specs.declared.reply.Reply.{Reply}
use Rattle.inp_model.specs.Description.{Description}
use Rattle.inp_model.specs.Evdev.{EvdevView}
use Rattle.inp_model.specs.Run.{Call}
use Rattle.inp_recon.specs.declared.view.View.{View}
use Rattle.inp_recon.specs.View.{first_view, view_after_event}
use Rattle.inp_recon.proofs.Each.{Each}
use Rattle.inp_reader.specs.declared.call_made.CallMade.{CallMade}
use Rattle.inp_reader.specs.declared.mode.Mode.{Mode}
use Rattle.inp_reader.specs.declared.phase.Phase.TheVariants.{Needed}
use Rattle.inp_reader.specs.declared.next.Next.{Next}
use Rattle.inp_reader.specs.declared.started.Started.{Started}
use Rattle.inp_reader.specs.Reader.{ReaderState, queries, sync_talk, start_talk, next_talk}
use Rattle.inp_reader.specs.Spare.{IsSpare, HasSpare}
use Rattle.inp_reader.specs.ReaderCalls.{asked_result}
use Rattle.inp_reader.specs.FollowsTalk.{FollowsTalk}
use Rattle.inp_reader.specs.Talk.{EndsWith}
use Rattle.inp_reader.proofs.Calls.{AreAnswered, answered}
use Rattle.inp_reader.proofs.Meets.{Any, Answered, answered-run, meets-ends}
use Rattle.inp_reader.proofs.NextWalk.{OfQueries, each-query, sync_steps, each-sync, AskRules, asked-meets}
use Rattle.inp_reader.proofs.NextWalk.{sync-meets, Queried, start-meets, Renewed, NextRules, next-ends}
use Rattle.inp_reader.proofs.SpareAgrees.{IsWanted, IsSpare-after_event, IsSpare-after_answer}
use Rattle.inp_reader.proofs.SpareAgrees.{IsSpare-first_view}
use Rattle.inp_reader.proofs.Supported.{events-of, IsTakenOf}

module _ (d : Description) where
  abbrev AreOf : List Taken → Type 0
  AreOf taken = All (IsTakenOf d) taken

  none-of : AreOf []
  none-of = All-nil (IsTakenOf d)

  -- Asking

  -- all that is asked for is had
  of_queries : (client : ℕ) → OfQueries d client (IsWanted d)
  unfolding IsWanted
  of_queries client =
      record { keys = λ h. h; leds = λ h. h; switches = λ h. h; axes = λ code h. h; slots = λ h. h }

  wanted-queries : (client : ℕ) → Each (IsWanted d) (queries d client)
  wanted-queries client = each-query d client (IsWanted d) (of_queries client)

  wanted-sync : (client : ℕ) → Each (IsWanted d) (sync_steps d client)
  unfolding IsWanted
  wanted-sync client = each-sync d client (IsWanted d) tt (of_queries client)

  abbrev IsSpareSoFar : Unit {0} → View → List Step → Type 0
  IsSpareSoFar s view left = IsSpare d view × Each (IsWanted d) left

  -- whatever a whole view shows, and a refusal
  spare-asks : (Q : Unit {0} → Result View Reply → Type 0) → ((view : View) → IsSpare d view → Q tt (Ok view))
      → ((reply : Reply) → Q tt (Err reply)) → AskRules Any (Answered d) IsSpareSoFar Q
  spare-asks Q whole stopped = record {
    asks = λ s view x xs j. tt;
    told = λ s t view x xs a j are is. (IsSpare-after_answer d are.0 view x a j.1.0 are.1 j.0, j.1.1);
    stopped = λ s t view x xs a j are is. stopped a.reply;
    whole = λ s view j. whole view j.0;
  }

  -- `next`

  abbrev Keeps : {A : Type 0} → Unit {0} → A × ReaderState → Type 0
  Keeps s result = HasSpare d result.1

  keeps-handed : (r s : ReaderState) (taken : Taken) (rest : List Taken) → HasSpare d r
      → r.queue ≡ taken ∷ rest
      → s ≡ record s { queue = rest; view = view_after_event r.view taken.event } → HasSpare d s
  keeps-handed r s taken rest h q is =
      let all : AreOf (taken ∷ rest) = All-same (IsTakenOf d) (taken ∷ rest) r.queue (sym q) h.queue in
      rw is (record {
        view = IsSpare-after_event d r.view taken.event (All-head (IsTakenOf d) taken rest all) h.view;
        queue = All-tail (IsTakenOf d) taken rest all;
      })

  abbrev IsSpareReader : Unit {0} → ReaderState → Type 0
  IsSpareReader s r = HasSpare d r

  keeps-rules : (mode : Mode) → NextRules Any (Answered d) IsSpareReader Keeps d mode
  keeps-rules mode = record {
    asks_read = λ s r h. tt;
    reads = λ s t r a h plain none are is.
        record { view = h.view; queue = events-of d are.0 (Read r.client 64) a are.1 };
    stops = λ s t r a h plain none are is. h;
    hands = λ s r taken rest h plain q is.
        keeps-handed r (record r { queue = rest; view = view_after_event r.view taken.event })
        taken rest h q refl;
    loses = λ s r taken rest h plain q is.
        keeps-handed r (record r { queue = rest; view = view_after_event r.view taken.event; phase = Needed })
        taken rest h q refl;
    empty = λ s r h plain q. h;
    idles = λ s r h plain is. h;
    syncs = λ s r h needed.
        sync-meets Any (Answered d) IsSpareSoFar (Renewed IsSpareReader Keeps r) d s r
        (spare-asks (Renewed IsSpareReader Keeps r) (λ view told. record { view = told; queue = none-of })
        (λ reply. record { view = h.view; queue = none-of }))
        (h.view, wanted-sync r.client);
    makes = λ s r event left h handing sync is. record { view = h.view; queue = h.queue };
    made_all = λ s r h handing sync is. record { view = h.view; queue = h.queue };
    goes_on = λ s r h handing is. record { view = h.view; queue = h.queue };
  }

  -- the events that are read are the device's own, and only what it has is asked for
  pub keeps-next : (mode : Mode) (r : ReaderState) (calls : List Call) (result : Next × ReaderState)
      → HasSpare d r → AreAnswered d calls → EndsWith (next_talk d mode r) calls result → HasSpare d result.1
  keeps-next mode r calls result h are ends =
      next-ends Any (Answered d) IsSpareReader Keeps d mode (keeps-rules mode) tt tt r calls result h
      (answered-run d calls are) ends

  -- a synchronisation

  abbrev SpareView : Unit {0} → Result View Reply → Type 0
  SpareView s (Ok view) = IsSpare d view
  SpareView s (Err reply) = Unit {0}

  -- one that was not refused
  pub spare-synced : (before after : EvdevView) (old new : List CallMade) (r : ReaderState)
      (stop : Option Reply) (view : View) → before.description ≡ d → IsSpare d r.view
      → FollowsTalk before after old new (sync_talk d r) (asked_result stop view) → is_some stop ≡ false
      → IsSpare d view
  spare-synced before after old new r (Some reply) view same s h whole = absurd cc
  spare-synced before after old new r None view same s h whole =
      meets-ends Any (Answered d) SpareView tt tt (sync_talk d r) h.calls (Ok view)
      (sync-meets Any (Answered d) IsSpareSoFar SpareView d tt r
      (spare-asks SpareView (λ told is. is) (λ reply. tt)) (s, wanted-sync r.client))
      (answered-run d h.calls (answered d before after h.calls same h.are_calls)) h.talk_ends

  -- `start`

  keeps-queried : (client ring : ℕ) (r : ReaderState) → HasSpare d r
      → AskRules Any (Answered d) IsSpareSoFar (Queried Keeps client ring r)
  keeps-queried client ring r h =
      spare-asks (Queried Keeps client ring r) (λ view told. record { view = told; queue = none-of })
      (λ reply. record { view = h.view; queue = none-of })

  -- a start asks only for what the device has, and leaves the queue empty or as it was
  pub keeps-start : (r : ReaderState) (calls : List Call) (result : Started × ReaderState) → HasSpare d r
      → AreAnswered d calls → EndsWith (start_talk d r) calls result → HasSpare d result.1
  keeps-start r calls result h are ends =
      meets-ends Any (Answered d) Keeps tt tt (start_talk d r) calls result
      (start-meets Any (Answered d) Keeps d r tt (record {
        asks_open = tt;
        opened = λ t a at client ring allowed is.
            asked-meets Any (Answered d) IsSpareSoFar (Queried Keeps client ring r)
            (keeps-queried client ring r h) t (queries d client) r.view (h.view, wanted-queries client);
        refused = λ t a allowed other. h;
      })) (answered-run d calls are) ends

  -- an evdev answers as the device, so what it cannot have stays as it was
  pub says-keeps_start : {before after : EvdevView} {old new : List CallMade}
      (r : ReaderState) {result : Started × ReaderState} → before.description ≡ d → HasSpare d r
      → FollowsTalk before after old new (start_talk d r) result → HasSpare d result.1
  says-keeps_start r same s h =
      keeps-start r h.calls _ s (answered d _ _ h.calls same h.are_calls) h.talk_ends

  -- the same of `next`
  pub says-keeps_next : {before after : EvdevView} {old new : List CallMade} (mode : Mode)
      (r : ReaderState) {result : Next × ReaderState} → before.description ≡ d → HasSpare d r
      → FollowsTalk before after old new (next_talk d mode r) result → HasSpare d result.1
  says-keeps_next mode r same s h =
      keeps-next mode r h.calls _ s (answered d _ _ h.calls same h.are_calls) h.talk_ends

-- a new reader
pub new-spare : (d same : Description) (r : ReaderState) → same ≡ d → r.view ≡ first_view d → r.queue ≡ []
    → HasSpare same r
new-spare d same r e view empty = record {
  view = rw (e, view) (IsSpare-first_view d);
  queue = All-same (IsTakenOf same) r.queue [] empty (All-nil (IsTakenOf same));
}
