-- The views that a reader keeps, and the synthesised events: they lead from the view that it had to the one
-- that it has, and each but a report changes the view.
use Rattle.std.proofs.Common.{◌≡◌, List, [], ◌∷◌, refl, sym, ap, ◌∙◌, ℕ, ◌*◌, ℤ, length}
use Rattle.inp_model.specs.declared.event.Event.{Event}
use Rattle.inp_model.specs.declared.reply.Reply.{Reply}
use Rattle.inp_model.specs.Description.{Description}
use Rattle.inp_model.specs.Evdev.{EvdevView}
use Rattle.inp_recon.specs.declared.view.View.{View}
use Rattle.inp_recon.specs.View.{view_after_events}
use Rattle.inp_reader.specs.declared.call_made.CallMade.{CallMade}
use Rattle.inp_reader.specs.declared.mode.Mode.TheVariants.{Sync as Synchronising}
use Rattle.inp_reader.specs.declared.phase.Phase.TheVariants.{Plain, Needed, Handing}
use Rattle.inp_reader.specs.declared.next.Next.{Next}
use Rattle.inp_reader.specs.Laws.{AreOfOneDevice}
use Rattle.inp_reader.specs.Reader.{ReaderState, stop_of, hand_synthesised, after_full_sync}
use Rattle.inp_reader.specs.Reader.{after_failed_sync}
use Rattle.inp_reader.specs.Reader.{next_talk, queries, start_talk, sync_talk}
use Rattle.inp_reader.specs.FollowsTalk.{FollowsTalk}
use Rattle.inp_reader.specs.KeptViews.{IsKeptView, synthesised_in, LeadsOn, KeepsTheView}
use Rattle.inp_reader.proofs.Meets.{Any, IsCallOn, Meets, says-meets}
use Rattle.inp_reader.proofs.NextWalk.{Renewed, NextRules, next-says, stop-cases, AskRules, asked-meets}
use Rattle.inp_reader.proofs.NextWalk.{sync-meets, Queried, start-meets}
use Rattle.std.specs.Prelude.{Result, Ok, Err}
use Rattle.inp_model.specs.declared.step.Step.{Step}
use Rattle.inp_reader.specs.declared.mode.Mode.{Mode}
use Rattle.inp_reader.proofs.UnsetSlotAxes.{IsKeptView-after_event, IsKeptView-after_call}
use Rattle.inp_reader.specs.Synthesis.{where_below, with_report, is_replaced, lifts, is_changed, cell_changes}
use Rattle.inp_reader.specs.Synthesis.{slot_changes, synth}
use Rattle.inp_reader.proofs.SynthesisedEvents.{last_slot}
use Rattle.inp_reader.proofs.Puts.{leads-with_report, EachChanges-with_report}
use Rattle.inp_reader.proofs.Classes.{LeadsTheView, LeadsTheView-behind, leads-classes, with_slots}
use Rattle.inp_reader.proofs.Classes.{LeadsTheView-to_slot, LeadsTheView-cells, ended, length-ended}
use Rattle.inp_reader.proofs.Classes.{LeadsTheView-lifts}

LeadsTheView-with_report : {v w : View} {es : List Event} → LeadsTheView v w es
    → LeadsTheView v w (with_report es)
LeadsTheView-with_report {v} {w} {es} h =
    record { to = leads-with_report v es ∙ h.to; changes = EachChanges-with_report v es h.changes }

-- from the current slot and the values of an old view to the new one
LeadsTheView-slots : (slots : ℕ) (old new : View) → length old.cells ≡ 14 * slots
    → length new.cells ≡ 14 * slots
    → LeadsTheView (with_slots new old.slot old.cells) new (slot_changes old new)
LeadsTheView-slots slots old new l m =
    let last : ℤ = last_slot (where_below slots (is_changed old new)) old.slot in
    let is_last : (view_after_events old (cell_changes old new)).slot ≡ last =
    rw ((LeadsTheView-cells slots old old new l m).to) in
    rw is_last (LeadsTheView-behind (LeadsTheView-cells slots new old new l m)
    (LeadsTheView-to_slot new new.cells last new.slot))

-- first the contacts that ended, then all that still differs; reports change nothing
pub LeadsTheView-synth : (slots : ℕ) (old new : View) → AreOfOneDevice slots old new
    → LeadsTheView old new (synth old new)
unfolding synth
LeadsTheView-synth slots old new h =
    let replaced : List ℕ = where_below slots (is_replaced old new) in
    let slot : ℤ = last_slot replaced old.slot in
    let cells : List ℤ = ended replaced old.cells in
    let mid : View = with_slots old slot cells in
    let first : LeadsTheView old mid (lifts old new) =
    LeadsTheView-lifts slots old old new h.old_sized.cells in
    let slots_changed =
    LeadsTheView-slots slots mid new (length-ended replaced old.cells
    ∙ h.old_sized.cells) h.new_sized.cells in
    rw first.to
    (LeadsTheView-behind (LeadsTheView-with_report first)
    (LeadsTheView-with_report (LeadsTheView-behind (leads-classes slots old new slot cells h) slots_changed)))

abbrev pub ResultLeadsOn : View → Next × ReaderState → Type 0
ResultLeadsOn view result = LeadsOn view result.0 result.1

abbrev EndLeadsOn : View → EvdevView → Next × ReaderState → Type 0
EndLeadsOn view told result = ResultLeadsOn view result

-- the next synthesised event is handed out, where the events that are left lead to the reader's view
leads-handed : (view : View) (r : ReaderState) (left : List Event) → r.phase ≡ Handing
    → view_after_events view left ≡ r.view → ResultLeadsOn view (hand_synthesised r left)
unfolding view_after_events
leads-handed view r [] is h = record { leads = h; goes_on = λ event e. absurd cc; synced = λ e. refl }
leads-handed view r (event ∷ left) is h =
    record { leads = h; goes_on = λ other e. is; synced = λ e. absurd cc }

-- a step that was not accepted hands out none
none-stopped : (reply : Reply) → synthesised_in (stop_of reply) ≡ []
none-stopped reply =
    stop-cases (λ next. synthesised_in next ≡ []) reply (λ at ends is. refl) refl refl (λ at. refl)

leads-failed : (r : ReaderState) (reply : Reply) → ResultLeadsOn r.view (stop_of reply, after_failed_sync r)
unfolding view_after_events
leads-failed r reply = record {
  leads = rw none-stopped;
  goes_on = λ event e. (let none : [] ≡ event ∷ [] = sym (none-stopped reply)
      ∙ ap synthesised_in e in absurd cc);
  synced = λ e. refl;
}

module _ (d : Description) where
  -- a view of this evdev's device
  abbrev pub KeepsOn : EvdevView → View → Type 0
  KeepsOn told view = (told.description ≡ d) × IsKeptView d view

  abbrev KeepsSoFar : EvdevView → View → List Step → Type 0
  KeepsSoFar told view left = KeepsOn told view

  kept-asks : (Q : EvdevView → Result View Reply → Type 0)
      → ((told : EvdevView) (view : View) → KeepsOn told view → Q told (Ok view))
      → ((told : EvdevView) (reply : Reply) → told.description ≡ d → Q told (Err reply))
      → AskRules Any IsCallOn KeepsSoFar Q
  kept-asks Q whole stopped = record {
    asks = λ s view x xs k. tt;
    told = λ s t view x xs a k h is. (
      h.description
          ∙ k.0,
      IsKeptView-after_call d s t view (record { step = x; answer = a }) k.0 h k.1,
    );
    stopped = λ s t view x xs a k h is. stopped t a.reply (h.description ∙ k.0);
    whole = whole;
  }

  pub sync-kept : (Q : EvdevView → Result View Reply → Type 0) (told : EvdevView) (r : ReaderState)
      → KeepsOn told r.view
      → ((t : EvdevView) (view : View) → KeepsOn t view → Q t (Ok view))
      → ((t : EvdevView) (reply : Reply) → t.description ≡ d → Q t (Err reply))
      → Meets Any IsCallOn Q told (sync_talk d r)
  sync-kept Q told r k whole stopped =
      sync-meets Any IsCallOn KeepsSoFar Q d told r (kept-asks Q whole stopped) k

  abbrev HasKept : {A : Type 0} → EvdevView → A × ReaderState → Type 0
  HasKept told result = IsKeptView d result.1.view

  abbrev IsOf : EvdevView → ReaderState → Type 0
  IsOf told r = KeepsOn told r.view

  kept-rules : (mode : Mode) → NextRules Any IsCallOn IsOf HasKept d mode
  kept-rules mode = record {
    asks_read = λ s r k. tt;
    reads = λ s t r a k plain none h is. (h.description ∙ k.0, k.1);
    stops = λ s t r a k plain none h is. k.1;
    hands = λ s r taken rest k plain q is. IsKeptView-after_event d r.view taken.event k.1;
    loses = λ s r taken rest k plain q is. IsKeptView-after_event d r.view taken.event k.1;
    empty = λ s r k plain q. k.1;
    idles = λ s r k plain is. k.1;
    syncs = λ s r k needed. sync-kept (Renewed IsOf HasKept r) s r k (λ t view told. told)
        (λ t reply same. k.1);
    makes = λ s r event left k handing sync is. k.1;
    made_all = λ s r k handing sync is. k.1;
    goes_on = λ s r k handing is. k;
  }

  -- `next` sets the view by events and answers, which keep its sizes and the axes of slots
  pub next-kept : (mode : Mode) (r : ReaderState) → KeepsTheView d r (next_talk d mode r)
  next-kept mode r before after old new result same kept says =
      next-says IsOf HasKept d mode (kept-rules mode) before after old new r result (same, kept) says

  -- a start sets the view by answers alone, which keep its sizes and the axes of slots
  pub start-kept : (r : ReaderState) → KeepsTheView d r (start_talk d r)
  start-kept r before after old new result same kept says =
      says-meets Any HasKept before after old new (start_talk d r) result
      (start-meets Any IsCallOn HasKept d r before (record {
        asks_open = tt;
        opened = λ t a at client ring h is.
            asked-meets Any IsCallOn KeepsSoFar (Queried HasKept client ring r)
            (kept-asks (Queried HasKept client ring r) (λ u view told. told.1) (λ u reply there. kept)) t
            (queries d client) r.view (h.description ∙ same, kept);
        refused = λ t a h other. kept;
      })) says

  -- Handed out

  -- two views that a reader of such devices keeps are of one device
  pub AreOfOneDevice-kept : (old new : View) → IsKeptView d old → IsKeptView d new
      → AreOfOneDevice d.slots old new
  AreOfOneDevice-kept old new h k =
      record {
        old_sized = h.sized;
        new_sized = k.sized;
        axes = λ code from to. h.axes code from to
            ∙ sym (k.axes code from to);
      }

  -- the events that are left lead from this view to the reader's, once it has synchronised, which it does
  -- next where it is to
  pub record IsLeading (view : View) (told : EvdevView) (r : ReaderState) : Type 0 where
    needed : r.phase ≡ Needed → KeepsOn told r.view × (view ≡ r.view)
    handing : r.phase ≡ Handing → view_after_events view r.left ≡ r.view
    not_plain : r.phase ≡ Plain → ⊥

  leads-synced : (view : View) (told : EvdevView) (r : ReaderState) (new : View) → IsKeptView d r.view
      → view ≡ r.view → IsKeptView d new → IsLeading view told (after_full_sync r new)
  leads-synced view told r new old is h = record {
    needed = λ e. absurd cc;
    handing = λ e. rw is ((LeadsTheView-synth d.slots r.view new (AreOfOneDevice-kept r.view new old h)).to);
    not_plain = λ e. cc;
  }

  leads-rules : (view : View) → NextRules Any IsCallOn (IsLeading view) (EndLeadsOn view) d Synchronising
  leads-rules view = record {
    asks_read = λ s r i. tt;
    reads = λ s t r a i plain none h is. absurd (i.not_plain plain);
    stops = λ s t r a i plain none h is. absurd (i.not_plain plain);
    hands = λ s r taken rest i plain q is. absurd (i.not_plain plain);
    loses = λ s r taken rest i plain q is. absurd (i.not_plain plain);
    empty = λ s r i plain q. absurd (i.not_plain plain);
    idles = λ s r i plain is. absurd (i.not_plain plain);
    syncs = λ s r i needed.
        let k : KeepsOn s r.view × (view ≡ r.view) = i.needed needed in
        sync-kept (Renewed (IsLeading view) (EndLeadsOn view) r) s r k.0
        (λ t new told. leads-synced view t r new k.0.1 k.1 told.1)
        (λ t reply same. rw k.1 (leads-failed r reply));
    makes = λ s r event left i is sync more.
        leads-handed view r (event ∷ left) is (rw (← more) (i.handing is));
    made_all = λ s r i is sync none. leads-handed view r [] is (rw (← none) (i.handing is));
    goes_on = λ s r i is mode. absurd cc;
  }

  -- a Sync call synchronises where it is to, and hands out the first of the events that lead on
  pub leads-next : (r : ReaderState) (view : View) (before after : EvdevView) (old new : List CallMade)
      (result : Next × ReaderState) → IsLeading view before r
      → FollowsTalk before after old new (next_talk d Synchronising r) result → ResultLeadsOn view result
  leads-next r view before after old new result i says =
      next-says (IsLeading view) (EndLeadsOn view) d Synchronising
      (leads-rules view) before after old new r result i says

  -- in phase Needed the reader's own view is the one to lead on from
  pub leads-from_needed : (told : EvdevView) (r : ReaderState) → told.description ≡ d → IsKeptView d r.view
      → r.phase ≡ Needed → IsLeading r.view told r
  leads-from_needed told r same kept is =
      record { needed = λ e. ((same, kept), refl); handing = λ e. absurd cc; not_plain = λ e. cc }

  -- in phase Handing the events that are left lead to the reader's view
  pub leads-from_handing : (told : EvdevView) (r : ReaderState) (view : View) → r.phase ≡ Handing
      → view_after_events view r.left ≡ r.view → IsLeading view told r
  leads-from_handing told r view is h =
      record { needed = λ e. absurd cc; handing = λ e. h; not_plain = λ e. cc }
