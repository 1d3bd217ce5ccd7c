-- The view of a client is the fold of its sight, through a start, the queries and each `next`.
use Rattle.std.proofs.Common.{◌≡◌, ℕ, false, List, [], ◌∷◌, ◌++◌, refl, ◌∙◌}
use Rattle.std.specs.Prelude.{Result, Ok, Err}
use Rattle.std.proofs.lemmas.Bool.{cond_both}
use Rattle.inp_model.specs.declared.reply.Reply.TheVariants.{Opened}
use Rattle.inp_reader.specs.declared.next.Next.TheVariants.{Sync}
use Rattle.inp_script.proofs.Common.{Step, Reply, Description, is_again, past_at, Answer, IsAnswer, Call}
use Rattle.inp_script.proofs.Common.{place_of, View, Mode, Next, Started, ReaderState, start_talk, stop_of}
use Rattle.inp_script.proofs.Common.{next_talk, EndsWith, Sight, call_sight, Success, Dropped}
use Rattle.inp_model.specs.declared.step.Step.TheVariants.{Open, Read, Discard}
use Rattle.inp_recon.proofs.Each.{Each}
use Rattle.inp_reader.proofs.AgainCounts.{IsNoRead, no_read-queries, not_again}
use Rattle.inp_reader.proofs.Meets.{Any, Runs, meets-ends}
use Rattle.inp_reader.proofs.NextWalk.{AskRules, asked-meets, sync-by_parts, Queried, start-meets, Renewed}
use Rattle.inp_reader.proofs.NextWalk.{NextRules, next-meets, stop-cases}
use Rattle.inp_script.specs.declared.sight.Sight.TheVariants.{Took, Made}
use Rattle.inp_script.specs.Folding.{Folding, settled, asking, asked_on}
use Rattle.inp_script.specs.Fold.{after_client_call, after_client_entry}
use Rattle.inp_script.specs.Fold.{client_fold}
use Rattle.inp_script.proofs.Folds.{told-exact, ArePlaced}
use Rattle.inp_script.proofs.Told.{noted_sight}

-- Queries

abbrev FoldsSoFar : View → Folding View → View → List Step → Type 0
FoldsSoFar old f view left = (f ≡ asked_on old view left) × Each IsNoRead left

-- The next event

abbrev pub entries_of_next : Next → List Sight
entries_of_next (Success taken) = Took taken ∷ []
entries_of_next (Dropped taken) = Took taken ∷ []
entries_of_next (Sync event) = Made event ∷ []
entries_of_next _ = []

stop_adds_none : (reply : Reply) → entries_of_next (stop_of reply) ≡ []
stop_adds_none reply =
    stop-cases (λ next. entries_of_next next ≡ []) reply (λ at ends is. refl) refl refl (λ at. refl)

abbrev IsSettled : Folding View → ReaderState → Type 0
IsSettled f r = f ≡ settled r.view

module _ (d : Description) where
  module _ (h : List Step) where
    -- the fold goes entry by entry, so the second sight is folded from what the first one gave
    pub client_fold-append : (f : Folding View) (sight more : List Sight)
        → client_fold d h f (sight ++ more) ≡ client_fold d h (client_fold d h f sight) more
    unfolding client_fold
    client_fold-append f [] more = refl
    client_fold-append f (entry ∷ sight) more = client_fold-append (after_client_entry d h f entry) sight more

    -- The fold of what is noted of calls, each of which was answered at its place

    abbrev FoldedBy : Folding View → Step → Answer → Folding View → Type 0
    FoldedBy f x a g =
        IsAnswer d (past_at h (place_of a.reply)) x a × (g ≡ client_fold d h f (call_sight x a.reply))

    placed-run : (f : Folding View) (calls : List Call) → ArePlaced d h calls
        → Runs FoldedBy f calls (client_fold d h f (noted_sight calls))
    unfolding Runs client_fold
    placed-run f [] placed = refl
    placed-run f (call ∷ calls) placed =
        let entry : List Sight = call_sight call.step call.answer.reply in (
          client_fold d h f entry,
          (placed.0.exact, refl),
          rw client_fold-append (placed-run (client_fold d h f entry) calls placed.1),
        )

    -- each of the first calls is one of all, so it has its place
    pub placed-left : (calls more : List Call) → ArePlaced d h (calls ++ more) → ArePlaced d h calls
    placed-left [] more p = tt
    placed-left (call ∷ calls) more p = (p.0, placed-left calls more p.1)

    -- each of the later calls is one of all, so it has its place
    pub placed-right : (calls more : List Call) → ArePlaced d h (calls ++ more) → ArePlaced d h more
    placed-right [] more p = p
    placed-right (call ∷ calls) more p = placed-right calls more p.1

    -- one call that was not answered Again, and a read
    called : (f : Folding View) (x : Step) (reply : Reply) → is_again reply ≡ false
        → client_fold d h f (call_sight x reply) ≡ after_client_call d h f x reply
    unfolding client_fold
    called f x reply e = rw e

    once : (f g e : Folding View) (x : Step) (a : Answer) → f ≡ e → IsNoRead x → FoldedBy f x a g
        → g ≡ after_client_call d h e x a.reply
    once f g e x a is no_read by =
        rw (by.1, called f x a.reply (not_again d (past_at h (place_of a.reply)) x a no_read by.0), is)

    read_once : (v : View) (client count : ℕ) (reply : Reply)
        → client_fold d h (settled v) (call_sight (Read client count) reply) ≡ settled v
    unfolding client_fold
    read_once v client count reply =
        cond_both (is_again reply) _ _ (λ x. client_fold d h (settled v) x ≡ settled v)
        (λ _. refl) (λ _. refl)

    nothing_more : (f : Folding View) → client_fold d h f [] ≡ f
    unfolding client_fold
    nothing_more f = refl

    folds-asks : (old : View) (Q : Folding View → Result View Reply → Type 0)
        → ((f : Folding View) (view : View) → f ≡ settled view → Q f (Ok view))
        → ((f : Folding View) (reply : Reply) → f ≡ settled old → Q f (Err reply))
        → AskRules Any FoldedBy (FoldsSoFar old) Q
    folds-asks old Q whole stopped = record {
      asks = λ s view x xs j. tt;
      told = λ s t view x xs a j by is. (
        rw (
          once s t (asking old view (x ∷ xs)) x a j.0 j.1.0 by,
          is,
          ← told-exact d (past_at h (place_of a.reply)) view x a by.0,
        ),
        j.1.1,
      );
      stopped = λ s t view x xs a j by is.
          stopped t a.reply (rw (once s t (asking old view (x ∷ xs)) x a j.0 j.1.0 by, is));
      whole = λ s view j. whole s view j.0;
    }

    -- A start

    not_opened : (v : View) (reply : Reply) → ((at client ring : ℕ) → reply ≡ Opened at client ring → ⊥)
        → after_client_call d h (settled v) Open reply ≡ settled v
    not_opened v (Opened at client ring) other = absurd (other at client ring refl)
    not_opened v reply other = refl

    -- a start's queries set the view by their answers, and the fold takes the same answers
    pub start-folds : (r s : ReaderState) (started : Started) (calls : List Call) → ArePlaced d h calls
        → EndsWith (start_talk d r) calls (started, s)
        → client_fold d h (settled r.view) (noted_sight calls) ≡ settled s.view
    start-folds r s started calls placed ends =
        let f : Folding View = settled r.view in
        let Q : Folding View → Started × ReaderState → Type 0 = λ g o. g ≡ settled o.1.view in
        meets-ends Any FoldedBy Q f _ _ calls (started, s)
        (start-meets Any FoldedBy Q d r f (record {
          asks_open = tt;
          opened = λ g a at client ring by is.
              asked-meets Any FoldedBy _ _
              (folds-asks r.view (Queried Q client ring r) (λ k view e. e) (λ k reply e. e)) g _ r.view
              (rw (once f g f Open a refl refl by, is), no_read-queries d client);
          refused = λ g a by other. once f g f Open a refl refl by ∙ not_opened r.view a.reply other;
        })) (placed-run f calls placed) ends

    abbrev Folds : Folding View → Next × ReaderState → Type 0
    Folds f o = client_fold d h f (entries_of_next o.0) ≡ settled o.1.view

    folds-stopped : (f : Folding View) (r : ReaderState) (reply : Reply) → f ≡ settled r.view
        → Folds f (stop_of reply, r)
    folds-stopped f r reply is = rw (stop_adds_none, nothing_more) is

    folds-entry : (f : Folding View) (v : View) (entry : Sight) → f ≡ settled v
        → client_fold d h f (entry ∷ []) ≡ after_client_entry d h (settled v) entry
    unfolding client_fold
    folds-entry f v entry is = rw is

    folds-rules : (mode : Mode) → NextRules Any FoldedBy IsSettled Folds d mode
    folds-rules mode = record {
      asks_read = λ f r is. tt;
      reads = λ f g r a is plain none by e. after_read f g r a is by;
      stops = λ f g r a is plain none by e. folds-stopped g r a.reply (after_read f g r a is by);
      hands = λ f r taken rest is plain q e. folds-entry f r.view (Took taken) is;
      loses = λ f r taken rest is plain q e. folds-entry f r.view (Took taken) is;
      empty = λ f r is plain q. nothing_more f ∙ is;
      idles = λ f r is plain e. nothing_more f ∙ is;
      syncs = λ f r is needed.
          let Q : Folding View → Result View Reply → Type 0 = Renewed IsSettled Folds r in
          sync-by_parts Any FoldedBy Q d r f (record {
            asks_discard = tt;
            discarded = λ g a by e.
                asked-meets Any FoldedBy _ Q
                (folds-asks r.view Q (λ k view settles. settles)
                (λ k reply settles. folds-stopped k r reply settles)) g _ r.view (
                  rw (once f g (settled r.view) (Discard r.client) a is refl by, e),
                  no_read-queries d r.client,
                );
            refused =
                λ g a by e. folds-stopped g r a.reply
                (rw (once f g (settled r.view) (Discard r.client) a is refl by, e));
          });
      makes = λ f r event left is handing sync e. folds-entry f r.view (Made event) is;
      made_all = λ f r is handing sync e. nothing_more f ∙ is;
      goes_on = λ f r is handing e. is;
    }
      where
        after_read : (f g : Folding View) (r : ReaderState) (a : Answer) → f ≡ settled r.view
            → FoldedBy f (Read r.client 64) a g → g ≡ settled r.view
        after_read f g r a is by = rw (by.1, is) (read_once r.view r.client 64 a.reply)

    -- an event that is read and a synchronisation change the view as their entries change the fold
    pub next-folds : (mode : Mode) (r s : ReaderState) (next : Next) (calls : List Call) → ArePlaced d h calls
        → EndsWith (next_talk d mode r) calls (next, s)
        → client_fold d h (settled r.view) (noted_sight calls ++ entries_of_next next) ≡ settled s.view
    next-folds mode r s next calls placed ends =
        let f : Folding View = settled r.view in
        client_fold-append f _ (entries_of_next next)
        ∙ meets-ends Any FoldedBy Folds f _ _ calls (next, s)
        (next-meets Any FoldedBy IsSettled Folds d mode (folds-rules mode) f r refl)
        (placed-run f calls placed) ends
