-- Lines that an actor did by calls of an evdev, some after others: the calls are those of the lines' talk.
use Rattle.std.proofs.Common.{◌≡◌, ℕ, ◌+◌, true, false, List, [], ◌∷◌, ◌++◌, map, refl, sym, subst, ◌∙◌}
use Rattle.std.proofs.Common.{arith, append_assoc, append-nil, zero-add, inl, inr, Option, Some, None}
use Rattle.std.specs.Prelude.{◌⊎◌, length}
use Rattle.inp_model.specs.Reply.{done_answer, is_full}
use Rattle.inp_script.specs.Sight.{stop_after}
use Rattle.inp_runs.proofs.Common.{same_Some, Stamped, Step, Description, EvdevView, past_at, Answer}
use Rattle.inp_runs.proofs.Common.{IsAnswer, answer_by, is_accepted, Call, place_of, Line, Role, Source, Talk}
use Rattle.inp_runs.proofs.Common.{finish, and_then, EndsWith, finished, Stop, Waiting, unless_stopped, Job}
use Rattle.inp_runs.proofs.Common.{after_call, on_job, last_talk, cond_both, Reply}
use Rattle.inp_model.specs.Injection.{inject_of}
use Rattle.inp_model.specs.Leaves.{AreCalls}
use Rattle.inp_model.proofs.Leaves.{AreCalls-append}
use Rattle.inp_reader.specs.Talk.{LeadsTo}
use Rattle.inp_script.specs.declared.stop.Stop.TheVariants.{Full}
use Rattle.inp_script.specs.DoneLine.{line_talk, Holds, inject_talk}
use Rattle.inp_script.specs.Line.{stream_talk, call_talk}
use Rattle.inp_runs.specs.EventLines.{inject_line}
use Rattle.inp_runs.specs.Job.{lines_talk}
use Rattle.inp_runs.proofs.order.Rounds.{lines-next}

-- How an injected event is answered: it is entered and its source goes on, or the history is full and its
-- source stops.
abbrev IsInjectAnswer : Answer → Type 0
IsInjectAnswer given =
    ((is_accepted given.reply ≡ true) × (stop_after given.reply ≡ None))
    ⊎ ((is_accepted given.reply ≡ false) × (stop : Stop) × (stop_after given.reply ≡ Some stop))

inject-answer : (d : Description) (past : List Step) (x : Stamped) (given : Answer)
    → IsAnswer d past (inject_of x) given → IsInjectAnswer given
inject-answer d past x given (inr lacks) = let never = lacks.0 in absurd cc
inject-answer d past x given (inl same) =
    subst IsInjectAnswer (sym same)
    (cond_both (is_full d past) _ _ (λ (o : Option Reply). IsInjectAnswer (answer_by o (done_answer past)))
    (λ _. inr (refl, Full (length past), refl)) (λ _. inl (refl, refl)))

module _ (d : Description) (streams : List (List Stamped)) (wait : Option Waiting) where
  module _ (number rounds : ℕ) (rest : List Line) where
    -- what a source does at the lines of these events, and at the lines behind them
    abbrev lines_of : List Stamped → Job → Talk (Option Job)
    lines_of events j = lines_talk Source d streams wait rounds (map (inject_line number) events ++ rest) j

    -- one line, by whether the source had stopped
    abbrev first_of : Option Stop → Stamped → List Stamped → Job → Talk (Option Job)
    first_of stop x events j =
        and_then (unless_stopped stop j (call_talk j (inject_of x))) (on_job (lines_of events))

    first-line : (stop : Option Stop) (x : Stamped) (events : List Stamped) (j : Job) → j.stop ≡ stop
        → lines_of (x ∷ events) j ≡ first_of stop x events j
    unfolding lines_talk line_talk
    first-line stop x events j is = rw is

    -- nothing is done at the lines of a source that stopped
    lines-stopped : (events : List Stamped) (j : Job) (stop : Stop) → j.stop ≡ Some stop
        → lines_of events j ≡ lines_of [] j
    lines-stopped [] j stop is = refl
    lines-stopped (x ∷ events) j stop is =
        first-line (Some stop) x events j is ∙ lines-stopped events j stop is

    -- nor is there a call where nothing more is asked
    none-more : (events : List Stamped) (j mid new : Job) (calls more : List Call)
        → lines_of events j ≡ lines_of [] j
        → EndsWith (finish (Some j)) calls (Some mid) → EndsWith (lines_of [] mid) more (Some new)
        → EndsWith (lines_of events j) (calls ++ more) (Some new)
    none-more events j mid new calls more nothing ends last =
        let f = finished (Some j) (Some mid) calls ends in
        rw (nothing, f.0) (rw (same_Some j mid f.1) last)

    lines-going : (events : List Stamped) (before after : EvdevView) (j mid new : Job)
        (calls more : List Call) → j.stop ≡ None → EndsWith (stream_talk events j) calls (Some mid)
        → AreCalls before after calls
        → EndsWith (lines_of [] mid) more (Some new) → EndsWith (lines_of events j) (calls ++ more) (Some new)
    unfolding LeadsTo AreCalls stream_talk
    lines-going [] before after j mid new calls more goes leads are last = none-more [] j mid new calls more
        refl leads last
    lines-going (x ∷ events) before after j mid new [] more goes leads are last = absurd cc
    lines-going (x ∷ events) before after j mid new (call ∷ calls) more goes (step, leads)
        (between, is_call, are) last =
        rw (first-line None x events j goes) (
          step,
          by answered (λ stops e. lines-going events between after next mid new calls more stops e are last),
        )
      where
        next : Job
        next = after_call j (inject_of x) call.answer

        answered : IsInjectAnswer call.answer
        answered =
            inject-answer between.description
            (past_at between.seen (place_of call.answer.reply)) x call.answer
            (rw step at is_call.placed.exact)

        by : IsInjectAnswer call.answer
            → (next.stop ≡ None → EndsWith (stream_talk events next) calls (Some mid)
            → EndsWith (lines_of events next) (calls ++ more) (Some new))
            → EndsWith (lines_of events next) (calls ++ more) (Some new)
        by (inl (accepted, goes_on)) later = later goes_on (rw accepted at leads)
        by (inr (refused, stop, stops)) later =
            none-more events next mid new calls more (lines-stopped events next stop stops)
            (rw refused at leads) last

    -- The calls by which a source injects events are those of the lines that each inject one of them.
    pub injects-called : (events : List Stamped) (before after : EvdevView) (j mid new : Job)
        (calls more : List Call) → EndsWith (inject_talk events j) calls (Some mid)
        → AreCalls before after calls
        → EndsWith (lines_of [] mid) more (Some new) → EndsWith (lines_of events j) (calls ++ more) (Some new)
    injects-called events before after j mid new calls more leads are last = by j.stop refl leads
      where
        by : (o : Option Stop) → j.stop ≡ o
            → EndsWith (unless_stopped o j (stream_talk events j)) calls (Some mid)
            → EndsWith (lines_of events j) (calls ++ more) (Some new)
        by None is e = lines-going events before after j mid new calls more is e are last
        by (Some stop) is e = none-more events j mid new calls more (lines-stopped events j stop is) e last

-- Some lines, and those behind them

-- An actor of this role made these calls at these lines. Whatever lines stand behind them, its calls at all
-- of them begin so.
pub record AreCalled (before after : EvdevView) (role : Role) (d : Description)
    (streams : List (List Stamped)) (wait : Option Waiting) (lines : List Line) (old mid : Job) : Type 0 where
  -- the calls that were made at these lines
  pub calls : List Call
  -- they were made one after another, from the first state of the device to the last
  pub are_calls : AreCalls before after calls
  -- for these lines so many rounds are enough
  pub rounds : ℕ
  -- the calls of the lines behind these follow them, and both are the calls of all
  pub goes_on : (n : ℕ) (rest : List Line) (more : List Call) (new : Job)
      → EndsWith (lines_talk role d streams wait n rest mid) more (Some new)
      → EndsWith (lines_talk role d streams wait (rounds + n) (lines ++ rest) old) (calls ++ more) (Some new)

module _ (role : Role) (d : Description) (streams : List (List Stamped)) (wait : Option Waiting) where
  -- in no more rounds than before
  no-rounds : (n : ℕ) (lines : List Line) (calls : List Call) (old new : Job)
      → EndsWith (lines_talk role d streams wait n lines old) calls (Some new)
      → EndsWith (lines_talk role d streams wait (0 + n) lines old) calls (Some new)
  no-rounds n lines calls old new e = rw zero-add e

  -- at no lines no calls are made, and the job stays as it was
  pub called-none : (s : EvdevView) (j : Job) → AreCalled s s role d streams wait [] j j
  unfolding AreCalls
  called-none s j =
      record {
        calls = [];
        are_calls = refl;
        rounds = 0;
        goes_on =
            λ n rest more new e. no-rounds n rest more j new e;
      }

  -- one line
  pub called-line : (before after : EvdevView) (n : ℕ) (line : Line) (old new : Job)
      → Holds before after (line_talk role d streams wait n line.command old) (Some new)
      → AreCalled before after role d streams wait (line ∷ []) old new
  called-line before after n line old new holds = record {
    calls = holds.calls;
    are_calls = holds.are_calls;
    rounds = n;
    goes_on = λ m rest more last e.
        lines-next role d streams wait n m line rest old new last holds.calls more holds.talk_ends e;
  }

  -- lines of a source that each inject an event
  pub called-events : (before after : EvdevView) (number : ℕ) (events : List Stamped) (old new : Job)
      → role ≡ Source → Holds before after (inject_talk events old) (Some new)
      → AreCalled before after role d streams wait (map (inject_line number) events) old new
  called-events before after number events old new source holds =
      rw source (record {
        calls = holds.calls;
        are_calls = holds.are_calls;
        rounds = 0;
        goes_on = λ n rest more last e.
            rw zero-add
            (injects-called d streams wait number n rest events before after old new last holds.calls more
            holds.talk_ends holds.are_calls e);
      })

  -- some lines, and then some more
  pub called-append : (before between after : EvdevView) (lines more : List Line) (old mid new : Job)
      → AreCalled before between role d streams wait lines old mid
      → AreCalled between after role d streams wait more mid new
      → AreCalled before after role d streams wait (lines ++ more) old new
  called-append before between after lines more old mid new h k = record {
    calls = h.calls ++ k.calls;
    are_calls = AreCalls-append before between after h.calls k.calls h.are_calls k.are_calls;
    rounds = h.rounds + k.rounds;
    goes_on = λ n rest calls last e.
        let same : h.rounds + k.rounds + n ≡ h.rounds + (k.rounds + n) = omega arith in
        rw (same, append_assoc)
        (rw append_assoc
        (h.goes_on (k.rounds + n) (more ++ rest) (k.calls ++ calls) last (k.goes_on n rest calls last e)));
  }

  -- all lines, and what is asked then
  pub called-all : (before between after : EvdevView) (lines : List Line) (old mid new : Job)
      → AreCalled before between role d streams wait lines old mid
      → Holds between after (last_talk wait role mid) (Some new)
      → (rounds : ℕ) × Holds before after (lines_talk role d streams wait rounds lines old) (Some new)
  unfolding lines_talk
  called-all before between after lines old mid new h last = (
    h.rounds + 0,
    record {
      calls = h.calls ++ last.calls;
      talk_ends = rw append-nil at (h.goes_on 0 [] last.calls new last.talk_ends);
      are_calls = AreCalls-append before between after h.calls last.calls h.are_calls last.are_calls;
    },
  )
