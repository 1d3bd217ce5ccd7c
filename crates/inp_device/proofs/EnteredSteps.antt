-- A step of the device: refused, or accepted and entered.
use Rattle.std.proofs.Common.{◌≡◌, ℕ, ◌+◌, ◌<◌, ◌≤◌, true, false, List, [], ◌∷◌, ◌++◌, length, reverse, refl}
use Rattle.std.proofs.Common.{sym, ap, subst, ◌∙◌, ℤ, arith, inl, inr, Option, Some, None}
use Rattle.std.specs.Prelude.{Result}
use Rattle.std.proofs.lemmas.Bool.{le-leb, lt-leb, leb-false, true≢false}
use Rattle.std.proofs.lemmas.List.{length-reverse, reverse-append, length-append}
use Rattle.inp_model.specs.declared.no_memory.NoMemory.{NoMemory as WantOfMemory}
use Rattle.inp_model.specs.declared.event.Event.{Event}
use Rattle.inp_model.specs.declared.taken.Taken.{Taken}
use Rattle.inp_model.specs.declared.step.Step.{Step}
use Rattle.inp_model.specs.declared.step.Step.TheVariants.{Open, Inject}
use Rattle.inp_model.specs.declared.reply.Reply.{Reply}
use Rattle.inp_model.specs.declared.reply.Reply.TheVariants.{Refused, Done}
use Rattle.inp_model.specs.declared.reply.Refusal.TheVariants.{NoMemory, LogFull}
use Rattle.inp_model.specs.Description.{Description}
use Rattle.inp_model.specs.Reply.{Answer, alone, answer_by, answer, refused, accepted, is_accepted, written}
use Rattle.inp_model.specs.Reply.{IsDeviceStep, IsAnswer}
use Rattle.inp_model.proofs.Refused.{refused-not_accepted}
use Rattle.inp_device.specs.declared.present.Present.{Present}
use Rattle.inp_device.specs.Present.{PresentStandsFor, IsReadyFor, IsAcceptedStep, IsMadeOrLacks, StoresFew}
use Rattle.inp_device.specs.Present.{IsKeptWith}
use Rattle.inp_model.proofs.Allowed.{allowed}

-- Not accepted

-- an answer that writes nothing
record IsShort (given : Answer) : Type 0 where
  events : given.events ≡ []
  cells : given.cells ≡ []

pub accepted-enters : (d : Description) (past : List Step) (x : Step)
    → is_accepted (accepted d past x).reply ≡ true
accepted-enters d past x = by x
  where
    by : (y : Step) → is_accepted (accepted d past y).reply ≡ true
    by Open = refl
    by y = refl

short_by : (d : Description) (past : List Step) (x : Step) (o : Option Reply)
    → is_accepted (answer_by o (accepted d past x)).reply ≡ false → IsShort (answer_by o (accepted d past x))
short_by d past x None h = absurd (true≢false (sym (accepted-enters d past x) ∙ h))
short_by d past x (Some reply) h = record { events = refl; cells = refl }

given-short : (d : Description) (past : List Step) (x : Step) (given : Answer) → IsAnswer d past x given
    → is_accepted given.reply ≡ false → IsShort given
given-short d past x given (inl same) h =
    let short = short_by d past x (refused d past x) (rw (← same) h) in
    record { events = rw same short.events; cells = rw same short.cells }
given-short d past x given (inr lacks) h = record { events = rw lacks.2; cells = rw lacks.2 }

module _ {d : Description} {past : List Step} {x : Step} {reply : Reply} {out new_out : List Taken}
    {cells new_cells : List ℤ} {new_past : List Step} where
  -- nothing is written to the caller's buffers
  pub out-stays : IsDeviceStep d past x reply out new_out cells new_cells new_past → is_accepted reply ≡ false
      → new_out ≡ out
  out-stays s h =
      rw (s.out_written, (given-short d past x s.given s.exact (ap is_accepted (sym s.replied) ∙ h)).events)

  -- no values of slots are written either
  pub cells-stay : IsDeviceStep d past x reply out new_out cells new_cells new_past
      → is_accepted reply ≡ false → new_cells ≡ cells
  cells-stay s h =
      rw (s.cells_written, (given-short d past x s.given s.exact (ap is_accepted (sym s.replied) ∙ h)).cells)

-- Refused

-- a refused step is answered with its refusal alone: nothing is written, and it takes no place
pub refused_step : (d : Description) (past : List Step) (x : Step) (reply : Reply) (out : List Taken)
    (cells : List ℤ) → refused d past x ≡ Some reply → IsDeviceStep d past x reply out out cells cells past
refused_step d past x reply out cells h =
    let given : answer d past x ≡ alone reply = rw h in
    record {
      given = answer d past x;
      exact = inl refl;
      replied = rw given;
      out_written = rw given;
      cells_written = rw given;
      entered = sym (rw (refused-not_accepted d past x reply h));
    }

made_step : (d : Description) (past : List Step) (x : Step) (reply : Reply) (out new_out : List Taken)
    (cells new_cells : List ℤ) (new_past : List Step) → refused d past x ≡ None
    → reply ≡ (accepted d past x).reply → new_out ≡ written (accepted d past x).events out
    → new_cells ≡ written (accepted d past x).cells cells → is_accepted (accepted d past x).reply ≡ true
    → new_past ≡ x ∷ past
    → IsDeviceStep d past x reply out new_out cells new_cells new_past
made_step d past x reply out new_out cells new_cells new_past none r o k enters entered =
    let given : answer d past x ≡ accepted d past x = rw none in
    record {
      given = answer d past x;
      exact = inl refl;
      replied = rw (given, ← r);
      out_written = rw (given, ← o);
      cells_written = rw (given, ← k);
      entered = entered ∙ sym (rw (r, enters));
    }

-- An injected event is refused by a full history alone.

-- the history is full, so the refusal is the first of all, and nothing is written
pub inject_refused : (d : Description) (past : List Step) (e : Event) (now : ℕ) (reply : Reply)
    (out : List Taken) (cells : List ℤ) → d.log_limit ≤ length past → reply ≡ Refused (length past) LogFull
    → IsDeviceStep d past (Inject e now) reply out out cells cells past
inject_refused d past e now reply out cells full r =
    refused_step d past (Inject e now) reply out cells (rw (le-leb, ← r))

-- the history has room, so nothing refuses the event, and it is answered Done
pub inject_entered : (d : Description) (past new_past : List Step) (e : Event) (now : ℕ) (reply : Reply)
    (out : List Taken) (cells : List ℤ) → length past < d.log_limit → reply ≡ Done (length past)
    → new_past ≡ Inject e now ∷ past
    → IsDeviceStep d past (Inject e now) reply out out cells cells new_past
inject_entered d past new_past e now reply out cells room r entered =
    made_step d past (Inject e now) reply out out cells cells new_past (rw lt-leb) r refl refl refl entered

-- What a device keeps lies behind a pointer: what a call is lent is what it keeps.

-- the refusal was found from what the device lent, which is what it keeps
pub told_of : (lent p : Present) (now steps : List Step) (x : Step) (given : Option Reply) → lent ≡ p
    → now ≡ steps → given ≡ refused lent.caps (reverse now) x → refused p.caps (reverse steps) x ≡ given
told_of lent p now steps x given same same_steps exact = sym (rw (exact, same, same_steps))

-- the step was made on what the device lent, which is what it keeps
pub made_of : (r : Result Reply WantOfMemory) (lent p new : Present) (now steps : List Step) (x : Step)
    (out new_out : List Taken) (cells new_cells : List ℤ) → lent ≡ p → now ≡ steps
    → IsMadeOrLacks now x lent r out new_out cells new_cells new
    → IsMadeOrLacks steps x p r out new_out cells new_cells new
made_of r lent p new now steps x out new_out cells new_cells same same_steps made =
    rw same_steps at
    (rw same at made)

-- Ready

module _ {p : Present} {steps : List Step} {capacity : ℕ} (x : Step) (kept : IsKeptWith steps capacity p)
    (none : refused p.caps (reverse steps) x ≡ None) where
  below_limit : length steps < p.caps.log_limit
  below_limit =
      omega (
        arith,
        leb-false p.caps.log_limit (length (reverse steps))
            (allowed p.caps (reverse steps) x none).room,
        length-reverse steps,
      )

  -- the history is below its limit, and nothing refuses the step
  pub ready : IsReadyFor steps x p
  ready = record { stands = kept.stands; few = omega (arith, below_limit, kept.range); allowed = none }

  -- the history is below its limit, which is no more than the capacity
  pub room : length steps < capacity
  room = omega (arith, below_limit, kept.room)

  -- Entered

  -- the step that was made is pushed, so what is kept stands for the longer history
  pub entered_kept : {new : Present} {pushed : List Step} {wider : ℕ} {reply : Reply}
      {out new_out : List Taken} {cells new_cells : List ℤ}
      → IsAcceptedStep steps x p reply out new_out cells new_cells new → pushed ≡ steps ++ x ∷ []
      → capacity ≤ wider → IsKeptWith pushed wider new
  entered_kept {new} {pushed} made push wide =
      let caps : new.caps ≡ p.caps = made.stands.caps in
      let turned : x ∷ reverse steps ≡ reverse pushed =
      sym (reverse-append steps (x ∷ [])) ∙ ap reverse (sym push) in
      let limit : new.caps.log_limit ≡ p.caps.log_limit = rw caps in
      let longer : length pushed ≡ length steps + 1 = ap length push ∙ length-append steps (x ∷ []) in
      record {
        stands =
            rw
            (← caps) at (subst (λ (past : List Step). PresentStandsFor p.caps past new) turned made.stands);
        accepted = rw (caps, ← turned) (kept.accepted, none);
        within = omega (arith, below_limit, longer, limit);
        room = omega (arith, kept.room, limit, wide);
        range = omega (arith, kept.range, limit);
      }

-- nothing refused the step, so it is answered as an accepted one, and takes the next place
pub device_made : {old new : Present} {steps pushed : List Step} {x : Step} {reply : Reply}
    {out new_out : List Taken} {cells new_cells : List ℤ}
    → refused old.caps (reverse steps) x ≡ None
    → IsAcceptedStep steps x old reply out new_out cells new_cells new → pushed ≡ steps ++ x ∷ []
    → IsDeviceStep old.caps (reverse steps) x reply out new_out cells new_cells (reverse pushed)
device_made {old} {new} {steps} {pushed} {x} none made push =
    made_step old.caps (reverse steps) x _ _ _ _ _
    (reverse pushed) none made.replied made.out_written made.cells_written
    (accepted-enters old.caps (reverse steps) x)
    (ap reverse push ∙ reverse-append steps (x ∷ []))

-- Want of memory

-- an Open for which memory is wanting is refused so, and nothing is written or entered
pub device_lacks : {d : Description} {steps now : List Step} {x : Step} {reply : Reply}
    {out new_out : List Taken} {cells new_cells : List ℤ}
    → refused d (reverse steps) x ≡ None → x ≡ Open → new_out ≡ out → new_cells ≡ cells → now ≡ steps
    → reply ≡ Refused (length now) NoMemory
    → IsDeviceStep d (reverse steps) x reply out new_out cells new_cells (reverse steps)
device_lacks {d} {steps} {now} {x} none opens o k same r = record {
  given = alone (Refused (length (reverse steps)) NoMemory);
  exact = inr (opens, none, refl);
  replied = rw (r, same, ← length-reverse);
  out_written = o;
  cells_written = k;
  entered = sym (rw r);
}

-- How many events are kept then

-- what a call added
pub device_stored : (old lent new : Present) (steps now : List Step) (x : Step) → lent ≡ old → now ≡ steps
    → StoresFew now x lent new → StoresFew steps x old new
device_stored old lent new steps now x lends same few =
    rw same at
    (rw lends at few)
