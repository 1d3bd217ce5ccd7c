-- A call of a tap: how many events it reads, the view that it leaves, and what is noted of it.
use Rattle.std.proofs.Common.{◌≡◌, ℕ, ◌*◌, ◌≤◌, List, ◌++◌, length, take, drop, map, refl, ap, arith, false}
use Rattle.std.proofs.Common.{Some, ℤ}
use Rattle.std.proofs.lemmas.List.{take_at, length-append}
use Rattle.inp_model.specs.Evdev.{IsEvdevCall}
use Rattle.inp_script.specs.Line.{event_of_taken, tap_client_after, tap_call, unless_lacking}
use Rattle.inp_script.proofs.Common.{Taken, Step, Reply, past_at, Answer, place_of, View, ReaderState, finish}
use Rattle.inp_script.proofs.Common.{Notes, Holds, Begins, Job, lacks_memory, stop_after}
use Rattle.inp_script.proofs.Common.{EvdevView, IsCall, after_tap_call, job_of, count_taken}
use Rattle.inp_recon.specs.View.{view_after_answer, view_after_events}
use Rattle.inp_reader.proofs.QueryAnswers.{view-answered}
use Rattle.inp_script.specs.Tap.{IsTapCall}
use Rattle.inp_script.proofs.TalkCalls.{holds-one, begins-one}
use Rattle.inp_script.proofs.Replies.{events-counted}
use Rattle.inp_script.specs.Sight.{sight_of_call}

module _ (before after : EvdevView) (x : Step) (reply : Reply) (out new_out : List Taken)
    (cells new_cells : List ℤ) (m : IsEvdevCall before after x reply out new_out cells new_cells) where
  pub call_by_step : IsCall before after (record { step = x; answer = m.call.answer })
  call_by_step = rw m.step at m.is_call

  -- so many events were read as the reply says
  pub counted : length m.call.answer.events ≡ count_taken reply
  counted =
      rw m.replied
      (events-counted after.description
      (past_at after.seen (place_of m.call.answer.reply)) x m.call.answer call_by_step.placed.exact)

  -- the events that were read stand in front of what was written, so they fit
  pub few_events : count_taken reply ≤ length new_out
  few_events =
      omega (
        arith,
        counted,
        ap length m.out_written,
        length-append m.call.answer.events (drop (length m.call.answer.events) out),
      )

  events_in_front : take (count_taken reply) new_out ≡ m.call.answer.events
  events_in_front = rw m.out_written (take_at _ _ _ counted)

  -- what a tap's call leaves, where its view was told of the answer and then of the events
  pub tap-made : (view told new : View) (count : ℕ) → length view.cells ≡ 14 * before.description.slots
      → told ≡ view_after_answer view x reply new_cells → count ≡ count_taken reply
      → new ≡ view_after_events told (map event_of_taken (take count new_out))
      → IsTapCall before after x reply view new new_out
  tap-made view told new count fits answered is taken = record {
    answer = m.call.answer;
    replied = m.replied;
    is_call = call_by_step;
    view =
        rw (
          taken,
          is,
          events_in_front,
          view-answered before.description before after x m.call.answer reply cells new_cells view told refl
              fits call_by_step m.replied m.cells_written answered,
        );
    events = events_in_front;
    few = few_events;
  }

-- a call of a tap that was noted
pub tap-noted : (before after : EvdevView) (x : Step) (reply : Reply) (old new : Notes) (r s : ReaderState)
    (view : View) (out events : List Taken) → IsTapCall before after x reply r.view view out
    → lacks_memory reply ≡ false → events ≡ take (count_taken reply) out
    → s ≡ record r { client = tap_client_after x reply r.client; view = view }
    → new ≡ record { sight = old.sight ++ sight_of_call x reply events; stop = stop_after reply }
    → Holds before after (tap_call (job_of r old) x) (Some (job_of s new))
tap-noted before after x reply old new r s view out events m memory read same noted =
    let a : Answer = m.answer in
    let there : lacks_memory a.reply ≡ false = rw m.replied at memory in
    let kept : after_tap_call (job_of r old) x a ≡ job_of s new =
    rw (noted, read, m.events, same, m.view, m.replied) in
    holds-one before after x a
    (λ (answer : Answer).
    finish (unless_lacking answer.reply (after_tap_call (job_of r old) x answer))) _ m.is_call
    (rw (there, kept))

-- one that was not noted
pub tap-begun : (before after : EvdevView) (x : Step) (reply : Reply) (view new : View) (out : List Taken)
    (j : Job) → IsTapCall before after x reply view new out → Begins before after (tap_call j x)
tap-begun before after x reply view new out j m =
    begins-one before after x
    (λ (answer : Answer). finish (unless_lacking answer.reply (after_tap_call j x answer)))
    (record { answer = m.answer; is_call = m.is_call })
