-- A view after events that are taken in two parts.
use Rattle.std.proofs.Common.{◌≡◌, ℕ, ◌+◌, ◌<◌, List, [], ◌∷◌, ◌++◌, length, map, take, get_or, refl}
use Rattle.std.proofs.lemmas.List.{map-append, take_more}
use Rattle.inp_model.specs.declared.event.Event.{Event}
use Rattle.inp_model.specs.declared.taken.Taken.{Taken}
use Rattle.inp_recon.specs.declared.view.View.{View}
use Rattle.inp_recon.specs.View.{view_after_event, view_after_events}

pub view_after_events-append : (v : View) (es later : List Event)
    → view_after_events v (es ++ later) ≡ view_after_events (view_after_events v es) later
unfolding view_after_events
view_after_events-append v [] later = refl
view_after_events-append v (e ∷ es) later = view_after_events-append (view_after_event v e) es later

-- one more of the events that a client read is taken
pub view_after_events-more : (start view new : View) (events : List Taken) (index : ℕ) (default : Taken)
    → index < length events
    → view ≡ view_after_events start (map (λ (t : Taken). t.event) (take index events))
    → new ≡ view_after_event view (get_or events index default).event
    → new ≡ view_after_events start (map (λ (t : Taken). t.event) (take (index + 1) events))
unfolding view_after_events
view_after_events-more start view new events index default within taken next =
    let event : Taken → Event = λ (t : Taken). t.event in
    let e : Event = (get_or events index default).event in
    rw (
      next,
      taken,
      ← view_after_events-append start (map event (take index events)) (e ∷ []),
      ← map-append event (take index events) (get_or events index default ∷ []),
      ← take_more events index default within,
    )
