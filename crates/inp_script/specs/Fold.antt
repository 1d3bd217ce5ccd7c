-- What a sight says that the device is. It is the fold of the answers and the events that it tells of, over
-- the history of the device. That history holds what a synchronisation of slots wrote (docs/RUNS.md, "What a
-- sight tells of the device").
use Rattle.std.specs.Prelude.{◌≡◌, List, [], ◌∷◌}
use Rattle.inp_model.specs.declared.taken.Taken.{Taken}
use Rattle.inp_model.specs.declared.step.Step.{Step}
use Rattle.inp_model.specs.declared.reply.Reply.{Reply}
use Rattle.inp_model.specs.Description.{Description}
use Rattle.inp_model.specs.Evdev.{EvdevView, BeginsWith}
use Rattle.inp_model.specs.Past.{past_at}
use Rattle.inp_model.specs.Reply.{answer}
use Rattle.inp_model.specs.Run.{place_of}
use Rattle.inp_actors.specs.declared.role.Role.{Role}
use Rattle.inp_actors.specs.declared.role.Role.TheVariants.{Client, Tap, Joy}
use Rattle.inp_recon.specs.declared.view.View.{View}
use Rattle.inp_recon.specs.View.{first_view, view_after_answer, view_after_event}
use Rattle.inp_joy.specs.Picture.{blank_picture}
use Rattle.inp_script.specs.declared.sight.Sight.{Sight}
use Rattle.inp_script.specs.declared.sight.Sight.TheVariants.{Call, Took}
use Rattle.inp_script.specs.Job.{Job}
use Rattle.inp_script.specs.Folding.{Folding, settled, asking, after_call}
use Rattle.inp_script.specs.JoyFold.{joy_fold}

-- a view after an answer, with the cells that the one-thread device wrote at its place
abbrev pub view_told : Description → List Step → View → Step → Reply → View
view_told d history view x reply = view_after_answer view x reply (answer d (past_at history (place_of reply)) x).cells

-- Taps: each answer and each event counts

abbrev pub view_after_entry : Description → List Step → View → Sight → View
view_after_entry d history view (Call x reply) = view_told d history view x reply
view_after_entry d history view (Took taken) = view_after_event view taken.event
view_after_entry d history view _ = view

unfoldable pub tap_fold : Description → List Step → View → List Sight → View
tap_fold d history view [] = view
tap_fold d history view (entry ∷ sight) = tap_fold d history (view_after_entry d history view entry) sight

-- Clients: the answers to the queries of a start or a synchronisation count once all of them were accepted

abbrev pub after_client_call : Description → List Step → Folding View → Step → Reply → Folding View
after_client_call d history f x reply = after_call (λ view. view) (view_told d history) d f x reply

abbrev pub after_client_event : Folding View → Taken → Folding View
after_client_event (settled view) taken = settled (view_after_event view taken.event)
after_client_event (asking old new xs) taken = asking old new xs

abbrev pub after_client_entry : Description → List Step → Folding View → Sight → Folding View
after_client_entry d history f (Call x reply) = after_client_call d history f x reply
after_client_entry d history f (Took taken) = after_client_event f taken
after_client_entry d history f _ = f

unfoldable pub client_fold : Description → List Step → Folding View → List Sight → Folding View
client_fold d history f [] = f
client_fold d history f (entry ∷ sight) = client_fold d history (after_client_entry d history f entry) sight

-- The view of a job is the fold of its whole sight, from the view that has seen nothing. Of a joystick's job
-- its picture is. Sources and owners see nothing of the device.
abbrev pub IsFolded : Role → Description → List Step → Job → Type 0
IsFolded Tap d history j = tap_fold d history (first_view d) j.sight ≡ j.reading.view
IsFolded Client d history j = client_fold d history (settled (first_view d)) j.sight ≡ settled j.reading.view
IsFolded Joy d history j = joy_fold d (settled blank_picture) j.sight ≡ settled j.stick.picture
IsFolded _ d history j = j.reading.view ≡ first_view d

-- it holds of each history that begins with what was seen, where it was before
abbrev pub StaysFolded : Role → Description → EvdevView → Job → Job → Type 0
StaysFolded role d after old new = (history : List Step) → BeginsWith after.seen history → IsFolded role d history old → IsFolded role d history new
