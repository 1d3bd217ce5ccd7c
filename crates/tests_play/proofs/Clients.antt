-- A client of a record that has one source beside it.
use Rattle.std.proofs.Common.{◌≡◌, ◌≤◌, ℕ, sym, ap, subst, ◌∙◌, Some}
use Rattle.std.specs.Prelude.{slice_get}
use Rattle.inp_actors.specs.declared.actor_text.ActorText.{ActorText}
use Rattle.inp_actors.specs.declared.device_text.DeviceText.{DeviceText}
use Rattle.inp_actors.specs.Record.{RecordView}
use Rattle.inp_model.specs.Description.{Description}
use Rattle.inp_script.specs.declared.waiting.Waiting.{Waiting}
use Rattle.inp_script.specs.DoneLine.{HasActor, IsLineOf, IsWaiting, source_count}
use Rattle.inp_script.specs.Job.{ActorView}

pub its-line : (r : RecordView) (a : ActorView) (line : ℕ) → a.actor ≡ 1 → IsLineOf r line 1
    → IsLineOf r line a.actor
its-line r a line number is = subst (λ (n : ℕ). IsLineOf r line n) (sym number) is

pub its-description : (r : RecordView) (a : ActorView) (d : Description) → HasActor r a
    → ((i : ℕ) → (text : DeviceText) → slice_get r.devices i ≡ Some text → text.caps ≡ d) → a.description ≡ d
its-description r a d has devices = sym has.description ∙ devices has.text.device has.device has.is_device

pub its-waiting : (r : RecordView) (a : ActorView) (waiting : Waiting) → HasActor r a → a.actor ≡ 1
    → ((text : ActorText) → slice_get r.actors 1 ≡ Some text → text.device ≡ 0) → source_count r 0 ≡ 1
    → 1 ≤ waiting.idle → waiting.sources ≡ 1 → IsWaiting r a waiting
its-waiting r a waiting has number device one idle sources =
    let there : slice_get r.actors 1 ≡ Some has.text = ap (slice_get r.actors) (sym number) ∙ has.is_text in
    record {
      idle = idle;
      text = has.text;
      is_text = has.is_text;
      sources = sources ∙ sym one ∙ sym (ap (source_count r) (device has.text there));
    }
