-- A device has steps for entries: what is told of a port of it is what the pass has seen and owns.
use Rattle.std.proofs.Common.{◌≡◌, ◌+◌, ◌≤◌, Bool, true, false, if◌then◌else◌, List, [], ◌∷◌, length, take}
use Rattle.std.proofs.Common.{refl, sym, ap, ◌∙◌, subst, ℤ, Option, Some}
use Rattle.std.specs.Prelude.{map, reverse}
use Rattle.std.proofs.lemmas.List.{reverse-reverse, length-reverse}
use Rattle.inp_model.specs.declared.limits.TheConstants.{LOG_MAX}
use Rattle.inp_model.specs.declared.injected.Injected.{Injected}
use Rattle.inp_model.specs.declared.stamped.Stamped.{Stamped}
use Rattle.inp_model.specs.declared.step.Step.{Step}
use Rattle.inp_model.specs.declared.reply.Reply.{Reply}
use Rattle.inp_model.specs.declared.taken.Taken.{Taken}
use Rattle.inp_model.specs.Description.{Description}
use Rattle.inp_model.specs.History.{IsHistory}
use Rattle.inp_model.specs.Injection.{inject_of, entered_count, history_with}
use Rattle.inp_model.specs.Reply.{is_accepted, past_after, IsDeviceStep}
use Rattle.inp_port.specs.Entries.{steps_among, past_of, Grown}
use Rattle.inp_port.specs.Served.{IsServed, IsServedAll}
use Rattle.inp_port.proofs.Turns.{turned}

-- each entry is the step that it is
abbrev pub itself : Step → Option Step
itself x = Some x

pub steps-all : (es : List Step) → steps_among itself es ≡ es
steps-all [] = refl
steps-all (x ∷ es) = rw (steps-all es)

past-same : (past : List Step) → past_of itself (reverse past) ≡ past
past-same past = ap reverse (steps-all (reverse past)) ∙ reverse-reverse past

grown : (past new : List Step) (x : Step) (b : Bool) → new ≡ (if b then x ∷ past else past)
    → Grown itself (reverse past) x b (reverse new)
grown past new x true e = (x, refl, ap reverse e ∙ turned past x)
grown past new x false e = ap reverse e

-- the entries of a device are its steps, so an accepted step is the last entry
pub device_served : (d : Description) (past new : List Step) (x : Step) (reply : Reply)
    (out new_out : List Taken) (cells new_cells : List ℤ)
    → IsDeviceStep d past x reply out new_out cells new_cells new → IsHistory d past
    → IsServed itself d (reverse past) x reply out new_out cells new_cells (reverse new)
device_served d past new x reply out new_out cells new_cells s h =
    let P : List Step → Type 0 =
    λ p. IsDeviceStep d p x reply out new_out cells new_cells (past_after reply x p) in
    let same : P past =
    record {
      given = s.given;
      exact = s.exact;
      replied = s.replied;
      out_written = s.out_written;
      cells_written = s.cells_written;
      entered = refl;
    } in
    record {
      step = subst P (sym (past-same past)) same;
      grown = grown past new x (is_accepted reply) s.entered;
      accepted = subst (IsHistory d) (sym (past-same past)) h;
    }

-- of many events
pub device_served_all : (d e : Description) (past new : List Step) (events : List Stamped)
    (injected : Injected) → e ≡ d → injected.from ≡ length past
    → injected.count ≡ entered_count d injected.from events
    → injected.from + injected.count ≤ LOG_MAX
    → reverse new ≡ history_with (reverse past) injected.count events → IsHistory e new
    → IsServedAll itself d (reverse past) events injected (reverse new)
device_served_all d e past new events injected same from count within entered h = record {
  from = from ∙ sym (length-reverse past) ∙ sym (ap length (steps-all (reverse past)));
  count = count;
  within = within;
  grown = (map inject_of (take injected.count events), entered, refl);
  accepted = subst (IsHistory d) (sym (past-same new)) (rw same at h);
}
