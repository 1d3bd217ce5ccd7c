-- What a device answers whose history has the one step that it may have, and no client.
use Rattle.std.proofs.Common.{◌≡◌, ℕ, Bool, true, false, not, if◌then◌else◌, List, [], ◌∷◌, Option, Some}
use Rattle.std.proofs.Common.{None, refl, sym, ap, ◌∙◌, arith, inl, ℤ, IsTrue}
use Rattle.std.specs.List.{slice_get}
use Rattle.inp_actors.specs.Record.{RecordView}
use Rattle.inp_script.specs.DoneLine.{HasActor}
use Rattle.inp_script.specs.Job.{ActorView}
use Rattle.inp_model.specs.declared.taken.Taken.{Taken}
use Rattle.inp_model.specs.declared.step.Step.{Step}
use Rattle.inp_model.specs.declared.step.Step.TheVariants.{Inject, Tick, Open, Inhibit, Uninhibit, End}
use Rattle.inp_model.specs.declared.reply.Reply.{Reply}
use Rattle.inp_model.specs.declared.reply.Reply.TheVariants.{Refused}
use Rattle.inp_model.specs.declared.reply.Refusal.{Refusal}
use Rattle.inp_model.specs.declared.reply.Refusal.TheVariants.{BadClient, LogFull}
use Rattle.inp_model.specs.Description.{Description, one_key}
use Rattle.inp_model.specs.Evdev.{EvdevView, IsEvdevCall}
use Rattle.inp_model.specs.declared.stamped.Stamped.{Stamped}
use Rattle.inp_model.specs.Injection.{IsInjectAll}
use Rattle.inp_model.specs.Past.{is_open, opens}
use Rattle.inp_model.specs.Reply.{Answer, alone, answer, answer_by, accepted, is_bad_client}
use Rattle.inp_model.specs.Step.{client_of}

abbrev full : Description
full = record one_key { log_limit = 1 }

abbrev pub full_view : EvdevView
full_view = record { description = full; seen = End ∷ []; own = []; agains = 0; turns = None; tie = None }

never_open : (client : ℕ) → is_open (End ∷ []) client ≡ false
unfolding is_open
never_open client = refl

bad_client : (o : Option ℕ) (client : ℕ) → o ≡ Some client → is_bad_client (End ∷ []) o ≡ true
bad_client None client h = absurd cc
bad_client (Some named) client h = ap (λ b. not b) (never_open named)

by_flag : (b : Bool) (given : Reply) (rest : Option Reply) (other : Answer) → b ≡ true
    → answer_by (if b then Some given else rest) other ≡ alone given
by_flag true given rest other h = refl
by_flag false given rest other h = absurd cc

refuses_clients : (x : Step) (client : ℕ) → client_of x ≡ Some client
    → answer full (End ∷ []) x ≡ alone (Refused 1 BadClient)
refuses_clients x client h =
    by_flag (is_bad_client (End ∷ []) (client_of x)) (Refused 1 BadClient) _ (accepted full (End ∷ []) x)
    (bad_client (client_of x) client h)

refuses_others : (x : Step) → client_of x ≡ None → answer full (End ∷ []) x ≡ alone (Refused 1 LogFull)
unfolding is_open opens
refuses_others (Inject e now) h = refl
refuses_others (Tick now) h = refl
refuses_others Open h = refl
refuses_others (Inhibit now) h = refl
refuses_others Uninhibit h = refl
refuses_others End h = refl
refuses_others _ h = absurd cc

never : {A : Type 0} → IsTrue false → A
never h = absurd cc

full-call : (x : Step) (why : Refusal) (out : List Taken) (cells : List ℤ)
    → answer full (End ∷ []) x ≡ alone (Refused 1 why)
    → IsEvdevCall full_view full_view x (Refused 1 why) out out cells cells
full-call x why out cells h = record {
  call = record { step = x; answer = alone (Refused 1 why) };
  step = refl;
  replied = refl;
  out_written = refl;
  cells_written = refl;
  is_call = record {
    description = refl;
    tie = refl;
    seen = ([], refl);
    fresh = omega arith;
    long = refl;
    placed = record { within = omega arith; exact = inl (sym h); entered = λ e. never e };
    own = refl;
    agains = refl;
    turns = tt;
    rises = λ _. tt;
    history = (tt, refl);
  };
  turns = tt;
}

pub full-inject_all : (events : List Stamped)
    → IsInjectAll full_view full_view events (record { from = 1; count = 0 })
full-inject_all events = record {
  found = End ∷ [];
  description = refl;
  tie = refl;
  begins = ([], refl);
  from = refl;
  count = omega arith;
  within = omega arith;
  seen = refl;
  own = refl;
  agains = refl;
  turns = tt;
  history = (tt, refl);
}

pub full-client : (x : Step) (client : ℕ) (out : List Taken) (cells : List ℤ) → client_of x ≡ Some client
    → IsEvdevCall full_view full_view x (Refused 1 BadClient) out out cells cells
full-client x client out cells h = full-call x BadClient out cells (refuses_clients x client h)

pub full-other : (x : Step) (out : List Taken) (cells : List ℤ) → client_of x ≡ None
    → IsEvdevCall full_view full_view x (Refused 1 LogFull) out out cells cells
full-other x out cells h = full-call x LogFull out cells (refuses_others x h)

-- an actor after a line is still one of its record
pub has-after : (r : RecordView) (a b : ActorView) → b ≡ record a { job = b.job }
    → HasActor r a → HasActor r b
has-after r a b same h = record {
  text = h.text;
  device = h.device;
  is_text = ap (λ (x : ActorView). slice_get r.actors x.actor) same ∙ h.is_text;
  role = h.role ∙ ap (λ (x : ActorView). x.role) (sym same);
  is_device = h.is_device;
  description = h.description ∙ ap (λ (x : ActorView). x.description) (sym same);
}
