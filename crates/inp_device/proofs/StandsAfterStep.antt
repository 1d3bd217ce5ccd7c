-- What is kept stands for the past with one step more.
use Rattle.std.proofs.Common.{◌≡◌, ◌⊎◌, ℕ, suc, ◌+◌, ◌≤◌, Bool, true, false, if◌then◌else◌, nat_eq, List, []}
use Rattle.std.proofs.Common.{◌∷◌, length, map, refl, sym, ap, subst, ◌∙◌, arith, inl, inr, Option, Some}
use Rattle.std.proofs.Common.{None, is_some}
use Rattle.std.specs.Prelude.{count_by}
use Rattle.std.specs.List.{list_any}
use Rattle.std.proofs.Math.Path.{fun_ext}
use Rattle.inp_client.proofs.Lists.{list_any-map, sum_by-map}
use Rattle.std.proofs.lemmas.Bool.{ne_eqb, not-false}
use Rattle.inp_model.specs.declared.taken.Taken.{Taken}
use Rattle.inp_model.specs.declared.step.Step.{Step}
use Rattle.inp_model.specs.declared.step.Step.TheVariants.{Open, Close, Grab, Ungrab, Mask, Clock as ToClock}
use Rattle.inp_model.specs.declared.step.Step.TheVariants.{Revoke, End}
use Rattle.inp_model.specs.Description.{Description, offset}
use Rattle.inp_model.specs.Step.{client_of, is_open_step, is_end_step, ends_grab_of, is_same}
use Rattle.inp_model.specs.Past.{opens, open_clients, is_revoked, holder, holder_kept, clock_of, mask_bit}
use Rattle.inp_model.specs.Past.{ends}
use Rattle.inp_model.specs.Queue.{queue}
use Rattle.inp_model.specs.Reply.{is_busy, is_not_grabber, taken_of}
use Rattle.inp_model.specs.Left.{given_in}
use Rattle.inp_model.proofs.Allowed.{IsAllowed, named_open, mask_kind, mask_word}
use Rattle.inp_model.proofs.Opens.{is_open-lt}
use Rattle.inp_frames.specs.Core.{CoreStandsFor, IsFor, IsEntered}
use Rattle.inp_frames.proofs.KeptCore.{makes_no_events, CoreStandsFor-keeps}
use Rattle.inp_filter.specs.FilterState.{FiltersStandFor}
use Rattle.inp_ring.specs.Store.{cell_taken}
use Rattle.inp_client.specs.Client.{ClientView}
use Rattle.inp_client.specs.Clients.{ClientsView}
use Rattle.inp_client.specs.Numbers.{stored_of}
use Rattle.inp_client.specs.Read.{client_on, clients_on}
use Rattle.inp_device.specs.declared.handler.Handler.{Handler}
use Rattle.inp_device.specs.declared.present.Present.{Present}
use Rattle.inp_device.specs.Device.{is_loss_at, is_lost_at, offered_count, lost_count}
use Rattle.inp_device.specs.Present.{client_after, clients_after, MasksEnd, AreFresh, HandlerStandsFor}
use Rattle.inp_device.specs.Present.{PresentStandsFor}
use Rattle.inp_device.proofs.Calls.{nat_eq_swap, clients_after-frames, makes_events}
use Rattle.inp_device.proofs.Masks.{MasksEnd-mask}
use Rattle.inp_device.proofs.Growth.{is_lost, AreGrown, stored_grown}
use Rattle.inp_device.proofs.PassedFrames.{takes, IsPassed, passed_all, filters-called}

-- Clients that no step named

not_named : (d : Description) (past : List Step) (x : Step) (client n : ℕ) → client_of x ≡ Some client
    → IsAllowed d past x → opens past ≤ n → nat_eq client n ≡ false
not_named d past x client n named ok h =
    ne_eqb client n
    (λ e. omega (arith, h, e, is_open-lt past client (named_open past x client named ok.client)))

pub AreFresh-step : (d : Description) (past : List Step) (x : Step) → IsAllowed d past x → AreFresh past
    → AreFresh (x ∷ past)
unfolding opens mask_bit clock_of is_revoked
AreFresh-step d past Open ok was n h = let below : opens past ≤ n =
    omega (arith, h) in record {
      bits = (was n below).bits;
      clock = (was n below).clock;
      revoked = (was n below).revoked;
    }
AreFresh-step d past (Mask client kind word bits) ok was n h = record {
  bits = λ this i.
      rw (not_named d past (Mask client kind word bits) client n refl ok h) ((was n h).bits this i);
  clock = (was n h).clock;
  revoked = (was n h).revoked;
}
AreFresh-step d past (ToClock client clock now) ok was n h =
    record {
      bits = (was n h).bits;
      clock = rw (not_named d past (ToClock client clock now) client n refl ok h) ((was n h).clock);
      revoked = (was n h).revoked;
    }
AreFresh-step d past (Revoke client) ok was n h =
    record {
      bits = (was n h).bits;
      clock = (was n h).clock;
      revoked = rw (not_named d past (Revoke client) client n refl ok h) ((was n h).revoked);
    }
AreFresh-step d past x ok was n h =
    record { bits = (was n h).bits; clock = (was n h).clock; revoked = (was n h).revoked }

pub MasksEnd-step : (d : Description) (past : List Step) (x : Step) → IsAllowed d past x → MasksEnd past
    → MasksEnd (x ∷ past)
unfolding mask_bit
MasksEnd-step d past (Mask client kind word bits) ok was =
    MasksEnd-mask past client kind word bits (mask_kind d past client kind word bits ok)
    (mask_word d past client kind word bits ok) was
MasksEnd-step d past x ok was = was

-- the handler stands for the past with the step
pub handler_stands : (d : Description) (past : List Step) (x : Step) (old new : Handler) → IsAllowed d past x
    → HandlerStandsFor d past old → clients_on d new.clients.list ≡ clients_after d (x ∷ past)
    → FiltersStandFor d.filters (given_in d (x ∷ past)) new.filters.kept → HandlerStandsFor d (x ∷ past) new
handler_stands d past x old new ok was clients filters = record {
  clients = clients;
  filters = filters;
  masks = MasksEnd-step d past x ok was.masks;
  fresh = AreFresh-step d past x ok was.fresh;
}

-- The grab

kept : (x : Step) (o : Option ℕ) → ((c : ℕ) → ends_grab_of c x ≡ false) → holder_kept x o ≡ o
kept x None h = refl
kept x (Some c) h = rw h

abbrev pub leaves_grab : Step → Bool
leaves_grab (Close client) = false
leaves_grab (Grab client) = false
leaves_grab (Ungrab client) = false
leaves_grab (Revoke client) = false
leaves_grab _ = true

-- only a Close, a Grab, an Ungrab and a Revoke change who holds the grab
pub holder-keeps : (past : List Step) (x : Step) → leaves_grab x ≡ true → holder (x ∷ past) ≡ holder past
unfolding holder
holder-keeps past (Close client) h = absurd (cc h)
holder-keeps past (Grab client) h = absurd (cc h)
holder-keeps past (Ungrab client) h = absurd (cc h)
holder-keeps past (Revoke client) h = absurd (cc h)
holder-keeps past x h = kept x (holder past) (λ c. refl)

released : (o : Option ℕ) (client : ℕ) (x : Step) → ((c : ℕ) → ends_grab_of c x ≡ nat_eq client c)
    → (if is_same o client then None else o) ≡ holder_kept x o
released None client x h = refl
released (Some c) client x h = rw (nat_eq_swap, ← h)

-- the holder after a client was closed
pub holder-close : (past : List Step) (client : ℕ)
    → (if is_same (holder past) client then None else holder past) ≡ holder (Close client ∷ past)
unfolding holder
holder-close past client = released (holder past) client (Close client) (λ c. refl)

-- the holder after a client was revoked
pub holder-revoke : (past : List Step) (client : ℕ)
    → (if is_same (holder past) client then None else holder past) ≡ holder (Revoke client ∷ past)
unfolding holder
holder-revoke past client = released (holder past) client (Revoke client) (λ c. refl)

-- a Grab that is not refused as busy finds nobody with the grab
pub no_holder : (past : List Step) (client : ℕ) → is_busy past (Grab client) ≡ false → holder past ≡ None
no_holder past client h = none_of (holder past) h
  where
    none_of : (o : Option ℕ) → is_some o ≡ false → o ≡ None
    none_of None e = refl
    none_of (Some c) e = absurd (cc e)

-- the client that grabs has it then
pub holder-grab : (past : List Step) (client : ℕ) → Some client ≡ holder (Grab client ∷ past)
unfolding holder
holder-grab past client = refl

given_up : (o : Option ℕ) (client : ℕ) → is_same o client ≡ true → None ≡ holder_kept (Ungrab client) o
given_up None client h = refl
given_up (Some c) client h = sym (rw (nat_eq_swap, h))

-- an Ungrab that is not refused comes from the client that has the grab
pub own_grab : (past : List Step) (client : ℕ) → is_not_grabber past (Ungrab client) ≡ false
    → is_same (holder past) client ≡ true
own_grab past client h = not-false (is_same (holder past) client) h

-- the client that had the grab gave it up, so nobody has it
pub holder-ungrab : (past : List Step) (client : ℕ) → is_same (holder past) client ≡ true
    → None ≡ holder (Ungrab client ∷ past)
unfolding holder
holder-ungrab past client h = given_up (holder past) client h

-- How many clients were opened, and how many sources are done

-- a step that is no Open opens none
pub opens-keeps : (past : List Step) (x : Step) → is_open_step x ≡ false → opens (x ∷ past) ≡ opens past
unfolding opens
opens-keeps past x h = rw h

-- an Open opens one more
pub opens-open : (past : List Step) → opens (Open ∷ past) ≡ suc (opens past)
unfolding opens
opens-open past = refl

-- a step that is no End ends no source
pub ends-keeps : (past : List Step) (x : Step) → is_end_step x ≡ false → ends (x ∷ past) ≡ ends past
unfolding ends
ends-keeps past x h = rw h

-- an End ends one source more
pub ends-end : (past : List Step) → ends (End ∷ past) ≡ suc (ends past)
unfolding ends
ends-end past = refl

ends_more : (ending : Bool) (n m : ℕ) → n ≤ m → (if ending then suc n else n) ≤ suc m
ends_more true n m h = omega (arith, h)
ends_more false n m h = omega (arith, h)

-- no more sources are done than there are steps
pub ends-le : (past : List Step) → ends past ≤ length past
unfolding ends
ends-le [] = omega arith
ends-le (x ∷ past) = ends_more (is_end_step x) (ends past) (length past) (ends-le past)

-- A step that asks the core for nothing

-- what else the step leaves
pub record Leaves (d : Description) (past : List Step) (x : Step) (old new : Present) : Type 0 where
  -- the description stays
  pub caps : new.caps ≡ old.caps
  -- the core stays
  pub core : new.core ≡ old.core
  -- the filters stay
  pub filters : new.handler.filters ≡ old.handler.filters
  -- the clients are those that the past with the step has
  pub clients : clients_on d new.handler.clients.list ≡ clients_after d (x ∷ past)
  -- the grab is held by whom the past with the step says
  pub holder : new.handles.holder ≡ holder (x ∷ past)
  -- as many clients were opened as the past with the step says
  pub opens : new.opens ≡ opens (x ∷ past)
  -- as many sources are done as the past with the step says
  pub ends : new.ends ≡ ends (x ∷ past)

-- the core and the filters stay, and stand for the longer past, since the step gave them nothing
pub stands_called : (d : Description) (past : List Step) (x : Step) (old new : Present)
    → PresentStandsFor d past old → IsAllowed d past x → makes_no_events x ≡ true → Leaves d past x old new
    → PresentStandsFor d (x ∷ past) new
stands_called d past x old new was ok none is = record {
  caps = is.caps ∙ was.caps;
  core =
      subst (CoreStandsFor d (x ∷ past)) (sym is.core) (CoreStandsFor-keeps d past x old.core none was.core);
  made = subst (IsFor d) (sym is.core) was.made;
  handler =
      handler_stands d past x old.handler new.handler ok was.handler is.clients
      (filters-called d past x old.handler new.handler is.filters was.handler.filters none);
  holder = is.holder;
  opens = is.opens;
  ends = is.ends;
}

-- How many events are kept for the clients then

abbrev reads_loss : ℕ → ClientView Taken → Bool
reads_loss place c = list_any (is_loss_at place) c.ring.events

count_map : {X Y : Type 0} (p : X → Bool) (q : Y → Bool) (f : X → Y) → ((x : X) → p x ≡ q (f x))
    → (xs : List X) → count_by p xs ≡ count_by q (map f xs)
count_map {X} p q f same xs = rw (fun_ext same) (sym (sum_by-map (λ y. if q y then 1 else 0) f xs))

-- those who lost their queue at the step, as they are kept, and as they follow from the past
pub lost_told : (d : Description) (past : List Step) (x : Step) (new : Present)
    → PresentStandsFor d (x ∷ past) new
    → count_by (is_lost (length past)) new.handler.clients.list ≡ lost_count d past x
unfolding lost_count
lost_told d past x new stands =
    count_map (is_lost (length past)) (reads_loss (length past)) (client_on d)
    (λ c. sym (list_any-map (is_loss_at (length past)) (cell_taken (offset d c.clock)) c.ring.events))
    new.handler.clients.list
    ∙ ap (count_by (reads_loss (length past))) stands.handler.clients
    ∙ sym (count_map (is_lost_at d past x) (reads_loss (length past)) (client_after d (x ∷ past))
    (λ n. sym (list_any-map (is_loss_at (length past)) taken_of (queue d (x ∷ past) n)))
    (open_clients (x ∷ past)))

grown_stored : (count place : ℕ) (old new : ClientsView) → (new ≡ old) ⊎ AreGrown count place old new
    → stored_of new ≤ stored_of old + count + count_by (is_lost place) new.list
grown_stored count place old new (inl same) = omega (arith, ap stored_of same)
grown_stored count place old new (inr grown) = stored_grown count place old new grown

-- A step that may end frames

module _ (d : Description) (past : List Step) (x : Step) (old new : Present) (begun : Handler)
    (was : PresentStandsFor d past old)
    (begins : begun ≡ record old.handler { place = length past; holder = old.handles.holder })
    (entered : IsEntered d past x new.core takes begun new.handler) where
  passed : IsPassed d past x begun new.handler
  passed =
      passed_all d past x begun new.handler (rw begins) (rw begins was.holder)
      (rw begins was.handler.filters) entered.takes_all

  -- the core took the step and the handler its frames, so both stand for the longer past
  pub stands_framed : IsAllowed d past x → makes_events x ≡ true → IsFor d new.core
      → new.caps ≡ old.caps → new.handles.holder ≡ old.handles.holder → new.opens ≡ old.opens
      → new.ends ≡ old.ends
      → leaves_grab x ≡ true → is_open_step x ≡ false → is_end_step x ≡ false
      → PresentStandsFor d (x ∷ past) new
  stands_framed ok makes made caps handles opened ended grab opening ending =
      let clients : clients_on d new.handler.clients.list ≡ clients_after d (x ∷ past) =
      rw (passed.clients, begins, was.handler.clients)
      (clients_after-frames d past x makes was.handler.masks) in
      record {
        caps = caps ∙ was.caps;
        core = entered.stands_for;
        made = made;
        handler = handler_stands d past x old.handler new.handler ok was.handler clients passed.filters;
        holder = handles ∙ was.holder ∙ sym (holder-keeps past x grab);
        opens = opened ∙ was.opens ∙ sym (opens-keeps past x opening);
        ends = ended ∙ was.ends ∙ sym (ends-keeps past x ending);
      }

  -- no more came than the events that were offered, and one for each client that lost its queue
  pub stored_framed : PresentStandsFor d (x ∷ past) new
      → stored_of new.handler.clients ≤ stored_of old.handler.clients +
      (offered_count d past x + lost_count d past x)
  stored_framed stands =
      omega (
        arith,
        grown_stored (offered_count d past x) (length past) begun.clients new.handler.clients passed.grown,
        ap (λ (h : Handler). stored_of h.clients) begins,
        lost_told d past x new stands,
      )
