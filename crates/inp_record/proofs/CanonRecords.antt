-- The canonical items of a record of accepted lines are accepted, and the record is theirs again.
use Rattle.std.proofs.Common.{◌≡◌, ℕ, Bool, true, false, ◌||◌, nat_eq, is_some, List, [], ◌∷◌, ◌++◌, length}
use Rattle.std.proofs.Common.{Option, Some, None, refl, sym, ap, ◌∙◌, subst, arith, append-nil}
use Rattle.std.proofs.Math.Bool.{and-false}
use Rattle.std.proofs.lemmas.Bool.{not-false}
use Rattle.inp_model.specs.declared.filter.Filter as filter
use Rattle.inp_model.specs.Description.{Description}
use Rattle.inp_caps.specs.Builder.{with_kind, built}
use Rattle.inp_actors.specs.declared.actor_text.ActorText.{ActorText}
use Rattle.inp_actors.specs.declared.device_text.DeviceText.{DeviceText}
use Rattle.inp_actors.specs.declared.command.Command.{Command}
use Rattle.inp_actors.specs.declared.role.Role.{Role}
use Rattle.inp_record.specs.declared.context.Context.{Context}
use Rattle.inp_record.specs.declared.context.Given.{Given}
use Rattle.inp_record.specs.declared.item.Item.{Item}
use Rattle.inp_record.specs.declared.item.Item.TheVariants.{Header, Device, Slots, Code, Filter, Actor}
use Rattle.inp_record.specs.declared.item.Item.TheVariants.{Action}
use Rattle.inp_record.specs.declared.place.Place.{Place}
use Rattle.inp_record.specs.declared.place.Place.TheVariants.{Describing, Acting}
use Rattle.inp_record.specs.Place.{is_first_place, is_describing, is_naming, is_acting, is_out_of_place}
use Rattle.inp_record.specs.ItemsBefore.{ItemsBefore, no_given, with_latest, devices_of, first_context}
use Rattle.inp_record.specs.ItemsBefore.{describing, after}
use Rattle.inp_record.specs.ItemsBefore.{context_of}
use Rattle.inp_record.specs.Meaning.{has_too_many_slots}
use Rattle.inp_record.specs.Spelling.{description_items}
use Rattle.inp_record.proofs.Entries.{code_leaves}
use Rattle.inp_record.proofs.Sayable.{accepted, keyword_for_device, are_early, IsAccepted, after_all}
use Rattle.inp_record.proofs.Sayable.{AreAccepted}
use Rattle.inp_record.proofs.Sayable.{WereAccepted, always, describes_place}
use Rattle.inp_record.proofs.Good.{IsGood, actor_place, good, closed_length}
use Rattle.inp_record.proofs.CanonLists.{head_items, all_items, AreBelow, head_device, head_actor, all_action}
use Rattle.inp_record.proofs.MadeDescriptions.{IsGathered, IsMadeDescription, gathered_alone, gathered_after}
use Rattle.inp_record.proofs.MadeDescriptions.{made_of, built_slots, built_filters}
use Rattle.inp_record.proofs.Sections.{after_all-append, accepted_then}
use Rattle.inp_record.proofs.DescriptionAgain.{undescribed, description-laid}

-- the canonical items of what lines left
abbrev pub canon : Context → List Item
canon c = all_items c.version c.actors (devices_of c) c.lines

-- what these items leave
abbrev pub canon_left : Context → Context
canon_left c = after_all (canon c) first_context

-- what a line can tell that describes nothing
abbrev pub settled : Context → Context
settled c = record c { builder = built c.builder; given = no_given }

abbrev is_settled_item : Item → Bool
is_settled_item (Device requested name) = true
is_settled_item (Actor role name) = true
is_settled_item (Action actor does) = true
is_settled_item _ = false

-- what a device line leaves behind it
abbrev device_behind : Bool → List ℕ → Context → Context
device_behind requested name x =
    after (Device requested name)
    (record x { name = None; devices = with_latest x.devices x.name x.requested x.builder })

-- such a line is accepted behind what it cannot tell apart

settled_accepted : (c : Context) (b : Description) (g : Given) (i : Item) → is_settled_item i ≡ true
    → IsAccepted c i → IsAccepted (record c { builder = b; given = g }) i
settled_accepted c b g (Device requested name) n a =
    accepted a.sayable a.headed a.in_place a.later refl a.once a.few refl refl
settled_accepted c b g (Actor role name) n a =
    accepted a.sayable a.headed a.in_place a.later refl a.once a.few refl refl
settled_accepted c b g (Action actor does) n a =
    accepted a.sayable a.headed refl refl a.in_version refl a.few refl refl
settled_accepted c b g i n a = absurd (cc n)

accepted_like : (c new : Context) (i : Item) → is_settled_item i ≡ true → settled new ≡ settled c
    → IsAccepted c i → IsAccepted new i
accepted_like c new i n like a =
    settled_accepted (settled new) new.builder new.given i n
    (rw like (settled_accepted c (built c.builder) no_given i n a))

-- what a line leaves is sound: its builder gathers, has no more slots than its version allows, and has
-- filters where its version has them

pub record IsSound (c : Context) : Type 0 where
  -- at the first place nothing was read yet
  pub first : is_first_place c.place ≡ true → c ≡ first_context
  -- the builder's description is one that accepted lines give
  pub gathered : IsGathered c.builder
  -- the device has no more slots than its version allows
  pub slots : has_too_many_slots c (Slots c.builder.slots) ≡ false
  -- filters are there only in a version that has them
  pub filters : are_early c.version c.builder.filters ≡ false

slots_after : (c : Context) (i : Item) → IsAccepted c i → IsSound c
    → has_too_many_slots (after i c) (Slots (after i c).builder.slots) ≡ false
slots_after c (Header version) a s = rw (s.first (not-false _ a.in_place)) (and-false (nat_eq version 1))
slots_after c (Device requested name) a s = and-false (nat_eq c.version 1)
slots_after c (Slots count) a s = a.few_slots
slots_after c (Code kind code) a s = rw ((code_leaves (with_kind c.builder kind) kind code).2) s.slots
slots_after c i a s = s.slots

early_pushed : (version : ℕ) (fs : List filter.Filter) (f : filter.Filter) → nat_eq version 1 ≡ false
    → are_early version (fs ++ f ∷ []) ≡ false
early_pushed version [] f h = h
early_pushed version (g ∷ fs) f h = h

filters_after : (c : Context) (i : Item) → IsAccepted c i → IsSound c
    → are_early (after i c).version (after i c).builder.filters ≡ false
filters_after c (Header version) a s = rw (s.first (not-false _ a.in_place)) refl
filters_after c (Device requested name) a s = refl
filters_after c (Code kind code) a s =
    ap (are_early c.version) (code_leaves (with_kind c.builder kind) kind code).3 ∙ s.filters
filters_after c (Filter filter) a s = early_pushed c.version c.builder.filters filter a.later
filters_after c i a s = s.filters

-- each item leaves a place that is not the first one
pub not_first : (i : Item) (c : Context) → is_first_place (after i c).place ≡ false
not_first (Header version) c = refl
not_first i c = refl

sound : (past : ItemsBefore) → WereAccepted past → IsSound (context_of past)
sound past were =
    always IsSound (record { first = λ e. refl; gathered = gathered_alone; slots = refl; filters = refl })
    (λ c i a s. record {
      first = λ e. absurd (cc (not_first i c, e));
      gathered = gathered_after c i a s.gathered;
      slots = slots_after c i a s;
      filters = filters_after c i a s;
    }) past were

-- what the lines of the devices before the latest leave
abbrev heads_left : Context → Context
heads_left u = after_all (head_items u.version u.actors u.devices) first_context

-- behind the lines of the devices before it, a device line is accepted, and leaves a context that nothing
-- describes yet
pub record IsBegun (u : Context) : Type 0 where
  -- the name of the latest device
  pub name : List ℕ
  -- the header and the lines of the devices before it are accepted
  pub heads : AreAccepted first_context (head_items u.version u.actors u.devices)
  -- the device's own line is accepted behind them
  pub device : IsAccepted (heads_left u) (Device u.requested name)
  -- what these lines leave is the context itself
  pub is : after (Device u.requested name) (heads_left u) ≡ u
  -- each actor is of a device before the latest one
  pub below : AreBelow (length u.devices) u.actors
  -- where nothing acts yet there is no line of an action
  pub no_lines : u.lines ≡ []

-- the canonical items are accepted, and no line can tell what they leave from what the lines left
pub record IsAgain (c : Context) : Type 0 where
  -- each canonical item is accepted behind those before it
  pub accepted : AreAccepted first_context (canon c)
  -- no line can tell what they leave from the context
  pub like : settled (canon_left c) ≡ settled c

again_described : (c : Context) → c.place ≡ Describing → IsMadeDescription (built c.builder) → IsSound c
    → IsBegun (undescribed c) → IsAgain c
again_described c at made s b =
    let d = built c.builder in
    let heads = head_items c.version c.actors c.devices in
    let named : c.name ≡ Some b.name = sym (ap (λ (x : Context). x.name) b.is) in
    let is : canon c ≡ heads ++ Device c.requested b.name ∷ description_items d =
    rw (b.no_lines, append-nil (head_items c.version c.actors (devices_of c)), named)
    (head_device c.version c.actors c.devices
    (record { name = b.name; caps = d; requested = c.requested }) b.below) in
    let laid = description-laid d c made (rw built_slots s.slots) (rw built_filters s.filters) in
    record {
      accepted =
          subst (AreAccepted first_context) (sym is)
          (accepted_then first_context heads (Device c.requested b.name ∷ description_items d) b.heads
          (b.device, subst (λ x. AreAccepted x (description_items d)) (sym b.is) laid.0));
      like = ap (λ (l : List Item). settled (after_all l first_context)) is
          ∙ ap settled
          (after_all-append heads (Device c.requested b.name ∷ description_items d) first_context)
          ∙ ap (λ (x : Context). settled (after_all (description_items d) x)) b.is
          ∙ ap settled laid.1.is
          ∙ ap (λ x. describing c x no_given) made.whole
          ∙ ap (λ (p : Place). record c { place = p; builder = built c.builder; given = no_given }) (sym at);
    }

-- one line more behind both
again_more : (c : Context) (i : Item) → canon (after i c) ≡ canon c ++ i ∷ [] → IsAgain c
    → IsAccepted (canon_left c) i → settled (after i (canon_left c)) ≡ settled (after i c)
    → IsAgain (after i c)
again_more c i is g a l =
    record {
      accepted =
          subst (AreAccepted first_context) (sym is)
          (accepted_then first_context (canon c) (i ∷ []) g.accepted (a, tt));
      like = rw (is, after_all-append) l;
    }

-- what accepted lines keep
pub record IsKept (c : Context) : Type 0 where
  -- the canonical items are read as the context again
  pub again : IsAgain c
  -- without what describes it, a device's context is the one that its own line left
  pub begun : is_describing c.place ≡ true → IsBegun (undescribed c)
  -- where nothing acts yet there is no line of an action
  pub no_lines : is_acting c.place ≡ false → c.lines ≡ []

kept_header : (c : Context) (version : ℕ) → c ≡ first_context → IsAccepted c (Header version)
    → IsKept (after (Header version) c)
kept_header c version first a =
    let h = rw first at a in
    rw first (record {
      again = record { accepted = (h, tt); like = refl };
      begun = λ e. absurd (cc e);
      no_lines = λ e. refl;
    })

-- a device and what describes it

kept_describing : (c : Context) → c.place ≡ Describing → IsMadeDescription (built c.builder) → IsSound c
    → IsBegun (undescribed c) → IsKept c
kept_describing c at made s b =
    record { again = again_described c at made s b; begun = λ e. b; no_lines = λ e. b.no_lines }

-- the canonical items where nothing acts yet
canon_quiet : (c : Context) → c.lines ≡ [] → canon c ≡ head_items c.version c.actors (devices_of c)
canon_quiet c h = rw h (append-nil (head_items c.version c.actors (devices_of c)))

device_place : (requested : Bool) (p : Place) (latest : Bool)
    → is_out_of_place p latest (keyword_for_device requested) ≡ false → is_acting p ≡ false
device_place true p latest e = e
device_place false p latest e = e

all_below : (c : Context) → IsGood c → AreBelow (length (devices_of c)) c.actors
all_below c g =
    λ i a e. omega (
      arith,
      closed_length c.devices c.name c.requested (built c.builder),
      g.actors.devices i a e,
    )

kept_device : (c : Context) (requested : Bool) (name : List ℕ) → IsGood c → IsKept c
    → IsAccepted c (Device requested name)
    → IsMadeDescription (built (after (Device requested name) c).builder)
    → IsSound (after (Device requested name) c) → IsKept (after (Device requested name) c)
kept_device c requested name g k a made s =
    let quiet = k.no_lines (device_place requested c.place c.requested a.in_place) in
    let is = canon_quiet c quiet in
    let base = after_all (head_items c.version c.actors (devices_of c)) first_context in
    let like : settled base ≡ settled c = rw is at k.again.like in
    kept_describing (after (Device requested name) c) refl made s (record {
      name = name;
      heads = subst (AreAccepted first_context) is k.again.accepted;
      device = accepted_like c base (Device requested name) refl like a;
      is = ap (device_behind requested name) like;
      below = all_below c g;
      no_lines = quiet;
    })

-- an actor

not_acting : (p : Place) → (is_describing p || is_naming p) ≡ true → is_acting p ≡ false
not_acting Acting e = absurd (cc e)
not_acting p e = refl

some_name : (o : Option (List ℕ)) → is_some o ≡ true → (name : List ℕ) × (o ≡ Some name)
some_name None e = absurd (cc e)
some_name (Some name) e = (name, refl)

kept_actor : (c : Context) (role : Role) (name : List ℕ) → IsGood c → IsKept c
    → IsAccepted c (Actor role name) → IsKept (after (Actor role name) c)
kept_actor c role name g k a =
    let place = (actor_place role c.place c.requested a.in_place).0 in
    let quiet = k.no_lines (not_acting c.place place) in
    let latest = some_name c.name (g.named place) in
    let d : DeviceText = record { name = latest.0; caps = built c.builder; requested = c.requested } in
    let new : ActorText = record { name = name; role = role; device = length c.devices } in
    let one : devices_of c ≡ c.devices ++ d ∷ [] = simp latest.1 in
    let is : canon (after (Actor role name) c) ≡ canon c ++ Actor role name ∷ [] =
    cc (
      canon_quiet (after (Actor role name) c) quiet,
      one,
      head_actor c.version c.actors new c.devices d refl,
      one,
      canon_quiet c quiet,
    ) in
    record {
      again =
          again_more c (Actor role name) is k.again
          (accepted_like c (canon_left c) (Actor role name) refl k.again.like a)
          (ap (after (Actor role name)) k.again.like);
      begun = λ e. absurd (cc e);
      no_lines = λ e. quiet;
    }

-- an action
kept_action : (c : Context) (actor : ℕ) (does : Command) → IsKept c → IsAccepted c (Action actor does)
    → IsKept (after (Action actor does) c)
kept_action c actor does k a = record {
  again =
      again_more c (Action actor does)
      (all_action c.version c.actors (devices_of c) c.lines
      (record { actor = actor; command = does })) k.again
      (accepted_like c (canon_left c) (Action actor does) refl k.again.like a)
      (ap (after (Action actor does)) k.again.like);
  begun = λ e. absurd (cc e);
  no_lines = λ e. absurd (cc e);
}

-- accepted lines behind a header keep all this
pub kept : (past : ItemsBefore) → WereAccepted past → is_first_place (context_of past).place ≡ false
    → IsKept (context_of past)
kept [] h s = absurd (cc s)
kept (Header version ∷ past) h s =
    kept_header (context_of past) version ((sound past h.1).first (not-false _ h.0.in_place)) h.0
kept (Device requested name ∷ past) h s =
    let t = sound (Device requested name ∷ past) h in
    kept_device (context_of past) requested name (good past h.1) (kept past h.1 (h.0.headed refl)) h.0
    (made_of (after (Device requested name) (context_of past)).builder t.gathered) t
kept (Actor role name ∷ past) h s =
    kept_actor (context_of past) role name (good past h.1) (kept past h.1 (h.0.headed refl)) h.0
kept (Action actor does ∷ past) h s =
    kept_action (context_of past) actor does (kept past h.1 (h.0.headed refl)) h.0
kept (i ∷ past) h s =
    let c = context_of past in
    let k = kept past h.1 (h.0.headed refl) in
    let t = sound (i ∷ past) h in
    kept_describing (after i c) refl (made_of (after i c).builder t.gathered) t
    (k.begun (not-false _ (sym (describes_place c.place c.requested i refl) ∙ h.0.in_place)))
