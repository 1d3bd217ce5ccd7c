-- What each past of accepted lines keeps: its devices, actors and lines are those of a record.
use Rattle.std.proofs.Common.{◌≡◌, ℕ, ◌+◌, ◌<◌, ◌≤◌, ◌^◌, Bool, true, false, ◌||◌, not, is_some}
use Rattle.std.proofs.Common.{if◌then◌else◌, ◌*◌, nat_le, List, [], ◌∷◌, ◌++◌, length, replicate, Option}
use Rattle.std.proofs.Common.{Some, None, Ok, refl, sym, ◌∙◌, subst, arith, length-append, ◌⊎◌, inl, inr}
use Rattle.std.specs.Prelude.{slice_get}
use Rattle.std.specs.List.{range_with_len}
use Rattle.std.proofs.lemmas.Bool.Decides.{nat_tests}
use Rattle.std.proofs.lemmas.Grind.{flat_map-append}
use Rattle.std.proofs.lemmas.List.{append-nil, length-replicate}
use Rattle.std.proofs.lemmas.Option.{slice_get_within, get_or_from_slice_get}
use Rattle.inp_model.specs.declared.stamped.Stamped.{Stamped}
use Rattle.inp_model.specs.Description.{Description}
use Rattle.inp_actors.specs.declared.actor_text.ActorText.{ActorText}
use Rattle.inp_actors.specs.declared.device_text.DeviceText.{DeviceText}
use Rattle.inp_caps.specs.Builder.{built}
use Rattle.inp_actors.specs.declared.line.Line.{Line}
use Rattle.inp_actors.specs.declared.record.TheConstants.{VERSION_MAX}
use Rattle.inp_actors.specs.declared.command.Command.{Command}
use Rattle.inp_actors.specs.declared.role.Role as role
use Rattle.inp_actors.specs.declared.role.Role.TheVariants as roles
use Rattle.inp_actors.specs.Command.{is_command_of, is_in_range, is_source, is_owner, is_reading, stream_of}
use Rattle.inp_actors.specs.Record.{streams_of, IsRecord}
use Rattle.inp_model.specs.Injection.{AreInTime}
use Rattle.inp_model.proofs.Descriptions.{get_or-replicate_same}
use Rattle.inp_model.proofs.Injection.{range-append}
use Rattle.inp_record.specs.declared.item.Item as item
use Rattle.inp_record.specs.declared.item.Item.TheVariants.{Header, Device, Actor, Action}
use Rattle.std.proofs.lemmas.Bool.{not-false, or_left}
use Rattle.inp_record.specs.declared.context.Context.{Context}
use Rattle.inp_record.specs.declared.context.TheConstants.{DEVICES_MAX, SOURCES_MAX, READERS_MAX, OWNERS_MAX}
use Rattle.inp_record.specs.declared.context.TheConstants.{STREAMS_MAX}
use Rattle.inp_record.specs.declared.place.Place.{Place}
use Rattle.inp_record.specs.Place.{is_describing, is_naming, is_out_of_place}
use Rattle.inp_record.specs.ItemsBefore.{ItemsBefore, with_latest, devices_of, streams_in, first_context}
use Rattle.inp_record.specs.ItemsBefore.{after, context_of}
use Rattle.inp_record.specs.ItemsBefore.{no_given, IsWithinCounts}
use Rattle.inp_record.specs.Meaning.{has_all, behind_lines, record_of_past, closed}
use Rattle.inp_record.proofs.CanonPasts.{all_accepted}
use Rattle.inp_record.proofs.Inversions.{row_fits}
use Rattle.inp_record.proofs.Options.{push_at, push_get, front_get}
use Rattle.inp_record.proofs.Sayable.{keyword_for_role, IsAccepted, WereAccepted, always, describes_place}
use Rattle.inp_record.proofs.PlainLines.{IsPlainWord}
use Rattle.inp_record.specs.declared.place.Place.TheVariants.{Describing}

-- so many devices: these, and the latest one, where it has a name
abbrev count_of : List DeviceText → Option (List ℕ) → ℕ
count_of devices name = length devices + (if is_some name then 1 else 0)

-- a device that is closed is one of those that are
pub closed_length : (devices : List DeviceText) (name : Option (List ℕ)) (requested : Bool) (d : Description)
    → length (with_latest devices name requested d) ≡ count_of devices name
closed_length devices None requested d = omega arith
closed_length devices (Some name) requested d =
    omega (arith, length-append devices (record { name = name; caps = d; requested = requested } ∷ []))

-- there is room behind a device that is begun
pub begun_room : (c : Context) (requested : Bool) (name : List ℕ) → IsWithinCounts c
    → nat_le DEVICES_MAX (count_of c.devices c.name) ≡ false
    → IsWithinCounts
    (record (closed c) {
      place = Describing;
      name = Some name;
      requested = requested;
      given = no_given;
      sources = 0;
      readers = 0;
      owners = 0;
    })
begun_room c requested name room h =
    let count = closed_length c.devices c.name c.requested (built c.builder) in
    let less : count_of c.devices c.name < 8 = grind (arith, nat_tests) in
    record {
      devices = omega arith;
      sources = omega arith;
      readers = omega arith;
      owners = omega arith;
      streams = room.streams;
      realtime = omega arith;
      boottime = omega arith;
    }

-- an owner stands where an actor may, under a device made by requests
pub owner_parts : (a b : Bool) → (not a || not b) ≡ false → (a ≡ true) × (b ≡ true)
owner_parts true true e = (refl, refl)
owner_parts a b e = absurd (cc e)

-- Each actor is of a device, and a device has only so many. Only a device made by requests has an owner, and
-- it has one.
pub record AreGoodActors (name : Option (List ℕ)) (requested : Bool) (former : List DeviceText)
    (actors : List ActorText) (sources readers owners : ℕ) : Type 0 where
  -- each actor is of a device that is there
  pub devices : (i : ℕ) (a : ActorText) → slice_get actors i ≡ Some a → a.device < count_of former name
  -- with the latest one there are no more devices than a record may have
  pub few_devices : count_of former name ≤ DEVICES_MAX
  pub few_sources : sources ≤ SOURCES_MAX
  pub few_readers : readers ≤ READERS_MAX
  pub few_owners : owners ≤ OWNERS_MAX
  -- the latest device has no more actors than a device may have, and there are none without one
  pub latest : sources + readers + owners
      ≤ (if is_some name then SOURCES_MAX + READERS_MAX + OWNERS_MAX else 0)
  -- the actors of all roles, counted together
  pub all : length actors
      ≤ (SOURCES_MAX + READERS_MAX + OWNERS_MAX) * length former + (sources + readers + owners)
  -- an owner of a device before the latest is of one that is made by requests
  pub owned : (i : ℕ) (a : ActorText) (d : DeviceText) → slice_get actors i ≡ Some a → a.role ≡ roles.Owner
      → slice_get former a.device ≡ Some d → d.requested ≡ true
  pub owned_latest : (i : ℕ) (a : ActorText) → slice_get actors i ≡ Some a → a.role ≡ roles.Owner
      → a.device ≡ length former → requested ≡ true
  -- a device has at most one owner
  pub one : (i k : ℕ) (a b : ActorText) → slice_get actors i ≡ Some a → slice_get actors k ≡ Some b
      → a.role ≡ roles.Owner → b.role ≡ roles.Owner → a.device ≡ b.device → i ≡ k
  -- an owner of the latest device is counted
  pub counted : (i : ℕ) (a : ActorText) → slice_get actors i ≡ Some a → a.role ≡ roles.Owner
      → a.device ≡ length former → 1 ≤ owners

-- Each line is of an actor, whose role has its command, and the streams are numbered.
pub record AreGoodLines (actors : List ActorText) (lines : List Line) (streams : ℕ) : Type 0 where
  -- each line is of an actor that is there
  pub within : (i : ℕ) (l : Line) → slice_get lines i ≡ Some l → l.actor < length actors
  -- the actor's role has the line's command, with values in their ranges
  pub commands : (i : ℕ) (l : Line) (a : ActorText) → slice_get lines i ≡ Some l
      → slice_get actors l.actor ≡ Some a
      → (is_command_of a.role l.command ≡ true) × (is_in_range a.role l.command ≡ true)
  -- the streams have the numbers from 0 on, in the order of the lines
  pub numbered : streams_of lines ≡ range_with_len 0 streams
  -- there are no more streams than a record may have
  pub few : streams ≤ STREAMS_MAX

-- the lists are those of a record
pub record IsGood (c : Context) : Type 0 where
  -- where a device may be described or its actors named, there is a device
  pub named : (is_describing c.place || is_naming c.place) ≡ true → is_some c.name ≡ true
  -- the actors are those of a record
  pub actors : AreGoodActors c.name c.requested c.devices c.actors c.sources c.readers c.owners
  -- the lines are those of a record
  pub lines : AreGoodLines c.actors c.lines c.streams

-- a device

-- the actors before a device that is begun
begun_all : (actors former all here : ℕ) (some : Bool) → actors ≤ 137 * former + here
    → here ≤ (if some then 137 else 0) → all ≡ former + (if some then 1 else 0) → actors ≤ 137 * all + 0
begun_all actors former all here true h k e = omega arith
begun_all actors former all here false h k e = omega arith

-- a device is one of those before the latest, or the latest
device_is : (former : List DeviceText) (name : Option (List ℕ)) (requested : Bool) (caps : Description)
    (k : ℕ) (d : DeviceText) → slice_get (with_latest former name requested caps) k ≡ Some d
    → (slice_get former k ≡ Some d) ⊎ ((k ≡ length former) × (d.requested ≡ requested))
device_is former None requested caps k d e = inl e
device_is former (Some name) requested caps k d e =
    elim (push_at former (record { name = name; caps = caps; requested = requested }) k d e) [
      | inl g ↦ inl g
      | inr g ↦ inr (g.0, rw g.1)
    ]

-- there was room for one actor more, a source, an owner or another
record IsOneMore (r : role.Role) (sources readers owners : ℕ) : Type 0 where
  pub source_room : sources + (if is_source r then 1 else 0) ≤ 8
  pub reader_room : readers + (if is_reading r then 1 else 0) ≤ 128
  pub owner_room : owners + (if is_owner r then 1 else 0) ≤ 1
  -- the actors of all roles, counted together
  pub all : (sources + (if is_source r then 1 else 0)) + (readers + (if is_reading r then 1
      else 0)) + (owners + (if is_owner r then 1 else 0)) ≡ (sources + readers + owners) + 1

one_more : (r : role.Role) (sources readers owners : ℕ) → sources ≤ 8 → readers ≤ 128 → owners ≤ 1
    → (if is_source r then nat_le 8 sources else if is_owner r then nat_le 1 owners else nat_le 128 readers)
    ≡ false → IsOneMore r sources readers owners
one_more roles.Source sources readers owners h k l e =
    record {
      source_room = grind (arith, nat_tests, e);
      reader_room = omega arith;
      owner_room = omega arith;
      all = omega arith;
    }
one_more roles.Owner sources readers owners h k l e =
    record {
      source_room = omega arith;
      reader_room = omega arith;
      owner_room = grind (arith, nat_tests, e);
      all = omega arith;
    }
one_more r sources readers owners h k l e =
    record {
      source_room = omega arith;
      reader_room = grind (arith, nat_tests, e);
      owner_room = omega arith;
      all = omega arith;
    }

-- a new owner's device had none
none_owned : (c : Context) (r : role.Role) → r ≡ roles.Owner → has_all c r ≡ false → c.owners < 1
none_owned c r is enough =
    let here : has_all c roles.Owner ≡ false = rw is at enough in
    grind (arith, nat_tests, here)

-- an actor's line stands behind a device, and an owner's behind one made by requests
pub actor_place : (r : role.Role) (p : Place) (requested : Bool)
    → is_out_of_place p requested (keyword_for_role r) ≡ false
    → ((is_describing p || is_naming p) ≡ true) × (r ≡ roles.Owner → requested ≡ true)
actor_place roles.Owner p requested e = let h = owner_parts (is_describing p || is_naming p) requested e in
    (h.0, λ o. h.1)
actor_place r p requested e = (not-false _ e, λ o. absurd (cc o))

-- what a line leaves behind a good context
module _ (c : Context) (good : IsGood c) where
  -- so an owner's device is made by requests
  owner_requested : (i : ℕ) (a : ActorText) (d : DeviceText) → slice_get c.actors i ≡ Some a
      → a.role ≡ roles.Owner → slice_get (devices_of c) a.device ≡ Some d → d.requested ≡ true
  owner_requested i a d e o g = elim (device_is c.devices c.name c.requested (built c.builder) a.device d g) [
    | inl h ↦ good.actors.owned i a d e o h
    | inr h ↦ h.1 ∙ good.actors.owned_latest i a e o h.0
  ]

  device_begun : (requested : Bool) (name : List ℕ) → nat_le DEVICES_MAX (count_of c.devices c.name) ≡ false
      → IsGood (after (Device requested name) c)
  device_begun requested name enough =
      let old = good.actors in
      let count = closed_length c.devices c.name c.requested (built c.builder) in
      let less : count_of c.devices c.name < 8 = grind (arith, nat_tests, enough) in
      record {
        named = λ h. refl;
        actors = record {
          devices = λ i x h. omega (arith, count, old.devices i x h);
          few_devices = omega (arith, count, less);
          few_sources = omega arith;
          few_readers = omega arith;
          few_owners = omega arith;
          latest = omega arith;
          all =
              begun_all (length c.actors) (length c.devices) (length (devices_of c))
              (c.sources + c.readers + c.owners) (is_some c.name) old.all old.latest count;
          owned = λ i x d h r g. owner_requested i x d h r g;
          owned_latest = λ i x h r at. absurd (omega (arith, old.devices i x h, at, count));
          one = old.one;
          counted = λ i x h r at. absurd (omega (arith, old.devices i x h, at, count));
        };
        lines = good.lines;
      }

  actor_added : (r : role.Role) (name : List ℕ) → IsAccepted c (Actor r name)
      → IsGood (after (Actor r name) c)
  actor_added r name a =
      let place = actor_place r c.place c.requested a.in_place in
      let some : is_some c.name ≡ true = good.named place.0 in
      let new : ActorText = record { name = name; role = r; device = length c.devices } in
      let size : length (c.actors ++ new ∷ []) ≡ length c.actors + 1 = length-append c.actors (new ∷ []) in
      let old = good.actors in
      let more =
      one_more r c.sources c.readers c.owners old.few_sources old.few_readers old.few_owners a.few in
      let is_new : (x : ActorText) → x ≡ new → x.role ≡ roles.Owner
      → (r ≡ roles.Owner) × (x.device ≡ length c.devices) = λ x e o.
      (sym (rw e) ∙ o, rw e) in
      let lines = good.lines in
      record {
        named = λ h. some;
        actors = record {
          devices = λ i x h. elim (push_get c.actors new i x h) [
            | inl g ↦ old.devices i x g
            | inr e ↦ let at : x.device ≡ length c.devices = rw e in rw some (omega (arith, at))
          ];
          few_devices = old.few_devices;
          few_sources = more.source_room;
          few_readers = more.reader_room;
          few_owners = more.owner_room;
          latest = rw some (omega (arith, more.source_room, more.reader_room, more.owner_room));
          all = omega (arith, size, old.all, more.all);
          owned = λ i x d h o g. elim (push_get c.actors new i x h) [
            | inl k ↦ old.owned i x d k o g
            | inr e ↦ let is =
                is_new x e o in absurd (omega (arith, slice_get_within c.devices x.device d g, is.1))
          ];
          owned_latest = λ i x h o at. elim (push_get c.actors new i x h) [
            | inl k ↦ old.owned_latest i x k o at
            | inr e ↦ place.1 (is_new x e o).0
          ];
          one = λ i k x y h g o p same. elim (push_at c.actors new i x h) [
            | inl b ↦ elim (push_at c.actors new k y g) [
              | inl d ↦ old.one i k x y b d o p same
              | inr d ↦ let is =
                  is_new y d.1 p in
                  absurd (omega (arith, none_owned c r is.0 a.few, old.counted i x b o (same ∙ is.1)))
            ]
            | inr b ↦ elim (push_at c.actors new k y g) [
              | inl d ↦ let is =
                  is_new x b.1 o in
                  absurd (omega (arith, none_owned c r is.0 a.few, old.counted k y d p (sym same ∙ is.1)))
              | inr d ↦ b.0 ∙ sym d.0
            ]
          ];
          counted = λ i x h o at. elim (push_get c.actors new i x h) [
            | inl k ↦ let some = old.counted i x k o at in omega (arith, some)
            | inr e ↦ let is = is_new x e o in rw is.0 (omega arith)
          ];
        };
        lines = record {
          within = λ i x h. omega (arith, size, lines.within i x h);
          commands = λ i x y h g.
              lines.commands i x y h (front_get c.actors (new ∷ []) x.actor y (lines.within i x h) g);
          numbered = lines.numbered;
          few = lines.few;
        };
      }

  -- an action

  action_added : (actor : ℕ) (does : Command) → IsAccepted c (Action actor does)
      → IsGood (after (Action actor does) c)
  action_added actor does a =
      let new : Line = record { actor = actor; command = does } in
      let act = a.sayable in
      let fit = row_fits IsPlainWord c.streams act.text.role does act.of_row in
      let old = good.lines in
      let within : actor < length c.actors = slice_get_within c.actors actor act.text act.there in
      let by_new : (x : Line) (y : ActorText) → x ≡ new → slice_get c.actors x.actor ≡ Some y
      → (y ≡ act.text) × (x.command ≡ does) = λ x y e g.
      let at : x.actor ≡ actor = rw e in
      let who : slice_get c.actors actor ≡ Some y = rw at at g in
      (cc (who, act.there), rw e) in
      record {
        named = λ h. absurd (cc h);
        actors = good.actors;
        lines = record {
          within = λ i x h. elim (push_get c.lines new i x h) [
            | inl g ↦ old.within i x g
            | inr e ↦ let at : x.actor ≡ actor = rw e in omega (arith, within, at)
          ];
          commands = λ i x y h g. elim (push_get c.lines new i x h) [
            | inl k ↦ old.commands i x y k g
            | inr e ↦ let is = by_new x y e g in rw (is.0, is.1) (fit.role, fit.range)
          ];
          numbered =
              let at : 0 + c.streams ≡ c.streams = omega arith in
              rw (
                flat_map-append (λ (l : Line). stream_of l.command) c.lines (new ∷ []),
                append-nil (stream_of does),
                old.numbered,
                fit.stream,
                range-append 0 c.streams (streams_in does),
                at,
              );
          few = grind (arith, nat_tests, a.few);
        };
      }

good_after : (c : Context) (i : item.Item) → IsAccepted c i → IsGood c → IsGood (after i c)
good_after c (Header version) a good =
    record { named = λ h. absurd (cc h); actors = good.actors; lines = good.lines }
good_after c (Device requested name) a good = device_begun c good requested name a.few
good_after c (Actor r name) a good = actor_added c good r name a
good_after c (Action actor does) a good = action_added c good actor does a
good_after c i a good = record {
  named =
      λ h.
      good.named (or_left _ _ (not-false _ (sym (describes_place c.place c.requested i refl) ∙ a.in_place)));
  actors = good.actors;
  lines = good.lines;
}

good_first : IsGood first_context
good_first = record {
  named = λ h. absurd (cc h);
  actors = record {
    devices = λ i x h. absurd (cc h);
    few_devices = omega arith;
    few_sources = omega arith;
    few_readers = omega arith;
    few_owners = omega arith;
    latest = omega arith;
    all = omega arith;
    owned = λ i x d h r g. absurd (cc h);
    owned_latest = λ i x h r at. absurd (cc h);
    one = λ i k x y h g. absurd (cc h);
    counted = λ i x h r at. absurd (cc h);
  };
  lines = record {
    within = λ i x h. absurd (cc h);
    commands = λ i x y h g. absurd (cc h);
    numbered = refl;
    few = omega arith;
  };
}

-- the first context is so, and each accepted line leaves one that is so
pub good : (past : ItemsBefore) → WereAccepted past → IsGood (context_of past)
good past were = always IsGood good_first good_after past were

-- the version of accepted lines is one that there is
pub version_accepted : (past : ItemsBefore) → WereAccepted past
    → (1 ≤ (context_of past).version) × ((context_of past).version ≤ VERSION_MAX)
version_accepted past were =
    always (λ c. (1 ≤ c.version) × (c.version ≤ VERSION_MAX)) (omega arith, omega arith) named past were
  where
    named : (c : Context) (i : item.Item) → IsAccepted c i → (1 ≤ c.version) × (c.version ≤ VERSION_MAX)
        → (1 ≤ (after i c).version) × ((after i c).version ≤ VERSION_MAX)
    named c (Header version) a h = a.sayable
    named c i a h = h

-- no more lines than items
few_lines : (past : ItemsBefore) → length (context_of past).lines ≤ length past
few_lines [] = omega arith
few_lines (Action actor does ∷ past) =
    omega (
      arith,
      length-append (context_of past).lines (record { actor = actor; command = does } ∷ []),
      few_lines past,
    )
few_lines (i ∷ past) = let h = few_lines past in omega (arith, h)

-- what lines mean is a record
pub IsRecord-read : (lines : List (List ℕ)) (past : ItemsBefore) → length lines < 2 ^ 32
    → behind_lines 1 lines [] ≡ Ok past → IsRecord (record_of_past past)
IsRecord-read lines past h e =
    let c = context_of past in
    let is = all_accepted lines past e in
    let g = good past is.0 in
    let actors = g.actors in
    let ls = g.lines in
    let few : length (replicate {A = List Stamped} c.streams []) ≡ c.streams =
    length-replicate c.streams [] in
    let count = closed_length c.devices c.name c.requested (built c.builder) in
    let most =
    begun_all (length c.actors) (length c.devices) (length (devices_of c)) (c.sources + c.readers + c.owners)
    (is_some c.name) actors.all actors.latest count in
    record {
      version = version_accepted past is.0;
      devices = λ i x k. omega (arith, count, actors.devices i x k);
      actors = ls.within;
      owners = λ i x d k r at. owner_requested c g i x d k r at;
      one_owner = actors.one;
      commands = λ i l x k at. (ls.commands i l x k at).0;
      ranges = λ i l x k at. (ls.commands i l x k at).1;
      numbered = rw few ls.numbered;
      in_time = λ i x k.
          let is : [] ≡ x = sym (get_or-replicate_same c.streams i []) ∙ get_or_from_slice_get _ i x [] k in
          subst AreInTime is (λ j s g. absurd (cc g));
      few_devices = omega (arith, count, actors.few_devices);
      few_actors = omega (arith, most, count, actors.few_devices);
      few_lines = omega (arith, few_lines past, is.1);
      few_streams = omega (arith, few, ls.few);
    }
