-- When an item can be said by words, and when a line that says it is accepted behind others.
use Rattle.std.proofs.Common.{◌≡◌, ◌<◌, ◌≤◌, ◌^◌, ℕ, Bool, true, false, ◌&&◌, ◌||◌, not, nat_eq, List, []}
use Rattle.std.proofs.Common.{◌∷◌, slice_get, Some, None, FitsSigned, w32, refl}
use Rattle.inp_model.specs.declared.axis_info.AxisInfo.{AxisInfo}
use Rattle.inp_model.specs.declared.limits.TheConstants.{BOUNCE_MAX}
use Rattle.inp_model.specs.declared.filter.Filter as filter
use Rattle.inp_model.specs.declared.filter.Filter.TheVariants as filters
use Rattle.inp_actors.specs.declared.role.Role as role
use Rattle.inp_actors.specs.declared.role.Role.TheVariants as roles
use Rattle.inp_actors.specs.declared.actor_text.ActorText.{ActorText}
use Rattle.inp_actors.specs.declared.command.Command as command
use Rattle.inp_actors.specs.declared.record.TheConstants.{VERSION_MAX}
use Rattle.inp_actors.specs.Name.{is_name}
use Rattle.inp_actors.specs.Command.{is_joy, is_owner}
use Rattle.inp_record.proofs.PlainLines.{IsPlainWord}
use Rattle.inp_record.specs.declared.item.Item.{Item}
use Rattle.inp_record.specs.declared.item.Item.TheVariants.{Header, Device, Hint, Log, Realtime, Boottime}
use Rattle.inp_record.specs.declared.item.Item.TheVariants.{Slots, Kind, Code, Axis, Filter, Actor, Action}
use Rattle.inp_record.specs.declared.keyword.Keyword as keyword
use Rattle.inp_record.specs.declared.keyword.Keyword.TheVariants as keywords
use Rattle.inp_record.specs.ItemsBefore.{ItemsBefore, first_context, after, context_of}
use Rattle.inp_record.specs.declared.context.Context.{Context}
use Rattle.inp_record.specs.declared.place.Place.{Place}
use Rattle.inp_record.specs.Place.{is_first_place, is_describing, is_out_of_place}
use Rattle.inp_record.specs.Words.{actor_from, is_action}
use Rattle.inp_record.specs.Meaning.{is_later_command, is_twice, is_too_many, has_too_many_slots}
use Rattle.inp_record.specs.Meaning.{builder_refusal}
use Rattle.inp_record.proofs.Rows.{IsOfRow}

-- the first word of the canonical line of an item
abbrev pub keyword_for_role : role.Role → keyword.Keyword
keyword_for_role roles.Source = keywords.Source
keyword_for_role roles.Client = keywords.Client
keyword_for_role roles.Tap = keywords.Tap
keyword_for_role roles.Joy = keywords.Joy
keyword_for_role roles.Owner = keywords.Owner

abbrev pub keyword_for_device : Bool → keyword.Keyword
keyword_for_device true = keywords.Udevice
keyword_for_device false = keywords.Device

-- a joystick and an owner are actors of a later version than 1
abbrev pub is_later_role : role.Role → Bool
is_later_role role = is_joy role || is_owner role

abbrev pub keyword_for_filter : filter.Filter → keyword.Keyword
keyword_for_filter (filters.Eat kind code) = keywords.Eat
keyword_for_filter filters.Norepeat = keywords.Norepeat
keyword_for_filter (filters.Chord first second) = keywords.Chord
keyword_for_filter (filters.Bounce code micros) = keywords.Bounce

abbrev pub keyword_for : Item → keyword.Keyword
keyword_for (Header version) = keywords.Header
keyword_for (Device requested name) = keyword_for_device requested
keyword_for (Hint count) = keywords.Hint
keyword_for (Log count) = keywords.Log
keyword_for (Realtime offset) = keywords.Clock
keyword_for (Boottime offset) = keywords.Clock
keyword_for (Slots count) = keywords.Slots
keyword_for (Kind kind) = keywords.Kind
keyword_for (Code kind code) = keywords.Code
keyword_for (Axis code info) = keywords.Axis
keyword_for (Filter filter) = keyword_for_filter filter
keyword_for (Actor role name) = keyword_for_role role
keyword_for (Action actor command) = keywords.Action

-- each value is one of 32 bits
pub record IsSayableInfo (i : AxisInfo) : Type 0 where
  -- for the value
  pub value : FitsSigned w32 i.value
  -- for the minimum
  pub minimum : FitsSigned w32 i.minimum
  -- for the maximum
  pub maximum : FitsSigned w32 i.maximum
  -- for the fuzz
  pub fuzz : FitsSigned w32 i.fuzz
  -- for the flat
  pub flat : FitsSigned w32 i.flat
  -- for the resolution
  pub resolution : FitsSigned w32 i.resolution

-- each number fits its word
abbrev pub IsSayableFilter : filter.Filter → Type 0
IsSayableFilter (filters.Eat kind code) = (kind ≤ 65535) × (code ≤ 65535)
IsSayableFilter filters.Norepeat = Unit {0}
IsSayableFilter (filters.Chord first second) = (first ≤ 65535) × (second ≤ 65535)
IsSayableFilter (filters.Bounce code micros) = (code ≤ 65535) × (1 ≤ micros) × (micros ≤ BOUNCE_MAX)

-- the actor of this number is there and the first of its name, and its role has the command
pub record IsSayableAction (actors : List ActorText) (stream actor : ℕ)
    (does : command.Command) : Type 0 where
  -- the actor that the action names
  pub text : ActorText
  -- the actor is the one with the number that is given
  pub there : slice_get actors actor ≡ Some text
  -- no actor before it has its name
  pub first : actor_from 0 actors text.name ≡ Some (actor, text.role)
  -- its name is one that an actor can have
  pub name : is_name text.name ≡ true
  -- its role has the command, with values that fields can say
  pub of_row : IsOfRow IsPlainWord stream text.role does

-- the item can be said, where these actors are there and so many streams
abbrev pub IsSayable : List ActorText → ℕ → Item → Type 0
IsSayable actors stream (Header version) = (1 ≤ version) × (version ≤ VERSION_MAX)
IsSayable actors stream (Device requested name) = is_name name ≡ true
IsSayable actors stream (Hint count) = count < 2 ^ 32
IsSayable actors stream (Log count) = count < 2 ^ 32
IsSayable actors stream (Realtime offset) = offset < 2 ^ 64
IsSayable actors stream (Boottime offset) = offset < 2 ^ 64
IsSayable actors stream (Slots count) = count < 2 ^ 32
IsSayable actors stream (Kind kind) = kind ≤ 65535
IsSayable actors stream (Code kind code) = (kind ≤ 65535) × (code ≤ 65535)
IsSayable actors stream (Axis code info) = (code ≤ 65535) × IsSayableInfo info
IsSayable actors stream (Filter filter) = IsSayableFilter filter
IsSayable actors stream (Actor role name) = is_name name ≡ true
IsSayable actors stream (Action actor does) = IsSayableAction actors stream actor does

-- filters are there under version 1, which has none
abbrev pub are_early : ℕ → List filter.Filter → Bool
are_early version [] = false
are_early version (filter ∷ more) = nat_eq version 1

abbrev pub is_header_item : Item → Bool
is_header_item (Header version) = true
is_header_item _ = false

abbrev pub is_action_item : Item → Bool
is_action_item (Action actor does) = true
is_action_item _ = false

-- items that describe the latest device
abbrev pub is_describing_item : Item → Bool
is_describing_item (Header version) = false
is_describing_item (Device requested name) = false
is_describing_item (Actor role name) = false
is_describing_item (Action actor does) = false
is_describing_item _ = true

-- a device made by requests, a filter, a joystick and an owner are read under a later version than 1 alone
abbrev pub is_later_item : Item → Bool
is_later_item (Device requested name) = requested
is_later_item (Filter filter) = true
is_later_item (Actor role name) = is_later_role role
is_later_item _ = false

-- A line that says the item is accepted where what came before is this.
pub record IsAccepted (c : Context) (i : Item) : Type 0 where
  -- words can say the item
  pub sayable : IsSayable c.actors c.streams i
  -- any item but a header stands behind a header
  pub headed : is_header_item i ≡ false → is_first_place c.place ≡ false
  -- a line with its keyword may stand there
  pub in_place : is_out_of_place c.place c.requested (keyword_for i) ≡ false
  -- an item of a later version does not stand under version 1
  pub later : (is_later_item i && nat_eq c.version 1) ≡ false
  -- the version has its command
  pub in_version : is_later_command c i ≡ false
  -- it is not said twice
  pub once : is_twice c i ≡ false
  -- it is not one too many
  pub few : is_too_many c i ≡ false
  -- it gives no more slots than its version allows
  pub few_slots : has_too_many_slots c i ≡ false
  -- the builder does not refuse it
  pub fits : builder_refusal c.builder i ≡ None

-- an item is accepted by these facts, in the order of the record's fields
pub accepted : {c : Context} {i : Item} → IsSayable c.actors c.streams i
    → (is_header_item i ≡ false → is_first_place c.place ≡ false)
    → is_out_of_place c.place c.requested (keyword_for i) ≡ false
    → (is_later_item i && nat_eq c.version 1) ≡ false → is_later_command c i ≡ false → is_twice c i ≡ false
    → is_too_many c i ≡ false → has_too_many_slots c i ≡ false → builder_refusal c.builder i ≡ None
    → IsAccepted c i
accepted sayable headed in_place later in_version once few few_slots fits =
    record {
      sayable = sayable;
      headed = headed;
      in_place = in_place;
      later = later;
      in_version = in_version;
      once = once;
      few = few;
      few_slots = few_slots;
      fits = fits;
    }

-- what these items leave, one after another
abbrev pub after_all : List Item → Context → Context
after_all [] c = c
after_all (i ∷ more) c = after_all more (after i c)

-- lines that say these items, one after another, are accepted
abbrev pub AreAccepted : Context → List Item → Type 0
AreAccepted c [] = Unit {0}
AreAccepted c (i ∷ more) = IsAccepted c i × AreAccepted (after i c) more

-- the items of a past were accepted one after another, the newest last
abbrev pub WereAccepted : ItemsBefore → Type 0
WereAccepted [] = Unit {0}
WereAccepted (i ∷ past) = IsAccepted (context_of past) i × WereAccepted past

-- what holds before the first line, and with each accepted line goes on to hold, holds behind accepted lines
pub always : (P : Context → Type 0) → P first_context
    → ((c : Context) (i : Item) → IsAccepted c i → P c → P (after i c)) → (past : ItemsBefore)
    → WereAccepted past → P (context_of past)
always P start step [] were = start
always P start step (i ∷ past) were = step (context_of past) i were.0 (always P start step past were.1)

-- an item has the keyword of an action where it is one
pub acts : (i : Item) → is_action (keyword_for i) ≡ is_action_item i
acts (Device true name) = refl
acts (Filter (filters.Eat kind code)) = refl
acts (Actor roles.Source name) = refl
acts i = refl

-- what describes a device may stand in a description alone
pub describes_place : (p : Place) (requested : Bool) (i : Item) → is_describing_item i ≡ true
    → is_out_of_place p requested (keyword_for i) ≡ not (is_describing p)
describes_place p requested (Header version) d = absurd (cc d)
describes_place p requested (Device made name) d = absurd (cc d)
describes_place p requested (Actor role name) d = absurd (cc d)
describes_place p requested (Action actor does) d = absurd (cc d)
describes_place p requested (Filter (filters.Eat kind code)) d = refl
describes_place p requested i d = refl
