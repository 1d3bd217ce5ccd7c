-- How the open clients are kept: each in a slab under a key of its own, with a list of their numbers and keys.
use Rattle.std.specs.Prelude.{◌≡◌, ℕ, ◌<◌, ◌≤◌, Bool, nat_eq, List, length, map, All, AllPairs, Option, Some, unwrap_or}
use Rattle.std.specs.Option.{option_map}
use Rattle.std.specs.List.{list_any, HoldsAt, AllWithin}
use Rattle.slab.specs.Slab.{Slab, get, slab_len}
use Rattle.inp_client.specs.declared.location.Location.{Location}
use Rattle.inp_client.specs.Client.{new_client}
use Rattle.inp_client.specs.Member.{Member}

-- the client under a key, and any client where no client has the key
abbrev pub client_at : Slab Member → ℕ → Member
client_at slab key = unwrap_or (get slab key) (new_client 0 0)

-- the number of the client under a key
abbrev pub number_at : Slab Member → ℕ → Option ℕ
number_at slab key = option_map (λ c. c.number) (get slab key)

-- the clients, in the order of their locations
abbrev pub clients_in : List Location → Slab Member → List Member
clients_in locations slab = map (λ at. client_at slab at.key) locations

-- a location has this number
abbrev pub has_location : ℕ → List Location → Bool
has_location number locations = list_any (λ at. nat_eq at.number number) locations

-- the locations ascend by number
abbrev pub AreAscending : List Location → Type 0
AreAscending locations = AllPairs (λ a b. a.number < b.number) locations

-- the location at the index has this number
pub record IsIndexOf (locations : List Location) (number index : ℕ) : Type 0 where
  pub within : index < length locations
  pub numbered : HoldsAt (λ at. at.number ≡ number) locations index

-- the locations before the index have lower numbers, and no other one has
pub record IsPlaceFor (locations : List Location) (number index : ℕ) : Type 0 where
  pub within : index ≤ length locations
  pub lower : AllWithin (λ at. at.number < number) locations 0 index
  pub others : AllWithin (λ at. number ≤ at.number) locations index (length locations)

-- each client of the slab has one location, and the locations ascend by number
pub record AreLocated (locations : List Location) (slab : Slab Member) : Type 0 where
  pub ascending : AreAscending locations
  pub keyed : All (λ at. number_at slab at.key ≡ Some at.number) locations
  pub counted : slab_len slab ≡ length locations
