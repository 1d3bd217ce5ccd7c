-- Clients in their locations: what a write, a removal and an insert leave.
use Rattle.std.proofs.Common.{◌≡◌, ◌≢◌, ◌<◌, ◌≤◌, ◌+◌, ℕ, Bool, true, false, cond, nat_eq, List, length}
use Rattle.std.proofs.Common.{get_or, set, Option, Some, None, is_some, refl, sym, ap, ◌∙◌, inl, inr, arith}
use Rattle.std.proofs.Common.{nat_lt, Contains, IfSome, IfNone, Result, Ok, Err, tests}
use Rattle.std.specs.List.{remove, insert, AllWithin}
use Rattle.std.specs.Option.{option_map}
use Rattle.std.proofs.lemmas.Bool.{cases_eq, eq-eqb, false≢true, cases_lt, ne_eqb, ltb-true, ltb-false}
use Rattle.std.proofs.lemmas.List.{get_or-map, length-map, get_or-set_same, get_or-set_other, get_or_default}
use Rattle.std.proofs.lemmas.List.Elements.{All-from_get_or}
use Rattle.std.proofs.lemmas.List.Quantifiers.{all_pairs_remove}
use Rattle.std.proofs.lemmas.List.Edits.{length-insert, length-remove}
use Rattle.std.proofs.lemmas.List.Folds.{list_any_at, list_any_none}
use Rattle.std.proofs.lemmas.List.Sums.{sum_by-set}
use Rattle.std.proofs.lemmas.Option.{same_Some, none-some}
use Rattle.slab.specs.Slab.{Slab, get, slab_len, with_value, Updates, ContainsKey}
use Rattle.slab.proofs.SlabLemmas.{ContainsKey-within, Updates-with_value}
use Rattle.inp_ring.proofs.Times.{at_each}
use Rattle.inp_client.specs.declared.location.Location.{Location}
use Rattle.inp_client.specs.Member.{Member}
use Rattle.inp_client.specs.Clients.{has_number, has_client}
use Rattle.inp_client.proofs.Lists.{All-but_one, All-insert, all_pairs_insert, map_but_one, map_put_in}
use Rattle.inp_client.proofs.Lists.{list_any-map, list_any_same}
use Rattle.inp_client.specs.Locations.{client_at, number_at, clients_in, has_location, AreAscending}
use Rattle.inp_client.specs.Locations.{AreLocated, IsPlaceFor, IsIndexOf}
use Rattle.std.specs.List.Sorted.{IsBinarySearchResult, IsSearchInRange, IsPartitionPoint}
use Rattle.std.specs.Ordering.{nat_cmp, ordering_index}
use Rattle.std.specs.Result.{result_ok}
use Rattle.std.specs.declared.cmp.Ordering.TheVariants.{Less, Equal, Greater}

-- the location that is read where there is none
abbrev pub any_location : Location
any_location = record { number = 0; key = 0 }

-- the location at an index has this key, and the slab has this client under it
pub record IsAt (locations : List Location) (slab : Slab Member) (i key : ℕ) (c : Member) : Type 0 where
  -- the index is no more than the length
  pub within : i < length locations
  pub d : Location
  pub keyed : (get_or locations i d).key ≡ key
  pub found : get slab key ≡ Some c

-- so it is where the slab was read under the key of the location at the index
abbrev pub is_at : (locations : List Location) (slab : Slab Member) (i : ℕ) (c : Member)
    → i < length locations → get slab (get_or locations i any_location).key ≡ Some c
    → IsAt locations slab i (get_or locations i any_location).key c
is_at locations slab i c within found =
    record { within = within; d = any_location; keyed = refl; found = found }

-- the clients before the index have lower numbers, and no other one has
pub record IsPlaceOf (ms : List Member) (number i : ℕ) : Type 0 where
  pub within : i ≤ length ms
  -- the clients before the index have lower numbers
  pub lower : AllWithin (λ m. m.number < number) ms 0 i
  -- the clients from the index on have no lower ones
  pub others : AllWithin (λ m. number ≤ m.number) ms i (length ms)

-- two locations with one number are one
one_location : (locations : List Location) → AreAscending locations → (i j : ℕ) (d : Location)
    → i < length locations → j < length locations
    → (get_or locations i d).number ≡ (get_or locations j d).number → i ≡ j
one_location locations up i j d in_i in_j same = grind (arith, up i j d, up j i d)

module _ {locations : List Location} {slab : Slab Member} (located : AreLocated locations slab) where
  -- no two locations have one key
  keys_apart : (i j : ℕ) (d : Location) → i < length locations → j < length locations → j ≢ i
      → (get_or locations j d).key ≢ (get_or locations i d).key
  keys_apart i j d in_i in_j differs same_key =
      differs (one_location locations located.ascending j i d in_j in_i
      (cc (located.keyed i d in_i, located.keyed j d in_j, same_key)))

  -- the client under a key, by what the slab has there
  pub client_at_found : (key : ℕ) (c : Member) → get slab key ≡ Some c → client_at slab key ≡ c
  client_at_found key c found = rw found

  module _ (i : ℕ) (d : Location) (in_i : i < length locations) where
    abbrev location : Location
    location = get_or locations i d

    -- the client under the key of a location
    client_of_location : (c : Member) × (get slab location.key ≡ Some c) × (c.number ≡ location.number)
    client_of_location = by_slot (get slab location.key) refl (located.keyed i d in_i)
      where
        by_slot : (slot : Option Member) → get slab location.key ≡ slot
            → option_map (λ c. c.number) slot ≡ Some location.number
            → (c : Member) × (get slab location.key ≡ Some c) × (c.number ≡ location.number)
        by_slot None found numbered = absurd (cc)
        by_slot (Some c) found numbered = (c, found, same_Some _ _ numbered)

    -- the number of the client in a location
    number_in_location : (client_at slab location.key).number ≡ location.number
    number_in_location = rw (client_at_found _ client_of_location.0 client_of_location.1) client_of_location.2

    -- the key of a location has a client
    pub key_in_slab : ContainsKey slab location.key
    key_in_slab = rw client_of_location.1 refl

  -- A client is written under the key of the location at i.
  module _ {i key : ℕ} {old : Member} (at : IsAt locations slab i key old) (new : Member) where
    write : Updates slab (with_value slab key new) key (Some new)
    write = Updates-with_value slab key new (rw at.found refl)

    long : i < length (clients_in locations slab)
    long = omega (arith, at.within, length-map locations (λ s. client_at slab s.key))

    -- the other locations' keys have what they had
    slot_kept : (j : ℕ) → j < length locations → j ≢ i
        → get (with_value slab key new) (get_or locations j at.d).key ≡ get slab (get_or locations j at.d).key
    slot_kept j in_j differs =
        write.others _ (λ e. keys_apart i j at.d at.within in_j differs (e ∙ sym at.keyed))

    -- the locations are as good for the slab after the write
    pub located_after_write : new.number ≡ old.number → AreLocated locations (with_value slab key new)
    located_after_write same = record {
      ascending = located.ascending;
      keyed =
          All-from_get_or (λ s. number_at (with_value slab key new) s.key ≡ Some s.number)
          locations at.d numbered;
      counted = counted_after;
    }
      where
        counted_after : slab_len (with_value slab key new) ≡ length locations
        counted_after =
            let present : is_some (get slab key) ≡ true = rw at.found refl in
            omega (
              arith,
              sum_by-set (λ (o : Option Member). cond (is_some o) 1 0) slab.slots key
                  (Some new) None (ContainsKey-within slab key present),
              ap {B = ℕ} (λ (b : Bool). cond b 1 0) present,
              located.counted,
            )

        numbered : (j : ℕ) → j < length locations
            → number_at (with_value slab key new) (get_or locations j at.d).key
            ≡ Some (get_or locations j at.d).number
        numbered =
            at_each _ i
            (λ in_j. rw (at.keyed, write.changed, same)
            (rw (at.keyed, at.found) at (located.keyed i at.d at.within)))
            (λ j n in_j. rw (slot_kept j in_j n) (located.keyed j at.d in_j))

    -- the client there is another one, and the others stay
    pub members_after_write : clients_in locations (with_value slab key new)
        ≡ set (clients_in locations slab) i new
    members_after_write =
        (map_but_one (λ s. client_at slab s.key)
        (λ s. client_at (with_value slab key new) s.key) locations i at.d at.within
        (λ j in_j differs. rw slot_kept)).0
        ∙ ap (set (clients_in locations slab) i) (rw (at.keyed, write.changed))

    -- so it reads
    pub member_written : (e : Member) → get_or (clients_in locations (with_value slab key new)) i e ≡ new
    member_written e = rw members_after_write (get_or-set_same (clients_in locations slab) i new e long)

    -- another location has another key, under which the client stays
    pub member_kept : (j : ℕ) (e : Member) → j ≢ i
        → get_or (clients_in locations (with_value slab key new)) j e ≡ get_or (clients_in locations slab) j e
    member_kept j e d = rw members_after_write (get_or-set_other (clients_in locations slab) i j new e d)

  -- the number of a location is that of an open client
  pub has_client-clients_in : (number : ℕ)
      → has_client number (clients_in locations slab) ≡ has_location number locations
  has_client-clients_in number =
      list_any-map (has_number number) (λ s. client_at slab s.key) locations
      ∙ list_any_same _ (λ s. nat_eq s.number number) locations (λ j d in_j. rw number_in_location)

  -- the client in a location
  pub member_in_location : (i : ℕ) (d : Location) (e : Member) → i < length locations
      → get_or (clients_in locations slab) i e ≡ client_at slab (get_or locations i d).key
  member_in_location i d e in_i = get_or-map (λ s. client_at slab s.key) locations i d e in_i

  -- that which is found under its key
  pub member_found : {i key : ℕ} {c : Member} → IsAt locations slab i key c → (e : Member)
      → get_or (clients_in locations slab) i e ≡ c
  member_found {i} {key} {c} at e =
      member_in_location i at.d e at.within ∙ ap (client_at slab) at.keyed ∙ client_at_found key c at.found

  -- its number is that of the location
  pub member_number : (i : ℕ) (d : Location) (e : Member) → i < length locations
      → (get_or (clients_in locations slab) i e).number ≡ (get_or locations i d).number
  member_number i d e in_i = rw (member_in_location i d e in_i) (number_in_location i d in_i)

  -- each location has its client
  pub members_long : length (clients_in locations slab) ≡ length locations
  members_long = length-map locations (λ s. client_at slab s.key)

  -- no two clients have one number
  pub members_apart : (i j : ℕ) (e : Member) → i < length locations → j < length locations → j ≢ i
      → (get_or (clients_in locations slab) j e).number ≢ (get_or (clients_in locations slab) i e).number
  members_apart i j e in_i in_j differs same =
      let d : Location = record { number = 0; key = 0 } in
      differs (one_location locations located.ascending j i d in_j in_i (sym (member_number j d e in_j) ∙ same
      ∙ member_number i d e in_i))

  -- The client in the location at i is removed, and the location too.
  module _ {i key : ℕ} {old : Member} (at : IsAt locations slab i key old) {after : Slab Member}
      (removed : Updates slab after key None) where
    others_stay : (j : ℕ) → j < length locations → j ≢ i
        → get after (get_or locations j at.d).key ≡ get slab (get_or locations j at.d).key
    others_stay j in_j differs =
        removed.others _ (λ e. keys_apart i j at.d at.within in_j differs (e ∙ sym at.keyed))

    -- the other keys have the clients that they had, and the order of the numbers stays
    pub located_after_removal : slab_len after + 1 ≡ slab_len slab → AreLocated (remove locations i) after
    located_after_removal fewer = record {
      ascending = all_pairs_remove (λ s t. s.number < t.number) locations i at.within located.ascending;
      keyed = All-but_one (λ s. number_at after s.key ≡ Some s.number) locations i at.d at.within kept;
      counted = omega (arith, fewer, located.counted, length-remove locations i at.within);
    }
      where
        kept : (j : ℕ) → j < length locations → j ≢ i
            → number_at after (get_or locations j at.d).key ≡ Some (get_or locations j at.d).number
        kept j in_j differs = rw (others_stay j in_j differs) (located.keyed j at.d in_j)

    -- the client at the index is left out, and the other keys have what they had
    pub members_after_removal : clients_in (remove locations i) after ≡ remove (clients_in locations slab) i
    members_after_removal =
        (map_but_one (λ s. client_at slab s.key) (λ s. client_at after s.key) locations i at.d at.within
        (λ j in_j differs. rw others_stay)).1

  -- A client with a number that no other has comes under a key that was vacant, and its location in its
  -- place.
  module _ {key : ℕ} {new : Member} {after : Slab Member} {i : ℕ} (vacant : get slab key ≡ None)
      (inserted : Updates slab after key (Some new)) (place : IsPlaceFor locations new.number i) where
    abbrev new_location : Location
    new_location = record { number = new.number; key = key }

    all_stay : (j : ℕ) (d : Location) → j < length locations
        → get after (get_or locations j d).key ≡ get slab (get_or locations j d).key
    all_stay j d in_j =
        let there = client_of_location j d in_j in
        inserted.others _ (λ e. none-some there.0 (sym vacant ∙ ap (get slab) (sym e) ∙ there.1))

    -- the same clients lie in the locations
    clients_stay : (j : ℕ) (d : Location) → j < length locations
        → client_at after (get_or locations j d).key ≡ client_at slab (get_or locations j d).key
    clients_stay j d in_j = rw all_stay

    new_there : client_at after key ≡ new
    new_there = rw inserted.changed

    -- no location had the number, so the new one comes between lower and higher ones
    pub located_after_insert : has_client new.number (clients_in locations slab) ≡ false
        → slab_len after ≡ slab_len slab + 1
        → AreLocated (insert locations i (record { number = new.number; key = key })) after
    located_after_insert unused more = record {
      ascending =
          all_pairs_insert (λ s t. s.number < t.number) locations i new_location place.within
          located.ascending place.lower higher;
      keyed =
          All-insert (λ s. number_at after s.key ≡ Some s.number) locations i new_location place.within
          (λ j d in_j. rw (all_stay j d in_j) (located.keyed j d in_j)) (rw inserted.changed);
      counted = omega (arith, more, located.counted, length-insert locations i new_location place.within);
    }
      where
        no_location : has_location new.number locations ≡ false
        no_location = sym (has_client-clients_in new.number) ∙ unused

        higher : (j : ℕ) (d : Location) → i ≤ j → j < length locations
            → new.number < (get_or locations j d).number
        higher j d le in_j = elim (cases_eq (get_or locations j d).number new.number) [
          | inl same ↦ absurd
              (false≢true (sym no_location
              ∙ list_any_at (λ s. nat_eq s.number new.number) locations j d in_j (eq-eqb _ _ same)))
          | inr differs ↦ omega (arith, place.others j d le in_j, differs)
        ]

    -- the new client stands at the index, and the other keys have what they had
    pub members_after_insert : clients_in
        (insert locations i (record { number = new.number; key = key })) after
        ≡ insert (clients_in locations slab) i new
    members_after_insert =
        map_put_in (λ s. client_at slab s.key)
        (λ s. client_at after s.key) locations i new_location place.within clients_stay
        ∙ ap (insert (clients_in locations slab) i) new_there

    -- it has its place among the clients
    pub place_of_member : IsPlaceOf (clients_in locations slab) new.number i
    place_of_member = record {
      within = omega (arith, members_long, place.within);
      lower =
          λ j e le lt. omega (
            arith,
            place.lower j any_location (omega arith) lt,
            member_number j any_location e (omega (arith, place.within)),
          );
      others = λ j e le in_j.
          omega (
            arith,
            place.others j any_location le (omega (arith, members_long)),
            member_number j any_location e (omega (arith, members_long)),
          );
    }

-- What a binary search of the locations finds

equal_numbers : (a b : ℕ) → nat_cmp a b ≡ Equal → a ≡ b
equal_numbers a b e = grind (arith, tests)

lower_number : (a b : ℕ) → nat_cmp a b ≡ Less → a ≢ b
lower_number a b e same = grind (arith, tests)

higher_number : (a b : ℕ) → nat_cmp a b ≡ Greater → a ≢ b
higher_number a b e same = grind (arith, tests)

rising : (a b n : ℕ) → a ≤ b → ordering_index (nat_cmp a n) ≤ ordering_index (nat_cmp b n)
rising a b n le = grind (arith, tests)

-- numbers do not fall along the locations
pub not_falling : (locations : List Location) → AreAscending locations → (i j : ℕ) (d : Location) → i ≤ j
    → j < length locations → (get_or locations i d).number ≤ (get_or locations j d).number
not_falling locations up i j d le within = grind (arith, up i j d)

-- a search that ends in a find ends at a location with the number
pub index_found : (locations : List Location) (number : ℕ) (r : Result ℕ ℕ)
    → IsSearchInRange r (length locations) → IsBinarySearchResult (λ s. nat_cmp s.number number) locations r
    → IfSome (result_ok r) (IsIndexOf locations number)
index_found locations number (Ok i) within found =
    record { within = within; numbered = λ d. equal_numbers _ _ (found d) }
index_found locations number (Err i) within found = tt

-- all numbers before the end of the search are lower, and all behind it are higher
pub no_index : (locations : List Location) (number : ℕ) (r : Result ℕ ℕ) → AreAscending locations
    → IsBinarySearchResult (λ s. nat_cmp s.number number) locations r
    → IfNone (result_ok r) (has_location number locations ≡ false)
no_index locations number (Ok i) up found = tt
no_index locations number (Err i) up found =
    let parted = found (λ i j d le within. rising _ _ number (not_falling locations up i j d le within)) in
    list_any_none (λ s. nat_eq s.number number) locations (λ k d within. ne_eqb _ _ (elim (cases_lt k i) [
      | inl before ↦ lower_number _ _ (parted.0 k d (omega arith) before)
      | inr behind ↦ higher_number _ _ (parted.1 k d behind within)
    ]))

-- a search for a location that is there finds it
pub index_is_some : (locations : List Location) (number : ℕ) (index : Option ℕ)
    → IfSome index (IsIndexOf locations number) → IfNone index (has_location number locations ≡ false)
    → is_some index ≡ has_location number locations
index_is_some locations number None found none = sym none
index_is_some locations number (Some i) found none =
    sym (list_any_at (λ s. nat_eq s.number number) locations i any_location found.within
    (eq-eqb _ _ (found.numbered any_location)))

-- what it finds
pub index_is : (locations : List Location) (number : ℕ) (index : Option ℕ) (i : ℕ)
    → IfSome index (IsIndexOf locations number) → index ≡ Some i → IsIndexOf locations number i
index_is locations number index i found e = rw e at found

-- the location there
pub location_at_index : (locations : List Location) (number i : ℕ) (d : Location)
    → IsIndexOf locations number i
    → Contains locations (record { number = number; key = (get_or locations i d).key })
location_at_index locations number i d at =
    let location : Location = get_or locations i d in
    let numbered : ℕ → Location = λ n. record { number = n; key = location.key } in
    (i, at.within, get_or_default locations i (numbered number) d at.within ∙ ap numbered (at.numbered d))

-- where numbers no longer are lower, a new one has its place
pub place_is : (locations : List Location) (number i : ℕ) → i ≤ length locations
    → IsPartitionPoint (λ s. nat_lt s.number number ≡ true) (λ s. nat_lt s.number number ≡ false) locations i
    → IsPlaceFor locations number i
place_is locations number i within parted = record {
  within = within;
  lower = λ k d le below. ltb-true _ _ (parted.0 k d le below);
  others = λ k d le in_k. ltb-false _ _ (parted.1 k d le in_k);
}
