-- The list of clients as it is made of their numbers, for callers: `f` gives the client of each number.
use Rattle.std.proofs.Common.{◌≡◌, ◌<◌, ◌≤◌, ℕ, zero, suc, Bool, true, false, not, ◌&&◌, if◌then◌else◌}
use Rattle.std.proofs.Common.{nat_eq, nat_lt, List, [], ◌∷◌, ◌++◌, length, map, get_or, All, Some, refl, sym}
use Rattle.std.proofs.Common.{◌∙◌, inl, inr, arith}
use Rattle.std.specs.List.{filter, list_any, range_with_len, insert, AllWithin}
use Rattle.std.proofs.lemmas.Bool.{cases_eq, eq-eqb, ne_eqb, lt-ltb, le-ltb, false≢true}
use Rattle.std.proofs.lemmas.List.Elements.{All-head, All-tail}
use Rattle.inp_client.specs.Client.{ClientView}
use Rattle.std.proofs.Math.Path.{fun_ext}
use Rattle.std.proofs.lemmas.Simd.{map-map}
use Rattle.inp_client.proofs.Lists.{any_below, either_map, list_any-map, map_same}
use Rattle.inp_client.specs.Clients.{has_number, has_client, client_named, has_revoked_client, events_of}
use Rattle.inp_client.specs.Clients.{map_client, with_client, without_client}

module _ {E : Type 0} where
  -- each open client has a lower number
  abbrev pub AllBelow : ℕ → List (ClientView E) → Type 0
  AllBelow number clients = All (λ c. c.number < number) clients

  -- no open client has such a number
  pub unused_above : (number : ℕ) (clients : List (ClientView E)) → AllBelow number clients
      → has_client number clients ≡ false
  unused_above number [] below = refl
  unused_above number (c ∷ clients) below =
      let first : c.number < number = All-head (λ c. c.number < number) c clients below in
      rw (ne_eqb c.number number (λ e. omega (arith, e)))
      (unused_above number clients (All-tail (λ c. c.number < number) c clients below))

  -- one with such a number comes last
  pub with_client_above : (new : ClientView E) (clients : List (ClientView E)) → AllBelow new.number clients
      → with_client new clients ≡ clients ++ new ∷ []
  with_client_above new [] below = refl
  with_client_above new (c ∷ clients) below =
      let first : c.number < new.number = All-head (λ c. c.number < new.number) c clients below in
      rw (lt-ltb, with_client_above new clients (All-tail (λ c. c.number < new.number) c clients below))

  -- one that is made of an element is opened where that element is inserted in its place
  pub map-insert : {X : Type 0} (g : X → ClientView E) (xs : List X) (i : ℕ) (y : X) → i ≤ length xs
      → AllWithin (λ x. (g x).number < (g y).number) xs 0 i
      → AllWithin (λ x. (g y).number ≤ (g x).number) xs i (length xs)
      → map g (insert xs i y) ≡ with_client (g y) (map g xs)
  map-insert g [] zero y within lower others = refl
  map-insert g [] (suc i) y within lower others = absurd (omega arith)
  map-insert g (x ∷ xs) zero y within lower others =
      rw (le-ltb (g x).number (g y).number (others 0 x (omega arith) (omega arith))) refl
  map-insert g (x ∷ xs) (suc i) y within lower others =
      rw (
        lt-ltb (g x).number (g y).number (lower 0 x (omega arith) (omega arith)),
        map-insert g xs i y (omega arith) (λ k d le lt. lower (suc k) d (omega arith) (omega arith))
            (λ k d le lt. others (suc k) d (omega arith) (omega arith)),
      )

module _ {E : Type 0} (f : ℕ → ClientView E) (numbered : (n : ℕ) → (f n).number ≡ n) where
  has_number_of : (number n : ℕ) → has_number number (f n) ≡ nat_eq n number
  has_number_of number n = rw numbered

  -- the one with this number is changed
  pub map_client-map : (number : ℕ) (change : ClientView E → ClientView E) (ns : List ℕ)
      → map_client number change (map f ns) ≡ map (λ n. if nat_eq n number then change (f n) else f n) ns
  map_client-map number change ns =
      map-map (λ c. if has_number number c then change c else c) f ns
      ∙ map_same _ (λ n. if nat_eq n number then change (f n) else f n) ns
      (λ j d in_j. rw (has_number_of number (get_or ns j d)))

  -- a client is open where its number is in the list
  pub has_client-map : (number : ℕ) (ns : List ℕ)
      → has_client number (map f ns) ≡ list_any (λ n. nat_eq n number) ns
  has_client-map number ns = rw (list_any-map, fun_ext (has_number_of number))

  -- the same where the numbers are those below a bound that pass a test
  pub has_client-filter : (number bound : ℕ) (p : ℕ → Bool)
      → has_client number (map f (filter p (range_with_len 0 bound))) ≡ (nat_lt number bound && p number)
  has_client-filter number bound p =
      has_client-map number (filter p (range_with_len 0 bound)) ∙ any_below number bound p

  -- the client that a number names
  pub client_named-map : (number : ℕ) (ns : List ℕ) → list_any (λ n. nat_eq n number) ns ≡ true
      → client_named number (map f ns) ≡ Some (f number)
  client_named-map number [] there = absurd (false≢true there)
  client_named-map number (n ∷ ns) there =
      elim (cases_eq n number) [
        | inl e ↦ rw (has_number_of, eq-eqb n number e, e)
        | inr d ↦
            let rest : list_any (λ n. nat_eq n number) ns ≡ true = rw ne_eqb at there in
            rw (has_number_of, ne_eqb) (client_named-map number ns rest)
      ]

  -- the number names the client that the function gives, so the queue is its own
  pub events_of-map : (number : ℕ) (ns : List ℕ) → list_any (λ n. nat_eq n number) ns ≡ true
      → events_of number (map f ns) ≡ (f number).ring.events
  events_of-map number ns there = rw client_named-map

  -- the number names the client that the function gives, so it is revoked where that one is
  pub has_revoked_client-map : (number : ℕ) (ns : List ℕ) → list_any (λ n. nat_eq n number) ns ≡ true
      → has_revoked_client number (map f ns) ≡ (f number).revoked
  has_revoked_client-map number ns there = rw client_named-map

  -- the clients but one
  pub without_client-map : (number : ℕ) (ns : List ℕ)
      → without_client number (map f ns) ≡ map f (filter (λ n. not (nat_eq n number)) ns)
  without_client-map number [] = refl
  without_client-map number (n ∷ ns) =
      rw (has_number_of, without_client-map number ns) (sym (either_map (map f) (not (nat_eq n number)) _ _))
