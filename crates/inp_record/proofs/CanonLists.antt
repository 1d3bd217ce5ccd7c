-- The canonical items of a record, and how they grow with its lists.
use Rattle.std.proofs.Common.{◌≡◌, ◌<◌, ◌≤◌, ◌+◌, ℕ, suc, true, false, nat_eq, List, [], ◌∷◌, ◌++◌, length}
use Rattle.std.proofs.Common.{map, Some, refl, sym, arith, append_assoc, append-nil}
use Rattle.std.specs.Prelude.{slice_get, flat_map}
use Rattle.std.specs.List.{enumerate_from}
use Rattle.std.proofs.lemmas.Bool.{ne_eqb, eq-eqb}
use Rattle.std.proofs.lemmas.Grind.{flat_map-append}
use Rattle.std.proofs.lemmas.List.{map-append}
use Rattle.inp_actors.specs.declared.actor_text.ActorText.{ActorText}
use Rattle.inp_actors.specs.declared.device_text.DeviceText.{DeviceText}
use Rattle.inp_actors.specs.declared.line.Line.{Line}
use Rattle.inp_record.specs.declared.item.Item.{Item}
use Rattle.inp_record.specs.declared.item.Item.TheVariants.{Header, Device, Actor}
use Rattle.inp_record.specs.Spelling.{description_items, actor_items, device_items, action_item_of}

-- the header and the lines of the devices, with their actors
abbrev pub head_items : ℕ → List ActorText → List DeviceText → List Item
head_items version actors devices = Header version ∷ flat_map (device_items actors) (enumerate_from 0 devices)

-- all lines
abbrev pub all_items : ℕ → List ActorText → List DeviceText → List Line → List Item
all_items version actors devices lines = head_items version actors devices ++ map action_item_of lines

-- each of these actors is of a device with a lesser number
abbrev pub AreBelow : ℕ → List ActorText → Type 0
AreBelow n actors = (i : ℕ) (a : ActorText) → slice_get actors i ≡ Some a → a.device < n

enumerate_push : {X : Type 0} (n : ℕ) (xs : List X) (y : X)
    → enumerate_from n (xs ++ y ∷ []) ≡ enumerate_from n xs ++ (n + length xs, y) ∷ []
enumerate_push n [] y = let e : n ≡ n + 0 = omega arith in rw (← e)
enumerate_push n (x ∷ xs) y =
    let e : n + 1 + length xs ≡ n + suc (length xs) = omega arith in
    rw (enumerate_push (n + 1) xs y, e)

-- what comes of one device more
devices_push : (f : ℕ × DeviceText → List Item) (devices : List DeviceText) (d : DeviceText)
    → flat_map f (enumerate_from 0 (devices ++ d ∷ [])) ≡ flat_map f (enumerate_from 0 devices)
    ++ f (0 + length devices, d)
devices_push f devices d = rw (enumerate_push, flat_map-append, append-nil)

-- a device without actors
no_actors : (k : ℕ) (actors : List ActorText) → AreBelow k actors → flat_map (actor_items k) actors ≡ []
no_actors k [] h = refl
no_actors k (a ∷ actors) h =
    let less : a.device < k = h 0 a refl in
    let other : nat_eq a.device k ≡ false = ne_eqb a.device k (λ e. absurd (omega arith)) in
    rw other (no_actors k actors (λ i b e. h (suc i) b e))

-- a device without actors adds its own line and those that describe it, at the end
pub head_device : (version : ℕ) (actors : List ActorText) (devices : List DeviceText) (d : DeviceText)
    → AreBelow (length devices) actors
    → head_items version actors (devices ++ d ∷ []) ≡ head_items version actors devices
    ++ Device d.requested d.name ∷ description_items d.caps
unfolding device_items
head_device version actors devices d below =
    let f = device_items actors in
    let k : 0 + length devices ≡ length devices = omega arith in
    let none : flat_map (actor_items (0 + length devices)) actors ≡ [] =
    rw k (no_actors (length devices) actors below) in
    rw (devices_push, none, append-nil)

-- an actor of a later device changes nothing of these
others_same : (actors : List ActorText) (new : ActorText) (devices : List DeviceText) (n : ℕ)
    → n + length devices ≤ new.device
    → flat_map (device_items (actors ++ new ∷ [])) (enumerate_from n devices)
    ≡ flat_map (device_items actors) (enumerate_from n devices)
unfolding device_items
others_same actors new [] n h = refl
others_same actors new (d ∷ devices) n h =
    let other : nat_eq new.device n ≡ false = ne_eqb new.device n (λ e. absurd (omega arith)) in
    let here : flat_map (actor_items n) (actors ++ new ∷ []) ≡ flat_map (actor_items n) actors =
    rw (flat_map-append, other) (append-nil (flat_map (actor_items n) actors)) in
    rw (here, others_same actors new devices (n + 1) (omega arith))

-- an actor of this device is one line more
device_push : (actors : List ActorText) (new : ActorText) (k : ℕ) (d : DeviceText) → new.device ≡ k
    → device_items (actors ++ new ∷ []) (k, d) ≡ device_items actors (k, d) ++ Actor new.role new.name ∷ []
unfolding device_items
device_push actors new k d e =
    let this : nat_eq new.device k ≡ true = eq-eqb new.device k e in
    let here : flat_map (actor_items k) (actors ++ new ∷ []) ≡ flat_map (actor_items k) actors
    ++ Actor new.role new.name ∷ [] =
    rw (flat_map-append, this) in
    rw (here, ← append_assoc)

-- an actor of the last device stands at the end, as no device before it has it
pub head_actor : (version : ℕ) (actors : List ActorText) (new : ActorText) (devices : List DeviceText)
    (d : DeviceText) → new.device ≡ length devices
    → head_items version (actors ++ new ∷ []) (devices ++ d ∷ [])
    ≡ head_items version actors (devices ++ d ∷ []) ++ Actor new.role new.name ∷ []
head_actor version actors new devices d e =
    let f = device_items actors in
    let g = device_items (actors ++ new ∷ []) in
    let at : new.device ≡ 0 + length devices = omega arith in
    rw (
      devices_push g devices d,
      others_same actors new devices 0 (omega arith),
      device_push actors new (0 + length devices) d at,
      ← append_assoc (flat_map f (enumerate_from 0 devices)) (f (0 + length devices, d))
          (Actor new.role new.name ∷ []),
      ← devices_push f devices d,
    )

-- actions stand last, so one line more is one item more at the end
pub all_action : (version : ℕ) (actors : List ActorText) (devices : List DeviceText)
    (lines : List Line) (l : Line)
    → all_items version actors devices (lines ++ l ∷ []) ≡ all_items version actors devices lines
    ++ action_item_of l ∷ []
all_action version actors devices lines l =
    rw map-append
    (sym (append_assoc (head_items version actors devices) (map action_item_of lines)
    (action_item_of l ∷ [])))
