-- The generated record keeps what every record keeps.
use Rattle.std.proofs.Common.{◌≡◌, ℕ, zero, suc, ◌+◌, ◌%◌, ◌<◌, ◌≤◌, refl, ap₂, subst, arith, Bool, true}
use Rattle.std.proofs.Common.{false, cond, nat_eq, List, [], ◌∷◌, ◌++◌, map, Some, None}
use Rattle.std.specs.Prelude.{slice_get}
use Rattle.std.specs.List.{range_with_len, flat_map, AllByRecursion}
use Rattle.std.proofs.lemmas.Bool.Decides.{nat_tests}
use Rattle.inp_model.specs.declared.event.Event.{Event}
use Rattle.inp_actors.specs.declared.actor_text.ActorText.{ActorText}
use Rattle.inp_actors.specs.declared.line.Line.{Line}
use Rattle.inp_actors.specs.declared.role.Role.{Role}
use Rattle.inp_actors.specs.declared.role.Role.TheVariants.{Owner}
use Rattle.inp_actors.specs.declared.command.Command.{Command}
use Rattle.inp_actors.specs.declared.command.Command.TheVariants.{Open, Follow}
use Rattle.inp_actors.specs.Command.{is_source, is_client, is_owner, is_reading, is_command_of, is_in_range}
use Rattle.inp_actors.specs.Command.{stream_of}
use Rattle.inp_actors.specs.Record.{streams_of, IsRecord}
use Rattle.inp_make.specs.declared.frame.TheConstants.{FAST, MID, SLOW}
use Rattle.inp_make.specs.Generated.{actors, line, frame_events, injected, follows}
use Rattle.inp_make.specs.Generated.{frame_lines, open_lines, lines, generated}
use Rattle.inp_make.proofs.Counts.{length-lines}

-- what a record keeps of a line alone, where the actors are the source and three clients
pub record IsKept (line : Line) : Type 0 where
  pub actor : line.actor < 4
  pub command : (actor : ActorText) → slice_get actors line.actor ≡ Some actor
      → is_command_of actor.role line.command ≡ true
  pub range : (role : Role) → is_in_range role line.command ≡ true
  pub stream : stream_of line.command ≡ []

all-append : (xs ys : List Line) → AllByRecursion IsKept xs → AllByRecursion IsKept ys
    → AllByRecursion IsKept (xs ++ ys)
all-append [] ys h k = k
all-append (x ∷ xs) ys h k = (h.0, all-append xs ys h.1 k)

all-map : {X : Type 0} (g : X → Line) → ((x : X) → IsKept (g x)) → (xs : List X)
    → AllByRecursion IsKept (map g xs)
all-map g each [] = tt
all-map g each (x ∷ xs) = (each x, all-map g each xs)

all-range : (f : ℕ → List Line) (end a n : ℕ) → a + n ≤ end
    → ((k : ℕ) → k < end → AllByRecursion IsKept (f k))
    → AllByRecursion IsKept (flat_map f (range_with_len a n))
all-range f end a zero within each = tt
all-range f end a (suc n) within each =
    all-append (f a) _ (each a (omega arith)) (all-range f end (a + 1) n (omega arith) each)

at : {X : Type 0} (P : X → Type 0) (xs : List X) → AllByRecursion P xs → (i : ℕ) (x : X)
    → slice_get xs i ≡ Some x → P x
at P [] h i x e = cc
at P (y ∷ ys) h zero x e =
    let same : y ≡ x = cc in
    subst P same h.0
at P (y ∷ ys) h (suc i) x e = at P ys h.1 i x e

no_streams : (xs : List Line) → AllByRecursion IsKept xs → streams_of xs ≡ []
no_streams [] h = refl
no_streams (x ∷ xs) h = ap₂ (λ ks js. ks ++ js) (h.0).stream (no_streams xs h.1)

abbrev role_keeps : (actor : ActorText) → (Role → Bool) → Type 0
role_keeps actor test = test actor.role ≡ true

of_actor : (there actor : ActorText) (test : Role → Bool) → Some there ≡ Some actor → role_keeps there test
    → role_keeps actor test
of_actor there actor test e h =
    let same : there ≡ actor = cc in
    subst (λ (a : ActorText). role_keeps a test) same h

injected_kept : (frame : ℕ) (e : Event) → frame < 10000 → IsKept (injected frame e)
injected_kept frame e within = record {
  actor = omega arith;
  command = λ actor is. of_actor _ actor is_source is refl;
  range = λ role. grind (arith, nat_tests);
  stream = refl;
}

-- a line of a client
client_kept : (number : ℕ) (does : Command) → number < 4
    → ((actor : ActorText) → slice_get actors number ≡ Some actor → is_command_of actor.role does ≡ true)
    → ((role : Role) → is_in_range role does ≡ true)
    → stream_of does ≡ [] → IsKept (line number does)
client_kept number does few is range stream =
    record { actor = few; command = is; range = range; stream = stream }

opens_kept : AllByRecursion IsKept open_lines
opens_kept = (
  client_kept FAST Open (omega arith) (λ actor is. of_actor _ actor is_reading is refl) (λ role. refl) refl,
  (
    client_kept MID Open (omega arith) (λ actor is. of_actor _ actor is_reading is refl) (λ role. refl) refl,
    (
      client_kept SLOW Open (omega arith) (λ actor is. of_actor _ actor is_reading is refl)
          (λ role. refl) refl,
      tt,
    ),
  ),
)

fast_kept : IsKept (line FAST Follow)
fast_kept =
    client_kept FAST Follow (omega arith) (λ actor is. of_actor _ actor is_client is refl) (λ role. refl) refl

mid_kept : IsKept (line MID Follow)
mid_kept =
    client_kept MID Follow (omega arith) (λ actor is. of_actor _ actor is_client is refl) (λ role. refl) refl

slow_kept : IsKept (line SLOW Follow)
slow_kept =
    client_kept SLOW Follow (omega arith) (λ actor is. of_actor _ actor is_client is refl) (λ role. refl) refl

follows_kept : (frame : ℕ) → AllByRecursion IsKept (follows frame)
follows_kept frame = (fast_kept, tenth (nat_eq (frame % 10) 9))
  where
    tenth : (b : Bool) → AllByRecursion IsKept (cond b (line MID Follow ∷ []) [])
    tenth true = (mid_kept, tt)
    tenth false = tt

frame_kept : (number frame : ℕ) → frame < 10000 → AllByRecursion IsKept (frame_lines number frame)
unfolding frame_lines
frame_kept number frame within =
    all-append (map (injected frame) (frame_events number frame)) (follows frame)
    (all-map (injected frame) (λ e. injected_kept frame e within) (frame_events number frame))
    (follows_kept frame)

lines_kept : (number count : ℕ) → count ≤ 10000 → AllByRecursion IsKept (lines number count)
unfolding lines
lines_kept number count few =
    all-append (open_lines ++ flat_map (frame_lines number) (range_with_len 0 count)) (line SLOW Follow ∷ [])
    (all-append open_lines (flat_map (frame_lines number) (range_with_len 0 count)) opens_kept
    (all-range (frame_lines number) 10000 0 count (omega arith) (λ k within. frame_kept number k within)))
    (slow_kept, tt)

-- the actors are of the one device
abbrev IsOfPad : ActorText → Type 0
IsOfPad actor = actor.device < 1

actors_kept : AllByRecursion IsOfPad actors
actors_kept = (omega arith, (omega arith, (omega arith, (omega arith, tt))))

-- none of them owns it
abbrev IsNoOwner : ActorText → Type 0
IsNoOwner actor = is_owner actor.role ≡ false

no_owners : AllByRecursion IsNoOwner actors
no_owners = (refl, (refl, (refl, (refl, tt))))

owns : (i : ℕ) (actor : ActorText) → slice_get actors i ≡ Some actor → actor.role ≡ Owner → ⊥
owns i actor is owner = let none : is_owner actor.role ≡ false =
    at IsNoOwner actors no_owners i actor is in cc (none, owner)

none_is_some : {X : Type 0} (x : X) → None ≡ Some x → ⊥
none_is_some x e = cc

pub IsRecord-generated : (number count : ℕ) → count ≤ 10000 → IsRecord (generated number count)
IsRecord-generated number count few =
    let kept = lines_kept number count few in
    record {
      version = (omega arith, omega arith);
      devices = at IsOfPad actors actors_kept;
      actors = λ i line is. (at IsKept (lines number count) kept i line is).actor;
      owners = λ i actor device is owner at. absurd (owns i actor is owner);
      one_owner = λ i k a b is by owner other same. absurd (owns i a is owner);
      commands = λ i line actor is by. (at IsKept (lines number count) kept i line is).command actor by;
      ranges = λ i line actor is by. (at IsKept (lines number count) kept i line is).range actor.role;
      numbered = no_streams (lines number count) kept;
      in_time = λ i stamps is. absurd (none_is_some stamps is);
      few_devices = omega arith;
      few_actors = omega arith;
      few_lines = omega (arith, length-lines number count);
      few_streams = omega arith;
    }
