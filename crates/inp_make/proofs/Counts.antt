-- How many events a frame has, and how many lines there are.
use Rattle.std.proofs.Common.{◌≡◌, ◌∙◌, ℕ, zero, suc, ◌+◌, ◌*◌, ◌/◌, ◌%◌, ◌<◌, ◌≤◌, refl, sym, ap, arith}
use Rattle.std.proofs.Common.{Bool, true, false, cond, nat_eq, List, [], ◌∷◌, ◌++◌, map, length}
use Rattle.std.proofs.Common.{length-append}
use Rattle.std.proofs.lemmas.List.{length-map}
use Rattle.std.specs.List.{range_with_len, flat_map}
use Rattle.std.proofs.lemmas.Bool.{ne_eqb}
use Rattle.std.proofs.lemmas.List.Sums.{sum_by-append}
use Rattle.inp_model.specs.declared.event.Event.{Event}
use Rattle.inp_actors.specs.declared.line.Line.{Line}
use Rattle.inp_actors.specs.declared.command.Command.TheVariants.{Follow}
use Rattle.inp_make.specs.declared.frame.TheConstants.{FINGER, FAST, MID, SLOW}
use Rattle.inp_make.specs.Generated.{line, finger_events, touches, frame_events}
use Rattle.inp_make.specs.Generated.{injected, follows, frame_lines, open_lines, lines}
use Rattle.inp_make.specs.Examples.{line_count}
use Rattle.inp_make.proofs.Ranges.{flat_map-more}

pub events_at_first : (number : ℕ) → length (frame_events number 0) ≡ 42
unfolding frame_events touches finger_events
events_at_first number = refl

pub events_later : (number frame : ℕ) → 0 < frame → length (frame_events number frame) ≡ 31
unfolding frame_events touches finger_events
events_later number frame later =
    let no : nat_eq frame 0 ≡ false = ne_eqb frame 0 (omega arith) in
    rw no refl

count-append : (a : ℕ) (xs ys : List Line) → line_count a (xs ++ ys) ≡ line_count a xs + line_count a ys
count-append a xs ys = sum_by-append (λ (l : Line). cond (nat_eq l.actor a) 1 0) xs ys

-- the source alone injects
injections : (frame : ℕ) (es : List Event) → line_count FINGER (map (injected frame) es) ≡ length es
injections frame [] = refl
injections frame (e ∷ es) =
    let first : line_count FINGER (injected frame e ∷ []) ≡ 1 = refl in
    omega (
      arith,
      count-append FINGER (injected frame e ∷ []) (map (injected frame) es),
      first,
      injections frame es,
    )

no_injections : (a frame : ℕ) (es : List Event) → nat_eq FINGER a ≡ false
    → line_count a (map (injected frame) es) ≡ 0
no_injections a frame [] other = refl
no_injections a frame (e ∷ es) other =
    let first : line_count a (injected frame e ∷ []) ≡ 0 = ap (λ b. 0 + cond b 1 0) other in
    omega (
      arith,
      count-append a (injected frame e ∷ []) (map (injected frame) es),
      first,
      no_injections a frame es other,
    )

abbrev tenth : ℕ → ℕ
tenth frame = cond (nat_eq (frame % 10) 9) 1 0

follow_counts : (frame : ℕ)
    → (line_count FINGER (follows frame) ≡ 0) × (line_count FAST (follows frame) ≡ 1)
    × (line_count MID (follows frame) ≡ tenth frame) × (line_count SLOW (follows frame) ≡ 0)
follow_counts frame = go (nat_eq (frame % 10) 9)
  where
    go : (b : Bool) → let some = line FAST Follow ∷ cond b (line MID Follow ∷ []) [] in
        (line_count FINGER some ≡ 0) × (line_count FAST some ≡ 1) × (line_count MID some ≡ cond b 1 0)
        × (line_count SLOW some ≡ 0)
    go true = (refl, refl, refl, refl)
    go false = (refl, refl, refl, refl)

-- what a frame has of an actor's lines
frame_count : (a number frame : ℕ)
    → line_count a (frame_lines number frame)
    ≡ line_count a (map (injected frame) (frame_events number frame)) + line_count a (follows frame)
unfolding frame_lines
frame_count a number frame = count-append a (map (injected frame) (frame_events number frame)) (follows frame)

frame_count-finger : (number frame : ℕ)
    → line_count FINGER (frame_lines number frame) ≡ length (frame_events number frame)
frame_count-finger number frame =
    let follow = follow_counts frame in
    omega (arith, frame_count FINGER number frame, injections frame (frame_events number frame), follow.0)

frame_count-client : (a number frame : ℕ) → nat_eq FINGER a ≡ false
    → line_count a (frame_lines number frame) ≡ line_count a (follows frame)
frame_count-client a number frame other =
    omega (arith, frame_count a number frame, no_injections a frame (frame_events number frame) other)

-- what the first n frames have of an actor's lines
abbrev frames_count : ℕ → ℕ → ℕ → ℕ
frames_count a number n = line_count a (flat_map (frame_lines number) (range_with_len 0 n))

more_frames : (a number n : ℕ)
    → frames_count a number (suc n) ≡ frames_count a number n + line_count a (frame_lines number n)
more_frames a number n =
    let one : suc n ≡ n + 1 = omega arith in
    ap (frames_count a number) one ∙ ap (line_count a) (sym (flat_map-more (frame_lines number) n))
    ∙ count-append a (flat_map (frame_lines number) (range_with_len 0 n)) (frame_lines number n)

frames_count-finger : (number n : ℕ) → frames_count FINGER number (suc n) ≡ 31 * n + 42
frames_count-finger number zero =
    omega (arith, more_frames FINGER number 0, frame_count-finger number 0, events_at_first number)
frames_count-finger number (suc n) =
    omega (
      arith,
      frames_count-finger number n,
      more_frames FINGER number (suc n),
      frame_count-finger number (suc n),
      events_later number (suc n) (omega arith),
    )

frames_count-fast : (number n : ℕ) → frames_count FAST number n ≡ n
frames_count-fast number zero = refl
frames_count-fast number (suc n) =
    omega (
      arith,
      frames_count-fast number n,
      more_frames FAST number n,
      frame_count-client FAST number n refl,
      (follow_counts n).1,
    )

frames_count-slow : (number n : ℕ) → frames_count SLOW number n ≡ 0
frames_count-slow number zero = refl
frames_count-slow number (suc n) =
    omega (
      arith,
      frames_count-slow number n,
      more_frames SLOW number n,
      frame_count-client SLOW number n refl,
      (follow_counts n).3,
    )

next_tenth : (n : ℕ) → suc n / 10 ≡ n / 10 + tenth n
next_tenth n = grind arith

frames_count-mid : (number n : ℕ) → frames_count MID number n ≡ n / 10
frames_count-mid number zero = refl
frames_count-mid number (suc n) =
    omega (
      arith,
      frames_count-mid number n,
      more_frames MID number n,
      frame_count-client MID number n refl,
      (follow_counts n).2,
      next_tenth n,
    )

-- with the lines before and behind the frames
all_count : (a number count : ℕ)
    → line_count a (lines number count) ≡ line_count a open_lines + frames_count a number count + line_count a
    (line SLOW Follow ∷ [])
unfolding lines
all_count a number count =
    count-append a (open_lines ++ flat_map (frame_lines number) (range_with_len 0 count))
    (line SLOW Follow ∷ [])
    ∙ ap (λ n. n + line_count a (line SLOW Follow ∷ []))
    (count-append a open_lines (flat_map (frame_lines number) (range_with_len 0 count)))

pub count-finger : (number count : ℕ) → 1 ≤ count → line_count FINGER (lines number count) ≡ 31 * count + 11
count-finger number zero some = absurd (omega arith)
count-finger number (suc n) some =
    omega (arith, all_count FINGER number (suc n), frames_count-finger number n)

pub count-fast : (number count : ℕ) → line_count FAST (lines number count) ≡ count + 1
count-fast number count = omega (arith, all_count FAST number count, frames_count-fast number count)

pub count-mid : (number count : ℕ) → line_count MID (lines number count) ≡ count / 10 + 1
count-mid number count = omega (arith, all_count MID number count, frames_count-mid number count)

pub count-slow : (number count : ℕ) → line_count SLOW (lines number count) ≡ 2
count-slow number count = omega (arith, all_count SLOW number count, frames_count-slow number count)

-- a frame has at most 44 lines
length-follows : (frame : ℕ) → length (follows frame) ≤ 2
length-follows frame = go (nat_eq (frame % 10) 9)
  where
    go : (b : Bool) → length (line FAST Follow ∷ cond b (line MID Follow ∷ []) []) ≤ 2
    go true = omega arith
    go false = omega arith

length-events : (number frame : ℕ) → length (frame_events number frame) ≤ 42
length-events number zero = omega (arith, events_at_first number)
length-events number (suc frame) = omega (arith, events_later number (suc frame) (omega arith))

length-frame : (number frame : ℕ) → length (frame_lines number frame) ≤ 44
unfolding frame_lines
length-frame number frame =
    omega (
      arith,
      length-append (map (injected frame) (frame_events number frame)) (follows frame),
      length-map (frame_events number frame) (injected frame),
      length-events number frame,
      length-follows frame,
    )

abbrev frames : ℕ → ℕ → List Line
frames number n = flat_map (frame_lines number) (range_with_len 0 n)

length-frames : (number n : ℕ) → length (frames number n) ≤ 44 * n
length-frames number zero = omega arith
length-frames number (suc n) =
    let one : suc n ≡ n + 1 = omega arith in
    let more : length (frames number (suc n)) ≡ length (frames number n) + length (frame_lines number n) =
    ap (λ k. length (frames number k)) one ∙ ap length (sym (flat_map-more (frame_lines number) n))
    ∙ length-append (frames number n) (frame_lines number n) in
    omega (arith, length-frames number n, more, length-frame number n)

pub length-lines : (number count : ℕ) → length (lines number count) ≤ 44 * count + 4
unfolding lines
length-lines number count =
    omega (
      arith,
      length-append (open_lines ++ frames number count) (line SLOW Follow ∷ []),
      length-append open_lines (frames number count),
      length-frames number count,
    )
