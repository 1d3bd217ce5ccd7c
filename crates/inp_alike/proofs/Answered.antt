-- Alike pasts answer a step alike, but for places and times.
use Rattle.std.proofs.Common.{◌≡◌, ℕ, suc, ◌+◌, ◌*◌, Bool, true, false, List, [], ◌∷◌, length, refl, sym, ap}
use Rattle.std.proofs.Common.{◌∙◌, if◌then◌else◌, nat_eq, take}
use Rattle.std.specs.Prelude.{ℤ, pos, map, min, Option, Some, None}
use Rattle.std.specs.List.{range_with_len}
use Rattle.std.proofs.lemmas.List.{take-map}
use Rattle.inp_model.specs.declared.event.TheConstants.{EV_KEY, EV_SW, EV_LED, EV_SND}
use Rattle.inp_model.specs.declared.multi_touch.TheConstants.{ABS_MT_TOUCH_MAJOR, SLOT_VALUES}
use Rattle.inp_model.specs.declared.step.Step.{Step}
use Rattle.inp_model.specs.declared.step.Step.TheVariants.{Open, Read, Discard, GetKeys, GetSwitches, GetLeds}
use Rattle.inp_model.specs.declared.step.Step.TheVariants.{GetSounds, GetAxis, GetSlots, SyncSlots, Grab}
use Rattle.inp_model.specs.declared.step.Step.TheVariants.{Ungrab}
use Rattle.inp_model.specs.declared.reply.Reply.{Reply}
use Rattle.inp_model.specs.declared.reply.Reply.TheVariants.{Done, Opened, Took, Discarded, Bits, Axis, Cells}
use Rattle.inp_model.specs.declared.reply.Reply.TheVariants.{Again, Refused}
use Rattle.inp_model.specs.Description.{Description}
use Rattle.inp_model.specs.RawItem.{RawItem}
use Rattle.inp_model.specs.State.{cell}
use Rattle.inp_model.specs.Step.{client_of}
use Rattle.inp_model.specs.Past.{opens, is_open, open_clients, is_revoked, holder}
use Rattle.inp_model.specs.Raw.{raw}
use Rattle.inp_model.specs.Left.{eaten}
use Rattle.inp_model.specs.Queue.{Entry, event_of, visible, queue, taken_by_with}
use Rattle.inp_model.specs.Reply.{Answer, Case, refusals, refused_with, first_reply, is_bad_client}
use Rattle.inp_model.specs.Reply.{is_no_device, finds_nothing, is_busy, is_not_grabber, is_one_too_many}
use Rattle.inp_model.specs.Reply.{is_full, code_on, bitmap_word, bitmap_of, number_of_bits, column, row, rows}
use Rattle.inp_model.specs.Reply.{axis_answer, bits_answer, cells_answer, took_answer, taken_of}
use Rattle.inp_model.specs.Reply.{accepted_with, answer_by, answer, is_accepted}
use Rattle.inp_alike.specs.Alike.{AreItemsAlike, AreAlike, AreAnswersAlike, without_place, event_taken}
use Rattle.inp_alike.proofs.Pointwise.{map_same, flat_map_same, filter_same}
use Rattle.inp_alike.proofs.Queues.{visible_alike}

-- refusals

bad_client : (past other : List Step) → ((client : ℕ) → is_open past client ≡ is_open other client)
    → (o : Option ℕ) → is_bad_client past o ≡ is_bad_client other o
bad_client past other h None = refl
bad_client past other h (Some client) = rw (h client)

no_device : (past other : List Step) (x : Step) → ((client : ℕ)
    → is_revoked past client ≡ is_revoked other client) → (o : Option ℕ)
    → is_no_device past x o ≡ is_no_device other x o
no_device past other x h None = refl
no_device past other x h (Some client) = cc (h client)

nothing : (d : Description) (past other : List Step) (x : Step) → AreAlike d past other
    → finds_nothing (eaten d) d past x ≡ finds_nothing (eaten d) d other x
nothing d past other (Read client count) h =
    rw (visible_alike (queue d past client) (queue d other client) (h.queues client))
nothing d past other x h = refl

busy : (past other : List Step) (x : Step) → holder past ≡ holder other → is_busy past x ≡ is_busy other x
busy past other (Grab client) h = cc h
busy past other x h = refl

not_grabber : (past other : List Step) (x : Step) → holder past ≡ holder other
    → is_not_grabber past x ≡ is_not_grabber other x
not_grabber past other (Ungrab client) h = cc h
not_grabber past other x h = refl

opened : (d : Description) (past other : List Step) → AreAlike d past other
    → open_clients past ≡ open_clients other
opened d past other h =
    rw (filter_same (is_open past) (is_open other) (range_with_len 0 (opens past)) h.are_open, h.opened)

too_many : (d : Description) (past other : List Step) (x : Step) → AreAlike d past other
    → is_one_too_many past x ≡ is_one_too_many other x
too_many d past other Open h = rw (opened d past other h)
too_many d past other x h = refl

-- both refuse, with the same reply but for its place, or neither does
abbrev AreRefusedAlike : Option Reply → Option Reply → Type 0
AreRefusedAlike None None = Unit {0}
AreRefusedAlike None (Some b) = ⊥
AreRefusedAlike (Some a) None = ⊥
AreRefusedAlike (Some a) (Some b) = without_place a ≡ without_place b

-- as many causes, each holding alike, with the same reply but for its place
abbrev AreCasesAlike : List Case → List Case → Type 0
AreCasesAlike [] [] = Unit {0}
AreCasesAlike [] (b ∷ bs) = ⊥
AreCasesAlike (a ∷ more) [] = ⊥
AreCasesAlike (a ∷ more) (b ∷ bs) =
    (a.holds ≡ b.holds) × ((without_place a.reply ≡ without_place b.reply) × AreCasesAlike more bs)

first : (b also : Bool) (one two : Reply) (rest more : Option Reply) → b ≡ also
    → without_place one ≡ without_place two → AreRefusedAlike rest more
    → AreRefusedAlike (if b then Some one else rest) (if also then Some two else more)
first true true one two rest more e same h = same
first false false one two rest more e same h = h
first true false one two rest more e same h = absurd (cc e)
first false true one two rest more e same h = absurd (cc e)

first_alike : (xs ys : List Case) → AreCasesAlike xs ys → AreRefusedAlike (first_reply xs) (first_reply ys)
first_alike [] [] h = tt
first_alike [] (b ∷ bs) h = absurd h
first_alike (a ∷ more) [] h = absurd h
first_alike (a ∷ more) (b ∷ bs) h =
    first a.holds b.holds a.reply b.reply (first_reply more) (first_reply bs) h.0 h.1.0
    (first_alike more bs h.1.1)

refused_alike : (d : Description) (past other : List Step) (x : Step) → AreAlike d past other
    → is_full d past ≡ is_full d other
    → AreRefusedAlike (refused_with (eaten d) d past x) (refused_with (eaten d) d other x)
refused_alike d past other x h full =
    first_alike (refusals (eaten d) d past x) (refusals (eaten d) d other x) (
      bad_client past other h.are_open (client_of x),
      (
        refl,
        (
          no_device past other x h.are_revoked (client_of x),
          (
            refl,
            (
              refl,
              (
                refl,
                (
                  refl,
                  (
                    refl,
                    (
                      refl,
                      (
                        refl,
                        (
                          nothing d past other x h,
                          (
                            ap (Again 0) h.ended,
                            (
                              busy past other x h.holders,
                              (
                                refl,
                                (
                                  not_grabber past other x h.holders,
                                  (
                                    refl,
                                    (
                                      too_many d past other x h,
                                      (
                                        refl,
                                        (full, (refl, tt)),
                                      ),
                                    ),
                                  ),
                                ),
                              ),
                            ),
                          ),
                        ),
                      ),
                    ),
                  ),
                ),
              ),
            ),
          ),
        ),
      ),
    )

-- answers to steps that nothing refuses

on_alike : (d : Description) (r s : List RawItem) → AreItemsAlike d r s → (kind code : ℕ)
    → code_on d r kind code ≡ code_on d s kind code
on_alike d r s h kind code = cc (h.keys code, h.codes kind code)

bits_alike : (f g : ℕ → Bool) → ((k : ℕ) → f k ≡ g k) → bitmap_of f ≡ bitmap_of g
bits_alike f g h =
    map_same (λ w. bitmap_word f (64 * w)) (λ w. bitmap_word g (64 * w)) (range_with_len 0 12)
    (λ w. ap number_of_bits
    (map_same (λ k. f (64 * w + k)) (λ k. g (64 * w + k)) (range_with_len 0 64) (λ k. h (64 * w + k))))

bits_answered : (d : Description) (past other : List Step) (kind : ℕ) → AreAlike d past other
    → AreAnswersAlike (bits_answer d past kind) (bits_answer d other kind)
bits_answered d past other kind h = record {
  reply =
      ap (Bits 0)
      (bits_alike (code_on d (raw d past) kind) (code_on d (raw d other) kind)
      (on_alike d (raw d past) (raw d other) h.items kind));
  events = refl;
  cells = refl;
}

axis_alike : (d : Description) (r s : List RawItem) (code : ℕ) → AreItemsAlike d r s
    → axis_answer d r code ≡ axis_answer d s code
axis_alike d r s code h = cc (h.infos code, h.values code, h.told_slot)

cells_answered : (d : Description) (past other : List Step) (count : ℕ) (cells also : List ℤ)
    → AreAlike d past other → cells ≡ also
    → AreAnswersAlike (cells_answer d past count cells) (cells_answer d other count also)
cells_answered d past other count cells also h same = record
    { reply = ap (Cells 0 count) h.items.frame_slot; events = refl; cells = same }

column_alike : (d : Description) (r s : List RawItem) (code : ℕ) → AreItemsAlike d r s
    → column d r code ≡ column d s code
column_alike d r s code h =
    map_same (λ slot. cell d r (pos slot) code) (λ slot. cell d s (pos slot) code)
    (range_with_len 0 d.slots) (λ slot. h.cells (pos slot) code)

row_alike : (d : Description) (r s : List RawItem) → AreItemsAlike d r s → (slot : ℕ)
    → row d r slot ≡ row d s slot
row_alike d r s h slot =
    map_same (λ code. cell d r (pos slot) code) (λ code. cell d s (pos slot) code)
    (range_with_len ABS_MT_TOUCH_MAJOR SLOT_VALUES) (λ code. h.cells (pos slot) code)

rows_alike : (d : Description) (r s : List RawItem) → AreItemsAlike d r s → rows d r ≡ rows d s
rows_alike d r s h = flat_map_same (row d r) (row d s) (range_with_len 0 d.slots) (row_alike d r s h)

taken_events : (q : List Entry) → map event_taken (map taken_of q) ≡ map event_of q
taken_events [] = refl
taken_events (e ∷ q) = rw (taken_events q)

taken_length : (q : List Entry) → length q ≡ length (map event_of q)
taken_length [] = refl
taken_length (e ∷ q) = ap suc (taken_length q)

took_alike : (past other : List Step) (q p : List Entry) → map event_of q ≡ map event_of p
    → AreAnswersAlike (took_answer past q) (took_answer other p)
took_alike past other q p same = record {
  reply = ap (Took 0) (rw (taken_length q, same) (sym (taken_length p)));
  events = taken_events q ∙ same ∙ sym (taken_events p);
  cells = refl;
}

if_taken : (b : Bool) (q p : List Entry)
    → map event_of (if b then q else p) ≡ (if b then map event_of q else map event_of p)
if_taken true q p = refl
if_taken false q p = refl

read_events : (d : Description) (past other : List Step) (client count : ℕ) → AreAlike d past other
    → map event_of (taken_by_with (eaten d) d past client (Read client count)) ≡ map event_of
    (taken_by_with (eaten d) d other client (Read client count))
read_events d past other client count h =
    let q = queue d past client in
    let p = queue d other client in
    let n = min count (visible event_of q) in
    let m = min count (visible event_of p) in
    let same : map event_of (take n q) ≡ map event_of (take m p)
    = sym (take-map event_of n q)
    ∙ ap (take n) (h.queues client)
    ∙ ap (λ (k : ℕ). take (min count k) (map event_of p)) (visible_alike q p (h.queues client))
    ∙ take-map event_of m p in
    rw (if_taken (nat_eq client client) (take n q) [], same)
    (sym (if_taken (nat_eq client client) (take m p) []))

pub accepted_alike : (d : Description) (past other : List Step) (x : Step) → AreAlike d past other
    → AreAnswersAlike (accepted_with (eaten d) d past x) (accepted_with (eaten d) d other x)
accepted_alike d past other Open h = record
    { reply = rw h.opened; events = refl; cells = refl }
accepted_alike d past other (Read client count) h =
    took_alike past other _ _ (read_events d past other client count h)
accepted_alike d past other (Discard client) h = record {
  reply = ap (Discarded 0)
      (visible_alike (queue d past client) (queue d other client) (h.queues client));
  events = refl;
  cells = refl;
}
accepted_alike d past other (GetKeys client) h = bits_answered d past other EV_KEY h
accepted_alike d past other (GetSwitches client) h = bits_answered d past other EV_SW h
accepted_alike d past other (GetLeds client) h = bits_answered d past other EV_LED h
accepted_alike d past other (GetSounds client) h = bits_answered d past other EV_SND h
accepted_alike d past other (GetAxis client code) h = record {
  reply = ap (Axis 0) (axis_alike d (raw d past) (raw d other) code h.items);
  events = refl;
  cells = refl;
}
accepted_alike d past other (GetSlots client code) h =
    cells_answered d past other d.slots _ _ h (column_alike d (raw d past) (raw d other) code h.items)
accepted_alike d past other (SyncSlots client) h =
    cells_answered d past other (SLOT_VALUES * d.slots) _ _ h
    (rows_alike d (raw d past) (raw d other) h.items)
accepted_alike d past other x h = record { reply = refl; events = refl; cells = refl }

answered : (one other : Answer) (o p : Option Reply) → AreRefusedAlike o p → AreAnswersAlike one other
    → AreAnswersAlike (answer_by o one) (answer_by p other)
answered one other None None e h = h
answered one other None (Some b) e h = absurd e
answered one other (Some a) None e h = absurd e
answered one other (Some a) (Some b) e h = record { reply = e; events = refl; cells = refl }

pub answer_alike : (d : Description) (past other : List Step) (x : Step) → AreAlike d past other
    → is_full d past ≡ is_full d other → AreAnswersAlike (answer d past x) (answer d other x)
answer_alike d past other x h full =
    answered (accepted_with (eaten d) d past x) (accepted_with (eaten d) d other x)
    (refused_with (eaten d) d past x) (refused_with (eaten d) d other x)
    (refused_alike d past other x h full) (accepted_alike d past other x h)

accepted-placeless : (reply : Reply) → is_accepted reply ≡ is_accepted (without_place reply)
accepted-placeless (Done at) = refl
accepted-placeless (Opened at client places) = refl
accepted-placeless (Took at count) = refl
accepted-placeless (Discarded at count) = refl
accepted-placeless (Bits at words) = refl
accepted-placeless (Axis at axis) = refl
accepted-placeless (Cells at count slot) = refl
accepted-placeless (Again at n) = refl
accepted-placeless (Refused at why) = refl

pub entered_alike : (one other : Reply) → without_place one ≡ without_place other
    → is_accepted one ≡ is_accepted other
entered_alike one other same = accepted-placeless one ∙ ap is_accepted same ∙ sym (accepted-placeless other)
