-- What the calls of a builder answer and leave, and a line behind what was before it.
use Rattle.std.proofs.Common.{◌≡◌, ℕ, [], ◌∷◌, refl, ◌∙◌, unwrap_or, arith, Bool, true, false, ◌&&◌}
use Rattle.std.proofs.Common.{if◌then◌else◌, Ok, Err, Some, None, List, Result, length, ◌≤◌}
use Rattle.std.proofs.lemmas.Bool.Decides.{nat_tests}
use Rattle.inp_model.specs.Description.{Description}
use Rattle.inp_record.specs.declared.item.Item.TheVariants.{Device, Realtime, Boottime, Code}
use Rattle.inp_caps.specs.Builder.{with_kind, with_code}
use Rattle.inp_record.specs.ItemsBefore.{ItemsBefore, context_of}
use Rattle.inp_caps.specs.declared.caps_refused.CapsRefused.{CapsRefused}
use Rattle.inp_caps.specs.declared.caps_refused.CapsRefused.TheVariants.{BadCode, BadAxis, BadOffset}
use Rattle.inp_record.specs.declared.cause.Cause.TheVariants.{Caps}
use Rattle.inp_record.specs.declared.context.Context.{Context}
use Rattle.inp_record.specs.declared.item.Item.{Item}
use Rattle.inp_record.specs.declared.place.Place.TheVariants.{Describing}
use Rattle.inp_record.specs.Meaning.{unless_refused, is_later_command, is_twice, is_too_many}
use Rattle.std.specs.Result.{result_map_both}
use Rattle.inp_record.specs.Meaning.{has_too_many_slots, builder_refusal, checked, item_of_words}
use Rattle.inp_record.specs.Meaning.{behind_words, IsLineEntered, IsBehind}
use Rattle.inp_record.specs.declared.cause.Cause.{Cause}
use Rattle.inp_record.specs.declared.line_fault.LineFault.{LineFault}
use Rattle.inp_record.specs.declared.line_fault.LineFault.TheVariants as line

-- a code more leaves the offsets, the slots and the filters
pub code_leaves : (d : Description) (kind code : ℕ)
    → ((with_code d kind code).realtime ≡ d.realtime) × ((with_code d kind code).boottime ≡ d.boottime)
    × ((with_code d kind code).slots ≡ d.slots) × ((with_code d kind code).filters ≡ d.filters)
code_leaves d kind code =
    (grind (arith, nat_tests), grind (arith, nat_tests), grind (arith, nat_tests), grind (arith, nat_tests))

-- the offsets of the latest description are those that its device gave
offsets_are : (past : ItemsBefore)
    → ((context_of past).builder.realtime ≡ unwrap_or (context_of past).given.realtime 0)
    × ((context_of past).builder.boottime ≡ unwrap_or (context_of past).given.boottime 0)
offsets_are [] = (refl, refl)
offsets_are (Device requested name ∷ past) = (refl, refl)
offsets_are (Realtime offset ∷ past) = (refl, (offsets_are past).1)
offsets_are (Boottime offset ∷ past) = ((offsets_are past).0, refl)
offsets_are (Code kind code ∷ past) =
    let left = code_leaves (with_kind (context_of past).builder kind) kind code in
    (left.0 ∙ (offsets_are past).0, left.1 ∙ (offsets_are past).1)
offsets_are (i ∷ past) = offsets_are past

-- the builder refuses an axis for the same cause as the line's meaning does
pub axis_refused : (over bad : Bool) (item : Item) (why : CapsRefused)
    → (if over then Err BadCode else if bad then Err BadAxis else Ok (tt {0})) ≡ Err why
    → unless_refused (if over then Some BadCode else if bad then Some BadAxis else None) item ≡ Err (Caps why)
axis_refused true bad item why e = cc
axis_refused false true item why e = cc
axis_refused false false item why e = absurd (cc)

-- of two offsets the other one is within the limit

-- a second test that is met leaves the answer to the first
pub and_first : (a b : Bool) → b ≡ true → (a && b) ≡ a
and_first true b h = h
and_first false b h = refl

-- the other offset is within the limit, so the one of the line is not
pub offset_refused : (both within : Bool) (item : Item) (why : CapsRefused) → both ≡ within
    → (if both then Ok (tt {0}) else Err BadOffset) ≡ Err why
    → unless_refused (if within then None else Some BadOffset) item ≡ Err (Caps why)
offset_refused true true item why same e = absurd (cc)
offset_refused false false item why same e = cc
offset_refused both within item why same e = absurd (cc same)

-- where both offsets are within the limit, the one of the line is
pub offset_taken : (both within : Bool) (done : Unit {0}) → both ≡ within
    → (if both then Ok (tt {0}) else Err BadOffset) ≡ Ok done
    → (if within then None else Some BadOffset) ≡ None
offset_taken true true done same e = refl
offset_taken false within done same e = absurd (cc)
offset_taken both false done same e = absurd (cc same)

-- the builder has the new offset and the one that was given before, as the line leaves it
pub realtime_entered : (c : Context) (past : ItemsBefore) (builder : Description) (offset : ℕ)
    → c ≡ context_of past
    → builder ≡ record c.builder { realtime = offset; boottime = unwrap_or c.given.boottime 0 }
    → record c { place = Describing; builder = builder; given = record c.given { realtime = Some offset } }
    ≡ context_of (Realtime offset ∷ past)
realtime_entered c past builder offset e h = rw (h, e, ← (offsets_are past).1) refl

-- the builder has the new offset and the one that was given before, as the line leaves it
pub boottime_entered : (c : Context) (past : ItemsBefore) (builder : Description) (offset : ℕ)
    → c ≡ context_of past
    → builder ≡ record c.builder { realtime = unwrap_or c.given.realtime 0; boottime = offset }
    → record c { place = Describing; builder = builder; given = record c.given { boottime = Some offset } }
    ≡ context_of (Boottime offset ∷ past)
boottime_entered c past builder offset e h = rw (h, e, ← (offsets_are past).0) refl

-- a line whose command its version has, that is said once, is not one too many and gives no more slots than
-- there may be
pub checked_once : (c : Context) (means : Result Item Cause) (item : Item) → means ≡ Ok item
    → is_later_command c item ≡ false → is_twice c item ≡ false → is_too_many c item ≡ false
    → has_too_many_slots c item ≡ false
    → checked c means ≡ unless_refused (builder_refusal c.builder item) item
checked_once c means item e l t m w = rw (e, l, t, m, w) refl

entered : (past : ItemsBefore) (item : Item) (means : Result Item Cause)
    (result : Result (Unit {0}) LineFault)
    (now : Context) → means ≡ unless_refused (builder_refusal (context_of past).builder item) item
    → IsLineEntered result past item now
    → IsBehind result (result_map_both (λ j. j ∷ past) (λ why. why) means) now
entered past item means (Ok done) now e h = (item ∷ past, rw (e, h.0) refl, h.1)
entered past item means (Err (line.Refused cause)) now e h = rw (e, h) refl
entered past item means (Err line.NoMemory) now e h = tt

-- all other tests let the line pass, so it is entered where the builder does not refuse it
pub entered_behind : (past : ItemsBefore) (c : Context) (ws : List (List ℕ)) (item : Item)
    (result : Result (Unit {0}) LineFault) (now : Context)
    → c ≡ context_of past → 1 ≤ length ws → item_of_words c ws ≡ Ok item → is_later_command c item ≡ false
    → is_twice c item ≡ false → is_too_many c item ≡ false → has_too_many_slots c item ≡ false
    → IsLineEntered result past item now
    → IsBehind result (behind_words past ws) now
entered_behind past c [] item result now e some i l t m wide h = absurd (omega arith)
entered_behind past c (w ∷ ws) item result now e some i l t m wide h =
    let once : (x : Context) → c ≡ x
    → checked x (item_of_words x (w ∷ ws)) ≡ unless_refused (builder_refusal x.builder item) item =
    λ x p. rw p at (checked_once c (item_of_words c (w ∷ ws)) item i l t m wide) in
    entered past item (checked (context_of past) (item_of_words (context_of past) (w ∷ ws))) result now
    (once (context_of past) e) h
