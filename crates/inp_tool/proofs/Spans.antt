-- What was read stays read while the input goes on.
use Rattle.std.proofs.Common.{◌≡◌, ℕ, suc, List, [], ◌∷◌, ◌++◌, length, Option, Some, refl, sym, ap, subst}
use Rattle.std.proofs.Common.{◌∙◌}
use Rattle.std.specs.Prelude.{is_some, IsTrue}
use Rattle.inp_edge.specs.File.{File}
use Rattle.inp_tool.specs.Edge.{InputView, Reads}
use Rattle.inp_model.specs.declared.stamped.Stamped.{Stamped}
use Rattle.inp_tool.specs.Streams.{StreamFile, events_in}
use Rattle.inp_tool.specs.RecordFile.{IsRead, IsLast, IsReadLast, IsUnread, IsTooLong, RanOut, AreLoaded}
use Rattle.inp_tool.specs.RecordFile.{last_contents}
use Rattle.inp_tool.specs.LoadedStreams.{IsLastOf}

-- an input over some calls
abbrev pub span : Option (List File) → InputView → InputView → Reads
span files before after = record { files = files; before = before; after = after }

-- both states tell the same of the bytes that are left: that they are told, or that they are not
abbrev pub AreToldAlike : InputView → InputView → Type 0
AreToldAlike middle after = is_some after.left ≡ is_some middle.left

module _ (files : Option (List File)) (before middle after : InputView)
    (told : AreToldAlike middle after) where
  -- a file that was read stays so, since the bytes left are told after it as before
  pub is_read_on : (name bytes : List ℕ) → IsRead (span files before middle) name bytes
      → IsRead (span files before after) name bytes
  is_read_on name bytes h = record {
    found = h.found;
    within = h.within;
    whole = λ t. h.whole (subst IsTrue told t);
  }

  -- each of the files stays read
  pub are_read_on : (its : List StreamFile) (contents : List (List ℕ)) (streams : List (List Stamped))
      → AreLoaded (IsRead (span files before middle)) its contents streams
      → AreLoaded (IsRead (span files before after)) its contents streams
  are_read_on [] [] [] h = tt
  are_read_on (file ∷ its) (bytes ∷ contents) (stamps ∷ streams) h =
      (is_read_on file.name bytes h.0, h.1, are_read_on its contents streams h.2)
  are_read_on its contents streams h = absurd h

-- what is read does not depend on what was before
pub is_read_from : (files : Option (List File)) (before middle after : InputView) (name bytes : List ℕ)
    → IsRead (span files middle after) name bytes → IsRead (span files before after) name bytes
is_read_from files before middle after name bytes h =
    record { found = h.found; within = h.within; whole = h.whole }

-- what is said of the files is of what is there afterwards, and not of what was before
pub are_read_from : (files : Option (List File)) (before middle after : InputView) (its : List StreamFile)
    (contents : List (List ℕ)) (streams : List (List Stamped))
    → AreLoaded (IsRead (span files middle after)) its contents streams
    → AreLoaded (IsRead (span files before after)) its contents streams
are_read_from files before middle after [] [] [] h = tt
are_read_from files before middle after (file ∷ its) (bytes ∷ contents) (stamps ∷ streams) h = (
  is_read_from files before middle after file.name bytes h.0,
  h.1,
  are_read_from files before middle after its contents streams h.2,
)
are_read_from files before middle after its contents streams h = absurd h

-- the file behind the others was read too
pub are_read_push : (r : Reads) (its : List StreamFile) (contents : List (List ℕ))
    (streams : List (List Stamped)) (file : StreamFile) (bytes : List ℕ) (stamps : List Stamped)
    → AreLoaded (IsRead r) its contents streams → IsRead r file.name bytes
    → events_in file bytes ≡ Some stamps
    → AreLoaded (IsRead r) (its ++ file ∷ []) (contents ++ bytes ∷ []) (streams ++ stamps ∷ [])
are_read_push r [] [] [] file bytes stamps h one events = (one, events, tt)
are_read_push r (n ∷ its) (b ∷ contents) (s ∷ streams) file bytes stamps h one events =
    (h.0, h.1, are_read_push r its contents streams file bytes stamps h.2 one events)
are_read_push r its contents streams file bytes stamps h one events = absurd h

-- each stream that was read has its events, so there are as many of both
pub are_read_length : (r : Reads) (its : List StreamFile) (contents : List (List ℕ))
    (streams : List (List Stamped)) → AreLoaded (IsRead r) its contents streams
    → length its ≡ length streams
are_read_length r [] [] [] h = refl
are_read_length r (n ∷ its) (b ∷ contents) (s ∷ streams) h =
    ap suc (are_read_length r its contents streams h.2)
are_read_length r its contents streams h = absurd h

pub last_of_push : (first : List ℕ) (contents : List (List ℕ)) (bytes : List ℕ)
    → last_contents first (contents ++ bytes ∷ []) ≡ bytes
last_of_push first [] bytes = refl
last_of_push first (next ∷ contents) bytes = last_of_push next contents bytes

-- the file that was read last is the last one
pub is_last_push : (files : Option (List File)) (before middle after : InputView) (contents : List (List ℕ))
    (bytes : List ℕ) → middle.faults ≡ before.faults → IsLast (span files middle after) bytes
    → IsLastOf (span files before after) (contents ++ bytes ∷ [])
is_last_push files before middle after [] bytes e h =
    record { counted = h.counted; ended = h.ended; no_fault = h.no_fault ∙ e }
is_last_push files before middle after (first ∷ contents) bytes e h =
    let P : List ℕ → Type 0 = λ b. IsLast (span files before after) b in
    let here : P bytes = record { counted = h.counted; ended = h.ended; no_fault = h.no_fault ∙ e } in
    subst P (sym (last_of_push first contents bytes)) here

-- Faults before a span that had none are those of the whole.

-- the part before had no fault, so a fault of the later part is one of the whole
pub is_unread_from : (files : Option (List File)) (before middle after : InputView) (name : List ℕ)
    → middle.faults ≡ before.faults → IsUnread (span files middle after) name
    → IsUnread (span files before after) name
is_unread_from files before middle after name e h = record { fault = rw e at h.fault; within = h.within }

-- for a file that is too long
pub is_too_long_from : (files : Option (List File)) (before middle after : InputView) (name : List ℕ)
    → middle.faults ≡ before.faults → IsTooLong (span files middle after) name
    → IsTooLong (span files before after) name
is_too_long_from files before middle after name e h =
    record { found = h.found; no_fault = h.no_fault ∙ e; given = h.given; longer = h.longer }

-- for memory that ran out
pub ran_out_from : (files : Option (List File)) (before middle after : InputView)
    → middle.faults ≡ before.faults → RanOut (span files middle after) → RanOut (span files before after)
ran_out_from files before middle after e h = record { no_fault = h.no_fault ∙ e; within = h.within }

-- for the file that was read last
pub is_read_last_from : (files : Option (List File)) (before middle after : InputView) (name bytes : List ℕ)
    → middle.faults ≡ before.faults → IsReadLast (span files middle after) name bytes
    → IsReadLast (span files before after) name bytes
is_read_last_from files before middle after name bytes e h = (
  is_read_from files before middle after name bytes h.0,
  record { counted = h.1.counted; ended = h.1.ended; no_fault = h.1.no_fault ∙ e },
)
