-- The lines of a record, with another version in their header, are accepted again.
use Rattle.std.proofs.Common.{◌≡◌, ℕ, false, nat_eq, [], ◌∷◌, List, Ok, refl, ap, ◌∙◌, arith}
use Rattle.inp_actors.specs.Record.{RecordView}
use Rattle.inp_record.specs.canon.Text.{record_text}
use Rattle.inp_record.specs.declared.context.Context.{Context}
use Rattle.inp_record.specs.declared.item.Item.{Item}
use Rattle.inp_record.specs.declared.item.Item.TheVariants.{Header, Slots, Action}
use Rattle.inp_record.specs.Place.{is_first_place}
use Rattle.inp_record.specs.ItemsBefore.{ItemsBefore, after, context_of}
use Rattle.inp_record.specs.Meaning.{record_of_past, meaning}
use Rattle.inp_record.proofs.Sayable.{accepted, is_later_item, IsAccepted, WereAccepted}
use Rattle.inp_record.proofs.CanonPasts.{never_both, meaning_of_past}
use Rattle.inp_record.proofs.CanonRecords.{not_first}
use Rattle.inp_record.proofs.RoundTrip.{read_again as past_read_again}

-- an item, with version 2 where it is a header
abbrev raised_item : Item → Item
raised_item (Header version) = Header 2
raised_item i = i

-- the same lines, with version 2 in their header
abbrev raised : ItemsBefore → ItemsBefore
raised [] = []
raised (i ∷ past) = raised_item i ∷ raised past

-- the version behind a raised item
abbrev version_after : Item → ℕ → ℕ
version_after (Header version) v = 2
version_after _ v = v

after_alike : (i : Item) (c : Context) (v : ℕ)
    → after (raised_item i) (record c { version = v }) ≡ record (after i c) { version = version_after i v }
after_alike (Header version) c v = refl
after_alike i c v = refl

version_alike : (i : Item) (c : Context) → version_after i c.version ≡ (after (raised_item i) c).version
version_alike (Header version) c = refl
version_alike i c = refl

-- but for the version the raised lines leave what the lines leave
same_context : (past : ItemsBefore)
    → context_of (raised past) ≡ record (context_of past) { version = (context_of (raised past)).version }
same_context [] = refl
same_context (i ∷ past) = rw (same_context past, after_alike, version_alike)

-- behind their header the raised lines have version 2
raised_version : (past : ItemsBefore) → WereAccepted past → is_first_place (context_of past).place ≡ false
    → (context_of (raised past)).version ≡ 2
raised_version [] were s = absurd (cc s)
raised_version (Header version ∷ past) were s = refl
raised_version (i ∷ past) were s = raised_version past were.1 (were.0.headed refl)

-- a line that was accepted is accepted where the version alone differs, and is 2 behind a header
accepted_alike : (c : Context) (v : ℕ) (i : Item) → (is_first_place c.place ≡ false → v ≡ 2) → IsAccepted c i
    → IsAccepted (record c { version = v }) (raised_item i)
accepted_alike c v (Header version) two a =
    accepted (omega arith, omega arith) a.headed a.in_place refl refl refl refl refl refl
accepted_alike c v (Slots count) two a =
    accepted a.sayable a.headed a.in_place refl refl a.once refl (rw (two (a.headed refl)) refl) a.fits
accepted_alike c v (Action actor does) two a =
    accepted a.sayable a.headed refl refl (rw (two (a.headed refl)) refl) refl a.few refl refl
accepted_alike c v i two a =
    accepted a.sayable a.headed a.in_place
    (never_both (is_later_item i) (nat_eq v 1) (λ _. rw (two (a.headed refl)) refl)) refl a.once
    a.few refl a.fits

raised_accepted : (past : ItemsBefore) → WereAccepted past → WereAccepted (raised past)
raised_accepted [] were = tt
raised_accepted (i ∷ past) were = (
  rw (same_context past)
      (accepted_alike (context_of past) (context_of (raised past)).version i
      (raised_version past were.1) were.0),
  raised_accepted past were.1,
)

-- the same record with version 2
abbrev with_version_2 : RecordView → RecordView
with_version_2 r = record r { version = 2 }

raised_record : (past : ItemsBefore) → (context_of (raised past)).version ≡ 2
    → record_of_past (raised past) ≡ with_version_2 (record_of_past past)
raised_record past two = rw (same_context, two)

-- The canonical text of each record that some bytes are, with version 2, is that record with version 2.
pub reads_again : (bytes : List ℕ) (r : RecordView) → meaning bytes ≡ Ok r
    → meaning (record_text (record r { version = 2 })) ≡ Ok (record r { version = 2 })
reads_again bytes r e =
    let p = meaning_of_past bytes r e in
    let past : ItemsBefore = p.newest ∷ p.past in
    let same =
    raised_record past (raised_version past p.accepted (not_first p.newest (context_of p.past)))
    ∙ ap with_version_2 p.same in
    rw (← same)
    (past_read_again (raised past) (raised_accepted past p.accepted)
    (not_first (raised_item p.newest) (context_of (raised p.past))))
