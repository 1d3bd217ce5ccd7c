-- Lists of codes and of axes, and two descriptions: of nothing but EV_SYN, and of a keyboard with one key.
use Rattle.std.proofs.Common.{◌≡◌, ℕ, zero, suc, ◌+◌, ◌<◌, ◌≤◌, Bool, false, true, List, ◌∷◌, ◌++◌, length}
use Rattle.std.proofs.Common.{replicate, get_or, refl, ◌∙◌, ap, arith}
use Rattle.std.proofs.lemmas.List.{get_or_past}
use Rattle.inp_model.specs.declared.event.TheConstants.{EV_SYN, EV_MAX, KEY_MAX}
use Rattle.inp_model.specs.Description.{AreCodes, AreAxes, IsDescription, syn_alone, one_key, no_info}
use Rattle.inp_model.specs.Description.{is_bad_axis, is_kind, has_kind}

-- copies of one value are that value, also past their end
pub get_or-replicate_same : {X : Type 0} → (n k : ℕ) (x : X) → get_or (replicate n x) k x ≡ x
get_or-replicate_same zero k x = refl
get_or-replicate_same (suc n) zero x = refl
get_or-replicate_same (suc n) (suc k) x = get_or-replicate_same n k x

-- no code is supported
pub AreCodes-none : (greatest : ℕ) → AreCodes 64 greatest (replicate 64 false)
AreCodes-none greatest = record { length_is = refl; within = λ code h. get_or-replicate_same 64 code false }

pub is_bad_axis-no_info : (code : ℕ) → is_bad_axis code no_info ≡ false
is_bad_axis-no_info code = grind arith

-- no axis is described
pub AreAxes-none : AreAxes (replicate 64 no_info)
AreAxes-none =
    record {
      length_is = refl;
      good = λ code. ap (is_bad_axis code) (get_or-replicate_same 64 code no_info)
          ∙ is_bad_axis-no_info code;
    }

-- a code past the end of its list is not supported
pub AreCodes-all : (count greatest : ℕ) (codes : List Bool) → length codes ≡ count → count ≤ greatest + 1
    → AreCodes count greatest codes
AreCodes-all count greatest codes e l =
    record { length_is = e; within = λ code h. get_or_past codes code false (omega arith) }

-- A description with EV_SYN, other types and keys, and no more is one, where these are lists as they may be.
pub IsDescription-with : (kinds keys : List Bool) → AreCodes 64 EV_MAX kinds
    → ((kind : ℕ) → is_kind kind ≡ false → get_or kinds kind false ≡ false) → get_or kinds EV_SYN false ≡ true
    → AreCodes 768 KEY_MAX keys → get_or keys 0 false ≡ false
    → IsDescription (record syn_alone { kinds = kinds; keys = keys })
IsDescription-with kinds keys are known syn are_keys reserved = record {
  kinds = are;
  known = known;
  syn = syn;
  keys = are_keys;
  reserved = reserved;
  relatives = AreCodes-none 15;
  axes = AreCodes-none 63;
  miscs = AreCodes-none 7;
  switches = AreCodes-none 16;
  leds = AreCodes-none 15;
  sounds = AreCodes-none 7;
  infos = AreAxes-none;
  filters = record { few = omega arith; good = refl };
  slots = omega arith;
  hint = (omega arith, omega arith);
  log_limit = (omega arith, omega arith);
  realtime = omega arith;
  boottime = omega arith;
}

syn_within : (kind : ℕ) → 31 < kind → get_or (true ∷ replicate 63 false) kind false ≡ false
syn_within zero h = absurd (omega arith)
syn_within (suc kind) h = get_or-replicate_same 63 kind false

syn_known : (kind : ℕ) → is_kind kind ≡ false → has_kind syn_alone kind ≡ false
syn_known zero h = h
syn_known (suc kind) h = get_or-replicate_same 63 kind false

pub IsDescription-syn_alone : IsDescription syn_alone
IsDescription-syn_alone =
    IsDescription-with (true ∷ replicate 63 false) (replicate 768 false)
    (record { length_is = refl; within = syn_within }) syn_known refl
    (AreCodes-all 768 767 (replicate 768 false) refl (omega arith)) refl

key_within : (kind : ℕ) → 31 < kind → get_or (true ∷ true ∷ replicate 62 false) kind false ≡ false
key_within zero h = absurd (omega arith)
key_within (suc zero) h = absurd (omega arith)
key_within (suc (suc kind)) h = get_or-replicate_same 62 kind false

key_known : (kind : ℕ) → is_kind kind ≡ false → has_kind one_key kind ≡ false
key_known zero h = h
key_known (suc zero) h = h
key_known (suc (suc kind)) h = get_or-replicate_same 62 kind false

pub IsDescription-one_key : IsDescription one_key
IsDescription-one_key =
    IsDescription-with (true ∷ true ∷ replicate 62 false) (replicate 30 false ++ true ∷ replicate 737 false)
    (record { length_is = refl; within = key_within }) key_known refl
    (AreCodes-all 768 767 (replicate 30 false ++ true ∷ replicate 737 false) refl (omega arith)) refl
