-- Records worked out by hand.
use Rattle.std.specs.Prelude.{◌≡◌, ℕ, ◌++◌, List, [], ◌∷◌, pos, replicate, take, Ok, Err}
use Rattle.inp_model.specs.declared.event.Event.{Event}
use Rattle.inp_stream.specs.declared.event_record.TheConstants.{TIME_LEN}
use Rattle.inp_stream.specs.declared.event_record16.TheConstants.{TIME16_LEN}
use Rattle.inp_stream.specs.declared.stream_refused.StreamRefused.TheVariants.{Short, BadTime}
use Rattle.inp_stream.specs.Stream.{record_bytes, decoded}

-- the key A goes down
abbrev pub press : Event
press = record { kind = 1; code = 30; value = pos 1 }

-- its type, code and value as they stand in a record
abbrev pub press_bytes : List ℕ
press_bytes = 1 ∷ 0 ∷ 0x1e ∷ 0 ∷ 1 ∷ 0 ∷ 0 ∷ 0 ∷ []

-- one second and a half
abbrev pub press_record : List ℕ
press_record = (1 ∷ replicate 7 0) ++ (0x20 ∷ 0xa1 ∷ 7 ∷ replicate 5 0) ++ press_bytes

abbrev pub SpellsAKeyPress : Type 0
SpellsAKeyPress = record_bytes TIME_LEN press 1500000 ≡ press_record

abbrev pub MeansAKeyPress : Type 0
MeansAKeyPress = decoded TIME_LEN press_record ≡ Ok (press, 1500000)

abbrev pub LacksAByte : Type 0
LacksAByte = decoded TIME_LEN (take 23 press_record) ≡ Err Short

abbrev pub HasAMillionMicroseconds : Type 0
HasAMillionMicroseconds = decoded TIME_LEN ((1 ∷ replicate 7 0) ++ (0x40 ∷ 0x42 ∷ 0x0f ∷ replicate 5 0) ++ press_bytes) ≡ Err BadTime

abbrev pub HasTheLastMicrosecond : Type 0
HasTheLastMicrosecond =
    decoded TIME_LEN ((1 ∷ replicate 7 0) ++ (0x3f ∷ 0x42 ∷ 0x0f ∷ replicate 5 0) ++ press_bytes) ≡ Ok (press, 1999999)

-- 9,000,000,000 seconds
abbrev pub IsTheLastMoment : Type 0
IsTheLastMoment =
    decoded TIME_LEN ((0 ∷ 0x1a ∷ 0x71 ∷ 0x18 ∷ 2 ∷ replicate 3 0) ++ replicate 8 0 ++ press_bytes) ≡ Ok (press, 9000000000000000)

abbrev pub IsPastTheLastMoment : Type 0
IsPastTheLastMoment = decoded TIME_LEN ((0 ∷ 0x1a ∷ 0x71 ∷ 0x18 ∷ 2 ∷ replicate 3 0) ++ (1 ∷ replicate 7 0) ++ press_bytes) ≡ Err BadTime

-- seconds whose microseconds do not fit 64 bits
abbrev pub WouldWrap : Type 0
WouldWrap = decoded TIME_LEN (replicate 8 255 ++ replicate 8 0 ++ press_bytes) ≡ Err BadTime

abbrev pub LooksAtNoMore : Type 0
LooksAtNoMore = decoded TIME_LEN (press_record ++ 7 ∷ []) ≡ Ok (press, 1500000)

-- one second and a half, by a record of 16 bytes
abbrev pub press_record16 : List ℕ
press_record16 = (1 ∷ replicate 3 0) ++ (0x20 ∷ 0xa1 ∷ 7 ∷ 0 ∷ []) ++ press_bytes

-- What records of 16 bytes are.
pub record HasFourBytes : Type 0 where
  pub spelling : record_bytes TIME16_LEN press 1500000 ≡ press_record16
  pub meaning : decoded TIME16_LEN press_record16 ≡ Ok (press, 1500000)
  pub short : decoded TIME16_LEN (take 15 press_record16) ≡ Err Short
  pub million : decoded TIME16_LEN ((1 ∷ replicate 3 0) ++ (0x40 ∷ 0x42 ∷ 0x0f ∷ 0 ∷ []) ++ press_bytes) ≡ Err BadTime
  -- seconds that a signed number of 32 bits cannot have
  pub second : decoded TIME16_LEN ((replicate 3 0 ++ 0x80 ∷ []) ++ replicate 4 0 ++ press_bytes) ≡ Ok (press, 2147483648000000)
  pub last : decoded TIME16_LEN (replicate 4 255 ++ (0x3f ∷ 0x42 ∷ 0x0f ∷ 0 ∷ []) ++ press_bytes) ≡ Ok (press, 4294967295999999)
  pub more : decoded TIME16_LEN (press_record16 ++ 7 ∷ []) ≡ Ok (press, 1500000)
