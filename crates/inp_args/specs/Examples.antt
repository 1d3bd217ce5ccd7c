-- What words ask for, worked out by hand.
use Rattle.std.specs.Prelude.{◌≡◌, ℕ, true, false, [], ◌∷◌, Some, None, codes}
use Rattle.inp_args.specs.declared.request.Request.TheVariants.{Play, Migrate, Make}
use Rattle.inp_args.specs.Request.{Arguments, requested}

-- words that ask for nothing
abbrev pub AskForNothing : Arguments → Type 0
AskForNothing words = requested words ≡ None

-- words that ask for a record to be made
abbrev pub Makes : Arguments → ℕ → ℕ → Type 0
Makes words number count = requested words ≡ Some (Make number count)

-- a file is played; the flag stands before it or after it
abbrev pub PlaysFiles : Type 0
PlaysFiles =
    (requested (codes "f" ∷ []) ≡ Some (Play (codes "f") false None)) × (requested (codes "--history" ∷ codes "f" ∷ []) ≡ Some (Play (codes "f") true None))
    × (requested (codes "f" ∷ codes "--history" ∷ []) ≡ Some (Play (codes "f") true None))

-- threads are asked for, with a bound or without one; a bound alone changes nothing
abbrev pub PlaysOnThreads : Type 0
PlaysOnThreads =
    (requested (codes "--threads" ∷ codes "f" ∷ []) ≡ Some (Play (codes "f") false (Some 1000000)))
    × (requested (codes "--threads" ∷ codes "f" ∷ codes "--idle" ∷ codes "1" ∷ codes "--history" ∷ []) ≡ Some (Play (codes "f") true (Some 1)))
    × (requested (codes "--idle=1000000000" ∷ codes "--threads" ∷ codes "f" ∷ []) ≡ Some (Play (codes "f") false (Some 1000000000)))
    × (requested (codes "--idle" ∷ codes "5" ∷ codes "f" ∷ []) ≡ Some (Play (codes "f") false None))
    × Makes (codes "--make" ∷ codes "7" ∷ codes "--idle" ∷ codes "5" ∷ []) 7 100

-- a lone `-` is a file, and so are the empty word and each word after `--`
abbrev pub PlaysOddWords : Type 0
PlaysOddWords =
    (requested (codes "-" ∷ []) ≡ Some (Play (codes "-") false None)) × (requested (codes "" ∷ []) ≡ Some (Play [] false None))
    × (requested (codes "--" ∷ codes "f" ∷ []) ≡ Some (Play (codes "f") false None))
    × (requested (codes "--" ∷ codes "--make" ∷ []) ≡ Some (Play (codes "--make") false None))
    × (requested (codes "--history" ∷ codes "--" ∷ codes "--history" ∷ []) ≡ Some (Play (codes "--history") true None))

-- a number, alone and with a count; an option and its text may be one word
abbrev pub MakesRecords : Type 0
MakesRecords =
    Makes (codes "--make" ∷ codes "7" ∷ []) 7 100 × Makes (codes "--make" ∷ codes "7" ∷ codes "--count" ∷ codes "20" ∷ []) 7 20
    × Makes (codes "--make=7" ∷ codes "--count=5" ∷ []) 7 5 × Makes (codes "--count" ∷ codes "5" ∷ codes "--make" ∷ codes "7" ∷ []) 7 5

-- a file is migrated; the flag stands before it or after it
abbrev pub MigratesFiles : Type 0
MigratesFiles =
    (requested (codes "--migrate" ∷ codes "f" ∷ []) ≡ Some (Migrate (codes "f"))) × (requested (codes "f" ∷ codes "--migrate" ∷ []) ≡ Some (Migrate (codes "f")))
    × (requested (codes "--migrate" ∷ codes "--" ∷ codes "--threads" ∷ []) ≡ Some (Migrate (codes "--threads")))

-- no file, and what belongs to a play or to a record that is made, also where its number is right
abbrev pub RefusesMigrations : Type 0
RefusesMigrations =
    AskForNothing (codes "--migrate" ∷ []) × AskForNothing (codes "--migrate" ∷ codes "--history" ∷ codes "f" ∷ [])
    × AskForNothing (codes "--threads" ∷ codes "--migrate" ∷ codes "f" ∷ []) × AskForNothing (codes "--migrate" ∷ codes "f" ∷ codes "--idle" ∷ codes "5" ∷ [])
    × AskForNothing (codes "--migrate" ∷ codes "f" ∷ codes "--count=5" ∷ []) × AskForNothing (codes "--migrate" ∷ codes "f" ∷ codes "--make=7" ∷ [])
    × AskForNothing (codes "--migrate" ∷ codes "--make" ∷ codes "7" ∷ []) × AskForNothing (codes "--migrate" ∷ codes "f" ∷ codes "g" ∷ [])
    × AskForNothing (codes "--migrate" ∷ codes "--migrate" ∷ codes "f" ∷ []) × AskForNothing (codes "--migrate=2" ∷ codes "f" ∷ [])

-- the numbers at their bounds, and those that begin with a plus or with zeros
abbrev pub ReadsNumbers : Type 0
ReadsNumbers =
    Makes (codes "--make" ∷ codes "0" ∷ codes "--count" ∷ codes "1" ∷ []) 0 1
    × Makes (codes "--make" ∷ codes "4294967295" ∷ codes "--count" ∷ codes "10000" ∷ []) 4294967295 10000
    × Makes (codes "--make" ∷ codes "+5" ∷ []) 5 100 × Makes (codes "--make" ∷ codes "007" ∷ []) 7 100

-- what is no number, and numbers out of range
abbrev pub RefusesNumbers : Type 0
RefusesNumbers =
    AskForNothing (codes "--make" ∷ codes "4294967296" ∷ []) × AskForNothing (codes "--make" ∷ codes "" ∷ []) × AskForNothing (codes "--make=" ∷ [])
    × AskForNothing (codes "--make" ∷ codes "-0" ∷ []) × AskForNothing (codes "--make=-0" ∷ []) × AskForNothing (codes "--make" ∷ codes "0x5" ∷ [])
    × AskForNothing (codes "--make" ∷ codes "5 " ∷ []) × AskForNothing (codes "--make" ∷ codes "+" ∷ [])

-- a bound that is out of range or no number is refused, wherever it stands
abbrev pub RefusesBounds : Type 0
RefusesBounds =
    AskForNothing (codes "--threads" ∷ codes "f" ∷ codes "--idle" ∷ codes "0" ∷ []) × AskForNothing (codes "--threads" ∷ codes "f" ∷ codes "--idle" ∷ codes "1000000001" ∷ [])
    × AskForNothing (codes "--idle" ∷ codes "x" ∷ codes "f" ∷ []) × AskForNothing (codes "--make" ∷ codes "7" ∷ codes "--idle" ∷ codes "0" ∷ [])

abbrev pub RefusesCounts : Type 0
RefusesCounts =
    AskForNothing (codes "--make" ∷ codes "7" ∷ codes "--count" ∷ codes "0" ∷ []) × AskForNothing (codes "--make" ∷ codes "7" ∷ codes "--count" ∷ codes "10001" ∷ [])
    × AskForNothing (codes "--make" ∷ codes "7" ∷ codes "--count=" ∷ [])

-- a file with `--make` or `--count`, a count without a number, the history or threads of a record that is
-- made, and neither
abbrev pub RefusesMixtures : Type 0
RefusesMixtures =
    AskForNothing (codes "--make" ∷ codes "7" ∷ codes "x" ∷ []) × AskForNothing (codes "--count" ∷ codes "5" ∷ codes "x" ∷ [])
    × AskForNothing (codes "--count" ∷ codes "5" ∷ []) × AskForNothing (codes "--count=5" ∷ []) × AskForNothing (codes "--make" ∷ codes "7" ∷ codes "--history" ∷ [])
    × AskForNothing (codes "--make" ∷ codes "7" ∷ codes "--threads" ∷ []) × AskForNothing [] × AskForNothing (codes "--history" ∷ []) × AskForNothing (codes "--" ∷ [])

-- two files, what is given twice, a name cut short, a flag with a text, and an option without its text
abbrev pub RefusesForms : Type 0
RefusesForms =
    AskForNothing (codes "f" ∷ codes "g" ∷ []) × AskForNothing (codes "--history" ∷ codes "--history" ∷ codes "f" ∷ [])
    × AskForNothing (codes "--make" ∷ codes "7" ∷ codes "--make" ∷ codes "7" ∷ []) × AskForNothing (codes "--thr" ∷ codes "f" ∷ [])
    × AskForNothing (codes "--hist" ∷ codes "f" ∷ []) × AskForNothing (codes "--history=true" ∷ codes "f" ∷ []) × AskForNothing (codes "--make" ∷ [])

-- options that there are not, and a flag with a text
abbrev pub RefusesOptions : Type 0
RefusesOptions =
    AskForNothing (codes "--help" ∷ []) × AskForNothing (codes "-h" ∷ []) × AskForNothing (codes "--version" ∷ [])
    × AskForNothing (codes "--threads=2" ∷ codes "f" ∷ [])
