-- What words ask for.
use Rattle.std.specs.Prelude.{ℕ, ◌≤◌, IfSome, Bool, true, false, ◌&&◌, List, Option, Some, None, option_and_then, option_map, nat_le, if◌then◌else◌, codes}
use Rattle.inp_args.specs.declared.request.Request.{Request}
use Rattle.inp_args.specs.declared.request.Request.TheVariants.{Play, Migrate, Make}
use Rattle.inp_args.specs.Number.{number_of}
use Rattle.inp_args.specs.Command.{is_taken, is_given, found_text}

-- the words after the program's name, each as its bytes
abbrev pub Arguments : Type 0
Arguments = List (List ℕ)

-- the number of a text, where it is one from 1 to `most`, or this one where no text is given
abbrev pub number_or : ℕ → ℕ → Option (List ℕ) → Option ℕ
number_or usual most None = Some usual
number_or usual most (Some text) = option_and_then (λ n. if nat_le 1 n && nat_le n most then Some n else None) (number_of text)

-- What the texts of FILE, `--make`, `--count` and `--idle` ask for. Behind them stand whether `--migrate` and `--history`
-- are given, and the number of `--idle` where threads are. Beside `--migrate` FILE alone may stand.
abbrev pub request_of : Option (List ℕ) → Option (List ℕ) → Option (List ℕ) → Option (List ℕ) → Bool → Bool → Option ℕ → Option Request
request_of (Some file) None None bound false history idle = Some (Play file history idle)
request_of (Some file) None None None true false None = Some (Migrate file)
request_of None (Some number) count bound false false None =
    option_and_then (λ n. option_map (λ frames. Make n frames) (number_or 100 10000 count)) (number_of number)
request_of _ _ _ _ _ _ _ = None

-- What the words after the program's name ask for; nothing where they are not accepted. A bound is judged also where
-- it is not used.
abbrev pub requested : List (List ℕ) → Option Request
requested words =
    let text : List ℕ → Option (List ℕ) = λ name. found_text name words in
    let is_on : List ℕ → Bool = λ name. is_given (text name) in
    let with_bound : ℕ → Option Request = λ bound.
    request_of (text (codes "FILE")) (text (codes "make")) (text (codes "count")) (text (codes "idle"))
    (is_on (codes "migrate")) (is_on (codes "history")) (if is_on (codes "threads") then Some bound else None) in
    if is_taken words then option_and_then with_bound (number_or 1000000 1000000000 (text (codes "idle"))) else None

-- the file whose record is asked for
abbrev pub record_file : Request → Option (List ℕ)
record_file (Play file history idle) = Some file
record_file (Migrate file) = Some file
record_file (Make number count) = None

-- the numbers of a request are in their ranges
abbrev pub IsInRange : Request → Type 0
IsInRange (Play file history idle) = IfSome idle (λ n. (1 ≤ n) × (n ≤ 1000000000))
IsInRange (Migrate file) = Unit {0}
IsInRange (Make number count) = (1 ≤ count) × (count ≤ 10000)
