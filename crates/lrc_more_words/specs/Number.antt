-- The options of the command line whose numbers have ranges, and which of them is out of its range.
use Rattle.std.specs.Prelude.{ℕ, ◌*◌, ◌+◌, ◌-◌, ◌||◌, Bool, false, List, [], ◌∷◌, Option, Some, None, codes, drop, if◌then◌else◌, length, min, nat_eq, nat_lt, take, fold}
use Rattle.std.specs.Cmp.Lexicographic.{pointwise}
use Rattle.std.specs.Option.{option_or}
use Rattle.std.specs.Str.{bytes_eq}
use Rattle.lrc_more_words.specs.declared.number.Numbered.{Numbered}
use Rattle.lrc_more_words.specs.declared.number.Numbered.TheVariants.{Nodes, Steps, Collect, Most, Outcome, Tries}

-- an option, as the words name it
abbrev pub option_of : Numbered → List ℕ
option_of Nodes = codes "--nodes"
option_of Steps = codes "--steps"
option_of Collect = codes "--collect"
option_of Most = codes "--most"
option_of Outcome = codes "--outcome"
option_of Tries = codes "--tries"

-- with the sign that stands before a number in the same word
abbrev pub assigned_of : Numbered → List ℕ
assigned_of Nodes = codes "--nodes="
assigned_of Steps = codes "--steps="
assigned_of Collect = codes "--collect="
assigned_of Most = codes "--most="
assigned_of Outcome = codes "--outcome="
assigned_of Tries = codes "--tries="

-- the least and the greatest number that it takes
abbrev pub least_of : Numbered → ℕ
least_of Collect = 0
least_of _ = 1

abbrev pub greatest_of : Numbered → ℕ
greatest_of Nodes = 16
greatest_of Steps = 1000000
greatest_of Collect = 1000000
greatest_of Most = 100000000
greatest_of Outcome = 18446744073709551615
greatest_of Tries = 1000000

abbrev pub is_out : Numbered → ℕ → Bool
is_out numbered number = nat_lt number (least_of numbered) || nat_lt (greatest_of numbered) number

-- The number that digits write, or the greatest one of 64 bits where it is greater. What stands before `0` among the characters counts
-- for nothing, as a sign.
abbrev pub step : ℕ → ℕ → ℕ
step value digit = min (min (value * 10) 18446744073709551615 + (digit - 48)) 18446744073709551615

abbrev pub value_of : List ℕ → ℕ
value_of digits = fold step 0 digits

-- what stands in a word behind this front
abbrev pub behind : List ℕ → List ℕ → Option (List ℕ)
behind word front = if pointwise nat_eq (take (length front) word) front then Some (drop (length front) word) else None

-- what a word, with the next one, gives the option
abbrev pub value_given : Numbered → List ℕ → Option (List ℕ) → Option (List ℕ)
value_given numbered word next = if bytes_eq word (option_of numbered) then next else behind word (assigned_of numbered)

-- whether that is out of its range
abbrev pub is_value_out : Numbered → Option (List ℕ) → Bool
is_value_out numbered (Some value) = is_out numbered (value_of value)
is_value_out numbered None = false

abbrev pub is_misfit : Numbered → List ℕ → Option (List ℕ) → Bool
is_misfit numbered word next = is_value_out numbered (value_given numbered word next)

abbrev pub only_if : Bool → Numbered → Option Numbered
only_if applies numbered = if applies then Some numbered else None

-- the option that a word, with the next one, gives a number out of its range
abbrev pub misfit_in : Numbered → List ℕ → Option (List ℕ) → Option Numbered
misfit_in numbered word next = only_if (is_misfit numbered word next) numbered

unfoldable pub misfit : List ℕ → Option (List ℕ) → Option Numbered
misfit word next = option_or (option_or (option_or (option_or (option_or (misfit_in Nodes word next) (misfit_in Steps word next))
    (misfit_in Collect word next)) (misfit_in Most word next)) (misfit_in Outcome word next)) (misfit_in Tries word next)

-- the first of these words
abbrev pub text_at : List (List ℕ) → Option (List ℕ)
text_at [] = None
text_at (word ∷ words) = Some word

-- The option that the words first give a number out of its range. Behind a word `--` there are no options.
abbrev pub number_out : List (List ℕ) → Option Numbered
number_out [] = None
number_out (word ∷ words) =
    if bytes_eq word (codes "--") then None else option_or (misfit word (text_at words)) (number_out words)
