-- The form of a line of acts: a node, what it does, and behind the sign # perhaps the line of its program.
use Rattle.std.specs.Prelude.{◌≡◌, ℕ, ◌<◌, ◌≤◌, ◌==◌, ◌⊎◌, List, [], ◌∷◌, ◌++◌, codes, decimal, drop, length, All}
use Rattle.std.specs.List.{before_first}
use Rattle.lrc_races_lines.specs.declared.line.Kind.{Kind}
use Rattle.lrc_races_lines.specs.declared.line.Kind.TheVariants.{Read, Write, Acquire, Release, Post, Wait, Fork, Join, Arrive, Depart, Idle}
use Rattle.lrc_races_lines.specs.declared.line.Line.{Line}
use Rattle.lrc_races_lines.specs.declared.line.Line.TheVariants.{Nothing, Event, Bad}
use Rattle.lrc_races_lines.specs.Line.{Saying, saying_of, longest_line}
use Rattle.lrc_text.specs.Digits.{IsNumber}
use Rattle.lrc_acts.specs.ActsText.{IsNamedWithOne, words_on}

-- A node, a word or a lock is a number below 2^32. Its name is that number, without leading zeros.
pub record IsNamed (digits name : List ℕ) : Type 0 where
  pub number : ℕ
  pub says : IsNumber digits 4294967295 number
  pub is : name ≡ decimal number

-- The word of shared memory has this name, and digits write a value of 64 bits.
pub record IsAccessed (digits value_digits target : List ℕ) : Type 0 where
  pub says : IsNamed digits target
  pub value : ℕ
  pub says_value : IsNumber value_digits 18446744073709551615 value

-- the words are this name, a word of shared memory and a value
pub record IsAccess (name : List ℕ) (words : List (List ℕ)) (target : List ℕ) : Type 0 where
  pub digits : List ℕ
  pub value_digits : List ℕ
  pub whole : words ≡ name ∷ digits ∷ value_digits ∷ []
  pub accessed : IsAccessed digits value_digits target

-- the words are this name and a lock
pub record IsOnLock (name : List ℕ) (words : List (List ℕ)) (target : List ℕ) : Type 0 where
  pub digits : List ℕ
  pub whole : words ≡ name ∷ digits ∷ []
  pub says : IsNamed digits target

-- the words are of a deed that does nothing here
pub data IsIdle (words : List (List ℕ)) : Type 0 where
  quiet : words ≡ codes "quiet" ∷ [] → IsIdle words
  ends : words ≡ codes "end" ∷ [] → IsIdle words
  prints : {value : ℕ} → IsNamedWithOne (codes "print") words 18446744073709551615 value → IsIdle words
  traps : {cause : ℕ} → 1 ≤ cause → IsNamedWithOne (codes "trap") words 5 cause → IsIdle words

-- The words say the operation on the target. All arrive at one barrier, 0, and depart from it.
abbrev pub SaysOperation : List (List ℕ) → Kind → List ℕ → Type 0
SaysOperation words Read target = IsAccess (codes "read") words target
SaysOperation words Write target = IsAccess (codes "write") words target
SaysOperation words Acquire target = IsOnLock (codes "acquire") words target
SaysOperation words Release target = IsOnLock (codes "release") words target
SaysOperation words Post target = ⊥
SaysOperation words Wait target = ⊥
SaysOperation words Fork target = ⊥
SaysOperation words Join target = ⊥
SaysOperation words Arrive target = (words ≡ codes "arrive" ∷ []) × (target ≡ codes "0")
SaysOperation words Depart target = (words ≡ codes "depart" ∷ []) × (target ≡ codes "0")
SaysOperation words Idle target = IsIdle words × (target ≡ [])

-- the comment of a line, from its sign # on
abbrev pub comment_on : List ℕ → List ℕ
comment_on line = drop (length (before_first (λ byte. byte == 35) line)) line

abbrev pub IsDigit : ℕ → Type 0
IsDigit byte = (48 ≤ byte) × (byte ≤ 57)

-- the text does not begin with a digit
abbrev pub EndsDigits : List ℕ → Type 0
EndsDigits [] = Unit {0}
EndsDigits (byte ∷ rest) = ¬ IsDigit byte

-- The comment says a line of the program: one digit to ten behind `# line `, and no digit behind them.
pub record SaysLine (comment digits : List ℕ) : Type 0 where
  pub rest : List ℕ
  pub whole : comment ≡ codes "# line " ++ digits ++ rest
  pub some : 0 < length digits
  pub few : length digits ≤ 10
  pub all : All IsDigit digits
  pub ends : EndsDigits rest

-- The location of an act is that line, its digits as they came, and empty where the comment says none.
abbrev pub IsLocation : List ℕ → List ℕ → Type 0
IsLocation comment location = SaysLine comment location ⊎ ((location ≡ []) × ((digits : List ℕ) → ¬ SaysLine comment digits))

-- The line says the event.
pub record SaysAct (line : List ℕ) (saying : Saying) : Type 0 where
  pub short : length line ≤ longest_line
  pub digits : List ℕ
  pub rest : List (List ℕ)
  pub whole : words_on line ≡ digits ∷ rest
  pub thread : IsNamed digits saying.thread
  pub operation : SaysOperation rest saying.kind saying.target
  pub location : IsLocation (comment_on line) saying.location

-- The line has no word.
pub record SaysNoAct (line : List ℕ) : Type 0 where
  pub short : length line ≤ longest_line
  pub wordless : words_on line ≡ []

-- what a line is read as
abbrev pub ReadsAct : List ℕ → Line → Type 0
ReadsAct line Nothing = SaysNoAct line
ReadsAct line (Event named) = SaysAct line (saying_of named)
ReadsAct line Bad = ¬ SaysNoAct line × ((saying : Saying) → ¬ SaysAct line saying)
