-- The text of a list of acts, one on a line.
use Rattle.std.specs.Prelude.{◌≡◌, ◌<◌, ◌≤◌, ◌+◌, ◌==◌, ◌||◌, ℕ, Bool, not, List, [], ◌∷◌, ◌++◌, length, codes}
use Rattle.std.specs.Prelude.{filter, Option, Some, None, Result, Ok, Err}
use Rattle.std.specs.List.{before_first, slice_split}
use Rattle.lrc_trace.specs.declared.act.Act.{Act}
use Rattle.lrc_trace.specs.declared.act.Deed.{Deed}
use Rattle.lrc_trace.specs.declared.act.Deed.TheVariants.{Quiet, Print, Read, Write, Acquire, Release, Arrive, Depart, Trap, End}
use Rattle.lrc_text.specs.ActText.{cause_number}
use Rattle.lrc_text.specs.Digits.{IsNumber}
use Rattle.lrc_text.specs.Lines.{lines_of}
use Rattle.lrc_acts.specs.declared.reading.ActsFault.{ActsFault}
use Rattle.lrc_acts.specs.declared.reading.ActsFault.TheVariants.{BadAct, NoMemory, TooLong}
use Rattle.lrc_acts.specs.declared.reading.LinedActs.{LinedActs}

-- a blank is a space, a tab or a carriage return
abbrev pub is_blank : ℕ → Bool
is_blank byte = byte == 32 || (byte == 9 || byte == 13)

-- what blanks part, where it is not empty
abbrev pub words_between : List ℕ → List (List ℕ)
words_between text = filter (λ word. not (length word == 0)) (slice_split is_blank text)

-- the words of a line: those before the sign # that begins its comment
abbrev pub words_on : List ℕ → List (List ℕ)
words_on line = words_between (before_first (λ byte. byte == 35) line)

-- the words are this name and one number
pub record IsNamedWithOne (name : List ℕ) (words : List (List ℕ)) (greatest number : ℕ) : Type 0 where
  pub digits : List ℕ
  pub whole : words ≡ name ∷ digits ∷ []
  pub says : IsNumber digits greatest number

-- the words are this name, a word of shared memory and a value
pub record IsNamedWithTwo (name : List ℕ) (words : List (List ℕ)) (word value : ℕ) : Type 0 where
  pub word_digits : List ℕ
  pub value_digits : List ℕ
  pub whole : words ≡ name ∷ word_digits ∷ value_digits ∷ []
  pub says_word : IsNumber word_digits 4294967295 word
  pub says_value : IsNumber value_digits 18446744073709551615 value

-- the words say this deed
abbrev pub SaysDeed : List (List ℕ) → Deed → Type 0
SaysDeed words Quiet = words ≡ codes "quiet" ∷ []
SaysDeed words (Print value) = IsNamedWithOne (codes "print") words 18446744073709551615 value
SaysDeed words (Read word value) = IsNamedWithTwo (codes "read") words word value
SaysDeed words (Write word value) = IsNamedWithTwo (codes "write") words word value
SaysDeed words (Acquire lock) = IsNamedWithOne (codes "acquire") words 255 lock
SaysDeed words (Release lock) = IsNamedWithOne (codes "release") words 255 lock
SaysDeed words Arrive = words ≡ codes "arrive" ∷ []
SaysDeed words Depart = words ≡ codes "depart" ∷ []
SaysDeed words (Trap cause) = IsNamedWithOne (codes "trap") words 5 (cause_number cause)
SaysDeed words End = words ≡ codes "end" ∷ []

-- where the number of nodes is given, a node is below it
abbrev pub IsAmong : Option ℕ → ℕ → Type 0
IsAmong None node = Unit {0}
IsAmong (Some nodes) node = node < nodes

-- the words say this act: its node, 0 to 15, and then its deed
pub record SaysAct (nodes : Option ℕ) (words : List (List ℕ)) (act : Act) : Type 0 where
  pub digits : List ℕ
  pub rest : List (List ℕ)
  pub whole : words ≡ digits ∷ rest
  pub node : IsNumber digits 15 act.node
  pub among : IsAmong nodes act.node
  pub deed : SaysDeed rest act.deed

-- The lines from the one with this number on say these acts in order, on the lines with these numbers. A line without a word says none.
pub data SayActs (nodes : Option ℕ) : ℕ → List (List ℕ) → List Act → List ℕ → Type 0 where
  none : {number : ℕ} → SayActs nodes number [] [] []
  empty : {number : ℕ} {line : List ℕ} {lines : List (List ℕ)} {acts : List Act} {numbers : List ℕ} → words_on line ≡ []
      → SayActs nodes (number + 1) lines acts numbers → SayActs nodes number (line ∷ lines) acts numbers
  more : {number : ℕ} {line : List ℕ} {lines : List (List ℕ)} {act : Act} {acts : List Act} {numbers : List ℕ} → SaysAct nodes (words_on line) act
      → SayActs nodes (number + 1) lines acts numbers → SayActs nodes number (line ∷ lines) (act ∷ acts) (number ∷ numbers)

-- the line has a word, and says no act
pub record IsBad (nodes : Option ℕ) (line : List ℕ) : Type 0 where
  pub some : ¬ (words_on line ≡ [])
  pub nameless : (act : Act) → ¬ SaysAct nodes (words_on line) act

-- of the lines, the first bad one has this number, counted from 1
pub record IsFirstBad (nodes : Option ℕ) (lines : List (List ℕ)) (number : ℕ) : Type 0 where
  pub before : List (List ℕ)
  pub line : List ℕ
  pub after : List (List ℕ)
  pub whole : lines ≡ before ++ line ∷ after
  pub counted : number ≡ length before + 1
  pub good : (acts : List Act) × (numbers : List ℕ) × SayActs nodes 1 before acts numbers
  pub bad : IsBad nodes line

-- One of the lines says an act, and no line before it is bad. So there is an act to be kept.
pub record SaysSome (nodes : Option ℕ) (lines : List (List ℕ)) : Type 0 where
  pub before : List (List ℕ)
  pub line : List ℕ
  pub after : List (List ℕ)
  pub whole : lines ≡ before ++ line ∷ after
  pub good : (acts : List Act) × (numbers : List ℕ) × SayActs nodes 1 before acts numbers
  pub says : (act : Act) × SaysAct nodes (words_on line) act

-- the longest text, in bytes
abbrev pub most_bytes : ℕ
most_bytes = 67108864

-- What a text of acts comes to: it is too long; or the acts that its lines say, each with its line, or the first line that is bad. Memory may
-- run out at any text.
abbrev pub ReadsActs : Option ℕ → List ℕ → Result LinedActs ActsFault → Type 0
ReadsActs nodes text (Ok lined) = (length text ≤ most_bytes) × SayActs nodes 1 (lines_of text) lined.acts.items lined.lines.items
ReadsActs nodes text (Err TooLong) = most_bytes < length text
ReadsActs nodes text (Err (BadAct line)) = (length text ≤ most_bytes) × IsFirstBad nodes (lines_of text) line
ReadsActs nodes text (Err NoMemory) = Unit {0}
