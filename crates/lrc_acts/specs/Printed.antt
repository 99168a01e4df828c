-- Acts as they are printed, each with the line of a program that it is of, and what a reader makes of that text.
use Rattle.std.specs.Prelude.{◌≡◌, ◌≤◌, ◌+◌, ℕ, List, [], ◌∷◌, ◌++◌, Option, None}
use Rattle.lrc_trace.specs.declared.act.Act.{Act}
use Rattle.lrc_trace.specs.declared.act.Deed.{Deed}
use Rattle.lrc_trace.specs.declared.act.Deed.TheVariants.{Print, Read, Write, Acquire, Release}
use Rattle.lrc_text.specs.ActText.{act_line}
use Rattle.lrc_text.specs.Lines.{lines_of}
use Rattle.lrc_acts.specs.ActsText.{SayActs}

-- a value of 64 bits, a word of shared memory, and a lock
abbrev pub IsValue : ℕ → Type 0
IsValue value = value ≤ 18446744073709551615

abbrev pub IsWord : ℕ → Type 0
IsWord word = word ≤ 4294967295

abbrev pub IsLock : ℕ → Type 0
IsLock lock = lock ≤ 255

-- the numbers of a deed are of their kinds
abbrev pub IsRangedDeed : Deed → Type 0
IsRangedDeed (Print value) = IsValue value
IsRangedDeed (Read word value) = IsWord word × IsValue value
IsRangedDeed (Write word value) = IsWord word × IsValue value
IsRangedDeed (Acquire lock) = IsLock lock
IsRangedDeed (Release lock) = IsLock lock
IsRangedDeed _ = Unit {0}

-- the act is of a node from 0 to 15, and the numbers of its deed are of their kinds
pub record IsRanged (act : Act) : Type 0 where
  pub node : act.node ≤ 15
  pub deed : IsRangedDeed act.deed

-- the text of acts, each with the line that it is of
pub data IsPrinted : List Act → List ℕ → Type 0 where
  nothing : IsPrinted [] []
  line_more : {acts : List Act} {text : List ℕ} (act : Act) (line : ℕ) → IsValue line → IsRanged act → IsPrinted acts text
      → IsPrinted (act ∷ acts) (act_line act line ++ text)

-- as many numbers as there are acts, from this one on
abbrev pub numbers_from : ℕ → List Act → List ℕ
numbers_from number [] = []
numbers_from number (act ∷ acts) = number ∷ numbers_from (number + 1) acts

-- what is printed of acts is read as these acts, the first of them on line 1, each on a line of its own
abbrev pub PrintedIsRead : Type 0
PrintedIsRead = (acts : List Act) (text : List ℕ) → IsPrinted acts text → SayActs None 1 (lines_of text) acts (numbers_from 1 acts)

-- lines say one list of acts on one list of lines, and no other
abbrev pub SaysOne : Type 0
SaysOne = (nodes : Option ℕ) (lines : List (List ℕ)) (acts others : List Act) (numbers other_numbers : List ℕ) → SayActs nodes 1 lines acts numbers
    → SayActs nodes 1 lines others other_numbers → (acts ≡ others) × (numbers ≡ other_numbers)
