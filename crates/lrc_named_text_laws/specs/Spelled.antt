-- Cores whose names and numbers can be written.
use Rattle.std.specs.Prelude.{◌<◌, ◌^◌, ◌-◌, ◌+◌, ℕ, List, [], ◌∷◌}
use Rattle.std.specs.List.{All, AllByRecursion}
use Rattle.lrc_lang.specs.Lexemes.{BeginsWith, IsKeyword, IsLetter, IsLetterOrDigit}
use Rattle.lrc_named_names.specs.Names.{Declared, Meaning, constant, function, lock, shared}
use Rattle.lrc_named_names.specs.Elements.{elements}
use Rattle.lrc_named_core.specs.Tree.{Private, named, own, Expression, number, private, me, nodes, binary, Statement, Block, empty, next}
use Rattle.lrc_named_core.specs.Tree.{assign, read, write, acquire, release, barrier, print, if_else, while_do}

-- a word, and none that the language keeps for itself
pub record IsName (bytes : List ℕ) : Type 0 where
  pub begins : BeginsWith IsLetter bytes
  pub each : All IsLetterOrDigit bytes
  pub other : ¬ IsKeyword bytes

-- a number of 64 bits
abbrev pub Fits : ℕ → Type 0
Fits n = n < 2 ^ 64

abbrev pub IsSpelledName : Private → Type 0
IsSpelledName (named bytes) = IsName bytes
IsSpelledName (own k first last) = Fits k

abbrev pub IsSpelled : Expression → Type 0
IsSpelled (number n) = Fits n
IsSpelled (private name) = IsSpelledName name
IsSpelled me = Unit {0}
IsSpelled nodes = Unit {0}
IsSpelled (binary left o right) = IsSpelled left × IsSpelled right

abbrev mutual
  pub IsSpelledStatement : Statement → Type 0
  IsSpelledStatement (assign origin name value) = IsSpelledName name × IsSpelled value
  IsSpelledStatement (read origin name word) = IsSpelledName name × IsSpelled word
  IsSpelledStatement (write origin word value) = IsSpelled word × IsSpelled value
  IsSpelledStatement (acquire origin word) = IsSpelled word
  IsSpelledStatement (release origin word) = IsSpelled word
  IsSpelledStatement (barrier origin) = Unit {0}
  IsSpelledStatement (print origin value) = IsSpelled value
  IsSpelledStatement (if_else origin condition first second) = IsSpelled condition × AreSpelled first × AreSpelled second
  IsSpelledStatement (while_do origin condition inside) = IsSpelled condition × AreSpelled inside

  pub AreSpelled : Block → Type 0
  AreSpelled empty = Unit {0}
  AreSpelled (next first others) = IsSpelledStatement first × AreSpelled others

-- the line of an item's label can be written: the numbers of its words or locks fit, and so do its sizes
abbrev pub IsLabelled : (name : List ℕ) → (first : ℕ) → (sizes : List ℕ) → Type 0
IsLabelled name first [] = All IsLetterOrDigit name × Fits first
IsLabelled name first (size ∷ sizes) =
    All IsLetterOrDigit name × Fits first × Fits (first + (elements (size ∷ sizes) - 1)) × AllByRecursion Fits sizes

abbrev pub IsLabelledAs : List ℕ → Meaning → Type 0
IsLabelledAs name (constant n) = Unit {0}
IsLabelledAs name (shared item) = IsLabelled name item.first item.sizes
IsLabelledAs name (lock item) = IsLabelled name item.first item.sizes
IsLabelledAs name (function parameters body) = Unit {0}

abbrev pub AreLabelled : List Declared → Type 0
AreLabelled declared = AllByRecursion (λ (d : Declared). IsLabelledAs d.name d.meaning) declared
