-- What the text of a core needs so that its labels can be read back, and its core has where a named program has no fault.
use Rattle.std.specs.Prelude.{◌≡◌, ◌≢◌, ◌≤◌, ◌+◌, ℕ, true, List, [], ◌∷◌}
use Rattle.std.specs.List.{All, AllByRecursion}
use Rattle.lrc_lang.specs.Lexemes.{IsLetterOrDigit}
use Rattle.lrc_labels.specs.Name.{is_name}
use Rattle.lrc_named_tree.specs.Tree.{Declaration, Place}
use Rattle.lrc_named_names.specs.Elements.{elements}
use Rattle.lrc_named_names.specs.Names.{Declared, Meaning, constant, function, lock, shared}
use Rattle.lrc_named_core.specs.Tree.{Private, named, own, Expression, number, private, me, nodes, binary, Statement, Block, empty, next}
use Rattle.lrc_named_core.specs.Tree.{assign, read, write, acquire, release, barrier, print, if_else, while_do}

-- ---- what is declared

-- each is a number of 1 to 65,536
abbrev pub AreSizes : List ℕ → Type 0
AreSizes sizes = AllByRecursion (λ size. (1 ≤ size) × (size ≤ 65536)) sizes

-- an item has its words from this one on, or its locks
abbrev pub BeginsAt : (least_word least_lock : ℕ) → Meaning → Type 0
BeginsAt least_word least_lock (constant n) = Unit {0}
BeginsAt least_word least_lock (shared item) = (least_word ≤ item.first) × AreSizes item.sizes
BeginsAt least_word least_lock (lock item) = (least_lock ≤ item.first) × AreSizes item.sizes
BeginsAt least_word least_lock (function parameters body) = Unit {0}

-- the first word behind it, and the first lock
abbrev pub word_behind : ℕ → Meaning → ℕ
word_behind least (constant n) = least
word_behind least (shared item) = item.first + elements item.sizes
word_behind least (lock item) = least
word_behind least (function parameters body) = least

abbrev pub lock_behind : ℕ → Meaning → ℕ
lock_behind least (constant n) = least
lock_behind least (shared item) = least
lock_behind least (lock item) = item.first + elements item.sizes
lock_behind least (function parameters body) = least

-- the items lie one behind the other, from this word and this lock on, up to so many words and locks
abbrev pub LieBelow : (words locks least_word least_lock : ℕ) → List Declared → Type 0
LieBelow words locks least_word least_lock [] = (least_word ≤ words) × (least_lock ≤ locks)
LieBelow words locks least_word least_lock (d ∷ declared) =
    BeginsAt least_word least_lock d.meaning
    × LieBelow words locks (word_behind least_word d.meaning) (lock_behind least_lock d.meaning) declared

-- no two have one name
abbrev pub AreDifferent : List Declared → Type 0
AreDifferent [] = Unit {0}
AreDifferent (d ∷ declared) = AllByRecursion (λ (other : Declared). d.name ≢ other.name) declared × AreDifferent declared

-- names are names of the core too and no two are alike, and the items lie one behind the other among so many words and locks
pub record AreLaidOut (words locks : ℕ) (declared : List Declared) : Type 0 where
  pub names : AllByRecursion (λ (d : Declared). is_name d.name ≡ true) declared
  pub different : AreDifferent declared
  pub lie : LieBelow words locks 0 0 declared

-- what a declaration declares has a name of the core
abbrev pub HaveNames : Declaration → Type 0
HaveNames (Declaration.node_count at n) = Unit {0}
HaveNames (Declaration.constant at name value) = is_name name.bytes ≡ true
HaveNames (Declaration.shared at items) = AllByRecursion (λ (p : Place). is_name p.name.bytes ≡ true) items
HaveNames (Declaration.lock at items) = AllByRecursion (λ (p : Place). is_name p.name.bytes ≡ true) items
HaveNames (Declaration.function at name parameters body) = is_name name.bytes ≡ true

-- ---- statements

-- a private name is made of letters and digits
abbrev pub IsPlain : Private → Type 0
IsPlain (named bytes) = All IsLetterOrDigit bytes
IsPlain (own k first last) = Unit {0}

abbrev pub HasPlain : Expression → Type 0
HasPlain (number n) = Unit {0}
HasPlain (private name) = IsPlain name
HasPlain me = Unit {0}
HasPlain nodes = Unit {0}
HasPlain (binary left o right) = HasPlain left × HasPlain right

abbrev mutual
  pub IsPlainStatement : Statement → Type 0
  IsPlainStatement (assign origin name value) = IsPlain name × HasPlain value
  IsPlainStatement (read origin name word) = IsPlain name × HasPlain word
  IsPlainStatement (write origin word value) = HasPlain word × HasPlain value
  IsPlainStatement (acquire origin word) = HasPlain word
  IsPlainStatement (release origin word) = HasPlain word
  IsPlainStatement (barrier origin) = Unit {0}
  IsPlainStatement (print origin value) = HasPlain value
  IsPlainStatement (if_else origin condition first second) = HasPlain condition × ArePlain first × ArePlain second
  IsPlainStatement (while_do origin condition inside) = HasPlain condition × ArePlain inside

  pub ArePlain : Block → Type 0
  ArePlain empty = Unit {0}
  ArePlain (next first others) = IsPlainStatement first × ArePlain others
