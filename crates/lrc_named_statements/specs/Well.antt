-- Statements in which names are used as what they are.
use Rattle.std.specs.Prelude.{Bool, true, false, Option, Some, None, List, [], length}
use Rattle.lrc_named_tree.specs.Tree.{Expressions, none, more, Place, Statement, Block, Arms}
use Rattle.lrc_named_tree.specs.Tree.{assign, acquire, release, with_do, barrier, print, assert, if_else, while_do, for_do, empty, next, no_arm, arm}
use Rattle.lrc_named_names.specs.Names.{Meaning, constant, shared, lock, function, Declared, meaning_of}
use Rattle.lrc_named_constants.specs.Well.{IsWell, AreWell}

-- what a statement sets: a private name, which has no index, or a shared item
abbrev pub IsSettable : Option Meaning → Expressions → Type 0
IsSettable None none = Unit {0}
IsSettable None (more e others) = ⊥
IsSettable (Some (constant n)) indices = ⊥
IsSettable (Some (shared item)) indices = Unit {0}
IsSettable (Some (lock item)) indices = ⊥
IsSettable (Some (function parameters body)) indices = ⊥

abbrev pub IsLock : Option Meaning → Type 0
IsLock None = ⊥
IsLock (Some (constant n)) = ⊥
IsLock (Some (shared item)) = ⊥
IsLock (Some (lock item)) = Unit {0}
IsLock (Some (function parameters body)) = ⊥

-- whether it is a shared item
abbrev pub is_shared : Option Meaning → Bool
is_shared None = false
is_shared (Some (constant n)) = false
is_shared (Some (shared item)) = true
is_shared (Some (lock item)) = false
is_shared (Some (function parameters body)) = false

-- a lock, with indices in which names are used as what they are
abbrev pub IsLockPlace : List Declared → Place → Type 0
IsLockPlace declared p = IsLock (meaning_of declared p.name.bytes) × AreWell declared [] (length declared) p.indices

abbrev mutual
  pub IsWellStatement : List Declared → Statement → Type 0
  IsWellStatement declared (assign p update value) =
      IsSettable (meaning_of declared p.name.bytes) p.indices × AreWell declared [] (length declared) p.indices × IsWell declared [] (length declared) value
  IsWellStatement declared (acquire at p) = IsLockPlace declared p
  IsWellStatement declared (release at p) = IsLockPlace declared p
  IsWellStatement declared (with_do at p inside close) = IsLockPlace declared p × IsWellBlock declared inside
  IsWellStatement declared (barrier at) = Unit {0}
  IsWellStatement declared (print at values) = AreWell declared [] (length declared) values
  IsWellStatement declared (assert at condition) = IsWell declared [] (length declared) condition
  IsWellStatement declared (if_else at condition then others otherwise) =
      IsWell declared [] (length declared) condition × IsWellBlock declared then × AreWellArms declared others × IsWellBlock declared otherwise
  IsWellStatement declared (while_do at condition inside) = IsWell declared [] (length declared) condition × IsWellBlock declared inside
  IsWellStatement declared (for_do at name first end inside) =
      IsWell declared [] (length declared) first × IsWell declared [] (length declared) end × IsWellBlock declared inside

  pub IsWellBlock : List Declared → Block → Type 0
  IsWellBlock declared empty = Unit {0}
  IsWellBlock declared (next statement others) = IsWellStatement declared statement × IsWellBlock declared others

  pub AreWellArms : List Declared → Arms → Type 0
  AreWellArms declared no_arm = Unit {0}
  AreWellArms declared (arm at condition block others) =
      IsWell declared [] (length declared) condition × IsWellBlock declared block × AreWellArms declared others
