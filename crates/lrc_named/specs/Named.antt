-- Named programs as texts: the core's text, and the faults.
use Rattle.std.specs.Prelude.{◌≡◌, ◌≤◌, ◌⊎◌, ℕ, Option, Some, None, List, [], ◌∷◌, ◌++◌, length}
use Rattle.lrc_lang.specs.declared.fault.FaultKind.{FaultKind as TextKind}
use Rattle.lrc_lang.specs.declared.fault.FaultKind.TheVariants.{OverLimit, TooLong}
use Rattle.lrc_named_tokens.specs.Token.{Located, Place}
use Rattle.lrc_named_tree.specs.Tree.{NamedTree}
use Rattle.lrc_named_parse.specs.Faults.{HasFirstFault, IsNamed, IsNamedText}
use Rattle.lrc_named_names.specs.Names.{Declared}
use Rattle.lrc_named_constants.specs.Layout.{AreDeclared}
use Rattle.lrc_named_expression_faults.specs.declared.fault.FaultKind.{FaultKind as NameKind}
use Rattle.lrc_named_expression_faults.specs.Fault.{IsFirstOf, IsNone, fault_at}
use Rattle.lrc_named_faults.specs.Checked.{counted_in}
use Rattle.lrc_named_faults.specs.Program.{IsFaultOf}
use Rattle.lrc_named_core.specs.Tree.{Trap}
use Rattle.lrc_named_limits.specs.declared.excess.Excess.{Excess}
use Rattle.lrc_named_origins.specs.Origins.{lines_told, origins_of, traps_told}
use Rattle.lrc_named_held.specs.Held.{Held, held_of}
use Rattle.lrc_named_held.specs.Owns.{owns_among}
use Rattle.lrc_named_written.specs.Written as written
use Rattle.lrc_named.specs.declared.fault.NamedFault.{NamedFault}
use Rattle.lrc_named.specs.declared.fault.NamedFault.TheVariants.{Text, Names, NoMemory}
use Rattle.lrc_named.specs.Lines.{last_of, line_at, lines_of, offsets_of}

-- the text is read as a named program. One that is too long is told as such, whatever it begins with.
abbrev pub IsReadAsNamed : List ℕ → Type 0
IsReadAsNamed text = (length text ≤ 65536) × IsNamedText text

-- the text is this named program, its names have no fault, and this is declared
pub record IsFaultless (text : List ℕ) (tokens : List Located) (tree : NamedTree) (declared : List Declared) : Type 0 where
  pub parsed : IsNamed text tokens tree
  pub faultless : IsNone (λ fault. IsFaultOf tree fault)
  pub are_declared : AreDeclared [] tree.declarations declared

-- The text is a named program without a fault, which asks for so many nodes, and the other text is that of its core.
pub record IsCoreText (text : List ℕ) (nodes : Option ℕ) (core : List ℕ) : Type 0 where
  pub tokens : List Located
  pub tree : NamedTree
  pub declared : List Declared
  pub is : IsFaultless text tokens tree declared
  pub asked : nodes ≡ counted_in None tree.declarations
  pub core_is : written.IsCoreText declared (lines_of tokens) tree core

-- The same, and the core's statements, in the order of its text, lie on these lines of the named text, behind which comes the line of its end,
-- this is said of a trap of each, and its names of the translation's own hold this.
pub record IsCoreTextOn (text : List ℕ) (nodes : Option ℕ) (core told : List ℕ) (traps : List Trap) (held : List (List Held)) : Type 0 where
  pub is : IsCoreText text nodes core
  pub traps_are : traps ≡ traps_told (origins_of is.core_is.statements)
  pub told_are : told ≡ lines_told (lines_of is.tokens) (origins_of is.core_is.statements) ++ last_of (lines_of is.tokens) ∷ []
  pub held_are : held ≡ held_of text (offsets_of is.tokens) (owns_among is.core_is.statements)

-- ---- faults

-- the first fault of the text as such
abbrev pub IsTextFault : List ℕ → (line : ℕ) → TextKind → Type 0
IsTextFault text line kind = (place : Place) × HasFirstFault text place kind × (line ≡ place.line)

-- the first fault of the names of a named program has this kind, and its token stands on this line
pub record IsNameFault (text : List ℕ) (line : ℕ) (kind : NameKind) : Type 0 where
  pub tokens : List Located
  pub tree : NamedTree
  pub parsed : IsNamed text tokens tree
  pub at : ℕ
  pub first : IsFirstOf (λ fault. IsFaultOf tree fault) (Some (fault_at at kind))
  pub stands : line ≡ line_at tokens at

-- the core of a named program is over a limit, which is told on the line of the first statement whose core is, or its text is too long
abbrev pub IsCoreFaultOf : List Located → NamedTree → List Declared → (line : ℕ) → TextKind → Type 0
IsCoreFaultOf tokens tree declared line OverLimit = (x : Excess) × written.IsCoreOver declared tree x × (line ≡ line_at tokens x.at)
IsCoreFaultOf tokens tree declared line TooLong = written.IsCoreLong declared (lines_of tokens) tree × (line ≡ 1)
IsCoreFaultOf tokens tree declared line _ = ⊥

pub record IsCoreFault (text : List ℕ) (line : ℕ) (kind : TextKind) : Type 0 where
  pub tokens : List Located
  pub tree : NamedTree
  pub declared : List Declared
  pub is : IsFaultless text tokens tree declared
  pub fault : IsCoreFaultOf tokens tree declared line kind

-- Why a text that is read as a named program has no core: the first fault of the text as such; else the first of its names; else that
-- of its core. Memory may run out at any time.
abbrev pub IsNamedFault : List ℕ → NamedFault → Type 0
IsNamedFault text (Text line kind) = IsTextFault text line kind ⊎ IsCoreFault text line kind
IsNamedFault text (Names line kind) = IsNameFault text line kind
IsNamedFault text NoMemory = Unit {0}
