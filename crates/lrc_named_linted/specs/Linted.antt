-- What is told of a text that is read as a named program.
use Rattle.std.specs.Prelude.{◌≡◌, ◌⊎◌, ℕ, Some, List, ◌++◌, get_or}
use Rattle.lrc_named_tokens.specs.Token.{Located}
use Rattle.lrc_named_tree.specs.Tree.{NamedTree}
use Rattle.lrc_named_names.specs.Names.{Declared}
use Rattle.lrc_named_parse.specs.Faults.{IsNamed}
use Rattle.lrc_named_expression_faults.specs.declared.fault.Fault.{Fault}
use Rattle.lrc_named_expression_faults.specs.Fault.{IsFirstOf}
use Rattle.lrc_named_faults.specs.Program.{IsFaultOf}
use Rattle.lrc_named_limits.specs.declared.excess.Excess.{Excess}
use Rattle.lrc_named_written.specs.Written.{IsCoreLong, IsCoreOver, IsCoreText}
use Rattle.lrc_named.specs.Lines.{lines_of}
use Rattle.lrc_named.specs.Named.{IsFaultless}
use Rattle.lrc_named_lint.specs.Told.{TellsText}
use Rattle.lrc_named_lint_names.specs.Told.{TellsFault}
use Rattle.lrc_named_index_hint.specs.Line.{IsIndexHint}
use Rattle.lrc_named_lint_core.specs.Told.{core_long_lines, excess_lines, nowhere}

-- the text is this named program, and this is its first fault
pub record HasFirstFault (text : List ℕ) (tokens : List Located) (tree : NamedTree) (fault : Fault) : Type 0 where
  pub parsed : IsNamed text tokens tree
  pub first : IsFirstOf (λ f. IsFaultOf tree f) (Some fault)

-- this is told of the first fault of its names, and behind it, of an index that is out of range, its value and its size
pub record TellsNames (file text printed : List ℕ) : Type 0 where
  pub tokens : List Located
  pub tree : NamedTree
  pub fault : Fault
  pub has : HasFirstFault text tokens tree fault
  pub told : List ℕ
  pub tells : TellsFault file text tokens tree fault told
  pub line : List ℕ
  pub hint : IsIndexHint fault.kind tree fault.at line
  pub is : printed ≡ told ++ line

-- the core is over a limit, or too long, and this is told of it
abbrev pub TellsCoreOf : (file text printed : List ℕ) → List Located → NamedTree → List Declared → Type 0
TellsCoreOf file text printed tokens tree declared =
    ((x : Excess) × IsCoreOver declared tree x × (printed ≡ excess_lines file text (get_or tokens x.at nowhere) x.limit))
    ⊎ (IsCoreLong declared (lines_of tokens) tree × (printed ≡ core_long_lines file))

-- this is told of the core of a program whose names have no fault
pub record TellsCore (file text printed : List ℕ) : Type 0 where
  pub tokens : List Located
  pub tree : NamedTree
  pub declared : List Declared
  pub is : IsFaultless text tokens tree declared
  pub tells : TellsCoreOf file text printed tokens tree declared

-- this is told of the first fault of a text: of the text as such; else of its names; else of its core
abbrev pub TellsNamed : List ℕ → List ℕ → List ℕ → Type 0
TellsNamed file text printed = TellsText file text printed ⊎ (TellsNames file text printed ⊎ TellsCore file text printed)

-- the text has no fault: this is its core
pub record IsSound (text : List ℕ) : Type 0 where
  pub tokens : List Located
  pub tree : NamedTree
  pub declared : List Declared
  pub core : List ℕ
  pub is : IsFaultless text tokens tree declared
  pub written : IsCoreText declared (lines_of tokens) tree core
