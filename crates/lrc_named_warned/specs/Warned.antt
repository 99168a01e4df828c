-- What is told of a named program without a fault.
use Rattle.std.specs.Prelude.{◌≢◌, ℕ, List, []}
use Rattle.lrc_lang.specs.Faults.{IsText}
use Rattle.lrc_program.specs.Tree.{ProgramTree}
use Rattle.lrc_named_tokens.specs.Token.{Located}
use Rattle.lrc_named_tree.specs.Tree.{NamedTree}
use Rattle.lrc_named_names.specs.Names.{Declared}
use Rattle.lrc_named_core.specs.Tree.{Origin}
use Rattle.lrc_named_origins.specs.Origins.{origins_of}
use Rattle.lrc_named_written.specs.Written.{IsCoreText}
use Rattle.lrc_named_uses.specs.Loops.{loops_in}
use Rattle.lrc_named_uses.specs.Unused.{unused_of}
use Rattle.lrc_named_warnings.specs.Context.{Context}
use Rattle.lrc_named_warnings.specs.Told.{Tells}
use Rattle.lrc_named.specs.declared.fault.NamedFault.{NamedFault}
use Rattle.lrc_named.specs.declared.fault.NamedFault.TheVariants.{NoMemory}
use Rattle.lrc_named.specs.Lines.{lines_of}
use Rattle.lrc_named.specs.Named.{IsFaultless, IsNamedFault}
use Rattle.lrc_named_warned.specs.Places.{spots_of}
use Rattle.lrc_named_warned.specs.Side.{IsCoreSide, Side}

-- the text has a fault
abbrev pub HasFault : List ℕ → Type 0
HasFault text = (fault : NamedFault) × IsNamedFault text fault × (fault ≢ NoMemory)

-- what the warnings are told by, of a program that declares this, whose core's statements come from this, and whose core has this to say
abbrev pub context_of : List Located → NamedTree → List Declared → List Origin → Side → Context
context_of tokens tree declared origins side = record {
  spots = spots_of tokens;
  origins = origins;
  begins = side.begins;
  names = side.names;
  labels = side.labels;
  loops = loops_in declared tokens tree.statements;
  unused = unused_of tokens tree.declarations;
}

-- this is told by what the core has to say, and by the text of the named program
abbrev pub TellsOf : List ℕ → List Located → NamedTree → List Declared → List Origin → Side → List ℕ → Type 0
TellsOf file tokens tree declared origins side printed = Tells file (context_of tokens tree declared origins side) side.warned [] printed

-- the same, of a core with this text
pub record TellsCore (file : List ℕ) (tokens : List Located) (tree : NamedTree) (declared : List Declared) (core : List ℕ) (origins : List Origin)
    (printed : List ℕ) : Type 0 where
  pub program : ProgramTree
  pub side : Side
  pub is_side : IsCoreSide core program side
  pub tells : TellsOf file tokens tree declared origins side printed

-- the text is that of a program
abbrev pub IsProgramText : List ℕ → Type 0
IsProgramText text = (program : ProgramTree) × IsText text program

-- This is told of a text that is a named program without a fault: what is warned of in its core, loops that learn of no write, and names that
-- nothing uses.
pub record WarnsNamed (file text printed : List ℕ) : Type 0 where
  pub tokens : List Located
  pub tree : NamedTree
  pub declared : List Declared
  pub is : IsFaultless text tokens tree declared
  pub core : List ℕ
  pub core_is : IsCoreText declared (lines_of tokens) tree core
  pub tells : TellsCore file tokens tree declared core (origins_of core_is.statements) printed
