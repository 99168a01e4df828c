-- What is found of the names of a whole named program.
use Rattle.std.specs.Prelude.{◌≡◌, ◌≤◌, None, Some, []}
use Rattle.lrc_named_tree.specs.Tree.{NamedTree}
use Rattle.lrc_named_names.specs.View.{declared_of}
use Rattle.lrc_named_constants.specs.Layout.{AreDeclared, locks_in, words_in}
use Rattle.lrc_named_constants.specs.Well.{IsSound}
use Rattle.lrc_named_expression_faults.specs.Fault.{IsFirstOf, IsNone}
use Rattle.lrc_named_faults.specs.declared.layout.Layout as code_layout
use Rattle.lrc_named_faults.specs.declared.values.Found.{Found}
use Rattle.lrc_named_faults.specs.declared.values.Found.TheVariants.{Good, Bad}
use Rattle.lrc_named_faults.specs.Checked.{counted_in}
use Rattle.lrc_named_faults.specs.Layout.{IsLaidOut}
use Rattle.lrc_named_faults.specs.Program.{IsFaultOf}
use Rattle.lrc_named_statements.specs.Well.{IsWellBlock}

-- a program has no fault, this is declared and counted, and names are used as what they are
pub record IsClean (p : NamedTree) (layout : code_layout.Layout) : Type 0 where
  pub no_fault : IsNone (λ f. IsFaultOf p f)
  pub declared : AreDeclared [] p.declarations (declared_of layout.names)
  pub laid_out : IsLaidOut layout
  pub table : IsSound (declared_of layout.names)
  pub well : IsWellBlock (declared_of layout.names) p.statements
  pub few_words : words_in (declared_of layout.names) ≤ 65536
  pub few_locks : locks_in (declared_of layout.names) ≤ 64
  pub nodes : layout.nodes ≡ counted_in None p.declarations

-- such names, or the first fault
abbrev pub AreNamesFound : NamedTree → Found code_layout.Layout → Type 0
AreNamesFound p (Good layout) = IsClean p layout
AreNamesFound p (Bad fault) = IsFirstOf (λ f. IsFaultOf p f) (Some fault)
