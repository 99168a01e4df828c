-- What the core has to say: its warnings, and what they are told by.
use Rattle.std.specs.Prelude.{◌≡◌, ℕ, List, [], IsPermutation}
use Rattle.lrc_lang.specs.Faults.{IsText}
use Rattle.lrc_lang.specs.Positions.{HasLocated, Located}
use Rattle.lrc_program.specs.Tree.{ProgramTree}
use Rattle.lrc_labels.specs.Reading.{Label}
use Rattle.lrc_lint.specs.Linted.{labels_in, tokens_of}
use Rattle.lrc_lint_warned.specs.Places.{statements_at}
use Rattle.lrc_lint_warnings.specs.declared.warning.Warning.{Warning}
use Rattle.lrc_lint_warnings.specs.Collected.{found_in}
use Rattle.lrc_lint_warnings.specs.Order.{all_warnings}
use Rattle.lrc_private_names.specs.Spelling.{AreNamesOf}
use Rattle.lrc_named_warned.specs.Places.{begins_in, numbered}

pub record Side : Type 0 where
  -- what is warned of, each with the number of its token as its column
  pub warned : List Warning
  -- with which token each statement begins
  pub begins : List ℕ
  -- the private names, by number, and what the label lines say
  pub names : List (List ℕ)
  pub labels : List Label

-- This is what the core of this text has to say, in any order. A core has no label lines that say nothing.
pub record IsCoreSide (core : List ℕ) (p : ProgramTree) (side : Side) : Type 0 where
  pub is_program : IsText core p
  pub all : List Located
  pub are : HasLocated core all
  pub warned : IsPermutation (all_warnings (numbered (tokens_of all)) (found_in p (tokens_of all)) []) side.warned
  pub begins : side.begins ≡ begins_in (statements_at (tokens_of all) p.statements)
  pub names : AreNamesOf core side.names
  pub labels : side.labels ≡ labels_in p core
