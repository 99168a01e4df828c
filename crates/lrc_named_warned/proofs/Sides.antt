-- What a core has to say, by what was found of it.
use Rattle.std.proofs.Common.{◌≡◌, ℕ, List, []}
use Rattle.std.specs.Prelude.{IsPermutation}
use Rattle.lrc_lang.specs.Faults.{IsText}
use Rattle.lrc_lang.specs.Positions.{HasLocated, Located}
use Rattle.lrc_program.specs.Tree.{ProgramTree}
use Rattle.lrc_lint.specs.Linted.{labels_in, tokens_of}
use Rattle.lrc_lint_warned.specs.Places.{statements_at}
use Rattle.lrc_lint_warnings.specs.Collected.{found_in}
use Rattle.lrc_lint_warnings.specs.Order.{all_warnings}
use Rattle.lrc_private_names.specs.Spelling.{AreNamesOf}
use Rattle.lrc_named_warned.specs.Places.{begins_in, numbered}
use Rattle.lrc_named_warned.specs.Side.{IsCoreSide, Side}

pub side_is : (core : List ℕ) (p : ProgramTree) (side : Side) (all : List Located) → IsText core p → HasLocated core all
    → IsPermutation (all_warnings (numbered (tokens_of all)) (found_in p (tokens_of all)) []) side.warned
    → side.begins ≡ begins_in (statements_at (tokens_of all) p.statements) → AreNamesOf core side.names → side.labels ≡ labels_in p core
    → IsCoreSide core p side
side_is core p side all is_program are warned begins names labels = record {
  is_program = is_program;
  all = all;
  are = are;
  warned = warned;
  begins = begins;
  names = names;
  labels = labels;
}
