-- Divisions by the constant 0, and comparisons that say whether a value is below 0.
use Rattle.std.specs.Prelude.{Bool, true, false, Option, Some, None, List, if◌then◌else◌}
use Rattle.std.specs.List.{flat_map}
use Rattle.lrc_program.specs.declared.Operator.TheVariants.{Divide, Remainder, Less, LessOrEqual, Greater, GreaterOrEqual}
use Rattle.lrc_program.specs.Statements.{Expression, binary}
use Rattle.lrc_lint_warned.specs.declared.found.Found.{Found}
use Rattle.lrc_lint_warned.specs.declared.found.Kind.{Kind}
use Rattle.lrc_lint_warned.specs.declared.found.Kind.TheVariants.{DivisionByZero, BelowZero}
use Rattle.lrc_lint_warned.specs.Constant.{is_constant}
use Rattle.lrc_lint_warned.specs.Found.{NodeAt, found_at}

abbrev pub kind_if : Bool → Kind → Option Kind
kind_if holds kind = if holds then Some kind else None

-- `/` or `%` whose right operand is the constant 0
abbrev pub division_kind : Expression → Option Kind
division_kind (binary left Divide right) = kind_if (is_constant right 0) DivisionByZero
division_kind (binary left Remainder right) = kind_if (is_constant right 0) DivisionByZero
division_kind _ = None

-- `.. < 0` and `0 > ..`, which never hold, and `.. >= 0` and `0 <= ..`, which always do
abbrev pub below_zero_kind : Expression → Option Kind
below_zero_kind (binary left Less right) = kind_if (is_constant right 0) (BelowZero false)
below_zero_kind (binary left Greater right) = kind_if (is_constant left 0) (BelowZero false)
below_zero_kind (binary left GreaterOrEqual right) = kind_if (is_constant right 0) (BelowZero true)
below_zero_kind (binary left LessOrEqual right) = kind_if (is_constant left 0) (BelowZero true)
below_zero_kind _ = None

abbrev pub division_by_zero : List NodeAt → List Found
division_by_zero nodes = flat_map (λ n. found_at n.at (division_kind n.node)) nodes

abbrev pub below_zero : List NodeAt → List Found
below_zero nodes = flat_map (λ n. found_at n.at (below_zero_kind n.node)) nodes
