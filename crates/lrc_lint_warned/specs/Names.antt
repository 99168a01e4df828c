-- Names that are read and never set, and names that are set and never read.
use Rattle.std.specs.Prelude.{ℕ, Bool, Option, Some, None, List, find, if◌then◌else◌, option_map, []}
use Rattle.std.specs.List.{flat_map, list_any, range_with_len}
use Rattle.lrc_program.specs.Statements.{Expression, private, Statement, assign, read}
use Rattle.lrc_lint_warned.specs.declared.found.Found.{Found}
use Rattle.lrc_lint_warned.specs.declared.found.Kind.TheVariants.{NeverSet, NeverRead}
use Rattle.lrc_lint_warned.specs.Constant.{is_value}
use Rattle.lrc_lint_warned.specs.Found.{StatementAt, NodeAt, found_where}

-- the name that a part of an expression reads
abbrev pub name_of : Expression → Option ℕ
name_of (private k) = Some k
name_of _ = None

-- the name that a statement sets
abbrev pub set_by : Statement → Option ℕ
set_by (assign k value) = Some k
set_by (read k word) = Some k
set_by _ = None

-- a part of an expression is the reading of this name
abbrev pub is_name : ℕ → Expression → Bool
is_name name e = is_value (name_of e) name

-- a statement sets this name
abbrev pub sets : ℕ → Statement → Bool
sets name s = is_value (set_by s) name

abbrev pub some_read : List NodeAt → ℕ → Bool
some_read nodes name = list_any (λ n. is_name name n.node) nodes

abbrev pub some_set : List StatementAt → ℕ → Bool
some_set statements name = list_any (λ s. sets name s.statement) statements

-- at its first reading, a name that no statement sets
abbrev pub never_set_of : List NodeAt → List StatementAt → ℕ → List Found
never_set_of nodes statements name =
    if some_set statements name then [] else found_where (option_map (λ n. n.at) (find (λ n. is_name name n.node) nodes)) (NeverSet name)

-- at its first setting, a name that no expression reads
abbrev pub never_read_of : List NodeAt → List StatementAt → ℕ → List Found
never_read_of nodes statements name =
    if some_read nodes name then [] else found_where (option_map (λ s. s.at) (find (λ s. sets name s.statement) statements)) (NeverRead name)

-- of all 32 names that a text may have
abbrev pub never_set : List NodeAt → List StatementAt → List Found
never_set nodes statements = flat_map (never_set_of nodes statements) (range_with_len 0 32)

abbrev pub never_read : List NodeAt → List StatementAt → List Found
never_read nodes statements = flat_map (never_read_of nodes statements) (range_with_len 0 32)
