-- Choices and loops: barriers that not every node may reach, and conditions that nothing changes.
use Rattle.std.specs.Prelude.{ℕ, ◌==◌, ◌&&◌, ◌||◌, not, Bool, true, false, Option, Some, None, List, count_by, is_none, slice_index_or}
use Rattle.std.specs.List.{flat_map, list_all, list_any}
use Rattle.lrc_program.specs.Statements.{Expression, private, me, Statement, assign, read, acquire, barrier, if_else, while_do, Block}
use Rattle.lrc_lint_warned.specs.declared.found.Found.{Found}
use Rattle.lrc_lint_warned.specs.declared.found.Kind.{Kind}
use Rattle.lrc_lint_warned.specs.declared.found.Kind.TheVariants.{UnevenBarriers, UncertainRounds, UnchangedCondition, LearnsNothing}
use Rattle.lrc_lint_warned.specs.Constant.{constant_of}
use Rattle.lrc_lint_warned.specs.Found.{StatementAt, found_at}
use Rattle.lrc_lint_warned.specs.Inside.{nodes_in, statements_in}
use Rattle.lrc_lint_warned.specs.Names.{is_name, name_of, sets}
use Rattle.lrc_lint_warned.specs.Operations.{kind_if}

abbrev pub is_me : Expression → Bool
is_me me = true
is_me _ = false

abbrev pub has_me : Expression → Bool
has_me e = list_any is_me (nodes_in e)

abbrev pub is_barrier : Statement → Bool
is_barrier barrier = true
is_barrier _ = false

abbrev pub is_acquire : Statement → Bool
is_acquire (acquire lock) = true
is_acquire _ = false

-- how many barriers are written in a block
abbrev pub barriers_in : Block → ℕ
barriers_in b = count_by is_barrier (statements_in b)

-- an `if` with `me` in its condition, in whose block stand more barriers than in its else's, or fewer
abbrev pub uneven_kind : Statement → Option Kind
uneven_kind (if_else condition then otherwise) = kind_if (has_me condition && not (barriers_in then == barriers_in otherwise)) UnevenBarriers
uneven_kind _ = None

-- a `while` with `me` in its condition and a barrier in it
abbrev pub rounds_kind : Statement → Option Kind
rounds_kind (while_do condition inside) = kind_if (has_me condition && list_any is_barrier (statements_in inside)) UncertainRounds
rounds_kind _ = None

-- a name that one of these statements sets
abbrev pub is_set_in : List Statement → Expression → Bool
is_set_in statements (private k) = list_any (sets k) statements
is_set_in statements _ = false

-- an expression with a name that one of these statements sets
abbrev pub has_set : List Statement → Expression → Bool
has_set statements e = list_any (is_set_in statements) (nodes_in e)

-- a `while` whose condition is no constant and has no name that is set in it
abbrev pub unchanged_kind : Statement → Option Kind
unchanged_kind (while_do condition inside) =
    kind_if (is_none (constant_of condition) && not (has_set (statements_in inside) condition)) UnchangedCondition
unchanged_kind _ = None

-- an expression with this name
abbrev pub has_name : ℕ → Expression → Bool
has_name name e = list_any (is_name name) (nodes_in e)

-- Of a statement in a loop: where it sets a name of the loop's condition, it is a shared read of a word without a name that is set
-- in the loop.
abbrev pub is_still : List Statement → Expression → Statement → Bool
is_still statements condition (assign k value) = not (has_name k condition)
is_still statements condition (read k word) = not (has_name k condition) || not (has_set statements word)
is_still statements condition _ = true

-- whether an acquire or a barrier is among these
abbrev pub some_learns : List Statement → Bool
some_learns statements = list_any (λ s. is_acquire s || is_barrier s) statements

-- a loop without acquire and barrier, whose condition has names that are set in it, all by shared reads of the same words each time
abbrev pub learns_nothing : Expression → List Statement → Bool
learns_nothing condition statements =
    not (some_learns statements) && (has_set statements condition && list_all (is_still statements condition) statements)

-- ---- the same by tables, which have `true` at the names that are set in a loop and at those of its condition

-- whether a table has a name
abbrev pub is_marked : List Bool → Option ℕ → Bool
is_marked marked None = false
is_marked marked (Some k) = slice_index_or marked k false

abbrev pub some_marked : List Bool → List Expression → Bool
some_marked marked nodes = list_any (λ n. is_marked marked (name_of n)) nodes

abbrev pub is_still_by : List Bool → List Bool → Statement → Bool
is_still_by set of_condition (assign k value) = not (slice_index_or of_condition k false)
is_still_by set of_condition (read k word) = not (slice_index_or of_condition k false) || not (some_marked set (nodes_in word))
is_still_by set of_condition _ = true

abbrev pub learns_kind : Statement → Option Kind
learns_kind (while_do condition inside) = kind_if (learns_nothing condition (statements_in inside)) LearnsNothing
learns_kind _ = None

abbrev pub each_of : (Statement → Option Kind) → List StatementAt → List Found
each_of kind statements = flat_map (λ s. found_at s.at (kind s.statement)) statements

abbrev pub uneven_barriers : List StatementAt → List Found
uneven_barriers = each_of uneven_kind

abbrev pub uncertain_rounds : List StatementAt → List Found
uncertain_rounds = each_of rounds_kind

abbrev pub unchanged_conditions : List StatementAt → List Found
unchanged_conditions = each_of unchanged_kind

abbrev pub learning_nothing : List StatementAt → List Found
learning_nothing = each_of learns_kind
