-- Locks that are acquired and never released.
use Rattle.std.specs.Prelude.{ℕ, Bool, false, List, [], find, if◌then◌else◌, option_map}
use Rattle.std.specs.List.{flat_map, list_any, range_with_len}
use Rattle.lrc_program.specs.Statements.{Statement, acquire, release}
use Rattle.lrc_lint_warned.specs.declared.found.Found.{Found}
use Rattle.lrc_lint_warned.specs.declared.found.Kind.TheVariants.{NeverReleased}
use Rattle.lrc_lint_warned.specs.Constant.{constant_of, is_constant}
use Rattle.lrc_lint_warned.specs.Found.{StatementAt, found_where}
use Rattle.lrc_lint_warned.specs.Words.{may_be}

-- an acquire, and a release, of this lock as a constant
abbrev pub acquires : ℕ → Statement → Bool
acquires lock (acquire e) = is_constant e lock
acquires lock _ = false

abbrev pub releases : ℕ → Statement → Bool
releases lock (release e) = is_constant e lock
releases lock _ = false

-- an acquire, and a release, that may be of this lock: of no other constant
abbrev pub may_acquire : ℕ → Statement → Bool
may_acquire lock (acquire e) = may_be (constant_of e) lock
may_acquire lock _ = false

abbrev pub may_release : ℕ → Statement → Bool
may_release lock (release e) = may_be (constant_of e) lock
may_release lock _ = false

-- at the first acquire, a constant lock where all releases are of other constants
abbrev pub never_released_of : List StatementAt → ℕ → List Found
never_released_of statements lock =
    if list_any (λ s. may_release lock s.statement) statements then [] else
    found_where (option_map (λ s. s.at) (find (λ s. acquires lock s.statement) statements)) (NeverReleased lock)

-- of the locks that there are
abbrev pub never_released : ℕ → List StatementAt → List Found
never_released locks statements = flat_map (never_released_of statements) (range_with_len 0 locks)
