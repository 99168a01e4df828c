-- Names that matter: those whose values what is still to do may use before it sets them.
use Rattle.std.specs.Prelude.{◌≡◌, ℕ, Bool, true, false, not, nat_eq, ◌||◌, ◌&&◌, List, [], ◌∷◌, length, slice_index}
use Rattle.lrc_program.specs.declared.Expression.{Expression}
use Rattle.lrc_program.specs.declared.Expression.TheVariants.{Number, Private, Me, Nodes, Binary'}
use Rattle.lrc_program.specs.declared.Statement.{Statement, Row_of-Statement, end_of-Statement, more_of-Statement}
use Rattle.lrc_program.specs.declared.Statement.TheVariants.{Assign, Read, Write, Acquire, Release, Barrier, Print, If', While'}
use Rattle.lrc_exec.specs.Meaning.{Thread}

-- whether an expression has a name
abbrev pub uses : Expression → ℕ → Bool
uses (Number n) name = false
uses (Private own) name = nat_eq own name
uses Me name = false
uses Nodes name = false
uses (Binary' p left operator q right) name = uses left name || uses right name

-- no name
abbrev pub no_name : ℕ → Bool
no_name name = false

-- Whether a name matters in front of a statement, and in front of those of a block, where these matter behind: it is used, or it
-- matters behind and is not set. A loop may be done never, or once more.
abbrev mutual
  pub matters : Statement → (behind : ℕ → Bool) → ℕ → Bool
  matters (Assign own value) behind name = uses value name || (behind name && not (nat_eq own name))
  matters (Read own word) behind name = uses word name || (behind name && not (nat_eq own name))
  matters (Write word value) behind name = uses word name || (uses value name || behind name)
  matters (Acquire lock) behind name = uses lock name || behind name
  matters (Release lock) behind name = uses lock name || behind name
  matters Barrier behind name = behind name
  matters (Print value) behind name = uses value name || behind name
  matters (If' condition p first q second) behind name = uses condition name || (matters_in first behind name || matters_in second behind name)
  matters (While' condition p body) behind name = uses condition name || (behind name || matters_in body no_name name)

  pub matters_in : {m : _} → Row_of-Statement m → (behind : ℕ → Bool) → ℕ → Bool
  matters_in end_of-Statement behind name = behind name
  matters_in (more_of-Statement first more) behind name = matters first (matters_in more behind) name

-- whether it matters in front of statements that are still to do
abbrev pub matters_still : List Statement → ℕ → Bool
matters_still [] name = false
matters_still (first ∷ more) name = matters first (matters_still more) name

-- two threads have the same still to do, hold the same locks, and have the same values of the names that matter
pub record AgreeWhereItMatters (t u : Thread) : Type 0 where
  pub setting : t.setting ≡ u.setting
  pub rest : t.rest ≡ u.rest
  pub held : t.held ≡ u.held
  pub arrived : t.arrived ≡ u.arrived
  pub count : length t.privates ≡ length u.privates
  pub names : (name : ℕ) → matters_still t.rest name ≡ true → slice_index t.privates name ≡ slice_index u.privates name
