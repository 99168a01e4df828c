-- What comes of a statement, by its kind.
use Rattle.std.specs.Prelude.{◌≡◌, ◌<◌, ◌⊎◌, ℕ, Bool, true, false, List, Option, Some, None, slice_index_or, slice_set}
use Rattle.lrc_program.specs.declared.Expression.{Expression}
use Rattle.lrc_program.specs.declared.Statement.{Statement}
use Rattle.lrc_program.specs.declared.Statement.TheVariants.{Assign, Read, Write, Acquire, Release, Barrier, Print, If', While'}
use Rattle.lrc_exec.specs.Meaning.{value_of}
use Rattle.lrc_ranges.specs.declared.range.Range.{Range}
use Rattle.lrc_ranges.specs.Ranges.{AreIn, IsIn, IsMet}
use Rattle.lrc_orders_reach.specs.declared.ahead.Ahead.{Ahead}
use Rattle.lrc_orders_reach.specs.declared.ahead.Follower.{Follower}

-- values lie in ranges, if there are any
abbrev pub AreInSome : Option (List Range) → List ℕ → Type 0
AreInSome None values = ⊥
AreInSome (Some names) values = AreIn names values

-- so it is of each value that the expression has, where values lie in these ranges
abbrev pub EachValue : Follower → Expression → List Range → (List ℕ → ℕ → Type 0) → Type 0
EachValue follower expression names P =
    (privates : List ℕ) (value : ℕ) → AreIn names privates → value_of follower.me follower.flat.nodes privates expression ≡ Some value → P privates value

-- on with these ranges, and with another one for a name
abbrev pub IsOn : List Range → Ahead → Type 0
IsOn names ahead = ahead.holds ≡ Some names

abbrev pub IsOnWith : (name : ℕ) → Range → List Range → Ahead → Type 0
IsOnWith name range names ahead = IsOn (slice_set names name range) ahead

-- that has what an expression gives
pub record Assigns (follower : Follower) (name : ℕ) (expression : Expression) (names : List Range) (ahead : Ahead) : Type 0 where
  pub range : Range
  pub has : EachValue follower expression names (λ privates value. IsIn range value)
  pub goes_on : IsOnWith name range names ahead

-- whatever the expression gives is a blocked lock
abbrev pub IsBlocked : Follower → Expression → List Range → Type 0
IsBlocked follower lock names = EachValue follower lock names (λ privates value. slice_index_or follower.blocked.now value false ≡ true)

abbrev pub Acquires : Follower → Expression → List Range → Ahead → Type 0
Acquires follower lock names ahead = IsBlocked follower lock names ⊎ IsOn names ahead

-- in these ranges are the values with which a condition holds, or fails
abbrev pub IsPartWhere : Follower → Expression → List Range → Bool → Option (List Range) → Type 0
IsPartWhere follower condition names holds part = EachValue follower condition names (λ privates value. IsMet holds value → AreInSome part privates)

pub record IsParted (follower : Follower) (condition : Expression) (names : List Range) (ahead : Ahead) : Type 0 where
  pub holds : IsPartWhere follower condition names true ahead.holds
  pub fails : IsPartWhere follower condition names false ahead.fails

-- what a node may read
pub record ReadsAny (name : ℕ) (names : List Range) (ahead : Ahead) : Type 0 where
  pub range : Range
  pub any : (value : ℕ) → IsIn range value
  pub goes_on : IsOnWith name range names ahead

-- what comes of a statement; a node that comes to a barrier waits there
abbrev pub IsAhead : Follower → List Range → Statement → Ahead → Type 0
IsAhead follower names (Assign name value) ahead = (name < 32) × Assigns follower name value names ahead
IsAhead follower names (Read name word) ahead = (name < 32) × ReadsAny name names ahead
IsAhead follower names (Write word value) ahead = IsOn names ahead
IsAhead follower names (Acquire lock) ahead = Acquires follower lock names ahead
IsAhead follower names (Release lock) ahead = IsOn names ahead
IsAhead follower names Barrier ahead = Unit {0}
IsAhead follower names (Print value) ahead = IsOn names ahead
IsAhead follower names (If' condition p first q second) ahead = IsParted follower condition names ahead
IsAhead follower names (While' condition p body) ahead = IsParted follower condition names ahead
