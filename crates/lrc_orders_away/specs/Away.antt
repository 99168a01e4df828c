-- Threads that are about to make no act that conflicts with a deed.
use Rattle.std.specs.Prelude.{◌≡◌, ℕ, List, ◌∷◌, Some}
use Rattle.lrc_program.specs.declared.Expression.{Expression}
use Rattle.lrc_program.specs.declared.Statement.{Statement}
use Rattle.lrc_program.specs.declared.Statement.TheVariants as statements
use Rattle.lrc_trace.specs.declared.act.Deed.{Deed}
use Rattle.lrc_trace.specs.declared.act.Deed.TheVariants.{Read, Write, Acquire}
use Rattle.lrc_exec.specs.Meaning.{Thread, next_of, value_of}
use Rattle.lrc_orders_undisputed.specs.Undisputed.{Conflicts}
use Rattle.lrc_ranges.specs.declared.range.Range.{Range}
use Rattle.lrc_ranges.specs.Ranges.{AreIn}
use Rattle.lrc_orders_reach.specs.declared.ahead.Follower.{Follower}
use Rattle.lrc_orders_reach.specs.declared.standing.Standing.{Standing}
use Rattle.lrc_orders_reach.specs.Standing.{IsAmong, Stands, StandsIn, setting_of}

-- no thread at the statement is about to make an act that conflicts
abbrev pub IsAway : Follower → Statement → (rest : List Statement) → (names : List Range) → Deed → Type 0
IsAway follower statement rest names deed =
    (thread : Thread) → thread.rest ≡ statement ∷ rest → IsAmong (setting_of follower) names thread → ¬ Conflicts deed (next_of thread)

abbrev pub IsAwayAt : Follower → Standing → Deed → Type 0
IsAwayAt follower standing deed = (thread : Thread) → Stands follower.flat follower.me standing thread → ¬ Conflicts deed (next_of thread)

abbrev pub AreAway : Follower → List Standing → Deed → Type 0
AreAway follower all deed = (thread : Thread) → StandsIn follower.flat follower.me all thread → ¬ Conflicts deed (next_of thread)

-- the expression does not have this value
abbrev pub IsNever : Follower → Expression → (names : List Range) → (value : ℕ) → Type 0
IsNever follower expression names value =
    (privates : List ℕ) → AreIn names privates → ¬ (value_of follower.me follower.flat.nodes privates expression ≡ Some value)

-- the deed is no read, no write of the word that it gives, and no acquire of the lock
abbrev pub IsNoRead : Follower → Expression → (names : List Range) → Deed → Type 0
IsNoRead follower word names deed = (w v : ℕ) → deed ≡ Read w v → IsNever follower word names w

abbrev pub IsNoWrite : Follower → Expression → (names : List Range) → Deed → Type 0
IsNoWrite follower word names deed = (w v : ℕ) → deed ≡ Write w v → IsNever follower word names w

abbrev pub IsNoAcquire : Follower → Expression → (names : List Range) → Deed → Type 0
IsNoAcquire follower lock names deed = (l : ℕ) → deed ≡ Acquire l → IsNever follower lock names l

-- it does not conflict with the act of the statement
abbrev pub IsAwayBy : Follower → (names : List Range) → Deed → Statement → Type 0
IsAwayBy follower names deed (statements.Read name word) = IsNoWrite follower word names deed
IsAwayBy follower names deed (statements.Write word value) = IsNoRead follower word names deed × IsNoWrite follower word names deed
IsAwayBy follower names deed (statements.Acquire lock) = IsNoAcquire follower lock names deed
IsAwayBy follower names deed _ = Unit {0}
