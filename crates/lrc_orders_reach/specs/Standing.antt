-- Threads that stand at places with values in ranges, and what comes of them.
use Rattle.std.specs.Prelude.{◌≡◌, ◌⊎◌, ℕ, Bool, true, false, List, ◌∷◌, Option, Some, None, length, slice_get, slice_index_or}
use Rattle.lrc_program.specs.declared.Statement.{Statement}
use Rattle.lrc_trace.specs.declared.act.Deed.{Deed}
use Rattle.lrc_trace.specs.declared.act.Deed.TheVariants.{Acquire, Depart}
use Rattle.lrc_exec.specs.declared.spot.Flat.{Flat}
use Rattle.lrc_exec.specs.declared.spot.Spot.{Spot}
use Rattle.lrc_exec.specs.Flat.{rest_at, where_it_holds, where_it_fails}
use Rattle.lrc_exec.specs.Meaning.{Setting, Thread, next_of}
use Rattle.lrc_exec.specs.Spots.{spot_thread}
use Rattle.lrc_exec.specs.Follows.{Goes}
use Rattle.lrc_ranges.specs.declared.range.Range.{Range}
use Rattle.lrc_ranges.specs.Ranges.{AreIn}
use Rattle.lrc_orders_reach.specs.Ahead.{AreInSome}
use Rattle.lrc_orders_reach.specs.declared.ahead.Ahead.{Ahead}
use Rattle.lrc_orders_reach.specs.declared.ahead.Follower.{Follower}
use Rattle.lrc_orders_reach.specs.declared.standing.Standing.{Standing}

abbrev pub setting_at : Flat → (me : ℕ) → Setting
setting_at flat me = record { words = flat.words; locks = flat.locks; me = me; nodes = flat.nodes }

-- a thread of this setting at no barrier, whose values lie in these ranges
pub record IsAmong (setting : Setting) (names : List Range) (thread : Thread) : Type 0 where
  pub setting_is : thread.setting ≡ setting
  pub size : length thread.privates ≡ 32
  pub values : AreIn names thread.privates
  pub going : thread.arrived ≡ false

-- it stands at the place
pub record Stands (flat : Flat) (me : ℕ) (standing : Standing) (thread : Thread) : Type 0 where
  pub rest_is : thread.rest ≡ rest_at flat.code.now standing.place
  pub among : IsAmong (setting_at flat me) standing.names thread

-- the one covers the other
abbrev pub IsPart : Standing → Standing → Type 0
IsPart inner outer = (flat : Flat) (me : ℕ) (thread : Thread) → Stands flat me inner thread → Stands flat me outer thread

abbrev pub StandsSome : Flat → (me : ℕ) → Option Standing → Thread → Type 0
StandsSome flat me None thread = ⊥
StandsSome flat me (Some standing) thread = Stands flat me standing thread

-- it stands so as one of these says
pub record StandsIn (flat : Flat) (me : ℕ) (all : List Standing) (thread : Thread) : Type 0 where
  pub place : ℕ
  pub standing : Standing
  pub there : slice_get all place ≡ Some standing
  pub stands : Stands flat me standing thread

-- one of these covers it, if there is one
abbrev pub HasSome : List Standing → Option Standing → Type 0
HasSome all standing = (flat : Flat) (me : ℕ) (thread : Thread) → StandsSome flat me standing thread → StandsIn flat me all thread

-- what is done: no blocked lock is acquired, and nobody departs
abbrev pub IsOpen : (blocked : List Bool) → Deed → Type 0
IsOpen blocked (Acquire lock) = slice_index_or blocked lock false ≡ false
IsOpen blocked Depart = ⊥
IsOpen blocked _ = Unit {0}

-- a thread that has come to these statements
pub record IsPast (setting : Setting) (rest : List Statement) (names : Option (List Range)) (thread : Thread) : Type 0 where
  pub setting_is : thread.setting ≡ setting
  pub rest_is : thread.rest ≡ rest
  pub size : length thread.privates ≡ 32
  pub values : AreInSome names thread.privates
  pub going : thread.arrived ≡ false

-- it has come to a barrier, to where the condition holds, or to where it fails
abbrev pub IsLed : Setting → Statement → (rest : List Statement) → Ahead → Thread → Type 0
IsLed setting statement rest ahead thread =
    (thread.arrived ≡ true) ⊎ (IsPast setting (where_it_holds statement rest) ahead.holds thread ⊎ IsPast setting (where_it_fails statement rest) ahead.fails thread)

abbrev pub setting_of : Follower → Setting
setting_of follower = setting_at follower.flat follower.me

-- each thread that makes the statement's act has come to one of these
abbrev pub LeadsOn : Follower → Statement → (rest : List Statement) → (names : List Range) → Ahead → Type 0
LeadsOn follower statement rest names ahead =
    (before after : Thread) (deed : Deed) → before.rest ≡ statement ∷ rest → IsAmong (setting_of follower) names before
    → Goes (next_of before) deed (Some after) → IsOpen follower.blocked.now deed → IsLed (setting_of follower) statement rest ahead after

-- so it is of standings
abbrev pub IsStep : Follower → Standing → (first second : Option Standing) → Type 0
IsStep follower standing first second =
    (before after : Thread) (deed : Deed) → Stands follower.flat follower.me standing before
    → Goes (next_of before) deed (Some after) → IsOpen follower.blocked.now deed
    → (after.arrived ≡ true) ⊎ (StandsSome follower.flat follower.me first after ⊎ StandsSome follower.flat follower.me second after)

abbrev pub IsPut : (place : ℕ) → Option (List Range) → Option Standing → Type 0
IsPut place None standing = standing ≡ None
IsPut place (Some names) standing = standing ≡ Some (record { place = place; names = names })

-- whatever comes of a thread that stands so as the standing says stands so as one of these says, or waits at a barrier
abbrev pub IsClosedAt : Follower → List Standing → Standing → Type 0
IsClosedAt follower all standing =
    (before after : Thread) (deed : Deed) → Stands follower.flat follower.me standing before → Goes (next_of before) deed (Some after)
    → IsOpen follower.blocked.now deed → (after.arrived ≡ true) ⊎ StandsIn follower.flat follower.me all after

-- so it is of all of them
abbrev pub IsClosed : Follower → List Standing → Type 0
IsClosed follower all =
    (before after : Thread) (deed : Deed) → StandsIn follower.flat follower.me all before
    → Goes (next_of before) deed (Some after) → IsOpen follower.blocked.now deed
    → (after.arrived ≡ true) ⊎ StandsIn follower.flat follower.me all after

-- from one thread to another by acts that are open, whatever is read
pub data ComesTo (blocked : List Bool) : Thread → Thread → Type 0 where
  there : (thread : Thread) → ComesTo blocked thread thread
  on : (before mid after : Thread) (deed : Deed) → Goes (next_of before) deed (Some mid) → IsOpen blocked deed → ComesTo blocked mid after
      → ComesTo blocked before after

-- each thread that a node comes to, before it departs and past no acquire of a blocked lock, waits at a barrier or stands so as one of these
-- says
abbrev pub IsReachOf : Flat → (me : ℕ) → (blocked : List Bool) → Spot → List Standing → Type 0
IsReachOf flat me blocked spot all =
    (first thread : Thread) → spot_thread flat spot ≡ Some first → ComesTo blocked first thread → (thread.arrived ≡ true) ⊎ StandsIn flat me all thread

abbrev pub IsReach : Follower → Spot → List Standing → Type 0
IsReach follower spot all = IsReachOf follower.flat follower.me follower.blocked.now spot all
