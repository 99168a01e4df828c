-- What an act does to its node's time, whatever it learns.
use Rattle.std.specs.Prelude.{◌≡◌, ℕ, List}
use Rattle.lrc_trace.specs.declared.act.Deed.{Deed}
use Rattle.lrc_trace.specs.declared.act.Deed.TheVariants.{Acquire, Release, Arrive, Depart}
use Rattle.lrc_time.specs.Time.{joined}
use Rattle.lrc_clock.specs.Times.{raised}

-- With the node's time at its last act before, and that just after this one: a release and an arrive raise the node's own
-- entry; an acquire does too, and learns some time; a depart learns some time; and any other act leaves the time as it is.
abbrev pub FollowsRule : ℕ → List ℕ → Deed → List ℕ → Type 0
FollowsRule node last (Acquire lock) time = (learned : List ℕ) × (time ≡ joined (raised last node) learned)
FollowsRule node last (Release lock) time = time ≡ raised last node
FollowsRule node last Arrive time = time ≡ raised last node
FollowsRule node last Depart time = (learned : List ℕ) × (time ≡ joined last learned)
FollowsRule node last _ time = time ≡ last
