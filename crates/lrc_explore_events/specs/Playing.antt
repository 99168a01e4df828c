-- How far a player has come along an order, and behind it.
use Rattle.std.specs.Prelude.{◌≡◌, ◌⊎◌, ◌≤◌, ℕ, true, Some, List, [], ◌++◌, All, length}
use Rattle.lrc_program.specs.declared.Program.{Program}
use Rattle.lrc_trace.specs.declared.act.Act.{Act}
use Rattle.lrc_protocol.specs.declared.event.Event.{Event}
use Rattle.lrc_protocol.specs.Node.{OptionsRecord}
use Rattle.lrc_protocol.specs.Run.{World, run_of}
use Rattle.lrc_along.specs.declared.limit.TheConstants.{MOST_EVENTS}
use Rattle.lrc_explore_events.specs.declared.player.Player.{Player}
use Rattle.lrc_along.specs.Along.{AreDue, BeginsInTurn, IsAlong, IsDelivery, MayStandBehind, Stops}
use Rattle.lrc_along.specs.Due.{has_begun_at}
use Rattle.lrc_explore_events.specs.Player.{IsPlayer}

-- the run so far goes along the order, and all stands as in its world
pub record StandsAlong (program : Program) (nodes : ℕ) (options : OptionsRecord) (order : List Act) (player : Player) (world : World) : Type 0 where
  pub player_is : IsPlayer program nodes player world
  pub due : AreDue program nodes options order player.events.items
  pub so_far : IsAlong program nodes order world.acts
  pub begun : BeginsInTurn program nodes order world

abbrev pub IsFollowing : Program → ℕ → OptionsRecord → (order : List Act) → Player → Type 0
IsFollowing program nodes options order player =
    (world : World) → run_of program nodes options player.events.items ≡ Some world → StandsAlong program nodes options order player world

-- it goes no further
abbrev pub HasFollowed : Program → ℕ → OptionsRecord → (order : List Act) → Player → Type 0
HasFollowed program nodes options order player =
    (world : World) → run_of program nodes options player.events.items ≡ Some world
    → StandsAlong program nodes options order player world
    × (Stops program nodes order world ⊎ (MOST_EVENTS ≤ length player.events.items))

-- the run of these events has come to this world, behind that after the events along the order
pub record StandsBehind (program : Program) (nodes : ℕ) (options : OptionsRecord) (along : List Event) (player : Player) (world : World) : Type 0
  where
    pub player_is : IsPlayer program nodes player world
    pub at : World
    pub led : run_of program nodes options along ≡ Some at
    pub more : List Act
    pub acts : world.acts ≡ at.acts ++ more
    pub departs : All (MayStandBehind at) more
    pub begun : (node : ℕ) → has_begun_at world node ≡ true → has_begun_at at node ≡ true

-- messages were delivered since
pub record IsDraining (program : Program) (nodes : ℕ) (options : OptionsRecord) (along : List Event) (player : Player) : Type 0 where
  pub behind : List Event
  pub events : player.events.items ≡ along ++ behind
  pub drains : All IsDelivery behind
  pub stands : (world : World) → run_of program nodes options player.events.items ≡ Some world
      → StandsBehind program nodes options along player world

-- and no more are to be delivered
pub record HasDrained (program : Program) (nodes : ℕ) (options : OptionsRecord) (along : List Event) (player : Player) : Type 0 where
  pub draining : IsDraining program nodes options along player
  pub rests : (world : World) → run_of program nodes options player.events.items ≡ Some world
      → (world.flight ≡ []) ⊎ (MOST_EVENTS ≤ length draining.behind)
