-- How a run goes on, from what the matches say.
use Rattle.std.proofs.Common.{◌≡◌, ℕ, Bool, List, Option, None, codes}
use Rattle.clap.specs.Words.{Row, Text, first_of}
use Rattle.lrc_cli_args.specs.declared.choice.Way.{Way}
use Rattle.lrc_cli_args.specs.declared.choice.Way.TheVariants as ways
use Rattle.lrc_cli_args.specs.declared.runs.Order.{Order}
use Rattle.lrc_cli_args.specs.Options.{AreAsked, IsWay, IsWayIn}

-- with nothing behind its events
pub bare : (threads : Bool) (rows : List Row) (order : Order) (seed : Option ℕ) (events : Option Text) (way : Way) → first_of (codes "then") rows ≡ None
    → AreAsked rows order seed events → IsWay order seed events threads way → IsWayIn threads rows way
bare threads rows order seed events (ways.Events path) none asked is = record {
  bare = none;
  order = order;
  seed = seed;
  events = events;
  asked = asked;
  way_is = is;
}
bare threads rows order seed events (ways.Rounds picker) none asked is = record {
  bare = none;
  order = order;
  seed = seed;
  events = events;
  asked = asked;
  way_is = is;
}
bare threads rows order seed events (ways.Random number) none asked is = record {
  bare = none;
  order = order;
  seed = seed;
  events = events;
  asked = asked;
  way_is = is;
}
bare threads rows order seed events (ways.Threads picker) none asked is = record {
  bare = none;
  order = order;
  seed = seed;
  events = events;
  asked = asked;
  way_is = is;
}
bare threads rows order seed events (ways.Followed path next) none asked is = absurd is
