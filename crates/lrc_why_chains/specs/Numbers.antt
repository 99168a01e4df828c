-- The numbers of arrives and departs.
use Rattle.std.specs.Prelude.{◌≡◌, ℕ, List, length, slice_index}
use Rattle.lrc_trace.specs.declared.act.Act.{Act}
use Rattle.lrc_trace.specs.declared.act.Deed.TheVariants.{Arrive, Depart}
use Rattle.lrc_trace.specs.Run.{Does, arrives_before, departs_before}

-- a number for each act: of an arrive, how often its node has arrived before, and of a depart, how often it has departed
pub record AreNumbers (run : List Act) (numbers : List ℕ) : Type 0 where
  pub all : length numbers ≡ length run
  pub arrives : (k node : ℕ) → Does run k node Arrive → slice_index numbers k ≡ arrives_before run node k
  pub departs : (k node : ℕ) → Does run k node Depart → slice_index numbers k ≡ departs_before run node k
