-- Why two acts that race are not ordered.
use Rattle.std.specs.Prelude.{◌≡◌, ℕ, ◌<◌, List, Some, Contains}
use Rattle.lrc_trace.specs.declared.act.Act.{Act}
use Rattle.lrc_trace.specs.declared.act.Deed.TheVariants.{Acquire, Release}
use Rattle.lrc_trace.specs.Interval.{interval_at}
use Rattle.lrc_trace.specs.Run.{Does}
use Rattle.lrc_why_chains.specs.Known.{IsActOf}
use Rattle.lrc_why.specs.declared.reasons.Parting.{Parting}
use Rattle.lrc_why.specs.declared.reasons.Standing.{Standing}

-- What is told of two acts is why they are not ordered:
pub record AreApart (run : List Act) (parting : Parting) (first second : Standing) : Type 0 where
  -- no lock is held at both,
  pub locks : (l : ℕ) → Contains first.locks.items l → ¬ Contains second.locks.items l
  -- both are behind the same barrier,
  pub barrier : first.departs ≡ second.departs
  -- the node of the earlier one releases no lock after it that the node of the later one acquires after that and before the later one,
  pub handed : (one other l release acquire : ℕ) → IsActOf run one parting.earlier → IsActOf run other parting.later
      → parting.earlier < release → release < acquire → acquire < parting.later
      → Does run release one (Release l) → ¬ Does run acquire other (Acquire l)
  -- and the interval of the earlier one is past what the later one knows of its node.
  pub past : (node known : ℕ) → IsActOf run node parting.earlier → parting.known ≡ Some known
      → interval_at run node known < interval_at run node parting.earlier
