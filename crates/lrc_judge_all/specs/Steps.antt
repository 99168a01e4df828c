-- The steps of a judgement that goes from position to position.
use Rattle.std.specs.Prelude.{◌≡◌, ℕ, List, ◌++◌}
use Rattle.std.specs.BTreeMap.{BTreeMap, get}
use Rattle.std.specs.Option.{option_map_or}
use Rattle.std.specs.Ordering.{nat_cmp}
use Rattle.lrc_trace.specs.declared.act.Act.{Act}
use Rattle.lrc_judge.specs.InOrder.{IsLastWritten}

-- a position of which this is so has its line, and another has none
pub data TellsAt (IsSo : ℕ → Type 0) (Tells : ℕ → List ℕ → Type 0) (position : ℕ) (before after : List ℕ) : Type 0 where
  told : {line : List ℕ} → IsSo position → Tells position line → after ≡ before ++ line → TellsAt IsSo Tells position before after
  untold : ¬ IsSo position → after ≡ before → TellsAt IsSo Tells position before after

-- what the map has of each word was last written to it before position n
abbrev pub IsMemory : List Act → ℕ → BTreeMap ℕ ℕ → Type 0
IsMemory run n memory = (word : ℕ) → IsLastWritten run n word (option_map_or (λ value. value) (get nat_cmp memory word) 0)
