-- What stands before the acts of a run.
use Rattle.std.specs.Prelude.{◌≡◌, ℕ, ◌<◌, List, length, slice_index, take}
use Rattle.lrc_trace.specs.declared.act.Act.{Act}
use Rattle.lrc_judge.specs.Firsts.{AreIntervals}
use Rattle.lrc_judge.specs.Races.{word_of}
use Rattle.lrc_acts_text.specs.Acts.{act_at}
use Rattle.lrc_explain.specs.declared.before.Before.{Before}
use Rattle.lrc_explain.specs.Access.{left_in}

-- of each of the first acts what those before it leave in its word
pub record AreLefts (acts : List Act) (many : ℕ) (lefts : List ℕ) : Type 0 where
  pub long : length lefts ≡ many
  pub each : (k : ℕ) → k < many → slice_index lefts k ≡ left_in (word_of (act_at acts k).deed) (take k acts)

-- these are the intervals of the acts, and what those before them leave in their words
pub record IsBeforeActs (acts : List Act) (before : Before) : Type 0 where
  pub intervals : AreIntervals acts (length acts) before.intervals.items
  pub lefts : AreLefts acts (length acts) before.lefts.items
