-- What a search answers, where it may be cut short.
use Rattle.std.specs.Prelude.{◌≡◌, ℕ, Bool, true, false, if◌then◌else◌}
use Rattle.lrc_program.specs.declared.Program.{Program}
use Rattle.lrc_orders.specs.declared.search.Findings.{Findings}
use Rattle.lrc_orders.specs.Verdict.{AreFindings}
use Rattle.lrc_explore.specs.declared.task.Sought.{Sought}
use Rattle.lrc_explore.specs.declared.task.Sought.TheVariants as sought
use Rattle.lrc_explore.specs.declared.task.Task.{Task}
use Rattle.lrc_explore.specs.Answers.{IsAnswer}
use Rattle.lrc_explore.specs.Met.{GaveUp, HasMet, IsMany, tells_both}
use Rattle.lrc_explore_less.specs.declared.less.Less.{Less}
use Rattle.lrc_explore_less.specs.declared.answers.Explored.{Explored}
use Rattle.lrc_explore_less.specs.declared.answers.Explored.TheVariants as explored
use Rattle.lrc_explore_less.specs.declared.answers.Searched.{Searched}
use Rattle.lrc_explore_less.specs.declared.answers.Searched.TheVariants as searched
use Rattle.lrc_explore_less.specs.Enough.{IsEnd}

-- where a search ended
abbrev pub IsSought : Task → Less → (races : Bool) → Sought → Type 0
IsSought task less races (sought.Ended end) = IsEnd task less races end
IsSought task less races (sought.Many stuck trap) = IsMany task less.found.table.rows races stuck trap

-- where both are told, nothing else is to be found
abbrev pub searched_of : (both : Bool) → Findings → Searched
searched_of both met = if both then searched.All met else searched.Many met

-- the answer of a search for races: a verdict, or what was met where it is cut short
abbrev pub IsExplored : Program → (nodes most : ℕ) → Explored → Type 0
IsExplored program nodes most (explored.Told verdict) = IsAnswer program nodes verdict
IsExplored program nodes most (explored.Many met) = GaveUp program nodes most true met

-- of one that looks for no races: what there is, or what was met where it is cut short, and that leaves something open
abbrev pub IsSearched : Program → (nodes most : ℕ) → Searched → Type 0
IsSearched program nodes most (searched.All found) = AreFindings program nodes found
IsSearched program nodes most (searched.Many met) = GaveUp program nodes most false met × (tells_both met ≡ false)

-- the same of the task of a search
abbrev pub IsTaskExplored : Task → Explored → Type 0
IsTaskExplored task (explored.Told verdict) = IsAnswer task.program.now task.flat.nodes verdict
IsTaskExplored task (explored.Many met) = HasMet task task.most true met

abbrev pub IsTaskSearched : Task → Searched → Type 0
IsTaskSearched task (searched.All found) = AreFindings task.program.now task.flat.nodes found
IsTaskSearched task (searched.Many met) = HasMet task task.most false met × (tells_both met ≡ false)
