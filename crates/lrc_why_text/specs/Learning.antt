-- Who learns of an act, in words.
use Rattle.std.specs.Prelude.{ℕ, ◌==◌, Option, Some, None, List, [], ◌++◌, codes, decimal, if◌then◌else◌}
use Rattle.lrc_text.specs.Each.{each}
use Rattle.lrc_why.specs.declared.reasons.Forward.{Forward}
use Rattle.lrc_why.specs.declared.reasons.Forward.TheVariants.{Unsaid, Nobody, Others}
use Rattle.lrc_why.specs.declared.reasons.Since.{Since}
use Rattle.lrc_why.specs.declared.reasons.Spread.{Spread}
use Rattle.lrc_why_lines.specs.declared.shown.Shown.{Shown}
use Rattle.lrc_why_lines.specs.Lists.{nodes_line}
use Rattle.lrc_why_lines.specs.Places.{act_shown, chain_text, there_text}

unfoldable pub nobody_line : ℕ → List ℕ
nobody_line node =
    codes "  nobody can learn of it: node " ++ decimal node ++ codes " releases no lock and comes to no barrier after it\n"

-- from where on others can learn of it
unfoldable pub telling_line : Shown → ℕ → List ℕ
telling_line shown from = codes "  others can learn of it from " ++ there_text shown from ++ codes " on\n"

unfoldable pub from_line : Shown → (position from : ℕ) → List ℕ
from_line shown position from = if from == position then [] else telling_line shown from

-- where a node learns of it
unfoldable pub learner_line : Shown → ℕ → Since → List ℕ
learner_line shown node since = codes "  node " ++ decimal node ++ codes " learns of it at " ++ there_text shown since.first
    ++ chain_text since.chain.items ++ codes "\n"

unfoldable pub learner_text : Shown → ℕ → Option Since → List ℕ
learner_text shown node None = []
learner_text shown node (Some since) = learner_line shown node since

abbrev pub learners_text : Shown → List (Option Since) → List ℕ
learners_text shown learners = each (learner_text shown) learners

unfoldable pub spread_text : Shown → ℕ → Spread → List ℕ
spread_text shown position spread = from_line shown position spread.from ++ learners_text shown spread.learners.items
    ++ nodes_line (codes "  never known at ") spread.never.items

unfoldable pub forward_text : Shown → ℕ → Forward → List ℕ
forward_text shown position Unsaid = []
forward_text shown position Nobody = nobody_line (act_shown shown position).node
forward_text shown position (Others spread) = spread_text shown position spread
