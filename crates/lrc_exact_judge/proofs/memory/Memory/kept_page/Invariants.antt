use Rattle.std.proofs.Common.{◌≡◌, ◌+◌, ◌*◌, ◌<◌, ℕ, length}
use Rattle.std.specs.Prelude.{slice_index}
use Rattle.std.specs.Ordering.{nat_cmp}
use Rattle.std.specs.BTreeMap.{get}
use Rattle.lrc_exact_judge.specs.Keepers.{value_at}
use Rattle.lrc_exact_judge.specs.Memory.{Having, IsKept}
use Rattle.lrc_exact_judge.proofs.memory.Memory.kept_page.Given as goal

-- the values so far
abbrev pub invariant-loop-offset : goal.invariant-loop-offset
invariant-loop-offset l =
    (length l.values.items ≡ l.offset)
    × ((a k most : ℕ) (having : Having) → IsKept a k most l.self having → (offset : ℕ) → offset < l.offset
    → slice_index l.values.items offset ≡ value_at (get nat_cmp l.keepers l.page) having.have (l.page * l.self.layout.page_words + offset))
