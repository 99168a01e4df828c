-- The racing pairs of acts, position by position.
use Rattle.std.specs.Prelude.{ℕ, ◌==◌, ◌&&◌, ◌<◌, Bool, false, not, All, List, Option, MatchOption, map}
use Rattle.std.specs.List.{filter, flat_map, range_with_len}
use Rattle.lrc_trace.specs.declared.act.Act.{Act}
use Rattle.lrc_trace.specs.declared.act.Deed.{Deed}
use Rattle.lrc_trace.specs.declared.act.Deed.TheVariants.{Read, Write}
use Rattle.lrc_trace.specs.Conflict.{IsFirstRace, IsRaceFree}
use Rattle.lrc_judge.specs.Order.{is_before}
use Rattle.lrc_judge.specs.Pairs.{AreConflictsOf}
use Rattle.lrc_judge.specs.declared.TheConstants.{NODES}
use Rattle.lrc_judge.specs.declared.lanes.Pair.{Pair}
use Rattle.lrc_judge.specs.declared.order.Order.{Order}
use Rattle.lrc_judge.specs.declared.pairs.Conflicts.{Conflicts}
use Rattle.lrc_judge_text.specs.Judgement.{deed_at, node_at, pair_lines}

-- whether the deed writes the word, and whether it reads or writes it
abbrev pub writes_word : ℕ → Deed → Bool
writes_word word (Write other value) = other == word
writes_word word _ = false

abbrev pub accesses_word : ℕ → Deed → Bool
accesses_word word (Read other value) = other == word
accesses_word word (Write other value) = other == word
accesses_word word _ = false

-- whether deeds conflict: both access one word, and at least one of them writes it
abbrev pub is_conflict : Deed → Deed → Bool
is_conflict (Read word value) other = writes_word word other
is_conflict (Write word value) other = accesses_word word other
is_conflict _ other = false

-- whether the acts at the positions of a pair race: they conflict, are of two nodes, and the earlier is not before the later
abbrev pub is_racing : Order → List Act → Pair → Bool
is_racing order acts pair = is_conflict (deed_at acts pair.earlier) (deed_at acts pair.later)
    && (not (node_at acts pair.earlier == node_at acts pair.later) && not (is_before order pair.earlier pair.later))

abbrev pub pair_of : ℕ → ℕ → Pair
pair_of later earlier = record { later = later; earlier = earlier }

-- the racing pairs of a later position, by the earlier
abbrev pub pairs_at : Order → List Act → ℕ → List Pair
pairs_at order acts later = filter (is_racing order acts) (map (pair_of later) (range_with_len 0 later))

-- the lines of the racing pairs of so many later positions from one on
abbrev pub lines_from : Order → List Act → ℕ → ℕ → List ℕ
lines_from order acts position many = flat_map (λ later. pair_lines acts (pairs_at order acts later)) (range_with_len position many)

-- what is kept of the races is of these acts, all of nodes that there can be: their order and accesses, and the first that races
pub record AreRacesOf (acts : List Act) (conflicts : Conflicts) (first : Option ℕ) : Type 0 where
  pub nodes : All (λ act. act.node < NODES) acts
  pub kept : AreConflictsOf acts conflicts
  pub least : MatchOption first (IsRaceFree acts) (IsFirstRace acts)
