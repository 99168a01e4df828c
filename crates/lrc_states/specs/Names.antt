-- The private names of a node whose value is not 0, of those that are told.
use Rattle.std.specs.Prelude.{ℕ, ◌==◌, ◌&&◌, Bool, true, false, not, List, [], ◌∷◌, filter, map, slice_index}
use Rattle.std.specs.List.{enumerate_from}
use Rattle.lrc_lang.specs.Symbol.{Names}
use Rattle.lrc_lines.specs.Walks.{walk_behind}
use Rattle.lrc_trace.specs.declared.act.Act.{Act}
use Rattle.lrc_replay.specs.Acts.{Plan}
use Rattle.lrc_state_text.specs.Place.{Named}

-- names with their values, by their numbers
abbrev pub with_values : Names → (values : List ℕ) → List Named
with_values names values = map (λ at. record { name = at.1; value = slice_index values at.0 }) (enumerate_from 0 names)

-- whether a name is not told: nothing stands in its place
abbrev pub is_untold : (name : List ℕ) → Bool
is_untold [] = true
is_untold (byte ∷ rest) = false

-- those that are told and whose value is not 0
abbrev pub is_set : Named → Bool
is_set named = not (is_untold named.name) && not (named.value == 0)

abbrev pub names_set : Names → (values : List ℕ) → List Named
names_set names values = filter is_set (with_values names values)

-- those of a node
abbrev pub names_behind : Plan → List Act → (node : ℕ) → List Named
names_behind plan acts node = names_set plan.names (walk_behind plan.program plan.nodes plan.lines acts node).thread.privates
