-- The times of acts: of each node how many of its acts that close an interval are known at an act, or are that act.
use Rattle.std.specs.Prelude.{ℕ, zero, suc, ◌+◌, ◌==◌, ◌&&◌, ◌||◌, Bool, List, [], ◌∷◌, if◌then◌else◌, is_some}
use Rattle.std.specs.List.{flat_map, range_with_len}
use Rattle.lrc_trace.specs.declared.act.Act.{Act}
use Rattle.lrc_trace.specs.Interval.{closes}
use Rattle.lrc_acts_text.specs.Acts.{act_at}
use Rattle.lrc_judge.specs.Order.{is_before}
use Rattle.lrc_judge.specs.declared.order.Order.{Order}
use Rattle.lrc_time.specs.Time.{zeros}
use Rattle.lrc_text.specs.Each.{each}
use Rattle.lrc_chart_build.specs.Course.{shown_act}
use Rattle.lrc_chart_build.specs.declared.part.Place.{Place}

-- the act at k is known at the position or stands there
abbrev pub is_known : Order → (position k : ℕ) → Bool
is_known order position k = (k == position) || is_before order k position

-- the act at k closes an interval of the node, and is known at the position or stands there
abbrev pub is_closed : Order → List Act → (position node k : ℕ) → Bool
is_closed order acts position node k =
    ((act_at acts k).node == node) && (closes (act_at acts k).deed && ((k == position) || is_before order k position))

-- how many of the first acts do so
abbrev pub count_closed : Order → List Act → (position node k : ℕ) → ℕ
count_closed order acts position node zero = 0
count_closed order acts position node (suc k) =
    (if is_closed order acts position node k then 1 else 0) + count_closed order acts position node k

-- the time of the acting node just after the act at a position
abbrev pub time_known : Order → List Act → (nodes position : ℕ) → List ℕ
time_known order acts nodes position = flat_map (λ node. count_closed order acts position node (position + 1) ∷ []) (range_with_len 0 nodes)

-- the times of the acts that are shown, and zeros at the others
abbrev pub time_if : Order → List Act → (nodes : ℕ) → List Place → (position : ℕ) → Act → List (List ℕ)
time_if order acts nodes places position act =
    (if is_some (shown_act places position) then time_known order acts nodes position else zeros nodes) ∷ []

abbrev pub times_known : Order → List Act → (nodes : ℕ) → List Place → List (List ℕ)
times_known order acts nodes places = each (time_if order acts nodes places) acts

-- ---- the acts that close an interval, by nodes

-- the position of an act of the node that closes an interval
abbrev pub closing_at : (node k : ℕ) → Act → List ℕ
closing_at node k act = if (act.node == node) && closes act.deed then k ∷ [] else []

-- the positions of the node's acts that do so, in order
abbrev pub closings : List Act → (node : ℕ) → List ℕ
closings acts node = each (closing_at node) acts

-- the same of each of the first nodes
abbrev pub all_closings : List Act → (nodes : ℕ) → List (List ℕ)
all_closings acts nodes = flat_map (λ node. closings acts node ∷ []) (range_with_len 0 nodes)
