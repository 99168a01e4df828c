-- Acts that race, in words.
use Rattle.std.specs.Prelude.{ℕ, ◌==◌, Option, Some, None, List, [], ◌∷◌, ◌++◌, codes, decimal, if◌then◌else◌, length}
use Rattle.std.specs.List.{flat_map}
use Rattle.lrc_labels.specs.Reading.{Label}
use Rattle.lrc_why.specs.declared.reasons.Opponent.{Opponent}
use Rattle.lrc_why.specs.declared.reasons.Parting.{Parting}
use Rattle.lrc_why.specs.declared.reasons.Standing.{Standing}
use Rattle.lrc_why_lines.specs.declared.shown.Shown.{Shown}
use Rattle.lrc_why_lines.specs.Deeds.{lock_text}
use Rattle.lrc_why_lines.specs.Places.{act_shown, act_text, interval_shown, labels_shown}

-- what is known of a node
unfoldable pub known_text : Shown → (node : ℕ) → Option ℕ → List ℕ
known_text shown node None = codes " knows nothing of node " ++ decimal node
known_text shown node (Some known) = codes " knows node " ++ decimal node ++ (codes " up to interval " ++ decimal (interval_shown shown known))

unfoldable pub place_text : Shown → ℕ → List ℕ
place_text shown position = codes "    act " ++ decimal position ++ (codes " is in interval " ++ decimal (interval_shown shown position))
    ++ (codes " of node " ++ decimal (act_shown shown position).node)

-- the interval of the earlier act, and what the later one knows of its node
unfoldable pub parting_line : Shown → Parting → List ℕ
parting_line shown parting = place_text shown parting.earlier ++ (codes ", and act " ++ decimal parting.later)
    ++ known_text shown (act_shown shown parting.earlier).node parting.known ++ codes "\n"

-- locks
abbrev pub later_locks : List Label → List ℕ → List ℕ
later_locks labels locks = flat_map (λ l. lock_text labels (codes ", ") l) locks

unfoldable pub locks_text : List Label → List ℕ → List ℕ
locks_text labels [] = codes ": no lock"
locks_text labels (l ∷ []) = lock_text labels (codes ": lock ") l
locks_text labels (l ∷ other ∷ others) = lock_text labels (codes ": locks ") l ++ later_locks labels (other ∷ others)

-- behind which barrier
unfoldable pub behind_text : ℕ → List ℕ
behind_text departs = if departs == 0 then codes " before any barrier" else codes " after barrier " ++ decimal departs

unfoldable pub where_text : Parting → (first second : ℕ) → List ℕ
where_text parting first second = if first == second then codes "; both" ++ behind_text first
    else codes "; act " ++ decimal parting.earlier ++ behind_text first ++ (codes ", act " ++ decimal parting.later) ++ behind_text second

-- what is held at both
unfoldable pub held_line : List Label → Parting → (first second : Standing) → List ℕ
held_line labels parting first second = codes "    held at act " ++ decimal parting.earlier ++ locks_text labels first.locks.items
    ++ (codes ", at act " ++ decimal parting.later) ++ locks_text labels second.locks.items
    ++ where_text parting first.departs second.departs ++ codes "\n"

-- what would order them
unfoldable pub after_text : (words : List ℕ) → (node : ℕ) → (does : List ℕ) → (position : ℕ) → List ℕ
after_text words node does position = words ++ decimal node ++ (does ++ decimal position)

unfoldable pub remedy_line : Shown → Parting → List ℕ
remedy_line shown parting = codes "  to order them: one lock held at both, a barrier between, or a lock that"
    ++ after_text (codes " node ") (act_shown shown parting.earlier).node (codes " releases after act ") parting.earlier
    ++ after_text (codes " and node ") (act_shown shown parting.later).node (codes " acquires after that and before act ") parting.later ++ codes "\n"

-- how many more acts of the node race
unfoldable pub more_text : (node more : ℕ) → List ℕ
more_text node more = if more == 0 then [] else codes ", and " ++ decimal more ++ (codes " more of node " ++ decimal node)

unfoldable pub least_line : Shown → (least more : ℕ) → List ℕ
least_line shown least more =
    codes "  races with " ++ act_text shown least ++ more_text (act_shown shown least).node more ++ codes "\n"

unfoldable pub racing_line : Shown → List ℕ → List ℕ
racing_line shown [] = []
racing_line shown (least ∷ rest) = least_line shown least (length rest)

unfoldable pub opponent_lines : Shown → Opponent → List ℕ
opponent_lines shown opponent = racing_line shown opponent.racing.items ++ parting_line shown opponent.parting
    ++ held_line (labels_shown shown) opponent.parting opponent.first opponent.second

unfoldable pub opponent_text : Shown → Option Opponent → List ℕ
opponent_text shown None = []
opponent_text shown (Some opponent) = opponent_lines shown opponent

-- what would order the first of them and the act that it races with
abbrev pub first_remedy : Shown → List (Option Opponent) → List ℕ
first_remedy shown [] = []
first_remedy shown (None ∷ others) = first_remedy shown others
first_remedy shown (Some opponent ∷ others) = remedy_line shown opponent.parting

unfoldable pub opponents_text : Shown → List (Option Opponent) → List ℕ
opponents_text shown opponents = flat_map (opponent_text shown) opponents ++ first_remedy shown opponents
