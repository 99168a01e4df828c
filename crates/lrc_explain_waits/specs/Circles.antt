-- Circles of waiting. An unfinished node waits for one node at most.
use Rattle.std.specs.Prelude.{ℕ, zero, suc, ◌==◌, List, [], ◌∷◌, ◌++◌, Option, Some, None, codes, decimal, if◌then◌else◌, length, nat_lt, option_map, slice_index_or}
use Rattle.std.specs.List.{flat_map, range_with_len}
use Rattle.lrc_text.specs.Each.{each}
use Rattle.lrc_explain_waits.specs.declared.holder.Holder.{Holder}
use Rattle.lrc_explain_waits.specs.declared.stand.Coming.{Coming}
use Rattle.lrc_explain_waits.specs.declared.stand.Coming.TheVariants.{Acquire, Barrier}
use Rattle.lrc_explain_waits.specs.declared.stand.Fate.{Fate}
use Rattle.lrc_explain_waits.specs.declared.stand.Fate.TheVariants.{Unfinished}
use Rattle.lrc_explain_waits.specs.declared.stand.Stand.{Stand}
use Rattle.lrc_explain_waits.specs.Missing.{first_of, missing_nodes}

-- who is to acquire a lock waits for its holder
abbrev pub waits_for : Option Holder → Option ℕ
waits_for None = None
waits_for (Some holder) = Some holder.node

-- The node for which a node waits of which this comes next: the holder of the lock that it is to acquire, or the lowest node
-- that has not come to the barrier.
abbrev pub waits_next : List Stand → (me : ℕ) → Coming → Option ℕ
waits_next stands me (Acquire lock holder) = waits_for holder
waits_next stands me (Barrier number) = first_of (missing_nodes number me stands)
waits_next stands me _ = None

-- a node that ended or trapped waits for none
abbrev pub waits_as : Fate → Option ℕ → Option ℕ
waits_as Unfinished next = next
waits_as _ next = None

abbrev pub waits_by : List Stand → (me : ℕ) → Stand → Option ℕ
waits_by stands me stand = waits_as stand.fate (waits_next stands me stand.coming)

-- for whom each node waits
abbrev pub waits_of : List Stand → List (Option ℕ)
waits_of stands = each (λ me stand. waits_by stands me stand ∷ []) stands

-- The nodes that come on a way from the one that `next` is until it is back at `first`, of which none may be lower; `on` are those
-- behind a node.
abbrev pub back_by : (first : ℕ) → (on : ℕ → Option (List ℕ)) → (next : Option ℕ) → Option (List ℕ)
back_by first on None = None
back_by first on (Some next) =
    if next == first then Some [] else if nat_lt next first then None else option_map (λ more. next ∷ more) (on next)

-- the nodes behind `node` along which waiting leads back to `first` in so many steps at most
abbrev pub way_back : List (Option ℕ) → (first most node : ℕ) → Option (List ℕ)
way_back waits first zero node = None
way_back waits first (suc most) node = back_by first (way_back waits first most) (slice_index_or waits node None)

-- The nodes behind the first along which waiting leads from it back to it, where it is the lowest of them. A way that is not back
-- after as many steps as there are nodes never is.
abbrev pub circle_of : List (Option ℕ) → (first : ℕ) → Option (List ℕ)
circle_of waits first = way_back waits first (length waits) first

-- ---- their text

unfoldable pub waits_text : ℕ → List ℕ
waits_text node = codes " waits for node " ++ decimal node

unfoldable pub first_text : ℕ → List ℕ
first_text node = codes "deadlock: node " ++ decimal node

-- a circle in words
abbrev pub circle_words : (first : ℕ) → List ℕ → List ℕ
circle_words first way = first_text first ++ flat_map waits_text way ++ waits_text first

-- the line of a circle
abbrev pub circle_text : (first : ℕ) → List ℕ → List ℕ
circle_text first way = circle_words first way ++ codes "\n"

abbrev pub circle_if : (first : ℕ) → Option (List ℕ) → List ℕ
circle_if first None = []
circle_if first (Some way) = circle_text first way

-- a line for each circle, by its lowest node
abbrev pub circles_text : List (Option ℕ) → List ℕ
circles_text waits = flat_map (λ first. circle_if first (circle_of waits first)) (range_with_len 0 (length waits))

abbrev pub deadlocks_text : List Stand → List ℕ
deadlocks_text stands = circles_text (waits_of stands)
