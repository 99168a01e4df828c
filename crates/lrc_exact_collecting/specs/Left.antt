-- What collections left of the exact memory, and what they dropped.
use Rattle.std.specs.Prelude.{ℕ, zero, suc, List, Option, nat_lt, if◌then◌else◌}
use Rattle.lrc_time.specs.Time.{zeros}
use Rattle.lrc_exact.specs.Rule.{Shape, Knowledge, State, page_of, known_by_all, collects, keeper_of, kept_value}

-- A collection leaves of a word on a page that was named since the last one what the page's keeper has of it; and of any other word what was
-- left before.
abbrev pub left_after : Shape → (dropped : List ℕ) → (all : Knowledge) → (arrived : ℕ → Option State) → (before : ℕ → ℕ) → ℕ → ℕ
left_after shape dropped all arrived before word =
    let keeper = keeper_of shape.nodes dropped all (page_of shape word) in
    if nat_lt keeper shape.nodes then kept_value shape.nodes all (arrived keeper) word else before word

-- With the state in which each node arrived at each episode of the barrier: what the first so many episodes dropped,
abbrev pub dropped_by : Shape → (ℕ → ℕ → Option State) → ℕ → List ℕ
dropped_by shape arrived zero = zeros shape.nodes
dropped_by shape arrived (suc number) =
    if collects shape (arrived number)
    then (known_by_all shape.nodes shape.nodes (arrived number)).time
    else dropped_by shape arrived number

-- and what they left of each word.
abbrev pub left_by : Shape → (ℕ → ℕ → Option State) → ℕ → ℕ → ℕ
left_by shape arrived zero word = 0
left_by shape arrived (suc number) word =
    if collects shape (arrived number)
    then left_after shape (dropped_by shape arrived number) (known_by_all shape.nodes shape.nodes (arrived number)) (arrived number)
    (left_by shape arrived number) word
    else left_by shape arrived number word
