-- States of a node in two runs that decide alike what is still to come.
use Rattle.std.specs.Prelude.{◌≡◌, ℕ, zero, suc, ◌+◌, ◌<◌, ◌≤◌, ◌⊎◌, List, Option, Some, None, length}
use Rattle.lrc_time.specs.Time.{entry, weight_of}
use Rattle.lrc_exact.specs.Memory.{Rank, Word}
use Rattle.lrc_exact.specs.Rule.{Knowledge, State, with_learned, with_news}
use Rattle.lrc_exact_states.specs.Levels.{Change, IsWeightAlike, last_change, Levels, Table}

-- a mark that no change above the floor meets
abbrev pub IsLow : (bound : ℕ) → Option Rank → Type 0
IsLow bound None = Unit {0}
IsLow bound (Some rank) = rank.weight ≤ bound

-- two marks: neither is met, or both are of one node and of alike weights
pub data IsMarkAlike (cap : ℕ) (floor floor' : List ℕ) : Option Rank → Option Rank → Type 0 where
  low : {mark mark' : Option Rank} → IsLow (weight_of floor) mark → IsLow (weight_of floor') mark' → IsMarkAlike cap floor floor' mark mark'
  high : {rank rank' : Rank} → rank'.node ≡ rank.node → IsWeightAlike cap floor floor' rank.weight rank'.weight
      → IsMarkAlike cap floor floor' (Some rank) (Some rank')

pub record IsWordAlike (cap : ℕ) (floor floor' : List ℕ) (word word' : Word) : Type 0 where
  pub value : word'.value ≡ word.value
  pub mark : IsMarkAlike cap floor floor' word.mark word'.mark

-- what is known is what was made
abbrev pub IsOfTable : ℕ → Table → Knowledge → Type 0
IsOfTable nodes made knows = (q j : ℕ) → q < nodes → 1 ≤ j → j ≤ entry knows.time q → knows.interval q j ≡ made q j

-- what is known stands at levels that correspond to each other
pub record IsKnowledgeAlike (nodes : ℕ) (made made' : Table) (level : Levels) (knows knows' : Knowledge) : Type 0 where
  pub wide : length knows.time ≡ nodes
  pub wide' : length knows'.time ≡ nodes
  pub at : (q : ℕ) → q < nodes → level q (entry knows.time q) (entry knows'.time q)
  pub made_here : IsOfTable nodes made knows
  pub made_here' : IsOfTable nodes made' knows'

-- a mark is of an interval that is known
abbrev pub IsMarkOf : (made : Table) (time : List ℕ) → Option Rank → Type 0
IsMarkOf made time None = Unit {0}
IsMarkOf made time (Some rank) = (index : ℕ) × (1 ≤ index) × (index ≤ entry time rank.node) × (rank.weight ≡ (made rank.node index).weight)

-- the states of a node
pub record IsStateAlike (nodes cap : ℕ) (floor floor' : List ℕ) (made made' : Table) (level : Levels) (state state' : State) : Type 0 where
  pub words : (word : ℕ) → IsWordAlike cap floor floor' (state.words word) (state'.words word)
  pub before : (word : ℕ) → state'.before word ≡ state.before word
  pub knows : IsKnowledgeAlike nodes made made' level state.knows state'.knows
  pub marks : (word : ℕ) → IsMarkOf made state.knows.time (state.words word).mark
  pub marks' : (word : ℕ) → IsMarkOf made' state'.knows.time (state'.words word).mark

-- ---- Weights are told apart only below the cap.

-- whether a change takes the place of a mark is decided: one of them weighs less than the cap above the floor, or both are of one node
abbrev pub IsDecided : (cap : ℕ) (floor : List ℕ) (node : ℕ) → Option Rank → Option Change → Type 0
IsDecided cap floor node (Some mark) (Some change) =
    (mark.weight < weight_of floor + cap) ⊎ ((change.weight < weight_of floor + cap) ⊎ (mark.node ≡ node))
IsDecided cap floor node _ _ = Unit {0}

-- so it is of all changes of a word that come at once
abbrev pub AreDecided : (cap : ℕ) (floor : List ℕ) (nodes : ℕ) (had : List ℕ) (news : Knowledge) (word : ℕ) → Word → Type 0
AreDecided cap floor zero had news word now = Unit {0}
AreDecided cap floor (suc node) had news word now =
    AreDecided cap floor node had news word now
    × IsDecided cap floor node (with_news node had news word now).mark
    (last_change (news.interval node) word (entry had node) (entry news.time node))

-- ---- What is handed on.

-- what is handed on is known to all, or nothing is
abbrev pub IsKnownToAll : (nodes : ℕ) (floor : List ℕ) → Option State → Type 0
IsKnownToAll nodes floor None = Unit {0}
IsKnownToAll nodes floor (Some state) = (length state.knows.time ≡ nodes) × ((q : ℕ) → entry state.knows.time q ≤ entry floor q)

-- of the last releases of a lock, the states are alike, or neither tells anybody anything
pub data IsHandedAlike (nodes : ℕ) (made made' : Table) (level : Levels) (floor floor' : List ℕ) : Option State → Option State → Type 0 where
  handed : {state state' : State} → IsKnowledgeAlike nodes made made' level state.knows state'.knows
      → IsHandedAlike nodes made made' level floor floor' (Some state) (Some state')
  known_to_all : {o o' : Option State} → IsKnownToAll nodes floor o → IsKnownToAll nodes floor' o' → IsHandedAlike nodes made made' level floor floor' o o'

-- what was known at two arrives, if there were any
abbrev pub ArriveAlike : (nodes : ℕ) (made made' : Table) (level : Levels) → Option State → Option State → Type 0
ArriveAlike nodes made made' level None None = Unit {0}
ArriveAlike nodes made made' level (Some state) (Some state') = IsKnowledgeAlike nodes made made' level state.knows state'.knows
ArriveAlike nodes made made' level _ _ = ⊥

-- what was known at all arrives so far, or at none
pub data IsAllAlike (nodes : ℕ) (made made' : Table) (level : Levels) (knows knows' : Knowledge) : Type 0 where
  some_arrive : IsKnowledgeAlike nodes made made' level knows knows' → IsAllAlike nodes made made' level knows knows'
  no_arrive : length knows.time ≡ nodes → length knows'.time ≡ nodes → ((q : ℕ) → entry knows.time q ≡ 0) → ((q : ℕ) → entry knows'.time q ≡ 0)
      → IsAllAlike nodes made made' level knows knows'

-- a node learns what is handed on, if anything is
abbrev pub if_handed : ℕ → Option State → State → State
if_handed nodes None state = state
if_handed nodes (Some news) state = with_learned nodes news.knows state
