-- What a word has once its node has learned, and what the open interval of a node wrote.
use Rattle.std.specs.Prelude.{◌≡◌, ◌≢◌, ℕ, ◌<◌, ◌≤◌, true, false, List, Option, Some, None, length}
use Rattle.lrc_trace.specs.declared.act.Act.{Act}
use Rattle.lrc_trace.specs.declared.act.Deed.TheVariants.{Write}
use Rattle.lrc_trace.specs.Run.{Does}
use Rattle.lrc_trace.specs.Interval.{interval_at}
use Rattle.lrc_time.specs.Time.{entry}
use Rattle.lrc_exact.specs.LocalRule.{state_before}
use Rattle.lrc_exact.specs.Memory.{Rank, Word, is_lower, replaces}
use Rattle.lrc_exact.specs.Rule.{Shape, State, Knowledge, exact_rule, exact_value, KeepsExact, with_news}

-- an interval of the node above the first index, up to the last, changed the word to the value, and has the rank
pub record IsChangeOf (news : Knowledge) (word node first last : ℕ) (rank : Rank) (value : ℕ) : Type 0 where
  pub index : ℕ
  pub new : first < index
  pub known : index ≤ last
  pub ranked : rank ≡ record { weight = (news.interval node index).weight; node = node }
  pub changed : (news.interval node index).changed word ≡ Some value

-- some interval that is news to one who knows so many did
pub record IsNews (nodes : ℕ) (had : List ℕ) (news : Knowledge) (word : ℕ) (rank : Rank) (value : ℕ) : Type 0 where
  pub node : ℕ
  pub among : node < nodes
  pub change : IsChangeOf news word node (entry had node) (entry news.time node) rank value

-- Of these changes of a word:
pub data TakesHighest (Changes : Rank → ℕ → Type 0) (now after : Word) : Type 0 where
  -- none is higher than its mark, and it stays,
  unchanged : after ≡ now → ((rank : Rank) (value : ℕ) → Changes rank value → replaces rank now.mark ≡ false) → TakesHighest Changes now after
  -- or one that is higher than its mark is in its place, and none of them is higher than that.
  taken : (rank : Rank) (value : ℕ) → Changes rank value → replaces rank now.mark ≡ true → after ≡ record { value = value; mark = Some rank }
      → ((other : Rank) (v : ℕ) → Changes other v → is_lower rank other ≡ false) → TakesHighest Changes now after

-- A word that learns takes the change of the highest rank, if that is higher than its mark.
abbrev pub LearnedIsHighest : Type 0
LearnedIsHighest = (nodes : ℕ) (had : List ℕ) (news : Knowledge) (word : ℕ) (now : Word)
    → TakesHighest (IsNews nodes had news word) now (with_news nodes had news word now)

-- the node wrote the word at f for the first time in the interval in which it is at j
pub record IsFirstWrite (run : List Act) (node j word f : ℕ) : Type 0 where
  pub earlier : f < j
  pub value : ℕ
  pub write : Does run f node (Write word value)
  pub inside : interval_at run node f ≡ interval_at run node j
  pub first : (k v : ℕ) → k < f → Does run k node (Write word v) → interval_at run node k ≢ interval_at run node j

-- What a state keeps of a word is its value just before the first write in the open interval, if the node wrote it there.
pub record IsBefore (shape : Shape) (run : List Act) (states : List State) (node j word : ℕ) (kept : Option ℕ) : Type 0 where
  pub none : kept ≡ None → (k v : ℕ) → k < j → Does run k node (Write word v) → interval_at run node k ≢ interval_at run node j
  pub some : (v : ℕ) → kept ≡ Some v → (f : ℕ) × IsFirstWrite run node j word f × (v ≡ exact_value shape run states node f word)

abbrev pub KeptIsBefore : Type 0
KeptIsBefore = (shape : Shape) (run : List Act) (states : List State) → KeepsExact shape run states → (node j word : ℕ) → j ≤ length run
    → IsBefore shape run states node j word ((state_before (exact_rule shape) run states node j).before word)
