-- How the states of the machine that makes lazy runs are searched.
use Rattle.std.specs.Prelude.{◌≡◌, ◌≢◌, ℕ, ◌<◌, ◌≤◌, true, List, [], Some, length, replicate, slice_get, slice_index, slice_set}
use Rattle.std.specs.List.{IsDistinct}
use Rattle.lrc_program.specs.declared.Program.{Program}
use Rattle.lrc_trace.specs.declared.act.Act.{Act}
use Rattle.lrc_trace.specs.declared.act.Deed.{Deed}
use Rattle.lrc_trace.specs.declared.act.Deed.TheVariants.{Read, Write, Arrive}
use Rattle.lrc_trace.specs.Run.{act_of}
use Rattle.lrc_exec.specs.Flat.{IsCodeOf}
use Rattle.lrc_exec.specs.Plain.{plain_step}
use Rattle.lrc_exec.specs.declared.spot.Flat.{Flat}
use Rattle.lrc_orders.specs.declared.outcomes.Outcome.{Outcome}
use Rattle.lrc_exec.specs.declared.state.State.{State}
use Rattle.lrc_orders.specs.Notes.{notes_of, notes_with}
use Rattle.lrc_orders.specs.Outcome.{HasOutcome}
use Rattle.lrc_exec.specs.States.{plain_at, IsStateOf}
use Rattle.lrc_lazy.specs.Lazy.{IsLazyOutcome}
use Rattle.lrc_lazy_known.specs.Effect.{word_of, IsKnowledgeAfter}
use Rattle.lrc_lazy_known.specs.Word.{IsSame}
use Rattle.lrc_lazy_known.specs.Tidy.{IsTidy}
use Rattle.lrc_lazy.specs.Swapped.{IsNoAcquire}
use Rattle.lrc_lazy_search.specs.declared.state.LazyState.{LazyState}
use Rattle.lrc_lazy_search.specs.contracts.state.LazyStatePartialEq.TheImpl.{eq-value}
use Rattle.lrc_lazy.specs.Standing.{with_memory, departures_of, IsRenewed, Stands, MayGive, CanMake, effect_at}

-- ---- the one way in which a state is written

-- its words are all 0
abbrev pub IsBlank : Flat → State → Type 0
IsBlank flat state = state.memory.items ≡ replicate flat.words 0

-- its words are all 0, since what is known says what a read gives, and what is known is written in one way alone
pub record IsNeat (flat : Flat) (key : LazyState) : Type 0 where
  pub blank : IsBlank flat key.state
  pub tidy : IsTidy key.knowledge

abbrev pub AreNeat : Flat → List LazyState → Type 0
AreNeat flat keys = (k : ℕ) (key : LazyState) → slice_get keys k ≡ Some key → IsNeat flat key

-- Some node has departed from no barrier that the state counts. So it counts none from which all nodes have departed, and how many it leaves
-- out is determined by the acts that lead to it.
pub record CountsNoneGone (flat : Flat) (key : LazyState) : Type 0 where
  pub node : ℕ
  pub within : node < flat.nodes
  pub none : departures_of (plain_at flat key.state) node ≡ 0

abbrev pub CountNoneGone : Flat → List LazyState → Type 0
CountNoneGone flat keys = (k : ℕ) (key : LazyState) → slice_get keys k ≡ Some key → CountsNoneGone flat key

-- no deed stands twice among these
abbrev pub AreOnce : List Deed → Type 0
AreOnce deeds = (j k : ℕ) (deed : Deed) → slice_get deeds j ≡ Some deed → slice_get deeds k ≡ Some deed → j ≡ k

-- ---- steps

-- the words, where a read finds the value that it gives
abbrev pub poked : Deed → List ℕ → List ℕ
poked (Read w v) memory = slice_set memory w v
poked _ memory = memory

-- the words, where a deed that reads or writes one of them makes it 0 again
abbrev pub blanked : Deed → List ℕ → List ℕ
blanked (Read w v) memory = slice_set memory w 0
blanked (Write w v) memory = slice_set memory w 0
blanked _ memory = memory

pub record IsPoked (flat : Flat) (key : LazyState) (deed : Deed) (state : State) : Type 0 where
  pub is : plain_at flat state ≡ with_memory (plain_at flat key.state) (poked deed key.state.memory.items)
  pub valid : IsStateOf flat state
  pub arrivals : state.arrivals.items ≡ key.state.arrivals.items

-- with some words the deed leads from one state to another
pub record Makes (flat : Flat) (before : State) (node : ℕ) (deed : Deed) (after : State) : Type 0 where
  pub memory : List ℕ
  pub later : List ℕ
  pub long : length memory ≡ flat.words
  pub made : plain_step (with_memory (plain_at flat before) memory) node ≡ Some (deed, with_memory (plain_at flat after) later)

-- and what is known and noted changes as it says
pub record Steps (flat : Flat) (before : LazyState) (node : ℕ) (deed : Deed) (after : LazyState) : Type 0 where
  pub makes : Makes flat before.state node deed after.state
  pub gives : MayGive before.knowledge node deed
  pub effect : IsKnowledgeAfter (effect_at flat.nodes flat.locks (plain_at flat before.state) node deed) before.knowledge after.knowledge
  pub notes : after.notes.items ≡ notes_with before.notes.items (act_of node deed)

-- some node can do something
pub record CanAct (flat : Flat) (key : LazyState) : Type 0 where
  pub node : ℕ
  pub deed : Deed
  pub can : CanMake flat.words (plain_at flat key.state) key.knowledge node deed

-- the node can do something other than acquire a lock
pub record IsInFront (flat : Flat) (key : LazyState) (node : ℕ) : Type 0 where
  pub deed : Deed
  pub can : CanMake flat.words (plain_at flat key.state) key.knowledge node deed
  pub free : IsNoAcquire deed

-- such a node can do this alone, and does not arrive at a barrier
pub record IsForced (flat : Flat) (key : LazyState) (node : ℕ) (deed : Deed) : Type 0 where
  pub front : IsInFront flat key node
  pub can : CanMake flat.words (plain_at flat key.state) key.knowledge node deed
  pub only : (other : Deed) → CanMake flat.words (plain_at flat key.state) key.knowledge node other → other ≡ deed
  pub no_arrive : deed ≢ Arrive

-- the state without more barriers that are gone
pub record IsFresh (flat : Flat) (key after : LazyState) : Type 0 where
  pub renewed : IsRenewed flat.nodes flat.locks (plain_at flat key.state) key.knowledge (plain_at flat after.state) after.knowledge
  pub valid : IsStateOf flat after.state
  pub notes : after.notes.items ≡ key.notes.items

-- deeds of this kind, one after another, lead from the state to one ahead, and barriers that are gone are left out
pub data IsAhead (flat : Flat) (key : LazyState) : LazyState → Type 0 where
  still : IsAhead flat key key
  renewed : {mid after : LazyState} → IsAhead flat key mid → IsFresh flat mid after → IsAhead flat key after
  onward : {mid after : LazyState} (node : ℕ) (deed : Deed) → IsAhead flat key mid → IsForced flat mid node deed → Steps flat mid node deed after
      → IsStateOf flat after.state → IsAhead flat key after

-- one such deed leads from the state to another
pub record GoesOn (flat : Flat) (key after : LazyState) : Type 0 where
  pub node : ℕ
  pub deed : Deed
  pub forced : IsForced flat key node deed
  pub steps : Steps flat key node deed after

-- a state again: the nodes stand and know as before, whatever was noted
pub record IsAgain (flat : Flat) (key again : LazyState) : Type 0 where
  pub machine : with_memory (plain_at flat again.state) [] ≡ with_memory (plain_at flat key.state) []
  pub known : (word : ℕ) → IsSame (word_of again.knowledge word) (word_of key.knowledge word)

-- a state that turns for ever: such deeds, at least one, lead from it to it again
pub record Turns (flat : Flat) (key : LazyState) : Type 0 where
  pub last : LazyState
  pub goes : IsAhead flat key last
  pub round : LazyState
  pub on : GoesOn flat last round
  pub again : IsAgain flat key round

-- such deeds lead to a state that turns for ever
pub record ComesToTurn (flat : Flat) (key : LazyState) : Type 0 where
  pub turning : LazyState
  pub goes : IsAhead flat key turning
  pub turns : Turns flat turning

-- such deeds lead from the state to one of these, or to one that turns for ever
pub data Leads (flat : Flat) (key : LazyState) (there : LazyState → Type 0) : Type 0 where
  to_one : (ahead : LazyState) → IsAhead flat key ahead → there ahead → Leads flat key there
  to_turn : ComesToTurn flat key → Leads flat key there

-- some act, and then such deeds, lead to the state
pub record IsNext (flat : Flat) (key ahead : LazyState) : Type 0 where
  pub node : ℕ
  pub deed : Deed
  pub after : LazyState
  pub steps : Steps flat key node deed after
  pub valid : IsStateOf flat after.state
  pub goes : IsAhead flat after ahead

abbrev pub AreNext : Flat → LazyState → List LazyState → Type 0
AreNext flat key all = (k : ℕ) (after : LazyState) → slice_get all k ≡ Some after → IsNext flat key after

-- the state is one of these
abbrev pub IsOneOf : List LazyState → LazyState → Type 0
IsOneOf all key = (place : ℕ) × (slice_get all place ≡ Some key)

-- a node's deed, and then such deeds, lead to one of the states, or to one that turns for ever
pub record HasStep (flat : Flat) (key : LazyState) (node : ℕ) (deed : Deed) (all : List LazyState) : Type 0 where
  pub after : LazyState
  pub steps : Steps flat key node deed after
  pub leads : Leads flat after (IsOneOf all)

abbrev pub HasAll : Flat → LazyState → (node : ℕ) → List LazyState → Type 0
HasAll flat key node all =
    (deed : Deed) → CanMake flat.words (plain_at flat key.state) key.knowledge node deed → HasStep flat key node deed all

-- no node below this one can do something other than acquire a lock
abbrev pub IsFirstInFront : Flat → LazyState → (node : ℕ) → Type 0
IsFirstInFront flat key node = (lower : ℕ) → lower < node → ¬ IsInFront flat key lower

-- the states are enough to go on with: those of the lowest such node, or, where there is none, those of all nodes
pub data AreEnough (flat : Flat) (key : LazyState) (all : List LazyState) : Type 0 where
  of_one : (node : ℕ) → IsInFront flat key node → IsFirstInFront flat key node → HasAll flat key node all → AreEnough flat key all
  of_all : ((node : ℕ) → IsInFront flat key node → ⊥) → ((node : ℕ) → HasAll flat key node all) → AreEnough flat key all

-- ---- the search

-- a lazy run leads to the state, in so many acts at most, and the state is written in the one way
pub record IsReached (program : Program) (flat : Flat) (key : LazyState) (most : ℕ) : Type 0 where
  pub acts : List Act
  pub stands : Stands program flat.nodes acts (plain_at flat key.state) key.knowledge
  pub noted : notes_of flat.nodes acts ≡ key.notes.items
  pub valid : IsStateOf flat key.state
  pub counted : (node : ℕ) → slice_index key.state.arrivals.items node ≤ most
  pub neat : IsNeat flat key
  pub left : CountsNoneGone flat key

abbrev pub AreReached : Program → Flat → List LazyState → Type 0
AreReached program flat keys = (k : ℕ) (key : LazyState) → slice_get keys k ≡ Some key → IsReached program flat key k

-- a state that compares equal to this one is among them
pub record HasKey (keys : List LazyState) (key : LazyState) : Type 0 where
  pub place : ℕ
  pub stored : LazyState
  pub there : slice_get keys place ≡ Some stored
  pub same : eq-value.it key stored ≡ true

-- each of the states has one among the keys
abbrev pub AreThere : (keys states : List LazyState) → Type 0
AreThere keys states = (k : ℕ) (after : LazyState) → slice_get states k ≡ Some after → HasKey keys after

-- a node's deed, and then such deeds, lead to a state that is among them, or to one that turns for ever, behind which no run ends
pub record HasNext (flat : Flat) (keys : List LazyState) (key : LazyState) (node : ℕ) (deed : Deed) : Type 0 where
  pub after : LazyState
  pub steps : Steps flat key node deed after
  pub leads : Leads flat after (HasKey keys)

-- so it is of all that the node can do
abbrev pub HasNexts : Flat → List LazyState → LazyState → (node : ℕ) → Type 0
HasNexts flat keys key node =
    (deed : Deed) → CanMake flat.words (plain_at flat key.state) key.knowledge node deed → HasNext flat keys key node deed

-- Enough of the state's next ones is there, but for those that turn for ever: those of the lowest node that can do something other than
-- acquire a lock, or those of all nodes.
pub data HasEnough (flat : Flat) (keys : List LazyState) (key : LazyState) : Type 0 where
  by_one : (node : ℕ) → IsInFront flat key node → IsFirstInFront flat key node → HasNexts flat keys key node → HasEnough flat keys key
  by_all : ((node : ℕ) → HasNexts flat keys key node) → HasEnough flat keys key

-- enough of the state's next ones is there, and its outcome where it has none
pub record IsSearched (flat : Flat) (keys : List LazyState) (outcomes : List Outcome) (key : LazyState) : Type 0 where
  pub next : HasEnough flat keys key
  pub gathered : ((node : ℕ) (deed : Deed) → CanMake flat.words (plain_at flat key.state) key.knowledge node deed → ⊥)
      → HasOutcome outcomes key.notes.items

-- so it is of the states before an index
abbrev pub AreSearched : Flat → List LazyState → List Outcome → (index : ℕ) → Type 0
AreSearched flat keys outcomes index = (k : ℕ) (key : LazyState) → k < index → slice_get keys k ≡ Some key → IsSearched flat keys outcomes key

-- the outcomes are of lazy runs
abbrev pub AreSound : Program → Flat → List Outcome → Type 0
AreSound program flat outcomes = (k : ℕ) (outcome : Outcome) → slice_get outcomes k ≡ Some outcome → IsLazyOutcome program flat.nodes outcome.notes.items

-- one of the states is the beginning, or ahead of it, or a state ahead of it turns for ever
pub record IsBegun (program : Program) (flat : Flat) (keys : List LazyState) : Type 0 where
  pub first : LazyState
  pub stands : Stands program flat.nodes [] (plain_at flat first.state) first.knowledge
  pub none : first.notes.items ≡ []
  pub leads : Leads flat first (HasKey keys)

-- A search of the program's code met more states than a bound, no two of them equal, to each of which some lazy run leads. Each is written in
-- the one way, so two of them differ in where a node stands in the code, in who holds what, in what is known, or in what was noted.
pub record MeetsMore (program : Program) (nodes most : ℕ) : Type 0 where
  pub flat : Flat
  pub count : flat.nodes ≡ nodes
  pub place : ℕ
  pub code : IsCodeOf flat.code.now place program.statements.items
  pub words : flat.words ≡ program.words
  pub locks : flat.locks ≡ program.locks
  pub keys : List LazyState
  pub many : most < length keys
  pub distinct : IsDistinct eq-value.it keys
  pub reached : AreReached program flat keys

-- No more states than a bound are enough: the beginning is among them, or what lies ahead of it, and enough of the next ones of each, but for
-- states that turn for ever; and the outcomes are there of those that have none.
pub record FitsLazily (program : Program) (nodes most : ℕ) (outcomes : List Outcome) : Type 0 where
  pub flat : Flat
  pub count : flat.nodes ≡ nodes
  pub place : ℕ
  pub code : IsCodeOf flat.code.now place program.statements.items
  pub words : flat.words ≡ program.words
  pub locks : flat.locks ≡ program.locks
  pub keys : List LazyState
  pub few : length keys ≤ most
  pub begun : IsBegun program flat keys
  pub searched : AreSearched flat keys outcomes (length keys)
