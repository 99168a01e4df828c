-- The key of a run that is seen from a base: as much of what the nodes, the locks and the barriers know as decides what is still to come.
use Rattle.std.specs.Prelude.{ℕ, zero, suc, ◌+◌, ◌-◌, ◌≤◌, ◌==◌, ◌||◌, Bool, true, false, All, List, [], ◌∷◌, ◌++◌, Option, Some, None, if◌then◌else◌, length, map, min, nat_le, nat_lt, option_and_then, option_map, slice_get}
use Rattle.lrc_program.specs.declared.Program.{Program}
use Rattle.lrc_trace.specs.declared.act.Act.{Act}
use Rattle.lrc_trace.specs.declared.act.Deed.{Deed}
use Rattle.lrc_trace.specs.declared.act.Deed.TheVariants.{Read, Acquire, Release}
use Rattle.lrc_trace.specs.Run.{arrives_before, departs_before}
use Rattle.lrc_exec.specs.Meaning.{Thread, Next, quiet, prints, reads, writes, acquires, releases, arrives, departs, traps, ends, next_of}
use Rattle.lrc_exec.specs.Plain.{start_of}
use Rattle.lrc_exec.specs.Follows.{deeds_of}
use Rattle.lrc_orders.specs.Notes.{notes_of}
use Rattle.lrc_time.specs.Time.{entry, weight_of}
use Rattle.lrc_exact.specs.LocalRule.{arrived_state, released_state}
use Rattle.lrc_exact.specs.Memory.{Rank, Word}
use Rattle.lrc_exact.specs.Rule.{Knowledge, Shape, State}
use Rattle.lrc_exact_states.specs.Levels.{Change, last_change}
use Rattle.lrc_exact_states.specs.Runs.{Base, here}

-- ---- threads

-- the value that a read gives
abbrev pub given_by : Deed → ℕ
given_by (Read word value) = value
given_by _ = 0

-- where a thread is once it has done what it does next, by this deed
abbrev pub after_next : Next → Deed → Option Thread
after_next (quiet after) deed = Some after
after_next (prints value after) deed = Some after
after_next (reads word after) deed = Some (after (given_by deed))
after_next (writes word value after) deed = Some after
after_next (acquires lock after) deed = Some after
after_next (releases lock after) deed = Some after
after_next (arrives after) deed = Some after
after_next (departs after) deed = Some after
after_next (traps cause) deed = None
after_next ends deed = None

-- where it is after these deeds
abbrev pub thread_after : List Deed → Option Thread → Option Thread
thread_after [] thread = thread
thread_after (deed ∷ deeds) thread = thread_after deeds (option_and_then (λ (t : Thread). after_next (next_of t) deed) thread)

-- ---- locks

abbrev pub held_by_deed : ℕ → Deed → Bool → Bool
held_by_deed lock (Acquire other) held = if other == lock then true else held
held_by_deed lock (Release other) held = if other == lock then false else held
held_by_deed lock deed held = held

abbrev pub held_by_act : (node lock : ℕ) → Option Act → Bool → Bool
held_by_act node lock None held = held
held_by_act node lock (Some act) held = if act.node == node then held_by_deed lock act.deed held else held

-- whether the node holds the lock before a position
abbrev pub is_held : List Act → (node lock : ℕ) → ℕ → Bool
is_held run node lock zero = false
is_held run node lock (suc position) = held_by_act node lock (slice_get run position) (is_held run node lock position)

-- ---- places

-- where something of the nodes' intervals is known: at a node, at the last release of a lock, and at a node's arrive with this number,
-- counted from the base
pub data Place : Type 0 where
  at_node : ℕ → Place
  at_lock : ℕ → Place
  at_arrive : (number node : ℕ) → Place

-- whether one of the first so many nodes has more intervals in a time than in the floor
abbrev pub is_above : ℕ → (floor time : List ℕ) → Bool
is_above zero floor time = false
is_above (suc node) floor time = nat_lt (entry floor node) (entry time node) || is_above node floor time

-- what a lock hands on, if not all nodes know it
abbrev pub handed_on : ℕ → List ℕ → Option State → Option Knowledge
handed_on nodes floor None = None
handed_on nodes floor (Some state) = if is_above nodes floor state.knows.time then Some state.knows else None

abbrev pub known_at : Shape → Base → List Act → List State → Place → Option Knowledge
known_at shape base run states (at_node node) = Some (here shape run states node).knows
known_at shape base run states (at_lock lock) = handed_on shape.nodes base.floor (released_state run states lock (length run))
known_at shape base run states (at_arrive number node) =
    option_map (λ (state : State). state.knows) (arrived_state run states (number + base.first) (length run) node)

-- ---- lists of what there is of each number

-- the values at so many numbers, from the first on
abbrev pub each_from : {A : Type 0} → (first count : ℕ) → (ℕ → A) → List A
each_from first zero value = []
each_from first (suc count) value = value first ∷ each_from (suc first) count value

-- so many arrives of each of the first so many nodes
abbrev pub arrives_of : ℕ → (ℕ → ℕ) → List Place
arrives_of zero count = []
arrives_of (suc node) count = each_from 0 (count node) (λ number. at_arrive number node) ++ arrives_of node count

abbrev pub places_of : (nodes locks : ℕ) → (ℕ → ℕ) → List Place
places_of nodes locks count = each_from 0 nodes at_node ++ (each_from 0 locks at_lock ++ arrives_of nodes count)

-- ---- what is kept of numbers and weights

-- how far a number is above another, up to the cap
abbrev pub capped_above : (cap bound number : ℕ) → ℕ
capped_above cap bound number = min cap (number - bound)

abbrev pub mark_kept : (cap bound : ℕ) → Option Rank → Option Rank
mark_kept cap bound None = None
mark_kept cap bound (Some rank) =
    if nat_le rank.weight bound then None else Some (record { weight = capped_above cap bound rank.weight; node = rank.node })

abbrev pub word_kept : (cap bound : ℕ) → Word → Word
word_kept cap bound word = record { value = word.value; mark = mark_kept cap bound word.mark }

abbrev pub change_kept : (cap bound : ℕ) → Option Change → Option Change
change_kept cap bound None = None
change_kept cap bound (Some change) = Some (record { weight = capped_above cap bound change.weight; value = change.value })

-- how high a place is above the floor
abbrev pub heights_of : (cap nodes : ℕ) → List ℕ → Option Knowledge → Option (List ℕ)
heights_of cap nodes floor None = None
heights_of cap nodes floor (Some knows) = Some (each_from 0 nodes (λ q. capped_above cap (entry floor q) (entry knows.time q)))

-- of a node's intervals, whether one place knows no more of them than another
abbrev pub is_under : ℕ → Option Knowledge → Option Knowledge → Bool
is_under node None other = false
is_under node (Some knows) None = false
is_under node (Some knows) (Some other) = nat_le (entry knows.time node) (entry other.time node)

-- and the last change of a word by those that the other knows beyond
abbrev pub change_beyond : (node word : ℕ) → Option Knowledge → Option Knowledge → Option Change
change_beyond node word None other = None
change_beyond node word (Some knows) None = None
change_beyond node word (Some knows) (Some other) = last_change (other.interval node) word (entry knows.time node) (entry other.time node)

pub record Gap : Type 0 where
  pub under : Bool
  pub changes : List (Option Change)

abbrev pub gap_of : (cap bound words node : ℕ) → Option Knowledge → Option Knowledge → Gap
gap_of cap bound words node knows other =
    record {
      under = is_under node knows other;
      changes = each_from 0 words (λ word. change_kept cap bound (change_beyond node word knows other));
    }

abbrev pub gaps_of : (cap bound words nodes : ℕ) → Option Knowledge → Option Knowledge → List Gap
gaps_of cap bound words nodes knows other = each_from 0 nodes (λ node. gap_of cap bound words node knows other)

-- ---- the key

pub record Key : Type 0 where
  -- of each node its thread and the locks that it holds, what all have printed, and how often each has arrived and departed
  pub threads : List (Option Thread)
  pub notes : List Act
  pub held : List (List Bool)
  pub arrived : List ℕ
  pub departed : List ℕ
  -- of each node its words, and their values before its open interval wrote them
  pub words : List (List Word)
  pub before : List (List (Option ℕ))
  -- of each place how high it is, and how it stands to each other place
  pub heights : List (Option (List ℕ))
  pub gaps : List (List (List Gap))

-- how often a node has arrived, and departed, since the base
abbrev pub arrived_since : Base → List Act → ℕ → ℕ
arrived_since base run node = arrives_before run node (length run) - base.first

abbrev pub departed_since : Base → List Act → ℕ → ℕ
departed_since base run node = departs_before run node (length run) - base.first

abbrev pub places_in : Program → Shape → Base → List Act → List Place
places_in program shape base run = places_of shape.nodes program.locks (arrived_since base run)

abbrev pub key_of : Program → Shape → (cap : ℕ) → Base → List Act → List State → Key
key_of program shape cap base run states =
    record {
      threads = each_from 0 shape.nodes (λ (node : ℕ). thread_after (deeds_of node run) (Some (start_of program shape.nodes node)));
      notes = notes_of shape.nodes run;
      held = each_from 0 shape.nodes (λ (node : ℕ). each_from 0 program.locks (λ (lock : ℕ). is_held run node lock (length run)));
      arrived = each_from 0 shape.nodes (arrived_since base run);
      departed = each_from 0 shape.nodes (departed_since base run);
      words = each_from 0 shape.nodes
          (λ (node : ℕ). each_from 0 program.words (λ (word : ℕ). word_kept cap (weight_of base.floor) ((here shape run states node).words word)));
      before = each_from 0 shape.nodes (λ (node : ℕ). each_from 0 program.words (here shape run states node).before);
      heights = map (λ (place : Place). heights_of cap shape.nodes base.floor (known_at shape base run states place)) (places_in program shape base run);
      gaps = map (λ (place : Place).
          map (λ (other : Place).
          gaps_of cap (weight_of base.floor) program.words shape.nodes (known_at shape base run states place) (known_at shape base run states other))
          (places_in program shape base run)) (places_in program shape base run);
    }

-- ---- how much it keeps

-- a mark, a change and heights that are kept are no higher than the cap
abbrev pub IsMarkUpTo : ℕ → Option Rank → Type 0
IsMarkUpTo cap None = Unit {0}
IsMarkUpTo cap (Some rank) = rank.weight ≤ cap

abbrev pub IsChangeUpTo : ℕ → Option Change → Type 0
IsChangeUpTo cap None = Unit {0}
IsChangeUpTo cap (Some change) = change.weight ≤ cap

abbrev pub AreHeightsUpTo : ℕ → Option (List ℕ) → Type 0
AreHeightsUpTo cap None = Unit {0}
AreHeightsUpTo cap (Some heights) = All (λ (height : ℕ). height ≤ cap) heights

-- so is each of a key
pub record IsKeyUpTo (cap : ℕ) (key : Key) : Type 0 where
  pub marks : All (λ (words : List Word). All (λ (word : Word). IsMarkUpTo cap word.mark) words) key.words
  pub heights : All (AreHeightsUpTo cap) key.heights
  pub changes : All (λ (row : List (List Gap)). All (λ (gaps : List Gap). All (λ (gap : Gap). All (IsChangeUpTo cap) gap.changes) gaps) row) key.gaps
