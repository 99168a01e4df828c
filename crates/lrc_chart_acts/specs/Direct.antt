-- Releases and acquires that nothing but the two themselves orders, and their arrows.
use Rattle.std.specs.Prelude.{◌≢◌, ℕ, zero, suc, ◌<◌, ◌==◌, ◌&&◌, ◌||◌, not, Bool, false, Option, None, Some, List, [], ◌∷◌, ◌++◌}
use Rattle.std.specs.Prelude.{codes, decimal, if◌then◌else◌, nat_lt, take}
use Rattle.lrc_trace.specs.declared.act.Act.{Act}
use Rattle.lrc_trace.specs.declared.act.Deed.{Deed}
use Rattle.lrc_trace.specs.declared.act.Deed.TheVariants.{Acquire, Release}
use Rattle.lrc_trace.specs.Order.{HappensBefore}
use Rattle.lrc_trace.specs.Run.{Does}
use Rattle.lrc_acts_text.specs.Acts.{act_at}
use Rattle.lrc_judge.specs.Order.{is_before}
use Rattle.lrc_judge.specs.declared.order.Order.{Order}
use Rattle.lrc_text.specs.Each.{each}
use Rattle.lrc_chart_build.specs.Seen.{SeenArrow}
use Rattle.lrc_chart_build.specs.declared.part.Place.{Place}

-- ---- what an arrow says

-- Two nodes: the one releases at i a lock that the other acquires at j, later, and no chain of other acts leads from i to j.
pub record IsDirect (run : List Act) (i j : ℕ) : Type 0 where
  pub from : ℕ
  pub to : ℕ
  pub lock : ℕ
  pub apart : from ≢ to
  pub later : i < j
  pub releases : Does run i from (Release lock)
  pub acquires : Does run j to (Acquire lock)
  pub alone : (k : ℕ) → HappensBefore run i k → HappensBefore run k j → ⊥

-- ---- the same by the table of what happens before what

-- some act before position k follows i and comes before j
abbrev pub goes_over : Order → (i j k : ℕ) → Bool
goes_over order i j zero = false
goes_over order i j (suc k) = (is_before order i k && is_before order k j) || goes_over order i j k

-- the lock that a deed releases and another one acquires, if there is one
abbrev pub acquired_lock : (l : ℕ) → Deed → Option ℕ
acquired_lock l (Acquire m) = if l == m then Some l else None
acquired_lock l deed = None

abbrev pub passed_lock : Deed → Deed → Option ℕ
passed_lock (Release l) later = acquired_lock l later
passed_lock _ later = None

-- the same of two acts, which are of different nodes
abbrev pub lock_between : Act → Act → Option ℕ
lock_between earlier later = if earlier.node == later.node then None else passed_lock earlier.deed later.deed

-- the lock that goes from the act at i to the one at j, where no other act is between them
abbrev pub lock_unless : (between : Bool) → Option ℕ → Option ℕ
lock_unless between lock = if between then None else lock

abbrev pub direct_lock : Order → List Act → (i j : ℕ) → Option ℕ
direct_lock order acts i j = lock_unless (not (nat_lt i j) || goes_over order i j j) (lock_between (act_at acts i) (act_at acts j))

-- ---- arrows

abbrev pub arrow_hint : (lock i j : ℕ) → List ℕ
arrow_hint lock i j = codes "lock " ++ decimal lock ++ codes ", act " ++ decimal i ++ codes ", act " ++ decimal j

abbrev pub arrow_of : List Act → (from i to j lock : ℕ) → SeenArrow
arrow_of acts from i to j lock = record {
  from = from;
  sender = (act_at acts i).node;
  to = to;
  receiver = (act_at acts j).node;
  again = false;
  label = codes "lock " ++ decimal lock;
  hint = arrow_hint lock i j;
}

abbrev pub arrow_if : List Act → (from i to j : ℕ) → Option ℕ → List SeenArrow
arrow_if acts from i to j None = []
arrow_if acts from i to j (Some lock) = arrow_of acts from i to j lock ∷ []

-- the arrow between the rows at two places, if there is one
abbrev pub arrow_between : Order → List Act → (to : ℕ) → Place → (from : ℕ) → Place → List SeenArrow
arrow_between order acts to later from earlier = arrow_if acts from earlier.turn to later.turn (direct_lock order acts earlier.turn later.turn)

-- the arrows to the row at a place, from those above it
abbrev pub arrows_to : Order → List Act → List Place → (to : ℕ) → Place → List SeenArrow
arrows_to order acts places to later = each (arrow_between order acts to later) (take to places)

-- An arrow for each release and acquire that are shown, and that nothing but the two themselves orders.
abbrev pub direct_arrows : Order → List Act → List Place → List SeenArrow
direct_arrows order acts places = each (arrows_to order acts places) places
