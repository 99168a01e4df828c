-- Intervals with stamps, as nodes tell one another of them: which are below which, and in which order their changes are
-- applied.
use Rattle.std.specs.Prelude.{◌≡◌, ℕ, ◌≤◌, ◌+◌, ◌<◌, ◌⊎◌, ◌==◌, ◌&&◌, ◌||◌, Bool, IsTrue, not, nat_lt, Option}
use Rattle.std.specs.Prelude.{None, List, length, filter, slice_set, Contains, AllPairs}
use Rattle.lrc_time.specs.Time.{entry, knows, Covers, weight_of}
use Rattle.lrc_page.specs.declared.changes.Change.{Change}
use Rattle.lrc_copies.specs.Page.{PageHistory}

-- the node of each interval, and its stamp: the node's time just after it closed the interval
pub record Stamps (A : Type 0) : Type 0 where
  pub node : A → ℕ
  pub stamp : A → List ℕ

-- an interval's index: its number among those of its node
abbrev pub stamp_index : {A : Type 0} → Stamps A → A → ℕ
stamp_index s a = entry (s.stamp a) (s.node a)

abbrev pub stamp_weight : {A : Type 0} → Stamps A → A → ℕ
stamp_weight s a = weight_of (s.stamp a)

-- the time covers the interval
abbrev pub stamps_covered : {A : Type 0} → Stamps A → List ℕ → A → Bool
stamps_covered s time a = knows time (s.node a) (stamp_index s a)

-- the members of the list that the time covers
abbrev pub covered : {A : Type 0} → Stamps A → List ℕ → List A → List A
covered s time all = filter (stamps_covered s time) all

-- the two have the same node and index
abbrev pub is_same : {A : Type 0} → Stamps A → A → A → Bool
is_same s a b = (s.node a == s.node b) && (stamp_index s a == stamp_index s b)

-- the first is below the second: the second's stamp covers it, and it is another
abbrev pub stamps_below : {A : Type 0} → Stamps A → A → A → Bool
stamps_below s a b = stamps_covered s (s.stamp b) a && not (is_same s a b)

-- the first comes before the second by weight, then node, then index
abbrev pub comes_before : {A : Type 0} → Stamps A → A → A → Bool
comes_before s a b =
    nat_lt (stamp_weight s a) (stamp_weight s b)
    || ((stamp_weight s a == stamp_weight s b)
    && (nat_lt (s.node a) (s.node b) || ((s.node a == s.node b) && nat_lt (stamp_index s a) (stamp_index s b))))

-- the history of a page that stamped intervals make
abbrev pub page_of_stamps : {A : Type 0} → Stamps A → (A → ℕ → Option ℕ) → (A → List Change) → PageHistory A
page_of_stamps s wrote changes = record { wrote = wrote; changes = changes; weight = stamp_weight s; below = stamps_below s }

-- the time is a cut: it covers the stamp of each member that it covers
abbrev pub IsCut : {A : Type 0} → Stamps A → List A → List ℕ → Type 0
IsCut {A} s all time = (a : A) → Contains all a → IsTrue (stamps_covered s time a) → Covers time (s.stamp a)

-- All intervals that so many nodes closed, in the order of closing:
pub record AreStamped {A : Type 0} (s : Stamps A) (nodes : ℕ) (all : List A) : Type 0 where
  -- every stamp has an entry for each node,
  pub long : (a : A) → Contains all a → length (s.stamp a) ≡ nodes
  -- and counts its own interval,
  pub begun : (a : A) → Contains all a → 1 ≤ stamp_index s a
  -- and is a cut,
  pub cuts : (a : A) → Contains all a → IsCut s all (s.stamp a)
  -- and none covers an interval that was closed later.
  pub forward : AllPairs (λ a b. ¬ IsTrue (stamps_covered s (s.stamp a) b)) all

-- A node closes its next interval at this time:
pub record IsClosedAt {A : Type 0} (s : Stamps A) (nodes : ℕ) (all : List A) (time : List ℕ) (x : A) : Type 0 where
  -- the time has an entry for each node, also for this one,
  pub long : length time ≡ nodes
  pub counted : s.node x < nodes
  -- and is a cut;
  pub cut : IsCut s all time
  -- the stamp is the time with the node's own entry one greater;
  pub stamped : s.stamp x ≡ slice_set time (s.node x) (entry time (s.node x) + 1)
  -- the time covers all that the node closed before,
  pub own : (a : A) → Contains all a → s.node a ≡ s.node x → IsTrue (stamps_covered s time a)
  -- and no stamp covers the new interval.
  pub unknown : (a : A) → Contains all a → ¬ IsTrue (stamps_covered s (s.stamp a) x)

-- the interval stands between two times: the second covers it, the first does not
pub record StandsBetween {A : Type 0} (s : Stamps A) (all : List A) (since upto : List ℕ) (a : A) : Type 0 where
  pub member : Contains all a
  pub later : ¬ IsTrue (stamps_covered s since a)
  pub known : IsTrue (stamps_covered s upto a)

-- The intervals that a copy lacks, in the order in which their changes are applied:
pub record AreLacking {A : Type 0} (s : Stamps A) (wrote : A → ℕ → Option ℕ) (words : ℕ) (all : List A) (since upto : List ℕ) (missing : List A)
    : Type 0 where
  -- each stands between the times,
  pub members : (a : A) → Contains missing a → StandsBetween s all since upto a
  -- each that does is among them, or did not write the page,
  pub complete : (a : A) → StandsBetween s all since upto a → Contains missing a ⊎ ((offset : ℕ) → offset < words → wrote a offset ≡ None)
  -- and they ascend by weight, node and index.
  pub ascending : AllPairs (λ a b. IsTrue (comes_before s a b)) missing
