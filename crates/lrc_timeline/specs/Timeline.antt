-- The times of the acts of a run, each kept once for as long as it is its node's.
use Rattle.std.specs.Prelude.{◌≡◌, ℕ, ◌<◌, ◌==◌, List, [], ◌∷◌, ◌++◌, Option, None, Some, fold, if◌then◌else◌, length, map, option_map, slice_index_or}
use Rattle.std.specs.Cmp.Lexicographic.{pointwise}
use Rattle.lrc_trace.specs.declared.act.Act.{Act}
use Rattle.lrc_timeline.specs.declared.timeline.Timeline.{Timeline}

-- an act's node, and its node's time just after the act
pub record Timed : Type 0 where
  pub node : ℕ
  pub time : List ℕ

-- acts with these times
abbrev pub timed : List Act → List (List ℕ) → List Timed
timed [] times = []
timed (act ∷ acts) [] = []
timed (act ∷ acts) (time ∷ times) = record { node = act.node; time = time } ∷ timed acts times

-- the times of the acts of a timeline, in their order
abbrev pub times_in : Timeline → List (List ℕ)
times_in line = map (λ place. slice_index_or line.kept.items place []) line.places.items

-- the node's time after acts, if it has acted
abbrev pub newest_of : (node : ℕ) → List Timed → Option (List ℕ)
newest_of node acts = fold (λ last act. if act.node == node then Some act.time else last) None acts

-- what an act brings: its time, unless that is its node's already
abbrev pub brought : Option (List ℕ) → List ℕ → List (List ℕ)
brought None time = time ∷ []
brought (Some last) time = if pointwise ◌==◌ last time then [] else time ∷ []

-- what acts bring that come behind these, in their order
abbrev pub brought_behind : (before acts : List Timed) → List (List ℕ)
brought_behind before [] = []
brought_behind before (act ∷ acts) = brought (newest_of act.node before) act.time ++ brought_behind (before ++ act ∷ []) acts

-- the node's newest time in a timeline, if it has one
abbrev pub newest_in : Timeline → (node : ℕ) → Option (List ℕ)
newest_in line node = option_map (λ place. slice_index_or line.kept.items place []) (slice_index_or line.newest node None)

-- A timeline of these acts has their times. It keeps what they bring, and knows each node's newest time.
pub record IsTimelineOf (acts : List Timed) (line : Timeline) : Type 0 where
  pub times : times_in line ≡ map (λ act. act.time) acts
  pub kept : line.kept.items ≡ brought_behind [] acts
  pub newest : (node : ℕ) → node < 16 → newest_in line node ≡ newest_of node acts

-- ---- one act more

-- the time is the one kept at this place
pub record IsKeptAt (kept : List (List ℕ)) (time : List ℕ) (place : ℕ) : Type 0 where
  pub within : place < length kept
  pub is : slice_index_or kept place [] ≡ time

-- a timeline now keeps these too, and has this time at this place
pub record KeepsAt (more : List (List ℕ)) (time : List ℕ) (old new : Timeline) (place : ℕ) : Type 0 where
  pub kept : new.kept.items ≡ old.kept.items ++ more
  pub at : IsKeptAt new.kept.items time place
  pub places : new.places.items ≡ old.places.items
  pub newest : new.newest ≡ old.newest
