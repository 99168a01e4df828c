-- The barriers of a picture.
use Rattle.std.specs.Prelude.{◌≡◌, ◌≢◌, ◌<◌, ◌≤◌, ℕ, ◌+◌, ◌==◌, Option, None, Some, List, [], ◌∷◌, ◌++◌, AllPairs, Contains, codes, decimal}
use Rattle.std.specs.Prelude.{if◌then◌else◌, map, slice_get}
use Rattle.lrc_trace.specs.declared.act.Act.{Act}
use Rattle.lrc_trace.specs.declared.act.Deed.{Deed}
use Rattle.lrc_trace.specs.declared.act.Deed.TheVariants.{Arrive, Depart}
use Rattle.lrc_trace.specs.Run.{arrives_before, departs_before}
use Rattle.lrc_text.specs.Each.{each}
use Rattle.lrc_chart_build.specs.Seen.{SeenBand}
use Rattle.lrc_chart_build.specs.declared.part.Place.{Place}

-- the number, from 1, of the barrier that a node comes to or leaves at a position; 0 at another deed
abbrev pub barrier_of : List Act → (position node : ℕ) → Deed → ℕ
barrier_of acts position node Arrive = 1 + arrives_before acts node position
barrier_of acts position node Depart = 1 + departs_before acts node position
barrier_of acts position node _ = 0

abbrev pub barrier_of_act : List Act → (position : ℕ) → Option Act → ℕ
barrier_of_act acts position None = 0
barrier_of_act acts position (Some act) = barrier_of acts position act.node act.deed

abbrev pub barrier_at : List Act → Option ℕ → ℕ
barrier_at acts None = 0
barrier_at acts (Some position) = barrier_of_act acts position (slice_get acts position)

-- the barrier of each row
abbrev pub barriers : List Act → List Place → List ℕ
barriers acts rows = map (λ row. barrier_at acts row.act) rows

-- the places of a number
abbrev pub places_of : ℕ → List ℕ → List ℕ
places_of number numbers = each (λ place other. if other == number then place ∷ [] else []) numbers

-- the last of these numbers, or else another one
abbrev pub last_or : ℕ → List ℕ → ℕ
last_or other [] = other
last_or other (number ∷ more) = last_or number more

abbrev pub band : (number from to : ℕ) → SeenBand
band number from to = record { from = from; to = to; label = codes "barrier " ++ decimal number }

-- a band at its first place
abbrev pub band_at : (number place : ℕ) → List ℕ → List SeenBand
band_at number place [] = []
band_at number place (first ∷ more) = if first == place then band number first (last_or first more) ∷ [] else []

-- the band of the number at a place, if it is a barrier's and this is its first place
abbrev pub band_if : List ℕ → (place number : ℕ) → List SeenBand
band_if numbers place number = if number == 0 then [] else band_at number place (places_of number numbers)

-- A band for each barrier that a node comes to or leaves at a row, from the first such row to the last, in the order of the first
-- ones.
abbrev pub shown_bands : List Act → List Place → List SeenBand
shown_bands acts rows = let numbers = barriers acts rows in each (band_if numbers) numbers

-- ---- what that comes to

-- a band is of the barrier with this number: it goes from the first row of that barrier to the last
pub record IsBandOf (numbers : List ℕ) (number : ℕ) (shown : SeenBand) : Type 0 where
  pub begins : slice_get numbers shown.from ≡ Some number
  pub ends : slice_get numbers shown.to ≡ Some number
  pub around : (place : ℕ) → slice_get numbers place ≡ Some number → (shown.from ≤ place) × (place ≤ shown.to)
  pub named : shown.label ≡ codes "barrier " ++ decimal number

-- each band is of a barrier, each barrier that has a row has a band, and no two bands begin at one row, so it has no other
pub record AreBandsOf (numbers : List ℕ) (bands : List SeenBand) : Type 0 where
  pub sound : (shown : SeenBand) → Contains bands shown → (number : ℕ) × (number ≢ 0) × IsBandOf numbers number shown
  pub complete : (place number : ℕ) → slice_get numbers place ≡ Some number → number ≢ 0
      → (shown : SeenBand) × Contains bands shown × IsBandOf numbers number shown
  pub once : AllPairs (λ (a b : SeenBand). a.from < b.from) bands
