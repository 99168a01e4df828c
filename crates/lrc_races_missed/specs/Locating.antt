-- A pair of locations that races is looked at.
use Rattle.std.specs.Prelude.{◌≡◌, ◌⊎◌, ◌↔◌, List, [], ◌∷◌, ◌++◌, Option, Some, None, Contains}
use Rattle.lrc_races_trace.specs.declared.event.Pair.{Pair}
use Rattle.lrc_races_claims.specs.declared.places.TwoPlaces.{TwoPlaces}
use Rattle.lrc_races_missed.specs.declared.key.Key.{Key}
use Rattle.lrc_races_missed.specs.declared.key.Key.TheVariants.{Places}

-- in the other order
abbrev pub turned : TwoPlaces → TwoPlaces
turned both = record { earlier = both.later; later = both.earlier }

-- two places were not met before, and no claim has them, in either order
pub record IsNew (met : List TwoPlaces) (keys : List Key) (both : TwoPlaces) : Type 0 where
  pub straight : ¬ Contains met both
  pub crossed : ¬ Contains met (turned both)
  pub unclaimed : ¬ Contains keys (Places both.earlier both.later)
  pub unclaimed_crossed : ¬ Contains keys (Places both.later both.earlier)

-- two places are among those that were met
abbrev pub IsMet : TwoPlaces → List TwoPlaces → List TwoPlaces → Type 0
IsMet both before after = (other : TwoPlaces) → Contains after other ↔ (Contains before other ⊎ (other ≡ both))

-- Of a pair with these places, if they have numbers, its places are met, and the pair is missed if they are new.
pub data IsNoted (keys : List Key) (pair : Pair) (before after : List TwoPlaces) (old new : List Pair) : Option TwoPlaces → Type 0 where
  nameless : after ≡ before → new ≡ old → IsNoted keys pair before after old new None
  missed : {both : TwoPlaces} → IsNew before keys both → IsMet both before after → new ≡ old ++ pair ∷ [] → IsNoted keys pair before after old new (Some both)
  passed : {both : TwoPlaces} → ¬ IsNew before keys both → IsMet both before after → new ≡ old → IsNoted keys pair before after old new (Some both)
