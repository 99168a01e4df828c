use Rattle.std.proofs.Common.{◌≡◌, ◌∷◌, [], take}
use Rattle.std.specs.Prelude.{◌==◌, if◌then◌else◌}
use Rattle.lrc_text.specs.Each.{each}
use Rattle.lrc_chart_build.proofs.bands.places_of.Given as goal

-- the places among those so far
abbrev pub invariant-loop-place : goal.invariant-loop-place
invariant-loop-place l = l.places.items ≡ each (λ place other. if other == l.number then place ∷ [] else []) (take l.place l.numbers)
