use Rattle.std.proofs.Common.{◌∷◌, [], ℕ, List, get_or, refl}
use Rattle.std.specs.Prelude.{◌==◌, if◌then◌else◌}
use Rattle.lrc_chart_build.proofs.Steps.{each_step}
use Rattle.lrc_chart_build.proofs.bands.places_of.Goals as goal

pub loop-place-preserved : goal.loop-place-preserved
loop-place-preserved c =
    let of : ℕ → ℕ → List ℕ = λ place other. if other == c.args.number then place ∷ [] else [] in
    let numbers = c.args.numbers.now in
    let place = c.loop-place.place in
    each_step of numbers place 0 (get_or numbers place 0) [] c.loop-place.places.items c.push_place.new.places.items
    c.loop-place-test.true refl c.loop-place.invariant c.in_ok-push_place.ensures
