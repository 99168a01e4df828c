-- One access of the row more.
use Rattle.std.proofs.Common.{◌≡◌, ◌+◌, ◌-◌, ◌<◌, ℕ, length, subst, arith}
use Rattle.std.proofs.lemmas.Option.{slice_get-get_or}
use Rattle.lrc_races_detector.specs.Vectors.{entries}
use Rattle.lrc_races_locations.specs.Finding.{AreFoundFrom}
use Rattle.lrc_races_locations.proofs.Offering.{found-empty, found-considered}
use Rattle.lrc_races_locations.proofs.locator.find.Goals as goal

pub loop-place-init : goal.loop-place-init
loop-place-init c = λ order.
    let row = c.args.row.now in
    found-empty row (entries c.args.known) c.args.later c.args.sides.now.keys (length row) c.args.found.now.items c.requires (omega arith)

pub loop-place-preserved : goal.loop-place-preserved
loop-place-preserved c = λ order.
    let row = c.args.row.now in
    let here = c.loop-place.place - 1 in
    let lt : here < length row = omega arith in
    let again : c.loop-place.place ≡ here + 1 = omega arith in
    let old = subst (λ (k : ℕ). AreFoundFrom k row (entries c.args.known) c.args.later c.args.sides.now.keys c.loop-place.sides.keys c.loop-place.found.items)
    again (c.loop-place.invariant order) in
    found-considered row (entries c.args.known) c.args.later c.args.sides.now.keys here _ (slice_get-get_or row here _ lt) c.loop-place.sides.keys
    c.loop-place.found.items old order _ _ c.in_ok-consider.ensures

pub returns : goal.returns
returns c = λ order.
    let done : c.loop-place.place ≡ 0 = omega arith in
    subst (λ (k : ℕ). AreFoundFrom k c.args.row.now (entries c.args.known) c.args.later c.args.sides.now.keys c.loop-place.sides.keys c.loop-place.found.items)
    done (c.loop-place.invariant order)
