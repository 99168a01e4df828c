use Rattle.std.proofs.Common.{◌∙◌, ◌++◌, ℕ, List, ap₂, get_or, map, refl}
use Rattle.std.specs.Prelude.{Bool, Option}
use Rattle.lrc_chart_build.specs.Arrows.{arrow_if, is_later, place_of_turn}
use Rattle.lrc_chart_build.specs.Seen.{SeenArrow, seen_arrow}
use Rattle.lrc_chart_build.proofs.Steps.{each_step}
use Rattle.lrc_chart_build.proofs.arrows.push_arrows.Goals as goal

pub loop-count-preserved : goal.loop-count-preserved
loop-count-preserved c =
    let places = c.args.places.now in
    let from = c.args.from in
    let envelope = c.args.envelope.now in
    let turns = c.args.turns.now in
    let count = c.loop-count.count in
    let of : ℕ → ℕ → List SeenArrow = λ count turn. arrow_if from envelope (is_later count) (place_of_turn places turn) in
    let old = map seen_arrow c.loop-count.arrows.items in
    each_step of turns count 0 (get_or turns count 0) (map seen_arrow c.args.arrows.now.items) old
    (map seen_arrow c.push_arrow.new.arrows.items) c.loop-count-test.true refl c.loop-count.invariant
    (c.in_ok-push_arrow.ensures
    ∙ ap₂ (λ (again : Bool) (to : Option ℕ). old ++ arrow_if from envelope again to) c.is_later.ensures c.place_of_turn-to.ensures)
