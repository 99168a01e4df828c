use Rattle.std.proofs.Common.{◌≡◌, ◌∙◌, sym, ap, true, false, arith}
use Rattle.std.specs.Prelude.{Some, slice_get}
use Rattle.std.proofs.lemmas.Option.{slice_get-get_or}
use Rattle.lrc_explore_text.proofs.Numbered.{no_line_at, none_left}
use Rattle.lrc_explore_text.proofs.outcome_run.place_of_line.Goals as goal

pub returns-then-has : goal.returns-then-has
returns-then-has c =
    let there : slice_get c.args.outcomes.now c.loop-place.place ≡ Some c.index-outcomes-place.result =
    slice_get-get_or c.args.outcomes.now c.loop-place.place _ c.loop-place-test.true ∙ ap Some (sym c.index-outcomes-place.is) in
    record { outcome = c.index-outcomes-place.result; there = there; is = c.in_ok-has.ensures.0 c.if-has.true }

pub loop-place-preserved : goal.loop-place-preserved
loop-place-preserved c =
    let there : slice_get c.args.outcomes.now c.loop-place.place ≡ Some c.index-outcomes-place.result =
    slice_get-get_or c.args.outcomes.now c.loop-place.place _ c.loop-place-test.true ∙ ap Some (sym c.index-outcomes-place.is) in
    no_line_at c.args.nodes c.args.outcomes.now c.args.line.now c.loop-place.place c.index-outcomes-place.result there
    (λ equal. let t = c.in_ok-has.ensures.1 equal in let x : true ≡ false = sym t ∙ c.if-has.false in cc) c.loop-place.invariant

pub unreachable-requires : goal.unreachable-requires
unreachable-requires c =
    none_left c.args.nodes c.args.outcomes.now c.args.line.now c.loop-place.place (omega (arith, c.loop-place-test.false)) c.requires c.loop-place.invariant
