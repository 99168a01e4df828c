use Rattle.std.proofs.Common.{◌≡◌, ◌<◌, ◌+◌, ◌-◌, suc, length, map, refl, sym, ap, ◌∙◌, arith}
use Rattle.std.specs.Prelude.{min}
use Rattle.std.proofs.lemmas.List.{length-map}
use Rattle.lrc_named_tokens.specs.View.{located_of}
use Rattle.lrc_named_name_hints.specs.Owner.{owner}
use Rattle.lrc_named_name_hints.proofs.Owning.{name_met, none_met, passed_over}
use Rattle.lrc_named_name_hints.proofs.owner.owner.Goals as goal

pub loop-back-preserved : goal.loop-back-preserved
loop-back-preserved c =
    let xs = c.args.tokens.now in
    let count = c.min-count.result in
    let back = c.loop-back.back in
    let up : count - back ≡ suc (count - 1 - back) = omega (arith, c.loop-back-test.true) in
    let lt : count - 1 - back < length xs = omega (arith, c.min-count.ensures, c.loop-back-test.true) in
    let down : count - (back + 1) ≡ count - 1 - back = omega arith in
    record {
      same = passed_over xs (count - back) (count - 1 - back) c.loop-back.depth _ _ up lt c.loop-back.invariant.same (count - (back + 1)) c.open_before-depth.result down
          (sym c.is_outside.ensures ∙ c.if-is_outside.false) c.open_before-depth.ensures.depth;
      few = omega (arith, c.open_before-depth.ensures.few, c.loop-back.invariant.few);
    }

pub returns-then-is_outside : goal.returns-then-is_outside
returns-then-is_outside c =
    let xs = c.args.tokens.now in
    let count = c.min-count.result in
    let back = c.loop-back.back in
    let up : count - back ≡ suc (count - 1 - back) = omega (arith, c.loop-back-test.true) in
    let lt : count - 1 - back < length xs = omega (arith, c.min-count.ensures, c.loop-back-test.true) in
    c.name_of.ensures
    ∙ name_met xs (count - back) (count - 1 - back) c.loop-back.depth _ _ up lt c.loop-back.invariant.same (sym c.is_outside.ensures ∙ c.if-is_outside.true)
    ∙ ap (λ k. owner (map located_of xs) k c.args.opened) (c.min-count.ensures ∙ ap (min c.args.at) (sym (length-map xs located_of)))

pub returns : goal.returns
returns c =
    let xs = c.args.tokens.now in
    let none : c.min-count.result - c.loop-back.back ≡ 0 = omega (arith, c.loop-back-test.false) in
    none_met xs (c.min-count.result - c.loop-back.back) c.loop-back.depth _ none c.loop-back.invariant.same
    ∙ ap (λ k. owner (map located_of xs) k c.args.opened) (c.min-count.ensures ∙ ap (min c.args.at) (sym (length-map xs located_of)))
