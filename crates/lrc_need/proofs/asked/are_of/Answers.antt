use Rattle.std.proofs.Common.{◌≡◌, ℕ, map, length, arith, sym, ap, ◌∙◌}
use Rattle.std.proofs.lemmas.List.{length-map, get_or-map}
use Rattle.lrc_envelope.specs.Records.{IndexedChangesRecord}
use Rattle.lrc_need.proofs.Lists.{lists_differ, lists_agree}
use Rattle.lrc_need.proofs.asked.are_of.Goals as goal

pub returns-then-indices-place : goal.returns-then-indices-place
returns-then-indices-place c =
    let index : IndexedChangesRecord → ℕ = λ part. part.index in
    lists_differ c.args.indices.now (map index c.args.parts.now) c.loop-place.place
    (λ same. c.if-indices-place.true
    (same ∙ get_or-map index c.args.parts.now c.loop-place.place c.index-parts-place.result 0 c.loop-place-test.true
    ∙ ap index (sym c.index-parts-place.is) ∙ ap index (sym c.part.view_is)))

pub returns : goal.returns
returns c =
    let long : length c.args.indices.now ≡ length c.args.parts.now = c.if-indices-parts.false in
    lists_agree c.args.indices.now (map (λ part. part.index) c.args.parts.now)
    (long ∙ sym (length-map c.args.parts.now (λ part. part.index))) (λ k h. c.loop-place.invariant k (omega (arith, h, long, c.loop-place-test.false)))
