use Rattle.std.proofs.Common.{◌≡◌, ◌∙◌, ◌<◌, ◌++◌, [], ℕ, List, Vec, ap, sym, arith, append_assoc, length, map, take, get_or}
use Rattle.std.specs.declared.alloc.Global.{Global}
use Rattle.std.proofs.lemmas.List.{get_or-map, length-map}
use Rattle.lrc_text.proofs.Each.{each_more}
use Rattle.lrc_step.specs.EndLines.{circle_at, circles_text}
use Rattle.lrc_step.proofs.end_lines.push_circles.Goals as goal

abbrev nodes_of : Vec ℕ Global → List ℕ
nodes_of circle = circle.items

pub loop-place-preserved : goal.loop-place-preserved
loop-place-preserved c =
    let circles = c.args.circles.now in
    let all : List (List ℕ) = map nodes_of circles in
    let n = c.loop-place.place in
    let one = c.index-circles-place.result in
    let within : n < length circles = c.loop-place-test.true in
    let many : length all ≡ length circles = length-map circles nodes_of in
    let here : get_or all n [] ≡ one.items = get_or-map nodes_of circles n one [] within ∙ ap nodes_of (sym c.index-circles-place.is) in
    let old = c.args.text.now.items in
    c.in_ok-push_circle_at.ensures
    ∙ ap (λ (l : List ℕ). c.loop-place.text.items ++ circle_at n l) (c.deref.ensures.value ∙ sym here)
    ∙ ap (λ (l : List ℕ). l ++ circle_at n (get_or all n [])) c.loop-place.invariant
    ∙ append_assoc old (circles_text (take n all)) (circle_at n (get_or all n []))
    ∙ ap (λ (l : List ℕ). old ++ l) (sym (each_more circle_at all n [] (omega (arith, within, many))))
