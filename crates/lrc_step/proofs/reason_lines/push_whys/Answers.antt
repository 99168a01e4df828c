use Rattle.std.proofs.Common.{◌≡◌, ◌∙◌, ◌<◌, ◌++◌, [], ℕ, List, None, Option, Some, Vec, ap, ap₂, append_assoc, arith, get_or, length, map, sym, take}
use Rattle.std.specs.declared.alloc.Global.{Global}
use Rattle.std.proofs.lemmas.List.{get_or-map}
use Rattle.std.proofs.lemmas.Option.{same_Some, slice_get-get_or}
use Rattle.lrc_text.specs.Each.{each}
use Rattle.lrc_text.specs.Parts.{texts_of}
use Rattle.lrc_text.proofs.Each.{each_more}
use Rattle.lrc_step.specs.Lines.{lines_in, why_line}
use Rattle.lrc_step.specs.declared.given.Given.{Given}
use Rattle.lrc_step.specs.declared.rivals.Rival.{Rival}
use Rattle.lrc_step.proofs.Answered.{rivals_of}
use Rattle.lrc_step.proofs.reason_lines.push_whys.Goals as goal

abbrev bytes_of : Vec ℕ Global → List ℕ
bytes_of part = part.items

pub loop-place-preserved : goal.loop-place-preserved
loop-place-preserved c =
    let positions = c.args.positions.now in
    let printed = c.args.printed.now in
    let texts : List (List ℕ) = texts_of printed in
    let rivals = c.args.rivals.now in
    let all : List (List (Option Rival)) = map rivals_of rivals in
    let given = c.args.given.now in
    let n = c.loop-place.place in
    let old = c.args.text.now.items in
    let of : ℕ → ℕ → List ℕ = λ place position. why_line position (lines_in (get_or texts place [])) (get_or all place [])
    (get_or given place None) in
    let one = c.index-printed-place.result in
    let two = c.index-rivals-place.result in
    let within : n < length printed = omega arith in
    let few : n < length rivals = omega arith in
    let here : get_or texts n [] ≡ one.items = get_or-map bytes_of printed n one [] within ∙ ap bytes_of (sym c.index-printed-place.is) in
    let those : get_or all n [] ≡ two.items = get_or-map rivals_of rivals n two [] few ∙ ap rivals_of (sym c.index-rivals-place.is) in
    let position : ℕ = get_or positions n 0 in
    let three = c.index-given-place.result in
    let some : n < length given = omega arith in
    let known : get_or given n None ≡ three = same_Some (get_or given n None) three
    (sym (slice_get-get_or given n None some) ∙ slice_get-get_or given n three some ∙ ap Some (sym c.index-given-place.is)) in
    c.in_ok-push_why_line.ensures
    ∙ ap₂ (λ (l : List ℕ) (r : List (Option Rival)). c.loop-place.text.items ++ why_line position (lines_in l) r three)
    (c.deref.ensures.value ∙ sym here) (c.deref-in-loop-place.ensures.value ∙ sym those)
    ∙ ap (λ (g : Option Given). c.loop-place.text.items ++ why_line position (lines_in (get_or texts n [])) (get_or all n []) g) (sym known)
    ∙ ap (λ (l : List ℕ). l ++ of n position) c.loop-place.invariant
    ∙ append_assoc old (each of (take n positions)) (of n position)
    ∙ ap (λ (l : List ℕ). old ++ l) (sym (each_more of positions n 0 c.loop-place-test.true))
