use Rattle.std.proofs.Common.{◌∙◌, ◌++◌, ◌∷◌, [], ℕ, List, ap, arith, map, sym}
use Rattle.std.specs.Prelude.{slice_index}
use Rattle.std.specs.List.{range_with_len}
use Rattle.std.proofs.lemmas.List.FromFn.{map-range_with_len_more}
use Rattle.lrc_source.proofs.read_text.lines_to.Goals as goal

pub loop-number-preserved : goal.loop-number-preserved
loop-number-preserved c =
    let given = c.args.given.now in
    let number = c.loop-number.number in
    let so_far : List ℕ = map (λ n. slice_index given n) (range_with_len 0 number) in
    c.in_ok-push.ensures.items ∙ ap (λ l. l ++ c.line_at.result ∷ []) c.loop-number.invariant
    ∙ ap (λ line. so_far ++ line ∷ []) c.line_at.ensures
    ∙ sym (map-range_with_len_more (λ n. slice_index given n) 0 number number (omega arith))
