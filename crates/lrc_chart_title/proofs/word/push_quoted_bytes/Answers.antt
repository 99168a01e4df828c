use Rattle.std.proofs.Common.{◌∙◌, ◌++◌, ℕ, List, ap, get_or, sym, take}
use Rattle.std.proofs.lemmas.List.{flat_map_more, take_more}
use Rattle.std.specs.List.{flat_map}
use Rattle.lrc_chart_title.specs.Word.{quoted_byte}
use Rattle.lrc_chart_title.proofs.word.push_quoted_bytes.Goals as goal

pub loop-byte-preserved : goal.loop-byte-preserved
loop-byte-preserved c =
    let word = c.args.word.now in
    let k = c.loop-byte.byte-index in
    let start = c.args.text.now.items in
    let byte = get_or word k 0 in
    c.in_ok-push_quoted_byte.ensures ∙ ap (λ (l : List ℕ). l ++ quoted_byte byte) c.loop-byte.invariant
    ∙ flat_map_more quoted_byte start (take k word) byte
    ∙ ap (λ (l : List ℕ). start ++ flat_map quoted_byte l) (sym (take_more word k 0 c.loop-byte-test.true))
