use Rattle.std.proofs.Common.{◌≡◌, ap, arith, ◌∙◌, ◌++◌, ◌∷◌, [], length, map, sym}
use Rattle.std.specs.List.{range_with_len}
use Rattle.std.proofs.lemmas.List.{length-map}
use Rattle.std.proofs.lemmas.List.FromFn.{map-range_with_len_more}
use Rattle.lrc_lang.specs.Parser.View.{token_of}
use Rattle.lrc_named_warned.specs.Places.{number_spot}
use Rattle.lrc_named_warned.proofs.tokens.numbered.Goals as goal

pub loop-i-preserved : goal.loop-i-preserved
loop-i-preserved c =
    let i = c.loop-i.i in
    c.in_ok-push.ensures.items ∙ ap (λ l. l ++ number_spot i ∷ []) c.loop-i.invariant ∙ sym (map-range_with_len_more number_spot 0 i i (omega arith))

pub returns : goal.returns
returns c =
    let same : length (map token_of c.args.tokens.now) ≡ length c.args.tokens.now = length-map c.args.tokens.now token_of in
    let all : c.loop-i.i ≡ length (map token_of c.args.tokens.now) = omega (arith, c.loop-i-test.false, same) in
    c.loop-i.invariant ∙ ap (λ n. map number_spot (range_with_len 0 n)) all
