use Rattle.std.proofs.Common.{rules}
use Rattle.std.proofs.lemmas.List.Elements.{All-more}
use Rattle.lrc_lang.specs.Lexer.{Has}
use Rattle.lrc_lang.proofs.LexemesSpans.{span_before}
use Rattle.lrc_lang.proofs.lexer.split_front.Goals as goal

pub returns-then-not-is_in : goal.returns-then-not-is_in
returns-then-not-is_in c =
    let here = c.split_at.ensures in
    let no_more = span_before (Has c.args.class) c.args.text.now c.loop-place.place c.loop-place-test.true c.loop-place.invariant (λ h. let t =
    c.if-not-is_in.ensures.1 h in absurd (cc)) in
    rw (here.front, here.back) no_more

pub loop-place-preserved : goal.loop-place-preserved
loop-place-preserved c =
    let belongs = c.if-not-is_in.ensures.0 (search rules) in
    All-more (Has c.args.class) c.args.text.now c.loop-place.place 0 c.loop-place-test.true c.loop-place.invariant belongs
