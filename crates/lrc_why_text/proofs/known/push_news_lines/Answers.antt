use Rattle.std.proofs.Common.{rules, ◌≡◌, ◌∙◌, ◌++◌, ap, sym, append_assoc, get_or, take}
use Rattle.lrc_text.proofs.Each.{each_more}
use Rattle.lrc_text.specs.Each.{each}
use Rattle.lrc_why_text.specs.Knowing.{news_text}
use Rattle.lrc_why_text.proofs.known.push_news_lines.Goals as goal

pub loop-node-preserved : goal.loop-node-preserved
loop-node-preserved c =
    let of = news_text c.args.shown c.args.size in
    let items = c.args.news.now in
    let at = c.loop-node.node in
    let x = c.index-news-node.result in
    let old = c.args.text.now.items in
    let read : x ≡ get_or items at x = search rules in
    c.in_ok-push_news.ensures ∙ ap (λ y. c.loop-node.text.items ++ of at y) read ∙ ap (λ l. l ++ of at (get_or items at x)) c.loop-node.invariant
    ∙ append_assoc old (each of (take at items)) (of at (get_or items at x)) ∙ ap (λ l. old ++ l) (sym (each_more of items at x c.loop-node-test.true))
