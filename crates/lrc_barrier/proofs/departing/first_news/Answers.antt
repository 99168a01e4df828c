use Rattle.std.proofs.Common.{◌≡◌, ◌-◌, ◌∙◌, false, arith, get_or, sym}
use Rattle.lrc_store.specs.Interval.{IntervalRecord}
use Rattle.lrc_barrier.specs.Barrier.{is_news}
use Rattle.lrc_barrier.proofs.News.{known_at, news_from}
use Rattle.lrc_barrier.proofs.departing.first_news.Goals as goal

pub returns-else-is_news-clause-news : goal.returns-else-is_news-clause-news
returns-else-is_news-clause-news c =
    let since = c.args.since.now in
    let xs = c.args.intervals.now in
    let start = c.loop-start.start in
    let known : (d : IntervalRecord) → is_news since (get_or xs (start - 1) d) ≡ false =
    known_at since xs (start - 1) c.index-intervals-start.result (omega arith) c.index-intervals-start.is
    (sym c.is_news.ensures ∙ c.if-is_news.false) in
    news_from c.args.node since xs start c.loop-start.invariant.within c.requires.own c.requires.ascending
    (λ d h. known d) c.loop-start.invariant.news

pub returns-after-loop-start-clause-news : goal.returns-after-loop-start-clause-news
returns-after-loop-start-clause-news c =
    let since = c.args.since.now in
    let xs = c.args.intervals.now in
    let start = c.loop-start.start in
    news_from c.args.node since xs start c.loop-start.invariant.within c.requires.own c.requires.ascending
    (λ d h. absurd (omega (arith, h))) c.loop-start.invariant.news
