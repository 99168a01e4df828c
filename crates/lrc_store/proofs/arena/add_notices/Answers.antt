use Rattle.std.proofs.Common.{ℕ, List, ◌++◌, map, ap, sym, ◌∙◌, arith, append-nil}
use Rattle.std.proofs.lemmas.List.{take_all}
use Rattle.lrc_time.specs.Time.{weight_of}
use Rattle.lrc_store.specs.Arena.{fresh_in}
use Rattle.lrc_store.specs.Interval.{IntervalRecord}
use Rattle.lrc_store.proofs.Arenas.{noted-more}
use Rattle.lrc_store.proofs.arena.add_notices.Goals as goal

pub loop-page-init : goal.loop-page-init
loop-page-init c = (sym (append-nil c.args.notices.now.items), omega arith)

pub loop-page-preserved : goal.loop-page-preserved
loop-page-preserved c = (
  noted-more c.args.notices.now.items c.loop-page.notices.items c.push.new.self.items c.as_slice-page-items.result.now
      c.loop-page.page-index c.args.interval.now c.weight-weight.result c.index-index.result c.interval.inside.node
      c.in-Ok.ensures.items c.loop-page.invariant.0
      (c.weight-weight.ensures ∙ ap (λ (i : IntervalRecord). weight_of i.stamp) c.interval.view_is)
      c.index-index.ensures.index (ap (λ (i : IntervalRecord). i.node) c.interval.view_is) c.loop-page-test.true,
  omega (arith, c.loop-page.invariant.1, c.in-Ok.ensures.capacity),
)

pub returns : goal.returns
returns c =
    c.loop-page.invariant.0
    ∙ ap (λ (pages : List ℕ). c.args.notices.now.items ++ map (fresh_in c.args.interval.now) pages)
    (take_all c.loop-page.page-index c.as_slice-page-items.result.now c.loop-page-test.false
    ∙ c.as_slice-page-items.ensures ∙ ap (λ (i : IntervalRecord). i.pages) c.interval.view_is)
