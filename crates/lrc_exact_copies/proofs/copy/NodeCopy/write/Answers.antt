use Rattle.std.proofs.Common.{◌≡◌, ◌+◌, ap, ◌∙◌, sym}
use Rattle.lrc_time.specs.Time.{entry}
use Rattle.lrc_exact.specs.Rule.{accessed}
use Rattle.lrc_exact_copies.specs.Copies.{with_page}
use Rattle.lrc_exact_copies.proofs.Copying.{writes-page}
use Rattle.lrc_exact_copies.proofs.copy.NodeCopy.write.Goals as goal

pub returns : goal.returns
returns c = λ shape a l state le lt on old.
    let index : c.at-index.result + 1 ≡ entry c.args.self.now.time c.args.node + 1 = ap (λ n. n + 1) c.at-index.ensures in
    let index' : c.at-index.result + 1 ≡ entry c.write_page.new.self.time c.args.node + 1 =
    index ∙ ap (λ t. entry t c.args.node + 1) (sym c.in_ok-write_page.ensures.same) in
    writes-page c.args.word c.args.value c.args.page on state
    (c.in_ok-write_word.ensures shape c.args.node c.args.now l (with_page c.args.page (accessed shape c.args.page state)) index'
    (c.in_ok-write_page.ensures.copy shape c.args.node a l state le lt index old))
