use Rattle.std.proofs.Common.{◌≡◌, true}
use Rattle.std.proofs.lemmas.Result.{IfOk-weaker}
use Rattle.lrc_orders_away.specs.Undisputed.{KeepsAway, StaysAway}
use Rattle.lrc_orders_away.proofs.Coming.{stays_by}
use Rattle.lrc_orders_away.proofs.undisputed.stays_away.Goals as goal

pub returns-then-other-node : goal.returns-then-other-node
returns-then-other-node c = λ e own spot apart at at_other. absurd (apart c.if-other-node.true)

pub returns : goal.returns
returns c =
    let flat = c.args.flat.now in
    let state = c.args.state.now in
    let own = c.index.result.now in
    let spot = c.index-2.result.now in
    IfOk-weaker c.keeps_away.result (λ known. known ≡ true → KeepsAway flat spot own.held c.args.deed)
    (λ known. known ≡ true → StaysAway flat state c.args.node c.args.deed c.args.other)
    (λ known keeps e. stays_by flat state c.args.node c.args.other c.args.deed own spot c.index.ensures c.index-2.ensures (keeps e)) c.keeps_away.ensures
