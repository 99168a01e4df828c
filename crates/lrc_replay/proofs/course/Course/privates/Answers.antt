use Rattle.std.proofs.Common.{◌≡◌, ◌<◌, ◌≤◌, get_or, length, refl, sym, rules, arith}
use Rattle.std.proofs.lemmas.Option.{none-some}
use Rattle.lrc_replay.proofs.Coursing.{privates_are, ways_counted}
use Rattle.lrc_replay.proofs.course.Course.privates.Goals as goal

pub returns-then-node-len-clause-values : goal.returns-then-node-len-clause-values
returns-then-node-len-clause-values c plan acts is =
    let items = c.args.self.now.ways.items in
    let node : c.from-node.result ≡ c.args.node = search rules in
    let inside : c.from-node.result < length items = search rules in
    let at : c.index.result.now ≡ get_or items c.from-node.result c.index.result.now = search rules in
    privates_are plan acts c.args.self.now c.from-node.result c.args.node c.index.result.now is node inside at

pub returns-then-node-len-clause-none : goal.returns-then-node-len-clause-none
returns-then-node-len-clause-none c plan acts is =
    let items = c.args.self.now.ways.items in
    let node : c.from-node.result ≡ c.args.node = search rules in
    let inside : c.from-node.result < length items = search rules in
    let counted = ways_counted plan acts c.args.self.now is in
    (λ none. absurd (none-some _ (sym none)), λ past. absurd (omega (arith, node, inside, counted, past)))

pub returns-else-node-len-clause-none : goal.returns-else-node-len-clause-none
returns-else-node-len-clause-none c plan acts is =
    let items = c.args.self.now.ways.items in
    let node : c.from-node.result ≡ c.args.node = search rules in
    let past : length items ≤ c.from-node.result = search rules in
    let counted = ways_counted plan acts c.args.self.now is in
    (λ none. omega (arith, node, past, counted), λ beyond. refl)
