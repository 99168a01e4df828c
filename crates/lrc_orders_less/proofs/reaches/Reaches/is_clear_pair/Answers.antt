use Rattle.std.proofs.Common.{◌≡◌, ◌∙◌, ap, subst}
use Rattle.lrc_orders_away.specs.Undisputed.{KeepsAway}
use Rattle.lrc_orders_table.specs.Nexts.{next_in}
use Rattle.lrc_orders_table.proofs.RowNodes.{next_there}
use Rattle.lrc_orders_less.specs.Clash.{clash_by}
use Rattle.lrc_orders_less.proofs.Pairs.{next_within}
use Rattle.lrc_orders_less.proofs.reaches.Reaches.is_clear_pair.Goals as goal

pub clash_of-deed-requires : goal.clash_of-deed-requires
clash_of-deed-requires c =
    next_within c.args.means.now c.args.table.now c.args.pair.acting c.thread_of-acting.result c.requires.table c.thread_of-acting.ensures

pub returns-clause-texts : goal.returns-clause-texts
returns-clause-texts c = c.in_ok-place.ensures.texts c.args.table.now.rows.threads.keys c.thread_of-other.ensures c.requires.texts

pub returns-clause-clear : goal.returns-clause-clear
returns-clause-clear c = λ e.
    let means = c.args.means.now in
    let table = c.args.table.now in
    let threads = table.rows.threads.keys in
    let acting = c.thread_of-acting.result in
    let other = c.thread_of-other.result in
    let deed : c.clash_of-deed.result ≡ clash_by (next_in means.flat acting) =
    c.clash_of-deed.ensures ∙ ap clash_by (next_there means table c.args.pair.acting acting c.requires.table c.thread_of-acting.ensures) in
    let texts = c.in_ok-place.ensures.texts threads c.thread_of-other.ensures c.requires.texts in
    record {
      acting = acting;
      acting_there = c.thread_of-acting.ensures;
      other = other;
      other_there = c.thread_of-other.ensures;
      keeps = subst (λ d. KeepsAway means.flat other acting.held d) deed (c.is_clear.ensures e threads c.thread_of-other.ensures texts);
    }
