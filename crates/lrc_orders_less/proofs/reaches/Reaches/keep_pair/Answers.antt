use Rattle.std.proofs.Common.{◌∙◌}
use Rattle.indexmap.proofs.CallerLemmas.{insert_entry-new}
use Rattle.lrc_orders_less.specs.contracts.reaches.PairPartialEq.TheImpl.{eq-value as pair_eq}
use Rattle.lrc_orders_less.proofs.reaches.Reaches.keep_pair.Goals as goal

pub returns-clause-entries : goal.returns-clause-entries
returns-clause-entries c =
    c.in_ok-insert.ensures.entries ∙ insert_entry-new pair_eq.it c.args.self.now.pairs c.args.pair c.args.clear c.requires
