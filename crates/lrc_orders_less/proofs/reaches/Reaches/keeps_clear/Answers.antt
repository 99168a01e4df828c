use Rattle.std.proofs.Common.{◌≡◌, ◌∙◌, sym, ap, subst}
use Rattle.std.specs.Prelude.{None, is_some}
use Rattle.std.proofs.lemmas.Option.{same_Some}
use Rattle.indexmap.specs.IndexMap.{get}
use Rattle.lrc_orders_table.proofs.Entries.{found_at, value_at}
use Rattle.lrc_orders_less.specs.Reaches.{AreReaches, IsClearPair}
use Rattle.lrc_orders_less.specs.contracts.reaches.PairPartialEq.TheImpl.{eq-value as pair_eq}
use Rattle.lrc_orders_less.proofs.Pairs.{none_found, pair_is, pairs_kept, pairs_more}
use Rattle.lrc_orders_less.proofs.reaches.Reaches.keeps_clear.Goals as goal

pub returns-in-Some-clause-clear : goal.returns-in-Some-clause-clear
returns-in-Some-clause-clear c = λ e.
    let pair = c.args.pair in
    let entries = c.args.self.now.pairs.entries in
    let (key, known, at, same) = found_at (pair_eq.it pair) entries c.in-Some.place c.in-Some.ensures.index in
    let is : c.index.result.now ≡ known = same_Some c.index.result.now known (sym c.index.ensures ∙ value_at entries c.in-Some.place key known at) in
    subst (λ p. IsClearPair c.args.means.now.flat c.args.table.now.rows.threads.keys p) (sym (pair_is pair key same))
    (c.requires.reaches.pairs c.in-Some.place key known at (sym is ∙ e))

pub keep_pair-requires : goal.keep_pair-requires
keep_pair-requires c =
    let pair = c.args.pair in
    let old = c.args.self.now.pairs in
    let none : get pair_eq.it old pair ≡ None = none_found (get pair_eq.it old pair) (sym c.get_index_of.ensures.found ∙ ap (λ o. is_some o) c.in_default.is) in
    ap (λ m. get pair_eq.it m pair) c.in_ok-clear.ensures.pairs ∙ none

pub returns-clause-reaches : goal.returns-clause-reaches
returns-clause-reaches c =
    let flat = c.args.means.now.flat in
    let threads = c.args.table.now.rows.threads.keys in
    let mid = c.is_clear_pair.new.self in
    let kept : AreReaches flat threads mid =
    pairs_kept flat threads c.args.self.now mid c.requires.reaches c.in_ok-clear.ensures.pairs c.in_ok-clear.ensures.texts in
    pairs_more flat threads mid c.keep_pair.new.self c.args.pair c.in_ok-clear.clear kept c.in_ok-keep_pair.ensures.others c.in_ok-keep_pair.ensures.entries
    c.in_ok-clear.ensures.clear
