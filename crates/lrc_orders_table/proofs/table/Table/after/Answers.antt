use Rattle.std.proofs.Common.{◌≤◌, ◌∙◌, length, sym, ap}
use Rattle.std.specs.Prelude.{Some}
use Rattle.std.proofs.lemmas.Option.{slice_get_within}
use Rattle.lrc_exec.specs.declared.spot.Spot.{Spot}
use Rattle.lrc_orders_table.specs.contracts.table.AskedPartialEq.TheImpl.{eq-value as asked_eq}
use Rattle.lrc_orders_table.proofs.Entries.{all_at, asked_is, found_at}
use Rattle.lrc_orders_table.proofs.Keeping.{keeps_same}
use Rattle.lrc_orders_table.proofs.table.Table.after.Goals as goal

pub returns-in-Some-clause-there : goal.returns-in-Some-clause-there
returns-in-Some-clause-there c =
    let asked = c.args.asked in
    let (key, after, at, same) = found_at (asked_eq.it asked) c.args.self.now.afters.entries c.in-Some.place c.in-Some.ensures.index in
    (after, at ∙ ap (λ k. Some (k, after)) (sym (asked_is asked key same)))

pub index-requires : goal.index-requires
index-requires c = slice_get_within c.args.self.now.rows.threads.keys c.args.asked.thread c.requires.asked.spot c.requires.asked.there

pub settled_after-requires-clause-within : goal.settled_after-requires-clause-within
settled_after-requires-clause-within c =
    let P : Spot → Type 0 = λ spot. spot.place ≤ length c.args.means.now.flat.code.now in
    all_at P c.args.self.now.rows.threads.keys c.args.asked.thread c.index.result.now c.requires.table.placed c.index.ensures

pub returns-in_default-settled-clause-long : goal.returns-in_default-settled-clause-long
returns-in_default-settled-clause-long c = λ e. (c.requires.table, keeps_same c.args.self.now)
