use Rattle.std.proofs.Common.{◌≡◌, ◌∙◌, sym, subst, ap}
use Rattle.std.proofs.lemmas.Option.{same_Some}
use Rattle.lrc_orders_settling.specs.Gone.{acts_by}
use Rattle.lrc_orders_table.specs.Links.{AreNotesAt}
use Rattle.lrc_orders_table.specs.Nexts.{notes_on}
use Rattle.lrc_orders_table.specs.declared.table.After.{After}
use Rattle.lrc_orders_table.proofs.Entries.{value_at}
use Rattle.lrc_orders_table.proofs.table.Table.notes.Goals as goal

pub returns-clause-noted : goal.returns-clause-noted
returns-clause-noted c = λ e acts asked after at entry.
    let old = c.args.self.now in
    let same : c.index.result.now ≡ after =
    same_Some c.index.result.now after (sym c.index.ensures ∙ value_at old.afters.entries c.args.place asked after entry) in
    subst (λ ds. AreNotesAt c.after.new.self c.in_ok-number.number (notes_on acts (acts_by c.args.node ds)))
    (c.deref.ensures.value ∙ ap (λ (a : After). a.deeds.items) same) (c.in_ok-number.ensures.there acts at)
