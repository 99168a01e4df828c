use Rattle.std.proofs.Common.{◌∙◌, length, map, sym, ap, arith}
use Rattle.std.proofs.lemmas.Option.{slice_get_within}
use Rattle.lrc_orders_table.specs.Nexts.{next_in}
use Rattle.lrc_orders_table.proofs.table.Table.new.Goals as goal

pub returns-clause-table : goal.returns-clause-table
returns-clause-table c = λ means nodes.
    let e = c.new.ensures in
    record {
      distinct = e.distinct;
      nodes = e.nodes ∙ sym nodes;
      placed = λ k d lt. absurd (omega (arith, lt, ap (λ l. length l) e.threads));
      bare = λ k d lt. absurd (omega (arith, lt, ap (λ l. length l) e.threads));
      nexts = c.new-2.ensures.items ∙ ap (map (next_in means.flat)) (sym e.threads);
      afters = λ k asked after at.
          let within = slice_get_within c.new-3.result.entries k (asked, after) at in
          absurd (omega (arith, within, ap (λ l. length l) c.new-3.ensures.empty));
      changes = λ k change number at.
          let within = slice_get_within c.new-4.result.entries k (change, number) at in
          absurd (omega (arith, within, ap (λ l. length l) c.new-4.ensures.empty));
    }
