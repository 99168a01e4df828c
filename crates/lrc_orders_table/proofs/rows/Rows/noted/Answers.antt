use Rattle.std.proofs.Common.{◌∙◌, map, sym, subst, ap}
use Rattle.lrc_orders_settling.specs.Taking.{count_of}
use Rattle.lrc_orders_memory.specs.Sharing.{IsSharedAt}
use Rattle.lrc_orders_table.proofs.RowLaws.{row_within, stands_at}
use Rattle.lrc_orders_table.proofs.rows.Rows.noted.Goals as goal

pub row-row-requires : goal.row-row-requires
row-row-requires c = row_within c.args.self.now c.args.place c.requires.0 c.requires.1

pub words-requires : goal.words-requires
words-requires c =
    let s = stands_at c.args.self.now c.args.place c.row-row.result c.row-row.ensures c.requires in
    record { words = c.requires.0.state.memory.items; holders = c.requires.0.state.holders.items; at = s.shared }

pub holders-requires : goal.holders-requires
holders-requires c =
    let s = stands_at c.args.self.now c.args.place c.row-row.result c.row-row.ensures c.requires in
    record { words = c.requires.0.state.memory.items; holders = c.requires.0.state.holders.items; at = s.shared }

pub acts-requires : goal.acts-requires
acts-requires c =
    let s = stands_at c.args.self.now c.args.place c.row-row.result c.row-row.ensures c.requires in
    (c.requires.0.notes.items, s.notes)

pub threads_at-requires-clause-there : goal.threads_at-requires-clause-there
threads_at-requires-clause-there c =
    let s = stands_at c.args.self.now c.args.place c.row-row.result c.row-row.ensures c.requires in
    (c.requires.0.state.spots.items, s.threads)

pub threads_at-requires-clause-few : goal.threads_at-requires-clause-few
threads_at-requires-clause-few c = (stands_at c.args.self.now c.args.place c.row-row.result c.row-row.ensures c.requires).few

pub returns : goal.returns
returns c =
    let all = c.args.self.now in
    let row = c.row-row.result in
    let s = stands_at all c.args.place row c.row-row.ensures c.requires in
    let key = c.requires.0 in
    let words = c.in_ok-words.ensures key.state.memory.items key.state.holders.items s.shared in
    let holders = c.in_ok-holders.ensures key.state.memory.items key.state.holders.items s.shared in
    record {
      row = row;
      there = c.row-row.ensures;
      stands = record {
        few = s.few;
        threads = c.in_ok-spots.ensures;
        shared = subst (λ l. IsSharedAt all.shared row.shared l c.in_ok-holders.field-0.items) (sym words)
            (subst (λ l. IsSharedAt all.shared row.shared key.state.memory.items l) (sym holders) s.shared);
        notes = c.in_ok-acts.ensures;
        counted = c.in_ok-counted.ensures ∙ ap (λ l. map count_of l) c.deref.ensures.value;
      };
    }
