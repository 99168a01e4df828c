use Rattle.std.proofs.Common.{◌≡◌, ◌∙◌, ap}
use Rattle.std.specs.Prelude.{Result, Ok, Err, OnErr}
use Rattle.lrc_table.specs.Table.{Table}
use Rattle.lrc_memory.specs.View.{Kept, NodeMemory, node_seen}
use Rattle.lrc_memory.proofs.Inside.{kept}
use Rattle.lrc_memory.proofs.Copies.{within-seen}
use Rattle.lrc_memory.proofs.Quiet.{with_table, valid-seen, kept-based, seen-based}
use Rattle.lrc_memory.proofs.memory.Memory.keep_base.Goals as goal

pub keep_base-requires-clause-in_range : goal.keep_base-requires-clause-in_range
keep_base-requires-clause-in_range c = within-seen (kept c.self.inside) _ _ c.self.view_is c.requires.in_range

pub keep_base-requires-clause-valid : goal.keep_base-requires-clause-valid
keep_base-requires-clause-valid c =
    valid-seen (kept c.self.inside) _ _ c.self.view_is c.requires.in_range c.requires.readable c.requires.closed

pub invariant_of-self : goal.invariant_of-self
invariant_of-self c =
    kept-based (kept c.self.inside) c.args.page (within-seen (kept c.self.inside) _ _ c.self.view_is c.requires.in_range)
    c.keep_base.result c.keep_base.new.self c.self.invariant c.keep_base.ensures.ok c.keep_base.ensures.err

pub returns-clause-ok : goal.returns-clause-ok
returns-clause-ok c =
    seen-based (kept c.self.inside) c.args.page (within-seen (kept c.self.inside) _ _ c.self.view_is c.requires.in_range)
    c.keep_base.result c.keep_base.new.self _ c.self.view_is
    (valid-seen (kept c.self.inside) _ _ c.self.view_is c.requires.in_range c.requires.readable c.requires.closed)
    c.keep_base.ensures.ok

seen-refused : {X E : Type 0} (kept : Kept) (r : Result X E) (table : Table) (n : NodeMemory) → node_seen kept ≡ n
    → OnErr r (table ≡ kept.table) → OnErr r (node_seen (with_table kept table) ≡ n)
seen-refused kept (Ok x) table n is err = tt
seen-refused kept (Err e) table n is err = ap (λ t. node_seen (with_table kept t)) err ∙ is

pub returns-clause-err : goal.returns-clause-err
returns-clause-err c =
    seen-refused (kept c.self.inside) c.keep_base.result c.keep_base.new.self _ c.self.view_is c.keep_base.ensures.err
