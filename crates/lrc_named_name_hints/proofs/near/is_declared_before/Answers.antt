use Rattle.std.proofs.Common.{sym, ap, ◌∙◌}
use Rattle.std.specs.List.{list_any}
use Rattle.lrc_named_entries.specs.View.{entry_seen}
use Rattle.lrc_named_name_hints.specs.Hints.{is_declared_behind}
use Rattle.lrc_named_name_hints.proofs.Searching.{any_more, any_there, at_end}
use Rattle.lrc_named_name_hints.proofs.near.is_declared_before.Goals as goal

pub loop-entry-preserved : goal.loop-entry-preserved
loop-entry-preserved c =
    any_more entry_seen (is_declared_behind c.args.seen.now.at c.args.name.now) c.args.seen.now.entries.now c.loop-entry.entry-index _ c.loop-entry-test.true c.loop-entry.invariant
    (sym c.is_declared_behind.ensures ∙ c.if-is_declared_behind.false)

pub returns-then-is_declared_behind : goal.returns-then-is_declared_behind
returns-then-is_declared_behind c =
    sym (any_there entry_seen (is_declared_behind c.args.seen.now.at c.args.name.now) c.args.seen.now.entries.now c.loop-entry.entry-index _ c.loop-entry-test.true c.loop-entry.invariant
    (sym c.is_declared_behind.ensures ∙ c.if-is_declared_behind.true))

pub returns : goal.returns
returns c =
    sym (ap (list_any (is_declared_behind c.args.seen.now.at c.args.name.now)) (sym (at_end entry_seen (is_declared_behind c.args.seen.now.at c.args.name.now) c.args.seen.now.entries.now c.loop-entry.entry-index c.loop-entry-test.false)) ∙ c.loop-entry.invariant)
