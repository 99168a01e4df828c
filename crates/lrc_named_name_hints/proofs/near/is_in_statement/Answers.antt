use Rattle.std.proofs.Common.{sym, ap, ◌∙◌}
use Rattle.std.specs.List.{list_all}
use Rattle.lrc_named_entries.specs.View.{entry_seen}
use Rattle.lrc_named_name_hints.specs.Hints.{ends_before}
use Rattle.lrc_named_name_hints.proofs.Searching.{all_fails, all_more, at_end}
use Rattle.lrc_named_name_hints.proofs.near.is_in_statement.Goals as goal

pub loop-entry-preserved : goal.loop-entry-preserved
loop-entry-preserved c =
    all_more entry_seen (ends_before c.args.seen.now.at) c.args.seen.now.entries.now c.loop-entry.entry-index _ c.loop-entry-test.true c.loop-entry.invariant
    (sym c.ends_before.ensures ∙ c.if-not-ends_before.false)

pub returns-then-not-ends_before : goal.returns-then-not-ends_before
returns-then-not-ends_before c =
    sym (all_fails entry_seen (ends_before c.args.seen.now.at) c.args.seen.now.entries.now c.loop-entry.entry-index _ c.loop-entry-test.true c.loop-entry.invariant
    (sym c.ends_before.ensures ∙ c.if-not-ends_before.true))

pub returns : goal.returns
returns c =
    sym (ap (list_all (ends_before c.args.seen.now.at)) (sym (at_end entry_seen (ends_before c.args.seen.now.at) c.args.seen.now.entries.now c.loop-entry.entry-index c.loop-entry-test.false)) ∙ c.loop-entry.invariant)
