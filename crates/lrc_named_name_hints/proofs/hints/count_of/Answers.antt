use Rattle.std.proofs.Common.{sym, ap, ◌∙◌}
use Rattle.std.specs.List.{find}
use Rattle.lrc_named_entries.specs.View.{entry_seen}
use Rattle.lrc_named_name_hints.specs.Hints.{count_of_entry, is_entry}
use Rattle.lrc_named_name_hints.proofs.Searching.{at_end, found_there, none_more}
use Rattle.lrc_named_name_hints.proofs.hints.count_of.Goals as goal

pub loop-entry-preserved : goal.loop-entry-preserved
loop-entry-preserved c =
    none_more entry_seen (is_entry c.args.name.now) c.args.seen.now.entries.now c.loop-entry.entry-index _ c.loop-entry-test.true c.loop-entry.invariant
    (sym c.is_entry.ensures ∙ c.if-is_entry.false)

pub returns-then-is_entry : goal.returns-then-is_entry
returns-then-is_entry c =
    sym (ap count_of_entry (found_there entry_seen (is_entry c.args.name.now) c.args.seen.now.entries.now c.loop-entry.entry-index _ c.loop-entry-test.true c.loop-entry.invariant
    (sym c.is_entry.ensures ∙ c.if-is_entry.true)))

pub returns : goal.returns
returns c =
    let none = ap (find (is_entry c.args.name.now)) (sym (at_end entry_seen (is_entry c.args.name.now) c.args.seen.now.entries.now c.loop-entry.entry-index c.loop-entry-test.false)) ∙ c.loop-entry.invariant in
    sym (ap count_of_entry none)
