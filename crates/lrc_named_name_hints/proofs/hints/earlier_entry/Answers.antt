use Rattle.std.proofs.Common.{sym, ap, ◌∙◌}
use Rattle.std.specs.List.{find}
use Rattle.std.specs.Option.{option_map}
use Rattle.lrc_named_entries.specs.Entry.{Entry}
use Rattle.lrc_named_entries.specs.View.{entry_seen}
use Rattle.lrc_named_name_hints.specs.Hints.{stood}
use Rattle.lrc_named_name_hints.proofs.Searching.{at_end, found_there, none_more}
use Rattle.lrc_named_name_hints.proofs.hints.earlier_entry.Goals as goal

pub loop-entry-preserved : goal.loop-entry-preserved
loop-entry-preserved c =
    none_more entry_seen (λ (e : Entry). stood c.args.seen.now.at c.args.name.now e.name) c.args.seen.now.entries.now c.loop-entry.entry-index _ c.loop-entry-test.true c.loop-entry.invariant
    (sym c.stood.ensures ∙ c.if-stood.false)

pub returns-then-stood : goal.returns-then-stood
returns-then-stood c =
    let there = found_there entry_seen (λ (e : Entry). stood c.args.seen.now.at c.args.name.now e.name) c.args.seen.now.entries.now c.loop-entry.entry-index _ c.loop-entry-test.true c.loop-entry.invariant
    (sym c.stood.ensures ∙ c.if-stood.true) in
    sym (ap (option_map (λ (e : Entry). e.name.at)) there)

pub returns : goal.returns
returns c =
    let none = ap (find (λ (e : Entry). stood c.args.seen.now.at c.args.name.now e.name)) (sym (at_end entry_seen (λ (e : Entry). stood c.args.seen.now.at c.args.name.now e.name) c.args.seen.now.entries.now c.loop-entry.entry-index c.loop-entry-test.false)) ∙ c.loop-entry.invariant in
    sym (ap (option_map (λ (e : Entry). e.name.at)) none)
