use Rattle.std.proofs.Common.{[], ◌++◌, ap, map, ◌∙◌}
use Rattle.std.specs.List.{flat_map}
use Rattle.std.proofs.lemmas.List.{take_all}
use Rattle.lrc_named_tokens.specs.View.{located_of}
use Rattle.lrc_named_tree.specs.View.{declaration_of}
use Rattle.lrc_named_entries.specs.View.{entry_seen}
use Rattle.lrc_named_statement_faults.proofs.Growing.{piece_step_at}
use Rattle.lrc_named_uses.specs.Unused.{unless_used}
use Rattle.lrc_named_uses.proofs.Growing.{flat_pieced}
use Rattle.lrc_named_uses.proofs.Spotting.{found_same}
use Rattle.lrc_named_uses.proofs.unused.unused_of.Goals as goal

pub loop-entry-preserved : goal.loop-entry-preserved
loop-entry-preserved c =
    piece_step_at _ _ (flat_pieced (unless_used (map located_of c.args.tokens.now) (map declaration_of c.args.declarations.now)) entry_seen)
    c.deref-entry-items.result.now c.loop-entry.entry-index _ [] (map entry_seen c.loop-entry.unused.items) (map entry_seen c.put_unless_found.new.unused.items)
    c.loop-entry-test.true c.loop-entry.invariant
    (c.in_ok-put_unless_found.ensures
    ∙ ap (λ l. map entry_seen c.loop-entry.unused.items ++ l)
    (found_same (map located_of c.args.tokens.now) (map declaration_of c.args.declarations.now) c.in_ok-spots.spots _ c.in_ok-spots.ensures))

pub returns : goal.returns
returns c =
    let of = unless_used (map located_of c.args.tokens.now) (map declaration_of c.args.declarations.now) in
    c.loop-entry.invariant
    ∙ ap (λ l. flat_map of (map entry_seen l)) (take_all c.loop-entry.entry-index c.deref-entry-items.result.now c.loop-entry-test.false ∙ c.deref-entry-items.ensures.value)
    ∙ ap (flat_map of) c.in_ok-entries.ensures
