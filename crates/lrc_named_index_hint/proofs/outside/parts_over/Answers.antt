-- What is declared is sound, and these names are set.
use Rattle.std.proofs.Common.{[], false, map, ap, sym, subst, ◌∙◌}
use Rattle.std.specs.Prelude.{IfOk}
use Rattle.lrc_named_tree.specs.View.{named_of}
use Rattle.lrc_named_names.specs.View.{declared_of}
use Rattle.lrc_named_constants.specs.Well.{bytes_of}
use Rattle.lrc_named_expression_faults.specs.Extent.{AreExtents}
use Rattle.lrc_named_faults.proofs.Laid.{laid_out_is_sound}
use Rattle.lrc_named_index_hint.specs.Over.{IsFound, IsOneOver}
use Rattle.lrc_named_index_hint.specs.Spots.{spot_seen}
use Rattle.lrc_named_index_hint.proofs.outside.parts_over.Goals as goal

pub one_over-requires-clause-table : goal.one_over-requires-clause-table
one_over-requires-clause-table c = laid_out_is_sound c.args.layout.now c.requires

pub one_over-requires-clause-extents : goal.one_over-requires-clause-extents
one_over-requires-clause-extents c = subst (λ l. AreExtents (declared_of c.args.layout.now.names) l) (sym c.deref-2.ensures.value) c.requires.extents

pub returns : goal.returns
returns c =
    let table = declared_of c.args.layout.now.names in
    let spots = map spot_seen c.args.spots.now in
    subst (λ l. IfOk c.one_over.result
    (λ found. IsFound (λ v s. IsOneOver (record { declared = table; known = []; assigned = bytes_of l; constant = false }) spots v s) found))
    (ap (map named_of) (c.in_ok-assigned.ensures ∙ c.deref.ensures.value) ∙ c.in_ok-set.ensures) c.one_over.ensures
