-- The positions so far of what is on the way are collected.
use Rattle.lrc_races_witness.proofs.Collecting.{AreBefore}
use Rattle.lrc_races_witness.proofs.reordering.reordering_of.Given as goal

abbrev pub invariant-loop-position : goal.invariant-loop-position
invariant-loop-position l = AreBefore l.events l.earlier l.later l.position l.positions.items
