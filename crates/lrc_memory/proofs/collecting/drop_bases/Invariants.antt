use Rattle.lrc_memory.specs.Notes.{keepers_of}
use Rattle.lrc_memory.proofs.Loops.{IsDropped}
use Rattle.lrc_memory.proofs.collecting.drop_bases.Given as goal

abbrev pub invariant-loop-page : goal.invariant-loop-page
invariant-loop-page l = IsDropped l.me (keepers_of l.notes) l.initial.table l.table l.page
