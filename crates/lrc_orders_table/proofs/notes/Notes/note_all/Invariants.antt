-- The deeds so far are noted.
use Rattle.std.proofs.Common.{List, ◌++◌, take}
use Rattle.lrc_trace.specs.declared.act.Act.{Act}
use Rattle.lrc_orders_settling.specs.Gone.{acts_by}
use Rattle.lrc_orders_table.specs.Links.{AreNotesSound, GrowNotes, HasLasts, HaveLasts}
use Rattle.lrc_orders_table.proofs.notes.Notes.note_all.Given as goal

abbrev pub invariant-loop-deed : goal.invariant-loop-deed
invariant-loop-deed l = record {
  sound : AreNotesSound l.self;
  grows : GrowNotes l.initial.self l.self;
  there : HaveLasts l.self.links.keys l.lasts;
  has : (made : List Act) → HasLasts l.initial.self.links.keys l.initial.lasts made
      → HasLasts l.self.links.keys l.lasts (made ++ acts_by l.node (take l.deed-index l.deeds));
}
