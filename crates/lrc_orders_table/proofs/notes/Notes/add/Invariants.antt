-- The acts so far are noted.
use Rattle.std.proofs.Common.{take}
use Rattle.lrc_orders_table.specs.Links.{AreNotesSound, GrowNotes, HasLasts}
use Rattle.lrc_orders_table.proofs.notes.Notes.add.Given as goal

abbrev pub invariant-loop-act : goal.invariant-loop-act
invariant-loop-act l = record {
  sound : AreNotesSound l.self;
  grows : GrowNotes l.initial.self l.self;
  has : HasLasts l.self.links.keys l.lasts (take l.act-index l.acts);
}
