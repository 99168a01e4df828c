-- What is kept, by the fields of the type.
use Rattle.lrc_memory.specs.declared.memory.Memory.TheInside.{Inside}
use Rattle.lrc_memory.specs.Notes.{keepers_of, named_of, since_of}
use Rattle.lrc_memory.specs.View.{Kept}

abbrev pub kept : Inside → Kept
kept m = record {
  me = m.me;
  store = m.store;
  table = m.table;
  since = since_of m.notes.items;
  named = named_of m.notes.items;
  keepers = keepers_of m.notes.items;
  collected = m.collected;
  in_step = m.in_step;
}
