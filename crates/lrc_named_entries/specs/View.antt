-- What is declared as the definitions see it.
use Rattle.lrc_named_tree.specs.View.{named_of}
use Rattle.lrc_named_entries.specs.declared.entry.Entry as code_entry
use Rattle.lrc_named_entries.specs.Entry.{Entry}

abbrev pub entry_seen : code_entry.Entry → Entry
entry_seen e = record { name = named_of e.name; sort = e.sort; count = e.count; last = e.last }
