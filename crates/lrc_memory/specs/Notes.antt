-- What a node remembers of each page beside its copy, as lists.
use Rattle.std.specs.Prelude.{ℕ, List, map}
use Rattle.lrc_memory.specs.declared.memory.PageNote.{PageNote}

-- the times from before the copies became invalid
abbrev pub since_of : List PageNote → List (List ℕ)
since_of notes = map (λ note. note.since) notes

-- the indices of the own intervals that named the pages last
abbrev pub named_of : List PageNote → List ℕ
named_of notes = map (λ note. note.named) notes

-- the keepers of the pages
abbrev pub keepers_of : List PageNote → List ℕ
keepers_of notes = map (λ note. note.keeper) notes
