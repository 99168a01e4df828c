-- The unused ones of the entries so far.
use Rattle.std.proofs.Common.{◌≡◌, map, take}
use Rattle.std.specs.List.{flat_map}
use Rattle.lrc_named_tokens.specs.View.{located_of}
use Rattle.lrc_named_tree.specs.View.{declaration_of}
use Rattle.lrc_named_entries.specs.View.{entry_seen}
use Rattle.lrc_named_uses.specs.Unused.{unless_used}
use Rattle.lrc_named_uses.proofs.unused.unused_of.Given as goal

abbrev pub invariant-loop-entry : goal.invariant-loop-entry
invariant-loop-entry l =
    map entry_seen l.unused.items
    ≡ flat_map (unless_used (map located_of l.tokens) (map declaration_of l.declarations)) (map entry_seen (take l.entry-index l.entry-items))
