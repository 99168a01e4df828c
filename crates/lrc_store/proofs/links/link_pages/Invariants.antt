use Rattle.std.proofs.Common.{◌≡◌, ◌≤◌, map, take}
use Rattle.lrc_store.specs.Links.{page_named}
use Rattle.lrc_store.proofs.links.link_pages.Given as goal

abbrev pub invariant-loop-at : goal.invariant-loop-at
invariant-loop-at l =
    (l.by_page.keys ≡ map page_named (take l.at l.arena.notices))
    × (l.by_page.lists ≡ l.initial.by_page.lists)
    × (l.initial.by_page.room ≤ l.by_page.room)
