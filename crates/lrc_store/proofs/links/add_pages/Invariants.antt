use Rattle.std.proofs.Common.{◌≡◌, ◌≤◌, ◌++◌, take}
use Rattle.lrc_store.proofs.links.add_pages.Given as goal

abbrev pub invariant-loop-page : goal.invariant-loop-page
invariant-loop-page l =
    (l.by_page.keys ≡ l.initial.by_page.keys ++ take l.page-index l.pages)
    × (l.by_page.lists ≡ l.initial.by_page.lists)
    × (l.initial.by_page.room ≤ l.by_page.room)
