-- What a node needs of pages while it waits for them, and the pages that it keeps in a collection.
use Rattle.std.specs.Prelude.{◌≡◌, ℕ, ◌<◌, true, not, Option, Some, None, length, map, filter, All}
use Rattle.lrc_page.specs.declared.size.Size.{Size}
use Rattle.lrc_page.specs.Place.{page_of}
use Rattle.lrc_exec.specs.Meaning.{Next, reads, writes}
use Rattle.lrc_protocol.specs.Pages.{Copy, valid, written, invalid, absent, is_readable, Memory, copy_at, missing_at, Base, unneeded, due, come}
use Rattle.lrc_protocol.specs.Pages.{Need, asked_of, unknown_of}
use Rattle.lrc_protocol.specs.Barriers.{kept_pages}
use Rattle.lrc_protocol.specs.Node.{Wait, access, upkeep, discard}

-- with so many nodes, and words on a page: a copy that is absent has a base copy that is due from one of the nodes, or has come
-- whole; one that is invalid needs none; and one that is readable needs nothing
abbrev pub FitsBase : ℕ → ℕ → Copy → Base → Type 0
FitsBase nodes words absent (due keeper) = keeper < nodes
FitsBase nodes words absent (come values) = length values ≡ words
FitsBase nodes words absent unneeded = ⊥
FitsBase nodes words (invalid values since) unneeded = Unit {0}
FitsBase nodes words (invalid values since) _ = ⊥
FitsBase nodes words (valid values) _ = ⊥
FitsBase nodes words (written values twin) _ = ⊥

-- the need is of one of the pages; it has just the keys that the copy lacks; and of each maker just those are asked of which
-- no changes are known yet
pub record FitsNeed (nodes pages words : ℕ) (memory : Memory) (need : Need) : Type 0 where
  pub in_range : need.page < pages
  pub base : FitsBase nodes words (copy_at memory need.page) need.base
  pub missing : need.missing ≡ missing_at memory need.page
  pub asked : need.asked ≡ asked_of nodes (unknown_of memory.store need.missing)

-- the pages that are kept are those that were named and that the node keeps; those that are not readable are needed, and none
-- once the copies are clean
abbrev pub FitsKept : ℕ → Memory → Wait → Type 0
FitsKept me memory (upkeep collection needs) =
    (collection.kept ≡ kept_pages me memory)
    × (map (λ need. need.page) needs ≡ filter (λ page. not (is_readable (copy_at memory page))) collection.kept)
FitsKept me memory (discard collection) =
    (collection.kept ≡ kept_pages me memory) × All (λ page. is_readable (copy_at memory page) ≡ true) collection.kept
FitsKept me memory _ = Unit {0}

-- the page of the next access, if the text makes one next
abbrev pub page_next : Size → Option Next → Option ℕ
page_next size (Some (reads word after)) = Some (page_of word size)
page_next size (Some (writes word value after)) = Some (page_of word size)
page_next size _ = None

-- who waits at a miss makes its next access on the page that it needs
abbrev pub ReachesFor : Size → Option Next → Wait → Type 0
ReachesFor size next (access need) = page_next size next ≡ Some need.page
ReachesFor size next _ = Unit {0}
