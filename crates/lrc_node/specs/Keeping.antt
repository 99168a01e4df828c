-- What a node needs of the pages that it keeps in a collection.
use Rattle.std.specs.Prelude.{ℕ, ◌≡◌, ◌≢◌, ◌<◌, ◌≤◌, true, None, List, All, AllPairs, length, fold}
use Rattle.lrc_page.specs.declared.size.Size.{Size}
use Rattle.lrc_page.specs.Place.{pages_of}
use Rattle.lrc_node_laws.specs.Ranges.{HasRanges}
use Rattle.lrc_memory.specs.Turns.{is_mendable, NoneIsWritten}
use Rattle.lrc_protocol.specs.Pages.{is_readable, changes_of, Need, repaired, Memory, copy_at}
use Rattle.lrc_protocol.specs.Node.{Node}

-- a page for which all has come can be repaired: it is one of the memory's, its base copy fits, and its keys are of it
pub record CanMend (size : Size) (memory : Memory) (need : Need) : Type 0 where
  pub page : need.page < length memory.copies
  pub fit : is_mendable size (copy_at memory need.page) need.base ≡ true
  pub of_page : All (λ key. key.page ≡ need.page) need.missing

-- a base copy of a page can be kept: it is one of the memory's, its copy may be read, and it is not written
pub record CanKeep (memory : Memory) (page : ℕ) : Type 0 where
  pub within : page < length memory.copies
  pub readable : is_readable (copy_at memory page) ≡ true
  pub closed : changes_of (copy_at memory page) ≡ None

-- a node can clean its copies: it has arrived at a barrier, the pages that are needed differ and can be repaired, and base copies of
-- those that it keeps can be kept then
pub record CanClean (node : Node) (kept : List ℕ) (needs : List Need) : Type 0 where
  pub arrived : 1 ≤ node.barrier.episode
  pub apart : AllPairs (λ a b. a.page ≢ b.page) needs
  pub mends : All (CanMend node.options.size node.memory) needs
  pub keeps : All (CanKeep (fold repaired node.memory needs)) kept

-- a node can begin a collection: it has arrived at a barrier, what its memory has is in range, and no page is written
pub record CanCollect (node : Node) : Type 0 where
  pub arrived : 1 ≤ node.barrier.episode
  pub ranges : HasRanges node.setting.nodes (pages_of node.setting.words node.options.size) node.memory
  pub closed : NoneIsWritten node.memory
