-- What needs are made from, and what their type keeps.
use Rattle.std.specs.Prelude.{◌≡◌, ◌≢◌, ℕ, ◌<◌, ◌≤◌, List, All, AllPairs, length}
use Rattle.lrc_page.specs.declared.TheConstants.{MOST_PAGES}
use Rattle.lrc_store.specs.declared.key.Key.{Key}
use Rattle.lrc_protocol.specs.Pages.{Base, due, Asked}

-- keys of which changes may be asked: indices begin at 1, and no interval of a maker is there twice
pub record AreAskable (keys : List Key) : Type 0 where
  pub begun : All (λ key. 1 ≤ key.index) keys
  pub once : AllPairs (λ a b. a.node ≡ b.node → a.index ≢ b.index) keys

-- a need is of a page that there can be, and asks something of each maker that it asks
pub record IsNeed (of : ℕ) (asked : List Asked) : Type 0 where
  pub in_range : of < MOST_PAGES
  pub some : All (λ a. 1 ≤ length a.indices) asked

-- a base copy is due from one of so many nodes, if it is due
abbrev pub DueBelow : ℕ → Base → Type 0
DueBelow nodes (due keeper) = keeper < nodes
DueBelow nodes _ = Unit {0}
