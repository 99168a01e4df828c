-- How the links change as an interval and its notices are linked.
use Rattle.std.specs.Prelude.{◌≡◌, ℕ, ◌+◌, ◌<◌, ◌≤◌, List, [], ◌∷◌, ◌++◌, length}
use Rattle.lrc_store.specs.declared.chains.TheConstants.{MOST_ENTRIES}
use Rattle.lrc_store.specs.declared.links.Links.{Links}
use Rattle.lrc_store.specs.Rows.{HasRoom}

-- there are no links, for so many nodes and pages
pub record AreNoLinks (nodes pages : ℕ) (links : Links) : Type 0 where
  pub node_lists : links.by_node.lists ≡ nodes
  pub node_keys : links.by_node.keys ≡ []
  pub node_starts : links.by_node.starts ≡ []
  pub page_lists : links.by_page.lists ≡ pages
  pub page_keys : links.by_page.keys ≡ []

-- the links are the same, though the room for them may differ
pub record AreSameLinks (old new : Links) : Type 0 where
  pub node_keys : new.by_node.keys ≡ old.by_node.keys
  pub node_lists : new.by_node.lists ≡ old.by_node.lists
  pub node_starts : new.by_node.starts ≡ old.by_node.starts
  pub page_keys : new.by_page.keys ≡ old.by_page.keys
  pub page_lists : new.by_page.lists ≡ old.by_page.lists

-- there is room for the links of one interval more of the node, with so many notices more
pub record HaveRoomFor (node more : ℕ) (links : Links) : Type 0 where
  pub node_room : length links.by_node.keys < links.by_node.room
  pub node_few : length links.by_node.keys < MOST_ENTRIES
  pub node_row : HasRoom links.by_node.rows links.by_node.keys node
  pub page_room : length links.by_page.keys + more ≤ links.by_page.room
  pub page_few : length links.by_page.keys + more ≤ MOST_ENTRIES

-- an interval of the node is linked last, and then its notices of these pages; the interval's notices begin after all notices
-- that were there
pub record AreLinked (node : ℕ) (pages : List ℕ) (old new : Links) : Type 0 where
  pub node_keys : new.by_node.keys ≡ old.by_node.keys ++ node ∷ []
  pub node_lists : new.by_node.lists ≡ old.by_node.lists
  pub node_starts : new.by_node.starts ≡ old.by_node.starts ++ length old.by_page.keys ∷ []
  pub page_keys : new.by_page.keys ≡ old.by_page.keys ++ pages
  pub page_lists : new.by_page.lists ≡ old.by_page.lists
