-- The notices of intervals in the order of adding, each with the weight of its interval's stamp.
use Rattle.std.specs.Prelude.{◌≡◌, ℕ, ◌==◌, ◌&&◌, Bool, not, List, length, map, flat_map, All}
use Rattle.lrc_time.specs.Time.{knows, weight_of}
use Rattle.lrc_store.specs.declared.key.Key.{Key}
use Rattle.lrc_store.specs.Chains.{ChainsRecord}
use Rattle.lrc_store.specs.Interval.{IntervalRecord, IsInterval}
use Rattle.lrc_store.specs.Nodes.{NodesRecord, AreStarts}
use Rattle.lrc_store.specs.Rows.{HasNoGaps}
use Rattle.lrc_store.specs.Store.{StoreRecord, IsStore, intervals_of, is_newer, key_of}

-- an interval's notice of a page
abbrev pub ranked : ℕ → IntervalRecord → ℕ × Key
ranked page interval = (weight_of interval.stamp, key_of page interval)

-- the notices of an interval
abbrev pub ranked_pages : IntervalRecord → List (ℕ × Key)
ranked_pages interval = map (λ page. ranked page interval) interval.pages

-- the notices of all
abbrev pub ranked_of : List IntervalRecord → List (ℕ × Key)
ranked_of intervals = flat_map ranked_pages intervals

-- the page of a notice
abbrev pub page_named : ℕ × Key → ℕ
page_named notice = notice.1.page

-- the notice is of this page, and the time does not know its interval
abbrev pub is_unknown_on : ℕ → List ℕ → ℕ × Key → Bool
is_unknown_on page since notice = (notice.1.page == page) && not (knows since notice.1.node notice.1.index)

-- the interval is of this node, and the second time knows it where the first does not
abbrev pub is_newer_of : ℕ → List ℕ → List ℕ → IntervalRecord → Bool
is_newer_of node since upto interval = (interval.node == node) && is_newer since upto interval

-- the links of a store: they run through its intervals by node, and through their notices by page
pub record IsLinkedUp (store : StoreRecord) (by_node : NodesRecord) (by_page : ChainsRecord) (notices : List (ℕ × Key)) : Type 0 where
  pub sound : IsStore store
  pub intervals : All IsInterval (intervals_of store)
  pub nodes : by_node.keys ≡ map (λ interval. interval.node) (intervals_of store)
  pub node_lists : by_node.lists ≡ length store.last
  pub gapless : HasNoGaps store.last (intervals_of store)
  pub starts : AreStarts by_node.starts (intervals_of store)
  pub noted : notices ≡ ranked_of (intervals_of store)
  pub pages : by_page.keys ≡ map page_named notices
  pub page_lists : by_page.lists ≡ store.pages
