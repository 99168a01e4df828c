-- What is missing, from the notices of a page that a time does not know.
use Rattle.std.proofs.Common.{◌≡◌, ◌∙◌, ℕ, List, map, ap, subst}
use Rattle.std.specs.List.{filter}
use Rattle.lrc_store.specs.declared.key.Key.{Key}
use Rattle.lrc_store.specs.Chains.{ChainsRecord}
use Rattle.lrc_store.specs.Nodes.{NodesRecord}
use Rattle.lrc_store.specs.Links.{IsLinkedUp, is_unknown_on, ranked}
use Rattle.lrc_store.specs.Store.{StoreRecord, IsStore, IsMissing, intervals_of, is_missing, missing_of}
use Rattle.lrc_store.proofs.LinkedStores.{unknown_is_missing}
use Rattle.lrc_store.proofs.Ranks.{IsMissing-missing_of, IsMissing-only}

-- the keys are those of what was found, in order, of whatever page and store
abbrev pub ArePutInOrder : List (ℕ × Key) → List Key → Type 0
ArePutInOrder found keys = (store : StoreRecord) (page : ℕ) (since : List ℕ) → IsStore store
    → found ≡ map (ranked page) (filter (is_missing page since) (intervals_of store)) → IsMissing store page since keys

-- what is put in order is what is missing, and the only list of it
pub IsMissing-found : (store now : StoreRecord) (by_node : NodesRecord) (by_page : ChainsRecord) (notices : List (ℕ × Key)) (page : ℕ) (since : List ℕ)
    (found : List (ℕ × Key)) (keys : List Key) → IsLinkedUp store by_node by_page notices → store ≡ now → found ≡ filter (is_unknown_on page since) notices
    → ArePutInOrder found keys → IsMissing now page since keys × (keys ≡ missing_of now page since)
IsMissing-found store now by_node by_page notices page since found keys linked same unknown ordered =
    let sound : IsStore now = subst IsStore same linked.sound in
    let kept : found ≡ map (ranked page) (filter (is_missing page since) (intervals_of now)) =
    unknown ∙ ap (filter (is_unknown_on page since)) linked.noted ∙ unknown_is_missing page since (intervals_of store) linked.intervals
    ∙ ap (λ (s : StoreRecord). map (ranked page) (filter (is_missing page since) (intervals_of s))) same in
    let missing : IsMissing now page since keys = ordered now page since sound kept in
    (missing, IsMissing-only now page since keys (missing_of now page since) missing (IsMissing-missing_of now page since sound))
