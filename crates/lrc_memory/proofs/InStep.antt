-- Times that the last indices of a store once were.
use Rattle.std.proofs.Common.{◌≡◌, ℕ, ◌+◌, ◌<◌, ◌&&◌, ⊎_elim, Bool, Option, Some, None, List, ◌∷◌, length, set, ap, sym, subst, refl, arith}
use Rattle.std.specs.Prelude.{All, AllPairs, IsTrue, flat_map}
use Rattle.std.proofs.lemmas.Bool.{cases_eq, and_parts}
use Rattle.std.proofs.lemmas.List.{get_or-set_same, get_or-set_other}
use Rattle.std.proofs.lemmas.List.Elements.{All-head, All-tail, All-cons, All-set, All-weaker}
use Rattle.lrc_time.specs.Time.{Covers, entry}
use Rattle.lrc_page.specs.declared.changes.Change.{Change}
use Rattle.lrc_store.specs.declared.key.Key.{Key}
use Rattle.lrc_store.specs.Interval.{IntervalRecord, index_of}
use Rattle.lrc_store.specs.Lists.{keys_of, knows_notice}
use Rattle.lrc_store.specs.Store.{StoreRecord, IsStore, added, attached, discarded, intervals_of}
use Rattle.lrc_store.proofs.KnownFirst.{last-known, known-next, known-attached, known-discarded}
use Rattle.lrc_memory.specs.View.{Kept, NodeMemory, WasLast, node_seen, seen, settled_store, unmade}
use Rattle.lrc_memory.proofs.Overlays.{intervals-over}

-- it is now
pub was-now : (store : StoreRecord) (time : List ℕ) → IsStore store → time ≡ store.last → WasLast store time
was-now store time sound is =
    subst (WasLast store) (sym is)
    (record { covered = λ node. omega arith; first = λ page. last-known store page sound })

-- ---- what changes the store keeps it

pub was-added : (store : StoreRecord) (interval : IntervalRecord) (time : List ℕ) → index_of interval ≡ entry store.last interval.node + 1
    → interval.node < length store.last → WasLast store time → WasLast (added store interval) time
was-added store interval time next within was = record {
  covered = λ node.
      ⊎_elim
      (λ (same : node ≡ interval.node).
      omega (
        arith,
        was.covered interval.node,
        ap (entry time) same,
        ap (λ q. entry (set store.last interval.node (index_of interval)) q) same,
        get_or-set_same store.last interval.node (index_of interval) 0 within,
        next,
      ))
      (λ other. omega (arith, was.covered node, get_or-set_other store.last interval.node node (index_of interval) 0 other))
      (cases_eq node interval.node);
  first = λ page. known-next store interval page time (was.first page) was.covered next;
}

pub was-attached : (store : StoreRecord) (key : Key) (changes : List Change) (time : List ℕ) → WasLast store time → WasLast (attached store key changes) time
was-attached store key changes time was = record {
  covered = was.covered;
  first = λ page. known-attached store key changes page time (was.first page);
}

pub was-settled : (store : StoreRecord) (key : Key) (found : Option (List Change)) (time : List ℕ) → WasLast store time
    → WasLast (settled_store store key found) time
was-settled store key None time was = was
was-settled store key (Some changes) time was = was-attached store key changes time was

pub was-discarded : (store : StoreRecord) (upto time : List ℕ) → WasLast store time → WasLast (discarded store upto) time
was-discarded store upto time was = record {
  covered = was.covered;
  first = λ page. known-discarded store upto page time (was.first page);
}

-- it goes by the intervals alone, and does not ask which of their changes are made
was-alike : (a b : StoreRecord) (time : List ℕ) → a.last ≡ b.last → intervals_of a ≡ intervals_of b → WasLast a time → WasLast b time
was-alike a b time last intervals was = record {
  covered = subst (λ (last : List ℕ). Covers last time) last was.covered;
  first = λ page.
      subst
      (λ (intervals : List IntervalRecord).
      AllPairs
      (λ (earlier later : Key).
      earlier.page ≡ page → later.page ≡ page → IsTrue (knows_notice time later) → IsTrue (knows_notice time earlier))
      (flat_map keys_of intervals))
      intervals (was.first page);
}

pub was-kept : (kept : Kept) (n : NodeMemory) (time : List ℕ) → node_seen kept ≡ n → WasLast n.memory.store time → WasLast kept.store time
was-kept kept n time is was =
    was-alike (seen kept).store kept.store time refl (intervals-over (unmade kept.me kept.named kept.table) kept.store)
    (subst (λ (n : NodeMemory). WasLast n.memory.store time) (sym is) was)

pub was-seen : (kept : Kept) (n : NodeMemory) (time : List ℕ) → node_seen kept ≡ n → WasLast kept.store time → WasLast n.memory.store time
was-seen kept n time is was =
    subst (λ (n : NodeMemory). WasLast n.memory.store time) is
    (was-alike kept.store (seen kept).store time refl (sym (intervals-over (unmade kept.me kept.named kept.table) kept.store)) was)

-- ---- all that are kept

pub all-added : (store : StoreRecord) (interval : IntervalRecord) (times : List (List ℕ)) → index_of interval ≡ entry store.last interval.node + 1
    → interval.node < length store.last → All (WasLast store) times → All (WasLast (added store interval)) times
all-added store interval times next within =
    All-weaker (WasLast store) (WasLast (added store interval)) (λ time was. was-added store interval time next within was) times

pub all-attached : (store : StoreRecord) (key : Key) (changes : List Change) (times : List (List ℕ)) → All (WasLast store) times
    → All (WasLast (attached store key changes)) times
all-attached store key changes times =
    All-weaker (WasLast store) (WasLast (attached store key changes)) (λ time was. was-attached store key changes time was) times

-- one more is noted
pub in_step-noted : (store : StoreRecord) (collected : List ℕ) (since : List (List ℕ)) (page : ℕ) (before : List ℕ) (old new : Bool)
    → (IsTrue old → All (WasLast store) (collected ∷ since)) → (IsTrue new → WasLast store before)
    → IsTrue (old && new) → All (WasLast store) (collected ∷ set since page before)
in_step-noted store collected since page before old new were was both =
    let parts = and_parts old new both in
    let all : All (WasLast store) (collected ∷ since) = were parts.0 in
    All-cons (WasLast store) collected (set since page before) (All-head (WasLast store) collected since all)
    (All-set (WasLast store) since page before (was parts.1) (All-tail (WasLast store) collected since all))

-- a collection at a time of the store
pub in_step-collected : (store : StoreRecord) (collected time : List ℕ) (since : List (List ℕ)) (old new : Bool)
    → (IsTrue old → All (WasLast store) (collected ∷ since)) → (IsTrue new → WasLast store time)
    → IsTrue (old && new) → All (WasLast (discarded store time)) (time ∷ since)
in_step-collected store collected time since old new were was both =
    let parts = and_parts old new both in
    All-weaker (WasLast store) (WasLast (discarded store time)) (λ t w. was-discarded store time t w) (time ∷ since)
    (All-cons (WasLast store) time since (was parts.1) (All-tail (WasLast store) collected since (were parts.0)))
