-- The intervals that were closed, by their nodes and indices: those of a node are there up to its own entry, and no more.
use Rattle.std.proofs.Common.{◌≡◌, ℕ, ◌≤◌, List, map, refl, sym, ap, subst, ◌∙◌, arith}
use Rattle.std.specs.Prelude.{Some, Contains, slice_get}
use Rattle.lrc_time.specs.Time.{entry}
use Rattle.lrc_store.specs.Interval.{IntervalRecord, index_of as index_of_interval}
use Rattle.lrc_store.specs.Store.{StoredRecord, interval_of}
use Rattle.lrc_copies.specs.Stamps.{stamp_index}
use Rattle.lrc_protocol.specs.Run.{Logged, World}
use Rattle.lrc_reading_laws.specs.Made.{AreMade}
use Rattle.lrc_reading_laws.specs.Written.{made_stamps}
use Rattle.lrc_reading_laws.proofs.Closed.Stored.{Member, in_index, in_range}
use Rattle.lrc_reading_laws.proofs.Stamped.Lists.{HasRecord, interval-from, own_between}

module _ (made : List StoredRecord) (world : World) (are : AreMade (map interval_of made) world) where
  -- no interval of a node is above the node's own entry
  pub index_most : (x : StoredRecord) (l : Logged) → Contains made x → slice_get world.nodes x.node ≡ Some l
      → stamp_index made_stamps x ≤ entry l.node.locks.time x.node
  index_most x l c at = (own_between made x.node (entry l.node.locks.time x.node) x (are.exact x.node l at) c refl).1

  -- and each up to it is there
  pub member_at : (q k : ℕ) (l : Logged) → slice_get world.nodes q ≡ Some l → 1 ≤ k → k ≤ entry l.node.locks.time q
      → (x : StoredRecord) × Contains made x × (x.node ≡ q) × (stamp_index made_stamps x ≡ k)
  member_at q k l at least most =
      let m : Member q k (map interval_of made) =
      in_index q k (map interval_of made)
      (subst (λ ks. Contains ks k) (sym (are.exact q l at)) (in_range 1 (entry l.node.locks.time q) k least (omega (arith, most)))) in
      let stored : HasRecord made m.i = interval-from made m.i m.in_list in (
        stored.x,
        stored.in_list,
        ap (λ (i : IntervalRecord). i.node) stored.is ∙ m.node_is,
        ap index_of_interval stored.is ∙ m.index_is,
      )
