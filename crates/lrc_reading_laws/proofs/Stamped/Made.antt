-- In every history the closed intervals are those that nodes store and tell of; each has the changes of all its pages, which
-- ascend, and is found by its node and index.
use Rattle.std.proofs.Common.{◌≡◌, ℕ, ◌+◌, ◌<◌, ◌≤◌, List, [], ◌∷◌, ◌++◌, Bool, true, false, map, sym, ap, subst, ◌∙◌, ⊎_elim, arith, append-nil}
use Rattle.std.specs.Prelude.{◌==◌, All, AllPairs, Contains, if◌then◌else◌}
use Rattle.std.specs.List.{range_with_len}
use Rattle.std.proofs.lemmas.List.{map-append}
use Rattle.std.proofs.lemmas.List.Elements.{All-nil, All-push, Contains-push_cases}
use Rattle.lrc_program.specs.declared.Program.{Program}
use Rattle.lrc_time.specs.Time.{entry}
use Rattle.lrc_time.proofs.Times.{entry-set_same}
use Rattle.lrc_store.specs.Store.{StoredRecord, NoticeRecord, interval_of}
use Rattle.lrc_copies.specs.Stamps.{stamp_index}
use Rattle.lrc_copies.proofs.Members.{none_Contains}
use Rattle.lrc_protocol.specs.Times.{indices_by}
use Rattle.lrc_protocol.specs.Node.{Node, OptionsRecord}
use Rattle.lrc_protocol.specs.Run.{World, with_turn}
use Rattle.lrc_node_laws.specs.Own.{IsAttached}
use Rattle.lrc_reading_laws.specs.Made.{AreMade}
use Rattle.lrc_reading_laws.specs.Written.{made_stamps}
use Rattle.lrc_reading_laws.proofs.Closed.MadeWorlds.{are-kept, are-fresh}
use Rattle.lrc_reading_laws.proofs.Closed.History.{History, KeptByHistory, by_history, closed_record, closed_by}
use Rattle.lrc_reading_laws.proofs.Stamped.Lists.{AreFound, own_between, found-push, closed-attached, closed-rising, closed-between}
use Rattle.lrc_reading_laws.proofs.Stamped.Worlds.{Placed, placed}

abbrev pub Rises : StoredRecord → Type 0
Rises x = AllPairs (λ (a b : NoticeRecord). a.page < b.page) x.notices

-- the closed intervals as a list
pub record AreListed (nodes : ℕ) (made : List StoredRecord) : Type 0 where
  pub attached : All IsAttached made
  pub rising : All Rises made
  pub found : AreFound made
  pub among : (x : StoredRecord) → Contains made x → x.node < nodes

none_listed : (nodes : ℕ) → AreListed nodes []
none_listed nodes = record {
  attached = All-nil IsAttached;
  rising = All-nil Rises;
  found = λ x c. absurd (none_Contains x c);
  among = λ x c. absurd (none_Contains x c);
}

-- the index of an interval that is closed
pub closed-index : (nodes n : ℕ) (node : Node) → Placed nodes n node → stamp_index made_stamps (closed_record node) ≡ entry node.locks.time node.setting.me + 1
closed-index nodes n node p =
    entry-set_same node.locks.time node.setting.me (entry node.locks.time node.setting.me + 1) (omega (arith, p.me, p.within, p.long))

-- with one more
pub one_listed : (nodes n : ℕ) (node : Node) (made : List StoredRecord) → Placed nodes n node
    → indices_by (map interval_of made) n ≡ range_with_len 1 (entry node.locks.time n) → AreListed nodes made
    → AreListed nodes (made ++ closed_record node ∷ [])
one_listed nodes n node made p exact h = record {
  attached = All-push IsAttached made (closed_record node) h.attached (closed-attached node);
  rising = All-push Rises made (closed_record node) h.rising (closed-rising node);
  found = found-push made (closed_record node) h.found (λ x c e.
      let between : _ = own_between made n (entry node.locks.time n) x exact c (e ∙ p.me) in
      let most : stamp_index made_stamps x ≤ entry node.locks.time n = between.1 in
      let index : stamp_index made_stamps (closed_record node) ≡ entry node.locks.time n + 1 =
      closed-index nodes n node p ∙ ap (λ k. entry node.locks.time k + 1) p.me in
      omega (arith, most, index));
  among = λ x c. ⊎_elim
      (λ (old : Contains made x). h.among x old)
      (λ (new : closed_record node ≡ x). subst (λ (z : StoredRecord). z.node < nodes) new (subst (λ k. k < nodes) (sym p.me) p.within))
      (Contains-push_cases made (closed_record node) x c);
}

pub more_listed : (nodes n : ℕ) (node after : Node) (made : List StoredRecord) → Placed nodes n node
    → indices_by (map interval_of made) n ≡ range_with_len 1 (entry node.locks.time n) → AreListed nodes made
    → AreListed nodes (made ++ closed_by node after)
more_listed nodes n node after made p exact h = by_test (entry after.locks.time node.setting.me == entry node.locks.time node.setting.me)
  where
    by_test : (b : Bool) → AreListed nodes (made ++ (if b then [] else closed_record node ∷ []))
    by_test true = subst (AreListed nodes) (sym (append-nil made)) h
    by_test false = one_listed nodes n node made p exact h

module _ (program : Program) (nodes : ℕ) (options : OptionsRecord) where
  are-history : KeptByHistory program nodes options (λ world made. AreMade (map interval_of made) world)
  are-history world made flight n l after input log_entry at comes i r r' h are =
      let same : map interval_of (made ++ closed_by l.node after.node) ≡ _ =
      map-append interval_of made (closed_by l.node after.node) ∙ ap (λ new. map interval_of made ++ new) (closed-between l.node after.node) in
      subst (λ all. AreMade all (with_turn world flight n log_entry after)) (sym same)
      (are-kept program nodes options world (map interval_of made) flight n l after input log_entry at comes i r are)

  -- they are those that are stored and told of
  pub all_made : (world : World) (made : List StoredRecord) → History program nodes options world made → AreMade (map interval_of made) world
  all_made world made h =
      by_history program nodes options (λ world made. AreMade (map interval_of made) world) (are-fresh program nodes options) are-history world made h

  listed-history : KeptByHistory program nodes options (λ world made. AreListed nodes made)
  listed-history world made flight n l after input log_entry at comes i r r' h listed =
      more_listed nodes n l.node after.node made (placed program nodes options world r n l at) ((all_made world made h).exact n l at) listed

  pub all_listed : (world : World) (made : List StoredRecord) → History program nodes options world made → AreListed nodes made
  all_listed world made h = by_history program nodes options (λ world made. AreListed nodes made) (none_listed nodes) listed-history world made h
