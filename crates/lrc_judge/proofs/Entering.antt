-- The entries of a run, position by position, sorted, and without equal neighbours.
use Rattle.std.proofs.Common.{◌≡◌, ℕ, ◌+◌, ◌≤◌, ◌++◌, List, [], ◌∷◌, length, inl, inr, refl, sym, subst, arith}
use Rattle.std.specs.Prelude.{◌↔◌, ◌&&◌, ◌==◌, Bool, true, Some, None, Contains}
use Rattle.std.specs.Ordering.{eq_by_cmp}
use Rattle.std.specs.List.{dedup}
use Rattle.std.specs.List.Sorted.{IsSorted, IsPermutation}
use Rattle.std.proofs.lemmas.Bool.{and_parts, eqb-true}
use Rattle.lrc_trace.specs.declared.act.Act.{Act}
use Rattle.lrc_trace.specs.declared.act.Deed.{Deed}
use Rattle.lrc_trace.specs.Run.{Does}
use Rattle.lrc_trace.proofs.Positions.{Does-within, Does-one_node, Does-one_deed}
use Rattle.lrc_judge.specs.declared.lanes.Lane.{Lane}
use Rattle.lrc_judge.specs.declared.lanes.Entry.{Entry}
use Rattle.lrc_judge.specs.declared.entries.Told.{Told}
use Rattle.lrc_judge.specs.Adding.{Adds}
use Rattle.lrc_judge.specs.Lanes.{entry_cmp, entry, lane_of, IsEntry, AreEntries}
use Rattle.lrc_judge.proofs.Ascending.{is_eq-then, is_eq-nat}
use Rattle.lrc_judge.proofs.Additions.{IsBelow, adds-same, adds-iff, adds-push, below-more}
use Rattle.lrc_judge.proofs.Distinct.{distinct-ascending, distinct-contains}
use Rattle.lrc_judge.proofs.Searching.{entry_total}

-- the entry is that of the position
pub record IsEntryAt (run : List Act) (told : Told) (k : ℕ) (e : Entry) : Type 0 where
  pub at : e.position ≡ k
  pub is : IsEntry run told e.lane k

module _ (run : List Act) (told : Told) (n node : ℕ) (deed : Deed) (here : Does run n node deed) (xs ys : List Entry)
    (adds : Adds xs ys (IsBelow (IsEntryAt run told) n)) where
  -- a position that is not listed
  pub entered-none : lane_of told node deed ≡ None → Adds xs ys (IsBelow (IsEntryAt run told) (n + 1))
  entered-none none = below-more (IsEntryAt run told) xs ys ys n adds (adds-same ys (IsEntryAt run told n) (λ e i.
      let is = i.is in
      let nodes : is.node ≡ node = Does-one_node is.does here in
      let deeds : is.deed ≡ deed = Does-one_deed is.does here in
      let some : lane_of told is.node is.deed ≡ Some e.lane = is.lane_is in
      let other : lane_of told is.node is.deed ≡ None = rw (nodes, deeds) none in
      let never : ⊥ = cc in never))

  -- and one that is
  pub entered-more : (lane : Lane) (zs : List Entry) → lane_of told node deed ≡ Some lane → zs ≡ ys ++ entry lane n ∷ []
      → Adds xs zs (IsBelow (IsEntryAt run told) (n + 1))
  entered-more lane zs some pushed = below-more (IsEntryAt run told) xs ys zs n adds
      (adds-iff ys zs (λ e. e ≡ entry lane n) (IsEntryAt run told n)
      (λ e same. subst (λ x. IsEntryAt run told n x) (sym same)
      (record { at = refl; is = record { node = node; deed = deed; does = here; lane_is = some } }))
      (λ e i.
      let is = i.is in
      let nodes : is.node ≡ node = Does-one_node is.does here in
      let deeds : is.deed ≡ deed = Does-one_deed is.does here in
      let first : lane_of told is.node is.deed ≡ Some e.lane = is.lane_is in
      let second : lane_of told is.node is.deed ≡ Some lane = rw (nodes, deeds) some in
      let lanes : e.lane ≡ lane = cc in
      let at : e.position ≡ n = i.at in
      let same : ◌≡◌ {A = Entry} (record { lane = e.lane; position = e.position }) (record { lane = lane; position = n }) = cc in same)
      (adds-push ys zs (entry lane n) pushed))

-- ---- sorted, and without equal neighbours

-- whether two entries agree in every field
abbrev pub entry_eq : Entry → Entry → Bool
entry_eq a b = ((a.lane.word == b.lane.word) && ((a.lane.value == b.lane.value) && (a.lane.node == b.lane.node))) && (a.position == b.position)

entry_eq-cmp : (a b : Entry) → entry_eq a b ≡ eq_by_cmp entry_cmp a b
entry_eq-cmp a b = sym (simp (is_eq-then, is_eq-nat))

entry_eq-exact : (a b : Entry) → entry_eq a b ≡ true → a ≡ b
entry_eq-exact a b h =
    let (lanes, positions) = and_parts _ (a.position == b.position) h in
    let (words, h1) = and_parts (a.lane.word == b.lane.word) _ lanes in
    let (values, nodes) = and_parts (a.lane.value == b.lane.value) _ h1 in
    let w : a.lane.word ≡ b.lane.word = eqb-true a.lane.word b.lane.word words in
    let v : a.lane.value ≡ b.lane.value = eqb-true a.lane.value b.lane.value values in
    let n : a.lane.node ≡ b.lane.node = eqb-true a.lane.node b.lane.node nodes in
    let p : a.position ≡ b.position = eqb-true a.position b.position positions in
    let l : ◌≡◌ {A = Lane} (record { word = a.lane.word; value = a.lane.value; node = a.lane.node })
    (record { word = b.lane.word; value = b.lane.value; node = b.lane.node }) = cc in
    let e : ◌≡◌ {A = Entry} (record { lane = a.lane; position = a.position }) (record { lane = b.lane; position = b.position }) = cc in e

module _ (xs sorted unique : List Entry) (permutation : IsPermutation xs sorted) (in_order : IsSorted entry_cmp sorted)
    (is : unique ≡ dedup entry_eq sorted) where
  unique-contains : (e : Entry) → Contains unique e ↔ Contains xs e
  unique-contains = distinct-contains entry_cmp entry_eq entry_total entry_eq-cmp entry_eq-exact xs sorted unique permutation is

  pub entries-all : (run : List Act) (told : Told) (n : ℕ) → length run ≤ n → Adds [] xs (IsBelow (IsEntryAt run told) n)
      → AreEntries (IsEntry run told) unique
  entries-all run told n all adds = record {
    in_order = distinct-ascending entry_cmp entry_eq entry_total entry_eq-cmp sorted unique in_order is;
    exact = λ lane i. (
      λ h.
          elim ((adds.exact (entry lane i)).0 ((unique-contains (entry lane i)).0 h)) [
            | inl (k, lt, _) ↦ absurd (omega arith)
            | inr (k, lt, e) ↦ subst (λ m. IsEntry run told lane m) (sym e.at) e.is
          ],
      λ e. let within = Does-within e.does in
          (unique-contains (entry lane i)).1 ((adds.exact (entry lane i)).1 (inr (i, omega arith, record { at = refl; is = e }))),
    );
  }
