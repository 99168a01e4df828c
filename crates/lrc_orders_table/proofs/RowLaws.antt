-- Rows to which others are added: each stays where it is, and stands for one state.
use Rattle.std.proofs.Common.{◌≡◌, ℕ, zero, suc, ◌<◌, ◌≤◌, List, [], ◌∷◌, length, map, refl, sym, subst, ◌∙◌, ap, arith}
use Rattle.std.specs.Prelude.{Some, slice_get, slice_index}
use Rattle.std.proofs.lemmas.Option.{same_Some, slice_get_within}
use Rattle.lrc_exec.specs.declared.spot.Spot.{Spot}
use Rattle.lrc_orders.specs.declared.noted.Noted.{Noted}
use Rattle.lrc_orders.specs.Kept.{Grows}
use Rattle.lrc_orders.proofs.Keeping.{grows_again, grows_not, item_at, stands_on}
use Rattle.lrc_orders.proofs.Stores.{IsStore}
use Rattle.lrc_orders.proofs.Ways.{IsNotedCopy}
use Rattle.lrc_orders_settling.specs.Taking.{count_of}
use Rattle.lrc_orders_memory.specs.Sharing.{IsSharedAt}
use Rattle.lrc_orders_memory.proofs.Apart.{shared_again, shared_kept, shared_not, shared_one}
use Rattle.lrc_orders_table.specs.declared.rows.Row.{Row}
use Rattle.lrc_orders_table.specs.declared.rows.Rows.{Rows}
use Rattle.lrc_orders_table.specs.Links.{AreNotesAt}
use Rattle.lrc_orders_table.specs.Rows.{AreThreadsAt, IsRowAt, IsRowPlace, StandsFor, WidensRows, row_count}
use Rattle.lrc_orders_table.proofs.Linking.{notes_grown, notes_not, notes_one}

-- ---- growth

threads_grown : {old new : List Spot} {nodes : ℕ} {numbers : List ℕ} {spots : List Spot} → Grows old new → AreThreadsAt old nodes numbers spots
    → AreThreadsAt new nodes numbers spots
threads_grown {numbers = numbers} {spots = spots} g t = record {
  long = t.long;
  count = t.count;
  each = λ node lt.
      let (x, at) = item_at spots node (let e = t.count in omega (arith, lt, e)) in
      stands_on (slice_index numbers node) x g (t.each node lt ∙ at) ∙ sym at;
  past = t.past;
}

pub stands_grown : (old new : Rows) (row : Row) (key : Noted) → WidensRows old new → StandsFor old row key → StandsFor new row key
stands_grown old new row key w s = record {
  few = subst (λ n. n ≤ 16) (sym w.nodes) s.few;
  threads = subst (λ n. AreThreadsAt new.threads.keys n row.threads key.state.spots.items) (sym w.nodes) (threads_grown w.threads s.threads);
  shared = shared_kept old.shared new.shared row.shared key.state.memory.items key.state.holders.items w.shared s.shared;
  notes = notes_grown old.notes new.notes row.notes key.notes.items w.notes s.notes;
  counted = s.counted;
}

-- a row stays where it is
pub row_grown : (old new : Rows) (k : ℕ) (key : Noted) → WidensRows old new → IsRowAt old k key → IsRowAt new k key
row_grown old new k key w at = record {
  row = at.row;
  there = stands_on k at.row w.rows at.there;
  stands = stands_grown old new at.row key w at.stands;
}

pub rows_again : {a b c : Rows} → WidensRows a b → WidensRows b c → WidensRows a c
rows_again {a = a} {b = b} {c = c} v w = record {
  nodes = w.nodes ∙ v.nodes;
  threads = grows_again v.threads w.threads;
  shared = shared_again a.shared b.shared c.shared v.shared w.shared;
  notes = record { links = grows_again v.notes.links w.notes.links; lasts = grows_again v.notes.lasts w.notes.lasts };
  rows = grows_again v.rows w.rows;
}

pub rows_not : (all : Rows) → WidensRows all all
rows_not all = record {
  nodes = refl;
  threads = grows_not all.threads.keys all.threads.keys refl;
  shared = shared_not all.shared;
  notes = notes_not all.notes;
  rows = grows_not all.rows.keys all.rows.keys refl;
}

pub row_within : (all : Rows) (k : ℕ) (key : Noted) → IsRowAt all k key → k < row_count all
row_within all k key at = slice_get_within all.rows.keys k at.row at.there

-- ---- what one row stands for

-- lists that have the same item at each place are the same
pub same_items : {A : Type 0} (xs ys : List A) → length xs ≡ length ys → ((k : ℕ) → k < length xs → slice_get xs k ≡ slice_get ys k) → xs ≡ ys
same_items [] [] long each = refl
same_items [] (y ∷ ys) long each = absurd (omega (arith, long))
same_items (x ∷ xs) [] long each = absurd (omega (arith, long))
same_items (x ∷ xs) (y ∷ ys) long each =
    let first = same_Some x y (each zero (omega arith)) in
    let rest = same_items xs ys (omega (arith, long)) (λ k lt. each (suc k) (omega (arith, lt))) in
    cc

spots_same : (keys : List Spot) (nodes : ℕ) (numbers : List ℕ) (xs ys : List Spot) → AreThreadsAt keys nodes numbers xs → AreThreadsAt keys nodes numbers ys
    → xs ≡ ys
spots_same keys nodes numbers xs ys s t =
    same_items xs ys (s.count ∙ sym t.count)
    (λ k lt. let e = s.count in let less : k < nodes = omega (arith, lt, e) in sym (s.each k less) ∙ t.each k less)

-- it is one state
pub stands_copy : (all : Rows) (row : Row) (x y : Noted) → StandsFor all row x → StandsFor all row y → IsNotedCopy x y
stands_copy all row x y s t =
    let spots = spots_same all.threads.keys all.nodes row.threads x.state.spots.items y.state.spots.items s.threads t.threads in
    let shared =
    shared_one all.shared row.shared x.state.memory.items y.state.memory.items x.state.holders.items y.state.holders.items s.shared t.shared in
    record {
      state = record {
        memory = shared.0;
        holders = shared.1;
        arrivals = s.counted ∙ ap (λ l. map count_of l) spots ∙ sym t.counted;
        spots = spots;
      };
      notes = notes_one all.notes row.notes x.notes.items y.notes.items s.notes t.notes;
    }

-- what the row at a place stands for
pub stands_at : (all : Rows) (place : ℕ) (row : Row) → slice_get all.rows.keys place ≡ Some row → (at : IsRowPlace all place) → StandsFor all row at.0
stands_at all place row there at = subst (λ r. StandsFor all r at.0) (same_Some at.1.row row (sym at.1.there ∙ there)) at.1.stands

pub row_copy : (all : Rows) (k : ℕ) (x y : Noted) → IsRowAt all k x → IsRowAt all k y → IsNotedCopy x y
row_copy all k x y at there =
    let same : at.row ≡ there.row = same_Some at.row there.row (sym at.there ∙ there.there) in
    stands_copy all there.row x y (subst (λ r. StandsFor all r x) same at.stands) there.stands

pub row_same : (all : Rows) (k : ℕ) (x y : Noted) → IsRowAt all k y → IsNotedCopy x y → IsRowAt all k x
row_same all k x y at c =
    let s = at.stands in
    record {
      row = at.row;
      there = at.there;
      stands = record {
        few = s.few;
        threads = subst (λ l. AreThreadsAt all.threads.keys all.nodes at.row.threads l) (sym c.state.spots) s.threads;
        shared = subst (λ l. IsSharedAt all.shared at.row.shared l x.state.holders.items) (sym c.state.memory)
            (subst (λ l. IsSharedAt all.shared at.row.shared y.state.memory.items l) (sym c.state.holders) s.shared);
        notes = subst (AreNotesAt all.notes at.row.notes) (sym c.notes) s.notes;
        counted = c.state.arrivals ∙ s.counted ∙ ap (λ l. map count_of l) (sym c.state.spots);
      };
    }

pub row_store : IsStore IsRowAt row_count WidensRows IsNotedCopy
row_store = record { within = row_within; grown = row_grown; copy = row_copy; same = row_same }
