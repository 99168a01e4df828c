-- What the changes of a memory do to its intervals.
use Rattle.std.proofs.Common.{◌≡◌, ℕ, List, [], ◌∷◌, ◌++◌, length, refl, ap, ◌∙◌, append_assoc}
use Rattle.std.specs.Prelude.{fold, slice_set}
use Rattle.std.proofs.lemmas.List.{length-set}
use Rattle.lrc_page.specs.declared.changes.Change.{Change}
use Rattle.lrc_store.specs.Interval.{IntervalRecord, index_of}
use Rattle.lrc_store.specs.Store.{StoreRecord, intervals_of, added}
use Rattle.lrc_store.proofs.Stores.{intervals_of-added, intervals_of-attached}
use Rattle.lrc_envelope.specs.Records.{IndexedChangesRecord}
use Rattle.lrc_protocol.specs.Pages.{with_own, with_part}

-- the same intervals, whatever is known of their changes
pub record SameIntervals (a b : StoreRecord) : Type 0 where
  pub pages : b.pages ≡ a.pages
  pub last : b.last ≡ a.last
  pub intervals : intervals_of b ≡ intervals_of a

pub own-same : (me index : ℕ) (pages : List (ℕ × List Change)) (store : StoreRecord) → SameIntervals store (fold (with_own me index) store pages)
own-same me index [] store = record { pages = refl; last = refl; intervals = refl }
own-same me index (page ∷ pages) store =
    let rest : SameIntervals (with_own me index store page) (fold (with_own me index) (with_own me index store page) pages) =
    own-same me index pages (with_own me index store page) in
    record {
      pages = rest.pages;
      last = rest.last;
      intervals = rest.intervals ∙ intervals_of-attached store (record { node = me; index = index; page = page.0 }) page.1;
    }

pub parts-same : (maker page : ℕ) (parts : List IndexedChangesRecord) (store : StoreRecord) → SameIntervals store (fold (with_part maker page) store parts)
parts-same maker page [] store = record { pages = refl; last = refl; intervals = refl }
parts-same maker page (part ∷ parts) store =
    let rest : SameIntervals (with_part maker page store part) (fold (with_part maker page) (with_part maker page store part) parts) =
    parts-same maker page parts (with_part maker page store part) in
    record {
      pages = rest.pages;
      last = rest.last;
      intervals = rest.intervals ∙ intervals_of-attached store (record { node = maker; index = part.index; page = page }) part.changes;
    }

-- the greatest index of each node once one more interval is added
abbrev pub last_with : List ℕ → IntervalRecord → List ℕ
last_with last i = slice_set last i.node (index_of i)

pub record Longer (a : StoreRecord) (more : List IntervalRecord) (b : StoreRecord) : Type 0 where
  pub pages : b.pages ≡ a.pages
  pub last : b.last ≡ fold last_with a.last more
  pub intervals : intervals_of b ≡ intervals_of a ++ more

pub append_none : {X : Type 0} (xs : List X) → xs ≡ xs ++ []
append_none [] = refl
append_none (x ∷ xs) = ap (λ l. x ∷ l) (append_none xs)

pub learned-longer : (more : List IntervalRecord) (store : StoreRecord) → Longer store more (fold added store more)
learned-longer [] store = record { pages = refl; last = refl; intervals = append_none (intervals_of store) }
learned-longer (i ∷ more) store =
    let rest : Longer (added store i) more (fold added (added store i) more) = learned-longer more (added store i) in
    record {
      pages = rest.pages;
      last = rest.last;
      intervals = rest.intervals ∙ ap (λ l. l ++ more) (intervals_of-added store i) ∙ append_assoc (intervals_of store) (i ∷ []) more;
    }

pub length-last_with : (more : List IntervalRecord) (last : List ℕ) → length (fold last_with last more) ≡ length last
length-last_with [] last = refl
length-last_with (i ∷ more) last = length-last_with more (last_with last i) ∙ length-set last i.node (index_of i)
