-- When what a node has of pages fits the times that it keeps: its copies, its base copies, and those that came for an access.
use Rattle.std.proofs.Common.{◌≡◌, ℕ, ◌<◌, ◌≤◌, ◌↔◌, List, [], ◌∷◌, true, false, length, map, refl, sym, ap, subst, ◌∙◌, inl, inr, ⊎_elim, arith}
use Rattle.std.specs.Prelude.{Option, Some, None, All, Contains, ◌==◌, ◌||◌, fold, slice_index_or, slice_set}
use Rattle.std.specs.List.{list_any}
use Rattle.std.proofs.lemmas.Bool.{cases_eq, cases_Bool, cases_lt, eqb-true, eq-eqb, ne_eqb, false≢true, or_cases, or_left}
use Rattle.std.proofs.lemmas.List.{get_or-set_same, get_or-set_other, get_or_past, length-set}
use Rattle.lrc_time.specs.Time.{entry, Covers}
use Rattle.lrc_page.specs.declared.changes.Change.{Change}
use Rattle.lrc_store.specs.declared.key.Key.{Key}
use Rattle.lrc_store.specs.Interval.{IntervalRecord, index_of}
use Rattle.lrc_store.specs.Store.{StoredRecord, StoreRecord, IsStore, interval_of, intervals_of, stored_at, notice_of, changes_at}
use Rattle.lrc_copies.specs.Page.{PageHistory, PageFits, IsPageSound}
use Rattle.lrc_copies.specs.Stamps.{stamp_index, covered, page_of_stamps, IsCut, AreStamped, StandsBetween}
use Rattle.lrc_copies.proofs.Timing.{untouched_fits}
use Rattle.lrc_protocol.specs.Pages.{Copy, valid, written, invalid, absent, is_readable, values_of, changes_of, after_write, Base, unneeded}
use Rattle.lrc_protocol.specs.Pages.{due, come, Need, Memory, copy_at}
use Rattle.lrc_protocol.specs.Barriers.{base_at, with_base}
use Rattle.lrc_protocol.specs.Node.{Wait, nothing, grant, departure, access, upkeep, discard, needs_of}
use Rattle.lrc_protocol.specs.Turn.{with_needs}
use Rattle.lrc_node_laws.proofs.OwnCopies.{set-copy}
use Rattle.lrc_node_laws.proofs.Change.{is_settled, is_open}
use Rattle.lrc_reading_laws.specs.Written.{made_stamps, made_changes, changes_on}
use Rattle.lrc_reading_laws.proofs.Laws.{bound_in}

-- ---- words

-- what each interval wrote, page by page
abbrev pub Wrote : Type 0
Wrote = ℕ → StoredRecord → ℕ → Option ℕ

abbrev pub history_on : Wrote → ℕ → PageHistory StoredRecord
history_on wrote page = page_of_stamps made_stamps (wrote page) (changes_on page)

-- values of a page fit what a time covers of the closed intervals
abbrev pub FitsTime : Wrote → List StoredRecord → List ℕ → ℕ → List ℕ → Type 0
FitsTime wrote made time page values = PageFits (history_on wrote page) values (covered made_stamps time made)

-- a valid copy and a twin fit the node's time, and an invalid copy the time that is remembered of it
abbrev pub CopyFits : Wrote → List StoredRecord → List ℕ → ℕ → Copy → Type 0
CopyFits wrote made time page (valid values) = FitsTime wrote made time page values
CopyFits wrote made time page (written values twin) = FitsTime wrote made time page twin
CopyFits wrote made time page (invalid values since) = FitsTime wrote made since page values × IsCut made_stamps made since
CopyFits wrote made time page absent = Unit {0}

-- a base copy that came fits the collected time
abbrev pub BaseFits : Wrote → List StoredRecord → List ℕ → ℕ → Base → Type 0
BaseFits wrote made collected page (come values) = FitsTime wrote made collected page values
BaseFits wrote made collected page (due keeper) = Unit {0}
BaseFits wrote made collected page unneeded = Unit {0}

pub record Fit (wrote : Wrote) (made : List StoredRecord) (time : List ℕ) (wait : Wait) (memory : Memory) : Type 0 where
  pub copies : (page : ℕ) → CopyFits wrote made time page (copy_at memory page)
  pub bases : (page : ℕ) (values : List ℕ) → base_at memory page ≡ Some values
      → FitsTime wrote made (bound_in wait memory.collected page) page values
  pub needs : All (λ (need : Need). BaseFits wrote made memory.collected need.page need.base) (needs_of wait)

-- what is known of the closed intervals
pub record Facts (count words : ℕ) (wrote : Wrote) (made : List StoredRecord) : Type 0 where
  pub stamped : AreStamped made_stamps count made
  pub found : (x : StoredRecord) → Contains made x → stored_at made x.node (stamp_index made_stamps x) ≡ Some x
  pub sound : (page : ℕ) → IsPageSound (history_on wrote page) words made
  pub untouched : (page : ℕ) (x : StoredRecord) → Contains made x → notice_of page x ≡ None
      → (offset : ℕ) → offset < words → wrote page x offset ≡ None

-- what is known of a store, with a node's time and its collected time
pub record Stored (made : List StoredRecord) (time collected : List ℕ) (store : StoreRecord) : Type 0 where
  pub just : (i : IntervalRecord) → Contains (intervals_of store) i
      ↔ (Contains (map interval_of made) i × (entry collected i.node < index_of i) × (index_of i ≤ entry time i.node))
  pub is_store : IsStore store
  pub known : (key : Key) (changes : List Change) → changes_at store key ≡ Some changes → made_changes made key ≡ Some changes
  pub time_cut : IsCut made_stamps made time
  pub collected_cut : IsCut made_stamps made collected

-- ---- a later time

pub later_fits : (wrote : Wrote) (made : List StoredRecord) (words page : ℕ) (since upto values : List ℕ) → length values ≡ words → Covers upto since
    → ((x : StoredRecord) → StandsBetween made_stamps made since upto x → (offset : ℕ) → offset < words → wrote page x offset ≡ None)
    → FitsTime wrote made since page values → FitsTime wrote made upto page values
later_fits wrote made words page since upto values long up untouched fits =
    untouched_fits made_stamps (wrote page) (changes_on page) made since upto up values
    (λ x b. subst (λ n. (offset : ℕ) → offset < n → wrote page x offset ≡ None) (sym long) (untouched x b)) fits

-- ---- copies at their places

module _ (wrote : Wrote) (made : List StoredRecord) (time : List ℕ) where
  -- one copy changes
  pub set_fits : (copies : List Copy) (at : ℕ) (copy : Copy) → CopyFits wrote made time at copy
      → ((page : ℕ) → CopyFits wrote made time page (slice_index_or copies page absent))
      → (page : ℕ) → CopyFits wrote made time page (slice_index_or (slice_set copies at copy) page absent)
  set_fits copies at copy fits all page = elim (cases_eq at page) [
    | inl here ↦
        subst (λ p. CopyFits wrote made time p (slice_index_or (slice_set copies at copy) p absent)) here
        (set-copy (CopyFits wrote made time at) copies at at copy (λ x. fits) (all at))
    | inr other ↦ subst (CopyFits wrote made time page) (sym (get_or-set_other copies at page copy absent (λ e. other (sym e)))) (all page)
  ]

  pub write_fits : (page offset value : ℕ) (copy : Copy) → CopyFits wrote made time page copy
      → CopyFits wrote made time page (after_write copy offset value)
  write_fits page offset value (valid values) h = h
  write_fits page offset value (written values twin) h = h
  write_fits page offset value (invalid values since) h = h
  write_fits page offset value absent h = h

  -- what may be read and is not written is valid
  pub readable_fits : (page : ℕ) (copy : Copy) → is_readable copy ≡ true → changes_of copy ≡ None → CopyFits wrote made time page copy
      → FitsTime wrote made time page (values_of copy)
  readable_fits page (valid values) r u h = h
  readable_fits page (written values twin) r u h = cc
  readable_fits page (invalid values since) r u h = cc
  readable_fits page absent r u h = cc

-- ---- base copies at their places

no_base : (o : Option (List ℕ)) (values : List ℕ) → o ≡ None → o ≡ Some values → ⊥
no_base None values n e = cc
no_base (Some other) values n e = cc

pub base-within : (memory : Memory) (page : ℕ) (values : List ℕ) → base_at memory page ≡ Some values → page < length memory.bases
base-within memory page values e =
    ⊎_elim (λ lt. lt) (λ (le : length memory.bases ≤ page). absurd (no_base (base_at memory page) values (get_or_past memory.bases page None le) e))
    (cases_lt page (length memory.bases))

-- base copies are kept of other pages
pub base-other : (kept : List ℕ) (memory : Memory) (page : ℕ) → list_any (λ k. k == page) kept ≡ false
    → base_at (fold with_base memory kept) page ≡ base_at memory page
base-other [] memory page e = refl
base-other (k ∷ kept) memory page e = elim (cases_eq k page) [
  | inl here ↦ absurd (false≢true (sym e ∙ or_left (k == page) (list_any (λ k. k == page) kept) (eq-eqb k page here)))
  | inr other ↦
      base-other kept (with_base memory k) page (ap (λ b. b || list_any (λ k. k == page) kept) (sym (ne_eqb k page other)) ∙ e)
      ∙ get_or-set_other memory.bases k page _ None (λ here. other (sym here))
]

-- and of the page
pub base-kept : (kept : List ℕ) (memory : Memory) (page : ℕ) → page < length memory.bases → list_any (λ k. k == page) kept ≡ true
    → base_at (fold with_base memory kept) page ≡ Some (values_of (copy_at memory page))
base-kept [] memory page lt e = cc
base-kept (k ∷ kept) memory page lt e = elim (cases_Bool (list_any (λ k. k == page) kept)) [
  | inl later ↦ base-kept kept (with_base memory k) page (omega (arith, lt, length-set memory.bases k (Some (values_of (copy_at memory k))))) later
  | inr none ↦
      base-other kept (with_base memory k) page none
      ∙ ⊎_elim
      (λ (here : (k == page) ≡ true).
      subst (λ p. slice_index_or (slice_set memory.bases k (Some (values_of (copy_at memory k)))) p None ≡ Some (values_of (copy_at memory p)))
      (eqb-true k page here)
      (get_or-set_same memory.bases k (Some (values_of (copy_at memory k))) None (subst (λ p. p < length memory.bases) (sym (eqb-true k page here)) lt)))
      (λ later. absurd (false≢true (sym none ∙ later)))
      (or_cases (k == page) (list_any (λ k. k == page) kept) e)
]

-- ---- what a node waits for

pub bound-with : (change : Need → Need) (wait : Wait) (collected : List ℕ) (page : ℕ)
    → bound_in (with_needs change wait) collected page ≡ bound_in wait collected page
bound-with change nothing collected page = refl
bound-with change (grant lock) collected page = refl
bound-with change departure collected page = refl
bound-with change (access need) collected page = refl
bound-with change (upkeep collection needs) collected page = refl
bound-with change (discard collection) collected page = refl

pub bound-settled : (wait : Wait) (collected : List ℕ) (page : ℕ) → is_settled wait ≡ true → bound_in wait collected page ≡ collected
bound-settled nothing collected page e = refl
bound-settled (grant lock) collected page e = refl
bound-settled departure collected page e = refl
bound-settled (access need) collected page e = cc
bound-settled (upkeep collection needs) collected page e = cc
bound-settled (discard collection) collected page e = cc

pub bound-open : (wait : Wait) (collected : List ℕ) (page : ℕ) → is_open wait ≡ true → bound_in wait collected page ≡ collected
bound-open nothing collected page e = cc
bound-open (grant lock) collected page e = refl
bound-open departure collected page e = refl
bound-open (access need) collected page e = cc
bound-open (upkeep collection needs) collected page e = cc
bound-open (discard collection) collected page e = cc
