-- A node whose copies have what the exact memory has closes its interval with the changes that the exact memory gives it.
use Rattle.std.proofs.Common.{◌≡◌, ℕ, ◌+◌, ◌<◌, ◌≤◌, ◌&&◌, List, [], ◌∷◌, ◌++◌, Bool, false, length, inl, inr, refl, sym, ap, subst, ◌∙◌, arith}
use Rattle.std.specs.Prelude.{Option, Some, None, is_some, unwrap_or, ◌==◌, slice_index, Contains, if◌then◌else◌}
use Rattle.std.proofs.lemmas.Bool.{cases_eq, eq-eqb, ne_eqb, eqb-true, and_parts, and_from, false_from_ne_true}
use Rattle.std.proofs.lemmas.List.Elements.{Contains-append_left, Contains-push_cases}
use Rattle.lrc_time.specs.Time.{entry, weight_of, Covers}
use Rattle.lrc_time.proofs.Times.{entry-set_same, entry-set_other, covers-raised, weight-raised}
use Rattle.lrc_page.specs.declared.size.Size.{Size}
use Rattle.lrc_page.specs.Page.{words_of}
use Rattle.lrc_page.specs.Changes.{change_at, changes_between}
use Rattle.lrc_page.proofs.ChangeLists.{change_at-between_same, change_at-between_differs}
use Rattle.lrc_store.specs.Store.{StoredRecord}
use Rattle.lrc_copies.specs.Stamps.{stamp_index}
use Rattle.lrc_protocol.specs.Times.{next_time}
use Rattle.lrc_protocol.specs.Pages.{Copy, valid, written, invalid, absent, changes_of, closed as closed_copy, Memory, copy_at}
use Rattle.lrc_protocol.specs.Pages.{with_interval as storing}
use Rattle.lrc_node_laws.proofs.OwnCopies.{map-copy}
use Rattle.lrc_reading_laws.specs.Written.{made_stamps, word_on, changes_on}
use Rattle.lrc_exact.specs.Memory.{Word, Interval}
use Rattle.lrc_exact.specs.Rule.{State, change_of, open_interval, with_interval, closed}
use Rattle.lrc_exact_known.specs.Learned.{TakesHighest}
use Rattle.lrc_exact_marks.proofs.Ranks.{by_other_words}
use Rattle.lrc_exact_made.specs.Copies.{IsExactly, IsChangeBetween, unmarked, HasWord, HasExact}
use Rattle.lrc_exact_made.specs.Steps.{IsClosing}

no_some : (value : ℕ) → None ≡ Some value → ⊥
no_some value e = cc

-- an interval without changes of the page changed no word of it
pub no_change : (page offset value : ℕ) (y : StoredRecord) → changes_on page y ≡ [] → change_at (changes_on page y) offset ≡ Some value → ⊥
no_change page offset value y none some = no_some value (sym (ap (λ cs. change_at cs offset) none) ∙ some)

-- what is kept from before the first write is the twin's value, where there is one
differs : (twin values : List ℕ) (offset : ℕ) (before : Option ℕ) → offset < length values
    → slice_index twin offset ≡ unwrap_or before (slice_index values offset)
    → change_of before (slice_index values offset) ≡ change_at (changes_between twin values) offset
differs twin values offset None lt e = sym (change_at-between_same twin values offset e)
differs twin values offset (Some was) lt e =
    elim (cases_eq was (slice_index values offset)) [
      | inl same ↦
          ap (λ b. if b then None else Some (slice_index values offset)) (eq-eqb was (slice_index values offset) same)
          ∙ sym (change_at-between_same twin values offset (e ∙ same))
      | inr other ↦
          ap (λ b. if b then None else Some (slice_index values offset)) (ne_eqb was (slice_index values offset) other)
          ∙ sym (change_at-between_differs twin values offset lt (λ same. other (sym e ∙ same)))
    ]

module _ (size : Size) (made : List StoredRecord) (me : ℕ) (time : List ℕ) (memory : Memory) (state : State) (x : StoredRecord)
    (h : HasExact size made time memory state) (c : IsClosing size made me time memory x) where
  abbrev after : List ℕ
  after = next_time me time

  abbrev all : List StoredRecord
  all = made ++ x ∷ []

  index_is : stamp_index made_stamps x ≡ entry time me + 1
  index_is =
      ap (λ n. entry x.stamp n) c.node_is
      ∙ ap (λ stamp. entry stamp me) c.stamp_is
      ∙ entry-set_same time me (entry time me + 1) c.within

  changes_none : (page : ℕ) → changes_of (copy_at memory page) ≡ None → changes_on page x ≡ []
  changes_none page none = c.changes page ∙ ap (λ o. unwrap_or o []) none

  -- what was made before is known after just where it was known before
  upto : (y : StoredRecord) → Contains made y → stamp_index made_stamps y ≤ entry after y.node → stamp_index made_stamps y ≤ entry time y.node
  upto y member known =
      elim (cases_eq y.node me) [
        | inl own ↦ subst (λ n. stamp_index made_stamps y ≤ entry time n) (sym own) (c.own y member own)
        | inr other ↦ subst (λ k. stamp_index made_stamps y ≤ k) (entry-set_other time me (entry time me + 1) y.node other) known
      ]

  raised : Covers after time
  raised = covers-raised time me (entry time me + 1) (omega arith)

  -- ---- copies

  still : (page offset : ℕ) (since : List ℕ) (now word : Word) → changes_of (copy_at memory page) ≡ None
      → TakesHighest (IsChangeBetween made page offset since time) now word → TakesHighest (IsChangeBetween all page offset since after) now word
  still page offset since now word none f =
      by_other_words (IsChangeBetween made page offset since time) (IsChangeBetween all page offset since after) now word
      (λ rank value b.
      let known = b.known in
      let up = raised b.interval.node in
      record {
        interval = b.interval;
        member = Contains-append_left made (x ∷ []) b.interval b.member;
        later = b.later;
        known = omega arith;
        ranked = b.ranked;
        changed = b.changed;
      })
      (λ rank value b.
      elim (Contains-push_cases made x b.interval b.member) [
        | inl old ↦
            record { interval = b.interval; member = old; later = b.later; known = upto b.interval old b.known; ranked = b.ranked; changed = b.changed }
        | inr new ↦
            absurd (no_change page offset value b.interval (ap (changes_on page) (sym new) ∙ changes_none page none) b.changed)
      ]) f

  copy_then : (page offset : ℕ) (copy : Copy) (word : Word) (before : Option ℕ) → copy_at memory page ≡ copy
      → HasWord made time page offset copy word before → HasWord all after page offset (closed_copy copy) word None
  copy_then page offset (valid values) word before e f = (f.0, refl)
  copy_then page offset (written values twin) word before e f = (f.0, refl)
  copy_then page offset (invalid values since) word before e f =
      (still page offset since (unmarked (slice_index values offset)) word (ap changes_of e) f.0, refl)
  copy_then page offset absent word before e f = refl

  unwritten : (copy : Copy) → false ≡ is_some (changes_of (closed_copy copy))
  unwritten (valid values) = refl
  unwritten (written values twin) = refl
  unwritten (invalid values since) = refl
  unwritten absent = refl

  -- ---- the interval

  changed_is : (page offset : ℕ) → offset < words_of size → (copy : Copy) → copy_at memory page ≡ copy → (word : Word) (before : Option ℕ)
      → HasWord made time page offset copy word before → change_of before word.value ≡ change_at (changes_on page x) offset
  changed_is page offset lt (valid values) e word before f =
      ap (λ o. change_of o word.value) f.1 ∙ sym (ap (λ cs. change_at cs offset) (changes_none page (ap changes_of e)))
  changed_is page offset lt (written values twin) e word before f =
      let long = c.long page values twin e in
      let changes : changes_on page x ≡ changes_between twin values =
      c.changes page ∙ ap (λ (copy : Copy). unwrap_or (changes_of copy) []) e in
      ap (λ (w : Word). change_of before w.value) f.0
      ∙ differs twin values offset before (omega arith) f.1
      ∙ sym (ap (λ cs. change_at cs offset) changes)
  changed_is page offset lt (invalid values since) e word before f =
      ap (λ o. change_of o word.value) f.1 ∙ sym (ap (λ cs. change_at cs offset) (changes_none page (ap changes_of e)))
  changed_is page offset lt absent e word before f =
      ap (λ o. change_of o word.value) f ∙ sym (ap (λ cs. change_at cs offset) (changes_none page (ap changes_of e)))

  weight_is : weight_of state.knows.time + 1 ≡ weight_of x.stamp
  weight_is =
      let more = weight-raised time me (entry time me + 1) c.within in
      let stamp : weight_of x.stamp ≡ weight_of (next_time me time) = ap weight_of c.stamp_is in
      let own : weight_of state.knows.time ≡ weight_of time = ap weight_of h.time_is in
      omega arith

  pub exactly : IsExactly size x (open_interval state)
  exactly = record {
    weight = weight_is;
    changed = λ page offset lt.
        changed_is page offset lt (copy_at memory page) refl (state.words (word_on size page offset)) (state.before (word_on size page offset))
        (h.copies page offset lt);
    names = λ page. h.written page ∙ sym (c.notices page);
  }

  -- ---- what is known then

  abbrev then_known : StoredRecord → Bool → Interval
  then_known y b = if b then open_interval state else state.knows.interval y.node (stamp_index made_stamps y)

  not_new : (y : StoredRecord) → Contains made y → (y.node == me && stamp_index made_stamps y == entry state.knows.time me + 1) ≡ false
  not_new y member =
      false_from_ne_true (y.node == me && stamp_index made_stamps y == entry state.knows.time me + 1) (λ both.
      let parts = and_parts (y.node == me) (stamp_index made_stamps y == entry state.knows.time me + 1) both in
      let most = c.own y member (eqb-true y.node me parts.0) in
      let index = eqb-true (stamp_index made_stamps y) (entry state.knows.time me + 1) parts.1 in
      let now : entry state.knows.time me ≡ entry time me = ap (λ t. entry t me) h.time_is in
      omega arith)

  old_knows : (y : StoredRecord) → Contains made y → stamp_index made_stamps y ≤ entry after y.node
      → IsExactly size y ((with_interval me (open_interval state) state.knows).interval y.node (stamp_index made_stamps y))
  old_knows y member known =
      subst (λ b. IsExactly size y (then_known y b)) (sym (not_new y member))
      (h.knows.each y member (subst (λ t. stamp_index made_stamps y ≤ entry t y.node) (sym h.time_is) (upto y member known)))

  new_knows : IsExactly size x ((with_interval me (open_interval state) state.knows).interval x.node (stamp_index made_stamps x))
  new_knows =
      subst (λ b. IsExactly size x (then_known x b))
      (sym (and_from (x.node == me) (stamp_index made_stamps x == entry state.knows.time me + 1) (eq-eqb x.node me c.node_is)
      (eq-eqb (stamp_index made_stamps x) (entry state.knows.time me + 1) (index_is ∙ ap (λ t. entry t me + 1) (sym h.time_is)))))
      exactly

  then_time : (closed me state).knows.time ≡ after
  then_time = ap (λ t. next_time me t) h.time_is

  pub closes_exactly : HasExact size all after (storing me after memory) (closed me state)
  closes_exactly = record {
    time_is = then_time;
    copies = λ page offset lt.
        subst (λ copy. HasWord all after page offset copy (state.words (word_on size page offset)) None)
        (sym (map-copy closed_copy refl memory.copies page))
        (copy_then page offset (copy_at memory page) (state.words (word_on size page offset)) (state.before (word_on size page offset)) refl
        (h.copies page offset lt));
    written = λ page.
        subst (λ copy. false ≡ is_some (changes_of copy)) (sym (map-copy closed_copy refl memory.copies page)) (unwritten (copy_at memory page));
    knows = record {
      each = λ y member known.
          elim (Contains-push_cases made x y member) [
            | inl old ↦ old_knows y old (subst (λ t. stamp_index made_stamps y ≤ entry t y.node) then_time known)
            | inr new ↦
                subst
                (λ (z : StoredRecord).
                IsExactly size z ((with_interval me (open_interval state) state.knows).interval z.node (stamp_index made_stamps z))) new new_knows
          ];
    };
  }
