-- The notices of an interval that a node closes: one for each page that was written, with the changes between twin and copy.
use Rattle.std.proofs.Common.{◌≡◌, ℕ, zero, suc, ◌+◌, ◌<◌, List, [], ◌∷◌, true, cond, refl, sym, ap, ◌∙◌, arith}
use Rattle.std.specs.Prelude.{Option, Some, None, is_some, unwrap_or, option_map, option_and_then, ◌==◌, map, find, filter_map, slice_index_or}
use Rattle.std.specs.List.{enumerate_from, cons_option}
use Rattle.std.proofs.lemmas.Bool.{eq-eqb, ne_eqb, false≢true}
use Rattle.lrc_page.specs.declared.changes.Change.{Change}
use Rattle.lrc_page.specs.Changes.{changes_between}
use Rattle.lrc_store.specs.Store.{NoticeRecord, notice_of}
use Rattle.lrc_protocol.specs.Pages.{Copy, valid, written, invalid, absent, changes_of, copy_at}
use Rattle.lrc_protocol.specs.Node.{Node}
use Rattle.lrc_reading_laws.specs.Written.{changes_on}
use Rattle.lrc_reading_laws.proofs.Closed.History.{closed_record}

-- a page with its changes, as a notice
abbrev notice_with : ℕ → List Change → NoticeRecord
notice_with page changes = record { page = page; changes = Some changes }

abbrev notices_with : List (ℕ × List Change) → List NoticeRecord
notices_with pages = map (λ (at : ℕ × List Change). notice_with at.0 at.1) pages

-- the first page, where it has changes, and more
abbrev pages_with : ℕ → Option (List Change) → List (ℕ × List Change) → List (ℕ × List Change)
pages_with first o more = cons_option (option_map (λ changes. (first, changes)) o) more

-- the copies that are written, from a page on, with their changes
abbrev changed_from : ℕ → List Copy → List (ℕ × List Change)
changed_from first copies =
    filter_map (λ (place : ℕ × Copy). option_map (λ changes. (place.0, changes)) (changes_of place.1)) (enumerate_from first copies)

abbrev notice_in : ℕ → List (ℕ × List Change) → Option NoticeRecord
notice_in page pages = find (λ (notice : NoticeRecord). notice.page == page) (notices_with pages)

skips : (page first : ℕ) (o : Option (List Change)) (more : List (ℕ × List Change)) → (first ≡ page → ⊥)
    → notice_in page (pages_with first o more) ≡ notice_in page more
skips page first None more ne = refl
skips page first (Some changes) more ne =
    ap (λ b. cond b (Some (notice_with first changes)) (notice_in page more)) (ne_eqb first page ne)

finds : (page first : ℕ) (o : Option (List Change)) (more : List (ℕ × List Change)) → first ≡ page → notice_in page more ≡ None
    → notice_in page (pages_with first o more) ≡ option_map (notice_with page) o
finds page first None more e none = none
finds page first (Some changes) more e none =
    ap (λ b. cond b (Some (notice_with first changes)) (notice_in page more)) (eq-eqb first page e)
    ∙ ap (λ p. Some (notice_with p changes)) e

past : (copies : List Copy) (page first : ℕ) → page < first → notice_in page (changed_from first copies) ≡ None
past [] page first lt = refl
past (copy ∷ copies) page first lt =
    skips page first (changes_of copy) (changed_from (first + 1) copies) (λ e. omega (arith, e, lt))
    ∙ past copies page (first + 1) (omega (arith, lt))

found_from : (copies : List Copy) (page first k : ℕ) → page ≡ first + k
    → notice_in page (changed_from first copies) ≡ option_map (notice_with page) (changes_of (slice_index_or copies k absent))
found_from [] page first k e = refl
found_from (copy ∷ copies) page first zero e =
    finds page first (changes_of copy) (changed_from (first + 1) copies) (omega (arith, e)) (past copies page (first + 1) (omega (arith, e)))
found_from (copy ∷ copies) page first (suc k) e =
    skips page first (changes_of copy) (changed_from (first + 1) copies) (λ same. omega (arith, e, same))
    ∙ found_from copies page (first + 1) k (omega (arith, e))

module _ (node : Node) (page : ℕ) where
  notice_is : notice_of page (closed_record node) ≡ option_map (notice_with page) (changes_of (copy_at node.memory page))
  notice_is = found_from node.memory.copies page 0 page (omega arith)

  changes_are : changes_on page (closed_record node) ≡ unwrap_or (changes_of (copy_at node.memory page)) []
  changes_are =
      ap (λ o. unwrap_or (option_and_then (λ (notice : NoticeRecord). notice.changes) o) []) notice_is
      ∙ of_notice (changes_of (copy_at node.memory page))
    where
      of_notice : (o : Option (List Change))
          → unwrap_or (option_and_then (λ (notice : NoticeRecord). notice.changes) (option_map (notice_with page) o)) [] ≡ unwrap_or o []
      of_notice None = refl
      of_notice (Some changes) = refl

  -- a written page has the changes between twin and copy
  pub closed_changes : (values twin : List ℕ) → copy_at node.memory page ≡ written values twin
      → changes_on page (closed_record node) ≡ changes_between twin values
  closed_changes values twin e = changes_are ∙ ap (λ copy. unwrap_or (changes_of copy) []) e

  unwritten_none : (copy : Copy) → ((values twin : List ℕ) → copy ≡ written values twin → ⊥) → changes_of copy ≡ None
  unwritten_none (valid values) h = refl
  unwritten_none (written values twin) h = absurd (h values twin refl)
  unwritten_none (invalid values since) h = refl
  unwritten_none absent h = refl

  -- any other has none
  pub closed_none : ((values twin : List ℕ) → copy_at node.memory page ≡ written values twin → ⊥) → changes_on page (closed_record node) ≡ []
  closed_none h = changes_are ∙ ap (λ o. unwrap_or o []) (unwritten_none (copy_at node.memory page) h)

  -- a page with a notice was written
  pub noticed : is_some (notice_of page (closed_record node)) ≡ true
      → (values : List ℕ) × (twin : List ℕ) × (copy_at node.memory page ≡ written values twin)
  noticed some = of_copy (copy_at node.memory page) refl (sym (ap is_some notice_is) ∙ some)
    where
      of_copy : (copy : Copy) → copy_at node.memory page ≡ copy → is_some (option_map (notice_with page) (changes_of copy)) ≡ true
          → (values : List ℕ) × (twin : List ℕ) × (copy_at node.memory page ≡ written values twin)
      of_copy (valid values) e s = absurd (false≢true s)
      of_copy (written values twin) e s = (values, twin, e)
      of_copy (invalid values since) e s = absurd (false≢true s)
      of_copy absent e s = absurd (false≢true s)

  -- a page without a notice was not written
  pub unnamed : notice_of page (closed_record node) ≡ None → (values twin : List ℕ) → copy_at node.memory page ≡ written values twin → ⊥
  unnamed none values twin e = no_some (sym (notice_is ∙ ap (λ copy. option_map (notice_with page) (changes_of copy)) e) ∙ none)
    where
      no_some : {x : NoticeRecord} → Some x ≡ None → ⊥
      no_some e = cc
