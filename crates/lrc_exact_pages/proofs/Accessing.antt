-- A node that accesses a page, or that makes one valid with the exact memory's values, goes on to have of its pages what the exact memory has.
use Rattle.std.proofs.Common.{◌≡◌, ℕ, ◌<◌, List, Bool, true, false, length, inl, inr, refl, sym, ap, subst, ◌∙◌, length-set}
use Rattle.std.specs.Prelude.{None, ◌==◌, slice_index, if◌then◌else◌}
use Rattle.std.proofs.lemmas.Bool.{cases_eq, eq-eqb, ne_eqb, false≢true}
use Rattle.std.proofs.lemmas.List.{get_or-set_same, get_or-set_other}
use Rattle.lrc_page.specs.declared.size.Size.{Size}
use Rattle.lrc_page.specs.Page.{words_of}
use Rattle.lrc_page.specs.Place.{page_of, offset_of}
use Rattle.lrc_store.specs.Store.{StoredRecord, missing_of}
use Rattle.lrc_protocol.specs.Pages.{Copy, valid, written, invalid, absent, is_readable, values_of, changes_of, after_write, Memory, copy_at}
use Rattle.lrc_protocol.specs.Pages.{with_copy, with_written_word, all_applied}
use Rattle.lrc_reading_laws.specs.Written.{word_on}
use Rattle.lrc_reading_laws.proofs.Written.Pages.{page_of-word_on}
use Rattle.lrc_exact.specs.Memory.{Word}
use Rattle.lrc_exact.specs.Rule.{Shape, State, accessed, with_write}
use Rattle.lrc_exact_known.specs.Learned.{TakesHighest}
use Rattle.lrc_exact_made.specs.Copies.{shape_of, IsChangeBetween, unmarked}
use Rattle.lrc_exact_made.specs.Steps.{KnowsMissing}
use Rattle.lrc_exact_made.proofs.Accessing.{readable_within, accesses_exactly, writes_exactly, mends_exactly}
use Rattle.lrc_exact_made.proofs.Repairing.{repairs_exactly}
use Rattle.lrc_exact_pages.specs.Pages.{HasPage, HasPages}

module _ (size : Size) (nodes collect : ℕ) (made : List StoredRecord) (fixed : ℕ → ℕ → ℕ) (time : List ℕ) (memory : Memory) (state : State)
    (h : HasPages size made fixed time memory state) where
  abbrev shape : Shape
  shape = shape_of nodes size collect

  abbrev gone : List ℕ
  gone = memory.collected

  -- ---- a look at a page

  abbrev looked : ℕ → Bool → Word
  looked word b = if b then record (state.words word) { mark = None } else state.words word

  off_page : (page at offset : ℕ) → offset < words_of size → (page ≡ at → ⊥) → (page_of (word_on size page offset) size == at) ≡ false
  off_page page at offset lt ne =
      ne_eqb (page_of (word_on size page offset) size) at (λ e. ne (sym (page_of-word_on size page offset lt) ∙ e))

  -- what the exact memory has of another page stays
  other_page : (at page : ℕ) (copy : Copy) → (page ≡ at → ⊥) → HasPage size made (fixed page) gone time page copy state
      → HasPage size made (fixed page) gone time page copy (accessed shape at state)
  other_page at page copy ne f = by_copy copy f
    where
      stale_is : (accessed shape at state).stale page ≡ state.stale page
      stale_is = ap (λ b. if b then false else state.stale page) (ne_eqb page at ne)

      by_copy : (copy : Copy) → HasPage size made (fixed page) gone time page copy state
          → HasPage size made (fixed page) gone time page copy (accessed shape at state)
      by_copy (valid values) f = stale_is ∙ f
      by_copy (written values twin) f = stale_is ∙ f
      by_copy (invalid values since) f = stale_is ∙ f
      by_copy absent f = (
        λ offset lt.
            subst (λ b. TakesHighest (IsChangeBetween made page offset gone time) (unmarked (fixed page offset)) (looked (word_on size page offset) b))
            (sym (off_page page at offset lt ne)) (f.0 offset lt),
        (λ stale. f.1.0 (sym stale_is ∙ stale), λ b. stale_is ∙ f.1.1 b),
      )

  -- the page that is looked at is not stale
  this_page : (at page : ℕ) (copy : Copy) → page ≡ at → is_readable copy ≡ true → HasPage size made (fixed page) gone time page copy (accessed shape at state)
  this_page at page copy e readable = by_copy copy readable
    where
      stale_is : (accessed shape at state).stale page ≡ false
      stale_is = ap (λ b. if b then false else state.stale page) (eq-eqb page at e)

      by_copy : (copy : Copy) → is_readable copy ≡ true → HasPage size made (fixed page) gone time page copy (accessed shape at state)
      by_copy (valid values) r = stale_is
      by_copy (written values twin) r = stale_is
      by_copy (invalid values since) r = absurd (false≢true r)
      by_copy absent r = absurd (false≢true r)

  pub accesses_pages : (at : ℕ) → is_readable (copy_at memory at) ≡ true → HasPages size made fixed time memory (accessed shape at state)
  accesses_pages at readable = record {
    exact = accesses_exactly size nodes collect made time memory state h.exact at readable;
    dropped_is = h.dropped_is;
    pages = λ page lt.
        elim (cases_eq page at) [
          | inl here ↦
              this_page at page (copy_at memory page) here (ap (λ p. is_readable (copy_at memory p)) here ∙ readable)
          | inr other ↦ other_page at page (copy_at memory page) other (h.pages page lt)
        ];
  }

  -- ---- a page that becomes valid

  pub mends_pages : (at : ℕ) (values : List ℕ) → at < length memory.copies → changes_of (copy_at memory at) ≡ None
      → ((offset : ℕ) → offset < words_of size → slice_index values offset ≡ (state.words (word_on size at offset)).value)
      → HasPages size made fixed time (with_copy memory at (valid values)) (accessed shape at state)
  mends_pages at values within unwritten whole = record {
    exact = mends_exactly size nodes collect made time memory state h.exact at values within unwritten whole;
    dropped_is = h.dropped_is;
    pages = λ page lt.
        let long = length-set memory.copies at (valid values) in
        elim (cases_eq page at) [
          | inl here ↦
              let copy : copy_at (with_copy memory at (valid values)) page ≡ valid values =
              ap (copy_at (with_copy memory at (valid values))) here ∙ get_or-set_same memory.copies at (valid values) absent within in
              subst (λ copy. HasPage size made (fixed page) gone time page copy (accessed shape at state)) (sym copy)
              (this_page at page (valid values) here refl)
          | inr other ↦
              subst (λ copy. HasPage size made (fixed page) gone time page copy (accessed shape at state))
              (sym (get_or-set_other memory.copies at page (valid values) absent other))
              (other_page at page (copy_at memory page) other (h.pages page (subst (λ k. page < k) long lt)))
        ];
  }

  -- ---- a write

  module _ (word value : ℕ) (readable : is_readable (copy_at memory (page_of word size)) ≡ true)
      (whole : length (values_of (copy_at memory (page_of word size))) ≡ words_of size) where
    abbrev at : ℕ
    at = page_of word size

    abbrev place : ℕ
    place = offset_of word size

    abbrev put : ℕ → Bool → Word
    put w b = if b then unmarked value else state.words w

    then_memory : Memory
    then_memory = with_written_word size word value memory

    elsewhere : (page offset : ℕ) → offset < words_of size → (page ≡ at → ⊥) → (word_on size page offset == word) ≡ false
    elsewhere page offset lt ne =
        ne_eqb (word_on size page offset) word (λ e. ne (sym (page_of-word_on size page offset lt) ∙ ap (λ w. page_of w size) e))

    -- the page that is written was not stale
    written_page : (copy : Copy) → is_readable copy ≡ true → HasPage size made (fixed at) gone time at copy state
        → HasPage size made (fixed at) gone time at (after_write copy place value) (with_write shape word value state)
    written_page (valid values) r f = f
    written_page (written values twin) r f = f
    written_page (invalid values since) r f = absurd (false≢true r)
    written_page absent r f = absurd (false≢true r)

    other_written : (page : ℕ) → (page ≡ at → ⊥) → (copy : Copy) → HasPage size made (fixed page) gone time page copy state
        → HasPage size made (fixed page) gone time page copy (with_write shape word value state)
    other_written page ne (valid values) f = f
    other_written page ne (written values twin) f = f
    other_written page ne (invalid values since) f = f
    other_written page ne absent f = (
      λ offset lt.
          subst (λ b. TakesHighest (IsChangeBetween made page offset gone time) (unmarked (fixed page offset)) (put (word_on size page offset) b))
          (sym (elsewhere page offset lt ne)) (f.0 offset lt),
      f.1,
    )

    pub writes_pages : HasPages size made fixed time (with_written_word size word value memory) (with_write shape word value state)
    writes_pages = record {
      exact = writes_exactly size nodes collect made time memory state h.exact word value readable whole;
      dropped_is = h.dropped_is;
      pages = λ page lt.
          let long = length-set memory.copies at (after_write (copy_at memory at) place value) in
          let within : page < length memory.copies = subst (λ k. page < k) long lt in
          elim (cases_eq page at) [
            | inl here ↦
                subst (λ p. HasPage size made (fixed p) gone time p (copy_at (with_written_word size word value memory) p) (with_write shape word value state))
                (sym here)
                (subst (λ copy. HasPage size made (fixed at) gone time at copy (with_write shape word value state))
                (sym (get_or-set_same memory.copies at (after_write (copy_at memory at) place value) absent (readable_within memory.copies at readable)))
                (written_page (copy_at memory at) readable (h.pages at (readable_within memory.copies at readable))))
            | inr other ↦
                subst (λ copy. HasPage size made (fixed page) gone time page copy (with_write shape word value state))
                (sym (get_or-set_other memory.copies at page (after_write (copy_at memory at) place value) absent other))
                (other_written page other (copy_at memory page) (h.pages page within))
          ];
    }

  -- ---- what was dropped

  pub repairs_dropped : (page : ℕ) (base : List ℕ) → page < length memory.copies → copy_at memory page ≡ absent
      → KnowsMissing made page gone gone time memory.store → length base ≡ words_of size
      → ((offset : ℕ) → offset < words_of size → slice_index base offset ≡ fixed page offset)
      → (offset : ℕ) → offset < words_of size
      → slice_index (all_applied memory.store base (missing_of memory.store page gone)) offset ≡ (state.words (word_on size page offset)).value
  repairs_dropped page base within e k long base_is offset lt =
      let f : HasPage size made (fixed page) gone time page absent state =
      subst (λ copy. HasPage size made (fixed page) gone time page copy state) e (h.pages page within) in
      repairs_exactly made page gone gone time memory.store k base offset (state.words (word_on size page offset)) (subst (λ n. offset < n) (sym long) lt)
      (subst (λ v. TakesHighest (IsChangeBetween made page offset gone time) (unmarked v) (state.words (word_on size page offset))) (sym (base_is offset lt))
      (f.0 offset lt))
