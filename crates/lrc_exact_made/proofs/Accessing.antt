-- Accesses: a node reads what the exact memory has, and a write leaves both alike.
use Rattle.std.proofs.Common.{◌≡◌, ℕ, ◌<◌, ◌||◌, List, Bool, true, false, length, inl, inr, refl, sym, ap, subst, ◌∙◌}
use Rattle.std.specs.Prelude.{Option, Some, None, is_some, unwrap_or, ◌==◌, slice_index, slice_index_or, slice_set, if◌then◌else◌}
use Rattle.std.proofs.lemmas.Bool.{cases_eq, cases_lt, eq-eqb, eqb-true, ne_eqb, false≢true}
use Rattle.std.proofs.lemmas.List.{get_or_past, get_or-set_same, get_or-set_other}
use Rattle.lrc_page.specs.declared.size.Size.{Size}
use Rattle.lrc_page.specs.Page.{words_of}
use Rattle.lrc_page.specs.Place.{page_of, offset_of}
use Rattle.lrc_page.proofs.PageLists.{offset_of-within}
use Rattle.lrc_store.specs.Store.{StoredRecord}
use Rattle.lrc_protocol.specs.Pages.{Copy, valid, written, invalid, absent, is_readable, values_of, changes_of, after_write, Memory, copy_at}
use Rattle.lrc_protocol.specs.Pages.{with_copy, value_at, with_written_word}
use Rattle.lrc_reading_laws.specs.Written.{word_on}
use Rattle.lrc_reading_laws.proofs.Written.Pages.{page_of-word_on, offset_of-word_on, word_on-page_of}
use Rattle.lrc_exact.specs.Memory.{Word}
use Rattle.lrc_exact.specs.Rule.{Shape, State, accessed, with_write}
use Rattle.lrc_exact_made.specs.Copies.{shape_of, unmarked, HasWord, HasExact}

-- a readable copy is of a page that is there
pub readable_within : (copies : List Copy) (page : ℕ) → is_readable (slice_index_or copies page absent) ≡ true → page < length copies
readable_within copies page readable =
    elim (cases_lt page (length copies)) [
      | inl within ↦ within
      | inr most ↦ absurd (false≢true (sym (ap is_readable (get_or_past copies page absent most)) ∙ readable))
    ]

-- the value of a word on a page with this copy is that of the readable copy
readable_value : (made : List StoredRecord) (time : List ℕ) (page offset : ℕ) (copy : Copy) (word : Word) (before : Option ℕ) → is_readable copy ≡ true
    → HasWord made time page offset copy word before → word ≡ unmarked (slice_index (values_of copy) offset)
readable_value made time page offset (valid values) word before r f = f.0
readable_value made time page offset (written values twin) word before r f = f.0
readable_value made time page offset (invalid values since) word before r f = absurd (false≢true r)
readable_value made time page offset absent word before r f = absurd (false≢true r)

module _ (size : Size) (nodes collect : ℕ) (made : List StoredRecord) (time : List ℕ) (memory : Memory) (state : State)
    (h : HasExact size made time memory state) where
  abbrev shape : Shape
  shape = shape_of nodes size collect

  -- a word on a page that may be read has the value in the copy
  pub reads_exactly : (word : ℕ) → is_readable (copy_at memory (page_of word size)) ≡ true → value_at size memory word ≡ (state.words word).value
  reads_exactly word readable =
      let page = page_of word size in
      let offset = offset_of word size in
      let there : word_on size page offset ≡ word = word_on-page_of size word in
      let same : state.words (word_on size page offset) ≡ unmarked (slice_index (values_of (copy_at memory page)) offset) =
      readable_value made time page offset (copy_at memory page) (state.words (word_on size page offset)) (state.before (word_on size page offset)) readable
      (h.copies page offset (offset_of-within word size)) in
      sym (ap (λ (w : Word). w.value) same) ∙ ap (λ w. (state.words w).value) there

  -- ---- a look at a page

  abbrev looked : ℕ → Bool → Word
  looked word b = if b then record (state.words word) { mark = None } else state.words word

  on_page : (page at offset : ℕ) → offset < words_of size → page ≡ at → (page_of (word_on size page offset) size == at) ≡ true
  on_page page at offset lt e = eq-eqb (page_of (word_on size page offset) size) at (page_of-word_on size page offset lt ∙ e)

  off_page : (page at offset : ℕ) → offset < words_of size → (page ≡ at → ⊥) → (page_of (word_on size page offset) size == at) ≡ false
  off_page page at offset lt ne =
      ne_eqb (page_of (word_on size page offset) size) at (λ e. ne (sym (page_of-word_on size page offset lt) ∙ e))

  -- a page that may be read has no marks
  pub accesses_exactly : (at : ℕ) → is_readable (copy_at memory at) ≡ true → HasExact size made time memory (accessed shape at state)
  accesses_exactly at readable = record {
    time_is = h.time_is;
    copies = λ page offset lt.
        let word = word_on size page offset in
        elim (cases_eq page at) [
          | inl here ↦
              let same : state.words word ≡ unmarked (slice_index (values_of (copy_at memory page)) offset) =
              readable_value made time page offset (copy_at memory page) (state.words word) (state.before word)
              (subst (λ p. is_readable (copy_at memory p) ≡ true) (sym here) readable) (h.copies page offset lt) in
              subst (λ b. HasWord made time page offset (copy_at memory page) (looked word b) (state.before word)) (sym (on_page page at offset lt here))
              (subst (λ (w : Word). HasWord made time page offset (copy_at memory page) w (state.before word))
              (same ∙ sym (ap (λ (w : Word). record w { mark = None }) same)) (h.copies page offset lt))
          | inr other ↦
              subst (λ b. HasWord made time page offset (copy_at memory page) (looked word b) (state.before word)) (sym (off_page page at offset lt other))
              (h.copies page offset lt)
        ];
    written = h.written;
    knows = h.knows;
  }

  -- a page that is made valid with the values that the exact memory has
  module _ (at : ℕ) (values : List ℕ) (within : at < length memory.copies) (unwritten : changes_of (copy_at memory at) ≡ None)
      (whole : (offset : ℕ) → offset < words_of size → slice_index values offset ≡ (state.words (word_on size at offset)).value) where
    before_none : (made : List StoredRecord) (time : List ℕ) (page offset : ℕ) (copy : Copy) (word : Word) (before : Option ℕ) → changes_of copy ≡ None
        → HasWord made time page offset copy word before → before ≡ None
    before_none made time page offset (valid values) word before none f = f.1
    before_none made time page offset (written values twin) word before none f = absurd (no_none none)
      where
        no_none : {X : Type 0} {x : X} → Some x ≡ None → ⊥
        no_none e = cc
    before_none made time page offset (invalid values since) word before none f = f.1
    before_none made time page offset absent word before none f = f

    mended_same : copy_at (with_copy memory at (valid values)) at ≡ valid values
    mended_same = get_or-set_same memory.copies at (valid values) absent within

    mended_other : (page : ℕ) → (page ≡ at → ⊥) → copy_at (with_copy memory at (valid values)) page ≡ copy_at memory page
    mended_other page ne = get_or-set_other memory.copies at page (valid values) absent ne

    pub mends_exactly : HasExact size made time (with_copy memory at (valid values)) (accessed shape at state)
    mends_exactly = record {
      time_is = h.time_is;
      copies = λ page offset lt.
          let word = word_on size page offset in
          elim (cases_eq page at) [
            | inl here ↦
                let now : slice_index values offset ≡ (state.words word).value =
                whole offset lt ∙ ap (λ p. (state.words (word_on size p offset)).value) (sym here) in
                let copy : copy_at (with_copy memory at (valid values)) page ≡ valid values =
                ap (copy_at (with_copy memory at (valid values))) here ∙ mended_same in
                subst (λ b. HasWord made time page offset (copy_at (with_copy memory at (valid values)) page) (looked word b) (state.before word))
                (sym (on_page page at offset lt here))
                (subst
                (λ copy. HasWord made time page offset copy (record (state.words word) { mark = None }) (state.before word)) (sym copy) (
                  ap unmarked (sym now),
                  before_none made time page offset (copy_at memory page) (state.words word) (state.before word)
                      (ap (λ p. changes_of (copy_at memory p)) here ∙ unwritten) (h.copies page offset lt),
                ))
            | inr other ↦
                subst (λ b. HasWord made time page offset (copy_at (with_copy memory at (valid values)) page) (looked word b) (state.before word))
                (sym (off_page page at offset lt other))
                (subst (λ copy. HasWord made time page offset copy (state.words word) (state.before word)) (sym (mended_other page other))
                (h.copies page offset lt))
          ];
      written = λ page.
          elim (cases_eq page at) [
            | inl here ↦
                h.written page
                ∙ ap (λ p. is_some (changes_of (copy_at memory p))) here
                ∙ ap is_some unwritten
                ∙ sym (ap (λ copy. is_some (changes_of copy)) (ap (copy_at (with_copy memory at (valid values))) here ∙ mended_same))
            | inr other ↦ h.written page ∙ sym (ap (λ copy. is_some (changes_of copy)) (mended_other page other))
          ];
      knows = h.knows;
    }

  -- ---- a write

  module _ (word value : ℕ) (readable : is_readable (copy_at memory (page_of word size)) ≡ true)
      (whole : length (values_of (copy_at memory (page_of word size))) ≡ words_of size) where
    abbrev at : ℕ
    at = page_of word size

    abbrev place : ℕ
    place = offset_of word size

    abbrev put : ℕ → Bool → Word
    put w b = if b then unmarked value else state.words w

    abbrev kept : ℕ → Bool → Option ℕ
    kept w b = if b then Some (unwrap_or (state.before w) (state.words w).value) else state.before w

    -- on the page
    put_here : (offset : ℕ) → offset < words_of size → (copy : Copy) → is_readable copy ≡ true → length (values_of copy) ≡ words_of size → (w : ℕ)
        → HasWord made time at offset copy (state.words w) (state.before w) → (b : Bool) → (place == offset) ≡ b
        → HasWord made time at offset (after_write copy place value) (put w b) (kept w b)
    put_here offset lt (valid values) r long w f true e =
        let same : place ≡ offset = eqb-true place offset e in (
          ap unmarked (sym (ap (λ k. slice_index (slice_set values k value) offset) same
              ∙ get_or-set_same values offset value 0 (subst (λ n. offset < n) (sym long) lt))),
          sym (ap (λ o. unwrap_or o (state.words w).value) f.1 ∙ ap (λ (x : Word). x.value) f.0),
        )
    put_here offset lt (valid values) r long w f false e =
        let other : slice_index (slice_set values place value) offset ≡ slice_index values offset =
        get_or-set_other values place offset value 0 (λ same. false≢true (sym e ∙ eq-eqb place offset (sym same))) in (
          f.0 ∙ ap unmarked (sym other),
          sym other ∙ sym (ap (λ o. unwrap_or o (slice_index (slice_set values place value) offset)) f.1),
        )
    put_here offset lt (written values twin) r long w f true e =
        let same : place ≡ offset = eqb-true place offset e in (
          ap unmarked (sym (ap (λ k. slice_index (slice_set values k value) offset) same
              ∙ get_or-set_same values offset value 0 (subst (λ n. offset < n) (sym long) lt))),
          f.1 ∙ ap (λ v. unwrap_or (state.before w) v) (sym (ap (λ (x : Word). x.value) f.0)),
        )
    put_here offset lt (written values twin) r long w f false e =
        let other : slice_index (slice_set values place value) offset ≡ slice_index values offset =
        get_or-set_other values place offset value 0 (λ same. false≢true (sym e ∙ eq-eqb place offset (sym same))) in (
          f.0 ∙ ap unmarked (sym other),
          f.1 ∙ ap (λ v. unwrap_or (state.before w) v) (sym other),
        )
    put_here offset lt (invalid values since) r long w f b e = absurd (false≢true r)
    put_here offset lt absent r long w f b e = absurd (false≢true r)

    then_memory : Memory
    then_memory = with_written_word size word value memory

    written_same : copy_at then_memory at ≡ after_write (copy_at memory at) place value
    unfolding then_memory
    written_same =
        get_or-set_same memory.copies at (after_write (copy_at memory at) place value) absent (readable_within memory.copies at readable)

    written_other : (page : ℕ) → (page ≡ at → ⊥) → copy_at then_memory page ≡ copy_at memory page
    unfolding then_memory
    written_other page ne = get_or-set_other memory.copies at page (after_write (copy_at memory at) place value) absent ne

    -- the word that is written stands at its place
    is_word : (offset : ℕ) → offset < words_of size → (word_on size at offset == word) ≡ (place == offset)
    is_word offset lt =
        elim (cases_eq place offset) [
          | inl same ↦
              eq-eqb (word_on size at offset) word (ap (word_on size at) (sym same) ∙ word_on-page_of size word) ∙ sym (eq-eqb place offset same)
          | inr other ↦
              ne_eqb (word_on size at offset) word (λ e. other (sym (ap (λ w. offset_of w size) e) ∙ offset_of-word_on size at offset lt))
              ∙ sym (ne_eqb place offset other)
        ]

    elsewhere : (page offset : ℕ) → offset < words_of size → (page ≡ at → ⊥) → (word_on size page offset == word) ≡ false
    elsewhere page offset lt ne =
        ne_eqb (word_on size page offset) word (λ e. ne (sym (page_of-word_on size page offset lt) ∙ ap (λ w. page_of w size) e))

    is_written : (copy : Copy) → is_readable copy ≡ true → true ≡ is_some (changes_of (after_write copy place value))
    is_written (valid values) r = refl
    is_written (written values twin) r = refl
    is_written (invalid values since) r = absurd (false≢true r)
    is_written absent r = absurd (false≢true r)

    abbrev noted : ℕ → Bool → Bool
    noted page b = b || state.written page

    pub writes_exactly : HasExact size made time (with_written_word size word value memory) (with_write shape word value state)
    unfolding then_memory
    writes_exactly = record {
      time_is = h.time_is;
      copies = λ page offset lt.
          let w = word_on size page offset in
          elim (cases_eq page at) [
            | inl here ↦
                subst
                (λ p. HasWord made time p offset (copy_at then_memory p) (put (word_on size p offset) (word_on size p offset == word))
                (kept (word_on size p offset) (word_on size p offset == word)))
                (sym here)
                (subst (λ copy. HasWord made time at offset copy (put (word_on size at offset) (word_on size at offset == word))
                (kept (word_on size at offset) (word_on size at offset == word))) (sym written_same)
                (subst (λ b. HasWord made time at offset (after_write (copy_at memory at) place value) (put (word_on size at offset) b)
                (kept (word_on size at offset) b)) (sym (is_word offset lt))
                (put_here offset lt (copy_at memory at) readable whole (word_on size at offset) (h.copies at offset lt) (place == offset) refl)))
            | inr other ↦
                subst (λ copy. HasWord made time page offset copy (put w (w == word)) (kept w (w == word))) (sym (written_other page other))
                (subst (λ b. HasWord made time page offset (copy_at memory page) (put w b) (kept w b)) (sym (elsewhere page offset lt other))
                (h.copies page offset lt))
          ];
      written = λ page.
          elim (cases_eq page at) [
            | inl here ↦
                ap (noted page) (eq-eqb page at here)
                ∙ is_written (copy_at memory at) readable
                ∙ sym (ap (λ copy. is_some (changes_of copy)) (ap (copy_at then_memory) here ∙ written_same))
            | inr other ↦
                ap (noted page) (ne_eqb page at other)
                ∙ h.written page
                ∙ sym (ap (λ copy. is_some (changes_of copy)) (written_other page other))
          ];
      knows = h.knows;
    }
