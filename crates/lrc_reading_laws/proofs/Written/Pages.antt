-- What a list of writes makes of one page, word by word.
use Rattle.std.proofs.Common.{◌≡◌, ℕ, ◌<◌, List, [], ◌∷◌, Bool, true, false, cond, length, refl, sym, ap, subst, ◌∙◌, inl, inr, arith}
use Rattle.std.specs.Prelude.{Option, Some, None, unwrap_or, ◌==◌, fold, slice_index, slice_set, if◌then◌else◌}
use Rattle.std.proofs.lemmas.Bool.{cases_eq, eq-eqb, ne_eqb}
use Rattle.std.proofs.lemmas.List.{length-set, get_or-set_same, get_or-set_other}
use Rattle.lrc_page.specs.declared.size.Size.{Size}
use Rattle.lrc_page.specs.declared.size.Size.TheVariants.{Words64, Words256}
use Rattle.lrc_page.specs.Page.{words_of}
use Rattle.lrc_page.specs.Place.{page_of, offset_of}
use Rattle.lrc_page.proofs.PageLists.{same_place}
use Rattle.lrc_node_laws.specs.Opened.{on_page, put}
use Rattle.lrc_reading_laws.specs.Written.{newer, word_on}
use Rattle.lrc_reading_laws.proofs.Written.Deeds.{last_of}

-- the word at an offset of a page is on that page, at that offset
pub page_of-word_on : (size : Size) (page offset : ℕ) → offset < words_of size → page_of (word_on size page offset) size ≡ page
page_of-word_on Words64 page offset lt = omega (arith, lt)
page_of-word_on Words256 page offset lt = omega (arith, lt)

pub offset_of-word_on : (size : Size) (page offset : ℕ) → offset < words_of size → offset_of (word_on size page offset) size ≡ offset
offset_of-word_on Words64 page offset lt = omega (arith, lt)
offset_of-word_on Words256 page offset lt = omega (arith, lt)

-- and a word stands at its offset of its page
pub word_on-page_of : (size : Size) (word : ℕ) → word_on size (page_of word size) (offset_of word size) ≡ word
word_on-page_of Words64 word = omega arith
word_on-page_of Words256 word = omega arith

module _ (size : Size) (page offset word : ℕ) (on : page_of word size ≡ page) (there : offset_of word size ≡ offset) where
  -- a write on the page puts its value where its word is
  put_here : (write : ℕ × ℕ) (values : List ℕ) (found : Option ℕ) (base : ℕ) → page_of write.0 size ≡ page → offset < length values
      → slice_index values offset ≡ unwrap_or found base
      → slice_index (put size values write) offset ≡ unwrap_or (newer found (if write.0 == word then Some write.1 else None)) base
  put_here write values found base same lt h = elim (cases_eq (offset_of write.0 size) offset) [
    | inl at ↦
        let is : write.0 ≡ word = same_place write.0 word size (same ∙ sym on) (at ∙ sym there) in
        ap (λ i. slice_index (slice_set values i write.1) offset) at
        ∙ get_or-set_same values offset write.1 0 lt
        ∙ sym (ap (λ b. unwrap_or (newer found (if b then Some write.1 else None)) base) (eq-eqb write.0 word is))
    | inr other ↦
        get_or-set_other values (offset_of write.0 size) offset write.1 0 (λ e. other (sym e))
        ∙ h
        ∙ sym (ap (λ b. unwrap_or (newer found (if b then Some write.1 else None)) base)
        (ne_eqb write.0 word (λ e. other (ap (λ w. offset_of w size) e ∙ there))))
  ]

  -- a write on another page is of another word
  elsewhere : (write : ℕ × ℕ) (found : Option ℕ) → (page_of write.0 size ≡ page → ⊥)
      → newer found (if write.0 == word then Some write.1 else None) ≡ found
  elsewhere write found other =
      ap (λ b. newer found (if b then Some write.1 else None)) (ne_eqb write.0 word (λ e. other (ap (λ w. page_of w size) e ∙ on)))

  -- the values after these writes have the last of the word, or else what was there
  made_from : (writes : List (ℕ × ℕ)) (values : List ℕ) (found : Option ℕ) (base : ℕ) → offset < length values
      → slice_index values offset ≡ unwrap_or found base
      → slice_index (fold (put size) values (on_page size page writes)) offset ≡ unwrap_or (last_of word found writes) base
  made_from [] values found base lt h = h
  made_from (write ∷ writes) values found base lt h =
      let rest : List (ℕ × ℕ) = on_page size page writes in
      elim (cases_eq (page_of write.0 size) page) [
        | inl same ↦
            ap (λ b. slice_index (fold (put size) values (cond b (write ∷ rest) rest)) offset) (eq-eqb (page_of write.0 size) page same)
            ∙ made_from writes (put size values write) (newer found (if write.0 == word then Some write.1 else None)) base
            (subst (λ n. offset < n) (sym (length-set values (offset_of write.0 size) write.1)) lt)
            (put_here write values found base same lt h)
        | inr other ↦
            ap (λ b. slice_index (fold (put size) values (cond b (write ∷ rest) rest)) offset) (ne_eqb (page_of write.0 size) page other)
            ∙ made_from writes values found base lt h
            ∙ sym (ap (λ o. unwrap_or (last_of word o writes) base) (elsewhere write found other))
      ]

  pub made_at : (writes : List (ℕ × ℕ)) (twin : List ℕ) → offset < length twin
      → slice_index (fold (put size) twin (on_page size page writes)) offset ≡ unwrap_or (last_of word None writes) (slice_index twin offset)
  made_at writes twin lt = made_from writes twin None (slice_index twin offset) lt refl

  -- where none is on the page, none is of the word
  pub none_at : (writes : List (ℕ × ℕ)) → on_page size page writes ≡ [] → last_of word None writes ≡ None
  none_at [] e = refl
  none_at (write ∷ writes) e =
      let rest : List (ℕ × ℕ) = on_page size page writes in
      elim (cases_eq (page_of write.0 size) page) [
        | inl same ↦ absurd (no_cons (sym (ap (λ b. cond b (write ∷ rest) rest) (eq-eqb (page_of write.0 size) page same)) ∙ e))
        | inr other ↦
            ap (λ o. last_of word o writes) (elsewhere write None other)
            ∙ none_at writes (sym (ap (λ b. cond b (write ∷ rest) rest) (ne_eqb (page_of write.0 size) page other)) ∙ e)
      ]
    where
      no_cons : {x : ℕ × ℕ} {xs : List (ℕ × ℕ)} → x ∷ xs ≡ [] → ⊥
      no_cons e = cc

-- ---- a word that is written

-- a word of the page, to which one of these writes is
pub record FoundOn (size : Size) (page : ℕ) (writes : List (ℕ × ℕ)) : Type 0 where
  pub word : ℕ
  pub on : page_of word size ≡ page
  pub last : (found : Option ℕ) → (value : ℕ) × (last_of word found writes ≡ Some value)

-- what is found stays found
last_kept : (word : ℕ) (writes : List (ℕ × ℕ)) (before : ℕ) → (value : ℕ) × (last_of word (Some before) writes ≡ Some value)
last_kept word [] before = (before, refl)
last_kept word (write ∷ writes) before = kept_by (write.0 == word) (last_kept word writes write.1) (last_kept word writes before)
  where
    kept_by : (b : Bool) → (value : ℕ) × (last_of word (Some write.1) writes ≡ Some value)
        → (value : ℕ) × (last_of word (Some before) writes ≡ Some value)
        → (value : ℕ) × (last_of word (newer (Some before) (if b then Some write.1 else None)) writes ≡ Some value)
    kept_by true here later = here
    kept_by false here later = later

-- the write itself is found
found_here : (write : ℕ × ℕ) (writes : List (ℕ × ℕ)) (found : Option ℕ) → (value : ℕ) × (last_of write.0 found (write ∷ writes) ≡ Some value)
found_here write writes found =
    let kept : (value : ℕ) × (last_of write.0 (Some write.1) writes ≡ Some value) = last_kept write.0 writes write.1 in (
      kept.0,
      ap (λ b. last_of write.0 (newer found (if b then Some write.1 else None)) writes) (eq-eqb write.0 write.0 refl) ∙ kept.1,
    )

-- where some write is on the page, some word of it is written
pub found_on : (size : Size) (page : ℕ) (writes : List (ℕ × ℕ)) → (on_page size page writes ≡ [] → ⊥) → FoundOn size page writes
found_on size page [] some = absurd (some refl)
found_on size page (write ∷ writes) some =
    let rest : List (ℕ × ℕ) = on_page size page writes in
    elim (cases_eq (page_of write.0 size) page) [
      | inl same ↦ record { word = write.0; on = same; last = found_here write writes }
      | inr other ↦
          let found : FoundOn size page writes =
          found_on size page writes (λ e. some (ap (λ b. cond b (write ∷ rest) rest) (ne_eqb (page_of write.0 size) page other) ∙ e)) in
          record {
            word = found.word;
            on = found.on;
            last = λ before. found.last (newer before (if write.0 == found.word then Some write.1 else None));
          }
    ]
