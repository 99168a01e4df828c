-- A node that repairs the pages that it keeps goes on to have of its pages what the exact memory has.
use Rattle.std.proofs.Common.{◌≡◌, ℕ, ◌<◌, ◌&&◌, List, Bool, true, false, length, refl, sym, ap, subst, ◌∙◌}
use Rattle.std.specs.Prelude.{Option, None, is_some, not, if◌then◌else◌}
use Rattle.std.proofs.lemmas.Bool.{and_left, and_right, and_from, false≢true, true≢false}
use Rattle.lrc_page.specs.declared.size.Size.{Size}
use Rattle.lrc_page.specs.Page.{words_of}
use Rattle.lrc_store.specs.Store.{StoredRecord}
use Rattle.lrc_protocol.specs.Pages.{Copy, valid, written, invalid, absent, is_readable, changes_of, Memory, copy_at}
use Rattle.lrc_reading_laws.specs.Written.{word_on}
use Rattle.lrc_reading_laws.proofs.Written.Pages.{page_of-word_on}
use Rattle.lrc_exact.specs.Memory.{Word}
use Rattle.lrc_exact.specs.Rule.{Shape, State}
use Rattle.lrc_exact_known.specs.Learned.{TakesHighest}
use Rattle.lrc_exact_made.specs.Copies.{shape_of, unmarked, HasWord, IsChangeBetween}
use Rattle.lrc_exact_pages.specs.Pages.{HasPage, HasPages, IsNamedBetween}
use Rattle.lrc_exact_collecting.specs.Kept.{with_kept, IsRepairedTo, stays, is_made, IsKeeping}

-- what is not readable is not written, and nothing is kept from before a write
no_before : (made : List StoredRecord) (time : List ℕ) (page offset : ℕ) (copy : Copy) (word : Word) (before : Option ℕ) → is_readable copy ≡ false
    → HasWord made time page offset copy word before → before ≡ None
no_before made time page offset (valid values) word before r f = absurd (true≢false r)
no_before made time page offset (written values twin) word before r f = absurd (true≢false r)
no_before made time page offset (invalid values since) word before r f = f.1
no_before made time page offset absent word before r f = f

not_written : (copy : Copy) → is_readable copy ≡ false → is_some (changes_of copy) ≡ false
not_written (valid values) r = refl
not_written (written values twin) r = absurd (true≢false r)
not_written (invalid values since) r = refl
not_written absent r = refl

-- what may be read is not stale,
pub not_stale : (size : Size) (made : List StoredRecord) (fixed : ℕ → ℕ) (collected time : List ℕ) (page : ℕ) (copy : Copy) (state : State)
    → is_readable copy ≡ true → HasPage size made fixed collected time page copy state → state.stale page ≡ false
not_stale size made fixed collected time page (valid values) state r f = f
not_stale size made fixed collected time page (written values twin) state r f = f
not_stale size made fixed collected time page (invalid values since) state r f = absurd (false≢true r)
not_stale size made fixed collected time page absent state r f = absurd (false≢true r)

-- and what may not be, and was named since the last collection, is
is_stale : (size : Size) (made : List StoredRecord) (fixed : ℕ → ℕ) (collected time : List ℕ) (page : ℕ) (copy : Copy) (state : State)
    → is_readable copy ≡ false → IsNamedBetween made page collected time → HasPage size made fixed collected time page copy state → state.stale page ≡ true
is_stale size made fixed collected time page (valid values) state r n f = absurd (true≢false r)
is_stale size made fixed collected time page (written values twin) state r n f = absurd (true≢false r)
is_stale size made fixed collected time page (invalid values since) state r n f = f
is_stale size made fixed collected time page absent state r n f = f.1.1 n

and_true : (b : Bool) → (b && true) ≡ b
and_true true = refl
and_true false = refl

module _ (size : Size) (nodes collect : ℕ) (made : List StoredRecord) (fixed : ℕ → ℕ → ℕ) (time : List ℕ) (memory after : Memory) (state : State)
    (kept : ℕ → Bool) (h : HasPages size made fixed time memory state) (k : IsKeeping size made time memory after state kept) where
  abbrev shape : Shape
  shape = shape_of nodes size collect

  abbrev then_state : State
  then_state = with_kept shape kept state

  abbrev gone : List ℕ
  gone = memory.collected

  abbrev looked : ℕ → Bool → Word
  looked word b = if b then record (state.words word) { mark = None } else state.words word

  -- the word that the state has then, with the page that it is on
  then_word : (page offset : ℕ) → offset < words_of size
      → looked (word_on size page offset) (state.stale page && kept page) ≡ then_state.words (word_on size page offset)
  then_word page offset lt =
      ap (λ p. looked (word_on size page offset) (state.stale p && kept p)) (sym (page_of-word_on size page offset lt))

  same_word : (page offset : ℕ) → offset < words_of size → (state.stale page && kept page) ≡ false
      → state.words (word_on size page offset) ≡ then_state.words (word_on size page offset)
  same_word page offset lt none = ap (looked (word_on size page offset)) (sym none) ∙ then_word page offset lt

  looked_word : (page offset : ℕ) → offset < words_of size → (state.stale page && kept page) ≡ true
      → unmarked (state.words (word_on size page offset)).value ≡ then_state.words (word_on size page offset)
  looked_word page offset lt both = ap (looked (word_on size page offset)) (sym both) ∙ then_word page offset lt

  -- of a page whose copy stays
  none_looked : (page : ℕ) (copy : Copy) → copy_at memory page ≡ copy → (b : Bool) → kept page ≡ b → (b ≡ true → is_readable copy ≡ true)
      → (state.stale page && kept page) ≡ false
  none_looked page copy e true is readable =
      and_left (state.stale page) (kept page)
      (not_stale size made (fixed page) gone time page copy state (readable refl)
      (subst (λ copy. HasPage size made (fixed page) gone time page copy state) e (h.pages page (k.within page is))))
  none_looked page copy e false is readable = and_right (state.stale page) (kept page) is

  -- of one that is repaired
  both_there : (page : ℕ) (copy : Copy) → copy_at memory page ≡ copy → kept page ≡ true → is_readable copy ≡ false → (state.stale page && kept page) ≡ true
  both_there page copy e is away =
      and_from (state.stale page) (kept page)
      (is_stale size made (fixed page) gone time page copy state away (k.named page is)
      (subst (λ copy. HasPage size made (fixed page) gone time page copy state) e (h.pages page (k.within page is)))) is

  has_word : (page offset : ℕ) → offset < words_of size → (before copy : Copy) → copy_at memory page ≡ before
      → IsRepairedTo size state page (kept page) before copy
      → HasWord made time page offset before (state.words (word_on size page offset)) (state.before (word_on size page offset))
      → HasWord made time page offset copy (then_state.words (word_on size page offset)) (state.before (word_on size page offset))
  has_word page offset lt before _ e (stays readable) f =
      subst (λ word. HasWord made time page offset before word (state.before (word_on size page offset)))
      (same_word page offset lt (none_looked page before e (kept page) refl readable)) f
  has_word page offset lt before _ e (is_made values is away whole) f = (
    sym (looked_word page offset lt (both_there page before e is away)) ∙ ap unmarked (sym (whole offset lt)),
    no_before made time page offset before (state.words (word_on size page offset)) (state.before (word_on size page offset)) away f,
  )

  has_written : (page : ℕ) (before copy : Copy) → IsRepairedTo size state page (kept page) before copy → state.written page ≡ is_some (changes_of before)
      → state.written page ≡ is_some (changes_of copy)
  has_written page before _ (stays readable) f = f
  has_written page before _ (is_made values is away whole) f = f ∙ not_written before away

  -- a page that stays is as stale as it was
  stale_stays : (page : ℕ) (copy : Copy) → copy_at memory page ≡ copy → page < length memory.copies → (b : Bool) → kept page ≡ b
      → (b ≡ true → is_readable copy ≡ true) → then_state.stale page ≡ state.stale page
  stale_stays page copy e lt true is readable =
      let none : state.stale page ≡ false =
      not_stale size made (fixed page) gone time page copy state (readable refl)
      (subst (λ copy. HasPage size made (fixed page) gone time page copy state) e (h.pages page lt)) in
      and_left (state.stale page) (not (kept page)) none ∙ sym none
  stale_stays page copy e lt false is readable = ap (λ b. state.stale page && not b) is ∙ and_true (state.stale page)

  page_stays : (page : ℕ) (copy : Copy) → then_state.stale page ≡ state.stale page
      → ((offset : ℕ) → offset < words_of size → state.words (word_on size page offset) ≡ then_state.words (word_on size page offset))
      → HasPage size made (fixed page) gone time page copy state → HasPage size made (fixed page) gone time page copy then_state
  page_stays page (valid values) stale words f = stale ∙ f
  page_stays page (written values twin) stale words f = stale ∙ f
  page_stays page (invalid values since) stale words f = stale ∙ f
  page_stays page absent stale words f = (
    λ offset lt. subst (TakesHighest (IsChangeBetween made page offset gone time) (unmarked (fixed page offset))) (words offset lt) (f.0 offset lt),
    (λ is. f.1.0 (sym stale ∙ is), λ b. stale ∙ f.1.1 b),
  )

  has_page : (page : ℕ) → page < length memory.copies → (before copy : Copy) → copy_at memory page ≡ before
      → IsRepairedTo size state page (kept page) before copy → HasPage size made (fixed page) gone time page before state
      → HasPage size made (fixed page) gone time page copy then_state
  has_page page within before _ e (stays readable) f =
      page_stays page before (stale_stays page before e within (kept page) refl readable)
      (λ offset lt. same_word page offset lt (none_looked page before e (kept page) refl readable)) f
  has_page page within before _ e (is_made values is away whole) f =
      and_right (state.stale page) (not (kept page)) (ap not is)

  pub keeps_pages : HasPages size made fixed time after (with_kept (shape_of nodes size collect) kept state)
  keeps_pages = record {
    exact = record {
      time_is = h.exact.time_is;
      copies = λ page offset lt.
          has_word page offset lt (copy_at memory page) (copy_at after page) refl (k.repaired page) (h.exact.copies page offset lt);
      written = λ page. has_written page (copy_at memory page) (copy_at after page) (k.repaired page) (h.exact.written page);
      knows = h.exact.knows;
    };
    dropped_is = h.dropped_is ∙ sym k.collected;
    pages = λ page lt.
        let within : page < length memory.copies = subst (λ n. page < n) k.long lt in
        subst (λ gone. HasPage size made (fixed page) gone time page (copy_at after page) then_state) (sym k.collected)
        (has_page page within (copy_at memory page) (copy_at after page) refl (k.repaired page) (h.pages page within));
  }
