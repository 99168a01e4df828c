-- A node that drops what was collected goes on to have of its pages what the exact memory has once it has departed.
use Rattle.std.proofs.Common.{◌≡◌, ℕ, ◌<◌, ◌&&◌, List, Bool, true, false, length, inl, inr, refl, sym, ap, subst, ◌∙◌, arith}
use Rattle.std.specs.Prelude.{Option, None, is_some, not, if◌then◌else◌}
use Rattle.std.proofs.lemmas.Bool.{cases_Bool, and_parts, and_left, false≢true, true≢false}
use Rattle.std.proofs.lemmas.List.{length-map}
use Rattle.lrc_time.specs.Time.{entry}
use Rattle.lrc_page.specs.declared.size.Size.{Size}
use Rattle.lrc_page.specs.Page.{words_of}
use Rattle.lrc_store.specs.Store.{StoredRecord, intervals_of}
use Rattle.lrc_protocol.specs.Times.{is_named}
use Rattle.lrc_protocol.specs.Pages.{Copy, valid, written, invalid, absent, is_readable, changes_of, dropped, Memory, copy_at}
use Rattle.lrc_protocol.specs.Barriers.{after_collection}
use Rattle.lrc_node_laws.proofs.OwnCopies.{map-copy}
use Rattle.lrc_reading_laws.specs.Written.{word_on}
use Rattle.lrc_reading_laws.proofs.Written.Pages.{page_of-word_on}
use Rattle.lrc_exact.specs.Memory.{Rank, Word}
use Rattle.lrc_exact.specs.Rule.{Shape, Knowledge, State, with_learned, keeper_of, kept_value, collected}
use Rattle.lrc_exact_known.specs.Learned.{TakesHighest, unchanged, taken}
use Rattle.lrc_exact_made.specs.Copies.{shape_of, unmarked, HasWord, IsChangeBetween}
use Rattle.lrc_exact_made.proofs.Accessing.{readable_within}
use Rattle.lrc_exact_pages.specs.Pages.{HasPage, HasPages, IsNamedBetween}
use Rattle.lrc_exact_collecting.specs.Left.{left_after}
use Rattle.lrc_exact_collecting.specs.Kept.{with_kept, IsDiscarding}
use Rattle.lrc_exact_collecting.proofs.Keeping.{not_stale}
use Rattle.lrc_exact_collecting.proofs.Leaving.{change_names, keeper_there, nobody_there, stored_named, named_stored, left_kept, left_still}

-- a word that no change takes is as it was
word_stays : (Changes : Rank → ℕ → Type 0) (now after : Word) → ((rank : Rank) (value : ℕ) → Changes rank value → ⊥) → TakesHighest Changes now after
    → after ≡ now
word_stays Changes now after none (unchanged is least) = is
word_stays Changes now after none (taken rank value change above is least) = absurd (none rank value change)

changes_dropped : (copy : Copy) → is_some (changes_of copy) ≡ is_some (changes_of (dropped copy))
changes_dropped (valid values) = refl
changes_dropped (written values twin) = refl
changes_dropped (invalid values since) = refl
changes_dropped absent = refl

module _ (size : Size) (nodes collect : ℕ) (made : List StoredRecord) (left : ℕ → ℕ) (me : ℕ) (time : List ℕ) (memory : Memory) (state : State)
    (all : Knowledge) (arrived : ℕ → Option State) (kept : ℕ → Bool)
    (h : HasPages size made (λ page offset. left (word_on size page offset)) time memory
    (with_kept (shape_of nodes size collect) kept (with_learned nodes all state)))
    (d : IsDiscarding size nodes made me time memory state all arrived kept) where
  abbrev shape : Shape
  shape = shape_of nodes size collect

  -- what the node knows, with its pages repaired, and once it has departed
  abbrev learned : State
  learned = with_learned nodes all state

  abbrev mended : State
  mended = with_kept shape kept learned

  abbrev then_state : State
  then_state = collected shape all arrived learned

  abbrev gone : List ℕ
  gone = memory.collected

  abbrev left_then : ℕ → ℕ
  left_then word = left_after shape state.dropped all arrived left word

  -- ---- words

  abbrev keeper_word : ℕ → ℕ → Word
  keeper_word page word = unmarked (kept_value nodes all (arrived (keeper_of nodes state.dropped all page)) word)

  abbrev looked : ℕ → Bool → Word
  looked word b = if b then record (learned.words word) { mark = None } else learned.words word

  abbrev departing : ℕ → ℕ → Bool → Word
  departing page word b = if b then keeper_word page word else learned.words word

  had_word : (page offset : ℕ) → offset < words_of size
      → looked (word_on size page offset) (learned.stale page && kept page) ≡ mended.words (word_on size page offset)
  had_word page offset lt =
      ap (λ p. looked (word_on size page offset) (learned.stale p && kept p)) (sym (page_of-word_on size page offset lt))

  then_word : (page offset : ℕ) → offset < words_of size
      → departing page (word_on size page offset) (learned.stale page) ≡ then_state.words (word_on size page offset)
  then_word page offset lt =
      ap (λ p. departing p (word_on size page offset) (learned.stale p)) (sym (page_of-word_on size page offset lt))

  -- the node's own copy of a page that it keeps is the keeper's
  own_word : (page word : ℕ) → kept page ≡ true → keeper_word page word ≡ unmarked (learned.words word).value
  own_word page word is =
      ap (λ k. unmarked (kept_value nodes all (arrived k) word)) (d.own page is)
      ∙ ap (λ o. unmarked (kept_value nodes all o word)) d.here

  both_are : (x y a b : Bool) → x ≡ a → y ≡ b → (x && y) ≡ (a && b)
  both_are x y a b e f = ap (λ x. x && y) e ∙ ap (λ y. a && y) f

  -- a word on a page that may be read
  word_same : (page offset : ℕ) → offset < words_of size → mended.stale page ≡ false
      → mended.words (word_on size page offset) ≡ then_state.words (word_on size page offset)
  word_same page offset lt fresh = by_tests (learned.stale page) (kept page) refl refl fresh
    where
      word : ℕ
      word = word_on size page offset

      by_tests : (stale is : Bool) → learned.stale page ≡ stale → kept page ≡ is → (stale && not is) ≡ false → mended.words word ≡ then_state.words word
      by_tests true true e f none =
          sym (had_word page offset lt)
          ∙ ap (looked word) (both_are (learned.stale page) (kept page) true true e f)
          ∙ sym (own_word page word f)
          ∙ ap (departing page word) (sym e)
          ∙ then_word page offset lt
      by_tests true false e f none = absurd (true≢false none)
      by_tests false is e f none =
          sym (had_word page offset lt)
          ∙ ap (looked word) (both_are (learned.stale page) (kept page) false is e f)
          ∙ ap (departing page word) (sym e)
          ∙ then_word page offset lt

  -- a word on a page that is stale is the keeper's
  word_left : (page offset : ℕ) → offset < words_of size → learned.stale page ≡ true → is_named (intervals_of memory.store) page ≡ true
      → then_state.words (word_on size page offset) ≡ unmarked (left_then (word_on size page offset))
  word_left page offset lt stale named =
      sym (then_word page offset lt)
      ∙ ap (departing page (word_on size page offset)) stale
      ∙ ap unmarked (sym (left_kept size nodes collect left all arrived state.dropped page offset lt
      (subst (λ gone. keeper_of nodes gone all page < nodes) (sym h.dropped_is)
      (keeper_there size nodes made gone all memory page d.stores named))))

  -- and on one that is not, and was dropped before, it is what was left then
  word_still : (page offset : ℕ) → offset < words_of size → learned.stale page ≡ false → is_named (intervals_of memory.store) page ≡ false
      → mended.words (word_on size page offset) ≡ unmarked (left (word_on size page offset))
      → then_state.words (word_on size page offset) ≡ unmarked (left_then (word_on size page offset))
  word_still page offset lt fresh none was =
      sym (then_word page offset lt)
      ∙ ap (departing page (word_on size page offset)) fresh
      ∙ ap (looked (word_on size page offset)) (sym (and_left (learned.stale page) (kept page) fresh))
      ∙ had_word page offset lt
      ∙ was
      ∙ ap unmarked (sym (left_still size nodes collect left all arrived state.dropped page offset lt
      (subst (λ gone. keeper_of nodes gone all page ≡ nodes) (sym h.dropped_is)
      (nobody_there size nodes made gone all memory page d.stores none))))

  -- ---- pages

  -- nothing came since
  nothing_since : (page : ℕ) → IsNamedBetween made page all.time time → ⊥
  nothing_since page b =
      let later = b.later in
      let known = b.known in
      let same : entry all.time b.interval.node ≡ entry time b.interval.node = ap (λ t. entry t b.interval.node) d.time_is in
      omega arith

  is_left : (page offset : ℕ) (word : Word) → word ≡ unmarked (left_then (word_on size page offset))
      → TakesHighest (IsChangeBetween made page offset all.time time) (unmarked (left_then (word_on size page offset))) word
  is_left page offset word is =
      unchanged is (λ rank value b. absurd (nothing_since page (change_names made page offset all.time time rank value b)))

  stale_parts : (page : ℕ) → mended.stale page ≡ true → learned.stale page ≡ true
  stale_parts page e = (and_parts (learned.stale page) (not (kept page)) e).0

  not_kept : (page : ℕ) (copy : Copy) → copy_at memory page ≡ copy → is_readable copy ≡ false → kept page ≡ false
  not_kept page copy e away = elim (cases_Bool (kept page)) [
    | inl is ↦ absurd (false≢true (sym away ∙ ap is_readable (sym e) ∙ d.readable page is))
    | inr not ↦ not
  ]

  -- the interval names it among those that are stored
  stored_since : (page : ℕ) → IsNamedBetween made page gone time → is_named (intervals_of memory.store) page ≡ true
  stored_since page b =
      stored_named size nodes made gone all memory page d.stores (subst (IsNamedBetween made page gone) (sym d.time_is) b)

  since_stored : (page : ℕ) → is_named (intervals_of memory.store) page ≡ true → IsNamedBetween made page gone time
  since_stored page named = subst (IsNamedBetween made page gone) d.time_is (named_stored size nodes made gone all memory page d.stores named)

  abbrev Absent_then : ℕ → Type 0
  Absent_then page = HasPage size made (λ offset. left_then (word_on size page offset)) all.time time page absent then_state

  was_dropped : (page : ℕ)
      → ((offset : ℕ) → offset < words_of size → then_state.words (word_on size page offset) ≡ unmarked (left_then (word_on size page offset)))
      → Absent_then page
  was_dropped page words = (
    λ offset lt. is_left page offset (then_state.words (word_on size page offset)) (words offset lt),
    (λ e. absurd (false≢true e), λ b. absurd (nothing_since page b)),
  )

  has_page : (page : ℕ) (copy : Copy) → copy_at memory page ≡ copy
      → HasPage size made (λ offset. left (word_on size page offset)) gone time page copy mended
      → HasPage size made (λ offset. left_then (word_on size page offset)) all.time time page (dropped copy) then_state
  has_page page (valid values) e f = refl
  has_page page (written values twin) e f = refl
  has_page page (invalid values since) e f =
      was_dropped page (λ offset lt. word_left page offset lt (stale_parts page f) (d.named page values since e))
  has_page page absent e f = elim (cases_Bool (is_named (intervals_of memory.store) page)) [
    | inl named ↦
        was_dropped page (λ offset lt. word_left page offset lt (stale_parts page (f.1.1 (since_stored page named))) named)
    | inr none ↦ was_dropped page (λ offset lt. word_still page offset lt (fresh none) none (still none offset lt))
  ]
    where
      never : is_named (intervals_of memory.store) page ≡ false → IsNamedBetween made page gone time → ⊥
      never none b = false≢true (sym none ∙ stored_since page b)

      fresh : is_named (intervals_of memory.store) page ≡ false → learned.stale page ≡ false
      fresh none = elim (cases_Bool (learned.stale page)) [
        | inl stale ↦
            absurd (never none (f.1.0 (both_are (learned.stale page) (not (kept page)) true true stale (ap not (not_kept page absent e refl)))))
        | inr not ↦ not
      ]

      still : is_named (intervals_of memory.store) page ≡ false → (offset : ℕ) → offset < words_of size
          → mended.words (word_on size page offset) ≡ unmarked (left (word_on size page offset))
      still none offset lt =
          word_stays (IsChangeBetween made page offset gone time) (unmarked (left (word_on size page offset))) (mended.words (word_on size page offset))
          (λ rank value b. never none (change_names made page offset gone time rank value b)) (f.0 offset lt)

  same_there : (page offset : ℕ) → offset < words_of size → (copy : Copy) → copy_at memory page ≡ copy → is_readable copy ≡ true
      → mended.words (word_on size page offset) ≡ then_state.words (word_on size page offset)
  same_there page offset lt copy e r =
      let readable : is_readable (copy_at memory page) ≡ true = ap is_readable e ∙ r in
      word_same page offset lt
      (not_stale size made (λ offset. left (word_on size page offset)) gone time page (copy_at memory page) mended readable
      (h.pages page (readable_within memory.copies page readable)))

  has_word : (page offset : ℕ) → offset < words_of size → (copy : Copy) → copy_at memory page ≡ copy
      → HasWord made time page offset copy (mended.words (word_on size page offset)) (learned.before (word_on size page offset))
      → HasWord made time page offset (dropped copy) (then_state.words (word_on size page offset)) (learned.before (word_on size page offset))
  has_word page offset lt (valid values) e f = (sym (same_there page offset lt (valid values) e refl) ∙ f.0, f.1)
  has_word page offset lt (written values twin) e f = (sym (same_there page offset lt (written values twin) e refl) ∙ f.0, f.1)
  has_word page offset lt (invalid values since) e f = f.1
  has_word page offset lt absent e f = f

  pub discards_pages : HasPages size made (λ page offset. left_after (shape_of nodes size collect) state.dropped all arrived left (word_on size page offset)) time
      (after_collection me all.time memory) (collected (shape_of nodes size collect) all arrived (with_learned nodes all state))
  discards_pages = record {
    exact = record {
      time_is = h.exact.time_is;
      copies = λ page offset lt.
          subst
          (λ copy. HasWord made time page offset copy (then_state.words (word_on size page offset)) (learned.before (word_on size page offset)))
          (sym (map-copy dropped refl memory.copies page)) (has_word page offset lt (copy_at memory page) refl (h.exact.copies page offset lt));
      written = λ page.
          h.exact.written page ∙ changes_dropped (copy_at memory page)
          ∙ ap (λ copy. is_some (changes_of copy)) (sym (map-copy dropped refl memory.copies page));
      knows = h.exact.knows;
    };
    dropped_is = refl;
    pages = λ page lt.
        let within : page < length memory.copies = subst (λ n. page < n) (length-map memory.copies dropped) lt in
        subst (λ copy. HasPage size made (λ offset. left_then (word_on size page offset)) all.time time page copy then_state)
        (sym (map-copy dropped refl memory.copies page)) (has_page page (copy_at memory page) refl (h.pages page within));
  }
