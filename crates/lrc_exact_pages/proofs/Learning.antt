-- A node that learns news goes on to have of its pages what the exact memory has: the copies that become invalid are the stale pages.
use Rattle.std.proofs.Common.{◌≡◌, ℕ, ◌<◌, ◌||◌, List, Bool, true, false, length, map, max, inl, inr, refl, sym, ap, subst, ◌∙◌, arith}
use Rattle.std.specs.Prelude.{None, Some, if◌then◌else◌}
use Rattle.std.specs.List.{enumerate_from}
use Rattle.std.proofs.lemmas.Bool.{cases_Bool, cases_lt, or_cases, or_left, or_right}
use Rattle.lrc_time.specs.Time.{entry, Covers}
use Rattle.lrc_time.proofs.Times.{entry-joined}
use Rattle.lrc_page.specs.declared.size.Size.{Size}
use Rattle.lrc_page.specs.Page.{words_of}
use Rattle.lrc_store.specs.Interval.{IntervalRecord}
use Rattle.lrc_store.specs.Store.{StoredRecord}
use Rattle.lrc_copies.specs.Stamps.{stamp_index}
use Rattle.lrc_protocol.specs.Times.{is_named}
use Rattle.lrc_protocol.specs.Pages.{Copy, valid, written, invalid, absent, changes_of, invalidated, Memory, copy_at, learned}
use Rattle.lrc_node_laws.proofs.Lists.{length-placed}
use Rattle.lrc_node_laws.proofs.OwnCopies.{placed-copy}
use Rattle.lrc_reading_laws.specs.Written.{made_stamps, word_on}
use Rattle.lrc_exact.specs.Memory.{Word}
use Rattle.lrc_exact.specs.Rule.{State, Knowledge, with_news, with_learned, is_named as names_page}
use Rattle.lrc_exact_known.specs.Learned.{TakesHighest}
use Rattle.lrc_exact_marks.proofs.Ranks.{Either, by_other_words, one_after_other}
use Rattle.lrc_exact_made.specs.Copies.{IsChangeBetween, unmarked}
use Rattle.lrc_exact_made.specs.Steps.{IsNewsTo}
use Rattle.lrc_exact_made.proofs.Learning.{learns_exactly, learns}
use Rattle.lrc_exact_pages.specs.Pages.{IsNamedBetween, HasPage, HasPages, NamesNews}
use Rattle.lrc_exact_pages.proofs.Named.{named_made, made_named}

module _ (size : Size) (nodes : ℕ) (made : List StoredRecord) (fixed : ℕ → ℕ → ℕ) (time : List ℕ) (memory : Memory) (state : State) (news : Knowledge)
    (intervals : List IntervalRecord) (after : List ℕ) (h : HasPages size made fixed time memory state)
    (n : IsNewsTo size nodes made time memory news intervals after) (names : NamesNews made time after intervals) (above : Covers time memory.collected) where
  abbrev gone : List ℕ
  gone = memory.collected

  abbrev then_state : State
  then_state = with_learned nodes news state

  abbrev new : ℕ → Bool
  new page = names_page nodes state.knows.time news page

  after_entry : (q : ℕ) → entry after q ≡ max (entry time q) (entry news.time q)
  after_entry q = ap (λ t. entry t q) (sym n.after_is) ∙ entry-joined time news.time q

  new-from : (page : ℕ) → new page ≡ true → IsNamedBetween made page time after
  new-from page e = named_made size nodes made time memory state news intervals after h.exact n page e

  new-to : (page : ℕ) → IsNamedBetween made page time after → new page ≡ true
  new-to page b = made_named size nodes made time memory state news intervals after h.exact n page b

  -- a page that is not named is as stale as it was
  not_new : (page : ℕ) → is_named intervals page ≡ false → new page ≡ false
  not_new page none = elim (cases_Bool (new page)) [
    | inl some ↦ absurd (names.none page none (new-from page some))
    | inr not ↦ not
  ]

  both : (a b : Bool) → a ≡ false → b ≡ false → (a || b) ≡ false
  both true b e f = e
  both false b e f = f

  -- what came since a collection came before the news, or with it
  named_since : (page : ℕ) → (state.stale page ≡ true → IsNamedBetween made page gone time) → then_state.stale page ≡ true
      → IsNamedBetween made page gone after
  named_since page had e = elim (or_cases (state.stale page) (new page) e) [
    | inl old ↦
        let b = had old in
        let known = b.known in
        let join = after_entry b.interval.node in
        record { interval = b.interval; member = b.member; later = b.later; known = omega arith; named = b.named }
    | inr come ↦
        let b = new-from page come in
        let later = b.later in
        let covered = above b.interval.node in
        record { interval = b.interval; member = b.member; later = omega arith; known = b.known; named = b.named }
  ]

  stale_since : (page : ℕ) → (IsNamedBetween made page gone time → state.stale page ≡ true) → IsNamedBetween made page gone after
      → then_state.stale page ≡ true
  stale_since page had b = elim (cases_lt (entry time b.interval.node) (stamp_index made_stamps b.interval)) [
    | inl later ↦
        or_right (state.stale page) (new page)
        (new-to page (record { interval = b.interval; member = b.member; later = later; known = b.known; named = b.named }))
    | inr old ↦
        or_left (state.stale page) (new page)
        (had (record { interval = b.interval; member = b.member; later = b.later; known = old; named = b.named }))
  ]

  -- what stands for a copy that was dropped lacks more
  lacks : (page offset : ℕ) → offset < words_of size → (base now : Word) → TakesHighest (IsChangeBetween made page offset gone time) base now
      → TakesHighest (IsChangeBetween made page offset gone after) base (with_news nodes state.knows.time news (word_on size page offset) now)
  lacks page offset lt base now f =
      by_other_words (Either (IsChangeBetween made page offset gone time) (IsChangeBetween made page offset time after))
      (IsChangeBetween made page offset gone after) base (with_news nodes state.knows.time news (word_on size page offset) now)
      (λ rank value s.
      elim s [
        | inl b ↦
            let known = b.known in
            let join = after_entry b.interval.node in
            record { interval = b.interval; member = b.member; later = b.later; known = omega arith; ranked = b.ranked; changed = b.changed }
        | inr b ↦
            let later = b.later in
            let covered = above b.interval.node in
            record { interval = b.interval; member = b.member; later = omega arith; known = b.known; ranked = b.ranked; changed = b.changed }
      ])
      (λ rank value b.
      elim (cases_lt (entry time b.interval.node) (stamp_index made_stamps b.interval)) [
        | inl come ↦ inr record { interval = b.interval; member = b.member; later = come; known = b.known; ranked = b.ranked; changed = b.changed }
        | inr old ↦ inl record { interval = b.interval; member = b.member; later = b.later; known = old; ranked = b.ranked; changed = b.changed }
      ])
      (one_after_other (IsChangeBetween made page offset gone time) (IsChangeBetween made page offset time after) base now
      (with_news nodes state.knows.time news (word_on size page offset) now) f
      (learns size nodes made time memory state news intervals after h.exact n page offset lt now))

  by_copy : (page : ℕ) (copy : Copy) (b : Bool) → copy_at memory page ≡ copy → is_named intervals page ≡ b
      → HasPage size made (fixed page) gone time page copy state
      → HasPage size made (fixed page) gone after page (if b then invalidated time copy else copy) then_state
  by_copy page (valid values) true e named f = or_right (state.stale page) (new page) (new-to page (names.some page named))
  by_copy page (valid values) false e named f = both (state.stale page) (new page) f (not_new page named)
  by_copy page (written values twin) b e named f = absurd (no_none (sym (ap changes_of e) ∙ n.unwritten page))
    where
      no_none : {X : Type 0} {x : X} → Some x ≡ None → ⊥
      no_none e = cc
  by_copy page (invalid values since) true e named f = or_left (state.stale page) (new page) f
  by_copy page (invalid values since) false e named f = or_left (state.stale page) (new page) f
  by_copy page absent true e named f = (
    λ offset lt. lacks page offset lt (unmarked (fixed page offset)) (state.words (word_on size page offset)) (f.0 offset lt),
    (named_since page f.1.0, stale_since page f.1.1),
  )
  by_copy page absent false e named f = (
    λ offset lt. lacks page offset lt (unmarked (fixed page offset)) (state.words (word_on size page offset)) (f.0 offset lt),
    (named_since page f.1.0, stale_since page f.1.1),
  )

  abbrev then_copy : ℕ × Copy → Copy
  then_copy place = if is_named intervals place.0 then invalidated time place.1 else place.1

  then_memory : Memory
  then_memory = learned time intervals memory

  copy_is : (page : ℕ) → page < length memory.copies → copy_at then_memory page ≡ then_copy (page, copy_at memory page)
  unfolding then_memory
  copy_is page within = placed-copy then_copy memory.copies page within

  pub learns_pages : HasPages size made fixed after (learned time intervals memory) (with_learned nodes news state)
  unfolding then_memory
  learns_pages = record {
    exact = learns_exactly size nodes made time memory state news intervals after h.exact n;
    dropped_is = h.dropped_is;
    pages = λ page lt.
        let long : length (map then_copy (enumerate_from 0 memory.copies)) ≡ length memory.copies = length-placed then_copy memory.copies in
        let within : page < length memory.copies = omega arith in
        subst (λ copy. HasPage size made (fixed page) gone after page copy then_state) (sym (copy_is page within))
        (by_copy page (copy_at memory page) (is_named intervals page) refl refl (h.pages page within));
  }
