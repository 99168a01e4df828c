-- A node that closes its interval goes on to have of its pages what the exact memory has.
use Rattle.std.proofs.Common.{◌≡◌, ℕ, ◌+◌, ◌≤◌, List, [], ◌∷◌, ◌++◌, true, inl, inr, refl, sym, ap, subst, ◌∙◌, arith}
use Rattle.std.specs.Prelude.{None, is_some, unwrap_or, Contains}
use Rattle.std.proofs.lemmas.Bool.{cases_eq, false≢true}
use Rattle.std.proofs.lemmas.List.{length-map}
use Rattle.std.proofs.lemmas.List.Elements.{Contains-append_left, Contains-push_cases}
use Rattle.lrc_time.specs.Time.{entry, Covers}
use Rattle.lrc_time.proofs.Times.{entry-set_other, covers-raised}
use Rattle.lrc_page.specs.declared.size.Size.{Size}
use Rattle.lrc_store.specs.Store.{StoredRecord, notice_of}
use Rattle.lrc_copies.specs.Stamps.{stamp_index}
use Rattle.lrc_protocol.specs.Times.{next_time}
use Rattle.lrc_protocol.specs.Pages.{Copy, valid, written, invalid, absent, changes_of, closed as closed_copy, Memory, copy_at}
use Rattle.lrc_protocol.specs.Pages.{with_interval as storing}
use Rattle.lrc_node_laws.proofs.OwnCopies.{map-copy}
use Rattle.lrc_reading_laws.specs.Written.{made_stamps, word_on, changes_on}
use Rattle.lrc_exact.specs.Memory.{Word}
use Rattle.lrc_exact.specs.Rule.{State, closed}
use Rattle.lrc_exact_known.specs.Learned.{TakesHighest}
use Rattle.lrc_exact_marks.proofs.Ranks.{by_other_words}
use Rattle.lrc_exact_made.specs.Copies.{IsChangeBetween, unmarked}
use Rattle.lrc_exact_made.specs.Steps.{IsClosing}
use Rattle.lrc_exact_made.proofs.Closing.{no_change, closes_exactly}
use Rattle.lrc_exact_pages.specs.Pages.{IsNamedBetween, HasPage, HasPages}

module _ (size : Size) (made : List StoredRecord) (fixed : ℕ → ℕ → ℕ) (me : ℕ) (time : List ℕ) (memory : Memory) (state : State) (x : StoredRecord)
    (h : HasPages size made fixed time memory state) (c : IsClosing size made me time memory x) where
  abbrev after : List ℕ
  after = next_time me time

  abbrev all : List StoredRecord
  all = made ++ x ∷ []

  abbrev gone : List ℕ
  gone = memory.collected

  -- what was made before is known after just where it was known before
  upto : (y : StoredRecord) → Contains made y → stamp_index made_stamps y ≤ entry after y.node → stamp_index made_stamps y ≤ entry time y.node
  upto y member known =
      elim (cases_eq y.node me) [
        | inl own ↦ subst (λ n. stamp_index made_stamps y ≤ entry time n) (sym own) (c.own y member own)
        | inr other ↦ subst (λ k. stamp_index made_stamps y ≤ k) (entry-set_other time me (entry time me + 1) y.node other) known
      ]

  raised : Covers after time
  raised = covers-raised time me (entry time me + 1) (omega arith)

  -- the interval neither names nor changes a page that is not written
  module _ (page : ℕ) (unwritten : changes_of (copy_at memory page) ≡ None) where
    not_named : is_some (notice_of page x) ≡ true → ⊥
    not_named e = false≢true (sym (c.notices page ∙ ap is_some unwritten) ∙ e)

    named_then : IsNamedBetween made page gone time → IsNamedBetween all page gone after
    named_then b =
        let known = b.known in
        let up = raised b.interval.node in
        record {
          interval = b.interval;
          member = Contains-append_left made (x ∷ []) b.interval b.member;
          later = b.later;
          known = omega arith;
          named = b.named;
        }

    named_before : IsNamedBetween all page gone after → IsNamedBetween made page gone time
    named_before b = elim (Contains-push_cases made x b.interval b.member) [
      | inl old ↦ record { interval = b.interval; member = old; later = b.later; known = upto b.interval old b.known; named = b.named }
      | inr new ↦ absurd (not_named (subst (λ (y : StoredRecord). is_some (notice_of page y) ≡ true) (sym new) b.named))
    ]

    still : (offset : ℕ) (now word : Word) → TakesHighest (IsChangeBetween made page offset gone time) now word
        → TakesHighest (IsChangeBetween all page offset gone after) now word
    still offset now word f =
        by_other_words (IsChangeBetween made page offset gone time) (IsChangeBetween all page offset gone after) now word
        (λ rank value b.
        let known = b.known in
        let up = raised b.interval.node in
        record {
          interval = b.interval;
          member = Contains-append_left made (x ∷ []) b.interval b.member;
          later = b.later;
          known = omega arith;
          ranked = b.ranked;
          changed = b.changed;
        })
        (λ rank value b.
        elim (Contains-push_cases made x b.interval b.member) [
          | inl old ↦
              record { interval = b.interval; member = old; later = b.later; known = upto b.interval old b.known; ranked = b.ranked; changed = b.changed }
          | inr new ↦
              absurd (no_change page offset value b.interval
              (ap (changes_on page) (sym new) ∙ c.changes page ∙ ap (λ o. unwrap_or o []) unwritten) b.changed)
        ]) f

  page_then : (page : ℕ) (copy : Copy) → copy_at memory page ≡ copy → HasPage size made (fixed page) gone time page copy state
      → HasPage size all (fixed page) gone after page (closed_copy copy) (closed me state)
  page_then page (valid values) e f = f
  page_then page (written values twin) e f = f
  page_then page (invalid values since) e f = f
  page_then page absent e f =
      let unwritten : changes_of (copy_at memory page) ≡ None = ap changes_of e in (
        λ offset lt. still page unwritten offset (unmarked (fixed page offset)) (state.words (word_on size page offset)) (f.0 offset lt),
        (λ stale. named_then page unwritten (f.1.0 stale), λ b. f.1.1 (named_before page unwritten b)),
      )

  pub closes : HasPages size all fixed after (storing me after memory) (closed me state)
  closes = record {
    exact = closes_exactly size made me time memory state x h.exact c;
    dropped_is = h.dropped_is;
    pages = λ page lt.
        let long = length-map memory.copies closed_copy in
        subst (λ copy. HasPage size all (fixed page) gone after page copy (closed me state)) (sym (map-copy closed_copy refl memory.copies page))
        (page_then page (copy_at memory page) refl (h.pages page (omega arith)));
  }
