-- What the changes of a closed interval give to a word is what its node wrote there last, and a last write that they do not give is
-- of what stood there.
use Rattle.std.proofs.Common.{◌≡◌, ◌⊎◌, ℕ, ◌<◌, List, [], length, refl, sym, ap, subst, ◌∙◌, inl, inr, ⊎_elim, arith}
use Rattle.std.specs.Prelude.{Option, Some, None, unwrap_or, option_and_then, Contains, slice_index}
use Rattle.std.proofs.lemmas.Bool.{cases_eq}
use Rattle.std.proofs.lemmas.Option.{none-some}
use Rattle.lrc_trace.specs.declared.act.Deed.TheVariants.{Write}
use Rattle.lrc_trace.specs.Run.{Does}
use Rattle.lrc_trace.proofs.Positions.{Does-within, Does-one_deed}
use Rattle.lrc_page.specs.declared.size.Size.{Size}
use Rattle.lrc_page.specs.Page.{words_of}
use Rattle.lrc_page.specs.Changes.{change_at}
use Rattle.lrc_store.specs.Store.{StoredRecord, NoticeRecord, interval_of, notice_of}
use Rattle.lrc_copies.specs.Sound.{difference}
use Rattle.lrc_copies.specs.Word.{Fits}
use Rattle.lrc_copies.specs.Page.{PageHistory, at_word, page_below}
use Rattle.lrc_copies.specs.Stamps.{stamp_index}
use Rattle.lrc_copies.specs.Reading.{IsLastWriteIn}
use Rattle.lrc_copies.proofs.Closing.{difference-same, difference-differs}
use Rattle.lrc_copies.proofs.Paging.{change_at-between}
use Rattle.lrc_protocol.specs.Run.{World}
use Rattle.lrc_reading_laws.specs.Written.{made_stamps, last_write, word_on, changes_on, page_history}
use Rattle.lrc_reading_laws.specs.Acted.{HasChanges, AreOfActs}
use Rattle.lrc_reading_laws.proofs.Lazy.Writes.{IsLastIn, last_write-some, last_write-none}
use Rattle.lrc_reading_laws.proofs.Acted.Changes.{named_in, some_or_none}

option_cases : (o : Option ℕ) → (o ≡ None) ⊎ ((v : ℕ) × (o ≡ Some v))
option_cases None = inl refl
option_cases (Some v) = inr (v, refl)

-- what a difference gives is what was written, where the copy has that or else the twin's value
given_by : (twin copy value : ℕ) (wrote : Option ℕ) → copy ≡ unwrap_or wrote twin → difference twin copy ≡ Some value → wrote ≡ Some value
given_by twin copy value None left e =
    absurd (none-some value (sym (difference-same twin copy (sym left)) ∙ e))
given_by twin copy value (Some v) left e = elim (cases_eq twin copy) [
  | inl same ↦ absurd (none-some value (sym (difference-same twin copy same) ∙ e))
  | inr differ ↦ ap Some (sym left) ∙ sym (difference-differs twin copy differ) ∙ e
]

-- and what was written is given, or the twin has it
written_by : (twin copy value : ℕ) → copy ≡ value → (difference twin copy ≡ Some value) ⊎ (twin ≡ value)
written_by twin copy value left = elim (cases_eq twin copy) [
  | inl same ↦ inr (same ∙ left)
  | inr differ ↦ inl (difference-differs twin copy differ ∙ ap Some left)
]

module _ (size : Size) (nodes : ℕ) (made : List StoredRecord) (world : World) (of : AreOfActs size nodes made world) (x : StoredRecord) (page offset : ℕ)
    (member : Contains made x) (within : offset < words_of size) where
  abbrev index : ℕ
  index = stamp_index made_stamps x

  abbrev word : ℕ
  word = word_on size page offset

  abbrev history : PageHistory StoredRecord
  history = page_history size world.acts page

  -- a page with changes is named
  named_with : (value : ℕ) → change_at (changes_on page x) offset ≡ Some value → Contains (interval_of x).pages page
  named_with value e = elim (some_or_none (notice_of page x)) [
    | inr some ↦ named_in page x.notices some
    | inl none ↦
        absurd
        (none-some value
        (sym (ap (λ (o : Option NoticeRecord). change_at (unwrap_or (option_and_then (λ (notice : NoticeRecord). notice.changes) o) []) offset) none) ∙ e))
  ]

  change_is : (h : HasChanges size world.acts made page x)
      → change_at (changes_on page x) offset ≡ difference (slice_index h.twin offset) (slice_index h.copy offset)
  change_is h =
      ap (λ changes. change_at changes offset) h.changes
      ∙ change_at-between h.twin h.copy offset (subst (λ n. offset < n) (sym h.copy_long) within)

  pub given_last : (value : ℕ) → change_at (changes_on page x) offset ≡ Some value
      → (i : ℕ) × IsLastWriteIn world.acts (length world.acts) word x.node index i value
  given_last value e =
      let h : HasChanges size world.acts made page x = of.changed x page member (named_with value e) in
      let wrote : last_write world.acts x.node index word ≡ Some value =
      given_by (slice_index h.twin offset) (slice_index h.copy offset) value (last_write world.acts x.node index word) (h.left offset within)
      (sym (change_is h) ∙ e) in
      let found : (i : ℕ) × IsLastIn world.acts x.node index word i value = last_write-some world.acts x.node index word value wrote in (
        found.0,
        record {
          write = found.1.writes.write;
          earlier = Does-within found.1.writes.write;
          inside = found.1.writes.inside;
          last = λ k v lt does inside. found.1.last k v (record { write = does; inside = inside });
        },
      )

  -- the value of a last write is what the interval wrote last
  wrote_last : (i value : ℕ) → IsLastWriteIn world.acts (length world.acts) word x.node index i value → last_write world.acts x.node index word ≡ Some value
  wrote_last i value w = elim (option_cases (last_write world.acts x.node index word)) [
    | inl none ↦ absurd (last_write-none world.acts x.node index word none i value (record { write = w.write; inside = w.inside }))
    | inr (v, some) ↦
        let found : (k : ℕ) × IsLastIn world.acts x.node index word k v = last_write-some world.acts x.node index word v some in
        let up : _ = w.last found.0 v (Does-within found.1.writes.write) found.1.writes.write found.1.writes.inside in
        let down : _ = found.1.last i value (record { write = w.write; inside = w.inside }) in
        let same : found.0 ≡ i = omega (arith, up, down) in
        some ∙ ap Some (one_value v value (Does-one_deed (subst (λ k. Does world.acts k x.node (Write word v)) same found.1.writes.write) w.write))
  ]
    where
      one_value : (u v : ℕ) → Write word u ≡ Write word v → u ≡ v
      one_value u v e = cc

  pub last_given : (i value : ℕ) → IsLastWriteIn world.acts (length world.acts) word x.node index i value
      → (change_at (changes_on page x) offset ≡ Some value) ⊎ Fits (at_word history offset) value (page_below history made x)
  last_given i value w =
      let wrote : last_write world.acts x.node index word ≡ Some value = wrote_last i value w in
      let named : Contains (interval_of x).pages page =
      (of.named x page member).1 (record { offset = offset; value = value; within = within; wrote = wrote }) in
      let h : HasChanges size world.acts made page x = of.changed x page member named in
      let left : slice_index h.copy offset ≡ value =
      h.left offset within ∙ ap (λ o. unwrap_or o (slice_index h.twin offset)) wrote in
      ⊎_elim
      (λ (given : difference (slice_index h.twin offset) (slice_index h.copy offset) ≡ Some value). inl (change_is h ∙ given))
      (λ (same : slice_index h.twin offset ≡ value).
      inr (subst (λ v. Fits (at_word history offset) v (page_below history made x)) same
      (h.fits offset (subst (λ n. offset < n) (sym h.twin_long) within))))
      (written_by (slice_index h.twin offset) (slice_index h.copy offset) value left)
