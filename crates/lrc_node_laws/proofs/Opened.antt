-- What changes of a memory do to what the open interval made of it.
use Rattle.std.proofs.Common.{◌≡◌, ℕ, ◌<◌, ◌≤◌, List, [], ◌∷◌, ◌++◌, true, cond, length, refl, sym, ap, subst, ◌∙◌, inl, inr, ⊎_elim, arith}
use Rattle.std.specs.Prelude.{None, ◌==◌, fold, slice_index_or, slice_set, if◌then◌else◌}
use Rattle.std.proofs.lemmas.Bool.{cond_both, cases_eq, cases_lt, eq-eqb, ne_eqb, false≢true}
use Rattle.std.proofs.lemmas.List.{get_or_past, get_or-set_same, get_or-set_other}
use Rattle.std.proofs.lemmas.List.Sums.{fold-append}
use Rattle.std.proofs.lemmas.List.Elements.{filter-append, All-get_or, All-set}
use Rattle.lrc_page.specs.declared.size.Size.{Size}
use Rattle.lrc_page.specs.Place.{page_of, offset_of}
use Rattle.lrc_store.specs.Interval.{IntervalRecord}
use Rattle.lrc_protocol.specs.Times.{is_named}
use Rattle.lrc_protocol.specs.Pages.{Copy, valid, written, invalid, absent, is_readable, changes_of, after_write, closed, invalidated, dropped}
use Rattle.lrc_protocol.specs.Pages.{Memory, copy_at, with_written_word, with_interval, learned, all_applied, Need, first_values, repaired}
use Rattle.lrc_protocol.specs.Barriers.{after_collection, clean_memory}
use Rattle.lrc_node_laws.specs.Waits.{NoneWritten}
use Rattle.lrc_node_laws.specs.Opened.{on_page, put, IsMadeBy, AreMadeBy}
use Rattle.lrc_node_laws.proofs.Lists.{length-placed}
use Rattle.lrc_node_laws.proofs.OwnCopies.{set-copy, map-copy, placed-copy}
use Rattle.lrc_node_laws.proofs.Replies.{bases-copies}

-- ---- one write

on_page-here : (size : Size) (page : ℕ) (writes : List (ℕ × ℕ)) (word value : ℕ) → page_of word size ≡ page
    → on_page size page (writes ++ (word, value) ∷ []) ≡ on_page size page writes ++ (word, value) ∷ []
on_page-here size page writes word value e =
    filter-append (λ (write : ℕ × ℕ). page_of write.0 size == page) writes ((word, value) ∷ [])
    ∙ ap (λ b. on_page size page writes ++ cond b ((word, value) ∷ []) []) (eq-eqb (page_of word size) page e)

append_none : (xs : List (ℕ × ℕ)) → xs ++ [] ≡ xs
append_none [] = refl
append_none (x ∷ xs) = ap (λ l. x ∷ l) (append_none xs)

on_page-there : (size : Size) (page : ℕ) (writes : List (ℕ × ℕ)) (word value : ℕ) → (page_of word size ≡ page → ⊥)
    → on_page size page (writes ++ (word, value) ∷ []) ≡ on_page size page writes
on_page-there size page writes word value ne =
    filter-append (λ (write : ℕ × ℕ). page_of write.0 size == page) writes ((word, value) ∷ [])
    ∙ ap (λ b. on_page size page writes ++ cond b ((word, value) ∷ []) []) (ne_eqb (page_of word size) page ne)
    ∙ append_none (on_page size page writes)

some_more : (xs : List (ℕ × ℕ)) (x : ℕ × ℕ) → xs ++ x ∷ [] ≡ [] → ⊥
some_more [] x e = cc
some_more (y ∷ ys) x e = cc

written-here : (size : Size) (page word value : ℕ) (writes : List (ℕ × ℕ)) (copy : Copy) → page_of word size ≡ page → is_readable copy ≡ true
    → IsMadeBy size page writes copy → IsMadeBy size page (writes ++ (word, value) ∷ []) (after_write copy (offset_of word size) value)
written-here size page word value writes (valid values) e r h =
    let more : on_page size page (writes ++ (word, value) ∷ []) ≡ on_page size page writes ++ (word, value) ∷ [] =
    on_page-here size page writes word value e in (
      sym (ap (fold (put size) values) (more ∙ ap (λ l. l ++ (word, value) ∷ []) h)),
      λ none. some_more (on_page size page writes) (word, value) (sym more ∙ none),
    )
written-here size page word value writes (written values twin) e r h =
    let more : on_page size page (writes ++ (word, value) ∷ []) ≡ on_page size page writes ++ (word, value) ∷ [] =
    on_page-here size page writes word value e in (
      ap (λ l. slice_set l (offset_of word size) value) h.0
          ∙ sym (fold-append (put size) twin (on_page size page writes) ((word, value) ∷ []))
          ∙ ap (fold (put size) twin) (sym more),
      λ none. some_more (on_page size page writes) (word, value) (sym more ∙ none),
    )
written-here size page word value writes (invalid values since) e r h = cc
written-here size page word value writes absent e r h = cc

-- the same writes on the page
same-made : (size : Size) (page : ℕ) (writes after : List (ℕ × ℕ)) (copy : Copy) → on_page size page after ≡ on_page size page writes
    → IsMadeBy size page writes copy → IsMadeBy size page after copy
same-made size page writes after (valid values) e h = e ∙ h
same-made size page writes after (written values twin) e h = (h.0 ∙ ap (fold (put size) twin) (sym e), λ none. h.1 (sym e ∙ none))
same-made size page writes after (invalid values since) e h = e ∙ h
same-made size page writes after absent e h = e ∙ h

readable-within : (copies : List Copy) (page : ℕ) → is_readable (slice_index_or copies page absent) ≡ true → page < length copies
readable-within copies page r =
    ⊎_elim (λ lt. lt) (λ (le : length copies ≤ page). absurd (false≢true (ap is_readable (sym (get_or_past copies page absent le)) ∙ r)))
    (cases_lt page (length copies))

pub puts-made : (size : Size) (memory : Memory) (writes : List (ℕ × ℕ)) (word value : ℕ) → is_readable (copy_at memory (page_of word size)) ≡ true
    → AreMadeBy size memory writes → AreMadeBy size (with_written_word size word value memory) (writes ++ (word, value) ∷ [])
puts-made size memory writes word value r h page =
    let at : ℕ = page_of word size in
    let copy : Copy = after_write (copy_at memory at) (offset_of word size) value in
    let within : at < length memory.copies = readable-within memory.copies at r in
    elim (cases_eq at page) [
      | inl here ↦
          subst (λ p. IsMadeBy size p (writes ++ (word, value) ∷ []) (slice_index_or (slice_set memory.copies at copy) p absent)) here
          (subst (IsMadeBy size at (writes ++ (word, value) ∷ [])) (sym (get_or-set_same memory.copies at copy absent within))
          (written-here size at word value writes (copy_at memory at) refl r (h at)))
      | inr other ↦
          subst (IsMadeBy size page (writes ++ (word, value) ∷ [])) (sym (get_or-set_other memory.copies at page copy absent (λ e. other (sym e))))
          (same-made size page writes (writes ++ (word, value) ∷ []) (copy_at memory page) (on_page-there size page writes word value other) (h page))
    ]

-- ---- the interval is closed

none-made : (size : Size) (page : ℕ) (copy : Copy) → IsMadeBy size page [] (closed copy)
none-made size page (valid values) = refl
none-made size page (written values twin) = refl
none-made size page (invalid values since) = refl
none-made size page absent = refl

pub closes-made : (size : Size) (me : ℕ) (stamp : List ℕ) (memory : Memory) → AreMadeBy size (with_interval me stamp memory) []
closes-made size me stamp memory page =
    subst (IsMadeBy size page []) (sym (map-copy closed refl memory.copies page)) (none-made size page (copy_at memory page))

-- ---- copies become invalid, and absent

invalidated-made : (size : Size) (page : ℕ) (writes : List (ℕ × ℕ)) (before : List ℕ) (copy : Copy) → IsMadeBy size page writes copy
    → IsMadeBy size page writes (invalidated before copy)
invalidated-made size page writes before (valid values) h = h
invalidated-made size page writes before (written values twin) h = h
invalidated-made size page writes before (invalid values since) h = h
invalidated-made size page writes before absent h = h

dropped-made : (size : Size) (page : ℕ) (writes : List (ℕ × ℕ)) (copy : Copy) → IsMadeBy size page writes copy → IsMadeBy size page writes (dropped copy)
dropped-made size page writes (valid values) h = h
dropped-made size page writes (written values twin) h = h
dropped-made size page writes (invalid values since) h = h
dropped-made size page writes absent h = h

pub learns-made : (size : Size) (before : List ℕ) (intervals : List IntervalRecord) (memory : Memory) (writes : List (ℕ × ℕ)) → AreMadeBy size memory writes
    → AreMadeBy size (learned before intervals memory) writes
learns-made size before intervals memory writes h page =
    let f : ℕ × Copy → Copy = λ place. if is_named intervals place.0 then invalidated before place.1 else place.1 in
    ⊎_elim
    (λ (lt : page < length memory.copies).
    subst (IsMadeBy size page writes) (sym (placed-copy f memory.copies page lt))
    (cond_both (is_named intervals page) (invalidated before (copy_at memory page)) (copy_at memory page) (IsMadeBy size page writes)
    (λ e. invalidated-made size page writes before (copy_at memory page) (h page)) (λ e. h page)))
    (λ (le : length memory.copies ≤ page).
    subst (IsMadeBy size page writes)
    (get_or_past memory.copies page absent le ∙ sym (get_or_past (learned before intervals memory).copies page absent
    (omega (arith, le, length-placed f memory.copies))))
    (h page))
    (cases_lt page (length memory.copies))

pub discards-made : (size : Size) (me : ℕ) (time : List ℕ) (memory : Memory) (writes : List (ℕ × ℕ)) → AreMadeBy size memory writes
    → AreMadeBy size (after_collection me time memory) writes
discards-made size me time memory writes h page =
    subst (IsMadeBy size page writes) (sym (map-copy dropped refl memory.copies page)) (dropped-made size page writes (copy_at memory page) (h page))

-- ---- pages are mended

-- a copy that is not written became valid
valid-made : (size : Size) (page : ℕ) (writes : List (ℕ × ℕ)) (copy : Copy) (values : List ℕ) → changes_of copy ≡ None → IsMadeBy size page writes copy
    → on_page size page writes ≡ []
valid-made size page writes (valid old) values u h = h
valid-made size page writes (written old twin) values u h = cc
valid-made size page writes (invalid old since) values u h = h
valid-made size page writes absent values u h = h

pub mends-made : (size : Size) (memory : Memory) (need : Need) (writes : List (ℕ × ℕ)) → changes_of (copy_at memory need.page) ≡ None
    → AreMadeBy size memory writes
    → AreMadeBy size (repaired memory need) writes
mends-made size memory need writes u h page =
    let new : Copy = valid (all_applied memory.store (first_values (copy_at memory need.page) need.base) need.missing) in
    elim (cases_eq need.page page) [
      | inl here ↦
          subst (λ p. IsMadeBy size p writes (slice_index_or (slice_set memory.copies need.page new) p absent)) here
          (set-copy (IsMadeBy size need.page writes) memory.copies need.page need.page new
          (λ x. valid-made size need.page writes (copy_at memory need.page) [] u x) (h need.page))
      | inr other ↦ subst (IsMadeBy size page writes) (sym (get_or-set_other memory.copies need.page page new absent (λ e. other (sym e)))) (h page)
    ]

pub unwritten-at : (memory : Memory) (page : ℕ) → NoneWritten memory → changes_of (copy_at memory page) ≡ None
unwritten-at memory page h =
    ⊎_elim
    (λ (lt : page < length memory.copies). All-get_or (λ copy. changes_of copy ≡ None) memory.copies page absent lt h)
    (λ (le : length memory.copies ≤ page). ap changes_of (get_or_past memory.copies page absent le))
    (cases_lt page (length memory.copies))

needs-made : (size : Size) (needs : List Need) (memory : Memory) (writes : List (ℕ × ℕ)) → NoneWritten memory → AreMadeBy size memory writes
    → AreMadeBy size (fold repaired memory needs) writes
needs-made size [] memory writes u h = h
needs-made size (need ∷ needs) memory writes u h =
    needs-made size needs (repaired memory need) writes
    (All-set (λ copy. changes_of copy ≡ None) memory.copies need.page
    (valid (all_applied memory.store (first_values (copy_at memory need.page) need.base) need.missing)) refl u)
    (mends-made size memory need writes (unwritten-at memory need.page u) h)

pub cleans-made : (size : Size) (needs : List Need) (kept : List ℕ) (memory : Memory) (writes : List (ℕ × ℕ)) → NoneWritten memory
    → AreMadeBy size memory writes → AreMadeBy size (clean_memory needs kept memory) writes
cleans-made size needs kept memory writes u h page =
    subst (λ (copies : List Copy). IsMadeBy size page writes (slice_index_or copies page absent)) (sym (bases-copies kept (fold repaired memory needs)))
    (needs-made size needs memory writes u h page)
