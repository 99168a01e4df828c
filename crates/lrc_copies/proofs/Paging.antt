-- Whole pages, word by word.
use Rattle.std.proofs.Common.{◌≡◌, ℕ, IsTrue, zero, suc, ◌<◌, ◌⊎◌, ◌∙◌, List, [], ◌∷◌, ◌++◌, length, map, get_or}
use Rattle.std.proofs.Common.{set, replicate, Some, ap, sym, subst, refl, inl, inr, ⊎_elim, arith}
use Rattle.std.specs.Prelude.{Contains, unwrap_or, fold}
use Rattle.std.proofs.lemmas.Bool.{cases_eq}
use Rattle.std.proofs.lemmas.List.{length-set, get_or-set_other}
use Rattle.std.proofs.lemmas.Grind.{get_or-set_at}
use Rattle.lrc_page.specs.declared.size.Size.{Size}
use Rattle.lrc_page.specs.Page.{words_of, zero_page}
use Rattle.lrc_page.specs.Changes.{applied, change_at, changes_between}
use Rattle.lrc_page.proofs.ChangeLists.{length-fold-applied, get_or-fold-applied, change_at-between_same, change_at-between_differs}
use Rattle.lrc_copies.specs.Word.{IsWriter, Fits, AgreeOn}
use Rattle.lrc_copies.specs.Sound.{IsAddedLast, difference, AreAddable, repaired_value}
use Rattle.lrc_copies.specs.Page.{PageHistory, AgreeOnPage, AgreeOnChanges, at_word, PageFits, IsPageSound, IsUntouchedBy}
use Rattle.lrc_copies.specs.Page.{IsMoreUntouched, IsWrittenOnce, IsMadeOf, IsClosedWith, page_below, ArePageNext}
use Rattle.lrc_copies.proofs.Members.{Contains-first}
use Rattle.lrc_copies.proofs.Fitting.{fits_open, zero_fits, fits_writers, fits_agreed, newest_fits}
use Rattle.lrc_copies.proofs.Closing.{difference-same, difference-differs, sound_closed, sound_unwritten, sound_agreed}
use Rattle.lrc_copies.proofs.Repairing.{fits_all_next}

-- a list of zeros has zero everywhere
get_or-zeros : (words offset : ℕ) → let none : ℕ = 0 in get_or (replicate words none) offset none ≡ none
get_or-zeros zero offset = refl
get_or-zeros (suc words) zero = refl
get_or-zeros (suc words) (suc offset) = get_or-zeros words offset

-- the changes between twin and copy say of each word what differs
pub change_at-between : (twin copy : List ℕ) (offset : ℕ) → offset < length copy
    → change_at (changes_between twin copy) offset ≡ difference (get_or twin offset 0) (get_or copy offset 0)
change_at-between twin copy offset within =
    ⊎_elim
    (λ (same : get_or twin offset 0 ≡ get_or copy offset 0).
    change_at-between_same twin copy offset same ∙ sym (difference-same _ _ same))
    (λ (differ : get_or twin offset 0 ≡ get_or copy offset 0 → ⊥).
    change_at-between_differs twin copy offset within differ ∙ sym (difference-differs _ _ differ))
    (cases_eq (get_or twin offset 0) (get_or copy offset 0))

module _ {A : Type 0} (h : PageHistory A) where
  pub zero_page_fits : (words : ℕ) → PageFits h (replicate words 0) []
  zero_page_fits words offset within =
      subst (λ v. Fits (at_word h offset) v []) (sym (get_or-zeros words offset)) (zero_fits (at_word h offset))

  pub zero_page_of_size_fits : (size : Size) → PageFits h (zero_page size) []
  unfolding zero_page
  zero_page_of_size_fits size = zero_page_fits (words_of size)

  -- an interval that did not write the page is no writer of its words
  untouched_no_writer : {words : ℕ} {xs : List A} {a : A} {offset value : ℕ} → IsUntouchedBy h words a → offset < words
      → IsWriter (at_word h offset) xs a value → ⊥
  untouched_no_writer {offset = offset} untouched within g =
      let e = untouched offset within in
      let f = g.wrote in
      absurd (cc)

  pub page_fits_more : (copy : List ℕ) (xs ys : List A) → IsMoreUntouched h (length copy) xs ys → PageFits h copy xs → PageFits h copy ys
  page_fits_more copy xs ys more fits offset within =
      fits_writers (at_word h offset) (get_or copy offset 0) xs ys
      (λ a v. (
        λ g. more.kept a g.member,
        λ g. ⊎_elim (λ (old : Contains xs a). old) (λ (untouched : IsUntouchedBy h (length copy) a). absurd (untouched_no_writer untouched within g))
            (more.more a g.member),
      ))
      (fits offset within)

  pub page_closed : (all : List A) (x : A) (twin copy : List ℕ) → IsPageSound h (length copy) all
      → IsAddedLast h.weight h.below all x → IsClosedWith h x twin copy → PageFits h twin (page_below h all x)
      → IsPageSound h (length copy) (all ++ x ∷ [])
  page_closed all x twin copy sound added closed fits offset within =
      sound_closed (at_word h offset) all x (get_or twin offset 0) (get_or copy offset 0)
      (record {
        fits = fits offset (let long = closed.made.long in omega arith);
        copy = closed.made.has offset within;
        change = ap (λ cs. change_at cs offset) closed.changes ∙ change_at-between twin copy offset within;
      })
      added (sound offset within)

  pub page_untouched : (all : List A) (x : A) (words : ℕ) → IsPageSound h words all → IsAddedLast h.weight h.below all x
      → IsUntouchedBy h words x → h.changes x ≡ [] → IsPageSound h words (all ++ x ∷ [])
  page_untouched all x words sound added untouched unchanged offset within =
      sound_unwritten (at_word h offset) all x added (sound offset within) (untouched offset within)
      (ap (λ cs. change_at cs offset) unchanged)

  -- to apply the lists of changes is to repair each word
  repaired_word : (offset : ℕ) (more : List A) (v : ℕ)
      → fold (λ value cs. unwrap_or (change_at cs offset) value) v (map h.changes more) ≡ repaired_value (at_word h offset) v more
  repaired_word offset [] v = refl
  repaired_word offset (x ∷ more) v = repaired_word offset more (unwrap_or (change_at (h.changes x) offset) v)

  pub page_repaired : (all xs more : List A) (copy : List ℕ) → IsPageSound h (length copy) all
      → ((a : A) → Contains xs a → Contains all a) → ArePageNext h (length copy) all xs more → PageFits h copy xs
      → PageFits h (fold applied copy (map h.changes more)) (xs ++ more)
  page_repaired all xs more copy sound within next fits offset below =
      let inside : offset < length copy = omega (arith, length-fold-applied copy (map h.changes more)) in
      let w = at_word h offset in
      let words : AreAddable w all xs more = record {
        members = next.members;
        complete = λ x a v x_in g under. ⊎_elim inl
            (λ (either : Contains more a ⊎ IsUntouchedBy h (length copy) a).
            ⊎_elim inr (λ (untouched : IsUntouchedBy h (length copy) a). absurd (untouched_no_writer untouched inside g)) either)
            (next.complete x a x_in g.member under);
        newer = λ x x_in a v g. next.newer x a x_in g.member;
        rising = next.rising;
      } in
      subst (λ v. Fits w v (xs ++ more))
      (sym (get_or-fold-applied copy (map h.changes more) offset inside ∙ repaired_word offset more (get_or copy offset 0)))
      (fits_all_next w all (sound offset inside) xs more (get_or copy offset 0) within words (fits offset inside))

  -- what an interval that is below none makes of its twin
  pub page_open : (twin copy : List ℕ) (x : A) (xs : List A) → IsMadeOf h x twin copy
      → ((a : A) → Contains xs a → IsTrue (h.below x a) → ⊥) → PageFits h twin xs → PageFits h copy (x ∷ xs)
  page_open twin copy x xs made newest fits offset within =
      subst (λ v. Fits (at_word h offset) v (x ∷ xs)) (sym (made.has offset within))
      (fits_open (at_word h offset) (get_or twin offset 0) x xs (λ a v g. newest a g.member)
      (fits offset (let long = made.long in omega arith)))

-- ---- only what the members did counts

module _ {A : Type 0} (h h' : PageHistory A) where
  at_word_agree : (xs : List A) (offset : ℕ) → AgreeOnPage xs h h' → AgreeOn xs (at_word h offset) (at_word h' offset)
  at_word_agree xs offset agree = record { wrote = λ a a_in. agree.wrote a offset a_in; below = agree.below }

  pub page_fits_agreed : (copy : List ℕ) (xs : List A) → AgreeOnPage xs h h' → PageFits h copy xs → PageFits h' copy xs
  page_fits_agreed copy xs agree fits offset within =
      fits_agreed (at_word h offset) (at_word h' offset) xs (at_word_agree xs offset agree) (get_or copy offset 0) (fits offset within)

  pub page_sound_agreed : (words : ℕ) (all : List A) → AgreeOnChanges all h h' → IsPageSound h words all → IsPageSound h' words all
  page_sound_agreed words all agree sound offset within =
      sound_agreed (at_word h offset) (at_word h' offset) all (at_word_agree all offset agree.page)
      (λ a a_in. ap (λ cs. change_at cs offset) (agree.changes a a_in)) agree.weight (sound offset within)

-- ---- one write more

module _ {A : Type 0} (before after : PageHistory A) (copy : List ℕ) (xs : List A) (x : A) (offset value : ℕ)
    (written : IsWrittenOnce before after xs x offset value) where
  pub page_written : PageFits before copy (x ∷ xs) → PageFits after (set copy offset value) (x ∷ xs)
  page_written fits place below =
      let inside : place < length copy = omega (arith, length-set copy offset value) in
      ⊎_elim
      (λ (same : place ≡ offset).
      let here : get_or (set copy offset value) place 0 ≡ value = get_or-set_at copy offset place value 0 same (omega arith) in
      let wrote : after.wrote x place ≡ Some value = ap (after.wrote x) same ∙ written.wrote in
      subst (λ v. Fits (at_word after place) v (x ∷ xs)) (sym here)
      (newest_fits (at_word after place) value x xs wrote (λ a v g. written.newest a g.member)))
      (λ (other : place ≡ offset → ⊥).
      let there : get_or (set copy offset value) place 0 ≡ get_or copy place 0 = get_or-set_other copy offset place value 0 other in
      let agree : AgreeOn (x ∷ xs) (at_word before place) (at_word after place) = record {
        wrote = λ a a_in. written.others a place a_in other;
        below = written.below;
      } in
      subst (λ v. Fits (at_word after place) v (x ∷ xs)) (sym there)
      (fits_agreed (at_word before place) (at_word after place) (x ∷ xs) agree (get_or copy place 0) (fits place inside)))
      (cases_eq place offset)

  -- the copy is made of the same twin
  pub page_still_made : (twin : List ℕ) → IsMadeOf before x twin copy → IsMadeOf after x twin (set copy offset value)
  page_still_made twin made = record {
    long = made.long ∙ sym (length-set copy offset value);
    has = λ place below.
        let inside : place < length copy = omega (arith, length-set copy offset value) in
        ⊎_elim
        (λ (same : place ≡ offset).
        let here : get_or (set copy offset value) place 0 ≡ value = get_or-set_at copy offset place value 0 same (omega arith) in
        let wrote : after.wrote x place ≡ Some value = ap (after.wrote x) same ∙ written.wrote in
        here ∙ sym (ap (λ o. unwrap_or o (get_or twin place 0)) wrote))
        (λ (other : place ≡ offset → ⊥).
        let there : get_or (set copy offset value) place 0 ≡ get_or copy place 0 = get_or-set_other copy offset place value 0 other in
        let same : before.wrote x place ≡ after.wrote x place = written.others x place (Contains-first x xs) other in
        there ∙ made.has place inside ∙ ap (λ o. unwrap_or o (get_or twin place 0)) same)
        (cases_eq place offset);
  }
