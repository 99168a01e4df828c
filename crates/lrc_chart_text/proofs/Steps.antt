-- What loops make, with one item more.
use Rattle.std.proofs.Common.{◌≡◌, ◌∙◌, ◌<◌, ◌+◌, ℕ, List, [], ◌∷◌, ◌++◌, ap, append-nil, append_assoc, get_or, length, subst, sym, take}
use Rattle.std.specs.Prelude.{codes, Err, Ok, OnOk, Result}
use Rattle.std.specs.List.{flat_map, range_with_len}
use Rattle.std.proofs.lemmas.List.{take_more}
use Rattle.std.proofs.lemmas.List.Concat.{flat_map-append}
use Rattle.lrc_text.specs.Each.{each}
use Rattle.lrc_text.proofs.Each.{each_more, range_more}
use Rattle.lrc_chart_text.specs.Lines.{lines_text}

-- a list that is as long as it was, and what stands behind it now
pub pushed : {Y : Type 0} (first before here old new after : List Y) → after ≡ before ++ here → old ≡ first ++ before → new ≡ old ++ here → new ≡ first ++ after
pushed first before here old new after is was now =
    now ∙ ap (λ l. l ++ here) was ∙ append_assoc first before here ∙ ap (λ l. first ++ l) (sym is)

module _ {X Y : Type 0} (items : List X) (i : ℕ) (item : X) (within : i < length items) (is : item ≡ get_or items i item) where
  pub each_with : (of : ℕ → X → List Y) → each of (take (i + 1) items) ≡ each of (take i items) ++ of i item
  each_with of = each_more of items i item within ∙ ap (λ x. each of (take i items) ++ of i x) (sym is)

  pub flat_with : (of : X → List Y) → flat_map of (take (i + 1) items) ≡ flat_map of (take i items) ++ of item
  flat_with of =
      ap (flat_map of) (take_more items i item within) ∙ flat_map-append of (take i items) (get_or items i item ∷ [])
      ∙ ap (λ l. flat_map of (take i items) ++ l) (append-nil (of (get_or items i item)) ∙ ap of (sym is))

  pub each_pushed : (of : ℕ → X → List Y) (first old new : List Y) → old ≡ first ++ each of (take i items) → new ≡ old ++ of i item
      → new ≡ first ++ each of (take (i + 1) items)
  each_pushed of first old new was now = pushed first (each of (take i items)) (of i item) old new (each of (take (i + 1) items)) (each_with of) was now

  pub flat_pushed : (of : X → List Y) (first old new : List Y) → old ≡ first ++ flat_map of (take i items) → new ≡ old ++ of item
      → new ≡ first ++ flat_map of (take (i + 1) items)
  flat_pushed of first old new was now =
      pushed first (flat_map of (take i items)) (of item) old new (flat_map of (take (i + 1) items)) (flat_with of) was now

pub range_pushed : {Y : Type 0} (of : ℕ → List Y) (n : ℕ) (first old new : List Y) → old ≡ first ++ flat_map of (range_with_len 0 n) → new ≡ old ++ of n
    → new ≡ first ++ flat_map of (range_with_len 0 (n + 1))
range_pushed of n first old new was now =
    pushed first (flat_map of (range_with_len 0 n)) (of n) old new (flat_map of (range_with_len 0 (n + 1))) (range_more of n) was now

-- ---- the same of the texts of lines

pub texts-append : (first second : List (List ℕ)) → lines_text (first ++ second) ≡ lines_text first ++ lines_text second
texts-append first second = flat_map-append (λ line. line ++ codes "\n") first second

pub lines_pushed : (before here after : List (List ℕ)) (first old new : List ℕ) → after ≡ before ++ here → old ≡ first ++ lines_text before
    → new ≡ old ++ lines_text here → new ≡ first ++ lines_text after
lines_pushed before here after first old new is was now =
    pushed first (lines_text before) (lines_text here) old new (lines_text after) (ap lines_text is ∙ texts-append before here) was now

-- the same where the items are seen through a reference
module _ {X : Type 0} (items view : List X) (same : view ≡ items) (i : ℕ) (item : X) (within : i < length view) (is : item ≡ get_or view i item) where
  abbrev inside : i < length items
  inside = subst (λ (l : List X). i < length l) same within

  abbrev there : item ≡ get_or items i item
  there = is ∙ ap (λ l. get_or l i item) same

  pub each_seen : {Y : Type 0} (of : ℕ → X → List Y) (first old new : List Y) → old ≡ first ++ each of (take i items) → new ≡ old ++ of i item
      → new ≡ first ++ each of (take (i + 1) items)
  each_seen of first old new was now = each_pushed items i item inside there of first old new was now

  pub flat_seen : {Y : Type 0} (of : X → List Y) (first old new : List Y) → old ≡ first ++ flat_map of (take i items) → new ≡ old ++ of item
      → new ≡ first ++ flat_map of (take (i + 1) items)
  flat_seen of first old new was now = flat_pushed items i item inside there of first old new was now

  pub each_lines : (of : ℕ → X → List (List ℕ)) (first old new : List ℕ) → old ≡ first ++ lines_text (each of (take i items))
      → new ≡ old ++ lines_text (of i item) → new ≡ first ++ lines_text (each of (take (i + 1) items))
  each_lines of first old new was now =
      lines_pushed (each of (take i items)) (of i item) (each of (take (i + 1) items)) first old new
      (each_with items i item inside there of) was now

  pub flat_lines : (of : X → List (List ℕ)) (first old new : List ℕ) → old ≡ first ++ lines_text (flat_map of (take i items))
      → new ≡ old ++ lines_text (of item) → new ≡ first ++ lines_text (flat_map of (take (i + 1) items))
  flat_lines of first old new was now =
      lines_pushed (flat_map of (take i items)) (of item) (flat_map of (take (i + 1) items)) first old new
      (flat_with items i item inside there of) was now

pub on_ok : {E A : Type 0} {P Q : Type 0} (r : Result A E) → (P → Q) → OnOk r P → OnOk r Q
on_ok (Ok x) f h = f h
on_ok (Err e) f h = tt

-- a text with four additions, of which the third is of two parts
pub four_added : (start a b c d e t u v w : List ℕ) → t ≡ start ++ a → u ≡ t ++ b → v ≡ u ++ c ++ d → w ≡ v ++ e
    → w ≡ start ++ (a ++ b ++ c ++ d ++ e)
four_added start a b c d e t u v w first second third last =
    last ∙ ap (λ l. l ++ e) (third ∙ ap (λ l. l ++ c ++ d) (second ∙ ap (λ l. l ++ b) first))
    ∙ ap (λ l. l ++ c ++ d ++ e) (append_assoc start a b) ∙ ap (λ l. l ++ d ++ e) (append_assoc start (a ++ b) c)
    ∙ ap (λ l. l ++ e) (append_assoc start (a ++ b ++ c) d) ∙ append_assoc start (a ++ b ++ c ++ d) e
