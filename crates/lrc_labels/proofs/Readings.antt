-- What the label lines of one line more say.
use Rattle.std.proofs.Common.{◌≡◌, ◌∙◌, ◌<◌, ◌≤◌, ◌+◌, ℕ, ap, sym, subst, List, [], ◌∷◌, ◌++◌, length, map, take, get_or, Bool, ◌||◌, refl}
use Rattle.std.specs.List.{list_any}
use Rattle.std.specs.Prelude.{find, option_map, cond, true, false, None, Option, Some}
use Rattle.std.proofs.lemmas.List.{get_or-map, length-map, take_all}
use Rattle.std.proofs.lemmas.List.Sums.{fold_more}
use Rattle.lrc_text.specs.Each.{each}
use Rattle.lrc_text.proofs.Each.{each_more}
use Rattle.lrc_labels.specs.declared.label.IdleLabel.{IdleLabel}
use Rattle.lrc_labels.specs.Line.{label_line_in}
use Rattle.lrc_labels.specs.Reading.{Label, idle_at, idle_in, labels_of, labels_with}

module _ (words locks : ℕ) {A : Type 0} (bytes : A → List ℕ) (items : List A) (i : ℕ) (d : A) (lt : i < length items) where
  lines : List (List ℕ)
  lines = map bytes items

  abbrev here : get_or (map bytes items) i [] ≡ bytes (get_or items i d)
  here = get_or-map bytes items i d [] lt

  within : i < length (map bytes items)
  within = subst (λ n. i < n) (sym (length-map items bytes)) lt

  pub said_more : (now next : List Label) → now ≡ labels_of words locks (take i (map bytes items))
      → next ≡ labels_with words locks now (bytes (get_or items i d)) → next ≡ labels_of words locks (take (i + 1) (map bytes items))
  said_more now next is more =
      more
      ∙ ap (λ (earlier : List Label). labels_with words locks earlier (bytes (get_or items i d))) is
      ∙ ap (λ (line : List ℕ). labels_with words locks (labels_of words locks (take i (map bytes items))) line) (sym here)
      ∙ sym (fold_more (labels_with words locks) [] (map bytes items) i [] within)

  pub idle_more : (said : List Label) (now next : List IdleLabel) → said ≡ labels_of words locks (take i (map bytes items))
      → now ≡ each (idle_at words locks (map bytes items)) (take i (map bytes items))
      → next ≡ now ++ idle_in words locks said (i + 1) (label_line_in (bytes (get_or items i d)))
      → next ≡ each (idle_at words locks (map bytes items)) (take (i + 1) (map bytes items))
  idle_more said now next is_said is more =
      more
      ∙ ap (λ (earlier : List IdleLabel). earlier ++ idle_in words locks said (i + 1) (label_line_in (bytes (get_or items i d)))) is
      ∙ ap (λ (earlier : List Label). each (idle_at words locks (map bytes items)) (take i (map bytes items))
      ++ idle_in words locks earlier (i + 1) (label_line_in (bytes (get_or items i d)))) is_said
      ∙ ap (λ (line : List ℕ). each (idle_at words locks (map bytes items)) (take i (map bytes items)) ++ idle_at words locks (map bytes items) i line) (sym here)
      ∙ sym (each_more (idle_at words locks (map bytes items)) (map bytes items) i [] within)

-- all lines
module _ {A : Type 0} (bytes : A → List ℕ) (items kept : List A) (n : ℕ) (pieces : List (List ℕ)) (le : length items ≤ n) (same : items ≡ kept)
    (is : map bytes kept ≡ pieces) where
  pub all_lines : map bytes items ≡ pieces
  all_lines = ap (map bytes) same ∙ is

  pub all_taken : take n (map bytes items) ≡ pieces
  all_taken = take_all n (map bytes items) (subst (λ m. m ≤ n) (sym (length-map items bytes)) le) ∙ all_lines

  pub said_all : (words locks : ℕ) (said : List Label) → said ≡ labels_of words locks (take n (map bytes items)) → said ≡ labels_of words locks pieces
  said_all words locks said h = h ∙ ap (labels_of words locks) all_taken

  pub idle_all : (words locks : ℕ) (idle : List IdleLabel) → idle ≡ each (idle_at words locks (map bytes items)) (take n (map bytes items))
      → idle ≡ each (idle_at words locks pieces) pieces
  idle_all words locks idle h =
      h ∙ ap (each (idle_at words locks (map bytes items))) all_taken
      ∙ ap (λ (lines : List (List ℕ)). each (idle_at words locks lines) pieces) all_lines

pub any_seen : {A B : Type 0} (seen : A → B) (test : B → Bool) (items : List A) → list_any (λ item. test (seen item)) items ≡ list_any test (map seen items)
any_seen seen test [] = refl
any_seen seen test (item ∷ others) = ap (λ (b : Bool). test (seen item) || b) (any_seen seen test others)

pub find_seen : {A B : Type 0} (seen : A → B) (test : B → Bool) (items : List A)
    → option_map seen (find (λ item. test (seen item)) items) ≡ find test (map seen items)
find_seen seen test [] = refl
find_seen {A} {B} seen test (item ∷ others) = first (find_seen seen test others) (test (seen item))
  where
    first : option_map seen (find (λ other. test (seen other)) others) ≡ find test (map seen others) → (b : Bool)
        → option_map seen (cond b (Some item) (find (λ other. test (seen other)) others)) ≡ cond b (Some (seen item)) (find test (map seen others))
    first more true = refl
    first more false = more

-- the same of what is found in a list of references
pub find_in : {R A B : Type 0} (at : R → A) (seen : A → B) (test : B → Bool) (items : List A) (found : Option R)
    → option_map at found ≡ find (λ item. test (seen item)) items → option_map (λ r. seen (at r)) found ≡ find test (map seen items)
find_in at seen test items None e = ap (option_map seen) e ∙ find_seen seen test items
find_in at seen test items (Some r) e = ap (option_map seen) e ∙ find_seen seen test items
