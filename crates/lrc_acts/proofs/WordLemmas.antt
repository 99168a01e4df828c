-- A text that blanks part: what its first word leaves.
use Rattle.std.proofs.Common.{◌≡◌, ◌∙◌, ◌<◌, ◌≤◌, ◌+◌, ◌==◌, ℕ, Bool, true, false, not, ltb, ltb-false, List, [], ◌∷◌, length, take, drop, Option, Some, None}
use Rattle.std.proofs.Common.{refl, sym, ap, ap₂, subst, cond, unwrap_or, arith, rules, tests, suc, zero, one-add}
use Rattle.std.specs.Prelude.{filter}
use Rattle.std.specs.List.{slice_split, position_or_len}
use Rattle.std.proofs.lemmas.List.Splits.{slice_split-cons_yes, slice_split-cons_no}
use Rattle.lrc_acts.specs.ActsText.{is_blank, words_between}

position-le : {A : Type 0} (p : A → Bool) (xs : List A) → position_or_len p xs ≤ length xs
position-le p [] = omega arith
position-le p (x ∷ xs) = go (p x) (position_or_len p xs) (length xs) (position-le p xs)
  where
    go : (b : Bool) (n m : ℕ) → n ≤ m → cond (not b) (1 + n) 0 ≤ suc m
    go true n m h = omega arith
    go false n m h = omega arith

found_at : (b : Bool) (n len : ℕ) → ltb n len ≡ b → n ≤ len → unwrap_or (cond b (Some n) None) len ≡ n
found_at true n len e h = refl
found_at false n len e h = omega (arith, ltb-false n len e)

-- what a search for the first byte that passes gives, or else the length
pub place_is : (p : ℕ → Bool) (text : List ℕ) (found : Option ℕ) (place : ℕ)
    → found ≡ cond (ltb (position_or_len p text) (length text)) (Some (position_or_len p text)) None → place ≡ unwrap_or found (length text)
    → place ≡ position_or_len p text
place_is p text found place at is =
    is ∙ ap (λ f. unwrap_or f (length text)) at ∙ found_at (ltb (position_or_len p text) (length text)) _ _ refl (position-le p text)

-- such a place is in the text, or its end
pub place-le : (p : ℕ → Bool) (text : List ℕ) (place : ℕ) → place ≡ position_or_len p text → place ≤ length text
place-le p text place is = subst (λ n. n ≤ length text) (sym is) (position-le p text)

pub take_one : (n : ℕ) (x : ℕ) (xs : List ℕ) → take (1 + n) (x ∷ xs) ≡ x ∷ take n xs
take_one n x xs = rw (one-add n) refl

pub drop_one : (n : ℕ) (x : ℕ) (xs : List ℕ) → drop (1 + n) (x ∷ xs) ≡ drop n xs
drop_one n x xs = rw (one-add n) refl

-- whether a word is not empty
abbrev pub is_some_word : List ℕ → Bool
is_some_word word = not (length word == 0)

pub some_word : (word : List ℕ) → 0 < length word → is_some_word word ≡ true
some_word [] h = absurd (omega (arith, h))
some_word (x ∷ xs) h = go (length (x ∷ xs) == 0) refl
  where
    go : (b : Bool) → (length (x ∷ xs) == 0) ≡ b → not b ≡ true
    go true e = absurd (let zero : length (x ∷ xs) ≡ 0 = search (rules, tests, e) in omega (arith, zero))
    go false e = refl

-- whether a byte is no blank
abbrev pub is_letter : ℕ → Bool
is_letter byte = not (is_blank byte)

-- a blank at the front is no part of a word
blank_first : (x : ℕ) (xs : List ℕ) → is_blank x ≡ true → words_between (x ∷ xs) ≡ words_between xs
blank_first x xs e = ap (filter is_some_word) (slice_split-cons_yes is_blank x xs e)

-- where the first letter of a text is, by its first byte
letter_place : (x : ℕ) (xs : List ℕ) (b : Bool) → is_blank x ≡ b
    → drop (position_or_len is_letter (x ∷ xs)) (x ∷ xs) ≡ cond b (drop (position_or_len is_letter xs) xs) (x ∷ xs)
letter_place x xs true e = ap (λ (b : Bool). drop (cond (not (not b)) (1 + position_or_len is_letter xs) 0) (x ∷ xs)) e ∙ drop_one _ x xs
letter_place x xs false e = ap (λ (b : Bool). drop (cond (not (not b)) (1 + position_or_len is_letter xs) 0) (x ∷ xs)) e

-- blanks at the front are no part of a word
pub skip : (text : List ℕ) → words_between text ≡ words_between (drop (position_or_len is_letter text) text)
skip [] = refl
skip (x ∷ xs) = go (is_blank x) refl (skip xs)
  where
    go : (b : Bool) → is_blank x ≡ b → words_between xs ≡ words_between (drop (position_or_len is_letter xs) xs)
        → words_between (x ∷ xs) ≡ words_between (drop (position_or_len is_letter (x ∷ xs)) (x ∷ xs))
    go true e h = blank_first x xs e ∙ h ∙ ap words_between (sym (letter_place x xs true e))
    go false e h = ap words_between (sym (letter_place x xs false e))

-- the first byte that is left is no blank
starts : (text : List ℕ) → 0 < length (drop (position_or_len is_letter text) text)
    → 0 < position_or_len is_blank (drop (position_or_len is_letter text) text)
starts [] h = absurd (omega (arith, h))
starts (x ∷ xs) h = go (is_blank x) refl (starts xs) h
  where
    go : (b : Bool) → is_blank x ≡ b
        → (0 < length (drop (position_or_len is_letter xs) xs) → 0 < position_or_len is_blank (drop (position_or_len is_letter xs) xs))
        → 0 < length (drop (position_or_len is_letter (x ∷ xs)) (x ∷ xs))
        → 0 < position_or_len is_blank (drop (position_or_len is_letter (x ∷ xs)) (x ∷ xs))
    go true e later k =
        let same = letter_place x xs true e in
        subst (λ (l : List ℕ). 0 < position_or_len is_blank l) (sym same) (later (subst (λ (l : List ℕ). 0 < length l) same k))
    go false e later k =
        let same = letter_place x xs false e in
        subst (λ (l : List ℕ). 0 < position_or_len is_blank l) (sym same)
        (subst (λ (b : Bool). 0 < cond (not b) (1 + position_or_len is_blank xs) 0) (sym e) (omega arith))

-- what stands before the first blank is the first part
record AreParts (text : List ℕ) : Type 0 where
  tail : List (List ℕ)
  split : slice_split is_blank text ≡ take (position_or_len is_blank text) text ∷ tail
  rest : filter is_some_word tail ≡ words_between (drop (position_or_len is_blank text) text)

blank_place : (x : ℕ) (xs : List ℕ) (b : Bool) → is_blank x ≡ b → position_or_len is_blank (x ∷ xs) ≡ cond (not b) (1 + position_or_len is_blank xs) 0
blank_place x xs b e = ap (λ (b : Bool). cond (not b) (1 + position_or_len is_blank xs) 0) e

parts : (text : List ℕ) → AreParts text
parts [] = record { tail = []; split = refl; rest = refl }
parts (x ∷ xs) = go (is_blank x) refl (parts xs)
  where
    go : (b : Bool) → is_blank x ≡ b → AreParts xs → AreParts (x ∷ xs)
    go true e more = record {
      tail = slice_split is_blank xs;
      split = slice_split-cons_yes is_blank x xs e
          ∙ ap (λ (n : ℕ). take n (x ∷ xs) ∷ slice_split is_blank xs) (sym (blank_place x xs true e));
      rest = sym (ap (λ (n : ℕ). words_between (drop n (x ∷ xs))) (blank_place x xs true e) ∙ blank_first x xs e);
    }
    go false e more = record {
      tail = more.tail;
      split = slice_split-cons_no is_blank x xs e ∙ rw more.split (ap (λ (w : List ℕ). w ∷ more.tail)
          (sym (ap (λ (n : ℕ). take n (x ∷ xs)) (blank_place x xs false e) ∙ take_one _ x xs)));
      rest = more.rest ∙ ap words_between (sym (ap (λ (n : ℕ). drop n (x ∷ xs)) (blank_place x xs false e) ∙ drop_one _ x xs));
    }

-- after the blanks nothing is left
pub none_left : (text rest : List ℕ) (n : ℕ) → n ≡ position_or_len is_letter text → rest ≡ drop n text → rest ≡ [] → words_between text ≡ []
none_left text rest n e d none = skip text ∙ ap (λ m. words_between (drop m text)) (sym e) ∙ ap words_between (sym d ∙ none)

front_some : (rest : List ℕ) (n : ℕ) → 0 < n → 0 < length rest → 0 < length (take n rest)
front_some [] n h k = absurd (omega (arith, k))
front_some (x ∷ xs) zero h k = absurd (omega (arith, h))
front_some (x ∷ xs) (suc n) h k = omega arith

one_word : (rest : List ℕ) → 0 < length rest → 0 < position_or_len is_blank rest
    → words_between rest ≡ take (position_or_len is_blank rest) rest ∷ words_between (drop (position_or_len is_blank rest) rest)
one_word rest some word =
    let p = parts rest in
    let kept = some_word (take (position_or_len is_blank rest) rest) (front_some rest _ word some) in
    ap (filter is_some_word) p.split ∙ rw kept (ap (λ (t : List (List ℕ)). take (position_or_len is_blank rest) rest ∷ t) p.rest)

-- the first word, and what stands behind it
pub one_more : (text rest word after : List ℕ) (n m : ℕ) → n ≡ position_or_len is_letter text → rest ≡ drop n text → 0 < length rest
    → m ≡ position_or_len is_blank rest → word ≡ take m rest → after ≡ drop m rest → words_between text ≡ word ∷ words_between after
one_more text rest word after n m e d some f g h =
    let whole : rest ≡ drop (position_or_len is_letter text) text = d ∙ ap (λ (k : ℕ). drop k text) e in
    let starting = starts text (subst (λ (r : List ℕ). 0 < length r) whole some) in
    let first = one_word rest some (subst (λ (r : List ℕ). 0 < position_or_len is_blank r) (sym whole) starting) in
    let front : word ≡ take (position_or_len is_blank rest) rest = g ∙ ap (λ (k : ℕ). take k rest) f in
    let behind : after ≡ drop (position_or_len is_blank rest) rest = h ∙ ap (λ (k : ℕ). drop k rest) f in
    skip text ∙ ap words_between (sym whole) ∙ first ∙ ap₂ (λ (w t : List ℕ). w ∷ words_between t) (sym front) (sym behind)
