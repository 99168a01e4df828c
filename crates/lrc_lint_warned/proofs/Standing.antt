-- Places of tokens, one after another.
use Rattle.std.proofs.Common.{◌≡◌, ◌∙◌, ◌<◌, ◌≤◌, ◌+◌, ℕ, ap, sym, refl, arith, List, [], ◌∷◌, ◌++◌, length, map, drop, get_or, Bool, append_assoc, append-nil, inl, inr, min, ◌⊎◌}
use Rattle.std.specs.Prelude.{cond, true, false, nat_lt as ltb}
use Rattle.std.proofs.lemmas.Bool.{ltb-false, ltb-true}
use Rattle.std.specs.List.{zip}
use Rattle.std.proofs.lemmas.List.{drop_more, drop_all, get_or_default, length-drop, length-map}
use Rattle.lrc_lang.specs.declared.token.Token as code
use Rattle.lrc_lang.specs.Parser.View.{token_of}
use Rattle.lrc_lint_warned.specs.declared.places.Scan.{Scan}
use Rattle.lrc_lint_warned.specs.Places.{is_seam, is_wanted, places_from}

place_more : (scan : Scan) (tokens : List code.Token) (i : ℕ) (x : code.Token) (whole now next : List ℕ) (behind wanted seam : Bool) → i < length tokens
    → x ≡ get_or tokens i x
    → whole ≡ now ++ places_from scan (i + 6) behind (map token_of (drop i tokens))
    → wanted ≡ is_wanted scan behind (token_of x) → seam ≡ is_seam (token_of x)
    → next ≡ now ++ cond wanted ((i + 6) ∷ []) []
    → whole ≡ next ++ places_from scan (i + 1 + 6) seam (map token_of (drop (i + 1) tokens))
place_more scan tokens i x whole now next behind wanted seam lt here is wanted_is seam_is more =
    let rest = map token_of (drop (i + 1) tokens) in
    let at : i + 6 + 1 ≡ i + 1 + 6 = omega arith in
    is
    ∙ ap (λ (l : List code.Token). now ++ places_from scan (i + 6) behind (map token_of l)) (drop_more tokens i x lt)
    ∙ ap (λ (y : code.Token). now ++ places_from scan (i + 6) behind (token_of y ∷ rest)) (sym here)
    ∙ ap (λ (b : Bool). now ++ (cond b ((i + 6) ∷ []) [] ++ places_from scan (i + 6 + 1) (is_seam (token_of x)) rest)) (sym wanted_is)
    ∙ ap (λ (b : Bool). now ++ (cond wanted ((i + 6) ∷ []) [] ++ places_from scan (i + 6 + 1) b rest)) (sym seam_is)
    ∙ ap (λ (n : ℕ). now ++ (cond wanted ((i + 6) ∷ []) [] ++ places_from scan n seam rest)) at
    ∙ sym (append_assoc now (cond wanted ((i + 6) ∷ []) []) (places_from scan (i + 1 + 6) seam rest))
    ∙ ap (λ l. l ++ places_from scan (i + 1 + 6) seam rest) (sym more)

pub place_at : (scan : Scan) (tokens : List code.Token) (i : ℕ) (d : code.Token) (whole now next : List ℕ) (behind wanted seam : Bool) → i < length tokens
    → whole ≡ now ++ places_from scan (i + 6) behind (map token_of (drop i tokens))
    → wanted ≡ is_wanted scan behind (token_of (get_or tokens i d)) → seam ≡ is_seam (token_of (get_or tokens i d))
    → next ≡ now ++ cond wanted ((i + 6) ∷ []) []
    → whole ≡ next ++ places_from scan (i + 1 + 6) seam (map token_of (drop (i + 1) tokens))
place_at scan tokens i d whole now next behind wanted seam lt is wanted_is seam_is more =
    place_more scan tokens i (get_or tokens i d) whole now next behind wanted seam lt (get_or_default tokens i d (get_or tokens i d) lt) is wanted_is seam_is more

pub place_all : (scan : Scan) (tokens : List code.Token) (i : ℕ) (whole now : List ℕ) (behind : Bool) → length tokens ≤ i
    → whole ≡ now ++ places_from scan (i + 6) behind (map token_of (drop i tokens)) → now ≡ whole
place_all scan tokens i whole now behind past is =
    sym (is ∙ ap (λ (l : List code.Token). now ++ places_from scan (i + 6) behind (map token_of l)) (drop_all i tokens past) ∙ append-nil now)

-- what is joined of two lists, one item after another
zip_none : {A B : Type 0} (xs : List A) (ys : List B) → (length xs ≡ 0) ⊎ (length ys ≡ 0) → zip xs ys ≡ []
zip_none [] ys none = refl
zip_none (x ∷ xs) [] none = refl
zip_none (x ∷ xs) (y ∷ ys) (inl h) = absurd (omega (arith, h))
zip_none (x ∷ xs) (y ∷ ys) (inr h) = absurd (omega (arith, h))

module _ {A B C D : Type 0} (make : A × B → D) (seen : C → B) (places : List A) (all : List C) where
  pub zip_more : (i : ℕ) (d : A) (e : C) (whole now next : List D) → i < length places → i < length all
      → whole ≡ now ++ map make (zip (drop i places) (map seen (drop i all))) → next ≡ now ++ make (get_or places i d, seen (get_or all i e)) ∷ []
      → whole ≡ next ++ map make (zip (drop (i + 1) places) (map seen (drop (i + 1) all)))
  zip_more i d e whole now next lt lt_all is more =
      is
      ∙ ap (λ (l : List A). now ++ map make (zip l (map seen (drop i all)))) (drop_more places i d lt)
      ∙ ap (λ (l : List C). now ++ map make (zip (get_or places i d ∷ drop (i + 1) places) (map seen l))) (drop_more all i e lt_all)
      ∙ sym (append_assoc now (make (get_or places i d, seen (get_or all i e)) ∷ []) (map make (zip (drop (i + 1) places) (map seen (drop (i + 1) all)))))
      ∙ ap (λ l. l ++ map make (zip (drop (i + 1) places) (map seen (drop (i + 1) all)))) (sym more)

  pub zip_all : (i : ℕ) (whole now : List D) → (length places ≤ i) ⊎ (length all ≤ i)
      → whole ≡ now ++ map make (zip (drop i places) (map seen (drop i all))) → now ≡ whole
  zip_all i whole now past is =
      sym (is ∙ ap (λ l. now ++ map make l) (zip_none (drop i places) (map seen (drop i all)) (empty past)) ∙ append-nil now)
    where
      empty : (length places ≤ i) ⊎ (length all ≤ i) → (length (drop i places) ≡ 0) ⊎ (length (map seen (drop i all)) ≡ 0)
      empty (inl h) = inl (omega (arith, length-drop i places, h))
      empty (inr h) = inr (omega (arith, length-map (drop i all) seen, length-drop i all, h))

pub past_either : (m n i : ℕ) → min m n ≤ i → (m ≤ i) ⊎ (n ≤ i)
past_either m n i h = by (ltb i m) refl
  where
    by : (b : Bool) → ltb i m ≡ b → (m ≤ i) ⊎ (n ≤ i)
    by true lt = inr (omega (arith, h, ltb-true i m lt))
    by false le = inl (ltb-false i m le)
