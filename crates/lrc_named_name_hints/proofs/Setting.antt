-- Whether a name is set somewhere, looked for from the first token on.
use Rattle.std.proofs.Common.{◌≡◌, ◌<◌, ◌≤◌, ◌+◌, ◌-◌, ℕ, Bool, true, false, List, [], ◌∷◌, map, length, drop, get_or, refl, sym, ap, subst, ◌∙◌, arith, length-drop}
use Rattle.std.specs.Prelude.{◌||◌}
use Rattle.std.proofs.lemmas.List.{drop_more}
use Rattle.lrc_named_tokens.specs.declared.token.Located as code_located
use Rattle.lrc_named_tokens.specs.View.{lexeme_of, located_of}
use Rattle.lrc_named_name_hints.specs.Hints.{is_set_by, is_set_in}

module _ (name : List ℕ) (xs : List code_located.Located) where
  -- two tokens, one behind the other, and what comes behind
  pair_there : (p : ℕ) (d e : code_located.Located) → p + 1 < length xs
      → drop p xs ≡ get_or xs p d ∷ get_or xs (p + 1) e ∷ drop (p + 1 + 1) xs
  pair_there p d e within =
      drop_more xs p d (omega arith) ∙ ap (λ l. get_or xs p d ∷ l) (drop_more xs (p + 1) e within)

  pub set_on : (all : Bool) (p : ℕ) (d e : code_located.Located) → p + 1 < length xs → all ≡ is_set_in name (map located_of (drop p xs))
      → is_set_by name (lexeme_of (get_or xs p d).lexeme) (lexeme_of (get_or xs (p + 1) e).lexeme) ≡ false
      → all ≡ is_set_in name (map located_of (drop (p + 1) xs))
  set_on all p d e within so_far fails =
      so_far ∙ ap (λ l. is_set_in name (map located_of l)) (pair_there p d e within)
      ∙ ap (λ b. b || is_set_in name (map located_of (get_or xs (p + 1) e ∷ drop (p + 1 + 1) xs))) fails
      ∙ ap (λ l. is_set_in name (map located_of l)) (sym (drop_more xs (p + 1) e within))

  pub set_there : (all : Bool) (p : ℕ) (d e : code_located.Located) → p + 1 < length xs → all ≡ is_set_in name (map located_of (drop p xs))
      → is_set_by name (lexeme_of (get_or xs p d).lexeme) (lexeme_of (get_or xs (p + 1) e).lexeme) ≡ true → all ≡ true
  set_there all p d e within so_far passes =
      so_far ∙ ap (λ l. is_set_in name (map located_of l)) (pair_there p d e within)
      ∙ ap (λ b. b || is_set_in name (map located_of (get_or xs (p + 1) e ∷ drop (p + 1 + 1) xs))) passes

  one_left : (ys : List code_located.Located) → length ys ≤ 1 → is_set_in name (map located_of ys) ≡ false
  one_left [] h = refl
  one_left (y ∷ []) h = refl
  one_left (y ∷ z ∷ ys) h = absurd (omega arith)

  -- the same, from the place of the second one
  pub set_more : (all : Bool) (n : ℕ) (d e : code_located.Located) → 1 ≤ n → n < length xs → all ≡ is_set_in name (map located_of (drop (n - 1) xs))
      → is_set_by name (lexeme_of (get_or xs (n - 1) d).lexeme) (lexeme_of (get_or xs n e).lexeme) ≡ false
      → all ≡ is_set_in name (map located_of (drop (n + 1 - 1) xs))
  set_more all n d e some within so_far fails =
      let up : n - 1 + 1 ≡ n = omega arith in
      set_on all (n - 1) d e (omega arith) so_far
      (subst (λ m. is_set_by name (lexeme_of (get_or xs (n - 1) d).lexeme) (lexeme_of (get_or xs m e).lexeme) ≡ false) (sym up) fails)
      ∙ ap (λ m. is_set_in name (map located_of (drop m xs))) (omega arith)

  pub set_here : (all : Bool) (n : ℕ) (d e : code_located.Located) → 1 ≤ n → n < length xs → all ≡ is_set_in name (map located_of (drop (n - 1) xs))
      → is_set_by name (lexeme_of (get_or xs (n - 1) d).lexeme) (lexeme_of (get_or xs n e).lexeme) ≡ true → true ≡ all
  set_here all n d e some within so_far passes =
      let up : n - 1 + 1 ≡ n = omega arith in
      sym (set_there all (n - 1) d e (omega arith) so_far
      (subst (λ m. is_set_by name (lexeme_of (get_or xs (n - 1) d).lexeme) (lexeme_of (get_or xs m e).lexeme) ≡ true) (sym up) passes))

  pub not_set : (all : Bool) (n : ℕ) → length xs ≤ n → all ≡ is_set_in name (map located_of (drop (n - 1) xs)) → false ≡ all
  not_set all n past so_far = sym (so_far ∙ one_left (drop (n - 1) xs) (simp length-drop (omega arith)))
