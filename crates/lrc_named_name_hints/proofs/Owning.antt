-- The name that indices, or arguments, belong to, looked for from the last token back.
use Rattle.std.proofs.Common.{◌≡◌, ◌<◌, ℕ, zero, suc, Bool, true, false, cond, Option, None, List, [], ◌∷◌, map, length, get_or, refl, sym, ap, ◌∙◌, arith}
use Rattle.lrc_named_tokens.specs.declared.token.Located as code_located
use Rattle.lrc_named_tokens.specs.View.{lexeme_of, located_of}
use Rattle.lrc_named_name_hints.specs.Owner.{is_outside, lexeme_at, open_before, owner}
use Rattle.lrc_named_name_hints.specs.Seen.{name_in}

there_is : (xs : List code_located.Located) (p : ℕ) (d : code_located.Located) → p < length xs → lexeme_at (map located_of xs) p ≡ lexeme_of (get_or xs p d).lexeme
there_is [] p d lt = absurd (omega arith)
there_is (x ∷ xs) zero d lt = refl
there_is (x ∷ xs) (suc p) d lt = there_is xs p d (omega arith)

module _ (xs : List code_located.Located) (n p depth : ℕ) (d : code_located.Located) (all : Option (List ℕ)) (up : n ≡ suc p) (lt : p < length xs)
    (so_far : owner (map located_of xs) n depth ≡ all) where
  -- what is asked of the token
  abbrev asked : Bool → Option (List ℕ)
  asked b = cond b (name_in (lexeme_at (map located_of xs) p)) (owner (map located_of xs) p (open_before (lexeme_at (map located_of xs) p) depth))

  is_asked : (b : Bool) → is_outside (lexeme_of (get_or xs p d).lexeme) depth ≡ b → asked b ≡ all
  is_asked b is =
      sym (ap asked (ap (λ it. is_outside it depth) (there_is xs p d lt) ∙ is))
      ∙ ap (λ k. owner (map located_of xs) k depth) (sym up) ∙ so_far

  pub passed_over : (m next : ℕ) → m ≡ p → is_outside (lexeme_of (get_or xs p d).lexeme) depth ≡ false
      → next ≡ open_before (lexeme_of (get_or xs p d).lexeme) depth → owner (map located_of xs) m next ≡ all
  passed_over m next m_is fails is =
      ap (λ k. owner (map located_of xs) k next) m_is
      ∙ ap (owner (map located_of xs) p) (is ∙ ap (λ it. open_before it depth) (sym (there_is xs p d lt)))
      ∙ is_asked false fails

  pub name_met : is_outside (lexeme_of (get_or xs p d).lexeme) depth ≡ true → name_in (lexeme_of (get_or xs p d).lexeme) ≡ all
  name_met passes = ap name_in (sym (there_is xs p d lt)) ∙ is_asked true passes

pub none_met : (xs : List code_located.Located) (n depth : ℕ) (all : Option (List ℕ)) → n ≡ 0 → owner (map located_of xs) n depth ≡ all → None ≡ all
none_met xs n depth all none so_far = sym (ap (λ k. owner (map located_of xs) k depth) none) ∙ so_far
