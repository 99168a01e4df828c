-- Tokens that are marked one after the other, and declaration by declaration.
use Rattle.std.proofs.Common.{◌≡◌, ◌∙◌, ◌<◌, ◌≤◌, ◌+◌, ◌&&◌, ◌||◌, ℕ, Bool, true, false, List, inl, inr, length, map, drop, get_or, set, refl, sym, ap, subst, arith}
use Rattle.std.specs.Prelude.{nat_le}
use Rattle.std.specs.List.{list_any}
use Rattle.std.proofs.lemmas.Bool.{cases_order, leb-false, leb-true}
use Rattle.std.proofs.lemmas.List.{drop_all, get_or_read, get_or-set_other, get_or-set_same, length-set}
use Rattle.lrc_named_tokens.specs.declared.token.Located as code_located
use Rattle.lrc_named_tokens.specs.Token.{Lexeme, bad_byte, bad_number, finish, keyword, name, number, sign, token}
use Rattle.lrc_named_tokens.specs.View.{lexeme_of}
use Rattle.lrc_named_tree.specs.declared.tree.Declaration as code_declaration
use Rattle.lrc_named_tree.specs.Tree.{Declaration, Expression, Named, function}
use Rattle.lrc_named_tree.specs.Ends.{last_of}
use Rattle.lrc_named_tree.specs.View.{declaration_of}
use Rattle.lrc_named_constants.specs.Well.{bytes_of}
use Rattle.lrc_named_uses.specs.Shadows.{AreShadows, IsMarked, is_in, is_shadow_of}
use Rattle.lrc_named_uses.specs.Unused.{is_parameter_of}
use Rattle.lrc_named_uses.proofs.Finding.{from_here}

-- ---- from the first token to the last

-- those of the tokens from the first one to before i that are among the names are marked
pub record IsPartMarked (tokens : List code_located.Located) (names : List (List ℕ)) (first last i : ℕ) (old new : List Bool) : Type 0 where
  pub long : length new ≡ length old
  pub behind : (k : ℕ) (t : code_located.Located) → first ≤ k → k < i → k < length tokens
      → get_or new k false ≡ (get_or old k false || is_in names (lexeme_of (get_or tokens k t).lexeme))
  pub before : (k : ℕ) → k < first → get_or new k false ≡ get_or old k false
  pub ahead : (k : ℕ) → i ≤ k → get_or new k false ≡ get_or old k false
  pub outside : (k : ℕ) → last < k → get_or new k false ≡ get_or old k false

or_true : (b : Bool) → true ≡ (b || true)
or_true true = refl
or_true false = refl

or_false : (b : Bool) → b ≡ (b || false)
or_false true = refl
or_false false = refl

module _ (tokens : List code_located.Located) (names : List (List ℕ)) (first last i : ℕ) (old new : List Bool) (x : code_located.Located) where
  -- the token at i is one of them
  pub part_hit : IsPartMarked tokens names first last i old new → first ≤ i → i ≤ last → i < length tokens → length old ≡ length tokens → x ≡ get_or tokens i x
      → is_in names (lexeme_of x.lexeme) ≡ true → IsPartMarked tokens names first last (i + 1) old (set new i true)
  part_hit h low high within many is hit = record {
    long = length-set new i true ∙ h.long;
    behind = λ k t from below inside. elim (cases_order k i) [
      | inl same ↦ subst (λ n. get_or (set new i true) n false ≡ (get_or old n false || is_in names (lexeme_of (get_or tokens n t).lexeme))) (sym same)
          (get_or-set_same new i true false (omega (arith, within, many, h.long))
          ∙ or_true (get_or old i false)
          ∙ ap (λ b. get_or old i false || b) (sym (ap (λ (y : code_located.Located). is_in names (lexeme_of y.lexeme)) (sym (get_or_read tokens i x within is t)) ∙ hit)))
      | inr (inl less) ↦ get_or-set_other new i k true false (λ same. omega (arith, same, less)) ∙ h.behind k t from less inside
      | inr (inr more) ↦ absurd (omega (arith, below, more))
    ];
    before = λ k below. get_or-set_other new i k true false (λ same. omega (arith, same, below, low)) ∙ h.before k below;
    ahead = λ k past. get_or-set_other new i k true false (λ same. omega (arith, same, past)) ∙ h.ahead k (omega (arith, past));
    outside = λ k past. get_or-set_other new i k true false (λ same. omega (arith, same, past, high)) ∙ h.outside k past;
  }

  -- it is none of them
  pub part_miss : IsPartMarked tokens names first last i old new → i < length tokens → x ≡ get_or tokens i x
      → is_in names (lexeme_of x.lexeme) ≡ false → IsPartMarked tokens names first last (i + 1) old new
  part_miss h within is miss = record {
    long = h.long;
    behind = λ k t from below inside. elim (cases_order k i) [
      | inl same ↦ subst (λ n. get_or new n false ≡ (get_or old n false || is_in names (lexeme_of (get_or tokens n t).lexeme))) (sym same)
          (h.ahead i (omega arith)
          ∙ or_false (get_or old i false)
          ∙ ap (λ b. get_or old i false || b) (sym (ap (λ (y : code_located.Located). is_in names (lexeme_of y.lexeme)) (sym (get_or_read tokens i x within is t)) ∙ miss)))
      | inr (inl less) ↦ h.behind k t from less inside
      | inr (inr more) ↦ absurd (omega (arith, below, more))
    ];
    before = h.before;
    ahead = λ k past. h.ahead k (omega (arith, past));
    outside = h.outside;
  }

between_by : (b c old new hit : Bool) → (b ≡ true → c ≡ true → new ≡ (old || hit)) → (b ≡ false → new ≡ old) → (c ≡ false → new ≡ old)
    → new ≡ (old || ((b && c) && hit))
between_by true true old new hit inside before behind = inside refl refl
between_by true false old new hit inside before behind = behind refl ∙ or_false old
between_by false c old new hit inside before behind = before refl ∙ or_false old

-- all tokens to the last one
pub part_whole : (tokens : List code_located.Located) (names : List (List ℕ)) (first last i : ℕ) (old new : List Bool) → IsPartMarked tokens names first last i old new
    → ((k : ℕ) → k ≤ last → k < length tokens → k < i)
    → IsMarked tokens (λ at lexeme. (nat_le first at && nat_le at last) && is_in names lexeme) old new
part_whole tokens names first last i old new h covers = (
  h.long,
  λ k t inside.
      between_by (nat_le first k) (nat_le k last) (get_or old k false) (get_or new k false) (is_in names (lexeme_of (get_or tokens k t).lexeme))
      (λ b c. h.behind k t (leb-true first k b) (covers k (leb-true k last c) inside) inside)
      (λ b. h.before k (leb-false first k b))
      (λ c. h.outside k (leb-false k last c)),
)

-- ---- the tokens of a function

or_assoc : (a b c : Bool) → ((a || b) || c) ≡ (a || (b || c))
or_assoc true b c = refl
or_assoc false b c = refl

and_false : (b : Bool) → (b && false) ≡ false
and_false true = refl
and_false false = refl

module _ (at k : ℕ) (named : Named) (parameters : List Named) (body : Expression) where
  abbrev inside : Bool
  inside = nat_le named.at k && nat_le k (last_of body)

  -- one of the parameters, inside
  pub same_test : (lexeme : Lexeme) → (inside && is_in (bytes_of parameters) lexeme) ≡ is_shadow_of k lexeme (function at named parameters body)
  same_test (token (name bytes)) = refl
  same_test (token (number n)) = and_false inside
  same_test (token (keyword _)) = and_false inside
  same_test (token (sign mark)) = and_false inside
  same_test (token finish) = and_false inside
  same_test bad_byte = and_false inside
  same_test bad_number = and_false inside

-- a test that passes where the other does
pub marked_same : (tokens : List code_located.Located) (f g : ℕ → Lexeme → Bool) (old new : List Bool) → ((k : ℕ) (lexeme : Lexeme) → f k lexeme ≡ g k lexeme)
    → IsMarked tokens f old new → IsMarked tokens g old new
marked_same tokens f g old new same h =
    (h.0, λ k t inside. h.1 k t inside ∙ ap (λ b. get_or old k false || b) (same k (lexeme_of (get_or tokens k t).lexeme)))

-- a declaration without parameters
no_shadow : (k : ℕ) (d : Declaration) → ((bytes : List ℕ) → is_parameter_of k bytes d ≡ false) → (lexeme : Lexeme) → is_shadow_of k lexeme d ≡ false
no_shadow k d none (token (name bytes)) = none bytes
no_shadow k d none (token (number n)) = refl
no_shadow k d none (token (keyword _)) = refl
no_shadow k d none (token (sign mark)) = refl
no_shadow k d none (token finish) = refl
no_shadow k d none bad_byte = refl
no_shadow k d none bad_number = refl

pub marked_none : (tokens : List code_located.Located) (d : Declaration) (old : List Bool) → ((k : ℕ) (bytes : List ℕ) → is_parameter_of k bytes d ≡ false)
    → IsMarked tokens (λ at lexeme. is_shadow_of at lexeme d) old old
marked_none tokens d old none = (
  refl,
  λ k t inside. or_false (get_or old k false) ∙ ap (λ b. get_or old k false || b) (sym (no_shadow k d (none k) (lexeme_of (get_or tokens k t).lexeme))),
)

-- ---- declaration by declaration

module _ (tokens : List code_located.Located) (declarations : List code_declaration.Declaration) where
  abbrev shadowed_from : ℕ → ℕ → Lexeme → Bool
  shadowed_from i k lexeme = list_any (is_shadow_of k lexeme) (map declaration_of (drop i declarations))

  -- what is marked, and what the declarations from the one at i on mark, is all
  pub record AreShadowsFrom (i : ℕ) (shadows : List Bool) : Type 0 where
    pub long : length shadows ≡ length tokens
    pub all : (k : ℕ) (t : code_located.Located) → k < length tokens
        → (get_or shadows k false || list_any (is_shadow_of k (lexeme_of (get_or tokens k t).lexeme)) (map declaration_of (drop i declarations)))
        ≡ list_any (is_shadow_of k (lexeme_of (get_or tokens k t).lexeme)) (map declaration_of declarations)

  pub shadows_more : (i : ℕ) (d : code_declaration.Declaration) (old new : List Bool) → i < length declarations → d ≡ get_or declarations i d → AreShadowsFrom i old
      → IsMarked tokens (λ at lexeme. is_shadow_of at lexeme (declaration_of d)) old new → AreShadowsFrom (i + 1) new
  shadows_more i d old new lt is h marked =
      record {
        long = marked.0 ∙ h.long;
        all = λ k t inside.
            let lexeme = lexeme_of (get_or tokens k t).lexeme in
            let own = is_shadow_of k lexeme (declaration_of d) in
            let rest = shadowed_from (i + 1) k lexeme in
            ap (λ b. b || rest) (marked.1 k t inside)
            ∙ or_assoc (get_or old k false) own rest
            ∙ ap (λ b. get_or old k false || b)
            (ap (λ (y : code_declaration.Declaration). is_shadow_of k lexeme (declaration_of y) || rest) is
            ∙ sym (from_here declaration_of (is_shadow_of k lexeme) declarations i d lt))
            ∙ h.all k t inside;
      }

  pub shadows_all : (i : ℕ) (shadows : List Bool) → length declarations ≤ i → AreShadowsFrom i shadows → AreShadows tokens (map declaration_of declarations) shadows
  shadows_all i shadows past h = (
    h.long,
    λ k t inside.
        let lexeme = lexeme_of (get_or tokens k t).lexeme in
        or_false (get_or shadows k false)
        ∙ ap (λ (l : List code_declaration.Declaration). get_or shadows k false || list_any (is_shadow_of k lexeme) (map declaration_of l)) (sym (drop_all i declarations past))
        ∙ h.all k t inside,
  )
