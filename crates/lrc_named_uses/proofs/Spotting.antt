-- Where names are used, from the last token to the first.
use Rattle.std.proofs.Common.{◌≡◌, ◌∙◌, ◌<◌, ◌≤◌, ◌+◌, ◌-◌, ◌&&◌, ◌||◌, ℕ, Bool, true, false, not, Option, Some, None, List, [], ◌∷◌, Bor, length, map, drop, get_or, refl, sym, ap, subst, arith}
use Rattle.std.specs.Prelude.{◌==◌, cond, if◌then◌else◌}
use Rattle.std.specs.Cmp.Lexicographic.{bytes_decides}
use Rattle.std.specs.HashMap as hash
use Rattle.std.specs.HashMap.{HashMap}
use Rattle.std.specs.List.{enumerate_from, list_any}
use Rattle.std.specs.Str.{bytes_eq}
use Rattle.std.proofs.lemmas.Bool.{eqb-false, eqb-true}
use Rattle.std.proofs.lemmas.List.{get_or_read}
use Rattle.lrc_named_tokens.specs.declared.token.Located as code_located
use Rattle.lrc_named_tokens.specs.Token.{Lexeme, Located, bad_byte, bad_number, finish, keyword, name, number, sign, token}
use Rattle.lrc_named_tokens.specs.View.{lexeme_of, located_of}
use Rattle.lrc_named_tree.specs.Tree.{Declaration, Named}
use Rattle.lrc_named_entries.specs.Entry.{Entry}
use Rattle.lrc_named_uses.specs.declared.spots.Spots.{Spots}
use Rattle.lrc_named_uses.specs.declared.spots.Spots.TheVariants.{One, More}
use Rattle.lrc_named_uses.specs.Names.{is_name}
use Rattle.lrc_named_uses.specs.Shadows.{AreShadows, is_shadow_of}
use Rattle.lrc_named_uses.specs.Spots.{AddsSpot, AreSpots, is_elsewhere, is_found, unless_found, with_spot}
use Rattle.lrc_named_uses.specs.Unused.{is_parameter, is_use, unless_used}
use Rattle.lrc_named_uses.proofs.Finding.{numbered_here}

-- ---- one token more

or_false : (b : Bool) → b ≡ (b || false)
or_false true = refl
or_false false = refl

or_true : (b : Bool) → true ≡ (b || true)
or_true true = refl
or_true false = refl

or_same : (b : Bool) → b ≡ (b || b)
or_same true = refl
or_same false = refl

-- two tokens, one of which is not this
one_apart : (other at here : ℕ) (x y : Bool) → (other ≡ at → ⊥) → (at == here) ≡ x → (other == here) ≡ y → true ≡ (not x || not y)
one_apart other at here true true apart a b = absurd (apart (eqb-true other here b ∙ sym (eqb-true at here a)))
one_apart other at here true false apart a b = refl
one_apart other at here false y apart a b = refl

one_more : (other at here : ℕ) (same : Bool) → (other == at) ≡ same → is_elsewhere (Some (if same then One at else More)) here ≡ (not (at == here) || not (other == here))
one_more other at here true e =
    or_same (not (at == here)) ∙ ap (λ n. not (at == here) || not (n == here)) (sym (eqb-true other at e))
one_more other at here false e = one_apart other at here (at == here) (other == here) (eqb-false other at e) refl refl

elsewhere_more : (before : Option Spots) (at here : ℕ) → is_elsewhere (Some (with_spot before at)) here ≡ (not (at == here) || is_elsewhere before here)
elsewhere_more None at here = or_false (not (at == here))
elsewhere_more (Some (One other)) at here = one_more other at here (other == at) refl
elsewhere_more (Some More) at here = or_true (not (at == here))

-- a name that is put at a token more
put_by : (same : Bool) (own bytes : List ℕ) (at here : ℕ) (f : List ℕ → Option Spots) → bytes_eq own bytes ≡ same
    → is_elsewhere (cond same (Some (with_spot (f own) at)) (f bytes)) here ≡ ((same && not (at == here)) || is_elsewhere (f bytes) here)
put_by true own bytes at here f e =
    elsewhere_more (f own) at here ∙ ap (λ b. not (at == here) || is_elsewhere (f b) here) ((bytes_decides own bytes).0 e)
put_by false own bytes at here f e = refl

pub adds : {S : Type 0} (own : List ℕ) (at : ℕ) (old new : HashMap (Bor (List ℕ)) Spots S)
    → ((q : Bor (List ℕ)) → hash.get_by (λ key. bytes_eq q.now key.now) new
    ≡ cond (bytes_eq own q.now) (Some (with_spot (hash.get_by (λ key. bytes_eq own key.now) old) at)) (hash.get_by (λ key. bytes_eq q.now key.now) old))
    → AddsSpot (λ bytes. bytes_eq own bytes) at old new
adds own at old new updates named =
    ap (λ f. is_elsewhere f named.at) (updates (record { ref_ptr = (0, 0); now = named.bytes }))
    ∙ put_by (bytes_eq own named.bytes) own named.bytes at named.at (λ bytes. hash.get_by (λ key. bytes_eq bytes key.now) old) refl

-- ---- a token that is a parameter where it stands, and one that is none

open_by : (same c : Bool) (own bytes : List ℕ) (at : ℕ) (declarations : List Declaration) → bytes_eq own bytes ≡ same → is_parameter declarations at own ≡ false
    → (same && c) ≡ (same && c && not (is_parameter declarations at bytes))
open_by true true own bytes at declarations e none =
    ap not (sym (subst (λ b. is_parameter declarations at b ≡ false) ((bytes_decides own bytes).0 e) none))
open_by true false own bytes at declarations e none = refl
open_by false c own bytes at declarations e none = refl

pub open_use : (declarations : List Declaration) (named : Named) (at : ℕ) (lexeme : Lexeme) → list_any (is_shadow_of at lexeme) declarations ≡ false
    → (is_name named.bytes lexeme && not (at == named.at)) ≡ is_use declarations named at lexeme
open_use declarations named at (token (name own)) none = open_by (bytes_eq own named.bytes) (not (at == named.at)) own named.bytes at declarations refl none
open_use declarations named at (token (number n)) none = refl
open_use declarations named at (token (keyword _)) none = refl
open_use declarations named at (token (sign mark)) none = refl
open_use declarations named at (token finish) none = refl
open_use declarations named at bad_byte none = refl
open_use declarations named at bad_number none = refl

shaded_by : (same c : Bool) (own bytes : List ℕ) (at : ℕ) (declarations : List Declaration) → bytes_eq own bytes ≡ same → is_parameter declarations at own ≡ true
    → (same && c && not (is_parameter declarations at bytes)) ≡ false
shaded_by true true own bytes at declarations e some =
    ap not (subst (λ b. is_parameter declarations at b ≡ true) ((bytes_decides own bytes).0 e) some)
shaded_by true false own bytes at declarations e some = refl
shaded_by false c own bytes at declarations e some = refl

pub shaded_use : (declarations : List Declaration) (named : Named) (at : ℕ) (lexeme : Lexeme) → list_any (is_shadow_of at lexeme) declarations ≡ true
    → is_use declarations named at lexeme ≡ false
shaded_use declarations named at (token (name own)) some = shaded_by (bytes_eq own named.bytes) (not (at == named.at)) own named.bytes at declarations refl some
shaded_use declarations named at (token (number n)) some = refl
shaded_use declarations named at (token (keyword _)) some = refl
shaded_use declarations named at (token (sign mark)) some = refl
shaded_use declarations named at (token finish) some = refl
shaded_use declarations named at bad_byte some = refl
shaded_use declarations named at bad_number some = refl

-- ---- from the last token on

-- what follows from any item of a list that has one
some_one : {A : Type 0} (P : Type 0) (xs : List A) → 0 < length xs → (A → P) → P
some_one P [] some f = absurd (omega (arith, some))
some_one P (x ∷ xs) some f = f x

module _ (tokens : List code_located.Located) (declarations : List Declaration) where
  abbrev used_from : Named → ℕ → Bool
  used_from named i = list_any (λ (at : ℕ × Located). is_use declarations named at.0 at.1.lexeme) (enumerate_from i (map located_of (drop i tokens)))

  -- the names that are found are those that the tokens from the one at i on use
  abbrev pub AreSpotsFrom : ℕ → (Named → Bool) → Type 0
  AreSpotsFrom i found =
      (named : Named) → found named ≡ list_any (λ (at : ℕ × Located). is_use declarations named at.0 at.1.lexeme) (enumerate_from i (map located_of (drop i tokens)))

  module _ (i : ℕ) (d : code_located.Located) (some : 0 < i) (within : i ≤ length tokens) where
    abbrev here : Lexeme
    here = lexeme_of (get_or tokens (i - 1) d).lexeme

    more_by : (old new : Named → Bool) → ((named : Named) → new named ≡ (is_use declarations named (i - 1) here || old named)) → AreSpotsFrom i old → AreSpotsFrom (i - 1) new
    more_by old new more h named =
        let back : i - 1 + 1 ≡ i = omega (arith, some) in
        more named
        ∙ ap (λ b. is_use declarations named (i - 1) here || b) (h named ∙ ap (used_from named) (sym back))
        ∙ sym (numbered_here located_of (λ (at : ℕ × Located). is_use declarations named at.0 at.1.lexeme) tokens (i - 1) d (omega (arith, some, within)))

    module _ (shadows : List Bool) (shade : Bool) (are : AreShadows tokens declarations shadows) (reads : shade ≡ get_or shadows (i - 1) shade) where
      shaded : list_any (is_shadow_of (i - 1) here) declarations ≡ shade
      shaded =
          let long = are.0 in
          sym (are.1 (i - 1) d (omega (arith, some, within))) ∙ sym (get_or_read shadows (i - 1) shade (omega (arith, some, within, long)) reads false)

      pub spots_more : {S : Type 0} (old new : HashMap (Bor (List ℕ)) Spots S) → shade ≡ false → AddsSpot (λ bytes. is_name bytes here) (i - 1) old new
          → AreSpotsFrom i (is_found old) → AreSpotsFrom (i - 1) (is_found new)
      spots_more old new is_open puts h =
          more_by (is_found old) (is_found new)
          (λ named. puts named ∙ ap (λ b. b || is_found old named) (open_use declarations named (i - 1) here (shaded ∙ is_open))) h

      same_with : {S : Type 0} (old : HashMap (Bor (List ℕ)) Spots S) → shade ≡ true → AreSpotsFrom i (is_found old) → AreSpotsFrom (i - 1) (is_found old)
      same_with old is_shaded h =
          more_by (is_found old) (is_found old) (λ named. ap (λ b. b || is_found old named) (sym (shaded_use declarations named (i - 1) here (shaded ∙ is_shaded)))) h

  pub spots_same : {S : Type 0} (i : ℕ) → 0 < i → i ≤ length tokens → (shadows : List Bool) (shade : Bool) → AreShadows tokens declarations shadows
      → shade ≡ get_or shadows (i - 1) shade → (old : HashMap (Bor (List ℕ)) Spots S) → shade ≡ true → AreSpotsFrom i (is_found old) → AreSpotsFrom (i - 1) (is_found old)
  spots_same i some within shadows shade are reads old is_shaded h =
      some_one (AreSpotsFrom (i - 1) (is_found old)) tokens (omega (arith, some, within))
      (λ d. same_with i d some within shadows shade are reads old is_shaded h)

-- ---- an entry that nothing uses

pub found_same : {S : Type 0} (tokens : List Located) (declarations : List Declaration) (spots : HashMap (Bor (List ℕ)) Spots S) (entry : Entry) → AreSpots tokens declarations spots
    → unless_found spots entry ≡ unless_used tokens declarations entry
found_same tokens declarations spots entry are = ap (λ b. if b then [] else entry ∷ []) (are entry.name)
