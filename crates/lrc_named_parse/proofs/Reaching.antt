-- The parser's state behind some tokens says which programs begin with them.
use Rattle.std.proofs.Common.{◌≡◌, ℕ, ◌+◌, List, [], ◌∷◌, ◌++◌, Some, None, fold, length, refl, sym, subst, ◌∙◌, append_assoc, length-append}
use Rattle.lrc_named_tokens.specs.Token.{Token}
use Rattle.lrc_named_tree.specs.Tree.{NamedTree}
use Rattle.lrc_named_tree.specs.Grammar.{Numbered, on, numbered, IsNamedProgram}
use Rattle.lrc_named_expression.proofs.Options.{none_some, some_same}
use Rattle.lrc_named_parse.specs.Faults.{IsUnexpected}
use Rattle.lrc_named_parse.specs.State as state
use Rattle.lrc_named_parse.specs.State.{State, state_with, program_in}
use Rattle.lrc_named_parse.proofs.From.{Completes}
use Rattle.lrc_named_parse.proofs.Turns.{Turns, goes, ends, turns}
use Rattle.lrc_named_parse.proofs.Back.{back}
use Rattle.lrc_named_parse.proofs.Completed.{completion, completed}
use Rattle.lrc_named_parse.proofs.Split.{from_start, to_start}

pub fold-append : {A B : Type 0} (f : B → A → B) (a : B) (xs ys : List A) → fold f a (xs ++ ys) ≡ fold f (fold f a xs) ys
fold-append f a [] ys = refl
fold-append f a (x ∷ xs) ys = fold-append f (f a x) xs ys

-- Behind these tokens the parser is in this state: what completes the one completes the other.
pub record Reaches (before : List Token) (s : State) : Type 0 where
  pub forwards : (p : NamedTree) (rest : List Token) → IsNamedProgram p (before ++ rest) → Completes s p (numbered (length before) rest)
  pub backwards : (p : NamedTree) (rest : List Token) → Completes s p (numbered (length before) rest) → IsNamedProgram p (before ++ rest)

pub Reaches-start : Reaches [] state.start
Reaches-start = record {
  forwards = λ p rest d. from_start d;
  backwards = λ p rest k. to_start k;
}

next_turn : (s : State) {t : State} {p : NamedTree} {i : ℕ} {u : Token} {all : List Numbered} →
    state_with s i u ≡ Some t → Turns (state_with s) (program_in s) p (on i u ∷ all) → Completes t p all
next_turn s {p = p} {all = all} q (goes v r k) = subst (λ u. Completes u p all) (some_same (sym r ∙ q)) k

refused_turn : (s : State) {p : NamedTree} {i : ℕ} {u : Token} {all : List Numbered} →
    state_with s i u ≡ None → Turns (state_with s) (program_in s) p (on i u ∷ all) → ⊥
refused_turn s q (goes v r k) = none_some (sym q ∙ r)

-- one more token
pub Reaches-push : (before : List Token) (s : State) (t : Token) {next : State} →
    Reaches before s → state_with s (length before) t ≡ Some next → Reaches (before ++ t ∷ []) next
Reaches-push before s t {next} r q = record {
  forwards = λ p rest d.
      let k = r.forwards p (t ∷ rest) (subst (λ tokens. IsNamedProgram p tokens) (append_assoc before (t ∷ []) rest) d) in
      subst (λ n. Completes next p (numbered n rest)) (sym (length-append before (t ∷ []))) (next_turn s q (turns s k));
  backwards = λ p rest k.
      let here = subst (λ n. Completes next p (numbered n rest)) (length-append before (t ∷ [])) k in
      let d = r.backwards p (t ∷ rest) (back s (length before) t p (numbered (length before + 1) rest) q here) in
      subst (λ tokens. IsNamedProgram p tokens) (sym (append_assoc before (t ∷ []) rest)) d;
}

-- a token that the parser refuses is one that no program has there
pub refused-IsUnexpected : (before : List Token) (s : State) (t : Token) →
    Reaches before s → state_with s (length before) t ≡ None → IsUnexpected before t
refused-IsUnexpected before s t r q rest p d = refused_turn s q (turns s (r.forwards p (t ∷ rest) d))

-- and one that the parser takes is one that some program has there
pub taken-IsUnexpected : (before : List Token) (s : State) (t : Token) {next : State} →
    Reaches before s → state_with s (length before) t ≡ Some next → IsUnexpected before t → ⊥
taken-IsUnexpected before s t {next} r q unexpected =
    let c = completed (length before + 1) next in
    unexpected (completion next) c.0 (r.backwards c.0 (t ∷ completion next) (back s (length before) t c.0 _ q c.1))

-- ---- no tokens are those of two programs

both_turn : (s : State) {p q : NamedTree} {all : List Numbered} → ((t : State) → Completes t p all → Completes t q all → p ≡ q) →
    (i : ℕ) (u : Token) → Turns (state_with s) (program_in s) p (on i u ∷ all) → Turns (state_with s) (program_in s) q (on i u ∷ all) → p ≡ q
both_turn s {q = q} {all = all} same i u (goes t r k) (goes v w m) = same t k (subst (λ s. Completes s q all) (some_same (sym w ∙ r)) m)

both_end : (s : State) {p q : NamedTree} → Turns (state_with s) (program_in s) p [] → Turns (state_with s) (program_in s) q [] → p ≡ q
both_end s (ends e) (ends f) = sym e ∙ f

completes_one : (all : List Numbered) (s : State) (p q : NamedTree) → Completes s p all → Completes s q all → p ≡ q
completes_one [] s p q k m = both_end s (turns s k) (turns s m)
completes_one (first ∷ all) s p q k m =
    both_turn s (λ t k m. completes_one all t p q k m) first.index first.token (turns s k) (turns s m)

pub one_program : (tokens : List Token) (p q : NamedTree) → IsNamedProgram p tokens → IsNamedProgram q tokens → p ≡ q
one_program tokens p q d e = completes_one _ state.start p q (from_start d) (from_start e)
