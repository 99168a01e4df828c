-- No tokens are those of two lists of statements.
use Rattle.std.proofs.Common.{◌≡◌, ℕ, List, [], ◌∷◌, Some, refl, sym, subst, ◌∙◌}
use Rattle.lrc_named_tokens.specs.Token.{Token, finish}
use Rattle.lrc_named_tree.specs.Tree.{Block}
use Rattle.lrc_named_tree.specs.Tree as tree
use Rattle.lrc_named_tree.specs.Grammar.{Numbered, on, AreStatements}
use Rattle.lrc_named_expression.proofs.Options.{none_some, some_same}
use Rattle.lrc_named_statement.specs.Body.{Body, start, body_with, whole_of}
use Rattle.lrc_named_statement.proofs.Foreign.{body_refused}
use Rattle.lrc_named_statement.proofs.From.{Completes, all_ends, split_statements}
use Rattle.lrc_named_statement.proofs.Turns.{Turns, goes, ends, turns}

next_turn : (b : Body) {c : Body} {r : Block} {i : ℕ} {t : Token} {all : List Numbered} →
    body_with b i t ≡ Some c → Turns (body_with b) (whole_of b) r (on i t ∷ all) → Completes c r all
next_turn b {r = r} {all = all} q (goes d e k) = subst (λ s. Completes s r all) (some_same (sym e ∙ q)) k
next_turn b q (ends {last = last} v) = absurd (none_some (sym (body_refused b last) ∙ q))

both_end : (b : Body) {r s : Block} {last : ℕ} → whole_of b ≡ Some r → Turns (body_with b) (whole_of b) s (on last finish ∷ []) → r ≡ s
both_end b {last = last} v (goes c q k) = absurd (none_some (sym (body_refused b last) ∙ q))
both_end b v (ends w) = some_same (sym v ∙ w)

both_turn : (b : Body) {r s : Block} {all : List Numbered} → Turns (body_with b) (whole_of b) r all → Turns (body_with b) (whole_of b) s all →
    ((c : Body) (i : ℕ) (t : Token) (more : List Numbered) → all ≡ on i t ∷ more → Completes c r more → Completes c s more → r ≡ s) → r ≡ s
both_turn b (goes {i = i} {t = t} {all = more} c q k) other later = later c i t more refl k (next_turn b q other)
both_turn b (ends {last = last} v) other later = both_end b v other

tail_of : {one other : Numbered} {all more : List Numbered} → one ∷ all ≡ other ∷ more → all ≡ more
tail_of q = cc

no_tail : {one : Numbered} {more : List Numbered} → [] ≡ one ∷ more → ⊥
no_tail q = cc

one_of : (all : List Numbered) (b : Body) (r s : Block) → Completes b r all → Completes b s all → r ≡ s
one_of [] b r s k m = both_turn b (turns b k) (turns b m) (λ c i t more q a d. absurd (no_tail q))
one_of (first ∷ all) b r s k m =
    both_turn b (turns b k) (turns b m)
    (λ c i t more q a d. one_of all c r s (subst (Completes c r) (sym (tail_of q)) a) (subst (Completes c s) (sym (tail_of q)) d))

begun : {b : Block} {last : ℕ} {all : List Numbered} → AreStatements b all (on last finish ∷ []) → Completes start b all
begun ds = split_statements tree.empty ds (all_ends refl)

pub one_tree : (b c : Block) (all : List Numbered) (last other : ℕ) → AreStatements b all (on last finish ∷ []) →
    AreStatements c all (on other finish ∷ []) → b ≡ c
one_tree b c all last other d e = one_of all start b c (begun d) (begun e)
