-- Statements that come behind others by a rule.
use Rattle.std.proofs.Common.{◌≡◌, ℕ, ◌+◌, ◌<◌, Some, List, [], ◌∷◌, ◌++◌, length, get_or, take, append_assoc, sym, ap, subst, ◌∙◌, add-one, true, false}
use Rattle.std.proofs.Math.Seq.{take-suc}
use Rattle.lrc_named_tree.specs.Tree.{Expressions, Place, none, more}
use Rattle.lrc_named_tree.specs.Tree as tree
use Rattle.lrc_named_tree.specs.declared.tree.Expression as code_expression
use Rattle.lrc_named_tree.specs.View.{expressions_of}
use Rattle.lrc_named_tree.specs.View as trees
use Rattle.lrc_named_names.specs.Names.{Item, Meaning, Declared, meaning_of}
use Rattle.lrc_named_constants.proofs.Each.{with_last, expressions_of-push}
use Rattle.lrc_named_core.specs.declared.tree.Statement.{Statement}
use Rattle.lrc_named_core.specs.View.{statement_of}
use Rattle.lrc_named_core.specs.Tree.{Expression, private, Origin, assign, acquire, release, print, Block, only, next, behind, has_division}
use Rattle.lrc_named_translation.specs.Added.{IsAdded}
use Rattle.lrc_named_address.specs.Address.{address}
use Rattle.lrc_named_translation.specs.Made.{AreMade, holding}
use Rattle.lrc_named_translation.proofs.Adding.{added_none, added_as, added_then, added_one}
use Rattle.lrc_named_translation.proofs.Making.{behind_behind}
use Rattle.lrc_named_statements.specs.Statements.{IsCore, IsAddress, IsMadeAt, ArePrinted, an_address, acquired, released, asserted, asserted_after, none_printed, one_printed}
use Rattle.lrc_named_statements.specs.Statements.{from, asserting, at_item, trial_of}

pub acquire_added : (declared : List Declared) (held token after : ℕ) (p : Place) (item : Item) (word : Expression) (s : Statement) (old mid new : List Statement)
    → meaning_of declared p.name.bytes ≡ Some (Meaning.lock item) → statement_of s ≡ acquire (at_item token p) word → new ≡ mid ++ s ∷ []
    → IsAdded (λ b. IsAddress declared token item p.indices held b word after) old mid → IsAdded (IsCore declared held (tree.acquire token p)) old new
acquire_added declared held token after p item word s old mid new means so grown h =
    added_one (λ b. IsAddress declared token item p.indices held b word after) (IsCore declared held (tree.acquire token p)) old mid new s
    (λ b m. subst (λ x. IsCore declared held (tree.acquire token p) (behind b (only x))) (sym so) (acquired means m)) h grown

pub release_added : (declared : List Declared) (held token after : ℕ) (p : Place) (item : Item) (word : Expression) (s : Statement) (old mid new : List Statement)
    → meaning_of declared p.name.bytes ≡ Some (Meaning.lock item) → statement_of s ≡ release (at_item token p) word → new ≡ mid ++ s ∷ []
    → IsAdded (λ b. IsAddress declared token item p.indices held b word after) old mid → IsAdded (IsCore declared held (tree.release token p)) old new
release_added declared held token after p item word s old mid new means so grown h =
    added_one (λ b. IsAddress declared token item p.indices held b word after) (IsCore declared held (tree.release token p)) old mid new s
    (λ b m. subst (λ x. IsCore declared held (tree.release token p) (behind b (only x))) (sym so) (released means m)) h grown

-- the address of an element
pub element_added : (declared : List Declared) (token : ℕ) (at : Origin) (item : Item) (es : Expressions) (taken after : ℕ) (ps : List Expression) (word : Expression)
    (old new : List Statement) → at ≡ from token → word ≡ address item ps
    → IsAdded (λ b. AreMade declared at [] [] es taken b ps after) old new
    → IsAdded (λ b. IsAddress declared token item es taken b word after) old new
element_added declared token at item es taken after ps word old new here is h =
    added_as (λ b. AreMade declared at [] [] es taken b ps after) (λ b. IsAddress declared token item es taken b word after) old new
    (λ b m. subst (λ p. IsAddress declared token item es taken b p after) (sym is)
    (an_address (subst (λ o. AreMade declared o [] [] es taken b ps after) here m))) h

-- the same of another form
pub core_as : (declared : List Declared) (held : ℕ) (s d : tree.Statement) (old new : List Statement) → s ≡ d
    → IsAdded (IsCore declared held d) old new → IsAdded (IsCore declared held s) old new
core_as declared held s d old new is h = subst (λ x. IsAdded (IsCore declared held x) old new) (sym is) h

-- ---- `assert`

pub assert_added : (declared : List Declared) (held token after number : ℕ) (condition : tree.Expression) (p : Expression) (s : Statement) (old mid new : List Statement)
    → number ≡ after + 1 → has_division p ≡ false → statement_of s ≡ assign (asserting token) (holding number condition) (trial_of p) → new ≡ mid ++ s ∷ []
    → IsAdded (λ b. IsMadeAt declared token condition held b p after) old mid → IsAdded (IsCore declared held (tree.assert token condition)) old new
assert_added declared held token after number condition p s old mid new is safe so grown h =
    added_one (λ b. IsMadeAt declared token condition held b p after) (IsCore declared held (tree.assert token condition)) old mid new s
    (λ b m. subst (λ x. IsCore declared held (tree.assert token condition) (behind b (only x)))
    (sym (so ∙ ap (λ n. assign (asserting token) (holding n condition) (trial_of p)) is)) (asserted m safe)) h grown

pub assert_added_after : (declared : List Declared) (held token after number : ℕ) (condition : tree.Expression) (p : Expression) (s r : Statement)
    (old mid near new : List Statement)
    → number ≡ after + 1 → has_division p ≡ true → statement_of s ≡ assign (from token) (holding number condition) p → near ≡ mid ++ s ∷ []
    → statement_of r ≡ assign (asserting token) (holding number condition) (trial_of (private (holding number condition))) → new ≡ near ++ r ∷ []
    → IsAdded (λ b. IsMadeAt declared token condition held b p after) old mid → IsAdded (IsCore declared held (tree.assert token condition)) old new
assert_added_after declared held token after number condition p s r old mid near new is divides so grown also further h =
    let first = assign (from token) (holding (after + 1) condition) p in
    let second = assign (asserting token) (holding (after + 1) condition) (trial_of (private (holding (after + 1) condition))) in
    added_then (λ b. IsMadeAt declared token condition held b p after) (λ b. b ≡ next first (only second)) (IsCore declared held (tree.assert token condition)) old mid new
    (λ b c m same. subst (λ x. IsCore declared held (tree.assert token condition) (behind b x)) (sym same) (asserted_after m divides)) h
    (record {
      more = s ∷ r ∷ [];
      grown = further ∙ ap (λ l. l ++ r ∷ []) grown ∙ append_assoc mid (s ∷ []) (r ∷ []);
      made = ap (λ x. next x (only (statement_of r))) (so ∙ ap (λ n. assign (from token) (holding n condition) p) is)
          ∙ ap (λ x. next first (only x)) (also ∙ ap (λ n. assign (asserting token) (holding n condition) (trial_of (private (holding n condition)))) is);
    })

-- ---- `print`

printed_push : (declared : List Declared) (held token after : ℕ) (es : Expressions) (e : tree.Expression) (core before : Block) (p : Expression)
    → ArePrinted declared held token es core → IsMadeAt declared token e held before p after
    → ArePrinted declared held token (with_last es e) (behind core (behind before (only (print (from token) p))))
printed_push declared held token after es e core before p none_printed m = one_printed m none_printed
printed_push declared held token after es e core before p (one_printed {e = d} {others = others} {before = b} {core = c} {p = q} first rest) m =
    subst (λ x. ArePrinted declared held token (more d (with_last others e)) x)
    (sym (behind_behind b (next (print (from token) q) c) (behind before (only (print (from token) p)))))
    (one_printed first (printed_push declared held token after others e c before p rest m))

pub printed_step : (declared : List Declared) (held token after : ℕ) (xs : List code_expression.Expression) (i : ℕ) (x : code_expression.Expression) (p : Expression)
    (s : Statement) (first old mid new : List Statement)
    → i < length xs → x ≡ get_or xs i x → statement_of s ≡ print (from token) p → new ≡ mid ++ s ∷ []
    → IsAdded (ArePrinted declared held token (expressions_of (take i xs))) first old
    → IsAdded (λ b. IsMadeAt declared token (trees.expression_of x) held b p after) old mid
    → IsAdded (ArePrinted declared held token (expressions_of (take (i + 1) xs))) first new
printed_step declared held token after xs i x p s first old mid new lt is so grown before here =
    let step : take (i + 1) xs ≡ take i xs ++ x ∷ [] = rw add-one (take-suc xs i x lt ∙ ap (λ y. take i xs ++ y ∷ []) (sym is)) in
    let last : expressions_of (take (i + 1) xs) ≡ with_last (expressions_of (take i xs)) (trees.expression_of x) = ap expressions_of step ∙ expressions_of-push (take i xs) x in
    let Printed = λ (b : Block). (d : Block) × (b ≡ behind d (only (print (from token) p))) × IsMadeAt declared token (trees.expression_of x) held d p after in
    let one : IsAdded Printed old new =
    added_one (λ b. IsMadeAt declared token (trees.expression_of x) held b p after) Printed old mid new s
    (λ b m. (b, ap (λ y. behind b (only y)) so, m)) here grown in
    added_then (ArePrinted declared held token (expressions_of (take i xs))) Printed (ArePrinted declared held token (expressions_of (take (i + 1) xs))) first old new
    (λ b c h k. subst (λ es. ArePrinted declared held token es (behind b c)) (sym last)
    (subst (λ y. ArePrinted declared held token (with_last (expressions_of (take i xs)) (trees.expression_of x)) (behind b y)) (sym k.1)
    (printed_push declared held token after (expressions_of (take i xs)) (trees.expression_of x) b k.0 p h k.2))) before one

pub printed_none : (declared : List Declared) (held token : ℕ) (old : List Statement) → IsAdded (ArePrinted declared held token none) old old
printed_none declared held token old = added_none (ArePrinted declared held token none) old none_printed
