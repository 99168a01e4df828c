-- Expressions and what stands behind them, as a loop comes to them.
use Rattle.std.proofs.Common.{◌≡◌, ℕ, ◌+◌, ◌<◌, ◌≤◌, List, [], ◌∷◌, ◌++◌, map, length, get_or, take, refl, sym, ap, subst, arith, ◌∙◌, add-one}
use Rattle.std.proofs.Math.Seq.{take-suc}
use Rattle.lrc_named_tree.specs.declared.tree.Expression as code_expression
use Rattle.lrc_named_tree.specs.Tree.{Named, Expressions, none, more}
use Rattle.lrc_named_tree.specs.Tree as tree
use Rattle.lrc_named_tree.specs.View.{expressions_of}
use Rattle.lrc_named_tree.specs.View as trees
use Rattle.lrc_named_names.specs.Names.{Declared}
use Rattle.lrc_named_constants.specs.declared.constancy.Constancy.{Constancy}
use Rattle.lrc_named_constants.specs.Constant.{Known, bound}
use Rattle.lrc_named_constants.specs.Well.{count}
use Rattle.lrc_named_constants.proofs.Each.{with_last, expressions_of-push}
use Rattle.lrc_named_core.specs.declared.tree.Expression as code_core
use Rattle.lrc_named_core.specs.declared.tree.Statement as code_statement
use Rattle.lrc_named_core.specs.Tree.{Expression, Origin, Block, empty, next, behind}
use Rattle.lrc_named_core.specs.View.{expression_of, block_of}
use Rattle.lrc_named_translation.specs.Added.{IsAdded}
use Rattle.lrc_named_translation.specs.Made.{IsMade, AreMade, no_expression, one_expression}
use Rattle.lrc_named_translation.proofs.Adding.{added_none, added_then}

pub behind_empty : (b : Block) → behind b empty ≡ b
behind_empty empty = refl
behind_empty (next s b) = ap (next s) (behind_empty b)

pub behind_behind : (a b c : Block) → behind (behind a b) c ≡ behind a (behind b c)
behind_behind empty b c = refl
behind_behind (next s a) b c = ap (next s) (behind_behind a b c)

-- one more
pub made_push : (declared : List Declared) (at : Origin) (known : List Known) (cores : List Expression) (es : Expressions) (e : tree.Expression)
    (taken between after : ℕ) (before last : Block) (ps : List Expression) (p : Expression)
    → AreMade declared at known cores es taken before ps between → IsMade declared at known cores e between last p after
    → AreMade declared at known cores (with_last es e) taken (behind before last) (ps ++ p ∷ []) after
made_push declared at known cores es e taken between after before last ps p no_expression h =
    subst (λ b. AreMade declared at known cores (more e none) taken b (p ∷ []) after) (behind_empty last) (one_expression h no_expression)
made_push declared at known cores es e taken between after before last ps p
    (one_expression {e = d} {others = others} {between = middle} {before = one} {behind_it = two} {p = q} {ps = qs} first rest) h =
    subst (λ b. AreMade declared at known cores (more d (with_last others e)) taken b (q ∷ (qs ++ p ∷ [])) after) (sym (behind_behind one two last))
    (one_expression first (made_push declared at known cores others e middle between after two last qs p rest h))

pub map_push : (ps : List code_core.Expression) (p : code_core.Expression) → map expression_of (ps ++ p ∷ []) ≡ map expression_of ps ++ expression_of p ∷ []
map_push [] p = refl
map_push (q ∷ ps) p = ap (λ l. expression_of q ∷ l) (map_push ps p)

-- one more, as a loop comes to it
pub made_step : (declared : List Declared) (at : Origin) (known : List Known) (cores : List Expression) (xs : List code_expression.Expression)
    (i : ℕ) (x : code_expression.Expression) (taken between after : ℕ) (first old new : List code_statement.Statement)
    (all grown : List code_core.Expression) (p : code_core.Expression)
    → i < length xs → x ≡ get_or xs i x → grown ≡ all ++ p ∷ []
    → IsAdded (λ b. AreMade declared at known cores (expressions_of (take i xs)) taken b (map expression_of all) between) first old
    → IsAdded (λ b. IsMade declared at known cores (trees.expression_of x) between b (expression_of p) after) old new
    → IsAdded (λ b. AreMade declared at known cores (expressions_of (take (i + 1) xs)) taken b (map expression_of grown) after) first new
made_step declared at known cores xs i x taken between after first old new all grown p lt is longer before here =
    let step : take (i + 1) xs ≡ take i xs ++ x ∷ [] = rw add-one (take-suc xs i x lt ∙ ap (λ y. take i xs ++ y ∷ []) (sym is)) in
    let last : expressions_of (take (i + 1) xs) ≡ with_last (expressions_of (take i xs)) (trees.expression_of x) = ap expressions_of step ∙ expressions_of-push (take i xs) x in
    let cored : map expression_of grown ≡ map expression_of all ++ expression_of p ∷ [] = ap (map expression_of) longer ∙ map_push all p in
    added_then (λ b. AreMade declared at known cores (expressions_of (take i xs)) taken b (map expression_of all) between)
    (λ b. IsMade declared at known cores (trees.expression_of x) between b (expression_of p) after)
    (λ b. AreMade declared at known cores (expressions_of (take (i + 1) xs)) taken b (map expression_of grown) after)
    first old new
    (λ b c h k.
    subst (λ es. AreMade declared at known cores es taken (behind b c) (map expression_of grown) after) (sym last)
    (subst (λ ps. AreMade declared at known cores (with_last (expressions_of (take i xs)) (trees.expression_of x)) taken (behind b c) ps after) (sym cored)
    (made_push declared at known cores (expressions_of (take i xs)) (trees.expression_of x) taken between after b c (map expression_of all) (expression_of p) h k)))
    before here

-- ---- how many

pub count_made : (declared : List Declared) (at : Origin) (known : List Known) (cores : List Expression) (es : Expressions)
    (taken after : ℕ) (before : Block) (ps : List Expression) → AreMade declared at known cores es taken before ps after → length ps ≡ count es
count_made declared at known cores es taken after before ps no_expression = refl
count_made declared at known cores es taken after before ps
    (one_expression {others = others} {between = middle} {behind_it = two} {ps = qs} first rest) =
    let h = count_made declared at known cores others middle after two qs rest in omega (arith, h)

pub few_bound : (ps : List Named) (ws : List Constancy) → length (bound ps ws) ≤ length ws
few_bound [] ws = omega arith
few_bound (p ∷ ps) [] = omega arith
few_bound (p ∷ ps) (w ∷ ws) = let h = few_bound ps ws in omega (arith, h)

-- none yet
pub made_none : (declared : List Declared) (at : Origin) (known : List Known) (cores : List Expression) (taken : ℕ) (old : List code_statement.Statement)
    (all : List code_core.Expression) → all ≡ [] → IsAdded (λ b. AreMade declared at known cores none taken b (map expression_of all) taken) old old
made_none declared at known cores taken old all is =
    subst (λ l. IsAdded (λ b. AreMade declared at known cores none taken b (map expression_of l) taken) old old) (sym is)
    (added_none (λ b. AreMade declared at known cores none taken b [] taken) old no_expression)

pub count_added : (declared : List Declared) (at : Origin) (known : List Known) (cores : List Expression) (es : Expressions)
    (taken after : ℕ) (ps : List Expression) (old new : List code_statement.Statement)
    → IsAdded (λ b. AreMade declared at known cores es taken b ps after) old new → length ps ≡ count es
count_added declared at known cores es taken after ps old new h = count_made declared at known cores es taken after (block_of h.more) ps h.made
