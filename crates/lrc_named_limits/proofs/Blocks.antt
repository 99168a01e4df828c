-- What of a statement with blocks is over a limit.
use Rattle.std.proofs.Common.{◌≡◌, ◌+◌, ◌⊎◌, ℕ, List, Vec, sym, ap, subst, ◌∙◌}
use Rattle.std.specs.declared.alloc.Global.{Global}
use Rattle.std.specs.Prelude.{Option}
use Rattle.lrc_named_core.specs.declared.tree.Statement.{Statement}
use Rattle.lrc_named_core.specs.declared.tree.Statement.TheBlock.{hidden-the_row-Statement-0}
use Rattle.lrc_named_core.specs.declared.tree.Statement.TheVariants.{If, While}
use Rattle.lrc_named_core.specs.declared.tree.Expression.{Expression}
use Rattle.lrc_named_core.specs.declared.tree.Origin.{Origin}
use Rattle.lrc_named_core.specs.View.{block_of, expression_of, origin_of, row_of, statement_of}
use Rattle.lrc_named_text.proofs.Growing.{row_of_hidden}
use Rattle.lrc_named_limits.specs.declared.excess.Excess.{Excess}
use Rattle.lrc_named_limits.specs.Earlier.{earlier}
use Rattle.lrc_named_limits.specs.Limits.{IsBlockOver, IsFirstOf, IsOf, IsOver, IsOverIn, IsOverInBlock}
use Rattle.lrc_named_limits.proofs.First.{joined}

-- the faults of a block that lies one deeper
deeper_first : (privates depth deeper : ℕ) (a : Vec Statement Global) (xs : List Statement) (found : Option Excess) → deeper ≡ depth + 1 → xs ≡ a.items
    → IsFirstOf (λ x. IsOverInBlock privates deeper (block_of xs) x) found
    → IsFirstOf (λ x. IsOverInBlock privates (depth + 1) (row_of (hidden-the_row-Statement-0 a)) x) found
deeper_first privates depth deeper a xs found deep items h =
    subst (λ b. IsFirstOf (λ x. IsOverInBlock privates (depth + 1) b x) found) (ap block_of items ∙ sym (row_of_hidden a))
    (subst (λ d. IsFirstOf (λ x. IsOverInBlock privates d (block_of xs) x) found) deep h)

pub choice_first : (privates depth deeper : ℕ) (o : Origin) (e : Expression) (a b : Vec Statement Global) (s : Statement) (xs ys : List Statement)
    (own one other inside found : Option Excess) → s ≡ If o e a b → deeper ≡ depth + 1 → xs ≡ a.items → ys ≡ b.items
    → found ≡ earlier own inside → inside ≡ earlier one other
    → IsFirstOf (λ x. (x.at ≡ o.statement) × (IsOver privates depth (expression_of e) x.limit ⊎ IsBlockOver depth x.limit)) own
    → IsFirstOf (λ x. IsOverInBlock privates deeper (block_of xs) x) one → IsFirstOf (λ x. IsOverInBlock privates deeper (block_of ys) x) other
    → IsFirstOf (λ x. IsOverIn privates depth (statement_of s) x) found
choice_first privates depth deeper o e a b s xs ys own one other inside found is deep first second whole within h k l =
    let then = row_of (hidden-the_row-Statement-0 a) in
    let otherwise = row_of (hidden-the_row-Statement-0 b) in
    subst (λ t. IsFirstOf (λ x. IsOverIn privates depth (statement_of t) x) found) (sym is)
    (joined (λ x. IsOf (origin_of o) x × (IsOver privates depth (expression_of e) x.limit ⊎ IsBlockOver depth x.limit))
    (λ x. IsOverInBlock privates (depth + 1) then x ⊎ IsOverInBlock privates (depth + 1) otherwise x) own inside found whole h
    (joined (λ x. IsOverInBlock privates (depth + 1) then x) (λ x. IsOverInBlock privates (depth + 1) otherwise x) one other inside within
    (deeper_first privates depth deeper a xs one deep first k) (deeper_first privates depth deeper b ys other deep second l)))

pub loop_first : (privates depth deeper : ℕ) (o : Origin) (e : Expression) (a : Vec Statement Global) (s : Statement) (xs : List Statement)
    (own one found : Option Excess) → s ≡ While o e a → deeper ≡ depth + 1 → xs ≡ a.items → found ≡ earlier own one
    → IsFirstOf (λ x. (x.at ≡ o.statement) × (IsOver privates depth (expression_of e) x.limit ⊎ IsBlockOver depth x.limit)) own
    → IsFirstOf (λ x. IsOverInBlock privates deeper (block_of xs) x) one
    → IsFirstOf (λ x. IsOverIn privates depth (statement_of s) x) found
loop_first privates depth deeper o e a s xs own one found is deep first whole h k =
    let inside = row_of (hidden-the_row-Statement-0 a) in
    subst (λ t. IsFirstOf (λ x. IsOverIn privates depth (statement_of t) x) found) (sym is)
    (joined (λ x. IsOf (origin_of o) x × (IsOver privates depth (expression_of e) x.limit ⊎ IsBlockOver depth x.limit))
    (λ x. IsOverInBlock privates (depth + 1) inside x) own one found whole h (deeper_first privates depth deeper a xs one deep first k))
