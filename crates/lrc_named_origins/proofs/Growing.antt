-- Lists that grow by what stands for each statement.
use Rattle.std.proofs.Common.{◌≡◌, ℕ, ◌+◌, ◌<◌, List, [], ◌∷◌, ◌++◌, Vec, length, take, get_or, map, refl, ap, sym, ◌∙◌, append_assoc, append-nil, add-one}
use Rattle.std.specs.declared.alloc.Global.{Global}
use Rattle.std.proofs.Math.Seq.{take-suc}
use Rattle.lrc_named_core.specs.declared.tree.Statement.{Statement}
use Rattle.lrc_named_core.specs.declared.tree.Statement.TheBlock.{hidden-the_row-Statement-0}
use Rattle.lrc_named_core.specs.declared.tree.Statement.TheVariants.{If, While}
use Rattle.lrc_named_core.specs.declared.tree.Expression.{Expression}
use Rattle.lrc_named_core.specs.declared.tree.Origin as code_origin
use Rattle.lrc_named_core.specs.Tree.{Block, Origin}
use Rattle.lrc_named_core.specs.View.{block_of, origin_of, row_of, statement_of}
use Rattle.lrc_named_origins.proofs.Rows.{row_of_hidden}
use Rattle.lrc_named_origins.specs.Origins.{origins_in, origins_of}

-- statements with one more
origins_of-push : (statements : List Statement) (last : Statement)
    → origins_of (block_of (statements ++ last ∷ [])) ≡ origins_of (block_of statements) ++ origins_in (statement_of last)
origins_of-push [] last = append-nil (origins_in (statement_of last))
origins_of-push (first ∷ rest) last =
    ap (λ t. origins_in (statement_of first) ++ t) (origins_of-push rest last)
    ∙ sym (append_assoc (origins_in (statement_of first)) (origins_of (block_of rest)) (origins_in (statement_of last)))

-- one more of the items that a loop passes
one_more : {A : Type 0} (xs : List A) (i : ℕ) (x : A) → i < length xs → x ≡ get_or xs i x → take (i + 1) xs ≡ take i xs ++ x ∷ []
one_more xs i x lt is = rw add-one (take-suc xs i x lt ∙ ap (λ y. take i xs ++ y ∷ []) (sym is))

pub block_step : (xs : List Statement) (i : ℕ) (x : Statement) (start old new : List Origin) → i < length xs → x ≡ get_or xs i x
    → old ≡ start ++ origins_of (block_of (take i xs)) → new ≡ old ++ origins_in (statement_of x)
    → new ≡ start ++ origins_of (block_of (take (i + 1) xs))
block_step xs i x start old new lt is before grown =
    grown ∙ ap (λ t. t ++ origins_in (statement_of x)) before
    ∙ append_assoc start (origins_of (block_of (take i xs))) (origins_in (statement_of x))
    ∙ ap (λ t. start ++ t) (sym (origins_of-push (take i xs) x))
    ∙ ap (λ l. start ++ origins_of (block_of l)) (sym (one_more xs i x lt is))

-- those of a choice: its own, and those of its blocks
pub choice_pushed : (o : code_origin.Origin) (e : Expression) (a b : Vec Statement Global) (s : Statement) (old head one new : List Origin) (xs ys : List Statement)
    → s ≡ If o e a b → xs ≡ a.items → ys ≡ b.items → head ≡ old ++ origin_of o ∷ [] → one ≡ head ++ origins_of (block_of xs)
    → new ≡ one ++ origins_of (block_of ys) → new ≡ old ++ origins_in (statement_of s)
choice_pushed o e a b s old head one new xs ys is first second own then_pushed else_pushed =
    let whole = λ (x y : Block). origin_of o ∷ (origins_of x ++ origins_of y) in
    let all : origins_in (statement_of s) ≡ whole (block_of a.items) (block_of b.items) =
    ap (λ x. origins_in (statement_of x)) is ∙ ap (λ x. whole x (row_of (hidden-the_row-Statement-0 b))) (row_of_hidden a)
    ∙ ap (λ y. whole (block_of a.items) y) (row_of_hidden b)
    in
    else_pushed
    ∙ ap (λ t. t ++ origins_of (block_of ys)) (then_pushed ∙ ap (λ t. t ++ origins_of (block_of xs)) own)
    ∙ ap (λ l. ((old ++ origin_of o ∷ []) ++ origins_of (block_of l)) ++ origins_of (block_of ys)) first
    ∙ ap (λ l. ((old ++ origin_of o ∷ []) ++ origins_of (block_of a.items)) ++ origins_of (block_of l)) second
    ∙ append_assoc (old ++ origin_of o ∷ []) (origins_of (block_of a.items)) (origins_of (block_of b.items))
    ∙ append_assoc old (origin_of o ∷ []) (origins_of (block_of a.items) ++ origins_of (block_of b.items))
    ∙ ap (λ t. old ++ t) (sym all)

-- those of a loop
pub loop_pushed : (o : code_origin.Origin) (e : Expression) (a : Vec Statement Global) (s : Statement) (old head new : List Origin) (xs : List Statement)
    → s ≡ While o e a → xs ≡ a.items → head ≡ old ++ origin_of o ∷ [] → new ≡ head ++ origins_of (block_of xs) → new ≡ old ++ origins_in (statement_of s)
loop_pushed o e a s old head new xs is first own inside_pushed =
    let whole = λ (x : Block). origin_of o ∷ origins_of x in
    let all : origins_in (statement_of s) ≡ whole (block_of a.items) = ap (λ x. origins_in (statement_of x)) is ∙ ap whole (row_of_hidden a)
    in
    inside_pushed ∙ ap (λ t. t ++ origins_of (block_of xs)) own
    ∙ ap (λ l. (old ++ origin_of o ∷ []) ++ origins_of (block_of l)) first
    ∙ append_assoc old (origin_of o ∷ []) (origins_of (block_of a.items))
    ∙ ap (λ t. old ++ t) (sym all)
