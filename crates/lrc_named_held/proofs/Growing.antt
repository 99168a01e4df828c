-- Lists of names that grow by what stands for each statement.
use Rattle.std.proofs.Common.{◌≡◌, ℕ, ◌+◌, ◌<◌, List, [], ◌∷◌, ◌++◌, Vec, length, take, get_or, ap, sym, ◌∙◌, append_assoc, append-nil, add-one}
use Rattle.std.specs.declared.alloc.Global.{Global}
use Rattle.std.proofs.Math.Seq.{take-suc}
use Rattle.lrc_named_core.specs.declared.tree.Statement.{Statement}
use Rattle.lrc_named_core.specs.declared.tree.Statement.TheBlock.{hidden-the_row-Statement-0}
use Rattle.lrc_named_core.specs.declared.tree.Statement.TheVariants.{If, While}
use Rattle.lrc_named_core.specs.declared.tree.Expression.{Expression}
use Rattle.lrc_named_core.specs.declared.tree.Origin as code_origin
use Rattle.lrc_named_core.specs.Tree.{Block}
use Rattle.lrc_named_core.specs.View.{block_of, row_of, statement_of}
use Rattle.lrc_named_held.proofs.Rows.{row_of_hidden}
use Rattle.lrc_named_held.specs.declared.owns.Own.{Own}
use Rattle.lrc_named_held.specs.Owns.{owns_among, owns_inside, owns_of}

-- those of one statement, and of each of its blocks
abbrev pub owns_within : Statement → List (List Own)
owns_within statement = owns_of (statement_of statement) ∷ owns_inside (statement_of statement)

-- statements with one more
owns_among-push : (statements : List Statement) (last : Statement)
    → owns_among (block_of (statements ++ last ∷ [])) ≡ owns_among (block_of statements) ++ owns_within last
owns_among-push [] last = append-nil (owns_within last)
owns_among-push (first ∷ rest) last =
    ap (λ t. owns_within first ++ t) (owns_among-push rest last)
    ∙ sym (append_assoc (owns_within first) (owns_among (block_of rest)) (owns_within last))

-- one more of the items that a loop passes
one_more : {A : Type 0} (xs : List A) (i : ℕ) (x : A) → i < length xs → x ≡ get_or xs i x → take (i + 1) xs ≡ take i xs ++ x ∷ []
one_more xs i x lt is = rw add-one (take-suc xs i x lt ∙ ap (λ y. take i xs ++ y ∷ []) (sym is))

pub block_step : (xs : List Statement) (i : ℕ) (x : Statement) (start old head new : List (List Own)) (own : List Own) → i < length xs → x ≡ get_or xs i x
    → old ≡ start ++ owns_among (block_of (take i xs)) → own ≡ owns_of (statement_of x) → head ≡ old ++ own ∷ []
    → new ≡ head ++ owns_inside (statement_of x) → new ≡ start ++ owns_among (block_of (take (i + 1) xs))
block_step xs i x start old head new own lt is before own_is pushed grown =
    grown
    ∙ ap (λ t. t ++ owns_inside (statement_of x)) (pushed ∙ ap (λ o. old ++ o ∷ []) own_is)
    ∙ append_assoc old (owns_of (statement_of x) ∷ []) (owns_inside (statement_of x))
    ∙ ap (λ t. t ++ owns_within x) before
    ∙ append_assoc start (owns_among (block_of (take i xs))) (owns_within x)
    ∙ ap (λ t. start ++ t) (sym (owns_among-push (take i xs) x))
    ∙ ap (λ l. start ++ owns_among (block_of l)) (sym (one_more xs i x lt is))

-- those of the blocks of a choice
pub choice_pushed : (o : code_origin.Origin) (e : Expression) (a b : Vec Statement Global) (s : Statement) (old one new : List (List Own)) (xs ys : List Statement)
    → s ≡ If o e a b → xs ≡ a.items → ys ≡ b.items → one ≡ old ++ owns_among (block_of xs)
    → new ≡ one ++ owns_among (block_of ys) → new ≡ old ++ owns_inside (statement_of s)
choice_pushed o e a b s old one new xs ys is first second then_pushed else_pushed =
    let whole = λ (x y : Block). owns_among x ++ owns_among y in
    let all : owns_inside (statement_of s) ≡ whole (block_of a.items) (block_of b.items) =
    ap (λ x. owns_inside (statement_of x)) is ∙ ap (λ x. whole x (row_of (hidden-the_row-Statement-0 b))) (row_of_hidden a)
    ∙ ap (λ y. whole (block_of a.items) y) (row_of_hidden b)
    in
    else_pushed
    ∙ ap (λ t. t ++ owns_among (block_of ys)) then_pushed
    ∙ ap (λ l. (old ++ owns_among (block_of l)) ++ owns_among (block_of ys)) first
    ∙ ap (λ l. (old ++ owns_among (block_of a.items)) ++ owns_among (block_of l)) second
    ∙ append_assoc old (owns_among (block_of a.items)) (owns_among (block_of b.items))
    ∙ ap (λ t. old ++ t) (sym all)

-- those of the block of a loop
pub loop_pushed : (o : code_origin.Origin) (e : Expression) (a : Vec Statement Global) (s : Statement) (old new : List (List Own)) (xs : List Statement)
    → s ≡ While o e a → xs ≡ a.items → new ≡ old ++ owns_among (block_of xs) → new ≡ old ++ owns_inside (statement_of s)
loop_pushed o e a s old new xs is first pushed =
    pushed ∙ ap (λ l. old ++ owns_among (block_of l)) first
    ∙ ap (λ t. old ++ t) (sym (ap (λ x. owns_inside (statement_of x)) is ∙ ap owns_among (row_of_hidden a)))
