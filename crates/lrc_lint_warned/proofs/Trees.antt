-- What stands in statements of the code.
use Rattle.std.proofs.Common.{◌≡◌, ◌∙◌, ◌<◌, ◌≤◌, ◌+◌, ℕ, ap, sym, subst, List, [], ◌∷◌, ◌++◌, length, take, get_or, append_assoc, append-nil, refl}
use Rattle.std.specs.Prelude.{IfOk, OnOk, Result}
use Rattle.std.proofs.lemmas.List.{take_more, take_all}
use Rattle.std.proofs.lemmas.Result.{on_ok_weaker}
use Rattle.lrc_program.specs.declared.Expression.{Expression}
use Rattle.lrc_program.specs.declared.Statement.{Statement}
use Rattle.lrc_program.specs.declared.Statement.TheVariants.{Assign, Read, Write, Acquire, Release, Barrier, Print, If', While', If, While}
use Rattle.lrc_program.specs.Statements.{Statement as Tree, Block, statement_of, block_of, row_of, expression_of, if_else, while_do}
use Rattle.lrc_program.specs.declared.Statement.TheBlock.{hidden-the_row-Statement-0}
use Rattle.lrc_program.proofs.Trees.{row_of_hidden}
use Rattle.lrc_exec.proofs.Flat.{if_made, while_made}
use Rattle.lrc_lint_warned.specs.Inside.{statements_in, within}

-- the trees of statements with blocks
pub if_is : (e : Expression) (a b : _) → statement_of (If e a b) ≡ if_else (expression_of e) (block_of a.items) (block_of b.items)
if_is e a b =
    ap (λ (x : Block). if_else (expression_of e) x (row_of (hidden-the_row-Statement-0 b))) (row_of_hidden a)
    ∙ ap (λ (x : Block). if_else (expression_of e) (block_of a.items) x) (row_of_hidden b)

pub while_is : (e : Expression) (a : _) → statement_of (While e a) ≡ while_do (expression_of e) (block_of a.items)
while_is e a = ap (λ (x : Block). while_do (expression_of e) x) (row_of_hidden a)

within_straight : (s : Statement) → ((e : _) (a b : _) → s ≡ If e a b → ⊥) → ((e : _) (a : _) → s ≡ While e a → ⊥) → within (statement_of s) ≡ []
within_straight (Assign name value) not_if not_while = refl
within_straight (Read name word) not_if not_while = refl
within_straight (Write word value) not_if not_while = refl
within_straight (Acquire lock) not_if not_while = refl
within_straight (Release lock) not_if not_while = refl
within_straight Barrier not_if not_while = refl
within_straight (Print value) not_if not_while = refl
within_straight (If' e p a q b) not_if not_while = absurd (not_if e _ _ (if_made e p a q b))
within_straight (While' e p a) not_if not_while = absurd (not_while e _ (while_made e p a))

-- the statements of a block with one statement more
pub one_more : (block : List Statement) (s : Statement)
    → statements_in (block_of (block ++ s ∷ [])) ≡ statements_in (block_of block) ++ (statement_of s ∷ within (statement_of s))
one_more [] s = ap (λ l. statement_of s ∷ l) (append-nil (within (statement_of s)))
one_more (first ∷ others) s =
    ap (λ l. statement_of first ∷ (within (statement_of first) ++ l)) (one_more others s)
    ∙ ap (λ l. statement_of first ∷ l) (sym (append_assoc (within (statement_of first)) (statements_in (block_of others)) (statement_of s ∷ within (statement_of s))))

pub block_none : (old : List Tree) → old ≡ old ++ statements_in (block_of [])
block_none old = sym (append-nil old)

pub block_more : (block : List Statement) (i : ℕ) (s : Statement) (old now after : List Tree) → i < length block → s ≡ get_or block i s
    → now ≡ old ++ statements_in (block_of (take i block))
    → after ≡ now ++ (statement_of s ∷ within (statement_of s))
    → after ≡ old ++ statements_in (block_of (take (i + 1) block))
block_more block i s old now after lt here is more =
    more ∙ ap (λ l. l ++ (statement_of s ∷ within (statement_of s))) is
    ∙ append_assoc old (statements_in (block_of (take i block))) (statement_of s ∷ within (statement_of s))
    ∙ ap (λ l. old ++ l) (sym (one_more (take i block) s))
    ∙ ap (λ (x : Statement). old ++ statements_in (block_of (take i block ++ x ∷ []))) here
    ∙ ap (λ (l : List Statement). old ++ statements_in (block_of l)) (sym (take_more block i s lt))

pub block_all : (block : List Statement) (i : ℕ) (old now : List Tree) → length block ≤ i → now ≡ old ++ statements_in (block_of (take i block))
    → now ≡ old ++ statements_in (block_of block)
block_all block i old now past is = is ∙ ap (λ (l : List Statement). old ++ statements_in (block_of l)) (take_all i block past)

-- what a statement adds: itself, and then what stands in its blocks
pub adds_straight : (old now : List Tree) (s : Statement) → ((e : _) (a b : _) → s ≡ If e a b → ⊥) → ((e : _) (a : _) → s ≡ While e a → ⊥)
    → now ≡ old ++ statement_of s ∷ [] → now ≡ old ++ (statement_of s ∷ within (statement_of s))
adds_straight old now s not_if not_while is = is ∙ ap (λ l. old ++ statement_of s ∷ l) (sym (within_straight s not_if not_while))

pub adds_while : {R E : Type 0} (result : Result R E) (old now after : List Tree) (s : Statement) (e : Expression) (a : _) (inside : List Statement)
    → s ≡ While e a → inside ≡ a.items → now ≡ old ++ statement_of s ∷ []
    → OnOk result (after ≡ now ++ statements_in (block_of inside)) → OnOk result (after ≡ old ++ (statement_of s ∷ within (statement_of s)))
adds_while result old now after s e a inside is same pushed more =
    on_ok_weaker result
    (λ (h : after ≡ now ++ statements_in (block_of inside)).
    h ∙ ap (λ l. l ++ statements_in (block_of inside)) pushed
    ∙ append_assoc old (statement_of s ∷ []) (statements_in (block_of inside))
    ∙ ap (λ (l : List Statement). old ++ statement_of s ∷ statements_in (block_of l)) same
    ∙ ap (λ (t : Tree). old ++ statement_of s ∷ within t) (sym (while_is e a))
    ∙ ap (λ (t : Statement). old ++ statement_of s ∷ within (statement_of t)) (sym is))
    more

pub adds_if : {R E : Type 0} (result : Result R E) (old now between after : List Tree) (s : Statement) (e : Expression) (a b : _) (one other : List Statement)
    → s ≡ If e a b → one ≡ a.items → other ≡ b.items → now ≡ old ++ statement_of s ∷ []
    → between ≡ now ++ statements_in (block_of one)
    → OnOk result (after ≡ between ++ statements_in (block_of other)) → OnOk result (after ≡ old ++ (statement_of s ∷ within (statement_of s)))
adds_if result old now between after s e a b one other is same_one same_other pushed first more =
    on_ok_weaker result
    (λ (h : after ≡ between ++ statements_in (block_of other)).
    h ∙ ap (λ l. l ++ statements_in (block_of other)) (first ∙ ap (λ l. l ++ statements_in (block_of one)) pushed)
    ∙ ap (λ l. l ++ statements_in (block_of other)) (append_assoc old (statement_of s ∷ []) (statements_in (block_of one)))
    ∙ append_assoc old (statement_of s ∷ statements_in (block_of one)) (statements_in (block_of other))
    ∙ ap (λ (l : List Statement). old ++ statement_of s ∷ (statements_in (block_of l) ++ statements_in (block_of other))) same_one
    ∙ ap (λ (l : List Statement). old ++ statement_of s ∷ (statements_in (block_of a.items) ++ statements_in (block_of l))) same_other
    ∙ ap (λ (t : Tree). old ++ statement_of s ∷ within t) (sym (if_is e a b))
    ∙ ap (λ (t : Statement). old ++ statement_of s ∷ within (statement_of t)) (sym is))
    more

-- what holds of a statement's parts holds of the statement
pub while_made_of : (s : Statement) (e : Expression) (a : _) (inside : List Statement) → s ≡ While e a → inside ≡ a.items
    → while_do (expression_of e) (block_of inside) ≡ statement_of s
while_made_of s e a inside is same =
    ap (λ (l : List Statement). while_do (expression_of e) (block_of l)) same ∙ sym (while_is e a) ∙ ap statement_of (sym is)

pub if_made_of : (s : Statement) (e : Expression) (a b : _) (one other : List Statement) → s ≡ If e a b → one ≡ a.items → other ≡ b.items
    → if_else (expression_of e) (block_of one) (block_of other) ≡ statement_of s
if_made_of s e a b one other is same_one same_other =
    ap (λ (l : List Statement). if_else (expression_of e) (block_of l) (block_of other)) same_one
    ∙ ap (λ (l : List Statement). if_else (expression_of e) (block_of a.items) (block_of l)) same_other
    ∙ sym (if_is e a b) ∙ ap statement_of (sym is)

pub ok_of : {R E : Type 0} (result : Result R E) (f : Tree → R) (t u : Tree) → t ≡ u → IfOk result (λ r. r ≡ f t) → IfOk result (λ r. r ≡ f u)
ok_of {R} {E} result f t u same h = subst (λ (x : Tree). IfOk result (λ r. r ≡ f x)) same h
