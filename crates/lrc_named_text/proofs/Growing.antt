-- Texts that grow by what stands for each item.
use Rattle.std.proofs.Common.{◌≡◌, ℕ, ◌+◌, ◌<◌, ◌≤◌, arith, List, [], ◌∷◌, ◌++◌, Vec, length, take, get_or, map, refl, ap, sym, ◌∙◌, append_assoc, append-nil, add-one}
use Rattle.std.specs.declared.alloc.Global.{Global}
use Rattle.std.specs.Prelude.{Result, Ok, Err, OnOk, codes}
use Rattle.std.proofs.Math.Seq.{take-suc}
use Rattle.lrc_named_core.specs.declared.tree.Statement.{Statement, Row_of-Statement, end_of-Statement, more_of-Statement}
use Rattle.lrc_named_core.specs.declared.tree.Statement.{items-the_row-Statement, items_hidden-the_row-Statement-0}
use Rattle.lrc_named_core.specs.declared.tree.Statement.TheBlock.{hidden-the_row-Statement-0}
use Rattle.lrc_named_core.specs.declared.tree.Statement.TheVariants.{If, While}
use Rattle.lrc_named_core.specs.declared.tree.Expression.{Expression}
use Rattle.lrc_named_core.specs.declared.tree.Origin.{Origin}
use Rattle.lrc_named_core.specs.Tree.{Block, next}
use Rattle.lrc_named_core.specs.View.{expression_of, origin_of, statement_of, row_of, block_of}
use Rattle.lrc_named_names.specs.declared.names.Declared.{Declared}
use Rattle.lrc_named_names.specs.View.{entry_of}
use Rattle.lrc_named_text.specs.Labels.{label_text, labels_text}
use Rattle.lrc_named_text.specs.Statements.{block_text, deeper, else_text, head_text, line_text, statement_text}

row_of_is : {m : _} (row : Row_of-Statement m) → row_of row ≡ block_of (items-the_row-Statement m row)
row_of_is end_of-Statement = refl
row_of_is (more_of-Statement first rest) = ap (next (statement_of first)) (row_of_is rest)

-- the statements of a block in a statement
pub row_of_hidden : (v : Vec Statement Global) → row_of (hidden-the_row-Statement-0 v) ≡ block_of v.items
row_of_hidden v = row_of_is (hidden-the_row-Statement-0 v) ∙ ap block_of (items_hidden-the_row-Statement-0 v)

-- a block with one statement more
block_text-push : (lines indent : List ℕ) (statements : List Statement) (last : Statement)
    → block_text lines indent (block_of (statements ++ last ∷ [])) ≡ block_text lines indent (block_of statements) ++ statement_text lines indent (statement_of last)
block_text-push lines indent [] last = append-nil (statement_text lines indent (statement_of last))
block_text-push lines indent (first ∷ rest) last =
    ap (λ t. statement_text lines indent (statement_of first) ++ t) (block_text-push lines indent rest last)
    ∙ sym (append_assoc (statement_text lines indent (statement_of first)) (block_text lines indent (block_of rest)) (statement_text lines indent (statement_of last)))

-- one more of the items that a loop passes
one_more : {A : Type 0} (xs : List A) (i : ℕ) (x : A) → i < length xs → x ≡ get_or xs i x → take (i + 1) xs ≡ take i xs ++ x ∷ []
one_more xs i x lt is = rw add-one (take-suc xs i x lt ∙ ap (λ y. take i xs ++ y ∷ []) (sym is))

pub block_step : (lines indent : List ℕ) (xs : List Statement) (i : ℕ) (x : Statement) (start old new : List ℕ) → i < length xs → x ≡ get_or xs i x
    → old ≡ start ++ block_text lines indent (block_of (take i xs)) → new ≡ old ++ statement_text lines indent (statement_of x)
    → new ≡ start ++ block_text lines indent (block_of (take (i + 1) xs))
block_step lines indent xs i x start old new lt is before grown =
    grown ∙ ap (λ t. t ++ statement_text lines indent (statement_of x)) before
    ∙ append_assoc start (block_text lines indent (block_of (take i xs))) (statement_text lines indent (statement_of x))
    ∙ ap (λ t. start ++ t) (sym (block_text-push lines indent (take i xs) x))
    ∙ ap (λ l. start ++ block_text lines indent (block_of l)) (sym (one_more xs i x lt is))

labels_text-push : (xs : List Declared) (x : Declared)
    → labels_text (map entry_of (xs ++ x ∷ [])) ≡ labels_text (map entry_of xs) ++ label_text (entry_of x).name (entry_of x).meaning
labels_text-push [] x = append-nil (label_text (entry_of x).name (entry_of x).meaning)
labels_text-push (first ∷ rest) x =
    ap (λ t. label_text (entry_of first).name (entry_of first).meaning ++ t) (labels_text-push rest x)
    ∙ sym (append_assoc (label_text (entry_of first).name (entry_of first).meaning) (labels_text (map entry_of rest)) (label_text (entry_of x).name (entry_of x).meaning))

pub labels_step : (xs : List Declared) (i : ℕ) (x : Declared) (start old new : List ℕ) → i < length xs → x ≡ get_or xs i x
    → old ≡ start ++ labels_text (map entry_of (take i xs)) → new ≡ old ++ label_text (entry_of x).name (entry_of x).meaning
    → new ≡ start ++ labels_text (map entry_of (take (i + 1) xs))
labels_step xs i x start old new lt is before grown =
    grown ∙ ap (λ t. t ++ label_text (entry_of x).name (entry_of x).meaning) before
    ∙ append_assoc start (labels_text (map entry_of (take i xs))) (label_text (entry_of x).name (entry_of x).meaning)
    ∙ ap (λ t. start ++ t) (sym (labels_text-push (take i xs) x))
    ∙ ap (λ l. start ++ labels_text (map entry_of l)) (sym (one_more xs i x lt is))

-- what is so of a result that went well
pub well : {A E : Type 0} (P Q : Type 0) (r : Result A E) → (P → Q) → OnOk r P → OnOk r Q
well P Q (Ok x) f h = f h
well P Q (Err e) f h = tt

block_same : (lines i j : List ℕ) (xs ys : List Statement) → i ≡ j → xs ≡ ys → block_text lines i (block_of xs) ≡ block_text lines j (block_of ys)
block_same lines i j xs ys e f = ap (λ l. block_text lines l (block_of xs)) e ∙ ap (λ l. block_text lines j (block_of l)) f

regrouped : (old head first middle second indent close : List ℕ)
    → ((((old ++ head) ++ first) ++ middle) ++ second) ++ (indent ++ close) ≡ old ++ (((((head ++ first) ++ middle) ++ second) ++ indent) ++ close)
regrouped old head first middle second indent close = simp append_assoc

regrouped_loop : (old head inside indent close : List ℕ) → ((old ++ head) ++ inside) ++ (indent ++ close) ≡ old ++ (((head ++ inside) ++ indent) ++ close)
regrouped_loop old head inside indent close = simp append_assoc

-- the second block of a choice, where something stands in it
pub else_more : (indent : List ℕ) (xs : List Statement) → 1 ≤ length xs → else_text indent (block_of xs) ≡ indent ++ codes "} else {\n"
else_more indent [] some = absurd (omega arith)
else_more indent (x ∷ xs) some = refl

-- the text of a choice: its line, its blocks, and what closes it
pub choice_pushed : (lines indent : List ℕ) (o : Origin) (e : Expression) (a b : Vec Statement Global) (s : Statement) (old head one two three new i j : List ℕ) (xs ys zs : List Statement)
    → s ≡ If o e a b → i ≡ deeper indent → j ≡ deeper indent → xs ≡ a.items → ys ≡ b.items → zs ≡ b.items
    → head ≡ old ++ (indent ++ head_text (codes "if ") (expression_of e) ++ line_text lines (origin_of o))
    → one ≡ head ++ block_text lines i (block_of xs) → two ≡ one ++ else_text indent (block_of ys) → three ≡ two ++ block_text lines j (block_of zs)
    → new ≡ three ++ (indent ++ codes "}\n") → new ≡ old ++ statement_text lines indent (statement_of s)
choice_pushed lines indent o e a b s old head one two three new i j xs ys zs is deep deeply first middle second begun then_pushed else_pushed last_pushed closed =
    let top = indent ++ head_text (codes "if ") (expression_of e) ++ line_text lines (origin_of o) in
    let whole = λ (x y : Block). ((((top ++ block_text lines (deeper indent) x) ++ else_text indent y) ++ block_text lines (deeper indent) y) ++ indent) ++ codes "}\n" in
    let text : statement_text lines indent (statement_of s) ≡ whole (block_of a.items) (block_of b.items) =
    ap (λ x. statement_text lines indent (statement_of x)) is ∙ ap (λ x. whole x (row_of (hidden-the_row-Statement-0 b))) (row_of_hidden a)
    ∙ ap (λ y. whole (block_of a.items) y) (row_of_hidden b)
    in
    closed
    ∙ ap (λ t. t ++ (indent ++ codes "}\n"))
    (last_pushed
    ∙ ap (λ t. t ++ block_text lines j (block_of zs)) (else_pushed
    ∙ ap (λ t. t ++ else_text indent (block_of ys)) (then_pushed ∙ ap (λ t. t ++ block_text lines i (block_of xs)) begun)))
    ∙ ap (λ t. ((((old ++ top) ++ t) ++ else_text indent (block_of ys)) ++ block_text lines j (block_of zs)) ++ (indent ++ codes "}\n"))
    (block_same lines i (deeper indent) xs a.items deep first)
    ∙ ap (λ l. ((((old ++ top) ++ block_text lines (deeper indent) (block_of a.items)) ++ else_text indent (block_of l)) ++ block_text lines j (block_of zs))
    ++ (indent ++ codes "}\n")) middle
    ∙ ap (λ t. ((((old ++ top) ++ block_text lines (deeper indent) (block_of a.items)) ++ else_text indent (block_of b.items)) ++ t) ++ (indent ++ codes "}\n"))
    (block_same lines j (deeper indent) zs b.items deeply second)
    ∙ regrouped old top (block_text lines (deeper indent) (block_of a.items)) (else_text indent (block_of b.items)) (block_text lines (deeper indent) (block_of b.items)) indent (codes "}\n")
    ∙ ap (λ t. old ++ t) (sym text)

-- the text of a loop
pub loop_pushed : (lines indent : List ℕ) (o : Origin) (e : Expression) (a : Vec Statement Global) (s : Statement) (old head one new i : List ℕ) (xs : List Statement)
    → s ≡ While o e a → i ≡ deeper indent → xs ≡ a.items
    → head ≡ old ++ (indent ++ head_text (codes "while ") (expression_of e) ++ line_text lines (origin_of o))
    → one ≡ head ++ block_text lines i (block_of xs) → new ≡ one ++ (indent ++ codes "}\n") → new ≡ old ++ statement_text lines indent (statement_of s)
loop_pushed lines indent o e a s old head one new i xs is deep first begun inside_pushed closed =
    let top = indent ++ head_text (codes "while ") (expression_of e) ++ line_text lines (origin_of o) in
    let whole = λ (x : Block). ((top ++ block_text lines (deeper indent) x) ++ indent) ++ codes "}\n" in
    let text : statement_text lines indent (statement_of s) ≡ whole (block_of a.items) =
    ap (λ x. statement_text lines indent (statement_of x)) is ∙ ap whole (row_of_hidden a)
    in
    closed ∙ ap (λ t. t ++ (indent ++ codes "}\n")) (inside_pushed ∙ ap (λ t. t ++ block_text lines i (block_of xs)) begun)
    ∙ ap (λ t. ((old ++ top) ++ t) ++ (indent ++ codes "}\n")) (block_same lines i (deeper indent) xs a.items deep first)
    ∙ regrouped_loop old top (block_text lines (deeper indent) (block_of a.items)) indent (codes "}\n")
    ∙ ap (λ t. old ++ t) (sym text)
