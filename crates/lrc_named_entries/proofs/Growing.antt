-- Lists that grow by what stands for each item.
use Rattle.std.proofs.Common.{◌≡◌, ◌<◌, ◌≤◌, ◌+◌, ℕ, zero, suc, List, [], ◌∷◌, ◌++◌, map, length, take, drop, get_or, refl, ap, sym, ◌∙◌, append_assoc, append-nil, arith}
use Rattle.std.specs.List.{flat_map}
use Rattle.std.specs.Option.{option_or}
use Rattle.std.specs.Prelude.{Option, None, OnOk, Result, Ok, Err}
use Rattle.std.proofs.lemmas.List.{map-append, take_more, drop_more}
use Rattle.std.proofs.lemmas.List.Concat.{flat_map-append}
use Rattle.lrc_named_tree.specs.declared.tree.Declaration as code_declaration
use Rattle.lrc_named_tree.specs.declared.tree.Expression as code_expression
use Rattle.lrc_named_tree.specs.Ends.{last_of}
use Rattle.lrc_named_tree.specs.View.{declaration_of, expression_of, expressions_of}
use Rattle.lrc_named_entries.specs.Entry.{count_of, first_nodes, last_behind, nodes_in}

cut : {A : Type 0} (xs : List A) (i : ℕ) (x : A) → i < length xs → x ≡ get_or xs i x → take (i + 1) xs ≡ take i xs ++ x ∷ []
cut xs i x lt here = take_more xs i x lt ∙ ap (λ y. take i xs ++ y ∷ []) (sym here)

-- the rest begins with the item there
next_of : {A : Type 0} (xs : List A) (i : ℕ) (x : A) → i < length xs → x ≡ get_or xs i x → drop i xs ≡ x ∷ drop (i + 1) xs
next_of xs i x lt here = drop_more xs i x lt ∙ ap (λ y. y ∷ drop (i + 1) xs) (sym here)

none_left : {A : Type 0} (xs : List A) (i : ℕ) → length xs ≤ i → drop i xs ≡ []
none_left [] zero h = refl
none_left [] (suc i) h = refl
none_left (x ∷ xs) zero h = absurd (omega arith)
none_left (x ∷ xs) (suc i) h = none_left xs i (omega arith)

-- a list with some for each item
pub pieces_more : {A B Y : Type 0} (of : B → List Y) (view : A → B) (xs : List A) (i : ℕ) (x : A) (start old new : List Y) → i < length xs
    → x ≡ get_or xs i x → old ≡ start ++ flat_map of (map view (take i xs)) → new ≡ old ++ of (view x)
    → new ≡ start ++ flat_map of (map view (take (i + 1) xs))
pieces_more of view xs i x start old new lt here before grown =
    let front = map view (take i xs) in
    let step = ap (λ l. flat_map of (map view l)) (cut xs i x lt here) ∙ ap (flat_map of) (map-append view (take i xs) (x ∷ []))
    ∙ flat_map-append of front (view x ∷ []) ∙ ap (λ l. flat_map of front ++ l) (append-nil (of (view x))) in
    grown ∙ ap (λ l. l ++ of (view x)) before ∙ append_assoc start (flat_map of front) (of (view x)) ∙ ap (λ l. start ++ l) (sym step)

-- a list with one for each item
pub mapped_more : {A B Y : Type 0} (g : B → Y) (view : A → B) (xs : List A) (i : ℕ) (x : A) (start old new : List Y) → i < length xs
    → x ≡ get_or xs i x → old ≡ start ++ map g (map view (take i xs)) → new ≡ old ++ g (view x) ∷ []
    → new ≡ start ++ map g (map view (take (i + 1) xs))
mapped_more g view xs i x start old new lt here before grown =
    let front = map view (take i xs) in
    let step = ap (λ l. map g (map view l)) (cut xs i x lt here) ∙ ap (map g) (map-append view (take i xs) (x ∷ []))
    ∙ map-append g front (view x ∷ []) in
    grown ∙ ap (λ l. l ++ g (view x) ∷ []) before ∙ append_assoc start (map g front) (g (view x) ∷ []) ∙ ap (λ l. start ++ l) (sym step)

-- ---- sizes

pub counted : (xs : List code_expression.Expression) → length xs ≡ count_of (expressions_of xs)
counted [] = refl
counted (x ∷ xs) = let more = counted xs in omega arith

pub last_more : (xs : List code_expression.Expression) (i : ℕ) (x : code_expression.Expression) (all last next : ℕ) → i < length xs → x ≡ get_or xs i x
    → all ≡ last_behind last (expressions_of (drop i xs)) → next ≡ last_of (expression_of x) → all ≡ last_behind next (expressions_of (drop (i + 1) xs))
last_more xs i x all last next lt here so_far is =
    so_far ∙ ap (λ l. last_behind last (expressions_of l)) (next_of xs i x lt here) ∙ ap (λ n. last_behind n (expressions_of (drop (i + 1) xs))) (sym is)

pub last_there : (xs : List code_expression.Expression) (i all last : ℕ) → length xs ≤ i → all ≡ last_behind last (expressions_of (drop i xs)) → last ≡ all
last_there xs i all last past so_far = sym (so_far ∙ ap (λ l. last_behind last (expressions_of l)) (none_left xs i past))

-- ---- the first `nodes` declaration

pub nodes_more : (xs : List code_declaration.Declaration) (i : ℕ) (x : code_declaration.Declaration) (all : Option ℕ) → i < length xs → x ≡ get_or xs i x
    → all ≡ first_nodes (map declaration_of (drop i xs)) → nodes_in (declaration_of x) ≡ None → all ≡ first_nodes (map declaration_of (drop (i + 1) xs))
nodes_more xs i x all lt here so_far none =
    let rest = first_nodes (map declaration_of (drop (i + 1) xs)) in
    so_far ∙ ap (λ l. first_nodes (map declaration_of l)) (next_of xs i x lt here) ∙ ap (λ o. option_or o rest) none

pub nodes_there : (xs : List code_declaration.Declaration) (i : ℕ) (x : code_declaration.Declaration) (all found : Option ℕ) → i < length xs → x ≡ get_or xs i x
    → all ≡ first_nodes (map declaration_of (drop i xs)) → nodes_in (declaration_of x) ≡ found → option_or found (first_nodes (map declaration_of (drop (i + 1) xs))) ≡ found
    → found ≡ all
nodes_there xs i x all found lt here so_far some first =
    let rest = first_nodes (map declaration_of (drop (i + 1) xs)) in
    sym (so_far ∙ ap (λ l. first_nodes (map declaration_of l)) (next_of xs i x lt here) ∙ ap (λ o. option_or o rest) some ∙ first)

pub no_nodes : (xs : List code_declaration.Declaration) (i : ℕ) (all : Option ℕ) → length xs ≤ i → all ≡ first_nodes (map declaration_of (drop i xs)) → None ≡ all
no_nodes xs i all past so_far = sym (so_far ∙ ap (λ l. first_nodes (map declaration_of l)) (none_left xs i past))

-- ---- results

pub well : {A E : Type 0} (P Q : Type 0) (r : Result A E) → (P → Q) → OnOk r P → OnOk r Q
well P Q (Ok x) f h = f h
well P Q (Err e) f h = tt

-- what was added is what stands for it
pub added : {A E Y : Type 0} (r : Result A E) (old new more wanted : List Y) → wanted ≡ more → OnOk r (new ≡ old ++ more) → OnOk r (new ≡ old ++ wanted)
added r old new more wanted is h = well (new ≡ old ++ more) (new ≡ old ++ wanted) r (λ e. e ∙ ap (λ l. old ++ l) (sym is)) h
