-- The token with which indices end, as a loop comes to it.
use Rattle.std.proofs.Common.{◌≡◌, ℕ, zero, suc, ◌+◌, ◌<◌, ◌≤◌, List, [], ◌∷◌, length, get_or, drop, sym, ap, arith, ◌∙◌, add-one}
use Rattle.std.proofs.Math.Seq.{drop-cons}
use Rattle.lrc_named_tree.specs.declared.tree.Expression.{Expression}
use Rattle.lrc_named_tree.specs.Ends.{last_of}
use Rattle.lrc_named_tree.specs.View.{expression_of, expressions_of}
use Rattle.lrc_named_statements.specs.Statements.{last_index}

pub index_step : (xs : List Expression) (i : ℕ) (x : Expression) (last further all : ℕ) → i < length xs → x ≡ get_or xs i x
    → further ≡ last_of (expression_of x) + 1 → last_index last (expressions_of (drop i xs)) ≡ all
    → last_index further (expressions_of (drop (i + 1) xs)) ≡ all
index_step xs i x last further all lt is grown before =
    let step : drop i xs ≡ get_or xs i x ∷ drop (i + 1) xs = rw add-one (drop-cons xs i x lt) in
    ap (λ n. last_index n (expressions_of (drop (i + 1) xs))) grown
    ∙ ap (λ y. last_index (last_of (expression_of y) + 1) (expressions_of (drop (i + 1) xs))) is
    ∙ sym (ap (λ l. last_index last (expressions_of l)) step) ∙ before

pub index_past : (xs : List Expression) (i last all : ℕ) → length xs ≤ i → last_index last (expressions_of (drop i xs)) ≡ all → last ≡ all
index_past [] zero last all past h = h
index_past [] (suc i) last all past h = h
index_past (x ∷ xs) zero last all past h = absurd (omega arith)
index_past (x ∷ xs) (suc i) last all past h = index_past xs i last all (omega arith) h
