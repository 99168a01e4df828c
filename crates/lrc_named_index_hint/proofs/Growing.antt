-- Lists of indices, with one more.
use Rattle.std.proofs.Common.{◌≡◌, ◌<◌, ◌+◌, ℕ, zero, suc, List, [], ◌∷◌, ◌++◌, length, take, map, get_or, refl, sym, ap, ◌∙◌, append_assoc, append-nil, add-one, arith}
use Rattle.std.proofs.Math.Seq.{take-suc}
use Rattle.lrc_named_tree.specs.declared.tree.Expression as code_expression
use Rattle.lrc_named_tree.specs.Tree.{Named}
use Rattle.lrc_named_tree.specs.View.{expression_of, expressions_of}
use Rattle.lrc_named_statement_faults.specs.declared.parts.Part as code_part
use Rattle.lrc_named_statement_faults.specs.Parts.{part_seen}
use Rattle.lrc_named_statement_faults.proofs.Growing.{IsPieced}
use Rattle.lrc_named_index_hint.specs.Spots.{Spot, spot_at, spots_among, spots_in, spots_in_all, spots_in_part, spots_in_parts}

abbrev pub spot_of : Named → ℕ → code_expression.Expression → Spot
spot_of named number e = record { name = named; number = number; index = expression_of e }

among_last : (at : ℕ) (named : Named) (before : ℕ) (xs : List code_expression.Expression) (x : code_expression.Expression)
    → spots_among at named before (expressions_of (xs ++ x ∷ []))
    ≡ spots_among at named before (expressions_of xs) ++ spot_at at (spot_of named (before + length xs) x)
among_last at named before [] x =
    append-nil (spot_at at (spot_of named before x)) ∙ ap (λ n. spot_at at (spot_of named n x)) (omega arith)
among_last at named before (y ∷ ys) x =
    let one = spot_at at (spot_of named before y) in
    let next : before + 1 + length ys ≡ before + length (y ∷ ys) = omega arith in
    ap (λ l. one ++ l) (among_last at named (before + 1) ys x)
    ∙ sym (append_assoc one (spots_among at named (before + 1) (expressions_of ys)) (spot_at at (spot_of named (before + 1 + length ys) x)))
    ∙ ap (λ n. (one ++ spots_among at named (before + 1) (expressions_of ys)) ++ spot_at at (spot_of named n x)) next

length_of_front : (xs : List code_expression.Expression) (i : ℕ) → i < length xs → length (take i xs) ≡ i
length_of_front xs zero lt = refl
length_of_front [] (suc i) lt = absurd (omega arith)
length_of_front (x ∷ xs) (suc i) lt = ap suc (length_of_front xs i (omega arith))

pub among_step : (at : ℕ) (named : Named) (xs : List code_expression.Expression) (i : ℕ) (x : code_expression.Expression) (start old new : List Spot)
    → i < length xs → x ≡ get_or xs i x → old ≡ start ++ spots_among at named 0 (expressions_of (take i xs)) → new ≡ old ++ spot_at at (spot_of named i x)
    → new ≡ start ++ spots_among at named 0 (expressions_of (take (i + 1) xs))
among_step at named xs i x start old new lt here before grown =
    let cut : take (i + 1) xs ≡ take i xs ++ x ∷ [] = rw add-one (take-suc xs i x lt ∙ ap (λ y. take i xs ++ y ∷ []) (sym here)) in
    let front = spots_among at named 0 (expressions_of (take i xs)) in
    let count : 0 + length (take i xs) ≡ i = let l = length_of_front xs i lt in omega (arith, l) in
    let more : spots_among at named 0 (expressions_of (take (i + 1) xs)) ≡ front ++ spot_at at (spot_of named i x) =
    ap (λ l. spots_among at named 0 (expressions_of l)) cut ∙ among_last at named 0 (take i xs) x
    ∙ ap (λ n. front ++ spot_at at (spot_of named n x)) count in
    grown ∙ ap (λ l. l ++ spot_at at (spot_of named i x)) before ∙ append_assoc start front (spot_at at (spot_of named i x)) ∙ ap (λ l. start ++ l) (sym more)

pub all_pieced : (at : ℕ) → IsPieced (λ (xs : List code_expression.Expression). spots_in_all at (expressions_of xs)) (λ x. spots_in at (expression_of x))
all_pieced at = record { nothing = refl; next = λ x xs. refl }

pub parts_pieced : (at : ℕ) → IsPieced (λ (xs : List code_part.Part). spots_in_parts at (map part_seen xs)) (λ x. spots_in_part at (part_seen x))
parts_pieced at = record { nothing = refl; next = λ x xs. refl }
