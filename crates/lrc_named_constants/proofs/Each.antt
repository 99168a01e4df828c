-- Expressions one behind the other, as a loop comes to them.
use Rattle.std.proofs.Common.{◌≡◌, ℕ, zero, suc, min, ◌+◌, ◌<◌, ◌≤◌, true, false, List, [], ◌∷◌, ◌++◌, map, length, get_or, drop, take, append_assoc, refl, sym, ap, subst, arith, ◌∙◌, add-one}
use Rattle.std.specs.Prelude.{Option, Some, None, unwrap_or}
use Rattle.std.specs.Str.{bytes_eq}
use Rattle.std.proofs.Math.Seq.{drop-cons, take-suc}
use Rattle.std.proofs.lemmas.Option.{slice_get-get_or, get_or_from_slice_get}
use Rattle.lrc_named_constants.proofs.FirstPlaces.{first_place, seen_at}
use Rattle.lrc_named_tree.specs.declared.tree.Expression as code_expression
use Rattle.lrc_named_tree.specs.declared.tree.Name as code_name
use Rattle.lrc_named_tree.specs.Tree.{Named, Expression, Expressions, element, none, more}
use Rattle.lrc_named_tree.specs.View.{named_of, expression_of, expressions_of}
use Rattle.lrc_named_names.specs.Names.{Declared, Meaning, constant, shared, lock, function, meaning_of}
use Rattle.lrc_named_constants.specs.declared.constancy.Constancy.{Constancy}
use Rattle.lrc_named_constants.specs.declared.constancy.Constancy.TheVariants.{Varies, Undefined, Value}
use Rattle.lrc_named_constants.specs.Combine.{called, is_varying}
use Rattle.lrc_named_constants.specs.Constant.{Known, names_of, IsConstancy, AreConstancies, no_expression, one_expression, bound, known_as, parameter_of, constancy_of_meaning}
use Rattle.lrc_named_constants.specs.Constant.{a_parameter, a_private_name, a_constant, a_shared_item}
use Rattle.lrc_named_constants.specs.Well.{HasValue, ValueUnless, is_among, IsWell, AreWell}
use Rattle.lrc_named_constants.specs.declared.constancy.Known as code_known
use Rattle.lrc_named_constants.specs.View.{known_of}
use Rattle.lrc_named_constants.proofs.Among.{unknown_is_among_none}
use Rattle.lrc_named_constants.proofs.Measure.{size, sizes}

-- expressions with one more behind them
abbrev pub with_last : Expressions → Expression → Expressions
with_last none e = more e none
with_last (more first others) e = more first (with_last others e)

pub expressions_of-push : (xs : List code_expression.Expression) (x : code_expression.Expression)
    → expressions_of (xs ++ x ∷ []) ≡ with_last (expressions_of xs) (expression_of x)
expressions_of-push [] x = refl
expressions_of-push (first ∷ rest) x = ap (more (expression_of first)) (expressions_of-push rest x)

pub constancies_push : {declared : List Declared} {known : List Known} {es : Expressions} {e : Expression} {ws : List Constancy} {w : Constancy}
    → AreConstancies declared known es ws → IsConstancy declared known e w → AreConstancies declared known (with_last es e) (ws ++ w ∷ [])
constancies_push no_expression last = one_expression last no_expression
constancies_push (one_expression first others) last = one_expression first (constancies_push others last)

-- one of expressions that are well, and its size
pub well_at : (declared : List Declared) (parameters : List (List ℕ)) (below : ℕ) (xs : List code_expression.Expression) (i : ℕ) (d : code_expression.Expression)
    → i < length xs → AreWell declared parameters below (expressions_of xs) → IsWell declared parameters below (expression_of (get_or xs i d))
well_at declared parameters below [] i d lt well = absurd (omega arith)
well_at declared parameters below (x ∷ xs) zero d lt well = well.0
well_at declared parameters below (x ∷ xs) (suc i) d lt well = well_at declared parameters below xs i d (omega arith) well.1

pub smaller_at : (xs : List code_expression.Expression) (i : ℕ) (d : code_expression.Expression)
    → i < length xs → size (expression_of (get_or xs i d)) < sizes (expressions_of xs)
smaller_at [] i d lt = absurd (omega arith)
smaller_at (x ∷ xs) zero d lt = omega arith
smaller_at (x ∷ xs) (suc i) d lt = let h = smaller_at xs i d (omega arith) in omega (arith, h)

-- no argument is left
pub bound_none : (ps : List Named) → bound ps [] ≡ []
bound_none [] = refl
bound_none (p ∷ ps) = refl

-- a name without arguments: a parameter, or what it is declared as
element_by : (declared : List Declared) (known : List Known) (named : Named) (indices : Expressions) (last : ℕ) (w : Constancy) (o : Option Constancy) (m : Option Meaning)
    → known_as known named.bytes ≡ o → meaning_of declared named.bytes ≡ m → (o ≡ None → HasValue m) → w ≡ unwrap_or o (constancy_of_meaning m)
    → IsConstancy declared known (element named indices last) w
element_by declared known named indices last w (Some x) m is means has e = subst (λ v. IsConstancy declared known (element named indices last) v) (sym e) (a_parameter is)
element_by declared known named indices last w None None is means has e = subst (λ v. IsConstancy declared known (element named indices last) v) (sym e) (a_private_name is means)
element_by declared known named indices last w None (Some (constant n)) is means has e =
    subst (λ v. IsConstancy declared known (element named indices last) v) (sym e) (a_constant is means)
element_by declared known named indices last w None (Some (shared item)) is means has e =
    subst (λ v. IsConstancy declared known (element named indices last) v) (sym e) (a_shared_item is means)
element_by declared known named indices last w None (Some (lock item)) is means has e = absurd (has refl)
element_by declared known named indices last w None (Some (function parameters body)) is means has e = absurd (has refl)

pub element_is : (declared : List Declared) (known : List Known) (named : Named) (indices : Expressions) (last : ℕ) (w : Constancy)
    → ValueUnless (is_among (names_of known) named.bytes) (meaning_of declared named.bytes) → w ≡ unwrap_or (known_as known named.bytes) (constancy_of_meaning (meaning_of declared named.bytes))
    → IsConstancy declared known (element named indices last) w
element_is declared known named indices last w has e =
    element_by declared known named indices last w (known_as known named.bytes) (meaning_of declared named.bytes) refl refl
    (λ none. subst (λ b. ValueUnless b (meaning_of declared named.bytes)) (unknown_is_among_none known named.bytes none) has) e

-- what is known of a call does not depend on an argument that does not vary, and varies with one that does
pub called_on : (x : Constancy) (xs : List Constancy) (body : Constancy) → is_varying x ≡ false → called (x ∷ xs) body ≡ called xs body
called_on Varies xs body is = absurd (cc)
called_on Undefined xs body is = refl
called_on (Value v) xs body is = refl

pub called_over : (x : Constancy) (xs : List Constancy) (body : Constancy) → is_varying x ≡ true → called (x ∷ xs) body ≡ Varies
called_over Varies xs body is = refl
called_over Undefined xs body is = absurd (cc)
called_over (Value v) xs body is = absurd (cc)

-- no parameter, or no argument, is left
pub bound_past : (ps : List code_name.Name) (ws : List Constancy) (i : ℕ) → min (length ps) (length ws) ≤ i
    → bound (map named_of (drop i ps)) (drop i ws) ≡ []
bound_past [] ws zero h = refl
bound_past [] ws (suc i) h = refl
bound_past (p ∷ ps) [] zero h = refl
bound_past (p ∷ ps) [] (suc i) h = bound_none (map named_of (drop i ps))
bound_past (p ∷ ps) (w ∷ ws) zero h = absurd (omega arith)
bound_past (p ∷ ps) (w ∷ ws) (suc i) h = bound_past ps ws i (omega arith)

pub known_push : (ks : List code_known.Known) (k : code_known.Known) → map known_of (ks ++ k ∷ []) ≡ map known_of ks ++ known_of k ∷ []
known_push [] k = refl
known_push (first ∷ rest) k = ap (λ l. known_of first ∷ l) (known_push rest k)

-- what is known of one expression more
pub constancies_step : (declared : List Declared) (known : List Known) (xs : List code_expression.Expression) (i : ℕ) (x : code_expression.Expression)
    (old new : List Constancy) (w : Constancy) → i < length xs → x ≡ get_or xs i x → new ≡ old ++ w ∷ []
    → AreConstancies declared known (expressions_of (take i xs)) old → IsConstancy declared known (expression_of x) w
    → AreConstancies declared known (expressions_of (take (i + 1) xs)) new
constancies_step declared known xs i x old new w lt is grown before here =
    let step : take (i + 1) xs ≡ take i xs ++ x ∷ [] = rw add-one (take-suc xs i x lt ∙ ap (λ y. take i xs ++ y ∷ []) (sym is)) in
    let last : expressions_of (take (i + 1) xs) ≡ with_last (expressions_of (take i xs)) (expression_of x) = ap expressions_of step ∙ expressions_of-push (take i xs) x in
    subst (λ es. AreConstancies declared known es new) (sym last)
    (subst (λ ws. AreConstancies declared known (with_last (expressions_of (take i xs)) (expression_of x)) ws) (sym grown) (constancies_push before here))

-- an element, whatever would stand beyond the end
pub read_at : {A : Type 0} (xs : List A) (i : ℕ) (d e : A) → i < length xs → get_or xs i d ≡ get_or xs i e
read_at xs i d e lt = get_or_from_slice_get xs i (get_or xs i e) d (slice_get-get_or xs i e lt)

pub named_at : (xs : List code_known.Known) (i : ℕ) (e : code_known.Known) (name : List ℕ) → i < length xs
    → ((k : ℕ) → k < i → (d : Known) → bytes_eq (get_or (map known_of xs) k d).name name ≡ false)
    → bytes_eq (get_or xs i e).name.now name ≡ true → i ≡ parameter_of (map known_of xs) name
named_at xs i e name lt before here =
    first_place known_of (λ (k : Known). bytes_eq k.name name) xs i (get_or xs i e) lt (sym (read_at xs i (get_or xs i e) e lt)) before here

pub not_named_at : (xs : List code_known.Known) (i : ℕ) (e : code_known.Known) (name : List ℕ) → i < length xs
    → bytes_eq (get_or xs i e).name.now name ≡ false → (d : Known) → bytes_eq (get_or (map known_of xs) i d).name name ≡ false
not_named_at xs i e name lt here d =
    ap (λ (k : Known). bytes_eq k.name name) (seen_at known_of xs i (get_or xs i e) d lt (sym (read_at xs i (get_or xs i e) e lt))) ∙ here

-- one parameter more
abbrev pub made : code_name.Name → Constancy → code_known.Known
made p w = record { name = p.bytes; constancy = w }

pub bind_step : (old new : List code_known.Known) (ps : List code_name.Name) (ws : List Constancy) (i : ℕ) (all : List Known) (d : code_name.Name) (e : Constancy)
    → i < length ps → i < length ws → new ≡ old ++ made (get_or ps i d) (get_or ws i e) ∷ []
    → map known_of old ++ bound (map named_of (drop i ps)) (drop i ws) ≡ all
    → map known_of new ++ bound (map named_of (drop (i + 1) ps)) (drop (i + 1) ws) ≡ all
bind_step old new ps ws i all d e lt less grown before =
    let k = made (get_or ps i d) (get_or ws i e) in
    let rest = bound (map named_of (drop (i + 1) ps)) (drop (i + 1) ws) in
    let first : drop i ps ≡ get_or ps i d ∷ drop (i + 1) ps = rw add-one (drop-cons ps i d lt) in
    let second : drop i ws ≡ get_or ws i e ∷ drop (i + 1) ws = rw add-one (drop-cons ws i e less) in
    let whole : bound (map named_of (drop i ps)) (drop i ws) ≡ known_of k ∷ rest = ap (λ l. bound (map named_of l) (drop i ws)) first ∙ ap (λ l. bound (map named_of (get_or ps i d ∷ drop (i + 1) ps)) l) second in
    ap (λ l. map known_of l ++ rest) grown ∙ ap (λ l. l ++ rest) (known_push old k) ∙ append_assoc (map known_of old) (known_of k ∷ []) rest
    ∙ ap (λ l. map known_of old ++ l) (sym whole) ∙ before

-- what a call's arguments that are left say
pub called_step : (xs : List Constancy) (i : ℕ) (d body all : Constancy) → i < length xs → is_varying (get_or xs i d) ≡ false
    → called (drop i xs) body ≡ all → called (drop (i + 1) xs) body ≡ all
called_step xs i d body all lt here before =
    let first : drop i xs ≡ get_or xs i d ∷ drop (i + 1) xs = rw add-one (drop-cons xs i d lt) in
    sym (called_on (get_or xs i d) (drop (i + 1) xs) body here) ∙ ap (λ l. called l body) (sym first) ∙ before

pub called_varying : (xs : List Constancy) (i : ℕ) (d body all : Constancy) → i < length xs → is_varying (get_or xs i d) ≡ true
    → called (drop i xs) body ≡ all → Varies ≡ all
called_varying xs i d body all lt here before =
    let first : drop i xs ≡ get_or xs i d ∷ drop (i + 1) xs = rw add-one (drop-cons xs i d lt) in
    sym (called_over (get_or xs i d) (drop (i + 1) xs) body here) ∙ ap (λ l. called l body) (sym first) ∙ before
