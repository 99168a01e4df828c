-- The extent of an expression, by the extents of its parts.
use Rattle.std.proofs.Common.{◌≡◌, ◌≤◌, ◌+◌, ◌⊎◌, inl, inr, ◌||◌, ℕ, suc, min, Bool, true, false, Option, Some, None, List, ◌∷◌, length, drop, get_or, refl, sym, ap, subst, ◌∙◌, arith}
use Rattle.std.proofs.Math.Seq.{drop-cons}
use Rattle.lrc_program.specs.declared.Operator.{Operator}
use Rattle.lrc_named_tree.specs.declared.tree.Expression as code_expression
use Rattle.lrc_named_tree.specs.Tree.{Named, Expression, Expressions}
use Rattle.lrc_named_tree.specs.View.{expression_of, expressions_of}
use Rattle.lrc_named_names.specs.Names.{Item, Meaning, constant, shared, lock, function, Declared, meaning_of}
use Rattle.lrc_named_constants.specs.Constant.{names_of}
use Rattle.lrc_named_constants.specs.Well.{Takes, bytes_of, count, is_among}
use Rattle.lrc_named_expression_faults.specs.declared.extent.Extent.{Extent}
use Rattle.lrc_named_expression_faults.specs.Extent.{Varies, me, nodes, a_shared_item, in_an_index, in_an_argument, in_a_body, in_parentheses, in_a_negation, left, right}
use Rattle.lrc_named_expression_faults.specs.Extent.{left_of_both, right_of_both, left_of_either, right_of_either, OneVaries, this, another, before}
use Rattle.lrc_named_expression_faults.specs.Extent.{Weighs, a_number, the_node, the_nodes, an_element, a_call, parentheses, a_negation, a_binary, both, either, nothing, one_of}
use Rattle.lrc_named_expression_faults.specs.Extent.{IsExtent, AreExtent}
use Rattle.lrc_named_expression_faults.specs.Scope.{Scope, is_shared, sense_by, sense_of}

or_cases : (a b : Bool) → (a || b) ≡ true → (a ≡ true) ⊎ (b ≡ true)
or_cases true b e = inl refl
or_cases false b e = inr e

or_left : (a b : Bool) → a ≡ true → (a || b) ≡ true
or_left true b e = refl
or_left false b e = absurd (cc)

or_right : (a b : Bool) → b ≡ true → (a || b) ≡ true
or_right true b e = refl
or_right false b e = e

-- a name of a shared item is no parameter, and is declared so
shared_by : (a : Bool) (m : Option Meaning) (s : Bool) → is_shared (sense_by a m s) ≡ true → (a ≡ false) × (item : Item) × (m ≡ Some (shared item))
shared_by true m s e = absurd (cc)
shared_by false None true e = absurd (cc)
shared_by false None false e = absurd (cc)
shared_by false (Some (constant v)) s e = absurd (cc)
shared_by false (Some (shared item)) s e = (refl, item, refl)
shared_by false (Some (lock item)) s e = absurd (cc)
shared_by false (Some (function own body)) s e = absurd (cc)

shared_so : (a : Bool) (m : Option Meaning) (s : Bool) (item : Item) → a ≡ false → m ≡ Some (shared item) → is_shared (sense_by a m s) ≡ true
shared_so true m s item e f = absurd (cc)
shared_so false None s item e f = absurd (cc)
shared_so false (Some (constant v)) s item e f = absurd (cc)
shared_so false (Some (shared other)) s item e f = refl
shared_so false (Some (lock other)) s item e f = absurd (cc)
shared_so false (Some (function own body)) s item e f = absurd (cc)

-- what varies in an expression stands in one of its parts
number_varies : {d : List Declared} {ps : List (List ℕ)} {at n : ℕ} → Varies d ps (Expression.number at n) → ⊥
number_varies v = elim v [ ]

parentheses_vary : {d : List Declared} {ps : List (List ℕ)} {opens close : ℕ} {e : Expression} → Varies d ps (Expression.group opens e close) → Varies d ps e
parentheses_vary (in_parentheses v) = v

negation_varies : {d : List Declared} {ps : List (List ℕ)} {at : ℕ} {e : Expression} → Varies d ps (Expression.negation at e) → Varies d ps e
negation_varies (in_a_negation v) = v

binary_varies : {d : List Declared} {ps : List (List ℕ)} {o : Operator} {a b : Expression} → Varies d ps (Expression.binary a o b) → (Varies d ps a) ⊎ (Varies d ps b)
binary_varies (left v) = inl v
binary_varies (right v) = inr v

both_vary : {d : List Declared} {ps : List (List ℕ)} {a b : Expression} → Varies d ps (Expression.both a b) → (Varies d ps a) ⊎ (Varies d ps b)
both_vary (left_of_both v) = inl v
both_vary (right_of_both v) = inr v

either_varies : {d : List Declared} {ps : List (List ℕ)} {a b : Expression} → Varies d ps (Expression.either a b) → (Varies d ps a) ⊎ (Varies d ps b)
either_varies (left_of_either v) = inl v
either_varies (right_of_either v) = inr v

pub number_extent : (d : List Declared) (ps : List (List ℕ)) (at n : ℕ) (x : Extent) → x.varies ≡ false → x.weight ≡ 0
    → IsExtent d ps (Expression.number at n) x
number_extent d ps at n x v w =
    record { varies = λ t. absurd (cc); varies_only = λ h. absurd (number_varies h); count = 0; weighs = a_number; weight = omega arith }

pub me_extent : (d : List Declared) (ps : List (List ℕ)) (at : ℕ) (x : Extent) → x.varies ≡ true → x.weight ≡ 0
    → IsExtent d ps (Expression.me at) x
me_extent d ps at x v w = record { varies = λ t. me; varies_only = λ h. v; count = 0; weighs = the_node; weight = omega arith }

pub nodes_extent : (d : List Declared) (ps : List (List ℕ)) (at : ℕ) (x : Extent) → x.varies ≡ true → x.weight ≡ 0
    → IsExtent d ps (Expression.nodes at) x
nodes_extent d ps at x v w = record { varies = λ t. nodes; varies_only = λ h. v; count = 0; weighs = the_nodes; weight = omega arith }

element_varies : {d : List Declared} {ps : List (List ℕ)} {named : Named} {indices : Expressions} {last : ℕ} → Varies d ps (Expression.element named indices last)
    → ((is_among ps named.bytes ≡ false) × (item : Item) × (meaning_of d named.bytes ≡ Some (shared item))) ⊎ (OneVaries d ps indices)
element_varies (a_shared_item {item = item} e f) = inl (e, item, f)
element_varies (in_an_index v) = inr v

pub element_extent : (scope : Scope) (named : Named) (indices : Expressions) (last : ℕ) (own inside x : Extent)
    → own.varies ≡ is_shared (sense_of scope named.bytes) → own.weight ≡ 0 → AreExtent scope.declared (names_of scope.known) indices inside
    → x.varies ≡ (own.varies || inside.varies) → x.weight ≡ min (own.weight + inside.weight) 257
    → IsExtent scope.declared (names_of scope.known) (Expression.element named indices last) x
element_extent scope named indices last own inside x is light all v w =
    let d = scope.declared in
    let ps = names_of scope.known in
    let a = is_among ps named.bytes in
    let m = meaning_of d named.bytes in
    let s = is_among scope.assigned named.bytes in
    record {
      varies = λ t. elim (or_cases own.varies inside.varies (sym v ∙ t)) [
        | inl e ↦ let h = shared_by a m s (sym is ∙ e) in a_shared_item {item = h.1} h.0 h.2
        | inr e ↦ in_an_index (all.varies e)
      ];
      varies_only = λ h. v ∙ elim (element_varies h) [
        | inl g ↦ or_left own.varies inside.varies (is ∙ shared_so a m s g.1 g.0 g.2)
        | inr g ↦ or_right own.varies inside.varies (all.varies_only g)
      ];
      count = all.count;
      weighs = an_element all.weigh;
      weight = let h = all.weight in omega arith;
    }

call_varies : {d : List Declared} {ps : List (List ℕ)} {named : Named} {arguments : Expressions} {close : ℕ} → Varies d ps (Expression.call named arguments close)
    → (OneVaries d ps arguments) ⊎ ((own : List Named) × (body : Expression) × (meaning_of d named.bytes ≡ Some (function own body)) × (Varies (before d named.bytes) (bytes_of own) body))
call_varies (in_an_argument v) = inl v
call_varies (in_a_body {own = own} {body = body} e v) = inr (own, body, e, v)

body_alike : (d : List Declared) (named : Named) (own other : List Named) (body last : Expression) → meaning_of d named.bytes ≡ Some (function own body)
    → meaning_of d named.bytes ≡ Some (function other last) → Varies (before d named.bytes) (bytes_of other) last → Varies (before d named.bytes) (bytes_of own) body
body_alike d named own other body last e f v =
    let p : other ≡ own = cc in
    let b : last ≡ body = cc in
    subst (λ x. Varies (before d named.bytes) (bytes_of own) x) b (subst (λ l. Varies (before d named.bytes) (bytes_of l) last) p v)

pub call_extent : (d : List Declared) (ps : List (List ℕ)) (named : Named) (arguments : Expressions) (close : ℕ) (own : List Named) (body : Expression)
    (inside deep joined x : Extent) → meaning_of d named.bytes ≡ Some (function own body) → AreExtent d ps arguments inside
    → IsExtent (before d named.bytes) (bytes_of own) body deep → deep.weight ≤ 256 → joined.varies ≡ (inside.varies || deep.varies)
    → joined.weight ≡ min (inside.weight + deep.weight) 257 → x.varies ≡ joined.varies → x.weight ≡ min (1 + joined.weight) 257
    → IsExtent d ps (Expression.call named arguments close) x
call_extent d ps named arguments close own body inside deep joined x is all one light jv jw v w =
    record {
      varies = λ t. elim (or_cases inside.varies deep.varies (sym jv ∙ sym v ∙ t)) [
        | inl e ↦ in_an_argument (all.varies e)
        | inr e ↦ in_a_body is (one.varies e)
      ];
      varies_only = λ h. v ∙ jv ∙ elim (call_varies h) [
        | inl g ↦ or_left inside.varies deep.varies (all.varies_only g)
        | inr g ↦ or_right inside.varies deep.varies (one.varies_only (body_alike d named own g.0 body g.1 is g.2 g.3))
      ];
      count = 1 + (all.count + one.count);
      weighs = a_call all.weigh is one.weighs;
      weight = let h = all.weight in let g = one.weight in omega arith;
    }

pub parentheses_extent : (d : List Declared) (ps : List (List ℕ)) (opens close : ℕ) (e : Expression) (x : Extent) → IsExtent d ps e x
    → IsExtent d ps (Expression.group opens e close) x
parentheses_extent d ps opens close e x h =
    record { varies = λ t. in_parentheses (h.varies t); varies_only = λ v. h.varies_only (parentheses_vary v); count = h.count; weighs = parentheses h.weighs; weight = h.weight }

pub negation_extent : (d : List Declared) (ps : List (List ℕ)) (at : ℕ) (e : Expression) (y x : Extent) → IsExtent d ps e y
    → x.varies ≡ y.varies → x.weight ≡ min (1 + y.weight) 257 → IsExtent d ps (Expression.negation at e) x
negation_extent d ps at e y x h v w =
    record {
      varies = λ t. in_a_negation (h.varies (sym v ∙ t));
      varies_only = λ g. v ∙ h.varies_only (negation_varies g);
      count = 1 + h.count;
      weighs = a_negation h.weighs;
      weight = let n = h.weight in omega arith;
    }

-- the sides of an operator
pub record AreSides (d : List Declared) (ps : List (List ℕ)) (a b : Expression) (x : Extent) : Type 0 where
  pub varies : x.varies ≡ true → (Varies d ps a) ⊎ (Varies d ps b)
  pub varies_only : (Varies d ps a) ⊎ (Varies d ps b) → x.varies ≡ true
  pub first : ℕ
  pub second : ℕ
  pub first_weighs : Weighs d a first
  pub second_weighs : Weighs d b second
  pub weight : x.weight ≡ min (1 + (first + second)) 257

pub sides : (d : List Declared) (ps : List (List ℕ)) (a b : Expression) (one other joined x : Extent) → IsExtent d ps a one → IsExtent d ps b other
    → joined.varies ≡ (one.varies || other.varies) → joined.weight ≡ min (one.weight + other.weight) 257
    → x.varies ≡ joined.varies → x.weight ≡ min (1 + joined.weight) 257 → AreSides d ps a b x
sides d ps a b one other joined x l r jv jw v w =
    record {
      varies = λ t. elim (or_cases one.varies other.varies (sym jv ∙ sym v ∙ t)) [ inl e ↦ inl (l.varies e) | inr e ↦ inr (r.varies e) ];
      varies_only = λ h. v ∙ jv ∙ elim h [ inl g ↦ or_left one.varies other.varies (l.varies_only g) | inr g ↦ or_right one.varies other.varies (r.varies_only g) ];
      first = l.count;
      second = r.count;
      first_weighs = l.weighs;
      second_weighs = r.weighs;
      weight = let m = l.weight in let n = r.weight in omega arith;
    }

pub binary_extent : (d : List Declared) (ps : List (List ℕ)) (a b : Expression) (o : Operator) (x : Extent) → AreSides d ps a b x
    → IsExtent d ps (Expression.binary a o b) x
binary_extent d ps a b o x h =
    record {
      varies = λ t. elim (h.varies t) [ inl v ↦ left v | inr v ↦ right v ];
      varies_only = λ v. h.varies_only (binary_varies v);
      count = 1 + (h.first + h.second);
      weighs = a_binary h.first_weighs h.second_weighs;
      weight = h.weight;
    }

pub both_extent : (d : List Declared) (ps : List (List ℕ)) (a b : Expression) (x : Extent) → AreSides d ps a b x → IsExtent d ps (Expression.both a b) x
both_extent d ps a b x h =
    record {
      varies = λ t. elim (h.varies t) [ inl v ↦ left_of_both v | inr v ↦ right_of_both v ];
      varies_only = λ v. h.varies_only (both_vary v);
      count = 1 + (h.first + h.second);
      weighs = both h.first_weighs h.second_weighs;
      weight = h.weight;
    }

pub either_extent : (d : List Declared) (ps : List (List ℕ)) (a b : Expression) (x : Extent) → AreSides d ps a b x → IsExtent d ps (Expression.either a b) x
either_extent d ps a b x h =
    record {
      varies = λ t. elim (h.varies t) [ inl v ↦ left_of_either v | inr v ↦ right_of_either v ];
      varies_only = λ v. h.varies_only (either_varies v);
      count = 1 + (h.first + h.second);
      weighs = either h.first_weighs h.second_weighs;
      weight = h.weight;
    }

-- expressions one behind the other
none_varies : {d : List Declared} {ps : List (List ℕ)} → OneVaries d ps Expressions.none → ⊥
none_varies v = elim v [ ]

more_vary : {d : List Declared} {ps : List (List ℕ)} {e : Expression} {others : Expressions} → OneVaries d ps (Expressions.more e others)
    → (Varies d ps e) ⊎ (OneVaries d ps others)
more_vary (this v) = inl v
more_vary (another v) = inr v

pub no_extent : (d : List Declared) (ps : List (List ℕ)) (x : Extent) → x.varies ≡ false → x.weight ≡ 0 → AreExtent d ps Expressions.none x
no_extent d ps x v w =
    record { varies = λ t. absurd (cc); varies_only = λ h. absurd (none_varies h); count = 0; weigh = nothing; weight = omega arith }

more_extent : (d : List Declared) (ps : List (List ℕ)) (e : Expression) (others : Expressions) (one all x : Extent) → IsExtent d ps e one
    → AreExtent d ps others all → x.varies ≡ (one.varies || all.varies) → x.weight ≡ min (one.weight + all.weight) 257
    → AreExtent d ps (Expressions.more e others) x
more_extent d ps e others one all x l r v w =
    record {
      varies = λ t. elim (or_cases one.varies all.varies (sym v ∙ t)) [ inl h ↦ this (l.varies h) | inr h ↦ another (r.varies h) ];
      varies_only = λ h. v ∙ elim (more_vary h) [ inl g ↦ or_left one.varies all.varies (l.varies_only g) | inr g ↦ or_right one.varies all.varies (r.varies_only g) ];
      count = l.count + r.count;
      weigh = one_of l.weighs r.weigh;
      weight = let m = l.weight in let n = r.weight in omega arith;
    }

pub extent_step : (d : List Declared) (ps : List (List ℕ)) (xs : List code_expression.Expression) (i k : ℕ) (y : code_expression.Expression) (one all x : Extent)
    → suc k ≡ i → suc k ≤ length xs → y ≡ get_or xs k y → IsExtent d ps (expression_of y) one → AreExtent d ps (expressions_of (drop i xs)) all
    → x.varies ≡ (one.varies || all.varies) → x.weight ≡ min (one.weight + all.weight) 257 → AreExtent d ps (expressions_of (drop k xs)) x
extent_step d ps xs i k y one all x next lt is l r v w =
    let cut : drop k xs ≡ y ∷ drop i xs = drop-cons xs k y (omega arith) ∙ ap (λ n. get_or xs k y ∷ drop n xs) next ∙ ap (λ z. z ∷ drop i xs) (sym is) in
    subst (λ l. AreExtent d ps (expressions_of l) x) (sym cut) (more_extent d ps (expression_of y) (expressions_of (drop i xs)) one all x l r v w)

pub same_extent : (d : List Declared) (ps : List (List ℕ)) (e : Expression) (x y : Extent) → x ≡ y → x.weight ≤ 256 → IsExtent d ps e x
    → (y.weight ≤ 256) × IsExtent d ps e y
same_extent d ps e x y is light h = (subst (λ z. z.weight ≤ 256) is light, subst (λ z. IsExtent d ps e z) is h)

-- what takes arguments is a function
pub called_function : (m : Option Meaning) (n : ℕ) → Takes m n → (own : List Named) × (body : Expression) × (m ≡ Some (function own body))
called_function None n h = absurd h
called_function (Some (constant v)) n h = absurd h
called_function (Some (shared item)) n h = absurd h
called_function (Some (lock item)) n h = absurd h
called_function (Some (function own body)) n h = (own, body, refl)

-- what stands at a place
pub same_there : (o : Option Extent) (x y : Extent) → o ≡ Some x → Some y ≡ o → x ≡ y
same_there o x y e f = cc

pub nothing_there : (o : Option Extent) (x : Extent) → o ≡ Some x → None ≡ o → ⊥
nothing_there o x e f = cc
