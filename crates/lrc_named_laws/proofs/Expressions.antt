-- The core of an expression: its numbers fit, and its names are those of the named text or the translation's own.
use Rattle.std.proofs.Common.{◌≡◌, ◌≤◌, ◌+◌, ℕ, zero, suc, Bool, true, List, [], ◌∷◌, length, sym, subst, ◌∙◌, arith}
use Rattle.std.specs.Prelude.{Option, Some, None, slice_get}
use Rattle.lrc_named_tree.specs.Tree.{Expressions}
use Rattle.lrc_named_tree.specs.Tree as tree
use Rattle.lrc_named_names.specs.Names.{Declared, Item, Meaning, meaning_of, place_of}
use Rattle.lrc_named_constants.specs.Constant.{Known, bound, names_of, parameter_of}
use Rattle.lrc_named_constants.specs.Well.{count, is_among}
use Rattle.lrc_named_constants.proofs.Among.{length_of_constancies, names_of-bound, takes_all, unknown_is_among_none}
use Rattle.lrc_named_core.specs.Tree.{Private, named, own, Expression, Origin, Block}
use Rattle.lrc_named_faults.specs.Bodies.{AreBodiesClean}
use Rattle.lrc_named_translation.specs.Made.{AreMade, IsByRule, IsMade}
use Rattle.lrc_named_translation.specs.Made as made
use Rattle.lrc_named_text_laws.specs.Spelled.{Fits, IsName}
use Rattle.lrc_named_laws.proofs.Addresses.{address_fits}
use Rattle.lrc_named_laws.proofs.Clean.{AreKnown, IsKnown, body_known}
use Rattle.lrc_named_laws.proofs.Cores.{AreAllFit, AreFit, IsFit, both_fit}
use Rattle.lrc_named_laws.proofs.Parsed.{AreLegible, IsLegible}
use Rattle.lrc_named_laws.proofs.Values.{AllFit, IsSoundTable, bound_fit, constancies_fit, constancy_fits}

-- a name of the core of a text in which so much is declared and these names are set
abbrev pub IsOfCore : List Declared → (names : List (List ℕ)) → Private → Type 0
IsOfCore declared names (named bytes) = IsName bytes × (is_among names bytes ≡ true) × (meaning_of declared bytes ≡ None)
IsOfCore declared names (own k first last) = 1 ≤ k

pub nought : Fits 0
nought = omega arith

pub one : Fits 1
one = omega arith

pub next_some : (n : ℕ) → 1 ≤ n + 1
next_some n = omega arith

fit_at : (IsSuch : Private → Type 0) (ps : List Expression) (i : ℕ) (p : Expression) → AreAllFit IsSuch ps → slice_get ps i ≡ Some p → IsFit IsSuch p
fit_at IsSuch [] i p all is = absurd (cc)
fit_at IsSuch (q ∷ ps) zero p all is = let e : q ≡ p = cc in subst (IsFit IsSuch) e all.0
fit_at IsSuch (q ∷ ps) (suc i) p all is = fit_at IsSuch ps i p all.1 is

module _ (declared : List Declared) (names : List (List ℕ)) (bodies : AreBodiesClean declared) (sound : IsSoundTable declared) where
  mutual
    pub made_fit : {at : Origin} {ks : List Known} {cores : List Expression} {e : tree.Expression} {taken after : ℕ} {before : Block} {p : Expression}
        → IsMade declared at ks cores e taken before p after → AllFit ks → AreAllFit (IsOfCore declared names) cores → IsLegible e
        → IsKnown declared names (names_of ks) e → AreFit (IsOfCore declared names) before × IsFit (IsOfCore declared names) p
    made_fit (made.a_value c) fit cores legible known = (tt, constancy_fits declared sound c fit legible)
    made_fit (made.by_rule c h r) fit cores legible known = ruled r fit cores legible known

    ruled : {at : Origin} {ks : List Known} {cores : List Expression} {e : tree.Expression} {taken after : ℕ} {before : Block} {p : Expression}
        → IsByRule declared at ks cores e taken before p after → AllFit ks → AreAllFit (IsOfCore declared names) cores → IsLegible e
        → IsKnown declared names (names_of ks) e → AreFit (IsOfCore declared names) before × IsFit (IsOfCore declared names) p
    ruled made.a_number fit cores legible known = (tt, legible)
    ruled made.the_node fit cores legible known = (tt, tt)
    ruled made.node_count fit cores legible known = (tt, tt)
    ruled {ks = ks} {cores = ps} {p = p} (made.a_parameter {name = name} is stands) fit cores legible known =
        (tt, fit_at (IsOfCore declared names) ps (parameter_of ks name.bytes) p cores stands)
    ruled {ks = ks} (made.a_private_name {name = name} off means) fit cores legible known =
        (tt, (legible.0, known.0 (unknown_is_among_none ks name.bytes off) means, means))
    ruled (made.a_constant {name = name} {n = n} off means) fit cores legible known = (tt, sound (place_of declared name.bytes) (Meaning.constant n) means)
    ruled (made.a_shared_item {name = name} {item = item} {after = after} {before = before} {ps = ps} off means are) fit cores legible known =
        let h = all_made are fit cores legible.1 known.1 in
        let placed = sound (place_of declared name.bytes) (Meaning.shared item) means in
        let some = next_some after in
        (both_fit (IsOfCore declared names) before _ h.0 ((some, address_fits (IsOfCore declared names) item ps placed h.1), tt), some)
    ruled (made.a_call {name = name} {arguments = arguments} {parameters = parameters} {body = body} {ws = ws} {before = before} {inside = inside} {ps = ps} means values are is)
        fit cores legible known =
        let h = all_made are fit cores legible known.1 in
        let place = place_of declared name.bytes in
        let many : length ws ≡ length parameters =
        length_of_constancies values ∙ takes_all (meaning_of declared name.bytes) (count arguments) parameters body known.0 means in
        let k = made_fit is (bound_fit parameters ws (constancies_fit declared sound values fit legible)) h.1
        (sound place (Meaning.function parameters body) means)
        (subst (λ l. IsKnown declared names l body) (sym (names_of-bound parameters ws many)) (body_known declared names place parameters body bodies means)) in
        (both_fit (IsOfCore declared names) before inside h.0 k.0, k.1)
    ruled (made.parentheses m) fit cores legible known = made_fit m fit cores legible known
    ruled (made.a_negation m) fit cores legible known = let h = made_fit m fit cores legible known in (h.0, (h.1, nought))
    ruled (made.a_binary {first = first} {second = second} m n) fit cores legible known =
        let h = made_fit m fit cores legible.0 known.0 in
        let k = made_fit n fit cores legible.1 known.1 in
        (both_fit (IsOfCore declared names) first second h.0 k.0, (h.1, k.1))
    ruled (made.both_at_once m n plain) fit cores legible known =
        let h = made_fit m fit cores legible.0 known.0 in
        let k = made_fit n fit cores legible.1 known.1 in
        (h.0, ((h.1, nought), (k.1, nought)))
    ruled (made.both_in_turn {between = between} {before = before} {inside = inside} m n plain) fit cores legible known =
        let h = made_fit m fit cores legible.0 known.0 in
        let k = made_fit n fit cores legible.1 known.1 in
        let some = next_some between in (
          both_fit (IsOfCore declared names) before _ h.0
              ((some, (h.1, nought)), ((some, both_fit (IsOfCore declared names) inside _ k.0 ((some, (k.1, nought)), tt), tt), tt)),
          some,
        )
    ruled (made.either_at_once m n plain) fit cores legible known =
        let h = made_fit m fit cores legible.0 known.0 in
        let k = made_fit n fit cores legible.1 known.1 in
        (h.0, (((h.1, nought), (k.1, nought)), nought))
    ruled (made.either_in_turn {between = between} {before = before} {inside = inside} m n plain) fit cores legible known =
        let h = made_fit m fit cores legible.0 known.0 in
        let k = made_fit n fit cores legible.1 known.1 in
        let some = next_some between in (
          both_fit (IsOfCore declared names) before _ h.0
              ((some, (h.1, nought)), (((some, nought), both_fit (IsOfCore declared names) inside _ k.0 ((some, (k.1, nought)), tt), tt), tt)),
          some,
        )

    pub all_made : {at : Origin} {ks : List Known} {cores : List Expression} {es : Expressions} {taken after : ℕ} {before : Block} {ps : List Expression}
        → AreMade declared at ks cores es taken before ps after → AllFit ks → AreAllFit (IsOfCore declared names) cores → AreLegible es
        → AreKnown declared names (names_of ks) es → AreFit (IsOfCore declared names) before × AreAllFit (IsOfCore declared names) ps
    all_made made.no_expression fit cores legible known = (tt, tt)
    all_made (made.one_expression {before = before} {behind_it = second} m n) fit cores legible known =
        let h = made_fit m fit cores legible.0 known.0 in
        let k = all_made n fit cores legible.1 known.1 in
        (both_fit (IsOfCore declared names) before second h.0 k.0, (h.1, k.1))
