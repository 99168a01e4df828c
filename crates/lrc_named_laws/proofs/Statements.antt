-- The core of statements without a fault: its numbers fit, and its names are those of the named text or the translation's own.
use Rattle.std.proofs.Common.{◌≡◌, ◌+◌, ℕ, Bool, true, false, List, [], ◌∷◌, ◌++◌, append_assoc, refl, sym, subst, inl, inr}
use Rattle.std.specs.Prelude.{Option, Some, None}
use Rattle.lrc_named_tree.specs.Tree.{Arms, Expressions, Named, Place}
use Rattle.lrc_named_tree.specs.Tree as tree
use Rattle.lrc_named_names.specs.Names.{Declared, Item, Meaning, meaning_of, place_of}
use Rattle.lrc_named_constants.specs.Well.{is_among}
use Rattle.lrc_named_core.specs.Tree.{named, Block, Expression, behind}
use Rattle.lrc_named_expression_faults.specs.declared.fault.FaultKind.TheVariants.{UnknownName, WrongUse}
use Rattle.lrc_named_expression_faults.specs.declared.fault.Fault.{Fault}
use Rattle.lrc_named_expression_faults.specs.Expressions.{IsInExpression, IsInIndices}
use Rattle.lrc_named_expression_faults.specs.Fault.{IsNone, fault_at}
use Rattle.lrc_named_expression_faults.specs.Scope.{Scope, lock_sizes, sense_by, sense_of, shared_sizes}
use Rattle.lrc_named_statement_faults.specs.Parts.{Part, counter, lock_place, parts_of, parts_of_arms, parts_of_block, parts_of_values, target, value}
use Rattle.lrc_named_statement_faults.specs.Statements.{IsInCounter, IsInPart, IsInParts, IsInTarget}
use Rattle.lrc_named_faults.specs.Bodies.{AreBodiesClean}
use Rattle.lrc_named_translation.specs.Made.{bare}
use Rattle.lrc_named_statements.specs.Statements.{AreCores, ArePrinted, IsAddress, IsChoice, IsCore, IsElse, IsHeldFor, IsHeldWith, IsMadeAt, IsPrivate}
use Rattle.lrc_named_statements.specs.Statements as rule
use Rattle.lrc_named_text_laws.specs.Spelled.{IsName}
use Rattle.lrc_named_laws.proofs.Addresses.{address_fits}
use Rattle.lrc_named_laws.proofs.Clean.{AreKnown, IsKnown, all_known_here, known_here}
use Rattle.lrc_named_laws.proofs.Cores.{AreFit, IsFit, both_fit}
use Rattle.lrc_named_laws.proofs.Expressions.{IsOfCore, all_made, made_fit, next_some, nought, one}
use Rattle.lrc_named_laws.proofs.Parsed.{AreLegible, AreLegibleArms, IsLegible, IsLegibleBlock, IsLegiblePlace, IsLegibleStatement}
use Rattle.lrc_named_laws.proofs.Values.{IsPlaced, IsSoundTable}

-- ---- parts without a fault

-- the scope of statements, where these names are set
abbrev within : List Declared → List (List ℕ) → Scope
within declared names = record { declared = declared; known = []; assigned = names; constant = false }

in_front : (scope : Scope) (xs ys : List Part) (f : Fault) → IsInParts scope xs f → IsInParts scope (xs ++ ys) f
in_front scope [] ys f h = absurd h
in_front scope (x ∷ xs) ys f h = elim h [ inl here ↦ inl here | inr later ↦ inr (in_front scope xs ys f later) ]

in_back : (scope : Scope) (xs ys : List Part) (f : Fault) → IsInParts scope ys f → IsInParts scope (xs ++ ys) f
in_back scope [] ys f h = h
in_back scope (x ∷ xs) ys f h = inr (in_back scope xs ys f h)

-- a name that is set and not declared is among those that are set
set_by : (m : Option Meaning) (s : Bool) (name : Named) (indices : Expressions) → IsNone (λ f. IsInTarget (sense_by false m s) name indices f) → m ≡ None → s ≡ true
set_by None true name indices clean is = refl
set_by None false name indices clean is = absurd (clean (fault_at name.at UnknownName) refl)
set_by (Some x) s name indices clean is = absurd (cc)

-- and so is a name behind `for`, which is not declared
counter_by : (m : Option Meaning) (s : Bool) (name : Named) → IsNone (λ f. IsInCounter (sense_by false m s) name f) → (s ≡ true) × (m ≡ None)
counter_by None true name clean = (refl, refl)
counter_by None false name clean = absurd (clean (fault_at name.at WrongUse) refl)
counter_by (Some x) s name clean = absurd (clean (fault_at name.at WrongUse) refl)

-- ---- without parentheses around it

bare_legible : (e : tree.Expression) → IsLegible e → IsLegible (bare e)
bare_legible (tree.number at n) h = h
bare_legible (tree.me at) h = h
bare_legible (tree.nodes at) h = h
bare_legible (tree.element name indices last) h = h
bare_legible (tree.call name arguments close) h = h
bare_legible (tree.group opens e close) h = bare_legible e h
bare_legible (tree.negation at e) h = h
bare_legible (tree.binary left o right) h = h
bare_legible (tree.both left right) h = h
bare_legible (tree.either left right) h = h

bare_known : (declared : List Declared) (names parameters : List (List ℕ)) (e : tree.Expression) → IsKnown declared names parameters e
    → IsKnown declared names parameters (bare e)
bare_known declared names parameters (tree.number at n) h = h
bare_known declared names parameters (tree.me at) h = h
bare_known declared names parameters (tree.nodes at) h = h
bare_known declared names parameters (tree.element name indices last) h = h
bare_known declared names parameters (tree.call name arguments close) h = h
bare_known declared names parameters (tree.group opens e close) h = bare_known declared names parameters e h
bare_known declared names parameters (tree.negation at e) h = h
bare_known declared names parameters (tree.binary left o right) h = h
bare_known declared names parameters (tree.both left right) h = h
bare_known declared names parameters (tree.either left right) h = h

-- ---- statements

module _ (declared : List Declared) (names : List (List ℕ)) (bodies : AreBodiesClean declared) (sound : IsSoundTable declared) where
  abbrev HasNone : List Part → Type 0
  HasNone parts = IsNone (λ f. IsInParts (within declared names) parts f)

  front : (xs ys : List Part) → HasNone (xs ++ ys) → HasNone xs
  front xs ys clean = λ f h. clean f (in_front (within declared names) xs ys f h)

  back : (xs ys : List Part) → HasNone (xs ++ ys) → HasNone ys
  back xs ys clean = λ f h. clean f (in_back (within declared names) xs ys f h)

  abbrev AreOfCore : Block → Type 0
  AreOfCore b = AreFit (IsOfCore declared names) b

  abbrev IsValue : Expression → Type 0
  IsValue p = IsFit (IsOfCore declared names) p

  joined : (a b : Block) → AreOfCore a → AreOfCore b → AreOfCore (behind a b)
  joined a b = both_fit (IsOfCore declared names) a b

  -- a name that is set, and one behind `for`
  target_fit : (p : Place) → IsPrivate declared p → IsLegiblePlace p → IsNone (λ f. IsInPart (within declared names) (target p) f)
      → IsOfCore declared names (named p.name.bytes)
  target_fit p alone legible clean =
      (legible.0, set_by (meaning_of declared p.name.bytes) (is_among names p.name.bytes) p.name p.indices (λ f h. clean f (inl (inr h))) alone.0, alone.0)

  counter_fit : (name : Named) → IsName name.bytes → IsNone (λ f. IsInPart (within declared names) (counter name) f) → IsOfCore declared names (named name.bytes)
  counter_fit name legible clean =
      let h = counter_by (meaning_of declared name.bytes) (is_among names name.bytes) name (λ f h. clean f (inr h)) in
      (legible, h.0, h.1)

  -- expressions
  value_fit : {token : ℕ} {e : tree.Expression} {taken after : ℕ} {before : Block} {p : Expression} → IsMadeAt declared token e taken before p after
      → IsLegible e → IsNone (λ f. IsInExpression (within declared names) e f) → AreOfCore before × IsValue p
  value_fit {e = e} m legible clean = made_fit declared names bodies sound m tt tt legible (known_here (within declared names) e clean)

  address_fit : {token : ℕ} {item : Item} {indices : Expressions} {taken after : ℕ} {before : Block} {word : Expression}
      → IsAddress declared token item indices taken before word after → IsPlaced item → AreLegible indices → AreKnown declared names [] indices
      → AreOfCore before × IsValue word
  address_fit {item = item} (rule.an_address {ps = ps} m) placed legible known =
      let h = all_made declared names bodies sound m tt tt legible known in
      (h.0, address_fits (IsOfCore declared names) item ps placed h.1)

  -- the element that a place is, and a lock
  element_fit : {token : ℕ} {item : Item} {taken after : ℕ} {before : Block} {word : Expression} (p : Place)
      → IsAddress declared token item p.indices taken before word after → meaning_of declared p.name.bytes ≡ Some (Meaning.shared item)
      → IsLegiblePlace p → IsNone (λ f. IsInPart (within declared names) (target p) f) → AreOfCore before × IsValue word
  element_fit {item = item} p x means legible clean =
      address_fit x (sound (place_of declared p.name.bytes) (Meaning.shared item) means) legible.1
      (all_known_here (within declared names) p.indices (shared_sizes (sense_of (within declared names) p.name.bytes)) (λ f h. clean f (inr h)))

  lock_fit : {token : ℕ} {item : Item} {taken after : ℕ} {before : Block} {word : Expression} (p : Place)
      → IsAddress declared token item p.indices taken before word after → meaning_of declared p.name.bytes ≡ Some (Meaning.lock item)
      → IsLegiblePlace p → IsNone (λ f. IsInPart (within declared names) (lock_place p) f) → AreOfCore before × IsValue word
  lock_fit {item = item} p x means legible clean =
      address_fit x (sound (place_of declared p.name.bytes) (Meaning.lock item) means) legible.1
      (all_known_here (within declared names) p.indices (lock_sizes (sense_of (within declared names) p.name.bytes)) (λ f h. clean f (inr h)))

  -- an item that is read alone
  alone_fit : {token : ℕ} {item : Item} {name : Named} {indices : Expressions} {last taken after : ℕ} {before : Block} {word : Expression} (e : tree.Expression)
      → bare e ≡ tree.element name indices last → IsAddress declared token item indices taken before word after
      → meaning_of declared name.bytes ≡ Some (Meaning.shared item) → IsLegible e → IsNone (λ f. IsInExpression (within declared names) e f)
      → AreOfCore before × IsValue word
  alone_fit {item = item} {name = name} e is x means legible clean =
      let h = subst IsLegible is (bare_legible e legible) in
      let k = subst (λ d. IsKnown declared names [] d) is (bare_known declared names [] e (known_here (within declared names) e clean)) in
      address_fit x (sound (place_of declared name.bytes) (Meaning.shared item) means) h.1 k.1

  mutual
    core_fit : {held : ℕ} {s : tree.Statement} {core : Block} → IsCore declared held s core → IsLegibleStatement s → HasNone (parts_of s) → AreOfCore core
    core_fit (rule.read_into {p = p} {value = e} {before = before} alone is means x) legible clean =
        let h = alone_fit e is x means legible.1 (λ f h. clean f (inr (inl h))) in
        joined before _ h.0 ((target_fit p alone legible.0 (λ f h. clean f (inl h)), h.1), tt)
    core_fit (rule.set_to {p = p} {before = before} alone other m) legible clean =
        let h = value_fit m legible.1 (λ f h. clean f (inr (inl h))) in
        joined before _ h.0 ((target_fit p alone legible.0 (λ f h. clean f (inl h)), h.1), tt)
    core_fit (rule.changed_by {p = p} {before = before} alone op m) legible clean =
        let h = value_fit m legible.1 (λ f h. clean f (inr (inl h))) in
        let name = target_fit p alone legible.0 (λ f h. clean f (inl h)) in
        joined before _ h.0 ((name, (name, h.1)), tt)
    core_fit (rule.written {p = p} {first = first} {second = second} means x m) legible clean =
        let h = element_fit p x means legible.0 (λ f h. clean f (inl h)) in
        let k = value_fit m legible.1 (λ f h. clean f (inr (inl h))) in
        joined first _ h.0 (joined second _ k.0 ((h.1, k.1), tt))
    core_fit (rule.written_over {between = between} {p = p} {first = first} {second = second} means op x m) legible clean =
        let h = element_fit p x means legible.0 (λ f h. clean f (inl h)) in
        let k = value_fit m legible.1 (λ f h. clean f (inr (inl h))) in
        let some = next_some between in
        joined first _ h.0 ((some, h.1), joined second _ k.0 ((h.1, (some, k.1)), tt))
    core_fit (rule.acquired {p = p} {before = before} means x) legible clean =
        let h = lock_fit p x means legible (λ f h. clean f (inl h)) in
        joined before _ h.0 (h.1, tt)
    core_fit (rule.released {p = p} {before = before} means x) legible clean =
        let h = lock_fit p x means legible (λ f h. clean f (inl h)) in
        joined before _ h.0 (h.1, tt)
    core_fit (rule.with_lock {p = p} {before = before} {within = inside} means x free c) legible clean =
        let h = lock_fit p x means legible.0 (λ f h. clean f (inl h)) in
        joined before _ h.0 (h.1, joined inside _ (cores_fit c legible.1 (λ f h. clean f (inr h))) (h.1, tt))
    core_fit (rule.with_lock_held means x has w) legible clean = held_with_fit w legible.0 legible.1 clean
    core_fit rule.at_barrier legible clean = (tt, tt)
    core_fit (rule.printed ps) legible clean = printed_fit ps legible clean
    core_fit (rule.asserted {after = after} {before = before} m free) legible clean =
        let h = value_fit m legible (λ f h. clean f (inl h)) in
        joined before _ h.0 ((next_some after, (one, (h.1, nought))), tt)
    core_fit (rule.asserted_after {after = after} {before = before} m divides) legible clean =
        let h = value_fit m legible (λ f h. clean f (inl h)) in
        let some = next_some after in
        joined before _ h.0 ((some, h.1), ((some, (one, (some, nought))), tt))
    core_fit (rule.chosen c) legible clean = choice_fit c legible.0 legible.1 legible.2 legible.3 clean
    core_fit (rule.repeated {before = before} {within = inside} {again = again} m c n) legible clean =
        let h = value_fit m legible.0 (λ f h. clean f (inl h)) in
        let k = value_fit n legible.0 (λ f h. clean f (inl h)) in
        joined before _ h.0 ((h.1, joined inside again (cores_fit c legible.1 (λ f h. clean f (inr h))) k.0), tt)
    core_fit (rule.counted {name = name} {one = first} {two = second} {within = inside} m n free c) legible clean =
        let counter = counter_fit name legible.0 (λ f h. clean f (inl h)) in
        let h = value_fit m legible.1 (λ f h. clean f (inr (inl h))) in
        let k = value_fit n legible.2 (λ f h. clean f (inr (inr (inl h)))) in
        let rounds = cores_fit c legible.3 (λ f h. clean f (inr (inr (inr h)))) in
        joined first _ h.0 (joined second _ k.0
        ((counter, h.1), (((counter, k.1), joined inside _ rounds ((counter, (counter, one)), tt)), tt)))
    core_fit (rule.counted_held m n has f) legible clean = held_for_fit f legible.0 legible.1 legible.2 legible.3 clean

    held_with_fit : {held token close : ℕ} {p : Place} {inside : tree.Block} {core : Block} → IsHeldWith declared held token p inside close core
        → IsLegiblePlace p → IsLegibleBlock inside → HasNone (lock_place p ∷ parts_of_block inside) → AreOfCore core
    held_with_fit (rule.a_held_with {held = held} {p = p} {before = before} {within = inside} means x c) legible legible_inside clean =
        let h = lock_fit p x means legible (λ f h. clean f (inl h)) in
        let some = next_some held in
        joined before _ h.0 ((some, h.1), (some, joined inside _ (cores_fit c legible_inside (λ f h. clean f (inr h))) (some, tt)))

    held_for_fit : {held token : ℕ} {name : Named} {first end : tree.Expression} {inside : tree.Block} {core : Block}
        → IsHeldFor declared held token name first end inside core → IsName name.bytes → IsLegible first → IsLegible end → IsLegibleBlock inside
        → HasNone (counter name ∷ value first ∷ value end ∷ parts_of_block inside) → AreOfCore core
    held_for_fit (rule.a_held_for {held = held} {name = name} {one = first} {two = second} {within = inside} m n c) spelled from to legible clean =
        let counter = counter_fit name spelled (λ f h. clean f (inl h)) in
        let h = value_fit m from (λ f h. clean f (inr (inl h))) in
        let k = value_fit n to (λ f h. clean f (inr (inr (inl h)))) in
        let rounds = cores_fit c legible (λ f h. clean f (inr (inr (inr h)))) in
        let some = next_some held in
        joined first _ h.0 (joined second _ k.0
        ((some, k.1), ((counter, h.1), (((counter, some), joined inside _ rounds ((counter, (counter, one)), tt)), tt))))

    choice_fit : {held token : ℕ} {condition : tree.Expression} {then otherwise : tree.Block} {others : Arms} {core : Block}
        → IsChoice declared held token condition then others otherwise core → IsLegible condition → IsLegibleBlock then → AreLegibleArms others
        → IsLegibleBlock otherwise → HasNone (value condition ∷ (parts_of_block then ++ (parts_of_arms others ++ parts_of_block otherwise))) → AreOfCore core
    choice_fit (rule.a_choice {then = then} {otherwise = otherwise} {others = others} {before = before} m c e) here first arms last clean =
        let h = value_fit m here (λ f h. clean f (inl h)) in
        let inside : HasNone (parts_of_block then ++ (parts_of_arms others ++ parts_of_block otherwise)) = λ f h. clean f (inr h) in
        joined before _ h.0 (
          (
            h.1,
            cores_fit c first (front (parts_of_block then) (parts_of_arms others ++ parts_of_block otherwise) inside),
            else_fit e arms last (back (parts_of_block then) (parts_of_arms others ++ parts_of_block otherwise) inside),
          ),
          tt,
        )

    else_fit : {held : ℕ} {others : Arms} {otherwise : tree.Block} {core : Block} → IsElse declared held others otherwise core → AreLegibleArms others
        → IsLegibleBlock otherwise → HasNone (parts_of_arms others ++ parts_of_block otherwise) → AreOfCore core
    else_fit (rule.last_block c) arms last clean = cores_fit c last clean
    else_fit (rule.else_if {condition = condition} {then = then} {otherwise = otherwise} {others = others} c) arms last clean =
        choice_fit c arms.0 arms.1 arms.2 last
        (subst (λ l. HasNone (value condition ∷ l)) (append_assoc (parts_of_block then) (parts_of_arms others) (parts_of_block otherwise)) clean)

    printed_fit : {held token : ℕ} {es : Expressions} {core : Block} → ArePrinted declared held token es core → AreLegible es → HasNone (parts_of_values es)
        → AreOfCore core
    printed_fit rule.none_printed legible clean = tt
    printed_fit (rule.one_printed {before = before} m rest) legible clean =
        let h = value_fit m legible.0 (λ f h. clean f (inl h)) in
        joined before _ h.0 (h.1, printed_fit rest legible.1 (λ f h. clean f (inr h)))

    pub cores_fit : {held : ℕ} {statements : tree.Block} {core : Block} → AreCores declared held statements core → IsLegibleBlock statements
        → HasNone (parts_of_block statements) → AreOfCore core
    cores_fit rule.no_statement legible clean = tt
    cores_fit (rule.one_statement {s = s} {others = others} {first = first} {second = second} c rest) legible clean =
        joined first second (core_fit c legible.0 (front (parts_of s) (parts_of_block others) clean))
        (cores_fit rest legible.1 (back (parts_of s) (parts_of_block others) clean))
