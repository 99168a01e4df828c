-- What an expression is in the core is determined.
use Rattle.std.proofs.Common.{◌≡◌, ℕ, ◌+◌, true, false, Some, None, List, refl, sym, subst}
use Rattle.std.specs.Prelude.{Option}
use Rattle.lrc_named_tree.specs.Tree.{Named, Expressions}
use Rattle.lrc_named_tree.specs.Tree as tree
use Rattle.lrc_named_names.specs.Names.{Declared, Item, Meaning}
use Rattle.lrc_named_constants.specs.declared.constancy.Constancy.{Constancy}
use Rattle.lrc_named_constants.specs.declared.constancy.Constancy.TheVariants.{Value}
use Rattle.lrc_named_constants.specs.Combine.{called}
use Rattle.lrc_named_constants.specs.Constant.{Known, IsConstancy, AreConstancies, bound}
use Rattle.lrc_named_constants.specs.Constant as constants
use Rattle.lrc_named_core.specs.Tree.{Expression, Origin, Block}
use Rattle.lrc_named_translation.specs.Made.{IsMade, IsByRule, AreMade, HasNoValue, is_plain}
use Rattle.lrc_named_translation.specs.Made as made

-- ---- parts of what is declared

same_parameters : {m : Option Meaning} {ps qs : List Named} {b c : tree.Expression}
    → m ≡ Some (Meaning.function ps b) → m ≡ Some (Meaning.function qs c) → ps ≡ qs
same_parameters h k = cc

same_body : {m : Option Meaning} {ps qs : List Named} {b c : tree.Expression}
    → m ≡ Some (Meaning.function ps b) → m ≡ Some (Meaning.function qs c) → b ≡ c
same_body h k = cc

same_item : {m : Option Meaning} {i j : Item} → m ≡ Some (Meaning.shared i) → m ≡ Some (Meaning.shared j) → i ≡ j
same_item h k = cc

same_bound : {ps qs : List Named} {ws vs : List Constancy} → ps ≡ qs → ws ≡ vs → bound ps ws ≡ bound qs vs
same_bound h k = cc

same_called : {ws vs : List Constancy} {w v : Constancy} → ws ≡ vs → w ≡ v → called ws w ≡ called vs v
same_called h k = cc

moved_constancy : {declared : List Declared} {known others : List Known} {e d : tree.Expression} {w : Constancy} → known ≡ others → e ≡ d
    → IsConstancy declared others d w → IsConstancy declared known e w
moved_constancy {declared} {known} {others} {e} {d} {w} h k m =
    subst (λ x. IsConstancy declared x e w) (sym h) (subst (λ x. IsConstancy declared others x w) (sym k) m)

-- ---- what is known

mutual
  pub constancy_unique : {declared : List Declared} {known : List Known} {e : tree.Expression} {w v : Constancy}
      → IsConstancy declared known e w → IsConstancy declared known e v → w ≡ v
  constancy_unique constants.a_number constants.a_number = refl
  constancy_unique constants.me constants.me = refl
  constancy_unique constants.nodes constants.nodes = refl
  constancy_unique (constants.a_parameter h) (constants.a_parameter k) = cc
  constancy_unique (constants.a_parameter h) (constants.a_private_name k n) = cc
  constancy_unique (constants.a_parameter h) (constants.a_constant k n) = cc
  constancy_unique (constants.a_parameter h) (constants.a_shared_item k n) = cc
  constancy_unique (constants.a_private_name h m) (constants.a_parameter k) = cc
  constancy_unique (constants.a_private_name h m) (constants.a_private_name k n) = refl
  constancy_unique (constants.a_private_name h m) (constants.a_constant k n) = cc
  constancy_unique (constants.a_private_name h m) (constants.a_shared_item k n) = refl
  constancy_unique (constants.a_constant h m) (constants.a_parameter k) = cc
  constancy_unique (constants.a_constant h m) (constants.a_private_name k n) = cc
  constancy_unique (constants.a_constant h m) (constants.a_constant k n) = cc
  constancy_unique (constants.a_constant h m) (constants.a_shared_item k n) = cc
  constancy_unique (constants.a_shared_item h m) (constants.a_parameter k) = cc
  constancy_unique (constants.a_shared_item h m) (constants.a_private_name k n) = refl
  constancy_unique (constants.a_shared_item h m) (constants.a_constant k n) = cc
  constancy_unique (constants.a_shared_item h m) (constants.a_shared_item k n) = refl
  constancy_unique (constants.a_call h xs b) (constants.a_call k ys c) =
      let s = constancies_unique xs ys in
      same_called s (constancy_unique b (moved_constancy (same_bound (same_parameters h k) s) (same_body h k) c))
  constancy_unique (constants.parentheses h) (constants.parentheses k) = constancy_unique h k
  constancy_unique (constants.a_negation h) (constants.a_negation k) = let s = constancy_unique h k in cc
  constancy_unique (constants.a_binary h m) (constants.a_binary k n) = let s = constancy_unique h k in let t = constancy_unique m n in cc
  constancy_unique (constants.both h m) (constants.both k n) = let s = constancy_unique h k in let t = constancy_unique m n in cc
  constancy_unique (constants.either h m) (constants.either k n) = let s = constancy_unique h k in let t = constancy_unique m n in cc

  pub constancies_unique : {declared : List Declared} {known : List Known} {es : Expressions} {ws vs : List Constancy}
      → AreConstancies declared known es ws → AreConstancies declared known es vs → ws ≡ vs
  constancies_unique constants.no_expression constants.no_expression = refl
  constancies_unique (constants.one_expression h m) (constants.one_expression k n) = let s = constancy_unique h k in let t = constancies_unique m n in cc

-- ---- cores

pub record Same (b c : Block) (p q : Expression) (n m : ℕ) : Type 0 where
  pub before : b ≡ c
  pub core : p ≡ q
  pub after : n ≡ m

record SameAll (b c : Block) (ps qs : List Expression) (n m : ℕ) : Type 0 where
  before : b ≡ c
  cores : ps ≡ qs
  after : n ≡ m

valued : {v : ℕ} {w : Constancy} → Value v ≡ w → HasNoValue w → ⊥
valued e unvalued = subst HasNoValue (sym e) unvalued

some_none : {A : Type 0} {m : Option A} {x : A} → m ≡ Some x → m ≡ None → ⊥
some_none h k = cc

no_item : {m : Option Meaning} {n : ℕ} {i : Item} → m ≡ Some (Meaning.constant n) → m ≡ Some (Meaning.shared i) → ⊥
no_item h k = cc

trapped : {b c : Block} {p q : Expression} → b ≡ c → p ≡ q → is_plain b p ≡ true → is_plain c q ≡ false → ⊥
trapped e f plain may = cc

moved_made : {declared : List Declared} {at : Origin} {known others : List Known} {cores ps : List Expression} {e d : tree.Expression} {taken start after : ℕ}
    {b : Block} {p : Expression} → known ≡ others → cores ≡ ps → e ≡ d → taken ≡ start
    → IsMade declared at others ps d start b p after → IsMade declared at known cores e taken b p after
moved_made {declared} {at} {known} {others} {cores} {ps} {e} {d} {taken} {start} {after} {b} {p} h i j k m =
    subst (λ x. IsMade declared at x cores e taken b p after) (sym h)
    (subst (λ x. IsMade declared at others x e taken b p after) (sym i)
    (subst (λ x. IsMade declared at others ps x taken b p after) (sym j)
    (subst (λ x. IsMade declared at others ps d x b p after) (sym k) m)))

moved_all : {declared : List Declared} {at : Origin} {known : List Known} {cores : List Expression} {es : Expressions} {taken start after : ℕ}
    {b : Block} {ps : List Expression} → taken ≡ start → AreMade declared at known cores es start b ps after → AreMade declared at known cores es taken b ps after
moved_all {declared} {at} {known} {cores} {es} {taken} {start} {after} {b} {ps} k m =
    subst (λ x. AreMade declared at known cores es x b ps after) (sym k) m

next_same : {n m : ℕ} → n ≡ m → n + 1 ≡ m + 1
next_same h = cc

mutual
  pub made_unique : {declared : List Declared} {at : Origin} {known : List Known} {cores : List Expression} {e : tree.Expression} {taken after other : ℕ}
      {b c : Block} {p q : Expression} → IsMade declared at known cores e taken b p after → IsMade declared at known cores e taken c q other
      → Same b c p q after other
  made_unique (made.a_value h) (made.a_value k) = let s = constancy_unique h k in record { before = refl; core = cc; after = refl }
  made_unique (made.a_value h) (made.by_rule k unvalued r) = absurd (valued (constancy_unique h k) unvalued)
  made_unique (made.by_rule h unvalued r) (made.a_value k) = absurd (valued (constancy_unique k h) unvalued)
  made_unique (made.by_rule h unvalued r) (made.by_rule k none s) = rule_unique r s

  rule_unique : {declared : List Declared} {at : Origin} {known : List Known} {cores : List Expression} {e : tree.Expression} {taken after other : ℕ}
      {b c : Block} {p q : Expression} → IsByRule declared at known cores e taken b p after → IsByRule declared at known cores e taken c q other
      → Same b c p q after other
  rule_unique made.a_number made.a_number = record { before = refl; core = refl; after = refl }
  rule_unique made.the_node made.the_node = record { before = refl; core = refl; after = refl }
  rule_unique made.node_count made.node_count = record { before = refl; core = refl; after = refl }
  rule_unique (made.a_parameter h x) (made.a_parameter k y) = record { before = refl; core = cc; after = refl }
  rule_unique (made.a_parameter h x) (made.a_private_name k n) = absurd (some_none h k)
  rule_unique (made.a_parameter h x) (made.a_constant k n) = absurd (some_none h k)
  rule_unique (made.a_parameter h x) (made.a_shared_item k n y) = absurd (some_none h k)
  rule_unique (made.a_private_name h m) (made.a_parameter k y) = absurd (some_none k h)
  rule_unique (made.a_private_name h m) (made.a_private_name k n) = record { before = refl; core = refl; after = refl }
  rule_unique (made.a_private_name h m) (made.a_constant k n) = absurd (some_none n m)
  rule_unique (made.a_private_name h m) (made.a_shared_item k n y) = absurd (some_none n m)
  rule_unique (made.a_constant h m) (made.a_parameter k y) = absurd (some_none k h)
  rule_unique (made.a_constant h m) (made.a_private_name k n) = absurd (some_none m n)
  rule_unique (made.a_constant h m) (made.a_constant k n) = record { before = refl; core = cc; after = refl }
  rule_unique (made.a_constant h m) (made.a_shared_item k n y) = absurd (no_item m n)
  rule_unique (made.a_shared_item h m x) (made.a_parameter k y) = absurd (some_none k h)
  rule_unique (made.a_shared_item h m x) (made.a_private_name k n) = absurd (some_none m n)
  rule_unique (made.a_shared_item h m x) (made.a_constant k n) = absurd (no_item n m)
  rule_unique (made.a_shared_item h m x) (made.a_shared_item k n y) =
      let i = same_item m n in let s = all_unique x y in record { before = cc; core = cc; after = cc }
  rule_unique (made.a_call h ws x f) (made.a_call k vs y g) =
      let s = all_unique x y in
      let t = made_unique f (moved_made (same_bound (same_parameters h k) (constancies_unique ws vs)) s.cores (same_body h k) s.after g) in
      record { before = cc; core = t.core; after = t.after }
  rule_unique (made.parentheses m) (made.parentheses n) = made_unique m n
  rule_unique (made.a_negation m) (made.a_negation n) = let s = made_unique m n in record { before = s.before; core = cc; after = s.after }
  rule_unique (made.a_binary m f) (made.a_binary n g) =
      let s = made_unique m n in
      let t = made_unique f (moved_made refl refl refl s.after g) in
      record { before = cc; core = cc; after = t.after }
  rule_unique (made.both_at_once m f safe) (made.both_at_once n g free) =
      let s = made_unique m n in
      let t = made_unique f (moved_made refl refl refl (next_same s.after) g) in
      record { before = s.before; core = cc; after = s.after }
  rule_unique (made.both_at_once m f safe) (made.both_in_turn n g may) =
      let s = made_unique m n in
      let t = made_unique f (moved_made refl refl refl (next_same s.after) g) in absurd (trapped t.before t.core safe may)
  rule_unique (made.both_in_turn m f may) (made.both_at_once n g safe) =
      let s = made_unique m n in
      let t = made_unique f (moved_made refl refl refl (next_same s.after) g) in absurd (trapped (sym t.before) (sym t.core) safe may)
  rule_unique (made.both_in_turn m f may) (made.both_in_turn n g might) =
      let s = made_unique m n in
      let t = made_unique f (moved_made refl refl refl (next_same s.after) g) in
      record { before = cc; core = cc; after = t.after }
  rule_unique (made.either_at_once m f safe) (made.either_at_once n g free) =
      let s = made_unique m n in
      let t = made_unique f (moved_made refl refl refl (next_same s.after) g) in
      record { before = s.before; core = cc; after = s.after }
  rule_unique (made.either_at_once m f safe) (made.either_in_turn n g may) =
      let s = made_unique m n in
      let t = made_unique f (moved_made refl refl refl (next_same s.after) g) in absurd (trapped t.before t.core safe may)
  rule_unique (made.either_in_turn m f may) (made.either_at_once n g safe) =
      let s = made_unique m n in
      let t = made_unique f (moved_made refl refl refl (next_same s.after) g) in absurd (trapped (sym t.before) (sym t.core) safe may)
  rule_unique (made.either_in_turn m f may) (made.either_in_turn n g might) =
      let s = made_unique m n in
      let t = made_unique f (moved_made refl refl refl (next_same s.after) g) in
      record { before = cc; core = cc; after = t.after }

  all_unique : {declared : List Declared} {at : Origin} {known : List Known} {cores : List Expression} {es : Expressions} {taken after other : ℕ}
      {b c : Block} {ps qs : List Expression} → AreMade declared at known cores es taken b ps after → AreMade declared at known cores es taken c qs other
      → SameAll b c ps qs after other
  all_unique made.no_expression made.no_expression = record { before = refl; cores = refl; after = refl }
  all_unique (made.one_expression m f) (made.one_expression n g) =
      let s = made_unique m n in
      let t = all_unique f (moved_all s.after g) in
      record { before = cc; cores = cc; after = t.after }
