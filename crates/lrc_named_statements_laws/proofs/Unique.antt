-- What a statement is in the core is determined.
use Rattle.std.proofs.Common.{◌≡◌, ℕ, ◌+◌, true, false, Some, None, List, ◌∷◌, [], refl, sym, subst}
use Rattle.std.specs.Prelude.{Option}
use Rattle.lrc_program.specs.declared.Operator.{Operator}
use Rattle.lrc_named_tree.specs.Tree.{Named, Expressions, Place, Arms}
use Rattle.lrc_named_tree.specs.Tree as tree
use Rattle.lrc_named_names.specs.Names.{Declared, Item, Meaning, meaning_of}
use Rattle.lrc_named_core.specs.Tree.{Expression, Block, Origin, has_division, has_name}
use Rattle.lrc_named_constants.specs.Constant.{Known}
use Rattle.lrc_named_translation.specs.Made.{AreMade}
use Rattle.lrc_named_translation.specs.Made as made
use Rattle.lrc_named_translation.proofs.Unique.{Same, made_unique}
use Rattle.lrc_named_statements.specs.Statements.{IsCore, AreCores, IsChoice, IsElse, IsHeldWith, IsHeldFor, ArePrinted, IsAddress, IsMadeAt, IsNoItem, operator_of}
use Rattle.lrc_named_statements.specs.Statements as rule

record SameAll (b c : Block) (ps qs : List Expression) (n m : ℕ) : Type 0 where
  before : b ≡ c
  cores : ps ≡ qs
  after : n ≡ m

moved_all : {declared : List Declared} {at : Origin} {known : List Known} {cores : List Expression} {es : Expressions} {taken start after : ℕ}
    {b : Block} {ps : List Expression} → taken ≡ start → AreMade declared at known cores es start b ps after → AreMade declared at known cores es taken b ps after
moved_all {declared} {at} {known} {cores} {es} {taken} {start} {after} {b} {ps} k m =
    subst (λ x. AreMade declared at known cores es x b ps after) (sym k) m

all_unique : {declared : List Declared} {at : Origin} {known : List Known} {cores : List Expression} {es : Expressions} {taken after other : ℕ}
    {b c : Block} {ps qs : List Expression} → AreMade declared at known cores es taken b ps after → AreMade declared at known cores es taken c qs other
    → SameAll b c ps qs after other
all_unique made.no_expression made.no_expression = record { before = refl; cores = refl; after = refl }
all_unique (made.one_expression m f) (made.one_expression n g) =
    let s = made_unique m n in
    let t = all_unique f (moved_all s.after g) in
    record { before = cc; cores = cc; after = t.after }

address_unique : {declared : List Declared} {token : ℕ} {item : Item} {indices : Expressions} {taken after other : ℕ} {b c : Block} {p q : Expression}
    → IsAddress declared token item indices taken b p after → IsAddress declared token item indices taken c q other → Same b c p q after other
address_unique (rule.an_address m) (rule.an_address n) = let s = all_unique m n in record { before = s.before; core = cc; after = s.after }

moved_address : {declared : List Declared} {token : ℕ} {i j : Item} {indices others : Expressions} {taken start after : ℕ} {b : Block} {p : Expression}
    → i ≡ j → indices ≡ others → taken ≡ start → IsAddress declared token j others start b p after → IsAddress declared token i indices taken b p after
moved_address {declared} {token} {i} {j} {indices} {others} {taken} {start} {after} {b} {p} h k l m =
    subst (λ x. IsAddress declared token x indices taken b p after) (sym h)
    (subst (λ x. IsAddress declared token j x taken b p after) (sym k)
    (subst (λ x. IsAddress declared token j others x b p after) (sym l) m))

moved_made : {declared : List Declared} {token : ℕ} {e : tree.Expression} {taken start after : ℕ} {b : Block} {p : Expression}
    → taken ≡ start → IsMadeAt declared token e start b p after → IsMadeAt declared token e taken b p after
moved_made {declared} {token} {e} {taken} {start} {after} {b} {p} h m = subst (λ n. IsMadeAt declared token e n b p after) (sym h) m

next_same : {n m : ℕ} → n ≡ m → n + 1 ≡ m + 1
next_same h = cc

-- ---- parts that are the same, and parts that differ

same_lock : {m : Option Meaning} {i j : Item} → m ≡ Some (Meaning.lock i) → m ≡ Some (Meaning.lock j) → i ≡ j
same_lock h k = cc

same_shared : {m : Option Meaning} {i j : Item} → m ≡ Some (Meaning.shared i) → m ≡ Some (Meaning.shared j) → i ≡ j
same_shared h k = cc

same_name : {e : tree.Expression} {n m : Named} {is js : Expressions} {l k : ℕ} → e ≡ tree.element n is l → e ≡ tree.element m js k → n ≡ m
same_name h k = cc

same_indices : {e : tree.Expression} {n m : Named} {is js : Expressions} {l k : ℕ} → e ≡ tree.element n is l → e ≡ tree.element m js k → is ≡ js
same_indices h k = cc

same_item : (declared : List Declared) {n m : Named} {i j : Item} → n ≡ m → meaning_of declared n.bytes ≡ Some (Meaning.shared i)
    → meaning_of declared m.bytes ≡ Some (Meaning.shared j) → i ≡ j
same_item declared {n} {m} {i} {j} e h k = same_shared (subst (λ x. meaning_of declared x.bytes ≡ Some (Meaning.shared i)) e h) k

same_operator : {x : Option Operator} {o n : Operator} → x ≡ Some o → x ≡ Some n → o ≡ n
same_operator h k = cc

private_shared : {m : Option Meaning} {i : Item} → m ≡ None → m ≡ Some (Meaning.shared i) → ⊥
private_shared h k = cc

set_changed : {o : Operator} → operator_of tree.set ≡ Some o → ⊥
set_changed h = cc

no_item_read : (declared : List Declared) {e : tree.Expression} {n : Named} {is : Expressions} {l : ℕ} {i : Item} → e ≡ tree.element n is l
    → meaning_of declared n.bytes ≡ Some (Meaning.shared i) → IsNoItem declared e → ⊥
no_item_read declared {e} {n} {is} {l} {i} h k alone = subst (IsNoItem declared) h alone i k

named_unnamed : {p q : Expression} → p ≡ q → has_name p ≡ true → has_name q ≡ false → ⊥
named_unnamed e h k = cc

divides_not : {p q : Expression} → p ≡ q → has_division p ≡ true → has_division q ≡ false → ⊥
divides_not e h k = cc

printed_unique : {declared : List Declared} {held token : ℕ} {es : Expressions} {b c : Block}
    → ArePrinted declared held token es b → ArePrinted declared held token es c → b ≡ c
printed_unique rule.none_printed rule.none_printed = refl
printed_unique (rule.one_printed m f) (rule.one_printed n g) = let s = made_unique m n in let t = printed_unique f g in cc

mutual
  pub core_unique : {declared : List Declared} {held : ℕ} {s : tree.Statement} {b c : Block} → IsCore declared held s b → IsCore declared held s c → b ≡ c
  core_unique (rule.read_into pr h m x) (rule.read_into qr k n y) =
      let d = same_name h k in
      let js = same_indices h k in
      let s = address_unique x (moved_address (same_item _ d m n) js refl y) in cc
  core_unique (rule.read_into pr h m x) (rule.set_to qr alone g) = absurd (no_item_read _ h m alone)
  core_unique (rule.read_into pr h m x) (rule.changed_by qr op g) = absurd (set_changed op)
  core_unique (rule.read_into pr h m x) (rule.written n y g) = absurd (private_shared pr.0 n)
  core_unique (rule.read_into pr h m x) (rule.written_over n op y g) = absurd (set_changed op)
  core_unique (rule.set_to pr alone f) (rule.read_into qr k n y) = absurd (no_item_read _ k n alone)
  core_unique (rule.set_to pr alone f) (rule.set_to qr single g) = let s = made_unique f g in cc
  core_unique (rule.set_to pr alone f) (rule.changed_by qr op g) = absurd (set_changed op)
  core_unique (rule.set_to pr alone f) (rule.written n y g) = absurd (private_shared pr.0 n)
  core_unique (rule.set_to pr alone f) (rule.written_over n op y g) = absurd (set_changed op)
  core_unique (rule.changed_by pr op f) (rule.read_into qr k n y) = absurd (set_changed op)
  core_unique (rule.changed_by pr op f) (rule.set_to qr single g) = absurd (set_changed op)
  core_unique (rule.changed_by pr op f) (rule.changed_by qr by g) = let o = same_operator op by in let s = made_unique f g in cc
  core_unique (rule.changed_by pr op f) (rule.written n y g) = absurd (set_changed op)
  core_unique (rule.changed_by pr op f) (rule.written_over n by y g) = absurd (private_shared pr.0 n)
  core_unique (rule.written m x f) (rule.read_into qr k n y) = absurd (private_shared qr.0 m)
  core_unique (rule.written m x f) (rule.set_to qr single g) = absurd (private_shared qr.0 m)
  core_unique (rule.written m x f) (rule.changed_by qr by g) = absurd (set_changed by)
  core_unique (rule.written m x f) (rule.written n y g) =
      let s = address_unique x (moved_address (same_shared m n) refl refl y) in
      let t = made_unique f (moved_made s.after g) in cc
  core_unique (rule.written m x f) (rule.written_over n by y g) = absurd (set_changed by)
  core_unique (rule.written_over m op x f) (rule.read_into qr k n y) = absurd (set_changed op)
  core_unique (rule.written_over m op x f) (rule.set_to qr single g) = absurd (set_changed op)
  core_unique (rule.written_over m op x f) (rule.changed_by qr by g) = absurd (private_shared qr.0 m)
  core_unique (rule.written_over m op x f) (rule.written n y g) = absurd (set_changed op)
  core_unique (rule.written_over m op x f) (rule.written_over n by y g) =
      let o = same_operator op by in
      let s = address_unique x (moved_address (same_shared m n) refl refl y) in
      let a = s.after in
      let t = made_unique f (moved_made (next_same s.after) g) in cc
  core_unique (rule.acquired m x) (rule.acquired n y) = let s = address_unique x (moved_address (same_lock m n) refl refl y) in cc
  core_unique (rule.released m x) (rule.released n y) = let s = address_unique x (moved_address (same_lock m n) refl refl y) in cc
  core_unique (rule.with_lock m x free f) (rule.with_lock n y open_ g) =
      let s = address_unique x (moved_address (same_lock m n) refl refl y) in let t = cores_unique f g in cc
  core_unique (rule.with_lock m x free f) (rule.with_lock_held n y has g) =
      let s = address_unique x (moved_address (same_lock m n) refl refl y) in absurd (named_unnamed (sym s.core) has free)
  core_unique (rule.with_lock_held m x has f) (rule.with_lock n y free g) =
      let s = address_unique x (moved_address (same_lock m n) refl refl y) in absurd (named_unnamed s.core has free)
  core_unique (rule.with_lock_held m x has f) (rule.with_lock_held n y hold g) = held_with_unique f g
  core_unique rule.at_barrier rule.at_barrier = refl
  core_unique (rule.printed f) (rule.printed g) = printed_unique f g
  core_unique (rule.asserted f safe) (rule.asserted g free) = let s = made_unique f g in let a = s.after in cc
  core_unique (rule.asserted f safe) (rule.asserted_after g may) = let s = made_unique f g in absurd (divides_not (sym s.core) may safe)
  core_unique (rule.asserted_after f may) (rule.asserted g safe) = let s = made_unique f g in absurd (divides_not s.core may safe)
  core_unique (rule.asserted_after f may) (rule.asserted_after g might) = let s = made_unique f g in let a = s.after in cc
  core_unique (rule.chosen f) (rule.chosen g) = choice_unique f g
  core_unique (rule.repeated f m x) (rule.repeated g n y) =
      let s = made_unique f g in let t = cores_unique m n in let u = made_unique x y in cc
  core_unique (rule.counted f x free m) (rule.counted g y open_ n) =
      let s = made_unique f g in let t = made_unique x (moved_made s.after y) in let u = cores_unique m n in cc
  core_unique (rule.counted f x free m) (rule.counted_held g y has n) =
      let s = made_unique f g in let t = made_unique x (moved_made s.after y) in absurd (named_unnamed (sym t.core) has free)
  core_unique (rule.counted_held f x has m) (rule.counted g y free n) =
      let s = made_unique f g in let t = made_unique x (moved_made s.after y) in absurd (named_unnamed t.core has free)
  core_unique (rule.counted_held f x has m) (rule.counted_held g y hold n) = held_for_unique m n

  held_with_unique : {declared : List Declared} {held token close : ℕ} {p : Place} {inside : tree.Block} {b c : Block}
      → IsHeldWith declared held token p inside close b → IsHeldWith declared held token p inside close c → b ≡ c
  held_with_unique (rule.a_held_with m x f) (rule.a_held_with n y g) =
      let s = address_unique x (moved_address (same_lock m n) refl refl y) in let t = cores_unique f g in cc

  held_for_unique : {declared : List Declared} {held token : ℕ} {name : Named} {first end : tree.Expression} {inside : tree.Block} {b c : Block}
      → IsHeldFor declared held token name first end inside b → IsHeldFor declared held token name first end inside c → b ≡ c
  held_for_unique (rule.a_held_for f x m) (rule.a_held_for g y n) =
      let s = made_unique f g in let t = made_unique x (moved_made s.after y) in let u = cores_unique m n in cc

  choice_unique : {declared : List Declared} {held token : ℕ} {condition : tree.Expression} {then otherwise : tree.Block} {arms : Arms} {b c : Block}
      → IsChoice declared held token condition then arms otherwise b → IsChoice declared held token condition then arms otherwise c → b ≡ c
  choice_unique (rule.a_choice f m x) (rule.a_choice g n y) =
      let s = made_unique f g in let t = cores_unique m n in let u = else_unique x y in cc

  else_unique : {declared : List Declared} {held : ℕ} {arms : Arms} {otherwise : tree.Block} {b c : Block}
      → IsElse declared held arms otherwise b → IsElse declared held arms otherwise c → b ≡ c
  else_unique (rule.last_block m) (rule.last_block n) = cores_unique m n
  else_unique (rule.else_if m) (rule.else_if n) = choice_unique m n

  pub cores_unique : {declared : List Declared} {held : ℕ} {inside : tree.Block} {b c : Block}
      → AreCores declared held inside b → AreCores declared held inside c → b ≡ c
  cores_unique rule.no_statement rule.no_statement = refl
  cores_unique (rule.one_statement f m) (rule.one_statement g n) = let s = core_unique f g in let t = cores_unique m n in cc
