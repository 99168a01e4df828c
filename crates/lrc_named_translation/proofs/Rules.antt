-- Each rule, with the statements that have come behind others.
use Rattle.std.proofs.Common.{◌≡◌, ℕ, ◌+◌, true, false, Some, None, List, [], ◌∷◌, ◌++◌, refl, sym, subst}
use Rattle.lrc_program.specs.declared.Operator.{Operator}
use Rattle.lrc_program.specs.declared.Operator.TheVariants.{Equal}
use Rattle.lrc_named_tree.specs.Tree.{Named, Expressions}
use Rattle.lrc_named_tree.specs.Tree as tree
use Rattle.lrc_named_tree.specs.View as trees
use Rattle.lrc_named_tree.specs.declared.tree.Expression as code_tree
use Rattle.lrc_named_names.specs.Names.{Item, Meaning, Declared, meaning_of}
use Rattle.lrc_named_constants.specs.declared.constancy.Constancy.{Constancy}
use Rattle.lrc_named_constants.specs.declared.constancy.Constancy.TheVariants.{Varies, Undefined, Value}
use Rattle.lrc_named_constants.specs.Constant.{Known, IsConstancy, AreConstancies, bound, known_as}
use Rattle.lrc_named_core.specs.declared.tree.Statement.{Statement}
use Rattle.lrc_named_core.specs.declared.tree.Statement.{Read}
use Rattle.lrc_named_core.specs.declared.tree.Private.TheVariants.{Own}
use Rattle.lrc_named_core.specs.declared.tree.Origin as code_origin
use Rattle.lrc_named_core.specs.declared.tree.Expression as code_core
use Rattle.lrc_named_core.specs.View.{statement_of, block_of, expression_of, origin_of}
use Rattle.lrc_named_core.specs.Tree.{Private, Expression, number, private, own, binary, Origin, read, Block, empty, only, behind}
use Rattle.lrc_named_translation.specs.declared.parts.Kind.{Kind}
use Rattle.lrc_named_translation.specs.declared.parts.Kind.TheVariants.{Both, Either}
use Rattle.lrc_named_translation.specs.Added.{IsAdded}
use Rattle.lrc_named_address.specs.Address.{address}
use Rattle.lrc_named_translation.specs.Made.{IsMade, IsByRule, AreMade, HasNoValue, is_plain, holding, using_item}
use Rattle.lrc_named_translation.specs.Made.{a_value, by_rule, a_shared_item, a_call, parentheses, a_negation, a_binary, both_at_once, both_in_turn, either_at_once, either_in_turn}
use Rattle.lrc_named_translation.specs.Turn.{joined_by, at_once, in_turn}
use Rattle.lrc_named_translation.proofs.Adding.{added_none, added_as, added_then, added_one}

pub rule_alone : (declared : List Declared) (at : Origin) (known : List Known) (cores : List Expression) (e : tree.Expression) (taken : ℕ) (p : Expression)
    (old : List Statement) → IsByRule declared at known cores e taken empty p taken
    → IsAdded (λ b. IsByRule declared at known cores e taken b p taken) old old
rule_alone declared at known cores e taken p old h = added_none (λ b. IsByRule declared at known cores e taken b p taken) old h

pub rule_group : (declared : List Declared) (at : Origin) (known : List Known) (cores : List Expression) (e inside : tree.Expression)
    (opens close taken after : ℕ) (p : Expression) (old new : List Statement) → e ≡ tree.group opens inside close
    → IsAdded (λ b. IsMade declared at known cores inside taken b p after) old new
    → IsAdded (λ b. IsByRule declared at known cores e taken b p after) old new
rule_group declared at known cores e inside opens close taken after p old new is h =
    added_as (λ b. IsMade declared at known cores inside taken b p after) (λ b. IsByRule declared at known cores e taken b p after) old new
    (λ b m. subst (λ x. IsByRule declared at known cores x taken b p after) (sym is) (parentheses m)) h

pub rule_not : (declared : List Declared) (at : Origin) (known : List Known) (cores : List Expression) (e operand : tree.Expression)
    (token taken after : ℕ) (p whole : Expression) (old new : List Statement) → e ≡ tree.negation token operand → whole ≡ binary p Equal (number 0)
    → IsAdded (λ b. IsMade declared at known cores operand taken b p after) old new
    → IsAdded (λ b. IsByRule declared at known cores e taken b whole after) old new
rule_not declared at known cores e operand token taken after p whole old new is so h =
    added_as (λ b. IsMade declared at known cores operand taken b p after) (λ b. IsByRule declared at known cores e taken b whole after) old new
    (λ b m. subst (λ x. IsByRule declared at known cores x taken b whole after) (sym is)
    (subst (λ w. IsByRule declared at known cores (tree.negation token operand) taken b w after) (sym so) (a_negation m))) h

pub rule_binary : (declared : List Declared) (at : Origin) (known : List Known) (cores : List Expression) (e left right : tree.Expression) (o : Operator)
    (taken between after : ℕ) (p q whole : Expression) (old mid new : List Statement) → e ≡ tree.binary left o right → whole ≡ binary p o q
    → IsAdded (λ b. IsMade declared at known cores left taken b p between) old mid
    → IsAdded (λ b. IsMade declared at known cores right between b q after) mid new
    → IsAdded (λ b. IsByRule declared at known cores e taken b whole after) old new
rule_binary declared at known cores e left right o taken between after p q whole old mid new is so h k =
    added_then (λ b. IsMade declared at known cores left taken b p between) (λ b. IsMade declared at known cores right between b q after)
    (λ b. IsByRule declared at known cores e taken b whole after) old mid new
    (λ b c m n. subst (λ x. IsByRule declared at known cores x taken (behind b c) whole after) (sym is)
    (subst (λ w. IsByRule declared at known cores (tree.binary left o right) taken (behind b c) w after) (sym so) (a_binary m n))) h k

-- a shared item is read
pub rule_read : (declared : List Declared) (at : Origin) (known : List Known) (cores : List Expression) (name : Named) (indices : Expressions) (item : Item)
    (last taken after next_after : ℕ) (ps : List Expression) (s : Statement) (old mid new : List Statement)
    → known_as known name.bytes ≡ None → meaning_of declared name.bytes ≡ Some (Meaning.shared item)
    → next_after ≡ after + 1 → statement_of s ≡ read (using_item at name.bytes indices) (own (after + 1) name.at last) (address item ps)
    → new ≡ mid ++ s ∷ []
    → IsAdded (λ b. AreMade declared at known cores indices taken b ps after) old mid
    → IsAdded (λ b. IsByRule declared at known cores (tree.element name indices last) taken b (private (own next_after name.at last)) next_after) old new
rule_read declared at known cores name indices item last taken after next_after ps s old mid new unknown means is so grown h =
    subst (λ n. IsAdded (λ b. IsByRule declared at known cores (tree.element name indices last) taken b (private (own n name.at last)) n) old new) (sym is)
    (added_one (λ b. AreMade declared at known cores indices taken b ps after)
    (λ b. IsByRule declared at known cores (tree.element name indices last) taken b (private (own (after + 1) name.at last)) (after + 1)) old mid new s
    (λ b m. subst (λ x. IsByRule declared at known cores (tree.element name indices last) taken (behind b (only x)) (private (own (after + 1) name.at last)) (after + 1))
    (sym so) (a_shared_item unknown means m)) h grown)

pub rule_call : (declared : List Declared) (at : Origin) (known inner : List Known) (cores ps : List Expression) (name : Named) (arguments : Expressions)
    (parameters : List Named) (body : tree.Expression) (taken between after : ℕ) (ws : List Constancy) (p : Expression) (old mid new : List Statement)
    → meaning_of declared name.bytes ≡ Some (Meaning.function parameters body) → inner ≡ bound parameters ws
    → AreConstancies declared known arguments ws
    → IsAdded (λ b. AreMade declared at known cores arguments taken b ps between) old mid
    → IsAdded (λ b. IsMade declared at inner ps body between b p after) mid new
    → IsAdded (λ b. (close : ℕ) → IsByRule declared at known cores (tree.call name arguments close) taken b p after) old new
rule_call declared at known inner cores ps name arguments parameters body taken between after ws p old mid new means binds knows h k =
    added_then (λ b. AreMade declared at known cores arguments taken b ps between) (λ b. IsMade declared at inner ps body between b p after)
    (λ b. (close : ℕ) → IsByRule declared at known cores (tree.call name arguments close) taken b p after) old mid new
    (λ b c m n close. a_call means knows m (subst (λ i. IsMade declared at i ps body between c p after) binds n)) h k

-- all that has come
pub all_added : (P : Block → Type 0) (inside : List Statement) → IsAdded P [] inside → P (block_of inside)
all_added P inside h = subst (λ l. P (block_of l)) (sym h.grown) h.made

once : (declared : List Declared) (at : Origin) (known : List Known) (cores : List Expression) (kind : Kind) (left right : tree.Expression)
    (taken between after : ℕ) (b c : Block) (p q : Expression) → IsMade declared at known cores left taken b p between
    → IsMade declared at known cores right (between + 1) c q after → is_plain c q ≡ true
    → IsByRule declared at known cores (joined_by kind left right) taken b (at_once kind p q) between
once declared at known cores Both left right taken between after b c p q m n safe = both_at_once m n safe
once declared at known cores Either left right taken between after b c p q m n safe = either_at_once m n safe

turned : (declared : List Declared) (at : Origin) (known : List Known) (cores : List Expression) (kind : Kind) (left right : tree.Expression)
    (taken between after : ℕ) (b c : Block) (p q : Expression) → IsMade declared at known cores left taken b p between
    → IsMade declared at known cores right (between + 1) c q after → is_plain c q ≡ false
    → IsByRule declared at known cores (joined_by kind left right) taken
    (behind b (in_turn at kind (holding (between + 1) left) (holding (between + 1) (joined_by kind left right)) p c q))
    (private (holding (between + 1) (joined_by kind left right))) after
turned declared at known cores Both left right taken between after b c p q m n may = both_in_turn m n may
turned declared at known cores Either left right taken between after b c p q m n may = either_in_turn m n may

pub rule_once : (declared : List Declared) (at : Origin) (known : List Known) (cores : List Expression) (kind : Kind) (left right : tree.Expression)
    (taken between after : ℕ) (p q whole : Expression) (inside old new : List Statement) → is_plain (block_of inside) q ≡ true → whole ≡ at_once kind p q
    → IsAdded (λ b. IsMade declared at known cores left taken b p between) old new
    → IsAdded (λ b. IsMade declared at known cores right (between + 1) b q after) [] inside
    → IsAdded (λ b. IsByRule declared at known cores (joined_by kind left right) taken b whole between) old new
rule_once declared at known cores kind left right taken between after p q whole inside old new safe so h k =
    added_as (λ b. IsMade declared at known cores left taken b p between) (λ b. IsByRule declared at known cores (joined_by kind left right) taken b whole between)
    old new (λ b m. subst (λ w. IsByRule declared at known cores (joined_by kind left right) taken b w between) (sym so)
    (once declared at known cores kind left right taken between after b (block_of inside) p q m
    (all_added (λ c. IsMade declared at known cores right (between + 1) c q after) inside k) safe)) h

pub rule_turned : (declared : List Declared) (at : Origin) (known : List Known) (cores : List Expression) (kind : Kind) (left right : tree.Expression)
    (taken between after : ℕ) (p q : Expression) (inside old mid new : List Statement) → is_plain (block_of inside) q ≡ false
    → IsAdded (λ b. IsMade declared at known cores left taken b p between) old mid
    → IsAdded (λ b. IsMade declared at known cores right (between + 1) b q after) [] inside
    → IsAdded (λ b. b ≡ in_turn at kind (holding (between + 1) left) (holding (between + 1) (joined_by kind left right)) p (block_of inside) q) mid new
    → IsAdded (λ b. IsByRule declared at known cores (joined_by kind left right) taken b (private (holding (between + 1) (joined_by kind left right))) after) old new
rule_turned declared at known cores kind left right taken between after p q inside old mid new may h k turn =
    let t = in_turn at kind (holding (between + 1) left) (holding (between + 1) (joined_by kind left right)) p (block_of inside) q in
    let whole = private (holding (between + 1) (joined_by kind left right)) in
    added_then (λ b. IsMade declared at known cores left taken b p between) (λ b. b ≡ t)
    (λ b. IsByRule declared at known cores (joined_by kind left right) taken b whole after) old mid new
    (λ b c m same. subst (λ x. IsByRule declared at known cores (joined_by kind left right) taken (behind b x) whole after) (sym same)
    (turned declared at known cores kind left right taken between after b (block_of inside) p q m
    (all_added (λ x. IsMade declared at known cores right (between + 1) x q after) inside k) may)) h turn

-- the same of another form
pub rule_as : (declared : List Declared) (at : Origin) (known : List Known) (cores : List Expression) (e d : tree.Expression)
    (taken after : ℕ) (p : Expression) (old new : List Statement) → e ≡ d
    → IsAdded (λ b. IsByRule declared at known cores d taken b p after) old new
    → IsAdded (λ b. IsByRule declared at known cores e taken b p after) old new
rule_as declared at known cores e d taken after p old new is h =
    subst (λ x. IsAdded (λ b. IsByRule declared at known cores x taken b p after) old new) (sym is) h

pub rule_as_call : (declared : List Declared) (at : Origin) (known : List Known) (cores : List Expression) (e : tree.Expression) (name : Named)
    (arguments : Expressions) (close taken after : ℕ) (p : Expression) (old new : List Statement) → e ≡ tree.call name arguments close
    → IsAdded (λ b. (any : ℕ) → IsByRule declared at known cores (tree.call name arguments any) taken b p after) old new
    → IsAdded (λ b. IsByRule declared at known cores e taken b p after) old new
rule_as_call declared at known cores e name arguments close taken after p old new is h =
    added_as (λ b. (any : ℕ) → IsByRule declared at known cores (tree.call name arguments any) taken b p after)
    (λ b. IsByRule declared at known cores e taken b p after) old new
    (λ b m. subst (λ x. IsByRule declared at known cores x taken b p after) (sym is) (m close)) h

-- an expression that has no value before the run
pub made_by_rule : (declared : List Declared) (at : Origin) (known : List Known) (cores : List Expression) (e : tree.Expression) (w : Constancy)
    (taken after : ℕ) (p : Expression) (old new : List Statement) → IsConstancy declared known e w → HasNoValue w
    → IsAdded (λ b. IsByRule declared at known cores e taken b p after) old new
    → IsAdded (λ b. IsMade declared at known cores e taken b p after) old new
made_by_rule declared at known cores e w taken after p old new knows none h =
    added_as (λ b. IsByRule declared at known cores e taken b p after) (λ b. IsMade declared at known cores e taken b p after) old new
    (λ b m. by_rule knows none m) h

pub made_value : (declared : List Declared) (at : Origin) (known : List Known) (cores : List Expression) (e : tree.Expression) (v taken : ℕ)
    (old : List Statement) → IsConstancy declared known e (Value v)
    → IsAdded (λ b. IsMade declared at known cores e taken b (number v) taken) old old
made_value declared at known cores e v taken old knows = added_none (λ b. IsMade declared at known cores e taken b (number v) taken) old (a_value knows)

-- sides that are the same
pub both_same : {x y z w : code_tree.Expression} → x ≡ y → z ≡ w → tree.both (trees.expression_of x) (trees.expression_of z) ≡ tree.both (trees.expression_of y) (trees.expression_of w)
both_same h k = cc

pub either_same : {x y z w : code_tree.Expression} → x ≡ y → z ≡ w → tree.either (trees.expression_of x) (trees.expression_of z) ≡ tree.either (trees.expression_of y) (trees.expression_of w)
either_same h k = cc

-- statements of the code as they are seen
pub read_is : (o : code_origin.Origin) (n m first last : ℕ) (w : code_core.Expression) (x : Origin) (a : Expression) → origin_of o ≡ x → n ≡ m → expression_of w ≡ a
    → statement_of (Read o (Own n first last) w) ≡ read x (own m first last) a
read_is o n m first last w x a h k l = cc

-- the right side of a junction, with names of its own behind the left side's
pub right_as : (declared : List Declared) (at : Origin) (known : List Known) (cores : List Expression) (right : tree.Expression) (start between after : ℕ)
    (q : Expression) (empty_one inside : List Statement) → start ≡ between + 1 → empty_one ≡ []
    → IsAdded (λ b. IsMade declared at known cores right start b q after) empty_one inside
    → IsAdded (λ b. IsMade declared at known cores right (between + 1) b q after) [] inside
right_as declared at known cores right start between after q empty_one inside is none h =
    subst (λ l. IsAdded (λ b. IsMade declared at known cores right (between + 1) b q after) l inside) none
    (subst (λ n. IsAdded (λ b. IsMade declared at known cores right n b q after) empty_one inside) is h)

-- what is no value
pub none_valued : (w : Constancy) → ((v : ℕ) → w ≡ Value v → ⊥) → HasNoValue w
none_valued Varies never = tt
none_valued Undefined never = tt
none_valued (Value v) never = never v refl

pub turned_as : (at : Origin) (kind : Kind) (l m w x : Private) (p : Expression) (inside : Block) (q : Expression) (old new : List Statement) → l ≡ m → w ≡ x
    → IsAdded (λ b. b ≡ in_turn at kind l w p inside q) old new → IsAdded (λ b. b ≡ in_turn at kind m x p inside q) old new
turned_as at kind l m w x p inside q old new h k t =
    subst (λ y. IsAdded (λ b. b ≡ in_turn at kind m y p inside q) old new) k
    (subst (λ y. IsAdded (λ b. b ≡ in_turn at kind y w p inside q) old new) h t)
