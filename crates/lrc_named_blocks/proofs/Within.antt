-- Statements with statements within.
use Rattle.std.proofs.Common.{◌≡◌, ℕ, ◌+◌, ◌<◌, true, false, List, [], ◌∷◌, ◌++◌, length, get_or, take, sym, ap, subst, refl, ◌∙◌, add-one, zero, suc, arith}
use Rattle.std.proofs.Math.Seq.{take-suc}
use Rattle.lrc_program.specs.declared.Operator.TheVariants.{Add, Less}
use Rattle.lrc_named_tree.specs.Tree.{Named, Place, Arms}
use Rattle.lrc_named_tree.specs.Tree as tree
use Rattle.lrc_named_tree.specs.View as trees
use Rattle.lrc_named_tree.specs.declared.tree.Statement as code_tree
use Rattle.lrc_named_names.specs.Names.{Item, Meaning, Declared}
use Rattle.lrc_named_core.specs.declared.tree.Statement.{Statement}
use Rattle.lrc_named_core.specs.View.{statement_of, block_of}
use Rattle.lrc_named_core.specs.Tree.{Expression, named, number, private, binary, assign, acquire, release, if_else, while_do, Block, behind, next, only, empty, has_name}
use Rattle.lrc_named_translation.specs.Added.{IsAdded}
use Rattle.lrc_named_translation.specs.Made.{holding}
use Rattle.lrc_named_translation.proofs.Adding.{added_none, added_as, added_then}
use Rattle.lrc_named_translation.proofs.Making.{behind_empty, behind_behind}
use Rattle.lrc_named_translation.proofs.Rules.{all_added}
use Rattle.lrc_named_statements.specs.Statements.{IsCore, AreCores, IsChoice, IsElse, IsHeldWith, IsHeldFor, IsAddress, IsItem, IsMadeAt}
use Rattle.lrc_named_statements.specs.Statements.{at_item, closing, from, holding_place, guarded, counting}
use Rattle.lrc_named_statements.specs.Statements.{with_lock, with_lock_held, a_held_with, repeated, counted, counted_held, a_held_for, a_choice, no_statement, one_statement}
use Rattle.lrc_named_statements.specs.Well.{IsWellStatement, IsWellBlock}
use Rattle.lrc_named_statements.proofs.Chain.{chain, push_last, push_then, taken_back}
use Rattle.lrc_named_blocks.proofs.Measure.{size, sizes}

-- ---- blocks

-- a block with one statement more
abbrev pub with_last : tree.Block → tree.Statement → tree.Block
with_last tree.empty s = tree.next s tree.empty
with_last (tree.next first others) s = tree.next first (with_last others s)

pub block-push : (xs : List code_tree.Statement) (x : code_tree.Statement) → trees.block_of (xs ++ x ∷ []) ≡ with_last (trees.block_of xs) (trees.statement_of x)
block-push [] x = refl
block-push (first ∷ rest) x = ap (tree.next (trees.statement_of first)) (block-push rest x)

cores_push : (declared : List Declared) (held : ℕ) (inside : tree.Block) (s : tree.Statement) (b c : Block)
    → AreCores declared held inside b → IsCore declared held s c → AreCores declared held (with_last inside s) (behind b c)
cores_push declared held inside s b c no_statement m =
    subst (λ x. AreCores declared held (tree.next s tree.empty) x) (behind_empty c) (one_statement m no_statement)
cores_push declared held inside s b c (one_statement {s = d} {others = others} {first = one} {second = two} first rest) m =
    subst (λ x. AreCores declared held (tree.next d (with_last others s)) x) (sym (behind_behind one two c))
    (one_statement first (cores_push declared held others s two c rest m))

pub cores_none : (declared : List Declared) (held : ℕ) (old : List Statement) → IsAdded (AreCores declared held tree.empty) old old
cores_none declared held old = added_none (AreCores declared held tree.empty) old no_statement

pub cores_step : (declared : List Declared) (held : ℕ) (xs : List code_tree.Statement) (i : ℕ) (x : code_tree.Statement) (first old new : List Statement)
    → i < length xs → x ≡ get_or xs i x
    → IsAdded (AreCores declared held (trees.block_of (take i xs))) first old → IsAdded (IsCore declared held (trees.statement_of x)) old new
    → IsAdded (AreCores declared held (trees.block_of (take (i + 1) xs))) first new
cores_step declared held xs i x first old new lt is before here =
    let step : take (i + 1) xs ≡ take i xs ++ x ∷ [] = rw add-one (take-suc xs i x lt ∙ ap (λ y. take i xs ++ y ∷ []) (sym is)) in
    let last : trees.block_of (take (i + 1) xs) ≡ with_last (trees.block_of (take i xs)) (trees.statement_of x) = ap trees.block_of step ∙ block-push (take i xs) x in
    added_then (AreCores declared held (trees.block_of (take i xs))) (IsCore declared held (trees.statement_of x))
    (AreCores declared held (trees.block_of (take (i + 1) xs))) first old new
    (λ b c h k. subst (λ y. AreCores declared held y (behind b c)) (sym last)
    (cores_push declared held (trees.block_of (take i xs)) (trees.statement_of x) b c h k)) before here

-- one of the statements of a block
pub well_at : (declared : List Declared) (xs : List code_tree.Statement) (i : ℕ) (d : code_tree.Statement)
    → i < length xs → IsWellBlock declared (trees.block_of xs) → IsWellStatement declared (trees.statement_of (get_or xs i d))
well_at declared [] i d lt well = absurd (omega arith)
well_at declared (x ∷ xs) zero d lt well = well.0
well_at declared (x ∷ xs) (suc i) d lt well = well_at declared xs i d (omega arith) well.1

pub smaller_at : (xs : List code_tree.Statement) (i : ℕ) (d : code_tree.Statement)
    → i < length xs → size (trees.statement_of (get_or xs i d)) < sizes (trees.block_of xs)
smaller_at [] i d lt = absurd (omega arith)
smaller_at (x ∷ xs) zero d lt = omega arith
smaller_at (x ∷ xs) (suc i) d lt = let h = smaller_at xs i d (omega arith) in omega (arith, h)

-- ---- `with`

-- the block between the statements that acquire and release a lock of this number
abbrev pub IsGuarded : List Declared → (held token close : ℕ) → Place → tree.Block → Expression → Block → Type 0
IsGuarded declared held token close p inside word b =
    (within : Block) × AreCores declared held inside within × (b ≡ guarded token close p word within)

pub guard_added : (declared : List Declared) (held token close : ℕ) (p : Place) (inside : tree.Block) (word : Expression) (r s : Statement)
    (old mid near new : List Statement)
    → statement_of r ≡ acquire (at_item token p) word → mid ≡ old ++ r ∷ []
    → statement_of s ≡ release (closing token close p) word → new ≡ near ++ s ∷ []
    → IsAdded (AreCores declared held inside) mid near → IsAdded (IsGuarded declared held token close p inside word) old new
guard_added declared held token close p inside word r s old mid near new so grown also further h =
    let G = IsGuarded declared held token close p inside word in
    let first = acquire (at_item token p) word in
    push_then G old mid new r first so grown
    (chain (AreCores declared held inside) (λ c. G (next first c)) mid near new h
    (push_last (λ c. G (next first (behind (block_of h.more) c))) near new s (release (closing token close p) word) also further
    (block_of h.more, h.made, refl)))

pub with_added : (declared : List Declared) (held after token close : ℕ) (p : Place) (inside : tree.Block) (item : Item) (word : Expression)
    (old mid new : List Statement) → IsItem Meaning.lock declared p item → has_name word ≡ false
    → IsAdded (λ b. IsAddress declared token item p.indices held b word after) old mid
    → IsAdded (IsGuarded declared held token close p inside word) mid new
    → IsAdded (IsCore declared held (tree.with_do token p inside close)) old new
with_added declared held after token close p inside item word old mid new means unnamed h k =
    let R = IsCore declared held (tree.with_do token p inside close) in
    chain (λ b. IsAddress declared token item p.indices held b word after) R old mid new h
    (added_as (IsGuarded declared held token close p inside word) (λ c. R (behind (block_of h.more) c)) mid new
    (λ c g. subst (λ x. R (behind (block_of h.more) x)) (sym g.2) (with_lock means h.made unnamed g.1)) k)

pub held_with_added : (declared : List Declared) (held holds after token close : ℕ) (p : Place) (inside : tree.Block) (item : Item) (word : Expression)
    (s : Statement) (old mid near new : List Statement) → IsItem Meaning.lock declared p item → holds ≡ held + 1
    → statement_of s ≡ assign (from token) (holding_place holds p) word → near ≡ mid ++ s ∷ []
    → IsAdded (λ b. IsAddress declared token item p.indices holds b word after) old mid
    → IsAdded (IsGuarded declared holds token close p inside (private (holding_place holds p))) near new
    → IsAdded (IsHeldWith declared held token p inside close) old new
held_with_added declared held holds after token close p inside item word s old mid near new means is so grown h k =
    let R = IsHeldWith declared held token p inside close in
    let first = assign (from token) (holding_place holds p) word in
    chain (λ b. IsAddress declared token item p.indices holds b word after) R old mid new h
    (push_then (λ c. R (behind (block_of h.more) c)) mid near new s first so grown
    (added_as (IsGuarded declared holds token close p inside (private (holding_place holds p)))
    (λ c. R (behind (block_of h.more) (next first c))) near new
    (λ c g. subst (λ x. R (behind (block_of h.more) (next first x))) (sym g.2)
    (subst (λ n. R (behind (block_of h.more) (next (assign (from token) (holding_place n p) word)
    (guarded token close p (private (holding_place n p)) g.0)))) (sym is)
    (a_held_with means (subst (λ n. IsAddress declared token item p.indices n (block_of h.more) word after) is h.made)
    (subst (λ n. AreCores declared n inside g.0) is g.1)))) k))

pub with_held_added : (declared : List Declared) (held first token close : ℕ) (p : Place) (inside : tree.Block) (item : Item) (early : Expression)
    (old mid back new : List Statement) → IsItem Meaning.lock declared p item → has_name early ≡ true → back ≡ old
    → IsAdded (λ b. IsAddress declared token item p.indices held b early first) old mid
    → IsAdded (IsHeldWith declared held token p inside close) back new
    → IsAdded (IsCore declared held (tree.with_do token p inside close)) old new
with_held_added declared held first token close p inside item early old mid back new means has is h k =
    added_as (IsHeldWith declared held token p inside close) (IsCore declared held (tree.with_do token p inside close)) old new
    (λ b m. with_lock_held means h.made has m)
    (subst (λ l. IsAdded (IsHeldWith declared held token p inside close) l new) is k)

-- ---- `while`

pub while_added : (declared : List Declared) (held first second token : ℕ) (condition : tree.Expression) (inside : tree.Block) (p q : Expression)
    (s : Statement) (old mid new start one two : List Statement) → start ≡ []
    → statement_of s ≡ while_do (from token) p (block_of two) → new ≡ mid ++ s ∷ []
    → IsAdded (λ b. IsMadeAt declared token condition held b p first) old mid
    → IsAdded (AreCores declared held inside) start one → IsAdded (λ b. IsMadeAt declared token condition held b q second) one two
    → IsAdded (IsCore declared held (tree.while_do token condition inside)) old new
while_added declared held first second token condition inside p q s old mid new start one two none so grown h m k =
    let R = IsCore declared held (tree.while_do token condition inside) in
    let Rounds = λ (b : Block). R (behind (block_of h.more) (only (while_do (from token) p b))) in
    let round : IsAdded Rounds start two =
    added_then (AreCores declared held inside) (λ b. IsMadeAt declared token condition held b q second) Rounds start one two
    (λ b c x y. repeated h.made x y) m k in
    chain (λ b. IsMadeAt declared token condition held b p first) R old mid new h
    (push_last (λ c. R (behind (block_of h.more) c)) mid new s (while_do (from token) p (block_of two)) so grown
    (all_added Rounds two (subst (λ l. IsAdded Rounds l two) none round)))

-- ---- `for`

-- a loop from this value to below this limit
abbrev pub IsCounting : List Declared → (held token : ℕ) → Named → tree.Block → (first limit : Expression) → Block → Type 0
IsCounting declared held token name inside first limit b =
    (within : Block) × AreCores declared held inside within × (b ≡ counting token name first limit within)

pub rounds_added : (declared : List Declared) (held token : ℕ) (name : Named) (inside : tree.Block) (first limit : Expression) (r s t : Statement)
    (old mid new start one two : List Statement) → start ≡ []
    → statement_of r ≡ assign (from token) (named name.bytes) first → mid ≡ old ++ r ∷ []
    → statement_of t ≡ assign (from token) (named name.bytes) (binary (private (named name.bytes)) Add (number 1)) → two ≡ one ++ t ∷ []
    → statement_of s ≡ while_do (from token) (binary (private (named name.bytes)) Less limit) (block_of two) → new ≡ mid ++ s ∷ []
    → IsAdded (AreCores declared held inside) start one → IsAdded (IsCounting declared held token name inside first limit) old new
rounds_added declared held token name inside first limit r s t old mid new start one two none so grown more_is longer also further h =
    let G = IsCounting declared held token name inside first limit in
    let begin = assign (from token) (named name.bytes) first in
    let up = assign (from token) (named name.bytes) (binary (private (named name.bytes)) Add (number 1)) in
    let test = binary (private (named name.bytes)) Less limit in
    let Round = λ (b : Block). (within : Block) × AreCores declared held inside within × (b ≡ behind within (only up)) in
    let round : IsAdded Round start two =
    chain (AreCores declared held inside) Round start one two h
    (push_last (λ c. Round (behind (block_of h.more) c)) one two t up more_is longer (block_of h.more, h.made, refl)) in
    let whole = all_added Round two (subst (λ l. IsAdded Round l two) none round) in
    push_then G old mid new r begin so grown
    (push_last (λ c. G (next begin c)) mid new s (while_do (from token) test (block_of two)) also further
    (whole.0, whole.1, ap (λ x. next begin (only (while_do (from token) test x))) whole.2))

pub for_added : (declared : List Declared) (held between after token : ℕ) (name : Named) (first end : tree.Expression) (inside : tree.Block) (a b : Expression)
    (old mid near new : List Statement) → has_name b ≡ false
    → IsAdded (λ c. IsMadeAt declared token first held c a between) old mid → IsAdded (λ c. IsMadeAt declared token end between c b after) mid near
    → IsAdded (IsCounting declared held token name inside a b) near new
    → IsAdded (IsCore declared held (tree.for_do token name first end inside)) old new
for_added declared held between after token name first end inside a b old mid near new unnamed h k m =
    let R = IsCore declared held (tree.for_do token name first end inside) in
    chain (λ c. IsMadeAt declared token first held c a between) R old mid new h
    (chain (λ c. IsMadeAt declared token end between c b after) (λ c. R (behind (block_of h.more) c)) mid near new k
    (added_as (IsCounting declared held token name inside a b) (λ c. R (behind (block_of h.more) (behind (block_of k.more) c))) near new
    (λ c g. subst (λ x. R (behind (block_of h.more) (behind (block_of k.more) x))) (sym g.2) (counted h.made k.made unnamed g.1)) m))

-- what has come of both values is taken back
pub twice_back : (declared : List Declared) (held early last token : ℕ) (first end : tree.Expression) (a b : Expression) (old mid near : List Statement) (n : ℕ)
    → length old ≡ n → IsAdded (λ c. IsMadeAt declared token first held c a early) old mid
    → IsAdded (λ c. IsMadeAt declared token end early c b last) mid near → take n near ≡ old
twice_back declared held early last token first end a b old mid near n is h k =
    taken_back (λ c. Unit {0}) old near n is
    (added_then (λ c. IsMadeAt declared token first held c a early) (λ c. IsMadeAt declared token end early c b last) (λ c. Unit {0}) old mid near (λ c d x y. tt) h k)

pub held_for_added : (declared : List Declared) (held holds between after token : ℕ) (name : Named) (first end : tree.Expression) (inside : tree.Block)
    (a b : Expression) (s : Statement) (old mid near far new : List Statement) → holds ≡ held + 1
    → statement_of s ≡ assign (from token) (holding holds end) b → far ≡ near ++ s ∷ []
    → IsAdded (λ c. IsMadeAt declared token first holds c a between) old mid → IsAdded (λ c. IsMadeAt declared token end between c b after) mid near
    → IsAdded (IsCounting declared holds token name inside a (private (holding holds end))) far new
    → IsAdded (IsHeldFor declared held token name first end inside) old new
held_for_added declared held holds between after token name first end inside a b s old mid near far new is so grown h k m =
    let R = IsHeldFor declared held token name first end inside in
    let begin = assign (from token) (holding holds end) b in
    chain (λ c. IsMadeAt declared token first holds c a between) R old mid new h
    (chain (λ c. IsMadeAt declared token end between c b after) (λ c. R (behind (block_of h.more) c)) mid near new k
    (push_then (λ c. R (behind (block_of h.more) (behind (block_of k.more) c))) near far new s begin so grown
    (added_as (IsCounting declared holds token name inside a (private (holding holds end)))
    (λ c. R (behind (block_of h.more) (behind (block_of k.more) (next begin c)))) far new
    (λ c g. subst (λ x. R (behind (block_of h.more) (behind (block_of k.more) (next begin x)))) (sym g.2)
    (subst (λ n. R (behind (block_of h.more) (behind (block_of k.more) (next (assign (from token) (holding n end) b)
    (counting token name a (private (holding n end)) g.0))))) (sym is)
    (a_held_for (subst (λ n. IsMadeAt declared token first n (block_of h.more) a between) is h.made) k.made
    (subst (λ n. AreCores declared n inside g.0) is g.1)))) m)))

pub for_held_added : (declared : List Declared) (held early last token : ℕ) (name : Named) (first end : tree.Expression) (inside : tree.Block) (a b : Expression)
    (old mid near back new : List Statement) → has_name b ≡ true → back ≡ old
    → IsAdded (λ c. IsMadeAt declared token first held c a early) old mid → IsAdded (λ c. IsMadeAt declared token end early c b last) mid near
    → IsAdded (IsHeldFor declared held token name first end inside) back new
    → IsAdded (IsCore declared held (tree.for_do token name first end inside)) old new
for_held_added declared held early last token name first end inside a b old mid near back new has is h k m =
    added_as (IsHeldFor declared held token name first end inside) (IsCore declared held (tree.for_do token name first end inside)) old new
    (λ c x. counted_held h.made k.made has x)
    (subst (λ l. IsAdded (IsHeldFor declared held token name first end inside) l new) is m)

-- ---- `if`

pub choice_added : (declared : List Declared) (held after token : ℕ) (condition : tree.Expression) (then otherwise : tree.Block) (arms : Arms) (p : Expression)
    (s : Statement) (old mid new start one begin two : List Statement) → start ≡ [] → begin ≡ []
    → statement_of s ≡ if_else (from token) p (block_of one) (block_of two) → new ≡ mid ++ s ∷ []
    → IsAdded (λ b. IsMadeAt declared token condition held b p after) old mid
    → IsAdded (AreCores declared held then) start one → IsAdded (IsElse declared held arms otherwise) begin two
    → IsAdded (IsChoice declared held token condition then arms otherwise) old new
choice_added declared held after token condition then otherwise arms p s old mid new start one begin two none nothing so grown h m k =
    let R = IsChoice declared held token condition then arms otherwise in
    chain (λ b. IsMadeAt declared token condition held b p after) R old mid new h
    (push_last (λ c. R (behind (block_of h.more) c)) mid new s (if_else (from token) p (block_of one) (block_of two)) so grown
    (a_choice h.made (all_added (AreCores declared held then) one (subst (λ l. IsAdded (AreCores declared held then) l one) none m))
    (all_added (IsElse declared held arms otherwise) two (subst (λ l. IsAdded (IsElse declared held arms otherwise) l two) nothing k))))
