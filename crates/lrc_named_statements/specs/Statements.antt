-- The core of statements. `IsCore declared held s core` says: where the statements around s hold so many names of the translation's
-- own, these are the core statements of the statement s.
use Rattle.std.specs.Prelude.{◌≡◌, ◌≢◌, ℕ, ◌+◌, true, false, Option, Some, None, List, []}
use Rattle.lrc_program.specs.declared.Operator.{Operator}
use Rattle.lrc_program.specs.declared.Operator.TheVariants.{Add, Subtract, Divide, Less}
use Rattle.lrc_named_tree.specs.Tree.{Named, Expressions, Place, Update, set, add, subtract, Arms}
use Rattle.lrc_named_tree.specs.Tree as tree
use Rattle.lrc_named_tree.specs.Ends.{last_of}
use Rattle.lrc_named_names.specs.Names.{Item, Meaning, Declared, meaning_of}
use Rattle.lrc_named_core.specs.Tree.{Private, named, own, Expression, number, private, binary, plain, assertion, Origin, Block}
use Rattle.lrc_named_core.specs.Tree.{assign, read, write, acquire, release, barrier, print, if_else, while_do, empty, next, only, behind, has_division, has_name}
use Rattle.lrc_named_address.specs.Address.{address}
use Rattle.lrc_named_translation.specs.Made.{IsMade, AreMade, bare, holding, using_item, truth}

-- a statement of the core that comes from the one that begins with this token, and lies on its line
abbrev pub from : ℕ → Origin
from token = record { statement = token; line = token; trap = plain }

-- the same, where a trap says that an assertion does not hold
abbrev pub asserting : ℕ → Origin
asserting token = record { statement = token; line = token; trap = assertion }

-- the token with which indices end, of which the first stands behind this token
abbrev pub last_index : ℕ → Expressions → ℕ
last_index at Expressions.none = at
last_index at (Expressions.more e others) = last_index (last_of e + 1) others

-- a name of the translation's own, for what the place holds
abbrev pub holding_place : ℕ → Place → Private
holding_place k p = own k p.name.at (last_index p.name.at p.indices)

-- `+` for `+=`, and `-` for `-=`
abbrev pub operator_of : Update → Option Operator
operator_of set = None
operator_of add = Some Add
operator_of subtract = Some Subtract

-- the expression is no shared item, and no index of one
abbrev pub IsNoItem : List Declared → tree.Expression → Type 0
IsNoItem declared (tree.element name indices last) = (item : Item) → meaning_of declared name.bytes ≢ Some (Meaning.shared item)
IsNoItem declared _ = Unit {0}

-- what the item of a place is: of words, or of locks
abbrev pub IsItem : (Item → Meaning) → List Declared → Place → Item → Type 0
IsItem kind declared p item = meaning_of declared p.name.bytes ≡ Some (kind item)

-- a name that is not declared
abbrev pub IsPrivate : List Declared → Place → Type 0
IsPrivate declared p = (meaning_of declared p.name.bytes ≡ None) × (p.indices ≡ Expressions.none)

-- what divides by zero where a condition is 0
abbrev pub trial_of : Expression → Expression
trial_of p = binary (number 1) Divide (truth p)

-- the core of an expression of the statement that begins with this token, in no function
abbrev pub IsMadeAt : List Declared → ℕ → tree.Expression → ℕ → Block → Expression → ℕ → Type 0
IsMadeAt declared token e taken before p after = IsMade declared (from token) [] [] e taken before p after

-- the address of an element of an item in such a statement
pub data IsAddress (declared : List Declared) (token : ℕ) (item : Item) : Expressions → ℕ → Block → Expression → ℕ → Type 0 where
  an_address : {indices : Expressions} {taken after : ℕ} {before : Block} {ps : List Expression} →
      AreMade declared (from token) [] [] indices taken before ps after → IsAddress declared token item indices taken before (address item ps) after

-- a statement that uses the item of a place
abbrev pub at_item : ℕ → Place → Origin
at_item token p = using_item (from token) p.name.bytes p.indices

-- one that lies on the line of another token
abbrev pub closing : (token close : ℕ) → Place → Origin
closing token close p = record (at_item token p) { line = close }

-- the core of the lock of a `with`, where this is its number, around the core of the block, whose `}` is the token `close`
abbrev pub guarded : (token close : ℕ) → Place → Expression → Block → Block
guarded token close p word within =
    next (acquire (at_item token p) word) (behind within (only (release (closing token close p) word)))

-- the core of a `for` from this value to below this limit, around the core of its block
abbrev pub counting : ℕ → Named → (first limit : Expression) → Block → Block
counting token name first limit within =
    next (assign (from token) (named name.bytes) first)
    (only (while_do (from token) (binary (private (named name.bytes)) Less limit)
    (behind within (only (assign (from token) (named name.bytes) (binary (private (named name.bytes)) Add (number 1)))))))

mutual
  pub data IsCore (declared : List Declared) : ℕ → tree.Statement → Block → Type 0 where
    -- a shared item alone is read into the name
    read_into : {held after last : ℕ} {p : Place} {name : Named} {indices : Expressions} {value : tree.Expression} {item : Item}
        {before : Block} {word : Expression} →
        IsPrivate declared p → bare value ≡ tree.element name indices last → meaning_of declared name.bytes ≡ Some (Meaning.shared item) →
        IsAddress declared p.name.at item indices held before word after →
        IsCore declared held (tree.assign p set value)
        (behind before (only (read (using_item (from p.name.at) name.bytes indices) (named p.name.bytes) word)))
    set_to : {held after : ℕ} {p : Place} {value : tree.Expression} {before : Block} {v : Expression} →
        IsPrivate declared p → IsNoItem declared (bare value) → IsMadeAt declared p.name.at value held before v after →
        IsCore declared held (tree.assign p set value) (behind before (only (assign (from p.name.at) (named p.name.bytes) v)))
    changed_by : {held after : ℕ} {p : Place} {update : Update} {o : Operator} {value : tree.Expression} {before : Block} {v : Expression} →
        IsPrivate declared p → operator_of update ≡ Some o → IsMadeAt declared p.name.at value held before v after →
        IsCore declared held (tree.assign p update value)
        (behind before (only (assign (from p.name.at) (named p.name.bytes) (binary (private (named p.name.bytes)) o v))))
    -- the indices come before the value
    written : {held between after : ℕ} {p : Place} {value : tree.Expression} {item : Item} {first second : Block} {word v : Expression} →
        IsItem Meaning.shared declared p item → IsAddress declared p.name.at item p.indices held first word between →
        IsMadeAt declared p.name.at value between second v after →
        IsCore declared held (tree.assign p set value) (behind first (behind second (only (write (at_item p.name.at p) word v))))
    -- and the word is read before the value
    written_over : {held between after : ℕ} {p : Place} {update : Update} {o : Operator} {value : tree.Expression} {item : Item}
        {first second : Block} {word v : Expression} →
        IsItem Meaning.shared declared p item → operator_of update ≡ Some o → IsAddress declared p.name.at item p.indices held first word between →
        IsMadeAt declared p.name.at value (between + 1) second v after →
        IsCore declared held (tree.assign p update value)
        (behind first (next (read (at_item p.name.at p) (holding_place (between + 1) p) word)
        (behind second (only (write (at_item p.name.at p) word (binary (private (holding_place (between + 1) p)) o v))))))
    acquired : {held after token : ℕ} {p : Place} {item : Item} {before : Block} {word : Expression} →
        IsItem Meaning.lock declared p item → IsAddress declared token item p.indices held before word after →
        IsCore declared held (tree.acquire token p) (behind before (only (acquire (at_item token p) word)))
    released : {held after token : ℕ} {p : Place} {item : Item} {before : Block} {word : Expression} →
        IsItem Meaning.lock declared p item → IsAddress declared token item p.indices held before word after →
        IsCore declared held (tree.release token p) (behind before (only (release (at_item token p) word)))
    -- a lock whose number no statement can change
    with_lock : {held after token close : ℕ} {p : Place} {inside : tree.Block} {item : Item} {before within : Block} {word : Expression} →
        IsItem Meaning.lock declared p item → IsAddress declared token item p.indices held before word after → has_name word ≡ false →
        AreCores declared held inside within →
        IsCore declared held (tree.with_do token p inside close)
        (behind before (guarded token close p word within))
    -- else its number is held
    with_lock_held : {held first token close : ℕ} {p : Place} {inside : tree.Block} {item : Item} {alone core : Block} {early : Expression} →
        IsItem Meaning.lock declared p item → IsAddress declared token item p.indices held alone early first → has_name early ≡ true →
        IsHeldWith declared held token p inside close core →
        IsCore declared held (tree.with_do token p inside close) core
    at_barrier : {held token : ℕ} → IsCore declared held (tree.barrier token) (only (barrier (from token)))
    printed : {held token : ℕ} {values : Expressions} {core : Block} →
        ArePrinted declared held token values core → IsCore declared held (tree.print token values) core
    asserted : {held after token : ℕ} {condition : tree.Expression} {before : Block} {p : Expression} →
        IsMadeAt declared token condition held before p after → has_division p ≡ false →
        IsCore declared held (tree.assert token condition)
        (behind before (only (assign (asserting token) (holding (after + 1) condition) (trial_of p))))
    -- a condition that divides is computed first
    asserted_after : {held after token : ℕ} {condition : tree.Expression} {before : Block} {p : Expression} →
        IsMadeAt declared token condition held before p after → has_division p ≡ true →
        IsCore declared held (tree.assert token condition)
        (behind before (next (assign (from token) (holding (after + 1) condition) p)
        (only (assign (asserting token) (holding (after + 1) condition) (trial_of (private (holding (after + 1) condition)))))))
    chosen : {held token : ℕ} {condition : tree.Expression} {then otherwise : tree.Block} {others : Arms} {core : Block} →
        IsChoice declared held token condition then others otherwise core →
        IsCore declared held (tree.if_else token condition then others otherwise) core
    -- what comes before the condition comes again at the end of each round
    repeated : {held first second token : ℕ} {condition : tree.Expression} {inside : tree.Block} {before within again : Block} {p q : Expression} →
        IsMadeAt declared token condition held before p first → AreCores declared held inside within →
        IsMadeAt declared token condition held again q second →
        IsCore declared held (tree.while_do token condition inside) (behind before (only (while_do (from token) p (behind within again))))
    -- an end that no statement can change
    counted : {held between after token : ℕ} {name : Named} {first end : tree.Expression} {inside : tree.Block} {one two within : Block} {a b : Expression} →
        IsMadeAt declared token first held one a between → IsMadeAt declared token end between two b after → has_name b ≡ false →
        AreCores declared held inside within →
        IsCore declared held (tree.for_do token name first end inside)
        (behind one (behind two (counting token name a b within)))
    -- else it is held
    counted_held : {held early last token : ℕ} {name : Named} {first end : tree.Expression} {inside : tree.Block} {one two core : Block} {a b : Expression} →
        IsMadeAt declared token first held one a early → IsMadeAt declared token end early two b last → has_name b ≡ true →
        IsHeldFor declared held token name first end inside core →
        IsCore declared held (tree.for_do token name first end inside) core

  -- a `with` that holds the number of its lock
  pub data IsHeldWith (declared : List Declared) : ℕ → ℕ → Place → tree.Block → ℕ → Block → Type 0 where
    a_held_with : {held after token close : ℕ} {p : Place} {inside : tree.Block} {item : Item} {before within : Block} {word : Expression} →
        IsItem Meaning.lock declared p item → IsAddress declared token item p.indices (held + 1) before word after →
        AreCores declared (held + 1) inside within →
        IsHeldWith declared held token p inside close
        (behind before (next (assign (from token) (holding_place (held + 1) p) word)
        (guarded token close p (private (holding_place (held + 1) p)) within)))

  -- a `for` that holds its end
  pub data IsHeldFor (declared : List Declared) : ℕ → ℕ → Named → (first end : tree.Expression) → tree.Block → Block → Type 0 where
    a_held_for : {held between after token : ℕ} {name : Named} {first end : tree.Expression} {inside : tree.Block} {one two within : Block} {a b : Expression} →
        IsMadeAt declared token first (held + 1) one a between → IsMadeAt declared token end between two b after →
        AreCores declared (held + 1) inside within →
        IsHeldFor declared held token name first end inside
        (behind one (behind two (next (assign (from token) (holding (held + 1) end) b)
        (counting token name a (private (holding (held + 1) end)) within))))

  -- a choice
  pub data IsChoice (declared : List Declared) : ℕ → ℕ → tree.Expression → tree.Block → Arms → tree.Block → Block → Type 0 where
    a_choice : {held after token : ℕ} {condition : tree.Expression} {then otherwise : tree.Block} {others : Arms} {before first second : Block} {p : Expression} →
        IsMadeAt declared token condition held before p after → AreCores declared held then first → IsElse declared held others otherwise second →
        IsChoice declared held token condition then others otherwise (behind before (only (if_else (from token) p first second)))

  -- what stands behind its `else`: an `else if` is a statement of its own
  pub data IsElse (declared : List Declared) : ℕ → Arms → tree.Block → Block → Type 0 where
    last_block : {held : ℕ} {otherwise : tree.Block} {core : Block} →
        AreCores declared held otherwise core → IsElse declared held Arms.no_arm otherwise core
    else_if : {held token : ℕ} {condition : tree.Expression} {then otherwise : tree.Block} {others : Arms} {core : Block} →
        IsChoice declared held token condition then others otherwise core → IsElse declared held (Arms.arm token condition then others) otherwise core

  -- each expression of a `print` begins anew
  pub data ArePrinted (declared : List Declared) : ℕ → ℕ → Expressions → Block → Type 0 where
    none_printed : {held token : ℕ} → ArePrinted declared held token Expressions.none empty
    one_printed : {held after token : ℕ} {e : tree.Expression} {others : Expressions} {before core : Block} {p : Expression} →
        IsMadeAt declared token e held before p after → ArePrinted declared held token others core →
        ArePrinted declared held token (Expressions.more e others) (behind before (next (print (from token) p) core))

  pub data AreCores (declared : List Declared) : ℕ → tree.Block → Block → Type 0 where
    no_statement : {held : ℕ} → AreCores declared held tree.Block.empty empty
    one_statement : {held : ℕ} {s : tree.Statement} {others : tree.Block} {first second : Block} →
        IsCore declared held s first → AreCores declared held others second →
        AreCores declared held (tree.Block.next s others) (behind first second)
