-- Statements that set a place.
use Rattle.std.proofs.Common.{◌≡◌, ℕ, ◌+◌, Some, List, [], ◌∷◌, ◌++◌, sym, subst}
use Rattle.lrc_program.specs.declared.Operator.{Operator}
use Rattle.lrc_named_tree.specs.Tree.{Named, Expressions, Place, Update, set}
use Rattle.lrc_named_tree.specs.Tree as tree
use Rattle.lrc_named_names.specs.Names.{Item, Meaning, Declared, meaning_of}
use Rattle.lrc_named_core.specs.declared.tree.Statement.{Statement}
use Rattle.lrc_named_core.specs.View.{statement_of, block_of}
use Rattle.lrc_named_core.specs.Tree.{Expression, named, private, binary, assign, read, write, Block, behind, next, only}
use Rattle.lrc_named_translation.specs.Added.{IsAdded}
use Rattle.lrc_named_translation.specs.Made.{bare, using_item}
use Rattle.lrc_named_statements.specs.Statements.{IsCore, IsAddress, IsItem, IsMadeAt, IsNoItem, IsPrivate, at_item, from, holding_place, operator_of}
use Rattle.lrc_named_statements.specs.Statements.{changed_by, read_into, set_to, written, written_over}
use Rattle.lrc_named_statements.proofs.Chain.{chain, push_last, push_then}

pub write_added : (declared : List Declared) (held between after : ℕ) (p : Place) (item : Item) (value : tree.Expression) (word v : Expression) (s : Statement)
    (old mid near new : List Statement) → IsItem Meaning.shared declared p item → statement_of s ≡ write (at_item p.name.at p) word v → new ≡ near ++ s ∷ []
    → IsAdded (λ b. IsAddress declared p.name.at item p.indices held b word between) old mid
    → IsAdded (λ b. IsMadeAt declared p.name.at value between b v after) mid near
    → IsAdded (IsCore declared held (tree.assign p set value)) old new
write_added declared held between after p item value word v s old mid near new means so grown h k =
    let R = IsCore declared held (tree.assign p set value) in
    chain (λ b. IsAddress declared p.name.at item p.indices held b word between) R old mid new h
    (chain (λ b. IsMadeAt declared p.name.at value between b v after) (λ c. R (behind (block_of h.more) c)) mid near new k
    (push_last (λ c. R (behind (block_of h.more) (behind (block_of k.more) c))) near new s (write (at_item p.name.at p) word v) so grown
    (written means h.made k.made)))

pub write_over_added : (declared : List Declared) (held between number after : ℕ) (p : Place) (o : Operator) (item : Item) (value : tree.Expression)
    (word v : Expression) (r s : Statement) (old mid near far new : List Statement)
    → IsItem Meaning.shared declared p item → number ≡ between + 1
    → statement_of r ≡ read (at_item p.name.at p) (holding_place number p) word → near ≡ mid ++ r ∷ []
    → statement_of s ≡ write (at_item p.name.at p) word (binary (private (holding_place number p)) o v) → new ≡ far ++ s ∷ []
    → IsAdded (λ b. IsAddress declared p.name.at item p.indices held b word between) old mid
    → IsAdded (λ b. IsMadeAt declared p.name.at value number b v after) near far
    → IsAdded (λ b. (update : Update) → operator_of update ≡ Some o → IsCore declared held (tree.assign p update value) b) old new
write_over_added declared held between number after p o item value word v r s old mid near far new means is so grown also further h k =
    let R = λ (b : Block). (update : Update) → operator_of update ≡ Some o → IsCore declared held (tree.assign p update value) b in
    let first = read (at_item p.name.at p) (holding_place number p) word in
    chain (λ b. IsAddress declared p.name.at item p.indices held b word between) R old mid new h
    (push_then (λ c. R (behind (block_of h.more) c)) mid near new r first so grown
    (chain (λ b. IsMadeAt declared p.name.at value number b v after) (λ c. R (behind (block_of h.more) (next first c))) near far new k
    (push_last (λ c. R (behind (block_of h.more) (next first (behind (block_of k.more) c)))) far new s
    (write (at_item p.name.at p) word (binary (private (holding_place number p)) o v)) also further
    (λ update by. subst (λ n. IsCore declared held (tree.assign p update value)
    (behind (block_of h.more) (next (read (at_item p.name.at p) (holding_place n p) word)
    (behind (block_of k.more) (only (write (at_item p.name.at p) word (binary (private (holding_place n p)) o v))))))) (sym is)
    (written_over means by h.made (subst (λ n. IsMadeAt declared p.name.at value n (block_of k.more) v after) is k.made))))))

pub change_added : (declared : List Declared) (held after : ℕ) (p : Place) (o : Operator) (value : tree.Expression) (v : Expression) (s : Statement)
    (old mid new : List Statement) → IsPrivate declared p
    → statement_of s ≡ assign (from p.name.at) (named p.name.bytes) (binary (private (named p.name.bytes)) o v) → new ≡ mid ++ s ∷ []
    → IsAdded (λ b. IsMadeAt declared p.name.at value held b v after) old mid
    → IsAdded (λ b. (update : Update) → operator_of update ≡ Some o → IsCore declared held (tree.assign p update value) b) old new
change_added declared held after p o value v s old mid new alone so grown h =
    let R = λ (b : Block). (update : Update) → operator_of update ≡ Some o → IsCore declared held (tree.assign p update value) b in
    chain (λ b. IsMadeAt declared p.name.at value held b v after) R old mid new h
    (push_last (λ c. R (behind (block_of h.more) c)) mid new s
    (assign (from p.name.at) (named p.name.bytes) (binary (private (named p.name.bytes)) o v)) so grown
    (λ update by. changed_by alone by h.made))

pub set_added : (declared : List Declared) (held after : ℕ) (p : Place) (value : tree.Expression) (v : Expression) (s : Statement)
    (old mid new : List Statement) → IsPrivate declared p → IsNoItem declared (bare value)
    → statement_of s ≡ assign (from p.name.at) (named p.name.bytes) v → new ≡ mid ++ s ∷ []
    → IsAdded (λ b. IsMadeAt declared p.name.at value held b v after) old mid
    → IsAdded (IsCore declared held (tree.assign p set value)) old new
set_added declared held after p value v s old mid new alone no_item so grown h =
    let R = IsCore declared held (tree.assign p set value) in
    chain (λ b. IsMadeAt declared p.name.at value held b v after) R old mid new h
    (push_last (λ c. R (behind (block_of h.more) c)) mid new s (assign (from p.name.at) (named p.name.bytes) v) so grown
    (set_to alone no_item h.made))

pub read_into_added : (declared : List Declared) (held after last : ℕ) (p : Place) (name : Named) (indices : Expressions) (item : Item) (word : Expression)
    (s : Statement) (old mid new : List Statement) → IsPrivate declared p → meaning_of declared name.bytes ≡ Some (Meaning.shared item)
    → statement_of s ≡ read (using_item (from p.name.at) name.bytes indices) (named p.name.bytes) word → new ≡ mid ++ s ∷ []
    → IsAdded (λ b. IsAddress declared p.name.at item indices held b word after) old mid
    → IsAdded (λ b. (value : tree.Expression) → bare value ≡ tree.element name indices last → IsCore declared held (tree.assign p set value) b) old new
read_into_added declared held after last p name indices item word s old mid new alone means so grown h =
    let R = λ (b : Block). (value : tree.Expression) → bare value ≡ tree.element name indices last → IsCore declared held (tree.assign p set value) b in
    chain (λ b. IsAddress declared p.name.at item indices held b word after) R old mid new h
    (push_last (λ c. R (behind (block_of h.more) c)) mid new s (read (using_item (from p.name.at) name.bytes indices) (named p.name.bytes) word) so grown
    (λ value is. read_into alone is means h.made))
