-- Lists that grow by one item for each, and what a sort by a key ensures.
use Rattle.std.proofs.Common.{◌≡◌, ℕ, subst, List}
use Rattle.std.specs.Prelude.{IfOk, Result}
use Rattle.lrc_program.specs.Statements.{Block}
use Rattle.lrc_lint_warned.specs.declared.found.Found.{Found}
use Rattle.lrc_lint_warned.specs.Found.{NodeAt, StatementAt}
use Rattle.lrc_lint_warnings.specs.Collected.{all_of}

pub all_same : {R E : Type 0} (items_of : R → List Found) (result : Result R E) (nodes other_nodes : List NodeAt)
    (statements other_statements : List StatementAt) (b other : Block) (words words_too locks locks_too : ℕ)
    → nodes ≡ other_nodes → statements ≡ other_statements → b ≡ other → words ≡ words_too → locks ≡ locks_too
    → IfOk result (λ r. items_of r ≡ all_of nodes statements b words locks)
    → IfOk result (λ r. items_of r ≡ all_of other_nodes other_statements other words_too locks_too)
all_same items_of result nodes other_nodes statements other_statements b other words words_too locks locks_too same_nodes same_statements same_block same_words same_locks h =
    subst (λ n. IfOk result (λ r. items_of r ≡ all_of other_nodes other_statements other words_too n)) same_locks
    (subst (λ n. IfOk result (λ r. items_of r ≡ all_of other_nodes other_statements other n locks)) same_words
    (subst (λ x. IfOk result (λ r. items_of r ≡ all_of other_nodes other_statements x words locks)) same_block
    (subst (λ l. IfOk result (λ r. items_of r ≡ all_of other_nodes l b words locks)) same_statements
    (subst (λ l. IfOk result (λ r. items_of r ≡ all_of l statements b words locks)) same_nodes h))))
