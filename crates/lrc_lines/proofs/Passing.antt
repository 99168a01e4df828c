-- What is still to do once a statement is passed.
use Rattle.std.proofs.Common.{◌≡◌, ℕ, ◌+◌, ◌-◌, ◌<◌, ◌≤◌, Bool, true, false, List, [], ◌∷◌, ◌++◌, refl, sym, ap, ◌∙◌, arith}
use Rattle.std.proofs.Common.{get_or, take, length, drop, fold}
use Rattle.std.proofs.lemmas.List.{take_more}
use Rattle.lrc_program.specs.declared.Statement.{Statement, Row_of-Statement, end_of-Statement, more_of-Statement}
use Rattle.lrc_program.specs.declared.Statement.TheBlock.{hidden-the_row-Statement-0}
use Rattle.lrc_program.specs.declared.Statement.TheVariants.{Assign, Read, Write, Acquire, Release, Barrier, Print, If', While', If, While}
use Rattle.lrc_exec.specs.Meaning.{block}
use Rattle.lrc_exec.proofs.Flat.{if_made, while_made, block-items}
use Rattle.lrc_lines.specs.declared.way.Stretch.{Stretch}
use Rattle.lrc_lines.specs.Tasks.{Task, behind, behind_block, tasks, beyond, passed}
use Rattle.lrc_lines.specs.Ways.{tasks_of, todo_of}

-- ---- lines

pub fold_append : {A B : Type 0} (f : B → A → B) (from : B) (a b : List A) → fold f from (a ++ b) ≡ fold f (fold f from a) b
fold_append f from [] b = refl
fold_append f from (x ∷ a) b = fold_append f (f from x) a b

-- the lines behind those of statements
abbrev pub behind_all : List Statement → List ℕ → List ℕ
behind_all statements lines = fold (λ left s. behind s left) lines statements

behind_row : {n : _} (row : Row_of-Statement n) (lines : List ℕ) → behind_block row lines ≡ behind_all (block row) lines
behind_row end_of-Statement lines = refl
behind_row (more_of-Statement first more) lines = behind_row more (behind first lines)

pub behind_items : (v : _) (lines : List ℕ) → behind_block (hidden-the_row-Statement-0 v) lines ≡ behind_all v.items lines
behind_items v lines = behind_row (hidden-the_row-Statement-0 v) lines ∙ ap (λ l. behind_all l lines) (block-items v)

pub behind_if : (s : Statement) (e : _) (v w : _) (lines : List ℕ) → s ≡ If e v w → behind s lines ≡ behind_all w.items (behind_all v.items (drop 1 lines))
behind_if s e v w lines is =
    ap (λ x. behind x lines) is ∙ behind_items w (behind_block (hidden-the_row-Statement-0 v) (drop 1 lines))
    ∙ ap (behind_all w.items) (behind_items v (drop 1 lines))

pub behind_while : (s : Statement) (e : _) (v : _) (lines : List ℕ) → s ≡ While e v → behind s lines ≡ behind_all v.items (drop 1 lines)
behind_while s e v lines is = ap (λ x. behind x lines) is ∙ behind_items v (drop 1 lines)

pub behind_straight : (s : Statement) (lines : List ℕ) → ((e : _) (a b : _) → s ≡ If e a b → ⊥) → ((e : _) (a : _) → s ≡ While e a → ⊥)
    → behind s lines ≡ drop 1 lines
behind_straight (Assign name value) lines not_if not_while = refl
behind_straight (Read name word) lines not_if not_while = refl
behind_straight (Write word value) lines not_if not_while = refl
behind_straight (Acquire lock) lines not_if not_while = refl
behind_straight (Release lock) lines not_if not_while = refl
behind_straight Barrier lines not_if not_while = refl
behind_straight (Print value) lines not_if not_while = refl
behind_straight (If' e p a q b) lines not_if not_while = absurd (not_if e _ _ (if_made e p a q b))
behind_straight (While' e p a) lines not_if not_while = absurd (not_while e _ (while_made e p a))

-- one statement more
pub behind_all_more : (all : List Statement) (i : ℕ) (d : Statement) (lines : List ℕ) → i < length all →
    behind_all (take (i + 1) all) lines ≡ behind (get_or all i d) (behind_all (take i all) lines)
behind_all_more all i d lines inside =
    ap (λ l. behind_all l lines) (take_more all i d inside) ∙ fold_append (λ left s. behind s left) lines (take i all) (get_or all i d ∷ [])

-- ---- stretches

-- where a stretch was pushed, its statements come first
pub todo_of_push : (all items : List Stretch) (stretch : Stretch) → all ≡ items ++ stretch ∷ [] → todo_of all ≡ tasks_of stretch ++ todo_of items
todo_of_push all items stretch is = ap todo_of is ∙ fold_append (λ outer s. tasks_of s ++ outer) [] items (stretch ∷ [])

-- where a stretch of these statements was pushed, they come first
pub todo_of_opened : (statements : List Statement) (lines : List ℕ) (all items : List Stretch) (s : Stretch) → 1 ≤ length statements
    → s.first.now ≡ get_or statements 0 s.first.now → s.others.now ≡ drop 1 statements → s.lines.now ≡ lines → all ≡ items ++ s ∷ []
    → todo_of all ≡ tasks statements lines ++ todo_of items
todo_of_opened [] lines all items s some first_is others_is lines_is is = absurd (omega arith)
todo_of_opened (x ∷ xs) lines all items s some first_is others_is lines_is is =
    todo_of_push all items s is
    ∙ ap (λ l. tasks (s.first.now ∷ s.others.now) l ++ todo_of items) lines_is
    ∙ ap (λ first. tasks (first ∷ s.others.now) lines ++ todo_of items) first_is
    ∙ ap (λ others. tasks (x ∷ others) lines ++ todo_of items) others_is

-- what comes behind the first statement of a stretch and of those around it
abbrev pub rest_of : Stretch → List Stretch → List Task
rest_of stretch items = tasks stretch.others.now (behind stretch.first.now stretch.lines.now) ++ todo_of items

-- where a stretch was taken, its first statement is passed
pub passed_pop : (holds : Bool) (all items : List Stretch) (stretch : Stretch) → all ≡ items ++ stretch ∷ [] →
    passed holds (todo_of all) ≡ beyond holds stretch.first.now stretch.lines.now (rest_of stretch items)
passed_pop holds all items stretch is = ap (passed holds) (todo_of_push all items stretch is)

-- ---- what is passed

pub beyond_if_true : (s : Statement) (e : _) (v w : _) (lines : List ℕ) (rest : List Task) → s ≡ If e v w →
    beyond true s lines rest ≡ tasks v.items (drop 1 lines) ++ rest
beyond_if_true s e v w lines rest is = ap (λ x. beyond true x lines rest) is ∙ ap (λ l. tasks l (drop 1 lines) ++ rest) (block-items v)

pub beyond_if_false : (s : Statement) (e : _) (v w : _) (lines : List ℕ) (rest : List Task) → s ≡ If e v w →
    beyond false s lines rest ≡ tasks w.items (behind_all v.items (drop 1 lines)) ++ rest
beyond_if_false s e v w lines rest is =
    ap (λ x. beyond false x lines rest) is ∙ ap (λ l. tasks l (behind_block (hidden-the_row-Statement-0 v) (drop 1 lines)) ++ rest) (block-items w)
    ∙ ap (λ l. tasks w.items l ++ rest) (behind_items v (drop 1 lines))

pub beyond_while_true : (s : Statement) (e : _) (v : _) (lines : List ℕ) (rest : List Task) → s ≡ While e v →
    beyond true s lines rest ≡ tasks v.items (drop 1 lines) ++ record { statement = s; lines = lines } ∷ rest
beyond_while_true s e v lines rest is =
    ap (λ x. beyond true x lines rest) is ∙ ap (λ l. tasks l (drop 1 lines) ++ record { statement = While e v; lines = lines } ∷ rest) (block-items v)
    ∙ ap (λ x. tasks v.items (drop 1 lines) ++ record { statement = x; lines = lines } ∷ rest) (sym is)

pub beyond_while_false : (s : Statement) (e : _) (v : _) (lines : List ℕ) (rest : List Task) → s ≡ While e v → beyond false s lines rest ≡ rest
beyond_while_false s e v lines rest is = ap (λ x. beyond false x lines rest) is

pub beyond_straight : (holds : Bool) (s : Statement) (lines : List ℕ) (rest : List Task) → ((e : _) (a b : _) → s ≡ If e a b → ⊥)
    → ((e : _) (a : _) → s ≡ While e a → ⊥) → beyond holds s lines rest ≡ rest
beyond_straight holds (Assign name value) lines rest not_if not_while = refl
beyond_straight holds (Read name word) lines rest not_if not_while = refl
beyond_straight holds (Write word value) lines rest not_if not_while = refl
beyond_straight holds (Acquire lock) lines rest not_if not_while = refl
beyond_straight holds (Release lock) lines rest not_if not_while = refl
beyond_straight holds Barrier lines rest not_if not_while = refl
beyond_straight holds (Print value) lines rest not_if not_while = refl
beyond_straight holds (If' e p a q b) lines rest not_if not_while = absurd (not_if e _ _ (if_made e p a q b))
beyond_straight holds (While' e p a) lines rest not_if not_while = absurd (not_while e _ (while_made e p a))

-- a loop whose condition holds: its body comes first, and then the loop once more
pub passed_loop : (holds : Bool) (old items pushed : List Stretch) (s : Stretch) (e : _) (v : _) (body : List Statement) (inside : List ℕ) (todo : List Task) →
    holds ≡ true → old ≡ items ++ s ∷ [] → pushed ≡ items ++ s ∷ [] → s.first.now ≡ While e v → body ≡ v.items → inside ≡ drop 1 s.lines.now →
    todo ≡ tasks body inside ++ todo_of pushed → todo ≡ passed holds (todo_of old)
passed_loop holds old items pushed s e v body inside todo holds_is old_is pushed_is is body_is inside_is todo_is =
    todo_is ∙ ap (λ l. tasks l inside ++ todo_of pushed) body_is ∙ ap (λ l. tasks v.items l ++ todo_of pushed) inside_is
    ∙ ap (λ l. tasks v.items (drop 1 s.lines.now) ++ l) (todo_of_push pushed items s pushed_is)
    ∙ sym (passed_pop holds old items s old_is ∙ ap (λ b. beyond b s.first.now s.lines.now (rest_of s items)) holds_is
    ∙ beyond_while_true s.first.now e v s.lines.now (rest_of s items) is)

-- a test that holds: its first block comes first
pub passed_then : (holds : Bool) (old items left : List Stretch) (s : Stretch) (e : _) (v w : _) (body : List Statement) (inside : List ℕ) (todo : List Task) →
    holds ≡ true → old ≡ items ++ s ∷ [] → todo_of left ≡ rest_of s items → s.first.now ≡ If e v w → body ≡ v.items → inside ≡ drop 1 s.lines.now →
    todo ≡ tasks body inside ++ todo_of left → todo ≡ passed holds (todo_of old)
passed_then holds old items left s e v w body inside todo holds_is old_is left_is is body_is inside_is todo_is =
    todo_is ∙ ap (λ l. tasks l inside ++ todo_of left) body_is ∙ ap (λ l. tasks v.items l ++ todo_of left) inside_is
    ∙ ap (λ l. tasks v.items (drop 1 s.lines.now) ++ l) left_is
    ∙ sym (passed_pop holds old items s old_is ∙ ap (λ b. beyond b s.first.now s.lines.now (rest_of s items)) holds_is
    ∙ beyond_if_true s.first.now e v w s.lines.now (rest_of s items) is)

-- a loop whose condition does not hold, and what has no block, are left behind
pub passed_over : (holds : Bool) (old items : List Stretch) (s : Stretch) (todo : List Task) → old ≡ items ++ s ∷ []
    → beyond holds s.first.now s.lines.now (rest_of s items) ≡ rest_of s items → todo ≡ rest_of s items → todo ≡ passed holds (todo_of old)
passed_over holds old items s todo old_is beyond_is todo_is = todo_is ∙ sym (passed_pop holds old items s old_is ∙ beyond_is)

-- whatever a statement is, where it leads
pub ruleset passings = (passed_pop, todo_of_push, beyond_if_true, beyond_if_false, beyond_while_true, beyond_while_false, beyond_straight)
