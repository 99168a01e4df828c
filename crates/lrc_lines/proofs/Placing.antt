-- What is still to do stands in the program's text, with the lines from its place on.
use Rattle.std.proofs.Common.{◌≡◌, ◌∙◌, ◌+◌, ℕ, Bool, true, false, List, [], ◌∷◌, ◌++◌, append-nil, append_assoc, arith, drop}
use Rattle.std.proofs.Common.{fold, length, refl, sym, ap}
use Rattle.std.specs.Prelude.{if◌then◌else◌, ◌==◌}
use Rattle.std.specs.List.{AllByRecursion}
use Rattle.std.proofs.lemmas.List.{drop-drop, length-append}
use Rattle.std.proofs.lemmas.List.Elements.{All-from_recursion}
use Rattle.std.specs.List.{All}
use Rattle.lrc_program.specs.declared.Program.{Program}
use Rattle.lrc_program.specs.declared.Statement.{Statement, Row_of-Statement, end_of-Statement, more_of-Statement}
use Rattle.lrc_program.specs.declared.Statement.TheVariants.{Assign, Read, Write, Acquire, Release, Barrier, Print, If', While'}
use Rattle.lrc_trace.specs.declared.act.Act.{Act}
use Rattle.lrc_trace.specs.declared.act.Deed.{Deed}
use Rattle.lrc_trace.specs.declared.act.Deed.TheVariants as deeds
use Rattle.lrc_exec.specs.Meaning.{block, next_of}
use Rattle.lrc_exec.specs.Ask.{ask_of, answered}
use Rattle.lrc_exec.specs.Condition.{condition_holds}
use Rattle.lrc_lines.specs.Places.{StandsAmong, in_order, within, within_block}
use Rattle.lrc_lines.specs.Tasks.{Task, behind, behind_block, beyond, passed, tasks}
use Rattle.lrc_lines.specs.Walks.{Walk, goes_on, led, led_by, onward, walk_at_start, walk_behind}

in_block : {m : _} (row : Row_of-Statement m) → within_block row ≡ in_order (block row)
in_block end_of-Statement = refl
in_block (more_of-Statement first more) = ap (λ l. first ∷ (within first ++ l)) (in_block more)

-- ---- the lines behind a statement are those from further on

over : (a b c : ℕ) (lines : List ℕ) → a + b ≡ c → drop b (drop a lines) ≡ drop c lines
over a b c lines is = drop-drop b a lines ∙ ap (λ n. drop n lines) is

mutual
  behind_is : (s : Statement) (lines : List ℕ) → behind s lines ≡ drop (length (within s)) (drop 1 lines)
  behind_is (If' e p a q b) lines =
      block_is b (behind_block a (drop 1 lines)) ∙ ap (drop (length (within_block b))) (block_is a (drop 1 lines))
      ∙ over (length (within_block a)) (length (within_block b)) (length (within_block a ++ within_block b)) (drop 1 lines)
      (sym (length-append (within_block a) (within_block b)))
  behind_is (While' e p a) lines = block_is a (drop 1 lines)
  behind_is (Assign name e) lines = refl
  behind_is (Read name e) lines = refl
  behind_is (Write e v) lines = refl
  behind_is (Acquire e) lines = refl
  behind_is (Release e) lines = refl
  behind_is Barrier lines = refl
  behind_is (Print e) lines = refl

  block_is : {m : _} (row : Row_of-Statement m) (lines : List ℕ) → behind_block row lines ≡ drop (length (within_block row)) lines
  block_is end_of-Statement lines = refl
  block_is (more_of-Statement first more) lines =
      block_is more (behind first lines)
      ∙ ap (drop (length (within_block more))) (behind_is first lines ∙ over 1 (length (within first)) _ lines refl)
      ∙ over (1 + length (within first)) (length (within_block more)) (length (first ∷ (within first ++ within_block more))) lines
      (omega (arith, length-append (within first) (within_block more)))

-- ---- what is still to do

module _ (all : List Statement) (lines : List ℕ) where
  abbrev Stand : List Task → Type 0
  Stand = AllByRecursion (StandsAmong all lines)

  stand_append : (a b : List Task) → Stand a → Stand b → Stand (a ++ b)
  stand_append [] b first second = second
  stand_append (task ∷ a) b first second = (first.0, stand_append a b first.1 second)

  -- from a place on
  record From (before after these : List Statement) (left : List ℕ) : Type 0 where
    place : all ≡ before ++ (these ++ after)
    left_is : left ≡ drop (length before) lines

  stand_tasks : (ss : List Statement) (before after : List Statement) (left : List ℕ) → From before after (in_order ss) left
      → Stand (tasks ss left)
  stand_tasks [] before after left from = tt
  stand_tasks (s ∷ ss) before after left from =
      let here = before ++ (s ∷ within s) in
      let place : all ≡ before ++ (s ∷ (within s ++ (in_order ss ++ after))) =
      from.place ∙ ap (λ l. before ++ (s ∷ l)) (append_assoc (within s) (in_order ss) after) in
      let next : behind s left ≡ drop (length here) lines =
      behind_is s left ∙ ap (λ l. drop (length (within s)) (drop 1 l)) from.left_is
      ∙ ap (drop (length (within s))) (over (length before) 1 (length before + 1) lines refl)
      ∙ over (length before + 1) (length (within s)) (length here) lines (omega (arith, length-append before (s ∷ within s))) in
      let further : all ≡ here ++ (in_order ss ++ after) = place ∙ sym (append_assoc before (s ∷ within s) (in_order ss ++ after)) in (
        record { before = before; after = in_order ss ++ after; place = place; lines_from = from.left_is },
        stand_tasks ss here after (behind s left) (record { place = further; left_is = next }),
      )

  -- the first block of a statement, and the second one
  stand_first : {m : _} (row : Row_of-Statement m) (s : Statement) (more : List Statement) (task : Task) → StandsAmong all lines task
      → task.statement ≡ s → within s ≡ within_block row ++ more → Stand (tasks (block row) (drop 1 task.lines))
  stand_first row s more task stands is parts =
      let here = stands.before ++ (task.statement ∷ []) in
      stand_tasks (block row) here (more ++ stands.after) (drop 1 task.lines) (record {
        place =
            stands.place
            ∙ ap (λ l. stands.before ++ (task.statement ∷ l))
            (ap (λ t. within t ++ stands.after) is ∙ ap (λ l. l ++ stands.after) (parts ∙ ap (λ l. l ++ more) (in_block row))
            ∙ append_assoc (in_order (block row)) more stands.after)
            ∙ sym (append_assoc stands.before (task.statement ∷ []) (in_order (block row) ++ (more ++ stands.after)));
        left_is =
            ap (drop 1) stands.lines_from
            ∙ over (length stands.before) 1 (length here) lines (sym (length-append stands.before (task.statement ∷ [])));
      })

  stand_second : {m k : _} (first : Row_of-Statement m) (row : Row_of-Statement k) (s : Statement) (task : Task)
      → StandsAmong all lines task
      → task.statement ≡ s → within s ≡ within_block first ++ within_block row
      → Stand (tasks (block row) (behind_block first (drop 1 task.lines)))
  stand_second first row s task stands is parts =
      let here = stands.before ++ (task.statement ∷ within_block first) in
      stand_tasks (block row) here stands.after (behind_block first (drop 1 task.lines)) (record {
        place =
            stands.place
            ∙ ap (λ l. stands.before ++ (task.statement ∷ l))
            (ap (λ t. within t ++ stands.after) is ∙ ap (λ l. l ++ stands.after) (parts ∙ ap (λ l. within_block first ++ l) (in_block row))
            ∙ append_assoc (within_block first) (in_order (block row)) stands.after)
            ∙ sym (append_assoc stands.before (task.statement ∷ within_block first) (in_order (block row) ++ stands.after));
        left_is =
            block_is first (drop 1 task.lines) ∙ ap (λ l. drop (length (within_block first)) (drop 1 l)) stands.lines_from
            ∙ ap (drop (length (within_block first))) (over (length stands.before) 1 (length stands.before + 1) lines refl)
            ∙ over (length stands.before + 1) (length (within_block first)) (length here) lines
            (omega (arith, length-append stands.before (task.statement ∷ within_block first)));
      })

  stand_beyond : (holds : Bool) (s : Statement) (left : List ℕ) (rest : List Task)
      → StandsAmong all lines (record { statement = s; lines = left })
      → Stand rest → Stand (beyond holds s left rest)
  stand_beyond true (If' e p a q b) left rest stands others =
      stand_append (tasks (block a) (drop 1 left)) rest (stand_first a (If' e p a q b) (within_block b) _ stands refl refl) others
  stand_beyond false (If' e p a q b) left rest stands others =
      stand_append (tasks (block b) (behind_block a (drop 1 left))) rest (stand_second a b (If' e p a q b) _ stands refl refl) others
  stand_beyond true (While' e p a) left rest stands others =
      stand_append (tasks (block a) (drop 1 left)) (record { statement = While' e p a; lines = left } ∷ rest)
      (stand_first a (While' e p a) [] _ stands refl (sym (append-nil (within_block a)))) (stands, others)
  stand_beyond false (While' e p a) left rest stands others = others
  stand_beyond holds (Assign name e) left rest stands others = others
  stand_beyond holds (Read name e) left rest stands others = others
  stand_beyond holds (Write e v) left rest stands others = others
  stand_beyond holds (Acquire e) left rest stands others = others
  stand_beyond holds (Release e) left rest stands others = others
  stand_beyond holds Barrier left rest stands others = others
  stand_beyond holds (Print e) left rest stands others = others

  stand_passed : (holds : Bool) (todo : List Task) → Stand todo → Stand (passed holds todo)
  stand_passed holds [] stand = tt
  stand_passed holds (task ∷ rest) stand = stand_beyond holds task.statement task.lines rest stand.0 stand.1

  -- ---- walks

  stand_if : (b : Bool) (one other : Walk) → Stand one.todo → Stand other.todo → Stand (if b then one else other).todo
  stand_if true one other first second = first
  stand_if false one other first second = second

  stand_onward : (value : ℕ) (walk : Walk) → Stand walk.todo → Stand (onward value walk).todo
  stand_onward value walk stand =
      stand_if (goes_on (ask_of (next_of walk.thread)))
      (record { thread = answered value walk.thread; todo = passed (condition_holds walk.thread) walk.todo }) walk
      (stand_passed (condition_holds walk.thread) walk.todo stand) stand

  stand_led : (walk : Walk) (d : Deed) → Stand walk.todo → Stand (led walk d).todo
  stand_led walk deeds.Arrive stand = stand
  stand_led walk (deeds.Trap cause) stand = stand
  stand_led walk deeds.End stand = stand
  stand_led walk deeds.Quiet stand = stand_onward 0 walk stand
  stand_led walk (deeds.Print v) stand = stand_onward 0 walk stand
  stand_led walk (deeds.Read word v) stand = stand_onward v walk stand
  stand_led walk (deeds.Write word v) stand = stand_onward 0 walk stand
  stand_led walk (deeds.Acquire lock) stand = stand_onward 0 walk stand
  stand_led walk (deeds.Release lock) stand = stand_onward 0 walk stand
  stand_led walk deeds.Depart stand = stand_onward 0 walk stand

  stand_fold : (node : ℕ) (acts : List Act) (walk : Walk) → Stand walk.todo → Stand (fold (led_by node) walk acts).todo
  stand_fold node [] walk stand = stand
  stand_fold node (act ∷ acts) walk stand =
      stand_fold node acts (led_by node walk act)
      (stand_if (act.node == node) (led walk act.deed) walk (stand_led walk act.deed stand) stand)

pub stand_behind : (program : Program) (nodes : ℕ) (lines : List ℕ) (acts : List Act) (node : ℕ)
    → All (StandsAmong (in_order program.statements.items) lines) (walk_behind program nodes lines acts node).todo
stand_behind program nodes lines acts node =
    let all = in_order program.statements.items in
    All-from_recursion (StandsAmong all lines) (walk_behind program nodes lines acts node).todo
    (stand_fold all lines node acts (walk_at_start program nodes lines node)
    (stand_tasks all lines program.statements.items [] [] lines (record { place = sym (append-nil all); left_is = refl })))
