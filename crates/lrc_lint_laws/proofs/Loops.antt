-- What holds of a node as long as it goes round a loop.
use Rattle.std.proofs.Common.{◌≡◌, ◌⊎◌, inl, inr, ◌∙◌, ℕ, Bool, true, false, Some, List, [], ◌∷◌, ◌++◌, append_assoc, drop, refl, sym, ap, ap₂}
use Rattle.std.proofs.Common.{subst, arith}
use Rattle.std.specs.Prelude.{◌==◌, ◌&&◌, ◌||◌, not, slice_index, slice_set}
use Rattle.std.specs.List.{AllByRecursion, Contains, list_any}
use Rattle.std.proofs.lemmas.Bool.{eqb-false}
use Rattle.std.proofs.lemmas.List.{get_or-set_other}
use Rattle.std.proofs.lemmas.List.Elements.{Contains-append_left, Contains-append_right}
use Rattle.std.proofs.lemmas.List.Folds.{list_any-append, list_any_at}
use Rattle.lrc_program.specs.declared.Expression.{Expression}
use Rattle.lrc_program.specs.declared.Expression.TheVariants.{Number, Private, Me, Nodes, Binary'}
use Rattle.lrc_program.specs.declared.Program.{Program}
use Rattle.lrc_program.specs.declared.Statement.{Statement, Row_of-Statement}
use Rattle.lrc_program.specs.declared.Statement.TheVariants.{Assign, Read, Write, Acquire, Release, Barrier, Print, If', While'}
use Rattle.lrc_program.specs.Statements.{Expression as Part, private, Statement as Tree, while_do, expression_of, statement_of, row_of, block_of}
use Rattle.lrc_lang.specs.Token.{Token}
use Rattle.lrc_trace.specs.declared.act.Act.{Act}
use Rattle.lrc_exec.specs.Meaning.{Thread, block, combined, value_in, value_of}
use Rattle.lrc_exec.specs.Condition.{condition_holds, first_is_met, value_is_met}
use Rattle.lrc_lines.specs.Tasks.{Task, behind, beyond, tasks}
use Rattle.lrc_lines.specs.Walks.{Walk}
use Rattle.lrc_lines.proofs.Agreeing.{agrees_behind}
use Rattle.lrc_lint_warned.specs.declared.found.Found.{Found}
use Rattle.lrc_lint_warned.specs.declared.found.Kind.{Kind}
use Rattle.lrc_lint_warned.specs.declared.found.Kind.TheVariants as kinds
use Rattle.lrc_lint_warned.specs.declared.places.Scan.TheVariants.{Statements}
use Rattle.lrc_lint_warned.specs.Blocks.{has_set, is_set_in, unchanged_conditions, unchanged_kind}
use Rattle.lrc_lint_warned.specs.Found.{found_at}
use Rattle.lrc_lint_warned.specs.Inside.{nodes_in, statements_in, within}
use Rattle.lrc_lint_warned.specs.Names.{sets}
use Rattle.lrc_lint_warned.specs.Operations.{kind_if}
use Rattle.lrc_lint_warned.specs.Places.{places_in}
use Rattle.lrc_lint_laws.specs.Comes.{IsAt, statements_of_text, thread_to, walk_to}
use Rattle.lrc_lint_laws.specs.Loops.{IsInLoop, condition_value}
use Rattle.lrc_lint_laws.proofs.Listed.{in_flat, in_found_at}
use Rattle.lrc_lint_laws.proofs.Moves.{IsPlain, a_barrier, a_print, a_write, Moved, Moves, along_from, assigns, reads, acquires, releases, passes}
use Rattle.lrc_lint_laws.proofs.Moves.{branches, loops, statements}
use Rattle.lrc_lint_laws.proofs.Reached.{comes_to, row_is}

-- ---- what no statement in the loop does

pub or_none : (a b : Bool) → (a || b) ≡ false → (a ≡ false) × (b ≡ false)
or_none true b is = cc
or_none false b is = (refl, is)

module _ (tests : ℕ → Tree → Bool) (Q : ℕ → Type 0) where
  abbrev pub Free : Tree → Type 0
  Free s = (k : ℕ) → Q k → list_any (tests k) (s ∷ within s) ≡ false

  abbrev pub FreeBlock : List Tree → Type 0
  FreeBlock all = (k : ℕ) → Q k → list_any (tests k) all ≡ false

  abbrev pub AllFree : List Task → Type 0
  AllFree = AllByRecursion (λ task. Free (statement_of task.statement))

  free_append : (xs ys : List Task) → AllFree xs → AllFree ys → AllFree (xs ++ ys)
  free_append [] ys one other = other
  free_append (x ∷ xs) ys one other = (one.0, free_append xs ys one.1 other)

  free_tasks : (all : List Statement) (lines : List ℕ) → FreeBlock (statements_in (block_of all)) → AllFree (tasks all lines)
  free_tasks [] lines free = tt
  free_tasks (s ∷ all) lines free =
      let split : (k : ℕ) → Q k → (list_any (tests k) (statement_of s ∷ within (statement_of s)) ≡ false) × (list_any (tests k) (statements_in (block_of all)) ≡ false) =
      λ k q. or_none _ _ (sym (list_any-append (tests k) (statement_of s ∷ within (statement_of s)) (statements_in (block_of all))) ∙ free k q) in
      (λ k q. (split k q).0, free_tasks all (behind s lines) (λ k q. (split k q).1))

  free_row : {m : _} (row : Row_of-Statement m) (lines : List ℕ) → FreeBlock (statements_in (row_of row)) → AllFree (tasks (block row) lines)
  free_row row lines free = free_tasks (block row) lines (λ k q. ap (λ b. list_any (tests k) (statements_in b)) (row_is row) ∙ free k q)

  pub free_beyond : (holds : Bool) (s : Statement) (lines : List ℕ) (rest : List Task) → Free (statement_of s) → AllFree rest → AllFree (beyond holds s lines rest)
  free_beyond true (If' e p a q b) lines rest free others =
      free_append (tasks (block a) _) rest
      (free_row a _ (λ k r. (or_none _ _ (sym (list_any-append (tests k) (statements_in (row_of a)) (statements_in (row_of b))) ∙ (or_none _ _ (free k r)).1)).0)) others
  free_beyond false (If' e p a q b) lines rest free others =
      free_append (tasks (block b) _) rest
      (free_row b _ (λ k r. (or_none _ _ (sym (list_any-append (tests k) (statements_in (row_of a)) (statements_in (row_of b))) ∙ (or_none _ _ (free k r)).1)).1)) others
  free_beyond true (While' e p a) lines rest free others =
      free_append (tasks (block a) _) _ (free_row a _ (λ k r. (or_none _ _ (free k r)).1)) (free, others)
  free_beyond false (While' e p a) lines rest free others = others
  free_beyond holds (Assign k e) lines rest free others = others
  free_beyond holds (Read k e) lines rest free others = others
  free_beyond holds (Write e v) lines rest free others = others
  free_beyond holds (Acquire e) lines rest free others = others
  free_beyond holds (Release e) lines rest free others = others
  free_beyond holds Barrier lines rest free others = others
  free_beyond holds (Print e) lines rest free others = others

-- what comes after stays behind
beyond_more : (holds : Bool) (s : Statement) (lines : List ℕ) (xs ys : List Task) → beyond holds s lines (xs ++ ys) ≡ beyond holds s lines xs ++ ys
beyond_more true (If' e p a q b) lines xs ys = sym (append_assoc (tasks (block a) _) xs ys)
beyond_more false (If' e p a q b) lines xs ys = sym (append_assoc (tasks (block b) _) xs ys)
beyond_more true (While' e p a) lines xs ys = sym (append_assoc (tasks (block a) _) (record { statement = While' e p a; lines = lines } ∷ xs) ys)
beyond_more false (While' e p a) lines xs ys = refl
beyond_more holds (Assign k e) lines xs ys = refl
beyond_more holds (Read k e) lines xs ys = refl
beyond_more holds (Write e v) lines xs ys = refl
beyond_more holds (Acquire e) lines xs ys = refl
beyond_more holds (Release e) lines xs ys = refl
beyond_more holds Barrier lines xs ys = refl
beyond_more holds (Print e) lines xs ys = refl

plain_no : (x : Statement) (c : Part) (b : _) → IsPlain x → statement_of x ≡ while_do c b → ⊥
plain_no x c b a_write is = cc
plain_no x c b a_barrier is = cc
plain_no x c b a_print is = cc

-- ---- a loop

-- what a loop is, with its condition and its block
pub record IsLoop (s : Statement) (e : Expression) {m : _} (a : Row_of-Statement m) : Type 0 where
  pub tree : statement_of s ≡ while_do (expression_of e) (row_of a)
  pub on : (lines : List ℕ) (more : List Task) → beyond true s lines more ≡ tasks (block a) (drop 1 lines) ++ record { statement = s; lines = lines } ∷ more
  pub off : (lines : List ℕ) (more : List Task) → beyond false s lines more ≡ more
  pub value : (t : Thread) → condition_value t s ≡ value_in t e

module _ (tests : ℕ → Tree → Bool) (Q : ℕ → Type 0) (s : Statement) (e : Expression) {m : _} (a : Row_of-Statement m) (is_loop : IsLoop s e a)
    (lines : List ℕ) (more : List Task) (body : FreeBlock tests Q (statements_in (row_of a))) where
  abbrev pub loop : Task
  loop = record { statement = s; lines = lines }

  -- it goes round the loop, and what it has still to do in it is free of all this
  pub record Rounds (todo : List Task) : Type 0 where
    pub inside : List Task
    pub is : todo ≡ inside ++ loop ∷ more
    pub free : AllFree tests Q inside

  abbrev pub Left : Thread → Task → List Task → Type 0
  Left t task todo = (value_is_met (value_in t e) ≡ false) × (todo ≡ more) × (task ≡ loop)

  at_condition : (t : Thread) (task : Task) (todo : List Task) (b : Bool) → value_is_met (value_in t e) ≡ b → todo ≡ beyond b s lines more → task ≡ loop
      → Rounds todo ⊎ Left t task todo
  at_condition t task todo true met gone here = inl (record {
    inside = tasks (block a) (drop 1 lines);
    is = gone ∙ is_loop.on lines more;
    free = free_row tests Q a (drop 1 lines) body;
  })
  at_condition t task todo false met gone here = inr (met, gone ∙ is_loop.off lines more, here)

  statement_there : (task : Task) (x : Statement) → task ≡ loop → task.statement ≡ x → statement_of x ≡ while_do (expression_of e) (row_of a)
  statement_there task x here is = ap statement_of (sym is ∙ ap (λ (y : Task). y.statement) here) ∙ is_loop.tree

  at_loop : (t u : Thread) (task : Task) (rest todo : List Task) → task ≡ loop → rest ≡ more → Moves t task rest u todo → Rounds todo ⊎ Left t task todo
  at_loop t u task rest todo here behind (loops {e = c} other same gone) =
      at_condition t task todo (value_is_met (value_in t e)) refl
      (gone ∙ ap (λ (x : Task). beyond (value_is_met (value_in t c)) x.statement x.lines rest) here
      ∙ ap (beyond (value_is_met (value_in t c)) s lines) behind
      ∙ ap (λ o. beyond (value_is_met o) s lines more)
      (sym (ap (condition_value t) (sym (ap (λ (x : Task). x.statement) here) ∙ other)) ∙ is_loop.value t)) here
  at_loop t u task rest todo here behind (assigns k x {e = c} is value privates keeps gone) = let no = statement_there task (Assign k c) here is in cc
  at_loop t u task rest todo here behind (reads k x {e = c} is value privates keeps gone) = let no = statement_there task (Read k c) here is in cc
  at_loop t u task rest todo here behind (acquires l {e = c} is value held privates setting gone) = let no = statement_there task (Acquire c) here is in cc
  at_loop t u task rest todo here behind (releases l {e = c} is value held privates setting gone) = let no = statement_there task (Release c) here is in cc
  at_loop t u task rest todo here behind (branches {e = c} {p = p} {q = q} {a = one} {b = two} is same gone) =
      let no = statement_there task (If' c p one q two) here is in cc
  at_loop t u task rest todo here behind (passes plain same gone) =
      absurd (plain_no task.statement (expression_of e) (row_of a) plain (statement_there task task.statement here refl))

  first_of : (task first : Task) (rest others : List Task) → task ∷ rest ≡ first ∷ others → task ≡ first
  first_of task first rest others same = cc

  rest_of : (task first : Task) (rest others : List Task) → task ∷ rest ≡ first ∷ others → rest ≡ others
  rest_of task first rest others same = cc

  -- a step of what stands in the loop stays in it
  inside_step : (t u : Thread) (task : Task) (rest inside todo : List Task) → rest ≡ inside ++ loop ∷ more → Free tests Q (statement_of task.statement)
      → AllFree tests Q inside → Moves t task rest u todo → Rounds todo
  inside_step t u task rest inside todo is free others (assigns k x here value privates keeps gone) = record { inside = inside; is = gone ∙ is; free = others }
  inside_step t u task rest inside todo is free others (reads k x here value privates keeps gone) = record { inside = inside; is = gone ∙ is; free = others }
  inside_step t u task rest inside todo is free others (acquires l here value held privates setting gone) =
      record { inside = inside; is = gone ∙ is; free = others }
  inside_step t u task rest inside todo is free others (releases l here value held privates setting gone) =
      record { inside = inside; is = gone ∙ is; free = others }
  inside_step t u task rest inside todo is free others (passes plain same gone) = record { inside = inside; is = gone ∙ is; free = others }
  inside_step t u task rest inside todo is free others (branches {e = c} here same gone) =
      let b = value_is_met (value_in t c) in record {
        inside = beyond b task.statement task.lines inside;
        is = gone ∙ ap (beyond b task.statement task.lines) is ∙ beyond_more b task.statement task.lines inside (loop ∷ more);
        free = free_beyond tests Q b task.statement task.lines inside free others;
      }
  inside_step t u task rest inside todo is free others (loops {e = c} here same gone) =
      let b = value_is_met (value_in t c) in record {
        inside = beyond b task.statement task.lines inside;
        is = gone ∙ ap (beyond b task.statement task.lines) is ∙ beyond_more b task.statement task.lines inside (loop ∷ more);
        free = free_beyond tests Q b task.statement task.lines inside free others;
      }

  -- where a step leads: it stays in the loop, or it leaves it by its condition
  pub after_step : (t u : Thread) (task : Task) (rest inside todo : List Task) → task ∷ rest ≡ inside ++ loop ∷ more → AllFree tests Q inside
      → Moves t task rest u todo → Rounds todo ⊎ Left t task todo
  after_step t u task rest [] todo is free moves =
      at_loop t u task rest todo (first_of task loop rest more is) (rest_of task loop rest more is) moves
  after_step t u task rest (first ∷ inside) todo is free moves =
      inl (inside_step t u task rest inside todo (rest_of task first rest (inside ++ loop ∷ more) is)
      (subst (λ (x : Task). Free tests Q (statement_of x.statement)) (sym (first_of task first rest (inside ++ loop ∷ more) is)) free.0) free.1 moves)

  -- the first of what is still to do stands in the loop, or is the loop
  pub first_free : (test : Tree → Bool) (task : Task) (rest inside : List Task) → task ∷ rest ≡ inside ++ loop ∷ more → AllFree tests Q inside
      → ((x : Tree) → Free tests Q x → test x ≡ false) → test (while_do (expression_of e) (row_of a)) ≡ false → test (statement_of task.statement) ≡ false
  first_free test task rest [] is free each own =
      ap (λ (x : Task). test (statement_of x.statement)) (first_of task loop rest more is) ∙ ap test is_loop.tree ∙ own
  first_free test task rest (first ∷ inside) is free each own =
      ap (λ (x : Task). test (statement_of x.statement)) (first_of task first rest (inside ++ loop ∷ more) is) ∙ each (statement_of first.statement) free.0

-- ---- values that no statement in the loop changes

module _ (me nodes : ℕ) (one other : List ℕ) where
  pub value_same : (e : Expression) → ((k : ℕ) → Contains (nodes_in (expression_of e)) (private k) → slice_index one k ≡ slice_index other k)
      → value_of me nodes one e ≡ value_of me nodes other e
  value_same (Number n) same = refl
  value_same (Private k) same = ap Some (same k (0, omega arith, refl))
  value_same Me same = refl
  value_same Nodes same = refl
  value_same (Binary' p left o q right) same =
      ap₂ (combined o)
      (value_same left (λ k has. same k (Contains-append_left (nodes_in (expression_of left)) _ (private k) has)))
      (value_same right (λ k has. same k (Contains-append_right (nodes_in (expression_of left)) _ (private k)
      (Contains-append_right (expression_of (Binary' p left o q right) ∷ []) (nodes_in (expression_of right)) (private k) has))))

pub none_passes : {A : Type 0} (test : A → Bool) (xs : List A) (x : A) → list_any test xs ≡ false → Contains xs x → test x ≡ false
none_passes test xs x none (k, lt, is) = by (test x) refl
  where
    by : (b : Bool) → test x ≡ b → test x ≡ false
    by true here = let some = list_any_at test xs k x lt (ap test is ∙ here) in cc
    by false here = here

-- ---- steps of threads

set_other : (t u : Thread) (k x j : ℕ) → u.privates ≡ slice_set t.privates k x → (k == j) ≡ false → slice_index u.privates j ≡ slice_index t.privates j
set_other t u k x j set other =
    ap (λ l. slice_index l j) set ∙ get_or-set_other t.privates k j x 0 (λ same. eqb-false k j other (sym same))

-- a statement that does not set a name keeps its value
names_kept : (t u : Thread) (task : Task) (rest todo : List Task) (j : ℕ) → sets j (statement_of task.statement) ≡ false → Moves t task rest u todo
    → slice_index u.privates j ≡ slice_index t.privates j
names_kept t u task rest todo j free (assigns k x is value privates keeps gone) =
    set_other t u k x j privates (sym (ap (λ s. sets j (statement_of s)) is) ∙ free)
names_kept t u task rest todo j free (reads k x is value privates keeps gone) =
    set_other t u k x j privates (sym (ap (λ s. sets j (statement_of s)) is) ∙ free)
names_kept t u task rest todo j free (acquires l is value held privates setting gone) = ap (λ l. slice_index l j) privates
names_kept t u task rest todo j free (releases l is value held privates setting gone) = ap (λ l. slice_index l j) privates
names_kept t u task rest todo j free (passes plain same gone) = ap (λ l. slice_index l j) same.privates
names_kept t u task rest todo j free (branches is same gone) = ap (λ l. slice_index l j) same.privates
names_kept t u task rest todo j free (loops is same gone) = ap (λ l. slice_index l j) same.privates

setting_kept : (t u : Thread) (task : Task) (rest todo : List Task) → Moves t task rest u todo → u.setting ≡ t.setting
setting_kept t u task rest todo (assigns k x is value privates keeps gone) = keeps.setting
setting_kept t u task rest todo (reads k x is value privates keeps gone) = keeps.setting
setting_kept t u task rest todo (acquires l is value held privates setting gone) = setting
setting_kept t u task rest todo (releases l is value held privates setting gone) = setting
setting_kept t u task rest todo (passes plain same gone) = same.setting
setting_kept t u task rest todo (branches is same gone) = same.setting
setting_kept t u task rest todo (loops is same gone) = same.setting

-- ---- a loop in which nothing changes its condition

module _ (s : Statement) (e : Expression) {m : _} (a : Row_of-Statement m) (is_loop : IsLoop s e a) (lines : List ℕ) (more : List Task)
    (steady : has_set (statements_in (row_of a)) (expression_of e) ≡ false) where
  abbrev Names : ℕ → Type 0
  Names k = list_any (sets k) (statements_in (row_of a)) ≡ false

  body_free : (k : ℕ) → Names k → list_any (sets k) (statements_in (row_of a)) ≡ false
  body_free k names = names

  -- the names of the condition are not set in the loop
  names_steady : (k : ℕ) → Contains (nodes_in (expression_of e)) (private k) → Names k
  names_steady k has = none_passes (is_set_in (statements_in (row_of a))) (nodes_in (expression_of e)) (private k) steady has

  record Turning (start : Thread) (walk : Walk) : Type 0 where
    rounds : Rounds sets Names s e a is_loop lines more body_free walk.todo
    kept : (k : ℕ) → Names k → slice_index walk.thread.privates k ≡ slice_index start.privates k
    setting : walk.thread.setting ≡ start.setting

  value_kept : (start : Thread) (walk : Walk) → Turning start walk → value_in walk.thread e ≡ value_in start e
  value_kept start walk turning =
      ap (λ c. value_of c.me c.nodes walk.thread.privates e) turning.setting
      ∙ value_same start.setting.me start.setting.nodes walk.thread.privates start.privates e (λ k has. turning.kept k (names_steady k has))

  turning_step : (start : Thread) → value_is_met (value_in start e) ≡ true → (walk after : Walk) → Turning start walk → Moved walk after → Turning start after
  turning_step start met walk after turning moved =
      let r = turning.rounds in
      let is = sym moved.todo ∙ r.is in
      record {
        rounds =
            stay (after_step sets Names s e a is_loop lines more body_free walk.thread after.thread moved.task moved.more r.inside after.todo is r.free moved.moves);
        kept = λ k names.
            names_kept walk.thread after.thread moved.task moved.more after.todo k
            (first_free sets Names s e a is_loop lines more body_free (sets k) moved.task moved.more r.inside is r.free (λ x free. (or_none _ _ (free k names)).0) refl)
            moved.moves ∙ turning.kept k names;
        setting = setting_kept walk.thread after.thread moved.task moved.more after.todo moved.moves ∙ turning.setting;
      }
    where
      stay : Rounds sets Names s e a is_loop lines more body_free after.todo ⊎ Left sets Names s e a is_loop lines more body_free walk.thread moved.task after.todo
          → Rounds sets Names s e a is_loop lines more body_free after.todo
      stay (inl rounds) = rounds
      stay (inr left) = let no = sym met ∙ ap value_is_met (sym (value_kept start walk turning)) ∙ left.0 in cc

  -- once its condition holds, it holds for ever, and the node does not leave the loop
  loop_turns : (program : Program) (tokens : List Token) (nodes node : ℕ) (acts later : List Act)
      → (walk_to program tokens nodes acts node).todo ≡ record { statement = s; lines = lines } ∷ more
      → value_is_met (value_in (thread_to program tokens nodes acts node) e) ≡ true
      → IsInLoop (walk_to program tokens nodes (acts ++ later) node) (record { statement = s; lines = lines }) more
      × (condition_value (thread_to program tokens nodes (acts ++ later) node) s ≡ condition_value (thread_to program tokens nodes acts node) s)
  loop_turns program tokens nodes node acts later todo met =
      let start = thread_to program tokens nodes acts node in
      let turning = along_from program nodes (places_in Statements tokens) node (Turning start)
      (λ walk after agrees stand now moved. turning_step start met walk after now moved) acts later
      (record {
        rounds = record { inside = []; is = todo; free = tt };
        kept = λ k names. refl;
        setting = refl;
      }) in (
        record { inside = turning.rounds.inside; todo = turning.rounds.is },
        is_loop.value (thread_to program tokens nodes (acts ++ later) node)
            ∙ value_kept start (walk_to program tokens nodes (acts ++ later) node) turning ∙ sym (is_loop.value start),
      )

pub both_true : (a b : Bool) → (a && b) ≡ true → (a ≡ true) × (b ≡ true)
both_true true b is = (refl, is)
both_true false b is = cc

pub kind_true : (b : Bool) (kind other : Kind) → kind_if b kind ≡ Some other → b ≡ true
kind_true true kind other is = refl
kind_true false kind other is = cc

pub not_true : (b : Bool) → not b ≡ true → b ≡ false
not_true true is = cc
not_true false is = refl

pub nothing_changes : (program : Program) (tokens : List Token) (at : ℕ)
    → Contains (unchanged_conditions (statements_of_text program tokens)) (record { at = at; kind = kinds.UnchangedCondition })
    → (nodes : ℕ) (acts : List Act) (node : ℕ) (here : IsAt (walk_to program tokens nodes acts node) at)
    → condition_holds (thread_to program tokens nodes acts node) ≡ true → (later : List Act)
    → IsInLoop (walk_to program tokens nodes (acts ++ later) node) here.task here.more
    × (condition_value (thread_to program tokens nodes (acts ++ later) node) here.task.statement
    ≡ condition_value (thread_to program tokens nodes acts node) here.task.statement)
nothing_changes program tokens at has nodes acts node here holds later =
    let f : Found = record { at = at; kind = kinds.UnchangedCondition } in
    let one = in_flat (λ s. found_at s.at (unchanged_kind s.statement)) (statements_of_text program tokens) f has in
    let (place, kind) = in_found_at one.x.at (unchanged_kind one.x.statement) f one.has in
    let t = thread_to program tokens nodes acts node in
    let rest_is : here.task.statement ∷ statements here.more ≡ t.rest =
    sym (ap statements here.todo) ∙ (agrees_behind program nodes (places_in Statements tokens) acts node).0 in
    let there : IsAt (walk_to program tokens nodes acts node) one.x.at =
    record { task = here.task; more = here.more; todo = here.todo; place = here.place ∙ ap Some (sym place) } in
    by here.task.statement here.task.lines here.todo
    (ap unchanged_kind (comes_to program tokens nodes acts node one.x one.k one.at there) ∙ kind)
    (ap (first_is_met t) rest_is ∙ holds)
  where
    by : (s : Statement) (lines : List ℕ) → (walk_to program tokens nodes acts node).todo ≡ record { statement = s; lines = lines } ∷ here.more
        → unchanged_kind (statement_of s) ≡ Some kinds.UnchangedCondition
        → first_is_met (thread_to program tokens nodes acts node) (s ∷ statements here.more) ≡ true
        → IsInLoop (walk_to program tokens nodes (acts ++ later) node) (record { statement = s; lines = lines }) here.more
        × (condition_value (thread_to program tokens nodes (acts ++ later) node) s ≡ condition_value (thread_to program tokens nodes acts node) s)
    by (While' e p a) lines todo kind met =
        loop_turns (While' e p a) e a (record { tree = refl; on = λ lines more. refl; off = λ lines more. refl; value = λ t. refl }) lines here.more
        (not_true _ (both_true _ _ (kind_true _ _ _ kind)).1) program tokens nodes node acts later todo met
    by (Assign k e) lines todo kind met = cc
    by (Read k e) lines todo kind met = cc
    by (Write e v) lines todo kind met = cc
    by (Acquire e) lines todo kind met = cc
    by (Release e) lines todo kind met = cc
    by Barrier lines todo kind met = cc
    by (Print e) lines todo kind met = cc
    by (If' e p a q b) lines todo kind met = cc
