-- The lines of acts follow from the numbers of their statements: a walk with other lines goes the same way.
use Rattle.std.proofs.Common.{◌≡◌, ◌∙◌, ◌+◌, ℕ, suc, Bool, true, false, List, [], ◌∷◌, ◌++◌, arith, drop}
use Rattle.std.proofs.Common.{fold, length, map, refl, sym, ap, ap₂}
use Rattle.std.specs.Prelude.{if◌then◌else◌, nat_lt, ◌==◌, slice_index_or}
use Rattle.std.specs.List.{range_with_len}
use Rattle.std.proofs.lemmas.List.{drop-map, ext_get_or, length-append, map-append, map-id}
use Rattle.std.proofs.lemmas.List.FromFn.{length-map-range_with_len, length-range_with_len, get_or-map-range_with_len, map-range_with_len_more}
use Rattle.lrc_program.specs.declared.Program.{Program}
use Rattle.lrc_program.specs.declared.Statement.{Statement, Row_of-Statement, end_of-Statement, more_of-Statement}
use Rattle.lrc_program.specs.declared.Statement.TheVariants.{Assign, Read, Write, Acquire, Release, Barrier, Print, If', While'}
use Rattle.lrc_lang.specs.Lines.{HasLines}
use Rattle.lrc_program.specs.Statements.{statement_of, row_of, block_of}
use Rattle.lrc_lang.specs.Token.{Token, Placed}
use Rattle.lrc_program.specs.Tree.{program_of}
use Rattle.lrc_trace.specs.declared.act.Act.{Act}
use Rattle.lrc_trace.specs.declared.act.Deed.{Deed}
use Rattle.lrc_trace.specs.declared.act.Deed.TheVariants as deeds
use Rattle.lrc_exec.specs.Flat.{statements_in, statements_in_statement}
use Rattle.lrc_exec.specs.Meaning.{block, next_of}
use Rattle.lrc_exec.specs.Ask.{ask_of, answered}
use Rattle.lrc_exec.specs.Condition.{condition_holds}
use Rattle.lrc_lines.specs.Begins.{BeginInTurn}
use Rattle.lrc_lines.specs.Begins as turn
use Rattle.lrc_lines.specs.Places.{in_order, within, within_block}
use Rattle.lrc_lines.specs.Statements.{numbers_of, act_statements}
use Rattle.lrc_lines.specs.Tasks.{Task, behind, behind_block, beyond, next_line, passed, tasks}
use Rattle.lrc_lines.specs.Walks.{Walk, act_lines, end_line, goes_on, led, led_by, line_at, line_behind, lines_behind, onward, walk_at_start, walk_behind}
use Rattle.lrc_lines.proofs.Begins.{begin_on_lines}

-- ---- other lines

module _ (f : ℕ → ℕ) where
  mutual
    behind_with : (s : Statement) (lines : List ℕ) → behind s (map f lines) ≡ map f (behind s lines)
    behind_with (If' e p a q b) lines =
        ap (λ l. behind_block b (behind_block a l)) (drop-map f 1 lines) ∙ ap (behind_block b) (block_with a (drop 1 lines))
        ∙ block_with b (behind_block a (drop 1 lines))
    behind_with (While' e p a) lines = ap (behind_block a) (drop-map f 1 lines) ∙ block_with a (drop 1 lines)
    behind_with (Assign name e) lines = drop-map f 1 lines
    behind_with (Read name e) lines = drop-map f 1 lines
    behind_with (Write e v) lines = drop-map f 1 lines
    behind_with (Acquire e) lines = drop-map f 1 lines
    behind_with (Release e) lines = drop-map f 1 lines
    behind_with Barrier lines = drop-map f 1 lines
    behind_with (Print e) lines = drop-map f 1 lines

    block_with : {m : _} (row : Row_of-Statement m) (lines : List ℕ) → behind_block row (map f lines) ≡ map f (behind_block row lines)
    block_with end_of-Statement lines = refl
    block_with (more_of-Statement first more) lines = ap (behind_block more) (behind_with first lines) ∙ block_with more (behind first lines)

  -- the same tasks, with these lines in place of their own
  abbrev task_with : Task → Task
  task_with task = record { statement = task.statement; lines = map f task.lines }

  tasks_with : (ss : List Statement) (lines : List ℕ) → tasks ss (map f lines) ≡ map task_with (tasks ss lines)
  tasks_with [] lines = refl
  tasks_with (s ∷ ss) lines =
      ap (λ l. record { statement = s; lines = map f lines } ∷ l) (ap (tasks ss) (behind_with s lines) ∙ tasks_with ss (behind s lines))

  -- tasks in front of others
  front_with : (ss : List Statement) (lines there : List ℕ) (rest : List Task) → there ≡ map f lines
      → tasks ss there ++ map task_with rest ≡ map task_with (tasks ss lines ++ rest)
  front_with ss lines there rest is =
      ap (λ l. l ++ map task_with rest) (ap (tasks ss) is ∙ tasks_with ss lines) ∙ sym (map-append task_with (tasks ss lines) rest)

  beyond_with : (holds : Bool) (s : Statement) (lines : List ℕ) (rest : List Task)
      → beyond holds s (map f lines) (map task_with rest) ≡ map task_with (beyond holds s lines rest)
  beyond_with true (If' e p a q b) lines rest = front_with (block a) (drop 1 lines) _ rest (drop-map f 1 lines)
  beyond_with false (If' e p a q b) lines rest =
      front_with (block b) (behind_block a (drop 1 lines)) _ rest
      (ap (behind_block a) (drop-map f 1 lines) ∙ block_with a (drop 1 lines))
  beyond_with true (While' e p a) lines rest =
      front_with (block a) (drop 1 lines) _ (record { statement = While' e p a; lines = lines } ∷ rest) (drop-map f 1 lines)
  beyond_with false (While' e p a) lines rest = refl
  beyond_with holds (Assign name e) lines rest = refl
  beyond_with holds (Read name e) lines rest = refl
  beyond_with holds (Write e v) lines rest = refl
  beyond_with holds (Acquire e) lines rest = refl
  beyond_with holds (Release e) lines rest = refl
  beyond_with holds Barrier lines rest = refl
  beyond_with holds (Print e) lines rest = refl

  passed_with : (holds : Bool) (todo : List Task) → passed holds (map task_with todo) ≡ map task_with (passed holds todo)
  passed_with holds [] = refl
  passed_with holds (task ∷ rest) = beyond_with holds task.statement task.lines rest

  -- ---- walks

  abbrev walk_with : Walk → Walk
  walk_with walk = record { thread = walk.thread; todo = map task_with walk.todo }

  with_if : (b : Bool) (one other one' other' : Walk) → one' ≡ walk_with one → other' ≡ walk_with other
      → (if b then one' else other') ≡ walk_with (if b then one else other)
  with_if true one other one' other' first second = first
  with_if false one other one' other' first second = second

  onward_with : (value : ℕ) (walk : Walk) → onward value (walk_with walk) ≡ walk_with (onward value walk)
  onward_with value walk =
      with_if (goes_on (ask_of (next_of walk.thread)))
      (record { thread = answered value walk.thread; todo = passed (condition_holds walk.thread) walk.todo }) walk _ _
      (ap (λ todo. record { thread = answered value walk.thread; todo = todo }) (passed_with (condition_holds walk.thread) walk.todo)) refl

  led_with : (walk : Walk) (d : Deed) → led (walk_with walk) d ≡ walk_with (led walk d)
  led_with walk deeds.Arrive = refl
  led_with walk (deeds.Trap cause) = refl
  led_with walk deeds.End = refl
  led_with walk deeds.Quiet = onward_with 0 walk
  led_with walk (deeds.Print v) = onward_with 0 walk
  led_with walk (deeds.Read word v) = onward_with v walk
  led_with walk (deeds.Write word v) = onward_with 0 walk
  led_with walk (deeds.Acquire lock) = onward_with 0 walk
  led_with walk (deeds.Release lock) = onward_with 0 walk
  led_with walk deeds.Depart = onward_with 0 walk

  fold_with : (node : ℕ) (acts : List Act) (walk : Walk) → fold (led_by node) (walk_with walk) acts ≡ walk_with (fold (led_by node) walk acts)
  fold_with node [] walk = refl
  fold_with node (act ∷ acts) walk =
      ap (λ w. fold (led_by node) w acts) (with_if (act.node == node) (led walk act.deed) walk _ _ (led_with walk act.deed) refl)
      ∙ fold_with node acts (led_by node walk act)

  start_with : (program : Program) (nodes : ℕ) (lines : List ℕ) (node : ℕ)
      → walk_at_start program nodes (map f lines) node ≡ walk_with (walk_at_start program nodes lines node)
  start_with program nodes lines node =
      ap (λ todo. record { thread = (walk_at_start program nodes lines node).thread; todo = todo }) (tasks_with program.statements.items lines)

  walk_behind_with : (program : Program) (nodes : ℕ) (lines : List ℕ) (acts : List Act) (node : ℕ)
      → walk_behind program nodes (map f lines) acts node ≡ walk_with (walk_behind program nodes lines acts node)
  walk_behind_with program nodes lines acts node =
      ap (λ w. fold (led_by node) w acts) (start_with program nodes lines node) ∙ fold_with node acts (walk_at_start program nodes lines node)

  -- ---- lines

  first_with : (lines : List ℕ) (end : ℕ) → slice_index_or (map f lines) 0 (f end) ≡ f (slice_index_or lines 0 end)
  first_with [] end = refl
  first_with (line ∷ lines) end = refl

  next_with : (end : ℕ) (todo : List Task) → next_line (f end) (map task_with todo) ≡ f (next_line end todo)
  next_with end [] = refl
  next_with end (task ∷ rest) = first_with task.lines end

  last_with : (lines : List ℕ) (other : ℕ) → fold (λ _ line. line) (f other) (map f lines) ≡ f (fold (λ _ line. line) other lines)
  last_with [] other = refl
  last_with (line ∷ lines) other = last_with lines line

  -- where there is a line
  module _ (program : Program) (nodes first : ℕ) (more : List ℕ) where
    abbrev these : List ℕ
    these = first ∷ more

    end_with : end_line (map f these) ≡ f (end_line these)
    end_with = last_with more first

    which_with : (b : Bool) (one other : ℕ) → (if b then f one else f other) ≡ f (if b then one else other)
    which_with true one other = refl
    which_with false one other = refl

    line_behind_with : (acts : List Act) (node : ℕ) → line_behind program nodes (map f these) acts node ≡ f (line_behind program nodes these acts node)
    line_behind_with acts node =
        let walk = walk_behind program nodes these acts node in
        ap₂ (λ w end. if nat_lt node nodes then line_at end w else end) (walk_behind_with program nodes these acts node) end_with
        ∙ ap (λ line. if nat_lt node nodes then line else f (end_line these)) (next_with (end_line these) walk.todo)
        ∙ which_with (nat_lt node nodes) (line_at (end_line these) walk) (end_line these)

    lines_behind_with : (acts before : List Act) → lines_behind program nodes (map f these) before acts ≡ map f (lines_behind program nodes these before acts)
    lines_behind_with [] before = refl
    lines_behind_with (act ∷ acts) before =
        ap₂ ◌∷◌ (line_behind_with before act.node) (lines_behind_with acts (before ++ act ∷ []))

-- ---- numbers

-- one number more
pub one_more : (old new : List ℕ) (number : ℕ) → old ≡ range_with_len 0 number → new ≡ old ++ number ∷ [] → new ≡ range_with_len 0 (number + 1)
one_more old new number before is =
    is ∙ ap (λ l. l ++ number ∷ []) (before ∙ sym (map-id (range_with_len 0 number)))
    ∙ sym (map-range_with_len_more (λ n. n) 0 number number (omega arith)) ∙ map-id (range_with_len 0 (number + 1))

-- lines are those at the numbers in a row
by_numbers : (lines : List ℕ) → map (λ number. slice_index_or lines number 0) (range_with_len 0 (length lines)) ≡ lines
by_numbers lines =
    let line : ℕ → ℕ = λ number. slice_index_or lines number 0 in
    ext_get_or 0 (map line (range_with_len 0 (length lines))) lines (length-map-range_with_len line 0 (length lines))
    (λ i inside. get_or-map-range_with_len line 0 (length lines) i i 0 (omega (arith, inside, length-map-range_with_len line 0 (length lines)))
    (omega arith))

pub lines_by_numbers : (program : Program) (nodes : ℕ) (lines : List ℕ) (acts : List Act) → length lines ≡ length (numbers_of program)
    → act_lines program nodes lines acts ≡ map (λ number. slice_index_or lines number 0) (act_statements program nodes acts)
lines_by_numbers program nodes lines acts long =
    let line : ℕ → ℕ = λ number. slice_index_or lines number 0 in
    let count = statements_in (block_of program.statements.items) in
    let is : map line (numbers_of program) ≡ lines =
    ap (λ n. map line (range_with_len 0 n)) (sym (long ∙ length-range_with_len 0 (count + 1))) ∙ by_numbers lines in
    let whole : numbers_of program ≡ 0 ∷ range_with_len 1 count = ap (range_with_len 0) (let e : count + 1 ≡ suc count = omega arith in e) in
    ap (λ l. act_lines program nodes l acts) (sym is ∙ ap (map line) whole)
    ∙ lines_behind_with line program nodes 0 (range_with_len 1 count) acts []
    ∙ ap (λ l. map line (act_lines program nodes l acts)) (sym whole)

-- ---- a line for each statement

mutual
  within_counted : (s : Statement) → statements_in_statement (statement_of s) ≡ 1 + length (within s)
  within_counted (If' e p a q b) = omega (arith, row_counted a, row_counted b, length-append (within_block a) (within_block b))
  within_counted (While' e p a) = omega (arith, row_counted a)
  within_counted (Assign name e) = refl
  within_counted (Read name e) = refl
  within_counted (Write e v) = refl
  within_counted (Acquire e) = refl
  within_counted (Release e) = refl
  within_counted Barrier = refl
  within_counted (Print e) = refl

  row_counted : {m : _} (row : Row_of-Statement m) → statements_in (row_of row) ≡ length (within_block row)
  row_counted end_of-Statement = refl
  row_counted (more_of-Statement first more) =
      omega (arith, within_counted first, row_counted more, length-append (within first) (within_block more))

order_counted : (ss : List Statement) → statements_in (block_of ss) ≡ length (in_order ss)
order_counted [] = refl
order_counted (s ∷ ss) = omega (arith, within_counted s, order_counted ss, length-append (within s) (in_order ss))

turn_counted : {lexemes : List Placed} {tokens : List Token} {from : ℕ} {ss : List Statement} {lines : List ℕ}
    → BeginInTurn lexemes tokens from ss lines → length lines ≡ length ss + 1
turn_counted (turn.next past begins more) = omega (arith, turn_counted more)
turn_counted (turn.end past ends on) = refl

pub lines_counted : (text : List ℕ) (program : Program) (lines : List ℕ) → HasLines text (program_of program) lines
    → length lines ≡ length (numbers_of program)
lines_counted text program lines has =
    let begin = begin_on_lines text program lines has in
    let count = statements_in (block_of program.statements.items) in
    omega (arith, turn_counted begin.in_turn, order_counted program.statements.items, length-range_with_len 0 (count + 1))
