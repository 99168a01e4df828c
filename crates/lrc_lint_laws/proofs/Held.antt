-- A lock is held, or is not, wherever a node comes to what stands under an acquire, or a release, of it.
use Rattle.std.proofs.Common.{◌≡◌, inl, inr, ◌∙◌, ◌<◌, ◌+◌, ℕ, zero, suc, Bool, true, false, Some, List, [], ◌∷◌, ◌++◌, append-nil, append_assoc}
use Rattle.std.proofs.Common.{drop, length, replicate, refl, sym, ap, ap₂, subst, arith}
use Rattle.std.specs.Prelude.{◌||◌, if◌then◌else◌, not, slice_index_or, slice_set}
use Rattle.std.specs.List.{list_any}
use Rattle.std.proofs.lemmas.Bool.{cases_eq}
use Rattle.std.proofs.lemmas.List.{drop-drop, get_or-set_other, get_or-set_same, length-append, length-set}
use Rattle.std.proofs.lemmas.List.Folds.{list_any-append}
use Rattle.std.proofs.lemmas.Option.{same_Some}
use Rattle.lrc_program.specs.declared.Expression.{Expression}
use Rattle.lrc_program.specs.declared.Program.{Program}
use Rattle.lrc_program.specs.declared.Statement.{Statement, Row_of-Statement, end_of-Statement, more_of-Statement}
use Rattle.lrc_program.specs.declared.Statement.TheVariants.{Assign, Read, Write, Acquire, Release, Barrier, Print, If', While'}
use Rattle.lrc_program.specs.Statements.{Statement as Tree, if_else, while_do, statement_of, expression_of, row_of, block_of}
use Rattle.lrc_exec.specs.Meaning.{Thread, block, holds, value_in}
use Rattle.lrc_exec.specs.Condition.{value_is_met}
use Rattle.lrc_lines.specs.Tasks.{Task, behind, behind_block, beyond, tasks}
use Rattle.lrc_lines.specs.Walks.{Walk, walk_at_start, walk_behind}
use Rattle.lrc_trace.specs.declared.act.Act.{Act}
use Rattle.lrc_lint_warned.specs.declared.held.Side.{Side}
use Rattle.lrc_lint_warned.specs.declared.held.Side.TheVariants.{Acquired, Released}
use Rattle.lrc_lint_warned.specs.Constant.{constant_of, is_constant}
use Rattle.lrc_lint_warned.specs.Held.{Path, at_start, beside, enters, passes as passed_by, is_under, paths, paths_within, takes, undoes}
use Rattle.lrc_lint_warned.specs.Inside.{statements_in, within}
use Rattle.lrc_lint_warned.specs.Words.{may_be}
use Rattle.lrc_lint_laws.proofs.Absent.{not_other}
use Rattle.lrc_lint_laws.proofs.Moves.{IsPlain, Moved, Moves, a_barrier, a_print, a_write, along, assigns, reads, acquires, releases, passes}
use Rattle.lrc_lint_laws.proofs.Moves.{branches, loops}
use Rattle.lrc_lint_laws.proofs.Reached.{row_is}
use Rattle.lrc_lint_laws.proofs.Values.{constant_is, constant_value}

-- ---- Booleans

or_none : (a b : Bool) → (a || b) ≡ false → (a ≡ false) × (b ≡ false)
or_none true b is = cc
or_none false b is = (refl, is)

kept_if : (b v : Bool) → (if b then false else v) ≡ true → (b ≡ false) × (v ≡ true)
kept_if true v is = cc
kept_if false v is = (refl, is)

-- ---- as many paths as statements, and what lines are left behind them

over : (a b c : ℕ) (lines : List ℕ) → a + b ≡ c → drop b (drop a lines) ≡ drop c lines
over a b c lines is = drop-drop b a lines ∙ ap (λ n. drop n lines) is

mutual
  pub behind_paths : (s : Statement) (path : Path) (lines : List ℕ) → behind s lines ≡ drop (length (paths_within path (statement_of s))) (drop 1 lines)
  behind_paths (If' e p a q b) path lines =
      let first = paths path (row_of a) in
      let second = paths (beside (row_of a) ∷ path) (row_of b) in
      block_paths b (beside (row_of a) ∷ path) (behind_block a (drop 1 lines)) ∙ ap (drop (length second)) (block_paths a path (drop 1 lines))
      ∙ over (length first) (length second) (length (first ++ second)) (drop 1 lines) (sym (length-append first second))
  behind_paths (While' e p a) path lines = block_paths a (enters (row_of a) ∷ path) (drop 1 lines)
  behind_paths (Assign name e) path lines = refl
  behind_paths (Read name e) path lines = refl
  behind_paths (Write e v) path lines = refl
  behind_paths (Acquire e) path lines = refl
  behind_paths (Release e) path lines = refl
  behind_paths Barrier path lines = refl
  behind_paths (Print e) path lines = refl

  pub block_paths : {m : _} (row : Row_of-Statement m) (path : Path) (lines : List ℕ) → behind_block row lines ≡ drop (length (paths path (row_of row))) lines
  block_paths end_of-Statement path lines = refl
  block_paths (more_of-Statement first more) path lines =
      let own = paths_within path (statement_of first) in
      let others = paths (passed_by (statement_of first) ∷ path) (row_of more) in
      block_paths more (passed_by (statement_of first) ∷ path) (behind first lines)
      ∙ ap (drop (length others)) (behind_paths first path lines ∙ over 1 (length own) (1 + length own) lines refl)
      ∙ over (1 + length own) (length others) (length (path ∷ (own ++ others))) lines (omega (arith, length-append own others))

-- ---- what is known of a lock

module _ (side : Side) (lock : ℕ) where
  -- what is known behind a statement, by what is known in front of it
  abbrev pub later : Tree → Bool → Bool
  later s known = if takes side lock s then true else (if list_any (undoes side lock) (s ∷ within s) then false else known)

  abbrev Undone : List Tree → Bool
  Undone all = list_any (undoes side lock) all

  -- where nothing undoes it, what is known stays known
  stays : (s : Tree) (known : Bool) → Undone (s ∷ within s) ≡ false → known ≡ true → later s known ≡ true
  stays s known none is = by (takes side lock s) (Undone (s ∷ within s)) none
    where
      by : (a b : Bool) → b ≡ false → (if a then true else (if b then false else known)) ≡ true
      by true b same = refl
      by false b same = ap (λ c. if c then false else known) same ∙ is

  -- what is known behind what takes nothing was known before, and nothing undid it
  was_known : (s : Tree) (known : Bool) → takes side lock s ≡ false → later s known ≡ true → (Undone (s ∷ within s) ≡ false) × (known ≡ true)
  was_known s known none is = kept_if (Undone (s ∷ within s)) known (sym (ap (λ c. if c then true else (if Undone (s ∷ within s) then false else known)) none) ∙ is)

  -- behind all of these
  abbrev pub behind_these : List Statement → Bool → Bool
  behind_these [] known = known
  behind_these (s ∷ more) known = behind_these more (later (statement_of s) known)

  all_stay : (all : List Statement) (known : Bool) → Undone (statements_in (block_of all)) ≡ false → known ≡ true → behind_these all known ≡ true
  all_stay [] known none is = is
  all_stay (s ∷ more) known none is =
      let parts = or_none (undoes side lock (statement_of s)) _ none in
      let split =
      or_none (Undone (within (statement_of s))) (Undone (statements_in (block_of more)))
      (sym (list_any-append (undoes side lock) (within (statement_of s)) (statements_in (block_of more))) ∙ parts.1) in
      all_stay more (later (statement_of s) known) split.1
      (stays (statement_of s) known (ap₂ ◌||◌ parts.0 split.0) is)

  -- What is known at a statement: of a loop, what is known there each time that a node comes to its condition.
  abbrev pub known_at : Path → Tree → Bool
  known_at path (while_do condition inside) = is_under side lock (enters inside ∷ path)
  known_at path _ = is_under side lock path

  loop_known : (path : Path) (inside : _) → is_under side lock (enters inside ∷ path) ≡ true → (Undone (statements_in inside) ≡ false) × (is_under side lock path ≡ true)
  loop_known path inside is = kept_if (Undone (statements_in inside)) (is_under side lock path) is

  no_more : (path : Path) (s : Tree) → known_at path s ≡ true → is_under side lock path ≡ true
  no_more path (while_do condition inside) is = (loop_known path inside is).1
  no_more path _ is = is

  takes_none_while : (condition : _) (inside : _) → takes side lock (while_do condition inside) ≡ false
  takes_none_while = by side
    where
      by : (side : Side) (condition : _) (inside : _) → takes side lock (while_do condition inside) ≡ false
      by Acquired condition inside = refl
      by Released condition inside = refl

  -- behind a statement the one is known as the other
  same_later : (path : Path) (s : Tree) → later s (is_under side lock path) ≡ true → later s (known_at path s) ≡ true
  same_later path (while_do condition inside) is =
      let h = was_known (while_do condition inside) (is_under side lock path) (takes_none_while condition inside) is in
      let none = or_none (undoes side lock (while_do condition inside)) (Undone (statements_in inside)) h.0 in
      stays (while_do condition inside) (is_under side lock (enters inside ∷ path)) h.0
      (ap (λ c. if c then false else is_under side lock path) none.1 ∙ h.1)
  same_later path _ is = is

  -- ---- what is still to do, each with what is known there

  module _ (all : List Path) (lines : List ℕ) where
    -- a statement, the steps to it and what is known at it
    pub record Stands (task : Task) (known : Bool) : Type 0 where
      pub before : List Path
      pub after : List Path
      pub path : Path
      pub place : all ≡ before ++ (path ∷ (paths_within path (statement_of task.statement) ++ after))
      pub from : task.lines ≡ drop (length before) lines
      pub is_known : known ≡ known_at path (statement_of task.statement)

    -- These are still to do where this is known. What is known at each is known there.
    pub data Chained : Bool → List Task → Type 0 where
      end : {now : Bool} → Chained now []
      first : {now known : Bool} {task : Task} {more : List Task} → Stands task known → (known ≡ true → now ≡ true)
          → Chained (later (statement_of task.statement) known) more → Chained now (task ∷ more)

    more_known : (now wanted : Bool) (todo : List Task) → (now ≡ true → wanted ≡ true) → Chained now todo → Chained wanted todo
    more_known now wanted todo weaker end = end
    more_known now wanted todo weaker (first stands sound rest) = first stands (λ h. weaker (sound h)) rest

    -- these statements stand in the text from a place on
    record From (before after : List Path) (path : Path) (these : List Statement) (left : List ℕ) : Type 0 where
      place : all ≡ before ++ (paths path (block_of these) ++ after)
      from : left ≡ drop (length before) lines

    chained_block : (these : List Statement) (before after : List Path) (path : Path) (left : List ℕ) (rest : List Task) → From before after path these left
        → Chained (behind_these these (is_under side lock path)) rest → Chained (is_under side lock path) (tasks these left ++ rest)
    chained_block [] before after path left rest from chained = chained
    chained_block (s ∷ these) before after path left rest from chained =
        let own = paths_within path (statement_of s) in
        let next : Path = passed_by (statement_of s) ∷ path in
        let here = before ++ (path ∷ own) in
        let place : all ≡ before ++ (path ∷ (own ++ (paths next (block_of these) ++ after))) =
        from.place ∙ ap (λ l. before ++ (path ∷ l)) (append_assoc own (paths next (block_of these)) after) in
        let further : all ≡ here ++ (paths next (block_of these) ++ after) = place ∙ sym (append_assoc before (path ∷ own) (paths next (block_of these) ++ after)) in
        let left_is : behind s left ≡ drop (length here) lines =
        behind_paths s path left ∙ ap (λ l. drop (length own) (drop 1 l)) from.from
        ∙ ap (drop (length own)) (over (length before) 1 (length before + 1) lines refl)
        ∙ over (length before + 1) (length own) (length here) lines (omega (arith, length-append before (path ∷ own))) in
        first
        (record { before = before; after = paths next (block_of these) ++ after; path = path; place = place; from = from.from; is_known = refl })
        (no_more path (statement_of s))
        (more_known (is_under side lock next) (later (statement_of s) (known_at path (statement_of s))) (tasks these (behind s left) ++ rest)
        (same_later path (statement_of s))
        (chained_block these here after next (behind s left) rest (record { place = further; from = left_is }) chained))

    -- the first block of a statement that stands in the text, the second one, and the block of a loop
    from_first : {m : _} (row : Row_of-Statement m) (inner : Path) (more : List Path) (task : Task) (known : Bool) (stands : Stands task known)
        → paths_within stands.path (statement_of task.statement) ≡ paths inner (row_of row) ++ more
        → From (stands.before ++ stands.path ∷ []) (more ++ stands.after) inner (block row) (drop 1 task.lines)
    from_first row inner more task known stands parts =
        let own = paths inner (row_of row) in
        record {
          place =
              stands.place
              ∙ ap (λ l. stands.before ++ (stands.path ∷ l))
              (ap (λ l. l ++ stands.after) (parts ∙ ap (λ b. paths inner b ++ more) (sym (row_is row)))
              ∙ append_assoc (paths inner (block_of (block row))) more stands.after)
              ∙ sym (append_assoc stands.before (stands.path ∷ []) (paths inner (block_of (block row)) ++ (more ++ stands.after)));
          from =
              ap (drop 1) stands.from
              ∙ over (length stands.before) 1 (length (stands.before ++ stands.path ∷ [])) lines (sym (length-append stands.before (stands.path ∷ [])));
        }

    from_second : {m k : _} (one : Row_of-Statement m) (row : Row_of-Statement k) (outer inner : Path) (task : Task) (known : Bool) (stands : Stands task known)
        → paths_within stands.path (statement_of task.statement) ≡ paths outer (row_of one) ++ paths inner (row_of row)
        → From (stands.before ++ stands.path ∷ paths outer (row_of one)) stands.after inner (block row) (behind_block one (drop 1 task.lines))
    from_second one row outer inner task known stands parts =
        let front = paths outer (row_of one) in
        record {
          place =
              stands.place
              ∙ ap (λ l. stands.before ++ (stands.path ∷ l))
              (ap (λ l. l ++ stands.after) (parts ∙ ap (λ b. front ++ paths inner b) (sym (row_is row)))
              ∙ append_assoc front (paths inner (block_of (block row))) stands.after)
              ∙ sym (append_assoc stands.before (stands.path ∷ front) (paths inner (block_of (block row)) ++ stands.after));
          from =
              block_paths one outer (drop 1 task.lines) ∙ ap (λ l. drop (length front) (drop 1 l)) stands.from
              ∙ ap (drop (length front)) (over (length stands.before) 1 (length stands.before + 1) lines refl)
              ∙ over (length stands.before + 1) (length front) (length (stands.before ++ stands.path ∷ front)) lines
              (omega (arith, length-append stands.before (stands.path ∷ front)));
        }

    -- ---- where a condition leads

    if_quiet : (e : _) (a b : _) → (takes side lock (if_else e a b) ≡ false) × (undoes side lock (if_else e a b) ≡ false)
    if_quiet = by side
      where
        by : (side : Side) (e : _) (a b : _) → (takes side lock (if_else e a b) ≡ false) × (undoes side lock (if_else e a b) ≡ false)
        by Acquired e a b = (refl, refl)
        by Released e a b = (refl, refl)

    chained_if : (holds : Bool) (e : Expression) (p q a b : _) (left : List ℕ) (more : List Task)
        (known now : Bool) → Stands (record { statement = If' e p a q b; lines = left }) known → (known ≡ true → now ≡ true)
        → Chained (later (statement_of (If' e p a q b)) known) more → Chained now (beyond holds (If' e p a q b) left more)
    chained_if true e p q a b left more known now stands sound rest =
        let path = stands.path in
        let s = statement_of (If' e p a q b) in
        let kept : later s known ≡ true → behind_these (block a) (is_under side lock path) ≡ true = λ h.
        let was = was_known s known (if_quiet (expression_of e) (row_of a) (row_of b)).0 h in
        let none = or_none (undoes side lock s) (Undone (statements_in (row_of a) ++ statements_in (row_of b))) was.0 in
        let parts = or_none (Undone (statements_in (row_of a))) (Undone (statements_in (row_of b)))
        (sym (list_any-append (undoes side lock) (statements_in (row_of a)) (statements_in (row_of b))) ∙ none.1) in
        all_stay (block a) (is_under side lock path) (ap (λ l. Undone (statements_in l)) (row_is a) ∙ parts.0) (sym stands.is_known ∙ was.1) in
        more_known (is_under side lock path) now (tasks (block a) (drop 1 left) ++ more) (λ h. sound (stands.is_known ∙ h))
        (chained_block (block a) _ _ path (drop 1 left) more
        (from_first a path (paths (beside (row_of a) ∷ path) (row_of b)) (record { statement = If' e p a q b; lines = left }) known stands refl)
        (more_known (later s known) (behind_these (block a) (is_under side lock path)) more kept rest))
    chained_if false e p q a b left more known now stands sound rest =
        let path = stands.path in
        let inner : Path = beside (row_of a) ∷ path in
        let s = statement_of (If' e p a q b) in
        let kept : later s known ≡ true → behind_these (block b) (is_under side lock inner) ≡ true = λ h.
        let was = was_known s known (if_quiet (expression_of e) (row_of a) (row_of b)).0 h in
        let none = or_none (undoes side lock s) (Undone (statements_in (row_of a) ++ statements_in (row_of b))) was.0 in
        let parts = or_none (Undone (statements_in (row_of a))) (Undone (statements_in (row_of b)))
        (sym (list_any-append (undoes side lock) (statements_in (row_of a)) (statements_in (row_of b))) ∙ none.1) in
        all_stay (block b) (is_under side lock inner) (ap (λ l. Undone (statements_in l)) (row_is b) ∙ parts.1)
        (ap (λ c. if c then false else is_under side lock path) parts.0 ∙ (sym stands.is_known ∙ was.1)) in
        more_known (is_under side lock inner) now (tasks (block b) (behind_block a (drop 1 left)) ++ more)
        (λ h. sound (stands.is_known ∙ (kept_if (Undone (statements_in (row_of a))) (is_under side lock path) h).1))
        (chained_block (block b) _ _ inner (behind_block a (drop 1 left)) more
        (from_second a b path inner (record { statement = If' e p a q b; lines = left }) known stands refl)
        (more_known (later s known) (behind_these (block b) (is_under side lock inner)) more kept rest))

    chained_while : (holds : Bool) (e : Expression) (p a : _) (left : List ℕ) (more : List Task)
        (known now : Bool) → Stands (record { statement = While' e p a; lines = left }) known → (known ≡ true → now ≡ true)
        → Chained (later (statement_of (While' e p a)) known) more → Chained now (beyond holds (While' e p a) left more)
    chained_while true e p a left more known now stands sound rest =
        let path = stands.path in
        let inner : Path = enters (row_of a) ∷ path in
        let task : Task = record { statement = While' e p a; lines = left } in
        let again : known ≡ true → behind_these (block a) (is_under side lock inner) ≡ true = λ h.
        let inside = sym stands.is_known ∙ h in
        all_stay (block a) (is_under side lock inner)
        (ap (λ l. Undone (statements_in l)) (row_is a) ∙ (loop_known path (row_of a) inside).0) inside in
        more_known (is_under side lock inner) now (tasks (block a) (drop 1 left) ++ task ∷ more) (λ h. sound (stands.is_known ∙ h))
        (chained_block (block a) _ _ inner (drop 1 left) (task ∷ more)
        (from_first a inner [] task known stands (sym (append-nil (paths inner (row_of a)))))
        (first stands again rest))
    chained_while false e p a left more known now stands sound rest =
        more_known (later (statement_of (While' e p a)) known) now more
        (λ h. sound (was_known (statement_of (While' e p a)) known (takes_none_while (expression_of e) (row_of a)) h).1) rest

-- ---- threads

abbrev pub fact : Side → ℕ → Thread → Bool
fact Acquired lock t = holds t lock
fact Released lock t = not (holds t lock)

module _ (lock : ℕ) (few : lock < 64) (t u : Thread) (many : length t.held ≡ 64) where
  set_here : (b : Bool) → u.held ≡ slice_set t.held lock b → holds u lock ≡ b
  set_here b set = ap (λ l. slice_index_or l lock false) set ∙ get_or-set_same t.held lock b false (omega (arith, few, many))

  set_there : (l : ℕ) (b : Bool) → u.held ≡ slice_set t.held l b → (l ≡ lock → ⊥) → holds u lock ≡ holds t lock
  set_there l b set other = ap (λ h. slice_index_or h lock false) set ∙ get_or-set_other t.held l lock b false (λ same. other (sym same))

  set_to : (l : ℕ) (b : Bool) → u.held ≡ slice_set t.held l b → holds t lock ≡ b → holds u lock ≡ b
  set_to l b set is = elim (cases_eq l lock) [
    | inl same ↦ set_here b (set ∙ ap (λ n. slice_set t.held n b) same)
    | inr other ↦ set_there l b set other ∙ is
  ]

  -- the lock that an acquire or a release is of
  of_constant : (e : Expression) (l c : ℕ) → value_in t e ≡ Some l → constant_of (expression_of e) ≡ Some c → l ≡ c
  of_constant e l c value is = same_Some l c (sym value ∙ constant_value t.setting.me t.setting.nodes t.privates e c is)

  unset : (e : Expression) (l : ℕ) (b : Bool) → value_in t e ≡ Some l → may_be (constant_of (expression_of e)) lock ≡ false
      → u.held ≡ slice_set t.held l b → holds u lock ≡ holds t lock
  unset e l b value free set =
      let (c, is, other) = not_other (constant_of (expression_of e)) lock free in
      set_there l b set (λ same. other (sym (of_constant e l c value is) ∙ same))

  not_of : (b : Bool) → not b ≡ true → b ≡ false
  not_of true is = cc
  not_of false is = refl

  by_acquire : (side : Side) (e : Expression) (l : ℕ) (known : Bool) → value_in t e ≡ Some l → u.held ≡ slice_set t.held l true
      → (known ≡ true → fact side lock t ≡ true) → later side lock (statement_of (Acquire e)) known ≡ true → fact side lock u ≡ true
  by_acquire Acquired e l known value set sound is = by (is_constant (expression_of e) lock) refl is
    where
      by : (b : Bool) → is_constant (expression_of e) lock ≡ b → (if b then true else known) ≡ true → holds u lock ≡ true
      by true same h =
          set_here true (set ∙ ap (λ n. slice_set t.held n true) (of_constant e l lock value (constant_is (expression_of e) lock same)))
      by false same h = set_to l true set (sound h)
  by_acquire Released e l known value set sound is =
      let h = was_known Released lock (statement_of (Acquire e)) known refl is in
      let free = or_none (may_be (constant_of (expression_of e)) lock) false h.0 in
      ap not (unset e l true value free.0 set) ∙ sound h.1

  by_release : (side : Side) (e : Expression) (l : ℕ) (known : Bool) → value_in t e ≡ Some l → u.held ≡ slice_set t.held l false
      → (known ≡ true → fact side lock t ≡ true) → later side lock (statement_of (Release e)) known ≡ true → fact side lock u ≡ true
  by_release Released e l known value set sound is = by (is_constant (expression_of e) lock) refl is
    where
      by : (b : Bool) → is_constant (expression_of e) lock ≡ b → (if b then true else known) ≡ true → not (holds u lock) ≡ true
      by true same h =
          ap not (set_here false (set ∙ ap (λ n. slice_set t.held n false) (of_constant e l lock value (constant_is (expression_of e) lock same))))
      by false same h = ap not (set_to l false set (not_of (holds t lock) (sound h)))
  by_release Acquired e l known value set sound is =
      let h = was_known Acquired lock (statement_of (Release e)) known refl is in
      let free = or_none (may_be (constant_of (expression_of e)) lock) false h.0 in
      unset e l false value free.0 set ∙ sound h.1

  fact_same : (side : Side) → u.held ≡ t.held → fact side lock u ≡ fact side lock t
  fact_same Acquired same = ap (λ l. slice_index_or l lock false) same
  fact_same Released same = ap (λ l. not (slice_index_or l lock false)) same

  by_none : (side : Side) (s : Tree) (known : Bool) → takes side lock s ≡ false → u.held ≡ t.held → (known ≡ true → fact side lock t ≡ true)
      → later side lock s known ≡ true → fact side lock u ≡ true
  by_none side s known none same sound is = fact_same side same ∙ sound (was_known side lock s known none is).1

plain_takes : (side : Side) (lock : ℕ) (s : Statement) → IsPlain s → takes side lock (statement_of s) ≡ false
plain_takes Acquired lock s a_write = refl
plain_takes Acquired lock s a_barrier = refl
plain_takes Acquired lock s a_print = refl
plain_takes Released lock s a_write = refl
plain_takes Released lock s a_barrier = refl
plain_takes Released lock s a_print = refl

assign_takes : (side : Side) (lock k : ℕ) (e : Expression) → takes side lock (statement_of (Assign k e)) ≡ false
assign_takes Acquired lock k e = refl
assign_takes Released lock k e = refl

read_takes : (side : Side) (lock k : ℕ) (e : Expression) → takes side lock (statement_of (Read k e)) ≡ false
read_takes Acquired lock k e = refl
read_takes Released lock k e = refl

module _ (side : Side) (lock : ℕ) (few : lock < 64) (all : List Path) (lines : List ℕ) where
  abbrev pub IsKnown : Walk → Type 0
  IsKnown walk = (length walk.thread.held ≡ 64) × Chained side lock all lines (fact side lock walk.thread) walk.todo

  many_more : (t u : Thread) (l : ℕ) (b : Bool) → length t.held ≡ 64 → u.held ≡ slice_set t.held l b → length u.held ≡ 64
  many_more t u l b many set = ap length set ∙ length-set t.held l b ∙ many

  module _ (t u : Thread) (task : Task) (more : List Task) (known : Bool) (many : length t.held ≡ 64) (stands : Stands side lock all lines task known)
      (sound : known ≡ true → fact side lock t ≡ true) (rest : Chained side lock all lines (later side lock (statement_of task.statement) known) more) where
    abbrev After : List Task → Type 0
    After todo = (length u.held ≡ 64) × Chained side lock all lines (fact side lock u) todo

    on : (todo : List Task) → todo ≡ more → length u.held ≡ 64
        → (later side lock (statement_of task.statement) known ≡ true → fact side lock u ≡ true) → After todo
    on todo gone still kept = (
      still,
      subst (Chained side lock all lines (fact side lock u)) (sym gone)
          (more_known side lock all lines (later side lock (statement_of task.statement) known) (fact side lock u) more kept rest),
    )

    at_statement : (s : Statement) → task.statement ≡ s → (later side lock (statement_of s) known ≡ true → fact side lock u ≡ true)
        → later side lock (statement_of task.statement) known ≡ true → fact side lock u ≡ true
    at_statement s is kept h = kept (ap (λ x. later side lock (statement_of x) known) (sym is) ∙ h)

    in_block : (s : Statement) (holds : Bool) → task.statement ≡ s → u.held ≡ t.held
        → (Stands side lock all lines (record { statement = s; lines = task.lines }) known → (known ≡ true → fact side lock u ≡ true)
        → Chained side lock all lines (later side lock (statement_of s) known) more → Chained side lock all lines (fact side lock u) (beyond holds s task.lines more))
        → After (beyond holds task.statement task.lines more)
    in_block s holds is same each = (
      ap length same ∙ many,
      subst (λ x. Chained side lock all lines (fact side lock u) (beyond holds x task.lines more)) (sym is)
          (each (subst (λ x. Stands side lock all lines (record { statement = x; lines = task.lines }) known) is stands)
          (λ h. fact_same lock few t u many side same ∙ sound h)
          (subst (λ x. Chained side lock all lines (later side lock (statement_of x) known) more) is rest)),
    )

    kept_by : (todo : List Task) → Moves t task more u todo → After todo
    kept_by todo (assigns k x {e = e} is value privates keeps gone) =
        on todo gone (ap length keeps.held ∙ many)
        (at_statement (Assign k e) is (by_none lock few t u many side (statement_of (Assign k e)) known (assign_takes side lock k e) keeps.held sound))
    kept_by todo (reads k x {e = e} is value privates keeps gone) =
        on todo gone (ap length keeps.held ∙ many)
        (at_statement (Read k e) is (by_none lock few t u many side (statement_of (Read k e)) known (read_takes side lock k e) keeps.held sound))
    kept_by todo (acquires l {e = e} is value held privates setting gone) =
        on todo gone (many_more t u l true many held)
        (at_statement (Acquire e) is (by_acquire lock few t u many side e l known value held sound))
    kept_by todo (releases l {e = e} is value held privates setting gone) =
        on todo gone (many_more t u l false many held)
        (at_statement (Release e) is (by_release lock few t u many side e l known value held sound))
    kept_by todo (passes plain same gone) =
        on todo gone (ap length same.held ∙ many)
        (by_none lock few t u many side (statement_of task.statement) known (plain_takes side lock task.statement plain) same.held sound)
    kept_by todo (branches {e = e} {p = p} {q = q} {a = a} {b = b} is same gone) =
        subst After (sym gone)
        (in_block (If' e p a q b) (value_is_met (value_in t e)) is same.held
        (λ stands sound rest. chained_if side lock all lines (value_is_met (value_in t e)) e p q a b task.lines more known (fact side lock u) stands sound rest))
    kept_by todo (loops {e = e} {p = p} {a = a} is same gone) =
        subst After (sym gone)
        (in_block (While' e p a) (value_is_met (value_in t e)) is same.held
        (λ stands sound rest. chained_while side lock all lines (value_is_met (value_in t e)) e p a task.lines more known (fact side lock u) stands sound rest))

  step : (walk after : Walk) → IsKnown walk → Moved walk after → IsKnown after
  step walk after known moved =
      go (subst (Chained side lock all lines (fact side lock walk.thread)) moved.todo known.1) moved.moves
    where
      go : Chained side lock all lines (fact side lock walk.thread) (moved.task ∷ moved.more)
          → Moves walk.thread moved.task moved.more after.thread after.todo → IsKnown after
      go (first {known = before} stands sound rest) moves =
          kept_by walk.thread after.thread moved.task moved.more before known.0 stands sound rest after.todo moves

starts_with : (side : Side) (lock : ℕ) (t : Thread) → t.held ≡ replicate 64 false → at_start side ≡ true → fact side lock t ≡ true
starts_with Acquired lock t held start = cc
starts_with Released lock t held start = ap (λ l. not (slice_index_or l lock false)) held ∙ ap not (all_false 64 lock)
  where
    all_false : (n k : ℕ) → slice_index_or (replicate n false) k false ≡ false
    all_false zero k = refl
    all_false (suc n) zero = refl
    all_false (suc n) (suc k) = all_false n k

-- wherever the acts lead a node, what is known is so
pub known_behind : (program : Program) (nodes : ℕ) (lines : List ℕ) (acts : List Act) (node : ℕ) (side : Side) (lock : ℕ) (few : lock < 64)
    → IsKnown side lock few (paths [] (block_of program.statements.items)) lines (walk_behind program nodes lines acts node)
known_behind program nodes lines acts node side lock few =
    let all = paths [] (block_of program.statements.items) in
    let start = walk_at_start program nodes lines node in
    let chained : Chained side lock all lines (is_under side lock []) (tasks program.statements.items lines ++ []) =
    chained_block side lock all lines program.statements.items [] [] [] lines [] (record { place = sym (append-nil all); from = refl }) end in
    along program nodes lines node (IsKnown side lock few all lines) (λ walk after agrees stand known moved. step side lock few all lines walk after known moved) (
      refl,
      more_known side lock all lines (is_under side lock []) (fact side lock start.thread) (tasks program.statements.items lines)
          (starts_with side lock start.thread refl)
          (subst (Chained side lock all lines (is_under side lock [])) (append-nil (tasks program.statements.items lines)) chained),
    ) acts
