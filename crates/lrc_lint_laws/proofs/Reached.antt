-- Which statement it is to which a node comes at a token.
use Rattle.std.proofs.Common.{◌≡◌, ◌∙◌, ℕ, true, Option, Some, List, [], ◌∷◌, ◌++◌, length, map, drop, take, refl, sym, ap, ap₂, subst}
use Rattle.std.specs.Prelude.{slice_get}
use Rattle.std.specs.List.{All, zip}
use Rattle.std.proofs.lemmas.List.{map-append}
use Rattle.std.proofs.lemmas.List.Elements.{All-head}
use Rattle.std.proofs.lemmas.Option.{same_Some}
use Rattle.lrc_program.specs.declared.Program.{Program}
use Rattle.lrc_program.specs.declared.Statement.{Statement, Row_of-Statement, end_of-Statement, more_of-Statement}
use Rattle.lrc_program.specs.declared.Statement.TheVariants.{Assign, Read, Write, Acquire, Release, Barrier, Print, If', While'}
use Rattle.lrc_program.specs.Statements.{Statement as Tree, statement_of, row_of, block_of}
use Rattle.lrc_lang.specs.Token.{Token}
use Rattle.lrc_trace.specs.declared.act.Act.{Act}
use Rattle.lrc_trace.specs.declared.act.Cause.{Cause}
use Rattle.lrc_trace.specs.declared.act.Deed.{Deed}
use Rattle.lrc_trace.specs.declared.act.Deed.TheVariants.{Trap}
use Rattle.lrc_exec.specs.Meaning.{Thread, Next, traps, block, next_of, next_of_statement}
use Rattle.lrc_exec.specs.Plain.{setting_of}
use Rattle.lrc_exec.specs.Follows.{Goes, trapping}
use Rattle.lrc_lines.specs.Makes.{MakesNext, statement, barrier, end}
use Rattle.lrc_lines.specs.Places.{StandsAmong, in_order, within, within_block}
use Rattle.lrc_lines.specs.Tasks.{Task}
use Rattle.lrc_lines.specs.Walks.{Walk}
use Rattle.lrc_lines.proofs.Agreeing.{agrees_behind}
use Rattle.lrc_lines.proofs.Making.{makes_behind}
use Rattle.lrc_lines.proofs.Placing.{stand_behind}
use Rattle.lrc_lint_warned.specs.declared.places.Scan.TheVariants.{Statements}
use Rattle.lrc_lint_warned.specs.Found.{StatementAt}
use Rattle.lrc_lint_warned.specs.Inside.{statements_in, within as tree_within}
use Rattle.lrc_lint_warned.specs.Places.{places_in, statement_at}
use Rattle.lrc_lint_laws.specs.Comes.{IsAt, TrapsAt, statements_of_text, thread_to, walk_to}
use Rattle.lrc_lint_laws.proofs.Listed.{first_dropped, joined, mapped, place_once, to_mapped, zipped}
use Rattle.lrc_lint_laws.proofs.Moves.{Moves, along, next_stays, statements, assigns, reads, acquires, releases, passes, branches, loops}

-- ---- statements of the code and of the tree

pub row_is : {m : _} (row : Row_of-Statement m) → block_of (block row) ≡ row_of row
row_is end_of-Statement = refl
row_is (more_of-Statement first rest) = ap (Rattle.lrc_program.specs.Statements.Block.next (statement_of first)) (row_is rest)

mutual
  pub within_is : (s : Statement) → map statement_of (within s) ≡ tree_within (statement_of s)
  within_is (If' e p a q b) = map-append statement_of (within_block a) (within_block b) ∙ ap₂ ◌++◌ (block_is a) (block_is b)
  within_is (While' e p a) = block_is a
  within_is (Assign name e) = refl
  within_is (Read name e) = refl
  within_is (Write e v) = refl
  within_is (Acquire e) = refl
  within_is (Release e) = refl
  within_is Barrier = refl
  within_is (Print e) = refl

  pub block_is : {m : _} (row : Row_of-Statement m) → map statement_of (within_block row) ≡ statements_in (row_of row)
  block_is end_of-Statement = refl
  block_is (more_of-Statement first rest) =
      ap (λ l. statement_of first ∷ l)
      (map-append statement_of (within first) (within_block rest) ∙ ap₂ ◌++◌ (within_is first) (block_is rest))

pub order_is : (all : List Statement) → map statement_of (in_order all) ≡ statements_in (block_of all)
order_is [] = refl
order_is (first ∷ rest) =
    ap (λ l. statement_of first ∷ l) (map-append statement_of (within first) (in_order rest) ∙ ap₂ ◌++◌ (within_is first) (order_is rest))

-- ---- where a statement stands

-- a statement that stands among those of the text, by its number
pub number_of : (all : List Statement) (lines : List ℕ) (task : Task) (stands : StandsAmong all lines task)
    → slice_get (map statement_of all) (length stands.before) ≡ Some (statement_of task.statement)
number_of all lines task stands =
    to_mapped statement_of all (length stands.before) task.statement
    (ap (λ l. slice_get l (length stands.before)) stands.place ∙ joined stands.before (within task.statement ++ stands.after) task.statement)

module _ (program : Program) (tokens : List Token) where
  -- a statement with its place, by its number
  pub numbered : (k : ℕ) (s : StatementAt) → slice_get (statements_of_text program tokens) k ≡ Some s
      → (slice_get (places_in Statements tokens) k ≡ Some s.at) × (slice_get (statements_in (block_of program.statements.items)) k ≡ Some s.statement)
  numbered k s is =
      let (p, at, made) = mapped statement_at (zip (places_in Statements tokens) (statements_in (block_of program.statements.items))) k s is in
      let h = zipped (places_in Statements tokens) (statements_in (block_of program.statements.items)) k p at in
      (h.0 ∙ ap (λ (x : StatementAt). Some x.at) made, h.1 ∙ ap (λ (x : StatementAt). Some x.statement) made)

  -- the number of a statement to which a node comes
  pub come_to : (nodes : ℕ) (acts : List Act) (node : ℕ) (at k : ℕ) (here : IsAt (walk_to program tokens nodes acts node) at)
      → slice_get (places_in Statements tokens) k ≡ Some at
      → (stands : StandsAmong (in_order program.statements.items) (places_in Statements tokens) here.task)
      × (length stands.before ≡ k)
  come_to nodes acts node at k here is =
      let all : All (StandsAmong (in_order program.statements.items) (places_in Statements tokens)) (here.task ∷ here.more) =
      subst (All (StandsAmong (in_order program.statements.items) (places_in Statements tokens))) here.todo
      (stand_behind program nodes (places_in Statements tokens) acts node) in
      let stands : StandsAmong (in_order program.statements.items) (places_in Statements tokens) here.task =
      All-head (StandsAmong (in_order program.statements.items) (places_in Statements tokens)) here.task here.more all in (
        stands,
        place_once Statements 6 true (drop 6 tokens) (length stands.before) k at
            (first_dropped (length stands.before) (places_in Statements tokens) at
            (sym (ap (λ l. slice_get l 0) stands.lines_from) ∙ here.place)) is,
      )

  -- the statement to which a node comes
  pub comes_to : (nodes : ℕ) (acts : List Act) (node : ℕ) (s : StatementAt) (k : ℕ) → slice_get (statements_of_text program tokens) k ≡ Some s
      → (here : IsAt (walk_to program tokens nodes acts node) s.at) → statement_of here.task.statement ≡ s.statement
  comes_to nodes acts node s k is here =
      let both = numbered k s is in
      let (stands, number) = come_to nodes acts node s.at k here both.0 in
      same_Some _ _
      (sym (number_of (in_order program.statements.items) (places_in Statements tokens) here.task stands)
      ∙ ap (slice_get (map statement_of (in_order program.statements.items))) number
      ∙ ap (λ l. slice_get l k) (order_is program.statements.items) ∙ both.1)

  -- what a node does next where it comes to a statement
  pub next_at : (nodes : ℕ) (acts : List Act) (node at : ℕ) (here : IsAt (walk_to program tokens nodes acts node) at)
      → next_of (thread_to program tokens nodes acts node)
      ≡ next_of_statement (thread_to program tokens nodes acts node) here.task.statement (statements here.more)
  next_at nodes acts node at here =
      let agrees = agrees_behind program nodes (places_in Statements tokens) acts node in
      next_stays (thread_to program tokens nodes acts node) here.task.statement (statements here.more)
      (sym agrees.0 ∙ ap statements here.todo) agrees.1

  -- no thread's setting changes
  pub setting_is : (nodes : ℕ) (acts : List Act) (node : ℕ) → (thread_to program tokens nodes acts node).setting ≡ setting_of program nodes node
  setting_is nodes acts node =
      along program nodes (places_in Statements tokens) node (λ walk. walk.thread.setting ≡ setting_of program nodes node)
      (λ walk after agrees stand same moved. kept_by walk after moved.task moved.more moved.moves ∙ same) refl acts
    where
      kept_by : (walk after : Walk) (task : Task) (more : List Task) → Moves walk.thread task more after.thread after.todo
          → after.thread.setting ≡ walk.thread.setting
      kept_by walk after task more (assigns k x is value privates keeps todo) = keeps.setting
      kept_by walk after task more (reads k x is value privates keeps todo) = keeps.setting
      kept_by walk after task more (acquires l is value held privates setting todo) = setting
      kept_by walk after task more (releases l is value held privates setting todo) = setting
      kept_by walk after task more (passes plain same todo) = same.setting
      kept_by walk after task more (branches is same todo) = same.setting
      kept_by walk after task more (loops is same todo) = same.setting

-- ---- what traps next is a trap

goes_trap : (next : Next) (cause : Cause) (d : Deed) (after : Option Thread) → next ≡ traps cause → Goes next d after → d ≡ Trap cause
goes_trap (traps c) cause d after is trapping = ap Trap (same_cause c cause is)
  where
    same_cause : (c cause : Cause) → traps c ≡ traps cause → c ≡ cause
    same_cause c cause is = cc
goes_trap (Next.quiet t) cause d after is goes = cc
goes_trap (Next.prints v t) cause d after is goes = cc
goes_trap (Next.reads w t) cause d after is goes = cc
goes_trap (Next.writes w v t) cause d after is goes = cc
goes_trap (Next.acquires l t) cause d after is goes = cc
goes_trap (Next.releases l t) cause d after is goes = cc
goes_trap (Next.arrives t) cause d after is goes = cc
goes_trap (Next.departs t) cause d after is goes = cc
goes_trap Next.ends cause d after is goes = cc

of_first : Thread → List Task → Next
of_first t [] = Next.ends
of_first t (x ∷ xs) = next_of_statement t x.statement (statements xs)

at_barrier : (t : Thread) (s : Statement) (rest : List Statement) (cause : Cause) → s ≡ Barrier → next_of_statement t s rest ≡ traps cause → ⊥
at_barrier t Barrier rest cause is next = cc
at_barrier t (Assign name e) rest cause is next = cc
at_barrier t (Read name e) rest cause is next = cc
at_barrier t (Write e v) rest cause is next = cc
at_barrier t (Acquire e) rest cause is next = cc
at_barrier t (Release e) rest cause is next = cc
at_barrier t (Print e) rest cause is next = cc
at_barrier t (If' e p a q b) rest cause is next = cc
at_barrier t (While' e p a) rest cause is next = cc

trap_made : (walk : Walk) (cause : Cause) (d : Deed) (task : Task) (more : List Task) → walk.todo ≡ task ∷ more
    → next_of_statement walk.thread task.statement (statements more) ≡ traps cause → MakesNext walk d → d ≡ Trap cause
unfolding of_first
trap_made walk cause d task more todo is (statement {task = other} {more = others} {after = after} same goes) =
    let both : task ∷ more ≡ other ∷ others = sym todo ∙ same in
    goes_trap (of_first walk.thread (other ∷ others)) cause d after (sym (ap (of_first walk.thread) both) ∙ is) goes
trap_made walk cause d task more todo is (barrier {task = other} {more = others} same meets) =
    let both : task ∷ more ≡ other ∷ others = sym todo ∙ same in
    absurd (at_barrier walk.thread other.statement (statements others) cause meets (sym (ap (of_first walk.thread) both) ∙ is))
trap_made walk cause d task more todo is (end none) = let no : task ∷ more ≡ [] = sym todo ∙ none in cc

-- each node that comes to a token traps there, where its thread does
pub traps_at : (program : Program) (tokens : List Token) (nodes at : ℕ) (cause : Walk → Cause)
    → ((acts : List Act) (node : ℕ) (here : IsAt (walk_to program tokens nodes acts node) at)
    → next_of_statement (thread_to program tokens nodes acts node) here.task.statement (statements here.more)
    ≡ traps (cause (walk_to program tokens nodes acts node)))
    → TrapsAt program tokens nodes at cause
traps_at program tokens nodes at cause each = record {
  next = λ acts node here. next_at program tokens nodes acts node at here ∙ each acts node here;
  deed = λ acts i node d follows does within here.
      let walk = walk_to program tokens nodes (take i acts) node in
      trap_made walk (cause walk) d here.task here.more here.todo (each (take i acts) node here)
      (makes_behind program nodes (places_in Statements tokens) acts i node d follows does within);
}
