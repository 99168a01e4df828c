-- A name that no statement sets.
use Rattle.std.proofs.Common.{◌≡◌, ◌∙◌, ℕ, zero, suc, Bool, true, false, Some, List, [], length, replicate, refl, sym, ap, subst}
use Rattle.std.specs.Prelude.{◌==◌, slice_get, slice_index, slice_set, if◌then◌else◌, find, option_map}
use Rattle.std.specs.List.{All, Contains, range_with_len}
use Rattle.std.proofs.lemmas.Bool.{eqb-false}
use Rattle.std.proofs.lemmas.List.{get_or-set_other}
use Rattle.std.proofs.lemmas.List.Elements.{All-head}
use Rattle.lrc_program.specs.declared.Program.{Program}
use Rattle.lrc_program.specs.Statements.{Statement as Tree, statement_of, block_of}
use Rattle.lrc_lang.specs.Grammar.{IsProgram}
use Rattle.lrc_lang.specs.Token.{Token}
use Rattle.lrc_program.specs.Tree.{program_of}
use Rattle.lrc_trace.specs.declared.act.Act.{Act}
use Rattle.lrc_exec.specs.Meaning.{Thread}
use Rattle.lrc_lines.specs.Places.{StandsAmong, in_order}
use Rattle.lrc_lines.specs.Tasks.{Task}
use Rattle.lrc_lint_warned.specs.declared.found.Found.{Found}
use Rattle.lrc_lint_warned.specs.declared.found.Kind.TheVariants.{NeverSet}
use Rattle.lrc_lint_warned.specs.declared.places.Scan.TheVariants.{Statements}
use Rattle.lrc_lint_warned.specs.Found.{NodeAt, StatementAt, found_where}
use Rattle.lrc_lint_warned.specs.Inside.{statements_in}
use Rattle.lrc_lint_warned.specs.Names.{is_name, never_set, never_set_of, sets, some_set}
use Rattle.lrc_lint_warned.specs.Places.{places_in}
use Rattle.lrc_lint_laws.specs.Comes.{nodes_of_text, statements_of_text, thread_to}
use Rattle.lrc_lint_laws.proofs.Counted.{placed}
use Rattle.lrc_lint_laws.proofs.Listed.{in_flat, in_found_where, in_none, passes_none}
use Rattle.lrc_lint_laws.proofs.Moves.{Moves, along, assigns, reads, acquires, releases, passes, branches, loops}
use Rattle.lrc_lint_laws.proofs.Reached.{number_of, order_is}

-- what is warned of: no statement sets it
none_set : (nodes : List NodeAt) (all : List StatementAt) (found : Found) (name : ℕ) → found.kind ≡ NeverSet name
    → Contains (never_set nodes all) found → some_set all name ≡ false
none_set nodes all found name kind has =
    let one = in_flat (never_set_of nodes all) (range_with_len 0 32) found has in
    by one.x (some_set all one.x) refl one.has
  where
    same_name : (a b : ℕ) → NeverSet a ≡ NeverSet b → a ≡ b
    same_name a b is = cc

    by : (other : ℕ) (b : Bool) → some_set all other ≡ b
        → Contains (if b then [] else found_where (option_map (λ n. n.at) (find (λ n. is_name other n.node) nodes)) (NeverSet other)) found
        → some_set all name ≡ false
    by other true is c = absurd (in_none found c)
    by other false is c =
        let h = in_found_where _ (NeverSet other) found c in
        ap (some_set all) (sym (same_name other name (h.1 ∙ kind))) ∙ is

module _ (program : Program) (tokens : List Token) (name : ℕ)
    (none : (k : ℕ) (s : Tree) → slice_get (statements_in (block_of program.statements.items)) k ≡ Some s → sets name s ≡ false) where
  unset : (lines : List ℕ) (task : Task) → StandsAmong (in_order program.statements.items) lines task → sets name (statement_of task.statement) ≡ false
  unset lines task stands =
      none (length stands.before) (statement_of task.statement)
      (ap (λ l. slice_get l (length stands.before)) (sym (order_is program.statements.items))
      ∙ number_of (in_order program.statements.items) lines task stands)

  kept_other : (t u : Thread) (k x : ℕ) → u.privates ≡ slice_set t.privates k x → (k == name) ≡ false → slice_index t.privates name ≡ 0
      → slice_index u.privates name ≡ 0
  kept_other t u k x set other zeroed =
      ap (λ l. slice_index l name) set
      ∙ get_or-set_other t.privates k name x 0 (λ same. eqb-false k name other (sym same)) ∙ zeroed

  kept_same : (t u : Thread) → u.privates ≡ t.privates → slice_index t.privates name ≡ 0 → slice_index u.privates name ≡ 0
  kept_same t u same zeroed = ap (λ l. slice_index l name) same ∙ zeroed

  kept_by : (t u : Thread) (task : Task) (more todo : List Task) → sets name (statement_of task.statement) ≡ false → Moves t task more u todo
      → slice_index t.privates name ≡ 0 → slice_index u.privates name ≡ 0
  kept_by t u task more todo free (assigns k x is value privates keeps gone) zeroed =
      kept_other t u k x privates (sym (ap (λ s. sets name (statement_of s)) is) ∙ free) zeroed
  kept_by t u task more todo free (reads k x is value privates keeps gone) zeroed =
      kept_other t u k x privates (sym (ap (λ s. sets name (statement_of s)) is) ∙ free) zeroed
  kept_by t u task more todo free (acquires l is value held privates setting gone) zeroed = kept_same t u privates zeroed
  kept_by t u task more todo free (releases l is value held privates setting gone) zeroed = kept_same t u privates zeroed
  kept_by t u task more todo free (passes plain same gone) zeroed = kept_same t u same.privates zeroed
  kept_by t u task more todo free (branches is same gone) zeroed = kept_same t u same.privates zeroed
  kept_by t u task more todo free (loops is same gone) zeroed = kept_same t u same.privates zeroed

  starts_zero : (n k : ℕ) → slice_index (replicate n 0) k ≡ 0
  starts_zero zero k = refl
  starts_zero (suc n) zero = refl
  starts_zero (suc n) (suc k) = starts_zero n k

  stays_zero : (nodes : ℕ) (acts : List Act) (node : ℕ) → slice_index (thread_to program tokens nodes acts node).privates name ≡ 0
  stays_zero nodes acts node =
      along program nodes (places_in Statements tokens) node (λ walk. slice_index walk.thread.privates name ≡ 0)
      (λ walk after agrees stand zeroed moved.
      kept_by walk.thread after.thread moved.task moved.more after.todo
      (unset (places_in Statements tokens) moved.task
      (All-head (StandsAmong (in_order program.statements.items) (places_in Statements tokens)) moved.task moved.more
      (subst (All (StandsAmong (in_order program.statements.items) (places_in Statements tokens))) moved.todo stand)))
      moved.moves zeroed)
      (starts_zero 32 name) acts

pub never_set_is_zero : (program : Program) (tokens : List Token) (name at : ℕ) → IsProgram (program_of program) tokens
    → Contains (never_set (nodes_of_text program tokens) (statements_of_text program tokens)) (record { at = at; kind = NeverSet name })
    → (nodes : ℕ) (acts : List Act) (node : ℕ) → slice_index (thread_to program tokens nodes acts node).privates name ≡ 0
never_set_is_zero program tokens name at is_text has =
    let no = none_set (nodes_of_text program tokens) (statements_of_text program tokens) (record { at = at; kind = NeverSet name }) name refl has in
    stays_zero program tokens name (λ k s is.
    let (at, place, stands) = placed program tokens is_text k s is in
    passes_none (λ x. sets name x.statement) (statements_of_text program tokens) k (record { at = at; statement = s }) no stands)
