-- What traps where a node comes to a statement of which that is said.
use Rattle.std.proofs.Common.{◌≡◌, ◌⊎◌, inl, inr, ◌∙◌, ◌<◌, ◌+◌, ℕ, drop, zero, suc, Bool, true, false, Option, Some, None, List, [], ◌∷◌, ◌++◌}
use Rattle.std.proofs.Common.{length, take, refl, sym, ap, subst, arith}
use Rattle.std.specs.Prelude.{◌&&◌, if◌then◌else◌, is_some, nat_lt, not, option_map, slice_get, slice_index_or}
use Rattle.std.specs.List.{Contains, flat_map, range_with_len, zip}
use Rattle.std.proofs.lemmas.Bool.{lt-ltb}
use Rattle.std.proofs.lemmas.List.{length-append}
use Rattle.std.proofs.lemmas.List.FromFn.{get_or-range_with_len}
use Rattle.std.proofs.lemmas.List.Quantifiers.{position-Some}
use Rattle.std.proofs.lemmas.Option.{same_Some, slice_get_within}
use Rattle.lrc_program.specs.declared.Expression.{Expression}
use Rattle.lrc_program.specs.declared.Program.{Program}
use Rattle.lrc_program.specs.declared.Statement.{Statement}
use Rattle.lrc_program.specs.declared.Statement.TheVariants.{Assign, Read, Write, Acquire, Release, Barrier, Print, If', While'}
use Rattle.lrc_lang.specs.Grammar.{IsProgram}
use Rattle.lrc_program.specs.Statements.{Expression as Part, Statement as Tree, assign, read, write, acquire, release, barrier, print, if_else}
use Rattle.lrc_program.specs.Statements.{while_do, expression_of, statement_of, block_of}
use Rattle.lrc_lang.specs.Token.{Token}
use Rattle.lrc_program.specs.Tree.{program_of}
use Rattle.lrc_trace.specs.declared.act.Act.{Act}
use Rattle.lrc_trace.specs.declared.act.Cause.{Cause}
use Rattle.lrc_trace.specs.declared.act.Cause.TheVariants as causes
use Rattle.lrc_exec.specs.Meaning.{Thread, Next, reads, writes, acquires, releases, traps, holds, if_below, next_of_statement, one_if, or_trap}
use Rattle.lrc_exec.specs.Meaning.{then_does, then_holds, then_keeps, value_in}
use Rattle.lrc_lines.proofs.Agreeing.{agrees_behind}
use Rattle.lrc_lint_warned.specs.declared.found.Found.{Found}
use Rattle.lrc_lint_warned.specs.declared.found.Kind.{Kind}
use Rattle.lrc_lint_warned.specs.declared.found.Kind.TheVariants as kinds
use Rattle.lrc_lint_warned.specs.declared.held.Side.{Side}
use Rattle.lrc_lint_warned.specs.declared.held.Side.TheVariants.{Acquired, Released}
use Rattle.lrc_lint_warned.specs.declared.places.Scan.TheVariants.{Nodes, Statements}
use Rattle.lrc_lint_warned.specs.Access.{lock_beyond, no_such_lock, no_such_lock_at, no_such_word, no_such_word_at, word_beyond}
use Rattle.lrc_lint_warned.specs.Blocks.{is_barrier}
use Rattle.lrc_lint_warned.specs.Constant.{constant_of}
use Rattle.lrc_lint_warned.specs.Found.{NodeAt, StatementAt, found_at}
use Rattle.lrc_lint_warned.specs.Held.{Path, held_already, held_already_at, held_at_barrier, held_at_barrier_at, is_under, least_held, not_held}
use Rattle.lrc_lint_warned.specs.Held.{not_held_at, with_path}
use Rattle.lrc_lint_warned.specs.Inside.{nodes_of, statements_in}
use Rattle.lrc_lint_warned.specs.Locks as lock_specs
use Rattle.lrc_lint_warned.specs.Operations.{below_zero, below_zero_kind, division_by_zero, division_kind}
use Rattle.lrc_lint_warned.specs.Places.{node_at, places_in}
use Rattle.lrc_lint_laws.specs.Comes.{IsAt, TrapsAt, nodes_of_text, paths_of_text, statements_of_text, thread_to, walk_to}
use Rattle.lrc_lint_laws.specs.Traps.{IsPartAt, TrapsBehind, trap_of_access, trap_of_first}
use Rattle.lrc_lint_laws.proofs.Counted.{placed}
use Rattle.lrc_lint_laws.proofs.Held.{Chained, fact, first, known_at, known_behind}
use Rattle.lrc_lint_laws.proofs.Listed.{first_dropped, in_each, in_flat, in_found_at, in_found_if, in_none, in_range, index_or, length_range}
use Rattle.lrc_lint_laws.proofs.Listed.{zero_more, joined, mapped, place_once, zipped}
use Rattle.lrc_lint_laws.proofs.Moves.{statements}
use Rattle.lrc_lint_laws.proofs.Reached.{comes_to, numbered, setting_is, traps_at}
use Rattle.lrc_lint_laws.proofs.Values.{below_zero_is, constant_is, constant_value, division_traps}

-- ---- words and locks that there are not

beyond_word : (words : ℕ) (o : Option ℕ) (kind : Kind) → word_beyond words o ≡ Some kind → (w : ℕ) × (o ≡ Some w) × (nat_lt w words ≡ false)
beyond_word words None kind is = cc
beyond_word words (Some w) kind is = by (nat_lt w words) refl is
  where
    by : (b : Bool) → nat_lt w words ≡ b → (if b then None else Some (kinds.NoSuchWord w)) ≡ Some kind → (x : ℕ) × (Some w ≡ Some x) × (nat_lt x words ≡ false)
    by true below is = cc
    by false below is = (w, refl, below)

beyond_lock : (locks : ℕ) (o : Option ℕ) (kind : Kind) → lock_beyond locks o ≡ Some kind → (l : ℕ) × (o ≡ Some l) × (nat_lt l locks ≡ false)
beyond_lock locks None kind is = cc
beyond_lock locks (Some l) kind is = by (nat_lt l locks) refl is
  where
    by : (b : Bool) → nat_lt l locks ≡ b → (if b then None else Some (kinds.NoSuchLock l)) ≡ Some kind → (x : ℕ) × (Some l ≡ Some x) × (nat_lt x locks ≡ false)
    by true below is = cc
    by false below is = (l, refl, below)

module _ (t : Thread) where
  value : (e : Expression) (n : ℕ) → constant_of (expression_of e) ≡ Some n → value_in t e ≡ Some n
  value e n is = constant_value t.setting.me t.setting.nodes t.privates e n is

  below_trap : (cause : Cause) (b : Bool) (next : Next) → b ≡ false → (if b then next else traps cause) ≡ traps cause
  below_trap cause true next is = cc
  below_trap cause false next is = refl

  read_traps : (k w : ℕ) (e : Expression) (rest : List Statement) → value_in t e ≡ Some w → nat_lt w t.setting.words ≡ false
      → next_of_statement t (Read k e) rest ≡ traps causes.WordOutOfRange
  read_traps k w e rest is below =
      ap (λ o. or_trap o (λ n. if_below n t.setting.words causes.WordOutOfRange (reads n (λ v. then_keeps t rest k v)))) is
      ∙ below_trap causes.WordOutOfRange (nat_lt w t.setting.words) (reads w (λ v. then_keeps t rest k v)) below

  write_traps : (w : ℕ) (e x : Expression) (rest : List Statement) → value_in t e ≡ Some w → nat_lt w t.setting.words ≡ false
      → next_of_statement t (Write e x) rest ≡ traps (trap_of_first t (Write e x ∷ rest))
  write_traps w e x rest is below =
      ap (λ o. or_trap o (λ n. or_trap (value_in t x) (λ v. if_below n t.setting.words causes.WordOutOfRange (writes n v (then_does t rest))))) is
      ∙ by (value_in t x)
    where
      by : (o : Option ℕ) → or_trap o (λ v. if_below w t.setting.words causes.WordOutOfRange (writes w v (then_does t rest)))
          ≡ traps (if is_some o then causes.WordOutOfRange else causes.DivisionByZero)
      by None = refl
      by (Some v) = below_trap causes.WordOutOfRange (nat_lt w t.setting.words) (writes w v (then_does t rest)) below

  word_traps : (words at : ℕ) (s : Statement) (rest : List Statement) (f : Found) → t.setting.words ≡ words → Contains (no_such_word_at words at (statement_of s)) f
      → next_of_statement t s rest ≡ traps (trap_of_first t (s ∷ rest))
  word_traps words at (Read k e) rest f same has =
      let (w, is, below) = beyond_word words (constant_of (expression_of e)) f.kind (in_found_at (at + 3) _ f has).1 in
      read_traps k w e rest (value e w is) (ap (nat_lt w) same ∙ below)
  word_traps words at (Write e x) rest f same has =
      let (w, is, below) = beyond_word words (constant_of (expression_of e)) f.kind (in_found_at (at + 1) _ f has).1 in
      write_traps w e x rest (value e w is) (ap (nat_lt w) same ∙ below)
  word_traps words at (Assign k e) rest f same has = absurd (in_none f has)
  word_traps words at (Acquire e) rest f same has = absurd (in_none f has)
  word_traps words at (Release e) rest f same has = absurd (in_none f has)
  word_traps words at Barrier rest f same has = absurd (in_none f has)
  word_traps words at (Print e) rest f same has = absurd (in_none f has)
  word_traps words at (If' e p a q b) rest f same has = absurd (in_none f has)
  word_traps words at (While' e p a) rest f same has = absurd (in_none f has)

  lock_traps : (locks at : ℕ) (s : Statement) (rest : List Statement) (f : Found) → t.setting.locks ≡ locks → Contains (no_such_lock_at locks at (statement_of s)) f
      → next_of_statement t s rest ≡ traps causes.LockOutOfRange
  lock_traps locks at (Acquire e) rest f same has =
      let (l, is, below) = beyond_lock locks (constant_of (expression_of e)) f.kind (in_found_at (at + 1) _ f has).1 in
      ap (λ o. or_trap o (λ n. if_below n t.setting.locks causes.LockOutOfRange
      (if holds t n then traps causes.LockHeld else acquires n (then_holds t rest n true)))) (value e l is)
      ∙ below_trap causes.LockOutOfRange (nat_lt l t.setting.locks) _ (ap (nat_lt l) same ∙ below)
  lock_traps locks at (Release e) rest f same has =
      let (l, is, below) = beyond_lock locks (constant_of (expression_of e)) f.kind (in_found_at (at + 1) _ f has).1 in
      ap (λ o. or_trap o (λ n. if_below n t.setting.locks causes.LockOutOfRange
      (if holds t n then releases n (then_holds t rest n false) else traps causes.LockNotHeld))) (value e l is)
      ∙ below_trap causes.LockOutOfRange (nat_lt l t.setting.locks) _ (ap (nat_lt l) same ∙ below)
  lock_traps locks at (Assign k e) rest f same has = absurd (in_none f has)
  lock_traps locks at (Read k e) rest f same has = absurd (in_none f has)
  lock_traps locks at (Write e x) rest f same has = absurd (in_none f has)
  lock_traps locks at Barrier rest f same has = absurd (in_none f has)
  lock_traps locks at (Print e) rest f same has = absurd (in_none f has)
  lock_traps locks at (If' e p a q b) rest f same has = absurd (in_none f has)
  lock_traps locks at (While' e p a) rest f same has = absurd (in_none f has)

  -- ---- locks that are held, or are not

  taken_traps : (lock : ℕ) (s : Statement) (rest : List Statement) → lock_specs.acquires lock (statement_of s) ≡ true → lock < t.setting.locks
      → holds t lock ≡ true → next_of_statement t s rest ≡ traps causes.LockHeld
  taken_traps lock (Acquire e) rest is few held =
      ap (λ o. or_trap o (λ n. if_below n t.setting.locks causes.LockOutOfRange
      (if holds t n then traps causes.LockHeld else acquires n (then_holds t rest n true)))) (value e lock (constant_is (expression_of e) lock is))
      ∙ ap (λ b. if b then (if holds t lock then traps causes.LockHeld else acquires lock (then_holds t rest lock true)) else traps causes.LockOutOfRange)
      (lt-ltb lock t.setting.locks few)
      ∙ ap (λ b. if b then traps causes.LockHeld else acquires lock (then_holds t rest lock true)) held
  taken_traps lock (Release e) rest is few held = cc
  taken_traps lock (Assign k e) rest is few held = cc
  taken_traps lock (Read k e) rest is few held = cc
  taken_traps lock (Write e x) rest is few held = cc
  taken_traps lock Barrier rest is few held = cc
  taken_traps lock (Print e) rest is few held = cc
  taken_traps lock (If' e p a q b) rest is few held = cc
  taken_traps lock (While' e p a) rest is few held = cc

  given_traps : (lock : ℕ) (s : Statement) (rest : List Statement) → lock_specs.releases lock (statement_of s) ≡ true → lock < t.setting.locks
      → holds t lock ≡ false → next_of_statement t s rest ≡ traps causes.LockNotHeld
  given_traps lock (Release e) rest is few held =
      ap (λ o. or_trap o (λ n. if_below n t.setting.locks causes.LockOutOfRange
      (if holds t n then releases n (then_holds t rest n false) else traps causes.LockNotHeld))) (value e lock (constant_is (expression_of e) lock is))
      ∙ ap (λ b. if b then (if holds t lock then releases lock (then_holds t rest lock false) else traps causes.LockNotHeld) else traps causes.LockOutOfRange)
      (lt-ltb lock t.setting.locks few)
      ∙ ap (λ b. if b then releases lock (then_holds t rest lock false) else traps causes.LockNotHeld) held
  given_traps lock (Acquire e) rest is few held = cc
  given_traps lock (Assign k e) rest is few held = cc
  given_traps lock (Read k e) rest is few held = cc
  given_traps lock (Write e x) rest is few held = cc
  given_traps lock Barrier rest is few held = cc
  given_traps lock (Print e) rest is few held = cc
  given_traps lock (If' e p a q b) rest is few held = cc
  given_traps lock (While' e p a) rest is few held = cc

-- ---- of texts

behind_some : (at : ℕ) (s : Tree) (words : ℕ) (f : Found) → Contains (no_such_word_at words at s) f → (f.at ≡ at + 1) ⊎ (f.at ≡ at + 3)
behind_some at (read k e) words f has = inr (sym (in_found_at (at + 3) _ f has).0)
behind_some at (write e x) words f has = inl (sym (in_found_at (at + 1) _ f has).0)
behind_some at (assign k e) words f has = absurd (in_none f has)
behind_some at (acquire e) words f has = absurd (in_none f has)
behind_some at (release e) words f has = absurd (in_none f has)
behind_some at barrier words f has = absurd (in_none f has)
behind_some at (print e) words f has = absurd (in_none f has)
behind_some at (if_else e a b) words f has = absurd (in_none f has)
behind_some at (while_do e a) words f has = absurd (in_none f has)

behind_one : (at : ℕ) (s : Tree) (locks : ℕ) (f : Found) → Contains (no_such_lock_at locks at s) f → (f.at ≡ at + 1) ⊎ (f.at ≡ at + 3)
behind_one at (acquire e) locks f has = inl (sym (in_found_at (at + 1) _ f has).0)
behind_one at (release e) locks f has = inl (sym (in_found_at (at + 1) _ f has).0)
behind_one at (read k e) locks f has = absurd (in_none f has)
behind_one at (write e x) locks f has = absurd (in_none f has)
behind_one at (assign k e) locks f has = absurd (in_none f has)
behind_one at barrier locks f has = absurd (in_none f has)
behind_one at (print e) locks f has = absurd (in_none f has)
behind_one at (if_else e a b) locks f has = absurd (in_none f has)
behind_one at (while_do e a) locks f has = absurd (in_none f has)

module _ (program : Program) (tokens : List Token) where
  abbrev All' : List StatementAt
  All' = statements_of_text program tokens

  rest_is : (nodes : ℕ) (acts : List Act) (node at : ℕ) (here : IsAt (walk_to program tokens nodes acts node) at)
      → here.task.statement ∷ statements here.more ≡ (thread_to program tokens nodes acts node).rest
  rest_is nodes acts node at here =
      sym (ap statements here.todo) ∙ (agrees_behind program nodes (places_in Statements tokens) acts node).0

  pub no_word_traps : (at word : ℕ) → Contains (no_such_word program.words All') (record { at = at; kind = kinds.NoSuchWord word })
      → TrapsBehind program tokens at trap_of_access
  no_word_traps at word has =
      let f : Found = record { at = at; kind = kinds.NoSuchWord word } in
      let one = in_flat (λ s. no_such_word_at program.words s.at s.statement) All' f has in
      record {
        number = one.k;
        from = one.x.at;
        statement = one.x.statement;
        stands = one.at;
        near = behind_some one.x.at one.x.statement program.words f one.has;
        traps = λ nodes. traps_at program tokens nodes one.x.at trap_of_access (λ acts node here.
            let t = thread_to program tokens nodes acts node in
            word_traps t program.words one.x.at here.task.statement (statements here.more) f
            (ap (λ s. s.words) (setting_is program tokens nodes acts node))
            (subst (λ s. Contains (no_such_word_at program.words one.x.at s) f) (sym (comes_to program tokens nodes acts node one.x one.k one.at here)) one.has)
            ∙ ap (λ rest. traps (trap_of_first t rest)) (rest_is nodes acts node one.x.at here));
      }

  pub no_lock_traps : (at lock : ℕ) → Contains (no_such_lock program.locks All') (record { at = at; kind = kinds.NoSuchLock lock })
      → TrapsBehind program tokens at (λ walk. causes.LockOutOfRange)
  no_lock_traps at lock has =
      let f : Found = record { at = at; kind = kinds.NoSuchLock lock } in
      let one = in_flat (λ s. no_such_lock_at program.locks s.at s.statement) All' f has in
      record {
        number = one.k;
        from = one.x.at;
        statement = one.x.statement;
        stands = one.at;
        near = behind_one one.x.at one.x.statement program.locks f one.has;
        traps = λ nodes. traps_at program tokens nodes one.x.at (λ walk. causes.LockOutOfRange) (λ acts node here.
            lock_traps (thread_to program tokens nodes acts node) program.locks one.x.at here.task.statement (statements here.more) f
            (ap (λ s. s.locks) (setting_is program tokens nodes acts node))
            (subst (λ s. Contains (no_such_lock_at program.locks one.x.at s) f) (sym (comes_to program tokens nodes acts node one.x one.k one.at here)) one.has));
      }

  -- ---- what stands under an acquire, or a release

  known_plain : (side : Side) (lock : ℕ) (path : Path) (s : Tree)
      → (lock_specs.acquires lock s ≡ true) ⊎ (lock_specs.releases lock s ≡ true) ⊎ (is_barrier s ≡ true) → known_at side lock path s ≡ is_under side lock path
  known_plain side lock path (assign k e) is = refl
  known_plain side lock path (read k e) is = refl
  known_plain side lock path (write e x) is = refl
  known_plain side lock path (acquire e) is = refl
  known_plain side lock path (release e) is = refl
  known_plain side lock path barrier is = refl
  known_plain side lock path (print e) is = refl
  known_plain side lock path (if_else e a b) is = refl
  known_plain side lock path (while_do e a) is = elim is [ inl h ↦ cc | inr h ↦ elim h [ inl g ↦ cc | inr g ↦ cc ] ]

  under_is : (side : Side) (lock : ℕ) → lock < 64 → (nodes : ℕ) (acts : List Act) (node at k : ℕ) (here : IsAt (walk_to program tokens nodes acts node) at)
      → slice_get (places_in Statements tokens) k ≡ Some at → is_under side lock (slice_index_or (paths_of_text program) k []) ≡ true
      → (lock_specs.acquires lock (statement_of here.task.statement) ≡ true) ⊎ (lock_specs.releases lock (statement_of here.task.statement) ≡ true)
      ⊎ (is_barrier (statement_of here.task.statement) ≡ true)
      → fact side lock (thread_to program tokens nodes acts node) ≡ true
  under_is side lock few nodes acts node at k here place under plain =
      go (subst (Chained side lock (paths_of_text program) (places_in Statements tokens) (fact side lock (thread_to program tokens nodes acts node))) here.todo
      (known_behind program nodes (places_in Statements tokens) acts node side lock few).1)
    where
      go : Chained side lock (paths_of_text program) (places_in Statements tokens) (fact side lock (thread_to program tokens nodes acts node)) (here.task ∷ here.more)
          → fact side lock (thread_to program tokens nodes acts node) ≡ true
      go (first {known = known} stands sound rest) =
          let number : length stands.before ≡ k =
          place_once Statements 6 true (drop 6 tokens) (length stands.before) k at
          (first_dropped (length stands.before) (places_in Statements tokens) at (sym (ap (λ l. slice_get l 0) stands.from) ∙ here.place)) place in
          let path_is : slice_index_or (paths_of_text program) k [] ≡ stands.path =
          index_or (paths_of_text program) k stands.path []
          (ap (slice_get (paths_of_text program)) (sym number) ∙ ap (λ l. slice_get l (length stands.before)) stands.place ∙ joined stands.before _ stands.path) in
          sound (stands.is_known ∙ known_plain side lock stands.path (statement_of here.task.statement) plain
          ∙ ap (is_under side lock) (sym path_is) ∙ under)

  few_locks : (lock : ℕ) → lock < program.locks → lock < 64
  few_locks lock few = omega (arith, few, program.few_locks)

  both_true : (a b : Bool) → (a && b) ≡ true → (a ≡ true) × (b ≡ true)
  both_true true b is = (refl, is)
  both_true false b is = cc

  lock_is : (a b : ℕ) → kinds.HeldAlready a ≡ kinds.HeldAlready b → a ≡ b
  lock_is a b is = cc

  lock_not : (a b : ℕ) → kinds.NotHeld a ≡ kinds.NotHeld b → a ≡ b
  lock_not a b is = cc

  lock_at : (a b : ℕ) → kinds.HeldAtBarrier a ≡ kinds.HeldAtBarrier b → a ≡ b
  lock_at a b is = cc

  -- what a warning of a lock that is held, or is not, is of
  record Under (side : Side) (lock at : ℕ) (test : Tree → Bool) : Type 0 where
    k : ℕ
    s : StatementAt
    stands : slice_get All' k ≡ Some s
    place : s.at ≡ at
    tests : test s.statement ≡ true
    under : is_under side lock (slice_index_or (paths_of_text program) k []) ≡ true
    few : lock < program.locks

  held_of : (at lock : ℕ) → Contains (held_already program.locks All' (paths_of_text program)) (record { at = at; kind = kinds.HeldAlready lock })
      → Under Acquired lock at (lock_specs.acquires lock)
  held_of at lock has =
      let f : Found = record { at = at; kind = kinds.HeldAlready lock } in
      let of_lock = in_flat (λ l. with_path (held_already_at l) All' (paths_of_text program)) (range_with_len 0 program.locks) f has in
      let one = in_each (λ i s. held_already_at of_lock.x s (slice_index_or (paths_of_text program) i [])) All' f of_lock.has in
      let (holds, place, kind) = in_found_if _ one.x.at (kinds.HeldAlready of_lock.x) f one.has in
      let same = lock_is of_lock.x lock kind in
      let (tests, under) = both_true _ _ holds in
      record {
        k = one.k;
        s = one.x;
        stands = one.at;
        place = place;
        tests = subst (λ n. lock_specs.acquires n one.x.statement ≡ true) same tests;
        under = subst (λ n. is_under Acquired n (slice_index_or (paths_of_text program) one.k []) ≡ true) same under;
        few = subst (λ n. n < program.locks) same (in_range program.locks of_lock.k of_lock.x of_lock.at);
      }

  not_held_of : (at lock : ℕ) → Contains (not_held program.locks All' (paths_of_text program)) (record { at = at; kind = kinds.NotHeld lock })
      → Under Released lock at (lock_specs.releases lock)
  not_held_of at lock has =
      let f : Found = record { at = at; kind = kinds.NotHeld lock } in
      let of_lock = in_flat (λ l. with_path (not_held_at l) All' (paths_of_text program)) (range_with_len 0 program.locks) f has in
      let one = in_each (λ i s. not_held_at of_lock.x s (slice_index_or (paths_of_text program) i [])) All' f of_lock.has in
      let (holds, place, kind) = in_found_if _ one.x.at (kinds.NotHeld of_lock.x) f one.has in
      let same = lock_not of_lock.x lock kind in
      let (tests, under) = both_true _ _ holds in
      record {
        k = one.k;
        s = one.x;
        stands = one.at;
        place = place;
        tests = subst (λ n. lock_specs.releases n one.x.statement ≡ true) same tests;
        under = subst (λ n. is_under Released n (slice_index_or (paths_of_text program) one.k []) ≡ true) same under;
        few = subst (λ n. n < program.locks) same (in_range program.locks of_lock.k of_lock.x of_lock.at);
      }

  least_is : (o : Option ℕ) (at lock : ℕ) (f : Found) → f.kind ≡ kinds.HeldAtBarrier lock → Contains (found_at at (option_map kinds.HeldAtBarrier o)) f
      → (at ≡ f.at) × (o ≡ Some lock)
  least_is None at lock f kind has = absurd (in_none f has)
  least_is (Some l) at lock f kind has =
      let h = in_found_at at (Some (kinds.HeldAtBarrier l)) f has in
      (h.0, ap Some (lock_at l lock (same_Some _ _ h.1 ∙ kind)))

  barrier_of : (at lock : ℕ) → Contains (held_at_barrier program.locks All' (paths_of_text program)) (record { at = at; kind = kinds.HeldAtBarrier lock })
      → Under Acquired lock at is_barrier
  barrier_of at lock has =
      let f : Found = record { at = at; kind = kinds.HeldAtBarrier lock } in
      let one = in_each (λ i s. held_at_barrier_at program.locks s (slice_index_or (paths_of_text program) i [])) All' f has in
      by one.k one.x one.at (is_barrier one.x.statement) refl one.has
    where
      by : (k : ℕ) (s : StatementAt) → slice_get All' k ≡ Some s → (b : Bool) → is_barrier s.statement ≡ b
          → Contains (if b then found_at s.at (option_map kinds.HeldAtBarrier (least_held program.locks (slice_index_or (paths_of_text program) k []))) else [])
          (record { at = at; kind = kinds.HeldAtBarrier lock }) → Under Acquired lock at is_barrier
      by k s stands false is c = absurd (in_none _ c)
      by k s stands true is c =
          let path = slice_index_or (paths_of_text program) k [] in
          let (place, least) = least_is (least_held program.locks path) s.at lock (record { at = at; kind = kinds.HeldAtBarrier lock }) refl c in
          let (few, under, least_so) = position-Some (λ l. is_under Acquired l path) (range_with_len 0 program.locks) lock 0 least in
          let small : lock < program.locks = omega (arith, few, length_range program.locks) in
          record {
            k = k;
            s = s;
            stands = stands;
            place = place;
            tests = is;
            under = subst (λ n. is_under Acquired n path ≡ true) (get_or-range_with_len 0 program.locks lock 0 small ∙ zero_more lock) under;
            few = small;
          }

  -- where a node comes to it
  under_at : (side : Side) (lock at : ℕ) (test : Tree → Bool) (u : Under side lock at test) (nodes : ℕ) (acts : List Act) (node : ℕ)
      (here : IsAt (walk_to program tokens nodes acts node) at) → test (statement_of here.task.statement) ≡ true
  under_at side lock at test u nodes acts node here =
      ap test (comes_to program tokens nodes acts node u.s u.k u.stands (here_at here (sym u.place))) ∙ u.tests
    where
      here_at : (h : IsAt (walk_to program tokens nodes acts node) at) → at ≡ u.s.at → IsAt (walk_to program tokens nodes acts node) u.s.at
      here_at h same = record { task = h.task; more = h.more; todo = h.todo; place = h.place ∙ ap Some same }

  fact_at : (side : Side) (lock at : ℕ) (test : Tree → Bool) (u : Under side lock at test) (nodes : ℕ) (acts : List Act) (node : ℕ)
      (here : IsAt (walk_to program tokens nodes acts node) at)
      → (lock_specs.acquires lock (statement_of here.task.statement) ≡ true) ⊎ (lock_specs.releases lock (statement_of here.task.statement) ≡ true)
      ⊎ (is_barrier (statement_of here.task.statement) ≡ true)
      → fact side lock (thread_to program tokens nodes acts node) ≡ true
  fact_at side lock at test u nodes acts node here plain =
      under_is side lock (few_locks lock u.few) nodes acts node at u.k here ((numbered program tokens u.k u.s u.stands).0 ∙ ap Some u.place) u.under plain

  setting_few : (side : Side) (lock at : ℕ) (test : Tree → Bool) (u : Under side lock at test) (nodes : ℕ) (acts : List Act) (node : ℕ)
      → lock < (thread_to program tokens nodes acts node).setting.locks
  setting_few side lock at test u nodes acts node =
      subst (λ n. lock < n) (sym (ap (λ s. s.locks) (setting_is program tokens nodes acts node))) u.few

  pub held_already_traps : (at lock : ℕ) → Contains (held_already program.locks All' (paths_of_text program)) (record { at = at; kind = kinds.HeldAlready lock })
      → (nodes : ℕ) → ((acts : List Act) (node : ℕ) → IsAt (walk_to program tokens nodes acts node) at → holds (thread_to program tokens nodes acts node) lock ≡ true)
      × TrapsAt program tokens nodes at (λ walk. causes.LockHeld)
  held_already_traps at lock has nodes =
      let u = held_of at lock has in
      let taken = under_at Acquired lock at (lock_specs.acquires lock) u nodes in
      let held : (acts : List Act) (node : ℕ) → IsAt (walk_to program tokens nodes acts node) at → holds (thread_to program tokens nodes acts node) lock ≡ true =
      λ acts node here. fact_at Acquired lock at (lock_specs.acquires lock) u nodes acts node here (inl (taken acts node here)) in (
        held,
        traps_at program tokens nodes at (λ walk. causes.LockHeld) (λ acts node here.
            taken_traps (thread_to program tokens nodes acts node) lock here.task.statement (statements here.more) (taken acts node here)
            (setting_few Acquired lock at (lock_specs.acquires lock) u nodes acts node) (held acts node here)),
      )

  not_true : (b : Bool) → not b ≡ true → b ≡ false
  not_true true is = cc
  not_true false is = refl

  pub not_held_traps : (at lock : ℕ) → Contains (not_held program.locks All' (paths_of_text program)) (record { at = at; kind = kinds.NotHeld lock })
      → (nodes : ℕ) → ((acts : List Act) (node : ℕ) → IsAt (walk_to program tokens nodes acts node) at → holds (thread_to program tokens nodes acts node) lock ≡ false)
      × TrapsAt program tokens nodes at (λ walk. causes.LockNotHeld)
  not_held_traps at lock has nodes =
      let u = not_held_of at lock has in
      let given = under_at Released lock at (lock_specs.releases lock) u nodes in
      let free : (acts : List Act) (node : ℕ) → IsAt (walk_to program tokens nodes acts node) at → holds (thread_to program tokens nodes acts node) lock ≡ false =
      λ acts node here. not_true (holds (thread_to program tokens nodes acts node) lock)
      (fact_at Released lock at (lock_specs.releases lock) u nodes acts node here (inr (inl (given acts node here)))) in (
        free,
        traps_at program tokens nodes at (λ walk. causes.LockNotHeld) (λ acts node here.
            given_traps (thread_to program tokens nodes acts node) lock here.task.statement (statements here.more) (given acts node here)
            (setting_few Released lock at (lock_specs.releases lock) u nodes acts node) (free acts node here)),
      )

  pub held_at_a_barrier : (at lock : ℕ) → Contains (held_at_barrier program.locks All' (paths_of_text program)) (record { at = at; kind = kinds.HeldAtBarrier lock })
      → (nodes : ℕ) (acts : List Act) (node : ℕ) → IsAt (walk_to program tokens nodes acts node) at → holds (thread_to program tokens nodes acts node) lock ≡ true
  held_at_a_barrier at lock has nodes acts node here =
      let u = barrier_of at lock has in
      fact_at Acquired lock at is_barrier u nodes acts node here (inr (inr (under_at Acquired lock at is_barrier u nodes acts node here)))

-- ---- parts of expressions

pub record InFlat {A B : Type 0} (f : A → List B) (xs : List A) (j : ℕ) (y : B) : Type 0 where
  pub k : ℕ
  pub x : A
  pub m : ℕ
  pub at : slice_get xs k ≡ Some x
  pub has : slice_get (f x) m ≡ Some y
  pub number : length (flat_map f (take k xs)) + m ≡ j

pub split_at : {A : Type 0} (a b : List A) (j : ℕ) (y : A) → slice_get (a ++ b) j ≡ Some y
    → (slice_get a j ≡ Some y) ⊎ ((i : ℕ) × (slice_get b i ≡ Some y) × (length a + i ≡ j))
split_at [] b j y is = inr (j, is, zero_more j)
split_at (x ∷ a) b zero y is = inl is
split_at (x ∷ a) b (suc j) y is = elim (split_at a b j y is) [
  | inl h ↦ inl h
  | inr (i, h, same) ↦ inr (i, h, omega (arith, same))
]

pub in_flat_at : {A B : Type 0} (f : A → List B) (xs : List A) (j : ℕ) (y : B) → slice_get (flat_map f xs) j ≡ Some y → InFlat f xs j y
in_flat_at f [] j y is = cc
in_flat_at f (x ∷ xs) j y is = elim (split_at (f x) (flat_map f xs) j y is) [
  | inl h ↦ record { k = 0; x = x; m = j; at = refl; has = h; number = zero_more j }
  | inr (i, h, same) ↦
      let more = in_flat_at f xs i y h in
      record {
        k = suc more.k;
        x = more.x;
        m = more.m;
        at = more.at;
        has = more.has;
        number = omega (arith, length-append (f x) (flat_map f (take more.k xs)), more.number, same);
      }
]

module _ (program : Program) (tokens : List Token) (is_text : IsProgram (program_of program) tokens) where
  part_at : (j : ℕ) (n : NodeAt) → slice_get (nodes_of_text program tokens) j ≡ Some n → (from : ℕ) × IsPartAt program tokens n.at n.node from
  part_at j n is =
      let all = statements_in (block_of program.statements.items) in
      let (p, at, made) = mapped node_at (zip (places_in Nodes tokens) (flat_map nodes_of all)) j n is in
      let h = zipped (places_in Nodes tokens) (flat_map nodes_of all) j p at in
      let one = in_flat_at nodes_of all j p.1 h.1 in
      let (from, place, stands) = placed program tokens is_text one.k one.x one.at in (
        from,
        record {
          number = one.k;
          statement = one.x;
          stands = stands;
          inside = one.m;
          has = one.has ∙ ap (λ (x : NodeAt). Some x.node) made;
          place = ap (slice_get (places_in Nodes tokens)) one.number ∙ h.0 ∙ ap (λ (x : NodeAt). Some x.at) made;
        },
      )

  pub divides_by_zero : (at : ℕ) → Contains (division_by_zero (nodes_of_text program tokens)) (record { at = at; kind = kinds.DivisionByZero })
      → (part : Part) × (from : ℕ) × IsPartAt program tokens at part from
      × ((nodes : ℕ) → TrapsAt program tokens nodes from (λ walk. causes.DivisionByZero))
  divides_by_zero at has =
      let f : Found = record { at = at; kind = kinds.DivisionByZero } in
      let one = in_flat (λ n. found_at n.at (division_kind n.node)) (nodes_of_text program tokens) f has in
      let (place, kind) = in_found_at one.x.at (division_kind one.x.node) f one.has in
      let (from, part) = part_at one.k one.x one.at in (
        one.x.node,
        from,
        subst (λ a. IsPartAt program tokens a one.x.node from) place part,
        λ nodes. traps_at program tokens nodes from (λ walk. causes.DivisionByZero) (λ acts node here.
            division_traps (thread_to program tokens nodes acts node) one.x.node kinds.DivisionByZero kind here.task.statement (statements here.more)
            (subst (λ s. Contains (nodes_of s) one.x.node)
            (sym (comes_to program tokens nodes acts node (record { at = from; statement = part.statement }) part.number part.stands here)) (
              part.inside,
              slice_get_within (nodes_of part.statement) part.inside one.x.node part.has,
              index_or (nodes_of part.statement) part.inside one.x.node one.x.node part.has,
            ))),
      )

  pub below_zero_says : (at : ℕ) (always : Bool) → Contains (below_zero (nodes_of_text program tokens)) (record { at = at; kind = kinds.BelowZero always })
      → (part : Part) × (from : ℕ) × IsPartAt program tokens at part from
      × ((t : Thread) (e : Expression) (v : ℕ) → expression_of e ≡ part → value_in t e ≡ Some v → v ≡ one_if always)
  below_zero_says at always has =
      let f : Found = record { at = at; kind = kinds.BelowZero always } in
      let one = in_flat (λ n. found_at n.at (below_zero_kind n.node)) (nodes_of_text program tokens) f has in
      let (place, kind) = in_found_at one.x.at (below_zero_kind one.x.node) f one.has in
      let (from, part) = part_at one.k one.x one.at in (
        one.x.node,
        from,
        subst (λ a. IsPartAt program tokens a one.x.node from) place part,
        λ t e v same value. below_zero_is t.setting.me t.setting.nodes t.privates e always v (ap below_zero_kind same ∙ kind) value,
      )
