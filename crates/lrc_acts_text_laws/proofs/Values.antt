-- A thread whose numbers fit 64 bits goes on so, where the values that it reads do.
use Rattle.std.proofs.Common.{◌≡◌, ◌<◌, ◌≤◌, ℕ, zero, suc, ◌+◌, ◌-◌, ◌*◌, ◌%◌, ◌^◌, Bool, true, false, not, List, [], ◌∷◌, ◌++◌}
use Rattle.std.proofs.Common.{Option, Some, None, length, refl, sym, subst, arith, inl, inr, replicate}
use Rattle.std.specs.Prelude.{nat_eq, nat_lt, nat_le, if◌then◌else◌, slice_index, slice_set}
use Rattle.std.proofs.lemmas.Bool.{cases_eq, cases_lt, ltb-true}
use Rattle.std.proofs.lemmas.List.{get_or-set_same, get_or-set_other, get_or-replicate, get_or_past, length-replicate, length-set}
use Rattle.std.proofs.lemmas.Nat.{mod_below}
use Rattle.lrc_program.specs.declared.Operator.{Operator}
use Rattle.lrc_program.specs.declared.Operator.TheVariants.{Add, Subtract, Multiply, Divide, Remainder, Equal, NotEqual}
use Rattle.lrc_program.specs.declared.Operator.TheVariants.{Less, LessOrEqual, Greater, GreaterOrEqual}
use Rattle.lrc_program.specs.declared.Expression.{Expression}
use Rattle.lrc_program.specs.declared.Expression.TheVariants.{Number, Private, Me, Nodes, Binary'}
use Rattle.lrc_program.specs.declared.Statement.{Statement, Row_of-Statement, end_of-Statement, more_of-Statement}
use Rattle.lrc_program.specs.declared.Statement.TheVariants.{Assign, Read, Write, Acquire, Release, Barrier, Print, If', While'}
use Rattle.lrc_program.specs.Statements.{expression_of, statement_of, row_of, block_of}
use Rattle.lrc_trace.specs.declared.act.Cause.{Cause}
use Rattle.lrc_trace.specs.declared.act.Cause.TheVariants.{WordOutOfRange, LockOutOfRange, LockHeld, LockNotHeld}
use Rattle.lrc_exec.specs.Meaning.{Setting, Thread, thread_at_start, block, one_if, chosen, operated, combined, value_of}
use Rattle.lrc_exec.specs.Meaning.{Next, quiet, prints, reads}
use Rattle.lrc_exec.specs.Meaning.{writes, acquires, releases, arrives, departs, traps, ends, or_trap, value_in, if_below}
use Rattle.lrc_exec.specs.Meaning.{holds, next_of_statement}
use Rattle.lrc_exec.specs.Meaning.{first_act, next_of}
use Rattle.lrc_acts.specs.Printed.{IsValue, IsWord, IsLock}
use Rattle.lrc_acts_text_laws.proofs.Literals.{HasValues, HasValuesIn, HasValuesOf}

-- ---- expressions

-- the value, if there is one, fits 64 bits
abbrev IsSmall : Option ℕ → Type 0
IsSmall None = Unit {0}
IsSmall (Some v) = IsValue v

-- each of these values fits
abbrev pub AreValues : List ℕ → Type 0
AreValues values = (k : ℕ) → IsValue (slice_index values k)

wrapped : (n : ℕ) → IsValue (n % 2 ^ 64)
wrapped n =
    let below : n % 18446744073709551616 < 18446744073709551616 = mod_below n 18446744073709551616 (omega arith) in
    omega (arith, below)

one_small : (holds : Bool) → IsValue (one_if holds)
one_small true = omega arith
one_small false = omega arith

operated_small : (o : Operator) (x y : ℕ) → IsValue x → IsSmall (operated o x y)
operated_small Add x y h = wrapped (x + y)
operated_small Subtract x y h = wrapped (x + (2 ^ 64 - y))
operated_small Multiply x y h = wrapped (x * y)
operated_small Divide x zero h = tt
operated_small Divide x (suc y) h = omega (arith, h)
operated_small Remainder x zero h = tt
operated_small Remainder x (suc y) h = omega (arith, h)
operated_small Equal x y h = one_small (nat_eq x y)
operated_small NotEqual x y h = one_small (not (nat_eq x y))
operated_small Less x y h = one_small (nat_lt x y)
operated_small LessOrEqual x y h = one_small (nat_le x y)
operated_small Greater x y h = one_small (nat_lt y x)
operated_small GreaterOrEqual x y h = one_small (nat_le y x)

combined_small : (o : Operator) (left right : Option ℕ) → IsSmall left → IsSmall (combined o left right)
combined_small o None right h = tt
combined_small o (Some x) None h = tt
combined_small o (Some x) (Some y) h = operated_small o x y h

module _ (me nodes : ℕ) (privates : List ℕ) (here : IsValue me) (many : IsValue nodes) (are : AreValues privates) where
  value_small : (e : Expression) → HasValues (expression_of e) → IsSmall (value_of me nodes privates e)
  value_small (Number n) h = h
  value_small (Private name) h = are name
  value_small Me h = here
  value_small Nodes h = many
  value_small (Binary' p left o q right) h =
      combined_small o (value_of me nodes privates left) (value_of me nodes privates right) (value_small left h.0)

-- ---- private values

none_large : (n : ℕ) → AreValues (replicate n 0)
none_large n k = elim (cases_lt k n) [
  | inl lt ↦ subst IsValue (sym (get_or-replicate n k 0 0 lt)) (omega arith)
  | inr le ↦ subst IsValue (sym (get_or_past (replicate n 0) k 0 (omega (arith, length-replicate {A = ℕ} n 0)))) (omega arith)
]

one_set : (values : List ℕ) (i v : ℕ) → AreValues values → IsValue v → AreValues (slice_set values i v)
one_set values i v are small k = elim (cases_eq k i) [
  | inl same ↦ elim (cases_lt i (length values)) [
    | inl lt ↦ subst (λ n. IsValue (slice_index (slice_set values i v) n)) (sym same)
        (subst IsValue (sym (get_or-set_same values i v 0 lt)) small)
    | inr le ↦ subst IsValue (sym (get_or_past (slice_set values i v) k 0 (omega (arith, length-set values i v, same)))) (omega arith)
  ]
  | inr apart ↦ subst IsValue (sym (get_or-set_other values i k v 0 apart)) (are k)
]

-- ---- statements

values_append : {m : _} (row : Row_of-Statement m) (rest : List Statement) → HasValuesOf (row_of row) → HasValuesOf (block_of rest)
    → HasValuesOf (block_of (block row ++ rest))
values_append end_of-Statement rest h k = k
values_append (more_of-Statement first more) rest h k = (h.0, values_append more rest h.1 k)

-- a setting of a program's node
pub record IsUsual (setting : Setting) : Type 0 where
  pub words : setting.words ≤ 65536
  pub locks : setting.locks ≤ 64
  pub me : setting.me < 16
  pub nodes : setting.nodes ≤ 16

-- the numbers of a thread fit
pub record IsModest (thread : Thread) : Type 0 where
  pub usual : IsUsual thread.setting
  pub rest : HasValuesOf (block_of thread.rest)
  pub privates : AreValues thread.privates

-- so are those of what it does next, and of the thread after it, where what it reads fits
abbrev pub GoesModestly : Next → Type 0
GoesModestly (quiet after) = IsModest after
GoesModestly (prints value after) = IsValue value × IsModest after
GoesModestly (reads word after) = IsWord word × ((value : ℕ) → IsValue value → IsModest (after value))
GoesModestly (writes word value after) = IsWord word × IsValue value × IsModest after
GoesModestly (acquires l after) = IsLock l × IsModest after
GoesModestly (releases l after) = IsLock l × IsModest after
GoesModestly (arrives after) = IsModest after
GoesModestly (departs after) = IsModest after
GoesModestly (traps cause) = Unit {0}
GoesModestly ends = Unit {0}

or_trap_modest : (o : Option ℕ) (go : ℕ → Next) → IsSmall o → ((v : ℕ) → IsValue v → GoesModestly (go v)) → GoesModestly (or_trap o go)
or_trap_modest None go small modest = tt
or_trap_modest (Some v) go small modest = modest v small

then_modest : (test : Bool) (next : Next) (cause : Cause) → (test ≡ true → GoesModestly next)
    → GoesModestly (if test then next else traps cause)
then_modest true next cause modest = modest refl
then_modest false next cause modest = tt

else_modest : (test : Bool) (next : Next) (cause : Cause) → GoesModestly next → GoesModestly (if test then traps cause else next)
else_modest true next cause modest = tt
else_modest false next cause modest = modest

below_modest : (n limit : ℕ) (cause : Cause) (next : Next) → (n < limit → GoesModestly next) → GoesModestly (if_below n limit cause next)
below_modest n limit cause next modest = then_modest (nat_lt n limit) next cause (λ e. modest (ltb-true n limit e))

chosen_values : (v : ℕ) (first second : List Statement) → HasValuesOf (block_of first) → HasValuesOf (block_of second)
    → HasValuesOf (block_of (chosen v first second))
chosen_values zero first second h k = k
chosen_values (suc v) first second h k = h

module _ (thread : Thread) (modest : IsModest thread) where
  value_here : (e : Expression) → HasValues (expression_of e) → IsSmall (value_in thread e)
  value_here e h =
      value_small thread.setting.me thread.setting.nodes thread.privates (omega (arith, modest.usual.me))
      (omega (arith, modest.usual.nodes)) modest.privates e h

  after_it : (after : Thread) → after.setting ≡ thread.setting → HasValuesOf (block_of after.rest) → AreValues after.privates
      → IsModest after
  after_it after same rest privates = record { usual = subst IsUsual (sym same) modest.usual; rest = rest; privates = privates }

  word_below : (w : ℕ) → w < thread.setting.words → IsWord w
  word_below w lt = omega (arith, lt, modest.usual.words)

  lock_below : (l : ℕ) → l < thread.setting.locks → IsLock l
  lock_below l lt = omega (arith, lt, modest.usual.locks)

  statement_modest : (s : Statement) (rest : List Statement) → HasValuesIn (statement_of s) → HasValuesOf (block_of rest)
      → GoesModestly (next_of_statement thread s rest)
  statement_modest (Assign name e) rest h k =
      or_trap_modest (value_in thread e) _ (value_here e h)
      (λ v small. after_it _ refl k (one_set thread.privates name v modest.privates small))
  statement_modest (Read name e) rest h k =
      or_trap_modest (value_in thread e) _ (value_here e h) (λ w _. below_modest w _ WordOutOfRange _ (λ lt. (
        word_below w lt,
        (λ v small. after_it _ refl k (one_set thread.privates name v modest.privates small)),
      )))
  statement_modest (Write word e) rest h k =
      or_trap_modest (value_in thread word) _ (value_here word h.0) (λ w _. or_trap_modest (value_in thread e) _ (value_here e h.1)
      (λ v small. below_modest w _ WordOutOfRange _ (λ lt. (word_below w lt, small, after_it _ refl k modest.privates))))
  statement_modest (Acquire e) rest h k =
      or_trap_modest (value_in thread e) _ (value_here e h) (λ l _. below_modest l _ LockOutOfRange _ (λ lt.
      else_modest (holds thread l) _ LockHeld (lock_below l lt, after_it _ refl k modest.privates)))
  statement_modest (Release e) rest h k =
      or_trap_modest (value_in thread e) _ (value_here e h) (λ l _. below_modest l _ LockOutOfRange _ (λ lt.
      then_modest (holds thread l) _ LockNotHeld (λ _. (lock_below l lt, after_it _ refl k modest.privates))))
  statement_modest Barrier rest h k = after_it _ refl k modest.privates
  statement_modest (Print e) rest h k =
      or_trap_modest (value_in thread e) _ (value_here e h) (λ v small. (small, after_it _ refl k modest.privates))
  statement_modest (If' e p a q b) rest h k =
      or_trap_modest (value_in thread e) _ (value_here e h.0) (λ v _.
      after_it _ refl
      (chosen_values v (block a ++ rest) (block b ++ rest) (values_append a rest h.1 k) (values_append b rest h.2 k)) modest.privates)
  statement_modest (While' e p a) rest h k =
      or_trap_modest (value_in thread e) _ (value_here e h.0) (λ v _.
      after_it _ refl
      (chosen_values v (block a ++ While' e p a ∷ rest) rest (values_append a (While' e p a ∷ rest) h.1 (h, k)) k) modest.privates)

  first_modest : (rest : List Statement) → HasValuesOf (block_of rest) → GoesModestly (first_act thread rest)
  first_modest [] h = tt
  first_modest (s ∷ rest) h = statement_modest s rest h.0 h.1

  next_modest : (arrived : Bool)
      → GoesModestly (if arrived then departs (record thread { arrived = false }) else first_act thread thread.rest)
  next_modest true = after_it _ refl modest.rest modest.privates
  next_modest false = first_modest thread.rest modest.rest

-- what a thread does next
pub next_of_modest : (thread : Thread) → IsModest thread → GoesModestly (next_of thread)
next_of_modest thread modest = next_modest thread modest thread.arrived

-- a thread at the beginning
pub start_modest : (setting : Setting) (statements : List Statement) → IsUsual setting → HasValuesOf (block_of statements)
    → IsModest (thread_at_start setting statements)
start_modest setting statements usual h = record { usual = usual; rest = h; privates = none_large 32 }
