-- Threads that have the same values of the names that matter go on alike.
use Rattle.std.proofs.Common.{◌≡◌, ℕ, zero, suc, ◌<◌, ◌≤◌, ◌&&◌, ◌||◌, List, [], ◌∷◌, ◌++◌, ◌⊎◌, Bool, true, false, inl, inr, length, refl, sym, subst, ◌∙◌, ap, arith}
use Rattle.std.specs.Prelude.{Option, Some, None, not, nat_eq, nat_lt, if◌then◌else◌, slice_index, slice_set}
use Rattle.std.proofs.lemmas.Bool.{and_parts, cases_eq, cases_lt, eqb-true, eq-eqb, true≢false}
use Rattle.std.proofs.lemmas.List.{length-set, get_or-set_same, get_or-set_other, get_or_past}
use Rattle.lrc_program.specs.declared.Expression.{Expression}
use Rattle.lrc_program.specs.declared.Expression.TheVariants.{Number, Private, Me, Nodes, Binary'}
use Rattle.lrc_program.specs.declared.Statement.{Statement, Row_of-Statement, end_of-Statement, more_of-Statement}
use Rattle.lrc_program.specs.declared.Statement.TheVariants.{Assign, Read, Write, Acquire, Release, Barrier, Print, If', While'}
use Rattle.lrc_trace.specs.declared.act.Cause.{Cause}
use Rattle.lrc_trace.specs.declared.act.Cause.TheVariants.{WordOutOfRange, LockOutOfRange, LockHeld, LockNotHeld}
use Rattle.lrc_exec.specs.Meaning.{Setting, Thread, Next, block, chosen, combined, first_act, holds, if_below, next_of, next_of_statement, or_trap, then_does, then_holds, then_keeps, value_in, value_of, with_value}
use Rattle.lrc_exec.specs.Meaning as meaning
use Rattle.lrc_orders_laws.specs.Alike.{DoAlike, GoOnAlike, quiet, prints, reads, writes, acquires, releases, arrives, departs, traps, ends}
use Rattle.lrc_orders_laws.specs.Names.{AgreeWhereItMatters, matters, matters_in, matters_still, no_name, uses}

or_cases : (a b : Bool) → (a || b) ≡ true → (a ≡ true) ⊎ (b ≡ true)
or_cases true b e = inl refl
or_cases false b e = inr e

or_first : (a b : Bool) → a ≡ true → (a || b) ≡ true
or_first true b e = refl
or_first false b e = absurd (true≢false (sym e))

or_second : (a b : Bool) → b ≡ true → (a || b) ≡ true
or_second true b e = refl
or_second false b e = e

and_both : (a b : Bool) → a ≡ true → b ≡ true → (a && b) ≡ true
and_both true b e f = f
and_both false b e f = absurd (true≢false (sym e))

-- ---- what matters behind

abbrev Within : (all some more : ℕ → Bool) → Type 0
Within all some more = (name : ℕ) → all name ≡ true → (some name ≡ true) ⊎ (more name ≡ true)

module _ (more : ℕ → Bool) where
  unset : (all some : ℕ → Bool) → Within all some more → (kept : Bool) (name : ℕ) → (all name && kept) ≡ true
      → ((some name && kept) ≡ true) ⊎ (more name ≡ true)
  unset all some w kept name e =
      let p = and_parts (all name) kept e in
      elim (w name p.0) [
        | inl it ↦ inl (and_both (some name) kept it p.1)
        | inr it ↦ inr it
      ]

  behind_use : (name : ℕ) (own all some : Bool) → (all ≡ true → (some ≡ true) ⊎ (more name ≡ true)) → (own || all) ≡ true
      → ((own || some) ≡ true) ⊎ (more name ≡ true)
  behind_use name own all some f e = elim (or_cases own all e) [
    | inl it ↦ inl (or_first own some it)
    | inr it ↦ elim (f it) [
      | inl there ↦ inl (or_second own some there)
      | inr there ↦ inr there
    ]
  ]

  either : (name : ℕ) (a b x y : Bool) → (a ≡ true → (x ≡ true) ⊎ (more name ≡ true)) → (b ≡ true → (y ≡ true) ⊎ (more name ≡ true)) → (a || b) ≡ true
      → ((x || y) ≡ true) ⊎ (more name ≡ true)
  either name a b x y f g e = elim (or_cases a b e) [
    | inl it ↦ elim (f it) [
      | inl there ↦ inl (or_first x y there)
      | inr there ↦ inr there
    ]
    | inr it ↦ elim (g it) [
      | inl there ↦ inl (or_second x y there)
      | inr there ↦ inr there
    ]
  ]

  mutual
    between : (s : Statement) (all some : ℕ → Bool) → Within all some more → Within (matters s all) (matters s some) more
    between (Assign own value) all some w name e = behind_use name (uses value name) _ _ (unset all some w (not (nat_eq own name)) name) e
    between (Read own word) all some w name e = behind_use name (uses word name) _ _ (unset all some w (not (nat_eq own name)) name) e
    between (Write word value) all some w name e = behind_use name (uses word name) _ _ (behind_use name (uses value name) _ _ (w name)) e
    between (Acquire lock) all some w name e = behind_use name (uses lock name) _ _ (w name) e
    between (Release lock) all some w name e = behind_use name (uses lock name) _ _ (w name) e
    between Barrier all some w name e = w name e
    between (Print value) all some w name e = behind_use name (uses value name) _ _ (w name) e
    between (If' condition p first q second) all some w name e =
        behind_use name (uses condition name) _ _ (either name _ _ _ _ (between_in first all some w name) (between_in second all some w name)) e
    between (While' condition p body) all some w name e =
        behind_use name (uses condition name) _ _ (either name _ _ _ _ (w name) (λ it. inl it)) e

    between_in : {m : _} (row : Row_of-Statement m) (all some : ℕ → Bool) → Within all some more → Within (matters_in row all) (matters_in row some) more
    between_in end_of-Statement all some w name e = w name e
    between_in (more_of-Statement first row) all some w name e = between first (matters_in row all) (matters_in row some) (between_in row all some w) name e

-- in front of the statements of a block, and of more
in_front : {m : _} (row : Row_of-Statement m) (more : List Statement) → matters_still (block row ++ more) ≡ matters_in row (matters_still more)
in_front end_of-Statement more = refl
in_front (more_of-Statement first row) more = ap (matters first) (in_front row more)

-- where a condition of a loop holds, what matters in front of its body does in front of the loop
around : (condition : Expression) (p : _) (body : Row_of-Statement _) (rest : List Statement) (name : ℕ)
    → matters_still (block body ++ While' condition p body ∷ rest) name ≡ true → matters_still (While' condition p body ∷ rest) name ≡ true
around condition p body rest name e =
    let loop = matters_still (While' condition p body ∷ rest) in
    let inside : matters_in body loop name ≡ true = sym (ap (λ (f : ℕ → Bool). f name) (in_front body (While' condition p body ∷ rest))) ∙ e in
    elim (between_in loop body loop no_name (λ n it. inr it) name inside) [
      | inl it ↦ or_second (uses condition name) _ (or_second (matters_still rest name) (matters_in body no_name name) it)
      | inr it ↦ it
    ]

-- ---- values

module _ (me nodes : ℕ) (xs ys : List ℕ) where
  same_value : (e : Expression) → ((name : ℕ) → uses e name ≡ true → slice_index xs name ≡ slice_index ys name) → value_of me nodes xs e ≡ value_of me nodes ys e
  same_value (Number n) same = refl
  same_value (Private own) same = ap Some (same own (eq-eqb own own refl))
  same_value Me same = refl
  same_value Nodes same = refl
  same_value (Binary' p left operator q right) same =
      ap (λ x. combined operator x (value_of me nodes xs right)) (same_value left (λ name it. same name (or_first (uses left name) (uses right name) it)))
      ∙ ap (combined operator (value_of me nodes ys left)) (same_value right (λ name it. same name (or_second (uses left name) (uses right name) it)))

-- a value is put in both
set_both : (xs ys : List ℕ) (own value name : ℕ) → length xs ≡ length ys → (nat_eq own name ≡ false → slice_index xs name ≡ slice_index ys name)
    → slice_index (slice_set xs own value) name ≡ slice_index (slice_set ys own value) name
set_both xs ys own value name long same = elim (cases_eq name own) [
  | inl is ↦ elim (cases_lt own (length xs)) [
    | inl lt ↦
        let at : (zs : List ℕ) → own < length zs → slice_index (slice_set zs own value) name ≡ value = λ zs inside.
        ap (slice_index (slice_set zs own value)) is ∙ get_or-set_same zs own value 0 inside in
        at xs lt ∙ sym (at ys (omega (arith, lt, long)))
    | inr le ↦
        let past : (zs : List ℕ) → length zs ≤ own → slice_index (slice_set zs own value) name ≡ 0 = λ zs out.
        let e = length-set zs own value in get_or_past (slice_set zs own value) name 0 (omega (arith, out, is, e)) in
        past xs le ∙ sym (past ys (omega (arith, le, long)))
  ]
  | inr apart ↦
      get_or-set_other xs own name value 0 apart ∙ same (differs own name apart) ∙ sym (get_or-set_other ys own name value 0 apart)
]
  where
    differs : (m n : ℕ) → (n ≡ m → ⊥) → nat_eq m n ≡ false
    differs m n apart = unequal (nat_eq m n) (λ e. apart (sym (eqb-true m n e)))
      where
        unequal : (b : Bool) → (b ≡ true → ⊥) → b ≡ false
        unequal true never = absurd (never refl)
        unequal false never = refl

-- ---- one statement

abbrev Agree : Thread → Thread → Type 0
Agree = AgreeWhereItMatters

-- the thread with other values
abbrev with_values : Thread → List ℕ → Thread
with_values t ys = record t { privates = ys }

or_trapped : (o : Option ℕ) (f g : ℕ → Next) → ((v : ℕ) → DoAlike Agree (f v) (g v)) → DoAlike Agree (or_trap o f) (or_trap o g)
or_trapped None f g each = traps
or_trapped (Some v) f g each = each v

if_within : (b : Bool) (cause : Cause) (m n : Next) → DoAlike Agree m n → DoAlike Agree (if b then m else meaning.traps cause) (if b then n else meaning.traps cause)
if_within true cause m n both = both
if_within false cause m n both = traps

module _ (t : Thread) (ys : List ℕ) (count : length t.privates ≡ length ys) where
  abbrev u : Thread
  u = with_values t ys

  -- goes on with the value of an expression
  valued : (e : Expression) (f g : ℕ → Next) → ((name : ℕ) → uses e name ≡ true → slice_index t.privates name ≡ slice_index ys name)
      → ((v : ℕ) → DoAlike Agree (f v) (g v)) → DoAlike Agree (with_value t e f) (with_value u e g)
  valued e f g same each =
      subst (λ o. DoAlike Agree (with_value t e f) (or_trap o g)) (same_value t.setting.me t.setting.nodes t.privates ys e same)
      (or_trapped (value_in t e) f g each)

  -- nothing but what is still to do is another then, and locks
  goes : (rest : List Statement) (held : List Bool) (arrived : Bool)
      → ((name : ℕ) → matters_still rest name ≡ true → slice_index t.privates name ≡ slice_index ys name)
      → Agree (record t { rest = rest; held = held; arrived = arrived }) (record u { rest = rest; held = held; arrived = arrived })
  goes rest held arrived same = record { setting = refl; rest = refl; held = refl; arrived = refl; count = count; names = same }

  -- or a name is set
  keeps : (rest : List Statement) (own value : ℕ)
      → ((name : ℕ) → matters_still rest name ≡ true → nat_eq own name ≡ false → slice_index t.privates name ≡ slice_index ys name)
      → Agree (then_keeps t rest own value) (then_keeps u rest own value)
  keeps rest own value same = record {
    setting = refl;
    rest = refl;
    held = refl;
    arrived = refl;
    count = length-set t.privates own value ∙ count ∙ sym (length-set ys own value);
    names = λ name it. set_both t.privates ys own value name count (same name it);
  }

  -- a name that matters behind and is not set matters in front
  still_kept : (used behind equal : Bool) → behind ≡ true → equal ≡ false → (used || (behind && not equal)) ≡ true
  still_kept used behind equal it apart = or_second used (behind && not equal) (and_both behind (not equal) it (ap not apart))

  branch : (v : ℕ) (one other rest : List Statement) → ((name : ℕ) → matters_still one name ≡ true → slice_index t.privates name ≡ slice_index ys name)
      → ((name : ℕ) → matters_still other name ≡ true → slice_index t.privates name ≡ slice_index ys name)
      → Agree (then_does t (chosen v one other)) (then_does u (chosen v one other))
  branch zero one other rest f g = goes other t.held t.arrived g
  branch (suc v) one other rest f g = goes one t.held t.arrived f

  lock_taken : (b : Bool) (lock : ℕ) (rest : List Statement) → ((name : ℕ) → matters_still rest name ≡ true → slice_index t.privates name ≡ slice_index ys name)
      → DoAlike Agree (if b then meaning.traps LockHeld else meaning.acquires lock (then_holds t rest lock true))
      (if b then meaning.traps LockHeld else meaning.acquires lock (then_holds u rest lock true))
  lock_taken true lock rest same = traps
  lock_taken false lock rest same = acquires (goes rest (slice_set t.held lock true) t.arrived same)

  lock_left : (b : Bool) (lock : ℕ) (rest : List Statement) → ((name : ℕ) → matters_still rest name ≡ true → slice_index t.privates name ≡ slice_index ys name)
      → DoAlike Agree (if b then meaning.releases lock (then_holds t rest lock false) else meaning.traps LockNotHeld)
      (if b then meaning.releases lock (then_holds u rest lock false) else meaning.traps LockNotHeld)
  lock_left true lock rest same = releases (goes rest (slice_set t.held lock false) t.arrived same)
  lock_left false lock rest same = traps

  statement_alike : (s : Statement) (rest : List Statement)
      → ((name : ℕ) → matters_still (s ∷ rest) name ≡ true → slice_index t.privates name ≡ slice_index ys name)
      → DoAlike Agree (next_of_statement t s rest) (next_of_statement u s rest)
  statement_alike (Assign own value) rest same =
      valued value _ _ (λ name it. same name (or_first (uses value name) _ it))
      (λ v. quiet (keeps rest own v (λ name it apart. same name (still_kept (uses value name) (matters_still rest name) (nat_eq own name) it apart))))
  statement_alike (Read own word) rest same =
      valued word _ _ (λ name it. same name (or_first (uses word name) _ it))
      (λ w. if_within (nat_lt w t.setting.words) WordOutOfRange _ _
      (reads (λ v. keeps rest own v (λ name it apart. same name (still_kept (uses word name) (matters_still rest name) (nat_eq own name) it apart)))))
  statement_alike (Write word value) rest same =
      valued word _ _ (λ name it. same name (or_first (uses word name) _ it))
      (λ w. valued value _ _ (λ name it. same name (or_second (uses word name) _ (or_first (uses value name) _ it)))
      (λ v. if_within (nat_lt w t.setting.words) WordOutOfRange _ _
      (writes (goes rest t.held t.arrived (λ name it. same name (or_second (uses word name) _ (or_second (uses value name) _ it)))))))
  statement_alike (Acquire lock) rest same =
      valued lock _ _ (λ name it. same name (or_first (uses lock name) _ it))
      (λ l. if_within (nat_lt l t.setting.locks) LockOutOfRange _ _
      (lock_taken (holds t l) l rest (λ name it. same name (or_second (uses lock name) _ it))))
  statement_alike (Release lock) rest same =
      valued lock _ _ (λ name it. same name (or_first (uses lock name) _ it))
      (λ l. if_within (nat_lt l t.setting.locks) LockOutOfRange _ _
      (lock_left (holds t l) l rest (λ name it. same name (or_second (uses lock name) _ it))))
  statement_alike Barrier rest same = arrives (goes rest t.held true same)
  statement_alike (Print value) rest same =
      valued value _ _ (λ name it. same name (or_first (uses value name) _ it))
      (λ v. prints (goes rest t.held t.arrived (λ name it. same name (or_second (uses value name) _ it))))
  statement_alike (If' condition p first q second) rest same =
      valued condition _ _ (λ name it. same name (or_first (uses condition name) _ it))
      (λ v. quiet (branch v (block first ++ rest) (block second ++ rest) rest
      (λ name it. same name (or_second (uses condition name) _
      (or_first _ (matters_in second (matters_still rest) name) (sym (ap (λ (f : ℕ → Bool). f name) (in_front first rest)) ∙ it))))
      (λ name it. same name (or_second (uses condition name) _
      (or_second (matters_in first (matters_still rest) name) _ (sym (ap (λ (f : ℕ → Bool). f name) (in_front second rest)) ∙ it))))))
  statement_alike (While' condition p body) rest same =
      valued condition _ _ (λ name it. same name (or_first (uses condition name) _ it))
      (λ v. quiet (branch v (block body ++ While' condition p body ∷ rest) rest rest
      (λ name it. same name (around condition p body rest name it))
      (λ name it. same name (or_second (uses condition name) _ (or_first (matters_still rest name) _ it)))))

  first_alike : (rest : List Statement) → ((name : ℕ) → matters_still rest name ≡ true → slice_index t.privates name ≡ slice_index ys name)
      → DoAlike Agree (first_act t rest) (first_act u rest)
  first_alike [] same = ends
  first_alike (s ∷ rest) same = statement_alike s rest same

  next_alike : (b : Bool) → ((name : ℕ) → matters_still t.rest name ≡ true → slice_index t.privates name ≡ slice_index ys name)
      → DoAlike Agree (if b then meaning.departs (record t { arrived = false }) else first_act t t.rest)
      (if b then meaning.departs (record u { arrived = false }) else first_act u u.rest)
  next_alike true same = departs (goes t.rest t.held false same)
  next_alike false same = first_alike t.rest same

pub go_on : GoOnAlike AgreeWhereItMatters
go_on = record {
  each = λ t u a.
      let is : with_values t u.privates ≡ u = same_thread t u a in
      subst (λ x. DoAlike AgreeWhereItMatters (next_of t) (next_of x)) is (next_alike t u.privates a.count t.arrived a.names);
}
  where
    same_thread : (t u : Thread) → AgreeWhereItMatters t u → with_values t u.privates ≡ u
    same_thread t u a =
        ap (λ s. with_setting s t.rest t.held t.arrived) a.setting ∙ ap (λ r. with_setting u.setting r t.held t.arrived) a.rest
        ∙ ap (λ h. with_setting u.setting u.rest h t.arrived) a.held ∙ ap (λ b. with_setting u.setting u.rest u.held b) a.arrived
      where
        with_setting : Setting → List Statement → List Bool → Bool → Thread
        with_setting s r h b = record { setting = s; rest = r; privates = u.privates; held = h; arrived = b }
