-- What one deed does to a thread.
use Rattle.std.proofs.Common.{◌≡◌, ◌≢◌, ℕ, zero, suc, Bool, true, false, Some, None, List, [], ◌∷◌, ◌++◌, length, refl, sym, ap, ap₂, subst, ◌∙◌}
use Rattle.std.specs.Prelude.{Option, if◌then◌else◌, nat_lt, slice_index, slice_set}
use Rattle.std.proofs.lemmas.List.{get_or-set_other, length-set, append_assoc}
use Rattle.lrc_program.specs.declared.Expression.{Expression}
use Rattle.lrc_program.specs.declared.Statement.{Statement}
use Rattle.lrc_program.specs.declared.Statement.TheVariants.{Assign, Read, Write, Acquire, Release, Barrier, Print, If', While'}
use Rattle.lrc_program.specs.Statements as lang
use Rattle.lrc_program.specs.Statements.{expression_of, statement_of, row_of, block_of}
use Rattle.lrc_trace.specs.declared.act.Cause.{Cause}
use Rattle.lrc_trace.specs.declared.act.Cause.TheVariants.{LockHeld, LockNotHeld, LockOutOfRange, WordOutOfRange}
use Rattle.lrc_trace.specs.declared.act.Deed.{Deed}
use Rattle.lrc_trace.specs.declared.act.Deed.TheVariants as deeds
use Rattle.lrc_exec.specs.Meaning.{Thread, Next, quiet, prints, reads, writes, acquires, releases, arrives, departs, traps, ends}
use Rattle.lrc_exec.specs.Meaning.{block, chosen, first_act, holds, if_below, next_of, next_of_statement, or_trap, then_does, then_holds, then_keeps, value_in}
use Rattle.lrc_exec.specs.Follows.{Goes, quietly, printing, reading, writing, acquiring, releasing, arriving, departing, trapping, ending}
use Rattle.lrc_named_acts_laws.specs.Coded.{Keeps, KeepAll}
use Rattle.lrc_named_acts_laws.proofs.Coding.{block_joined, joined, row_block}

-- ---- what follows, by what a thread does next

pub after_quiet : {t : Thread} {d : Deed} {o : Option Thread} → Goes (quiet t) d o → (d ≡ deeds.Quiet) × (o ≡ Some t)
after_quiet quietly = (refl, refl)

pub after_trap : {c : Cause} {d : Deed} {o : Option Thread} → Goes (traps c) d o → (d ≡ deeds.Trap c) × (o ≡ None)
after_trap trapping = (refl, refl)

pub after_depart : {t : Thread} {d : Deed} {o : Option Thread} → Goes (departs t) d o → o ≡ Some t
after_depart departing = refl

after_print : {t : Thread} {v : ℕ} {d : Deed} {o : Option Thread} → Goes (prints v t) d o → o ≡ Some t
after_print printing = refl

after_write : {t : Thread} {w v : ℕ} {d : Deed} {o : Option Thread} → Goes (writes w v t) d o → o ≡ Some t
after_write writing = refl

after_arrive : {t : Thread} {d : Deed} {o : Option Thread} → Goes (arrives t) d o → o ≡ Some t
after_arrive arriving = refl

pub after_acquire : {t : Thread} {l : ℕ} {d : Deed} {o : Option Thread} → Goes (acquires l t) d o → (d ≡ deeds.Acquire l) × (o ≡ Some t)
after_acquire acquiring = (refl, refl)

pub after_release : {t : Thread} {l : ℕ} {d : Deed} {o : Option Thread} → Goes (releases l t) d o → (d ≡ deeds.Release l) × (o ≡ Some t)
after_release releasing = (refl, refl)

after_end : {d : Deed} {o : Option Thread} → Goes ends d o → o ≡ None
after_end ending = refl

-- a read goes on with some value
pub record IsRead (t : ℕ → Thread) (o : Option Thread) : Type 0 where
  pub value : ℕ
  pub is : o ≡ Some (t value)

pub after_read : {t : ℕ → Thread} {w : ℕ} {d : Deed} {o : Option Thread} → Goes (reads w t) d o → IsRead t o
after_read (reading {v = v}) = record { value = v; is = refl }

pub some_is : {t u : Thread} → Some t ≡ Some u → t ≡ u
some_is is = cc

pub not_none : {u : Thread} → Some u ≡ None → ⊥
not_none is = cc

-- what a thread does next that waits at no barrier, and that waits at one
pub next_here : (t : Thread) (s : Statement) (rest : List Statement) → t.rest ≡ s ∷ rest → t.arrived ≡ false → next_of t ≡ next_of_statement t s rest
next_here t s rest is here =
    ap (λ b. if b then departs (record t { arrived = false }) else first_act t t.rest) here ∙ ap (first_act t) is

pub next_waiting : (t : Thread) → t.arrived ≡ true → next_of t ≡ departs (record t { arrived = false })
next_waiting t there = ap (λ b. if b then departs (record t { arrived = false }) else first_act t t.rest) there

-- a value is there, or the thread traps
pub on_value : (o : Option ℕ) (go : ℕ → Next) {d : Deed} {u : Thread} → Goes (or_trap o go) d (Some u) → (v : ℕ) × (o ≡ Some v) × Goes (go v) d (Some u)
on_value None go g = absurd (not_none (after_trap g).1)
on_value (Some v) go g = (v, refl, g)

on_if : (b : Bool) (n : Next) (c : Cause) {d : Deed} {u : Thread} → Goes (if b then n else traps c) d (Some u) → Goes n d (Some u)
on_if true n c g = g
on_if false n c g = absurd (not_none (after_trap g).1)

on_unless : (b : Bool) (n : Next) (c : Cause) {d : Deed} {u : Thread} → Goes (if b then traps c else n) d (Some u) → Goes n d (Some u)
on_unless true n c g = absurd (not_none (after_trap g).1)
on_unless false n c g = g

-- ---- what a step keeps

-- A step leads from `t`, which has these statements to do and then others, to `u`: that has some to do and then those others. A name
-- that none of them sets keeps its value, and is set by none that is then to do.
pub record Leads (t u : Thread) (todo base : List Statement) : Type 0 where
  pub then_todo : List Statement
  pub rest : u.rest ≡ then_todo ++ base
  pub setting : u.setting ≡ t.setting
  pub size : length u.privates ≡ length t.privates
  pub worth_kept : (k : ℕ) → KeepAll k (block_of todo) → slice_index u.privates k ≡ slice_index t.privates k
  pub still_kept : (k : ℕ) → KeepAll k (block_of todo) → KeepAll k (block_of then_todo)

module _ (t : Thread) (xs base : List Statement) where
  -- no name is set by a step that goes on with `ys`
  plainly : {u : Thread} (s : Statement) (ys : List Statement) → u.rest ≡ ys ++ base → u.setting ≡ t.setting → u.privates ≡ t.privates
      → ((k : ℕ) → KeepAll k (block_of (s ∷ xs)) → KeepAll k (block_of ys)) → Leads t u (s ∷ xs) base
  plainly s ys rest setting same keeps =
      record {
        then_todo = ys;
        rest = rest;
        setting = setting;
        size = ap length same;
        worth_kept = λ k all. ap (λ l. slice_index l k) same;
        still_kept = keeps;
      }

  -- one name is set
  setting_one : {u : Thread} (s : Statement) (j v : ℕ) → u ≡ then_keeps t (xs ++ base) j v → ((k : ℕ) → Keeps k (statement_of s) → j ≢ k) → Leads t u (s ∷ xs) base
  setting_one s j v is other =
      record {
        then_todo = xs;
        rest = ap (λ x. x.rest) is;
        setting = ap (λ x. x.setting) is;
        size = ap (λ x. length x.privates) is ∙ length-set t.privates j v;
        worth_kept = λ k all. ap (λ x. slice_index x.privates k) is ∙ get_or-set_other t.privates j k v 0 (λ same. other k all.0 (sym same));
        still_kept = λ k all. all.1;
      }

  -- where a condition chooses
  keep_joined : (k : ℕ) (a b : lang.Block) → KeepAll k a → KeepAll k b → KeepAll k (joined a b)
  keep_joined k lang.empty b has more = more
  keep_joined k (lang.next s a) b has more = (has.0, keep_joined k a b has.1 more)

  keep_both : (k : ℕ) (ys zs : List Statement) → KeepAll k (block_of ys) → KeepAll k (block_of zs) → KeepAll k (block_of (ys ++ zs))
  keep_both k ys zs has more = subst (KeepAll k) (sym (block_joined ys zs)) (keep_joined k (block_of ys) (block_of zs) has more)

  chooses : {u : Thread} (s : Statement) (v : ℕ) (ys zs : List Statement) → u ≡ then_does t (chosen v (ys ++ base) (zs ++ base))
      → ((k : ℕ) → KeepAll k (block_of (s ∷ xs)) → KeepAll k (block_of ys)) → ((k : ℕ) → KeepAll k (block_of (s ∷ xs)) → KeepAll k (block_of zs))
      → Leads t u (s ∷ xs) base
  chooses s zero ys zs is on off = plainly s zs (ap (λ x. x.rest) is) (ap (λ x. x.setting) is) (ap (λ x. x.privates) is) off
  chooses s (suc n) ys zs is on off = plainly s ys (ap (λ x. x.rest) is) (ap (λ x. x.setting) is) (ap (λ x. x.privates) is) on

  pub by_statement : (s : Statement) {d : Deed} {u : Thread} → Goes (next_of_statement t s (xs ++ base)) d (Some u) → Leads t u (s ∷ xs) base
  by_statement (Assign j e) g =
      let (v, is, h) = on_value (value_in t e) (λ v. quiet (then_keeps t (xs ++ base) j v)) g in
      setting_one (Assign j e) j v (some_is (after_quiet h).1) (λ k keeps. keeps)
  by_statement (Read j e) g =
      let (w, is, h) = on_value (value_in t e) (λ w. if_below w t.setting.words WordOutOfRange (reads w (λ v. then_keeps t (xs ++ base) j v))) g in
      let r = after_read (on_if (nat_lt w t.setting.words) (reads w (λ v. then_keeps t (xs ++ base) j v)) WordOutOfRange h) in
      setting_one (Read j e) j r.value (some_is r.is) (λ k keeps. keeps)
  by_statement (Write e f) g =
      let (w, is, h) = on_value (value_in t e) (λ w. or_trap (value_in t f) (λ v. if_below w t.setting.words WordOutOfRange (writes w v (then_does t (xs ++ base))))) g in
      let (v, is_v, i) = on_value (value_in t f) (λ v. if_below w t.setting.words WordOutOfRange (writes w v (then_does t (xs ++ base)))) h in
      let same = some_is (after_write (on_if (nat_lt w t.setting.words) (writes w v (then_does t (xs ++ base))) WordOutOfRange i)) in
      plainly (Write e f) xs (ap (λ x. x.rest) same) (ap (λ x. x.setting) same) (ap (λ x. x.privates) same) (λ k all. all.1)
  by_statement (Acquire e) g =
      let (l, is, h) = on_value (value_in t e) (λ l. if_below l t.setting.locks LockOutOfRange
      (if holds t l then traps LockHeld else acquires l (then_holds t (xs ++ base) l true))) g in
      let i = on_if (nat_lt l t.setting.locks) (if holds t l then traps LockHeld else acquires l (then_holds t (xs ++ base) l true)) LockOutOfRange h in
      let same = some_is (after_acquire (on_unless (holds t l) (acquires l (then_holds t (xs ++ base) l true)) LockHeld i)).1 in
      plainly (Acquire e) xs (ap (λ x. x.rest) same) (ap (λ x. x.setting) same) (ap (λ x. x.privates) same) (λ k all. all.1)
  by_statement (Release e) g =
      let (l, is, h) = on_value (value_in t e) (λ l. if_below l t.setting.locks LockOutOfRange
      (if holds t l then releases l (then_holds t (xs ++ base) l false) else traps LockNotHeld)) g in
      let i = on_if (nat_lt l t.setting.locks) (if holds t l then releases l (then_holds t (xs ++ base) l false) else traps LockNotHeld) LockOutOfRange h in
      let same = some_is (after_release (on_if (holds t l) (releases l (then_holds t (xs ++ base) l false)) LockNotHeld i)).1 in
      plainly (Release e) xs (ap (λ x. x.rest) same) (ap (λ x. x.setting) same) (ap (λ x. x.privates) same) (λ k all. all.1)
  by_statement Barrier g =
      let same = some_is (after_arrive g) in
      plainly Barrier xs (ap (λ x. x.rest) same) (ap (λ x. x.setting) same) (ap (λ x. x.privates) same) (λ k all. all.1)
  by_statement (Print e) g =
      let (v, is, h) = on_value (value_in t e) (λ v. prints v (then_does t (xs ++ base))) g in
      let same = some_is (after_print h) in
      plainly (Print e) xs (ap (λ x. x.rest) same) (ap (λ x. x.setting) same) (ap (λ x. x.privates) same) (λ k all. all.1)
  by_statement (If' e p a q b) g =
      let (v, is, h) = on_value (value_in t e) (λ v. quiet (then_does t (chosen v (block a ++ (xs ++ base)) (block b ++ (xs ++ base))))) g in
      chooses (If' e p a q b) v (block a ++ xs) (block b ++ xs)
      (some_is (after_quiet h).1 ∙ ap₂ (λ y z. then_does t (chosen v y z)) (sym (append_assoc (block a) xs base)) (sym (append_assoc (block b) xs base)))
      (λ k all. keep_both k (block a) xs (subst (KeepAll k) (sym (row_block a)) all.0.0) all.1)
      (λ k all. keep_both k (block b) xs (subst (KeepAll k) (sym (row_block b)) all.0.1) all.1)
  by_statement (While' e p a) g =
      let (v, is, h) = on_value (value_in t e) (λ v. quiet (then_does t (chosen v (block a ++ (While' e p a ∷ (xs ++ base))) (xs ++ base)))) g in
      chooses (While' e p a) v (block a ++ (While' e p a ∷ xs)) xs
      (some_is (after_quiet h).1 ∙ ap (λ y. then_does t (chosen v y (xs ++ base))) (sym (append_assoc (block a) (While' e p a ∷ xs) base)))
      (λ k all. keep_both k (block a) (While' e p a ∷ xs) (subst (KeepAll k) (sym (row_block a)) all.0) all)
      (λ k all. all.1)
