-- Which locks a text holds: an acquire adds one that it did not hold, a release takes one away, and nothing else changes it.
use Rattle.std.proofs.Common.{◌≡◌, ℕ, ◌<◌, List, [], ◌∷◌, Bool, true, false, refl, sym, ap, subst, ◌∙◌}
use Rattle.std.specs.Prelude.{Option, Some, None, slice_set, if◌then◌else◌, nat_lt}
use Rattle.std.proofs.lemmas.Bool.{ltb-true}
use Rattle.std.proofs.lemmas.Option.{same_Some}
use Rattle.lrc_program.specs.declared.Statement.{Statement}
use Rattle.lrc_program.specs.declared.Statement.TheVariants.{Assign, Read, Write, Acquire, Release, Barrier, Print, If', While'}
use Rattle.lrc_trace.specs.declared.act.Cause.{Cause}
use Rattle.lrc_trace.specs.declared.act.Cause.TheVariants.{WordOutOfRange, LockOutOfRange, LockHeld, LockNotHeld}
use Rattle.lrc_trace.specs.declared.act.Deed.{Deed}
use Rattle.lrc_exec.specs.Meaning.{Thread, Next, quiet, prints, reads, writes, acquires, releases, arrives, departs, traps}
use Rattle.lrc_exec.specs.Meaning.{ends, or_trap, value_in, holds, then_holds, next_of_statement, first_act, next_of}
use Rattle.lrc_protocol.specs.Node.{Course, going, trapped, ended, course_of}
use Rattle.lrc_protocol.specs.Follows.{thread_of}
use Rattle.lrc_protocol.specs.Node.{next_in}
use Rattle.lrc_order_laws.proofs.Shift.{Acted, course_in}

-- the same locks
pub record Same (t after : Thread) : Type 0 where
  pub setting : after.setting ≡ t.setting
  pub held : after.held ≡ t.held

-- one lock of the program more, which was not held
pub record Takes (t : Thread) (lock : ℕ) (after : Thread) : Type 0 where
  pub lock_below : lock < t.setting.locks
  pub free : holds t lock ≡ false
  pub setting : after.setting ≡ t.setting
  pub held : after.held ≡ slice_set t.held lock true

-- one less, which was held
pub record Drops (t : Thread) (lock : ℕ) (after : Thread) : Type 0 where
  pub lock_below : lock < t.setting.locks
  pub holding : holds t lock ≡ true
  pub setting : after.setting ≡ t.setting
  pub held : after.held ≡ slice_set t.held lock false

-- by what the thread does next
abbrev pub Goes : Thread → Next → Thread → Type 0
Goes t (acquires lock next) after = Takes t lock after
Goes t (releases lock next) after = Drops t lock after
Goes t _ after = Same t after

abbrev pub Leads : Thread → Next → Type 0
Leads t (quiet after) = Same t after
Leads t (prints v after) = Same t after
Leads t (reads w after) = (v : ℕ) → Same t (after v)
Leads t (writes w v after) = Same t after
Leads t (acquires lock after) = Takes t lock after
Leads t (releases lock after) = Drops t lock after
Leads t (arrives after) = Same t after
Leads t (departs after) = Same t after
Leads t (traps cause) = Unit {0}
Leads t ends = Unit {0}

same : (t : Thread) (after : Thread) → after.setting ≡ t.setting → after.held ≡ t.held → Same t after
same t after s h = record { setting = s; held = h }

or_trap-leads : (t : Thread) (o : Option ℕ) (go : ℕ → Next) → ((v : ℕ) → Leads t (go v)) → Leads t (or_trap o go)
or_trap-leads t None go h = tt
or_trap-leads t (Some v) go h = h v

below-leads : (t : Thread) (b : Bool) (cause : Cause) (next : Next) → (b ≡ true → Leads t next) → Leads t (if b then next else traps cause)
below-leads t true cause next h = h refl
below-leads t false cause next h = tt

acquire-leads : (t : Thread) (b : Bool) (l : ℕ) (rest : List Statement) → holds t l ≡ b → l < t.setting.locks
    → Leads t (if b then traps LockHeld else acquires l (then_holds t rest l true))
acquire-leads t true l rest e lt = tt
acquire-leads t false l rest e lt = record { lock_below = lt; free = e; setting = refl; held = refl }

release-leads : (t : Thread) (b : Bool) (l : ℕ) (rest : List Statement) → holds t l ≡ b → l < t.setting.locks
    → Leads t (if b then releases l (then_holds t rest l false) else traps LockNotHeld)
release-leads t true l rest e lt = record { lock_below = lt; holding = e; setting = refl; held = refl }
release-leads t false l rest e lt = tt

statement-leads : (t : Thread) (s : Statement) (rest : List Statement) → Leads t (next_of_statement t s rest)
statement-leads t (Assign name value) rest = or_trap-leads t (value_in t value) _ (λ v. same t _ refl refl)
statement-leads t (Read name word) rest =
    or_trap-leads t (value_in t word) _ (λ w. below-leads t (nat_lt w t.setting.words) WordOutOfRange _ (λ b v. same t _ refl refl))
statement-leads t (Write word value) rest =
    or_trap-leads t (value_in t word) _ (λ w.
    or_trap-leads t (value_in t value) _ (λ v. below-leads t (nat_lt w t.setting.words) WordOutOfRange _ (λ b. same t _ refl refl)))
statement-leads t (Acquire lock) rest =
    or_trap-leads t (value_in t lock) _ (λ l. below-leads t (nat_lt l t.setting.locks) LockOutOfRange _
    (λ b. acquire-leads t (holds t l) l rest refl (ltb-true l t.setting.locks b)))
statement-leads t (Release lock) rest =
    or_trap-leads t (value_in t lock) _ (λ l. below-leads t (nat_lt l t.setting.locks) LockOutOfRange _
    (λ b. release-leads t (holds t l) l rest refl (ltb-true l t.setting.locks b)))
statement-leads t Barrier rest = same t _ refl refl
statement-leads t (Print value) rest = or_trap-leads t (value_in t value) _ (λ v. same t _ refl refl)
statement-leads t (If' condition p first q second) rest = or_trap-leads t (value_in t condition) _ (λ v. same t _ refl refl)
statement-leads t (While' condition p body) rest = or_trap-leads t (value_in t condition) _ (λ v. same t _ refl refl)

first-leads : (t : Thread) (rest : List Statement) → Leads t (first_act t rest)
first-leads t [] = tt
first-leads t (s ∷ rest) = statement-leads t s rest

leads_by : (t : Thread) (b : Bool) → Leads t (if b then departs (record t { arrived = false }) else first_act t t.rest)
leads_by t true = same t _ refl refl
leads_by t false = first-leads t t.rest

leads : (t : Thread) → Leads t (next_of t)
leads t = leads_by t t.arrived

-- ---- where a course goes on

pub going_same : (t after : Thread) → going t ≡ going after → t ≡ after
going_same t after e = same_Some t after (ap thread_of e)

goes_by : (t : Thread) (value : ℕ) (next : Next) (after : Thread) → Leads t next → course_of value next ≡ going after → Goes t next after
goes_by t value (quiet a) after h e = subst (Same t) (going_same a after e) h
goes_by t value (prints v a) after h e = subst (Same t) (going_same a after e) h
goes_by t value (reads w a) after h e = subst (Same t) (going_same (a value) after e) (h value)
goes_by t value (writes w v a) after h e = subst (Same t) (going_same a after e) h
goes_by t value (acquires l a) after h e = subst (Takes t l) (going_same a after e) h
goes_by t value (releases l a) after h e = subst (Drops t l) (going_same a after e) h
goes_by t value (arrives a) after h e = subst (Same t) (going_same a after e) h
goes_by t value (departs a) after h e = subst (Same t) (going_same a after e) h
goes_by t value (traps c) after h e = cc
goes_by t value ends after h e = cc

pub record Went (before : Course) (next : Next) (after : Thread) : Type 0 where
  pub thread : Thread
  pub before_is : before ≡ going thread
  pub goes : Goes thread next after

went_by : (c : Course) (value : ℕ) (next : Next) (t : Thread) → next_in c ≡ Some next → course_in value c ≡ going t → Went c next t
went_by (going t0) value next t n e =
    let is : next_of t0 ≡ next = same_Some (next_of t0) next n in
    record {
      thread = t0;
      before_is = refl;
      goes = subst (λ next. Goes t0 next t) is (goes_by t0 value (next_of t0) t (leads t0) e);
    }
went_by (trapped cause) value next t n e = cc
went_by ended value next t n e = cc

-- a text that goes on after its act came from a thread that went so
pub went : (c after : Course) (deed : Option Deed) (next : Next) (t : Thread) → Acted c deed after → next_in c ≡ Some next → after ≡ going t → Went c next t
went c after deed next t a n e = went_by c a.value next t n (sym a.course_is ∙ e)

-- what a text does next, its thread does
pub record Stands (c : Course) (next : Next) : Type 0 where
  pub thread : Thread
  pub course_is : c ≡ going thread
  pub leads_so : Leads thread next

pub stands : (c : Course) (next : Next) → next_in c ≡ Some next → Stands c next
stands (going t) next n = record { thread = t; course_is = refl; leads_so = subst (Leads t) (same_Some (next_of t) next n) (leads t) }
stands (trapped cause) next n = cc
stands ended next n = cc

trapped_goes : (cause : Cause) (t : Thread) → trapped cause ≡ going t → ⊥
trapped_goes cause t e = cc

ended_goes : (t : Thread) → ended ≡ going t → ⊥
ended_goes t e = cc

-- a text that goes on after an act came from one that went on
pub goes_now : (c after : Course) (deed : Option Deed) (t : Thread) → Acted c deed after → after ≡ going t → (next : Next) × Went c next t
goes_now (going t0) after deed t a e = (next_of t0, went (going t0) after deed (next_of t0) t a refl e)
goes_now (trapped cause) after deed t a e = absurd (trapped_goes cause t (sym a.course_is ∙ e))
goes_now ended after deed t a e = absurd (ended_goes t (sym a.course_is ∙ e))
