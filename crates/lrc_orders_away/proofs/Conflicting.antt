-- Statements whose acts do not conflict with a deed, and places where they come next.
use Rattle.std.proofs.Common.{◌≡◌, ℕ, ◌<◌, ◌⊎◌, List, [], ◌∷◌, Bool, true, false, length, refl, sym, ap, ◌∙◌, subst}
use Rattle.std.specs.Prelude.{Option, Some, None, if◌then◌else◌, nat_lt, slice_get}
use Rattle.std.proofs.lemmas.Option.{slice_get_within}
use Rattle.lrc_program.specs.declared.Expression.{Expression}
use Rattle.lrc_program.specs.declared.Statement.{Statement}
use Rattle.lrc_program.specs.declared.Statement.TheVariants.{Assign, Read, Write, Acquire, Release, Barrier, Print, If', While'}
use Rattle.lrc_trace.specs.declared.act.Cause.{Cause}
use Rattle.lrc_trace.specs.declared.act.Deed.{Deed}
use Rattle.lrc_trace.specs.declared.act.Deed.TheVariants as deeds
use Rattle.lrc_exec.specs.Flat.{rest_at}
use Rattle.lrc_exec.specs.Meaning.{Setting, Thread, Next, reads, writes, acquires, traps, ends, next_of}
use Rattle.lrc_exec.specs.Meaning.{first_act, holds, if_below, next_of_statement, or_trap, value_in, value_of}
use Rattle.lrc_orders_undisputed.specs.Undisputed.{Conflicts, read_and_written, written_and_read, written_twice, acquired_twice}
use Rattle.lrc_ranges.specs.declared.range.Range.{Range}
use Rattle.lrc_orders_reach.specs.declared.ahead.Follower.{Follower}
use Rattle.lrc_orders_reach.specs.declared.standing.Standing.{Standing}
use Rattle.lrc_orders_reach.specs.Standing.{IsAmong, setting_of}
use Rattle.lrc_orders_reach.proofs.Afterwards.{next_going, next_waiting}
use Rattle.lrc_orders_reach.proofs.Placed.{rest_none}
use Rattle.lrc_orders_away.specs.Away.{AreAway, IsAway, IsAwayAt, IsAwayBy, IsNever, IsNoAcquire, IsNoRead, IsNoWrite}

-- a deed does not conflict with what comes next
abbrev pub IsCalm : Deed → Next → Type 0
IsCalm deed (reads word after) = (w v : ℕ) → deed ≡ deeds.Write w v → w ≡ word → ⊥
IsCalm deed (writes word value after) = ((w v : ℕ) → deed ≡ deeds.Read w v → w ≡ word → ⊥) × ((w v : ℕ) → deed ≡ deeds.Write w v → w ≡ word → ⊥)
IsCalm deed (acquires lock after) = (l : ℕ) → deed ≡ deeds.Acquire l → l ≡ lock → ⊥
IsCalm deed _ = Unit {0}

pub calm : {deed : Deed} {next : Next} → Conflicts deed next → IsCalm deed next → ⊥
calm (read_and_written {word = word} {value = value}) none = none.0 word value refl refl
calm (written_and_read {word = word} {value = value}) none = none word value refl refl
calm (written_twice {word = word} {value = value}) none = none.1 word value refl refl
calm (acquired_twice {lock = lock}) none = none lock refl refl

calm_or_trap : (deed : Deed) (o : Option ℕ) (go : ℕ → Next) → ((v : ℕ) → o ≡ Some v → IsCalm deed (go v)) → IsCalm deed (or_trap o go)
calm_or_trap deed None go each = tt
calm_or_trap deed (Some v) go each = each v refl

calm_then : (deed : Deed) (test : Bool) (next : Next) (cause : Cause) → IsCalm deed next → IsCalm deed (if test then next else traps cause)
calm_then deed true next cause is = is
calm_then deed false next cause is = tt

calm_else : (deed : Deed) (test : Bool) (next : Next) (cause : Cause) → IsCalm deed next → IsCalm deed (if test then traps cause else next)
calm_else deed true next cause is = tt
calm_else deed false next cause is = is

calm_below : (deed : Deed) (n limit : ℕ) (cause : Cause) (next : Next) → IsCalm deed next → IsCalm deed (if_below n limit cause next)
calm_below deed n limit cause next is = calm_then deed (nat_lt n limit) next cause is

module _ (follower : Follower) (rest : List Statement) (names : List Range) (deed : Deed) (thread : Thread)
    (among : IsAmong (setting_of follower) names thread) where
  value_here : (e : Expression) (v w : ℕ) → value_in thread e ≡ Some v → w ≡ v
      → value_of follower.me follower.flat.nodes thread.privates e ≡ Some w
  value_here e v w is same = sym (ap (λ (s : Setting). value_of s.me s.nodes thread.privates e) among.setting_is) ∙ is ∙ ap Some (sym same)

  calm_by : (statement : Statement) → IsAwayBy follower names deed statement → IsCalm deed (next_of_statement thread statement rest)
  calm_by (Assign name e) away = calm_or_trap deed (value_in thread e) _ (λ v is. tt)
  calm_by (Read name e) away =
      calm_or_trap deed (value_in thread e) _ (λ word is. calm_below deed word _ _ _
      (λ w v own same. away w v own thread.privates among.values (value_here e word w is same)))
  calm_by (Write word e) away =
      calm_or_trap deed (value_in thread word) _ (λ x is. calm_or_trap deed (value_in thread e) _ (λ y is'. calm_below deed x _ _ _ (
        λ w v own same. away.0 w v own thread.privates among.values (value_here word x w is same),
        λ w v own same. away.1 w v own thread.privates among.values (value_here word x w is same),
      )))
  calm_by (Acquire e) away =
      calm_or_trap deed (value_in thread e) _ (λ lock is. calm_below deed lock _ _ _ (calm_else deed (holds thread lock) _ _
      (λ l own same. away l own thread.privates among.values (value_here e lock l is same))))
  calm_by (Release e) away =
      calm_or_trap deed (value_in thread e) _ (λ l is. calm_below deed l _ _ _ (calm_then deed (holds thread l) _ _ tt))
  calm_by Barrier away = tt
  calm_by (Print e) away = calm_or_trap deed (value_in thread e) _ (λ v is. tt)
  calm_by (If' e p a q b) away = calm_or_trap deed (value_in thread e) _ (λ v is. tt)
  calm_by (While' e p a) away = calm_or_trap deed (value_in thread e) _ (λ v is. tt)

pub away_by : (follower : Follower) (statement : Statement) (names : List Range) (deed : Deed) → IsAwayBy follower names deed statement
    → (rest : List Statement) → IsAway follower statement rest names deed
away_by follower statement names deed away rest thread at among conflicts =
    let next : next_of thread ≡ next_of_statement thread statement rest = next_going thread among.going ∙ ap (first_act thread) at in
    calm (subst (Conflicts deed) next conflicts) (calm_by follower rest names deed thread among statement away)

-- the end, and a barrier that a thread waits at, conflict with nothing
ends_away : (deed : Deed) (next : Next) → next ≡ ends → Conflicts deed next → ⊥
ends_away deed next is conflicts = calm (subst (Conflicts deed) is conflicts) tt

pub waits_away : (deed : Deed) (thread : Thread) → thread.arrived ≡ true → Conflicts deed (next_of thread) → ⊥
waits_away deed thread waits conflicts = calm (subst (Conflicts deed) (next_waiting thread waits) conflicts) tt

-- so do a statement at a place that does not, and a place where none is left
pub away_there : (follower : Follower) (standing : Standing) (statement : Statement) (rest : List Statement) (deed : Deed)
    → rest_at follower.flat.code.now standing.place ≡ statement ∷ rest → IsAwayBy follower standing.names deed statement → IsAwayAt follower standing deed
away_there follower standing statement rest deed at away thread stands =
    away_by follower statement standing.names deed away rest thread (stands.rest_is ∙ at) stands.among

pub none_there : (follower : Follower) (standing : Standing) (deed : Deed) → (standing.place ≡ 0) ⊎ (length follower.flat.code.now < standing.place)
    → IsAwayAt follower standing deed
none_there follower standing deed where_is thread stands conflicts =
    let none : thread.rest ≡ [] = stands.rest_is ∙ rest_none follower.flat.code.now standing.place where_is in
    ends_away deed (next_of thread) (next_going thread stands.among.going ∙ ap (first_act thread) none) conflicts

pub away_all : (follower : Follower) (all : List Standing) (deed : Deed)
    → ((k : ℕ) (standing : Standing) → k < length all → slice_get all k ≡ Some standing → IsAwayAt follower standing deed) → AreAway follower all deed
away_all follower all deed each thread is_in =
    each is_in.place is_in.standing (slice_get_within all is_in.place is_in.standing is_in.there) is_in.there thread is_in.stands

-- ---- by what the deed is

pub others_away : (follower : Follower) (names : List Range) (deed : Deed) (statement : Statement)
    → ((name : _) (e : _) → statement ≡ Read name e → ⊥) → ((e f : _) → statement ≡ Write e f → ⊥) → ((e : _) → statement ≡ Acquire e → ⊥)
    → IsAwayBy follower names deed statement
others_away follower names deed (Read name e) no_read no_write no_acquire = absurd (no_read name e refl)
others_away follower names deed (Write e f) no_read no_write no_acquire = absurd (no_write e f refl)
others_away follower names deed (Acquire e) no_read no_write no_acquire = absurd (no_acquire e refl)
others_away follower names deed _ no_read no_write no_acquire = tt

module _ (follower : Follower) (e : Expression) (names : List Range) (deed : Deed) where
  pub never_read : (word value number : ℕ) → deed ≡ deeds.Read word value → number ≡ word → IsNever follower e names number → IsNoRead follower e names deed
  never_read word value number is from never w v also =
      let both : deeds.Read word value ≡ deeds.Read w v = sym is ∙ also in
      let same : number ≡ w = cc in
      subst (λ x. IsNever follower e names x) same never

  pub never_written : (word value number : ℕ) → deed ≡ deeds.Write word value → number ≡ word → IsNever follower e names number
      → IsNoWrite follower e names deed
  never_written word value number is from never w v also =
      let both : deeds.Write word value ≡ deeds.Write w v = sym is ∙ also in
      let same : number ≡ w = cc in
      subst (λ x. IsNever follower e names x) same never

  pub never_acquired : (lock number : ℕ) → deed ≡ deeds.Acquire lock → number ≡ lock → IsNever follower e names number → IsNoAcquire follower e names deed
  never_acquired lock number is from never l also =
      let both : deeds.Acquire lock ≡ deeds.Acquire l = sym is ∙ also in
      let same : number ≡ l = cc in
      subst (λ x. IsNever follower e names x) same never

  pub not_read : ((w v : ℕ) → deed ≡ deeds.Read w v → ⊥) → IsNoRead follower e names deed
  not_read none w v is = absurd (none w v is)

  pub not_written : ((w v : ℕ) → deed ≡ deeds.Write w v → ⊥) → IsNoWrite follower e names deed
  not_written none w v is = absurd (none w v is)

  pub not_acquired : ((l : ℕ) → deed ≡ deeds.Acquire l → ⊥) → IsNoAcquire follower e names deed
  not_acquired none l is = absurd (none l is)

  -- a read is no write
  pub read_not_written : (word value : ℕ) → deed ≡ deeds.Read word value → IsNoWrite follower e names deed
  read_not_written word value is = not_written (λ w v also. let both : deeds.Read word value ≡ deeds.Write w v = sym is ∙ also in cc)

  pub written_not_read : (word value : ℕ) → deed ≡ deeds.Write word value → IsNoRead follower e names deed
  written_not_read word value is = not_read (λ w v also. let both : deeds.Write word value ≡ deeds.Read w v = sym is ∙ also in cc)
