-- What holds of the deed that a thread makes next, and of the thread after it.
use Rattle.std.proofs.Common.{◌≡◌, ℕ, Bool, true, false, refl, ap, subst}
use Rattle.std.specs.Prelude.{Option, Some, None, if◌then◌else◌, nat_lt}
use Rattle.lrc_trace.specs.declared.act.Cause.{Cause}
use Rattle.lrc_trace.specs.declared.act.Deed.{Deed}
use Rattle.lrc_trace.specs.declared.act.Deed.TheVariants.{Quiet, Print, Read, Write, Acquire, Release, Arrive, Depart}
use Rattle.lrc_exec.specs.Meaning.{Thread, Next, quiet, prints, reads, writes, acquires, releases, arrives, departs, traps, ends, next_of}
use Rattle.lrc_exec.specs.Meaning.{or_trap, if_below, first_act}
use Rattle.lrc_exec.specs.Follows.{Goes, quietly, printing, reading, writing, acquiring, releasing, arriving, departing, trapping, ending}

abbrev pub AllAfter : (Deed → Thread → Type 0) → Next → Type 0
AllAfter R (quiet t) = R Quiet t
AllAfter R (prints v t) = R (Print v) t
AllAfter R (reads w t) = (v : ℕ) → R (Read w v) (t v)
AllAfter R (writes w v t) = R (Write w v) t
AllAfter R (acquires l t) = R (Acquire l) t
AllAfter R (releases l t) = R (Release l) t
AllAfter R (arrives t) = R Arrive t
AllAfter R (departs t) = R Depart t
AllAfter R (traps c) = Unit {0}
AllAfter R ends = Unit {0}

of_some : (R : Thread → Type 0) (t u : Thread) → ◌≡◌ {A = Option Thread} (Some t) (Some u) → R t → R u
of_some R t u e r = let same : t ≡ u = cc in subst R same r

pub all_after : (R : Deed → Thread → Type 0) {next : Next} {deed : Deed} {new : Option Thread} → Goes next deed new → AllAfter R next → (after : Thread)
    → new ≡ Some after → R deed after
all_after R (quietly {t = t}) all after e = of_some (R Quiet) t after e all
all_after R (printing {t = t} {v = v}) all after e = of_some (R (Print v)) t after e all
all_after R (reading {t = t} {w = w} {v = v}) all after e = of_some (R (Read w v)) (t v) after e (all v)
all_after R (writing {t = t} {w = w} {v = v}) all after e = of_some (R (Write w v)) t after e all
all_after R (acquiring {t = t} {l = l}) all after e = of_some (R (Acquire l)) t after e all
all_after R (releasing {t = t} {l = l}) all after e = of_some (R (Release l)) t after e all
all_after R (arriving {t = t}) all after e = of_some (R Arrive) t after e all
all_after R (departing {t = t}) all after e = of_some (R Depart) t after e all
all_after R trapping all after e = cc
all_after R ending all after e = cc

module _ (R : Deed → Thread → Type 0) where
  pub or_trap_all : (o : Option ℕ) (go : ℕ → Next) → ((v : ℕ) → o ≡ Some v → AllAfter R (go v)) → AllAfter R (or_trap o go)
  or_trap_all None go all = tt
  or_trap_all (Some v) go all = all v refl

  pub then_all : (test : Bool) (next : Next) (cause : Cause) → AllAfter R next → AllAfter R (if test then next else traps cause)
  then_all true next cause all = all
  then_all false next cause all = tt

  pub else_all : (test : Bool) (next : Next) (cause : Cause) → AllAfter R next → AllAfter R (if test then traps cause else next)
  else_all true next cause all = tt
  else_all false next cause all = all

  pub below_all : (n limit : ℕ) (cause : Cause) (next : Next) → AllAfter R next → AllAfter R (if_below n limit cause next)
  below_all n limit cause next all = then_all (nat_lt n limit) next cause all

-- nothing comes after the end
pub no_act_after : {next : Next} {deed : Deed} {new : Option Thread} → Goes next deed new → next ≡ ends → (after : Thread) → new ≡ Some after → ⊥
no_act_after ending is after e = cc
no_act_after quietly is after e = cc
no_act_after printing is after e = cc
no_act_after reading is after e = cc
no_act_after writing is after e = cc
no_act_after acquiring is after e = cc
no_act_after releasing is after e = cc
no_act_after arriving is after e = cc
no_act_after departing is after e = cc
no_act_after trapping is after e = cc

pub next_waiting : (thread : Thread) → thread.arrived ≡ true → next_of thread ≡ departs (record thread { arrived = false })
next_waiting thread e = ap (λ x. if x then departs (record thread { arrived = false }) else first_act thread thread.rest) e

pub next_going : (thread : Thread) → thread.arrived ≡ false → next_of thread ≡ first_act thread thread.rest
next_going thread e = ap (λ x. if x then departs (record thread { arrived = false }) else first_act thread thread.rest) e
