-- What comes of a statement's act, where values lie in ranges.
use Rattle.std.proofs.Common.{◌≡◌, ℕ, zero, suc, List, ◌∷◌, ◌++◌, inl, inr, Bool, true, false, set, refl, sym, ap, ◌∙◌, subst, arith}
use Rattle.std.specs.Prelude.{Some}
use Rattle.std.proofs.lemmas.List.{length-set}
use Rattle.lrc_program.specs.declared.Expression.{Expression}
use Rattle.lrc_program.specs.declared.Statement.{Statement}
use Rattle.lrc_program.specs.declared.Statement.TheVariants.{Assign, Read, Write, Acquire, Release, Barrier, Print, If', While'}
use Rattle.lrc_trace.specs.declared.act.Deed.{Deed}
use Rattle.lrc_trace.specs.declared.act.Deed.TheVariants as deeds
use Rattle.lrc_exec.specs.Meaning.{Setting, Thread, block, chosen, first_act, holds, next_of, next_of_statement, then_does, value_in, value_of}
use Rattle.lrc_exec.specs.Follows.{Goes}
use Rattle.lrc_ranges.specs.declared.range.Range.{Range}
use Rattle.lrc_ranges.specs.Ranges.{AreIn}
use Rattle.lrc_ranges.proofs.Names.{both_set}
use Rattle.lrc_orders_reach.specs.declared.ahead.Ahead.{Ahead}
use Rattle.lrc_orders_reach.specs.declared.ahead.Follower.{Follower}
use Rattle.lrc_orders_reach.specs.Ahead.{AreInSome, IsAhead, IsOn}
use Rattle.lrc_orders_reach.specs.Standing.{IsAmong, IsLed, IsOpen, LeadsOn, setting_of}
use Rattle.lrc_orders_reach.proofs.Afterwards.{AllAfter, all_after, or_trap_all, then_all, else_all, below_all, next_going}

on_in : (names : List Range) (ahead : Ahead) (privates : List ℕ) → IsOn names ahead → AreIn names privates → AreInSome ahead.holds privates
on_in names ahead privates is are = subst (λ h. AreInSome h privates) (sym is) are

open_blocked : (b : Bool) → b ≡ true → b ≡ false → ⊥
open_blocked b p q = let e : true ≡ false = sym p ∙ q in cc

module _ (follower : Follower) (rest : List Statement) (names : List Range) (before : Thread) (among : IsAmong (setting_of follower) names before) where
  Comes : Statement → Ahead → Deed → Thread → Type 0
  Comes statement ahead deed after = IsOpen follower.blocked.now deed → IsLed (setting_of follower) statement rest ahead after

  value_here : (e : Expression) (v : ℕ) → value_in before e ≡ Some v → value_of follower.me follower.flat.nodes before.privates e ≡ Some v
  value_here e v is = sym (ap (λ (s : Setting). value_of s.me s.nodes before.privates e) among.setting_is) ∙ is

  each_by : (statement : Statement) (ahead : Ahead) → IsAhead follower names statement ahead → AllAfter (Comes statement ahead) (next_of_statement before statement rest)
  unfolding Comes
  each_by (Assign name e) ahead told =
      or_trap_all (Comes (Assign name e) ahead) (value_in before e) _ (λ v is may. inr (inl (record {
        setting_is = among.setting_is;
        rest_is = refl;
        size = length-set before.privates name v ∙ among.size;
        values = on_in (set names name told.1.range) ahead (set before.privates name v) told.1.goes_on
            (both_set names before.privates name told.1.range v (omega (arith, told.0, among.size)) among.values (told.1.has before.privates v among.values (value_here e v is)));
        going = among.going;
      })))
  each_by (Read name e) ahead told =
      or_trap_all (Comes (Read name e) ahead) (value_in before e) _ (λ w is. below_all (Comes (Read name e) ahead) w _ _ _ (λ v may. inr (inl (record {
        setting_is = among.setting_is;
        rest_is = refl;
        size = length-set before.privates name v ∙ among.size;
        values = on_in (set names name told.1.range) ahead (set before.privates name v) told.1.goes_on
            (both_set names before.privates name told.1.range v (omega (arith, told.0, among.size)) among.values (told.1.any v));
        going = among.going;
      }))))
  each_by (Write word e) ahead goes_on =
      or_trap_all (Comes (Write word e) ahead) (value_in before word) _ (λ w is. or_trap_all (Comes (Write word e) ahead) (value_in before e) _ (λ v is'.
      below_all (Comes (Write word e) ahead) w _ _ _ (λ may. inr (inl (record {
        setting_is = among.setting_is;
        rest_is = refl;
        size = among.size;
        values = on_in names ahead before.privates goes_on among.values;
        going = among.going;
      })))))
  each_by (Acquire e) ahead (inr goes_on) =
      or_trap_all (Comes (Acquire e) ahead) (value_in before e) _ (λ l is. below_all (Comes (Acquire e) ahead) l _ _ _ (else_all (Comes (Acquire e) ahead) (holds before l) _ _ (λ may. inr (inl (record {
        setting_is = among.setting_is;
        rest_is = refl;
        size = among.size;
        values = on_in names ahead before.privates goes_on among.values;
        going = among.going;
      })))))
  each_by (Acquire e) ahead (inl blocked) =
      or_trap_all (Comes (Acquire e) ahead) (value_in before e) _ (λ l is. below_all (Comes (Acquire e) ahead) l _ _ _ (else_all (Comes (Acquire e) ahead) (holds before l) _ _
      (λ may. absurd (open_blocked _ (blocked before.privates l among.values (value_here e l is)) may))))
  each_by (Release e) ahead goes_on =
      or_trap_all (Comes (Release e) ahead) (value_in before e) _ (λ l is. below_all (Comes (Release e) ahead) l _ _ _ (then_all (Comes (Release e) ahead) (holds before l) _ _ (λ may. inr (inl (record {
        setting_is = among.setting_is;
        rest_is = refl;
        size = among.size;
        values = on_in names ahead before.privates goes_on among.values;
        going = among.going;
      })))))
  each_by Barrier ahead by = λ may. inl refl
  each_by (Print e) ahead goes_on =
      or_trap_all (Comes (Print e) ahead) (value_in before e) _ (λ v is may. inr (inl (record {
        setting_is = among.setting_is;
        rest_is = refl;
        size = among.size;
        values = on_in names ahead before.privates goes_on among.values;
        going = among.going;
      })))
  each_by (If' e p a q b) ahead parted = or_trap_all (Comes (If' e p a q b) ahead) (value_in before e) _ by_value
    where
      by_value : (v : ℕ) → value_in before e ≡ Some v → IsOpen follower.blocked.now deeds.Quiet
          → IsLed (setting_of follower) (If' e p a q b) rest ahead (then_does before (chosen v (block a ++ rest) (block b ++ rest)))
      by_value zero is may = inr (inr (record {
        setting_is = among.setting_is;
        rest_is = refl;
        size = among.size;
        values = parted.fails before.privates 0 among.values (value_here e 0 is) refl;
        going = among.going;
      }))
      by_value (suc n) is may = inr (inl (record {
        setting_is = among.setting_is;
        rest_is = refl;
        size = among.size;
        values = parted.holds before.privates (suc n) among.values (value_here e (suc n) is) (omega arith);
        going = among.going;
      }))
  each_by (While' e p a) ahead parted = or_trap_all (Comes (While' e p a) ahead) (value_in before e) _ by_value
    where
      by_value : (v : ℕ) → value_in before e ≡ Some v → IsOpen follower.blocked.now deeds.Quiet
          → IsLed (setting_of follower) (While' e p a) rest ahead (then_does before (chosen v (block a ++ While' e p a ∷ rest) rest))
      by_value zero is may = inr (inr (record {
        setting_is = among.setting_is;
        rest_is = refl;
        size = among.size;
        values = parted.fails before.privates 0 among.values (value_here e 0 is) refl;
        going = among.going;
      }))
      by_value (suc n) is may = inr (inl (record {
        setting_is = among.setting_is;
        rest_is = refl;
        size = among.size;
        values = parted.holds before.privates (suc n) among.values (value_here e (suc n) is) (omega arith);
        going = among.going;
      }))

-- so is each thread after the act
pub led_by : (follower : Follower) (statement : Statement) (names : List Range) (ahead : Ahead) → IsAhead follower names statement ahead
    → (rest : List Statement) → LeadsOn follower statement rest names ahead
unfolding Comes
led_by follower statement names ahead by rest before after deed at among goes may =
    let next : next_of before ≡ next_of_statement before statement rest = next_going before among.going ∙ ap (first_act before) at in
    all_after (Comes follower rest names before among statement ahead) (subst (λ n. Goes n deed (Some after)) next goes)
    (each_by follower rest names before among statement ahead by) after refl may
