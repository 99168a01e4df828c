-- Acts compare equal to themselves.
use Rattle.std.proofs.Common.{◌≡◌, true, refl}
use Rattle.lrc_trace.specs.declared.act.Act.{Act}
use Rattle.lrc_trace.specs.declared.act.Cause.{Cause}
use Rattle.lrc_trace.specs.declared.act.Cause.TheVariants.{DivisionByZero, WordOutOfRange, LockOutOfRange, LockHeld, LockNotHeld}
use Rattle.lrc_trace.specs.declared.act.Deed.{Deed}
use Rattle.lrc_trace.specs.declared.act.Deed.TheVariants.{Quiet, Print, Read, Write, Acquire, Release, Arrive, Depart, Trap, End}
use Rattle.lrc_trace.specs.contracts.act.CausePartialEq.TheImpl.{eq-value as cause_eq}
use Rattle.lrc_trace.specs.contracts.act.DeedPartialEq.TheImpl.{eq-value as deed_eq}
use Rattle.lrc_trace.specs.contracts.act.ActPartialEq.TheImpl.{eq-value as act_eq}
use Rattle.lrc_orders.proofs.KeptAlike.{both_true, nat_itself}

cause_itself : (a : Cause) → cause_eq.it a a ≡ true
cause_itself DivisionByZero = refl
cause_itself WordOutOfRange = refl
cause_itself LockOutOfRange = refl
cause_itself LockHeld = refl
cause_itself LockNotHeld = refl

deed_itself : (d : Deed) → deed_eq.it d d ≡ true
deed_itself Quiet = refl
deed_itself (Print v) = nat_itself v
deed_itself (Read w v) = both_true _ _ (nat_itself w) (nat_itself v)
deed_itself (Write w v) = both_true _ _ (nat_itself w) (nat_itself v)
deed_itself (Acquire l) = nat_itself l
deed_itself (Release l) = nat_itself l
deed_itself Arrive = refl
deed_itself Depart = refl
deed_itself (Trap c) = cause_itself c
deed_itself End = refl

pub act_itself : (a : Act) → act_eq.it a a ≡ true
act_itself a = both_true _ _ (nat_itself a.node) (deed_itself a.deed)
