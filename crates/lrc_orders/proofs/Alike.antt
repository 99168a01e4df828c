-- Acts that compare equal are equal.
use Rattle.std.proofs.Common.{◌≡◌, List, [], ◌∷◌, true, refl, sym, ◌∙◌, ap}
use Rattle.std.specs.Prelude.{nat_eq}
use Rattle.std.proofs.lemmas.Bool.{and_parts, eqb-true, true≢false}
use lib.Pointwise.{pointwise}
use Rattle.lrc_trace.specs.declared.act.Act.{Act}
use Rattle.lrc_trace.specs.declared.act.Cause.{Cause}
use Rattle.lrc_trace.specs.declared.act.Cause.TheVariants.{DivisionByZero, WordOutOfRange, LockOutOfRange, LockHeld, LockNotHeld}
use Rattle.lrc_trace.specs.declared.act.Deed.{Deed}
use Rattle.lrc_trace.specs.declared.act.Deed.TheVariants.{Quiet, Print, Read, Write, Acquire, Release, Arrive, Depart, Trap, End}
use Rattle.lrc_trace.specs.contracts.act.CausePartialEq.TheImpl.{eq-value as cause_eq}
use Rattle.lrc_trace.specs.contracts.act.DeedPartialEq.TheImpl.{eq-value as deed_eq}
use Rattle.lrc_trace.specs.contracts.act.ActPartialEq.TheImpl.{eq-value as act_eq}

cause_same : (a b : Cause) → cause_eq.it a b ≡ true → a ≡ b
cause_same DivisionByZero DivisionByZero e = refl
cause_same WordOutOfRange WordOutOfRange e = refl
cause_same LockOutOfRange LockOutOfRange e = refl
cause_same LockHeld LockHeld e = refl
cause_same LockNotHeld LockNotHeld e = refl
cause_same _ _ e = absurd (true≢false (sym e))

deed_same : (a b : Deed) → deed_eq.it a b ≡ true → a ≡ b
deed_same Quiet Quiet e = refl
deed_same (Print v) (Print w) e = ap Print (eqb-true v w e)
deed_same (Read v x) (Read w y) e =
    let p = and_parts (nat_eq v w) (nat_eq x y) e in
    ap (λ n. Read n x) (eqb-true v w p.0) ∙ ap (λ n. Read w n) (eqb-true x y p.1)
deed_same (Write v x) (Write w y) e =
    let p = and_parts (nat_eq v w) (nat_eq x y) e in
    ap (λ n. Write n x) (eqb-true v w p.0) ∙ ap (λ n. Write w n) (eqb-true x y p.1)
deed_same (Acquire v) (Acquire w) e = ap Acquire (eqb-true v w e)
deed_same (Release v) (Release w) e = ap Release (eqb-true v w e)
deed_same Arrive Arrive e = refl
deed_same Depart Depart e = refl
deed_same (Trap v) (Trap w) e = ap Trap (cause_same v w e)
deed_same End End e = refl
deed_same _ _ e = absurd (true≢false (sym e))

act_same : (a b : Act) → act_eq.it a b ≡ true → a ≡ b
act_same a b e =
    let p = and_parts (nat_eq a.node b.node) (deed_eq.it a.deed b.deed) e in
    ap (λ n. record { node = n; deed = a.deed }) (eqb-true a.node b.node p.0) ∙ ap (λ d. record { node = b.node; deed = d }) (deed_same a.deed b.deed p.1)

pub acts_same : (xs ys : List Act) → pointwise act_eq.it xs ys ≡ true → xs ≡ ys
acts_same [] [] e = refl
acts_same [] (y ∷ ys) e = cc
acts_same (x ∷ xs) [] e = cc
acts_same (x ∷ xs) (y ∷ ys) e =
    let parts = and_parts (act_eq.it x y) (pointwise act_eq.it xs ys) e in
    let first = act_same x y parts.0 in
    let rest = acts_same xs ys parts.1 in
    cc
