-- The first fault that is found stays.
use Rattle.std.proofs.Common.{◌≡◌, refl, sym, subst}
use Rattle.std.specs.Prelude.{Option, Some, None, is_some, false}
use Rattle.lrc_races_trace.specs.declared.fault.Fault.{Fault}
use Rattle.lrc_races_trace.specs.Formed.{IsFirstFault}
use Rattle.lrc_races_detector.proofs.Finding.{fault_here}
use Rattle.lrc_races_detector.proofs.fault_finder.FaultFinder.take.Goals as goal

none_found : (o : Option Fault) → is_some o ≡ false → o ≡ None
none_found None e = refl
none_found (Some fault) e = let never : ⊥ = cc in absurd never

pub returns-in-Some : goal.returns-in-Some
returns-in-Some c = λ events n few here old.
    let none : c.args.self.now.found ≡ None = none_found c.args.self.now.found (sym c.if-is_some.ensures) in
    record {
      found = fault_here events n c.args.event here c.in-Some.reason (c.in-Some.ensures events n (old.kept none)) (subst (λ (o : Option Fault). IsFirstFault events n o) none old.found);
      kept = λ e. let never : ⊥ = cc in absurd never;
    }
