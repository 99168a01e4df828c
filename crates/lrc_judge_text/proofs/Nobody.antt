-- Where there are no nodes, there are no acts, and nothing is found in them.
use Rattle.std.proofs.Common.{◌≡◌, ◌<◌, ℕ, List, [], ◌∷◌, All, arith, inl, refl, subst, sym}
use Rattle.std.specs.Prelude.{None}
use Rattle.lrc_trace.specs.declared.act.Act.{Act}
use Rattle.lrc_trace.specs.declared.act.Deed.{Deed}
use Rattle.lrc_trace.specs.Run.{Does}
use Rattle.lrc_trace.proofs.Positions.{Does-within}
use Rattle.lrc_exact.specs.Rule.{Shape}
use Rattle.lrc_exact_judge.specs.First.{IsFound}
use Rattle.lrc_exact_judge.proofs.Reading.{reads-none}

nothing : {j node : ℕ} {deed : Deed} → Does [] j node deed → ⊥
nothing d = let lt = Does-within d in absurd (omega arith)

found-nothing : (shape : Shape) → IsFound shape [] None
found-nothing shape = record {
  n = 0;
  looked_at = record {
    within = omega arith;
    synchronized = record {
      acquires = λ j node l d. absurd (nothing d);
      releases = λ j node l d. absurd (nothing d);
      departs = λ j node d. absurd (nothing d);
    };
    waits = record { departed = λ j node deed d. absurd (nothing d) };
    all = inl refl;
  };
  is = reads-none shape;
}

no_acts : (acts : List Act) → All (λ act. act.node < 0) acts → acts ≡ []
no_acts [] all = refl
no_acts (act ∷ acts) all = let below = all 0 act (omega arith) in absurd (omega (arith, below))

-- nobody does anything
pub found-in-none : (shape : Shape) (acts : List Act) → All (λ act. act.node < 0) acts → IsFound shape acts None
found-in-none shape acts all = subst (λ (run : List Act). IsFound shape run None) (sym (no_acts acts all)) (found-nothing shape)
