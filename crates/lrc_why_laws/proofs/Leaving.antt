-- What a node does leaves it by a release or an arrive.
use Rattle.std.proofs.Common.{◌≡◌, ℕ, ◌≤◌, List, inl, inr, refl, sym, subst, ◌∙◌, arith}
use Rattle.std.proofs.lemmas.Bool.{cases_eq}
use Rattle.lrc_trace.specs.declared.act.Act.{Act}
use Rattle.lrc_trace.specs.declared.act.Deed.{Deed}
use Rattle.lrc_trace.specs.declared.act.Deed.TheVariants.{Release, Arrive}
use Rattle.lrc_trace.specs.Run.{Does}
use Rattle.lrc_trace.specs.Order.{program, lock, barrier, HappensBefore, base}
use Rattle.lrc_trace.proofs.HappensBefore.{transitive}
use Rattle.lrc_trace.proofs.Positions.{Does-node, Does-one_node}
use Rattle.lrc_why_chains.specs.Chains.{IsChain, step, longer}
use Rattle.lrc_why_chains.proofs.Paths.{chain-before, before-chain}
use Rattle.lrc_why.specs.Spread.{IsFirstTelling, IsTelling}

-- from the position on the node releases or arrives at k, which comes to j
pub record LeavesAt (run : List Act) (p i j : ℕ) : Type 0 where
  pub at : ℕ
  pub telling : IsTelling run p i at
  pub before : HappensBefore run at j

leaves_later : {run : List Act} {p i n j : ℕ} → i ≤ n → LeavesAt run p n j → LeavesAt run p i j
leaves_later le found =
    let from = found.telling.from in
    record {
      at = found.at;
      telling = record { from = omega arith; deed = found.telling.deed; does = found.telling.does; tells = found.telling.tells };
      before = found.before;
    }

by_release : {run : List Act} {p q i j l : ℕ} {a : Deed} → Does run i p a → Does run i q (Release l) → HappensBefore run i j → LeavesAt run p i j
by_release {i = i} {l = l} first h before = record {
  at = i;
  telling = record { from = omega arith; deed = Release l; does = Does-node (Does-one_node h first) h; tells = refl };
  before = before;
}

by_arrive : {run : List Act} {p q i j : ℕ} {a : Deed} → Does run i p a → Does run i q Arrive → HappensBefore run i j → LeavesAt run p i j
by_arrive {i = i} first h before = record {
  at = i;
  telling = record { from = omega arith; deed = Arrive; does = Does-node (Does-one_node h first) h; tells = refl };
  before = before;
}

by_chain : {run : List Act} {i j : ℕ} {chain : List ℕ} → IsChain run i j chain → (p q : ℕ) (a b : Deed) → Does run i p a → Does run j q b
    → (p ≡ q → ⊥) → LeavesAt run p i j
by_chain (step (program lt h g)) p q a b first second apart = absurd (apart (Does-one_node first h ∙ Does-one_node g second))
by_chain (step (lock lt h g)) p q a b first second apart = by_release first h (base (lock lt h g))
by_chain (step (barrier lt h g e)) p q a b first second apart = by_arrive first h (base (barrier lt h g e))
by_chain (longer (program lt h g) c) p q a b first second apart =
    leaves_later (omega arith) (by_chain c p q _ b (Does-node (Does-one_node h first) g) second apart)
by_chain (longer (lock lt h g) c) p q a b first second apart = by_release first h (transitive (base (lock lt h g)) (chain-before c))
by_chain (longer (barrier lt h g e) c) p q a b first second apart = by_arrive first h (transitive (base (barrier lt h g e)) (chain-before c))

pub leaves : {run : List Act} {i j p q : ℕ} {a b : Deed} → Does run i p a → Does run j q b → (p ≡ q → ⊥) → HappensBefore run i j → LeavesAt run p i j
leaves first second apart before = let (chain, is) = before-chain before in by_chain is _ _ _ _ first second apart

pub first_is_known : {run : List Act} {i j k p q : ℕ} {a b : Deed} → Does run i p a → Does run j q b → (p ≡ q → ⊥) → HappensBefore run i j
    → IsFirstTelling run p i k → HappensBefore run k j
first_is_known {run} {j = j} {k = k} {p = p} first second apart before telling =
    let found = leaves first second apart before in
    let least = telling.first found.at found.telling in
    elim (cases_eq k found.at) [
      | inl same ↦ let P : ℕ → Type 0 = λ n. HappensBefore run n j in subst P (sym same) found.before
      | inr other ↦ transitive (base (program (omega arith) telling.telling.does found.telling.does)) found.before
    ]
