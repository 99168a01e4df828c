-- Chains of a trace, and what they say of happens before.
use Rattle.std.proofs.Common.{◌≡◌, ℕ, ◌<◌, List, [], ◌∷◌, ◌∙◌, get_or, length, sym, arith}
use Rattle.std.specs.Prelude.{Option}
use Rattle.std.proofs.lemmas.Option.{slice_get-get_or, same_Some}
use Rattle.lrc_races_trace.specs.declared.event.Event.{Event}
use Rattle.lrc_races_trace.specs.Order.{Precedes, HappensBefore, base, further}
use Rattle.lrc_races_trace.proofs.HappensBefore.{Precedes-forward, transitive}
use Rattle.lrc_races_why.specs.Cycles.{cycle_in, AreNumbers}
use Rattle.lrc_chains.specs.Chains.{IsChain, step, longer}
use Rattle.lrc_chains.proofs.Paths.{extended}

pub goes_forward : (events : List Event) (i j : ℕ) → Precedes events i j → i < j
goes_forward events i j p = Precedes-forward p

module _ {events : List Event} where
  pub chain-before : {i j : ℕ} {chain : List ℕ} → IsChain (Precedes events) i j chain → HappensBefore events i j
  chain-before (step p) = base p
  chain-before (longer p c) = transitive (base p) (chain-before c)

  pub before-chain : {i j : ℕ} → HappensBefore events i j → (chain : List ℕ) × IsChain (Precedes events) i j chain
  before-chain {i} {j} (base p) = (i ∷ j ∷ [], step p)
  before-chain (further h p) = let (chain, c) = before-chain h in extended c p

-- the number of an event, as both are read
pub number_read : (events : List Event) (numbers : List (Option ℕ)) (k : ℕ) (d : Event) (none : Option ℕ) → AreNumbers events numbers → k < length events
    → get_or numbers k none ≡ cycle_in events k (get_or events k d).thread (get_or events k d).operation
number_read events numbers k d none are lt =
    let all = are.all in
    let stored = slice_get-get_or numbers k none (omega (arith, all, lt)) in
    same_Some (get_or numbers k none) (cycle_in events k (get_or events k d).thread (get_or events k d).operation)
    (sym stored ∙ are.each k (get_or events k d) (record { is = slice_get-get_or events k d lt }))
