-- Reads that give what the memory has, one act more.
use Rattle.std.proofs.Common.{◌≡◌, ℕ, ◌+◌, ◌<◌, ◌≤◌, List, [], ◌∷◌, ◌++◌, length, take, drop, take-append-drop, get_or, inl, inr, refl, sym, subst, ap, ◌∙◌, arith}
use Rattle.std.specs.Prelude.{MatchOption, Option, Some, None}
use Rattle.std.proofs.lemmas.List.{length-take-le, take-take, take_more}
use Rattle.lrc_trace.specs.declared.act.Act.{Act}
use Rattle.lrc_trace.specs.declared.act.Deed.{Deed}
use Rattle.lrc_trace.specs.declared.act.Deed.TheVariants.{Quiet, Read}
use Rattle.lrc_trace.specs.Run.{Does}
use Rattle.lrc_trace.specs.Synchronization.{IsWellSynchronized, WaitsAtBarriers}
use Rattle.lrc_trace.proofs.Positions.{Does-cases, Does-longer, Does-within, arrives_before-prefix, departs_before-prefix}
use Rattle.lrc_trace.proofs.Prefixes.{IsWellSynchronized-shorter}
use Rattle.lrc_exact.specs.LocalRule.{state_after}
use Rattle.lrc_exact.specs.Rule.{Shape, State, exact_rule, exact_value, KeepsExact, ReadsExactly}
use Rattle.lrc_exact.proofs.LocalRules.{before-same, keeps-more, keeps-none, prefix-alike}
use Rattle.lrc_exact_judge.specs.First.{IsFirstInexact}
use Rattle.lrc_exact_judge.specs.declared.first.Inexact.{Inexact}

pub reads-none : (shape : Shape) → ReadsExactly shape []
reads-none shape = record {
  states = [];
  keeps = keeps-none (exact_rule shape) shape.nodes;
  reads = λ j node word value d. let lt = Does-within d in absurd (omega arith);
}

pub reads-more : (shape : Shape) (run : List Act) (act : Act) → act.node < shape.nodes → ReadsExactly shape run
    → ((word value : ℕ) (states : List State) → act.deed ≡ Read word value → KeepsExact shape run states
    → value ≡ exact_value shape run states act.node (length run) word)
    → ReadsExactly shape (run ++ act ∷ [])
reads-more shape run act within old last =
    let rule = exact_rule shape in
    let state = state_after rule run old.states (length run) act.node act.deed in
    record {
      states = old.states ++ state ∷ [];
      keeps = keeps-more rule shape.nodes run old.states act state old.keeps within refl;
      reads = λ j node word value d.
          let alike : (k : ℕ) → k ≤ length run
          → exact_value shape run old.states node k word ≡ exact_value shape (run ++ act ∷ []) (old.states ++ state ∷ []) node k word =
          λ k le. sym (ap (λ (s : State). (s.words word).value)
          (before-same rule (run ++ act ∷ []) run (old.states ++ state ∷ []) old.states k
          (prefix-alike run (act ∷ []) old.states (state ∷ []) old.keeps.stated k le) node)) in
          elim (Does-cases d) [
            | inl (lt, before) ↦ old.reads j node word value before ∙ alike j (omega arith)
            | inr (here, own, is) ↦
                last word value old.states is old.keeps
                ∙ ap (λ p. exact_value shape run old.states p (length run) word) own
                ∙ ap (λ k. exact_value shape run old.states node k word) (sym here)
                ∙ alike j (omega arith)
          ];
    }

-- what is found in the beginning of a run
pub first-in : (shape : Shape) (run : List Act) (n : ℕ) (first : Inexact) → n ≤ length run
    → IsFirstInexact shape (take n run) (length (take n run)) first → IsFirstInexact shape run n first
first-in shape run n first le old =
    let long = length-take-le n run le in
    let less = old.within in
    let same : take first.position (take n run) ≡ take first.position run = take-take first.position n run (omega arith) in
    record {
      within = omega arith;
      node = old.node;
      word = old.word;
      does = Does-of run n old.does;
      apart = old.apart;
      given = λ states keeps.
          old.given states (subst (λ xs. KeepsExact shape xs states) (sym same) keeps)
          ∙ ap (λ xs. exact_value shape xs states old.node first.position old.word) same;
      earlier = subst (λ xs. ReadsExactly shape xs) same old.earlier;
    }
  where
    Does-of : (xs : List Act) (k : ℕ) {j node : ℕ} {d : Deed} → Does (take k xs) j node d → Does xs j node d
    Does-of xs k {j} {node} {d} h = subst (λ (ys : List Act). Does ys j node d) (take-append-drop k xs) (Does-longer (drop k xs) h)

pub found-in : (shape : Shape) (run : List Act) (n : ℕ) (found : Option Inexact) → n ≤ length run
    → MatchOption found (ReadsExactly shape (take n run)) (IsFirstInexact shape (take n run) (length (take n run)))
    → MatchOption found (ReadsExactly shape (take n run)) (IsFirstInexact shape run n)
found-in shape run n None le h = h
found-in shape run n (Some first) le h = first-in shape run n first le h

-- ---- the beginning of a run, and its next act

abbrev pub no_act : Act
no_act = record { node = 0; deed = Quiet }

module _ (run : List Act) (j : ℕ) (lt : j < length run) where
  abbrev pub next_act : Act
  next_act = get_or run j no_act

  pub grown : take (j + 1) run ≡ take j run ++ next_act ∷ []
  grown = take_more run j no_act lt

  pub synchronized-next : (nodes : ℕ) → IsWellSynchronized nodes run → IsWellSynchronized nodes (take j run ++ next_act ∷ [])
  synchronized-next nodes ws =
      subst (IsWellSynchronized nodes) grown
      (IsWellSynchronized-shorter (take (j + 1) run) (drop (j + 1) run) nodes
      (subst (IsWellSynchronized nodes) (sym (take-append-drop (j + 1) run)) ws))

  pub waits-next : WaitsAtBarriers run → WaitsAtBarriers (take j run ++ next_act ∷ [])
  waits-next waits = subst WaitsAtBarriers grown (shorter (take (j + 1) run) (drop (j + 1) run) (subst WaitsAtBarriers (sym (take-append-drop (j + 1) run)) waits))
    where
      shorter : (xs more : List Act) → WaitsAtBarriers (xs ++ more) → WaitsAtBarriers xs
      shorter xs more w = record {
        departed = λ k node d h other.
            let within = Does-within h in
            let a = arrives_before-prefix xs more node k (omega arith) in
            let b = departs_before-prefix xs more node k (omega arith) in
            let few = w.departed k node d (Does-longer more h) other in
            omega arith;
      }

-- the word and the value of a read
abbrev read_word : Deed → ℕ
read_word (Read w v) = w
read_word _ = 0

abbrev read_value : Deed → ℕ
read_value (Read w v) = v
read_value _ = 0

pub one_read : {w v w' v' : ℕ} → Read w v ≡ Read w' v' → (w ≡ w') × (v ≡ v')
one_read e = (ap read_word e, ap read_value e)
