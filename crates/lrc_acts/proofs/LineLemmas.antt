-- Lines that say acts, with one line more.
use Rattle.std.proofs.Common.{◌≡◌, ◌+◌, ℕ, List, [], ◌∷◌, ◌++◌, Option, length, subst, arith}
use Rattle.lrc_trace.specs.declared.act.Act.{Act}
use Rattle.lrc_acts.specs.ActsText.{SayActs, SaysAct, empty, more, none, words_on}

module _ {nodes : Option ℕ} where
  pub say_more : {number : ℕ} {lines : List (List ℕ)} {acts : List Act} {numbers : List ℕ} (line : List ℕ) (act : Act) (last : ℕ)
      → SayActs nodes number lines acts numbers → SaysAct nodes (words_on line) act → last ≡ number + length lines
      → SayActs nodes number (lines ++ line ∷ []) (acts ++ act ∷ []) (numbers ++ last ∷ [])
  say_more {number} line act last none h e =
      let same : number ≡ last = omega (arith, e) in
      subst (λ (m : ℕ). SayActs nodes number (line ∷ []) (act ∷ []) (m ∷ [])) same (more h none)
  say_more line act last (empty k n) h e = empty k (say_more line act last n h (omega (arith, e)))
  say_more line act last (more k n) h e = more k (say_more line act last n h (omega (arith, e)))

  pub say_empty : {number : ℕ} {lines : List (List ℕ)} {acts : List Act} {numbers : List ℕ} (line : List ℕ) → words_on line ≡ []
      → SayActs nodes number lines acts numbers → SayActs nodes number (lines ++ line ∷ []) acts numbers
  say_empty line is none = empty is none
  say_empty line is (empty k n) = empty k (say_empty line is n)
  say_empty line is (more k n) = more k (say_empty line is n)
