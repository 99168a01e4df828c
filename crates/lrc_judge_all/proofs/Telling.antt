-- Lines that are told position by position.
use Rattle.std.proofs.Common.{◌≡◌, ◌∙◌, ◌+◌, ◌<◌, ◌++◌, ◌∷◌, [], ℕ, List, ap, append-nil, append_assoc, arith, refl, sym}
use Rattle.lrc_why_chains.specs.Writes.{AreExactly}
use Rattle.lrc_why_chains.proofs.Exactly.{IsBelow, below_all, below_push, below_same}
use Rattle.lrc_judge_text.specs.Judgement.{AddsText}
use Rattle.lrc_judge_all.specs.Each.{AreLinesOf, TellsEach, no_lines, one_more}
use Rattle.lrc_judge_all.specs.Steps.{TellsAt, told, untold}

-- the positions before n are told behind what stood there
pub record IsToldTo (IsSo : ℕ → Type 0) (Tells : ℕ → List ℕ → Type 0) (n : ℕ) (start now : List ℕ) : Type 0 where
  pub added : List ℕ
  pub whole : now ≡ start ++ added
  pub positions : List ℕ
  pub are : AreExactly (IsBelow IsSo n) positions
  pub lines : AreLinesOf Tells positions added

module _ (IsSo : ℕ → Type 0) (Tells : ℕ → List ℕ → Type 0) where
  pub told_none : (n : ℕ) (start : List ℕ) → ((i : ℕ) → i < n → IsSo i → ⊥) → IsToldTo IsSo Tells n start start
  told_none n start none = record {
    added = [];
    whole = sym (append-nil start);
    positions = [];
    are = record {
      ascending = λ k lt. absurd (omega (arith, lt));
      exact = λ i. (λ (k, lt, is). absurd (omega (arith, lt)), λ (lt, so). absurd (none i lt so));
    };
    lines = no_lines;
  }

  pub told_more : (n : ℕ) (start now next : List ℕ) → IsToldTo IsSo Tells n start now → TellsAt IsSo Tells n now next
      → IsToldTo IsSo Tells (n + 1) start next
  told_more n start now next old (told {line} so tells is) = record {
    added = old.added ++ line;
    whole = is ∙ ap (λ l. l ++ line) old.whole ∙ append_assoc start old.added line;
    positions = old.positions ++ n ∷ [];
    are = below_push IsSo old.positions (old.positions ++ n ∷ []) n so refl old.are;
    lines = one_more old.lines tells;
  }
  told_more n start now next old (untold not is) = record {
    added = old.added;
    whole = is ∙ old.whole;
    positions = old.positions;
    are = below_same IsSo old.positions n not old.are;
    lines = old.lines;
  }

  pub told_all : (n : ℕ) (start now : List ℕ) → ((i : ℕ) → IsSo i → i < n) → IsToldTo IsSo Tells n start now
      → AddsText start now (TellsEach IsSo Tells)
  told_all n start now all old = record {
    added = old.added;
    whole = old.whole;
    so = record { positions = old.positions; are = below_all IsSo old.positions n all old.are; lines = old.lines };
  }
