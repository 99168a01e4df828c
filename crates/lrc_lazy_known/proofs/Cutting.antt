-- Lists without what says nothing at their end.
use Rattle.std.proofs.Common.{◌≡◌, ℕ, ◌-◌, ◌<◌, ◌≤◌, List, [], Bool, false, inl, inr, ◌∙◌, ap, arith}
use Rattle.std.specs.Prelude.{Some, Contains, slice_get, slice_index_or}
use Rattle.std.proofs.lemmas.Bool.{cases_eq}
use Rattle.lrc_lazy_known.specs.declared.known.Known.{Known}
use Rattle.lrc_lazy_known.specs.declared.known.KnownWord.{KnownWord}
use Rattle.lrc_lazy_known.specs.Word.{values_of, IsLearned, IsSame, IsWithout, IsWritten}
use Rattle.lrc_lazy_known.specs.Made.{KnowsNothing}
use Rattle.lrc_lazy_known.specs.Effect.{knowers_in}

-- ---- rows

-- a row of which the last ones are not known
abbrev pub IsBlankFrom : List Bool → ℕ → Type 0
IsBlankFrom row width = (z : ℕ) → width ≤ z → slice_index_or row z false ≡ false

-- ---- those who know

-- those at the end know nothing
abbrev pub AreBlankFrom : List Known → ℕ → Type 0
AreBlankFrom word count = (k : ℕ) → count ≤ k → KnowsNothing word k

-- ---- words

-- the words from there on are those of which nobody knows anything
abbrev pub AreUnknownFrom : List KnownWord → ℕ → Type 0
AreUnknownFrom words count = (k : ℕ) → count ≤ k → knowers_in (slice_get words k) ≡ []

pub unknown_more : (words : List KnownWord) (count : ℕ) (word : KnownWord) → AreUnknownFrom words count → 0 < count
    → slice_get words (count - 1) ≡ Some word → word.knowers.items ≡ [] → AreUnknownFrom words (count - 1)
unknown_more words count word blank some found none k le = elim (cases_eq k (count - 1)) [
  | inl here ↦ ap (λ m. knowers_in (slice_get words m)) here ∙ ap knowers_in found ∙ none
  | inr other ↦ blank k (omega (arith, le, other, some))
]

-- ---- what is said of a word is said where its end is cut

module _ (before word left : List Known) (same : IsSame word left) where
  values_to : (k v : ℕ) → Contains (values_of left k) v → Contains (values_of word k) v
  values_to k v = (same.values k v).0

  values_from : (k v : ℕ) → Contains (values_of word k) v → Contains (values_of left k) v
  values_from k v = (same.values k v).1

  pub learned_cut : (l t : ℕ) → IsLearned before l t word → IsLearned before l t left
  learned_cut l t is = record {
    others = λ k other. same.lasts k ∙ is.others k other;
    last = same.lasts l ∙ is.last;
    values = λ k v. (λ c. (is.values k v).0 (values_to k v c), λ c. values_from k v ((is.values k v).1 c));
    above = λ k z. same.above k z ∙ is.above k z;
  }

  pub written_cut : (n value : ℕ) → IsWritten before n value word → IsWritten before n value left
  written_cut n value is = record {
    others = λ k other. same.lasts k ∙ is.others k other;
    last = same.lasts n ∙ is.last;
    values = λ k v. (λ c. (is.values k v).0 (values_to k v c), λ c. values_from k v ((is.values k v).1 c));
    above = λ k z. same.above k z ∙ is.above k z;
  }

  pub without_cut : (first dropped : ℕ) → IsWithout first dropped before word → IsWithout first dropped before left
  without_cut first dropped is = record {
    lasts = λ k. same.lasts k ∙ is.lasts k;
    values = λ k v. (λ c. (is.values k v).0 (values_to k v c), λ c. values_from k v ((is.values k v).1 c));
    above = λ k z. same.above k z ∙ is.above k z;
  }
