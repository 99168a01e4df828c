-- What is tidy before is tidy after.
use Rattle.std.proofs.Common.{◌≡◌, ℕ, List, [], length, Bool, true, false, refl, sym, subst, ◌∙◌, ap, arith}
use Rattle.std.specs.Prelude.{Option, Some, None, Contains, slice_get, slice_index_or}
use Rattle.std.proofs.lemmas.Option.{slice_get_within}
use Rattle.lrc_lazy_known.specs.declared.known.Known.{Known}
use Rattle.lrc_lazy_known.specs.declared.known.KnownWord.{KnownWord}
use Rattle.lrc_lazy_known.specs.declared.known.Knowledge.{Knowledge}
use Rattle.lrc_lazy_known.specs.Word.{last_in, values_in, row_in, values_of}
use Rattle.lrc_lazy_known.specs.Made.{AreEach, IsCopyOf}
use Rattle.lrc_lazy_known.specs.Effect.{knowers_in, word_of}
use Rattle.lrc_lazy_known.specs.Tidy.{AreCut, EndsIn, IsCut, IsRising, IsTidy, IsTidyKnown, IsTidyWord, IsWrittenAs}
use Rattle.lrc_lazy_known.proofs.Made.{get_at}

-- ---- those who know

values_in_rise : (word : List Known) → IsTidyWord word → (k : ℕ) (o : Option Known) → slice_get word k ≡ o → IsRising (values_in o)
values_in_rise word tidy k None e = tt
values_in_rise word tidy k (Some known) e = (tidy.each k known e).values

pub values_rise : (word : List Known) (k : ℕ) → IsTidyWord word → IsRising (values_of word k)
values_rise word k tidy = values_in_rise word tidy k (slice_get word k) refl

no_end : EndsIn (λ (b : Bool). b ≡ true) []
no_end k x found len = absurd (omega (arith, len))

row_in_ends : (word : List Known) → IsTidyWord word → (k : ℕ) (o : Option Known) → slice_get word k ≡ o → EndsIn (λ b. b ≡ true) (row_in o)
row_in_ends word tidy k None e = no_end
row_in_ends word tidy k (Some known) e = (tidy.each k known e).above

-- so is each that is written as it was
pub tidy_as : (word : List Known) (k : ℕ) (known : Known) → IsWrittenAs word k known → IsTidyWord word → IsTidyKnown known
tidy_as word k known is tidy = record {
  values = subst IsRising (sym is.values) (values_rise word k tidy);
  above = subst (EndsIn (λ b. b ≡ true)) (sym is.above) (row_in_ends word tidy k (slice_get word k) refl);
}

pub copied_as : (word after : List Known) (count : ℕ) → AreEach (IsWrittenAs word) after count → AreEach (IsCopyOf word) after count
copied_as word after count all = record {
  len = all.len;
  each = λ k x at.
      let is = all.each k x at in
      record {
        last = is.last;
        values = λ v. (subst (λ l. Contains l v) is.values, subst (λ l. Contains l v) (sym is.values));
        above = λ z. ap (λ row. slice_index_or row z false) is.above;
      };
}

pub same_tidy : (word after : List Known) (count : ℕ) → AreEach (IsWrittenAs word) after count → length word ≡ count → IsTidyWord word → IsTidyWord after
same_tidy word after count all long tidy = record {
  each = λ k known at. tidy_as word k known (all.each k known at) tidy;
  ends = λ k known at len nothing.
      let is = all.each k known at in
      let size = all.len in
      let found = get_at word k (omega (arith, len, long, size)) in
      tidy.ends k found.0 found.1 (omega (arith, len, long, size)) (record {
        last = sym (ap last_in found.1) ∙ sym is.last ∙ nothing.last;
        values = sym (ap values_in found.1) ∙ sym is.values ∙ nothing.values;
        above = sym (ap row_in found.1) ∙ sym is.above ∙ nothing.above;
      });
}

-- what is made of tidy ones, and cut
pub cut_tidy : (word made left : List Known) (count : ℕ) → AreEach (λ k known. IsTidyWord word → IsTidyKnown known) made count → IsCut made left
    → IsTidyWord word → IsTidyWord left
cut_tidy word made left count all is tidy = record {
  each = λ k known at. all.each k known (is.kept k known at) tidy;
  ends = is.ends;
}

none_tidy : IsTidyWord []
none_tidy = record {
  each = λ k known at. let lt = slice_get_within [] k known at in absurd (omega (arith, lt));
  ends = λ k known at len. absurd (omega (arith, len));
}

knowers_tidy : (knowledge : Knowledge) → IsTidy knowledge → (k : ℕ) (o : Option KnownWord) → slice_get knowledge.words.items k ≡ o → IsTidyWord (knowers_in o)
knowers_tidy knowledge tidy k None e = none_tidy
knowers_tidy knowledge tidy k (Some word) e = tidy.each k word e

pub tidy_word : (knowledge : Knowledge) (k : ℕ) → IsTidy knowledge → IsTidyWord (word_of knowledge k)
tidy_word knowledge k tidy = knowers_tidy knowledge tidy k (slice_get knowledge.words.items k) refl

pub knowledge_tidy : (old new : Knowledge) (made : List KnownWord) (count : ℕ) → AreEach (λ k (word : KnownWord). IsTidy old → IsTidyWord word.knowers.items) made count
    → AreCut made new.words.items → IsTidy old → IsTidy new
knowledge_tidy old new made count all is tidy = record {
  each = λ k word at. all.each k word (is.kept k word at) tidy;
  ends = is.ends;
}
