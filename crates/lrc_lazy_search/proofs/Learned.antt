-- What is known of a word is put in its place, and stays written in one way.
use Rattle.std.proofs.Common.{◌≡◌, ℕ, zero, suc, ◌+◌, ◌<◌, List, [], ◌∷◌, length, inl, inr, refl, sym, subst, ◌∙◌, ap, arith}
use Rattle.std.specs.Prelude.{Some, max, slice_get, slice_set}
use Rattle.std.proofs.lemmas.Bool.{cases_eq}
use Rattle.std.proofs.lemmas.List.{length-set}
use Rattle.std.proofs.lemmas.Option.{same_Some}
use Rattle.lrc_orders.proofs.Keeping.{item_at}
use Rattle.lrc_lazy_known.specs.declared.known.KnownWord.{KnownWord}
use Rattle.lrc_lazy_known.specs.declared.known.Knowledge.{Knowledge}
use Rattle.lrc_lazy_known.specs.declared.word.Effect.TheVariants.{Writes}
use Rattle.lrc_lazy_known.specs.Word.{IsSame}
use Rattle.lrc_lazy_known.specs.Effect.{knowers_in, word_of, IsAfter, IsKnowledgeAfter}
use Rattle.lrc_lazy_known.specs.Tidy.{IsTidy, IsTidyWord, IsWordOfSome}
use Rattle.lrc_lazy_known.proofs.Keeping.{tidy_word}
use Rattle.lrc_lazy_search.proofs.Same.{same_itself}

-- the item that was put, and another one
set_here : {A : Type 0} (xs : List A) (i : ℕ) (x y : A) → slice_get (slice_set xs i x) i ≡ Some y → x ≡ y
set_here [] i x y e = cc
set_here (z ∷ zs) zero x y e = same_Some x y e
set_here (z ∷ zs) (suc i) x y e = set_here zs i x y e

set_there : {A : Type 0} (xs : List A) (i k : ℕ) (x y : A) → (k ≡ i → ⊥) → slice_get (slice_set xs i x) k ≡ Some y → slice_get xs k ≡ Some y
set_there [] i k x y apart e = e
set_there (z ∷ zs) zero zero x y apart e = absurd (apart refl)
set_there (z ∷ zs) zero (suc k) x y apart e = e
set_there (z ∷ zs) (suc i) zero x y apart e = e
set_there (z ∷ zs) (suc i) (suc k) x y apart e = set_there zs i k x y (λ same. apart (ap suc same)) e

set_same : {A : Type 0} (xs : List A) (i : ℕ) (x : A) → i < length xs → slice_get (slice_set xs i x) i ≡ Some x
set_same [] i x lt = absurd (omega (arith, lt))
set_same (z ∷ zs) zero x lt = refl
set_same (z ∷ zs) (suc i) x lt = set_same zs i x (omega (arith, lt))

set_other : {A : Type 0} (xs : List A) (i k : ℕ) (x : A) → (k ≡ i → ⊥) → slice_get (slice_set xs i x) k ≡ slice_get xs k
set_other [] i k x apart = refl
set_other (z ∷ zs) zero zero x apart = absurd (apart refl)
set_other (z ∷ zs) zero (suc k) x apart = refl
set_other (z ∷ zs) (suc i) zero x apart = refl
set_other (z ∷ zs) (suc i) (suc k) x apart = set_other zs i k x (λ same. apart (ap suc same))

-- what is known of the word is put in its place, and what is known of the others is the same
module _ (old room new : Knowledge) (word : ℕ) (known : KnownWord) (same : (w : ℕ) → word_of room w ≡ word_of old w)
    (within : word < length room.words.items) (put : new.words.items ≡ slice_set room.words.items word known) (writer value : ℕ)
    (after : IsAfter (Writes writer word value) word (word_of room word) known.knowers.items) where
  own : word_of new word ≡ known.knowers.items
  own = ap knowers_in (ap (λ l. slice_get l word) put ∙ set_same room.words.items word known within)

  others : (w : ℕ) → (w ≡ word → ⊥) → word_of new w ≡ word_of old w
  others w apart = ap knowers_in (ap (λ l. slice_get l w) put ∙ set_other room.words.items word w known apart) ∙ same w

  own_after : IsAfter (Writes writer word value) word (word_of old word) (word_of new word)
  own_after =
      subst (λ l. IsAfter (Writes writer word value) word (word_of old word) l) (sym own)
      (subst (λ l. IsAfter (Writes writer word value) word l known.knowers.items) (same word) after)

  pub put_known : IsKnowledgeAfter (Writes writer word value) old new
  put_known w = elim (cases_eq w word) [
    | inl is ↦ subst (λ n. IsAfter (Writes writer word value) n (word_of old n) (word_of new n)) (sym is) own_after
    | inr apart ↦ inr (λ e. apart (sym e), subst (λ l. IsSame (word_of old w) l) (sym (others w apart)) (same_itself (word_of old w)))
  ]

-- there is room for the word and no more, and what is put in its place is tidy and says something
module _ (old room new : Knowledge) (word : ℕ) (known : KnownWord) (same : (w : ℕ) → word_of room w ≡ word_of old w)
    (size : length room.words.items ≡ max (length old.words.items) (word + 1)) (put : new.words.items ≡ slice_set room.words.items word known)
    (made : IsTidyWord (word_of room word) → IsTidyWord known.knowers.items) (some : IsWordOfSome known) (tidy : IsTidy old) where
  here : (w : KnownWord) → slice_get new.words.items word ≡ Some w → known ≡ w
  here w at = set_here room.words.items word known w (ap (λ l. slice_get l word) (sym put) ∙ at)

  there : (k : ℕ) (w : KnownWord) → (k ≡ word → ⊥) → slice_get new.words.items k ≡ Some w → word_of old k ≡ w.knowers.items
  there k w apart at =
      let stood = set_there room.words.items word k known w apart (ap (λ l. slice_get l k) (sym put) ∙ at) in
      sym (same k) ∙ ap knowers_in stood

  each : (k : ℕ) (w : KnownWord) → slice_get new.words.items k ≡ Some w → IsTidyWord w.knowers.items
  each k w at = elim (cases_eq k word) [
    | inl is ↦
        subst (λ (x : KnownWord). IsTidyWord x.knowers.items) (here w (ap (slice_get new.words.items) (sym is) ∙ at))
        (made (subst IsTidyWord (sym (same word)) (tidy_word old word tidy)))
    | inr apart ↦ subst IsTidyWord (there k w apart at) (tidy_word old k tidy)
  ]

  ends : (k : ℕ) (w : KnownWord) → slice_get new.words.items k ≡ Some w → length new.words.items ≡ k + 1 → IsWordOfSome w
  ends k w at long = elim (cases_eq k word) [
    | inl is ↦ subst IsWordOfSome (here w (ap (slice_get new.words.items) (sym is) ∙ at)) some
    | inr apart ↦
        let count = ap (λ (xs : List KnownWord). length xs) put ∙ length-set room.words.items word known in
        let all : length old.words.items ≡ k + 1 = omega (arith, long, count, size, apart) in
        let last = item_at old.words.items k (omega (arith, all)) in
        λ none. tidy.ends k last.0 last.1 all (sym (ap knowers_in last.1) ∙ there k w apart at ∙ none)
  ]

  pub put_tidy : IsTidy new
  put_tidy = record { each = each; ends = ends }
