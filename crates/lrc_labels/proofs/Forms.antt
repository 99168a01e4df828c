-- Label lines of other forms.
use Rattle.std.proofs.Common.{◌≡◌, ◌<◌, ℕ, arith, List, [], ◌∷◌, length, map, refl, subst, sym, Err}
use Rattle.std.proofs.lemmas.List.{length-map}
use Rattle.lrc_labels.specs.declared.label.Reason.TheVariants.{AnotherForm}
use Rattle.lrc_labels.specs.Reading.{reading_of, size_fields}
use Rattle.lrc_labels.specs.Sizes.{sizes_of}

-- no form has fewer than three fields
pub too_few : (words locks : ℕ) (fields : List (List ℕ)) → length fields < 3 → reading_of words locks fields ≡ Err AnotherForm
too_few words locks [] h = refl
too_few words locks (a ∷ []) h = refl
too_few words locks (a ∷ b ∷ []) h = refl
too_few words locks (a ∷ b ∷ c ∷ rest) h = absurd (omega arith)

pub few_fields : {A : Type 0} (words locks : ℕ) (bytes : A → List ℕ) (fields : List A) → length fields < 3
    → reading_of words locks (map bytes fields) ≡ Err AnotherForm
few_fields words locks bytes fields h = too_few words locks (map bytes fields) (subst (λ n. n < 3) (sym (length-map fields bytes)) h)

-- and fewer than four fields have no sizes
no_sizes : (fields : List (List ℕ)) → length fields < 4 → [] ≡ sizes_of (size_fields fields)
no_sizes [] h = refl
no_sizes (a ∷ []) h = refl
no_sizes (a ∷ b ∷ []) h = refl
no_sizes (a ∷ b ∷ c ∷ []) h = refl
no_sizes (a ∷ b ∷ c ∷ d ∷ rest) h = absurd (omega arith)

pub no_size_fields : {A : Type 0} (bytes : A → List ℕ) (fields : List A) → length fields < 4 → [] ≡ sizes_of (size_fields (map bytes fields))
no_size_fields bytes fields h = no_sizes (map bytes fields) (subst (λ n. n < 4) (sym (length-map fields bytes)) h)
