-- The place of a name among what is declared, and more behind it.
use Rattle.std.proofs.Common.{◌≡◌, ◌<◌, ◌+◌, ℕ, suc, cond, not, Bool, true, false, List, [], ◌∷◌, ◌++◌, length, refl, sym, ap, ◌∙◌, arith}
use Rattle.std.specs.Prelude.{Some, option_map, slice_get}
use Rattle.std.specs.Str.{bytes_eq}
use Rattle.lrc_named_names.specs.Names.{Declared, Meaning, meaning_at, meaning_of, place_of}

behind_first : (d : Declared) (ds : List Declared) (n : ℕ) → slice_get (d ∷ ds) (1 + n) ≡ slice_get ds n
behind_first d ds n = let e : 1 + n ≡ suc n = omega arith in ap (λ i. slice_get (d ∷ ds) i) e

-- what a name means stays so
pub record IsKept (declared more : List Declared) (name : List ℕ) (meaning : Meaning) : Type 0 where
  pub place : place_of (declared ++ more) name ≡ place_of declared name
  pub within : place_of declared name < length declared
  pub means : meaning_of (declared ++ more) name ≡ Some meaning

one_more : (d : Declared) (ds more : List Declared) (name : List ℕ) (meaning : Meaning) (b : Bool) → bytes_eq d.name name ≡ b
    → (meaning_of ds name ≡ Some meaning → IsKept ds more name meaning) → meaning_of (d ∷ ds) name ≡ Some meaning → IsKept (d ∷ ds) more name meaning
one_more d ds more name meaning true e later means =
    let first : (l : List Declared) → place_of (d ∷ l) name ≡ 0 = λ l. ap (λ b. cond (not b) (1 + place_of l name) 0) e in
    let here : (l : List Declared) → meaning_of (d ∷ l) name ≡ Some d.meaning = λ l. ap (λ n. meaning_at (d ∷ l) n) (first l) in
    record {
      place = first (ds ++ more) ∙ sym (first ds);
      within = let h = first ds in omega (arith, h);
      means = here (ds ++ more) ∙ sym (here ds) ∙ means;
    }
one_more d ds more name meaning false e later means =
    let behind : (l : List Declared) → place_of (d ∷ l) name ≡ 1 + place_of l name = λ l. ap (λ b. cond (not b) (1 + place_of l name) 0) e in
    let on : (l : List Declared) → meaning_of (d ∷ l) name ≡ meaning_of l name =
    λ l. ap (λ n. meaning_at (d ∷ l) n) (behind l) ∙ ap (λ o. option_map (λ (x : Declared). x.meaning) o) (behind_first d l (place_of l name)) in
    let h = later (sym (on ds) ∙ means) in
    record {
      place = behind (ds ++ more) ∙ ap (λ n. 1 + n) h.place ∙ sym (behind ds);
      within = let w = h.within in let b = behind ds in omega (arith, w, b);
      means = on (ds ++ more) ∙ h.means;
    }

pub kept : (declared more : List Declared) (name : List ℕ) (meaning : Meaning) → meaning_of declared name ≡ Some meaning → IsKept declared more name meaning
kept [] more name meaning means = absurd (cc)
kept (d ∷ ds) more name meaning means = one_more d ds more name meaning (bytes_eq d.name name) refl (λ h. kept ds more name meaning h) means
