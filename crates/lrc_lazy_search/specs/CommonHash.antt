-- The number by which what the nodes share is looked up.
use Rattle.std.specs.Prelude.{◌≡◌, ℕ, ◌*◌, ◌%◌, ◌^◌, List, [], ◌∷◌, Bool, true, bit_xor, fold, nat_eq}
use Rattle.std.specs.Option.{option_eq}
use Rattle.std.proofs.Common.{refl, sym, ap, ◌∙◌}
use Rattle.std.proofs.lemmas.Bool.{and_parts, eqb-true, true≢false}
use lib.Pointwise.{pointwise, bytes_decides}
use mathlib.Core.Bool.{beq}
use Rattle.std.specs.Hash.{u64}
use Rattle.lrc_lazy_known.specs.declared.known.Last.{Last}
use Rattle.lrc_lazy_known.specs.declared.known.Last.TheVariants.{Nothing, Value, Unordered}
use Rattle.lrc_lazy_known.specs.declared.known.Known.{Known}
use Rattle.lrc_lazy_known.specs.declared.known.KnownWord.{KnownWord}
use Rattle.lrc_lazy_known.specs.contracts.known.LastPartialEq.TheImpl.{eq-value as last_eq}
use Rattle.lrc_lazy_known.specs.contracts.known.KnownPartialEq.TheImpl.{eq-value as known_eq}
use Rattle.lrc_lazy_known.specs.contracts.known.KnownWordPartialEq.TheImpl.{eq-value as word_eq}
use Rattle.lrc_lazy_known.specs.contracts.known.KnowledgePartialEq.TheImpl.{eq-value as knowledge_eq}
use Rattle.lrc_lazy_search.specs.declared.parts.Common.{Common}
use Rattle.lrc_lazy_search.specs.contracts.parts.CommonPartialEq.TheImpl.{eq-value as common_eq}

-- a number of 64 bits, with another mixed in
abbrev pub mix : (all number : ℕ) → ℕ
mix all number = (bit_xor all number * 0x9e37_79b9_7f4a_7c15) % 2 ^ 64

-- a number for the last of the known writes
abbrev pub mark : Last → ℕ
mark Nothing = 0
mark (Value v) = v
mark Unordered = 1

-- values, what one knows, what is known of a word, and what the nodes share, mixed in
abbrev pub mixed_values : ℕ → List ℕ → ℕ
mixed_values all values = fold mix all values

abbrev pub mixed_known : ℕ → Known → ℕ
mixed_known all known = mix (mixed_values all known.values.value.items) (mark known.last)

abbrev pub mixed_word : ℕ → KnownWord → ℕ
mixed_word all word = fold mixed_known all word.knowers.items

abbrev pub mixed : Common → ℕ
mixed common = fold mixed_word (fold mix 0 common.arrivals.items) common.knowledge.words.items

-- ---- what compares equal gives the same number

fold_same : {A : Type 0} (E : A → A → Bool) (f : ℕ → A → ℕ) → ((n : ℕ) (x y : A) → E x y ≡ true → f n x ≡ f n y) → (n : ℕ) (xs ys : List A)
    → pointwise E xs ys ≡ true → fold f n xs ≡ fold f n ys
fold_same E f same n [] [] e = refl
fold_same E f same n [] (y ∷ ys) e = absurd (true≢false (sym e))
fold_same E f same n (x ∷ xs) [] e = absurd (true≢false (sym e))
fold_same E f same n (x ∷ xs) (y ∷ ys) e =
    let p = and_parts (E x y) (pointwise E xs ys) e in
    fold_same E f same (f n x) xs ys p.1 ∙ ap (λ m. fold f m ys) (same n x y p.0)

mark_same : (a b : Last) → last_eq.it a b ≡ true → mark a ≡ mark b
mark_same Nothing Nothing e = refl
mark_same (Value v) (Value w) e = eqb-true v w e
mark_same Unordered Unordered e = refl
mark_same _ _ e = absurd (true≢false (sym e))

known_same : (n : ℕ) (a b : Known) → known_eq.it a b ≡ true → mixed_known n a ≡ mixed_known n b
known_same n a b e =
    let p = and_parts (last_eq.it a.last b.last) _ e in
    let q = and_parts (pointwise nat_eq a.values.value.items b.values.value.items) (pointwise beq a.above.items b.above.items) p.1 in
    ap (λ values. mix (mixed_values n values) (mark a.last)) ((bytes_decides a.values.value.items b.values.value.items).0 q.0)
    ∙ ap (λ k. mix (mixed_values n b.values.value.items) k) (mark_same a.last b.last p.0)

word_same : (n : ℕ) (a b : KnownWord) → word_eq.it a b ≡ true → mixed_word n a ≡ mixed_word n b
word_same n a b e = fold_same known_eq.it mixed_known known_same n a.knowers.items b.knowers.items e

common_same : (a b : Common) → common_eq.it a b ≡ true → mixed a ≡ mixed b
common_same a b e =
    let p = and_parts (pointwise (option_eq nat_eq) a.holders.items b.holders.items) _ e in
    let q = and_parts (pointwise nat_eq a.arrivals.items b.arrivals.items) (knowledge_eq.it a.knowledge b.knowledge) p.1 in
    ap (λ n. fold mixed_word n a.knowledge.words.items)
    (fold_same nat_eq mix (λ n x y h. ap (mix n) (eqb-true x y h)) 0 a.arrivals.items b.arrivals.items q.0)
    ∙ fold_same word_eq.it mixed_word word_same (fold mix 0 b.arrivals.items) a.knowledge.words.items b.knowledge.words.items q.1

pub respects : (x y : Common) → common_eq.it x y ≡ true → u64 (mixed x) ≡ u64 (mixed y)
respects x y e = ap u64 (common_same x y e)
