-- What is kept of a word's writes, after one learns what another knows.
use Rattle.std.proofs.Common.{◌≡◌, ℕ, ◌⊎◌, List, Bool, true, false, inl, inr, refl, sym, subst, ◌∙◌, ap, arith}
use Rattle.std.specs.Prelude.{◌↔◌, ◌==◌, if◌then◌else◌, Contains}
use Rattle.std.proofs.lemmas.Bool.{cases_eq, cases_lt, eq-eqb, ne_eqb, eqb-true}
use Rattle.lrc_lazy_known.specs.declared.known.Last.{Last}
use Rattle.lrc_lazy_known.specs.declared.known.Last.TheVariants.{Nothing, Value, Unordered}
use Rattle.lrc_lazy_known.specs.declared.known.Known.{Known}
use Rattle.lrc_lazy_known.specs.Word.{last_of, values_of, is_above, AreChained, IsLast, HasLast, Describes}
use Rattle.lrc_lazy_known.specs.declared.word.Source.{Source}
use Rattle.lrc_lazy_known.specs.declared.word.Source.TheVariants.{Own, Taught, Neither}
use Rattle.lrc_lazy_known.specs.Word.{source_by, source_of, last_by, above_then, above_by, IsLearned}
use Rattle.lrc_lazy_known.proofs.Sets.{or_and_parts, or_and_left, or_and_right, last_same, has_last_same}

module _ (before : ℕ → ℕ → Type 0) (known : ℕ → ℕ → ℕ → Type 0)
    (closed : (k z i m u v : ℕ) → known k m v → known z i u → before i m → known k i u)
    (one : (k z i u v : ℕ) → known k i u → known z i v → u ≡ v) (l t : ℕ) where
  abbrev both : ℕ → ℕ → Type 0
  both i v = known l i v ⊎ known t i v

  abbrev Says : Source → Type 0
  Says Own = (i v : ℕ) → known t i v → known l i v
  Says Taught = (i v : ℕ) → known l i v → known t i v
  Says Neither = AreChained before both → ⊥

  -- who knows the last of an ordered set knows all of it
  all_of : (a b : ℕ) → HasLast before (known a) (known b) → (i v : ℕ) → known a i v → known b i v
  all_of a b h i v member = elim (cases_eq i h.i) [
    | inl same ↦
        let value : v ≡ h.v = one a a h.i v h.v (subst (λ x. known a x v) same member) h.last.written in
        subst (λ x. known b x v) (sym same) (subst (λ x. known b h.i x) (sym value) h.has)
    | inr other ↦
        let most = h.last.last i v member in
        closed b a i h.i v h.v h.has member (h.last.chained i h.i v h.v member h.last.written (omega arith))
  ]

  source_says : (x y : Last) → IsLast before (known l) x → IsLast before (known t) y → (p q : Bool)
      → ((p ≡ true) ↔ HasLast before (known t) (known l)) → ((q ≡ true) ↔ HasLast before (known l) (known t)) → Says (source_by x y p q)
  source_says x Nothing a b p q f g = λ i v h. absurd (b i v h)
  source_says Nothing (Value v) a b p q f g = λ i v h. absurd (a i v h)
  source_says Nothing Unordered a b p q f g = λ i v h. absurd (a i v h)
  source_says (Value u) (Value v) a b true q f g = all_of t l (f.0 refl)
  source_says (Value u) (Value v) a b false true f g = all_of l t (g.0 refl)
  source_says (Value u) (Value v) a b false false f g = λ chained.
      elim (cases_lt a.0 b.0) [
        | inl lt ↦
            let known_too = closed t l a.0 b.0 u v b.1.written a.1.written (chained a.0 b.0 u v (inl a.1.written) (inr b.1.written) lt) in
            let e = g.1 (record { i = a.0; v = u; last = a.1; has = known_too }) in cc
        | inr le ↦
            elim (cases_lt b.0 a.0) [
              | inl lt ↦
                  let known_too = closed l t b.0 a.0 v u a.1.written b.1.written (chained b.0 a.0 v u (inr b.1.written) (inl a.1.written) lt) in
                  let e = f.1 (record { i = b.0; v = v; last = b.1; has = known_too }) in cc
              | inr le' ↦
                  let same : a.0 ≡ b.0 = omega arith in
                  let there : known l b.0 u = subst (λ x. known l x u) same a.1.written in
                  let value : u ≡ v = one l t b.0 u v there b.1.written in
                  let e = f.1 (record { i = b.0; v = v; last = b.1; has = subst (λ x. known l b.0 x) value there }) in cc
            ]
      ]
  source_says (Value u) Unordered a b p q f g = λ chained. b (λ i k u v x y lt. chained i k u v (inr x) (inr y) lt)
  source_says Unordered (Value v) a b p q f g = λ chained. a (λ i k u v x y lt. chained i k u v (inl x) (inl y) lt)
  source_says Unordered Unordered a b p q f g = λ chained. a (λ i k u v x y lt. chained i k u v (inl x) (inl y) lt)

  -- what each knows then
  abbrev pub learned : ℕ → ℕ → ℕ → Type 0
  learned k i v = known k i v ⊎ ((k ≡ l) × known t i v)

  module _ (word : List Known) (d : Describes before known word) where
    says : Says (source_of word l t)
    says = source_says (last_of word l) (last_of word t) (d.lasts l) (d.lasts t) (is_above word l t) (is_above word t l) (d.above l t) (d.above t l)

    other_to : (k : ℕ) → (k ≡ l → ⊥) → (i v : ℕ) → learned k i v → known k i v
    other_to k other i v h = elim h [ inl a ↦ a | inr (e, b) ↦ absurd (other e) ]

    last_by_source : (s : Source) → Says s → IsLast before (learned l) (last_by s (last_of word l) (last_of word t))
    last_by_source Own says = last_same before (known l) (learned l) (λ i v a. inl a)
        (λ i v h. elim h [ inl a ↦ a | inr (e, b) ↦ says i v b ]) (last_of word l) (d.lasts l)
    last_by_source Taught says = last_same before (known t) (learned l) (λ i v b. inr (refl, b))
        (λ i v h. elim h [ inl a ↦ says i v a | inr (e, b) ↦ b ]) (last_of word t) (d.lasts t)
    last_by_source Neither says = λ chained. says (λ i k u v a b lt. chained i k u v (in_learned i u a) (in_learned k v b) lt)
      where
        in_learned : (i v : ℕ) → both i v → learned l i v
        in_learned i v h = elim h [ inl a ↦ inl a | inr b ↦ inr (refl, b) ]

    -- whose last write is known then
    then_to : (k z : ℕ) → above_then word l t k z ≡ true → HasLast before (known z) (learned k)
    then_to k z e = elim (or_and_parts (is_above word k z) (k == l) (is_above word t z) e) [
      | inl a ↦ let h = (d.above k z).0 a in record { i = h.i; v = h.v; last = h.last; has = inl h.has }
      | inr (same, b) ↦ let h = (d.above t z).0 b in record { i = h.i; v = h.v; last = h.last; has = inr (eqb-true k l same, h.has) }
    ]

    then_from : (k z : ℕ) → HasLast before (known z) (learned k) → above_then word l t k z ≡ true
    then_from k z h = elim (h.has) [
      | inl a ↦ or_and_left (is_above word k z) (k == l) (is_above word t z) ((d.above k z).1 (record { i = h.i; v = h.v; last = h.last; has = a }))
      | inr (same, b) ↦
          or_and_right (is_above word k z) (k == l) (is_above word t z) (eq-eqb k l same)
          ((d.above t z).1 (record { i = h.i; v = h.v; last = h.last; has = b }))
    ]

    by_to : (k : ℕ) (s : Source) → Says s → above_by s word l t k ≡ true → HasLast before (learned l) (learned k)
    by_to k Own says e = has_last_same before (known l) (learned l) (λ i v a. inl a)
        (λ i v h. elim h [ inl a ↦ a | inr (e, b) ↦ says i v b ]) (learned k) (then_to k l e)
    by_to k Taught says e = has_last_same before (known t) (learned l) (λ i v b. inr (refl, b))
        (λ i v h. elim h [ inl a ↦ says i v a | inr (e, b) ↦ b ]) (learned k) (then_to k t e)
    by_to k Neither says e = cc

    by_from : (k : ℕ) (s : Source) → Says s → HasLast before (learned l) (learned k) → above_by s word l t k ≡ true
    by_from k Own says h = then_from k l (has_last_same before (learned l) (known l)
        (λ i v h. elim h [ inl a ↦ a | inr (e, b) ↦ says i v b ]) (λ i v a. inl a) (learned k) h)
    by_from k Taught says h = then_from k t (has_last_same before (learned l) (known t)
        (λ i v h. elim h [ inl a ↦ says i v a | inr (e, b) ↦ b ]) (λ i v b. inr (refl, b)) (learned k) h)
    by_from k Neither says h = absurd (says (λ i m u v a b lt. h.last.chained i m u v (in_learned i u a) (in_learned m v b) lt))
      where
        in_learned : (i v : ℕ) → both i v → learned l i v
        in_learned i v h = elim h [ inl a ↦ inl a | inr b ↦ inr (refl, b) ]

    module _ (after : List Known) (e : IsLearned word l t after) where
      lasts_learned : (k : ℕ) → IsLast before (learned k) (last_of after k)
      lasts_learned k = elim (cases_eq k l) [
        | inl same ↦
            subst (λ x. IsLast before (learned x) (last_of after x)) (sym same)
            (subst (λ x. IsLast before (learned l) x) (sym e.last) (last_by_source (source_of word l t) says))
        | inr other ↦
            subst (λ x. IsLast before (learned k) x) (sym (e.others k other))
            (last_same before (known k) (learned k) (λ i v a. inl a) (other_to k other) (last_of word k) (d.lasts k))
      ]

      values_to : (k v : ℕ) → Contains (values_of after k) v → (i : ℕ) × learned k i v
      values_to k v c = elim ((e.values k v).0 c) [
        | inl a ↦ let found = (d.values k v).0 a in (found.0, inl found.1)
        | inr (same, b) ↦ let found = (d.values t v).0 b in (found.0, inr (same, found.1))
      ]

      values_from : (k v : ℕ) → (i : ℕ) × learned k i v → Contains (values_of after k) v
      values_from k v (i, h) = elim h [
        | inl a ↦ (e.values k v).1 (inl ((d.values k v).1 (i, a)))
        | inr (same, b) ↦ (e.values k v).1 (inr (same, (d.values t v).1 (i, b)))
      ]

      above_to : (k z : ℕ) → is_above after k z ≡ true → HasLast before (learned z) (learned k)
      above_to k z a = elim (cases_eq z l) [
        | inl same ↦
            let is : above_by (source_of word l t) word l t k ≡ true =
            sym (ap (λ b. if b then above_by (source_of word l t) word l t k else above_then word l t k z) (eq-eqb z l same)) ∙ sym (e.above k z) ∙ a in
            subst (λ x. HasLast before (learned x) (learned k)) (sym same) (by_to k (source_of word l t) says is)
        | inr other ↦
            let is : above_then word l t k z ≡ true =
            sym (ap (λ b. if b then above_by (source_of word l t) word l t k else above_then word l t k z) (ne_eqb z l other)) ∙ sym (e.above k z) ∙ a in
            has_last_same before (known z) (learned z) (λ i v a. inl a) (other_to z other) (learned k) (then_to k z is)
      ]

      above_from : (k z : ℕ) → HasLast before (learned z) (learned k) → is_above after k z ≡ true
      above_from k z h = elim (cases_eq z l) [
        | inl same ↦
            e.above k z ∙ ap (λ b. if b then above_by (source_of word l t) word l t k else above_then word l t k z) (eq-eqb z l same)
            ∙ by_from k (source_of word l t) says (subst (λ x. HasLast before (learned x) (learned k)) same h)
        | inr other ↦
            e.above k z ∙ ap (λ b. if b then above_by (source_of word l t) word l t k else above_then word l t k z) (ne_eqb z l other)
            ∙ then_from k z (has_last_same before (learned z) (known z) (other_to z other) (λ i v a. inl a) (learned k) h)
      ]

      pub describes_learned : Describes before learned after
      describes_learned = record {
        lasts = lasts_learned;
        values = λ k v. (values_to k v, values_from k v);
        above = λ k z. (above_to k z, above_from k z);
      }
