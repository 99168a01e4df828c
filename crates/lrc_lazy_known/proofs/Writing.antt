-- What is kept of a word's writes, after one of those who know writes it.
use Rattle.std.proofs.Common.{◌≡◌, ℕ, ◌<◌, ◌≤◌, ◌⊎◌, List, Bool, true, false, inl, inr, refl, sym, subst, ◌∙◌, ap, arith}
use Rattle.std.specs.Prelude.{◌==◌, ◌&&◌, if◌then◌else◌, Contains}
use Rattle.std.proofs.lemmas.Bool.{cases_eq, eq-eqb, ne_eqb, eqb-true, and_parts}
use Rattle.lrc_lazy_known.specs.declared.known.Last.{Last}
use Rattle.lrc_lazy_known.specs.declared.known.Last.TheVariants.{Nothing, Value, Unordered}
use Rattle.lrc_lazy_known.specs.declared.known.Known.{Known}
use Rattle.lrc_lazy_known.specs.Word.{last_of, values_of, is_above, AreChained, IsLastOf, IsLast, HasLast, Describes, last_then, is_ordered, IsWritten}
use Rattle.lrc_lazy_known.proofs.Sets.{last_same, has_last_same}

and_true : (a b : Bool) → a ≡ true → b ≡ true → (a && b) ≡ true
and_true true true e f = refl
and_true true false e f = cc
and_true false b e f = cc

-- the write is at a position past all that are known, and all that its writer knows comes before
module _ (before : ℕ → ℕ → Type 0) (known : ℕ → ℕ → ℕ → Type 0) (j n value : ℕ) (fresh : (k i v : ℕ) → known k i v → i < j)
    (last : (i v : ℕ) → known n i v → before i j) where
  abbrev pub written : ℕ → ℕ → ℕ → Type 0
  written k i v = known k i v ⊎ ((k ≡ n) × (i ≡ j) × (v ≡ value))

  other_to : (k : ℕ) → (k ≡ n → ⊥) → (i v : ℕ) → written k i v → known k i v
  other_to k other i v h = elim h [ inl a ↦ a | inr (e, p, q) ↦ absurd (other e) ]

  chained_on : AreChained before (known n) → AreChained before (written n)
  chained_on chained i k u v (inl a) (inl b) lt = chained i k u v a b lt
  chained_on chained i k u v (inl a) (inr (e, here, is)) lt = subst (λ x. before i x) (sym here) (last i u a)
  chained_on chained i k u v (inr (e, here, is)) (inl b) lt = let f = fresh n k v b in absurd (omega arith)
  chained_on chained i k u v (inr (e, here, is)) (inr (e', here', is')) lt = absurd (omega arith)

  chained_back : AreChained before (written n) → AreChained before (known n)
  chained_back chained i k u v a b lt = chained i k u v (inl a) (inl b) lt

  last_on : AreChained before (known n) → IsLastOf before (written n) j value
  last_on chained = record {
    written = inr (refl, refl, refl);
    last = λ k u h. elim h [ inl a ↦ let f = fresh n k u a in omega arith | inr (e, here, is) ↦ omega arith ];
    chained = chained_on chained;
  }

  last_by_writer : (x : Last) → IsLast before (known n) x → IsLast before (written n) (last_then x value)
  last_by_writer Nothing none = (j, last_on (λ i k u v a b lt. absurd (none i u a)))
  last_by_writer (Value w) l = (j, last_on l.1.chained)
  last_by_writer Unordered un = λ chained. un (chained_back chained)

  ordered_chained : (x : Last) → IsLast before (known n) x → is_ordered x ≡ true → AreChained before (known n)
  ordered_chained Nothing none e = λ i k u v a b lt. absurd (none i u a)
  ordered_chained (Value w) l e = l.1.chained
  ordered_chained Unordered un e = cc

  chained_ordered : (x : Last) → IsLast before (known n) x → AreChained before (known n) → is_ordered x ≡ true
  chained_ordered Nothing none c = refl
  chained_ordered (Value w) l c = refl
  chained_ordered Unordered un c = absurd (un c)

  module _ (word : List Known) (d : Describes before known word) (after : List Known) (e : IsWritten word n value after) where
    lasts_written : (k : ℕ) → IsLast before (written k) (last_of after k)
    lasts_written k = elim (cases_eq k n) [
      | inl same ↦
          subst (λ x. IsLast before (written x) (last_of after x)) (sym same)
          (subst (λ x. IsLast before (written n) x) (sym e.last) (last_by_writer (last_of word n) (d.lasts n)))
      | inr other ↦
          subst (λ x. IsLast before (written k) x) (sym (e.others k other))
          (last_same before (known k) (written k) (λ i v a. inl a) (other_to k other) (last_of word k) (d.lasts k))
    ]

    values_to : (k v : ℕ) → Contains (values_of after k) v → (i : ℕ) × written k i v
    values_to k v c = elim ((e.values k v).0 c) [
      | inl a ↦ let found = (d.values k v).0 a in (found.0, inl found.1)
      | inr (same, is) ↦ (j, inr (same, refl, is))
    ]

    values_from : (k v : ℕ) → (i : ℕ) × written k i v → Contains (values_of after k) v
    values_from k v (i, h) = elim h [
      | inl a ↦ (e.values k v).1 (inl ((d.values k v).1 (i, a)))
      | inr (same, here, is) ↦ (e.values k v).1 (inr (same, is))
    ]

    abbrev own : ℕ → Bool
    own k = (k == n) && is_ordered (last_of word n)

    own_to : (k : ℕ) → own k ≡ true → HasLast before (written n) (written k)
    own_to k a =
        let parts = and_parts (k == n) (is_ordered (last_of word n)) a in
        record {
          i = j;
          v = value;
          last = last_on (ordered_chained (last_of word n) (d.lasts n) parts.1);
          has = inr (eqb-true k n parts.0, refl, refl);
        }

    own_from : (k : ℕ) → HasLast before (written n) (written k) → own k ≡ true
    own_from k h =
        let late : j ≤ h.i = h.last.last j value (inr (refl, refl, refl)) in
        let ordered = chained_ordered (last_of word n) (d.lasts n) (chained_back h.last.chained) in
        elim (h.has) [
          | inl a ↦ let f = fresh k h.i h.v a in absurd (omega arith)
          | inr (same, here, is) ↦ and_true (k == n) (is_ordered (last_of word n)) (eq-eqb k n same) ordered
        ]

    -- the last write of another is known to those who knew it
    other_has : (k z : ℕ) → (z ≡ n → ⊥) → HasLast before (written z) (written k) → HasLast before (known z) (known k)
    other_has k z other h =
        let of_z = has_last_same before (written z) (known z) (other_to z other) (λ i v a. inl a) (written k) h in
        record {
          i = of_z.i;
          v = of_z.v;
          last = of_z.last;
          has = elim (of_z.has) [ inl a ↦ a | inr (same, here, is) ↦ let f = fresh z of_z.i of_z.v of_z.last.written in absurd (omega arith) ];
        }

    other_had : (k z : ℕ) → (z ≡ n → ⊥) → HasLast before (known z) (known k) → HasLast before (written z) (written k)
    other_had k z other h =
        has_last_same before (known z) (written z) (λ i v a. inl a) (other_to z other) (written k)
        (record { i = h.i; v = h.v; last = h.last; has = inl h.has })

    above_to : (k z : ℕ) → is_above after k z ≡ true → HasLast before (written z) (written k)
    above_to k z a = elim (cases_eq z n) [
      | inl same ↦
          let is : own k ≡ true = sym (ap (λ b. if b then own k else is_above word k z) (eq-eqb z n same)) ∙ sym (e.above k z) ∙ a in
          subst (λ x. HasLast before (written x) (written k)) (sym same) (own_to k is)
      | inr other ↦
          let is : is_above word k z ≡ true = sym (ap (λ b. if b then own k else is_above word k z) (ne_eqb z n other)) ∙ sym (e.above k z) ∙ a in
          other_had k z other ((d.above k z).0 is)
    ]

    above_from : (k z : ℕ) → HasLast before (written z) (written k) → is_above after k z ≡ true
    above_from k z h = elim (cases_eq z n) [
      | inl same ↦
          e.above k z ∙ ap (λ b. if b then own k else is_above word k z) (eq-eqb z n same)
          ∙ own_from k (subst (λ x. HasLast before (written x) (written k)) same h)
      | inr other ↦
          e.above k z ∙ ap (λ b. if b then own k else is_above word k z) (ne_eqb z n other)
          ∙ (d.above k z).1 (other_has k z other h)
    ]

    pub describes_written : Describes before written after
    describes_written = record {
      lasts = lasts_written;
      values = λ k v. (values_to k v, values_from k v);
      above = λ k z. (above_to k z, above_from k z);
    }
