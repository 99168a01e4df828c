-- What a read may give, by what is kept of the writes that are known where it stands.
use Rattle.std.proofs.Common.{◌≡◌, ◌∙◌, ◌≤◌, ◌∷◌, [], ℕ, List, arith, false, get_or, inl, inr, subst, sym, true}
use Rattle.std.specs.Prelude.{◌↔◌, Contains, IsTrue, None}
use Rattle.std.specs.BTreeSet as sorted
use Rattle.std.specs.Ordering.{nat_cmp}
use Rattle.std.proofs.lemmas.Bool.{false≢true}
use Rattle.std.proofs.lemmas.Cmp.{nat_cmp_total}
use Rattle.std.proofs.lemmas.Map.Keys.{sorted_from_strictly_increasing}
use Rattle.std.proofs.lemmas.Map.Lookups.{exact_unsigned}
use Rattle.std.proofs.lemmas.Map.Views.{btree_set_contains_iff}
use Rattle.lrc_trace.specs.declared.act.Act.{Act}
use Rattle.lrc_trace.specs.declared.act.Deed.TheVariants.{Write}
use Rattle.lrc_trace.specs.Run.{IsDone}
use Rattle.lrc_trace.specs.Reading.{AreOrdered, MayRead, WrittenBefore}
use Rattle.lrc_trace.proofs.Positions.{Does-one_deed}
use Rattle.lrc_judge.specs.Allowed.{AreAllowed}
use Rattle.lrc_judge_all.specs.Known.{AreChained, AreKnownAt, IsKept, IsKeptOf, IsValueOf}
use Rattle.lrc_judge_all.specs.declared.kept.Kept.{Kept}

module _ (run : List Act) (position word : ℕ) (known : List ℕ) (exact : AreKnownAt run position known) where
  -- a known write of the word is one that happens before
  before_from : (k v : ℕ) → Contains known k → IsDone run k (Write word v) → WrittenBefore run position word k v
  before_from k v there done = record { write = done; before = ((exact k).0 there).1 }

  known_from : (k v : ℕ) → WrittenBefore run position word k v → Contains known k
  known_from k v w = (exact k).1 ((w.write.0, record { word = word; value = v; does = w.write.1 }), w.before)

  value_from : (v : ℕ) → IsValueOf run known word v ↔ ((i : ℕ) × WrittenBefore run position word i v)
  value_from v = (λ h. (h.k, before_from h.k v h.there h.done), λ (i, w). record { k = i; there = known_from i v w; done = w.write })

  chained_from : AreChained run known word → AreOrdered run position word
  chained_from chained i k u v wi wk lt = chained i k u v (known_from i u wi) wi.write (known_from k v wk) wk.write lt

  chained_to : AreOrdered run position word → AreChained run known word
  chained_to ordered i k u v ci di ck dk lt = ordered i k u v (before_from i u ci di) (before_from k v ck dk) lt

  pub may_none : IsKept run known word None → (v : ℕ) → MayRead run position word v ↔ (v ≡ 0)
  may_none none v =
      let no : (i u : ℕ) → WrittenBefore run position word i u → ⊥ = λ i u w. none u ((value_from u).1 (i, w)) in (
        λ m. elim m.weak [ inl zero ↦ zero | inr (i, w) ↦ absurd (no i v w) ],
        λ zero. record { weak = inl zero; strong = λ _. record { none = λ _. zero; last = λ i u last. absurd (no i u last.written) } },
      )

  module _ (kept : Kept) (is : IsKeptOf run known word kept) where
    pub may_latest : kept.are_ordered ≡ true → (v : ℕ) → MayRead run position word v ↔ (v ≡ kept.latest)
    may_latest ordered v =
        let last : WrittenBefore run position word kept.last kept.latest = before_from kept.last kept.latest is.there is.done in
        let most : (k u : ℕ) → WrittenBefore run position word k u → k ≤ kept.last = λ k u w. is.last k u (known_from k u w) w.write in (
          λ m. (m.strong (chained_from (is.ordered.0 ordered))).last kept.last kept.latest (record { written = last; last = most }),
          λ same. record {
            weak = inr (kept.last, subst (λ u. WrittenBefore run position word kept.last u) (sym same) last);
            strong = λ _. record {
              none = λ no. absurd (no kept.last kept.latest last);
              last = λ i u lw.
                  let up : i ≤ kept.last = most i u lw.written in
                  let down : kept.last ≤ i = lw.last kept.last kept.latest last in
                  let at : i ≡ kept.last = omega arith in
                  let both : Write word kept.latest ≡ Write word u =
                  Does-one_deed is.done.1 (subst (λ m. IsDone run m (Write word u)) at lw.written.write).1 in
                  let values : kept.latest ≡ u = cc in
                  same ∙ values;
            };
          },
        )

    pub may_any : kept.are_ordered ≡ false → (v : ℕ) → MayRead run position word v ↔ IsTrue (sorted.contains nat_cmp kept.values v)
    may_any unordered v = (
      λ m. (is.values v).1 (elim m.weak [ inl zero ↦ inl zero | inr some ↦ inr ((value_from v).1 some) ]),
      λ h. record {
        weak = elim ((is.values v).0 h) [ inl zero ↦ inl zero | inr some ↦ inr ((value_from v).0 some) ];
        strong = λ ordered. absurd (false≢true (sym unordered ∙ is.ordered.1 (chained_to ordered)));
      },
    )

    pub allowed_any : (values : List ℕ) → values ≡ kept.values.keys → sorted.IsOrdered nat_cmp kept.values → kept.are_ordered ≡ false
        → AreAllowed run position word values
    allowed_any values same in_order unordered =
        subst (λ vs. AreAllowed run position word vs) (sym same) (record {
          ascending = in_order;
          exact = λ v.
              let iff = btree_set_contains_iff nat_cmp_total exact_unsigned kept.values v in
              let may = may_any unordered v in
              (λ c. may.1 (iff.1 c), λ m. iff.0 (may.0 m));
        })

  pub allowed_one : (values : List ℕ) (value : ℕ) → values ≡ value ∷ [] → ((v : ℕ) → MayRead run position word v ↔ (v ≡ value))
      → AreAllowed run position word values
  allowed_one values value same may =
      subst (λ vs. AreAllowed run position word vs) (sym same) (record {
        ascending = sorted_from_strictly_increasing (value ∷ []) (λ k lt. absurd (omega (arith, lt)));
        exact = λ v. (
          λ (k, lt, is). let zero : k ≡ 0 = omega (arith, lt) in (may v).1 (sym (subst (λ n. get_or (value ∷ []) n v ≡ v) zero is)),
          λ m. (0, omega arith, sym ((may v).0 m)),
        );
      })
