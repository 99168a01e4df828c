-- Lists with an item for each node, and lists of exactly the positions of which something is so.
use Rattle.std.proofs.Common.{◌≡◌, ℕ, ◌+◌, ◌∙◌, inl, inr, List, [], ◌∷◌, ◌++◌, length, sym, subst, ap, arith, eqb}
use Rattle.std.specs.Prelude.{Contains, slice_get}
use Rattle.std.specs.Ordering.{nat_cmp}
use Rattle.std.specs.List.{dedup}
use Rattle.std.specs.List.Sorted.{IsSorted, IsStrictlySortedBy, IsPermutation}
use Rattle.std.proofs.lemmas.Bool.{cases_lt, eqb-true}
use Rattle.std.proofs.lemmas.Cmp.{nat_cmp_total}
use Rattle.std.proofs.lemmas.List.{length_push}
use Rattle.std.proofs.lemmas.List.Kept.{IsStrictlySortedBy-dedup}
use Rattle.std.proofs.lemmas.Option.{slice_get_within, same_Some}
use Rattle.lrc_trace.specs.declared.act.Act.{Act}
use Rattle.lrc_trace.proofs.Positions.{slice_get-front, slice_get-seam}
use Rattle.lrc_judge.specs.Adding.{Adds, IsOfSome}
use Rattle.lrc_judge.proofs.Ascending.{is_eq-nat}
use Rattle.lrc_judge.proofs.Distinct.{distinct-contains}
use Rattle.lrc_why_chains.specs.Writes.{AreExactly, IsWrite}
use Rattle.lrc_why.specs.Positions.{AreWordsOf}
use Rattle.lrc_why.specs.Spread.{OfEach}

module _ {X : Type 0} (IsSo : ℕ → X → Type 0) where
  pub each-push : (xs ys : List X) (x : X) (n : ℕ) → OfEach n IsSo xs → IsSo n x → ys ≡ xs ++ x ∷ [] → OfEach (n + 1) IsSo ys
  each-push xs ys x n old here pushed =
      let long = length_push xs x in
      let many = old.all in
      rw pushed (record {
        all = omega arith;
        each = λ m y is.
            let within = slice_get_within (xs ++ x ∷ []) m y is in
            elim (cases_lt m (length xs)) [
              | inl lt ↦ old.each m y (sym (slice_get-front xs (x ∷ []) m lt) ∙ is)
              | inr le ↦
                  let last : m ≡ length xs = omega arith in
                  let same : x ≡ y = same_Some x y (sym (slice_get-seam xs x []) ∙ ap (λ k. slice_get (xs ++ x ∷ []) k) (sym last) ∙ is) in
                  let at : n ≡ m = omega arith in
                  subst (λ k. IsSo k y) at (subst (λ z. IsSo n z) same here)
            ];
      })

pub exactly-iff : (P Q : ℕ → Type 0) (xs : List ℕ) → ((k : ℕ) → P k → Q k) → ((k : ℕ) → Q k → P k) → AreExactly P xs → AreExactly Q xs
exactly-iff P Q xs to from are = record {
  ascending = are.ascending;
  exact = λ k. (λ h. to k ((are.exact k).0 h), λ q. (are.exact k).1 (from k q));
}

pub words-iff : (run : List Act) (P Q : ℕ → Type 0) (words : List ℕ) → ((k : ℕ) → P k → Q k) → ((k : ℕ) → Q k → P k)
    → AreWordsOf run P words → AreWordsOf run Q words
words-iff run P Q words to from are = record {
  ascending = are.ascending;
  exact = λ w. (
    λ h. let (k, p, is) = (are.exact w).0 h in (k, to k p, is),
    λ (k, q, is). (are.exact w).1 (k, from k q, is),
  );
}

-- the words that were added to none, sorted, and each kept once
pub words-from : (run : List Act) (positions none added sorted unique : List ℕ) → none ≡ []
    → Adds none added (IsOfSome positions (λ k word. IsWrite run word k))
    → IsPermutation added sorted → IsSorted nat_cmp sorted → unique ≡ dedup eqb sorted → AreWordsOf run (Contains positions) unique
words-from run positions none added sorted unique empty adds permutation in_order is =
    let from : Adds [] added (IsOfSome positions (λ k word. IsWrite run word k)) =
    subst (λ zs. Adds zs added (IsOfSome positions (λ k word. IsWrite run word k))) empty adds in
    let contains = distinct-contains nat_cmp eqb nat_cmp_total (λ a b. sym (is_eq-nat a b)) (λ a b t. eqb-true a b t) added sorted unique permutation is in
    record {
      ascending = subst (λ zs. IsStrictlySortedBy nat_cmp zs) (sym is) (IsStrictlySortedBy-dedup nat_cmp_total (λ a b. sym (is_eq-nat a b)) sorted in_order);
      exact = λ w. (
        λ h. elim ((from.exact w).0 ((contains w).0 h)) [ inl (k, lt, _) ↦ absurd (omega (arith, lt)) | inr so ↦ so ],
        λ so. (contains w).1 ((from.exact w).1 (inr so)),
      );
    }
