-- Lists of values that are shared.
use Rattle.std.proofs.Common.{◌≡◌, ℕ, ◌⊎◌, List, [], inl, inr, sym, subst, ◌∙◌, ap}
use Rattle.std.specs.Prelude.{◌↔◌, if◌then◌else◌, Contains}
use Rattle.std.proofs.lemmas.Bool.{eq-eqb}
use Rattle.lrc_lazy_known.specs.declared.known.Known.{Known}
use Rattle.lrc_lazy_known.specs.Word.{values_of}
use Rattle.lrc_lazy_known.specs.Made.{values_taught}

-- the list of the one has the values of both, where it has those of the other
pub has_both : (own more all found other : List ℕ) → all ≡ own → found ≡ own → other ≡ more → ((v : ℕ) → Contains other v → Contains found v)
    → (v : ℕ) → Contains all v ↔ (Contains own v ⊎ Contains more v)
has_both own more all found other is kept taught has v = (
  λ c. inl (subst (λ l. Contains l v) is c),
  λ c. elim c [
    | inl a ↦ subst (λ l. Contains l v) (sym is) a
    | inr b ↦ subst (λ l. Contains l v) (kept ∙ sym is) (has v (subst (λ l. Contains l v) (sym taught) b))
  ],
)

-- so has that of the other, where it has those of the one
pub other_has_both : (own more all found other : List ℕ) → all ≡ more → found ≡ own → other ≡ more
    → ((v : ℕ) → Contains found v → Contains other v) → (v : ℕ) → Contains all v ↔ (Contains own v ⊎ Contains more v)
other_has_both own more all found other is kept taught has v =
    let turned = has_both more own all other found is taught kept has v in
    (λ c. elim (turned.0 c) [ inl a ↦ inr a | inr b ↦ inl b ], λ c. turned.1 (elim c [ inl a ↦ inr a | inr b ↦ inl b ]))

-- and a list that was made of both
pub made_of_both : (own more all found other : List ℕ) → found ≡ own → other ≡ more
    → ((v : ℕ) → Contains all v ↔ (Contains found v ⊎ Contains other v)) → (v : ℕ) → Contains all v ↔ (Contains own v ⊎ Contains more v)
made_of_both own more all found other kept taught is v =
    subst (λ l. Contains all v ↔ (Contains own v ⊎ Contains l v)) taught
    (subst (λ l. Contains all v ↔ (Contains l v ⊎ Contains other v)) kept (is v))

-- the learner learns of the teacher's values
pub learner_taught : (word : List Known) (learner teacher k : ℕ) → k ≡ learner → values_taught word learner teacher k ≡ values_of word teacher
learner_taught word learner teacher k same = ap (λ b. if b then values_of word teacher else []) (eq-eqb k learner same)
