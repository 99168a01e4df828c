-- States that compare equal stand for the same runs.
use Rattle.std.proofs.Common.{◌≡◌, ℕ, zero, suc, List, [], ◌∷◌, length, Bool, true, false, refl, sym, subst, ◌∙◌, ap, ◌∷◌}
use Rattle.std.specs.Prelude.{Some, None, Contains, nat_eq, slice_get, slice_index_or}
use Rattle.std.proofs.lemmas.Bool.{and_parts, eqb-true, true≢false}
use lib.Pointwise.{pointwise}
use mathlib.Core.Bool.{beq}
use Rattle.lrc_program.specs.declared.Program.{Program}
use Rattle.lrc_trace.specs.declared.act.Act.{Act}
use Rattle.lrc_trace.specs.contracts.act.ActPartialEq.TheImpl.{eq-value as act_eq}
use Rattle.lrc_trace.specs.Order.{HappensBefore}
use Rattle.lrc_exec.specs.declared.spot.Flat.{Flat}
use Rattle.lrc_exec.specs.Plain.{Plain, start_of, thread_in}
use Rattle.lrc_exec.specs.Follows.{deeds_of}
use Rattle.lrc_consistency_laws.specs.Matching.{Matches}
use Rattle.lrc_exec.specs.contracts.state.StatePartialEq.TheImpl.{eq-value as state_eq}
use Rattle.lrc_exec.specs.States.{plain_at}
use Rattle.lrc_orders.proofs.Alike.{acts_same}
use Rattle.lrc_orders.proofs.Same.{pointwise_same, state_same}
use Rattle.lrc_lazy_known.specs.declared.known.Last.{Last}
use Rattle.lrc_lazy_known.specs.declared.known.Last.TheVariants.{Nothing, Value, Unordered}
use Rattle.lrc_lazy_known.specs.declared.known.Known.{Known}
use Rattle.lrc_lazy_known.specs.declared.known.Knowledge.{Knowledge}
use Rattle.lrc_lazy_known.specs.contracts.known.LastPartialEq.TheImpl.{eq-value as last_eq}
use Rattle.lrc_lazy_known.specs.contracts.known.KnownPartialEq.TheImpl.{eq-value as known_eq}
use Rattle.lrc_lazy_known.specs.contracts.known.KnownWordPartialEq.TheImpl.{eq-value as word_eq}
use Rattle.lrc_lazy_known.specs.contracts.known.KnowledgePartialEq.TheImpl.{eq-value as knowledge_eq}
use Rattle.lrc_lazy_known.specs.Knowing.{KnowsWrite}
use Rattle.lrc_lazy_known.specs.Word.{last_in, values_in, row_in, last_of, values_of, is_above, IsSame}
use Rattle.lrc_lazy_known.specs.Effect.{knowers_in, word_of, IsKnowledgeOf}
use Rattle.lrc_lazy_known.proofs.Sets.{describes_moved}
use Rattle.lrc_lazy_search.specs.declared.state.LazyState.{LazyState}
use Rattle.lrc_lazy_search.specs.contracts.state.LazyStatePartialEq.TheImpl.{eq-value}
use Rattle.lrc_lazy.specs.Standing.{advanced, with_memory, Comes, Stands}

-- two lists that compare equal have at each place nothing, or items that compare equal
pub data Both {A : Type 0} (E : A → A → Bool) (xs ys : List A) (k : ℕ) : Type 0 where
  past : slice_get xs k ≡ None → slice_get ys k ≡ None → Both E xs ys k
  there : (x y : A) → slice_get xs k ≡ Some x → slice_get ys k ≡ Some y → E x y ≡ true → Both E xs ys k

pub both_at : {A : Type 0} (E : A → A → Bool) (xs ys : List A) → pointwise E xs ys ≡ true → (k : ℕ) → Both E xs ys k
both_at E [] [] e k = past refl refl
both_at E [] (y ∷ ys) e k = cc
both_at E (x ∷ xs) [] e k = cc
both_at E (x ∷ xs) (y ∷ ys) e zero = there x y refl refl (and_parts (E x y) (pointwise E xs ys) e).0
both_at E (x ∷ xs) (y ∷ ys) e (suc k) = further (both_at E xs ys (and_parts (E x y) (pointwise E xs ys) e).1 k)
  where
    further : Both E xs ys k → Both E (x ∷ xs) (y ∷ ys) (suc k)
    further (past a b) = past a b
    further (there u v a b h) = there u v a b h

beq_same : (a b : Bool) → beq a b ≡ true → a ≡ b
beq_same true true e = refl
beq_same true false e = cc
beq_same false true e = cc
beq_same false false e = refl

last_same : (a b : Last) → last_eq.it a b ≡ true → a ≡ b
last_same Nothing Nothing e = refl
last_same (Value v) (Value w) e = ap Value (eqb-true v w e)
last_same Unordered Unordered e = refl
last_same _ _ e = absurd (true≢false (sym e))

pub record Alike (a b : Known) : Type 0 where
  pub last : a.last ≡ b.last
  pub values : a.values.value.items ≡ b.values.value.items
  pub above : a.above.items ≡ b.above.items

pub known_same : (a b : Known) → known_eq.it a b ≡ true → Alike a b
known_same a b e =
    let p = and_parts (last_eq.it a.last b.last) _ e in
    let q = and_parts (pointwise nat_eq a.values.value.items b.values.value.items) (pointwise beq a.above.items b.above.items) p.1 in
    record {
      last = last_same a.last b.last p.0;
      values = pointwise_same nat_eq (λ x y h. eqb-true x y h) a.values.value.items b.values.value.items q.0;
      above = pointwise_same beq beq_same a.above.items b.above.items q.1;
    }

module _ (xs ys : List Known) (e : pointwise known_eq.it xs ys ≡ true) where
  at : (k : ℕ) → Both known_eq.it xs ys k
  at k = both_at known_eq.it xs ys e k

  lasts_at : (k : ℕ) → Both known_eq.it xs ys k → last_of ys k ≡ last_of xs k
  lasts_at k (past a b) = ap last_in b ∙ sym (ap last_in a)
  lasts_at k (there x y a b h) = ap last_in b ∙ sym (known_same x y h).last ∙ sym (ap last_in a)

  values_at : (k : ℕ) → Both known_eq.it xs ys k → values_of ys k ≡ values_of xs k
  values_at k (past a b) = ap values_in b ∙ sym (ap values_in a)
  values_at k (there x y a b h) = ap values_in b ∙ sym (known_same x y h).values ∙ sym (ap values_in a)

  rows_at : (k z : ℕ) → Both known_eq.it xs ys k → is_above ys k z ≡ is_above xs k z
  rows_at k z (past a b) = ap (λ o. slice_index_or (row_in o) z false) b ∙ sym (ap (λ o. slice_index_or (row_in o) z false) a)
  rows_at k z (there x y a b h) =
      ap (λ o. slice_index_or (row_in o) z false) b ∙ ap (λ r. slice_index_or r z false) (sym (known_same x y h).above)
      ∙ sym (ap (λ o. slice_index_or (row_in o) z false) a)

  pub words_alike : IsSame xs ys
  words_alike = record {
    lasts = λ k. lasts_at k (at k);
    values = λ k v. (subst (λ l. Contains l v) (values_at k (at k)), subst (λ l. Contains l v) (sym (values_at k (at k))));
    above = λ k z. rows_at k z (at k);
  }

pub same_itself : (xs : List Known) → IsSame xs xs
same_itself xs = record { lasts = λ k. refl; values = λ k v. (λ c. c, λ c. c); above = λ k z. refl }

pub knowledge_same : (a b : Knowledge) → knowledge_eq.it a b ≡ true → (word : ℕ) → IsSame (word_of a word) (word_of b word)
knowledge_same a b e word = go (both_at word_eq.it a.words.items b.words.items e word)
  where
    go : Both word_eq.it a.words.items b.words.items word → IsSame (word_of a word) (word_of b word)
    go (past x y) =
        subst (λ o. IsSame (word_of a word) (knowers_in o)) (sym y) (subst (λ o. IsSame (knowers_in o) []) (sym x) (same_itself []))
    go (there x y p q h) =
        subst (λ o. IsSame (word_of a word) (knowers_in o)) (sym q)
        (subst (λ o. IsSame (knowers_in o) y.knowers.items) (sym p) (words_alike x.knowers.items y.knowers.items h))

-- what says the same of a word
pub same_back : {xs ys : List Known} → IsSame xs ys → IsSame ys xs
same_back e = record {
  lasts = λ k. sym (e.lasts k);
  values = λ k v. ((e.values k v).1, (e.values k v).0);
  above = λ k z. sym (e.above k z);
}

pub same_through : {xs ys zs : List Known} → IsSame xs ys → IsSame ys zs → IsSame xs zs
same_through e h = record {
  lasts = λ k. h.lasts k ∙ e.lasts k;
  values = λ k v. (λ c. (e.values k v).0 ((h.values k v).0 c), λ c. (h.values k v).1 ((e.values k v).1 c));
  above = λ k z. h.above k z ∙ e.above k z;
}

-- where nodes stand and know the same, whatever the words, that is so for the same run
pub stands_as : (program : Program) (nodes : ℕ) (flat : Flat) (acts : List Act) (a b : LazyState)
    → with_memory (plain_at flat a.state) [] ≡ with_memory (plain_at flat b.state) []
    → ((word : ℕ) → IsSame (word_of a.knowledge word) (word_of b.knowledge word))
    → Stands program nodes acts (plain_at flat a.state) a.knowledge → Stands program nodes acts (plain_at flat b.state) b.knowledge
stands_as program nodes flat acts a b machine same s =
    let known : IsKnowledgeOf nodes program.locks s.gone acts b.knowledge = λ word.
    describes_moved (HappensBefore acts) (HappensBefore acts) (KnowsWrite nodes program.locks s.gone acts word) (KnowsWrite nodes program.locks s.gone acts word)
    (λ k i v h. h) (λ k i v h. h) (λ z k i m u v x y h. h) (λ z k i m u v x y h. h) (word_of a.knowledge word) (word_of b.knowledge word)
    (s.known word) (same word) in
    record {
      run = s.run;
      gone = s.gone;
      departed = s.departed;
      memory = s.memory;
      matches = subst (λ (m : Plain). Matches acts (length acts) (with_memory (advanced s.gone m) s.memory)) machine s.matches;
      long = s.long;
      holders = sym (ap (λ (m : Plain). length m.holders) machine) ∙ s.holders;
      size = sym (ap (λ (m : Plain). length m.arrivals) machine) ∙ s.size;
      leads = λ n lt.
          subst (λ o. Comes (Some (start_of program nodes n)) (deeds_of n acts) o) (ap (λ (m : Plain). thread_in m n) machine) (s.leads n lt);
      stopped = λ n lt none. s.stopped n lt (ap (λ (m : Plain). thread_in m n) machine ∙ none);
      are = s.are;
      known = known;
    }

-- a state that compares equal stands for the same run
pub stands_same : (program : Program) (nodes : ℕ) (flat : Flat) (acts : List Act) (a b : LazyState) → eq-value.it a b ≡ true
    → Stands program nodes acts (plain_at flat a.state) a.knowledge → Stands program nodes acts (plain_at flat b.state) b.knowledge
stands_same program nodes flat acts a b e s =
    let p = and_parts (state_eq.it a.state b.state) _ e in
    let q = and_parts (knowledge_eq.it a.knowledge b.knowledge) (pointwise act_eq.it a.notes.items b.notes.items) p.1 in
    stands_as program nodes flat acts a b (ap (λ (m : Plain). with_memory m []) (state_same flat a.state b.state p.0))
    (knowledge_same a.knowledge b.knowledge q.0) s

pub notes_same : (a b : LazyState) → eq-value.it a b ≡ true → a.notes.items ≡ b.notes.items
notes_same a b e =
    let p = and_parts (state_eq.it a.state b.state) _ e in
    let q = and_parts (knowledge_eq.it a.knowledge b.knowledge) (pointwise act_eq.it a.notes.items b.notes.items) p.1 in
    acts_same a.notes.items b.notes.items q.1
