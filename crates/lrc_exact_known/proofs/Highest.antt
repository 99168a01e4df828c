-- Of the changes of a word that come at once, the one of the highest rank stays.
use Rattle.std.proofs.Common.{◌≡◌, ℕ, zero, suc, ◌<◌, ◌≤◌, ◌&&◌, ◌||◌, ◌⊎◌, Bool, true, false, List, inl, inr, refl, sym, subst, ap, ◌∙◌, arith}
use Rattle.std.specs.Prelude.{◌==◌, Option, Some, None, nat_lt, nat_le, if◌then◌else◌}
use Rattle.std.proofs.lemmas.Bool.{cases_lt, eqb-true, eq-eqb, ltb-true, lt-ltb, leb-true, le-leb, and_parts, and_from, both_ways}
use Rattle.lrc_time.specs.Time.{entry}
use Rattle.lrc_exact.specs.Memory.{Rank, Word, is_lower, replaces}
use Rattle.lrc_exact.specs.Rule.{Knowledge, with_change, with_changes_of, with_news}
use Rattle.lrc_exact_known.specs.Learned.{IsChangeOf, IsNews, TakesHighest, unchanged, taken}

-- ranks are ordered by weight, and then by node
abbrev IsLower : Rank → Rank → Type 0
IsLower a b = (a.weight < b.weight) ⊎ ((a.weight ≡ b.weight) × (a.node < b.node))

or-true : (x y : Bool) → (x || y) ≡ true → (x ≡ true) ⊎ (y ≡ true)
or-true true y e = inl refl
or-true false y e = inr e

or-first : (x y : Bool) → x ≡ true → (x || y) ≡ true
or-first true y e = refl
or-first false y e = let impossible : ⊥ = cc in absurd impossible

or-second : (x y : Bool) → y ≡ true → (x || y) ≡ true
or-second true y e = refl
or-second false y e = e

lower-from : (a b : Rank) → is_lower a b ≡ true → IsLower a b
lower-from a b e =
    elim (or-true (nat_lt a.weight b.weight) (a.weight == b.weight && nat_lt a.node b.node) e) [
      | inl less ↦ inl (ltb-true a.weight b.weight less)
      | inr both ↦
          let parts = and_parts (a.weight == b.weight) (nat_lt a.node b.node) both in
          inr (eqb-true a.weight b.weight parts.0, ltb-true a.node b.node parts.1)
    ]

lower-to : (a b : Rank) → IsLower a b → is_lower a b ≡ true
lower-to a b (inl less) = or-first (nat_lt a.weight b.weight) (a.weight == b.weight && nat_lt a.node b.node) (lt-ltb a.weight b.weight less)
lower-to a b (inr (same, less)) =
    or-second (nat_lt a.weight b.weight) (a.weight == b.weight && nat_lt a.node b.node)
    (and_from (a.weight == b.weight) (nat_lt a.node b.node) (eq-eqb a.weight b.weight same) (lt-ltb a.node b.node less))

transitive-parts : (a b c : Rank) → IsLower a b → IsLower b c → IsLower a c
transitive-parts a b c (inl x) (inl y) = inl (omega arith)
transitive-parts a b c (inl x) (inr (e, y)) = inl (omega arith)
transitive-parts a b c (inr (e, x)) (inl y) = inl (omega arith)
transitive-parts a b c (inr (e, x)) (inr (e', y)) = inr (e ∙ e', omega arith)

lower-transitive : (a b c : Rank) → is_lower a b ≡ true → is_lower b c ≡ true → is_lower a c ≡ true
lower-transitive a b c x y = lower-to a c (transitive-parts a b c (lower-from a b x) (lower-from b c y))

irreflexive-parts : (a : Rank) → IsLower a a → ⊥
irreflexive-parts a (inl x) = omega arith
irreflexive-parts a (inr (e, x)) = omega arith

not-true : (b : Bool) → (b ≡ true → ⊥) → b ≡ false
not-true true h = absurd (h refl)
not-true false h = refl

lower-irreflexive : (a : Rank) → is_lower a a ≡ false
lower-irreflexive a = not-true (is_lower a a) (λ e. irreflexive-parts a (lower-from a a e))

-- a rank above one that takes the place of a mark does so too
replaces-above : (a b : Rank) (mark : Option Rank) → is_lower a b ≡ true → replaces a mark ≡ true → replaces b mark ≡ true
replaces-above a b None less e = refl
replaces-above a b (Some m) less e = lower-transitive m a b e less

-- the same changes by other words
weaken : (A B : Rank → ℕ → Type 0) (now after : Word) → ((r : Rank) (v : ℕ) → A r v → B r v) → ((r : Rank) (v : ℕ) → B r v → A r v)
    → TakesHighest A now after → TakesHighest B now after
weaken A B now after to from (unchanged is none) = unchanged is (λ r v b. none r v (from r v b))
weaken A B now after to from (taken rank value change above is least) = taken rank value (to rank value change) above is (λ r v b. least r v (from r v b))

-- one change more
abbrev OneMore : (Rank → ℕ → Type 0) → Rank → Option ℕ → Rank → ℕ → Type 0
OneMore A rank change r v = A r v ⊎ ((r ≡ rank) × (change ≡ Some v))

one_more : (A : Rank → ℕ → Type 0) (now after : Word) (rank : Rank) (change : Option ℕ) → TakesHighest A now after
    → TakesHighest (OneMore A rank change) now (with_change rank change after)
one_more A now after rank None h =
    weaken A (OneMore A rank None) now after (λ r v a. inl a)
    (λ r v b. elim b [ inl a ↦ a | inr (e, some) ↦ let impossible : ⊥ = cc in absurd impossible ]) h
one_more A now after rank (Some value) (unchanged is none) = go (replaces rank after.mark) refl
  where
    go : (b : Bool) → replaces rank after.mark ≡ b
        → TakesHighest (OneMore A rank (Some value)) now (if b then record { value = value; mark = Some rank } else after)
    go true e =
        let here : replaces rank now.mark ≡ true = ap (λ (w : Word). replaces rank w.mark) (sym is) ∙ e in
        taken rank value (inr (refl, refl)) here refl (λ r v b.
        elim b [
          | inl a ↦
              not-true (is_lower rank r) (λ less. both_ways (replaces r now.mark) (none r v a) (replaces-above rank r now.mark less here))
          | inr (same, some) ↦ ap (λ x. is_lower rank x) same ∙ lower-irreflexive rank
        ])
    go false e =
        let here : replaces rank now.mark ≡ false = ap (λ (w : Word). replaces rank w.mark) (sym is) ∙ e in
        unchanged is (λ r v b. elim b [ inl a ↦ none r v a | inr (same, some) ↦ ap (λ x. replaces x now.mark) same ∙ here ])
one_more A now after rank (Some value) (taken top had change above is least) = go (replaces rank after.mark) refl
  where
    marked : replaces rank after.mark ≡ is_lower top rank
    marked = ap (λ (w : Word). replaces rank w.mark) is

    go : (b : Bool) → replaces rank after.mark ≡ b
        → TakesHighest (OneMore A rank (Some value)) now (if b then record { value = value; mark = Some rank } else after)
    go true e =
        let less : is_lower top rank ≡ true = sym marked ∙ e in
        taken rank value (inr (refl, refl)) (replaces-above top rank now.mark less above) refl (λ r v b.
        elim b [
          | inl a ↦ not-true (is_lower rank r) (λ more. both_ways (is_lower top r) (least r v a) (lower-transitive top rank r less more))
          | inr (same, some) ↦ ap (λ x. is_lower rank x) same ∙ lower-irreflexive rank
        ])
    go false e =
        taken top had (inl change) above is (λ r v b.
        elim b [ inl a ↦ least r v a | inr (same, some) ↦ ap (λ x. is_lower top x) same ∙ sym marked ∙ e ])

-- two lots of changes, one after the other
abbrev Either : (Rank → ℕ → Type 0) → (Rank → ℕ → Type 0) → Rank → ℕ → Type 0
Either A B r v = A r v ⊎ B r v

module _ (news : Knowledge) (word : ℕ) (A : Rank → ℕ → Type 0) (now after : Word) (before : TakesHighest A now after) (node first : ℕ) where
  of_node : (last : ℕ) → TakesHighest (Either A (IsChangeOf news word node first last)) now (with_changes_of node (news.interval node) word first last after)
  of_node zero =
      weaken A (Either A (IsChangeOf news word node first zero)) now after (λ r v a. inl a)
      (λ r v b. elim b [ inl a ↦ a | inr c ↦ let new = c.new in let known = c.known in absurd (omega arith) ]) before
  of_node (suc last) = one_node_more (of_node last) (nat_le first last) refl
    where
      rank : Rank
      rank = record { weight = (news.interval node (suc last)).weight; node = node }

      one_node_more : TakesHighest (Either A (IsChangeOf news word node first last)) now (with_changes_of node (news.interval node) word first last after)
          → (b : Bool) → nat_le first last ≡ b
          → TakesHighest (Either A (IsChangeOf news word node first (suc last))) now
          (if b
          then with_change rank ((news.interval node (suc last)).changed word) (with_changes_of node (news.interval node) word first last after)
          else with_changes_of node (news.interval node) word first last after)
      one_node_more earlier true e =
          let le = leb-true first last e in
          weaken (OneMore (Either A (IsChangeOf news word node first last)) rank ((news.interval node (suc last)).changed word))
          (Either A (IsChangeOf news word node first (suc last))) now
          (with_change rank ((news.interval node (suc last)).changed word) (with_changes_of node (news.interval node) word first last after))
          (λ r v x.
          elim x [
            | inl (inl a) ↦ inl a
            | inl (inr c) ↦
                let known = c.known in
                inr record { index = c.index; new = c.new; known = omega arith; ranked = c.ranked; changed = c.changed }
            | inr (same, some) ↦ inr record { index = suc last; new = omega arith; known = omega arith; ranked = same; changed = some }
          ])
          (λ r v x.
          elim x [
            | inl a ↦ inl (inl a)
            | inr c ↦
                let known = c.known in
                elim (cases_lt c.index (suc last)) [
                  | inl less ↦ inl (inr record { index = c.index; new = c.new; known = omega arith; ranked = c.ranked; changed = c.changed })
                  | inr most ↦
                      let here : c.index ≡ suc last = omega arith in
                      inr (
                        c.ranked ∙ ap (λ k. record { weight = (news.interval node k).weight; node = node }) here,
                        ap (λ k. (news.interval node k).changed word) (sym here) ∙ c.changed,
                      )
                ]
          ])
          (one_more (Either A (IsChangeOf news word node first last)) now (with_changes_of node (news.interval node) word first last after) rank
          ((news.interval node (suc last)).changed word) earlier)
      one_node_more earlier false e =
          let over : (first ≤ last → ⊥) = λ le. both_ways (nat_le first last) e (le-leb first last le) in
          weaken (Either A (IsChangeOf news word node first last)) (Either A (IsChangeOf news word node first (suc last))) now
          (with_changes_of node (news.interval node) word first last after)
          (λ r v x.
          elim x [
            | inl a ↦ inl a
            | inr c ↦
                let known = c.known in
                inr record { index = c.index; new = c.new; known = omega arith; ranked = c.ranked; changed = c.changed }
          ])
          (λ r v x.
          elim x [
            | inl a ↦ inl a
            | inr c ↦ let known = c.known in let new = c.new in absurd (over (omega arith))
          ]) earlier

pub learned_is_highest : (nodes : ℕ) (had : List ℕ) (news : Knowledge) (word : ℕ) (now : Word)
    → TakesHighest (IsNews nodes had news word) now (with_news nodes had news word now)
learned_is_highest zero had news word now = unchanged refl (λ r v x. let among = x.among in absurd (omega arith))
learned_is_highest (suc n) had news word now =
    weaken (Either (IsNews n had news word) (IsChangeOf news word n (entry had n) (entry news.time n))) (IsNews (suc n) had news word) now
    (with_news (suc n) had news word now)
    (λ r v x.
    elim x [
      | inl a ↦ let among = a.among in record { node = a.node; among = omega arith; change = a.change }
      | inr c ↦ record { node = n; among = omega arith; change = c }
    ])
    (λ r v x.
    let among = x.among in
    elim (cases_lt x.node n) [
      | inl less ↦ inl record { node = x.node; among = less; change = x.change }
      | inr most ↦
          let here : x.node ≡ n = omega arith in
          inr (subst (λ p. IsChangeOf news word p (entry had p) (entry news.time p) r v) here x.change)
    ])
    (of_node news word (IsNews n had news word) now (with_news n had news word now) (learned_is_highest n had news word now) n (entry had n)
    (entry news.time n))
