-- What a collection makes of a node's state, page by page.
use Rattle.std.proofs.Common.{◌≡◌, ℕ, zero, suc, ◌⊎◌, ◌&&◌, ◌||◌, Bool, true, false, not, cond, List, [], ◌∷◌, ◌++◌, inl, inr, refl, sym, subst, ap, ◌∙◌}
use Rattle.std.specs.Prelude.{◌==◌, Option, Some, None}
use Rattle.std.specs.Ordering.{nat_cmp}
use Rattle.std.specs.BTreeMap.{BTreeMap, get}
use Rattle.std.proofs.lemmas.Bool.{cases_eq, cases_lt, cases_Bool, cond-true, cond-false, eq-eqb, ne_eqb, lt-ltb, le-ltb}
use Rattle.std.proofs.lemmas.List.Folds.{list_any-append}
use Rattle.lrc_exact.specs.Memory as memory
use Rattle.lrc_exact.specs.Rule.{Shape, State, Knowledge, page_of, collected, keeper_of, kept_value, names_between, is_writer}
use Rattle.lrc_exact.proofs.LocalRules.{same_function}
use Rattle.lrc_exact_copies.specs.Copies.{with_fixed_page}
use Rattle.lrc_exact_copies.specs.Made.{AreAmong, has, in_row, row_of}
use Rattle.lrc_exact_copies.specs.declared.made.Made.{Made}
use Rattle.lrc_exact_copies.proofs.Copying.{a_word}
use Rattle.lrc_exact_copies.proofs.Rows.{names-agree}
use Rattle.lrc_exact_judge.specs.Collecting.{with_taken, with_values}
use Rattle.lrc_exact_judge.specs.Keepers.{AreKeepers, AreKeptValues, AreNodes, AreValues, IsKeeper, known_of, value_at}
use Rattle.std.specs.Prelude.{Vec, nat_lt}
use Rattle.std.specs.declared.alloc.Global.{Global}
use Rattle.lrc_time.specs.Time.{entry}
use Rattle.lrc_exact_judge.specs.Memory.{Having, with_have}
use Rattle.lrc_exact_judge.proofs.Loops.{with_below}

-- states that differ in words and stale pages alone
pub same_state : (s : State) (words words' : ℕ → memory.Word) (stale stale' : ℕ → Bool) → ((w : ℕ) → words w ≡ words' w)
    → ((p : ℕ) → stale p ≡ stale' p) → record s { words = words; stale = stale } ≡ record s { words = words'; stale = stale' }
same_state s words words' stale stale' h k =
    ap (λ f. record s { words = f; stale = stale }) (same_function h) ∙ ap (λ f. record s { words = words'; stale = f }) (same_function k)

and-false : (b : Bool) → (b && false) ≡ false
and-false true = refl
and-false false = refl

and-true : (b : Bool) → (b && true) ≡ b
and-true true = refl
and-true false = refl

has-one_here : (page p : ℕ) → p ≡ page → has (page ∷ []) p ≡ true
has-one_here page p same = ap (λ b. b || false) (eq-eqb page p (sym same))

has-one_other : (page p : ℕ) → (p ≡ page → ⊥) → has (page ∷ []) p ≡ false
has-one_other page p other = ap (λ b. b || false) (ne_eqb page p (λ e. other (sym e)))

module _ (shape : Shape) (values : ℕ → ℕ) (s : State) where
  -- none yet
  pub taken-none : s ≡ with_taken shape values [] s
  taken-none =
      same_state s s.words (with_taken shape values [] s).words s.stale (with_taken shape values [] s).stale
      (λ w. sym (cond-false (s.stale (page_of shape w) && false) (a_word (values w) None) (s.words w) (and-false (s.stale (page_of shape w)))))
      (λ p. sym (and-true (s.stale p)))

  -- a page that is not stale
  pub one-fresh : (page : ℕ) → s.stale page ≡ false → s ≡ with_taken shape values (page ∷ []) s
  one-fresh page fresh =
      same_state s s.words (with_taken shape values (page ∷ []) s).words s.stale (with_taken shape values (page ∷ []) s).stale words_same stale_same
    where
      never : (p : ℕ) → (s.stale p && has (page ∷ []) p) ≡ false
      never p =
          elim (cases_eq p page) [
            | inl same ↦ ap (λ b. b && has (page ∷ []) p) (ap s.stale same ∙ fresh)
            | inr other ↦ ap (λ b. s.stale p && b) (has-one_other page p other) ∙ and-false (s.stale p)
          ]

      words_same : (w : ℕ) → s.words w ≡ (with_taken shape values (page ∷ []) s).words w
      words_same w =
          sym (cond-false (s.stale (page_of shape w) && has (page ∷ []) (page_of shape w)) (a_word (values w) None) (s.words w) (never (page_of shape w)))

      keeps : (x y : Bool) → (x && y) ≡ false → x ≡ (x && not y)
      keeps true true e = e
      keeps true false e = refl
      keeps false y e = refl

      stale_same : (p : ℕ) → s.stale p ≡ (s.stale p && not (has (page ∷ []) p))
      stale_same p = keeps (s.stale p) (has (page ∷ []) p) (never p)

  -- a page that is stale
  pub one-stale : (page : ℕ) (now : ℕ → ℕ) → s.stale page ≡ true → ((w : ℕ) → page_of shape w ≡ page → now w ≡ values w)
      → with_fixed_page shape page now s ≡ with_taken shape values (page ∷ []) s
  one-stale page now stale same =
      same_state s (with_fixed_page shape page now s).words (with_taken shape values (page ∷ []) s).words
      (with_fixed_page shape page now s).stale (with_taken shape values (page ∷ []) s).stale words_same stale_same
    where
      words_same : (w : ℕ) → (with_fixed_page shape page now s).words w ≡ (with_taken shape values (page ∷ []) s).words w
      words_same w =
          elim (cases_eq (page_of shape w) page) [
            | inl here ↦
                cond-true (page_of shape w == page) (a_word (now w) None) (s.words w) (eq-eqb (page_of shape w) page here)
                ∙ ap (λ n. a_word n None) (same w here)
                ∙ sym (cond-true (s.stale (page_of shape w) && has (page ∷ []) (page_of shape w)) (a_word (values w) None) (s.words w)
                (ap (λ b. b && has (page ∷ []) (page_of shape w)) (ap s.stale here ∙ stale) ∙ has-one_here page (page_of shape w) here))
            | inr other ↦
                cond-false (page_of shape w == page) (a_word (now w) None) (s.words w) (ne_eqb (page_of shape w) page other)
                ∙ sym (cond-false (s.stale (page_of shape w) && has (page ∷ []) (page_of shape w)) (a_word (values w) None) (s.words w)
                (ap (λ b. s.stale (page_of shape w) && b) (has-one_other page (page_of shape w) other) ∙ and-false (s.stale (page_of shape w))))
          ]

      stale_same : (p : ℕ) → (with_fixed_page shape page now s).stale p ≡ (s.stale p && not (has (page ∷ []) p))
      stale_same p =
          elim (cases_eq p page) [
            | inl here ↦
                cond-true (p == page) false (s.stale p) (eq-eqb p page here)
                ∙ sym (ap (λ b. s.stale p && not b) (has-one_here page p here) ∙ and-false (s.stale p))
            | inr other ↦
                cond-false (p == page) false (s.stale p) (ne_eqb p page other)
                ∙ sym (ap (λ b. s.stale p && not b) (has-one_other page p other) ∙ and-true (s.stale p))
          ]

  -- one page more
  pub taken-more : (xs : List ℕ) (page : ℕ) → with_taken shape values (page ∷ []) (with_taken shape values xs s) ≡ with_taken shape values (xs ++ page ∷ []) s
  taken-more xs page =
      same_state s (with_taken shape values (page ∷ []) (with_taken shape values xs s)).words (with_taken shape values (xs ++ page ∷ []) s).words
      (with_taken shape values (page ∷ []) (with_taken shape values xs s)).stale (with_taken shape values (xs ++ page ∷ []) s).stale words_same stale_same
    where
      both : (p : ℕ) → has (xs ++ page ∷ []) p ≡ (has xs p || has (page ∷ []) p)
      both p = list_any-append (λ y. y == p) xs (page ∷ [])

      table : (st a b : Bool) (v old : memory.Word)
          → cond ((st && not a) && b) v (cond (st && a) v old) ≡ cond (st && (a || b)) v old
      table true true true v old = refl
      table true true false v old = refl
      table true false true v old = refl
      table true false false v old = refl
      table false a b v old = refl

      fewer : (st a b : Bool) → ((st && not a) && not b) ≡ (st && not (a || b))
      fewer true true true = refl
      fewer true true false = refl
      fewer true false b = refl
      fewer false a b = refl

      words_same : (w : ℕ) → (with_taken shape values (page ∷ []) (with_taken shape values xs s)).words w ≡ (with_taken shape values (xs ++ page ∷ []) s).words w
      words_same w =
          table (s.stale (page_of shape w)) (has xs (page_of shape w)) (has (page ∷ []) (page_of shape w)) (a_word (values w) None) (s.words w)
          ∙ ap (λ b. cond (s.stale (page_of shape w) && b) (a_word (values w) None) (s.words w)) (sym (both (page_of shape w)))

      stale_same : (p : ℕ) → ((s.stale p && not (has xs p)) && not (has (page ∷ []) p)) ≡ (s.stale p && not (has (xs ++ page ∷ []) p))
      stale_same p = fewer (s.stale p) (has xs p) (has (page ∷ []) p) ∙ ap (λ b. s.stale p && not b) (sym (both p))

  -- all that are stale
  pub taken-all : (pages : List ℕ) → ((p : ℕ) → s.stale p ≡ true → has pages p ≡ true) → with_taken shape values pages s ≡ with_values shape values s
  taken-all pages named =
      same_state s (with_taken shape values pages s).words (with_values shape values s).words
      (with_taken shape values pages s).stale (with_values shape values s).stale words_same (λ p. gone (s.stale p) (has pages p) (named p))
    where
      with-named : (x y : Bool) → (x ≡ true → y ≡ true) → (x && y) ≡ x
      with-named true y e = e refl
      with-named false y e = refl

      gone : (x y : Bool) → (x ≡ true → y ≡ true) → (x && not y) ≡ false
      gone true true e = refl
      gone true false e = sym (e refl)
      gone false y e = refl

      words_same : (w : ℕ) → (with_taken shape values pages s).words w ≡ (with_values shape values s).words w
      words_same w =
          ap (λ b. cond b (a_word (values w) None) (s.words w))
          (with-named (s.stale (page_of shape w)) (has pages (page_of shape w)) (named (page_of shape w)))

  -- a word has its value, or keeps the one that it has
  pub value-taken : (pages : List ℕ) (w : ℕ) → (((with_taken shape values pages s).words w).value ≡ values w)
      ⊎ (((with_taken shape values pages s).words w).value ≡ (s.words w).value)
  value-taken pages w =
      elim (cases_Bool (s.stale (page_of shape w) && has pages (page_of shape w))) [
        | inl is ↦
            inl (ap (λ (x : memory.Word). x.value)
            (cond-true (s.stale (page_of shape w) && has pages (page_of shape w)) (a_word (values w) None) (s.words w) is))
        | inr not_ ↦
            inr (ap (λ (x : memory.Word). x.value)
            (cond-false (s.stale (page_of shape w) && has pages (page_of shape w)) (a_word (values w) None) (s.words w) not_))
      ]

  pub value-with : (w : ℕ) → (((with_values shape values s).words w).value ≡ values w) ⊎ (((with_values shape values s).words w).value ≡ (s.words w).value)
  value-with w =
      elim (cases_Bool (s.stale (page_of shape w))) [
        | inl is ↦ inl (ap (λ (x : memory.Word). x.value) (cond-true (s.stale (page_of shape w)) (a_word (values w) None) (s.words w) is))
        | inr not_ ↦ inr (ap (λ (x : memory.Word). x.value) (cond-false (s.stale (page_of shape w)) (a_word (values w) None) (s.words w) not_))
      ]

-- the keepers have these values still
pub values-stay : (shape : Shape) (keepers : BTreeMap ℕ ℕ) (have next : ℕ → State) (values : ℕ → ℕ)
    → ((k w : ℕ) → (((next k).words w).value ≡ values w) ⊎ (((next k).words w).value ≡ ((have k).words w).value))
    → AreValues shape keepers have values → AreValues shape keepers next values
values-stay shape keepers have next values each old w = go (get nat_cmp keepers (page_of shape w)) (old w)
  where
    go : (o : Option ℕ) → value_at o have w ≡ values w → value_at o next w ≡ values w
    go None e = e
    go (Some k) e =
        elim (each k w) [
          | inl is ↦ is
          | inr same ↦ same ∙ e
        ]

-- they have them where one node's state has those, or its own
pub values-have : (shape : Shape) (keepers : BTreeMap ℕ ℕ) (having : Having) (node : ℕ) (state : State) (values : ℕ → ℕ)
    → ((w : ℕ) → ((state.words w).value ≡ values w) ⊎ ((state.words w).value ≡ ((having.have node).words w).value))
    → AreValues shape keepers having.have values → AreValues shape keepers (with_have having node state).have values
values-have shape keepers having node state values each old =
    values-stay shape keepers having.have (with_have having node state).have values one old
  where
    one : (k w : ℕ) → (((cond (k == node) state (having.have k)).words w).value ≡ values w)
        ⊎ (((cond (k == node) state (having.have k)).words w).value ≡ ((having.have k).words w).value)
    one k w =
        elim (cases_eq k node) [
          | inl same ↦
              let is : cond (k == node) state (having.have k) ≡ state = cond-true (k == node) state (having.have k) (eq-eqb k node same) in
              elim (each w) [
                | inl value ↦ inl (ap (λ (s : State). (s.words w).value) is ∙ value)
                | inr own ↦ inr (ap (λ (s : State). (s.words w).value) is ∙ own ∙ ap (λ p. ((having.have p).words w).value) (sym same))
              ]
          | inr other ↦ inr (ap (λ (s : State). (s.words w).value) (cond-false (k == node) state (having.have k) (ne_eqb k node other)))
        ]

-- and where nodes below one have those, or their own
pub values-below : (shape : Shape) (keepers : BTreeMap ℕ ℕ) (having : Having) (values : ℕ → ℕ) (i : ℕ) → AreValues shape keepers having.have values
    → AreValues shape keepers (with_below having (λ node have. with_values shape values have) i).have values
values-below shape keepers having values i old =
    values-stay shape keepers having.have (with_below having (λ node have. with_values shape values have) i).have values one old
  where
    one : (k w : ℕ) → (((cond (nat_lt k i) (with_values shape values (having.have k)) (having.have k)).words w).value ≡ values w)
        ⊎ (((cond (nat_lt k i) (with_values shape values (having.have k)) (having.have k)).words w).value ≡ ((having.have k).words w).value)
    one k w =
        elim (cases_lt k i) [
          | inl lt ↦
              let is : cond (nat_lt k i) (with_values shape values (having.have k)) (having.have k) ≡ with_values shape values (having.have k) =
              cond-true (nat_lt k i) (with_values shape values (having.have k)) (having.have k) (lt-ltb k i lt) in
              elim (value-with shape values (having.have k) w) [
                | inl value ↦ inl (ap (λ (s : State). (s.words w).value) is ∙ value)
                | inr own ↦ inr (ap (λ (s : State). (s.words w).value) is ∙ own)
              ]
          | inr le ↦
              inr (ap (λ (s : State). (s.words w).value)
              (cond-false (nat_lt k i) (with_values shape values (having.have k)) (having.have k) (le-ltb k i le)))
        ]

-- ---- keepers

-- a keeper depends on the intervals that are known alone
pub keeper-agrees : (nodes : ℕ) (dropped : List ℕ) (all other : Knowledge) (page : ℕ)
    → ((node : ℕ) → is_writer dropped all page node ≡ is_writer dropped other page node)
    → keeper_of nodes dropped all page ≡ keeper_of nodes dropped other page
keeper-agrees zero dropped all other page same = refl
keeper-agrees (suc n) dropped all other page same =
    ap (λ k. cond (nat_lt k n) k (cond (is_writer dropped all page n) n (suc n))) (keeper-agrees n dropped all other page same)
    ∙ ap (λ b. cond (nat_lt (keeper_of n dropped other page) n) (keeper_of n dropped other page) (cond b n (suc n))) (same n)

pub writer-agrees : (dropped : List ℕ) (made : List (Vec Made Global)) (knows : Knowledge) (time : List ℕ) (page node : ℕ) → knows.time ≡ time
    → AreAmong made knows → is_writer dropped (known_of made time) page node ≡ is_writer dropped knows page node
writer-agrees dropped made knows time page node times among =
    sym (names-agree node (knows.interval node) (entry dropped node) (λ index. in_row (row_of made node) index) page (entry knows.time node)
    (λ i lt. among.is node i lt)
    ∙ ap (λ t. names_between (λ index. in_row (row_of made node) index) page (entry dropped node) (entry t node)) times)

-- the keepers have the values that a collection gives
pub keepers-have : (shape : Shape) (keepers : BTreeMap ℕ ℕ) (made : List (Vec Made Global)) (dropped time : List ℕ) (knows : Knowledge)
    (arrived : ℕ → Option State) (have : ℕ → State) → AreKeepers shape.nodes made dropped time keepers → knows.time ≡ time → AreAmong made knows
    → AreKeptValues shape.nodes knows arrived have
    → AreValues shape keepers have (λ w. kept_value shape.nodes knows (arrived (keeper_of shape.nodes dropped knows (page_of shape w))) w)
keepers-have shape keepers made dropped time knows arrived have are times among kept w =
    go (get nat_cmp keepers (page_of shape w)) (are (page_of shape w))
  where
    same : keeper_of shape.nodes dropped (known_of made time) (page_of shape w) ≡ keeper_of shape.nodes dropped knows (page_of shape w)
    same =
        keeper-agrees shape.nodes dropped (known_of made time) knows (page_of shape w)
        (λ node. writer-agrees dropped made knows time (page_of shape w) node times among)

    go : (o : Option ℕ) → IsKeeper shape.nodes (keeper_of shape.nodes dropped (known_of made time) (page_of shape w)) o
        → value_at o have w ≡ kept_value shape.nodes knows (arrived (keeper_of shape.nodes dropped knows (page_of shape w))) w
    go None is =
        sym (ap (λ k. kept_value shape.nodes knows (arrived k) w) (sym same ∙ is) ∙ ap (λ o. kept_value shape.nodes knows o w) kept.none)
    go (Some k) (is, lt) = sym (ap (λ n. kept_value shape.nodes knows (arrived n) w) (sym same ∙ is) ∙ kept.values k lt w)

-- each keeper is a node
pub keepers-nodes : (nodes : ℕ) (made : List (Vec Made Global)) (dropped time : List ℕ) (keepers : BTreeMap ℕ ℕ)
    → AreKeepers nodes made dropped time keepers → AreNodes nodes keepers
keepers-nodes nodes made dropped time keepers are page node is =
    (subst (IsKeeper nodes (keeper_of nodes dropped (known_of made time) page)) is (are page)).1

-- what a collection makes of a state
pub collected-is : (shape : Shape) (knows : Knowledge) (arrived : ℕ → Option State) (dropped : List ℕ) (s : State) → s.dropped ≡ dropped
    → record (with_values shape (λ w. kept_value shape.nodes knows (arrived (keeper_of shape.nodes dropped knows (page_of shape w))) w) s)
    { dropped = knows.time } ≡ collected shape knows arrived s
collected-is shape knows arrived dropped s is =
    ap (λ d. record (with_values shape (λ w. kept_value shape.nodes knows (arrived (keeper_of shape.nodes d knows (page_of shape w))) w) s)
    { dropped = knows.time }) (sym is)
