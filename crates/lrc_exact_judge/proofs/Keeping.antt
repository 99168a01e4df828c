-- Which node keeps a page, node by node.
use Rattle.std.proofs.Common.{◌≡◌, ℕ, suc, ◌<◌, ◌≤◌, ◌&&◌, ◌||◌, Bool, true, false, cond, List, [], ◌∷◌, ◌++◌, inl, inr, refl, sym, ap, ◌∙◌, arith}
use Rattle.std.specs.Prelude.{Option, Some, None, nat_lt}
use Rattle.std.proofs.lemmas.Bool.{cond-true, cond-false, le-leb, lt-ltb, le-ltb}
use Rattle.lrc_exact.specs.Memory.{Interval}
use Rattle.lrc_exact.specs.Rule.{Knowledge, is_writer, keeper_of, names_between}
use Rattle.std.specs.Prelude.{◌==◌}
use Rattle.std.specs.Ordering.{nat_cmp}
use Rattle.std.specs.BTreeMap.{BTreeMap, get, Updates}
use Rattle.std.proofs.lemmas.Bool.{cases_eq, eq-eqb, ne_eqb}
use Rattle.lrc_exact_copies.specs.Made.{has}
use Rattle.lrc_exact_copies.proofs.Copying.{has-push_here, has-push_other}
use Rattle.lrc_exact_copies.proofs.Puts.{apart_at}
use Rattle.lrc_exact_copies.proofs.Rows.{names-none}
use Rattle.lrc_exact_judge.specs.Keepers.{AddsKeeper, IsKeeper, kept_or}

-- a node is added for the pages of one interval more
pub kept-more : (node : ℕ) (f : ℕ → Interval) (page first i : ℕ) (o : Option ℕ) → first ≤ i
    → kept_or node ((f (suc i)).names page) (kept_or node (names_between f page first i) o)
    ≡ kept_or node (names_between f page first (suc i)) o
kept-more node f page first i (Some k) le = refl
kept-more node f page first i None le =
    turn ((f (suc i)).names page) (names_between f page first i)
    ∙ ap (λ b. kept_or node ((b && (f (suc i)).names page) || names_between f page first i) None) (sym (le-leb first i le))
  where
    turn : (x y : Bool) → kept_or node x (kept_or node y None) ≡ kept_or node ((true && x) || y) None
    turn true true = refl
    turn true false = refl
    turn false true = refl
    turn false false = refl

-- one node more
pub keeper-more : (dropped : List ℕ) (all : Knowledge) (page n : ℕ) (o : Option ℕ) → IsKeeper n (keeper_of n dropped all page) o
    → IsKeeper (suc n) (keeper_of (suc n) dropped all page) (kept_or n (is_writer dropped all page n) o)
keeper-more dropped all page n (Some k) (is, lt) =
    let lower = keeper_of n dropped all page in
    let less : lower < n = omega arith in
    (cond-true (nat_lt lower n) lower (cond (is_writer dropped all page n) n (suc n)) (lt-ltb lower n less) ∙ is, omega arith)
keeper-more dropped all page n None is = go (is_writer dropped all page n) refl
  where
    stays : keeper_of (suc n) dropped all page ≡ cond (is_writer dropped all page n) n (suc n)
    stays =
        cond-false (nat_lt (keeper_of n dropped all page) n) (keeper_of n dropped all page) (cond (is_writer dropped all page n) n (suc n))
        (le-ltb (keeper_of n dropped all page) n (omega arith))

    go : (b : Bool) → is_writer dropped all page n ≡ b → IsKeeper (suc n) (keeper_of (suc n) dropped all page) (kept_or n b None)
    go true e = (stays ∙ ap (λ b. cond b n (suc n)) e, omega arith)
    go false e = stays ∙ ap (λ b. cond b n (suc n)) e

-- ---- one page more

kept-no : (node : ℕ) (o : Option ℕ) → kept_or node false o ≡ o
kept-no node (Some k) = refl
kept-no node None = refl

kept-again : (node : ℕ) (a b : Bool) (o : Option ℕ) → kept_or node b (kept_or node a o) ≡ kept_or node (a || b) o
kept-again node a b (Some k) = refl
kept-again node true true None = refl
kept-again node true false None = refl
kept-again node false true None = refl
kept-again node false false None = refl

-- the page had no keeper,
pub page-added : (node page : ℕ) (old new : BTreeMap ℕ ℕ) → get nat_cmp old page ≡ None → Updates nat_cmp old new page (Some node)
    → AddsKeeper node (λ p. p == page) old new
page-added node page old new none updates p =
    elim (cases_eq p page) [
      | inl same ↦
          ap (get nat_cmp new) same ∙ updates.1
          ∙ sym (ap (λ b. kept_or node b (get nat_cmp old p)) (eq-eqb p page same)
          ∙ ap (λ q. kept_or node true (get nat_cmp old q)) same ∙ ap (kept_or node true) none)
      | inr other ↦
          updates.2 p (apart_at page p other)
          ∙ sym (ap (λ b. kept_or node b (get nat_cmp old p)) (ne_eqb p page other) ∙ kept-no node (get nat_cmp old p))
    ]

-- or has one
pub page-kept : (node page k : ℕ) (old : BTreeMap ℕ ℕ) → get nat_cmp old page ≡ Some k → AddsKeeper node (λ p. p == page) old old
page-kept node page k old some p =
    elim (cases_eq p page) [
      | inl same ↦
          let there : get nat_cmp old p ≡ Some k = ap (get nat_cmp old) same ∙ some in
          there ∙ sym (ap (kept_or node (p == page)) there)
      | inr other ↦ sym (ap (λ b. kept_or node b (get nat_cmp old p)) (ne_eqb p page other) ∙ kept-no node (get nat_cmp old p))
    ]

-- none so far
pub none-added : (node : ℕ) (old : BTreeMap ℕ ℕ) → AddsKeeper node (has []) old old
none-added node old p = sym (kept-no node (get nat_cmp old p))

-- one of a list more
pub pages-more : (node page : ℕ) (xs : List ℕ) (old mid new : BTreeMap ℕ ℕ) → AddsKeeper node (has xs) old mid
    → AddsKeeper node (λ p. p == page) mid new → AddsKeeper node (has (xs ++ page ∷ [])) old new
pages-more node page xs old mid new before next p =
    next p ∙ ap (kept_or node (p == page)) (before p) ∙ kept-again node (has xs p) (p == page) (get nat_cmp old p)
    ∙ ap (λ b. kept_or node b (get nat_cmp old p)) joins
  where
    or-true : (b : Bool) → (b || true) ≡ true
    or-true true = refl
    or-true false = refl

    or-false : (b : Bool) → (b || false) ≡ b
    or-false true = refl
    or-false false = refl

    joins : (has xs p || (p == page)) ≡ has (xs ++ page ∷ []) p
    joins =
        elim (cases_eq p page) [
          | inl same ↦ ap (λ b. has xs p || b) (eq-eqb p page same) ∙ or-true (has xs p) ∙ sym (has-push_here xs page p same)
          | inr other ↦ ap (λ b. has xs p || b) (ne_eqb p page other) ∙ or-false (has xs p) ∙ sym (has-push_other xs page p other)
        ]

-- ---- rows

-- no interval yet
pub row-begins : (node : ℕ) (f : ℕ → Interval) (first last : ℕ) (old : BTreeMap ℕ ℕ) → last ≤ first
    → AddsKeeper node (λ page. names_between f page first last) old old
row-begins node f first last old le p =
    sym (ap (λ b. kept_or node b (get nat_cmp old p)) (names-none node f first p last le) ∙ kept-no node (get nat_cmp old p))

-- one interval more
pub row-more : (node : ℕ) (f : ℕ → Interval) (first i : ℕ) (old mid new : BTreeMap ℕ ℕ) → first ≤ i
    → AddsKeeper node (λ page. names_between f page first i) old mid → AddsKeeper node (f (suc i)).names mid new
    → AddsKeeper node (λ page. names_between f page first (suc i)) old new
row-more node f first i old mid new le before next p =
    next p ∙ ap (kept_or node ((f (suc i)).names p)) (before p) ∙ kept-more node f p first i (get nat_cmp old p) le

-- where there is none, it makes no difference which is the last
pub row-empty : (node : ℕ) (f : ℕ → Interval) (first i last : ℕ) (old new : BTreeMap ℕ ℕ) → i ≤ first → last ≤ first
    → AddsKeeper node (λ page. names_between f page first i) old new → AddsKeeper node (λ page. names_between f page first last) old new
row-empty node f first i last old new le le' before p =
    before p ∙ ap (λ b. kept_or node b (get nat_cmp old p)) (names-none node f first p i le ∙ sym (names-none node f first p last le'))
