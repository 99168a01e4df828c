-- Numbers by nodes, with one act more.
use Rattle.std.proofs.Common.{◌≡◌, ◌∙◌, ◌+◌, ◌<◌, ◌≤◌, [], ℕ, List, ap, sym, subst, arith, inl, inr, get_or, length, take}
use Rattle.std.specs.Prelude.{Bool, cond, ◌==◌, ◌&&◌, min, replicate, slice_index, slice_set}
use Rattle.std.proofs.lemmas.Bool.{cases_eq, cases_lt, eq-eqb, ne_eqb}
use Rattle.std.proofs.lemmas.List.{get_or-replicate, get_or-set_other, get_or-set_same, length-take, take_all}
use Rattle.std.proofs.lemmas.List.Sums.{count_by-le-length, sum_by_more}
use Rattle.lrc_trace.specs.declared.act.Act.{Act}
use Rattle.lrc_trace.specs.declared.act.Deed.{Deed}
use Rattle.lrc_trace.specs.declared.act.Deed.TheVariants.{Quiet}
use Rattle.lrc_trace.specs.Run.{count_of}
use Rattle.lrc_chart_build.specs.Counts.{AreNext}

abbrev pub once : Bool → ℕ
once b = cond b 1 0

-- at the start all numbers are 1
pub next_none : (kind : Deed → Bool) (numbers : List ℕ) → numbers ≡ replicate 256 1 → AreNext kind [] numbers
next_none kind numbers is = λ node within. ap (λ l. slice_index l node) is ∙ get_or-replicate 256 node 1 0 within

-- a number is no more than one more than how many acts there are
pub next_few : (kind : Deed → Bool) (acts : List Act) (k node : ℕ) (numbers : List ℕ) → AreNext kind (take k acts) numbers → node < 256
    → slice_index numbers node ≤ 1 + k
next_few kind acts k node numbers are few =
    let is = are node few in
    let less = count_by-le-length (λ (a : Act). (a.node == node) && kind a.deed) (take k acts) in
    let many = length-take k acts in
    omega (arith, is, less, many)

-- one act more
pub next_more : (kind : Deed → Bool) (acts : List Act) (k : ℕ) (d : Act) (old new : List ℕ) → k < length acts → length old ≡ 256
    → (get_or acts k d).node < 256
    → new ≡ slice_set old (get_or acts k d).node (slice_index old (get_or acts k d).node + once (kind (get_or acts k d).deed))
    → AreNext kind (take k acts) old → AreNext kind (take (k + 1) acts) new
next_more kind acts k d old new within long few is are = λ n small.
    let act : Act = get_or acts k d in
    let more : ℕ = slice_index old act.node + once (kind act.deed) in
    let counted : count_of kind n (take (k + 1) acts) ≡ count_of kind n (take k acts) + once ((act.node == n) && kind act.deed) =
    sum_by_more (λ (a : Act). once ((a.node == n) && kind a.deed)) acts k d within in
    ap (λ l. slice_index l n) is ∙ elim (cases_eq n act.node) [
      | inl same ↦
          let now : slice_index (slice_set old act.node more) n ≡ more =
          ap (slice_index (slice_set old act.node more)) same ∙ get_or-set_same old act.node more 0 (omega (arith, long, few)) in
          let was : slice_index old act.node ≡ 1 + count_of kind n (take k acts) =
          are act.node few ∙ ap (λ m. 1 + count_of kind m (take k acts)) (sym same) in
          let hits : once ((act.node == n) && kind act.deed) ≡ once (kind act.deed) =
          ap (λ b. once (b && kind act.deed)) (eq-eqb act.node n (sym same)) in
          omega (arith, now, was, hits, counted)
      | inr other ↦
          let now = get_or-set_other old act.node n more 0 other in
          let was = are n small in
          let misses : once ((act.node == n) && kind act.deed) ≡ 0 =
          ap (λ b. once (b && kind act.deed)) (ne_eqb act.node n (λ e. other (sym e))) in
          omega (arith, now, was, misses, counted)
    ]

-- what stands for the act where there is none
abbrev pub no_act : Act
no_act = record { node = 0; deed = Quiet }

take_min : {X : Type 0} (xs : List X) (p : ℕ) → take (min p (length xs)) xs ≡ take p xs
take_min xs p =
    elim (cases_lt p (length xs)) [
      | inl within ↦
          let is : min p (length xs) ≡ p = omega (arith, within) in
          ap (λ n. take n xs) is
      | inr past ↦
          let is : min p (length xs) ≡ length xs = omega (arith, past) in
          ap (λ n. take n xs) is ∙ take_all (length xs) xs (omega arith) ∙ sym (take_all p xs past)
    ]

-- behind the last act nothing more is counted
pub next_past : (kind : Deed → Bool) (acts : List Act) (p : ℕ) (numbers : List ℕ) → AreNext kind (take (min p (length acts)) acts) numbers
    → AreNext kind (take p acts) numbers
next_past kind acts p numbers = subst (λ l. AreNext kind l numbers) (take_min acts p)

-- the same at the same place
pub next_at : (kind : Deed → Bool) (acts : List Act) (p q : ℕ) (numbers : List ℕ) → p ≡ q → AreNext kind (take p acts) numbers
    → AreNext kind (take q acts) numbers
next_at kind acts p q numbers e are = subst (λ n. AreNext kind (take n acts) numbers) e are
