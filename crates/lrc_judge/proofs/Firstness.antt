-- The leaders of the pairs in order are the first pairs of the races.
use Rattle.std.proofs.Common.{◌≡◌, ℕ, ◌<◌, ◌≤◌, ◌⊎◌, List, Some, length, get_or, inl, inr, refl, sym, subst, ◌∙◌, ap, arith}
use Rattle.std.specs.Prelude.{◌↔◌, false, true, All, Contains, slice_get}
use Rattle.std.specs.Cmp.{nat_cmp_is}
use Rattle.std.specs.Ordering.{is_lt, nat_cmp, ordering_then}
use Rattle.std.specs.declared.cmp.Ordering.{Ordering}
use Rattle.std.specs.declared.cmp.Ordering.TheVariants.{Less, Equal}
use Rattle.std.specs.List.Sorted.{IsSorted, IsPermutation}
use Rattle.std.proofs.lemmas.Bool.{cases_lt, cases_order, false≢true}
use Rattle.std.proofs.lemmas.List.MinMax.{ranks_by}
use Rattle.std.proofs.lemmas.List.Sorted.{Contains-permutation, IsPermutation-sym, sorted_far}
use Rattle.std.proofs.lemmas.Option.{get_or_from_slice_get, slice_get-get_or, slice_get_within}
use Rattle.lrc_trace.specs.declared.act.Act.{Act}
use Rattle.lrc_trace.specs.declared.race.Race.{Race}
use Rattle.lrc_judge.specs.declared.lanes.Pair.{Pair}
use Rattle.lrc_judge.specs.FirstPairs.{IsFirstPair, IsPairOf}
use Rattle.lrc_judge.specs.Firsts.{AreIntervals}
use Rattle.lrc_judge.specs.Leaders.{AreLeaders, IsLeaderAt}
use Rattle.lrc_judge.specs.Pairs.{pair_cmp}
use Rattle.lrc_judge.specs.Races.{AreRacePairs, IsNameOf}
use Rattle.lrc_judge.proofs.Naming.{is_name, name_there, pair_named}
use Rattle.lrc_judge.proofs.PairOrder.{pair_total}

-- a pair is not later than another one
abbrev pub IsNotLater : Pair → Pair → Type 0
IsNotLater p q = (p.later < q.later) ⊎ ((p.later ≡ q.later) × (p.earlier ≤ q.earlier))

not_less : (p q : Pair) → is_lt (pair_cmp q p) ≡ false → IsNotLater p q
not_less p q h =
    elim (cases_order p.later q.later) [
      | inl same ↦
          elim (cases_lt q.earlier p.earlier) [
            | inl lower ↦
                let equal : nat_cmp q.later p.later ≡ Equal = sym (nat_cmp_is q.later p.later Equal (sym same)) in
                let under : nat_cmp q.earlier p.earlier ≡ Less = sym (nat_cmp_is q.earlier p.earlier Less lower) in
                let is : pair_cmp q p ≡ Less = ap (λ o. ordering_then o (nat_cmp q.earlier p.earlier)) equal ∙ under in
                absurd (false≢true (sym h ∙ ap is_lt is))
            | inr le ↦ inr (same, le)
          ]
      | inr (inl lower) ↦ inl lower
      | inr (inr upper) ↦
          let under : nat_cmp q.later p.later ≡ Less = sym (nat_cmp_is q.later p.later Less upper) in
          let is : pair_cmp q p ≡ Less = ap (λ o. ordering_then o (nat_cmp q.earlier p.earlier)) under in
          absurd (false≢true (sym h ∙ ap is_lt is))
    ]

-- of pairs in order one that stands before another is not later
pub in_order_at : (pairs : List Pair) → IsSorted pair_cmp pairs → (j k : ℕ) (p q : Pair) → j ≤ k → slice_get pairs j ≡ Some p → slice_get pairs k ≡ Some q
    → IsNotLater p q
in_order_at pairs sorted j k p q le at_j at_k =
    let inside = slice_get_within pairs k q at_k in
    let far = sorted_far (λ x y. is_lt (pair_cmp x y)) (ranks_by pair_total (λ (x : Pair). x)) pairs sorted j k p le inside in
    not_less p q
    (subst (λ x. is_lt (pair_cmp q x) ≡ false) (get_or_from_slice_get pairs j p p at_j)
    (subst (λ y. is_lt (pair_cmp y (get_or pairs j p)) ≡ false) (get_or_from_slice_get pairs k q p at_k) far))

numbers : (p q : Pair) → IsNotLater p q → IsNotLater q p → (p.later ≡ q.later) × (p.earlier ≡ q.earlier)
numbers p q (inl a) (inl b) = absurd (omega arith)
numbers p q (inl a) (inr (b, c)) = absurd (omega arith)
numbers p q (inr (a, b)) (inl c) = absurd (omega arith)
numbers p q (inr (a, b)) (inr (c, d)) = (a, omega arith)

-- a pair that is not later than one that stands under a third
onward : (p q r : Pair) → IsNotLater p q → q.later ≤ r.later → q.earlier ≤ r.earlier → IsNotLater p r
onward p q r (inl lt) later earlier = inl (omega arith)
onward p q r (inr (same, le)) later earlier =
    elim (cases_lt p.later r.later) [
      | inl lt ↦ inl lt
      | inr ge ↦ inr (omega arith, omega arith)
    ]

pair_same : (p q : Pair) → IsNotLater p q → IsNotLater q p → p ≡ q
pair_same p q one two =
    let (laters, earliers) = numbers p q one two in
    let e : ◌≡◌ {A = Pair} (record { later = p.later; earlier = p.earlier }) (record { later = q.later; earlier = q.earlier }) = cc in e

module _ (run : List Act) (intervals : List ℕ) (are : AreIntervals run (length run) intervals) (found sorted leaders : List Pair)
    (racing : AreRacePairs run found) (permutation : IsPermutation found sorted) (in_order : IsSorted pair_cmp sorted)
    (leading : AreLeaders run intervals sorted leaders) where
  -- a pair in order is one of those found
  was_found : (k : ℕ) (pair : Pair) → slice_get sorted k ≡ Some pair → Contains found pair
  was_found k pair at =
      Contains-permutation sorted found pair (IsPermutation-sym found sorted permutation)
      (k, slice_get_within sorted k pair at, get_or_from_slice_get sorted k pair pair at)

  stands : (pair : Pair) → Contains found pair → (k : ℕ) × (slice_get sorted k ≡ Some pair)
  stands pair has =
      let (k, lt, is) = Contains-permutation found sorted pair permutation has in
      (k, slice_get-get_or sorted k pair lt ∙ ap Some is)

  pub leader_first : (pair : Pair) → Contains leaders pair → (race : Race) × IsFirstPair run race pair
  leader_first pair has =
      let (k, leader) = leading.sound pair has in
      let races = racing.sound pair (was_found k pair leader.is) in
      let (race, name) = name_there run intervals pair races in (
        race,
        record {
          of = pair_named run intervals are pair race races name;
          least = λ other of.
              let (best, has', of', later, earlier) = racing.complete race other of in
              let (m, at) = stands best has' in
              elim (cases_lt m k) [
                | inl before ↦ absurd (leader.fresh m best race before at (is_name run intervals are best race of'.named) name)
                | inr le ↦ onward pair best other (in_order_at sorted in_order k m pair best le leader.is at) later earlier
              ];
        },
      )

  pub first_leads : (pair : Pair) (race : Race) → IsFirstPair run race pair → Contains leaders pair
  first_leads pair race first =
      let (best, has, of, later, earlier) = racing.complete race pair first.of in
      let (k, at) = stands best has in
      let (j, leader, le, at', has', name) = leading.complete k best race at (is_name run intervals are best race of.named) in
      let races = racing.sound leader (was_found j leader at') in
      let down = in_order_at sorted in_order j k leader best le at' at in
      let up = first.least leader (pair_named run intervals are leader race races name) in
      subst (λ p. Contains leaders p) (pair_same leader pair (onward leader best pair down later earlier) up) has'
