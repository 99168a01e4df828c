-- What is kept without the barriers that are gone.
use Rattle.std.proofs.Common.{◌≡◌, ℕ, ◌+◌, ◌-◌, ◌<◌, ◌≤◌, List, inl, inr, refl, sym, subst, ◌∙◌, ap, arith}
use Rattle.std.specs.Prelude.{if◌then◌else◌, Contains}
use Rattle.std.proofs.lemmas.Bool.{cases_lt, le-ltb, lt-ltb}
use Rattle.lrc_trace.specs.declared.act.Act.{Act}
use Rattle.lrc_trace.specs.Order.{HappensBefore}
use Rattle.lrc_lazy_known.specs.declared.known.Known.{Known}
use Rattle.lrc_lazy_known.specs.declared.known.Knowledge.{Knowledge}
use Rattle.lrc_lazy_known.specs.Knowing.{Tells, to_node, to_lock, to_barrier, KnowsWrite}
use Rattle.lrc_lazy_known.specs.Word.{last_of, values_of, is_above, number_before, IsLast, IsWithout, Describes}
use Rattle.lrc_lazy_known.specs.Effect.{word_of, AreOf, IsKnowledgeOf, IsKnowledgeWithout}
use Rattle.lrc_lazy_known.proofs.Sets.{describes_moved}

-- what is left describes what those know who are left
pub describes_without : (before : ℕ → ℕ → Type 0) (known : ℕ → ℕ → ℕ → Type 0) (first count : ℕ) (word left : List Known) → IsWithout first count word left
    → Describes before known word → Describes before (λ k. known (number_before first count k)) left
describes_without before known first count word left is d = record {
  lasts = λ k. subst (λ x. IsLast before (known (number_before first count k)) x) (sym (is.lasts k)) (d.lasts (number_before first count k));
  values = λ k v. (
    λ c. (d.values (number_before first count k) v).0 ((is.values k v).0 c),
    λ found. (is.values k v).1 ((d.values (number_before first count k) v).1 found),
  );
  above = λ k z. (
    λ a. (d.above (number_before first count k) (number_before first count z)).0 (sym (is.above k z) ∙ a),
    λ h. is.above k z ∙ (d.above (number_before first count k) (number_before first count z)).1 h,
  );
}

pub number_low : (first count k : ℕ) → k < first → number_before first count k ≡ k
number_low first count k lt = ap (λ b. if b then k else k + count) (lt-ltb k first lt)

pub number_high : (first count k : ℕ) → first ≤ k → number_before first count k ≡ k + count
number_high first count k le = ap (λ b. if b then k else k + count) (le-ltb k first le)

-- where none are dropped all is the same
pub number_none : (first k : ℕ) → number_before first 0 k ≡ k
number_none first k = elim (cases_lt k first) [
  | inl lt ↦ number_low first 0 k lt
  | inr le ↦ number_high first 0 k le ∙ omega arith
]

pub without_none : (first : ℕ) (word : List Known) → IsWithout first 0 word word
without_none first word = record {
  lasts = λ k. ap (last_of word) (sym (number_none first k));
  values = λ k v. (
    subst (λ x. Contains (values_of word x) v) (sym (number_none first k)),
    subst (λ x. Contains (values_of word x) v) (number_none first k),
  );
  above = λ k z. ap (λ x. is_above word x z) (sym (number_none first k)) ∙ ap (is_above word (number_before first 0 k)) (sym (number_none first z));
}

module _ (nodes locks gone count : ℕ) (run : List Act) (are : AreOf nodes locks run) where
  abbrev first : ℕ
  first = nodes + locks

  -- those that are left are told the same
  tells_low : {p k : ℕ} → k < first → Tells nodes locks gone run p k → Tells nodes locks (gone + count) run p k
  tells_low lt (to_node d) = to_node d
  tells_low lt (to_lock e d) = to_lock e d
  tells_low lt (to_barrier n e c d) = absurd (omega (arith, e, lt))

  tells_low_back : {p k : ℕ} → k < first → Tells nodes locks (gone + count) run p k → Tells nodes locks gone run p k
  tells_low_back lt (to_node d) = to_node d
  tells_low_back lt (to_lock e d) = to_lock e d
  tells_low_back lt (to_barrier n e c d) = absurd (omega (arith, e, lt))

  tells_high : {p k : ℕ} → first ≤ k → Tells nodes locks gone run p (k + count) → Tells nodes locks (gone + count) run p k
  tells_high {p} {k} le (to_node d) = let lt = are.in_nodes p (k + count) _ d in absurd (omega (arith, lt, le))
  tells_high {p} {k} le (to_lock {node = q} {l = l} e d) = let lt = are.in_locks p q l d in absurd (omega (arith, lt, le, e))
  tells_high {p} {k} le (to_barrier n e c d) =
      let split : (m : ℕ) × (k ≡ first + m) = (k - first, omega (arith, le)) in
      let same : gone + n ≡ gone + count + split.0 = omega (arith, e, split.1) in
      to_barrier split.0 split.1 (c ∙ same) d

  tells_high_back : {p k : ℕ} → first ≤ k → Tells nodes locks (gone + count) run p k → Tells nodes locks gone run p (k + count)
  tells_high_back {p} {k} le (to_node d) = let lt = are.in_nodes p k _ d in absurd (omega (arith, lt, le))
  tells_high_back {p} {k} le (to_lock {node = q} {l = l} e d) = let lt = are.in_locks p q l d in absurd (omega (arith, lt, le, e))
  tells_high_back {p} {k} le (to_barrier n e c d) =
      to_barrier (n + count) (omega (arith, e)) (omega (arith, c)) d

  tells_left : (p k : ℕ) → Tells nodes locks gone run p (number_before first count k) → Tells nodes locks (gone + count) run p k
  tells_left p k t = elim (cases_lt k first) [
    | inl lt ↦ tells_low lt (subst (λ x. Tells nodes locks gone run p x) (number_low first count k lt) t)
    | inr le ↦ tells_high le (subst (λ x. Tells nodes locks gone run p x) (number_high first count k le) t)
  ]

  tells_back : (p k : ℕ) → Tells nodes locks (gone + count) run p k → Tells nodes locks gone run p (number_before first count k)
  tells_back p k t = elim (cases_lt k first) [
    | inl lt ↦ subst (λ x. Tells nodes locks gone run p x) (sym (number_low first count k lt)) (tells_low_back lt t)
    | inr le ↦ subst (λ x. Tells nodes locks gone run p x) (sym (number_high first count k le)) (tells_high_back le t)
  ]

  module _ (word : ℕ) where
    abbrev known : ℕ → ℕ → ℕ → Type 0
    known k i v = KnowsWrite nodes locks gone run word (number_before first count k) i v

    abbrev left : ℕ → ℕ → ℕ → Type 0
    left k i v = KnowsWrite nodes locks (gone + count) run word k i v

    knows_left : (k i v : ℕ) → known k i v → left k i v
    knows_left k i v h = record {
      write = h.write;
      knows = record { through = h.knows.through; told = tells_left h.knows.through k h.knows.told; reaches = h.knows.reaches };
    }

    knows_back : (k i v : ℕ) → left k i v → known k i v
    knows_back k i v h = record {
      write = h.write;
      knows = record { through = h.knows.through; told = tells_back h.knows.through k h.knows.told; reaches = h.knows.reaches };
    }

    pub left_described : (old new : List Known) → IsWithout first count old new → Describes (HappensBefore run) (KnowsWrite nodes locks gone run word) old
        → Describes (HappensBefore run) (KnowsWrite nodes locks (gone + count) run word) new
    left_described old new is d =
        describes_moved (HappensBefore run) (HappensBefore run) known left knows_left knows_back (λ z k i m u v x y h. h) (λ z k i m u v x y h. h)
        new new (describes_without (HappensBefore run) (KnowsWrite nodes locks gone run word) first count old new is d)
        (record { lasts = λ k. refl; values = λ k v. (λ c. c, λ c. c); above = λ k z. refl })

-- what is kept of every word where so many barriers more are gone
pub knowledge_without : (nodes locks gone count : ℕ) (run : List Act) (old new : Knowledge) → AreOf nodes locks run → IsKnowledgeOf nodes locks gone run old
    → IsKnowledgeWithout (nodes + locks) count old new → IsKnowledgeOf nodes locks (gone + count) run new
knowledge_without nodes locks gone count run old new are d is word =
    left_described nodes locks gone count run are word (word_of old word) (word_of new word) (is word) (d word)
