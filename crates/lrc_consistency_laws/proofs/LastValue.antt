-- The last value written to a word, after one act more, and by positions.
use Rattle.std.proofs.Common.{◌≡◌, ℕ, zero, suc, ◌+◌, ◌<◌, ◌≤◌, List, [], ◌∷◌, ◌++◌, ◌⊎◌, inl, inr, length, take, sym, subst, ◌∙◌, ap, refl, arith, add-one}
use Rattle.std.proofs.lemmas.Bool.{cases_eq, ne_eqb, eq-eqb}
use Rattle.lrc_trace.specs.declared.act.Act.{Act}
use Rattle.lrc_trace.specs.declared.act.Deed.{Deed}
use Rattle.lrc_trace.specs.declared.act.Deed.TheVariants.{Quiet, Print, Read, Write, Acquire, Release, Arrive, Depart, Trap, End}
use Rattle.lrc_trace.specs.Run.{Does, IsDone, act_of}
use Rattle.lrc_trace.proofs.Positions.{Does-one_deed}
use Rattle.lrc_trace.proofs.Intervals.{act_at}
use Rattle.lrc_consistency_laws.specs.InOrder.{value_after, value_after_all, last_value}
use Rattle.lrc_consistency_laws.proofs.Ahead.{take_ahead}

value_after_all-append : (word : ℕ) (xs ys : List Act) (v : ℕ) → value_after_all word (xs ++ ys) v ≡ value_after_all word ys (value_after_all word xs v)
value_after_all-append word [] ys v = refl
value_after_all-append word (a ∷ xs) ys v = value_after_all-append word xs ys (value_after word a.deed v)

-- after one act more
pub last_value-more : {run : List Act} {j node : ℕ} {d : Deed} (word : ℕ) → Does run j node d
    → last_value run (j + 1) word ≡ value_after word d (last_value run j word)
last_value-more {run} {j} {node} {d} word here =
    ap (λ i. last_value run i word) (add-one j)
    ∙ ap (λ acts. value_after_all word acts 0) (take_ahead run j (act_of node d) here.stands)
    ∙ value_after_all-append word (take j run) (act_of node d ∷ []) 0

-- a write to this word, and to another
pub value_after-same : (word v x : ℕ) → value_after word (Write word v) x ≡ v
value_after-same word v x = rw (eq-eqb word word refl)

pub value_after-other : (word w v x : ℕ) → (w ≡ word → ⊥) → value_after word (Write w v) x ≡ x
value_after-other word w v x h = rw (ne_eqb w word h)

-- no write to the word stands before the position
pub record Unwritten (run : List Act) (j word : ℕ) : Type 0 where
  pub none : (i v : ℕ) → i < j → IsDone run i (Write word v) → ⊥
  pub zero : last_value run j word ≡ 0

-- i is the last of those that do
pub record Written (run : List Act) (j word i : ℕ) : Type 0 where
  pub earlier : i < j
  pub value : ℕ
  pub write : IsDone run i (Write word value)
  pub last : (k v : ℕ) → i < k → k < j → IsDone run k (Write word v) → ⊥
  pub is_value : last_value run j word ≡ value

-- either no write to the word stands before a position, or one is the last
abbrev pub Found : List Act → ℕ → ℕ → Type 0
Found run j word = Unwritten run j word ⊎ ((i : ℕ) × Written run j word i)

module _ (run : List Act) (word : ℕ) where
  -- where the act at j is no write to the word
  keeps : (j node : ℕ) (d : Deed) → Does run j node d → ((v : ℕ) → d ≡ Write word v → ⊥) → ((x : ℕ) → value_after word d x ≡ x) → Found run j word
      → Found run (j + 1) word
  keeps j node d here silent same (inl u) = inl (record {
    none = λ i v lt w. elim (cases_eq i j) [
      | inl now ↦ silent v (sym (Does-one_deed (subst (λ k. Does run k w.0 (Write word v)) now w.1) here))
      | inr before ↦ u.none i v (omega arith) w
    ];
    zero = last_value-more word here ∙ same (last_value run j word) ∙ u.zero;
  })
  keeps j node d here silent same (inr (i, w)) = inr (
    i,
    record {
      earlier = let lt = w.earlier in omega arith;
      value = w.value;
      write = w.write;
      last = λ k v after before x. elim (cases_eq k j) [
        | inl now ↦ silent v (sym (Does-one_deed (subst (λ m. Does run m x.0 (Write word v)) now x.1) here))
        | inr earlier ↦ w.last k v after (omega arith) x
      ];
      is_value = last_value-more word here ∙ same (last_value run j word) ∙ w.is_value;
    },
  )

  writes : (j node v : ℕ) → Does run j node (Write word v) → Found run (j + 1) word
  writes j node v here = inr (
    j,
    record {
      earlier = omega arith;
      value = v;
      write = (node, here);
      last = λ k x after before w. absurd (omega arith);
      is_value = last_value-more word here ∙ value_after-same word v (last_value run j word);
    },
  )

  more : (j node : ℕ) (d : Deed) → Does run j node d → Found run j word → Found run (j + 1) word
  more j node Quiet here f = keeps j node Quiet here (λ v e. cc) (λ x. refl) f
  more j node (Print v) here f = keeps j node (Print v) here (λ w e. cc) (λ x. refl) f
  more j node (Read w v) here f = keeps j node (Read w v) here (λ x e. cc) (λ x. refl) f
  more j node (Write w v) here f = elim (cases_eq w word) [
    | inl same ↦ writes j node v (subst (λ k. Does run j node (Write k v)) same here)
    | inr other ↦ keeps j node (Write w v) here (λ x e. other (cc)) (λ x. value_after-other word w v x other) f
  ]
  more j node (Acquire l) here f = keeps j node (Acquire l) here (λ v e. cc) (λ x. refl) f
  more j node (Release l) here f = keeps j node (Release l) here (λ v e. cc) (λ x. refl) f
  more j node Arrive here f = keeps j node Arrive here (λ v e. cc) (λ x. refl) f
  more j node Depart here f = keeps j node Depart here (λ v e. cc) (λ x. refl) f
  more j node (Trap c) here f = keeps j node (Trap c) here (λ v e. cc) (λ x. refl) f
  more j node End here f = keeps j node End here (λ v e. cc) (λ x. refl) f

  pub found : (j : ℕ) → j ≤ length run → Found run j word
  found zero h = inl (record { none = λ i v lt w. absurd (omega arith); zero = refl })
  found (suc j) h =
      let a = act_at run j (omega arith) in
      let f : Found run j word = found j (omega arith) in
      subst (λ k. Found run k word) (add-one j) (more j a.0.node a.0.deed a.1 f)
