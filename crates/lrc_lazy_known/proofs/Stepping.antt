-- What is kept of what is known changes by an act as its effect says.
use Rattle.std.proofs.Common.{◌≡◌, ℕ, ◌+◌, ◌<◌, ◌⊎◌, List, [], ◌∷◌, ◌++◌, length, inl, inr, refl, sym, subst, ◌∙◌, ap, arith}
use Rattle.lrc_trace.specs.declared.act.Act.{Act}
use Rattle.lrc_trace.specs.declared.act.Deed.{Deed}
use Rattle.lrc_trace.specs.declared.act.Deed.TheVariants.{Quiet, Print, Read, Write, Acquire, Release, Arrive, Depart, Trap, End}
use Rattle.lrc_trace.specs.Run.{Does, IsDone, arrives_before}
use Rattle.lrc_trace.specs.Order.{HappensBefore, Reaches}
use Rattle.lrc_trace.proofs.Positions.{Does-longer, Does-shorter, Does-deed, Does-node, Does-last, Does-one_node, Does-one_deed, arrives_before-prefix}
use Rattle.lrc_trace.proofs.HappensBefore.{longer, shorter}
use Rattle.lrc_lazy_known.specs.declared.known.Last.TheVariants.{Nothing}
use Rattle.lrc_lazy_known.specs.declared.known.Known.{Known}
use Rattle.lrc_lazy_known.specs.declared.known.Knowledge.{Knowledge}
use Rattle.lrc_lazy_known.specs.Knowing.{Tells, to_node, to_lock, to_barrier, Knows, KnowsWrite}
use Rattle.lrc_lazy_known.specs.Word.{Describes, IsLast, IsSame, IsLearned, IsWritten, last_of}
use Rattle.lrc_lazy_known.specs.Effect.{effect_of, word_of, IsAfter, IsKnowledgeAfter, IsKnowledgeOf, AreCounts, AreOf}
use Rattle.lrc_lazy_known.proofs.Sets.{describes_moved}
use Rattle.lrc_lazy_known.proofs.Learning.{learned, describes_learned}
use Rattle.lrc_lazy_known.proofs.Writing.{written, describes_written}
use Rattle.lrc_lazy_known.proofs.Telling.{knows_before, knows_within, knows_on, knows_cases, Before, by_node, by_lock, by_barrier, before_cases}
use Rattle.lrc_lazy_known.proofs.Telling.{node_before, lock_before, barrier_before}

module _ (nodes locks gone arrived departed : ℕ) (run : List Act) (a : Act) (are : AreOf nodes locks run) (own : a.node < nodes)
    (counts : AreCounts gone run a.node a.deed arrived departed) (word : ℕ) where
  abbrev j : ℕ
  j = length run

  abbrev on : List Act
  on = run ++ a ∷ []

  abbrev known : ℕ → ℕ → ℕ → Type 0
  known k i v = KnowsWrite nodes locks gone run word k i v

  abbrev then_known : ℕ → ℕ → ℕ → Type 0
  then_known k i v = KnowsWrite nodes locks gone on word k i v

  within : {k i v : ℕ} → known k i v → i < j
  within h = knows_within nodes locks gone h.knows

  same_value : {i u v : ℕ} → IsDone run i (Write word u) → IsDone run i (Write word v) → u ≡ v
  same_value (p, d) (q, e) = let same = Does-one_deed d e in cc

  closed : (k z i m u v : ℕ) → known k m v → known z i u → HappensBefore run i m → known k i u
  closed k z i m u v h g b = record { write = g.write; knows = knows_before nodes locks gone h.knows b }

  one : (k z i u v : ℕ) → known k i u → known z i v → u ≡ v
  one k z i u v h g = same_value h.write g.write

  keep : {k i v : ℕ} → known k i v → then_known k i v
  keep {k} {i} {v} h = let (p, d) = h.write in record { write = (p, Does-longer (a ∷ []) d); knows = knows_on nodes locks gone run a h.knows }

  -- an earlier write that is known
  earlier : {k i v : ℕ} → IsDone on i (Write word v) → Knows nodes locks gone run k i → known k i v
  earlier {k} {i} {v} (p, d) h = let lt = knows_within nodes locks gone h in record { write = (p, Does-shorter (a ∷ []) lt d); knows = h }

  order_on : (z k i m u v : ℕ) → known z i u → known k m v → HappensBefore run i m → HappensBefore on i m
  order_on z k i m u v g h b = longer run (a ∷ []) b

  order_back : (z k i m u v : ℕ) → known z i u → known k m v → HappensBefore on i m → HappensBefore run i m
  order_back z k i m u v g h b = shorter run (a ∷ []) (within h) b

  -- what is known then, in terms of what was: the sets are those of the effect
  data Now (k i v : ℕ) : Type 0 where
    was : known k i v → Now k i v
    told_write : Tells nodes locks gone on j k → i ≡ j → a.deed ≡ Write word v → Now k i v
    told_before : Tells nodes locks gone on j k → Before nodes locks gone run a departed i → IsDone on i (Write word v) → Now k i v

  now : {k i v : ℕ} → then_known k i v → Now k i v
  now {k} {i} {v} h = elim (knows_cases nodes locks gone run a h.knows) [
    | inl before ↦ was (earlier h.write before)
    | inr (told, inl same) ↦
        let (p, d) = h.write in
        told_write told same (Does-one_deed (Does-last run a) (subst (λ x. Does on x p (Write word v)) same d))
    | inr (told, inr before) ↦ told_before told (before_cases nodes locks gone run a counts.departs before) h.write
  ]

  told_node : (k : ℕ) → Tells nodes locks gone on j k → ((m : ℕ) → a.deed ≡ Release m → ⊥) → (a.deed ≡ Arrive → ⊥) → k ≡ a.node
  told_node k (to_node d) no_release no_arrive = Does-one_node d (Does-last run a)
  told_node k (to_lock e d) no_release no_arrive = absurd (no_release _ (Does-one_deed (Does-last run a) d))
  told_node k (to_barrier n e c d) no_release no_arrive = absurd (no_arrive (Does-one_deed (Does-last run a) d))

  -- what was done before at an act that learns of nobody
  alone : {i : ℕ} → Before nodes locks gone run a departed i → ((l : ℕ) → a.deed ≡ Acquire l → ⊥) → (a.deed ≡ Depart → ⊥) → Knows nodes locks gone run a.node i
  alone (by_node h) no_acquire no_depart = h
  alone (by_lock e h) no_acquire no_depart = absurd (no_acquire _ e)
  alone (by_barrier e h) no_acquire no_depart = absurd (no_depart e)

  told_too : {k i v : ℕ} → Tells nodes locks gone on j k → Reaches on i j → IsDone on i (Write word v) → then_known k i v
  told_too t r w = record { write = w; knows = record { through = j; told = t; reaches = r } }

  -- the write of an earlier position, in the run that is longer
  still : {k i v : ℕ} → known k i v → IsDone on i (Write word v)
  still h = (keep h).write

  module _ (old new : List Known) (d : Describes (HappensBefore run) known old) where
    -- nothing more is known
    module _ (to : (k i v : ℕ) → then_known k i v → known k i v) where
      same_known : IsSame old new → Describes (HappensBefore on) then_known new
      same_known e = describes_moved (HappensBefore run) (HappensBefore on) known then_known (λ k i v h. keep h) to order_on order_back old new d e

    passing : ((m : ℕ) → a.deed ≡ Release m → ⊥) → (a.deed ≡ Arrive → ⊥) → ((l : ℕ) → a.deed ≡ Acquire l → ⊥) → (a.deed ≡ Depart → ⊥)
        → ((v : ℕ) → a.deed ≡ Write word v → ⊥) → IsSame old new → Describes (HappensBefore on) then_known new
    passing no_release no_arrive no_acquire no_depart no_write e = same_known (λ k i v h. go k i v (now h)) e
      where
        go : (k i v : ℕ) → Now k i v → known k i v
        go k i v (was h) = h
        go k i v (told_write t here is) = absurd (no_write v is)
        go k i v (told_before t b w) =
            subst (λ x. known x i v) (sym (told_node k t no_release no_arrive)) (earlier w (alone b no_acquire no_depart))

    -- the same, kept as it was, under the longer run
    moved : Describes (HappensBefore on) known old
    moved = describes_moved (HappensBefore run) (HappensBefore on) known known (λ k i v h. h) (λ k i v h. h) order_on order_back old old d
        (record { lasts = λ k. refl; values = λ k v. (λ c. c, λ c. c); above = λ k z. refl })

    described : (set : ℕ → ℕ → ℕ → Type 0) → ((k i v : ℕ) → set k i v → then_known k i v) → ((k i v : ℕ) → then_known k i v → set k i v)
        → Describes (HappensBefore on) set new → Describes (HappensBefore on) then_known new
    described set to from e = describes_moved (HappensBefore on) (HappensBefore on) set then_known to from (λ z k i m u v x y h. h) (λ z k i m u v x y h. h)
        new new e (record { lasts = λ k. refl; values = λ k v. (λ c. c, λ c. c); above = λ k z. refl })

    module _ (value : ℕ) (is : a.deed ≡ Write word value) where
      abbrev set_written : ℕ → ℕ → ℕ → Type 0
      set_written = written (HappensBefore on) known j a.node value (λ k i v h. within h) (λ i v h. node_before nodes locks gone run a are own h.knows)

      written_to : (k i v : ℕ) → set_written k i v → then_known k i v
      written_to k i v h = elim h [
        | inl a ↦ keep a
        | inr (mine, here, v_is) ↦
            let this : Does on j a.node (Write word v) = Does-deed (is ∙ ap (λ x. Write word x) (sym v_is)) (Does-last run a) in
            told_too (to_node (Does-node (sym mine) (Does-last run a))) (inl here)
            (a.node, subst (λ x. Does on x a.node (Write word v)) (sym here) this)
      ]

      written_now : (k i v : ℕ) → Now k i v → set_written k i v
      written_now k i v (was h) = inl h
      written_now k i v (told_write t here v_is) =
          let value_is : Write word v ≡ Write word value = sym v_is ∙ is in
          let v_same : v ≡ value = cc in
          inr (told_node k t (λ m e. cc) (λ e. cc), here, v_same)
      written_now k i v (told_before t b w) =
          inl (subst (λ x. known x i v) (sym (told_node k t (λ m e. cc) (λ e. cc))) (earlier w (alone b (λ m e. cc) (λ e. cc))))

      pub writing : IsWritten old a.node value new → Describes (HappensBefore on) then_known new
      writing e = described set_written written_to (λ k i v h. written_now k i v (now h))
          (describes_written (HappensBefore on) known j a.node value (λ k i v h. within h)
          (λ i v h. node_before nodes locks gone run a are own h.knows) old moved new e)

    -- ---- one learns what another knows
    closed_on : (k z i m u v : ℕ) → known k m v → known z i u → HappensBefore on i m → known k i u
    closed_on k z i m u v h g b = closed k z i m u v h g (order_back z k i m u v g h b)

    module _ (l t : ℕ) where
      abbrev set_learned : ℕ → ℕ → ℕ → Type 0
      set_learned = learned (HappensBefore on) known closed_on one l t

      module _ (to : (k i v : ℕ) → set_learned k i v → then_known k i v) (from : (k i v : ℕ) → Now k i v → set_learned k i v) where
        learning : IsLearned old l t new ⊎ ((last_of old t ≡ Nothing) × IsSame old new) → Describes (HappensBefore on) then_known new
        learning (inl e) = described set_learned to (λ k i v h. from k i v (now h))
            (describes_learned (HappensBefore on) known closed_on one l t old moved new e)
        learning (inr (none, e)) =
            let nothing = subst (λ x. IsLast (HappensBefore run) (known t) x) none (d.lasts t) in
            same_known (λ k i v h. elim (from k i v (now h)) [ inl a ↦ a | inr (same, b) ↦ absurd (nothing i v b) ]) e

    -- what the node learns, from the lock that it acquires or the barrier that it departs from
    module _ (t : ℕ) (no_release : (m : ℕ) → a.deed ≡ Release m → ⊥) (no_arrive : a.deed ≡ Arrive → ⊥) (no_write : (v : ℕ) → a.deed ≡ Write word v → ⊥)
        (happens : (i : ℕ) → Knows nodes locks gone run t i → HappensBefore on i j)
        (sources : (i : ℕ) → Before nodes locks gone run a departed i → Knows nodes locks gone run a.node i ⊎ Knows nodes locks gone run t i) where
      taught_to : (k i v : ℕ) → set_learned a.node t k i v → then_known k i v
      taught_to k i v h = elim h [
        | inl a ↦ keep a
        | inr (mine, b) ↦ told_too (to_node (Does-node (sym mine) (Does-last run a))) (inr (happens i b.knows)) (still b)
      ]

      taught_now : (k i v : ℕ) → Now k i v → set_learned a.node t k i v
      taught_now k i v (was h) = inl h
      taught_now k i v (told_write s here is) = absurd (no_write v is)
      taught_now k i v (told_before s b w) =
          let mine = told_node k s no_release no_arrive in
          elim (sources i b) [
            | inl h ↦ inl (subst (λ x. known x i v) (sym mine) (earlier w h))
            | inr h ↦ inr (mine, earlier w h)
          ]

      taught : IsLearned old a.node t new ⊎ ((last_of old t ≡ Nothing) × IsSame old new) → Describes (HappensBefore on) then_known new
      taught e = learning a.node t taught_to taught_now e

    pub acquiring : (l : ℕ) → l < locks → a.deed ≡ Acquire l
        → IsLearned old a.node (nodes + l) new ⊎ ((last_of old (nodes + l) ≡ Nothing) × IsSame old new) → Describes (HappensBefore on) then_known new
    acquiring l lt is e = taught (nodes + l) (λ m x. cc) (λ x. cc) (λ v x. cc) (λ i h. lock_before nodes locks gone run a are own l lt is h) source e
      where
        source : (i : ℕ) → Before nodes locks gone run a departed i → Knows nodes locks gone run a.node i ⊎ Knows nodes locks gone run (nodes + l) i
        source i (by_node h) = inl h
        source i (by_lock {l = m} x h) =
            let e : Acquire m ≡ Acquire l = sym x ∙ is in
            let same : m ≡ l = cc in
            inr (subst (λ y. Knows nodes locks gone run (nodes + y) i) same h)
        source i (by_barrier x h) = cc

    pub departing : a.deed ≡ Depart → IsLearned old a.node (nodes + locks + departed) new
        ⊎ ((last_of old (nodes + locks + departed) ≡ Nothing) × IsSame old new) → Describes (HappensBefore on) then_known new
    departing is e = taught (nodes + locks + departed) (λ m x. cc) (λ x. cc) (λ v x. cc)
        (λ i h. barrier_before nodes locks gone run a are own departed is (counts.departs is) h) source e
      where
        source : (i : ℕ) → Before nodes locks gone run a departed i → Knows nodes locks gone run a.node i ⊎ Knows nodes locks gone run (nodes + locks + departed) i
        source i (by_node h) = inl h
        source i (by_lock {l = m} x h) = cc
        source i (by_barrier x h) = inr h

    -- what a lock learns of its node, or a barrier
    module _ (l : ℕ) (no_acquire : (m : ℕ) → a.deed ≡ Acquire m → ⊥) (no_depart : a.deed ≡ Depart → ⊥) (no_write : (v : ℕ) → a.deed ≡ Write word v → ⊥)
        (tells : (k : ℕ) → k ≡ l → Tells nodes locks gone on j k) (told : (k : ℕ) → Tells nodes locks gone on j k → (k ≡ a.node) ⊎ (k ≡ l)) where
      given_to : (k i v : ℕ) → set_learned l a.node k i v → then_known k i v
      given_to k i v h = elim h [
        | inl a ↦ keep a
        | inr (its, b) ↦ told_too (tells k its) (inr (node_before nodes locks gone run a are own b.knows)) (still b)
      ]

      given_now : (k i v : ℕ) → Now k i v → set_learned l a.node k i v
      given_now k i v (was h) = inl h
      given_now k i v (told_write s here is) = absurd (no_write v is)
      given_now k i v (told_before s b w) =
          let h = earlier w (alone b no_acquire no_depart) in
          elim (told k s) [
            | inl mine ↦ inl (subst (λ x. known x i v) (sym mine) h)
            | inr its ↦ inr (its, h)
          ]

      given : IsLearned old l a.node new ⊎ ((last_of old a.node ≡ Nothing) × IsSame old new) → Describes (HappensBefore on) then_known new
      given e = learning l a.node given_to given_now e

    pub releasing : (l : ℕ) → a.deed ≡ Release l
        → IsLearned old (nodes + l) a.node new ⊎ ((last_of old a.node ≡ Nothing) × IsSame old new) → Describes (HappensBefore on) then_known new
    releasing l is e = given (nodes + l) (λ m x. cc) (λ x. cc) (λ v x. cc) (λ k its. to_lock its (Does-deed is (Does-last run a))) told e
      where
        told : (k : ℕ) → Tells nodes locks gone on j k → (k ≡ a.node) ⊎ (k ≡ nodes + l)
        told k (to_node d) = inl (Does-one_node d (Does-last run a))
        told k (to_lock {l = m} x d) =
            let e : Release m ≡ Release l = sym (Does-one_deed (Does-last run a) d) ∙ is in
            let same : m ≡ l = cc in
            inr (x ∙ ap (λ y. nodes + y) same)
        told k (to_barrier n x c d) = let e : Arrive ≡ Release l = sym (Does-one_deed (Does-last run a) d) ∙ is in cc

    pub arriving : a.deed ≡ Arrive → IsLearned old (nodes + locks + arrived) a.node new
        ⊎ ((last_of old a.node ≡ Nothing) × IsSame old new) → Describes (HappensBefore on) then_known new
    arriving is e = given (nodes + locks + arrived) (λ m x. cc) (λ x. cc) (λ v x. cc) tells told e
      where
        tells : (k : ℕ) → k ≡ nodes + locks + arrived → Tells nodes locks gone on j k
        tells k its =
            to_barrier arrived its (arrives_before-prefix run (a ∷ []) a.node j (omega arith) ∙ counts.arrives is) (Does-deed is (Does-last run a))

        told : (k : ℕ) → Tells nodes locks gone on j k → (k ≡ a.node) ⊎ (k ≡ nodes + locks + arrived)
        told k (to_node d) = inl (Does-one_node d (Does-last run a))
        told k (to_lock {l = m} x d) = let e : Release m ≡ Arrive = sym (Does-one_deed (Does-last run a) d) ∙ is in cc
        told k (to_barrier {node = q} n x c d) =
            let same : q ≡ a.node = Does-one_node d (Does-last run a) in
            let here = arrives_before-prefix run (a ∷ []) q j (omega arith) in
            let count : arrives_before run q j ≡ gone + arrived = ap (λ y. arrives_before run y j) same ∙ counts.arrives is in
            inr (omega (arith, x, c, here, count))

  -- an act changes what is kept of the word as its effect says
  module _ (locks_in : (l : ℕ) → a.deed ≡ Acquire l → l < locks) (old new : List Known) (d : Describes (HappensBefore run) known old) where
    pub by_effect : (deed : Deed) → a.deed ≡ deed
        → IsAfter (effect_of nodes locks arrived departed a.node deed) word old new
        → Describes (HappensBefore on) then_known new
    by_effect Quiet is e = passing old new d (λ m x. cc) (λ x. cc) (λ m x. cc) (λ x. cc) (λ v x. cc) e
    by_effect (Print v) is e = passing old new d (λ m x. cc) (λ x. cc) (λ m x. cc) (λ x. cc) (λ v x. cc) e
    by_effect (Read w v) is e = passing old new d (λ m x. cc) (λ x. cc) (λ m x. cc) (λ x. cc) (λ v x. cc) e
    by_effect (Write w v) is e = elim e [
      | inl (same, written) ↦ writing old new d v (is ∙ ap (λ x. Write x v) same) written
      | inr (other, unchanged) ↦
          passing old new d (λ m x. cc) (λ x. cc) (λ m x. cc) (λ x. cc)
          (λ u x. let both : Write word u ≡ Write w v = sym x ∙ is in let same : w ≡ word = cc in other same) unchanged
    ]
    by_effect (Acquire l) is e = acquiring old new d l (locks_in l is) is e
    by_effect (Release l) is e = releasing old new d l is e
    by_effect Arrive is e = arriving old new d is e
    by_effect Depart is e = departing old new d is e
    by_effect (Trap c) is e = passing old new d (λ m x. cc) (λ x. cc) (λ m x. cc) (λ x. cc) (λ v x. cc) e
    by_effect End is e = passing old new d (λ m x. cc) (λ x. cc) (λ m x. cc) (λ x. cc) (λ v x. cc) e

-- what is kept of every word changes as the act's effect says
pub knowledge_on : (nodes locks gone arrived departed : ℕ) (run : List Act) (a : Act) (old new : Knowledge) → AreOf nodes locks run → a.node < nodes
    → ((l : ℕ) → a.deed ≡ Acquire l → l < locks) → AreCounts gone run a.node a.deed arrived departed → IsKnowledgeOf nodes locks gone run old
    → IsKnowledgeAfter (effect_of nodes locks arrived departed a.node a.deed) old new → IsKnowledgeOf nodes locks gone (run ++ a ∷ []) new
knowledge_on nodes locks gone arrived departed run a old new are own locks_in counts d e word =
    by_effect nodes locks gone arrived departed run a are own counts word locks_in (word_of old word) (word_of new word) (d word) a.deed refl (e word)
