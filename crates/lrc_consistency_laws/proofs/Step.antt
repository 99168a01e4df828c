-- One step of the plain machine keeps its state that of the acts so far.
use Rattle.std.proofs.Common.{◌≡◌, ℕ, zero, suc, ◌+◌, ◌<◌, List, [], ◌∷◌, Bool, true, false, ◌⊎◌, inl, inr, length, sym, subst, ◌∙◌, ap, refl, arith}
use Rattle.std.specs.Prelude.{Option, Some, None, is_none, slice_index, slice_index_or, slice_set, if◌then◌else◌}
use Rattle.std.proofs.lemmas.Bool.{cases_eq}
use Rattle.std.proofs.lemmas.List.{get_or-set_same, get_or-set_other, length-set}
use Rattle.std.proofs.lemmas.Option.{same_Some, some_pair_parts}
use Rattle.lrc_trace.specs.declared.act.Act.{Act}
use Rattle.lrc_trace.specs.declared.act.Deed.{Deed}
use Rattle.lrc_trace.specs.declared.act.Deed.TheVariants.{Quiet, Print, Read, Write, Acquire, Release, Arrive, Depart, Trap, End}
use Rattle.lrc_trace.specs.Run.{Does, is_arrive, is_depart, arrives_before, departs_before}
use Rattle.lrc_trace.specs.Synchronization.{Holds}
use Rattle.lrc_trace.proofs.Positions.{Does-one_node, Does-one_deed}
use Rattle.lrc_trace.proofs.Intervals.{count_of-more}
use Rattle.lrc_trace.proofs.Holding.{Holds-acquired, Holds-kept, Holds-before, Holds-released}
use Rattle.lrc_exec.specs.Meaning.{Thread, Next, quiet, prints, reads, writes, acquires, releases, arrives, departs, traps, ends, holds}
use Rattle.lrc_exec.specs.Plain.{Plain, nobody_holds, all_arrived, deed_done, with_thread, thread_in}
use Rattle.lrc_consistency_laws.specs.InOrder.{value_after, last_value}
use Rattle.lrc_consistency_laws.proofs.LastValue.{last_value-more, value_after-same, value_after-other}
use Rattle.lrc_exec.proofs.NextLaws.{Leads, Stays, IsFine}
use Rattle.lrc_exec.proofs.PlainParts.{thread_within}
use Rattle.lrc_consistency_laws.specs.Matching.{IsPaired, ThreadFits, Matches}
use Rattle.lrc_consistency_laws.proofs.Matching.{arrives-same, departs-same, threads_after}

-- what a test says of an option
pub none_since : {A : Type 0} (o : Option A) → is_none o ≡ true → o ≡ None
none_since None e = refl
none_since (Some x) e = cc

pub holder_cases : (o : Option ℕ) → (o ≡ None) ⊎ ((p : ℕ) × (o ≡ Some p))
holder_cases None = inl refl
holder_cases (Some p) = inr (p, refl)

-- a lock that is no longer held, whichever it is
unset : (held : List Bool) (l : ℕ) → slice_index_or (slice_set held l false) l false ≡ false
unset [] l = refl
unset (b ∷ held) zero = refl
unset (b ∷ held) (suc l) = unset held l

-- a deed that touches no lock
pub record IsNoLock (d : Deed) : Type 0 where
  pub acquires_not : (l : ℕ) → d ≡ Acquire l → ⊥
  pub releases_not : (l : ℕ) → d ≡ Release l → ⊥

module _ (run : List Act) (j node : ℕ) (machine : Plain) (t : Thread) (at : thread_in machine node ≡ Some t) (m : Matches run j machine) where
  in_range : node < length machine.threads
  in_range = thread_within machine node t at

  fits : ThreadFits run j machine node t
  fits = m.threads node t at

  module _ (d : Deed) (here : Does run j node d) where
    same_memory : ((w x : ℕ) → value_after w d x ≡ x) → (w : ℕ) → w < length machine.memory → slice_index machine.memory w ≡ last_value run (j + 1) w
    same_memory same w lt = m.memory w lt ∙ sym (last_value-more w here ∙ same w (last_value run j w))

    same_free : IsNoLock d → (l : ℕ) → slice_index_or machine.holders l None ≡ None → (n : ℕ) → Holds run (j + 1) n l → ⊥
    same_free lockless l e n h = elim (Holds-before run j node d here n l h) [
      | inl acquired ↦ lockless.acquires_not l (Does-one_deed here acquired)
      | inr before ↦ m.free l e n before
    ]

    same_held : IsNoLock d → (l k : ℕ) → slice_index_or machine.holders l None ≡ Some k → Holds run (j + 1) k l × ((n : ℕ) → Holds run (j + 1) n l → n ≡ k)
    same_held lockless l k e =
        let h = m.held l k e in (
          Holds-kept run j node d here k l (λ same r. lockless.releases_not l r) h.0,
          λ n g. elim (Holds-before run j node d here n l g) [
            | inl acquired ↦ absurd (lockless.acquires_not l (Does-one_deed here acquired))
            | inr before ↦ h.1 n before
          ],
        )

    same_arrivals : (is_arrive d ≡ true → ⊥) → (n : ℕ) → n < length machine.arrivals → slice_index machine.arrivals n ≡ arrives_before run n (j + 1)
    same_arrivals no_arrive n lt = m.arrivals n lt ∙ sym (arrives-same run j node d here n (λ e x. no_arrive x))

    -- what the thread held it still holds
    same_locks : IsNoLock d → (l : ℕ) → holds t l ≡ true → Holds run (j + 1) node l
    same_locks lockless l e = Holds-kept run j node d here node l (λ same r. lockless.releases_not l r) (fits.held l e)

    -- a thread that goes on past an act that is not of a barrier, and holds these locks then
    lock_fits : (locks : List Bool) (after : Plain) (t' : Thread) → (is_arrive d ≡ true → ⊥) → (is_depart d ≡ true → ⊥)
        → length after.memory ≡ length machine.memory → length after.holders ≡ length machine.holders → t.arrived ≡ false → Leads t t' locks false
        → ((l : ℕ) → slice_index_or locks l false ≡ true → Holds run (j + 1) node l) → ThreadFits run (j + 1) after node t'
    lock_fits locks after t' no_arrive no_depart words long free leads held = record {
      words = ap (λ x. x.words) leads.setting ∙ fits.words ∙ sym words;
      locks = ap (λ x. x.locks) leads.setting ∙ fits.locks ∙ sym long;
      paired =
          let paired : IsPaired false (arrives_before run node j) (departs_before run node j) =
          subst (λ b. IsPaired b (arrives_before run node j) (departs_before run node j)) free fits.paired in
          let arrived = arrives-same run j node d here node (λ e x. no_arrive x) in
          let departed = departs-same run j node d here node (λ e x. no_depart x) in
          subst (λ b. IsPaired b (arrives_before run node (j + 1)) (departs_before run node (j + 1))) (sym leads.arrived) (arrived ∙ paired ∙ sym departed);
      held = λ l e. held l (ap (λ hs. slice_index_or hs l false) (sym leads.held) ∙ e);
    }

    -- the same past an act that is not of a lock either
    stays_fit : IsNoLock d → (is_arrive d ≡ true → ⊥) → (is_depart d ≡ true → ⊥) → (after : Plain) (t' : Thread) → length after.memory ≡ length machine.memory
        → length after.holders ≡ length machine.holders → Stays t t' → ThreadFits run (j + 1) after node t'
    stays_fit lockless no_arrive no_depart after t' words locks s = lock_fits t.held after t' no_arrive no_depart words locks s.0 s.1 (same_locks lockless)

    -- an act that changes neither memory nor locks nor arrivals
    pub passes : IsNoLock d → ((w x : ℕ) → value_after w d x ≡ x) → (is_arrive d ≡ true → ⊥) → (t' : Option Thread)
        → ((t'' : Thread) → t' ≡ Some t'' → ThreadFits run (j + 1) (with_thread machine node t') node t'') → Matches run (j + 1) (with_thread machine node t')
    passes lockless same no_arrive t' new = record {
      memory = same_memory same;
      free = same_free lockless;
      held = same_held lockless;
      arrivals = same_arrivals no_arrive;
      sizes = length-set machine.threads node t' ∙ m.sizes;
      threads = threads_after run j node d here machine (with_thread machine node t') t' refl refl refl in_range m new;
    }

    pub passes_on : IsNoLock d → ((w x : ℕ) → value_after w d x ≡ x) → (is_arrive d ≡ true → ⊥) → (is_depart d ≡ true → ⊥) → (t' : Thread) → Stays t t'
        → Matches run (j + 1) (with_thread machine node (Some t'))
    passes_on lockless same no_arrive no_depart t' s =
        passes lockless same no_arrive (Some t')
        (λ t'' e. stays_fit lockless no_arrive no_depart (with_thread machine node (Some t')) t'' refl refl (subst (λ x. Stays t x) (same_Some t' t'' e) s))

    pub passes_away : IsNoLock d → ((w x : ℕ) → value_after w d x ≡ x) → (is_arrive d ≡ true → ⊥) → Matches run (j + 1) (with_thread machine node None)
    passes_away lockless same no_arrive = passes lockless same no_arrive None (λ t'' e. cc)

  -- after a write
  written : (w v : ℕ) (t' : Thread) → w < t.setting.words → Stays t t' → Does run j node (Write w v)
      → Matches run (j + 1) (record (with_thread machine node (Some t')) { memory = slice_set machine.memory w v })
  written w v t' below s here =
      let after : Plain = record (with_thread machine node (Some t')) { memory = slice_set machine.memory w v } in
      let lockless : IsNoLock (Write w v) = record { acquires_not = λ l e. cc; releases_not = λ l e. cc } in
      let long : length (slice_set machine.memory w v) ≡ length machine.memory = length-set machine.memory w v in
      let in_memory : w < length machine.memory = let e = fits.words in omega arith in
      let memory : (k : ℕ) → k < length (slice_set machine.memory w v) → slice_index (slice_set machine.memory w v) k ≡ last_value run (j + 1) k =
      λ k lt. elim (cases_eq k w) [
        | inl same ↦
            ap (λ i. slice_index (slice_set machine.memory w v) i) same ∙ get_or-set_same machine.memory w v 0 in_memory
            ∙ sym (ap (last_value run (j + 1)) same ∙ last_value-more w here ∙ value_after-same w v (last_value run j w))
        | inr other ↦
            get_or-set_other machine.memory w k v 0 other ∙ m.memory k (omega arith)
            ∙ sym (last_value-more k here ∙ value_after-other k w v (last_value run j k) (λ e. other (sym e)))
      ] in
      let thread : (t'' : Thread) → Some t' ≡ Some t'' → ThreadFits run (j + 1) after node t'' =
      λ t'' e. stays_fit (Write w v) here lockless (λ x. cc) (λ x. cc) after t'' long refl (subst (λ x. Stays t x) (same_Some t' t'' e) s) in
      record {
        memory = memory;
        free = same_free (Write w v) here lockless;
        held = same_held (Write w v) here lockless;
        arrivals = same_arrivals (Write w v) here (λ x. cc);
        sizes = length-set machine.threads node (Some t') ∙ m.sizes;
        threads = threads_after run j node (Write w v) here machine after (Some t') long refl refl in_range m thread;
      }

  -- after an acquire of a free lock
  acquired : (l : ℕ) (t' : Thread) → l < t.setting.locks → t.arrived ≡ false → Leads t t' (slice_set t.held l true) false
      → slice_index_or machine.holders l None ≡ None → Does run j node (Acquire l)
      → Matches run (j + 1) (record (with_thread machine node (Some t')) { holders = slice_set machine.holders l (Some node) })
  acquired l t' below free leads open_lock here =
      let after : Plain = record (with_thread machine node (Some t')) { holders = slice_set machine.holders l (Some node) } in
      let long : length (slice_set machine.holders l (Some node)) ≡ length machine.holders = length-set machine.holders l (Some node) in
      let in_holders : l < length machine.holders = let e = fits.locks in omega arith in
      let now : slice_index_or (slice_set machine.holders l (Some node)) l None ≡ Some node = get_or-set_same machine.holders l (Some node) None in_holders in
      let others : (k : ℕ) → (k ≡ l → ⊥) → slice_index_or (slice_set machine.holders l (Some node)) k None ≡ slice_index_or machine.holders k None =
      λ k other. get_or-set_other machine.holders l k (Some node) None other in
      let same_lock : (n k : ℕ) → Does run j n (Acquire k) → (k ≡ l) × (n ≡ node) = λ n k a. let e : Acquire k ≡ Acquire l = Does-one_deed a here in
      (cc, Does-one_node a here) in
      let keeps : (n k : ℕ) → Holds run j n k → Holds run (j + 1) n k = λ n k h. Holds-kept run j node (Acquire l) here n k (λ e x. cc) h in
      let free' : (k : ℕ) → slice_index_or (slice_set machine.holders l (Some node)) k None ≡ None → (n : ℕ) → Holds run (j + 1) n k → ⊥ =
      λ k e n h. elim (cases_eq k l) [
        | inl same ↦ let x : Some node ≡ None = sym now ∙ ap (λ i. slice_index_or (slice_set machine.holders l (Some node)) i None) (sym same) ∙ e in cc
        | inr other ↦ elim (Holds-before run j node (Acquire l) here n k h) [
          | inl a ↦ other (same_lock n k a).0
          | inr before ↦ m.free k (sym (others k other) ∙ e) n before
        ]
      ] in
      let only : (n : ℕ) → Holds run (j + 1) n l → n ≡ node = λ n h. elim (Holds-before run j node (Acquire l) here n l h) [
        | inl a ↦ (same_lock n l a).1
        | inr before ↦ absurd (m.free l open_lock n before)
      ] in
      let held' : (k p : ℕ) → slice_index_or (slice_set machine.holders l (Some node)) k None ≡ Some p → Holds run (j + 1) p k
      × ((n : ℕ) → Holds run (j + 1) n k → n ≡ p) = λ k p e. elim (cases_eq k l) [
        | inl same ↦
            let x : Some node ≡ Some p = sym now ∙ ap (λ i. slice_index_or (slice_set machine.holders l (Some node)) i None) (sym same) ∙ e in
            let is_node : node ≡ p = same_Some node p x in
            let here' : Does run j p (Acquire k) = subst (λ i. Does run j p (Acquire i)) (sym same) (subst (λ i. Does run j i (Acquire l)) is_node here) in
            (Holds-acquired here', λ n h. only n (subst (λ i. Holds run (j + 1) n i) same h) ∙ is_node)
        | inr other ↦
            let h = m.held k p (sym (others k other) ∙ e) in (
              keeps p k h.0,
              λ n g. elim (Holds-before run j node (Acquire l) here n k g) [
                | inl a ↦ absurd (other (same_lock n k a).0)
                | inr before ↦ h.1 n before
              ],
            )
      ] in
      let locks : (k : ℕ) → slice_index_or (slice_set t.held l true) k false ≡ true → Holds run (j + 1) node k = λ k e. elim (cases_eq k l) [
        | inl same ↦ subst (λ i. Holds run (j + 1) node i) (sym same) (Holds-acquired here)
        | inr other ↦ keeps node k (fits.held k (sym (get_or-set_other t.held l k true false other) ∙ e))
      ] in
      let thread : (t'' : Thread) → Some t' ≡ Some t'' → ThreadFits run (j + 1) after node t'' =
      λ t'' e. lock_fits (Acquire l) here (slice_set t.held l true) after t'' (λ x. cc) (λ x. cc) refl long free
      (subst (λ x. Leads t x (slice_set t.held l true) false) (same_Some t' t'' e) leads) locks in
      record {
        memory = same_memory (Acquire l) here (λ w x. refl);
        free = free';
        held = held';
        arrivals = same_arrivals (Acquire l) here (λ x. cc);
        sizes = length-set machine.threads node (Some t') ∙ m.sizes;
        threads = threads_after run j node (Acquire l) here machine after (Some t') refl long refl in_range m thread;
      }

  -- after a release of a lock that the thread holds
  released : (l : ℕ) (t' : Thread) → l < t.setting.locks → holds t l ≡ true → t.arrived ≡ false → Leads t t' (slice_set t.held l false) false
      → Does run j node (Release l)
      → Matches run (j + 1) (record (with_thread machine node (Some t')) { holders = slice_set machine.holders l None })
  released l t' below holding free leads here =
      let after : Plain = record (with_thread machine node (Some t')) { holders = slice_set machine.holders l None } in
      let long : length (slice_set machine.holders l None) ≡ length machine.holders = length-set machine.holders l None in
      let in_holders : l < length machine.holders = let e = fits.locks in omega arith in
      let now : slice_index_or (slice_set machine.holders l None) l None ≡ None = get_or-set_same machine.holders l None None in_holders in
      let others : (k : ℕ) → (k ≡ l → ⊥) → slice_index_or (slice_set machine.holders l None) k None ≡ slice_index_or machine.holders k None =
      λ k other. get_or-set_other machine.holders l k None None other in
      let no_acquire : (n k : ℕ) → Does run j n (Acquire k) → ⊥ = λ n k a. let e : Acquire k ≡ Release l = Does-one_deed a here in cc in
      let keeps : (n k : ℕ) → (k ≡ l → ⊥) → Holds run j n k → Holds run (j + 1) n k =
      λ n k other h. Holds-kept run j node (Release l) here n k (λ same e. other (let e' : Release l ≡ Release k = e in cc)) h in
      let holder : (n : ℕ) → Holds run j n l → n ≡ node = λ n h. elim (holder_cases (slice_index_or machine.holders l None)) [
        | inl e ↦ absurd (m.free l e n h)
        | inr (p, e) ↦ (m.held l p e).1 n h ∙ sym ((m.held l p e).1 node (fits.held l holding))
      ] in
      let free_now : (n : ℕ) → Holds run (j + 1) n l → ⊥ = λ n h. elim (Holds-before run j node (Release l) here n l h) [
        | inl a ↦ no_acquire n l a
        | inr before ↦ Holds-released here (subst (λ i. Holds run (j + 1) i l) (holder n before) h)
      ] in
      let free' : (k : ℕ) → slice_index_or (slice_set machine.holders l None) k None ≡ None → (n : ℕ) → Holds run (j + 1) n k → ⊥ =
      λ k e n h. elim (cases_eq k l) [
        | inl same ↦ free_now n (subst (λ i. Holds run (j + 1) n i) same h)
        | inr other ↦ elim (Holds-before run j node (Release l) here n k h) [
          | inl a ↦ no_acquire n k a
          | inr before ↦ m.free k (sym (others k other) ∙ e) n before
        ]
      ] in
      let held' : (k p : ℕ) → slice_index_or (slice_set machine.holders l None) k None ≡ Some p → Holds run (j + 1) p k
      × ((n : ℕ) → Holds run (j + 1) n k → n ≡ p) = λ k p e. elim (cases_eq k l) [
        | inl same ↦ let x : None ≡ Some p = sym now ∙ ap (λ i. slice_index_or (slice_set machine.holders l None) i None) (sym same) ∙ e in cc
        | inr other ↦
            let h = m.held k p (sym (others k other) ∙ e) in (
              keeps p k other h.0,
              λ n g. elim (Holds-before run j node (Release l) here n k g) [
                | inl a ↦ absurd (no_acquire n k a)
                | inr before ↦ h.1 n before
              ],
            )
      ] in
      let locks : (k : ℕ) → slice_index_or (slice_set t.held l false) k false ≡ true → Holds run (j + 1) node k = λ k e. elim (cases_eq k l) [
        | inl same ↦ let x : false ≡ true = sym (unset t.held l) ∙ ap (λ i. slice_index_or (slice_set t.held l false) i false) (sym same) ∙ e in cc
        | inr other ↦ keeps node k other (fits.held k (sym (get_or-set_other t.held l k false false other) ∙ e))
      ] in
      let thread : (t'' : Thread) → Some t' ≡ Some t'' → ThreadFits run (j + 1) after node t'' =
      λ t'' e. lock_fits (Release l) here (slice_set t.held l false) after t'' (λ x. cc) (λ x. cc) refl long free
      (subst (λ x. Leads t x (slice_set t.held l false) false) (same_Some t' t'' e) leads) locks in
      record {
        memory = same_memory (Release l) here (λ w x. refl);
        free = free';
        held = held';
        arrivals = same_arrivals (Release l) here (λ x. cc);
        sizes = length-set machine.threads node (Some t') ∙ m.sizes;
        threads = threads_after run j node (Release l) here machine after (Some t') refl long refl in_range m thread;
      }

  -- after an arrive
  arrived_at : (t' : Thread) → t.arrived ≡ false → Leads t t' t.held true → Does run j node Arrive
      → Matches run (j + 1) (record (with_thread machine node (Some t')) { arrivals = slice_set machine.arrivals node (slice_index machine.arrivals node + 1) })
  arrived_at t' free leads here =
      let count = slice_index machine.arrivals node + 1 in
      let after : Plain = record (with_thread machine node (Some t')) { arrivals = slice_set machine.arrivals node count } in
      let lockless : IsNoLock Arrive = record { acquires_not = λ l e. cc; releases_not = λ l e. cc } in
      let within : node < length machine.arrivals = let e = m.sizes in let lt = in_range in omega arith in
      let long : length (slice_set machine.arrivals node count) ≡ length machine.arrivals = length-set machine.arrivals node count in
      let more : arrives_before run node (j + 1) ≡ arrives_before run node j + 1 = count_of-more is_arrive run node j Arrive here refl in
      let arrivals : (n : ℕ) → n < length (slice_set machine.arrivals node count)
      → slice_index (slice_set machine.arrivals node count) n ≡ arrives_before run n (j + 1) = λ n lt. elim (cases_eq n node) [
        | inl same ↦
            ap (λ i. slice_index (slice_set machine.arrivals node count) i) same ∙ get_or-set_same machine.arrivals node count 0 within
            ∙ ap (λ x. x + 1) (m.arrivals node within) ∙ sym more ∙ ap (λ i. arrives_before run i (j + 1)) (sym same)
        | inr other ↦
            get_or-set_other machine.arrivals node n count 0 other ∙ m.arrivals n (omega arith)
            ∙ sym (arrives-same run j node Arrive here n (λ e x. other (sym e)))
      ] in
      let fits_now : ThreadFits run (j + 1) after node t' = record {
        words = ap (λ x. x.words) leads.setting ∙ fits.words;
        locks = ap (λ x. x.locks) leads.setting ∙ fits.locks;
        paired =
            let paired : IsPaired false (arrives_before run node j) (departs_before run node j) =
            subst (λ b. IsPaired b (arrives_before run node j) (departs_before run node j)) free fits.paired in
            let departed = departs-same run j node Arrive here node (λ e x. cc) in
            let now : arrives_before run node (j + 1) ≡ departs_before run node (j + 1) + 1 = more ∙ ap (λ x. x + 1) (paired ∙ sym departed) in
            subst (λ b. IsPaired b (arrives_before run node (j + 1)) (departs_before run node (j + 1))) (sym leads.arrived) now;
        held = λ l e. same_locks Arrive here lockless l (ap (λ hs. slice_index_or hs l false) (sym leads.held) ∙ e);
      } in
      record {
        memory = same_memory Arrive here (λ w x. refl);
        free = same_free Arrive here lockless;
        held = same_held Arrive here lockless;
        arrivals = arrivals;
        sizes = length-set machine.threads node (Some t') ∙ m.sizes ∙ sym long;
        threads = threads_after run j node Arrive here machine after (Some t') refl refl refl in_range m
            (λ t'' e. subst (λ x. ThreadFits run (j + 1) after node x) (same_Some t' t'' e) fits_now);
      }

  -- after a depart
  departed_from : (t' : Thread) → t.arrived ≡ true → Leads t t' t.held false → Does run j node Depart → Matches run (j + 1) (with_thread machine node (Some t'))
  departed_from t' waits leads here =
      let lockless : IsNoLock Depart = record { acquires_not = λ l e. cc; releases_not = λ l e. cc } in
      let fits_now : ThreadFits run (j + 1) (with_thread machine node (Some t')) node t' = record {
        words = ap (λ x. x.words) leads.setting ∙ fits.words;
        locks = ap (λ x. x.locks) leads.setting ∙ fits.locks;
        paired =
            let paired : IsPaired true (arrives_before run node j) (departs_before run node j) =
            subst (λ b. IsPaired b (arrives_before run node j) (departs_before run node j)) waits fits.paired in
            let arrived = arrives-same run j node Depart here node (λ e x. cc) in
            let more : departs_before run node (j + 1) ≡ departs_before run node j + 1 = count_of-more is_depart run node j Depart here refl in
            subst (λ b. IsPaired b (arrives_before run node (j + 1)) (departs_before run node (j + 1))) (sym leads.arrived) (arrived ∙ paired ∙ sym more);
        held = λ l e. same_locks Depart here lockless l (ap (λ hs. slice_index_or hs l false) (sym leads.held) ∙ e);
      } in
      passes Depart here lockless (λ w x. refl) (λ x. cc) (Some t')
      (λ t'' e. subst (λ x. ThreadFits run (j + 1) (with_thread machine node (Some t')) node x) (same_Some t' t'' e) fits_now)

  -- the state after the step that was made
  settle : (d₀ : Deed) (after₀ : Plain) (d : Deed) (after : Plain) → ◌≡◌ {A = Option (Deed × Plain)} (Some (d₀, after₀)) (Some (d, after)) → Does run j node d
      → (Does run j node d₀ → Matches run (j + 1) after₀) → Matches run (j + 1) after
  settle d₀ after₀ d after e here go =
      let parts = some_pair_parts d₀ d after₀ after e in
      subst (λ x. Matches run (j + 1) x) parts.1 (go (subst (λ x. Does run j node x) (sym parts.0) here))

  settle_if : (b : Bool) (d₀ : Deed) (after₀ : Plain) (d : Deed) (after : Plain)
      → ◌≡◌ {A = Option (Deed × Plain)} (if b then Some (d₀, after₀) else None) (Some (d, after)) → Does run j node d
      → (b ≡ true → Does run j node d₀ → Matches run (j + 1) after₀) → Matches run (j + 1) after
  settle_if true d₀ after₀ d after e here go = settle d₀ after₀ d after e here (go refl)
  settle_if false d₀ after₀ d after e here go = cc

  lockless_quiet : IsNoLock Quiet
  lockless_quiet = record { acquires_not = λ l e. cc; releases_not = λ l e. cc }

  -- whatever the thread does next
  pub step : (n : Next) → IsFine t n → (d : Deed) (after : Plain) → deed_done machine node n ≡ Some (d, after) → Does run j node d → Matches run (j + 1) after
  step (quiet t') f d after e here =
      settle _ _ d after e here (λ h. passes_on Quiet h (record { acquires_not = λ l x. cc; releases_not = λ l x. cc }) (λ w x. refl) (λ x. cc) (λ x. cc) t' f)
  step (prints v t') f d after e here =
      settle _ _ d after e here (λ h. passes_on (Print v) h (record {
        acquires_not = λ l x. cc;
        releases_not =
            λ l x. cc;
      }) (λ w x. refl) (λ x. cc) (λ x. cc) t' f)
  step (reads w t') f d after e here =
      let v = slice_index machine.memory w in
      settle _ _ d after e here (λ h. passes_on (Read w v) h (record {
        acquires_not = λ l x. cc;
        releases_not =
            λ l x. cc;
      }) (λ k x. refl) (λ x. cc) (λ x. cc) (t' v) (f.1 v))
  step (writes w v t') f d after e here = settle _ _ d after e here (λ h. written w v t' f.0 f.1 h)
  step (acquires l t') f d after e here =
      settle_if (nobody_holds machine l) _ _ d after e here (λ b h. acquired l t' f.0 f.2 f.3 (none_since (slice_index_or machine.holders l None) b) h)
  step (releases l t') f d after e here = settle _ _ d after e here (λ h. released l t' f.0 f.1 f.2 f.3 h)
  step (arrives t') f d after e here = settle _ _ d after e here (λ h. arrived_at t' f.0 f.1 h)
  step (departs t') f d after e here = settle_if (all_arrived machine node) _ _ d after e here (λ b h. departed_from t' f.0 f.1 h)
  step (traps c) f d after e here =
      settle _ _ d after e here (λ h. passes_away (Trap c) h (record { acquires_not = λ l x. cc; releases_not = λ l x. cc }) (λ w x. refl) (λ x. cc))
  step ends f d after e here =
      settle _ _ d after e here (λ h. passes_away End h (record { acquires_not = λ l x. cc; releases_not = λ l x. cc }) (λ w x. refl) (λ x. cc))
