-- The order of a trace in the form of RAPID is happens before, between accesses.
use Rattle.std.proofs.Common.{◌≡◌, ◌≢◌, ◌∙◌, ◌<◌, ◌≤◌, ◌+◌, ◌*◌, ◌⊎◌, ℕ, false, inl, inr, refl, sym, ap, subst, arith, List, length, take}
use Rattle.std.specs.Prelude.{Some, slice_get, ◌↔◌}
use Rattle.std.proofs.Math.Nat.{mul-le-mul_right}
use Rattle.std.proofs.lemmas.Bool.{cases_Bool, cases_lt, true≢false}
use Rattle.std.proofs.lemmas.Option.{same_Some}
use Rattle.lrc_trace.specs.declared.act.Act.{Act}
use Rattle.lrc_trace.specs.declared.act.Deed.{Deed}
use Rattle.lrc_trace.specs.declared.act.Deed.TheVariants.{Read, Write, Acquire, Release, Arrive, Depart}
use Rattle.lrc_trace.specs.Run.{Does, is_arrive, is_depart, count_of, arrives_before, departs_before}
use Rattle.lrc_trace.specs.Conflict.{Accesses}
use Rattle.lrc_trace.specs.Order.{HappensBefore, Precedes, Reaches, base, further, program, lock, barrier}
use Rattle.lrc_trace.specs.Synchronization.{IsWellSynchronized, WaitsAtBarriers}
use Rattle.lrc_trace.proofs.HappensBefore.{Reaches-last, transitive}
use Rattle.lrc_trace.proofs.Intervals.{count_of-more, count_of-rises, numbered_arrive}
use Rattle.lrc_trace.proofs.Positions.{Does-deed, Does-node, Does-one_deed, Does-one_node, Does-within}
use Rattle.lrc_acts_text.specs.declared.rapid.Meeting.{Meeting}
use Rattle.lrc_acts_text.specs.declared.rapid.Operation.{Operation}
use Rattle.lrc_acts_text.specs.declared.rapid.Operation.TheVariants.{Reads, Writes, Acquires, Releases}
use Rattle.lrc_acts_text.specs.Rapid.{RapidStep, lock_of_arrival, meeting_at, rapid_of, rapid_step}
use Rattle.lrc_acts_text.specs.RapidOrder as trace
use Rattle.lrc_acts_text.specs.RapidOrder.{IsOf, Orders, StepBefore, StepPrecedes}
use Rattle.lrc_acts_text.proofs.Steps.{Comes, act_of_step, acquiring, arrived, arriving, departed, departing, later, reading, releasing, step_of_act}
use Rattle.lrc_acts_text.proofs.Steps.{step_of_depart, writing}

-- the lock of an operation
abbrev lock_in : Operation → ℕ
lock_in (Reads w) = 0
lock_in (Writes w) = 0
lock_in (Acquires l) = l
lock_in (Releases l) = l

-- the lock of a deed
abbrev lock_of : Deed → ℕ
lock_of (Acquire l) = l
lock_of _ = 0

-- a lock past those of the program is of one arrival alone
same_arrival : (locks nodes a b p q : ℕ) → p < nodes → q < nodes → locks + a * nodes + p ≡ locks + b * nodes + q → (a ≡ b) × (p ≡ q)
same_arrival locks nodes a b p q few_p few_q same =
    elim (cases_lt a b) [
      | inl less ↦ let far : (a + 1) * nodes ≤ b * nodes = mul-le-mul_right nodes (omega arith) in absurd (omega arith)
      | inr not_less ↦ elim (cases_lt b a) [
        | inl less ↦ let far : (b + 1) * nodes ≤ a * nodes = mul-le-mul_right nodes (omega arith) in absurd (omega arith)
        | inr equal ↦
            let is : a ≡ b = omega arith in
            let products : a * nodes ≡ b * nodes = ap (λ m. m * nodes) is in
            (is, omega arith)
      ]
    ]

module _ (locks nodes : ℕ) (acts : List Act) (is_of : IsOf locks nodes acts) (well : IsWellSynchronized nodes acts) (waits : WaitsAtBarriers acts) where
  abbrev steps : List RapidStep
  steps = rapid_of locks nodes acts

  -- ---- what stands behind a lock's release and its acquire

  -- a lock of the program, or that of the arrival of a node q with so many before it
  data Behind (l place node : ℕ) (own : ℕ → Deed) : Deed → Type 0 where
    by_lock : l < locks → Behind l place node own (own l)
    by_arrive : l ≡ locks + arrives_before acts node place * nodes + node → Behind l place node own Arrive
    by_depart : {q : ℕ} → q < nodes → l ≡ locks + departs_before acts node place * nodes + q → Behind l place node own Depart

  release_behind : (l place node : ℕ) (deed : Deed) (s : RapidStep) → Does acts place node deed
      → Comes (meeting_at locks nodes acts node place) place node deed s → s.operation ≡ Releases l → Behind l place node Release deed
  release_behind l place node deed s does reading e = absurd cc
  release_behind l place node deed s does writing e = absurd cc
  release_behind l place node deed s does acquiring e = absurd cc
  release_behind l place node deed s does (releasing {l = m}) e =
      let same : m ≡ l = ap lock_in e in
      subst (λ x. Behind l place node Release (Release x)) (sym same) (by_lock (is_of.released place node l (Does-deed (ap Release same) does)))
  release_behind l place node deed s does arriving e = absurd cc
  release_behind l place node deed s does arrived e = by_arrive (sym (ap lock_in e))
  release_behind l place node deed s does (departing few) e = absurd cc
  release_behind l place node deed s does (departed few) e = by_depart few (sym (ap lock_in e))

  acquire_behind : (l place node : ℕ) (deed : Deed) (s : RapidStep) → Does acts place node deed
      → Comes (meeting_at locks nodes acts node place) place node deed s → s.operation ≡ Acquires l → Behind l place node Acquire deed
  acquire_behind l place node deed s does reading e = absurd cc
  acquire_behind l place node deed s does writing e = absurd cc
  acquire_behind l place node deed s does (acquiring {l = m}) e =
      let same : m ≡ l = ap lock_in e in
      subst (λ x. Behind l place node Acquire (Acquire x)) (sym same) (by_lock (is_of.acquired place node l (Does-deed (ap Acquire same) does)))
  acquire_behind l place node deed s does releasing e = absurd cc
  acquire_behind l place node deed s does arriving e = by_arrive (sym (ap lock_in e))
  acquire_behind l place node deed s does arrived e = absurd cc
  acquire_behind l place node deed s does (departing few) e = by_depart few (sym (ap lock_in e))
  acquire_behind l place node deed s does (departed few) e = absurd cc

  -- ---- from the trace to the run

  reach_then : {i r b : ℕ} → Reaches acts i r → Precedes acts r b → HappensBefore acts i b
  reach_then {b = b} (inl same) p = base (subst (λ k. Precedes acts k b) (sym same) p)
  reach_then (inr h) p = further h p

  reaches_on : {i c r : ℕ} → Reaches acts i c → Reaches acts c r → Reaches acts i r
  reaches_on {i} from (inl same) = subst (λ k. Reaches acts i k) same from
  reaches_on {r = r} (inl same) (inr h) = inr (subst (λ k. HappensBefore acts k r) (sym same) h)
  reaches_on (inr g) (inr h) = inr (transitive g h)

  -- what comes to a depart comes to the later departs from the same barrier
  to_departs : {c a b x y : ℕ} → Does acts a x Depart → Does acts b y Depart → departs_before acts x a ≡ departs_before acts y b → a < b
      → Precedes acts c a → (r : ℕ) × Reaches acts c r × Precedes acts r b
  to_departs {c} {a} {b} {x} {y} at_a at_b counts lt (program {node = p} {a = deed} less at_c at_a') =
      let same : p ≡ x = Does-one_node at_a' at_a in
      let few : departs_before acts x a < arrives_before acts x a = well.departs a x at_a x (is_of.node a x Depart at_a) in
      let last : a < length acts = Does-within at_a in
      let (r, r_less, at_r, counts_r) = numbered_arrive acts x a (departs_before acts x a) (omega arith) few in
      let waited : arrives_before acts x r ≤ departs_before acts x r = waits.departed r x Arrive at_r refl in
      let at_x : Does acts c x deed = Does-node same at_c in
      let to_b : Precedes acts r b = barrier (omega arith) at_r at_b (counts_r ∙ counts) in
      elim (cases_lt r c) [
        | inl after ↦
            let one_more = count_of-more is_arrive acts x r Arrive at_r refl in
            let rises : count_of is_arrive x (take (r + 1) acts) ≤ arrives_before acts x c = count_of-rises is_arrive acts x (r + 1) c (omega arith) in
            let falls : departs_before acts x c ≤ departs_before acts x a = count_of-rises is_depart acts x c a (omega arith) in
            let before : departs_before acts x r ≤ departs_before acts x c = count_of-rises is_depart acts x r c (omega arith) in
            elim (cases_Bool (is_depart deed)) [
              | inl goes ↦
                  let more = count_of-more is_depart acts x c deed at_x goes in
                  let on : count_of is_depart x (take (c + 1) acts) ≤ departs_before acts x a = count_of-rises is_depart acts x (c + 1) a (omega arith) in
                  absurd (omega arith)
              | inr stays ↦ let held = waits.departed c x deed at_x stays in absurd (omega arith)
            ]
        | inr not_after ↦ elim (cases_lt c r) [
          | inl earlier ↦ (r, inr (base (program earlier at_x at_r)), to_b)
          | inr equal ↦ let is : c ≡ r = omega arith in (r, inl is, to_b)
        ]
      ]
  to_departs at_a at_b counts lt (lock {l = l} less at_c at_a') = absurd (never (Does-one_deed at_a' at_a))
    where
      never : Acquire l ≡ Depart → ⊥
      never e = absurd cc
  to_departs {c} {a} {b} {x} at_a at_b counts lt (barrier less at_c at_a' numbers) =
      let same = Does-one_node at_a' at_a in
      (c, inl refl, barrier (omega arith) at_c at_b (numbers ∙ ap (λ m. departs_before acts m a) same ∙ counts))

  -- position i is no depart
  abbrev NoDepart : ℕ → Type 0
  NoDepart i = (x : ℕ) → ¬ Does acts i x Depart

  -- a lock is handed on from one act to a later one: what comes to the first comes to the second
  handed : {i a b x y l : ℕ} {d e : Deed} → NoDepart i → Does acts a x d → Does acts b y e → Behind l a x Release d → Behind l b y Acquire e → a < b
      → Reaches acts i a → HappensBefore acts i b
  handed stays at_a at_b (by_lock u) (by_lock v) lt from = reach_then from (lock lt at_a at_b)
  handed stays at_a at_b (by_lock u) (by_arrive v) lt from = absurd (omega arith)
  handed stays at_a at_b (by_lock u) (by_depart few v) lt from = absurd (omega arith)
  handed stays at_a at_b (by_arrive u) (by_lock v) lt from = absurd (omega arith)
  handed {a = a} {b = b} {x = x} {y = y} stays at_a at_b (by_arrive u) (by_arrive v) lt from =
      let both = same_arrival locks nodes (arrives_before acts x a) (arrives_before acts y b) x y (is_of.node a x Arrive at_a) (is_of.node b y Arrive at_b)
      (sym u ∙ v) in
      reach_then from (program lt at_a (Does-node (sym both.1) at_b))
  handed {a = a} {b = b} {x = x} {y = y} stays at_a at_b (by_arrive u) (by_depart {q} few v) lt from =
      let both = same_arrival locks nodes (arrives_before acts x a) (departs_before acts y b) x q (is_of.node a x Arrive at_a) few (sym u ∙ v) in
      reach_then from (barrier lt at_a at_b both.0)
  handed stays at_a at_b (by_depart few u) (by_lock v) lt from = absurd (omega arith)
  handed {a = a} {b = b} {x = x} {y = y} stays at_a at_b (by_depart {q} few u) (by_arrive v) lt from =
      let within = is_of.node b y Arrive at_b in
      let both = same_arrival locks nodes (departs_before acts x a) (arrives_before acts y b) q y few within (sym u ∙ v) in
      let come : departs_before acts x a < arrives_before acts y a = well.departs a x at_a y within in
      let rises : arrives_before acts y a ≤ arrives_before acts y b = count_of-rises is_arrive acts y a b (omega arith) in
      let same : departs_before acts x a ≡ arrives_before acts y b = both.0 in
      absurd (omega arith)
  handed {a = a} {b = b} {x = x} {y = y} stays at_a at_b (by_depart {q} few u) (by_depart {q = r} few' v) lt (inl same) =
      absurd (stays x (subst (λ k. Does acts k x Depart) (sym same) at_a))
  handed {a = a} {b = b} {x = x} {y = y} stays at_a at_b (by_depart {q} few u) (by_depart {q = r} few' v) lt (inr h) =
      let both = same_arrival locks nodes (departs_before acts x a) (departs_before acts y b) q r few few' (sym u ∙ v) in
      let (c, from, last) = Reaches-last acts h in
      let (s, on, to) = to_departs at_a at_b both.0 lt last in
      reach_then (reaches_on from on) to

  link : {i k m : ℕ} → NoDepart i → ((s : RapidStep) → slice_get steps k ≡ Some s → Reaches acts i s.position) → StepPrecedes steps k m
      → (t : RapidStep) → slice_get steps m ≡ Some t → Reaches acts i t.position
  link {i} {k} {m} stays reach (trace.program {s = s} {t = u} lt hs hu same) t ht =
      let a = act_of_step locks nodes acts k s hs in
      let b = act_of_step locks nodes acts m u hu in
      let le : s.position ≤ u.position = later locks nodes acts k m s u hs hu (omega arith) in
      let from : Reaches acts i a.place = subst (λ p. Reaches acts i p) a.position (reach s hs) in
      let nodes_same : b.node ≡ a.node = sym b.same_node ∙ sym same ∙ a.same_node in
      let to : Reaches acts i u.position = elim (cases_lt s.position u.position) [
        | inl less ↦
            let less_places : a.place < b.place = omega (arith, a.position, b.position) in
            subst (λ p. Reaches acts i p) (sym b.position) (inr (reach_then from (program less_places a.does (Does-node nodes_same b.does))))
        | inr not_less ↦ let equal : s.position ≡ u.position = omega arith in subst (λ p. Reaches acts i p) equal (reach s hs)
      ] in
      subst (λ (z : RapidStep). Reaches acts i z.position) (same_Some u t (sym hu ∙ ht)) to
  link {i} {k} {m} stays reach (trace.lock {l = l} {s = s} {t = u} lt hs hu gives gets) t ht =
      let a = act_of_step locks nodes acts k s hs in
      let b = act_of_step locks nodes acts m u hu in
      let le : s.position ≤ u.position = later locks nodes acts k m s u hs hu (omega arith) in
      let from : Reaches acts i a.place = subst (λ p. Reaches acts i p) a.position (reach s hs) in
      let behind_a = release_behind l a.place a.node a.deed s a.does a.comes gives in
      let behind_b = acquire_behind l b.place b.node b.deed u b.does b.comes gets in
      let to : Reaches acts i u.position = elim (cases_lt s.position u.position) [
        | inl less ↦
            let less_places : a.place < b.place = omega (arith, a.position, b.position) in
            subst (λ p. Reaches acts i p) (sym b.position) (inr (handed stays a.does b.does behind_a behind_b less_places from))
        | inr not_less ↦ let equal : s.position ≡ u.position = omega arith in subst (λ p. Reaches acts i p) equal (reach s hs)
      ] in
      subst (λ (z : RapidStep). Reaches acts i z.position) (same_Some u t (sym hu ∙ ht)) to

  back : {i k m : ℕ} → NoDepart i → ((s : RapidStep) → slice_get steps k ≡ Some s → s.position ≡ i) → StepBefore steps k m
      → (t : RapidStep) → slice_get steps m ≡ Some t → Reaches acts i t.position
  back stays is (trace.base p) t ht = link stays (λ s hs. inl (sym (is s hs))) p t ht
  back stays is (trace.further h p) t ht = link stays (λ s hs. back stays is h s hs) p t ht

  -- ---- from the run to the trace

  -- steps of later acts stand later
  before : {k m : ℕ} (s t : RapidStep) → slice_get steps k ≡ Some s → slice_get steps m ≡ Some t → s.position < t.position → k < m
  before {k} {m} s t hs ht lt =
      elim (cases_lt k m) [
        | inl less ↦ less
        | inr not_less ↦ let le : t.position ≤ s.position = later locks nodes acts m k t s ht hs not_less in absurd (omega arith)
      ]

  -- the step of an acquire
  gets_lock : {meeting : Meeting} {place node l : ℕ} {deed : Deed} {t : RapidStep} → Comes meeting place node deed t → deed ≡ Acquire l → t.operation ≡ Acquires l
  gets_lock reading e = absurd cc
  gets_lock writing e = absurd cc
  gets_lock (acquiring {l = m}) e = ap Acquires (ap lock_of e)
  gets_lock releasing e = absurd cc
  gets_lock arriving e = absurd cc
  gets_lock arrived e = absurd cc
  gets_lock (departing few) e = absurd cc
  gets_lock (departed few) e = absurd cc

  -- an access of a node, and its step
  record Start (i p k : ℕ) (s : RapidStep) : Type 0 where
    deed : Deed
    does : Does acts i p deed
    plain : (l : ℕ) → deed ≢ Release l
    no_arrive : deed ≢ Arrive
    stands : slice_get steps k ≡ Some s
    position : s.position ≡ i
    node : s.node ≡ p

  forth : {i j p k : ℕ} {s : RapidStep} → Start i p k s → HappensBefore acts i j → (q : ℕ) (e : Deed) → Does acts j q e → (m : ℕ) (t : RapidStep)
      → slice_get steps m ≡ Some t → t.node ≡ q → (j < t.position) ⊎ ((t.position ≡ j) × (is_depart e ≡ false)) → StepBefore steps k m
  forth {i} {j} {p} {k} {s} start (base (program {node = n} lt at_i at_j)) q e does m t ht own where_t =
      let first : p ≡ n = Does-one_node start.does at_i in
      let second : q ≡ n = Does-one_node does at_j in
      let at : s.position ≡ i = start.position in
      let less : s.position < t.position = elim where_t [ inl past ↦ omega arith | inr here ↦ let on : t.position ≡ j = here.0 in omega arith ] in
      trace.base (trace.program (before s t start.stands ht less) start.stands ht (start.node ∙ first ∙ sym second ∙ sym own))
  forth start (base (lock {l = l} lt at_i at_j)) q e does m t ht own where_t = absurd (start.plain l (Does-one_deed start.does at_i))
  forth start (base (barrier lt at_i at_j counts)) q e does m t ht own where_t = absurd (start.no_arrive (Does-one_deed start.does at_i))
  forth {j = j} start (further {j = c} h (program {node = n} {a = d} lt at_c at_j)) q e does m t ht own where_t =
      let second : q ≡ n = Does-one_node does at_j in
      let less : c < t.position = elim where_t [ inl past ↦ omega arith | inr here ↦ let on : t.position ≡ j = here.0 in omega arith ] in
      forth start h n d at_c m t ht (own ∙ second) (inl less)
  forth {j = j} start (further {j = c} h (lock {p = x} {q = y} {l = l} lt at_c at_j)) q e does m t ht own where_t =
      let gave = rapid_step x c (Releases l) in
      let got = rapid_step y j (Acquires l) in
      let (mc, at_mc) = step_of_act locks nodes acts c x (Release l) 0 gave at_c refl in
      let (mj, at_mj) = step_of_act locks nodes acts j y (Acquire l) 0 got at_j refl in
      let to_c = forth start h x (Release l) at_c mc gave at_mc refl (inr (refl, refl)) in
      let same : q ≡ y = Does-one_node does at_j in
      elim where_t [
        | inl past ↦
            let to_j = trace.further to_c (trace.lock (before gave got at_mc at_mj lt) at_mc at_mj refl refl) in
            trace.further to_j (trace.program (before got t at_mj ht past) at_mj ht (sym same ∙ sym own))
        | inr here ↦
            let b = act_of_step locks nodes acts m t ht in
            let place : b.place ≡ j = sym b.position ∙ here.0 in
            let deed : b.deed ≡ Acquire l = Does-one_deed (subst (λ z. Does acts z b.node b.deed) place b.does) at_j in
            let on : t.position ≡ j = here.0 in
            let less : c < t.position = omega arith in
            trace.further to_c (trace.lock (before gave t at_mc ht less) at_mc ht refl (gets_lock b.comes deed))
      ]
  forth {j = j} start (further {j = c} h (barrier {p = x} {q = y} lt at_c at_j counts)) q e does m t ht own where_t =
      let at_x = meeting_at locks nodes acts x c in
      let at_y = meeting_at locks nodes acts y j in
      let gave = rapid_step x c (Releases (lock_of_arrival at_x at_x.arrived x)) in
      let got = rapid_step y j (Acquires (lock_of_arrival at_y at_y.departed x)) in
      let (mc, at_mc) = step_of_act locks nodes acts c x Arrive 1 gave at_c refl in
      let (mj, at_mj) = step_of_depart locks nodes acts j y x at_j (is_of.node c x Arrive at_c) in
      let to_c = forth start h x Arrive at_c mc gave at_mc refl (inr (refl, refl)) in
      let same : q ≡ y = Does-one_node does at_j in
      let departs : e ≡ Depart = Does-one_deed does at_j in
      let same_lock : got.operation ≡ Acquires (lock_of_arrival at_x at_x.arrived x) = ap (λ number. Acquires (locks + number * nodes + x)) (sym counts) in
      elim where_t [
        | inl past ↦
            let to_j = trace.further to_c (trace.lock (before gave got at_mc at_mj lt) at_mc at_mj refl same_lock) in
            trace.further to_j (trace.program (before got t at_mj ht past) at_mj ht (sym same ∙ sym own))
        | inr here ↦ absurd (true≢false (sym (ap is_depart departs) ∙ here.1))
      ]

  -- ---- both ways, between accesses

  -- an access has one step, and is no release, arrive or depart
  access : (i p v : ℕ) → Accesses acts i p v
      → (deed : Deed) × Does acts i p deed × (is_depart deed ≡ false) × ((k : ℕ) × (s : RapidStep) × Start i p k s)
  access i p v (inl (value, does)) =
      let s = rapid_step p i (Reads v) in
      let (k, at) = step_of_act locks nodes acts i p (Read v value) 0 s does refl in (
        Read v value,
        does,
        refl,
        (
          k,
          s,
          record {
            deed = Read v value;
            does = does;
            plain = λ l e. absurd cc;
            no_arrive = λ e. absurd cc;
            stands = at;
            position = refl;
            node = refl;
          },
        ),
      )
  access i p v (inr (value, does)) =
      let s = rapid_step p i (Writes v) in
      let (k, at) = step_of_act locks nodes acts i p (Write v value) 0 s does refl in (
        Write v value,
        does,
        refl,
        (
          k,
          s,
          record {
            deed = Write v value;
            does = does;
            plain = λ l e. absurd cc;
            no_arrive = λ e. absurd cc;
            stands = at;
            position = refl;
            node = refl;
          },
        ),
      )

  pub both_ways : (i j p q v w : ℕ) → Accesses acts i p v → Accesses acts j q w → i ≢ j → HappensBefore acts i j ↔ Orders steps i j
  both_ways i j p q v w first second apart =
      let (d, at_i, stays_i, (k, s, start_i)) = access i p v first in
      let (e, at_j, stays_j, (m, t, start_j)) = access j q w second in
      let stays : NoDepart i = λ x departs. absurd (true≢false (sym (ap is_depart (Does-one_deed at_i departs)) ∙ stays_i)) in (
        λ h. record {
          k = k;
          m = m;
          first = s;
          second = t;
          at_k = start_i.stands;
          at_m = start_j.stands;
          of_i = start_i.position;
          of_j = start_j.position;
          before = forth start_i h q e at_j m t start_j.stands start_j.node (inr (start_j.position, stays_j));
        },
        λ o. elim (back stays (λ s' hs. ap (λ (z : RapidStep). z.position) (same_Some s' o.first (sym hs ∙ o.at_k)) ∙ o.of_i) o.before o.second o.at_m) [
          | inl same ↦ absurd (apart (same ∙ o.of_j))
          | inr h ↦ subst (λ z. HappensBefore acts i z) o.of_j h
        ],
      )
