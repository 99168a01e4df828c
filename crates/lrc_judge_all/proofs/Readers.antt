-- What a node knows of the writes, further on.
use Rattle.std.proofs.Common.{◌≡◌, ◌∙◌, ◌+◌, ◌<◌, ◌≤◌, ◌≢◌, ◌++◌, ◌∷◌, [], ℕ, zero, suc, List, ap, arith, eqb, get_or, inl, inr, length, refl, set, subst, sym}
use Rattle.std.specs.Prelude.{◌↔◌, All, Contains, IsTrue, None, slice_index}
use Rattle.std.specs.BTreeMap.{IsEmpty, get, is_at}
use Rattle.std.specs.Map.{lookup}
use Rattle.std.specs.Ordering.{nat_cmp}
use Rattle.std.specs.List.{dedup}
use Rattle.std.specs.List.Sorted.{IsPermutation, IsSorted, IsStrictlyIncreasing}
use Rattle.std.proofs.lemmas.Bool.{cases_eq, cases_lt}
use Rattle.std.proofs.lemmas.List.Kept.{Contains-dedup_nat, Contains-from_dedup}
use Rattle.std.proofs.lemmas.List.Sorted.{Contains-permutation, IsPermutation-sym}
use Rattle.std.proofs.lemmas.Map.Keys.{IsStrictlyIncreasing-dedup}
use Rattle.std.proofs.lemmas.List.{get_or-set_other, get_or-set_same, get_or_append_left, get_or_push, length-set, length_push}
use Rattle.std.proofs.lemmas.List.Elements.{All-get_or, Contains-append_cases, Contains-append_left, Contains-append_right}
use Rattle.lrc_trace.specs.declared.act.Act.{Act}
use Rattle.lrc_trace.specs.declared.act.Deed.{Deed}
use Rattle.lrc_trace.specs.declared.act.Deed.TheVariants.{Quiet, Write}
use Rattle.lrc_trace.specs.Run.{Does}
use Rattle.lrc_trace.specs.Order.{HappensBefore, base, program}
use Rattle.lrc_trace.proofs.HappensBefore.{transitive}
use Rattle.lrc_trace.proofs.Positions.{Does-one_node, Does-read, Does-within}
use Rattle.lrc_judge.specs.Order.{is_before, IsOrderOf}
use Rattle.lrc_judge.specs.declared.TheConstants.{NODES}
use Rattle.lrc_judge.specs.declared.order.Order.{Order}
use Rattle.lrc_judge_all.specs.Known.{AreKept, AreKnownAt, AreReaders, IsBatch, IsGathered, IsKept, IsNewTo, IsPassed, IsReader, IsWriteOf}
use Rattle.lrc_judge_all.specs.declared.reader.Reader.{Reader}

-- ---- the start

pub reader_none : (run : List Act) (node n : ℕ) (reader : Reader) → ((other : ℕ) → slice_index reader.next other ≡ 0) → IsEmpty reader.words
    → IsReader run node n reader
reader_none run node n reader zeros empty = record {
  known = [];
  within = λ other lt. subst (λ m. m ≤ length run) (sym (zeros other)) (omega arith);
  exact = λ k. (
    λ (i, lt, is). absurd (omega (arith, lt)),
    λ (other, lt, p). let at = zeros other in let less = p.earlier in absurd (omega (arith, at, less)),
  );
  closed = λ i k other (p, lt, is) before write. absurd (omega (arith, lt));
  ahead = λ k j deed (p, lt, is) le does. absurd (omega (arith, lt));
  words = λ word.
      let none : get nat_cmp reader.words word ≡ None = ap (λ es. lookup (is_at (nat_cmp word)) es) empty in
      subst (λ o. IsKept run [] word o) (sym none) (λ value h. let (p, lt, is) = h.there in absurd (omega (arith, lt)));
}

-- ---- the writes that are passed, node by node

-- the same of the nodes before n; the others stay where they were
pub record IsBatchTo (order : Order) (run : List Act) (position : ℕ) (from : List ℕ) (n : ℕ) (ends batch : List ℕ) : Type 0 where
  pub exact : (k : ℕ) → Contains batch k ↔ ((node : ℕ) × (node < n) × IsPassed run node (slice_index from node) (slice_index ends node) k)
  pub known : (k : ℕ) → Contains batch k → IsTrue (is_before order k position)
  pub within : (node : ℕ) → node < n → slice_index ends node ≤ length run
  pub forward : (node : ℕ) → node < n → slice_index from node ≤ slice_index ends node
  pub stops : (node : ℕ) → node < n → slice_index ends node < length run
      → IsWriteOf run node (slice_index ends node) × ¬ IsTrue (is_before order (slice_index ends node) position)
  pub untouched : (node : ℕ) → n ≤ node → slice_index ends node ≡ slice_index from node

module _ (order : Order) (run : List Act) (position : ℕ) (from : List ℕ) where
  pub batch_none : (batch : List ℕ) → batch ≡ [] → IsBatchTo order run position from 0 from batch
  batch_none batch empty = subst (λ b. IsBatchTo order run position from 0 from b) (sym empty) (record {
    exact = λ k. (λ (i, lt, is). absurd (omega (arith, lt)), λ (node, lt, p). absurd (omega (arith, lt)));
    known = λ k (i, lt, is). absurd (omega (arith, lt));
    within = λ node lt. absurd (omega (arith, lt));
    forward = λ node lt. absurd (omega (arith, lt));
    stops = λ node lt. absurd (omega (arith, lt));
    untouched = λ node le. refl;
  })

  module _ (n end : ℕ) (ends batch after : List ℕ) (old : IsBatchTo order run position from n ends batch) (lt_ends : n < length ends)
      (gathered : IsGathered order run n position (slice_index ends n) end batch after) where
    at_here : slice_index (set ends n end) n ≡ end
    at_here = get_or-set_same ends n end 0 lt_ends

    at_other : (m : ℕ) → m < n → slice_index (set ends n end) m ≡ slice_index ends m
    at_other m lt = let ne : m ≢ n = omega arith in get_or-set_other ends n m end 0 ne

    from_here : slice_index ends n ≡ slice_index from n
    from_here = old.untouched n (omega arith)

    pub batch_more : IsBatchTo order run position from (n + 1) (set ends n end) after
    batch_more = record {
      exact = λ k. (
        λ h. elim ((gathered.adds.exact k).0 h) [
          | inl there ↦
              let (m, lt, p) = (old.exact k).0 there in
              (m, omega arith, subst (λ e. IsPassed run m (slice_index from m) e k) (sym (at_other m lt)) p)
          | inr p ↦
              (n, omega arith, subst (λ e. IsPassed run n (slice_index from n) e k) (sym at_here) (subst (λ f. IsPassed run n f end k) from_here p))
        ],
        λ (m, lt, p).
            elim (cases_eq m n) [
              | inl same ↦
                  let q : IsPassed run n (slice_index from n) (slice_index (set ends n end) n) k =
                  subst (λ i. IsPassed run i (slice_index from i) (slice_index (set ends n end) i) k) same p in
                  (gathered.adds.exact k).1
                  (inr (subst (λ f. IsPassed run n f end k) (sym from_here) (subst (λ e. IsPassed run n (slice_index from n) e k) at_here q)))
              | inr other ↦
                  let less : m < n = omega (arith, lt, other) in
                  (gathered.adds.exact k).1
                  (inl ((old.exact k).1 (m, less, subst (λ e. IsPassed run m (slice_index from m) e k) (at_other m less) p)))
            ],
      );
      known = λ k h. elim ((gathered.adds.exact k).0 h) [ inl there ↦ old.known k there | inr p ↦ gathered.known k p ];
      within = λ m lt.
          elim (cases_eq m n) [
            | inl same ↦ subst (λ i. slice_index (set ends n end) i ≤ length run) (sym same) (subst (λ e. e ≤ length run) (sym at_here) gathered.within)
            | inr other ↦
                let less : m < n = omega (arith, lt, other) in
                subst (λ e. e ≤ length run) (sym (at_other m less)) (old.within m less)
          ];
      forward = λ m lt.
          elim (cases_eq m n) [
            | inl same ↦
                subst (λ i. slice_index from i ≤ slice_index (set ends n end) i) (sym same)
                (subst (λ e. slice_index from n ≤ e) (sym at_here) (subst (λ f. f ≤ end) from_here gathered.forward))
            | inr other ↦
                let less : m < n = omega (arith, lt, other) in
                subst (λ e. slice_index from m ≤ e) (sym (at_other m less)) (old.forward m less)
          ];
      stops = λ m lt.
          elim (cases_eq m n) [
            | inl same ↦
                subst (λ i. slice_index (set ends n end) i < length run
                → IsWriteOf run i (slice_index (set ends n end) i) × ¬ IsTrue (is_before order (slice_index (set ends n end) i) position)) (sym same)
                (subst (λ e. e < length run → IsWriteOf run n e × ¬ IsTrue (is_before order e position)) (sym at_here) gathered.stops)
            | inr other ↦
                let less : m < n = omega (arith, lt, other) in
                subst (λ e. e < length run → IsWriteOf run m e × ¬ IsTrue (is_before order e position)) (sym (at_other m less)) (old.stops m less)
          ];
      untouched = λ m le.
          let ne : m ≢ n = omega arith in
          get_or-set_other ends n m end 0 ne ∙ old.untouched m (omega arith);
    }

-- ---- a reader that has learned

module _ (run : List Act) (order : Order) (of : IsOrderOf run order) (in_range : All (λ (act : Act). act.node < NODES) run)
    (position node : ℕ) (deed : Deed) (does : Does run position node deed) (old : Reader) (ends batch : List ℕ)
    (reader : IsReader run node position old) (is : IsBatch order run position old.next ends batch) where
  quiet : Act
  quiet = record { node = 0; deed = Quiet }

  node_below : (i other : ℕ) (d : Deed) → Does run i other d → other < NODES
  node_below i other d h =
      let within = Does-within h in
      let same = Does-one_node (Does-read run i quiet within) h in
      subst (λ q. q < NODES) same (All-get_or (λ (act : Act). act.node < NODES) run i quiet within in_range)

  -- no position is both known and in the batch
  pub apart : (k : ℕ) → Contains reader.known k → Contains batch k → ⊥
  apart k there fresh =
      let (p, lt, old_one) = (reader.exact k).0 there in
      let (q, less, new_one) = (is.exact k).0 fresh in
      let same : p ≡ q = Does-one_node old_one.write.does new_one.write.does in
      let above : slice_index old.next q ≤ k = new_one.from_there in
      let below : k < slice_index old.next q = subst (λ n. k < slice_index old.next n) same old_one.earlier in
      omega arith

  pub fresh : (k : ℕ) → Contains batch k → IsNewTo run reader.known k
  fresh k there m known = (
    λ same. apart k (subst (λ i. Contains reader.known i) same known) there,
    λ before.
        let (q, less, p) = (is.exact k).0 there in
        apart k (reader.closed k m q known before p.write) there,
  )

  pub batch_within : (k : ℕ) → Contains batch k → k < length run
  batch_within k there = let (q, less, p) = (is.exact k).0 there in Does-within p.write.does

  known_before : (k : ℕ) → Contains (reader.known ++ batch) k → HappensBefore run k position
  known_before k h =
      elim (Contains-append_cases reader.known batch k h) [
        | inl there ↦ reader.ahead k position deed there (omega arith) does
        | inr there ↦ (of k position).0 (is.known k there)
      ]

  exact_all : (k : ℕ) → Contains (reader.known ++ batch) k ↔ ((other : ℕ) × (other < NODES) × IsPassed run other 0 (slice_index ends other) k)
  exact_all k = (
    λ h. elim (Contains-append_cases reader.known batch k h) [
      | inl there ↦
          let (other, lt, p) = (reader.exact k).0 there in
          let more = is.forward other lt in
          let less = p.earlier in
          (other, lt, record { from_there = omega arith; earlier = omega (arith, more, less); write = p.write })
      | inr there ↦
          let (other, lt, p) = (is.exact k).0 there in
          (other, lt, record { from_there = omega arith; earlier = p.earlier; write = p.write })
    ],
    λ (other, lt, p).
        elim (cases_lt k (slice_index old.next other)) [
          | inl below ↦
              Contains-append_left reader.known batch k
              ((reader.exact k).1 (other, lt, record { from_there = omega arith; earlier = below; write = p.write }))
          | inr above ↦
              Contains-append_right reader.known batch k
              ((is.exact k).1 (other, lt, record { from_there = above; earlier = p.earlier; write = p.write }))
        ],
  )

  all_known : (k other : ℕ) → IsWriteOf run other k → HappensBefore run k position → Contains (reader.known ++ batch) k
  all_known k other write before =
      let lt : other < NODES = node_below k other (Write write.word write.value) write.does in
      let within = Does-within write.does in
      (exact_all k).1 (
        other,
        lt,
        record {
          from_there = omega arith;
          earlier =
              elim (cases_lt k (slice_index ends other)) [
                | inl below ↦ below
                | inr above ↦
                    let end = slice_index ends other in
                    let inside : end < length run = omega (arith, above, within) in
                    let (here, unknown) = is.stops other lt inside in
                    absurd
                    (elim (cases_eq end k) [
                      | inl same ↦ unknown ((of end position).1 (subst (λ m. HappensBefore run m position) (sym same) before))
                      | inr differ ↦
                          let less : end < k = omega (arith, above, differ) in
                          unknown ((of end position).1 (transitive (base (program less here.does write.does)) before))
                    ])
              ];
          write = write;
        },
      )

  pub learned_known : AreKnownAt run position (reader.known ++ batch)
  learned_known k = (
    λ h. let (other, lt, p) = (exact_all k).0 h in ((other, p.write), known_before k h),
    λ both. all_known k both.0.0 both.0.1 both.1,
  )

  pub learned : (new : Reader) → new.next ≡ ends → AreKept run (reader.known ++ batch) new.words → IsReader run node (position + 1) new
  learned new same words = record {
    known = reader.known ++ batch;
    within = subst (λ (e : List ℕ). (other : ℕ) → other < NODES → slice_index e other ≤ length run) (sym same) is.within;
    exact = subst (λ (e : List ℕ). (k : ℕ) → Contains (reader.known ++ batch) k ↔ ((other : ℕ) × (other < NODES) × IsPassed run other 0 (slice_index e other) k))
        (sym same) exact_all;
    closed = λ i k other h before write. all_known i other write (transitive before (known_before k h));
    ahead = λ k j d h le later. transitive (known_before k h) (base (program (omega arith) does later));
    words = words;
  }

-- a reader at a position that it does not look at
pub reader_later : (run : List Act) (node n : ℕ) (reader : Reader) → IsReader run node n reader → IsReader run node (n + 1) reader
reader_later run node n reader old = record {
  known = old.known;
  within = old.within;
  exact = old.exact;
  closed = old.closed;
  ahead = λ k j deed h le does. old.ahead k j deed h (omega arith) does;
  words = old.words;
}

-- ---- the batch, sorted

pub batch_sorted : (order : Order) (run : List Act) (position n : ℕ) (from ends batch sorted unique : List ℕ) → n ≡ NODES
    → IsBatchTo order run position from n ends batch → IsPermutation batch sorted → IsSorted nat_cmp sorted → unique ≡ dedup eqb sorted
    → IsBatch order run position from ends unique
batch_sorted order run position n from ends batch sorted unique all is permutation in_order kept =
    let old : IsBatchTo order run position from NODES ends batch = subst (λ m. IsBatchTo order run position from m ends batch) all is in
    let back : (k : ℕ) → Contains unique k → Contains batch k = λ k h.
    Contains-permutation sorted batch k (IsPermutation-sym batch sorted permutation)
    (Contains-from_dedup eqb sorted k (subst (λ (l : List ℕ). Contains l k) kept h)) in
    record {
      ascending = subst (λ (l : List ℕ). IsStrictlyIncreasing l) (sym kept) (IsStrictlyIncreasing-dedup sorted in_order);
      exact = λ k. (
        λ h. (old.exact k).0 (back k h),
        λ p. subst (λ (l : List ℕ). Contains l k) (sym kept)
            (Contains-dedup_nat sorted k (Contains-permutation batch sorted k permutation ((old.exact k).1 p))),
      );
      known = λ k h. old.known k (back k h);
      within = old.within;
      forward = old.forward;
      stops = old.stops;
    }

-- ---- zeros

-- a list that has 0 everywhere
pub record IsZeros (xs : List ℕ) : Type 0 where
  pub at : (i : ℕ) → slice_index xs i ≡ 0

none_at : (i : ℕ) → slice_index [] i ≡ 0
none_at zero = refl
none_at (suc i) = refl

pub zeros_none : IsZeros []
zeros_none = record { at = none_at }

more_at : (xs : List ℕ) → IsZeros xs → (i : ℕ) → slice_index (0 ∷ xs) i ≡ 0
more_at xs old zero = refl
more_at xs old (suc i) = old.at i

pub zeros_more : (xs : List ℕ) → IsZeros xs → IsZeros (0 ∷ xs)
zeros_more xs old = record { at = more_at xs old }

-- ---- all readers

pub readers_later : (run : List Act) (n : ℕ) (readers : List Reader) → AreReaders run n readers → AreReaders run (n + 1) readers
readers_later run n readers old node d lt = reader_later run node n (get_or readers node d) (old node d lt)

pub readers_more : (run : List Act) (n node : ℕ) (readers : List Reader) (new : Reader) → node < length readers → AreReaders run n readers
    → IsReader run node (n + 1) new → AreReaders run (n + 1) (set readers node new)
readers_more run n node readers new inside old here other d lt =
    elim (cases_eq other node) [
      | inl same ↦
          let at : get_or (set readers node new) node d ≡ new = get_or-set_same readers node new d inside in
          subst (λ m. IsReader run m (n + 1) (get_or (set readers node new) m d)) (sym same)
          (subst (λ r. IsReader run node (n + 1) r) (sym at) here)
      | inr ne ↦
          let at : get_or (set readers node new) other d ≡ get_or readers other d = get_or-set_other readers node other new d ne in
          let long : length (set readers node new) ≡ length readers = length-set readers node new in
          subst (λ r. IsReader run other (n + 1) r) (sym at) (reader_later run other n (get_or readers other d) (old other d (omega (arith, lt, long))))
    ]

pub readers_push : (run : List Act) (n : ℕ) (readers : List Reader) (new : Reader) → AreReaders run n readers
    → ((node : ℕ) → IsReader run node 0 new) → AreReaders run n (readers ++ new ∷ [])
readers_push run n readers new old nothing node d lt =
    elim (cases_lt node (length readers)) [
      | inl inside ↦
          subst (λ r. IsReader run node n r) (sym (get_or_append_left readers (new ∷ []) d node inside)) (old node d inside)
      | inr past ↦
          let long : length (readers ++ new ∷ []) ≡ length readers + 1 = length_push readers new in
          let same : node ≡ length readers = omega (arith, past, lt, long) in
          let first = nothing node in
          subst (λ r. IsReader run node n r) (sym (get_or_push readers new d node (sym same))) (record {
            known = first.known;
            within = first.within;
            exact = first.exact;
            closed = first.closed;
            ahead = λ k j deed h le does. first.ahead k j deed h (omega arith) does;
            words = first.words;
          })
    ]
