-- The writes to a word that happen before a position, lane by lane, and whether they are ordered.
use Rattle.std.proofs.Common.{◌≡◌, ℕ, ◌+◌, ◌<◌, ◌⊎◌, ◌++◌, List, [], ◌∷◌, length, get_or, inl, inr, refl, sym, subst, ◌∙◌, arith}
use Rattle.std.specs.Prelude.{◌↔◌, ◌&&◌, Bool, true, false, IsTrue, Option, Some, None, MatchBool, MatchOption, All, Contains, max, slice_get}
use Rattle.std.proofs.lemmas.Bool.{cases_eq, cases_lt, and_parts, and_from, false≢true}
use Rattle.std.proofs.lemmas.Option.{slice_get-get_or, get_or_from_slice_get}
use Rattle.lrc_trace.specs.declared.act.Act.{Act}
use Rattle.lrc_trace.specs.declared.act.Deed.{Deed}
use Rattle.lrc_trace.specs.declared.act.Deed.TheVariants.{Quiet, Print, Read, Write, Acquire, Release, Arrive, Depart, Trap, End}
use Rattle.lrc_trace.specs.Run.{Does, IsDone}
use Rattle.lrc_trace.specs.Order.{HappensBefore, base, program}
use Rattle.lrc_trace.specs.Reading.{WrittenBefore, AreOrdered, MayRead}
use Rattle.lrc_trace.proofs.Positions.{slice_get-front, slice_get-seam, Does-read, Does-within, Does-one_node, Does-one_deed}
use Rattle.lrc_trace.proofs.HappensBefore.{forward, transitive}
use Rattle.lrc_judge.specs.declared.TheConstants.{NODES}
use Rattle.lrc_judge.specs.declared.lanes.Lane.{Lane}
use Rattle.lrc_judge.specs.declared.entries.Told.TheVariants.{EachValue}
use Rattle.lrc_judge.specs.declared.written.Written.{Written}
use Rattle.lrc_judge.specs.Order.{is_before}
use Rattle.lrc_judge.specs.Lanes.{entry, lane_of, IsLastOfLane}
use Rattle.lrc_judge.specs.Pairs.{word_lane}
use Rattle.lrc_judge.specs.Written.{IsWrittenOf, IsWriteBelow, IsLatestBelow, IsValueBelow, AllLead, AreFlags}
use Rattle.lrc_judge.specs.Latest.{later_of}
use Rattle.lrc_judge.specs.Reading.{Misreads}
use Rattle.lrc_judge.proofs.Crossing.{entry_does, entry_writes, write_listed}

-- ---- one node more

module _ (written : Written) (word position n : ℕ) where
  abbrev IsHere : ℕ → Type 0
  IsHere i = Contains written.by_word.items (entry (word_lane word n) i) × IsTrue (is_before written.order i position)

  below_split : (i : ℕ) → IsWriteBelow written word (n + 1) position i → IsWriteBelow written word n position i ⊎ IsHere i
  below_split i w =
      elim (cases_eq w.node n) [
        | inl same ↦ inr (subst (λ m. Contains written.by_word.items (entry (word_lane word m) i)) same w.there, w.before)
        | inr other ↦ let lt = w.in_range in inl (record { node = w.node; in_range = omega arith; there = w.there; before = w.before })
      ]

  below_more : (i : ℕ) → IsWriteBelow written word n position i → IsWriteBelow written word (n + 1) position i
  below_more i w = let lt = w.in_range in record { node = w.node; in_range = omega arith; there = w.there; before = w.before }

  below_here : (i : ℕ) → IsHere i → IsWriteBelow written word (n + 1) position i
  below_here i (there, before) = record { node = n; in_range = omega arith; there = there; before = before }

  pub latest_more : (o found : Option ℕ) → IsLatestBelow written word n position o
      → MatchOption found ((k : ℕ) → Contains written.by_word.items (entry (word_lane word n) k) → IsTrue (is_before written.order k position) → ⊥)
      (IsLastOfLane written.by_word.items written.order (word_lane word n) position)
      → IsLatestBelow written word (n + 1) position (later_of o found)
  latest_more None None old new = λ i w. elim (below_split i w) [ inl before ↦ old i before | inr (there, before) ↦ new i there before ]
  latest_more None (Some l) old last = (
    below_here l (last.there, last.before),
    λ k w. elim (below_split k w) [ inl before ↦ absurd (old k before) | inr (there, before) ↦ last.last k there before ],
  )
  latest_more (Some i) None (old, greatest) new = (
    below_more i old,
    λ k w. elim (below_split k w) [ inl before ↦ greatest k before | inr (there, before) ↦ absurd (new k there before) ],
  )
  latest_more (Some i) (Some l) (old, greatest) last =
      elim (cases_lt i l) [
        | inl lt ↦
            let is : max i l ≡ l = omega arith in
            subst (λ m. IsLatestBelow written word (n + 1) position (Some m)) (sym is) (
              below_here l (last.there, last.before),
              λ k w. elim (below_split k w) [
                | inl before ↦ let le = greatest k before in omega arith
                | inr (there, before) ↦ last.last k there before
              ],
            )
        | inr le ↦
            let is : max i l ≡ i = omega arith in
            subst (λ m. IsLatestBelow written word (n + 1) position (Some m)) (sym is) (
              below_more i old,
              λ k w. elim (below_split k w) [
                | inl before ↦ greatest k before
                | inr (there, before) ↦ let le' = last.last k there before in omega arith
              ],
            )
      ]

  -- a node without such a write
  pub lead_none : (latest : ℕ) → ((k : ℕ) → Contains written.by_word.items (entry (word_lane word n) k) → IsTrue (is_before written.order k position) → ⊥)
      → AllLead written word n position latest → AllLead written word (n + 1) position latest
  lead_none latest none old = λ i w. elim (below_split i w) [ inl before ↦ old i before | inr (there, before) ↦ absurd (none i there before) ]

  -- a node whose last leads
  pub lead_more : (run : List Act) → IsWrittenOf run written → (latest l : ℕ)
      → IsLastOfLane written.by_word.items written.order (word_lane word n) position l
      → (l ≡ latest) ⊎ IsTrue (is_before written.order l latest)
      → AllLead written word n position latest → AllLead written word (n + 1) position latest
  lead_more run are latest l last leads old = λ i w.
      elim (below_split i w) [
        | inl before ↦ old i before
        | inr (there, before) ↦
            let le = last.last i there before in
            elim (cases_eq i l) [
              | inl same ↦ subst (λ m. (m ≡ latest) ⊎ IsTrue (is_before written.order m latest)) (sym same) leads
              | inr other ↦
                  let (a, does_i) = entry_does ((are.by_word.exact (word_lane word n) i).0 there) in
                  let (b, does_l) = entry_does ((are.by_word.exact (word_lane word n) l).0 last.there) in
                  let step : HappensBefore run i l = base (program (omega arith) does_i does_l) in
                  inr ((are.order i latest).1 (elim leads [
                    | inl is ↦ subst (λ m. HappensBefore run i m) is step
                    | inr further ↦ transitive step ((are.order l latest).0 further)
                  ]))
            ]
      ]

  -- one that does not lead refutes it
  pub leads_not : (latest l : ℕ) → n < NODES → IsLastOfLane written.by_word.items written.order (word_lane word n) position l
      → (l ≡ latest → ⊥) → is_before written.order l latest ≡ false → AllLead written word NODES position latest → ⊥
  leads_not latest l lt last apart unrelated all =
      elim (all l (record { node = n; in_range = lt; there = last.there; before = last.before })) [
        | inl same ↦ apart same
        | inr before ↦ let never : ⊥ = cc in never
      ]

-- a node more without a write of the value
pub value_none : (written : Written) (word value position n : ℕ)
    → ((k : ℕ) → Contains written.by_value.items (entry (record { word = word; value = value; node = n }) k) → IsTrue (is_before written.order k position) → ⊥)
    → (IsValueBelow written word value n position → ⊥) → IsValueBelow written word value (n + 1) position → ⊥
value_none written word value position n none old b =
    elim (cases_eq b.node n) [
      | inl same ↦ none b.i (subst (λ m. Contains written.by_value.items (entry (record { word = word; value = value; node = m }) b.i)) same b.there) b.before
      | inr other ↦ let lt = b.in_range in old (record { node = b.node; in_range = omega arith; i = b.i; there = b.there; before = b.before })
    ]

-- ---- flags

pub flags-push : (run : List Act) (n : ℕ) (xs zs : List Bool) (flag : Bool) → length xs ≡ n → zs ≡ xs ++ flag ∷ []
    → ((j word read value : ℕ) → IsDone run j (Read word read) → IsDone run n (Write word value) → (flag ≡ true) ↔ AreOrdered run n word)
    → AreFlags run n xs → AreFlags run (n + 1) zs
flags-push run n xs zs flag long pushed now old = λ j word read is_read k value lt done.
    elim (cases_eq k n) [
      | inl same ↦
          let at : k ≡ length xs = same ∙ sym long in
          let seam : slice_get (xs ++ flag ∷ []) (length xs) ≡ Some flag = slice_get-seam xs flag [] in
          let is : get_or zs k false ≡ flag = rw (pushed, at) (get_or_from_slice_get (xs ++ flag ∷ []) (length xs) flag false seam) in
          let here : (flag ≡ true) ↔ AreOrdered run k word =
          subst (λ m. (flag ≡ true) ↔ AreOrdered run m word) (sym same) (now j word read value is_read (subst (λ m. IsDone run m (Write word value)) same done)) in
          subst (λ b. (b ≡ true) ↔ AreOrdered run k word) (sym is) here
      | inr other ↦
          let within : k < length xs = omega arith in
          let front : slice_get (xs ++ flag ∷ []) k ≡ Some (get_or xs k false) = slice_get-front xs (flag ∷ []) k within ∙ slice_get-get_or xs k false within in
          let is : get_or zs k false ≡ get_or xs k false = rw pushed (get_or_from_slice_get (xs ++ flag ∷ []) k (get_or xs k false) false front) in
          subst (λ b. (b ≡ true) ↔ AreOrdered run k word) (sym is) (old j word read is_read k value (omega arith) done)
    ]

-- what is judged of a read
pub judged : (run : List Act) (j node word value : ℕ) → Does run j node (Read word value) → (r : Bool) → (r ≡ true) ↔ MayRead run j word value
    → MatchBool r ((w v : ℕ) → IsDone run j (Read w v) → MayRead run j w v) (Misreads run j)
judged run j node word value here true is = λ w v (p, done).
    let both : Read word value ≡ Read w v = Does-one_deed here done in
    let words : word ≡ w = cc in
    let values : value ≡ v = cc in
    rw (← words, ← values) (is.0 refl)
judged run j node word value here false is = record { word = word; value = value; read = (node, here); refused = λ m. false≢true (is.1 m) }

-- ---- the run

value_deed : (run : List Act) (i node : ℕ) (deed : Deed) (lane : Lane) → lane_of EachValue node deed ≡ Some lane → Does run i node deed
    → Does run i node (Write lane.word lane.value)
value_deed run i node (Read word value) lane e h = let never : ⊥ = cc in absurd never
value_deed run i node (Write word value) lane e h =
    let w : word ≡ lane.word = cc in
    let v : value ≡ lane.value = cc in
    subst (λ y. Does run i node (Write lane.word y)) v (subst (λ x. Does run i node (Write x value)) w h)
value_deed run i node Quiet lane e h = let never : ⊥ = cc in absurd never
value_deed run i node (Print v) lane e h = let never : ⊥ = cc in absurd never
value_deed run i node (Acquire l) lane e h = let never : ⊥ = cc in absurd never
value_deed run i node (Release l) lane e h = let never : ⊥ = cc in absurd never
value_deed run i node Arrive lane e h = let never : ⊥ = cc in absurd never
value_deed run i node Depart lane e h = let never : ⊥ = cc in absurd never
value_deed run i node (Trap cause) lane e h = let never : ⊥ = cc in absurd never
value_deed run i node End lane e h = let never : ⊥ = cc in absurd never

module _ (run : List Act) (written : Written) (are : IsWrittenOf run written) (in_range : All (λ (act : Act). act.node < NODES) run)
    (word position : ℕ) where
  node_below : (i node : ℕ) (deed : Deed) → Does run i node deed → node < NODES
  node_below i node deed h =
      let within = Does-within h in
      let quiet : Act = record { node = node; deed = deed } in
      let here = Does-one_node (Does-read run i quiet within) h in
      let below = in_range i quiet within in
      omega (arith, here, below)

  write_is : (i v : ℕ) → WrittenBefore run position word i v → IsWriteBelow written word NODES position i
  write_is i v w =
      let (node, does) = w.write in
      record {
        node = node;
        in_range = node_below i node (Write word v) does;
        there = (are.by_word.exact (word_lane word node) i).1 (write_listed (v, does));
        before = (are.order i position).1 w.before;
      }

  is_write : (i : ℕ) → IsWriteBelow written word NODES position i → (v : ℕ) × WrittenBefore run position word i v
  is_write i b =
      let (v, does) = entry_writes ((are.by_word.exact (word_lane word b.node) i).0 b.there) in
      (v, record { write = (b.node, does); before = (are.order i position).0 b.before })

  pub ordered_none : IsLatestBelow written word NODES position None → AreOrdered run position word
  ordered_none none = λ i k u v wi wk lt. absurd (none i (write_is i u wi))

  -- where the last is before another write, that is so of both
  pub latest_written : (latest : ℕ) → IsLatestBelow written word NODES position (Some latest)
      → (latest < position) × ((v : ℕ) × IsDone run latest (Write word v))
  latest_written latest (b, greatest) = let (v, w) = is_write latest b in (forward w.before, (v, w.write))

  pub ordered_iff : (latest : ℕ) (flag leads : Bool) → IsLatestBelow written word NODES position (Some latest)
      → (flag ≡ true) ↔ AreOrdered run latest word → (leads ≡ true) ↔ AllLead written word NODES position latest
      → ((flag && leads) ≡ true) ↔ AreOrdered run position word
  ordered_iff latest flag leads (b, greatest) flag_is leads_is = (
    λ h i k u v wi wk lt.
        let (flagged, led) = and_parts flag leads h in
        let all = leads_is.0 led in
        let le = greatest k (write_is k v wk) in
        let i_first : HappensBefore run i latest = elim (all i (write_is i u wi)) [ inl same ↦ absurd (omega arith) | inr x ↦ (are.order i latest).0 x ] in
        elim (cases_eq k latest) [
          | inl same ↦ subst (λ m. HappensBefore run i m) (sym same) i_first
          | inr other ↦
              let k_first : HappensBefore run k latest = elim (all k (write_is k v wk)) [ inl same ↦ absurd (other same) | inr x ↦ (are.order k latest).0 x ] in
              flag_is.0 flagged i k u v (record { write = wi.write; before = i_first }) (record { write = wk.write; before = k_first }) lt
        ],
    λ ordered.
        let (x, last) = is_write latest b in
        and_from flag leads
        (flag_is.1 (λ i k u v wi wk lt. ordered i k u v (record { write = wi.write; before = transitive wi.before last.before })
        (record { write = wk.write; before = transitive wk.before last.before }) lt))
        (leads_is.1 (λ i w.
        let (u, wi) = is_write i w in
        let le = greatest i w in
        elim (cases_eq i latest) [
          | inl same ↦ inl same
          | inr other ↦ inr ((are.order i latest).1 (ordered i latest u x wi last (omega arith)))
        ])),
  )

  -- where the writes before the position are ordered, those before the last of them are
  pub ordered_flag : (latest : ℕ) → IsLatestBelow written word NODES position (Some latest) → AreOrdered run position word → AreOrdered run latest word
  ordered_flag latest (b, greatest) ordered = λ i k u v wi wk lt.
      let (x, last) = is_write latest b in
      ordered i k u v (record { write = wi.write; before = transitive wi.before last.before })
      (record { write = wk.write; before = transitive wk.before last.before }) lt

  -- ---- what a read may give

  pub value_below : (value : ℕ) → IsValueBelow written word value NODES position ↔ ((i : ℕ) × WrittenBefore run position word i value)
  value_below value = (
    λ b.
        let lane : Lane = record { word = word; value = value; node = b.node } in
        let e = (are.by_value.exact lane b.i).0 b.there in
        let does = value_deed run b.i e.node e.deed lane e.lane_is e.does in
        (b.i, record { write = (e.node, does); before = (are.order b.i position).0 b.before }),
    λ (i, w).
        let (node, does) = w.write in
        let lane : Lane = record { word = word; value = value; node = node } in
        record {
          node = node;
          in_range = node_below i node (Write word value) does;
          i = i;
          there = (are.by_value.exact lane i).1 (record { node = node; deed = Write word value; does = does; lane_is = refl });
          before = (are.order i position).1 w.before;
        },
  )

  pub may_unordered : (value : ℕ) → (AreOrdered run position word → ⊥)
      → ((value ≡ 0) ⊎ IsValueBelow written word value NODES position) ↔ MayRead run position word value
  may_unordered value unordered = (
    λ h. record {
      weak = elim h [ inl nothing ↦ inl nothing | inr b ↦ inr ((value_below value).0 b) ];
      strong = λ o. absurd (unordered o);
    },
    λ m. elim m.weak [ inl nothing ↦ inl nothing | inr w ↦ inr ((value_below value).1 w) ],
  )

  pub may_none : (value : ℕ) → IsLatestBelow written word NODES position None → (value ≡ 0) ↔ MayRead run position word value
  may_none value none = (
    λ nothing. record {
      weak = inl nothing;
      strong = λ o. record { none = λ _. nothing; last = λ i v l. absurd (none i (write_is i v l.written)) };
    },
    λ m. (m.strong (ordered_none none)).none (λ i v w. none i (write_is i v w)),
  )

  pub may_latest : (value latest stored : ℕ) → AreOrdered run position word → IsLatestBelow written word NODES position (Some latest)
      → ((node : ℕ) (v : ℕ) → Does run latest node (Write word v) → stored ≡ v) → (value ≡ stored) ↔ MayRead run position word value
  may_latest value latest stored ordered (b, greatest) is =
      let (x, w) = is_write latest b in
      let stored_is : stored ≡ x = is w.write.0 x w.write.1 in (
        λ same.
            let here : WrittenBefore run position word latest value = subst (λ y. WrittenBefore run position word latest y) (sym (same ∙ stored_is)) w in
            record {
              weak = inr (latest, here);
              strong = λ o. record {
                none = λ none. absurd (none latest value here);
                last = λ i v l.
                    let le = greatest i (write_is i v l.written) in
                    let ge = l.last latest value here in
                    let at : i ≡ latest = omega arith in
                    let there : IsDone run latest (Write word v) = subst (λ m. IsDone run m (Write word v)) at l.written.write in
                    same ∙ is there.0 v there.1;
              };
            },
        λ m. (m.strong ordered).last latest x (record { written = w; last = λ k v wk. greatest k (write_is k v wk) }) ∙ sym stored_is,
      )
