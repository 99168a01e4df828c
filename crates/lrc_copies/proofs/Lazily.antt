-- From a value that fits to lazy reading.
use Rattle.std.proofs.Common.{◌≡◌, ℕ, ◌<◌, ◌≤◌, ◌⊎◌, ◌∙◌, eqb, IsTrue, Option, Some, None, List, length, get_or, ap, sym, subst, inl, inr, ⊎_elim, arith}
use Rattle.std.specs.Prelude.{Contains}
use Rattle.std.proofs.lemmas.Bool.{cases_eq, cases_lt, and_parts, eqb-true}
use Rattle.lrc_trace.specs.declared.act.Act.{Act}
use Rattle.lrc_trace.specs.declared.act.Deed.TheVariants.{Write}
use Rattle.lrc_trace.specs.Run.{Does}
use Rattle.lrc_trace.specs.Order.{HappensBefore, base, program}
use Rattle.lrc_trace.specs.Interval.{interval_at}
use Rattle.lrc_trace.specs.Reading.{WrittenBefore, AreOrdered, IsLastWrite, MayRead}
use Rattle.lrc_trace.proofs.Positions.{Does-one_node, Does-one_deed}
use Rattle.lrc_trace.proofs.HappensBefore.{forward}
use Rattle.lrc_trace.proofs.Intervals.{never_fall}
use Rattle.lrc_time.specs.Time.{entry}
use Rattle.lrc_page.specs.declared.changes.Change.{Change}
use Rattle.lrc_copies.specs.Word.{WordHistory, IsWriter, AreWritersOrdered, IsLastWriter, Fits}
use Rattle.lrc_copies.specs.Page.{at_word, PageFits}
use Rattle.lrc_copies.specs.Stamps.{Stamps, stamp_index, stamps_covered, page_of_stamps}
use Rattle.lrc_copies.specs.Reading.{IsLastOf, HasWritesBefore, ListsWrites}
use Rattle.lrc_copies.proofs.Fitting.{option_cases}
use Rattle.lrc_copies.proofs.Stamping.{covered-le, le-covered, below-from}

-- one position has one written value
one_written : {run : List Act} {j word i u v : ℕ} → WrittenBefore run j word i u → WrittenBefore run j word i v → u ≡ v
one_written {word = word} {u = u} {v = v} g h =
    let same : Write word u ≡ Write word v = Does-one_deed g.write.1 h.write.1 in
    cc

module _ {A : Type 0} (run : List Act) (j word : ℕ) (w : WordHistory A) (inside : A → ℕ → Type 0) (xs : List A)
    (has : HasWritesBefore run j word w inside xs) where
  -- two members whose last writes are ordered by their places, where the writes before j are
  by_places : AreOrdered run j word → (a b : A) (i k u v : ℕ) → IsWriter w xs a u → IsWriter w xs b v
      → IsLastOf run j word (inside a) i u → IsLastOf run j word (inside b) k v → i ≤ k → (a ≡ b) ⊎ IsTrue (w.below a b)
  by_places ordered a b i k u v g h at_i at_k le =
      ⊎_elim
      (λ (same : i ≡ k). inl (has.one a b k g.member h.member (subst (inside a) same at_i.in_it) at_k.in_it))
      (λ (differ : i ≡ k → ⊥).
      has.ordered a b i k u v g h at_i.in_it at_k.in_it (ordered i k u v at_i.written at_k.written (omega arith)))
      (cases_eq i k)

  writers_ordered : AreOrdered run j word → AreWritersOrdered w xs
  writers_ordered ordered a b u v g h =
      let at_i = has.wrote a u g in
      let at_k = has.wrote b v h in
      ⊎_elim
      (λ (before : at_i.0 < at_k.0). ⊎_elim inl (λ (under : IsTrue (w.below a b)). inr (inl under))
      (by_places ordered a b at_i.0 at_k.0 u v g h at_i.1 at_k.1 (omega arith)))
      (λ (after : at_k.0 ≤ at_i.0). ⊎_elim (λ (same : b ≡ a). inl (sym same)) (λ (under : IsTrue (w.below b a)). inr (inr under))
      (by_places ordered b a at_k.0 at_i.0 v u h g at_k.1 at_i.1 after))
      (cases_lt at_i.0 at_k.0)

  -- the last write before j is in a member that is last, and its value is the member's
  last_writer : AreOrdered run j word → (i v : ℕ) → IsLastWrite run j word i v → (a : A) × IsLastWriter w xs a v
  last_writer ordered i v last =
      let found = has.complete i v last.written in
      let a = found.0 in
      let at_a = has.wrote a found.1 found.2 in
      let most : at_a.0 ≤ i = last.last at_a.0 found.1 at_a.1.written in
      let least : i ≤ at_a.0 = at_a.1.last i v last.written found.3 in
      let place : at_a.0 ≡ i = omega arith in
      let value : found.1 ≡ v = one_written (subst (λ k. WrittenBefore run j word k found.1) place at_a.1.written) last.written in (
        a,
        record {
          writer = subst (IsWriter w xs a) value found.2;
          last = λ b u g.
              let at_b = has.wrote b u g in
              let before : at_b.0 ≤ i = last.last at_b.0 u at_b.1.written in
              by_places ordered b a at_b.0 at_a.0 u found.1 g found.2 at_b.1 at_a.1 (omega arith);
        },
      )

  pub may_read : (value : ℕ) → Fits w value xs → MayRead run j word value
  may_read value fits = record {
    weak = ⊎_elim inl
        (λ (h : (a : A) × IsWriter w xs a value). let at_i = has.wrote h.0 value h.1 in inr (at_i.0, at_i.1.written))
        fits.weak;
    strong = λ ordered.
        let latest = fits.strong (writers_ordered ordered) in record {
          none = λ none. latest.none (λ a v h. let at_i = has.wrote a v h in none at_i.0 v at_i.1.written);
          last = λ i v last. let found = last_writer ordered i v last in latest.last found.0 v found.1;
        };
  }

-- ---- stamped intervals

module _ {A : Type 0} (run : List Act) (j node word : ℕ) (s : Stamps A) (wrote : A → ℕ → Option ℕ) (changes : A → List Change)
    (time : List ℕ) (xs : List A) (offset : ℕ) (lists : ListsWrites run j node word s (λ a. wrote a offset) time xs) where
  abbrev w : WordHistory A
  w = at_word (page_of_stamps s wrote changes) offset

  -- a position is in an interval where its node acts there, in its interval with that index
  abbrev inside : A → ℕ → Type 0
  inside a i = (value : ℕ) × Does run i (s.node a) (Write word value) × (interval_at run (s.node a) i ≡ stamp_index s a)

  -- a write that happens before j is in a member
  in_member : (i value : ℕ) → WrittenBefore run j word i value → (a : A) × Contains xs a × inside a i
  in_member i value written =
      let other = written.write.0 in
      let does = written.write.1 in
      let reached : (other ≡ node) ⊎ (interval_at run other i ≤ entry time other) =
      ⊎_elim inl (λ (apart : other ≡ node → ⊥). inr ((lists.cover i other (Write word value) apart does).0 written.before))
      (cases_eq other node) in
      let found = lists.listed i other value (forward written.before) does reached in (
        found.0,
        found.1,
        (
          value,
          subst (λ m. Does run i m (Write word value)) (sym found.2) does,
          ap (λ m. interval_at run m i) found.2 ∙ sym found.3,
        ),
      )

  -- what is written in a member before j happens before j
  before_read : (a : A) (i value : ℕ) → Contains xs a → i < j → Does run i (s.node a) (Write word value)
      → interval_at run (s.node a) i ≡ stamp_index s a → HappensBefore run i j
  before_read a i value a_in earlier does inside =
      ⊎_elim
      (λ (own : s.node a ≡ node).
      base (program earlier does (subst (λ m. Does run j m lists.deed) (sym own) lists.acts)))
      (λ (apart : s.node a ≡ node → ⊥). ⊎_elim
      (λ (own : s.node a ≡ node). absurd (apart own))
      (λ (known : IsTrue (stamps_covered s time a)).
      let most = covered-le s time a known in
      (lists.cover i (s.node a) (Write word value) apart does).1 (omega arith))
      (lists.known a a_in))
      (cases_eq (s.node a) node)

  below_by_index : (a b : A) → Contains xs a → Contains xs b → s.node a ≡ s.node b → stamp_index s a ≤ stamp_index s b
      → (a ≡ b) ⊎ IsTrue (w.below a b)
  below_by_index a b a_in b_in nodes le =
      ⊎_elim
      (λ (same : stamp_index s a ≡ stamp_index s b). inl (lists.one a b a_in b_in nodes same))
      (λ (differ : stamp_index s a ≡ stamp_index s b → ⊥).
      let entries : entry (s.stamp b) (s.node a) ≡ entry (s.stamp b) (s.node b) = ap (entry (s.stamp b)) nodes in
      inr (below-from s a b (le-covered s (s.stamp b) a (omega arith))
      (λ same. differ (eqb-true (stamp_index s a) (stamp_index s b) (and_parts (eqb (s.node a) (s.node b)) (eqb (stamp_index s a) (stamp_index s b)) same).1))))
      (cases_eq (stamp_index s a) (stamp_index s b))

  has_writes : HasWritesBefore run j word w inside xs
  has_writes = record {
    complete = λ i value written.
        let found = in_member i value written in
        let a = found.0 in
        ⊎_elim
        (λ (none : wrote a offset ≡ None).
        absurd (lists.wrote_none a found.1 none i found.2.0 (forward written.before) found.2.1 found.2.2))
        (λ (some : (v : ℕ) × (wrote a offset ≡ Some v)).
        (a, some.0, record { member = found.1; wrote = some.1 }, found.2))
        (option_cases (wrote a offset));
    one = λ a b i a_in b_in g h.
        let nodes : s.node a ≡ s.node b = Does-one_node g.1 h.1 in
        lists.one a b a_in b_in nodes (sym g.2 ∙ ap (λ m. interval_at run m i) nodes ∙ h.2);
    wrote = λ a value h.
        let found = lists.wrote_last a value h.member h.wrote in
        let last = found.1 in (
          found.0,
          record {
            written = record {
              write = (s.node a, last.write);
              before = before_read a found.0 value h.member last.earlier last.write last.inside;
            };
            in_it = (value, last.write, last.inside);
            last = λ k v written g. last.last k g.0 (forward written.before) g.1 g.2;
          },
        );
    ordered = λ a b i k u v g h in_a in_b order.
        ⊎_elim
        (λ (nodes : s.node a ≡ s.node b).
        let rises : interval_at run (s.node a) i ≤ interval_at run (s.node a) k =
        never_fall run (s.node a) i k (let lt = forward order in omega arith) in
        let same : interval_at run (s.node a) k ≡ interval_at run (s.node b) k = ap (λ m. interval_at run m k) nodes in
        let e = in_a.2 in
        let f = in_b.2 in
        below_by_index a b g.member h.member nodes (omega arith))
        (λ (apart : s.node a ≡ s.node b → ⊥).
        inr (below-from s a b
        (lists.stamped a b i k in_a.0 in_b.0 g.member h.member apart in_a.1 in_a.2 in_b.1 in_b.2 order)
        (λ same. apart (eqb-true (s.node a) (s.node b) (and_parts (eqb (s.node a) (s.node b)) (eqb (stamp_index s a) (stamp_index s b)) same).0))))
        (cases_eq (s.node a) (s.node b));
  }

  pub copy_may_read : (copy : List ℕ) → offset < length copy → PageFits (page_of_stamps s wrote changes) copy xs
      → MayRead run j word (get_or copy offset 0)
  copy_may_read copy within fits = may_read run j word w inside xs has_writes (get_or copy offset 0) (fits offset within)
