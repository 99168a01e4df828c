-- Intervals of which those of each node follow one another.
use Rattle.std.proofs.Common.{◌≡◌, ◌≢◌, ℕ, zero, suc, ◌+◌, ◌-◌, ◌<◌, ◌≤◌, Bool, true, false, List, [], ◌∷◌, ◌++◌, length}
use Rattle.std.proofs.Common.{max, get_or, set, take, drop, refl, sym, ◌∙◌, ap, subst, arith, ⊎_elim}
use Rattle.std.specs.Prelude.{◌==◌}
use Rattle.std.specs.List.{range_with_len, list_all}
use Rattle.std.specs.Cmp.Lexicographic.{same_text}
use Rattle.std.proofs.lemmas.Bool.{cases_eq, cases_lt, cases_Bool, and_parts, and_from, false≢true}
use Rattle.std.proofs.lemmas.Cmp.{nat_list_eq_equiv}
use Rattle.std.proofs.lemmas.List.{append-nil, length-append, length-set, get_or_past, take_more, take-append-drop, drop_more}
use lib.Pointwise.{pointwise}
use Rattle.std.proofs.lemmas.List.FromFn.{length-range_with_len, get_or-range_with_len}
use Rattle.lrc_time.specs.Time.{entry, joined}
use Rattle.lrc_time.proofs.Times.{entry-joined, entry-set_same, entry-set_other, length-joined_same, same_times}
use Rattle.lrc_store.specs.Interval.{IntervalRecord, index_of}
use Rattle.lrc_exec.proofs.RoundsLaws.{range-last}
use Rattle.lrc_protocol.specs.Times.{indices_by, are_between}
use Rattle.lrc_node_laws.proofs.Indices.{indices-append, indices-here, indices-there}
use Rattle.lrc_node.specs.News.{IsUnbrokenRun, AreUnbroken, IsBroken}

-- ---- one interval more

pub run-own : (xs : List IntervalRecord) (x : IntervalRecord) (q above last next : ℕ) → IsUnbrokenRun xs q above last → x.node ≡ q
    → index_of x ≡ next → next ≡ last + 1 → IsUnbrokenRun (xs ++ x ∷ []) q above next
run-own xs x q above last next is own index one = record {
  risen = let h = is.risen in omega arith;
  run =
      let h = is.risen in
      let more : next - above ≡ (last - above) + 1 = omega arith in
      let value : next ≡ (above + 1) + (last - above) = omega arith in
      indices-append xs (x ∷ []) q
      ∙ ap (λ ys. indices_by xs q ++ ys) (indices-here x [] q own)
      ∙ ap (λ ys. ys ++ (index_of x ∷ [])) is.run
      ∙ ap (λ n. range_with_len (above + 1) (last - above) ++ (n ∷ [])) (index ∙ value)
      ∙ sym (range-last (above + 1) (last - above))
      ∙ sym (ap (range_with_len (above + 1)) more);
}

pub run-other : (xs : List IntervalRecord) (x : IntervalRecord) (q above last : ℕ) → IsUnbrokenRun xs q above last → x.node ≢ q
    → IsUnbrokenRun (xs ++ x ∷ []) q above last
run-other xs x q above last is other = record {
  risen = is.risen;
  run =
      indices-append xs (x ∷ []) q
      ∙ ap (λ ys. indices_by xs q ++ ys) (indices-there x [] q other)
      ∙ append-nil (indices_by xs q)
      ∙ is.run;
}

-- ---- whether they are those between two numbers

decided : (xs ys : List ℕ) → xs ≢ ys → pointwise ◌==◌ xs ys ≡ false
decided xs ys differ =
    ⊎_elim (λ (t : pointwise ◌==◌ xs ys ≡ true). absurd (differ (same_text xs ys (sym t)))) (λ (f : pointwise ◌==◌ xs ys ≡ false). f)
    (cases_Bool (pointwise ◌==◌ xs ys))

pub between-holds : (xs : List IntervalRecord) (q above last upto : ℕ) → IsUnbrokenRun xs q above last → last ≡ max above upto
    → are_between xs q above upto ≡ true
between-holds xs q above last upto is e =
    let h = is.risen in
    let same : last - above ≡ upto - above = omega arith in
    ap (λ ys. pointwise ◌==◌ ys (range_with_len (above + 1) (upto - above))) (is.run ∙ ap (range_with_len (above + 1)) same)
    ∙ nat_list_eq_equiv.refl (range_with_len (above + 1) (upto - above))

pub between-only : (xs : List IntervalRecord) (q above last upto : ℕ) → IsUnbrokenRun xs q above last
    → are_between xs q above upto ≡ true → last ≡ max above upto
between-only xs q above last upto is e =
    let h = is.risen in
    let same = sym is.run ∙ same_text (indices_by xs q) (range_with_len (above + 1) (upto - above)) (sym e) in
    let long : last - above ≡ upto - above =
    sym (length-range_with_len (above + 1) (last - above)) ∙ ap length same ∙ length-range_with_len (above + 1) (upto - above) in
    omega arith

-- the place after a list
seam : (xs : List ℕ) (y : ℕ) (ys : List ℕ) → get_or (xs ++ y ∷ ys) (length xs) 0 ≡ y
seam [] y ys = refl
seam (x ∷ xs) y ys = seam xs y ys

out_of_turn : (a k m y : ℕ) (ys : List ℕ) → range_with_len a k ++ y ∷ ys ≡ range_with_len a m → y ≡ a + k
out_of_turn a k m y ys e =
    let long = sym (length-append (range_with_len a k) (y ∷ ys)) ∙ ap length e ∙ length-range_with_len a m in
    let first = length-range_with_len a k in
    let within : k < m = omega arith in
    sym (seam (range_with_len a k) y ys)
    ∙ ap (λ n. get_or (range_with_len a k ++ y ∷ ys) n 0) first
    ∙ ap (λ zs. get_or zs k 0) e
    ∙ get_or-range_with_len a m k 0 within

pub between-broken : (xs : List IntervalRecord) (x : IntervalRecord) (rest : List IntervalRecord) (q above last upto : ℕ)
    → IsUnbrokenRun xs q above last → x.node ≡ q → index_of x ≢ last + 1 → are_between (xs ++ x ∷ rest) q above upto ≡ false
between-broken xs x rest q above last upto is own differ =
    decided _ _
    (λ e.
    let h = is.risen in
    let same = sym (indices-append xs (x ∷ rest) q ∙ ap (λ ys. indices_by xs q ++ ys) (indices-here x rest q own)
    ∙ ap (λ ys. ys ++ (index_of x ∷ indices_by rest q)) is.run) ∙ e in
    let value = out_of_turn (above + 1) (last - above) (upto - above) (index_of x) (indices_by rest q) same in
    differ (omega arith))

-- ---- all nodes

pub runs-more : (known : List ℕ) (xs : List IntervalRecord) (x : IntervalRecord) (reached : List ℕ) → AreUnbroken known xs reached
    → x.node < length known → index_of x ≡ entry reached x.node + 1 → AreUnbroken known (xs ++ x ∷ []) (set reached x.node (index_of x))
runs-more known xs x reached are within next = record {
  counted = length-set reached x.node (index_of x) ∙ are.counted;
  each = λ q. ⊎_elim
      (λ (own : x.node ≡ q).
      let place : x.node < length reached = rw are.counted within in
      let at : entry (set reached x.node (index_of x)) q ≡ index_of x =
      subst (λ n. entry (set reached x.node (index_of x)) n ≡ index_of x) own (entry-set_same reached x.node (index_of x) place) in
      let before : index_of x ≡ entry reached q + 1 = subst (λ n. index_of x ≡ entry reached n + 1) own next in
      run-own xs x q (entry known q) (entry reached q) (entry (set reached x.node (index_of x)) q) (are.each q) own (sym at) (at ∙ before))
      (λ (other : x.node ≢ q).
      let at = entry-set_other reached x.node (index_of x) q (λ e. other (sym e)) in
      subst (λ n. IsUnbrokenRun (xs ++ x ∷ []) q (entry known q) n) (sym at) (run-other xs x q (entry known q) (entry reached q) (are.each q) other))
      (cases_eq x.node q);
}

pub runs-broken : (known : List ℕ) (xs : List IntervalRecord) (x : IntervalRecord) (rest : List IntervalRecord) (reached : List ℕ)
    → AreUnbroken known xs reached → x.node < length known → index_of x ≢ entry reached x.node + 1 → IsBroken known (xs ++ x ∷ rest)
runs-broken known xs x rest reached are within differ = record {
  q = x.node;
  in_range = within;
  between = λ upto. between-broken xs x rest x.node (entry known x.node) (entry reached x.node) upto (are.each x.node) refl differ;
}

-- ---- tests of a range

pub range_all : (p : ℕ → Bool) (a n : ℕ) → ((k : ℕ) → a ≤ k → k < a + n → p k ≡ true) → list_all p (range_with_len a n) ≡ true
range_all p a zero each = refl
range_all p a (suc n) each =
    and_from _ _ (each a (omega arith) (omega arith)) (range_all p (a + 1) n (λ k low high. each k (omega arith) (omega arith)))

pub range_each : (p : ℕ → Bool) (a n k : ℕ) → list_all p (range_with_len a n) ≡ true → a ≤ k → k < a + n → p k ≡ true
range_each p a zero k all low high = absurd (omega arith)
range_each p a (suc n) k all low high =
    ⊎_elim
    (λ (here : a ≡ k). subst (λ j. p j ≡ true) here (and_parts (p a) _ all).0)
    (λ (later : a ≢ k). range_each p (a + 1) n k (and_parts (p a) _ all).1 (omega arith) (omega arith))
    (cases_eq a k)

-- ---- the whole

pub all_between : (known time : List ℕ) (xs : List IntervalRecord) (reached : List ℕ) → AreUnbroken known xs reached
    → length time ≡ length known → reached ≡ joined known time
    → list_all (λ q. are_between xs q (entry known q) (entry time q)) (range_with_len 0 (length known)) ≡ true
all_between known time xs reached are counted e =
    range_all _ 0 (length known)
    (λ q low high. between-holds xs q (entry known q) (entry reached q) (entry time q) (are.each q) (ap (λ t. entry t q) e ∙ entry-joined known time q))

pub all_between-only : (known time : List ℕ) (xs : List IntervalRecord) (reached : List ℕ) → AreUnbroken known xs reached
    → length time ≡ length known
    → list_all (λ q. are_between xs q (entry known q) (entry time q)) (range_with_len 0 (length known)) ≡ true
    → reached ≡ joined known time
all_between-only known time xs reached are counted all =
    same_times reached (joined known time) (are.counted ∙ sym (length-joined_same known time (sym counted)))
    (λ q. ⊎_elim
    (λ (within : q < length known).
    between-only xs q (entry known q) (entry reached q) (entry time q) (are.each q)
    (range_each (λ q. are_between xs q (entry known q) (entry time q)) 0 (length known) q all (omega arith) (omega arith))
    ∙ sym (entry-joined known time q))
    (λ (past : length known ≤ q).
    let long = length-joined_same known time (sym counted) in
    get_or_past reached q 0 (rw are.counted past) ∙ sym (get_or_past (joined known time) q 0 (rw long past)))
    (cases_lt q (length known)))

pub none_between : (known time : List ℕ) (xs : List IntervalRecord) → IsBroken known xs
    → list_all (λ q. are_between xs q (entry known q) (entry time q)) (range_with_len 0 (length known)) ≡ false
none_between known time xs broken =
    let p : ℕ → Bool = λ q. are_between xs q (entry known q) (entry time q) in
    ⊎_elim
    (λ (t : list_all p (range_with_len 0 (length known)) ≡ true).
    let h = broken.in_range in
    absurd (false≢true (sym (broken.between (entry time broken.q)) ∙ range_each p 0 (length known) broken.q t (omega arith) (omega arith))))
    (λ (f : list_all p (range_with_len 0 (length known)) ≡ false). f)
    (cases_Bool (list_all p (range_with_len 0 (length known))))

-- ---- places

-- a list, where it is cut at a place
pub cut : (xs : List IntervalRecord) (i : ℕ) (x : IntervalRecord) → i < length xs → x ≡ get_or xs i x → take i xs ++ x ∷ drop (i + 1) xs ≡ xs
cut xs i x within at =
    ap (λ y. take i xs ++ (y ∷ drop (i + 1) xs)) at
    ∙ sym (ap (λ ys. take i xs ++ ys) (drop_more xs i x within))
    ∙ take-append-drop i xs

pub one_more : (xs : List IntervalRecord) (i : ℕ) (x : IntervalRecord) → i < length xs → x ≡ get_or xs i x → take (i + 1) xs ≡ take i xs ++ x ∷ []
one_more xs i x within at = take_more xs i x within ∙ sym (ap (λ y. take i xs ++ (y ∷ [])) at)
