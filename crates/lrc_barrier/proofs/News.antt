-- Lemmas on the intervals that a time doesn't know.
use Rattle.std.proofs.Common.{ℕ, zero, suc, ◌≡◌, ◌≢◌, ◌+◌, ◌-◌, ◌<◌, ◌≤◌, ◌∙◌, Bool, true, false, List, []}
use Rattle.std.proofs.Common.{◌∷◌, ◌++◌, length, drop, get_or, refl, ap, sym, ⊎_elim, arith}
use Rattle.std.specs.Prelude.{IsTrue, All, AllPairs}
use Rattle.std.specs.List.{filter}
use Rattle.std.proofs.lemmas.Bool.{cases_eq}
use Rattle.std.proofs.lemmas.Grind.{common_steps}
use Rattle.std.proofs.lemmas.List.{get_or_default}
use Rattle.std.proofs.lemmas.List.Elements.{All-append}
use Rattle.std.proofs.lemmas.List.Kept.{AllPairs-cons}
use Rattle.lrc_time.specs.Time.{entry}
use Rattle.lrc_store.specs.Interval.{IntervalRecord, by_node, index_of}
use Rattle.lrc_barrier.specs.Barrier.{is_news}

pub by_node-index : (a b : IntervalRecord) → a.node ≡ b.node → IsTrue (by_node a b) → index_of a < index_of b
by_node-index a b same before = grind (arith, common_steps, same, before)

pub by_node-later : (a b : IntervalRecord) → a.node < b.node → IsTrue (by_node a b)
by_node-later a b before = grind (arith, common_steps, before)

pub is_news-above : (since : List ℕ) (i : IntervalRecord) → is_news since i ≡ true → entry since i.node < index_of i
is_news-above since i news = grind (arith, common_steps, news)

pub is_news-true : (since : List ℕ) (i : IntervalRecord) → entry since i.node < index_of i → is_news since i ≡ true
is_news-true since i above = grind (arith, common_steps, above)

pub is_news-below : (since : List ℕ) (i : IntervalRecord) → is_news since i ≡ false → index_of i ≤ entry since i.node
is_news-below since i old = grind (arith, common_steps, old)

pub is_news-known : (since : List ℕ) (i : IntervalRecord) → index_of i ≤ entry since i.node → is_news since i ≡ false
is_news-known since i known = grind (arith, common_steps, known)

-- where what passes stands at the end, what passes is that end
pub filter_end : {X : Type 0} (test : X → Bool) (xs : List X) (n : ℕ) → n ≤ length xs
    → ((k : ℕ) (d : X) → k < n → test (get_or xs k d) ≡ false)
    → ((k : ℕ) (d : X) → n ≤ k → k < length xs → test (get_or xs k d) ≡ true)
    → filter test xs ≡ drop n xs
filter_end test [] zero within old new = refl
filter_end test [] (suc n) within old new = refl
filter_end test (x ∷ xs) zero within old new =
    let first : test x ≡ true = new 0 x (omega arith) (omega arith) in
    let rest : filter test xs ≡ xs =
    filter_end test xs zero (omega arith) (λ k d h. absurd (omega (arith, h))) (λ k d h i. new (suc k) d (omega arith) (omega (arith, i))) in
    rw first (ap (λ rest. x ∷ rest) rest)
filter_end test (x ∷ xs) (suc n) within old new =
    let first : test x ≡ false = old 0 x (omega arith) in
    rw first
    (filter_end test xs n (omega (arith, within)) (λ k d h. old (suc k) d (omega (arith, h)))
    (λ k d h i. new (suc k) d (omega (arith, h)) (omega (arith, i))))

-- of ascending intervals of one node, those before one that the time knows are known too
pub known_before : (node : ℕ) (since : List ℕ) (xs : List IntervalRecord) (n : ℕ) → n ≤ length xs
    → All (λ i. i.node ≡ node) xs → AllPairs (λ a b. IsTrue (by_node a b)) xs
    → ((d : IntervalRecord) → 0 < n → is_news since (get_or xs (n - 1) d) ≡ false)
    → (k : ℕ) (d : IntervalRecord) → k < n → is_news since (get_or xs k d) ≡ false
known_before node since xs n within own ascends known k d h =
    let last = get_or xs (n - 1) d in
    let here = get_or xs k d in
    let last_is : is_news since last ≡ false = known d (omega (arith, h)) in
    let last_node : last.node ≡ node = own (n - 1) d (omega (arith, h, within)) in
    let here_node : here.node ≡ node = own k d (omega (arith, h, within)) in
    ⊎_elim
    (λ (same : k ≡ n - 1). rw same last_is)
    (λ (other : k ≢ n - 1).
    let below : index_of here < index_of last =
    by_node-index here last (here_node ∙ sym last_node) (ascends k (n - 1) d (omega (arith, h, other)) (omega (arith, h, within))) in
    let top : index_of last ≤ entry since last.node = is_news-below since last last_is in
    let entries : entry since last.node ≡ entry since here.node = ap (entry since) (last_node ∙ sym here_node) in
    is_news-known since here (omega (arith, below, top, entries)))
    (cases_eq k (n - 1))

-- where the search for the first that the time doesn't know ends
pub news_from : (node : ℕ) (since : List ℕ) (xs : List IntervalRecord) (n : ℕ) → n ≤ length xs
    → All (λ i. i.node ≡ node) xs → AllPairs (λ a b. IsTrue (by_node a b)) xs
    → ((d : IntervalRecord) → 0 < n → is_news since (get_or xs (n - 1) d) ≡ false)
    → ((k : ℕ) (d : IntervalRecord) → n ≤ k → k < length xs → is_news since (get_or xs k d) ≡ true)
    → filter (is_news since) xs ≡ drop n xs
news_from node since xs n within own ascends known news =
    filter_end (is_news since) xs n within (known_before node since xs n within own ascends known) news

pub known_at : (since : List ℕ) (xs : List IntervalRecord) (k : ℕ) (x : IntervalRecord) → k < length xs → x ≡ get_or xs k x
    → is_news since x ≡ false → (d : IntervalRecord) → is_news since (get_or xs k d) ≡ false
known_at since xs k x within x_is known d = rw (get_or_default xs k d x within, ← x_is) known

-- ---- the intervals of all, one node's after another's

all_pairs-append : {X : Type 0} (R : X → X → Type 0) (xs ys : List X) → AllPairs R xs → AllPairs R ys
    → ((i j : ℕ) (d : X) → i < length xs → j < length ys → R (get_or xs i d) (get_or ys j d)) → AllPairs R (xs ++ ys)
all_pairs-append R [] ys first second across = second
all_pairs-append R (x ∷ xs) ys first second across =
    AllPairs-cons R x (xs ++ ys)
    (All-append (R x) xs ys (λ k d h. first 0 (suc k) d (omega arith) (omega (arith, h)))
    (λ k d h. across 0 k d (omega arith) h))
    (all_pairs-append R xs ys (λ i j d h m. first (suc i) (suc j) d (omega (arith, h)) (omega (arith, m))) second
    (λ i j d h m. across (suc i) j d (omega (arith, h)) m))

pub ascending_more : (node : ℕ) (xs ys : List IntervalRecord)
    → AllPairs (λ a b. IsTrue (by_node a b)) xs → All (λ i. i.node < node) xs
    → AllPairs (λ a b. IsTrue (by_node a b)) ys → All (λ i. i.node ≡ node) ys
    → AllPairs (λ a b. IsTrue (by_node a b)) (xs ++ ys)
ascending_more node xs ys first below second own =
    all_pairs-append (λ a b. IsTrue (by_node a b)) xs ys first second
    (λ i j d h m.
    let low : (get_or xs i d).node < node = below i d h in
    let high : (get_or ys j d).node ≡ node = own j d m in
    by_node-later (get_or xs i d) (get_or ys j d) (omega (arith, low, high)))

pub below_more : (node : ℕ) (xs ys : List IntervalRecord)
    → All (λ i. i.node < node) xs → All (λ i. i.node ≡ node) ys → All (λ i. i.node < node + 1) (xs ++ ys)
below_more node xs ys below own =
    All-append (λ (i : IntervalRecord). i.node < node + 1) xs ys
    (λ k d h. let low : (get_or xs k d).node < node = below k d h in omega (arith, low))
    (λ k d h. let high : (get_or ys k d).node ≡ node = own k d h in omega (arith, high))
