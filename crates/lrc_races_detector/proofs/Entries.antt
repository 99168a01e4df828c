-- Entries, of which one may stand apart.
use Rattle.std.proofs.Common.{◌≡◌, ◌≢◌, ◌<◌, ◌≤◌, ◌+◌, ℕ, zero, suc, List, [], ◌∷◌, ◌++◌, length, get_or, max, inl, inr, refl, sym, subst, ◌∙◌, ap, ap₂, arith}
use Rattle.std.proofs.lemmas.Bool.{cases_eq}
use Rattle.std.proofs.lemmas.List.{length_push}
use Rattle.std.proofs.lemmas.Option.{slice_get-get_or}
use Rattle.std.specs.Prelude.{Option, None, Some, slice_get, slice_index}
use Rattle.lrc_races_detector.specs.declared.chunks.Chunk.{Chunk}
use Rattle.lrc_races_detector.specs.declared.vectors.Entry.{Entry}
use Rattle.lrc_races_detector.specs.declared.vectors.Vector.{Vector}
use Rattle.lrc_races_detector.specs.Chunks.{IsChunkRaised, IsLowered, chunks_of, values}
use Rattle.lrc_races_detector.specs.Vectors.{IsPut, IsRaised, apart_at, greatest, joined, raised_at, rest, with_apart, with_first}
use Rattle.lrc_races_detector.proofs.Pushing.{slice_get-push_new, slice_get-push_old}

raised_here : (thread value : ℕ) (xs : List ℕ) → slice_index (raised_at thread value xs) thread ≡ max (slice_index xs thread) value
raised_here zero value [] = omega arith
raised_here zero value (x ∷ xs) = refl
raised_here (suc thread) value [] = raised_here thread value []
raised_here (suc thread) value (x ∷ xs) = raised_here thread value xs

raised_other : (thread value : ℕ) (xs : List ℕ) (other : ℕ) → other ≢ thread → slice_index (raised_at thread value xs) other ≡ slice_index xs other
raised_other zero value [] zero ne = absurd (ne refl)
raised_other zero value [] (suc p) ne = refl
raised_other zero value (x ∷ xs) zero ne = absurd (ne refl)
raised_other zero value (x ∷ xs) (suc p) ne = refl
raised_other (suc thread) value [] zero ne = refl
raised_other (suc thread) value [] (suc p) ne = raised_other thread value [] p (λ e. ne (ap suc e))
raised_other (suc thread) value (x ∷ xs) zero ne = refl
raised_other (suc thread) value (x ∷ xs) (suc p) ne = raised_other thread value xs p (λ e. ne (ap suc e))

apart_same : (e : Entry) (p : ℕ) → e.thread ≡ p → apart_at (Some e) p ≡ e.value
apart_same e p same = grind (arith, same)

apart_other : (e : Entry) (p : ℕ) → e.thread ≢ p → apart_at (Some e) p ≡ 0
apart_other e p other = grind (arith, other)

-- the entry of a thread
pub entry_at : (o : Option Entry) (xs : List ℕ) (p : ℕ) → slice_index (with_apart o xs) p ≡ max (slice_index xs p) (apart_at o p)
entry_at None xs p = omega arith
entry_at (Some e) xs p =
    elim (cases_eq e.thread p) [
      | inl same ↦
          subst (λ t. slice_index (raised_at e.thread e.value xs) t ≡ max (slice_index xs t) e.value) same (raised_here e.thread e.value xs)
          ∙ ap (λ v. max (slice_index xs p) v) (sym (apart_same e p same))
      | inr other ↦
          let none = apart_other e p other in
          let kept = raised_other e.thread e.value xs p (λ same. other (sym same)) in
          omega (arith, none, kept)
    ]

-- ---- one entry is raised

-- where none stood apart, it does
pub raised_first : (o : Option Entry) (xs : List ℕ) (e : Entry) → o ≡ None → IsRaised (with_apart o xs) (with_apart (Some e) xs) e.thread e.value
raised_first o xs e is = subst (λ (a : Option Entry). IsRaised (with_apart a xs) (with_apart (Some e) xs) e.thread e.value) (sym is) (record {
  here = raised_here e.thread e.value xs;
  others = λ p ne. raised_other e.thread e.value xs p ne;
})

-- where it stood apart, it still does
pub raised_again : (o : Option Entry) (xs : List ℕ) (a e : Entry) (value : ℕ) → o ≡ Some a → a.thread ≡ e.thread → value ≡ max a.value e.value
    → IsRaised (with_apart o xs) (with_apart (Some (record { thread = a.thread; value = value })) xs) e.thread e.value
raised_again o xs a e value is same greater =
    let b : Entry = record { thread = a.thread; value = value } in
    subst (λ (x : Option Entry). IsRaised (with_apart x xs) (with_apart (Some b) xs) e.thread e.value) (sym is) (record {
      here =
          let was = entry_at (Some a) xs e.thread in
          let now = entry_at (Some b) xs e.thread in
          let one = apart_same a e.thread same in
          let two = apart_same b e.thread same in
          omega (arith, was, now, one, two, greater);
      others = λ p ne.
          let was = raised_other a.thread a.value xs p (λ at. ne (at ∙ same)) in
          let now = raised_other a.thread value xs p (λ at. ne (at ∙ same)) in
          now ∙ sym was;
    })

-- it may stand among the others
pub raised_among : (o : Option Entry) (xs ys : List ℕ) (thread value : ℕ) → IsRaised xs ys thread value
    → IsRaised (with_apart o xs) (with_apart o ys) thread value
raised_among o xs ys thread value r = record {
  here =
      let was = entry_at o xs thread in
      let now = entry_at o ys thread in
      let at = r.here in
      omega (arith, was, now, at);
  others = λ p ne.
      let was = entry_at o xs p in
      let now = entry_at o ys p in
      let at = r.others p ne in
      omega (arith, was, now, at);
}

-- ---- all are

pub joined_none : (o q : Option Entry) (xs ms ys : List ℕ) → q ≡ None → ((p : ℕ) → slice_index ys p ≡ max (slice_index xs p) (slice_index ms p))
    → (p : ℕ) → slice_index (with_apart o ys) p ≡ max (slice_index (with_apart o xs) p) (slice_index (with_apart q ms) p)
joined_none o q xs ms ys is all p =
    let more : slice_index (with_apart q ms) p ≡ slice_index ms p = ap (λ (a : Option Entry). slice_index (with_apart a ms) p) is in
    let was = entry_at o xs p in
    let now = entry_at o ys p in
    let at = all p in
    omega (arith, more, was, now, at)

pub joined_some : (o q : Option Entry) (e : Entry) (xs ms ys new : List ℕ) → q ≡ Some e
    → ((p : ℕ) → slice_index ys p ≡ max (slice_index xs p) (slice_index ms p)) → IsRaised (with_apart o ys) new e.thread e.value
    → (p : ℕ) → slice_index new p ≡ max (slice_index (with_apart o xs) p) (slice_index (with_apart q ms) p)
joined_some o q e xs ms ys new is all r p =
    let whole : slice_index (with_apart q ms) p ≡ slice_index (with_apart (Some e) ms) p = ap (λ (a : Option Entry). slice_index (with_apart a ms) p) is in
    let more = entry_at (Some e) ms p in
    let was = entry_at o xs p in
    let mid = entry_at o ys p in
    let at = all p in
    elim (cases_eq e.thread p) [
      | inl same ↦
          let own = apart_same e p same in
          let here : slice_index new p ≡ max (slice_index (with_apart o ys) p) e.value =
          subst (λ t. slice_index new t ≡ max (slice_index (with_apart o ys) t) e.value) same r.here in
          omega (arith, whole, more, was, mid, at, own, here)
      | inr other ↦
          let none = apart_other e p other in
          let kept = r.others p (λ at_it. other (sym at_it)) in
          omega (arith, whole, more, was, mid, at, none, kept)
    ]

-- ---- one is set

pub settled_own : (o : Option Entry) (e : Entry) (xs : List ℕ) (thread : ℕ) → o ≡ Some e → e.thread ≡ thread
    → (other : ℕ) → other ≢ thread → slice_index xs other ≡ slice_index (with_apart o xs) other
settled_own o e xs thread is same other ne =
    subst (λ (a : Option Entry). slice_index xs other ≡ slice_index (with_apart a xs) other) (sym is)
    (sym (raised_other e.thread e.value xs other (λ at. ne (at ∙ same))))

pub laid_among : (o : Option Entry) (e : Entry) (xs ys : List ℕ) → o ≡ Some e → IsRaised xs ys e.thread e.value
    → (other : ℕ) → slice_index ys other ≡ slice_index (with_apart o xs) other
laid_among o e xs ys is r other =
    subst (λ (a : Option Entry). slice_index ys other ≡ slice_index (with_apart a xs) other) (sym is) (elim (cases_eq other e.thread) [
      | inl same ↦
          subst (λ t. slice_index ys t ≡ slice_index (raised_at e.thread e.value xs) t) (sym same) (r.here ∙ sym (raised_here e.thread e.value xs))
      | inr apart ↦ r.others other apart ∙ sym (raised_other e.thread e.value xs other apart)
    ])

pub laid_alike : (o : Option Entry) (e : Entry) (xs zs ys : List ℕ) → o ≡ Some e → ((p : ℕ) → slice_index zs p ≡ slice_index xs p)
    → IsRaised zs ys e.thread e.value → (other : ℕ) → slice_index ys other ≡ slice_index (with_apart o xs) other
laid_alike o e xs zs ys is same r = laid_among o e xs ys is (record {
  here = r.here ∙ ap (λ x. max x e.value) (same e.thread);
  others = λ p ne. r.others p ne ∙ same p;
})

pub settled_other : (o : Option Entry) (e : Entry) (xs ys : List ℕ) (thread : ℕ) → o ≡ Some e → IsRaised xs ys e.thread e.value
    → (other : ℕ) → other ≢ thread → slice_index ys other ≡ slice_index (with_apart o xs) other
settled_other o e xs ys thread is r other ne = laid_among o e xs ys is r other

pub settled_none : (o : Option Entry) (xs : List ℕ) → o ≡ None → (other : ℕ) → slice_index xs other ≡ slice_index (with_apart o xs) other
settled_none o xs is other = sym (ap (λ (a : Option Entry). slice_index (with_apart a xs) other) is)

pub put_apart : (thread value : ℕ) (before xs ys : List ℕ) → ((other : ℕ) → other ≢ thread → slice_index xs other ≡ slice_index before other)
    → IsLowered xs ys thread value → IsPut before (raised_at thread value ys) thread value
put_apart thread value before xs ys settled lowered = record {
  here =
      let at = raised_here thread value ys in
      let most = lowered.here in
      omega (arith, at, most);
  others = λ p ne. raised_other thread value ys p ne ∙ lowered.others p ne ∙ settled p ne;
}

-- ---- the parts of a vector

joined_at : (xs ys : List ℕ) (p : ℕ) → slice_index (joined xs ys) p ≡ max (slice_index xs p) (slice_index ys p)
joined_at [] ys p = omega arith
joined_at (x ∷ xs) [] p = omega arith
joined_at (x ∷ xs) (y ∷ ys) zero = refl
joined_at (x ∷ xs) (y ∷ ys) (suc p) = joined_at xs ys p

first_at : (recent : List Entry) (xs : List ℕ) (count p : ℕ)
    → slice_index (with_first recent xs count) p ≡ max (slice_index xs p) (greatest recent p count)
first_at recent xs zero p = omega arith
first_at recent xs (suc count) p =
    let before = first_at recent xs count p in
    let one = entry_at (slice_get recent count) (with_first recent xs count) p in
    omega (arith, before, one)

-- what the parts say of a thread, but for the entry that stands apart
pub rest_at : (v : Vector) (p : ℕ) → slice_index (rest v) p
    ≡ max (max (slice_index (values v.others.items) p) (slice_index (values (chunks_of v.base)) p)) (greatest v.recent.items p (length v.recent.items))
rest_at v p =
    let both = joined_at (values v.others.items) (values (chunks_of v.base)) p in
    let all = first_at v.recent.items (joined (values v.others.items) (values (chunks_of v.base))) (length v.recent.items) p in
    omega (arith, both, all)

-- one recent entry more
greatest_old : (recent : List Entry) (e : Entry) (p count : ℕ) → count ≤ length recent → greatest (recent ++ e ∷ []) p count ≡ greatest recent p count
greatest_old recent e p zero le = refl
greatest_old recent e p (suc count) le =
    ap₂ (λ o most. max (apart_at o p) most) (slice_get-push_old recent e count (omega (arith, le))) (greatest_old recent e p count (omega (arith, le)))

greatest_push : (recent : List Entry) (e : Entry) (p : ℕ)
    → greatest (recent ++ e ∷ []) p (length (recent ++ e ∷ [])) ≡ max (apart_at (Some e) p) (greatest recent p (length recent))
greatest_push recent e p =
    let more = length_push recent e in
    let long : length (recent ++ e ∷ []) ≡ suc (length recent) = omega (arith, more) in
    ap (λ count. greatest (recent ++ e ∷ []) p count) long
    ∙ ap₂ (λ o most. max (apart_at o p) most) (slice_get-push_new recent e) (greatest_old recent e p (length recent) (omega arith))

-- an entry is raised, if of each thread the greater is there
raised_by : (e : Entry) (xs ys : List ℕ) → ((p : ℕ) → slice_index ys p ≡ max (slice_index xs p) (apart_at (Some e) p)) → IsRaised xs ys e.thread e.value
raised_by e xs ys all = record {
  here = let at = all e.thread in let own = apart_same e e.thread refl in omega (arith, at, own);
  others = λ p ne. let at = all p in let none = apart_other e p (λ same. ne (sym same)) in omega (arith, at, none);
}

-- and so it is
pub raised_max : (e : Entry) (xs ys : List ℕ) → IsRaised xs ys e.thread e.value → (p : ℕ) → slice_index ys p ≡ max (slice_index xs p) (apart_at (Some e) p)
raised_max e xs ys r p =
    elim (cases_eq e.thread p) [
      | inl same ↦
          let own = apart_same e p same in
          let here : slice_index ys p ≡ max (slice_index xs p) e.value = subst (λ t. slice_index ys t ≡ max (slice_index xs t) e.value) same r.here in
          omega (arith, own, here)
      | inr other ↦
          let none = apart_other e p other in
          let kept = r.others p (λ same. other (sym same)) in
          omega (arith, none, kept)
    ]

pub noted_rest : (v w : Vector) (e : Entry) (old : List ℕ) → ((p : ℕ) → slice_index (rest v) p ≡ slice_index old p)
    → w.recent.items ≡ v.recent.items ++ e ∷ [] → w.others ≡ v.others → w.base ≡ v.base → IsRaised old (rest w) e.thread e.value
noted_rest v w e old same recent others base = raised_by e old (rest w) (λ p.
    let was = rest_at v p in
    let now = rest_at w p in
    let first = same p in
    let own = ap (λ o. slice_index (values o.items) p) others in
    let shared = ap (λ o. slice_index (values (chunks_of o)) p) base in
    let most = ap (λ r. greatest r p (length r)) recent ∙ greatest_push v.recent.items e p in
    omega (arith, was, now, first, own, shared, most))

pub greatest_next : (recent : List Entry) (p place : ℕ) (d : Entry) → place < length recent
    → greatest recent p (place + 1) ≡ max (apart_at (Some (get_or recent place d)) p) (greatest recent p place)
greatest_next recent p place d lt =
    let next : place + 1 ≡ suc place = omega arith in
    ap (λ count. greatest recent p count) next ∙ ap (λ o. max (apart_at o p) (greatest recent p place)) (slice_get-get_or recent place d lt)

pub raised_next : (recent : List Entry) (p place : ℕ) (d : Entry) (first xs ys : List ℕ) → place < length recent
    → slice_index xs p ≡ max (slice_index first p) (greatest recent p place)
    → IsRaised xs ys (get_or recent place d).thread (get_or recent place d).value
    → slice_index ys p ≡ max (slice_index first p) (greatest recent p (place + 1))
raised_next recent p place d first xs ys lt before r =
    let raised = raised_max (get_or recent place d) xs ys r p in
    let next = greatest_next recent p place d lt in
    omega (arith, before, raised, next)

-- where none are recent, and all are the vector's own, or none are
rest_settled : (w : Vector) (own base : List Chunk) → w.others.items ≡ own → chunks_of w.base ≡ base
    → w.recent.items ≡ []
    → (p : ℕ) → slice_index (rest w) p ≡ max (slice_index (values own) p) (slice_index (values base) p)
rest_settled w own base others shared none p =
    let all = rest_at w p in
    let one = ap (λ chunks. slice_index (values chunks) p) others in
    let two = ap (λ chunks. slice_index (values chunks) p) shared in
    let three : greatest w.recent.items p (length w.recent.items) ≡ 0 = ap (λ recent. greatest recent p (length recent)) none in
    omega (arith, all, one, two, three)

pub rest_own : (w : Vector) (own : List Chunk) → w.others.items ≡ own → w.base ≡ None → w.recent.items ≡ []
    → (p : ℕ) → slice_index (rest w) p ≡ slice_index (values own) p
rest_own w own others shared none p =
    let all = rest_settled w own [] others (ap (λ base. chunks_of base) shared) none p in
    let nothing : slice_index (values []) p ≡ 0 = refl in
    omega (arith, all, nothing)

pub rest_shared : (w : Vector) (base : List Chunk) → w.others.items ≡ [] → chunks_of w.base ≡ base → w.recent.items ≡ []
    → (p : ℕ) → slice_index (rest w) p ≡ slice_index (values base) p
rest_shared w base others shared none p =
    let all = rest_settled w [] base others shared none p in
    let nothing : slice_index (values []) p ≡ 0 = refl in
    omega (arith, all, nothing)

pub lowered_alike : (xs zs ws ys : List ℕ) (thread most : ℕ) → ((p : ℕ) → slice_index zs p ≡ slice_index xs p) → IsLowered zs ws thread most
    → ((p : ℕ) → slice_index ys p ≡ slice_index ws p) → IsLowered xs ys thread most
lowered_alike xs zs ws ys thread most was lowered now = record {
  here = let least = lowered.here in let same = now thread in omega (arith, least, same);
  others = λ p ne. now p ∙ lowered.others p ne ∙ was p;
}

pub chunk_raised_alike : (xs zs ws ys : List ℕ) (chunk value : ℕ) → ((p : ℕ) → slice_index zs p ≡ slice_index xs p)
    → IsChunkRaised zs ws chunk value
    → ((p : ℕ) → slice_index ys p ≡ slice_index ws p) → IsChunkRaised xs ys chunk value
chunk_raised_alike xs zs ws ys chunk value was raised now = record {
  here = λ p same. now p ∙ raised.here p same ∙ ap (λ x. max x value) (was p);
  others = λ p apart. now p ∙ raised.others p apart ∙ was p;
}

pub chunk_raised_among : (o : Option Entry) (xs ys : List ℕ) (chunk value : ℕ) → IsChunkRaised xs ys chunk value
    → IsChunkRaised (with_apart o xs) (with_apart o ys) chunk value
chunk_raised_among o xs ys chunk value raised = record {
  here = λ p same.
      let was = entry_at o xs p in
      let now = entry_at o ys p in
      let at = raised.here p same in
      omega (arith, was, now, at);
  others = λ p apart.
      let was = entry_at o xs p in
      let now = entry_at o ys p in
      let at = raised.others p apart in
      omega (arith, was, now, at);
}

-- one is raised in the vector's own chunks
pub raised_rest : (v w : Vector) (e : Entry) → IsRaised (values v.others.items) (values w.others.items) e.thread e.value → w.recent ≡ v.recent → w.base ≡ v.base
    → IsRaised (rest v) (rest w) e.thread e.value
raised_rest v w e r recent base = raised_by e (rest v) (rest w) (λ p.
    let was = rest_at v p in
    let now = rest_at w p in
    let own = raised_max e (values v.others.items) (values w.others.items) r p in
    let shared = ap (λ o. slice_index (values (chunks_of o)) p) base in
    let most = ap (λ r. greatest r.items p (length r.items)) recent in
    omega (arith, was, now, own, shared, most))
