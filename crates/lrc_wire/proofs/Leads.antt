-- Taking runs from the front of changes, one after the other, as a loop does.
use Rattle.std.proofs.Common.{◌≡◌, ◌∙◌, ℕ, zero, suc, ◌+◌, ◌-◌, ◌<◌, ◌≤◌, true, false, eqb, List, [], ◌∷◌, ◌++◌, length}
use Rattle.std.proofs.Common.{map, get_or, take, drop, Some, refl, sym, ap, arith, append_assoc, inl, inr}
use Rattle.std.specs.List.{flat_map}
use Rattle.std.proofs.Math.Seq.{drop-cons}
use Rattle.std.proofs.lemmas.Bool.Decides.{eqb_tells}
use Rattle.std.proofs.lemmas.List.{take_more, length-drop, get_or-drop, map-append, length-map, length-take-le}
use Rattle.std.specs.Prelude.{slice_get}
use Rattle.std.specs.Int.{w64}
use Rattle.std.proofs.lemmas.List.Concat.{flat_map-cons}
use Rattle.std.proofs.lemmas.Option.{get_or_from_slice_get, slice_get_within}
use Rattle.lrc_page.specs.declared.changes.Change.{Change}
use Rattle.lrc_wire.specs.Runs.{Run, changes_in_run, runs_of, lead, first_run}
use Rattle.lrc_wire.specs.Spelling.{byte, numbers, run}

-- ---- how many lead

lead_goes_on : (c d : Change) (cs : List Change) → eqb d.offset (c.offset + 1) ≡ true → lead (c ∷ d ∷ cs) ≡ suc (lead (d ∷ cs))
lead_goes_on c d cs e = rw e refl

lead_ends : (c d : Change) (cs : List Change) → eqb d.offset (c.offset + 1) ≡ false → lead (c ∷ d ∷ cs) ≡ 1
lead_ends c d cs e = rw e refl

two_left : (cs : List Change) (i : ℕ) (d : Change) → i + 1 < length cs → drop i cs ≡ get_or cs i d ∷ get_or cs (i + 1) d ∷ drop (i + 2) cs
two_left cs i d within =
    let one : suc i ≡ i + 1 = omega arith in
    let two : suc (i + 1) ≡ i + 2 = omega arith in
    drop-cons cs i d (omega arith)
    ∙ ap (λ (xs : List Change). get_or cs i d ∷ xs) (ap (λ (k : ℕ). drop k cs) one ∙ drop-cons cs (i + 1) d within
    ∙ ap (λ (k : ℕ). get_or cs (i + 1) d ∷ drop k cs) two)

one_left : (cs : List Change) (i : ℕ) (d : Change) → i + 1 < length cs → drop (i + 1) cs ≡ get_or cs (i + 1) d ∷ drop (i + 2) cs
one_left cs i d within =
    let two : suc (i + 1) ≡ i + 2 = omega arith in
    drop-cons cs (i + 1) d within ∙ ap (λ (k : ℕ). get_or cs (i + 1) d ∷ drop k cs) two

pub lead_more : (cs : List Change) (i : ℕ) (d : Change) → i + 1 < length cs → eqb (get_or cs (i + 1) d).offset ((get_or cs i d).offset + 1) ≡ true
    → lead (drop i cs) ≡ suc (lead (drop (i + 1) cs))
lead_more cs i d within next =
    ap lead (two_left cs i d within) ∙ lead_goes_on (get_or cs i d) (get_or cs (i + 1) d) (drop (i + 2) cs) next
    ∙ ap (λ (xs : List Change). suc (lead xs)) (sym (one_left cs i d within))

pub lead_over : (cs : List Change) (i : ℕ) (d : Change) → i + 1 < length cs → eqb (get_or cs (i + 1) d).offset ((get_or cs i d).offset + 1) ≡ false
    → lead (drop i cs) ≡ 1
lead_over cs i d within next =
    ap lead (two_left cs i d within) ∙ lead_ends (get_or cs i d) (get_or cs (i + 1) d) (drop (i + 2) cs) next

-- the same of changes that are there
pub lead_more_at : (cs : List Change) (i j : ℕ) (a b : Change) → j ≡ i + 1 → slice_get cs i ≡ Some a → slice_get cs j ≡ Some b
    → eqb b.offset (a.offset + 1) ≡ true → lead (drop i cs) ≡ suc (lead (drop j cs))
lead_more_at cs i j a b next here there e =
    let within : i + 1 < length cs = omega (arith, slice_get_within cs j b there) in
    let ea : get_or cs i a ≡ a = get_or_from_slice_get cs i a a here in
    let eb : get_or cs (i + 1) a ≡ b = ap (λ (k : ℕ). get_or cs k a) (sym next) ∙ get_or_from_slice_get cs j b a there in
    lead_more cs i a within (rw (ea, eb) e) ∙ ap (λ (k : ℕ). suc (lead (drop k cs))) (sym next)

pub lead_over_at : (cs : List Change) (i j : ℕ) (a b : Change) → j ≡ i + 1 → slice_get cs i ≡ Some a → slice_get cs j ≡ Some b
    → eqb b.offset (a.offset + 1) ≡ false → lead (drop i cs) ≡ 1
lead_over_at cs i j a b next here there e =
    let within : i + 1 < length cs = omega (arith, slice_get_within cs j b there) in
    let ea : get_or cs i a ≡ a = get_or_from_slice_get cs i a a here in
    let eb : get_or cs (i + 1) a ≡ b = ap (λ (k : ℕ). get_or cs k a) (sym next) ∙ get_or_from_slice_get cs j b a there in
    lead_over cs i a within (rw (ea, eb) e)

drop_all : (n : ℕ) (cs : List Change) → length cs ≤ n → drop n cs ≡ []
drop_all zero [] le = refl
drop_all zero (c ∷ cs) le = absurd (omega arith)
drop_all (suc n) [] le = refl
drop_all (suc n) (c ∷ cs) le = drop_all n cs (omega arith)

pub lead_last : (cs : List Change) (i : ℕ) → i + 1 ≡ length cs → lead (drop i cs) ≡ 1
lead_last [] i last = absurd (omega arith)
lead_last (c ∷ cs) i last =
    ap lead (drop-cons (c ∷ cs) i c (omega arith) ∙ ap (λ (xs : List Change). get_or (c ∷ cs) i c ∷ xs) (drop_all (suc i) (c ∷ cs) (omega arith)))

-- one more value of those from `start` on
pub values_more : (cs : List Change) (start place : ℕ) (c : Change) → start ≤ place → slice_get cs place ≡ Some c
    → map (λ x. x.value) (take (place + 1 - start) (drop start cs)) ≡ map (λ x. x.value) (take (place - start) (drop start cs)) ++ c.value ∷ []
values_more cs start place c le here =
    let within = slice_get_within cs place c here in
    let inner : place - start < length (drop start cs) = omega (arith, length-drop start cs) in
    let count : place + 1 - start ≡ place - start + 1 = omega arith in
    let there : start + (place - start) ≡ place = omega arith in
    let at : get_or (drop start cs) (place - start) c ≡ c = get_or-drop start cs (place - start) c ∙ ap (λ (k : ℕ). get_or cs k c) there
    ∙ get_or_from_slice_get cs place c c here in
    ap (λ (k : ℕ). map (λ x. x.value) (take k (drop start cs))) count
    ∙ ap (map (λ x. x.value)) (take_more (drop start cs) (place - start) c inner ∙ ap (λ (x : Change). take (place - start) (drop start cs) ++ x ∷ []) at)
    ∙ map-append (λ x. x.value) (take (place - start) (drop start cs)) (c ∷ [])

-- ---- the run at the front

front_is : (c : Change) (cs : List Change) → runs_of (c ∷ cs) ≡ first_run (c ∷ cs) ∷ runs_of (drop (lead (c ∷ cs)) (c ∷ cs))
front_is c [] = refl
front_is c (d ∷ cs) =
    elim (eqb_tells d.offset (c.offset + 1)) [
      | inl p ↦ rw (front_is d cs, p.0) refl
      | inr q ↦ rw (front_is d cs, q.0) (ap (λ (rs : List Run). record { first = c.offset; values = c.value ∷ [] } ∷ rs) (sym (front_is d cs)))
    ]

pub run_at : (cs : List Change) (start : ℕ) → start < length cs
    → runs_of (drop start cs) ≡ first_run (drop start cs) ∷ runs_of (drop (start + lead (drop start cs)) cs)
run_at [] start within = absurd (omega arith)
run_at (c ∷ cs) zero within =
    let same : lead (c ∷ cs) ≡ 0 + lead (c ∷ cs) = omega arith in
    front_is c cs ∙ ap (λ (k : ℕ). first_run (c ∷ cs) ∷ runs_of (drop k (c ∷ cs))) same
run_at (c ∷ cs) (suc start) within =
    let same : suc (start + lead (drop start cs)) ≡ suc start + lead (drop start cs) = omega arith in
    run_at cs start (omega arith) ∙ ap (λ (k : ℕ). first_run (drop start cs) ∷ runs_of (drop k (c ∷ cs))) same

-- one more run was written
pub run_written : (cs : List Change) (start : ℕ) (out : List ℕ) → start < length cs
    → (out ++ run (first_run (drop start cs))) ++ flat_map run (runs_of (drop (start + lead (drop start cs)) cs)) ≡ out
    ++ flat_map run (runs_of (drop start cs))
run_written cs start out within =
    let r = first_run (drop start cs) in
    let rs = runs_of (drop (start + lead (drop start cs)) cs) in
    append_assoc out (run r) (flat_map run rs) ∙ ap (λ (t : List ℕ). out ++ t) (sym (ap (flat_map run) (run_at cs start within) ∙ flat_map-cons run r rs))

-- the bytes of the run at the front
first_is : (cs : List Change) (c : Change) → get_or cs 0 c ≡ c → 1 ≤ length cs
    → first_run cs ≡ record { first = c.offset; values = map (λ x. x.value) (take (lead cs) cs) }
first_is [] c e some = absurd (omega arith)
first_is (d ∷ cs) c e some = ap (λ (x : Change). record { first = x.offset; values = map (λ y. y.value) (take (lead (d ∷ cs)) (d ∷ cs)) }) e

pub run_text : (cs : List Change) (start end : ℕ) (c : Change) → end ≡ start + lead (drop start cs) → end ≤ length cs → slice_get cs start ≡ Some c
    → run (first_run (drop start cs)) ≡ c.offset ∷ (end - start - 1) ∷ numbers w64 (map (λ x. x.value) (take (end - start) (drop start cs)))
unfolding run byte
run_text cs start end c exact within here =
    let inside = slice_get_within cs start c here in
    let long : length (drop start cs) ≡ length cs - start = length-drop start cs in
    let place : start + 0 ≡ start = omega arith in
    let front : get_or (drop start cs) 0 c ≡ c = get_or-drop start cs 0 c ∙ ap (λ (k : ℕ). get_or cs k c) place ∙ get_or_from_slice_get cs start c c here in
    let is = first_is (drop start cs) c front (omega (arith, long)) in
    let count : lead (drop start cs) ≡ end - start = omega (arith, exact) in
    let few : length (map (λ (x : Change). x.value) (take (end - start) (drop start cs))) ≡ end - start =
    length-map (take (end - start) (drop start cs)) (λ (x : Change). x.value) ∙ length-take-le (end - start) (drop start cs) (omega (arith, long)) in
    rw (is, count, few) refl

-- one more change of a run
pub changes_of-push : (first : ℕ) (values : List ℕ) (place value : ℕ) → place ≡ first + length values
    → changes_in_run (record { first = first; values = values })
    ++ record { offset = place; value = value } ∷ [] ≡ changes_in_run (record { first = first; values = values ++ value ∷ [] })
changes_of-push first [] place value e =
    let same : place ≡ first = omega (arith, e) in
    ap (λ (n : ℕ). record { offset = n; value = value } ∷ []) same
changes_of-push first (v ∷ values) place value e =
    ap (λ (xs : List Change). record { offset = first; value = v } ∷ xs) (changes_of-push (first + 1) values place value (omega (arith, e)))
