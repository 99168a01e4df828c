-- The circles that are told are the circles of waiting.
use Rattle.std.proofs.Common.{◌≡◌, ◌∙◌, ℕ, zero, suc, ◌+◌, ◌<◌, ◌≤◌, ◌↔◌, ◌⊎◌, inl, inr, Bool, true, false, All, Contains, List, [], ◌∷◌, ◌++◌, Option, Some, None, length, get_or, refl, sym, subst, ap, arith, append-nil}
use Rattle.std.specs.Prelude.{◌==◌, if◌then◌else◌, nat_eq, nat_lt, option_map, slice_index_or}
use Rattle.std.specs.Cmp.{nat_eq_equiv}
use Rattle.std.specs.List.{IsDistinct, range_with_len}
use Rattle.std.proofs.lemmas.Bool.{cases_lt, eqb-true, eqb-false, ltb-false, eq-eqb, ne_eqb, le-ltb}
use Rattle.std.proofs.lemmas.List.{get_or_past}
use Rattle.std.proofs.lemmas.List.Elements.{All-cons, All-contains, All-append, All-from_recursion, All-head, All-nil, All-tail, All-weaker, Contains-append_right, Contains-get_or, recursion_from_All}
use Rattle.std.proofs.lemmas.List.FromFn.{get_or-range_with_len, length-range_with_len}
use Rattle.std.proofs.lemmas.Map.Keys.{IsDistinct-cons, IsDistinct-from_apart, IsDistinct-head, IsDistinct-tail}
use Rattle.std.proofs.lemmas.Map.Made.{length-le_from_is_member}
use Rattle.std.proofs.lemmas.Map.Views.{Contains-from_any, list_any-from_Contains}
use Rattle.std.proofs.lemmas.Option.{same_Some}
use Rattle.lrc_explain_waits.specs.Circle.{IsCircle, IsCircleFromLowest, IsToldFromLowest, WaitingLeads, straight, over, WaitsFor}
use Rattle.lrc_explain_waits.specs.Circles.{back_by, circle_of, way_back}

-- ---- what is told is a circle

-- waiting leads over higher nodes back to the first
record Found (waits : List (Option ℕ)) (first node : ℕ) (way : List ℕ) : Type 0 where
  leads : WaitingLeads waits node way first
  above : All (λ other. first < other) way

module _ (waits : List (Option ℕ)) (first : ℕ) where
  found_over : (node next : ℕ) (rest way : List ℕ) → WaitsFor waits node next → first < next → next ∷ rest ≡ way
      → Found waits first next rest → Found waits first node way
  found_over node next rest way waiting lower is found =
      subst (Found waits first node) is (record {
        leads = over waiting found.leads;
        above = All-cons (λ other. first < other) next rest lower found.above;
      })

  found_more : (node next : ℕ) (way : List ℕ) (more : Option (List ℕ)) → WaitsFor waits node next → first < next
      → ((rest : List ℕ) → more ≡ Some rest → Found waits first next rest)
      → option_map (λ rest. next ∷ rest) more ≡ Some way → Found waits first node way
  found_more node next way None waiting lower found is = let never : ⊥ = cc in absurd never
  found_more node next way (Some rest) waiting lower found is =
      found_over node next rest way waiting lower (same_Some (next ∷ rest) way is) (found rest refl)

  found_by : (node next : ℕ) (way : List ℕ) (more : Option (List ℕ)) (same lower : Bool) → WaitsFor waits node next
      → (next == first) ≡ same → nat_lt next first ≡ lower
      → ((rest : List ℕ) → more ≡ Some rest → Found waits first next rest)
      → (if same then Some [] else if lower then None else option_map (λ rest. next ∷ rest) more) ≡ Some way
      → Found waits first node way
  found_by node next way more true lower waiting eq lt found is =
      let here : WaitsFor waits node first = waiting ∙ ap Some (eqb-true next first eq) in
      subst (Found waits first node) (same_Some [] way is)
      (record { leads = straight here; above = All-nil (λ other. first < other) })
  found_by node next way more false true waiting eq lt found is = let never : ⊥ = cc in absurd never
  found_by node next way more false false waiting eq lt found is =
      let other : next ≡ first → ⊥ = eqb-false next first eq in
      let above : first ≤ next = ltb-false next first lt in
      let lower : first < next = omega (arith, other) in
      found_more node next way more waiting lower found is

  found_from : (node : ℕ) (way : List ℕ) (on : ℕ → Option (List ℕ)) (next : Option ℕ) → slice_index_or waits node None ≡ next
      → ((at : ℕ) (rest : List ℕ) → on at ≡ Some rest → Found waits first at rest)
      → back_by first on next ≡ Some way → Found waits first node way
  found_from node way on None waiting found is = let never : ⊥ = cc in absurd never
  found_from node way on (Some next) waiting found is =
      found_by node next way (on next) (next == first) (nat_lt next first) waiting refl refl (found next) is

  found : (most node : ℕ) (way : List ℕ) → way_back waits first most node ≡ Some way → Found waits first node way
  found zero node way is = let never : ⊥ = cc in absurd never
  found (suc most) node way is =
      found_from node way (way_back waits first most) (slice_index_or waits node None) refl (found most) is

-- ---- waiting leads one way alone

same_next : (waits : List (Option ℕ)) (node a b : ℕ) → WaitsFor waits node a → WaitsFor waits node b → a ≡ b
same_next waits node a b x y = same_Some a b (sym x ∙ y)

module _ (waits : List (Option ℕ)) (first : ℕ) where
  head_above : (next : ℕ) (way : List ℕ) → All (λ other. first < other) (next ∷ way) → first < next
  head_above next way = All-head (λ other. first < other) next way

  tail_above : (next : ℕ) (way : List ℕ) → All (λ other. first < other) (next ∷ way) → All (λ other. first < other) way
  tail_above next way = All-tail (λ other. first < other) next way

  one_way : {node : ℕ} {way other : List ℕ} → WaitingLeads waits node way first → WaitingLeads waits node other first
      → All (λ n. first < n) way → All (λ n. first < n) other → way ≡ other
  one_way (straight w) (straight v) a b = refl
  one_way {node} (straight w) (over {next = next} {way = way} v leads) a b =
      let same : first ≡ next = same_next waits node first next w v in
      let above : first < next = head_above next way b in
      absurd (omega arith)
  one_way {node} (over {next = next} {way = way} w leads) (straight v) a b =
      let same : first ≡ next = same_next waits node first next v w in
      let above : first < next = head_above next way a in
      absurd (omega arith)
  one_way {node} (over {next = next} {way = way} w leads) (over {next = next'} {way = way'} v leads') a b =
      let same : next' ≡ next = same_next waits node next' next v w in
      let rest : way ≡ way' =
      one_way leads (subst (λ n. WaitingLeads waits n way' first) same leads') (tail_above next way a) (tail_above next' way' b) in
      cc

  -- so a node does not come again on the way behind it
  differs : {at : ℕ} {way : List ℕ} (node : ℕ) (behind : List ℕ) → WaitingLeads waits node behind first → All (λ n. first < n) behind
      → WaitingLeads waits at way first → All (λ n. first < n) way → length way ≤ length behind → All (λ n. nat_eq node n ≡ false) way
  differs node behind leads above (straight w) a long = All-nil (λ n. nat_eq node n ≡ false)
  differs node behind leads above (over {next = next} {way = way} w more) a long =
      let other : node ≡ next → ⊥ = λ same.
      let rest : way ≡ behind =
      one_way more (subst (λ n. WaitingLeads waits n behind first) same leads) (tail_above next way a) above in
      let long' : length way ≡ length behind = ap length rest in
      omega arith in
      All-cons (λ n. nat_eq node n ≡ false) next way (ne_eqb node next other)
      (differs node behind leads above more (tail_above next way a) (omega arith))

  way_once : {node : ℕ} {way : List ℕ} → WaitingLeads waits node way first → All (λ n. first < n) way → IsDistinct nat_eq way
  way_once (straight w) a = IsDistinct-from_apart nat_eq [] (λ i j d earlier within. absurd (omega arith))
  way_once (over {next = next} {way = way} w more) a =
      let rest = tail_above next way a in
      IsDistinct-cons nat_eq next way
      (recursion_from_All (λ n. nat_eq next n ≡ false) way (differs next way more rest more rest (omega arith)))
      (way_once more rest)

  circle_once : {way : List ℕ} → WaitingLeads waits first way first → All (λ n. first < n) way → IsDistinct nat_eq (first ∷ way)
  circle_once {way} leads a =
      IsDistinct-cons nat_eq first way
      (recursion_from_All (λ n. nat_eq first n ≡ false) way
      (All-weaker (λ n. first < n) (λ n. nat_eq first n ≡ false)
      (λ n lower. let other : first ≡ n → ⊥ = λ same. omega arith in ne_eqb first n other) way a))
      (way_once leads a)

-- ---- a circle is told

waits_within : (waits : List (Option ℕ)) (node next : ℕ) → WaitsFor waits node next → node < length waits
waits_within waits node next waiting =
    elim (cases_lt node (length waits)) [
      | inl lt ↦ lt
      | inr le ↦ (let past : slice_index_or waits node None ≡ None = get_or_past waits node None le in let never : ⊥ = cc in absurd never)
    ]

all_within : (waits : List (Option ℕ)) {node to : ℕ} {way : List ℕ} → WaitingLeads waits node way to → All (λ n. n < length waits) (node ∷ way)
all_within waits {node} {to} (straight w) =
    All-cons (λ n. n < length waits) node [] (waits_within waits node to w) (All-nil (λ n. n < length waits))
all_within waits {node} (over {next = next} {way = way} w more) =
    All-cons (λ n. n < length waits) node (next ∷ way) (waits_within waits node next w) (all_within waits more)

-- different numbers below another one are no more than that
few : (n : ℕ) (numbers : List ℕ) → IsDistinct nat_eq numbers → All (λ x. x < n) numbers → length numbers ≤ n
few n numbers once below =
    let range = range_with_len 0 n in
    let long : length range ≡ n = length-range_with_len 0 n in
    subst (λ l. length numbers ≤ l) long
    (length-le_from_is_member nat_eq_equiv numbers range once (λ q member.
    let at : Contains numbers q = Contains-from_any eqb-true q numbers member in
    let small : q < n = All-contains (λ x. x < n) numbers q below at in
    let zero_more : 0 + q ≡ q = omega arith in
    let inside : q < length range = omega (arith, long, small) in
    list_any-from_Contains nat_eq_equiv q range (q, inside, get_or-range_with_len 0 n q q small ∙ zero_more)))

module _ (waits : List (Option ℕ)) (first : ℕ) where
  back_at_once : (on : ℕ → Option (List ℕ)) → back_by first on (Some first) ≡ Some []
  back_at_once on = rw (eq-eqb first first refl) refl

  back_over : (on : ℕ → Option (List ℕ)) (next : ℕ) (rest : List ℕ) → first < next → on next ≡ Some rest
      → back_by first on (Some next) ≡ Some (next ∷ rest)
  back_over on next rest above is =
      let other : next ≡ first → ⊥ = λ same. omega arith in
      let le : first ≤ next = omega arith in
      rw (ne_eqb next first other, le-ltb next first le) (ap (option_map (λ more. next ∷ more)) is)

  told : {node : ℕ} {way : List ℕ} (most : ℕ) → WaitingLeads waits node way first → All (λ n. first < n) way → length way < most
      → way_back waits first most node ≡ Some way
  told zero leads a long = absurd (omega arith)
  told (suc most) (straight w) a long = ap (back_by first (way_back waits first most)) w ∙ back_at_once (way_back waits first most)
  told (suc most) (over {next = next} {way = way} w more) a long =
      let on = way_back waits first most in
      ap (back_by first on) w
      ∙ back_over on next way (head_above waits first next way a) (told most more (tail_above waits first next way a) (omega arith))

  lowest_told : (way : List ℕ) → WaitingLeads waits first way first → All (λ n. first < n) way → circle_of waits first ≡ Some way
  lowest_told way leads a =
      let short : length (first ∷ way) ≤ length waits =
      few (length waits) (first ∷ way) (circle_once waits first leads a) (all_within waits leads) in
      told (length waits) leads a (omega arith)

pub told_exactly : (waits : List (Option ℕ)) (node : ℕ) (others : List ℕ)
    → (circle_of waits node ≡ Some others) ↔ IsCircleFromLowest waits node others
told_exactly waits node others = (
  (λ is.
      let at : Found waits node node others = found waits node (length waits) node others is in
      (record { leads = at.leads; once = circle_once waits node at.leads at.above }, at.above)),
  λ circle. lowest_told waits node others circle.0.leads circle.1,
)

-- ---- so is one that is begun elsewhere

-- a list parted at the lowest of its numbers
record Parted (numbers : List ℕ) : Type 0 where
  before : List ℕ
  lowest : ℕ
  behind : List ℕ
  place : numbers ≡ before ++ lowest ∷ behind
  least : All (λ n. lowest ≤ n) numbers

parted_by : (x y : ℕ) (ys : List ℕ) (rest : Parted (y ∷ ys)) → (x < rest.lowest) ⊎ (rest.lowest ≤ x) → Parted (x ∷ (y ∷ ys))
parted_by x y ys rest (inl lower) = record {
  before = [];
  lowest = x;
  behind = y ∷ ys;
  place = refl;
  least = All-cons (λ n. x ≤ n) x (y ∷ ys) (omega arith)
      (All-weaker (λ n. rest.lowest ≤ n) (λ n. x ≤ n) (λ n le. omega arith) (y ∷ ys) rest.least);
}
parted_by x y ys rest (inr above) = record {
  before = x ∷ rest.before;
  lowest = rest.lowest;
  behind = rest.behind;
  place = ap (λ l. x ∷ l) rest.place;
  least = All-cons (λ n. rest.lowest ≤ n) x (y ∷ ys) above rest.least;
}

parted : (x : ℕ) (xs : List ℕ) → Parted (x ∷ xs)
parted x [] = record {
  before = [];
  lowest = x;
  behind = [];
  place = refl;
  least = All-cons (λ n. x ≤ n) x [] (omega arith) (All-nil (λ n. x ≤ n));
}
parted x (y ∷ ys) = let rest = parted y ys in parted_by x y ys rest (cases_lt x rest.lowest)

-- the others of different numbers are greater than the lowest
greater_behind : (lowest : ℕ) (behind : List ℕ) → All (λ n. nat_eq lowest n ≡ false) behind → All (λ n. lowest ≤ n) behind
    → All (λ n. lowest < n) behind
greater_behind lowest behind other least = λ k d inside.
    let differs : lowest ≡ get_or behind k d → ⊥ = eqb-false lowest (get_or behind k d) (other k d inside) in
    let le : lowest ≤ get_or behind k d = least k d inside in
    omega (arith, differs)

greater : (lowest : ℕ) (before behind : List ℕ) → IsDistinct nat_eq (before ++ lowest ∷ behind) → All (λ n. lowest ≤ n) (before ++ lowest ∷ behind)
    → All (λ n. lowest < n) before × All (λ n. lowest < n) behind
greater lowest [] behind once least = (
  All-nil (λ n. lowest < n),
  greater_behind lowest behind
      (All-from_recursion (λ n. nat_eq lowest n ≡ false) behind (IsDistinct-head nat_eq lowest behind once))
      (All-tail (λ n. lowest ≤ n) lowest behind least),
)
greater lowest (x ∷ xs) behind once least =
    let rest = greater lowest xs behind (IsDistinct-tail nat_eq x (xs ++ lowest ∷ behind) once)
    (All-tail (λ n. lowest ≤ n) x (xs ++ lowest ∷ behind) least) in
    let differ : All (λ n. nat_eq x n ≡ false) (xs ++ lowest ∷ behind) =
    All-from_recursion (λ n. nat_eq x n ≡ false) (xs ++ lowest ∷ behind) (IsDistinct-head nat_eq x (xs ++ lowest ∷ behind) once) in
    let at : Contains (xs ++ lowest ∷ behind) lowest = Contains-append_right xs (lowest ∷ behind) lowest (Contains-get_or (lowest ∷ behind) 0 lowest (omega arith)) in
    let other : x ≡ lowest → ⊥ =
    eqb-false x lowest (All-contains (λ n. nat_eq x n ≡ false) (xs ++ lowest ∷ behind) lowest differ at) in
    let le : lowest ≤ x = All-head (λ n. lowest ≤ n) x (xs ++ lowest ∷ behind) least in
    let lt : lowest < x = omega (arith, other) in
    (All-cons (λ n. lowest < n) x xs lt rest.0, rest.1)

module _ (waits : List (Option ℕ)) where
  first_part : {node to : ℕ} (before : List ℕ) (at : ℕ) (behind : List ℕ) → WaitingLeads waits node (before ++ at ∷ behind) to → WaitingLeads waits node before at
  first_part [] at behind (over w more) = straight w
  first_part (x ∷ xs) at behind (over w more) = over w (first_part xs at behind more)

  last_part : {node to : ℕ} (before : List ℕ) (at : ℕ) (behind : List ℕ) → WaitingLeads waits node (before ++ at ∷ behind) to → WaitingLeads waits at behind to
  last_part [] at behind (over w more) = more
  last_part (x ∷ xs) at behind (over w more) = last_part xs at behind more

  joined : {node at to : ℕ} {way other : List ℕ} → WaitingLeads waits node way at → WaitingLeads waits at other to → WaitingLeads waits node (way ++ at ∷ other) to
  joined (straight w) leads = over w leads
  joined (over w more) leads = over w (joined more leads)

  turned : (node lowest : ℕ) (others before behind : List ℕ) → node ∷ others ≡ before ++ lowest ∷ behind → WaitingLeads waits node others node
      → WaitingLeads waits lowest (behind ++ before) lowest
  turned node lowest others [] behind place leads =
      let same : node ≡ lowest = cc in
      let rest : others ≡ behind ++ [] = let is : others ≡ behind = cc in is ∙ sym (append-nil behind) in
      subst (λ n. WaitingLeads waits n (behind ++ []) n) same (subst (λ way. WaitingLeads waits node way node) rest leads)
  turned node lowest others (x ∷ xs) behind place leads =
      let same : node ≡ x = cc in
      let rest : others ≡ xs ++ lowest ∷ behind = cc in
      let parts : WaitingLeads waits node (xs ++ lowest ∷ behind) node = subst (λ way. WaitingLeads waits node way node) rest leads in
      subst (λ n. WaitingLeads waits lowest (behind ++ n ∷ xs) lowest) same
      (joined (last_part xs lowest behind parts) (first_part xs lowest behind parts))

pub told_wholly : (waits : List (Option ℕ)) (node : ℕ) (others : List ℕ) → IsCircle waits node others → IsToldFromLowest waits (node ∷ others)
told_wholly waits node others circle =
    let at = parted node others in
    let once : IsDistinct nat_eq (at.before ++ at.lowest ∷ at.behind) = subst (IsDistinct nat_eq) at.place circle.once in
    let least : All (λ n. at.lowest ≤ n) (at.before ++ at.lowest ∷ at.behind) = subst (λ l. All (λ n. at.lowest ≤ n) l) at.place at.least in
    let above = greater at.lowest at.before at.behind once least in
    record {
      before = at.before;
      lowest = at.lowest;
      behind = at.behind;
      place = at.place;
      told = lowest_told waits at.lowest (at.behind ++ at.before)
          (turned waits node at.lowest others at.before at.behind at.place circle.leads)
          (All-append (λ n. at.lowest < n) at.behind at.before above.1 above.0);
    }
