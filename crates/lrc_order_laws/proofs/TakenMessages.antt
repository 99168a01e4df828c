-- Which messages count as taken: what one number more among those taken changes, by what the nodes have taken.
use Rattle.std.proofs.Common.{◌≡◌, ℕ, zero, suc, ◌+◌, ◌<◌, ◌≤◌, List, [], ◌∷◌, ◌++◌, Bool, true, false, length, map, refl, sym, ap, subst, ◌∙◌, arith}
use Rattle.std.specs.Prelude.{Option, Some, None, ◌==◌, ◌||◌, cond, not, unwrap_or, option_map, filter, remove, slice_get, slice_set, slice_index_or, nat_lt}
use Rattle.std.specs.List.{list_any}
use Rattle.std.proofs.lemmas.Bool.{eq-eqb, ne_eqb, and_from, or_right}
use Rattle.std.proofs.lemmas.Option.{same_Some}
use Rattle.lrc_store.specs.Order.{placed}
use Rattle.lrc_envelope.specs.Envelope.{EnvelopeRecord}
use Rattle.lrc_protocol.specs.Node.{Node}
use Rattle.lrc_protocol.specs.Turn.{is_repeat}
use Rattle.lrc_protocol.specs.Run.{Logged, World, Flying}
use Rattle.lrc_protocol.specs.Follows.{pending}
use Rattle.lrc_protocol.specs.Follows.{is_taken_in}
use Rattle.lrc_protocol.proofs.Worlds.{get_set_other}
use Rattle.lrc_order_laws.specs.Numbers.{numbers_between, Rises, Below}
use Rattle.lrc_order_laws.proofs.Numbers.{envelopes_in, are_between, map_cond}

-- ---- the pending ones among messages

abbrev taken_by : EnvelopeRecord → Option Logged → Bool
taken_by e o = unwrap_or (option_map (λ (l : Logged). is_repeat l.node e) o) false

-- whether its receiver has taken the message's number
abbrev pub is_taken_by : List Logged → EnvelopeRecord → Bool
is_taken_by nodes e = taken_by e (slice_get nodes e.to)

abbrev pub still : List Logged → List EnvelopeRecord → List EnvelopeRecord
still nodes es = filter (λ e. not (is_taken_by nodes e)) es

map_flying : (c : Bool) (f : Flying) (rest : List Flying)
    → map (λ (f : Flying). f.envelope) (cond c (f ∷ rest) rest) ≡ cond c (f.envelope ∷ map (λ (f : Flying). f.envelope) rest) (map (λ
    (f : Flying). f.envelope) rest)
map_flying true f rest = refl
map_flying false f rest = refl

pending_in : (world : World) (flight : List Flying)
    → map (λ (f : Flying). f.envelope) (filter (λ f. not (is_taken_in world f)) flight) ≡ still world.nodes (envelopes_in flight)
pending_in world [] = refl
pending_in world (f ∷ flight) =
    map_flying (not (is_taken_in world f)) f (filter (λ f. not (is_taken_in world f)) flight)
    ∙ ap (λ rest. cond (not (is_taken_in world f)) (f.envelope ∷ rest) rest) (pending_in world flight)

pub pending-is : (world : World) → pending world ≡ still world.nodes (envelopes_in world.flight)
pending-is world = pending_in world world.flight

-- ---- filters

pub filter-all : (p : EnvelopeRecord → Bool) (xs : List EnvelopeRecord) → ((k : ℕ) (x : EnvelopeRecord) → slice_get xs k ≡ Some x → p x ≡ true)
    → filter p xs ≡ xs
filter-all p [] h = refl
filter-all p (x ∷ xs) h =
    ap (λ c. cond c (x ∷ filter p xs) (filter p xs)) (h zero x refl)
    ∙ ap (λ rest. x ∷ rest) (filter-all p xs (λ k y e. h (suc k) y e))

pub filter-same : (p q : EnvelopeRecord → Bool) (xs : List EnvelopeRecord) → ((x : EnvelopeRecord) → p x ≡ q x) → filter p xs ≡ filter q xs
filter-same p q [] h = refl
filter-same p q (x ∷ xs) h =
    ap (λ c. cond c (x ∷ filter p xs) (filter p xs)) (h x) ∙ ap (λ rest. cond (q x) (x ∷ rest) rest) (filter-same p q xs h)

-- from the same node to the same with the same number
pub record Same (x e : EnvelopeRecord) : Type 0 where
  pub from : x.from ≡ e.from
  pub to : x.to ≡ e.to
  pub number : x.number ≡ e.number

-- none of these is that one
abbrev pub Others : EnvelopeRecord → List EnvelopeRecord → Type 0
Others e [] = Unit {0}
Others e (x ∷ xs) = (Same x e → ⊥) × Others e xs

pub filter-others : (p q : EnvelopeRecord → Bool) (e : EnvelopeRecord) (xs : List EnvelopeRecord) → ((x : EnvelopeRecord) → (Same x e → ⊥) → p x ≡ q x)
    → Others e xs → filter p xs ≡ filter q xs
filter-others p q e [] h o = refl
filter-others p q e (x ∷ xs) h o =
    ap (λ c. cond c (x ∷ filter p xs) (filter p xs)) (h x o.0) ∙ ap (λ rest. cond (q x) (x ∷ rest) rest) (filter-others p q e xs h o.1)

-- ---- a message at its place

pub record Split (es without : List EnvelopeRecord) (e : EnvelopeRecord) : Type 0 where
  pub front : List EnvelopeRecord
  pub back : List EnvelopeRecord
  pub is : es ≡ front ++ e ∷ back
  pub without_is : without ≡ front ++ back

pub splits : (flight : List Flying) (place : ℕ) (f : Flying) → slice_get flight place ≡ Some f
    → Split (envelopes_in flight) (envelopes_in (remove flight place)) f.envelope
splits [] place f at = cc
splits (g ∷ flight) zero f at = record {
  front = [];
  back = envelopes_in flight;
  is = ap (λ (f : Flying). f.envelope ∷ envelopes_in flight) (same_Some g f at);
  without_is = refl;
}
splits (g ∷ flight) (suc place) f at =
    let s : Split (envelopes_in flight) (envelopes_in (remove flight place)) f.envelope = splits flight place f at in
    record {
      front = g.envelope ∷ s.front;
      back = s.back;
      is = ap (λ es. g.envelope ∷ es) s.is;
      without_is = ap (λ es. g.envelope ∷ es) s.without_is;
    }

-- ---- its number stands once

least_first : (c : Bool) (least bound x : ℕ) (rest : List ℕ) → c ≡ true → Rises least bound (cond c (x ∷ rest) rest) → least ≤ x
least_first true least bound x rest e r = r.0
least_first false least bound x rest e r = cc

rest_above : (c : Bool) (least bound x : ℕ) (rest : List ℕ) → c ≡ true → Rises least bound (cond c (x ∷ rest) rest) → Rises (x + 1) bound rest
rest_above true least bound x rest e r = r.2
rest_above false least bound x rest e r = cc

rest_rises : (c : Bool) (least bound x : ℕ) (rest : List ℕ) → Rises least bound (cond c (x ∷ rest) rest)
    → (lower : ℕ) × (Rises lower bound rest) × (least ≤ lower) × (c ≡ true → x < lower)
rest_rises true least bound x rest r = let at_least : least ≤ x = r.0 in (x + 1, r.2, omega (arith, at_least), λ e. omega arith)
rest_rises false least bound x rest r = (least, r, omega arith, λ e. cc)

module _ (e : EnvelopeRecord) where
  abbrev here : EnvelopeRecord → Bool
  here x = are_between e.from e.to x

  abbrev numbers : List EnvelopeRecord → List ℕ
  numbers xs = numbers_between e.from e.to xs

  is_here : (x : EnvelopeRecord) → Same x e → here x ≡ true
  is_here x s = and_from (x.from == e.from) (x.to == e.to) (eq-eqb x.from e.from s.from) (eq-eqb x.to e.to s.to)

  -- every number of what rises is at least the least
  at_least : (xs ys : List EnvelopeRecord) (least bound : ℕ) → Rises least bound (numbers (xs ++ e ∷ ys)) → least ≤ e.number
  at_least [] ys least bound r =
      least_first (here e) least bound e.number (numbers ys) (is_here e (record { from = refl; to = refl; number = refl }))
      (subst (Rises least bound) (map_cond (here e) e (filter here ys)) r)
  at_least (x ∷ xs) ys least bound r =
      let rest : (lower : ℕ) × (Rises lower bound (numbers (xs ++ e ∷ ys))) × (least ≤ lower) × (here x ≡ true → x.number < lower) =
      rest_rises (here x) least bound x.number (numbers (xs ++ e ∷ ys)) (subst (Rises least bound) (map_cond (here x) x (filter here (xs ++ e ∷ ys))) r) in
      let le : rest.0 ≤ e.number = at_least xs ys rest.0 bound rest.1 in
      let more : least ≤ rest.0 = rest.2 in
      omega (arith, le, more)

  others_before : (xs ys : List EnvelopeRecord) (least bound : ℕ) → Rises least bound (numbers (xs ++ e ∷ ys)) → Others e xs
  others_before [] ys least bound r = tt
  others_before (x ∷ xs) ys least bound r =
      let rest : (lower : ℕ) × (Rises lower bound (numbers (xs ++ e ∷ ys))) × (least ≤ lower) × (here x ≡ true → x.number < lower) =
      rest_rises (here x) least bound x.number (numbers (xs ++ e ∷ ys)) (subst (Rises least bound) (map_cond (here x) x (filter here (xs ++ e ∷ ys))) r) in
      let le : rest.0 ≤ e.number = at_least xs ys rest.0 bound rest.1 in (
        λ s.
            let lt : x.number < rest.0 = rest.3 (is_here x s) in
            let same : x.number ≡ e.number = s.number in
            absurd (omega (arith, lt, le, same)),
        others_before xs ys rest.0 bound rest.1,
      )

  above : (xs : List EnvelopeRecord) (least bound : ℕ) → e.number < least → Rises least bound (numbers xs) → Others e xs
  above [] least bound lt r = tt
  above (x ∷ xs) least bound lt r =
      let r' : Rises least bound (cond (here x) (x.number ∷ numbers xs) (numbers xs)) = subst (Rises least bound) (map_cond (here x) x (filter here xs)) r in
      let rest : (lower : ℕ) × (Rises lower bound (numbers xs)) × (least ≤ lower) × (here x ≡ true → x.number < lower) =
      rest_rises (here x) least bound x.number (numbers xs) r' in
      let more : least ≤ rest.0 = rest.2 in (
        λ s.
            let le : least ≤ x.number = least_first (here x) least bound x.number (numbers xs) (is_here x s) r' in
            let same : x.number ≡ e.number = s.number in
            absurd (omega (arith, lt, le, same)),
        above xs rest.0 bound (omega (arith, lt, more)) rest.1,
      )

  others_after : (xs ys : List EnvelopeRecord) (least bound : ℕ) → Rises least bound (numbers (xs ++ e ∷ ys)) → Others e ys
  others_after [] ys least bound r =
      above ys (e.number + 1) bound (omega arith)
      (rest_above (here e) least bound e.number (numbers ys) (is_here e (record { from = refl; to = refl; number = refl }))
      (subst (Rises least bound) (map_cond (here e) e (filter here ys)) r))
  others_after (x ∷ xs) ys least bound r =
      let rest : (lower : ℕ) × (Rises lower bound (numbers (xs ++ e ∷ ys))) × (least ≤ lower) × (here x ≡ true → x.number < lower) =
      rest_rises (here x) least bound x.number (numbers (xs ++ e ∷ ys)) (subst (Rises least bound) (map_cond (here x) x (filter here (xs ++ e ∷ ys))) r) in
      others_after xs ys rest.0 bound rest.1

  -- of the messages in flight no other is the same as the one at its place
  pub others : (es without : List EnvelopeRecord) (least bound : ℕ) (s : Split es without e) → Rises least bound (numbers es)
      → Others e s.front × Others e s.back
  others es without least bound s r =
      let r' : Rises least bound (numbers (s.front ++ e ∷ s.back)) = subst (λ es. Rises least bound (numbers es)) s.is r in
      (others_before s.front s.back least bound r', others_after s.front s.back least bound r')

-- ---- what a node has taken

abbrev has : ℕ → List ℕ → Bool
has number xs = list_any (λ k. k == number) xs

has-other : (k number : ℕ) (xs : List ℕ) → (k ≡ number → ⊥) → has number (k ∷ xs) ≡ has number xs
has-other k number xs ne = ap (λ b. b || has number xs) (ne_eqb k number ne)

-- a number more, at its place among those that are there
placed-other : (k number : ℕ) (xs : List ℕ) → (k ≡ number → ⊥) → has number (placed nat_lt k xs) ≡ has number xs
placed-other k number [] ne = has-other k number [] ne
placed-other k number (y ∷ xs) ne = by_test (placed-other k number xs ne) (nat_lt k y)
  where
    by_test : has number (placed nat_lt k xs) ≡ has number xs → (b : Bool) → has number (cond b (k ∷ y ∷ xs) (y ∷ placed nat_lt k xs)) ≡ has number (y ∷ xs)
    by_test rest true = has-other k number (y ∷ xs) ne
    by_test rest false = ap (λ b. (y == number) || b) rest

placed-itself : (k : ℕ) (xs : List ℕ) → has k (placed nat_lt k xs) ≡ true
placed-itself k [] = ap (λ b. b || has k []) (eq-eqb k k refl)
placed-itself k (y ∷ xs) = by_test (placed-itself k xs) (nat_lt k y)
  where
    by_test : has k (placed nat_lt k xs) ≡ true → (b : Bool) → has k (cond b (k ∷ y ∷ xs) (y ∷ placed nat_lt k xs)) ≡ true
    by_test rest true = ap (λ b. b || has k (y ∷ xs)) (eq-eqb k k refl)
    by_test rest false = or_right (y == k) (has k (placed nat_lt k xs)) rest

-- no message counts as taken with another's number
pub taken-other : (t : List (List ℕ)) (a k from number : ℕ) → (a ≡ from → k ≡ number → ⊥)
    → has number (slice_index_or (slice_set t a (placed nat_lt k (slice_index_or t a []))) from []) ≡ has number (slice_index_or t from [])
taken-other [] a k from number ne = refl
taken-other (y ∷ t) zero k zero number ne = placed-other k number y (ne refl)
taken-other (y ∷ t) zero k (suc from) number ne = refl
taken-other (y ∷ t) (suc a) k zero number ne = refl
taken-other (y ∷ t) (suc a) k (suc from) number ne = taken-other t a k from number (λ e. ne (ap suc e))

pub taken-itself : (t : List (List ℕ)) (a k : ℕ) → a < length t → has k (slice_index_or (slice_set t a (placed nat_lt k (slice_index_or t a []))) a []) ≡ true
taken-itself [] a k lt = absurd (omega (arith, lt))
taken-itself (y ∷ t) zero k lt = placed-itself k y
taken-itself (y ∷ t) (suc a) k lt = taken-itself t a k (omega (arith, lt))

not-below : (bound number : ℕ) (xs : List ℕ) → bound ≤ number → Below bound xs → has number xs ≡ false
not-below bound number [] le b = refl
not-below bound number (x ∷ xs) le b =
    let lt : x < bound = b.0 in
    has-other x number xs (λ e. absurd (omega (arith, e, lt, le))) ∙ not-below bound number xs le b.1

-- ---- by nodes

pub own-taken : (nodes : List Logged) (n : ℕ) (l : Logged) (e : EnvelopeRecord) → slice_get nodes n ≡ Some l → n ≡ e.to
    → is_taken_by nodes e ≡ is_repeat l.node e
own-taken nodes n l e at is = ap (taken_by e) (ap (slice_get nodes) (sym is) ∙ at)

pub other-taken : (nodes : List Logged) (n : ℕ) (after : Logged) (e : EnvelopeRecord) → (n ≡ e.to → ⊥) → is_taken_by
    (slice_set nodes n after) e ≡ is_taken_by nodes e
other-taken nodes n after e ne = ap (taken_by e) (get_set_other nodes n e.to after ne)

pub nowhere-taken : (nodes : List Logged) (e : EnvelopeRecord) → slice_get nodes e.to ≡ None → is_taken_by nodes e ≡ false
nowhere-taken nodes e at = ap (taken_by e) at

pub repeat-same : (a b : Node) (e : EnvelopeRecord) → a.mail.taken ≡ b.mail.taken → is_repeat a e ≡ is_repeat b e
repeat-same a b e is = ap (λ t. has e.number (slice_index_or t e.from [])) is

pub repeat-other : (a b : Node) (e x : EnvelopeRecord) → a.mail.taken ≡ slice_set b.mail.taken e.from (placed nat_lt e.number
    (slice_index_or b.mail.taken e.from []))
    → x.to ≡ e.to → (Same x e → ⊥) → is_repeat a x ≡ is_repeat b x
repeat-other a b e x is to ne =
    ap (λ t. has x.number (slice_index_or t x.from [])) is
    ∙ taken-other b.mail.taken e.from e.number x.from x.number (λ from number. ne (record { from = sym from; to = to; number = sym number }))

pub repeat-itself : (a b : Node) (e : EnvelopeRecord) → a.mail.taken ≡ slice_set b.mail.taken e.from (placed nat_lt e.number
    (slice_index_or b.mail.taken e.from []))
    → e.from < length b.mail.taken → is_repeat a e ≡ true
repeat-itself a b e is lt = ap (λ t. has e.number (slice_index_or t e.from [])) is ∙ taken-itself b.mail.taken e.from e.number lt

pub repeat-below : (a : Node) (e : EnvelopeRecord) (bound : ℕ) → bound ≤ e.number → Below bound (slice_index_or a.mail.taken e.from []) → is_repeat a e ≡ false
repeat-below a e bound le b = not-below bound e.number (slice_index_or a.mail.taken e.from []) le b
