-- Notes by node: what stands behind what, and what becomes of it.
use Rattle.std.proofs.Common.{◌≡◌, ℕ, zero, suc, ◌+◌, ◌*◌, ◌<◌, ◌≤◌, Bool, true, false, List, [], ◌∷◌, ◌++◌, inl, inr, get_or, length, take, refl, sym, subst, ◌∙◌, ap, arith}
use Rattle.std.proofs.Common.{Global, Vec, append_assoc}
use Rattle.std.specs.Prelude.{◌&&◌, ◌-◌, ◌^◌, Some, cond, filter, nat_eq, reverse, slice_get, slice_index, slice_set}
use Rattle.std.specs.List.{IsDistinct}
use Rattle.std.proofs.lemmas.Bool.{and_parts, cases_eq, eq-eqb, eqb-true, ne_eqb}
use Rattle.std.proofs.lemmas.List.{ext_get_or, get_or-set_other, get_or-set_same, length-append, length-reverse, length-set, map-append, reverse-append, reverse-reverse, take_more}
use Rattle.std.proofs.lemmas.List.Elements.{filter-append}
use Rattle.std.proofs.lemmas.Option.{get_or_from_slice_get, same_Some, slice_get-get_or, slice_get_within}
use lib.Pointwise.{bytes_decides}
use Rattle.lrc_trace.specs.declared.act.Act.{Act}
use Rattle.lrc_trace.specs.declared.act.Deed.{Deed}
use Rattle.lrc_trace.specs.contracts.act.ActPartialEq.TheImpl.{eq-value as act_eq}
use Rattle.lrc_trace.specs.Run.{act_of}
use Rattle.lrc_orders.specs.Kept.{Grows}
use Rattle.lrc_orders.specs.Notes.{is_noted_deed, is_note_of, notes_from, notes_of}
use Rattle.lrc_orders.proofs.Alike.{acts_same}
use Rattle.lrc_orders.proofs.Keeping.{grows_again, grows_not, stands_on}
use Rattle.lrc_orders.proofs.KeptAlike.{both_true, equal_items, nat_itself, one_place}
use Rattle.lrc_orders.proofs.Noting.{no_more, notes_more}
use Rattle.lrc_orders_settling.specs.Gone.{acts_by}
use Rattle.lrc_orders_table.specs.declared.notes.Link.{Link}
use Rattle.lrc_orders_table.specs.declared.notes.Lasts.{Lasts}
use Rattle.lrc_orders_table.specs.declared.notes.Notes.{Notes}
use Rattle.lrc_orders_table.specs.contracts.notes.LinkPartialEq.TheImpl.{eq-value as link_eq}
use Rattle.lrc_orders_table.specs.contracts.notes.LastsPartialEq.TheImpl.{eq-value as lasts_eq}
use Rattle.lrc_orders_table.specs.Links.{AreNotesAt, AreNotesSound, GrowNotes, HasLasts, IsChain, link_of}
use Rattle.lrc_orders_table.specs.Nexts.{notes_on}
use Rattle.lrc_orders_table.proofs.Itself.{act_itself}

-- ---- links that compare equal are equal, and the other way round

pub link_is : (a b : Link) → link_eq.it a b ≡ true → a ≡ b
link_is a b e =
    let p = and_parts (nat_eq a.before b.before) (act_eq.it a.act b.act) e in
    let acts : a.act ∷ [] ≡ b.act ∷ [] = acts_same (a.act ∷ []) (b.act ∷ []) (both_true (act_eq.it a.act b.act) true p.1 refl) in
    let act : a.act ≡ b.act = same_Some a.act b.act (ap (λ l. slice_get l 0) acts) in
    ap (λ n. link_of n a.act) (eqb-true a.before b.before p.0) ∙ ap (λ x. link_of b.before x) act

link_alike : (a b : Link) → a ≡ b → link_eq.it a b ≡ true
link_alike a b e =
    subst (λ (l : Link). link_eq.it a l ≡ true) e (both_true (nat_eq a.before a.before) (act_eq.it a.act a.act) (nat_itself a.before) (act_itself a.act))

pub lasts_is : (a b : Lasts) → lasts_eq.it a b ≡ true → a ≡ b
lasts_is a b e =
    let numbers : a.numbers ≡ b.numbers = (bytes_decides a.numbers b.numbers).0 e in
    ap (λ l. record { numbers = l }) numbers

lasts_alike : (a b : Lasts) → a ≡ b → lasts_eq.it a b ≡ true
lasts_alike a b e = equal_items nat_eq nat_itself a.numbers b.numbers (ap (λ (l : Lasts). l.numbers) e)

-- ---- from a note back to the first of its node

pub chain_grown : (old new : List Link) (number : ℕ) (acts : List Act) → Grows old new → IsChain old number acts → IsChain new number acts
chain_grown old new number [] g c = c
chain_grown old new number (act ∷ acts) g c = record {
  place = c.place;
  is = c.is;
  before = c.before;
  earlier = c.earlier;
  there = stands_on c.place (link_of c.before act) g c.there;
  rest = chain_grown old new c.before acts g c.rest;
}

pub chain_none : (links : List Link) (acts : List Act) → IsChain links 0 acts → acts ≡ []
chain_none links [] c = refl
chain_none links (act ∷ acts) c = absurd (let is = c.is in omega (arith, is))

pub chain_short : (links : List Link) (number : ℕ) (acts : List Act) → IsChain links number acts → length acts ≤ number
chain_short links number [] c = omega arith
chain_short links number (act ∷ acts) c =
    let rest = chain_short links c.before acts c.rest in
    let is = c.is in
    let earlier = c.earlier in
    omega (arith, rest, is, earlier)

pub chain_within : (links : List Link) (number : ℕ) (acts : List Act) → IsChain links number acts → number ≤ length links
chain_within links number [] c = omega (arith, c)
chain_within links number (act ∷ acts) c =
    let within = slice_get_within links c.place (link_of c.before act) c.there in
    let is = c.is in
    omega (arith, within, is)

-- the note with a number, and those before it
pub chain_step : (links : List Link) (number : ℕ) (link : Link) (acts : List Act) → 0 < number → slice_get links (number - 1) ≡ Some link
    → IsChain links number acts → (rest : List Act) × (acts ≡ link.act ∷ rest) × IsChain links link.before rest
chain_step links number link [] more at c = absurd (omega (arith, more, c))
chain_step links number link (act ∷ acts) more at c =
    let is = c.is in
    let place : c.place ≡ number - 1 = omega (arith, is) in
    let same : link_of c.before act ≡ link = same_Some (link_of c.before act) link (sym c.there ∙ ap (slice_get links) place ∙ at) in
    (acts, ap (λ (l : Link). l.act ∷ acts) same, subst (λ n. IsChain links n acts) (ap (λ (l : Link). l.before) same) c.rest)

pub chain_falls : (links : List Link) (number : ℕ) (link : Link) (acts : List Act) → 0 < number → slice_get links (number - 1) ≡ Some link
    → IsChain links number acts → link.before < number
chain_falls links number link [] more at c = absurd (omega (arith, more, c))
chain_falls links number link (act ∷ acts) more at c =
    let is = c.is in
    let earlier = c.earlier in
    let place : c.place ≡ number - 1 = omega (arith, is) in
    let same : link_of c.before act ≡ link = same_Some (link_of c.before act) link (sym c.there ∙ ap (slice_get links) place ∙ at) in
    let before : c.before ≡ link.before = ap (λ (l : Link). l.before) same in
    omega (arith, is, earlier, before)

pub link_there : (links slice : List Link) (number : ℕ) (d : Link) (acts : List Act) → slice ≡ links → 0 < number → IsChain links number acts
    → slice_get links (number - 1) ≡ Some (get_or slice (number - 1) d)
link_there links slice number d acts are more c =
    let within = chain_within links number acts c in
    let less : number - 1 < length links = omega (arith, within, more) in
    ap (λ l. slice_get l (number - 1)) (sym are) ∙ slice_get-get_or slice (number - 1) d (subst (λ l. number - 1 < length l) (sym are) less)

-- it is put behind others
pub chain_put : (links : List Link) (number : ℕ) (link : Link) (front late items new rest : List Act) → new ≡ items ++ link.act ∷ [] → 0 < number
    → slice_get links (number - 1) ≡ Some link → IsChain links number rest → items ++ rest ≡ front ++ late
    → (less : List Act) × IsChain links link.before less × (new ++ less ≡ front ++ late)
chain_put links number link front late items new rest is more at c sum =
    let (less, are, chain) = chain_step links number link rest more at c in
    (less, chain, ap (λ l. l ++ less) is ∙ append_assoc items (link.act ∷ []) less ∙ ap (λ l. items ++ l) (sym are) ∙ sum)

-- it is one list
pub chain_one : (links : List Link) (number : ℕ) (xs ys : List Act) → IsChain links number xs → IsChain links number ys → xs ≡ ys
chain_one links number [] [] c d = refl
chain_one links number [] (y ∷ ys) c d = absurd (let is = d.is in omega (arith, c, is))
chain_one links number (x ∷ xs) [] c d = absurd (let is = c.is in omega (arith, d, is))
chain_one links number (x ∷ xs) (y ∷ ys) c d =
    let one = c.is in
    let two = d.is in
    let places : c.place ≡ d.place = omega (arith, one, two) in
    let same : link_of c.before x ≡ link_of d.before y =
    same_Some (link_of c.before x) (link_of d.before y) (sym c.there ∙ ap (slice_get links) places ∙ d.there) in
    let befores : c.before ≡ d.before = ap (λ (l : Link). l.before) same in
    let rest : xs ≡ ys = chain_one links d.before xs ys (subst (λ n. IsChain links n xs) befores c.rest) d.rest in
    ap (λ (l : Link). l.act ∷ xs) same ∙ ap (λ l. y ∷ l) rest

-- and a list stands at one number
chain_place : (links : List Link) → IsDistinct link_eq.it links → (m n : ℕ) (acts : List Act) → IsChain links m acts → IsChain links n acts → m ≡ n
chain_place links distinct m n [] c d = c ∙ sym d
chain_place links distinct m n (act ∷ acts) c d =
    let a = link_of c.before act in
    let b = link_of d.before act in
    let same : a ≡ b = ap (λ n. link_of n act) (chain_place links distinct c.before d.before acts c.rest d.rest) in
    let places : c.place ≡ d.place =
    one_place link_eq.it links distinct c.place d.place a b c.there d.there (link_alike a b same) (link_alike b a (sym same)) in
    c.is ∙ ap (λ k. k + 1) places ∙ sym d.is

-- ---- the notes of each node, and those of all

notes_same : (count first : ℕ) (xs ys : List Act)
    → ((node : ℕ) → node < first + count → filter (is_note_of node) xs ≡ filter (is_note_of node) ys) → notes_from first count xs ≡ notes_from first count ys
notes_same zero first xs ys each = refl
notes_same (suc count) first xs ys each =
    ap (λ l. l ++ notes_from (suc first) count xs) (each first (omega arith))
    ∙ ap (λ l. filter (is_note_of first) ys ++ l) (notes_same count (suc first) xs ys (λ node lt. each node (omega (arith, lt))))

kept_again : (p : Act → Bool) (x : Act) (xs : List Act) (b : Bool) → p x ≡ b → filter p (cond b (x ∷ xs) xs) ≡ cond b (x ∷ filter p xs) (filter p xs)
kept_again p x xs true e = ap (λ b. cond b (x ∷ filter p xs) (filter p xs)) e
kept_again p x xs false e = refl

filter_again : (p : Act → Bool) (acts : List Act) → filter p (filter p acts) ≡ filter p acts
filter_again p [] = refl
filter_again p (x ∷ xs) =
    kept_again p x (filter p xs) (p x) refl ∙ ap (λ l. cond (p x) (x ∷ l) l) (filter_again p xs)

none_of : (node first : ℕ) → (first ≡ node → ⊥) → (x : Act) → is_note_of first x ≡ true → is_note_of node x ≡ false
none_of node first apart x e =
    let here : x.node ≡ first = eqb-true x.node first ((and_parts (nat_eq x.node first) (is_noted_deed x.deed) e).0) in
    ap (λ b. b && is_noted_deed x.deed) (ne_eqb x.node node (λ f. apart (sym here ∙ f)))

left_out : (p : Act → Bool) (x : Act) (xs : List Act) (b : Bool) → (b ≡ true → p x ≡ false) → filter p (cond b (x ∷ xs) xs) ≡ filter p xs
left_out p x xs true none = ap (λ b. cond b (x ∷ filter p xs) (filter p xs)) (none refl)
left_out p x xs false none = refl

filter_none : (node first : ℕ) → (first ≡ node → ⊥) → (acts : List Act) → filter (is_note_of node) (filter (is_note_of first) acts) ≡ []
filter_none node first apart [] = refl
filter_none node first apart (x ∷ xs) =
    left_out (is_note_of node) x (filter (is_note_of first) xs) (is_note_of first x) (none_of node first apart x) ∙ filter_none node first apart xs

notes_lower : (count first node : ℕ) (acts : List Act) → node < first → filter (is_note_of node) (notes_from first count acts) ≡ []
notes_lower zero first node acts lt = refl
notes_lower (suc count) first node acts lt =
    filter-append (is_note_of node) (filter (is_note_of first) acts) (notes_from (suc first) count acts)
    ∙ ap (λ l. l ++ filter (is_note_of node) (notes_from (suc first) count acts)) (filter_none node first (λ e. omega (arith, lt, e)) acts)
    ∙ notes_lower count (suc first) node acts (omega (arith, lt))

notes_its : (count first node : ℕ) (acts : List Act) → first ≤ node → node < first + count
    → filter (is_note_of node) (notes_from first count acts) ≡ filter (is_note_of node) acts
notes_its zero first node acts le lt = absurd (omega (arith, le, lt))
notes_its (suc count) first node acts le lt =
    let own = filter (is_note_of first) acts in
    let rest = notes_from (suc first) count acts in
    filter-append (is_note_of node) own rest ∙ elim (cases_eq first node) [
      | inl same ↦
          ap (λ l. filter (is_note_of node) own ++ l) (notes_lower count (suc first) node acts (omega (arith, same)))
          ∙ no_more (filter (is_note_of node) own)
          ∙ ap (λ n. filter (is_note_of node) (filter (is_note_of n) acts)) same
          ∙ filter_again (is_note_of node) acts
      | inr apart ↦
          ap (λ l. l ++ filter (is_note_of node) rest) (filter_none node first apart acts)
          ∙ notes_its count (suc first) node acts (omega (arith, le, apart)) (omega (arith, lt))
    ]

pub notes_higher : (count first node : ℕ) (acts : List Act) → first + count ≤ node → filter (is_note_of node) (notes_from first count acts) ≡ []
notes_higher zero first node acts le = refl
notes_higher (suc count) first node acts le =
    filter-append (is_note_of node) (filter (is_note_of first) acts) (notes_from (suc first) count acts)
    ∙ ap (λ l. l ++ filter (is_note_of node) (notes_from (suc first) count acts)) (filter_none node first (λ e. omega (arith, le, e)) acts)
    ∙ notes_higher count (suc first) node acts (omega (arith, le))

-- notes are their own notes
pub notes_fixed : (count : ℕ) (acts : List Act) → notes_of count (notes_of count acts) ≡ notes_of count acts
notes_fixed count acts =
    notes_same count 0 (notes_of count acts) acts (λ node lt. notes_its count 0 node acts (omega arith) (omega (arith, lt)))

-- ---- the last ones of all nodes

pub lasts_grown : (old new : List Link) (lasts : Lasts) (made : List Act) → Grows old new → HasLasts old lasts made → HasLasts new lasts made
lasts_grown old new lasts made g h = record {
  long = h.long;
  small = h.small;
  each = λ node lt. chain_grown old new (slice_index lasts.numbers node) (reverse (filter (is_note_of node) made)) g (h.each node lt);
}

pub lasts_at : (keys slice : List Lasts) (number : ℕ) (lasts d : Lasts) → slice ≡ keys → slice_get keys number ≡ Some lasts
    → lasts ≡ get_or slice number d
lasts_at keys slice number lasts d are at = sym (get_or_from_slice_get slice number lasts d (ap (λ l. slice_get l number) are ∙ at))

-- the notes are the same
pub lasts_one : (links : List Link) (lasts : Lasts) (xs ys : List Act) → HasLasts links lasts xs → HasLasts links lasts ys → notes_of 16 xs ≡ notes_of 16 ys
lasts_one links lasts xs ys h i =
    notes_same 16 0 xs ys (λ node lt.
    let a = filter (is_note_of node) xs in
    let b = filter (is_note_of node) ys in
    let same : reverse a ≡ reverse b =
    chain_one links (slice_index lasts.numbers node) (reverse a) (reverse b) (h.each node (omega (arith, lt))) (i.each node (omega (arith, lt))) in
    sym (reverse-reverse a) ∙ ap reverse same ∙ reverse-reverse b)

short_from : (links : List Link) (lasts : Lasts) (made : List Act) → HasLasts links lasts made → (count first : ℕ) → first + count ≤ 16
    → length (notes_from first count made) ≤ count * 4294967296
short_from links lasts made h zero first le = omega arith
short_from links lasts made h (suc count) first le =
    let own = filter (is_note_of first) made in
    let less : first < 16 = omega (arith, le) in
    let chain = chain_short links (slice_index lasts.numbers first) (reverse own) (h.each first less) in
    let small : slice_index lasts.numbers first < 4294967296 = h.small first less in
    let turned = length-reverse own in
    let rest = short_from links lasts made h count (suc first) (omega (arith, le)) in
    let sum = length-append own (notes_from (suc first) count made) in
    omega (arith, chain, small, turned, rest, sum)

pub lasts_short : (links : List Link) (lasts : Lasts) (made : List Act) → HasLasts links lasts made → length (notes_of 16 made) < 2 ^ 63
lasts_short links lasts made h = let s = short_from links lasts made h 16 0 (omega arith) in omega (arith, s)

-- ---- an act more

back_more : (node : ℕ) (made : List Act) (act : Act)
    → reverse (filter (is_note_of node) (made ++ act ∷ [])) ≡ cond (is_note_of node act) (act ∷ reverse (filter (is_note_of node) made)) (reverse (filter (is_note_of node) made))
back_more node made act = ap reverse (filter-append (is_note_of node) made (act ∷ [])) ∙ by (is_note_of node act)
  where
    own : List Act
    own = filter (is_note_of node) made

    by : (b : Bool) → reverse (own ++ cond b (act ∷ []) []) ≡ cond b (act ∷ reverse own) (reverse own)
    by true = reverse-append own (act ∷ [])
    by false = ap reverse (no_more own)

back_same : (node : ℕ) (made : List Act) (act : Act) → is_note_of node act ≡ false
    → reverse (filter (is_note_of node) (made ++ act ∷ [])) ≡ reverse (filter (is_note_of node) made)
back_same node made act e =
    back_more node made act ∙ ap (λ b. cond b (act ∷ reverse (filter (is_note_of node) made)) (reverse (filter (is_note_of node) made))) e

no_and : (b : Bool) → (b && false) ≡ false
no_and true = refl
no_and false = refl

-- that is not noted
pub lasts_same : (links : List Link) (lasts : Lasts) (made : List Act) (act : Act) → is_noted_deed act.deed ≡ false → HasLasts links lasts made
    → HasLasts links lasts (made ++ act ∷ [])
lasts_same links lasts made act e h = record {
  long = h.long;
  small = h.small;
  each = λ node lt.
      let none : is_note_of node act ≡ false = ap (λ b. nat_eq act.node node && b) e ∙ no_and (nat_eq act.node node) in
      subst (IsChain links (slice_index lasts.numbers node)) (sym (back_same node made act none)) (h.each node lt);
}

-- that is noted
pub lasts_more : (old new : List Link) (lasts : Lasts) (made : List Act) (act : Act) (number place : ℕ) → Grows old new → is_noted_deed act.deed ≡ true
    → act.node < 16 → number < 2 ^ 32 → number ≡ place + 1 → slice_index lasts.numbers act.node ≤ place
    → slice_get new place ≡ Some (link_of (slice_index lasts.numbers act.node) act) → HasLasts old lasts made
    → HasLasts new (record { numbers = slice_set lasts.numbers act.node number }) (made ++ act ∷ [])
lasts_more old new lasts made act number place g noted less small is earlier there h = record {
  long = length-set lasts.numbers act.node number ∙ h.long;
  small = λ node lt. elim (cases_eq node act.node) [
    | inl same ↦ subst (λ n. n < 2 ^ 32) (sym (at_own node same)) small
    | inr apart ↦ subst (λ n. n < 2 ^ 32) (sym (at_other node apart)) (h.small node lt)
  ];
  each = λ node lt. elim (cases_eq node act.node) [
    | inl same ↦
        let its : is_note_of node act ≡ true =
        ap (λ b. b && is_noted_deed act.deed) (eq-eqb act.node node (sym same)) ∙ noted in
        let own = reverse (filter (is_note_of node) made) in
        let back : reverse (filter (is_note_of node) (made ++ act ∷ [])) ≡ act ∷ own =
        back_more node made act ∙ ap (λ b. cond b (act ∷ own) own) its in
        let chain : IsChain new number (act ∷ own) = record {
          place = place;
          is = is;
          before = slice_index lasts.numbers act.node;
          earlier = earlier;
          there = there;
          rest = chain_grown old new (slice_index lasts.numbers act.node) own g
              (subst (λ n. IsChain old (slice_index lasts.numbers n) own) same (h.each node lt));
        } in
        subst (λ n. IsChain new n (reverse (filter (is_note_of node) (made ++ act ∷ [])))) (sym (at_own node same)) (subst (IsChain new number) (sym back) chain)
    | inr apart ↦
        let other : is_note_of node act ≡ false = ap (λ b. b && is_noted_deed act.deed) (ne_eqb act.node node (λ e. apart (sym e))) in
        let own = reverse (filter (is_note_of node) made) in
        subst (λ n. IsChain new n (reverse (filter (is_note_of node) (made ++ act ∷ [])))) (sym (at_other node apart))
        (subst (IsChain new (slice_index lasts.numbers node)) (sym (back_same node made act other))
        (chain_grown old new (slice_index lasts.numbers node) own g (h.each node lt)))
  ];
}
  where
    at_own : (node : ℕ) → node ≡ act.node → slice_index (slice_set lasts.numbers act.node number) node ≡ number
    at_own node same =
        ap (slice_index (slice_set lasts.numbers act.node number)) same
        ∙ get_or-set_same lasts.numbers act.node number 0 (let long = h.long in omega (arith, long, less))

    at_other : (node : ℕ) → (node ≡ act.node → ⊥) → slice_index (slice_set lasts.numbers act.node number) node ≡ slice_index lasts.numbers node
    at_other node apart = get_or-set_other lasts.numbers act.node node number 0 apart

-- ---- the notes of all nodes, from the last one back

pub back_step : (links : List Link) (lasts : Lasts) (made items new : List Act) (step : ℕ) → step < 16 → HasLasts links lasts made
    → items ≡ reverse (notes_from (16 - step) step made)
    → ((late : List Act) → IsChain links (slice_index lasts.numbers (15 - step)) late → new ≡ items ++ late)
    → new ≡ reverse (notes_from (16 - (step + 1)) (step + 1) made)
back_step links lasts made items new step less h is put =
    let node = 15 - step in
    let own = filter (is_note_of node) made in
    let first : 16 - (step + 1) ≡ node = omega (arith, less) in
    let next : 16 - step ≡ suc node = omega (arith, less) in
    let count : step + 1 ≡ suc step = omega arith in
    put (reverse own) (h.each node (omega (arith, less))) ∙ ap (λ l. l ++ reverse own) is
    ∙ ap (λ n. reverse (notes_from n step made) ++ reverse own) next ∙ sym (reverse-append own (notes_from (suc node) step made))
    ∙ ap (λ n. reverse (notes_from node n made)) (sym count) ∙ ap (λ n. reverse (notes_from n (step + 1) made)) (sym first)

-- ---- notes by number

pub notes_grown : (old new : Notes) (number : ℕ) (acts : List Act) → GrowNotes old new → AreNotesAt old number acts → AreNotesAt new number acts
notes_grown old new number acts g n = record {
  lasts = n.lasts;
  there = stands_on number n.lasts g.lasts n.there;
  made = n.made;
  has = lasts_grown old.links.keys new.links.keys n.lasts n.made g.links n.has;
  acts_are = n.acts_are;
}

pub grow_again : (a b c : Notes) → GrowNotes a b → GrowNotes b c → GrowNotes a c
grow_again a b c g h = record { links = grows_again g.links h.links; lasts = grows_again g.lasts h.lasts }

pub notes_not : (all : Notes) → GrowNotes all all
notes_not all = record {
  links = grows_not all.links.keys all.links.keys refl;
  lasts = grows_not all.lasts.keys all.lasts.keys refl;
}

-- a number has one list of notes
pub notes_one : (all : Notes) (number : ℕ) (xs ys : List Act) → AreNotesAt all number xs → AreNotesAt all number ys → xs ≡ ys
notes_one all number xs ys n m =
    let same : n.lasts ≡ m.lasts = same_Some n.lasts m.lasts (sym n.there ∙ m.there) in
    sym n.acts_are ∙ lasts_one all.links.keys m.lasts n.made m.made (subst (λ l. HasLasts all.links.keys l n.made) same n.has) m.has ∙ m.acts_are

-- and a list of notes has one number
pub notes_place : (all : Notes) → AreNotesSound all → (i j : ℕ) (xs ys : List Act) → AreNotesAt all i xs → AreNotesAt all j ys → xs ≡ ys → i ≡ j
notes_place all sound i j xs ys n m e =
    let made : notes_of 16 n.made ≡ notes_of 16 m.made = n.acts_are ∙ e ∙ sym m.acts_are in
    let numbers : n.lasts.numbers ≡ m.lasts.numbers =
    ext_get_or 0 n.lasts.numbers m.lasts.numbers (n.has.long ∙ sym m.has.long) (λ node lt.
    let long = n.has.long in
    let less : node < 16 = omega (arith, lt, long) in
    let own : filter (is_note_of node) n.made ≡ filter (is_note_of node) m.made =
    sym (notes_its 16 0 node n.made (omega arith) (omega (arith, less))) ∙ ap (filter (is_note_of node)) made
    ∙ notes_its 16 0 node m.made (omega arith) (omega (arith, less)) in
    chain_place all.links.keys sound.links (slice_index n.lasts.numbers node) (slice_index m.lasts.numbers node) (reverse (filter (is_note_of node) m.made))
    (subst (λ l. IsChain all.links.keys (slice_index n.lasts.numbers node) (reverse l)) own (n.has.each node less)) (m.has.each node less)) in
    let same : n.lasts ≡ m.lasts = ap (λ l. record { numbers = l }) numbers in
    one_place lasts_eq.it all.lasts.keys sound.lasts i j n.lasts m.lasts n.there m.there (lasts_alike n.lasts m.lasts same)
    (lasts_alike m.lasts n.lasts (sym same))

pub deeds_more : (node : ℕ) (made : List Act) (deeds : List Deed) (i : ℕ) (d : Deed) → i < length deeds
    → (made ++ acts_by node (take i deeds)) ++ act_of node (get_or deeds i d) ∷ [] ≡ made ++ acts_by node (take (i + 1) deeds)
deeds_more node made deeds i d within =
    append_assoc made (acts_by node (take i deeds)) (act_of node (get_or deeds i d) ∷ [])
    ∙ ap (λ l. made ++ l) (sym (map-append (act_of node) (take i deeds) (get_or deeds i d ∷ [])) ∙ ap (acts_by node) (sym (take_more deeds i d within)))

pub notes_short : (all : Notes) (number : ℕ) (acts : List Act) → AreNotesAt all number acts → length acts < 2 ^ 63
notes_short all number acts n = subst (λ l. length l < 2 ^ 63) n.acts_are (lasts_short all.links.keys n.lasts n.made n.has)

-- these notes in place of others
abbrev pub with_acts : Vec Act Global → (acts : List Act) → length acts < 2 ^ 63 → Vec Act Global
with_acts notes acts short = record {
  ptr = notes.ptr;
  len = length acts;
  cap = length acts;
  alloc = notes.alloc;
  items = acts;
  ok = (refl, omega arith);
  small = short;
}

-- the notes of acts and several deeds of a node more
pub notes_deeds : (node : ℕ) (deeds : List Deed) (made : List Act) → node < 16
    → notes_of 16 (made ++ acts_by node deeds) ≡ notes_on (notes_of 16 made) (acts_by node deeds)
notes_deeds node [] made less = ap (notes_of 16) (no_more made)
notes_deeds node (d ∷ ds) made less =
    let act = act_of node d in
    ap (notes_of 16) (sym (append_assoc made (act ∷ []) (acts_by node ds)))
    ∙ notes_deeds node ds (made ++ act ∷ []) less
    ∙ ap (λ l. notes_on l (acts_by node ds)) (notes_more 16 made act less)
