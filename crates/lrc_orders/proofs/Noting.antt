-- The notes of one act more are the notes with that act.
use Rattle.std.proofs.Common.{◌≡◌, ℕ, zero, suc, ◌+◌, ◌<◌, ◌≤◌, List, [], ◌∷◌, ◌++◌, Bool, true, false, inl, inr}
use Rattle.std.proofs.Common.{refl, sym, subst, ◌∙◌, ap, arith, append_assoc}
use Rattle.std.specs.Prelude.{◌&&◌, cond, not, filter, nat_eq, nat_lt, if◌then◌else◌}
use Rattle.std.specs.List.{insert}
use Rattle.std.proofs.lemmas.Bool.{cases_eq, and_parts, eqb-true, ne_eqb, eq-eqb, lt-ltb, le-ltb}
use Rattle.std.proofs.lemmas.List.Elements.{filter-append}
use Rattle.lrc_trace.specs.declared.act.Act.{Act}
use Rattle.lrc_orders.specs.Notes.{is_noted_deed, is_note_of, notes_from, notes_of, place_in, notes_with}

-- an act put in at its place
abbrev ins : Act → List Act → List Act
ins act notes = insert notes (place_in act.node notes) act

-- every act is of this node, and every act of this node or a higher one
abbrev Own : ℕ → List Act → Type 0
Own node [] = Unit {0}
Own node (x ∷ xs) = (x.node ≡ node) × Own node xs

abbrev From : ℕ → List Act → Type 0
From node [] = Unit {0}
From node (x ∷ xs) = (node ≤ x.node) × From node xs

own_more : (node : ℕ) (x : Act) (xs : List Act) (b : Bool) → is_note_of node x ≡ b → Own node xs → Own node (cond b (x ∷ xs) xs)
own_more node x xs true e own = (eqb-true x.node node ((and_parts (nat_eq x.node node) (is_noted_deed x.deed) e).0), own)
own_more node x xs false e own = own

own_filter : (node : ℕ) (acts : List Act) → Own node (filter (is_note_of node) acts)
own_filter node [] = tt
own_filter node (x ∷ xs) = own_more node x (filter (is_note_of node) xs) (is_note_of node x) refl (own_filter node xs)

from_own : (first node : ℕ) (xs ys : List Act) → first ≤ node → Own node xs → From first ys → From first (xs ++ ys)
from_own first node [] ys le own from = from
from_own first node (x ∷ xs) ys le own from = let e = own.0 in (omega arith, from_own first node xs ys le own.1 from)

from_lower : (first node : ℕ) (xs : List Act) → first ≤ node → From node xs → From first xs
from_lower first node [] le from = tt
from_lower first node (x ∷ xs) le from = let e = from.0 in (omega arith, from_lower first node xs le from.1)

from_notes : (count first : ℕ) (acts : List Act) → From first (notes_from first count acts)
from_notes zero first acts = tt
from_notes (suc count) first acts =
    from_own first first (filter (is_note_of first) acts) (notes_from (suc first) count acts) (omega arith) (own_filter first acts)
    (from_lower first (suc first) (notes_from (suc first) count acts) (omega arith) (from_notes count (suc first) acts))

-- before the notes of higher nodes, and behind those of nodes up to its own
ins_front : (act : Act) (notes : List Act) → From (suc act.node) notes → ins act notes ≡ act ∷ notes
ins_front act [] from = refl
ins_front act (x ∷ xs) from =
    let e : nat_lt act.node x.node ≡ true = lt-ltb act.node x.node (let h = from.0 in omega arith) in
    ap (λ b. insert (x ∷ xs) (cond (not b) (1 + place_in act.node xs) 0) act) e

one_more : (k : ℕ) → 1 + k ≡ suc k
one_more k = omega arith

ins_behind : (act : Act) (node : ℕ) (xs ys : List Act) → node ≤ act.node → Own node xs → ins act (xs ++ ys) ≡ xs ++ ins act ys
ins_behind act node [] ys le own = refl
ins_behind act node (x ∷ xs) ys le own =
    let e : nat_lt act.node x.node ≡ false = le-ltb act.node x.node (let h = own.0 in omega arith) in
    ap (λ b. insert (x ∷ xs ++ ys) (cond (not b) (1 + place_in act.node (xs ++ ys)) 0) act) e
    ∙ ap (λ n. insert (x ∷ xs ++ ys) n act) (one_more (place_in act.node (xs ++ ys)))
    ∙ ap (λ l. x ∷ l) (ins_behind act node xs ys le own.1)

pub no_more : {A : Type 0} (xs : List A) → xs ++ [] ≡ xs
no_more [] = refl
no_more (x ∷ xs) = ap (λ l. x ∷ l) (no_more xs)

-- one node's notes of one act more
filter_more : (node : ℕ) (acts : List Act) (act : Act)
    → filter (is_note_of node) (acts ++ act ∷ []) ≡ filter (is_note_of node) acts ++ cond (is_note_of node act) (act ∷ []) []
filter_more node acts act = filter-append (is_note_of node) acts (act ∷ [])

filter_same : (node : ℕ) (acts : List Act) (act : Act) → is_note_of node act ≡ false
    → filter (is_note_of node) (acts ++ act ∷ []) ≡ filter (is_note_of node) acts
filter_same node acts act not_its =
    filter_more node acts act ∙ ap (λ b. filter (is_note_of node) acts ++ cond b (act ∷ []) []) not_its ∙ no_more (filter (is_note_of node) acts)

-- an act that none of these nodes notes
from_same : (count first : ℕ) (acts : List Act) (act : Act) → ((node : ℕ) → first ≤ node → is_note_of node act ≡ false)
    → notes_from first count (acts ++ act ∷ []) ≡ notes_from first count acts
from_same zero first acts act none = refl
from_same (suc count) first acts act none =
    ap (λ l. l ++ notes_from (suc first) count (acts ++ act ∷ [])) (filter_same first acts act (none first (omega arith)))
    ∙ ap (λ l. filter (is_note_of first) acts ++ l) (from_same count (suc first) acts act (λ node le. none node (omega arith)))

other_node : (node : ℕ) (act : Act) → (act.node ≡ node → ⊥) → is_note_of node act ≡ false
other_node node act apart = ap (λ b. b && is_noted_deed act.deed) (ne_eqb act.node node apart)

not_one : (node : ℕ) (act : Act) → is_noted_deed act.deed ≡ false → is_note_of node act ≡ false
not_one node act e = ap (λ b. nat_eq act.node node && b) e ∙ no_and (nat_eq act.node node)
  where
    no_and : (b : Bool) → (b && false) ≡ false
    no_and true = refl
    no_and false = refl

its_own : (act : Act) → is_noted_deed act.deed ≡ true → is_note_of act.node act ≡ true
its_own act e = ap (λ b. b && is_noted_deed act.deed) (eq-eqb act.node act.node refl) ∙ e

-- an act that one of these nodes notes
from_more : (count first : ℕ) (acts : List Act) (act : Act) → is_noted_deed act.deed ≡ true → first ≤ act.node → act.node < first + count
    → notes_from first count (acts ++ act ∷ []) ≡ ins act (notes_from first count acts)
from_more zero first acts act is le lt = absurd (omega arith)
from_more (suc count) first acts act is le lt =
    let own = filter (is_note_of first) acts in
    let rest = notes_from (suc first) count acts in
    elim (cases_eq act.node first) [
      | inl same ↦
          let noted_there : is_note_of first act ≡ true = subst (λ n. is_note_of n act ≡ true) same (its_own act is) in
          let higher : From (suc act.node) rest = subst (λ n. From (suc n) rest) (sym same) (from_notes count (suc first) acts) in
          ap (λ l. l ++ notes_from (suc first) count (acts ++ act ∷ []))
          (filter_more first acts act ∙ ap (λ b. own ++ cond b (act ∷ []) []) noted_there)
          ∙ ap (λ l. (own ++ act ∷ []) ++ l) (from_same count (suc first) acts act (λ node above. other_node node act (λ e. omega arith)))
          ∙ append_assoc own (act ∷ []) rest
          ∙ ap (λ l. own ++ l) (sym (ins_front act rest higher))
          ∙ sym (ins_behind act first own rest le (own_filter first acts))
      | inr apart ↦
          ap (λ l. l ++ notes_from (suc first) count (acts ++ act ∷ [])) (filter_same first acts act (other_node first act apart))
          ∙ ap (λ l. own ++ l) (from_more count (suc first) acts act is (omega arith) (omega arith))
          ∙ sym (ins_behind act first own rest le (own_filter first acts))
    ]

pub notes_more : (nodes : ℕ) (acts : List Act) (act : Act) → act.node < nodes → notes_of nodes (acts ++ act ∷ []) ≡ notes_with (notes_of nodes acts) act
notes_more nodes acts act lt = by_kind (is_noted_deed act.deed) refl
  where
    by_kind : (b : Bool) → is_noted_deed act.deed ≡ b → notes_of nodes (acts ++ act ∷ []) ≡ (if b then ins act (notes_of nodes acts) else notes_of nodes acts)
    by_kind true e = from_more nodes 0 acts act e (omega arith) (omega arith)
    by_kind false e = from_same nodes 0 acts act (λ node le. not_one node act e)
