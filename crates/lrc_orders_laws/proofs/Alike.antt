-- Acts of which each node notes the same, and a node traps in both or in none: acts of two nodes may change places.
use Rattle.std.proofs.Common.{◌≡◌, ℕ, zero, suc, List, [], ◌∷◌, ◌++◌, Bool, true, false, refl, sym, ap, ◌∙◌}
use Rattle.std.specs.Prelude.{cond, filter, nat_eq, ◌||◌}
use Rattle.std.proofs.lemmas.Bool.{and_parts, eqb-true}
use Rattle.lrc_trace.specs.declared.act.Act.{Act}
use Rattle.lrc_orders.specs.Notes.{is_noted_deed, is_note_of, notes_from}
use Rattle.lrc_orders.specs.Traps.{has_trap, is_trap}

pub record Alike (xs ys : List Act) : Type 0 where
  pub same : (node : ℕ) → filter (is_note_of node) xs ≡ filter (is_note_of node) ys
  pub traps : has_trap xs ≡ has_trap ys

pub alike_here : (xs : List Act) → Alike xs xs
alike_here xs = record { same = λ node. refl; traps = refl }

pub alike_on : {xs ys zs : List Act} → Alike xs ys → Alike ys zs → Alike xs zs
alike_on a b = record { same = λ node. a.same node ∙ b.same node; traps = a.traps ∙ b.traps }

pub alike_behind : (act : Act) {xs ys : List Act} → Alike xs ys → Alike (act ∷ xs) (act ∷ ys)
alike_behind act a = record {
  same = λ node. ap (λ l. cond (is_note_of node act) (act ∷ l) l) (a.same node);
  traps = ap (λ b. is_trap act.deed || b) a.traps;
}

pub alike_join : (xs : List Act) {ys zs : List Act} → Alike ys zs → Alike (xs ++ ys) (xs ++ zs)
alike_join [] a = a
alike_join (x ∷ xs) a = alike_behind x (alike_join xs a)

pub alike_is : {xs ys : List Act} → xs ≡ ys → Alike xs ys
alike_is e = record { same = λ node. ap (filter (is_note_of node)) e; traps = ap has_trap e }

either_first : (x y z : Bool) → (x || (y || z)) ≡ (y || (x || z))
either_first true true z = refl
either_first true false z = refl
either_first false true z = refl
either_first false false z = refl

swapped : (x y : Bool) (a b : Act) (l : List Act) → (x ≡ true → y ≡ true → ⊥)
    → cond x (a ∷ cond y (b ∷ l) l) (cond y (b ∷ l) l) ≡ cond y (b ∷ cond x (a ∷ l) l) (cond x (a ∷ l) l)
swapped true true a b l never = absurd (never refl refl)
swapped true false a b l never = refl
swapped false true a b l never = refl
swapped false false a b l never = refl

noted_of : (node : ℕ) (act : Act) → is_note_of node act ≡ true → act.node ≡ node
noted_of node act e = eqb-true act.node node ((and_parts (nat_eq act.node node) (is_noted_deed act.deed) e).0)

pub alike_swap : (a b : Act) (xs : List Act) → (a.node ≡ b.node → ⊥) → Alike (a ∷ b ∷ xs) (b ∷ a ∷ xs)
alike_swap a b xs apart = record {
  same = λ node. swapped (is_note_of node a) (is_note_of node b) a b (filter (is_note_of node) xs)
      (λ e f. apart (noted_of node a e ∙ sym (noted_of node b f)));
  traps = either_first (is_trap a.deed) (is_trap b.deed) (has_trap xs);
}

pub notes_alike : {xs ys : List Act} → Alike xs ys → (count first : ℕ) → notes_from first count xs ≡ notes_from first count ys
notes_alike a zero first = refl
notes_alike {xs} {ys} a (suc count) first =
    ap (λ l. l ++ notes_from (suc first) count xs) (a.same first)
    ∙ ap (λ l. filter (is_note_of first) ys ++ l) (notes_alike a count (suc first))
