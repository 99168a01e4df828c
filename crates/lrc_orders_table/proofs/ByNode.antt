-- Notes that stand node by node.
use Rattle.std.proofs.Common.{◌≡◌, ℕ, zero, suc, ◌+◌, ◌<◌, ◌≤◌, Bool, true, false, List, [], ◌∷◌, ◌++◌, get_or, length, refl, sym, subst, ◌∙◌, ap, arith}
use Rattle.std.specs.Prelude.{cond, filter, nat_eq}
use Rattle.std.proofs.lemmas.Bool.{and_parts, eqb-true}
use Rattle.lrc_trace.specs.declared.act.Act.{Act}
use Rattle.lrc_orders.specs.Notes.{is_note_of, is_noted_deed, notes_from, notes_of}
use Rattle.lrc_orders_table.specs.Links.{StandByNode}
use Rattle.lrc_orders_table.proofs.Linking.{notes_fixed, notes_higher}

-- ---- they are of so many nodes

abbrev AreBelow : ℕ → List Act → Type 0
AreBelow node [] = Unit {0}
AreBelow node (x ∷ xs) = (x.node < node) × AreBelow node xs

below_on : (node : ℕ) (xs ys : List Act) → AreBelow node xs → AreBelow node ys → AreBelow node (xs ++ ys)
below_on node [] ys here there = there
below_on node (x ∷ xs) ys here there = (here.0, below_on node xs ys here.1 there)

below_if : (node : ℕ) (x : Act) (xs : List Act) (b : Bool) → (b ≡ true → x.node < node) → AreBelow node xs → AreBelow node (cond b (x ∷ xs) xs)
below_if node x xs true here rest = (here refl, rest)
below_if node x xs false here rest = rest

below_own : (node first : ℕ) (xs : List Act) → first < node → AreBelow node (filter (is_note_of first) xs)
below_own node first [] lt = tt
below_own node first (x ∷ xs) lt =
    below_if node x (filter (is_note_of first) xs) (is_note_of first x) (λ e.
    let here : x.node ≡ first = eqb-true x.node first ((and_parts (nat_eq x.node first) (is_noted_deed x.deed) e).0) in
    omega (arith, here, lt)) (below_own node first xs lt)

below_from : (count first node : ℕ) (xs : List Act) → first + count ≤ node → AreBelow node (notes_from first count xs)
below_from zero first node xs le = tt
below_from (suc count) first node xs le =
    below_on node (filter (is_note_of first) xs) (notes_from (suc first) count xs) (below_own node first xs (omega (arith, le)))
    (below_from count (suc first) node xs (omega (arith, le)))

below_at : (node : ℕ) (xs : List Act) (i : ℕ) (d : Act) → AreBelow node xs → i < length xs → (get_or xs i d).node < node
below_at node [] i d below within = absurd (omega (arith, within))
below_at node (x ∷ xs) zero d below within = below.0
below_at node (x ∷ xs) (suc i) d below within = below_at node xs i d below.1 (omega (arith, within))

pub node_below : (nodes : ℕ) (notes : List Act) (i : ℕ) (d : Act) → StandByNode nodes notes → i < length notes → (get_or notes i d).node < nodes
node_below nodes notes i d stand within =
    below_at nodes notes i d (subst (AreBelow nodes) stand (below_from nodes 0 nodes notes (omega arith))) within

-- ---- and so of more

more_none : (more first : ℕ) (notes : List Act) → ((node : ℕ) → first ≤ node → filter (is_note_of node) notes ≡ []) → notes_from first more notes ≡ []
more_none zero first notes none = refl
more_none (suc more) first notes none =
    ap (λ l. l ++ notes_from (suc first) more notes) (none first (omega arith))
    ∙ more_none more (suc first) notes (λ node le. none node (omega (arith, le)))

further_from : (most count first : ℕ) (notes : List Act) → count ≤ most → ((node : ℕ) → first + count ≤ node → filter (is_note_of node) notes ≡ [])
    → notes_from first most notes ≡ notes_from first count notes
further_from most zero first notes le none = more_none most first notes (λ node past. none node (omega (arith, past)))
further_from zero (suc count) first notes le none = absurd (omega (arith, le))
further_from (suc most) (suc count) first notes le none =
    ap (λ l. filter (is_note_of first) notes ++ l)
    (further_from most count (suc first) notes (omega (arith, le)) (λ node past. none node (omega (arith, past))))

pub stand_further : (nodes most : ℕ) (notes : List Act) → nodes ≤ most → StandByNode nodes notes → StandByNode most notes
stand_further nodes most notes le stand =
    further_from most nodes 0 notes le (λ node past.
    ap (filter (is_note_of node)) (sym stand) ∙ notes_higher nodes 0 node notes (omega (arith, past)))
    ∙ stand

-- ---- the notes of acts do, and no notes

pub stand_notes : (nodes : ℕ) (acts : List Act) → StandByNode nodes (notes_of nodes acts)
stand_notes nodes acts = notes_fixed nodes acts

pub stand_none : (nodes : ℕ) → StandByNode nodes []
stand_none nodes = more_none nodes 0 [] (λ node le. refl)
