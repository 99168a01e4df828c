-- The notes of several nodes, one after another.
use Rattle.std.proofs.Common.{◌≡◌, ℕ, zero, suc, ◌+◌, List, [], ◌++◌, refl, sym, ◌∙◌, ap, arith, add-one, append_assoc}
use Rattle.std.specs.Prelude.{filter}
use Rattle.lrc_trace.specs.declared.act.Act.{Act}
use Rattle.lrc_orders.specs.Notes.{is_note_of, notes_from, notes_of}
use Rattle.lrc_orders.proofs.Noting.{no_more}

-- those of the last node stand last
last_node : (count first : ℕ) (acts : List Act) → notes_from first (suc count) acts ≡ notes_from first count acts ++ filter (is_note_of (first + count)) acts
last_node zero first acts = no_more (filter (is_note_of first) acts) ∙ ap (λ n. filter (is_note_of n) acts) (let e : first ≡ first + 0 = omega arith in e)
last_node (suc count) first acts =
    let own = filter (is_note_of first) acts in
    let sum : suc first + count ≡ first + suc count = omega arith in
    ap (λ l. own ++ l) (last_node count (suc first) acts)
    ∙ sym (append_assoc own (notes_from (suc first) count acts) (filter (is_note_of (suc first + count)) acts))
    ∙ ap (λ n. (own ++ notes_from (suc first) count acts) ++ filter (is_note_of n) acts) sum

pub one_node_more : (nodes : ℕ) (acts : List Act) → notes_of (nodes + 1) acts ≡ notes_of nodes acts ++ filter (is_note_of nodes) acts
one_node_more nodes acts =
    let same : 0 + nodes ≡ nodes = omega arith in
    ap (λ n. notes_of n acts) (add-one nodes) ∙ last_node nodes 0 acts ∙ ap (λ n. notes_of nodes acts ++ filter (is_note_of n) acts) same
