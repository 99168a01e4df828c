-- The text of a report that is written part by part.
use Rattle.std.proofs.Common.{◌≡◌, ◌≢◌, ◌∙◌, ◌<◌, ◌≤◌, ◌+◌, ◌==◌, ℕ, Bool, cond, true, false, suc, refl, sym, ap, ap₂}
use Rattle.std.proofs.Common.{arith, List, [], ◌∷◌, ◌++◌, length, take, get_or, set, Vec, append-nil}
use Rattle.std.specs.declared.alloc.Global.{Global}
use Rattle.std.specs.List.{flat_map}
use Rattle.std.proofs.lemmas.Bool.{eqb-true, eqb-false}
use Rattle.std.proofs.lemmas.List.{get_or-map, get_or-set_other, get_or-set_same, length-map, map-set, take_more}
use Rattle.std.proofs.lemmas.List.Concat.{flat_map-append}
use Rattle.lrc_trace.specs.declared.act.Act.{Act}
use Rattle.lrc_trace.specs.declared.act.Deed.{Deed}
use Rattle.lrc_trace.specs.declared.act.Deed.TheVariants.{Print}
use Rattle.lrc_trace.specs.declared.end.End.{End}
use Rattle.lrc_text.specs.Parts.{texts_of, whole_text}
use Rattle.lrc_report.specs.ReportText.{deed_line, line_of_act, node_text, nodes_text}

abbrev Part : Type 0
Part = Vec ℕ Global

-- a part changes
pub part_set : (parts : List Part) (node : ℕ) (part : Part) → node < length parts → get_or (texts_of (set parts node part)) node [] ≡ part.items
part_set parts node part lt =
    ap (λ l. get_or l node []) (map-set (λ (p : Part). p.items) parts node part)
    ∙ get_or-set_same (texts_of parts) node part.items [] (omega (arith, length-map parts (λ (p : Part). p.items)))

-- and the others stay
pub part_kept : (parts : List Part) (node k : ℕ) (part : Part) → k ≢ node → get_or (texts_of (set parts node part)) k [] ≡ get_or (texts_of parts) k []
part_kept parts node k part apart =
    ap (λ l. get_or l k []) (map-set (λ (p : Part). p.items) parts node part) ∙ get_or-set_other (texts_of parts) node k part.items [] apart

pub part_at : (parts : List Part) (k : ℕ) (part : Part) → k < length parts → part ≡ get_or parts k part → get_or (texts_of parts) k [] ≡ part.items
part_at parts k part lt is = get_or-map (λ (p : Part). p.items) parts k part [] lt ∙ ap (λ (p : Part). p.items) (sym is)

-- the lines of one act more
pub lines_more : (k : ℕ) (acts : List Act) (i : ℕ) (d : Act) → i < length acts
    → flat_map (line_of_act k) (take (i + 1) acts) ≡ flat_map (line_of_act k) (take i acts) ++ line_of_act k (get_or acts i d)
lines_more k acts i d lt =
    ap (flat_map (line_of_act k)) (take_more acts i d lt) ∙ flat_map-append (line_of_act k) (take i acts) (get_or acts i d ∷ [])
    ∙ ap (λ l. flat_map (line_of_act k) (take i acts) ++ l) (append-nil (line_of_act k (get_or acts i d)))

-- a print goes on the lines of its node, and on no other's
pub print_here : (parts : List Part) (act : Act) (k node value : ℕ) (part old : Part) → node ≡ act.node → act.deed ≡ Print value → node < length parts
    → old ≡ get_or parts node old → part.items ≡ old.items ++ deed_line node (Print value)
    → get_or (texts_of (set parts node part)) k [] ≡ get_or (texts_of parts) k [] ++ line_of_act k act
print_here parts act k node value part old own prints lt is grown = go (act.node == k) refl
  where
    go : (b : Bool) → (act.node == k) ≡ b → get_or (texts_of (set parts node part)) k [] ≡ get_or (texts_of parts) k [] ++ cond b (deed_line k act.deed) []
    go true e =
        let same : node ≡ k = own ∙ eqb-true act.node k e in
        ap (λ j. get_or (texts_of (set parts node part)) j []) (sym same) ∙ part_set parts node part lt ∙ grown
        ∙ ap₂ ◌++◌ (sym (part_at parts node old lt is) ∙ ap (λ j. get_or (texts_of parts) j []) same) (ap₂ deed_line same (sym prints))
    go false e =
        let apart : k ≢ node = λ s. eqb-false act.node k e (sym own ∙ sym s) in
        part_kept parts node k part apart ∙ sym (append-nil (get_or (texts_of parts) k []))

-- a print of a node that is not there is on no line
pub print_nowhere : (act : Act) (k n : ℕ) → n ≤ act.node → k < n → line_of_act k act ≡ []
print_nowhere act k n high low = go (act.node == k) refl
  where
    go : (b : Bool) → (act.node == k) ≡ b → cond b (deed_line k act.deed) [] ≡ []
    go true e = let same : act.node ≡ k = eqb-true act.node k e in absurd (omega arith)
    go false e = refl

-- no other deed is a line
pub quiet_line : (act : Act) (k : ℕ) → ((value : ℕ) → act.deed ≡ Print value → ⊥) → line_of_act k act ≡ []
quiet_line act k quiet = go (act.node == k)
  where
    none : (deed : Deed) → ((value : ℕ) → deed ≡ Print value → ⊥) → deed_line k deed ≡ []
    none (Print value) h = absurd (h value refl)
    none _ h = refl

    go : (b : Bool) → cond b (deed_line k act.deed) [] ≡ []
    go true = none act.deed quiet
    go false = refl

-- parts that are the nodes' texts make up the report
pub whole_is : (acts : List Act) (node : ℕ) (parts : List Part) (ends : List End) (d : End) → length parts ≡ length ends
    → ((k : ℕ) → k < length ends → get_or (texts_of parts) k [] ≡ node_text acts (node + k) (get_or ends k d))
    → whole_text parts ≡ nodes_text acts node ends
whole_is acts node [] [] d same each = refl
whole_is acts node [] (end ∷ ends) d same each = absurd (omega arith)
whole_is acts node (part ∷ parts) [] d same each = absurd (omega arith)
whole_is acts node (part ∷ parts) (end ∷ ends) d same each =
    let first : part.items ≡ node_text acts node end = each 0 (omega arith) ∙ ap (λ n. node_text acts n end) (omega arith) in
    ap₂ ◌++◌ first (whole_is acts (node + 1) parts ends d (omega arith)
    (λ k lt. each (suc k) (omega arith) ∙ ap (λ n. node_text acts n (get_or ends k d)) (omega arith)))
