-- What a deed read, the act of a text beside its effect, and what an episode of the barrier leaves once it is over.
use Rattle.std.proofs.Common.{◌≡◌, ℕ, suc, List, Bool, sym, ap, subst}
use Rattle.std.specs.Prelude.{Option, Some, if◌then◌else◌}
use Rattle.std.proofs.lemmas.Option.{same_Some}
use Rattle.lrc_trace.specs.declared.act.Deed.{Deed}
use Rattle.lrc_trace.specs.declared.act.Deed.TheVariants.{Read}
use Rattle.lrc_exec.specs.Meaning.{Next, next_of}
use Rattle.lrc_protocol.specs.Node.{Letter, Course, going, trapped, ended, Node, Effect, makes, acts_by, next_in}
use Rattle.lrc_exact.specs.Rule.{Shape, State, with_learned, known_by_all, collects, collected, departed}
use Rattle.lrc_exact_collecting.specs.Left.{dropped_by, left_by, left_after}

abbrev pub read_word : Deed → ℕ
read_word (Read word value) = word
read_word _ = 0

abbrev pub read_value : Deed → ℕ
read_value (Read word value) = value
read_value _ = 0

-- what holds of the effect of what a text does next holds of the effect of its act
pub acts_by-as : (P : Effect → Type 0) (letters : List Letter) (x : Node) (c : Course) (next : Next) → next_in c ≡ Some next → P (makes letters x next)
    → P (acts_by letters x c)
acts_by-as P letters x (going thread) next n p = subst (λ next. P (makes letters x next)) (sym (same_Some (next_of thread) next n)) p
acts_by-as P letters x (trapped cause) next n p = cc
acts_by-as P letters x ended next n p = cc

-- a depart from a barrier that does not collect learns, and no more; one from a barrier that collects drops
pub departs_so : (shape : Shape) (state : State) (arrived : ℕ → Option State) (b : Bool) → collects shape arrived ≡ b
    → departed shape state arrived
    ≡ (if b
    then collected shape (known_by_all shape.nodes shape.nodes arrived) arrived (with_learned shape.nodes (known_by_all shape.nodes shape.nodes arrived) state)
    else with_learned shape.nodes (known_by_all shape.nodes shape.nodes arrived) state)
departs_so shape state arrived b e =
    let all = known_by_all shape.nodes shape.nodes arrived in
    let learned = with_learned shape.nodes all state in
    ap (λ b. if b then collected shape all arrived learned else learned) e

-- what is left once an episode is over
pub left_then : (shape : Shape) (arrived : ℕ → ℕ → Option State) (number : ℕ) (b : Bool) → collects shape (arrived number) ≡ b
    → left_by shape arrived (suc number)
    ≡ (λ word. if b
    then left_after shape (dropped_by shape arrived number) (known_by_all shape.nodes shape.nodes (arrived number)) (arrived number) (left_by shape arrived number) word
    else left_by shape arrived number word)
left_then shape arrived number b e =
    let after : Bool → ℕ → ℕ = λ b word. if b
    then left_after shape (dropped_by shape arrived number) (known_by_all shape.nodes shape.nodes (arrived number)) (arrived number) (left_by shape arrived number) word
    else left_by shape arrived number word in
    ap after e
