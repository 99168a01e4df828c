-- How statements lie in flat code.
use Rattle.std.specs.Prelude.{◌≡◌, ℕ, suc, ◌≤◌, Some, List, [], ◌∷◌, Vec, slice_get}
use Rattle.std.specs.declared.alloc.Global.{Global}
use Rattle.lrc_program.specs.declared.Expression.{Expression}
use Rattle.lrc_program.specs.declared.Statement.{Statement}
use Rattle.lrc_program.specs.declared.Statement.TheVariants.{If', While', If, While}
use Rattle.lrc_exec.specs.declared.code.Instruction.{Instruction}

-- a statement without a condition
abbrev pub IsStraight : Statement → Type 0
IsStraight (If' condition p first q second) = ⊥
IsStraight (While' condition p body) = ⊥
IsStraight _ = Unit {0}

-- The statements lie from a place on, and after them a thread goes on at `next`. Each is that of the instruction at its place, and
-- those behind it lie from that one's next place on. The blocks of a choice lie from its two places on, and after both comes its
-- next place; after the body of a loop the loop comes again. All their instructions stand at an index or behind it.
pub data IsLaid (code : List Instruction) (index : ℕ) : List Statement → (next place : ℕ) → Type 0 where
  nothing : (next : ℕ) → IsLaid code index [] next next
  plainly : (k : ℕ) (instruction : Instruction) (statement : Statement) (behind : List Statement) (next : ℕ) → index ≤ k
      → slice_get code k ≡ Some instruction → instruction.statement.now ≡ statement → IsStraight statement
      → IsLaid code index behind next instruction.next → IsLaid code index (statement ∷ behind) next (suc k)
  choice : (k : ℕ) (instruction : Instruction) (condition : Expression) (first second : Vec Statement Global) (behind : List Statement) (next : ℕ)
      → index ≤ k → slice_get code k ≡ Some instruction → instruction.statement.now ≡ If condition first second
      → IsLaid code index first.items instruction.next instruction.then → IsLaid code index second.items instruction.next instruction.otherwise
      → IsLaid code index behind next instruction.next → IsLaid code index (If condition first second ∷ behind) next (suc k)
  loop : (k : ℕ) (instruction : Instruction) (condition : Expression) (body : Vec Statement Global) (behind : List Statement) (next : ℕ)
      → index ≤ k → slice_get code k ≡ Some instruction → instruction.statement.now ≡ While condition body
      → IsLaid code index body.items (suc k) instruction.then → instruction.otherwise ≡ instruction.next
      → IsLaid code index behind next instruction.next → IsLaid code index (While condition body ∷ behind) next (suc k)
