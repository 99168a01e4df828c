-- Code that grows by an instruction for each statement.
use Rattle.std.proofs.Common.{◌≡◌, ℕ, ◌+◌, ◌≤◌, List, [], ◌∷◌, ◌++◌, Result, Ok, Err, ap, sym, subst, length, length-append, arith, refl}
use Rattle.std.specs.Prelude.{IfOk}
use Rattle.lrc_program.specs.declared.Expression.{Expression}
use Rattle.lrc_program.specs.declared.Statement.{Statement}
use Rattle.lrc_program.specs.declared.Statement.TheVariants.{Assign, Read, Write, Acquire, Release, Barrier, Print, If', While', If, While}
use Rattle.lrc_program.specs.Statements.{statement_of, block_of}
use Rattle.lrc_program.proofs.Trees.{row_of_hidden}
use Rattle.lrc_exec.specs.declared.code.Instruction.{Instruction}
use Rattle.lrc_exec.specs.Flat.{IsGrown, IsPut, statements_in, statements_in_statement}
use Rattle.lrc_exec.specs.Laid.{nothing, IsLaid}
use Rattle.lrc_exec.proofs.Laid.{laid_before, laid_on, stand_longer}
use Rattle.lrc_exec.proofs.Flat.{grown_none, grown_on, if_made, while_made}

-- how many statements stand in one without blocks, in a choice and in a loop
pub in_straight : (s : Statement) → ((e : _) (a b : _) → s ≡ If e a b → ⊥) → ((e : _) (a : _) → s ≡ While e a → ⊥)
    → statements_in_statement (statement_of s) ≡ 1
in_straight (Assign name value) not_if not_while = refl
in_straight (Read name word) not_if not_while = refl
in_straight (Write word value) not_if not_while = refl
in_straight (Acquire lock) not_if not_while = refl
in_straight (Release lock) not_if not_while = refl
in_straight Barrier not_if not_while = refl
in_straight (Print value) not_if not_while = refl
in_straight (If' e p a q b) not_if not_while = absurd (not_if e _ _ (if_made e p a q b))
in_straight (While' e p a) not_if not_while = absurd (not_while e _ (while_made e p a))

pub in_choice : (e : Expression) (a b : _)
    → statements_in_statement (statement_of (If e a b)) ≡ 1 + (statements_in (block_of a.items) + statements_in (block_of b.items))
in_choice e a b = omega (arith, ap statements_in (row_of_hidden a), ap statements_in (row_of_hidden b))

pub in_loop : (e : Expression) (a : _) → statements_in_statement (statement_of (While e a)) ≡ 1 + statements_in (block_of a.items)
in_loop e a = ap (λ n. 1 + n) (ap statements_in (row_of_hidden a))

-- code that has not grown, and that grew by a block and then by the statement before it
pub put_none : (code : List Instruction) (next : ℕ) → next ≤ length code → IsPut code code [] next next
put_none code next within = record { grown = grown_none code next within; each = omega arith; laid = nothing next }

-- code that has grown is no shorter
pub longer : (old new more : List Instruction) → new ≡ old ++ more → length old ≤ length new
longer old new more is = omega (arith, ap length is, length-append old more)

pub put_on : (old mid new : List Instruction) (s : Statement) (rest : List Statement) (next place entry : ℕ) → next ≤ length old
    → IsPut old mid rest next place → IsPut mid new (s ∷ []) place entry → IsPut old new (s ∷ rest) next entry
put_on old mid new s rest next place entry within p q = record {
  grown = grown_on old mid new (s ∷ []) rest next place entry within p.grown q.grown;
  each = omega (arith, p.each, q.each);
  laid =
      let first = laid_on new new (length mid) (length old) (longer old mid p.grown.more p.grown.grown) (λ k i past is. is) q.laid in
      let behind = laid_on mid new (length old) (length old) (omega arith) (stand_longer mid new q.grown.more (length old) q.grown.grown) p.laid in
      laid_before new (length old) rest next first behind;
}

-- where one instruction was put, the code has grown by it
pub put_one : {E : Type 0} (r : Result ℕ E) (base old new : List Instruction) (i : Instruction) (s : Statement) (next : ℕ)
    → IfOk r (λ place. place ≡ length new) → IfOk r (λ place. new ≡ old ++ i ∷ [])
    → IsGrown base (old ++ i ∷ []) (s ∷ []) next (length (old ++ i ∷ []))
    → length old + 1 ≡ length base + statements_in_statement (statement_of s)
    → IsLaid (old ++ i ∷ []) (length base) (s ∷ []) next (length (old ++ i ∷ [])) → IfOk r (λ place. IsPut base new (s ∷ []) next place)
put_one (Err e) base old new i s next place items grown long laid = tt
put_one (Ok p) base old new i s next place items grown long laid =
    rw place
    record {
      grown = subst (λ c. IsGrown base c (s ∷ []) next (length c)) (sym items) grown;
      each = omega (arith, ap length items, length-append old (i ∷ []), long);
      laid = subst (λ c. IsLaid c (length base) (s ∷ []) next (length c)) (sym items) laid;
    }
