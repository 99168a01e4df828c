-- Statements that lie in code stay there as the code grows.
use Rattle.std.proofs.Common.{◌≡◌, ℕ, zero, suc, ◌-◌, ◌≤◌, List, [], ◌∷◌, ◌++◌, length, Some, refl}
use Rattle.std.proofs.Common.{sym, ap, ◌∙◌, subst, arith, append_assoc, length-append}
use Rattle.std.specs.Prelude.{slice_get, slice_set}
use Rattle.std.specs.Borrow.{Bor}
use Rattle.std.proofs.Math.Seq.{set-append_seam}
use Rattle.lrc_program.specs.declared.Statement.{Statement}
use Rattle.lrc_program.specs.declared.Statement.TheVariants.{Assign, Read, Write, Acquire, Release, Barrier, Print, If', While', If, While}
use Rattle.lrc_exec.specs.declared.code.Instruction.{Instruction}
use Rattle.lrc_exec.specs.Laid.{choice, loop, nothing, plainly, IsLaid, IsStraight}
use Rattle.lrc_exec.proofs.Flat.{if_made, leading, slice_get-behind, slice_get-seam, while_made}

-- the instructions from an index on stand in other code too
abbrev StandIn : (old new : List Instruction) → ℕ → Type 0
StandIn old new from = (k : ℕ) (i : Instruction) → from ≤ k → slice_get old k ≡ Some i → slice_get new k ≡ Some i

-- so what lies there lies in that
pub laid_on : (old new : List Instruction) (from to : ℕ) {statements : List Statement} {next place : ℕ} → to ≤ from → StandIn old new from
    → IsLaid old from statements next place → IsLaid new to statements next place
laid_on old new from to le stand (nothing next) = nothing next
laid_on old new from to le stand (plainly k i s behind next past here is straight rest) =
    plainly k i s behind next (omega arith) (stand k i past here) is straight (laid_on old new from to le stand rest)
laid_on old new from to le stand (choice k i e a b behind next past here is first second rest) =
    choice k i e a b behind next (omega arith) (stand k i past here) is (laid_on old new from to le stand first)
    (laid_on old new from to le stand second) (laid_on old new from to le stand rest)
laid_on old new from to le stand (loop k i e a behind next past here is body back rest) =
    loop k i e a behind next (omega arith) (stand k i past here) is (laid_on old new from to le stand body) back (laid_on old new from to le stand rest)

-- statements that lie before others
pub laid_before : (code : List Instruction) (from : ℕ) {first : List Statement} (rest : List Statement) {mid place : ℕ} (next : ℕ)
    → IsLaid code from first mid place → IsLaid code from rest next mid → IsLaid code from (first ++ rest) next place
laid_before code from rest next (nothing mid) behind = behind
laid_before code from rest next (plainly k i s more mid past here is straight own) behind =
    plainly k i s (more ++ rest) next past here is straight (laid_before code from rest next own behind)
laid_before code from rest next (choice k i e a b more mid past here is first second own) behind =
    choice k i e a b (more ++ rest) next past here is first second (laid_before code from rest next own behind)
laid_before code from rest next (loop k i e a more mid past here is body back own) behind =
    loop k i e a (more ++ rest) next past here is body back (laid_before code from rest next own behind)

-- an instruction stands in longer code
slice_get-longer : (a b : List Instruction) (k : ℕ) (i : Instruction) → slice_get a k ≡ Some i → slice_get (a ++ b) k ≡ Some i
slice_get-longer [] b k i is = cc
slice_get-longer (j ∷ a) b zero i is = is
slice_get-longer (j ∷ a) b (suc k) i is = slice_get-longer a b k i is

pub stand_longer : (old new more : List Instruction) (from : ℕ) → new ≡ old ++ more → StandIn old new from
stand_longer old new more from grown k i past is = ap (λ c. slice_get c k) grown ∙ slice_get-longer old more k i is

-- a statement that is no condition
pub is_straight : (s : Statement) → ((e : _) (a b : _) → s ≡ If e a b → ⊥) → ((e : _) (a : _) → s ≡ While e a → ⊥) → IsStraight s
is_straight (Assign name value) not_if not_while = tt
is_straight (Read name word) not_if not_while = tt
is_straight (Write word value) not_if not_while = tt
is_straight (Acquire lock) not_if not_while = tt
is_straight (Release lock) not_if not_while = tt
is_straight Barrier not_if not_while = tt
is_straight (Print value) not_if not_while = tt
is_straight (If' e p a q b) not_if not_while = absurd (not_if e _ _ (if_made e p a q b))
is_straight (While' e p a) not_if not_while = absurd (not_while e _ (while_made e p a))

-- where an instruction is put at the end, its statement lies there
module _ (code : List Instruction) (s : Bor Statement) (next : ℕ) where
  last_place : (i : Instruction) → suc (length code) ≡ length (code ++ i ∷ [])
  last_place i = omega (arith, length-append code (i ∷ []))

  pub laid_straight : ((e : _) (a b : _) → s.now ≡ If e a b → ⊥) → ((e : _) (a : _) → s.now ≡ While e a → ⊥)
      → IsLaid (code ++ leading s next next next ∷ []) (length code) (s.now ∷ []) next (length (code ++ leading s next next next ∷ []))
  laid_straight not_if not_while =
      let i = leading s next next next in
      subst (IsLaid (code ++ i ∷ []) (length code) (s.now ∷ []) next) (last_place i)
      (plainly (length code) i s.now [] next (omega arith) (slice_get-seam code [] i) refl (is_straight s.now not_if not_while) (nothing next))

  pub laid_choice : (base : ℕ) (then otherwise : ℕ) (e : _) (a b : _) → base ≤ length code → s.now ≡ If e a b
      → IsLaid (code ++ leading s next then otherwise ∷ []) base a.items next then
      → IsLaid (code ++ leading s next then otherwise ∷ []) base b.items next otherwise
      → IsLaid (code ++ leading s next then otherwise ∷ []) base (If e a b ∷ []) next (length (code ++ leading s next then otherwise ∷ []))
  laid_choice base then otherwise e a b le is first second =
      let i = leading s next then otherwise in
      subst (IsLaid (code ++ i ∷ []) base (If e a b ∷ []) next) (last_place i)
      (choice (length code) i e a b [] next le (slice_get-seam code [] i) is first second (nothing next))

-- and where that of a loop is written, once its body lies behind it
pub laid_loop : (old c2 more : List Instruction) (s : Bor Statement) (e : _) (a : _) (next then : ℕ) → s.now ≡ While e a
    → c2 ≡ (old ++ leading s next next next ∷ []) ++ more
    → IsLaid c2 (length (old ++ leading s next next next ∷ [])) a.items (length (old ++ leading s next next next ∷ [])) then
    → IsLaid (slice_set c2 (length (old ++ leading s next next next ∷ []) - 1) (leading s next then next)) (length old) (While e a ∷ []) next (length (old
    ++ leading s next next next ∷ []))
laid_loop old c2 more s e a next then is grown laid =
    let before = leading s next next next in
    let after = leading s next then next in
    let code = old ++ after ∷ more in
    let long : length (old ++ before ∷ []) ≡ suc (length old) = omega (arith, length-append old (before ∷ [])) in
    let grown' : c2 ≡ old ++ before ∷ more = grown ∙ append_assoc old (before ∷ []) more in
    let here : length (old ++ before ∷ []) - 1 ≡ length old = omega arith in
    let whole : slice_set c2 (length (old ++ before ∷ []) - 1) after ≡ code =
    ap (λ c. slice_set c (length (old ++ before ∷ []) - 1) after) grown'
    ∙ ap (λ n. slice_set (old ++ before ∷ more) n after) here
    ∙ set-append_seam old before more after in
    let stand : StandIn c2 code (length (old ++ before ∷ [])) =
    λ k i past at. sym (slice_get-behind old more before after k (omega arith)) ∙ ap (λ c. slice_get c k) (sym grown') ∙ at in
    let body : IsLaid code (length old) a.items (length (old ++ before ∷ [])) then =
    laid_on c2 code (length (old ++ before ∷ [])) (length old) (omega arith) stand laid in
    let body' : IsLaid code (length old) a.items (suc (length old)) then = subst (λ n. IsLaid code (length old) a.items n then) long body in
    subst (λ c. IsLaid c (length old) (While e a ∷ []) next (length (old ++ before ∷ []))) (sym whole)
    (subst (IsLaid code (length old) (While e a ∷ []) next) (sym long)
    (loop (length old) after e a [] next (omega arith) (slice_get-seam old more after) is body' refl (nothing next)))
