-- In a core within the limits the numbers of the translation's own names are small.
use Rattle.std.proofs.Common.{◌≡◌, ◌≤◌, ◌<◌, ◌+◌, ◌⊎◌, inl, inr, ℕ, refl, arith}
use Rattle.std.specs.Prelude.{max}
use Rattle.lrc_named_core.specs.Tree.{Private, Expression, number, private, me, nodes, binary, Origin, Statement, Block, empty, next}
use Rattle.lrc_named_core.specs.Tree.{assign, read, write, acquire, release, barrier, print, if_else, while_do}
use Rattle.lrc_named_limits.specs.Limits.{IsBeyond, IsOverIn, IsOverInBlock, greatest_own, own_number}
use Rattle.lrc_named_limits.specs.declared.excess.Excess.{Excess}
use Rattle.lrc_named_limits.specs.declared.excess.Limit.TheVariants.{Names}
use Rattle.lrc_named_laws.proofs.Cores.{AreFit, IsFit, IsFitStatement}

abbrev pub IsNone : (Excess → Type 0) → Type 0
IsNone IsSuch = (x : Excess) → IsSuch x → ⊥

abbrev at : Origin → Excess
at o = record { at = o.statement; limit = Names }

module _ (privates : ℕ) (IsSuch IsTold : Private → Type 0) (told : (name : Private) → IsSuch name → (IsBeyond privates (own_number name) → ⊥) → IsTold name) where
  less : (a b : ℕ) → a ≤ b → (IsBeyond privates b → ⊥) → IsBeyond privates a → ⊥
  less a b le room h = let some = h.0 in let beyond = h.1 in room (omega (arith, le, some), omega (arith, le, beyond))

  expression_told : (e : Expression) → IsFit IsSuch e → (IsBeyond privates (greatest_own e) → ⊥) → IsFit IsTold e
  expression_told (number n) fit room = fit
  expression_told (private name) fit room = told name fit room
  expression_told me fit room = tt
  expression_told nodes fit room = tt
  expression_told (binary left o right) fit room = (
    expression_told left fit.0 (less (greatest_own left) (max (greatest_own left) (greatest_own right)) (omega arith) room),
    expression_told right fit.1 (less (greatest_own right) (max (greatest_own left) (greatest_own right)) (omega arith) room),
  )

  mutual
    statement_told : (depth : ℕ) (s : Statement) → IsFitStatement IsSuch s → IsNone (IsOverIn privates depth s) → IsFitStatement IsTold s
    statement_told depth (assign o name value) fit none =
        (told name fit.0 (λ h. none (at o) (refl, inl h)), expression_told value fit.1 (λ h. none (at o) (refl, inr h)))
    statement_told depth (read o name word) fit none =
        (told name fit.0 (λ h. none (at o) (refl, inl h)), expression_told word fit.1 (λ h. none (at o) (refl, inr h)))
    statement_told depth (write o word value) fit none =
        (expression_told word fit.0 (λ h. none (at o) (refl, inl h)), expression_told value fit.1 (λ h. none (at o) (refl, inr h)))
    statement_told depth (acquire o word) fit none = expression_told word fit (λ h. none (at o) (refl, h))
    statement_told depth (release o word) fit none = expression_told word fit (λ h. none (at o) (refl, h))
    statement_told depth (barrier o) fit none = tt
    statement_told depth (print o value) fit none = expression_told value fit (λ h. none (at o) (refl, h))
    statement_told depth (if_else o condition first second) fit none = (
      expression_told condition fit.0 (λ h. none (at o) (inl (refl, inl h))),
      all_told (depth + 1) first fit.1 (λ x h. none x (inr (inl h))),
      all_told (depth + 1) second fit.2 (λ x h. none x (inr (inr h))),
    )
    statement_told depth (while_do o condition inside) fit none =
        (expression_told condition fit.0 (λ h. none (at o) (inl (refl, inl h))), all_told (depth + 1) inside fit.1 (λ x h. none x (inr h)))

    pub all_told : (depth : ℕ) (b : Block) → AreFit IsSuch b → IsNone (IsOverInBlock privates depth b) → AreFit IsTold b
    all_told depth empty fit none = tt
    all_told depth (next first others) fit none =
        (statement_told depth first fit.0 (λ x h. none x (inl h)), all_told depth others fit.1 (λ x h. none x (inr h)))
