-- What says more behind the line of a fault.
use Rattle.std.proofs.Common.{◌≡◌, ◌⊎◌, inl, inr, Bool, true, false, ℕ, List, Option, Some, None, Result, Ok, Err, Vec, IfOk, IfSome, OnErr, refl, subst, sym}
use Rattle.std.specs.Io.KnownBytes.{Keeps}
use Rattle.std.specs.declared.alloc.AllocError.{AllocError}
use Rattle.std.specs.declared.alloc.Global.{Global}
use Rattle.lrc_shell_more.specs.More.{IsMoreTold, unread_seen}
use Rattle.lrc_shell_more.specs.declared.more.Unread.{Unread}
use Rattle.lrc_shell_sources.specs.Lines.{IsTold, memory_line}

-- a writer to which nothing is written keeps its bytes
pub same : (held : Option (List ℕ)) → Keeps held held
same None = tt
same (Some bytes) = refl

-- on a terminal these lines are written, or that there was no memory for them
told_on : (lines : Result (Vec ℕ Global) AllocError) (what : List ℕ) (err err' : Option (List ℕ)) → IfOk lines (λ lines. lines.items ≡ what)
    → IfOk lines (λ lines. IsTold err err' lines.items) → OnErr lines (IsTold err err' memory_line)
    → IsMoreTold true (λ lines. lines ≡ what) err err'
told_on (Ok lines) what err err' is told none = inr (lines.items, is, told)
told_on (Err error) what err err' is told none = inl none

pub told_there : (terminal : Bool) (lines : Result (Vec ℕ Global) AllocError) (what : List ℕ) (err err' : Option (List ℕ)) → terminal ≡ true
    → IfOk lines (λ lines. lines.items ≡ what) → IfOk lines (λ lines. IsTold err err' lines.items) → OnErr lines (IsTold err err' memory_line)
    → IsMoreTold terminal (λ lines. lines ≡ what) err err'
told_there terminal lines what err err' there is told none =
    subst (λ (terminal : Bool). IsMoreTold terminal (λ lines. lines ≡ what) err err') (sym there) (told_on lines what err err' is told none)

-- and elsewhere nothing
pub told_elsewhere : (terminal : Bool) (what : List ℕ) (err : Option (List ℕ)) → terminal ≡ false → IsMoreTold terminal (λ lines. lines ≡ what) err err
told_elsewhere terminal what err elsewhere =
    subst (λ (terminal : Bool). IsMoreTold terminal (λ lines. lines ≡ what) err err) (sym elsewhere) (same err)

-- a file of which more is told is one of the two that were read
pub named : (unread : Option Unread) (file report : List ℕ) → IfSome unread (λ unread. (unread.path.now ≡ file) ⊎ (unread.path.now ≡ report))
    → IfSome (unread_seen unread) (λ found. (found.0 ≡ file) ⊎ (found.0 ≡ report))
named (Some unread) file report is = is
named None file report is = is
