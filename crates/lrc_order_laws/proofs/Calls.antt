-- What the text does next to a lock fits its token.
use Rattle.std.proofs.Common.{◌≡◌, ℕ, true, false, refl, sym, subst, ◌∙◌}
use Rattle.std.specs.Prelude.{Some}
use Rattle.lrc_exec.specs.Meaning.{Thread, acquires, releases}
use Rattle.lrc_lock.specs.declared.state.LockState.{LockState}
use Rattle.lrc_lock.specs.declared.state.LockState.TheVariants.{Away, Awaited, Free, Held}
use Rattle.lrc_lock.specs.Held.{HeldRecord, lock_at, is_free, is_held}
use Rattle.lrc_protocol.specs.Node.{Course, Wait, nothing, grant}
use Rattle.lrc_order_laws.specs.Waiting.{acquiring}
use Rattle.lrc_protocol.specs.Node.{next_in}
use Rattle.lrc_order_laws.specs.Tokens.{HoldsTokens, AwaitsOne}
use Rattle.lrc_lock.specs.Held.{is_awaited}
use Rattle.lrc_order_laws.proofs.Counts.{lock_next}
use Rattle.lrc_order_laws.proofs.Holding.{Stands, stands}
use Rattle.lrc_order_laws.proofs.Tokens.{awaits_it}

-- a text acquires no lock that it holds, and releases none that it doesn't hold
pub acquired : (c : Course) (held : HeldRecord) (lock : ℕ) → HoldsTokens c held → acquiring (next_in c) ≡ Some lock → is_held (lock_at held lock) ≡ false
acquired c held lock h n =
    let next : (x : Thread) × (next_in c ≡ Some (acquires lock x)) = lock_next (next_in c) lock n in
    let at : Stands c (acquires lock next.0) = stands c (acquires lock next.0) next.1 in
    sym (h at.thread at.course_is lock) ∙ at.leads_so.free

pub let_go : (c : Course) (held : HeldRecord) (lock : ℕ) (after : Thread) → HoldsTokens c held → next_in c ≡ Some (releases lock after)
    → is_held (lock_at held lock) ≡ true
let_go c held lock after h n =
    let at : Stands c (releases lock after) = stands c (releases lock after) n in
    sym (h at.thread at.course_is lock) ∙ at.leads_so.holding

pub granted_is_awaited : (w : Wait) (held : HeldRecord) (lock : ℕ) → AwaitsOne w held → w ≡ grant lock → is_awaited (lock_at held lock) ≡ true
granted_is_awaited w held lock a e = awaits_it held lock (subst (λ w. AwaitsOne w held) e a)

away_by : (s : LockState) → is_held s ≡ false → is_free s ≡ false → is_awaited s ≡ false → s ≡ Away
away_by Away h f a = refl
away_by (Awaited successor) h f a = cc
away_by (Free kept) h f a = cc
away_by (Held successor) h f a = cc

-- a token that the text acquires next is away where it is not free, as long as nothing is awaited
pub asked_is_away : (c : Course) (w : Wait) (held : HeldRecord) (lock : ℕ) → HoldsTokens c held → AwaitsOne w held → w ≡ nothing
    → acquiring (next_in c) ≡ Some lock → is_free (lock_at held lock) ≡ false → lock_at held lock ≡ Away
asked_is_away c w held lock h a e n f =
    away_by (lock_at held lock) (acquired c held lock h n) f (subst (λ w. AwaitsOne w held) e a lock)
