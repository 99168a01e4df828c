use Rattle.std.proofs.Common.{◌≡◌, ◌∷◌, [], Bor, List, None, Option, Some, subst, ℕ}
use Rattle.std.specs.Prelude.{Err, IfOk, Ok, Result, Vec}
use Rattle.std.specs.Option.{option_copied}
use Rattle.std.specs.declared.alloc.Global.{Global}
use Rattle.lrc_trace.specs.declared.act.Act.{Act}
use Rattle.lrc_judge.specs.Allowed.{AreAllowed}
use Rattle.lrc_judge_all.specs.Known.{IsKept, IsKeptAt, IsKeptOf}
use Rattle.lrc_judge_all.specs.declared.kept.Kept.{Kept}
use Rattle.lrc_judge_all.proofs.MayGive.{allowed_any, allowed_one, may_latest, may_none}
use Rattle.lrc_judge_all.proofs.misreads.allowed_of.Goals as goal

-- what follows of the value that there is
if_ok : {T E : Type 0} (r : Result T E) (P Q : T → Type 0) → ((v : T) → P v → Q v) → IfOk r P → IfOk r Q
if_ok (Ok v) P Q step h = step v h
if_ok (Err e) P Q step h = h

-- the list has what a read may give, wherever so much is kept
abbrev AllowsAll : Option (Bor Kept) → Vec ℕ Global → Type 0
AllowsAll kept values =
    (run : List Act) (position word : ℕ) → IsKeptAt run position word (option_copied kept) → AreAllowed run position word values.items

pub returns-in-None : goal.returns-in-None
returns-in-None c =
    if_ok c.one_value.result (λ (v : Vec ℕ Global). v.items ≡ 0 ∷ []) (AllowsAll c.args.kept)
    (λ v same run position word (known, exact, is).
    let none : IsKept run known word None = subst (λ (o : Option (Bor Kept)). IsKept run known word (option_copied o)) c.in-None.is is in
    allowed_one run position word known exact v.items 0 same (may_none run position word known exact none))
    c.one_value.ensures

pub returns-then-kept : goal.returns-then-kept
returns-then-kept c =
    let e : c.args.kept ≡ Some c.in-Some.kept = cc in
    if_ok c.one_value-then-kept.result (λ (v : Vec ℕ Global). v.items ≡ c.in-Some.kept.now.latest ∷ []) (AllowsAll c.args.kept)
    (λ v same run position word (known, exact, is).
    let kept : IsKeptOf run known word c.in-Some.kept.now = subst (λ (o : Option (Bor Kept)). IsKept run known word (option_copied o)) e is in
    allowed_one run position word known exact v.items c.in-Some.kept.now.latest same
    (may_latest run position word known exact c.in-Some.kept.now kept c.if-kept.true))
    c.one_value-then-kept.ensures

pub returns-else-kept : goal.returns-else-kept
returns-else-kept c =
    let e : c.args.kept ≡ Some c.in-Some.kept = cc in
    if_ok c.listed.result (λ (v : Vec ℕ Global). v.items ≡ c.in-Some.kept.now.values.keys) (AllowsAll c.args.kept)
    (λ v same run position word (known, exact, is).
    let kept : IsKeptOf run known word c.in-Some.kept.now = subst (λ (o : Option (Bor Kept)). IsKept run known word (option_copied o)) e is in
    allowed_any run position word known exact c.in-Some.kept.now kept v.items same c.listed.ensures.ordered c.if-kept.false)
    c.listed.ensures.items
