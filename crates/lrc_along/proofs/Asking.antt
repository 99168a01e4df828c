-- What a node asks for, and the deed that it makes.
use Rattle.std.proofs.Common.{◌≡◌, ◌∙◌, Bool, true, false, List, [], ◌∷◌, Option, inl, inr, refl, sym, ap, subst, map}
use Rattle.lrc_program.specs.declared.Statement.{Statement}
use Rattle.lrc_trace.specs.declared.act.Deed.{Deed}
use Rattle.lrc_trace.specs.declared.act.Deed.TheVariants as deeds
use Rattle.lrc_exec.specs.declared.machine.Ask.{Ask}
use Rattle.lrc_exec.specs.declared.machine.Ask.TheVariants as asks
use Rattle.lrc_exec.specs.Ask.{ask_of, deed_asked}
use Rattle.lrc_exec.specs.Meaning.{Next, Thread, departs, first_act, next_of, next_of_statement}
use Rattle.std.specs.Prelude.{if◌then◌else◌}
use Rattle.lrc_exec.specs.Follows.{Goes, acquiring, arriving, departing, ending, printing, quietly, reading, releasing, trapping, writing}
use Rattle.lrc_lines.specs.Makes.{MakesNext, barrier, end, statement}
use Rattle.lrc_lines.specs.Standing.{Agrees}
use Rattle.lrc_lines.specs.Tasks.{Task}
use Rattle.lrc_lines.specs.Walks.{Walk}
use Rattle.lrc_along.specs.Asked.{IsAsked, bare}
use Rattle.lrc_along.specs.Due.{is_depart}
use Rattle.lrc_along.proofs.Turns.{IsOfNone, is_arrive}

goes_asked : (next : Next) (deed : Deed) (after : Option Thread) → Goes next deed after → IsAsked (ask_of next) deed
goes_asked next deed after quietly = inl refl
goes_asked next deed after printing = inl refl
goes_asked next deed after reading = inl refl
goes_asked next deed after writing = inl refl
goes_asked next deed after acquiring = inl refl
goes_asked next deed after releasing = inl refl
goes_asked next deed after arriving = inl refl
goes_asked next deed after departing = inr (refl, refl)
goes_asked next deed after trapping = inl refl
goes_asked next deed after ending = inl refl

-- what comes next to a thread at no barrier
next_is : (walk : Walk) (rest : List Statement) → Agrees walk → map (λ (task : Task). task.statement) walk.todo ≡ rest
    → next_of walk.thread ≡ first_act walk.thread rest
next_is walk rest agrees is =
    ap (λ b. if b then departs (record walk.thread { arrived = false }) else first_act walk.thread walk.thread.rest) agrees.1
    ∙ ap (first_act walk.thread) (sym agrees.0 ∙ is)

pub makes_asked : (walk : Walk) (deed : Deed) → Agrees walk → MakesNext walk deed → IsAsked (ask_of (next_of walk.thread)) deed
makes_asked walk deed agrees (statement {task = task} {more = more} {after = after} is goes) =
    let rest = map (λ (later : Task). later.statement) more in
    subst (λ next. IsAsked (ask_of next) deed) (sym (next_is walk (task.statement ∷ rest) agrees (ap (map (λ (t : Task). t.statement)) is)))
    (goes_asked (next_of_statement walk.thread task.statement rest) deed after goes)
makes_asked walk deed agrees (barrier {task = task} {more = more} is at) =
    let rest = map (λ (later : Task). later.statement) more in
    inr (
      ap ask_of (next_is walk (task.statement ∷ rest) agrees (ap (map (λ (t : Task). t.statement)) is))
          ∙ ap (λ s. ask_of (next_of_statement walk.thread s rest)) at,
      refl,
    )
makes_asked walk deed agrees (end is) =
    inl (ap (λ next. bare (deed_asked 0 (ask_of next))) (next_is walk [] agrees (ap (map (λ (t : Task). t.statement)) is)))

-- ---- two deeds that are asked for

departs_so : (deed : Deed) → is_depart deed ≡ true → deed ≡ deeds.Depart
departs_so deeds.Depart h = refl
departs_so deeds.Quiet h = cc
departs_so (deeds.Print v) h = cc
departs_so (deeds.Read w v) h = cc
departs_so (deeds.Write w v) h = cc
departs_so (deeds.Acquire l) h = cc
departs_so (deeds.Release l) h = cc
departs_so deeds.Arrive h = cc
departs_so (deeds.Trap c) h = cc
departs_so deeds.End h = cc

-- they are the same, values aside, where both depart or none
pub same_deed : (ask : Ask) (one other : Deed) → IsAsked ask one → IsAsked ask other → is_depart one ≡ is_depart other → bare one ≡ bare other
same_deed ask one other (inl a) (inl b) same = sym a ∙ b
same_deed ask one other (inr a) b same = ap bare (a.1 ∙ sym (departs_so other (sym same ∙ ap is_depart a.1)))
same_deed ask one other (inl a) (inr b) same = ap bare (departs_so one (same ∙ ap is_depart b.1) ∙ sym b.1)

never_departs : (ask : Ask) → bare (deed_asked 0 ask) ≡ deeds.Depart → ⊥
never_departs asks.Quiet h = cc
never_departs (asks.Print v) h = cc
never_departs (asks.Read w) h = cc
never_departs (asks.Write w v) h = cc
never_departs (asks.Acquire l) h = cc
never_departs (asks.Release l) h = cc
never_departs asks.Barrier h = cc
never_departs (asks.Trap c) h = cc
never_departs asks.End h = cc

arrives_so : (deed : Deed) → deeds.Arrive ≡ bare deed → is_arrive deed ≡ true
arrives_so deeds.Arrive h = refl
arrives_so deeds.Depart h = cc
arrives_so deeds.Quiet h = cc
arrives_so (deeds.Print v) h = cc
arrives_so (deeds.Read w v) h = cc
arrives_so (deeds.Write w v) h = cc
arrives_so (deeds.Acquire l) h = cc
arrives_so (deeds.Release l) h = cc
arrives_so (deeds.Trap c) h = cc
arrives_so deeds.End h = cc

at_barrier : (ask : Ask) (other : Deed) → ask ≡ asks.Barrier → IsOfNone other → IsAsked ask other → ⊥
at_barrier ask other at none (inl b) =
    let yes = arrives_so other (sym (ap (λ a. bare (deed_asked 0 a)) at) ∙ b) in
    let never : true ≡ false = sym yes ∙ none.not_arrive in cc
at_barrier ask other at none (inr b) = let never : true ≡ false = sym (ap is_depart b.1) ∙ none.not_depart in cc

-- who departs asks for no access and no acquire
no_depart : (ask : Ask) (one other : Deed) → one ≡ deeds.Depart → IsAsked ask one → IsOfNone other → IsAsked ask other → ⊥
no_depart ask one other is (inl a) none b = never_departs ask (a ∙ ap bare is)
no_depart ask one other is (inr a) none b = at_barrier ask other a.0 none b

-- so a deed that stands beside an access or an acquire is no depart
pub none_departs : (ask : Ask) (one other : Deed) → IsAsked ask one → IsOfNone other → IsAsked ask other → is_depart one ≡ is_depart other
none_departs ask one other a none b = by_test (is_depart one) refl
  where
    by_test : (test : Bool) → is_depart one ≡ test → is_depart one ≡ is_depart other
    by_test true is = absurd (no_depart ask one other (departs_so one is) a none b)
    by_test false is = is ∙ sym none.not_depart
