use Rattle.std.proofs.Common.{◌<◌, ◌∙◌, ◌++◌, ◌∷◌, [], ℕ, false, Option, Some, length, sym, subst, ap, arith}
use Rattle.std.proofs.lemmas.Result.{IfOk-from_err}
use Rattle.lrc_time.specs.Time.{knows}
use Rattle.lrc_store.specs.declared.key.Key.{Key}
use Rattle.lrc_store.proofs.Chained.{reach}
use Rattle.lrc_store.proofs.Walks.{IsWalked, walk_starts, walk_at, walk_falls, walk_within, walk_goes_on, walk_stops, walk_ends}
use Rattle.lrc_store.proofs.links.Links.unknown_until_known.Goals as goal
use Rattle.lrc_store.proofs.links.Links.unknown_until_known.Goals.{In-Some}

pub loop-next-init : goal.loop-next-init
loop-next-init c =
    walk_starts c.args.page c.args.since.now c.args.arena.now.notices c.args.self.now.by_page.keys c.first-next.result _
    c.in_ok-found.ensures.items c.requires.linked c.first-next.ensures

-- the walk as it stands in the loop
here : (c : In-Some) → IsWalked c.args.page c.args.since.now c.args.arena.now.notices (Some c.in-Some.at) c.loop-next.found.items
here c =
    walk_at c.args.page c.args.since.now c.args.arena.now.notices c.in-Some.at _ c.loop-next.found.items c.in-Some.is c.loop-next.invariant

within : (c : In-Some) → c.in-Some.at < length c.args.arena.now.notices
within c = walk_within c.args.page c.args.since.now c.args.arena.now.notices c.in-Some.at c.loop-next.found.items (here c)

pub notice-weight-requires : goal.notice-weight-requires
notice-weight-requires c = within (goal.at.notice-weight-requires c).In-Some

pub loop-next-preserved-then-is_known : goal.loop-next-preserved-then-is_known
loop-next-preserved-then-is_known c =
    walk_stops c.args.page c.args.since.now c.args.arena.now.notices c.in-Some.at c.loop-next.found.items c.notice-weight.result
    (here (goal.at.loop-next-preserved-then-is_known c).In-Some) c.requires.first
    (ap (λ (n : ℕ × Key). knows c.args.since.now n.1.node n.1.index) (sym (c.notice-weight.ensures c.notice-weight.result))
    ∙ sym c.is_known.ensures ∙ c.if-is_known.true)

pub loop-next-preserved : goal.loop-next-preserved
loop-next-preserved c =
    walk_goes_on c.args.page c.args.since.now c.args.arena.now.notices c.in-Some.at c.loop-next.found.items c.push.new.self.items false
    c.args.self.now.by_page.keys c.next-next.result c.notice-weight.result (here (goal.at.loop-next-preserved c).In-Some) c.requires.linked c.next-next.ensures
    (ap (λ (n : ℕ × Key). knows c.args.since.now n.1.node n.1.index) (sym (c.notice-weight.ensures c.notice-weight.result))
    ∙ sym c.is_known.ensures ∙ c.if-is_known.false)
    (c.in_ok-push.ensures.items ∙ ap (λ (n : ℕ × Key). c.loop-next.found.items ++ n ∷ []) (c.notice-weight.ensures c.notice-weight.result))

pub loop-next-smaller : goal.loop-next-smaller
loop-next-smaller c =
    walk_falls c.args.page c.args.since.now c.args.arena.now.notices c.in-Some.at _ c.next-next.result c.args.self.now.by_page.keys c.in-Some.is
    (within (goal.at.loop-next-smaller c).In-Some) c.requires.linked c.next-next.ensures

pub returns : goal.returns
returns c =
    walk_ends c.args.page c.args.since.now c.args.arena.now.notices _ c.loop-next.found.items _ c.in_default.is c.loop-next.invariant c.reverse.ensures.items

pub returns-in_err-found : goal.returns-in_err-found
returns-in_err-found c = IfOk-from_err _ _ c.from_residual.ensures.0

pub returns-in_err-push : goal.returns-in_err-push
returns-in_err-push c = IfOk-from_err _ _ c.from_residual-in_err-push.ensures.0

pub loop-next-smaller-then-is_known : goal.loop-next-smaller-then-is_known
loop-next-smaller-then-is_known c = subst (λ (next : Option ℕ). 0 < reach next) (sym c.in-Some.is) (omega arith)
