use Rattle.std.proofs.Common.{◌<◌, ◌∙◌, ◌++◌, ◌∷◌, [], ℕ, true, false, Some, length, sym, ap, arith, append-nil, Vec, Global}
use Rattle.std.proofs.lemmas.List.{length-map}
use Rattle.lrc_time.specs.Time.{knows}
use Rattle.lrc_store.specs.declared.key.Key.{Key}
use Rattle.lrc_store.specs.Links.{page_named}
use Rattle.lrc_store.proofs.Walks.{IsWalked, walk_starts, walk_at, walk_falls, walk_within, walk_goes_on, walk_ends}
use Rattle.lrc_store.proofs.links.Links.unknown_on.Goals as goal
use Rattle.lrc_store.proofs.links.Links.unknown_on.Goals.{In-Some, then-not-is_known+in_ok-push, else-not-is_known}

pub loop-next-init : goal.loop-next-init
loop-next-init c =
    walk_starts c.args.page c.args.since.now c.args.arena.now.notices c.args.self.now.by_page.keys c.first-next.result _
    c.in_ok-found.ensures.items c.requires.linked c.first-next.ensures

-- the walk as it stands in the loop
here : (c : In-Some) → IsWalked c.args.page c.args.since.now c.args.arena.now.notices (Some c.in-Some.at) c.loop-next.found.items
here c =
    walk_at c.args.page c.args.since.now c.args.arena.now.notices c.in-Some.at _ c.loop-next.found.items c.in-Some.is c.loop-next.invariant

within : (c : In-Some) → c.in-Some.at < length c.args.arena.now.notices
within c = walk_within c.args.page c.args.since.now c.args.arena.now.notices c.in-Some.at c.loop-next.found.items (here c)

pub notice-weight-requires : goal.notice-weight-requires
notice-weight-requires c = within (goal.at.notice-weight-requires c).In-Some

pub next-next-requires : goal.next-next-requires
next-next-requires c =
    omega (arith, within (goal.at.next-next-requires c).In-Some, ap length c.requires.linked, length-map c.args.arena.now.notices page_named)

pub loop-next-preserved : goal.loop-next-preserved
loop-next-preserved c =
    let page = c.args.page in
    let since = c.args.since.now in
    let notices = c.args.arena.now.notices in
    let h = here (goal.at.loop-next-preserved c).In-Some in
    let notice = c.notice-weight.result in
    let read = c.notice-weight.ensures notice in
    let known = ap (λ (n : ℕ × Key). knows since n.1.node n.1.index) (sym read) in
    elim c.if-not-is_known.branch [
      | then-not-is_known+in_ok-push w ↦
          walk_goes_on page since notices c.in-Some.at c.loop-next.found.items c.if-not-is_known.found.items false
          c.args.self.now.by_page.keys c.next-next.result notice h c.requires.linked c.next-next.ensures
          (known ∙ sym c.is_known.ensures ∙ w.if-not-is_known.true)
          (ap (λ (v : Vec (ℕ × Key) Global). v.items) w.found-is ∙ w.in_ok-push.ensures.items
          ∙ ap (λ (n : ℕ × Key). c.loop-next.found.items ++ n ∷ []) read)
      | else-not-is_known w ↦
          walk_goes_on page since notices c.in-Some.at c.loop-next.found.items c.if-not-is_known.found.items true
          c.args.self.now.by_page.keys c.next-next.result notice h c.requires.linked c.next-next.ensures
          (known ∙ sym c.is_known.ensures ∙ w.if-not-is_known.false)
          (ap (λ (v : Vec (ℕ × Key) Global). v.items) w.found-is ∙ sym (append-nil c.loop-next.found.items))
    ]

pub loop-next-smaller : goal.loop-next-smaller
loop-next-smaller c =
    walk_falls c.args.page c.args.since.now c.args.arena.now.notices c.in-Some.at _ c.next-next.result c.args.self.now.by_page.keys c.in-Some.is
    (within (goal.at.loop-next-smaller c).In-Some) c.requires.linked c.next-next.ensures

pub returns : goal.returns
returns c =
    walk_ends c.args.page c.args.since.now c.args.arena.now.notices _ c.loop-next.found.items _ c.in_default.is c.loop-next.invariant c.reverse.ensures.items
