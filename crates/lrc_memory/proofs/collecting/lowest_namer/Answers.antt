use Rattle.std.proofs.Common.{◌<◌, ◌∙◌, Option, Some, length, ap, sym, subst}
use Rattle.std.proofs.lemmas.Option.{get_or_from_slice_get}
use Rattle.lrc_store.specs.Lists.{notices_of}
use Rattle.lrc_memory.proofs.Lowest.{IsSought, seek_starts, seek_within, seek_goes_on, seek_ends, has_key}
use Rattle.lrc_memory.proofs.collecting.lowest_namer.Goals as goal
use Rattle.lrc_memory.proofs.collecting.lowest_namer.Goals.{In-Some, in-Some-key, in_default-key}

pub loop-next-init : goal.loop-next-init
loop-next-init c = seek_starts c.args.store.now c.args.page c.first_on_page-next.result c.first_on_page-next.ensures.first

-- the walk as it stands in the loop
here : (c : In-Some) → IsSought c.args.store.now c.args.page (Some c.in-Some.at) c.loop-next.lowest
here c = subst (λ (next : Option _). IsSought c.args.store.now c.args.page next c.loop-next.lowest) c.in-Some.is c.loop-next.invariant

within : (c : In-Some) → c.in-Some.at < length (notices_of c.args.store.now)
within c = seek_within c.args.store.now c.args.page c.in-Some.at c.loop-next.lowest (here c)

pub next_on_page-next-requires : goal.next_on_page-next-requires
next_on_page-next-requires c = within (goal.at.next_on_page-next-requires c).In-Some

pub loop-next-preserved : goal.loop-next-preserved
loop-next-preserved c =
    let at = (goal.at.loop-next-preserved c).In-Some in
    elim c.match-key.branch [
      | in-Some-key w ↦
          seek_goes_on c.args.store.now c.args.page c.in-Some.at c.loop-next.lowest c.match-key.lowest c.next_on_page-next.result w.in-Some-key.key (here at)
          (get_or_from_slice_get (notices_of c.args.store.now) c.in-Some.at w.in-Some-key.key w.in-Some-key.key (sym c.key.ensures ∙ w.in-Some-key.is))
          c.next_on_page-next.ensures.next (w.lowest-is ∙ ap Some w.lower.ensures)
      | in_default-key w ↦ absurd (has_key (notices_of c.args.store.now) c.in-Some.at (within at) (sym c.key.ensures ∙ w.in_default-key.is))
    ]

pub returns : goal.returns
returns c =
    seek_ends c.args.store.now c.args.page c.loop-next.lowest
    (subst (λ (next : Option _). IsSought c.args.store.now c.args.page next c.loop-next.lowest) c.in_default.is c.loop-next.invariant)
