use Rattle.std.proofs.Common.{◌≡◌, ◌∙◌, sym, subst, ap}
use Rattle.std.specs.Prelude.{Some, slice_get}
use Rattle.lrc_orders.proofs.Keeping.{put_grows}
use Rattle.lrc_orders.proofs.Same.{spot_same}
use Rattle.lrc_lazy_search.proofs.parts.thread_number.Goals as goal

pub returns-clause-grows : goal.returns-clause-grows
returns-clause-grows c = put_grows _ c.args.threads.now.keys c.insert_full.new.self.keys _ c.in_ok-place.ensures.keys

pub returns-clause-there : goal.returns-clause-there
returns-clause-there c =
    let thread = c.args.thread in
    let s = c.in_ok-place.ensures.stored in
    subst (λ n. slice_get c.insert_full.new.self.keys n ≡ Some thread) (sym c.in_ok-number.ensures)
    (s.1 ∙ ap (λ x. Some x) (sym (spot_same thread s.0 s.2)))
