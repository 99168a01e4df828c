-- The better of what is kept of the thread's events and of those that join it.
use Rattle.std.proofs.Common.{◌∙◌, ap}
use Rattle.lrc_races_why.proofs.Gating.{of_thread-best}
use Rattle.lrc_chains.specs.Table.{start_at}
use Rattle.lrc_races_why.proofs.onward.Onward.of_thread.Goals as goal

pub returns : goal.returns
returns c = λ events to n on.
    of_thread-best events to n c.args.thread c.args.self.now.threads.items c.args.self.now.joins.items c.start_at.result c.start_at-2.result c.better.result
    (c.start_at.ensures ∙ ap (λ row. start_at row c.args.thread) c.as_slice.ensures.value)
    (c.start_at-2.ensures ∙ ap (λ row. start_at row c.args.thread) c.as_slice-2.ensures.value) c.better.ensures on.threads on.joins
