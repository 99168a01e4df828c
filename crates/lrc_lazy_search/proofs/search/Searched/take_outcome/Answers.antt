use Rattle.std.proofs.Common.{◌∙◌, sym, subst}
use Rattle.lrc_orders.specs.declared.outcomes.Outcome.{Outcome}
use Rattle.lrc_orders.proofs.Alike.{acts_same}
use Rattle.lrc_orders.proofs.Gathering.{put_all}
use Rattle.lrc_orders.proofs.Keeping.{put_grows}
use Rattle.lrc_lazy.specs.Lazy.{IsLazyOutcome}
use Rattle.lrc_lazy_search.proofs.search.Searched.take_outcome.Goals as goal

pub returns-clause-more : goal.returns-clause-more
returns-clause-more c = put_grows _ c.args.self.now.outcomes.keys c.insert_full.new.self.keys _ c.in_ok-insert_full.ensures.keys

pub returns-clause-sound : goal.returns-clause-sound
returns-clause-sound c =
    let program = c.args.task.now.program.now in
    let nodes = c.args.task.now.flat.nodes in
    put_all (λ k (o : Outcome). IsLazyOutcome program nodes o.notes.items) _ c.args.self.now.outcomes.keys c.insert_full.new.self.keys _
    c.in_ok-insert_full.ensures.keys c.requires.sound
    (subst (λ notes. IsLazyOutcome program nodes notes) (sym (c.in_ok-notes.ensures ∙ c.deref.ensures.value)) c.requires.over)

pub returns-clause-has : goal.returns-clause-has
returns-clause-has c =
    let s = c.in_ok-insert_full.ensures.stored in
    record {
      place = _;
      outcome = s.0;
      there = s.1;
      same = sym (acts_same c.in_ok-notes.notes.items s.0.notes.items s.2) ∙ c.in_ok-notes.ensures ∙ c.deref.ensures.value;
    }
