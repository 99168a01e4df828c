-- All is in the base.
use Rattle.std.proofs.Common.{refl, ap, ◌∙◌}
use Rattle.std.specs.Prelude.{Some}
use Rattle.lrc_races_detector.proofs.Entries.{rest_shared}
use Rattle.lrc_races_detector.proofs.vectors.Vector.fold.Goals as goal

pub returns : goal.returns
returns c = record {
  rest = λ thread.
      rest_shared (record { apart = c.args.self.now.apart; recent = c.clear-2.new.self; others = c.clear.new.self; base = Some c.in_ok-new.field-0 })
      c.in_ok-chunks.chunks.items c.clear.ensures.items (ap (λ v. v.items) c.in_ok-new.ensures.ok) c.clear-2.ensures.items thread ∙ c.in_ok-chunks.ensures thread;
  apart = refl;
}
