use Rattle.std.proofs.Common.{◌∙◌, ap, sym}
use Rattle.std.specs.Prelude.{Some, option_map}
use Rattle.lrc_exec.specs.Plain.{Plain, plain_step}
use Rattle.lrc_lazy.specs.Standing.{with_memory}
use Rattle.lrc_lazy_search.specs.Searching.{poked}
use Rattle.lrc_lazy_search.proofs.Making.{poked_made, poked_long}
use Rattle.lrc_lazy_search.proofs.Neat.{blank_after}
use Rattle.lrc_lazy_search.proofs.state.LazyState.move_on.Goals as goal

pub make-requires-clause-can : goal.make-requires-clause-can
make-requires-clause-can c =
    let flat = c.args.flat.now in
    let key = c.args.self.now in
    let made = poked_made flat key c.requires.fit c.args.node c.args.deed c.requires.can in
    ap (λ (m : Plain). option_map (λ step. step.0) (plain_step m c.args.node)) c.poke.ensures.poked.is ∙ ap (option_map (λ step. step.0)) made.1

pub returns-clause-made : goal.returns-clause-made
returns-clause-made c =
    let flat = c.args.flat.now in
    let key = c.args.self.now in
    let node = c.args.node in
    let deed = c.args.deed in
    record {
      memory = poked deed key.state.memory.items;
      later = c.make.new.self.memory.items;
      long = poked_long deed key.state.memory.items ∙ c.requires.fit.valid.memory;
      made = sym (ap (λ (m : Plain). plain_step m node) c.poke.ensures.poked.is) ∙ c.make.ensures.made
          ∙ ap (λ (m : Plain). Some (deed, with_memory m c.make.new.self.memory.items)) (sym c.blank.ensures.same);
    }

pub returns-clause-blank : goal.returns-clause-blank
returns-clause-blank c =
    let key = c.args.self.now in
    blank_after c.args.flat.now key.state c.poke.new.self.state c.make.new.self c.blank.new.self.state c.args.node c.args.deed
    (ap (λ (m : Plain). m.memory) c.poke.ensures.poked.is) c.make.ensures.made c.blank.ensures.blanked
