-- Something is declared at the place of the name.
use Rattle.std.proofs.Common.{◌≡◌, Some, None, is_some, refl, sym, ap, ◌∙◌}
use Rattle.std.specs.Prelude.{Option, option_map}
use Rattle.lrc_named_names.specs.Names.{meaning_at}
use Rattle.lrc_named_names.specs.View.{declared_of}
use Rattle.lrc_named_uses.proofs.loops.is_declared.Goals as goal

some_seen : {A B : Type 0} (seen : A → B) (o : Option A) → is_some (option_map seen o) ≡ is_some o
some_seen seen None = refl
some_seen seen (Some x) = refl

pub returns : goal.returns
returns c =
    c.is_some.ensures ∙ sym (some_seen _ c.meaning.result) ∙ ap is_some (c.meaning.ensures ∙ ap (λ n. meaning_at (declared_of c.args.names.now) n) c.place.ensures)
