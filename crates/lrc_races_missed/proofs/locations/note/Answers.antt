-- Its places are met, and it is missed if they are new.
use Rattle.std.proofs.Common.{◌≡◌, ◌∙◌, [], ◌∷◌, ◌++◌, inl, inr, sym, ap, true≢false}
use Rattle.std.specs.Prelude.{◌⊎◌, Vec}
use Rattle.std.specs.declared.alloc.Global.{Global}
use Rattle.std.proofs.lemmas.Result.{on_ok_weaker}
use Rattle.lrc_races_trace.specs.declared.event.Pair.{Pair}
use Rattle.lrc_races_missed.specs.Locating.{IsNew}
use Rattle.lrc_races_missed.proofs.Testing.{looked_at, nothing_noted}
use Rattle.lrc_races_missed.proofs.locations.note.Goals.{then-is_new+in_ok-push, else-is_new}
use Rattle.lrc_races_missed.proofs.locations.note.Goals as goal

pub returns-in_default : goal.returns-in_default
returns-in_default c = nothing_noted c.args.keys.now.keys c.args.pair c.args.met.now.keys c.args.missed.now.items c.args.found c.in_default.not-Some

pub returns : goal.returns
returns c =
    let keys = c.args.keys.now.keys in
    let before = c.args.met.now.keys in
    let old = c.args.missed.now.items in
    let new = c.if-is_new.missed.items in
    let both = c.in-Some.both in
    let either : (IsNew before keys both × (new ≡ old ++ c.args.pair ∷ [])) ⊎ ((IsNew before keys both → ⊥) × (new ≡ old)) = elim c.if-is_new.branch [
      | then-is_new+in_ok-push w ↦
          inl (c.is_new.ensures.0 w.if-is_new.true, ap (λ (v : Vec Pair Global). v.items) w.missed-is ∙ w.in_ok-push.ensures.items)
      | else-is_new w ↦
          inr (λ fresh. true≢false (sym (c.is_new.ensures.1 fresh) ∙ w.if-is_new.false), ap (λ (v : Vec Pair Global). v.items) w.missed-is)
    ] in
    on_ok_weaker c.add_pair.result (looked_at keys c.args.pair before c.add_pair.new.pairs.keys old new c.args.found both c.in-Some.is either) c.add_pair.ensures
