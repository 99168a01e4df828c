use Rattle.std.proofs.Common.{◌≡◌, ◌∙◌, ℕ, map, ap, subst, sym}
use Rattle.std.specs.Prelude.{Some, slice_get}
use Rattle.std.proofs.lemmas.Result.{IfOk-weaker}
use Rattle.lrc_trace.specs.declared.act.Deed.TheVariants.{Read}
use Rattle.lrc_lazy_search.specs.Searching.{AreOnce}
use Rattle.lrc_lazy_search.proofs.Making.{reads_sound, reads_all, reads_once, one_sound, one_all, one_once}
use Rattle.lrc_lazy_search.proofs.state.LazyState.deeds.Goals as goal

pub returns-in_ok-values-in-Read-clause-sound : goal.returns-in_ok-values-in-Read-clause-sound
returns-in_ok-values-in-Read-clause-sound c =
    let flat = c.args.flat.now in
    let key = c.args.self.now in
    IfOk-weaker c.reads_of.result _ _
    (λ deeds is k deed at.
    reads_sound flat key c.requires.fit c.args.node c.in-Read.word c.in-Read.field-1 c.in_ok-values-in-Read.values.items
    (sym c.next_deed.ensures ∙ c.in-Some.is ∙ ap Some c.in-Read.is) c.in_ok-values-in-Read.ensures.gives k deed
    (sym (ap (λ l. slice_get l k) (is ∙ ap (map (λ v. Read c.in-Read.word v)) c.deref.ensures.value)) ∙ at))
    c.reads_of.ensures

pub returns-in_ok-values-in-Read-clause-all : goal.returns-in_ok-values-in-Read-clause-all
returns-in_ok-values-in-Read-clause-all c =
    let flat = c.args.flat.now in
    let key = c.args.self.now in
    IfOk-weaker c.reads_of.result _ _
    (λ deeds is deed can.
    let found = reads_all flat key c.requires.fit c.args.node c.in-Read.word c.in-Read.field-1 c.in_ok-values-in-Read.values.items
    (sym c.next_deed.ensures ∙ c.in-Some.is ∙ ap Some c.in-Read.is) c.in_ok-values-in-Read.ensures.gives deed can in
    (found.0, ap (λ l. slice_get l found.0) (is ∙ ap (map (λ v. Read c.in-Read.word v)) c.deref.ensures.value) ∙ found.1))
    c.reads_of.ensures

pub returns-in_default-deed : goal.returns-in_default-deed
returns-in_default-deed c =
    let flat = c.args.flat.now in
    let key = c.args.self.now in
    let deed = c.in-Some.deed in
    let is = sym c.next_deed.ensures ∙ c.in-Some.is in
    let no_read : (w u : ℕ) → deed ≡ Read w u → ⊥ = λ w u e. c.in_default-deed.not-Read w u e in
    record {
      sound = IfOk-weaker c.copied.result _ _
          (λ deeds items k other at.
          one_sound flat key c.requires.fit c.args.node deed is no_read k other (sym (ap (λ l. slice_get l k) items) ∙ at)) c.copied.ensures;
      all = IfOk-weaker c.copied.result _ _
          (λ deeds items other can.
          let found = one_all flat key c.requires.fit c.args.node deed is no_read other can in
          (found.0, ap (λ l. slice_get l found.0) items ∙ found.1)) c.copied.ensures;
      once = IfOk-weaker c.copied.result _ _ (λ deeds items neat. subst AreOnce (sym items) (one_once deed)) c.copied.ensures;
    }

pub returns-in_ok-values-in-Read-clause-once : goal.returns-in_ok-values-in-Read-clause-once
returns-in_ok-values-in-Read-clause-once c =
    let values = c.in_ok-values-in-Read.values.items in
    IfOk-weaker c.reads_of.result _ _
    (λ deeds is neat.
    subst AreOnce (sym (is ∙ ap (map (λ v. Read c.in-Read.word v)) c.deref.ensures.value))
    (reads_once c.in-Read.word values (c.in_ok-values-in-Read.ensures.rising neat.tidy)))
    c.reads_of.ensures
