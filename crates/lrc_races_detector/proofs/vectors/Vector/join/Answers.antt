-- The others are joined, and then the entry that stands apart.
use Rattle.std.proofs.Common.{◌≡◌, ap, sym, subst, max, ◌∙◌}
use Rattle.std.specs.Prelude.{Option, option_copied, slice_index}
use Rattle.std.proofs.lemmas.Result.{on_ok_weaker}
use Rattle.lrc_races_detector.specs.declared.vectors.Entry.{Entry}
use Rattle.lrc_races_detector.specs.Vectors.{IsRaised, entries, held, held_of, rest, with_apart}
use Rattle.lrc_races_detector.proofs.Entries.{joined_none, joined_some}
use Rattle.lrc_races_detector.proofs.vectors.Vector.join.Goals as goal

pub returns-in-Some-apart : goal.returns-in-Some-apart
returns-in-Some-apart c =
    let own = c.args.self.now in
    let other = c.in-Some.other.now in
    let between = c.join_rest.new.self in
    let e = c.in-Some-apart.entry in
    let same : entries c.args.more ≡ held other = ap (λ v. held_of (option_copied v)) c.in-Some.is in
    on_ok_weaker c.add.result (λ raised thread.
    joined_some own.apart other.apart e (rest own) (rest other) (rest between) (held c.add.new.self) c.in-Some-apart.is c.in_ok-join_rest.ensures.rest
    (subst (λ (o : Option Entry). IsRaised (with_apart o (rest between)) (held c.add.new.self) e.thread e.value) c.in_ok-join_rest.ensures.apart raised) thread
    ∙ ap (λ xs. max (slice_index (held own) thread) (slice_index xs thread)) (sym same)) c.add.ensures

pub returns-in-None : goal.returns-in-None
returns-in-None c = λ thread.
    let own = c.args.self.now in
    let other = c.in-Some.other.now in
    let after = c.join_rest.new.self in
    let same : entries c.args.more ≡ held other = ap (λ v. held_of (option_copied v)) c.in-Some.is in
    ap (λ o. slice_index (with_apart o (rest after)) thread) c.in_ok-join_rest.ensures.apart
    ∙ joined_none own.apart other.apart (rest own) (rest other) (rest after) c.in-None.is c.in_ok-join_rest.ensures.rest thread
    ∙ ap (λ xs. max (slice_index (held own) thread) (slice_index xs thread)) (sym same)
