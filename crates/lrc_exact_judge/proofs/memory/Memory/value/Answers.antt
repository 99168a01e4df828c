use Rattle.std.proofs.Common.{◌≡◌, length, get_or, sym, ap, ◌∙◌, arith}
use Rattle.lrc_exact.specs.Memory as memory
use Rattle.lrc_exact.specs.Rule.{State, exact_rule, exact_value}
use Rattle.lrc_exact.proofs.LocalRules.{one_list}
use Rattle.lrc_exact_copies.specs.declared.copy.NodeCopy.{NodeCopy}
use Rattle.lrc_exact_copies.specs.Copies.{word_in}
use Rattle.lrc_exact_judge.specs.Shape.{shape_of}
use Rattle.lrc_exact_judge.proofs.Currents.{have-now}
use Rattle.lrc_exact_judge.proofs.Kept.{element-at}
use Rattle.lrc_exact_judge.proofs.memory.Memory.value.Goals as goal

pub returns : goal.returns
returns c = λ states keeps.
    let self = c.args.self.now in
    let run = c.args.acts.now in
    let node = c.args.node in
    let shape = shape_of self.layout in
    let whole = c.requires.memory in
    let kept = whole.kept.nodes node c.requires.node in
    let long = whole.kept.all_copies in
    let within = c.requires.node in
    let had : c.index.result.now ≡ get_or self.copies.items node c.index.result.now =
    c.index.ensures ∙ ap (λ p. get_or self.copies.items p c.index.result.now) c.from.ensures in
    let same : c.index.result.now ≡ kept.copy = element-at self.copies.items node c.index.result.now kept.copy (omega arith) had kept.stands in
    let now = have-now shape run whole.states self.settled whole.having node whole.current c.requires.node c.requires.goes_on in
    let one : whole.states ≡ states = one_list (exact_rule shape) shape.nodes run whole.states states whole.keeps keeps in
    c.value.ensures
    ∙ ap (λ w. (word_in c.index.result.now.words w).value) c.from-2.ensures
    ∙ ap (λ (k : NodeCopy). (word_in k.words c.args.word).value) same
    ∙ sym (ap (λ (x : memory.Word). x.value) (kept.is.words_are c.args.word))
    ∙ ap (λ (s : State). (s.words c.args.word).value) now
    ∙ ap (λ ss. exact_value shape run ss node (length run) c.args.word) one
