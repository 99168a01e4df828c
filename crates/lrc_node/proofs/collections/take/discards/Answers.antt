use Rattle.std.proofs.Common.{◌≡◌, ◌<◌, ◌++◌, ◌∷◌, [], sym, ◌∙◌, ap, arith}
use Rattle.std.specs.List.{range_with_len}
use Rattle.std.proofs.lemmas.Result.{IfOk-from_err}
use Rattle.std.proofs.lemmas.List.Elements.{All-push}
use Rattle.std.proofs.lemmas.List.FromFn.{map-range_with_len_more}
use Rattle.lrc_envelope.specs.declared.message.Message.TheVariants.{Discard}
use Rattle.lrc_protocol.specs.Node.{Letter}
use Rattle.lrc_protocol.specs.Turn.{discards_to, letter}
use Rattle.lrc_node.proofs.Kept.{none_for}
use Rattle.lrc_node.proofs.collections.take.discards.Goals as goal

pub loop-to-preserved : goal.loop-to-preserved
loop-to-preserved c = record {
  letters =
      c.in_ok-push.ensures.items
      ∙ ap (λ xs. xs ++ (letter c.loop-to.to (Discard c.args.episode) ∷ [])) c.loop-to.invariant.letters
      ∙ sym (map-range_with_len_more (λ to. letter to (Discard c.args.episode)) 0 c.loop-to.to c.loop-to.to (omega arith));
  are_for =
      rw c.in_ok-push.ensures.items
      (All-push (λ (l : Letter). l.to < c.args.nodes) c.loop-to.letters.items
      (letter c.loop-to.to (Discard c.args.episode)) c.loop-to.invariant.are_for c.loop-to-test.true);
}

pub loop-to-init : goal.loop-to-init
loop-to-init c = record {
  letters = c.new-letters.ensures.items;
  are_for = none_for c.args.nodes c.new-letters.result.items c.new-letters.ensures.items;
}

pub returns-in_err-push-clause-letters : goal.returns-in_err-push-clause-letters
returns-in_err-push-clause-letters c = IfOk-from_err _ _ c.from_residual.ensures.0

pub returns-in_err-push-clause-to : goal.returns-in_err-push-clause-to
returns-in_err-push-clause-to c = IfOk-from_err _ _ c.from_residual.ensures.0

pub returns-clause-letters : goal.returns-clause-letters
returns-clause-letters c =
    let all : c.loop-to.to ≡ c.args.nodes = omega (arith, c.loop-to-test.false, c.loop-to.auto.to-end) in
    c.loop-to.invariant.letters ∙ ap (λ n. discards_to (range_with_len 0 n) c.args.episode) all

pub returns-clause-to : goal.returns-clause-to
returns-clause-to c = c.loop-to.invariant.are_for
