use Rattle.std.proofs.Common.{◌≡◌, ◌∙◌, [], ◌∷◌, ap, map, sym}
use Rattle.std.proofs.lemmas.Result.{IfOk-weaker}
use Rattle.clap.specs.Words.{fault_of, kind_of}
use Rattle.lrc_cli_words.specs.Commands.{treadmarks}
use Rattle.lrc_cli_args.specs.Topics.{topic_kind, topic_words}
use Rattle.lrc_cli_args.specs.declared.choice.Topic.{Topic}
use Rattle.lrc_cli_args.specs.declared.choice.Topic.TheVariants.{Commands, Command, Version}
use Rattle.lrc_cli_args.proofs.TopicLemmas.{kind_told, topic_answered}
use Rattle.lrc_cli_args.proofs.topics.about.Goals as goal

some_fault : (topic : Topic) → fault_of treadmarks (topic_words topic) ≡ [] → ⊥
some_fault topic none = let bad : topic_kind topic ∷ [] ≡ [] = sym (topic_answered topic) ∙ none in cc

pub answer_to-requires : goal.answer_to-requires
answer_to-requires c = rw c.as_slice.ensures (some_fault Commands)

pub answer_to-requires-in-Command : goal.answer_to-requires-in-Command
answer_to-requires-in-Command c = rw c.as_slice-in-Command.ensures (some_fault (Command c.in-Command.command))

pub answer_to-requires-in-Version : goal.answer_to-requires-in-Version
answer_to-requires-in-Version c = rw c.as_slice-in-Version.ensures (some_fault Version)

pub returns-in-Commands-clause-kind : goal.returns-in-Commands-clause-kind
returns-in-Commands-clause-kind c =
    IfOk-weaker c.answer_to.result _ _
    (λ error among. kind_told c.args.topic.now Commands _ (kind_of error) c.in-Commands.is (ap (map (λ word. word.now)) c.as_slice.ensures) among) c.answer_to.ensures

pub returns-in-Command-clause-kind : goal.returns-in-Command-clause-kind
returns-in-Command-clause-kind c =
    IfOk-weaker c.answer_to-in-Command.result _ _
    (λ error among. kind_told c.args.topic.now (Command c.in-Command.command) _ (kind_of error) c.in-Command.is (ap (map (λ word. word.now)) c.as_slice-in-Command.ensures) among) c.answer_to-in-Command.ensures

pub returns-in-Version-clause-kind : goal.returns-in-Version-clause-kind
returns-in-Version-clause-kind c =
    IfOk-weaker c.answer_to-in-Version.result _ _
    (λ error among. kind_told c.args.topic.now Version _ (kind_of error) c.in-Version.is (ap (map (λ word. word.now)) c.as_slice-in-Version.ensures) among) c.answer_to-in-Version.ensures
