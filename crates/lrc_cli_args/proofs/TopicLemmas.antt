-- What clap answers to the words that ask for a topic.
use Rattle.std.proofs.Common.{◌≡◌, ◌⊎◌, ◌||◌, ◌∙◌, Bool, List, [], ◌∷◌, true, false, true≢false, ap, codes, inl, inr, refl, subst, sym}
use Rattle.std.specs.List.{AllByRecursion, list_any}
use Rattle.std.specs.Str.{bytes_eq}
use Rattle.clap.specs.Words.{IsAmong, Kinds, Text, fault_of}
use Rattle.clap.specs.declared.error.kind.ErrorKind.{ErrorKind}
use Rattle.clap.specs.declared.error.kind.ErrorKind.TheVariants.{DisplayHelp}
use Rattle.clap.proofs.OnLiterals.{clap_on_literals}
use Rattle.lrc_cli_words.specs.Commands.{command_names, treadmarks}
use Rattle.lrc_cli_args.specs.Topics.{topic_kind, topic_words}
use Rattle.lrc_cli_args.specs.declared.choice.Topic.{Topic}
use Rattle.lrc_cli_args.specs.declared.choice.Topic.TheVariants.{Commands, Command, Version}
use Rattle.lrc_cli_args.proofs.RowLemmas.{same_bytes}

either_true : (a b : Bool) → (a || b) ≡ true → (a ≡ true) ⊎ (b ≡ true)
either_true true b e = inl refl
either_true false b e = inr e

-- what holds of each name holds of a word that is one of them
of_names : (P : Text → Type 0) (names : List Text) (word : Text) → AllByRecursion P names → list_any (λ name. bytes_eq name word) names ≡ true → P word
of_names P [] word all is = absurd (true≢false (sym is))
of_names P (name ∷ names) word all is = elim (either_true (bytes_eq name word) (list_any (λ name. bytes_eq name word) names) is) [
  | inl this ↦ subst P (same_bytes name word this) all.0
  | inr later ↦ of_names P names word all.1 later
]

abbrev IsHelped : Text → Type 0
IsHelped word = fault_of treadmarks (word ∷ codes "--help" ∷ []) ≡ DisplayHelp ∷ []

each_helped : AllByRecursion IsHelped command_names
unfolding treadmarks command_names clap_on_literals
each_helped = (refl, (refl, (refl, (refl, (refl, (refl, (refl, (refl, (refl, (refl, (refl, (refl, (refl, (refl, (refl, (refl, (refl, tt)))))))))))))))))

-- clap answers to the words of a topic with the text of that kind
pub topic_answered : (topic : Topic) → fault_of treadmarks (topic_words topic) ≡ topic_kind topic ∷ []
unfolding treadmarks clap_on_literals
topic_answered Commands = refl
topic_answered (Command command) = of_names IsHelped command_names command.name.now each_helped command.known
topic_answered Version = refl

one_kind : (kind x : ErrorKind) (kinds : Kinds) → kinds ≡ x ∷ [] → IsAmong kind kinds → kind ≡ x
one_kind kind x kinds is among = elim (subst (IsAmong kind) is among) [ inl e ↦ e | inr none ↦ absurd none ]

-- the kind of what clap answers to the words of a topic
pub kind_told : (now topic : Topic) (words : List Text) (kind : ErrorKind) → now ≡ topic → words ≡ topic_words topic
    → IsAmong kind (fault_of treadmarks words) → kind ≡ topic_kind now
kind_told now topic words kind is words_are among =
    one_kind kind (topic_kind now) (fault_of treadmarks words)
    (ap (fault_of treadmarks) words_are ∙ topic_answered topic ∙ ap (λ (t : Topic). topic_kind t ∷ []) (sym is)) among
