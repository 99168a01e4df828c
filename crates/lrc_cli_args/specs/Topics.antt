-- What the program says of itself: what clap answers to these words.
use Rattle.std.specs.Prelude.{List, [], ◌∷◌, codes}
use Rattle.clap.specs.Words.{Text}
use Rattle.clap.specs.declared.error.kind.ErrorKind.{ErrorKind}
use Rattle.clap.specs.declared.error.kind.ErrorKind.TheVariants.{DisplayHelp, DisplayVersion}
use Rattle.lrc_cli_args.specs.declared.choice.Topic.{Topic}
use Rattle.lrc_cli_args.specs.declared.choice.Topic.TheVariants.{Commands, Command, Version}

-- the words that ask clap for it
abbrev pub topic_words : Topic → List Text
topic_words Commands = codes "--help" ∷ []
topic_words (Command command) = command.name.now ∷ codes "--help" ∷ []
topic_words Version = codes "--version" ∷ []

-- and the kind of its answer
abbrev pub topic_kind : Topic → ErrorKind
topic_kind Commands = DisplayHelp
topic_kind (Command command) = DisplayHelp
topic_kind Version = DisplayVersion
