use Rattle.std.proofs.Common.{◌∙◌, ℕ, sym, ap}
use Rattle.std.specs.Prelude.{Option, Some, None, if◌then◌else◌}
use Rattle.lrc_orders_table.specs.Shared.{given}
use Rattle.lrc_orders_table.proofs.Fitting.{lock_there, word_there}
use Rattle.lrc_orders_table.proofs.table.Table.given.Goals as goal

pub word-requires : goal.word-requires
word-requires c =
    word_there c.args.self.now c.args.row.now c.args.node c.requires.row c.requires.node c.in-Reads.word (sym c.next.ensures.at ∙ c.in-Reads.is)

pub is_free-requires : goal.is_free-requires
is_free-requires c =
    lock_there c.args.self.now c.args.row.now c.args.node c.requires.row c.requires.node c.in-Acquires.lock (sym c.next.ensures.at ∙ c.in-Acquires.is)

pub returns-in-Reads : goal.returns-in-Reads
returns-in-Reads c = λ words holders at.
    ap (λ n. Some n) (c.word.ensures words holders at) ∙ ap (λ n. given n words holders) (sym c.in-Reads.is ∙ c.next.ensures.at)

pub returns-in-Acquires : goal.returns-in-Acquires
returns-in-Acquires c = λ words holders at.
    ap (λ b. if◌then◌else◌ {A = Option ℕ} b (Some 0) None) (sym c.if-is_free.true ∙ c.is_free.ensures words holders at)
    ∙ ap (λ n. given n words holders) (sym c.in-Acquires.is ∙ c.next.ensures.at)

pub returns-in_default : goal.returns-in_default
returns-in_default c = λ words holders at.
    ap (λ b. if◌then◌else◌ {A = Option ℕ} b (Some 0) None) (sym c.if-is_free.false ∙ c.is_free.ensures words holders at)
    ∙ ap (λ n. given n words holders) (sym c.in-Acquires.is ∙ c.next.ensures.at)
