use Rattle.std.proofs.Common.{subst}
use Rattle.std.specs.Prelude.{Contains}
use Rattle.lrc_why.specs.Known.{AreClosedWords}
use Rattle.lrc_why.specs.Positions.{AreWordsOf, IsBeside}
use Rattle.lrc_why.proofs.Lists.{words-iff}
use Rattle.lrc_why.proofs.known.words_closed.Goals as goal

pub returns : goal.returns
returns c =
    let run = c.args.acts.now in
    let position = c.args.position in
    let beside = c.in_ok-beside.beside.items in
    let are = c.in_ok-beside.ensures in
    let words = c.in_ok-words.words.items in
    subst (λ b. AreClosedWords b run position words) c.if-not-closes.ensures
    (words-iff run (Contains beside) (IsBeside run position) words (λ k h. (are.exact k).0 h) (λ k h. (are.exact k).1 h)
    (subst (λ zs. AreWordsOf run (Contains zs) words) c.deref.ensures.value c.in_ok-words.ensures))
