use Rattle.std.proofs.Common.{subst}
use Rattle.std.specs.Prelude.{Contains}
use Rattle.lrc_why.specs.Positions.{AreWordsOf, IsNew, IsNewBehind}
use Rattle.lrc_why.proofs.Lists.{exactly-iff, words-iff}
use Rattle.lrc_why.proofs.Newness.{behind-new, new-behind}
use Rattle.lrc_why.proofs.known.brought.Goals as goal

pub returns : goal.returns
returns c =
    let run = c.args.acts.now in
    let acting = c.args.acting in
    let node = c.args.node in
    let position = c.args.position in
    let before = c.act_before-before.result in
    let is = c.act_before-before.ensures in
    let new = c.in_ok-new.new.items in
    let are = exactly-iff (IsNewBehind run node position before) (IsNew run acting node position) new
    (λ k h. behind-new run acting node position before k is h) (λ k h. new-behind run acting node position before k is h) c.in_ok-new.ensures in
    let words = c.in_ok-words.words.items in
    record {
      acts = are;
      words = words-iff run (Contains new) (IsNew run acting node position) words (λ k h. (are.exact k).0 h) (λ k h. (are.exact k).1 h)
          (subst (λ zs. AreWordsOf run (Contains zs) words) c.deref.ensures.value c.in_ok-words.ensures);
    }
