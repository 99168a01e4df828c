use Rattle.std.proofs.Common.{arith, subst, sym, List}
use Rattle.lrc_lazy_known.specs.declared.known.Known.{Known}
use Rattle.lrc_lazy_known.specs.declared.known.KnownWord.{KnownWord}
use Rattle.lrc_lazy_known.specs.declared.known.Knowledge.{Knowledge}
use Rattle.lrc_lazy_known.specs.Word.{IsWithout}
use Rattle.lrc_lazy_known.specs.Effect.{word_of}
use Rattle.lrc_lazy_known.specs.Tidy.{IsTidy, IsTidyWord}
use Rattle.lrc_lazy_known.proofs.After.{words_without}
use Rattle.lrc_lazy_known.proofs.Keeping.{knowledge_tidy, tidy_word}
use Rattle.lrc_lazy_known.proofs.Made.{each_push}
use Rattle.lrc_lazy_known.proofs.known.Knowledge.without.Goals as goal

pub loop-word-preserved : goal.loop-word-preserved
loop-word-preserved c = record {
  made = each_push (λ w (x : KnownWord). IsWithout c.args.first c.args.dropped (word_of c.args.self.now w) x.knowers.items) c.loop-word.words.items
      c.push.new.self.items c.loop-word.word _ c.in_ok-push.ensures.items c.loop-word.invariant.made
      (subst (λ (old : List Known). IsWithout c.args.first c.args.dropped old c.in_ok-knowers.knowers.items) c.word.ensures c.in_ok-knowers.ensures.left);
  tidy = each_push (λ w (x : KnownWord). IsTidy c.args.self.now → IsTidyWord x.knowers.items) c.loop-word.words.items
      c.push.new.self.items c.loop-word.word _ c.in_ok-push.ensures.items c.loop-word.invariant.tidy
      (λ tidy. c.in_ok-knowers.ensures.tidy (subst IsTidyWord (sym c.word.ensures) (tidy_word c.args.self.now c.loop-word.word tidy)));
}

pub returns-clause-left : goal.returns-clause-left
returns-clause-left c =
    let left : Knowledge = record { words = c.loop-word.words } in
    λ word.
    subst (λ (knowers : List Known). IsWithout c.args.first c.args.dropped (word_of c.args.self.now word) knowers) (sym (c.cut_words.ensures.same word))
    (words_without c.args.first c.args.dropped c.args.self.now left c.loop-word.word
    (omega (arith, c.loop-word-test.false, c.loop-word.auto.word-end, c.len-word-end.ensures)) c.loop-word.invariant.made word)

pub returns-clause-tidy : goal.returns-clause-tidy
returns-clause-tidy c =
    let left : Knowledge = record { words = c.cut_words.new.words } in
    knowledge_tidy c.args.self.now left c.loop-word.words.items c.loop-word.word c.loop-word.invariant.tidy c.cut_words.ensures
