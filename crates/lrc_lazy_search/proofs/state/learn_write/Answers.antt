use Rattle.std.proofs.Common.{refl, subst}
use Rattle.std.specs.Vec.{with_item}
use Rattle.lrc_lazy_known.specs.declared.known.KnownWord.{KnownWord}
use Rattle.lrc_lazy_known.specs.declared.known.Knowledge.{Knowledge}
use Rattle.lrc_lazy_known.specs.declared.word.Effect.TheVariants.{Writes}
use Rattle.lrc_lazy_known.specs.Effect.{IsAfter}
use Rattle.lrc_lazy_known.specs.Tidy.{IsTidyWord}
use Rattle.lrc_lazy_search.proofs.Learned.{put_known, put_tidy}
use Rattle.lrc_lazy_search.proofs.state.learn_write.Goals as goal

pub returns-clause-known : goal.returns-clause-known
returns-clause-known c =
    let word = c.args.word in
    let room = c.make_room.new.knowledge in
    let known : KnownWord = record { knowers = c.in_ok-knowers.knowers } in
    let new : Knowledge = record { words = with_item room.words word known } in
    let e = c.in_ok-make_room.ensures in
    put_known c.args.knowledge.now room new word known e.same e.room refl c.args.writer c.args.value
    (subst (λ l. IsAfter (Writes c.args.writer word c.args.value) word l known.knowers.items) c.word.ensures c.in_ok-knowers.ensures.after)

pub returns-clause-tidy : goal.returns-clause-tidy
returns-clause-tidy c =
    let word = c.args.word in
    let room = c.make_room.new.knowledge in
    let known : KnownWord = record { knowers = c.in_ok-knowers.knowers } in
    let new : Knowledge = record { words = with_item room.words word known } in
    let e = c.in_ok-make_room.ensures in
    put_tidy c.args.knowledge.now room new word known e.same e.size refl
    (subst (λ l. IsTidyWord l → IsTidyWord known.knowers.items) c.word.ensures c.in_ok-knowers.ensures.tidy)
    (c.in_ok-knowers.ensures.written c.args.writer c.args.value refl)
