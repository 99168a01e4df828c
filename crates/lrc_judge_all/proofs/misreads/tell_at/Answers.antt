use Rattle.std.proofs.Common.{◌≡◌, ◌∙◌, ◌<◌, ◌+◌, List, Option, ap, get_or, length, refl, set, subst, sym, ℕ}
use Rattle.std.specs.BTreeMap.{get}
use Rattle.std.specs.Option.{option_copied}
use Rattle.std.specs.Ordering.{nat_cmp}
use Rattle.std.proofs.lemmas.Bool.{false≢true}
use Rattle.std.proofs.lemmas.List.{get_or-set_same}
use Rattle.std.proofs.lemmas.List.Elements.{All-get_or}
use Rattle.lrc_trace.specs.declared.act.Act.{Act}
use Rattle.lrc_trace.specs.declared.act.Deed.TheVariants.{Quiet, Read}
use Rattle.lrc_trace.specs.Run.{IsDone}
use Rattle.lrc_trace.proofs.Positions.{Does-deed, Does-one_deed, Does-one_node, Does-read}
use Rattle.lrc_judge.specs.Allowed.{AreAllowed}
use Rattle.lrc_judge.specs.declared.TheConstants.{NODES}
use Rattle.lrc_acts.specs.JudgeLines.{unlazy_line}
use Rattle.lrc_judge_all.specs.Known.{IsKept, IsKeptAt, IsReader}
use Rattle.lrc_judge_all.specs.Steps.{told, untold}
use Rattle.lrc_judge_all.specs.declared.kept.Kept.{Kept}
use Rattle.lrc_judge_all.specs.declared.reader.Reader.{Reader}
use Rattle.lrc_judge_all.proofs.GivenReads.{not_misread}
use Rattle.lrc_judge_all.proofs.Readers.{readers_later, readers_more}
use Rattle.lrc_judge_all.proofs.misreads.tell_at.Goals as goal

abbrev quiet : Act
quiet = record { node = 0; deed = Quiet }

pub returns-in_default : goal.returns-in_default
returns-in_default c =
    let here = Does-read c.args.acts.now c.args.position quiet c.requires.within in
    record {
      text = untold (λ m. c.in_default.not-Read m.word m.value (Does-one_deed here m.read.1)) refl;
      readers = readers_later c.args.acts.now c.args.position c.args.readers.now c.requires.readers;
    }

pub learn-requires-clause-known : goal.learn-requires-clause-known
learn-requires-clause-known c = λ node deed does.
    let run = c.args.acts.now in
    let readers = c.args.readers.now in
    let here = Does-read run c.args.position quiet c.requires.within in
    let same : c.from-node.result ≡ node = c.from-node.ensures ∙ Does-one_node here does in
    let below : (get_or run c.args.position quiet).node < NODES =
    All-get_or (λ (act : Act). act.node < NODES) run c.args.position quiet c.requires.within c.requires.acts in
    let inside : c.from-node.result < length readers =
    subst (λ m. m < length readers) (sym c.from-node.ensures) (subst (λ m. (get_or run c.args.position quiet).node < m) (sym c.requires.many) below) in
    subst (λ m. IsReader run m c.args.position (get_or readers c.from-node.result c.index-readers-node.result)) same
    (c.requires.readers c.from-node.result c.index-readers-node.result inside)

pub returns-then-may_give-clause-text : goal.returns-then-may_give-clause-text
returns-then-may_give-clause-text c =
    let run = c.args.acts.now in
    let n = c.args.position in
    let readers = c.args.readers.now in
    let word = c.in-Read.word in
    let value = c.in-Read.value in
    let here = Does-read run n quiet c.requires.within in
    let read : IsDone run n (Read word value) = ((get_or run n quiet).node, Does-deed c.in-Read.is here) in
    let below : (get_or run n quiet).node < NODES = All-get_or (λ (act : Act). act.node < NODES) run n quiet c.requires.within c.requires.acts in
    let inside : c.from-node.result < length readers =
    subst (λ m. m < length readers) (sym c.from-node.ensures) (subst (λ m. (get_or run n quiet).node < m) (sym c.requires.many) below) in
    let at : get_or (set readers c.from-node.result c.learn.new.reader) c.from-node.result c.index-readers-node-2.result ≡ c.learn.new.reader =
    get_or-set_same readers c.from-node.result c.learn.new.reader c.index-readers-node-2.result inside in
    let (known, exact, words) = c.in_ok-learn.ensures.known in
    let kept : IsKeptAt run n word (option_copied c.get-kept.result) = (
      known,
      exact,
      subst (λ (o : Option Kept). IsKept run known word o)
          (sym (c.get-kept.ensures.value ∙ ap (λ (r : Reader). get nat_cmp r.words word) at)) (words word),
    ) in
    untold (not_misread run n word value read ((c.may_give.ensures run n word kept).0 c.if-may_give.true)) refl

pub returns-then-may_give-clause-readers : goal.returns-then-may_give-clause-readers
returns-then-may_give-clause-readers c =
    let run = c.args.acts.now in
    let n = c.args.position in
    let readers = c.args.readers.now in
    let here = Does-read run n quiet c.requires.within in
    let below : (get_or run n quiet).node < NODES = All-get_or (λ (act : Act). act.node < NODES) run n quiet c.requires.within c.requires.acts in
    let inside : c.from-node.result < length readers =
    subst (λ m. m < length readers) (sym c.from-node.ensures) (subst (λ m. (get_or run n quiet).node < m) (sym c.requires.many) below) in
    readers_more run n c.from-node.result readers c.learn.new.reader inside c.requires.readers
    (subst (λ m. IsReader run m (n + 1) c.learn.new.reader) (sym c.from-node.ensures) (c.in_ok-learn.ensures.reader _ _ here))

pub returns-clause-text : goal.returns-clause-text
returns-clause-text c =
    let run = c.args.acts.now in
    let n = c.args.position in
    let readers = c.args.readers.now in
    let word = c.in-Read.word in
    let value = c.in-Read.value in
    let here = Does-read run n quiet c.requires.within in
    let read : IsDone run n (Read word value) = ((get_or run n quiet).node, Does-deed c.in-Read.is here) in
    let below : (get_or run n quiet).node < NODES = All-get_or (λ (act : Act). act.node < NODES) run n quiet c.requires.within c.requires.acts in
    let inside : c.from-node.result < length readers =
    subst (λ m. m < length readers) (sym c.from-node.ensures) (subst (λ m. (get_or run n quiet).node < m) (sym c.requires.many) below) in
    let at : get_or (set readers c.from-node.result c.learn.new.reader) c.from-node.result c.index-readers-node-2.result ≡ c.learn.new.reader =
    get_or-set_same readers c.from-node.result c.learn.new.reader c.index-readers-node-2.result inside in
    let (known, exact, words) = c.in_ok-learn.ensures.known in
    let kept : IsKeptAt run n word (option_copied c.get-kept.result) = (
      known,
      exact,
      subst (λ (o : Option Kept). IsKept run known word o)
          (sym (c.get-kept.ensures.value ∙ ap (λ (r : Reader). get nat_cmp r.words word) at)) (words word),
    ) in
    let iff = c.may_give.ensures run n word kept in
    told
    (record { word = word; value = value; read = read; refused = λ m. false≢true (sym c.if-may_give.false ∙ iff.1 m) })
    (record {
      word = word;
      value = value;
      allowed = c.deref.result.now;
      read = read;
      are_allowed = subst (λ (l : List ℕ). AreAllowed run n word l) (sym c.deref.ensures.value) (c.in_ok-allowed.ensures run n word kept);
      is = ap (λ p. unlazy_line p value c.deref.result.now) c.place_at.ensures;
    })
    c.in_ok-push_unlazy.ensures.ok

pub returns-clause-readers : goal.returns-clause-readers
returns-clause-readers c =
    let run = c.args.acts.now in
    let n = c.args.position in
    let readers = c.args.readers.now in
    let here = Does-read run n quiet c.requires.within in
    let below : (get_or run n quiet).node < NODES = All-get_or (λ (act : Act). act.node < NODES) run n quiet c.requires.within c.requires.acts in
    let inside : c.from-node.result < length readers =
    subst (λ m. m < length readers) (sym c.from-node.ensures) (subst (λ m. (get_or run n quiet).node < m) (sym c.requires.many) below) in
    readers_more run n c.from-node.result readers c.learn.new.reader inside c.requires.readers
    (subst (λ m. IsReader run m (n + 1) c.learn.new.reader) (sym c.from-node.ensures) (c.in_ok-learn.ensures.reader _ _ here))
