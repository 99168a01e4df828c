use Rattle.std.proofs.Common.{◌≡◌, ◌<◌, ◌≤◌, ◌+◌, ◌==◌, ℕ, List, [], ◌∷◌, ◌++◌, Option, length, take}
use Rattle.std.proofs.Common.{drop, get_or, refl, sym, subst, arith, rules, tests}
use Rattle.std.proofs.lemmas.List.{length-take-le, length_push, take_all}
use Rattle.std.proofs.lemmas.Iterator.Consumers.{YieldsList-turn, YieldsList-end}
use Rattle.std.proofs.lemmas.Iterator.Splits.{YieldsList-from_slice_split}
use Rattle.std.specs.Prelude.{IfErr, Result, Ok, Err}
use Rattle.lrc_trace.specs.declared.act.Act.{Act}
use Rattle.lrc_text.specs.Lines.{lines_of}
use Rattle.lrc_text.proofs.Lines.{lines_at, lines_more}
use Rattle.lrc_acts.specs.ActsText.{IsBad, IsFirstBad, SayActs, SaysAct, SaysSome, most_bytes, none, words_on}
use Rattle.lrc_acts.specs.declared.reading.ActsFault.{ActsFault}
use Rattle.lrc_acts.specs.declared.reading.ActsFault.TheVariants.{NoMemory}
use Rattle.lrc_acts.proofs.LineLemmas.{say_empty, say_more}
use Rattle.lrc_acts.proofs.reading.acts_of.Goals as goal

first_bad : (nodes : Option ℕ) (lines : List (List ℕ)) (n m : ℕ) (line : List ℕ) (acts : List Act) (numbers : List ℕ) → n ≡ m
    → (m < length lines) × (line ≡ get_or lines m line) → SayActs nodes 1 (take n lines) acts numbers → IsBad nodes line → IsFirstBad nodes lines (n + 1)
first_bad nodes lines n m line acts numbers same turn said bad = record {
  before = take n lines;
  line = line;
  after = drop (n + 1) lines;
  whole = lines_at lines n m line same turn;
  counted = omega (arith, length-take-le n lines (omega arith));
  good = (acts, numbers, said);
  bad = bad;
}

says_some : (nodes : Option ℕ) (lines : List (List ℕ)) (n m : ℕ) (line : List ℕ) (acts : List Act) (numbers : List ℕ) (act : Act) → n ≡ m
    → (m < length lines) × (line ≡ get_or lines m line) → SayActs nodes 1 (take n lines) acts numbers → SaysAct nodes (words_on line) act
    → SaysSome nodes lines
says_some nodes lines n m line acts numbers act same turn said says = record {
  before = take n lines;
  line = line;
  after = drop (n + 1) lines;
  whole = lines_at lines n m line same turn;
  good = (acts, numbers, said);
  says = (act, says);
}

told : {A : Type 0} (r : Result A ActsFault) (nodes : Option ℕ) (text : List ℕ) → (length text ≤ most_bytes) × SaysSome nodes (lines_of text)
    → IfErr r (λ fault. fault ≡ NoMemory → (length text ≤ most_bytes) × SaysSome nodes (lines_of text))
told (Ok a) nodes text h = tt
told (Err fault) nodes text h = λ _. h

pub loop-line-init : goal.loop-line-init
loop-line-init c = record {
  counted = refl;
  said = subst (λ (a : List Act). SayActs c.args.nodes 1 [] a c.new-2.result.items) (sym c.new.ensures.items)
      (subst (λ (n : List ℕ). SayActs c.args.nodes 1 [] [] n) (sym c.new-2.ensures.items) none);
}

pub loop-line-preserved-then-is_wordless : goal.loop-line-preserved-then-is_wordless
loop-line-preserved-then-is_wordless c =
    let turn = YieldsList-turn (YieldsList-from_slice_split _ (λ byte. byte == 10) c.args.text.now (cc) (cc) (cc) (λ x b q k. search (rules, tests)))
    c.loop-line.yielded _ c.loop-line.yielded_by _ _ c.in-Some.line c.in-Some.is c.next.ensures.steps in
    record {
      counted = omega (arith, length_push c.loop-line.yielded c.in-Some.line);
      said = subst (λ (l : List (List ℕ)). SayActs c.args.nodes 1 l c.loop-line.lined.acts.items c.loop-line.lined.lines.items)
          (sym (lines_more (lines_of c.args.text.now) c.loop-line.number _ c.in-Some.line.now c.loop-line.invariant.counted turn))
          (say_empty c.in-Some.line.now c.if-is_wordless.ensures c.loop-line.invariant.said);
    }

pub loop-line-preserved : goal.loop-line-preserved
loop-line-preserved c =
    let turn = YieldsList-turn (YieldsList-from_slice_split _ (λ byte. byte == 10) c.args.text.now (cc) (cc) (cc) (λ x b q k. search (rules, tests)))
    c.loop-line.yielded _ c.loop-line.yielded_by _ _ c.in-Some.line c.in-Some.is c.next.ensures.steps in
    let lines = lines_of c.args.text.now in
    let said = say_more c.in-Some.line.now c.in-Some-act_on.act (c.loop-line.number + 1) c.loop-line.invariant.said c.in-Some-act_on.ensures
    (omega (arith, length-take-le c.loop-line.number lines (omega (arith, turn.0, c.loop-line.invariant.counted)))) in
    record {
      counted = omega (arith, length_push c.loop-line.yielded c.in-Some.line);
      said = rw c.in_ok-push_act-in-Some-act_on.ensures.acts (rw c.in_ok-push_act-in-Some-act_on.ensures.lines
          (subst (λ (l : List (List ℕ)). SayActs c.args.nodes 1 l (c.loop-line.lined.acts.items ++ c.in-Some-act_on.act ∷ [])
          (c.loop-line.lined.lines.items ++ (c.loop-line.number + 1) ∷ []))
          (sym (lines_more lines c.loop-line.number _ c.in-Some.line.now c.loop-line.invariant.counted turn)) said));
    }

pub returns-in-None-act_on-clause-err : goal.returns-in-None-act_on-clause-err
returns-in-None-act_on-clause-err c =
    let turn = YieldsList-turn (YieldsList-from_slice_split _ (λ byte. byte == 10) c.args.text.now (cc) (cc) (cc) (λ x b q k. search (rules, tests)))
    c.loop-line.yielded _ c.loop-line.yielded_by _ _ c.in-Some.line c.in-Some.is c.next.ensures.steps in (
      c.if-text-gt-MOST_BYTES.false,
      first_bad c.args.nodes (lines_of c.args.text.now) c.loop-line.number _ c.in-Some.line.now c.loop-line.lined.acts.items c.loop-line.lined.lines.items
          c.loop-line.invariant.counted turn c.loop-line.invariant.said
          (record { some = c.if-is_wordless.ensures; nameless = c.in-None-act_on.ensures }),
    )

pub returns-clause-ok : goal.returns-clause-ok
returns-clause-ok c =
    let end = YieldsList-end (YieldsList-from_slice_split _ (λ byte. byte == 10) c.args.text.now (cc) (cc) (cc) (λ x b q k. search (rules, tests)))
    c.loop-line.yielded _ c.loop-line.yielded_by _ _ c.in-None.is c.next.ensures.steps in (
      c.if-text-gt-MOST_BYTES.false,
      subst (λ (l : List (List ℕ)). SayActs c.args.nodes 1 l c.loop-line.lined.acts.items c.loop-line.lined.lines.items)
          (take_all c.loop-line.number (lines_of c.args.text.now) (omega (arith, end.1, c.loop-line.invariant.counted))) c.loop-line.invariant.said,
    )

pub returns-in_err-push_act-in-Some-act_on-clause-memory : goal.returns-in_err-push_act-in-Some-act_on-clause-memory
returns-in_err-push_act-in-Some-act_on-clause-memory c =
    let turn = YieldsList-turn (YieldsList-from_slice_split _ (λ byte. byte == 10) c.args.text.now (cc) (cc) (cc) (λ x b q k. search (rules, tests)))
    c.loop-line.yielded _ c.loop-line.yielded_by _ _ c.in-Some.line c.in-Some.is c.next.ensures.steps in
    told c.from_residual.result c.args.nodes c.args.text.now (
      c.if-text-gt-MOST_BYTES.false,
      says_some c.args.nodes (lines_of c.args.text.now) c.loop-line.number _ c.in-Some.line.now c.loop-line.lined.acts.items
          c.loop-line.lined.lines.items c.in-Some-act_on.act c.loop-line.invariant.counted turn c.loop-line.invariant.said c.in-Some-act_on.ensures,
    )
