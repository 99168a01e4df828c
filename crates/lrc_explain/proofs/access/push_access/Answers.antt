use Rattle.std.proofs.Common.{rules, ◌≡◌, ◌∙◌, ◌<◌, ◌++◌, ℕ, List, ap, arith, get_or, length, take, append_assoc}
use Rattle.std.proofs.lemmas.List.{get_or_read}
use Rattle.lrc_lines.proofs.Following.{on_ok}
use Rattle.lrc_trace.specs.declared.act.Act.{Act}
use Rattle.lrc_trace.specs.declared.act.Deed.TheVariants.{Quiet}
use Rattle.lrc_trace.specs.Interval.{interval_at}
use Rattle.lrc_trace.proofs.Positions.{Does-read}
use Rattle.lrc_explain.specs.Access.{access_text, act_words, effect_words, interval_words, node_words}
use Rattle.lrc_explain.proofs.access.push_access.Goals as goal

abbrev no_act : Act
no_act = record { node = 0; deed = Quiet }

joined : (text a b c d : List ℕ) → (((text ++ a) ++ b) ++ c) ++ d ≡ text ++ (((a ++ b) ++ c) ++ d)
joined text a b c d = simp append_assoc

pub returns : goal.returns
unfolding access_text
returns c =
    let acts = c.args.acts.now in
    let position = c.args.position in
    let act = get_or acts position no_act in
    let before = c.requires.before in
    let text = c.args.text.now.items in
    let node = node_words act.node in
    let interval = interval_words (interval_at acts act.node position) in
    let place = act_words position in
    let words = effect_words (take position acts) act.deed in
    let within : position < length acts = c.requires.within in
    let intervals = c.args.before.now.intervals.items in
    let lefts = c.args.before.now.lefts.items in
    let intervals_long = before.intervals.long in
    let lefts_long = before.lefts.long in
    let here : c.from.result ≡ act.node = c.from.ensures in
    let read : c.index.result.now ≡ get_or intervals position c.index.result.now = search rules in
    let read-2 : c.index-2.result.now ≡ get_or lefts position c.index-2.result.now = search rules in
    let inside : position < length intervals = omega (arith, within, intervals_long) in
    let inside-2 : position < length lefts = omega (arith, within, lefts_long) in
    let interval_is = get_or_read intervals position c.index.result.now inside read 0
    ∙ before.intervals.each position act.node act.deed within (Does-read acts position no_act within) in
    let left_is = get_or_read lefts position c.index-2.result.now inside-2 read-2 0 ∙ before.lefts.each position within in
    on_ok c.push_words.result
    (λ e. e ∙ ap (λ (l : List ℕ). l ++ words)
    (c.in_ok-push_place.ensures ∙ ap (λ (l : List ℕ). l ++ place)
    (c.in_ok-push_interval.ensures
    ∙ ap (λ (l : List ℕ). l ++ interval_words c.index.result.now)
    (c.in_ok-push_node.ensures ∙ ap (λ (k : ℕ). text ++ node_words k) here)
    ∙ ap (λ (k : ℕ). (text ++ node) ++ interval_words k) interval_is))
    ∙ joined text node interval place words)
    (c.push_words.ensures (take position acts) left_is)
