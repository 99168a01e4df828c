use Rattle.std.proofs.Common.{◌≡◌, ◌∙◌, ◌++◌, ℕ, OnOk, Some, ap, append_assoc, codes, rules, slice_get, subst, sym}
use Rattle.lrc_replay.proofs.Coursing.{on_ok}
use Rattle.lrc_text.proofs.Fronts.{ends_ok, grown_by}
use Rattle.lrc_states.specs.Members.{stands_member}
use Rattle.lrc_states.specs.States.{state_behind}
use Rattle.lrc_states.proofs.player.Player.push_end.Goals as goal

pub returns-clause-line : goal.returns-clause-line
returns-clause-line c plan world turns l is there =
    let old = c.args.line.now.items in
    let told = state_behind plan world.acts c.args.node c.args.known.now l.node in
    let did = c.args.did.now in
    let stands = stands_member c.args.telling l.node in
    let first = c.in_ok-extend_from_slice.ensures.items in
    let second = grown_by old (codes ",\"state\":") told first (c.in_ok-push_next_state.ensures.line plan world turns l is there) in
    let third = grown_by old (codes ",\"state\":" ++ told) did second c.in_ok-extend_from_slice-2.ensures.items in
    let here = c.in_ok-state.ensures world l is.replay (subst (λ (n : ℕ). slice_get world.nodes n ≡ Some l) (sym c.from.ensures) there) in
    let fourth = grown_by old (codes ",\"state\":" ++ told ++ did) stands third
    (c.in_ok-push_stands.ensures ∙ ap (λ n. c.extend_from_slice-2.new.self.items ++ stands_member c.args.telling n) here)
    ∙ ap (λ t. old ++ t) (append_assoc (codes ",\"state\":" ++ told) did stands) in
    ends_ok c.extend_from_slice-3.result old (codes ",\"state\":" ++ told ++ (did ++ stands)) (codes "}\n") fourth c.extend_from_slice-3.ensures.items

pub returns-clause-known : goal.returns-clause-known
returns-clause-known c world l is there =
    let last : OnOk c.extend_from_slice-3.result (c.extend_from_slice-3.new.self.items ≡ c.push_stands.new.text.items ++ codes "}\n") = search rules in
    on_ok c.extend_from_slice-3.result last (λ more. c.in_ok-push_next_state.ensures.known world l is there)
