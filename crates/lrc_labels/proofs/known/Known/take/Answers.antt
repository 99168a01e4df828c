use Rattle.std.proofs.Common.{◌≡◌, ◌∙◌, ℕ, ap, sym, subst, List, Bool, true, map}
use Rattle.std.specs.Prelude.{◌||◌, cond}
use Rattle.std.specs.List.{list_any}
use Rattle.std.specs.Str.{bytes_eq}
use Rattle.lrc_labels.specs.declared.known.Known.{Known}
use Rattle.lrc_labels.specs.declared.spans.Span.{Span}
use Rattle.lrc_labels.specs.Reading.{Label, first_of, is_lock, label_seen, last_of}
use Rattle.lrc_labels.specs.Spans.{AreSpansFrom}
use Rattle.lrc_labels.proofs.Noted.{span_of, tells_lock, tells_word}
use Rattle.lrc_labels.proofs.known.Known.take.Goals as goal
use Rattle.lrc_labels.proofs.known.Known.take.Goals.{then-is_lock+in_ok-put, else-is_lock+in_ok-put-2}

pub returns-clause-known : goal.returns-clause-known
returns-clause-known c label target_is name_is =
    let labels = map label_seen c.args.self.now.said.items in
    let old = c.args.self.now in
    let noted = c.if-is_lock.self in
    let new : Known = record { said = noted.said; words = noted.words; locks = noted.locks; names = c.insert.new.self } in
    let same : record { first = c.first_of.result; last = c.last_of.result } ≡ span_of label =
    ap (λ n. record { first = n; last = c.last_of.result }) c.first_of.ensures
    ∙ ap (λ n. record { first = first_of c.args.target; last = n }) c.last_of.ensures
    ∙ ap (λ t. record { first = first_of t; last = last_of t }) (sym target_is) in
    let names : noted.names ≡ old.names → (name : List ℕ) → list_any (λ key. bytes_eq name key.now) new.names.keys
    ≡ cond (bytes_eq label.name name) true (list_any (λ key. bytes_eq name key.now) old.names.keys) =
    λ kept name. c.in_ok-insert.ensures.updates.0 (record { ref_ptr = (0, 0); now = name })
    ∙ ap (λ key. cond (bytes_eq key name) true (list_any (λ k. bytes_eq name k.now) noted.names.keys)) (sym name_is)
    ∙ ap (λ known. cond (bytes_eq label.name name) true (list_any (λ k. bytes_eq name k.now) known.keys)) kept in
    elim c.if-is_lock.branch [
      | then-is_lock+in_ok-put w ↦
          tells_lock label labels old new c.requires.known (names (ap (λ (k : Known). k.names) w.self-is))
          (ap is_lock target_is ∙ sym c.is_lock.ensures ∙ w.if-is_lock.true) (ap (λ (k : Known). k.words.items) w.self-is)
          (subst (λ (k : Known). AreSpansFrom 0 k.locks.items) (sym w.self-is) w.in_ok-put.ensures.are)
          (subst (λ (k : Known). (test : Span → Bool) → list_any test k.locks.items ≡ (test (span_of label) || list_any test old.locks.items)) (sym w.self-is)
          (λ test. w.in_ok-put.ensures.more test ∙ ap (λ s. test s || list_any test old.locks.items) same))
      | else-is_lock+in_ok-put-2 w ↦
          tells_word label labels old new c.requires.known (names (ap (λ (k : Known). k.names) w.self-is))
          (ap is_lock target_is ∙ sym c.is_lock.ensures ∙ w.if-is_lock.false) (ap (λ (k : Known). k.locks.items) w.self-is)
          (subst (λ (k : Known). AreSpansFrom 0 k.words.items) (sym w.self-is) w.in_ok-put-2.ensures.are)
          (subst (λ (k : Known). (test : Span → Bool) → list_any test k.words.items ≡ (test (span_of label) || list_any test old.words.items)) (sym w.self-is)
          (λ test. w.in_ok-put-2.ensures.more test ∙ ap (λ s. test s || list_any test old.words.items) same))
    ]
