-- The unknown keys are those that the loop keeps.
use Rattle.std.proofs.Common.{◌≡◌, ◌∙◌, ℕ, ◌+◌, ◌<◌, Bool, true, false, List, [], ◌∷◌, ◌++◌, length, get_or, take}
use Rattle.std.proofs.Common.{Option, Some, None, Vec, Global, sym, ap, take_all, append-nil}
use Rattle.std.specs.Prelude.{if◌then◌else◌, is_none, is_some, not}
use Rattle.std.specs.Option.{option_copied}
use Rattle.std.proofs.lemmas.List.Elements.{filter_more}
use denote.Bor.{Bor}
use Rattle.lrc_store.specs.declared.key.Key.{Key}
use Rattle.lrc_store.specs.Store.{StoreRecord, changes_at}
use Rattle.std.proofs.lemmas.Result.{IfOk-from_err}
use Rattle.lrc_protocol.specs.Pages.{unknown_of}
use Rattle.lrc_memory.proofs.fetching.unknown_of.Goals as goal
use Rattle.lrc_memory.proofs.fetching.unknown_of.Goals.{then-is_none+in_ok-push, else-is_none}

abbrev first_key : Key
first_key = record { node = 0; index = 0; page = 0 }

pub returns-in_err-unknown : goal.returns-in_err-unknown
returns-in_err-unknown c = IfOk-from_err c.from_residual.result _ c.from_residual.ensures.0

pub returns-in_err-push : goal.returns-in_err-push
returns-in_err-push c = IfOk-from_err c.from_residual-in_err-push.result _ c.from_residual-in_err-push.ensures.0

pub loop-key-init : goal.loop-key-init
loop-key-init c = c.in_ok-unknown.ensures.items

pub returns : goal.returns
returns c = c.loop-key.invariant ∙ ap (unknown_of c.args.store.now) (take_all c.loop-key.key-index c.args.keys.now c.loop-key-test.false)

-- a key of which the changes are known, or not
is_unknown : {T : Type 0} (known : Option (Bor T)) (at : Option T) (none : Bool) → option_copied known ≡ at → is_some known ≡ not none
    → is_none at ≡ none
is_unknown None at true copied some = ap is_none (sym copied)
is_unknown None at false copied some = cc
is_unknown (Some x) at true copied some = cc
is_unknown (Some x) at false copied some = ap is_none (sym copied)

-- one key on
key_on : (store : StoreRecord) (keys : List Key) (i : ℕ) (none : Bool) → i < length keys → is_none (changes_at store (get_or keys i first_key)) ≡ none
    → unknown_of store (take (i + 1) keys) ≡ unknown_of store (take i keys) ++ (if none then get_or keys i first_key ∷ [] else [])
key_on store keys i none inside is =
    filter_more (λ key. is_none (changes_at store key)) keys i first_key inside
    ∙ ap (λ b. unknown_of store (take i keys) ++ (if b then get_or keys i first_key ∷ [] else [])) is

pub loop-key-preserved : goal.loop-key-preserved
loop-key-preserved c =
    let on = key_on c.args.store.now c.args.keys.now c.loop-key.key-index c.is_none.result c.loop-key-test.true
    (is_unknown c.changes.result _ c.is_none.result c.changes.ensures c.is_none.ensures) in
    let more = λ (none : Bool). c.loop-key.unknown.items ++ (if none then get_or c.args.keys.now c.loop-key.key-index first_key ∷ [] else []) in
    let kept = ap (λ (l : List Key). l ++ (if c.is_none.result then get_or c.args.keys.now c.loop-key.key-index first_key ∷ [] else []))
    c.loop-key.invariant in
    elim c.if-is_none.branch [
      | then-is_none+in_ok-push w ↦ ap (λ (v : Vec Key Global). v.items) w.unknown-is ∙ w.in_ok-push.ensures.items
          ∙ ap more (sym w.if-is_none.true) ∙ kept ∙ sym on
      | else-is_none w ↦ ap (λ (v : Vec Key Global). v.items) w.unknown-is ∙ sym (append-nil c.loop-key.unknown.items)
          ∙ ap more (sym w.if-is_none.false) ∙ kept ∙ sym on
    ]
