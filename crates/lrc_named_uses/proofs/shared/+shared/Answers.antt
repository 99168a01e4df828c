-- A name is what it means, over one name less; and what is looked for is found, or not.
use Rattle.std.proofs.Common.{◌≡◌, ◌-◌, ◌≤◌, ◌∙◌, ℕ, zero, suc, Bool, Some, None, List, ap, arith, map, refl, sym}
use Rattle.std.specs.Prelude.{Option}
use Rattle.lrc_named_tokens.specs.Token.{Located}
use Rattle.lrc_named_tokens.specs.View.{located_of}
use Rattle.lrc_named_tree.specs.View.{named_of}
use Rattle.lrc_named_names.specs.Names.{Declared, Meaning, meaning_at, meaning_of}
use Rattle.lrc_named_names.specs.View.{declared_of, meaning_seen}
use Rattle.lrc_named_constants.specs.Well.{bytes_of}
use Rattle.lrc_named_uses.specs.Shared.{is_read, is_shared, is_shared_in, some_shared}
use Rattle.lrc_named_uses.proofs.Finding.{any_here, any_later, any_nowhere}
use Rattle.lrc_named_uses.proofs.shared.+shared.Goals as goal

read_at : (declared : List Declared) (tokens : List Located) (depth : ℕ) (bytes : List ℕ) (meaning : Option Meaning) (r : Bool) → 1 ≤ depth
    → meaning_of declared bytes ≡ meaning → r ≡ is_read (is_shared declared tokens (depth - 1)) tokens meaning → r ≡ is_shared declared tokens depth bytes
read_at declared tokens zero bytes meaning r some means is = absurd (omega arith)
read_at declared tokens (suc depth) bytes meaning r some means is =
    let less : suc depth - 1 ≡ depth = omega arith in
    is ∙ ap (λ n. is_read (is_shared declared tokens n) tokens meaning) less ∙ ap (is_read (is_shared declared tokens depth) tokens) (sym means)

pub is_shared-returns-in-Some : goal.is_shared-returns-in-Some
is_shared-returns-in-Some t c =
    let declared = declared_of c.args.names.now in
    read_at declared (map located_of c.args.tokens.now) c.args.depth c.args.name.now (Some (meaning_seen c.in-Some.meaning.now)) c.is_read.result (omega arith)
    (ap (λ n. meaning_at declared n) (sym c.place.ensures) ∙ sym c.in-Some.ensures) c.is_read.ensures

pub is_shared-returns-in-None : goal.is_shared-returns-in-None
is_shared-returns-in-None t c =
    let declared = declared_of c.args.names.now in
    read_at declared (map located_of c.args.tokens.now) c.args.depth c.args.name.now None _ (omega arith)
    (ap (λ n. meaning_at declared n) (sym c.place.ensures) ∙ sym c.in-None.ensures) refl

pub is_read-returns-in-Function : goal.is_read-returns-in-Function
is_read-returns-in-Function t c =
    let declared = declared_of c.args.names.now in
    let tokens = map located_of c.args.tokens.now in
    c.some_shared.ensures
    ∙ ap (some_shared declared tokens c.args.depth (bytes_of (map named_of c.in-Function.parameters.now))) c.tokens_in.ensures
    ∙ ap (λ m. is_read (is_shared declared tokens c.args.depth) tokens (Some (meaning_seen m))) (sym c.in-Function.is)

pub some_shared-loop-found-preserved : goal.some_shared-loop-found-preserved
some_shared-loop-found-preserved t c =
    any_later located_of
    (λ (f : Located). is_shared_in (declared_of c.args.names.now) (map located_of c.args.tokens.now) c.args.depth (bytes_of (map named_of c.args.parameters.now)) f.lexeme)
    c.args.some.now c.loop-found.found-index _ _ c.loop-found-test.true c.loop-found.invariant (sym c.is_shared_in.ensures ∙ c.if-is_shared_in.false)

pub some_shared-returns-then-is_shared_in : goal.some_shared-returns-then-is_shared_in
some_shared-returns-then-is_shared_in t c =
    any_here located_of
    (λ (f : Located). is_shared_in (declared_of c.args.names.now) (map located_of c.args.tokens.now) c.args.depth (bytes_of (map named_of c.args.parameters.now)) f.lexeme)
    c.args.some.now c.loop-found.found-index _ _ c.loop-found-test.true c.loop-found.invariant (sym c.is_shared_in.ensures ∙ c.if-is_shared_in.true)

pub some_shared-returns : goal.some_shared-returns
some_shared-returns t c =
    any_nowhere located_of
    (λ (f : Located). is_shared_in (declared_of c.args.names.now) (map located_of c.args.tokens.now) c.args.depth (bytes_of (map named_of c.args.parameters.now)) f.lexeme)
    c.args.some.now c.loop-found.found-index _ c.loop-found-test.false c.loop-found.invariant
