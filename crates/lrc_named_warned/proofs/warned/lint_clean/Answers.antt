-- By what the core comes to.
use Rattle.std.proofs.Common.{List, ap, map, subst, sym, ◌∙◌}
use Rattle.lrc_text.specs.Parts.{whole_text}
use Rattle.lrc_named_core.specs.declared.tree.Origin as code_origin
use Rattle.lrc_named_core.specs.View.{origin_of}
use Rattle.lrc_named_tokens.specs.View.{located_of}
use Rattle.lrc_named_tree.specs.View.{program_of}
use Rattle.lrc_named_names.specs.View.{declared_of}
use Rattle.lrc_named.specs.Lines.{lines_of}
use Rattle.lrc_named_written.specs.Written.{IsWritten}
use Rattle.lrc_named_warned.specs.Warned.{IsProgramText}
use Rattle.lrc_named_warned.proofs.Telling.{core_is_program, long_faulty, over_faulty, told_same, warned}
use Rattle.lrc_named_warned.proofs.warned.lint_clean.Goals as goal

pub lint_core-requires : goal.lint_core-requires
lint_core-requires c =
    let t = map located_of c.args.tokens.now in
    let tree = program_of c.args.program.now in
    let layout = c.args.layout.now in
    let from = subst (IsWritten (declared_of layout.names) (lines_of t) tree) c.in-Core.is
    (subst (λ lines. IsWritten (declared_of layout.names) lines tree c.in_ok-written.written) (c.deref.ensures.value ∙ c.in_ok-lines.ensures) c.in_ok-written.ensures) in
    subst IsProgramText (sym c.deref-in-Core.ensures.value)
    (core_is_program c.args.text.now t tree layout c.in-Core.core.items (map origin_of c.in-Core.origins.items) _ c.requires.parsed c.requires.clean from)

pub returns-in-Core : goal.returns-in-Core
returns-in-Core c =
    let t = map located_of c.args.tokens.now in
    let tree = program_of c.args.program.now in
    let layout = c.args.layout.now in
    let core = c.in-Core.core.items in
    let origins = map origin_of c.in-Core.origins.items in
    let printed = whole_text c.in_ok-linted-in-Core.linted.parts.items in
    let from = subst (IsWritten (declared_of layout.names) (lines_of t) tree) c.in-Core.is
    (subst (λ lines. IsWritten (declared_of layout.names) lines tree c.in_ok-written.written) (c.deref.ensures.value ∙ c.in_ok-lines.ensures) c.in_ok-written.ensures) in (
      warned c.args.file.now c.args.text.now printed t tree layout core origins _ c.requires.parsed c.requires.clean from
          (told_same c.args.file.now t tree (declared_of layout.names) core c.deref-in-Core.result.now origins (map origin_of c.deref-in-Core-2.result.now) printed
          c.deref-in-Core.ensures.value (ap (λ (l : List code_origin.Origin). map origin_of l) c.deref-in-Core-2.ensures.value) c.in_ok-linted-in-Core.ensures.told),
      c.in_ok-linted-in-Core.ensures.status,
    )

pub returns-in-Over : goal.returns-in-Over
returns-in-Over c =
    let t = map located_of c.args.tokens.now in
    let tree = program_of c.args.program.now in
    let layout = c.args.layout.now in
    over_faulty c.args.text.now t tree layout _ c.requires.parsed c.requires.clean
    (subst (IsWritten (declared_of layout.names) (lines_of t) tree) c.in-Over.is
    (subst (λ lines. IsWritten (declared_of layout.names) lines tree c.in_ok-written.written) (c.deref.ensures.value ∙ c.in_ok-lines.ensures) c.in_ok-written.ensures))

pub returns : goal.returns
returns c =
    let t = map located_of c.args.tokens.now in
    let tree = program_of c.args.program.now in
    let layout = c.args.layout.now in
    long_faulty c.args.text.now t tree layout c.requires.parsed c.requires.clean
    (subst (IsWritten (declared_of layout.names) (lines_of t) tree) c.in-TooLong.is
    (subst (λ lines. IsWritten (declared_of layout.names) lines tree c.in_ok-written.written) (c.deref.ensures.value ∙ c.in_ok-lines.ensures) c.in_ok-written.ensures))
