-- A text has one core.
use Rattle.std.proofs.Common.{◌≡◌, ◌≤◌, ◌++◌, ◌∷◌, ℕ, zero, suc, codes, List, [], Option, Some, None, length, refl, sym, subst, ap, ◌∙◌, arith, inl, inr}
use Rattle.lrc_lang.specs.declared.fault.FaultKind.{FaultKind as TextKind}
use Rattle.lrc_lang.specs.declared.fault.FaultKind.TheVariants as kinds
use Rattle.lrc_named_tokens.specs.Token.{Located, Place}
use Rattle.lrc_named_tokens.proofs.Unique.{unique}
use Rattle.lrc_named_tree.specs.Tree.{Declaration, NamedTree}
use Rattle.lrc_named_parse.proofs.OneAnswer.{not_both, one_first_fault, one_text}
use Rattle.lrc_named_names.specs.Names.{Declared}
use Rattle.lrc_named_constants.specs.Layout.{AreDeclared, no_declaration, one_declaration}
use Rattle.lrc_named_expression_faults.specs.declared.fault.Fault.{Fault}
use Rattle.lrc_named_expression_faults.specs.declared.fault.FaultKind.{FaultKind as NameKind}
use Rattle.lrc_named_expression_faults.specs.declared.fault.FaultKind.TheVariants as name_kinds
use Rattle.lrc_named_expression_faults.specs.Fault.{IsFirstOf, IsNone, fault_at, rank_of, words_of}
use Rattle.lrc_named_faults.specs.Checked.{counted_in}
use Rattle.lrc_named_faults.specs.Program.{IsFaultOf}
use Rattle.lrc_named_faults.proofs.Declared.{one_table}
use Rattle.lrc_named_core.specs.Tree.{Block, Trap}
use Rattle.lrc_named_limits.specs.declared.excess.Excess.{Excess}
use Rattle.lrc_named_limits.specs.Limits.{ComesFirst}
use Rattle.lrc_named_program.specs.Program.{IsCoreOf}
use Rattle.lrc_named_statements_laws.proofs.Unique.{cores_unique}
use Rattle.lrc_named_text.specs.Statements.{core_text}
use Rattle.lrc_named_origins.specs.Origins.{lines_told, origins_of, traps_told}
use Rattle.lrc_named_held.specs.Held.{Held, held_of}
use Rattle.lrc_named_held.specs.Owns.{owns_among}
use Rattle.lrc_named_written.specs.Privates.{privates}
use Rattle.lrc_named_written.specs.Written.{AreOver, IsCoreLong, IsCoreOver}
use Rattle.lrc_named_written.specs.Written as written
use Rattle.lrc_named.specs.declared.fault.NamedFault.{NamedFault}
use Rattle.lrc_named.specs.declared.fault.NamedFault.TheVariants.{Text, Names, NoMemory}
use Rattle.lrc_named.specs.Lines.{last_of, line_at, lines_of, offsets_of}
use Rattle.lrc_named.specs.Faults.{AreToldAlike}
use Rattle.lrc_named.specs.Named.{IsCoreFault, IsCoreFaultOf, IsCoreText, IsCoreTextOn, IsFaultless, IsNameFault, IsNamedFault}

-- ---- one core of a program that declares this

one_list : {old one other : List Declared} {all : List Declaration} → AreDeclared old all one → AreDeclared old all other → one ≡ other
one_list no_declaration no_declaration = refl
one_list {other = other} (one_declaration {others = others} first rest) (one_declaration again more) =
    one_list rest (subst (λ table. AreDeclared table others other) (one_table again first) more)

-- the core, and its text
record IsSame (w x l m : ℕ) (b c : Block) : Type 0 where
  words : w ≡ x
  locks : l ≡ m
  statements : b ≡ c

same_core : (d : List Declared) (r : NamedTree) (w x l m : ℕ) (b c : Block) → IsCoreOf d r w l b → IsCoreOf d r x m c → IsSame w x l m b c
same_core d r w x l m b c one other = record {
  words = one.words_are ∙ sym other.words_are;
  locks = one.locks_are ∙ sym other.locks_are;
  statements = cores_unique one.translated other.translated;
}

same_text : (d : List Declared) (lines : List ℕ) (w x l m : ℕ) (b c : Block) → IsSame w x l m b c → core_text w l d lines b ≡ core_text x m d lines c
same_text d lines w x l m b c same =
    ap (λ n. core_text n l d lines b) same.words ∙ ap (λ n. core_text x n d lines b) same.locks ∙ ap (λ s. core_text x m d lines s) same.statements

one_written : (d : List Declared) (lines : List ℕ) (r : NamedTree) (core own : List ℕ) → written.IsCoreText d lines r core → written.IsCoreText d lines r own → core ≡ own
one_written d lines r core own a b =
    a.written
    ∙ same_text d lines a.words b.words a.locks b.locks a.statements b.statements
    (same_core d r a.words b.words a.locks b.locks a.statements b.statements a.translated b.translated)
    ∙ sym b.written

not_over : (d : List Declared) (lines : List ℕ) (r : NamedTree) (core : List ℕ) (x : Excess) → written.IsCoreText d lines r core → IsCoreOver d r x → ⊥
not_over d lines r core x a b =
    let same = (same_core d r a.words b.words a.locks b.locks a.statements b.statements a.translated b.translated).statements in
    a.within x (subst (λ s. AreOver (privates d r.statements) s x) (sym same) b.first.0)

not_long : (d : List Declared) (lines : List ℕ) (r : NamedTree) (core : List ℕ) → written.IsCoreText d lines r core → IsCoreLong d lines r → ⊥
not_long d lines r core a b =
    let same = same_text d lines a.words b.words a.locks b.locks a.statements b.statements
    (same_core d r a.words b.words a.locks b.locks a.statements b.statements a.translated b.translated) in
    let long = ap length (a.written ∙ same) in
    omega (arith, long, a.fits, b.long)

-- ---- one program of a text

record AreSame (t u : List Located) (r s : NamedTree) (d e : List Declared) : Type 0 where
  tokens : t ≡ u
  tree : r ≡ s
  table : d ≡ e

same_program : (text : List ℕ) (t u : List Located) (r s : NamedTree) (d e : List Declared) → IsFaultless text t r d → IsFaultless text u s e → AreSame t u r s d e
same_program text t u r s d e a b =
    let tree : r ≡ s = one_text text t u r s a.parsed b.parsed in
    record {
      tokens = unique a.parsed.lexed b.parsed.lexed;
      tree = tree;
      table = one_list a.are_declared (subst (λ (p : NamedTree). AreDeclared [] p.declarations e) (sym tree) b.are_declared);
    }

-- what is said of one of them is said of the other
moved : (P : List Located → NamedTree → List Declared → Type 0) (t u : List Located) (r s : NamedTree) (d e : List Declared) → AreSame t u r s d e → P u s e → P t r d
moved P t u r s d e same h =
    subst (λ x. P x r d) (sym same.tokens) (subst (λ x. P u x d) (sym same.tree) (subst (λ x. P u s x) (sym same.table) h))

pub one_core : (text : List ℕ) (nodes other : Option ℕ) (core own : List ℕ) → IsCoreText text nodes core → IsCoreText text other own → core ≡ own
one_core text nodes other core own a b =
    one_written a.declared (lines_of a.tokens) a.tree core own a.core_is
    (moved (λ t r d. written.IsCoreText d (lines_of t) r own) a.tokens b.tokens a.tree b.tree a.declared b.declared
    (same_program text a.tokens b.tokens a.tree b.tree a.declared b.declared a.is b.is) b.core_is)

pub one_count : (text : List ℕ) (nodes other : Option ℕ) (core own : List ℕ) → IsCoreText text nodes core → IsCoreText text other own → nodes ≡ other
one_count text nodes other core own a b =
    a.asked
    ∙ ap (λ (r : NamedTree). counted_in None r.declarations) (same_program text a.tokens b.tokens a.tree b.tree a.declared b.declared a.is b.is).tree
    ∙ sym b.asked

one_block : (text : List ℕ) (nodes other : Option ℕ) (core own : List ℕ) (a : IsCoreText text nodes core) (b : IsCoreText text other own)
    → a.core_is.statements ≡ b.core_is.statements
one_block text nodes other core own a b =
    let same = same_program text a.tokens b.tokens a.tree b.tree a.declared b.declared a.is b.is in
    let theirs : IsCoreOf a.declared a.tree b.core_is.words b.core_is.locks b.core_is.statements =
    moved (λ t r d. IsCoreOf d r b.core_is.words b.core_is.locks b.core_is.statements) a.tokens b.tokens a.tree b.tree a.declared b.declared same
    b.core_is.translated in
    cores_unique a.core_is.translated.translated theirs.translated

pub one_trapping : (text : List ℕ) (nodes other : Option ℕ) (core own told said : List ℕ) (traps more : List Trap) (held others : List (List Held))
    → IsCoreTextOn text nodes core told traps held → IsCoreTextOn text other own said more others → traps ≡ more
one_trapping text nodes other core own told said traps more held others one two =
    one.traps_are ∙ ap (λ (s : Block). traps_told (origins_of s)) (one_block text nodes other core own one.is two.is) ∙ sym two.traps_are

pub one_telling : (text : List ℕ) (nodes other : Option ℕ) (core own told said : List ℕ) (traps more : List Trap) (held others : List (List Held))
    → IsCoreTextOn text nodes core told traps held → IsCoreTextOn text other own said more others → told ≡ said
one_telling text nodes other core own told said traps more held others one two =
    let a = one.is in
    let b = two.is in
    let same = same_program text a.tokens b.tokens a.tree b.tree a.declared b.declared a.is b.is in
    let statements = one_block text nodes other core own a b in
    one.told_are
    ∙ ap (λ (t : List Located). lines_told (lines_of t) (origins_of a.core_is.statements) ++ last_of (lines_of t) ∷ []) same.tokens
    ∙ ap (λ (s : Block). lines_told (lines_of b.tokens) (origins_of s) ++ last_of (lines_of b.tokens) ∷ []) statements
    ∙ sym two.told_are

pub one_holding : (text : List ℕ) (nodes other : Option ℕ) (core own told said : List ℕ) (traps more : List Trap) (held others : List (List Held))
    → IsCoreTextOn text nodes core told traps held → IsCoreTextOn text other own said more others → held ≡ others
one_holding text nodes other core own told said traps more held others one two =
    let a = one.is in
    let b = two.is in
    let same = same_program text a.tokens b.tokens a.tree b.tree a.declared b.declared a.is b.is in
    one.held_are
    ∙ ap (λ (t : List Located). held_of text (offsets_of t) (owns_among a.core_is.statements)) same.tokens
    ∙ ap (λ (s : Block). held_of text (offsets_of b.tokens) (owns_among s)) (one_block text nodes other core own a b)
    ∙ sym two.held_are

-- ---- no fault where there is a core

no_core_fault : (t : List Located) (r : NamedTree) (d : List Declared) (core : List ℕ) (line : ℕ) (kind : TextKind)
    → written.IsCoreText d (lines_of t) r core → IsCoreFaultOf t r d line kind → ⊥
no_core_fault t r d core line kinds.TooLong a f = not_long d (lines_of t) r core a f.0
no_core_fault t r d core line kinds.OverLimit a f = not_over d (lines_of t) r core f.0 a f.1
no_core_fault t r d core line kinds.BadByte a f = f
no_core_fault t r d core line kinds.BadNumber a f = f
no_core_fault t r d core line kinds.Unexpected a f = f
no_core_fault t r d core line kinds.TooDeep a f = f
no_core_fault t r d core line kinds.TooManyNames a f = f
no_core_fault t r d core line kinds.NoMemory a f = f

pub no_fault : (text : List ℕ) (nodes : Option ℕ) (core : List ℕ) (fault : NamedFault) → IsCoreText text nodes core → IsNamedFault text fault → fault ≡ NoMemory
no_fault text nodes core (Text line kind) a (inl f) = absurd (not_both text a.tokens a.tree f.0 kind a.is.parsed f.1)
no_fault text nodes core (Text line kind) a (inr f) =
    absurd (no_core_fault a.tokens a.tree a.declared core line kind a.core_is
    (moved (λ t r d. IsCoreFaultOf t r d line kind) a.tokens f.tokens a.tree f.tree a.declared f.declared
    (same_program text a.tokens f.tokens a.tree f.tree a.declared f.declared a.is f.is) f.fault))
no_fault text nodes core (Names line kind) a f =
    absurd (subst (λ r. IsNone (λ x. IsFaultOf r x)) (one_text text a.tokens f.tokens a.tree f.tree a.is.parsed f.parsed) a.is.faultless _ f.first.0)
no_fault text nodes core NoMemory a f = refl

-- ---- one fault, where memory does not run out

over_before : (d : List Declared) (r : NamedTree) (x y : Excess) → IsCoreOver d r x → IsCoreOver d r y → x.at ≤ y.at
over_before d r x y a b =
    let same = (same_core d r a.words b.words a.locks b.locks a.statements b.statements a.translated b.translated).statements in
    let first : ComesFirst x y = a.first.1 y (subst (λ s. AreOver (privates d r.statements) s y) (sym same) b.first.0) in
    first.place

over_not_long : (d : List Declared) (lines : List ℕ) (r : NamedTree) (x : Excess) → IsCoreOver d r x → IsCoreLong d lines r → ⊥
over_not_long d lines r x a b =
    let same = (same_core d r a.words b.words a.locks b.locks a.statements b.statements a.translated b.translated).statements in
    b.within x (subst (λ s. AreOver (privates d r.statements) s x) same a.first.0)

one_core_fault : (t : List Located) (r : NamedTree) (d : List Declared) (line own : ℕ) (kind other : TextKind)
    → IsCoreFaultOf t r d line kind → IsCoreFaultOf t r d own other → (line ≡ own) × (kind ≡ other)
one_core_fault t r d line own kinds.OverLimit kinds.OverLimit a b =
    let up = over_before d r a.0 b.0 a.1 b.1 in
    let down = over_before d r b.0 a.0 b.1 a.1 in
    let at : a.0.at ≡ b.0.at = omega (arith, up, down) in
    (a.2 ∙ ap (line_at t) at ∙ sym b.2, refl)
one_core_fault t r d line own kinds.TooLong kinds.TooLong a b = (a.1 ∙ sym b.1, refl)
one_core_fault t r d line own kinds.OverLimit kinds.TooLong a b = absurd (over_not_long d (lines_of t) r a.0 a.1 b.0)
one_core_fault t r d line own kinds.TooLong kinds.OverLimit a b = absurd (over_not_long d (lines_of t) r b.0 b.1 a.0)
one_core_fault t r d line own kinds.OverLimit kinds.BadByte a b = absurd b
one_core_fault t r d line own kinds.OverLimit kinds.BadNumber a b = absurd b
one_core_fault t r d line own kinds.OverLimit kinds.Unexpected a b = absurd b
one_core_fault t r d line own kinds.OverLimit kinds.TooDeep a b = absurd b
one_core_fault t r d line own kinds.OverLimit kinds.TooManyNames a b = absurd b
one_core_fault t r d line own kinds.OverLimit kinds.NoMemory a b = absurd b
one_core_fault t r d line own kinds.TooLong kinds.BadByte a b = absurd b
one_core_fault t r d line own kinds.TooLong kinds.BadNumber a b = absurd b
one_core_fault t r d line own kinds.TooLong kinds.Unexpected a b = absurd b
one_core_fault t r d line own kinds.TooLong kinds.TooDeep a b = absurd b
one_core_fault t r d line own kinds.TooLong kinds.TooManyNames a b = absurd b
one_core_fault t r d line own kinds.TooLong kinds.NoMemory a b = absurd b
one_core_fault t r d line own kinds.BadByte other a b = absurd a
one_core_fault t r d line own kinds.BadNumber other a b = absurd a
one_core_fault t r d line own kinds.Unexpected other a b = absurd a
one_core_fault t r d line own kinds.TooDeep other a b = absurd a
one_core_fault t r d line own kinds.TooManyNames other a b = absurd a
one_core_fault t r d line own kinds.NoMemory other a b = absurd a

same_core_fault : (text : List ℕ) (line own : ℕ) (kind other : TextKind) → IsCoreFault text line kind → IsCoreFault text own other → (line ≡ own) × (kind ≡ other)
same_core_fault text line own kind other a b =
    one_core_fault a.tokens a.tree a.declared line own kind other a.fault
    (moved (λ t r d. IsCoreFaultOf t r d own other) a.tokens b.tokens a.tree b.tree a.declared b.declared
    (same_program text a.tokens b.tokens a.tree b.tree a.declared b.declared a.is b.is) b.fault)

-- faults of one rank are told in the same words
words_at : ℕ → List ℕ
words_at zero = words_of name_kinds.DeclaredTwice
words_at (suc zero) = words_of name_kinds.ReservedName
words_at (suc (suc zero)) = words_of name_kinds.UnknownName
words_at (suc (suc (suc zero))) = words_of name_kinds.WrongUse
words_at (suc (suc (suc (suc zero)))) = words_of name_kinds.WrongIndices
words_at (suc (suc (suc (suc (suc zero))))) = words_of name_kinds.WrongArguments
words_at (suc (suc (suc (suc (suc (suc zero)))))) = words_of name_kinds.NotConstant
words_at (suc (suc (suc (suc (suc (suc (suc zero))))))) = codes "over a limit"
words_at (suc (suc (suc (suc (suc (suc (suc (suc zero)))))))) = words_of name_kinds.IndexOutOfRange
words_at (suc (suc (suc (suc (suc (suc (suc (suc (suc n))))))))) = words_of name_kinds.TooManyNames

words_by_rank : (kind : NameKind) → words_at (rank_of kind) ≡ words_of kind
unfolding words_at
words_by_rank name_kinds.DeclaredTwice = refl
words_by_rank name_kinds.ReservedName = refl
words_by_rank name_kinds.UnknownName = refl
words_by_rank name_kinds.WrongUse = refl
words_by_rank name_kinds.WrongIndices = refl
words_by_rank name_kinds.WrongArguments = refl
words_by_rank name_kinds.NotConstant = refl
words_by_rank (name_kinds.OverLimit limit) = refl
words_by_rank name_kinds.IndexOutOfRange = refl
words_by_rank name_kinds.TooManyNames = refl

one_first : (A : Fault → Type 0) (at own : ℕ) (kind other : NameKind) → IsFirstOf A (Some (fault_at at kind)) → IsFirstOf A (Some (fault_at own other))
    → (at ≡ own) × (words_of kind ≡ words_of other)
one_first A at own kind other a b =
    let up = a.1 (fault_at own other) b.0 in
    let down = b.1 (fault_at at kind) a.0 in
    let above : at ≤ own = up.place in
    let below : own ≤ at = down.place in
    let more : rank_of kind ≤ rank_of other = up.rank below in
    let less : rank_of other ≤ rank_of kind = down.rank above in
    let rank : rank_of kind ≡ rank_of other = omega (arith, more, less) in
    (omega (arith, above, below), sym (words_by_rank kind) ∙ ap words_at rank ∙ words_by_rank other)

same_name_fault : (text : List ℕ) (line own : ℕ) (kind other : NameKind) → IsNameFault text line kind → IsNameFault text own other → (line ≡ own) × (words_of kind ≡ words_of other)
same_name_fault text line own kind other a b =
    let tree : b.tree ≡ a.tree = one_text text b.tokens a.tokens b.tree a.tree b.parsed a.parsed in
    let tokens : a.tokens ≡ b.tokens = unique a.parsed.lexed b.parsed.lexed in
    let first = subst (λ r. IsFirstOf (λ x. IsFaultOf r x) (Some (fault_at b.at other))) tree b.first in
    let same = one_first (IsFaultOf a.tree) a.at b.at kind other a.first first in
    (a.stands ∙ ap (line_at a.tokens) same.0 ∙ ap (λ t. line_at t b.at) tokens ∙ sym b.stands, same.1)

text_not_name : (text : List ℕ) (line own : ℕ) (kind : TextKind) (other : NameKind) → IsNamedFault text (Text line kind) → IsNameFault text own other → ⊥
text_not_name text line own kind other (inl f) b = not_both text b.tokens b.tree f.0 kind b.parsed f.1
text_not_name text line own kind other (inr f) b =
    let tree : b.tree ≡ f.tree = one_text text b.tokens f.tokens b.tree f.tree b.parsed f.is.parsed in
    f.is.faultless (fault_at b.at other) (subst (λ r. IsFaultOf r (fault_at b.at other)) tree b.first.0)

same_text_fault : (text : List ℕ) (line own : ℕ) (kind other : TextKind) → IsNamedFault text (Text line kind) → IsNamedFault text (Text own other)
    → (line ≡ own) × (kind ≡ other)
same_text_fault text line own kind other (inl f) (inl g) =
    let same = one_first_fault text f.0 g.0 kind other f.1 g.1 in
    (f.2 ∙ ap (λ (p : Place). p.line) same.0 ∙ sym g.2, same.1)
same_text_fault text line own kind other (inl f) (inr g) = absurd (not_both text g.tokens g.tree f.0 kind g.is.parsed f.1)
same_text_fault text line own kind other (inr f) (inl g) = absurd (not_both text f.tokens f.tree g.0 other f.is.parsed g.1)
same_text_fault text line own kind other (inr f) (inr g) = same_core_fault text line own kind other f g

pub one_fault : (text : List ℕ) (fault other : NamedFault) → IsNamedFault text fault → IsNamedFault text other → AreToldAlike fault other
one_fault text (Text line kind) (Text own other) a b = same_text_fault text line own kind other a b
one_fault text (Text line kind) (Names own other) a b = absurd (text_not_name text line own kind other a b)
one_fault text (Names line kind) (Text own other) a b = absurd (text_not_name text own line other kind b a)
one_fault text (Names line kind) (Names own other) a b = same_name_fault text line own kind other a b
one_fault text (Text line kind) NoMemory a b = tt
one_fault text (Names line kind) NoMemory a b = tt
one_fault text NoMemory other a b = tt
