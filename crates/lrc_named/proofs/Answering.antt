-- What is answered of a text.
use Rattle.std.proofs.Common.{◌≡◌, ◌⊎◌, ◌+◌, ◌<◌, ℕ, zero, suc, List, [], ◌∷◌, ◌++◌, Option, Some, length, map, take, get_or, refl, ap, subst, ◌∙◌, inl, inr, arith}
use Rattle.std.specs.Prelude.{slice_index}
use Rattle.lrc_lang.specs.declared.fault.FaultKind.{FaultKind as TextKind}
use Rattle.lrc_lang.specs.declared.fault.FaultKind.TheVariants as kinds
use Rattle.lrc_named_tokens.specs.declared.token.Located as code_located
use Rattle.lrc_named_tokens.specs.Token.{Located, Place}
use Rattle.lrc_named_tokens.specs.View.{located_of}
use Rattle.lrc_named_tree.specs.Tree.{NamedTree}
use Rattle.lrc_named_parse.specs.Faults.{HasFirstFault, IsNamed}
use Rattle.lrc_named_names.specs.View.{declared_of}
use Rattle.lrc_named_expression_faults.specs.declared.fault.Fault.{Fault}
use Rattle.lrc_named_expression_faults.specs.Fault.{IsFirstOf}
use Rattle.lrc_named_faults.specs.declared.layout.Layout as code_layout
use Rattle.lrc_named_faults.specs.Program.{IsFaultOf}
use Rattle.lrc_named_core.specs.Tree.{Origin, Trap}
use Rattle.lrc_named_limits.specs.declared.excess.Excess.{Excess}
use Rattle.lrc_named_origins.specs.Origins.{lines_told, traps_told}
use Rattle.lrc_named_held.specs.declared.owns.Own.{Own}
use Rattle.lrc_named_held.specs.Held.{Held, held_of}
use Rattle.lrc_named_check.specs.Program.{IsClean}
use Rattle.lrc_named_written.specs.Written.{IsCoreLong, IsCoreOver}
use Rattle.lrc_named_written.specs.Written as written
use Rattle.lrc_named.specs.declared.fault.NamedFault.TheVariants.{Names, Text}
use Rattle.lrc_named.specs.Faults.{fault_of_kind}
use Rattle.lrc_named.specs.Lines.{last_of, lines_of, offsets_of}
use Rattle.lrc_named.specs.Named.{IsCoreTextOn, IsFaultless, IsNamedFault}

-- ---- the faults of the text as such, and of its names

pub text_fault : (text : List ℕ) (place : Place) (kind : TextKind) → (kind ≡ kinds.NoMemory) ⊎ HasFirstFault text place kind → IsNamedFault text (fault_of_kind place.line kind)
text_fault text place kinds.NoMemory h = tt
text_fault text place kinds.TooLong (inl e) = absurd (cc)
text_fault text place kinds.TooLong (inr f) = inl (place, f, refl)
text_fault text place kinds.BadByte (inl e) = absurd (cc)
text_fault text place kinds.BadByte (inr f) = inl (place, f, refl)
text_fault text place kinds.BadNumber (inl e) = absurd (cc)
text_fault text place kinds.BadNumber (inr f) = inl (place, f, refl)
text_fault text place kinds.Unexpected (inl e) = absurd (cc)
text_fault text place kinds.Unexpected (inr f) = inl (place, f, refl)
text_fault text place kinds.TooDeep (inl e) = absurd (cc)
text_fault text place kinds.TooDeep (inr f) = inl (place, f, refl)
text_fault text place kinds.TooManyNames (inl e) = absurd (cc)
text_fault text place kinds.TooManyNames (inr f) = inl (place, f, refl)
text_fault text place kinds.OverLimit (inl e) = absurd (cc)
text_fault text place kinds.OverLimit (inr f) = inl (place, f, refl)

pub name_fault : (text : List ℕ) (t : List Located) (tree : NamedTree) (fault : Fault) (lines : List ℕ) (line : ℕ) → IsNamed text t tree → lines ≡ lines_of t
    → line ≡ slice_index lines fault.at → IsFirstOf (λ f. IsFaultOf tree f) (Some fault) → IsNamedFault text (Names line fault.kind)
name_fault text t tree fault lines line parsed are stands first = record {
  tokens = t;
  tree = tree;
  parsed = parsed;
  at = fault.at;
  first = first;
  stands = stands ∙ ap (λ l. slice_index l fault.at) are;
}

-- ---- a program whose names have no fault

faultless : (text : List ℕ) (t : List Located) (tree : NamedTree) (layout : code_layout.Layout) → IsNamed text t tree → IsClean tree layout
    → IsFaultless text t tree (declared_of layout.names)
faultless text t tree layout parsed clean = record { parsed = parsed; faultless = clean.no_fault; are_declared = clean.declared }

pub core_found : (text : List ℕ) (t : List Located) (tree : NamedTree) (layout : code_layout.Layout) (lines offsets : List ℕ) (nodes : Option ℕ) (core : List ℕ)
    (origins : List Origin) (owns : List (List Own)) (told : List ℕ) (traps : List Trap) (held : List (List Held))
    → IsNamed text t tree → IsClean tree layout → lines ≡ lines_of t → offsets ≡ offsets_of t → nodes ≡ layout.nodes
    → written.IsCoreTextFrom (declared_of layout.names) lines tree core origins owns → told ≡ lines_told lines origins ++ last_of lines ∷ []
    → traps ≡ traps_told origins → held ≡ held_of text offsets owns → IsCoreTextOn text nodes core told traps held
core_found text t tree layout lines offsets nodes core origins owns told traps held parsed clean are stand asked found lie said hold =
    let so : written.IsCoreTextFrom (declared_of layout.names) (lines_of t) tree core origins owns =
    subst (λ l. written.IsCoreTextFrom (declared_of layout.names) l tree core origins owns) are found in
    record {
      is = record {
        tokens = t;
        tree = tree;
        declared = declared_of layout.names;
        is = faultless text t tree layout parsed clean;
        asked = asked ∙ clean.nodes;
        core_is = so.is;
      };
      traps_are = said ∙ ap traps_told so.origins_are;
      told_are = lie ∙ ap (λ l. lines_told l origins ++ last_of l ∷ []) are
          ∙ ap (λ o. lines_told (lines_of t) o ++ last_of (lines_of t) ∷ []) so.origins_are;
      held_are = hold ∙ ap (λ s. held_of text s owns) stand ∙ ap (held_of text (offsets_of t)) so.owns_are;
    }

pub over_found : (text : List ℕ) (t : List Located) (tree : NamedTree) (layout : code_layout.Layout) (lines : List ℕ) (line : ℕ) (x : Excess)
    → IsNamed text t tree → IsClean tree layout → lines ≡ lines_of t → line ≡ slice_index lines x.at → IsCoreOver (declared_of layout.names) tree x
    → IsNamedFault text (Text line kinds.OverLimit)
over_found text t tree layout lines line x parsed clean are stands over =
    inr (record {
      tokens = t;
      tree = tree;
      declared = declared_of layout.names;
      is = faultless text t tree layout parsed clean;
      fault = (x, over, stands ∙ ap (λ l. slice_index l x.at) are);
    })

pub long_found : (text : List ℕ) (t : List Located) (tree : NamedTree) (layout : code_layout.Layout) (lines : List ℕ) (line : ℕ)
    → IsNamed text t tree → IsClean tree layout → lines ≡ lines_of t → line ≡ 1 → IsCoreLong (declared_of layout.names) lines tree
    → IsNamedFault text (Text line kinds.TooLong)
long_found text t tree layout lines line parsed clean are stands long =
    inr (record {
      tokens = t;
      tree = tree;
      declared = declared_of layout.names;
      is = faultless text t tree layout parsed clean;
      fault = (subst (λ l. IsCoreLong (declared_of layout.names) l tree) are long, stands);
    })

-- ---- the lines of tokens

lines_next : (xs : List code_located.Located) (i : ℕ) (d : code_located.Located) → i < length xs
    → lines_of (map located_of (take (suc i) xs)) ≡ lines_of (map located_of (take i xs)) ++ (get_or xs i d).place.line ∷ []
lines_next [] i d lt = absurd (omega arith)
lines_next (x ∷ xs) zero d lt = refl
lines_next (x ∷ xs) (suc i) d lt = ap (λ l. x.place.line ∷ l) (lines_next xs i d (omega arith))

pub lines_more : (xs : List code_located.Located) (i : ℕ) (d : code_located.Located) → i < length xs
    → lines_of (map located_of (take (i + 1) xs)) ≡ lines_of (map located_of (take i xs)) ++ (get_or xs i d).place.line ∷ []
lines_more xs i d lt = let next : i + 1 ≡ suc i = omega arith in ap (λ n. lines_of (map located_of (take n xs))) next ∙ lines_next xs i d lt
