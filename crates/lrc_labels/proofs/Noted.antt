-- What is known with one label more.
use Rattle.std.proofs.Common.{◌≡◌, ◌∙◌, ℕ, ap, sym, refl, subst, List, [], ◌∷◌, ◌++◌, Bool, true, false}
use Rattle.std.specs.Prelude.{◌&&◌, ◌||◌, cond, nat_le}
use Rattle.std.proofs.lemmas.Bool.{true≢false}
use Rattle.std.specs.List.{list_any}
use Rattle.std.specs.Str.{bytes_eq}
use Rattle.std.specs.Cmp.Lexicographic.{nat_list_eq_equiv}
use Rattle.std.proofs.lemmas.List.Folds.{list_any-append}
use Rattle.lrc_labels.specs.declared.known.Known.{Known}
use Rattle.lrc_labels.specs.declared.label.Target.{Target}
use Rattle.lrc_labels.specs.Known.{Tells}
use Rattle.lrc_labels.specs.declared.spans.Span.{Span}
use Rattle.lrc_labels.specs.Reading.{Label, first_of, is_lock, last_of, meets, same_kind}
use Rattle.lrc_labels.specs.Spans.{AreSpansFrom, reaches}

turned : (b c : Bool) → (b || c) ≡ (c || (b || false))
turned true true = refl
turned true false = refl
turned false true = refl
turned false false = refl

-- one label more, behind the others
any_pushed : (test : Label → Bool) (labels : List Label) (label : Label) → (test label || list_any test labels) ≡ list_any test (labels ++ label ∷ [])
any_pushed test labels label = turned (test label) (list_any test labels) ∙ sym (list_any-append test labels (label ∷ []))

same : (a b : Bool) → a ≡ b → (c : Bool) → (cond a b (cond b false true) && c) ≡ c
same true true e c = refl
same false false e c = refl
same true false e c = absurd (true≢false e)
same false true e c = absurd (true≢false (sym e))

other : (a b : Bool) → a ≡ false → b ≡ true → (c : Bool) → (cond a b (cond b false true) && c) ≡ false
other a b is_not is c = ap (λ x. cond x b (cond b false true) && c) is_not ∙ ap (λ y. cond y false true && c) is

another : (a b : Bool) → a ≡ true → b ≡ false → (c : Bool) → (cond a b (cond b false true) && c) ≡ false
another a b is is_not c = ap (λ x. cond x b (cond b false true) && c) is ∙ ap (λ y. y && c) is_not

abbrev pub span_of : Label → Span
span_of label = record { first = first_of label.target; last = last_of label.target }

module _ (label : Label) (labels : List Label) (target : Target) where
  -- a label of the same kind is found by its span
  pub same_more : (spans next : List Span) → is_lock label.target ≡ is_lock target
      → list_any (reaches (first_of target) (last_of target)) next
      ≡ (reaches (first_of target) (last_of target) (span_of label) || list_any (reaches (first_of target) (last_of target)) spans)
      → list_any (reaches (first_of target) (last_of target)) spans ≡ list_any (λ earlier. meets earlier.target target) labels
      → list_any (reaches (first_of target) (last_of target)) next ≡ list_any (λ earlier. meets earlier.target target) (labels ++ label ∷ [])
  same_more spans next kind more so_far =
      more
      ∙ ap (λ b. reaches (first_of target) (last_of target) (span_of label) || b) so_far
      ∙ ap (λ b. b || list_any (λ (earlier : Label). meets earlier.target target) labels)
      (sym (same (is_lock label.target) (is_lock target) kind (reaches (first_of target) (last_of target) (span_of label))))
      ∙ any_pushed (λ earlier. meets earlier.target target) labels label

  -- and one of the other kind meets nothing of this
  pub other_more : meets label.target target ≡ false → (found : Bool) → found ≡ list_any (λ earlier. meets earlier.target target) labels
      → found ≡ list_any (λ earlier. meets earlier.target target) (labels ++ label ∷ [])
  other_more none found so_far =
      so_far
      ∙ ap (λ b. b || list_any (λ (earlier : Label). meets earlier.target target) labels) (sym none)
      ∙ any_pushed (λ earlier. meets earlier.target target) labels label

pub word_is_no_lock : (one target : Target) → is_lock one ≡ false → is_lock target ≡ true → meets one target ≡ false
word_is_no_lock one target is_not is =
    other (is_lock one) (is_lock target) is_not is (nat_le (first_of one) (last_of target) && nat_le (first_of target) (last_of one))

pub lock_is_no_word : (one target : Target) → is_lock one ≡ true → is_lock target ≡ false → meets one target ≡ false
lock_is_no_word one target is is_not =
    another (is_lock one) (is_lock target) is is_not (nat_le (first_of one) (last_of target) && nat_le (first_of target) (last_of one))

cond_or : (b c : Bool) → cond b true c ≡ (b || c)
cond_or true c = refl
cond_or false c = refl

-- one name more
pub name_more : (label : Label) (labels : List Label) (name : List ℕ) (found : Bool)
    → found ≡ cond (bytes_eq label.name name) true (list_any (λ earlier. bytes_eq earlier.name name) labels)
    → found ≡ list_any (λ earlier. bytes_eq earlier.name name) (labels ++ label ∷ [])
name_more label labels name found more =
    more ∙ cond_or (bytes_eq label.name name) (list_any (λ (earlier : Label). bytes_eq earlier.name name) labels)
    ∙ any_pushed (λ earlier. bytes_eq earlier.name name) labels label

-- ---- what is known

pub tells_same : (labels : List Label) (old new : Known) → new.words ≡ old.words → new.locks ≡ old.locks → new.names ≡ old.names → Tells labels old
    → Tells labels new
tells_same labels old new words locks names tells = record {
  are_words = subst (λ spans. AreSpansFrom 0 spans.items) (sym words) tells.are_words;
  are_locks = subst (λ spans. AreSpansFrom 0 spans.items) (sym locks) tells.are_locks;
  words = λ target is. ap (λ spans. list_any (reaches (first_of target) (last_of target)) spans.items) words ∙ tells.words target is;
  locks = λ target is. ap (λ spans. list_any (reaches (first_of target) (last_of target)) spans.items) locks ∙ tells.locks target is;
  names = λ name. ap (λ known. list_any (λ key. bytes_eq name key.now) known.keys) names ∙ tells.names name;
}

-- one label more, of locks, and of words
module _ (label : Label) (labels : List Label) (old new : Known) (tells : Tells labels old)
    (names : (name : List ℕ) → list_any (λ key. bytes_eq name key.now) new.names.keys
    ≡ cond (bytes_eq label.name name) true (list_any (λ key. bytes_eq name key.now) old.names.keys)) where
  named : (name : List ℕ) → list_any (λ key. bytes_eq name key.now) new.names.keys
      ≡ list_any (λ earlier. bytes_eq earlier.name name) (labels ++ label ∷ [])
  named name =
      name_more label labels name (list_any (λ key. bytes_eq name key.now) new.names.keys)
      (names name ∙ ap (λ b. cond (bytes_eq label.name name) true b) (tells.names name))

  pub tells_lock : is_lock label.target ≡ true → new.words.items ≡ old.words.items → AreSpansFrom 0 new.locks.items
      → ((test : Span → Bool) → list_any test new.locks.items ≡ (test (span_of label) || list_any test old.locks.items))
      → Tells (labels ++ label ∷ []) new
  tells_lock is words are more = record {
    are_words = subst (AreSpansFrom 0) (sym words) tells.are_words;
    are_locks = are;
    words = λ target is_word. ap (list_any (reaches (first_of target) (last_of target))) words
        ∙ other_more label labels target (lock_is_no_word label.target target is is_word) (list_any (reaches (first_of target) (last_of target)) old.words.items)
        (tells.words target is_word);
    locks = λ target is_lock_too.
        same_more label labels target old.locks.items new.locks.items (is ∙ sym is_lock_too) (more (reaches (first_of target) (last_of target)))
        (tells.locks target is_lock_too);
    names = named;
  }

  pub tells_word : is_lock label.target ≡ false → new.locks.items ≡ old.locks.items → AreSpansFrom 0 new.words.items
      → ((test : Span → Bool) → list_any test new.words.items ≡ (test (span_of label) || list_any test old.words.items))
      → Tells (labels ++ label ∷ []) new
  tells_word is locks are more = record {
    are_words = are;
    are_locks = subst (AreSpansFrom 0) (sym locks) tells.are_locks;
    words = λ target is_word_too.
        same_more label labels target old.words.items new.words.items (is ∙ sym is_word_too) (more (reaches (first_of target) (last_of target)))
        (tells.words target is_word_too);
    locks = λ target is_lock_then. ap (list_any (reaches (first_of target) (last_of target))) locks
        ∙ other_more label labels target (word_is_no_lock label.target target is is_lock_then)
        (list_any (reaches (first_of target) (last_of target)) old.locks.items) (tells.locks target is_lock_then);
    names = named;
  }
