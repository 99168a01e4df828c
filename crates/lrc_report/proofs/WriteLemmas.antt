-- What a writer has in the middle of a text.
use Rattle.std.proofs.Common.{◌≡◌, ◌∙◌, ◌<◌, ◌+◌, ℕ, refl, sym, ap, subst, arith, List, ◌++◌, length, take, drop, Option, Some, None, Result}
use Rattle.std.proofs.Common.{Ok, Err, OnErr, length-append, length-drop, get_or, Vec}
use Rattle.std.specs.Io.KnownBytes.{Appends, Keeps}
use Rattle.std.proofs.lemmas.List.{append_assoc, drop_more, take_at, take-append-drop}
use Rattle.lrc_report.specs.Output.{AppendsFront}
use Rattle.lrc_text.specs.Parts.{whole_text}
use Rattle.std.specs.declared.alloc.Global.{Global}

-- of the text, so much is written, and the rest is to come
pub record IsUnderWay (old new : Option (List ℕ)) (text rest : List ℕ) : Type 0 where
  pub front : List ℕ
  pub whole : text ≡ front ++ rest
  pub written : Appends old new front

pub Appends-more : (old mid new : Option (List ℕ)) (first second : List ℕ) → Appends old mid first → Appends mid new second → Appends old new (first ++ second)
Appends-more None mid new first second h k = tt
Appends-more (Some xs) None new first second h k = absurd h
Appends-more (Some xs) (Some ys) None first second h k = absurd k
Appends-more (Some xs) (Some ys) (Some zs) first second h k = k ∙ ap (λ l. l ++ second) h ∙ append_assoc xs first second

Appends-kept : (old mid new : Option (List ℕ)) (text : List ℕ) → Appends old mid text → Keeps mid new → Appends old new text
Appends-kept None mid new text h k = tt
Appends-kept (Some xs) None new text h k = absurd h
Appends-kept (Some xs) (Some ys) None text h k = absurd k
Appends-kept (Some xs) (Some ys) (Some zs) text h k = k ∙ h

-- the writer took some bytes more
pub way_more : (old mid new : Option (List ℕ)) (text rest : List ℕ) (count : ℕ) → IsUnderWay old mid text rest → Appends mid new (take count rest)
    → IsUnderWay old new text (drop count rest)
way_more old mid new text rest count way h = record {
  front = way.front ++ take count rest;
  whole = way.whole ∙ ap (λ l. way.front ++ l) (sym (take-append-drop count rest)) ∙ sym (append_assoc way.front (take count rest) (drop count rest));
  written = Appends-more old mid new way.front (take count rest) way.written h;
}

-- the writer failed, and took nothing
pub way_kept : (old mid new : Option (List ℕ)) (text rest : List ℕ) → IsUnderWay old mid text rest → Keeps mid new → IsUnderWay old new text rest
way_kept old mid new text rest way h = record { front = way.front; whole = way.whole; written = Appends-kept old mid new way.front way.written h }

pub way_front : (old new : Option (List ℕ)) (text rest : List ℕ) → 0 < length rest → IsUnderWay old new text rest → AppendsFront old new text
way_front old new text rest some way =
    let counts : length text ≡ length way.front + length rest = ap length way.whole ∙ length-append way.front rest in
    let less : length way.front < length text = omega arith in (
      length way.front,
      less,
      subst (Appends old new) (sym (ap (take (length way.front)) way.whole ∙ take_at way.front rest (length way.front) refl)) way.written,
    )

-- the next part of the text is written, or a front of it
pub way_part : (old mid new : Option (List ℕ)) (text first rest : List ℕ) → IsUnderWay old mid text (first ++ rest) → Appends mid new first
    → IsUnderWay old new text rest
way_part old mid new text first rest way h = record {
  front = way.front ++ first;
  whole = way.whole ∙ sym (append_assoc way.front first rest);
  written = Appends-more old mid new way.front first way.written h;
}

pub way_stops : (old mid new : Option (List ℕ)) (text first rest : List ℕ) → IsUnderWay old mid text (first ++ rest) → AppendsFront mid new first
    → AppendsFront old new text
way_stops old mid new text first rest way h =
    let count = h.0 in
    let split : first ++ rest ≡ take count first ++ (drop count first ++ rest) =
    ap (λ l. l ++ rest) (sym (take-append-drop count first)) ∙ append_assoc (take count first) (drop count first) rest in
    let fewer : count < length first = h.1 in
    let some : 0 < length (drop count first ++ rest) = omega (arith, length-append (drop count first) rest, length-drop count first) in
    way_front old new text (drop count first ++ rest) some
    (way_part old mid new text (take count first) (drop count first ++ rest) (subst (IsUnderWay old mid text) split way) h.2)

-- the parts from the i-th on
pub parts_at : (parts : List (Vec ℕ Global)) (i : ℕ) (d : Vec ℕ Global) → i < length parts
    → whole_text (drop i parts) ≡ (get_or parts i d).items ++ whole_text (drop (i + 1) parts)
parts_at parts i d lt = ap whole_text (drop_more parts i d lt)

pub on_err : {T E : Type 0} (r : Result T E) (P : Type 0) → P → OnErr r P
on_err (Ok x) P h = tt
on_err (Err e) P h = h
