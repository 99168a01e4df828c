-- The events of lines, and their texts, as they are kept.
use Rattle.std.proofs.Common.{◌≡◌, ℕ, ◌+◌, List, [], ◌∷◌, ◌++◌, length, map, sym, subst, arith, append-nil}
use Rattle.std.specs.Prelude.{Result, OnOk}
use Rattle.std.proofs.lemmas.Result.{on_ok_weaker}
use Rattle.lrc_races_trace.specs.declared.event.Event.{Event}
use Rattle.lrc_races_lines.specs.Line.{IsBody, Saying}
use Rattle.lrc_races_text.specs.declared.form.Form.{Form}
use Rattle.lrc_races_text.specs.Says.{Said, Say, Says, SaysNothing, no_line}
use Rattle.lrc_races_text.specs.Naming.{AreEvents, IsNaming, no_events}
use Rattle.lrc_races_text.specs.Tables.{naming_of}
use Rattle.lrc_races_text.specs.declared.naming.Names.{Names}
use Rattle.lrc_races_text.specs.Session.{LineSays, Text, says_none, says_one}
use Rattle.lrc_races_text.proofs.NamingLemmas.{events_push, keeps_events, keeps_names, naming_more, nothing_named}
use Rattle.lrc_races_text.proofs.SessionLemmas.{say_push}
use Rattle.lrc_races_front.specs.declared.kept.Kept.{Kept}
use Rattle.lrc_races_front.specs.Front.{HasTaken}
use Rattle.lrc_races_front.specs.Kept.{AreTexts, HasKept, IsFront, KeepsEvent, no_texts, text_more, text_none}

texts_push : {form : Form} {lines texts : List (List ℕ)} {line text : List ℕ} (saying : Saying) → AreTexts form lines texts → Says form line saying
    → IsBody line text → AreTexts form (lines ++ line ∷ []) (texts ++ text ∷ [])
texts_push saying no_texts says body = text_more saying says body no_texts
texts_push saying (text_none h rest) says body = text_none h (texts_push saying rest says body)
texts_push saying (text_more other h b rest) says body = text_more other h b (texts_push saying rest says body)

texts_stay : {form : Form} {lines texts : List (List ℕ)} (line : List ℕ) → AreTexts form lines texts → SaysNothing form line
    → AreTexts form (lines ++ line ∷ []) texts
texts_stay line no_texts says = text_none says no_texts
texts_stay line (text_none h rest) says = text_none h (texts_stay line rest says)
texts_stay line (text_more other h b rest) says = text_more other h b (texts_stay line rest says)

pub kept_none : (form : Form) (names : Names) (events : List Event) (texts : List Text)
    → naming_of names ≡ record { threads = []; variables = []; locks = []; barriers = []; locations = [] } → events ≡ [] → texts ≡ []
    → IsFront form [] (naming_of names) events (map (λ text. text.items) texts)
kept_none form names events texts named none empty = record {
  said = [];
  says = no_line;
  trace = record {
    names = subst (λ n. IsNaming [] n) (sym named) (record {
      threads = nothing_named;
      variables = nothing_named;
      locks = nothing_named;
      barriers = nothing_named;
      locations = nothing_named;
    });
    numbered = subst (λ es. AreEvents (naming_of names) [] es) (sym none) no_events;
  };
  are_texts = subst (λ ts. AreTexts form [] (map (λ text. text.items) ts)) (sym empty) no_texts;
}

pub taken_nothing : (form : Form) (line : List ℕ) (number : ℕ) (kept : Kept) → SaysNothing form line
    → HasTaken (λ sought. HasKept) form line number kept kept
taken_nothing form line number kept says sought lines counted h = record {
  said = h.said;
  says = subst (λ s. Say form 1 (lines ++ line ∷ []) s) (append-nil h.said) (say_push 1 line h.says (says_none says));
  trace = h.trace;
  are_texts = texts_stay line h.are_texts says;
}

kept_more : (form : Form) (line text : List ℕ) (number : ℕ) (saying : Saying) (before after : Kept) → Says form line saying → IsBody line text
    → KeepsEvent saying number text before after → HasTaken (λ sought. HasKept) form line number before after
kept_more form line text number saying before after says body k sought lines counted h =
    let one : Said = record { line = number; saying = saying } in
    let number_is : number ≡ 1 + length lines = omega arith in
    let line_says : LineSays form number line (one ∷ []) = says_one says in
    record {
      said = h.said ++ one ∷ [];
      says = say_push 1 line h.says (subst (λ n. LineSays form n line (one ∷ [])) number_is line_says);
      trace = record {
        names = naming_more one h.trace.names k.mentioned;
        numbered = subst (λ es. AreEvents (naming_of after.names) (h.said ++ one ∷ []) es) (sym k.events)
            (events_push (keeps_events (keeps_names k.mentioned) h.trace.numbered) k.is);
      };
      are_texts = subst (λ ts. AreTexts form (lines ++ line ∷ []) ts) (sym k.texts) (texts_push saying h.are_texts says body);
    }

pub taken_event : {E : Type 0} (form : Form) (line text : List ℕ) (number : ℕ) (saying : Saying) (before after : Kept) (result : Result Unit E)
    → Says form line saying → IsBody line text → OnOk result (KeepsEvent saying number text before after)
    → OnOk result (HasTaken (λ sought. HasKept) form line number before after)
taken_event form line text number saying before after result says body ok =
    on_ok_weaker result (λ (k : KeepsEvent saying number text before after). kept_more form line text number saying before after says body k) ok
