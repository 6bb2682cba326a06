-- Which texts a drawing continues: a root and items whose pieces some later lines give.
use Rattle.std.proofs.Common.{◌≡◌, ℕ, List, [], ◌∷◌, ◌++◌, All, refl, sym, ap, ◌∙◌, subst, append_assoc}
use Rattle.std.proofs.lemmas.List.{append-nil}
use Rattle.ptree.specs.Continuation.{HasContinuation}
use Rattle.ptree.specs.Drawing.{Look}
use Rattle.ptree.specs.DrawnForm.{IsDrawnForm}
use Rattle.ptree.specs.Flags.{spelled_by, HaveLastFlags}
use Rattle.ptree.specs.Outline.{Line, Steps}
use Rattle.ptree.specs.Pieces.{Pieces}
use Rattle.ptree.specs.Reached.{AreWithin}
use Rattle.ptree.specs.Readable.{IsReadableWith}
use Rattle.ptree.specs.Spelled.{SpelledItem, lines_of_items, IsSpelled, text_entry, spelled_text}
use Rattle.ptree.specs.Tree.{Tree, tree}
use Rattle.ptree.proofs.Reading.LaterLines.{have_spelled}
use Rattle.ptree.proofs.Reading.Markers.{items_do_not_continue}
use Rattle.ptree.proofs.Reading.SpelledForms.{Shows, lines_by, are_spelled_by, within_by, shows_form}
use Rattle.ptree.proofs.Trees.LineTrees.{tree_of_lines}

-- the text of two lists of items is that of the first and that of the second
spelled_text-append : (k : Look) (a b : List SpelledItem) → spelled_text k (a ++ b) ≡ spelled_text k a ++ spelled_text k b
spelled_text-append k [] b = refl
spelled_text-append k (i ∷ a) b = ap (λ z. text_entry k i.pieces i.passing i.text ++ z) (spelled_text-append k a b) ∙ sym (append_assoc (text_entry k i.pieces i.passing i.text) (spelled_text k a) (spelled_text k b))

-- a root and items whose pieces later lines give are continued by the text of these lines
pub goes_on : (k : Look) → IsReadableWith k.pieces k.marker → (depth : ℕ) (root x body : List ℕ) (items : List SpelledItem) (o : List Line) → x ≡ text_entry k [] [] root ++ body → body ≡ spelled_text k items
    → HaveLastFlags k.pieces items o → Steps 0 (lines_of_items items ++ o) → AreWithin depth (lines_of_items items ++ o) → HasContinuation k depth x
goes_on k readable depth root x body items o is text right steps low =
    let p : Pieces = k.pieces in
    let all : List Line = lines_of_items items ++ o in
    let (f, made) = tree_of_lines all steps in
    let t : Tree = tree root f in
    let rest : List ℕ = spelled_text k (spelled_by p o) in
    let spelled : List SpelledItem = spelled_by p all in
    let shown : items ++ spelled_by p o ≡ spelled = have_spelled p items o right in
    let whole : body ++ rest ≡ spelled_text k spelled = ap (λ z. z ++ rest) text ∙ (sym (spelled_text-append k items (spelled_by p o)) ∙ ap (spelled_text k) shown) in
    let are : All (IsSpelled p) spelled = are_spelled_by p 0 all steps in
    let here : Shows k depth root spelled (x ++ rest) = record {
      body = spelled_text k spelled;
      has_root = (ap (λ z. z ++ rest) is ∙ (append_assoc (text_entry k [] [] root) body rest ∙ ap (λ z. text_entry k [] [] root ++ z) whole), items_do_not_continue k readable 0 spelled are);
      spells = record {
        are_spelled = are;
        steps = subst (λ z. Steps 0 z) (sym (lines_by p all)) steps;
        within = within_by p depth all low;
        text_is = refl;
      };
    } in
    (t, rest, shows_form k depth (x ++ rest) t (subst (λ z. Shows k depth root (spelled_by p z) (x ++ rest)) (sym made) here))

-- a prefix of a text that a drawing continues is one too
pub goes_on_before : (k : Look) (depth : ℕ) (x y : List ℕ) → HasContinuation k depth (x ++ y) → HasContinuation k depth x
goes_on_before k depth x y (t, rest, d) = (t, y ++ rest, subst (λ z. IsDrawnForm k depth z t) (append_assoc x y rest) d)

-- a drawing continues the empty text
pub goes_on_nothing : (k : Look) → IsReadableWith k.pieces k.marker → (depth : ℕ) → HasContinuation k depth []
goes_on_nothing k readable depth =
    let entry : List ℕ = text_entry k [] [] [] in
    goes_on_before k depth [] entry (goes_on k readable depth [] entry [] [] [] (sym (append-nil entry)) refl tt tt tt)
