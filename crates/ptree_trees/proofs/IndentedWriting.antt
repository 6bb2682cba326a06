-- How far the lines of a tree have been written.
use Rattle.std.proofs.Common.{◌≡◌, ◌≢◌, ℕ, suc, ◌+◌, ◌<◌, ◌≤◌, List, [], ◌∷◌, ◌++◌, map, length, get_or, drop, refl, sym, ap, ◌∙◌, subst, append_assoc, add-one}
use Rattle.std.proofs.lemmas.List.{append-nil, drop_all}
use Rattle.std.proofs.lemmas.List.Elements.{All-nil}
use Rattle.std.specs.Prelude.{◌↔◌}
use Rattle.ptree.specs.Outline.{Line}
use Rattle.ptree.proofs.Trees.OutlineItems.{left_more}
use Rattle.ptree_trees.specs.declared.indented.Form.{Form}
use Rattle.ptree_trees.specs.Indented.{IsLineText, AreLineTexts, indent, indented_line, indented_lines}
use Rattle.ptree_trees.proofs.IndentedTexts.{no_line, no_feed_front, indent_right}

-- a text with a line feed cannot stand after an indent
pub not_line : (text a x : List ℕ) → text ≡ a ++ 10 ∷ x → IsLineText text → ⊥
not_line text a x e h = no_line text a x h.0 e

-- one line more has been written
pub write_more : {A : Type 0} (form : Form) (old new : List ℕ) (g : A → Line) (xs : List A) (i : ℕ) (x : A) (all : List ℕ) → i < length xs → x ≡ get_or xs i x
    → old ++ indented_lines form (map g (drop i xs)) ≡ all → new ≡ old ++ indented_line form (g x) → new ++ indented_lines form (map g (drop (i + 1) xs)) ≡ all
write_more form old new g xs i x all h e is more =
    ap (λ z. z ++ indented_lines form (map g (drop (i + 1) xs))) more
    ∙ (append_assoc old (indented_line form (g x)) (indented_lines form (map g (drop (i + 1) xs)))
    ∙ (ap (λ z. old ++ indented_lines form z) (sym (left_more g xs i x h e)) ∙ is))

-- one text more can stand after an indent
pub texts_more : {A : Type 0} (form : Form) (g : A → Line) (xs : List A) (i : ℕ) (x : A) (all : List Line) → i < length xs → x ≡ get_or xs i x
    → IsLineText (form.bullet.now ++ (g x).text) → (AreLineTexts form (map g (drop i xs)) ↔ AreLineTexts form all)
    → (AreLineTexts form (map g (drop (i + 1) xs)) ↔ AreLineTexts form all)
texts_more form g xs i x all h e fits k =
    let same = left_more g xs i x h e in
    (λ later. k.0 (subst (AreLineTexts form) (sym same) (fits, later)), λ whole. (subst (AreLineTexts form) same (k.1 whole)).1)

-- one text cannot, so not all can
pub texts_not : {A : Type 0} (form : Form) (g : A → Line) (xs : List A) (i : ℕ) (x : A) (all : List Line) → i < length xs → x ≡ get_or xs i x
    → (IsLineText (form.bullet.now ++ (g x).text) → ⊥) → (AreLineTexts form (map g (drop i xs)) ↔ AreLineTexts form all) → AreLineTexts form all → ⊥
texts_not form g xs i x all h e not k whole = not (subst (AreLineTexts form) (left_more g xs i x h e) (k.1 whole)).0

-- all lines have been written
pub write_all : {A : Type 0} (form : Form) (text : List ℕ) (g : A → Line) (xs : List A) (i : ℕ) → length xs ≤ i
    → text ++ indented_lines form (map g (drop i xs)) ≡ indented_lines form (map g xs) → (AreLineTexts form (map g (drop i xs)) ↔ AreLineTexts form (map g xs))
    → (o : List Line) → map g xs ≡ o → AreLineTexts form o × (text ≡ indented_lines form o)
write_all form text g xs i h is k o same =
    let nothing : map g (drop i xs) ≡ [] = ap (map g) (drop_all i xs h) in (
      subst (AreLineTexts form) same (k.0 (subst (AreLineTexts form) (sym nothing) tt)),
      sym (append-nil text) ∙ (ap (λ z. text ++ indented_lines form z) (sym nothing) ∙ (is ∙ ap (indented_lines form) same)),
    )

-- one unit more has been written
pub unit_more : (unit old a b : List ℕ) (n : ℕ) → a ≡ old ++ indent unit n → b ≡ a ++ unit → b ≡ old ++ indent unit (n + 1)
unit_more unit old a b n e f =
    f ∙ (ap (λ z. z ++ unit) e ∙ (append_assoc old (indent unit n) unit
    ∙ ap (λ z. old ++ z) (ap (λ z. indent unit n ++ z) (sym (append-nil unit)) ∙ (indent_right unit n [] ∙ (append-nil (indent unit (suc n)) ∙ ap (indent unit) (sym (add-one n)))))))

-- ## Texts of items

-- a bullet can stand after an indent if a text after it can
pub bullet_fits : (bullet text : List ℕ) → IsLineText (bullet ++ text) → IsLineText bullet
bullet_fits [] text h = (All-nil (λ c. c ≢ 10), refl)
bullet_fits (c ∷ bullet) text h = (no_feed_front (c ∷ bullet) text h.0, h.1)
