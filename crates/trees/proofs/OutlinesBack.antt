-- Indented text is an outline of the tree that it was written of.
use Rattle.trees.proofs.Common.{Result, Ok, Err, IfOk, ◌≡◌, ◌≢◌, ◌∙◌, ℕ, ◌+◌, ◌<◌, ◌≤◌, not, Bool, true, false, eqb, Option, Some, None, List, [], ◌∷◌, ◌++◌, length, get_or, drop, map, lit<, refl, sym, ap, subst, Bor, ◌↔◌, option_map, encode_utf8, eqb-true, true≢false, drop_all, nil_from_length, All-append, encode_ascii, NoCharPasses-char, AllByRecursion, NoCharPasses, lines, StringItem, Sources, Line, line, outline, left_more, item_line, begins_blank, IsUnit, IsLineText, AreLineTexts, IsIndentedForm, begins_with, Form}
use Rattle.ptree.specs.Tree.{Tree, height}
use Rattle.ptree.proofs.Drawing.Inserted.{no_line_feed_from_reads}
use Rattle.ptree_trees.proofs.IndentedLines.{own, whole}
use Rattle.ptree_trees.proofs.IndentedResults.{same_form}
use Rattle.ptree_trees.proofs.IndentedWriting.{bullet_fits}
use Rattle.trees.specs.declared.command.Indented.{Indented}
use Rattle.trees.specs.declared.command.Outline.{Outline}
use Rattle.trees.specs.declared.failure.Failure.{Failure}
use Rattle.trees.specs.declared.failure.Failure.TheVariants.{Usage, Input, Said, Output, Memory}
use Rattle.trees.specs.declared.source.Source.{Source}
use Rattle.trees.specs.Asked.{reading_value}
use Rattle.trees.specs.Listing.{byte_order_mark, unmarked}
use Rattle.trees.specs.Outlining.{filled_lines, outline_lines, text_of_lines, first_indent, line_bullet, first_bullet, text_or, IsRightForm, labelled_lines, HoldsOutline, HoldsNoOtherOutline, FailsToOutline, EndsInReturn, IsKeptText, IsKeptRoot, AreKeptTexts, LosesText, MakesOnly, IsReadBack}
use Rattle.trees.specs.Named.{IsReadableValue}
use Rattle.trees.specs.Reading.{HoldsDrawing, HoldsNoOther, FailsFor, FailsToRead}
use Rattle.trees.specs.Writing.{IsShownForm, IsIndented, IsIndentation, FailsToIndent}
use Rattle.trees.proofs.Conversions.{held_text}
use Rattle.trees.proofs.Outlines.{held_within}
use Rattle.trees.proofs.Readings.{fails_weaker, fails_wider}
use Rattle.trees.proofs.OutlineLines.{AreReadLines, own_lines, filled_form, text_of_form, unmarked_form}

-- ## Texts

-- the tests of a text say that it is read again
pub kept_text : (bullet text : List ℕ) → NoCharPasses (λ d. eqb d 10) text → ((front : List ℕ) → text ≢ front ++ encode_utf8 13) → (bullet ≡ [] → (text ≢ []) × (begins_blank text ≡ false))
    → IsKeptText bullet text
kept_text bullet text feed end start = record {
  line = no_line_feed_from_reads text (λ i low. NoCharPasses-char 10 text i feed (lit< tt) low);
  end = λ ends. end ends.0 (ends.1 ∙ ap (λ (z : List ℕ). ends.0 ++ z) (sym (encode_ascii 13 (lit< tt))));
  start = start;
}

-- a text of some length is not empty, and one of none is
pub some_length : (text : List ℕ) → eqb (length text) 0 ≡ false → text ≢ []
some_length text some none = true≢false (sym (ap (λ (z : List ℕ). eqb (length z) 0) none) ∙ some)

pub no_length : (text : List ℕ) → eqb (length text) 0 ≡ true → text ≡ []
no_length text none = nil_from_length text (eqb-true (length text) 0 none)

-- the same text behind the same bullet
pub same_kept : (a b x y : List ℕ) → a ≡ b → x ≡ y → IsKeptText a x → IsKeptText b y
same_kept a b x y bullet text kept = subst (λ (z : List ℕ). IsKeptText z y) bullet (subst (IsKeptText a) text kept)

-- behind a bullet that is right it can stand after an indent
line_text : (bullet text : List ℕ) → IsLineText bullet → IsKeptText bullet text → IsLineText (bullet ++ text)
line_text [] text line kept = (kept.line, (kept.start refl).1)
line_text (b ∷ bullet) text line kept = (All-append (λ c. c ≢ 10) (b ∷ bullet) text line.0 kept.line, line.1)

line_texts : (form : Form) (o : List Line) → IsLineText form.bullet.now → AllByRecursion (λ l. IsKeptText form.bullet.now l.text) o → AreLineTexts form o
line_texts form [] line kept = tt
line_texts form (l ∷ o) line kept = (line_text form.bullet.now l.text line kept.0, line_texts form o line kept.1)

-- so if one of them cannot, not all are read again
pub loses_text : (indented : Indented) (t : Tree) (form : Form) → form.bullet.now ≡ text_or indented.bullet [] → (AreLineTexts form (outline t) → ⊥) → LosesText indented t
loses_text indented t form same wrong right kept =
    wrong (line_texts form (outline t) (subst IsLineText (sym same) right.bullet.0) (subst (λ (b : List ℕ). AllByRecursion (λ (l : Line). IsKeptText b l.text) (outline t)) (sym same) kept.texts))

-- ## Texts one by one

-- P holds of the lines that are left from i on exactly if it holds of all
module _ {A : Type 0} (P : Line → Type 0) (g : A → Line) (xs : List A) (i : ℕ) (x : A) (all : List Line) where
  -- one more of which P holds leaves the others
  pub all_more : i < length xs → x ≡ get_or xs i x → P (g x) → (AllByRecursion P (map g (drop i xs)) ↔ AllByRecursion P all) → (AllByRecursion P (map g (drop (i + 1) xs)) ↔ AllByRecursion P all)
  all_more low is holds left =
      let same = left_more g xs i x low is in
      (λ later. left.0 (subst (AllByRecursion P) (sym same) (holds, later)), λ whole. (subst (AllByRecursion P) same (left.1 whole)).1)

  -- one of which it doesn't hold is one of all
  pub all_not : i < length xs → x ≡ get_or xs i x → (P (g x) → ⊥) → (AllByRecursion P (map g (drop i xs)) ↔ AllByRecursion P all) → AllByRecursion P all → ⊥
  all_not low is not left whole = not (subst (AllByRecursion P) (left_more g xs i x low is) (left.1 whole)).0

-- the texts of the items that are left, and of all
abbrev pub AreKeptItems : Option (Bor (List ℕ)) → List (ℕ × Bor StringItem) → Type 0
AreKeptItems bullet xs = AllByRecursion (λ l. IsKeptText (text_or bullet []) l.text) (map item_line xs)

-- if none is left, all are read again
pub all_kept : (bullet : Option (Bor (List ℕ))) (xs : List (ℕ × Bor StringItem)) (i : ℕ) (t : Tree) (root : List ℕ) → length xs ≤ i → (AreKeptItems bullet (drop i xs) ↔ AreKeptItems bullet xs)
    → map item_line xs ≡ outline t → t.text ≡ root → IsKeptRoot bullet root → AreKeptTexts bullet t
all_kept bullet xs i t root end left lines same kept = record {
  root = subst (IsKeptRoot bullet) (sym same) kept;
  texts = subst (AllByRecursion (λ (l : Line). IsKeptText (text_or bullet []) l.text)) lines (left.0 (subst (AreKeptItems bullet) (sym (drop_all i xs end)) tt));
}

-- ## Options

-- the text of an option that is there
text_some : (o : Option (Bor (List ℕ))) (x other : List ℕ) → option_map (λ u. u.now) o ≡ Some x → text_or o other ≡ x
text_some None x other e = cc
text_some (Some u) x other e = cc

-- equal options have equal texts
text_same : (o p : Option (Bor (List ℕ))) (other : List ℕ) → option_map (λ u. u.now) o ≡ option_map (λ u. u.now) p → text_or o other ≡ text_or p other
text_same None None other e = refl
text_same (Some u) None other e = cc
text_same _ _ other e = cc

-- the first line's bullet is that of the options
first_is : (o : Option (Bor (List ℕ))) (form : Form) (t : Tree) → form.bullet.now ≡ text_or o [] → (o ≡ None → line_bullet t.text ≡ [])
    → form.bullet.now ≡ text_or o (first_bullet (map (whole form) (outline t)))
first_is None form t is bare = is ∙ (sym (bare refl) ∙ ap (λ (z : List ℕ). line_bullet (z ++ t.text)) (sym is))
first_is (Some bullet) form t is bare = is

-- ## Trees

-- a tree of which lines under a right form are the outline is made of them, unless memory runs out
made_only : (source : Source) (outline : Outline) (t : Tree) (holds : HoldsOutline source outline t) → IsRightForm holds.form → MakesOnly source outline t
made_only source outline t holds right = record { some = holds; only = only; failed = failed } where
  text : List ℕ
  text = text_of_lines (labelled_lines holds.form outline.label (outline_lines source))

  only : HoldsNoOtherOutline source outline t
  only u other = same_form holds.form right.0 text t u holds.text.read (held_within source outline holds.form text u (record { options = holds.options; is = refl }) other).read

  failed : (e : Failure) → FailsToOutline source outline e → e ≡ Memory
  failed (Input wrong) none = absurd (none t holds)
  failed (Usage wrong) none = absurd (none holds.form holds.options right)
  failed Said none = absurd none
  failed (Output kind) none = absurd none
  failed Memory none = refl

-- an indented form is the outline of its tree, with the same options
form_back : (indented : Indented) (t : Tree) (bytes : List ℕ) (form : Form) → height t.children ≤ 5000 → AreKeptTexts indented.bullet t
    → form.unit.now ≡ indented.unit.now → form.bullet.now ≡ text_or indented.bullet [] → IsIndentedForm form bytes t → IsReadBack indented t bytes
form_back indented t bytes form low kept unit bullet is right source options text same = made_only source options t holds (subst IsUnit (sym unit) right.0.unit, bullet_fits form.bullet.now t.text is.0.0) where
  o : List Line
  o = outline t

  texts : AllByRecursion (λ l. IsKeptText form.bullet.now l.text) o
  texts = subst (λ (b : List ℕ). AllByRecursion (λ (l : Line). IsKeptText b l.text) o) (sym bullet) kept.texts

  read : AreReadLines form o
  read = own_lines form o is.0 texts (subst (λ (b : List ℕ). EndsInReturn b → ⊥) (sym bullet) right.0.bullet.1)

  first : begins_with byte_order_mark (own form t.text) ≡ false
  first = ap (λ (b : List ℕ). begins_with byte_order_mark (b ++ t.text)) bullet ∙ kept.root.unmarked

  counted : outline_lines source ≡ map (whole form) o
  counted = ap (λ (x : List ℕ). filled_lines (unmarked x)) (text ∙ is.1) ∙ (ap filled_lines (unmarked_form form t first) ∙ filled_form form (subst IsUnit (sym unit) right.0.unit) o is.0 read)

  holds : HoldsOutline source options t
  holds = record {
    form = form;
    options = record {
      unit = unit ∙ sym (text_some options.unit indented.unit.now (first_indent (outline_lines source)) same.unit);
      bullet = first_is indented.bullet form t bullet kept.root.bare
          ∙ (sym (text_same options.bullet indented.bullet (first_bullet (map (whole form) o)) same.bullet) ∙ ap (λ (ls : List (List ℕ)). text_or options.bullet (first_bullet ls)) (sym counted));
    };
    text = record {
      read = (is.0, ap (λ (l : Option (Bor (List ℕ))). text_of_lines (labelled_lines form l (outline_lines source))) same.label ∙ (ap text_of_lines counted ∙ text_of_form form o));
      within = low;
    };
  }

-- so what is written of a tree is its outline
pub outline_back : (indented : Indented) (t : Tree) (bytes : List ℕ) → height t.children ≤ 5000 → AreKeptTexts indented.bullet t
    → IsIndented indented t bytes → IsReadBack indented t bytes
outline_back indented t bytes low kept is right =
    let plain : IsShownForm false indented.unit.now (text_or indented.bullet []) t bytes = subst (λ (b : Bool). IsShownForm b indented.unit.now (text_or indented.bullet []) t bytes) right.1 is in
    form_back indented t bytes plain.0 low kept plain.1 plain.2 plain.3 right

-- the tree of a drawing that was read has few enough levels, so what was written of it is read back
pub indentation_made : {A : Type 0} (sources : Sources) (source : Source) (indented : Indented) (t : Tree) (r : Result A Failure) (bytes : A → List ℕ) → HoldsDrawing (reading_value sources indented.pieces) source t
    → IfOk r (λ text. IsIndented indented t (bytes text)) → (height t.children ≤ 5000 → IfOk r (λ text. IsReadBack indented t (bytes text))) → IfOk r (λ text. IsIndentation sources source indented (bytes text))
indentation_made sources source indented t (Ok text) bytes holds form back = (t, holds, form, back (held_text sources indented.pieces source t holds).0)
indentation_made sources source indented t (Err e) bytes holds form back = tt

-- if it loses a text of the one tree that was read, the source holds none of which all are read again
pub fails_to_indent : (sources : Sources) (source : Source) (indented : Indented) (t : Tree) (e : Failure) → HoldsNoOther (reading_value sources indented.pieces) source t → FailsFor (LosesText indented t) ⊥ e
    → FailsToIndent sources source indented e
fails_to_indent sources source indented t e only fails =
    let config = reading_value sources indented.pieces in
    let Lost : Type 0 = (u : Tree) → HoldsDrawing config source u → LosesText indented u in
    fails_weaker (LosesText indented t) Lost (IsReadableValue config → ⊥) e (λ loses u holds. subst (LosesText indented) (only u holds) loses) (fails_wider (LosesText indented t) (IsReadableValue config → ⊥) e fails)

-- so it does if it holds none
pub fails_to_read : (sources : Sources) (source : Source) (indented : Indented) (e : Failure) → FailsToRead (reading_value sources indented.pieces) source e → FailsToIndent sources source indented e
fails_to_read sources source indented e fails =
    let config = reading_value sources indented.pieces in
    fails_weaker ((t : Tree) → HoldsDrawing config source t → ⊥) ((t : Tree) → HoldsDrawing config source t → LosesText indented t) (IsReadableValue config → ⊥) e (λ none t holds. absurd (none t holds)) fails
