-- The lines of indented text, and their trees.
use Rattle.trees.proofs.Common.{◌≡◌, ◌≢◌, ◌∙◌, ℕ, zero, suc, ◌+◌, ◌<◌, ◌≤◌, Bool, true, false, cond, eqb, Option, Some, None, ◌⊎◌, List, [], ◌∷◌, ◌++◌, length, get_or, take, drop, map, inl, inr, refl, sym, ap, subst, append_assoc, Bor, unwrap_or, arith, All-nil, All-cons, All-head, All-tail, All-weaker, Line, outline, HasNoLineFeed, begins_blank, indent, indented_line, indented_lines, IsUnit, IsLineText, AreLineTexts, IsIndentedForm, Form}
use Rattle.std.proofs.lemmas.Bool.{false≢true, cases_lt, ne_eqb}
use Rattle.std.proofs.lemmas.List.{append-nil, append_cancel_left, at_drop_more, map_more}
use Rattle.std.proofs.lemmas.List.Concat.{flat_map-append}
use Rattle.std.proofs.lemmas.List.Splits.{slice_split_at}
use Rattle.std.specs.List.{All, Any, filter, slice_split}
use Rattle.ptree.specs.Reached.{AreWithin}
use Rattle.ptree.specs.Tree.{Tree, height}
use Rattle.ptree.proofs.Reading.SpelledForms.{low_height, height_low}
use Rattle.ptree_trees.proofs.IndentedLines.{line_parts, no_feed_join, own, whole}
use Rattle.ptree_trees.proofs.IndentedTexts.{blank_unit}
use Rattle.trees.specs.declared.command.Outline.{Outline}
use Rattle.trees.specs.declared.failure.Failure.{Failure}
use Rattle.trees.specs.declared.source.Source.{Source}
use Rattle.trees.specs.ListingParts.{IsDeep}
use Rattle.trees.specs.Outlining.{outline_lines, text_of_lines, line_indent, head_indent, first_indent, first_bullet, text_or, IsFormOf, IsRightForm, labelled_lines, IsFormWithin, HoldsOutline, FailsToOutline}
use Rattle.trees.specs.Reading.{IsUsage, FailsToMake}
use Rattle.trees.proofs.OutlineTexts.{text_or_is}
use Rattle.trees.proofs.Readings.{fails_by_usage, fails_wider, fails_more}

-- ## Indents

-- if a line begins with more units than one indent has, there is a unit behind that
unit_behind : (unit : List ℕ) (n m : ℕ) (t s : List ℕ) → n < m → indent unit n ++ t ≡ indent unit m ++ s → (rest : List ℕ) × (t ≡ unit ++ rest)
unit_behind unit n zero t s less e = absurd (omega arith)
unit_behind unit zero (suc m) t s less e = (indent unit m ++ s, e ∙ append_assoc unit (indent unit m) s)
unit_behind unit (suc n) (suc m) t s less e =
    unit_behind unit n m t s (omega arith) (append_cancel_left unit (indent unit n ++ t) (indent unit m ++ s) (sym (append_assoc unit (indent unit n) t) ∙ (e ∙ append_assoc unit (indent unit m) s)))

-- a line with a unit more than there are levels is deep
pub is_deep : (d : ℕ) (unit line more : List ℕ) (n : ℕ) → n ≡ d → line ≡ indent unit (n + 1) ++ more → IsDeep d unit line
is_deep d unit line more n last e = (n + 1, more, omega arith, e)

-- a level that is not the last has a next one
pub next_level : (d n : ℕ) → n ≤ d → n ≢ d → n + 1 ≤ d
next_level d n least other = elim (cases_lt n d) [
  | inl less ↦ omega arith
  | inr last ↦ absurd (other (omega arith))
]

-- one with no more units than that is not
pub not_deep : (d : ℕ) (unit line rest : List ℕ) (n : ℕ) → n ≤ d → line ≡ indent unit n ++ rest → ((x : List ℕ) → rest ≢ unit ++ x) → IsDeep d unit line → ⊥
not_deep d unit line rest n least e none deep =
    let behind = unit_behind unit n deep.0 rest deep.1 (omega (arith, deep.2)) (sym e ∙ deep.3) in
    none behind.0 behind.1

-- ## Levels

-- a deep line has a level more than there are
deep_level : (d : ℕ) (unit : List ℕ) → IsUnit unit → (n : ℕ) (t : List ℕ) → begins_blank t ≡ false → IsDeep d unit (indent unit n ++ t) → n ≤ d → ⊥
deep_level d unit u n t h deep least =
    not_deep d unit (indent unit n ++ t) t n least refl (λ x e. false≢true (sym h ∙ (ap begins_blank e ∙ blank_unit unit u x))) deep

-- a text without a line feed has no byte that is one
no_feeds : (bs : List ℕ) → HasNoLineFeed bs → All (λ b. eqb b 10 ≡ false) bs
no_feeds bs h = All-weaker (λ b. b ≢ 10) (λ b. eqb b 10 ≡ false) (λ b other. ne_eqb b 10 other) bs h

-- the parts of an indented form between line feeds: its lines, and the empty text
pub parts_of_form : (form : Form) → IsUnit form.unit.now → (o : List Line) → AreLineTexts form o → slice_split (λ b. eqb b 10) (indented_lines form o) ≡ map (whole form) o ++ [] ∷ []
parts_of_form form u [] h = refl
parts_of_form form u (l ∷ o) h =
    ap (slice_split (λ b. eqb b 10)) (line_parts form l (indented_lines form o))
    ∙ (slice_split_at (λ b. eqb b 10) (whole form l) 10 (indented_lines form o) (no_feeds (whole form l) (no_feed_join form u l h.0.0)) refl
    ∙ ap (λ (z : List (List ℕ)). whole form l ∷ z) (parts_of_form form u o h.1))

-- the line is not deep
abbrev IsShallow : ℕ → Form → List ℕ → Type 0
IsShallow d form l = IsDeep d form.unit.now l → ⊥

-- if no line is deep, all levels are low
shallow_low : (d : ℕ) (form : Form) → IsUnit form.unit.now → (o : List Line) → All (IsShallow d form) (map (whole form) o ++ [] ∷ []) → AreWithin d o
shallow_low d form u [] none = tt
shallow_low d form u (l ∷ o) none = (least (cases_lt d l.level), shallow_low d form u o (All-tail (IsShallow d form) (whole form l) (map (whole form) o ++ [] ∷ []) none)) where
  least : (d < l.level) ⊎ (l.level ≤ d) → l.level ≤ d
  least (inl more) = absurd (All-head (IsShallow d form) (whole form l) (map (whole form) o ++ [] ∷ []) none (l.level, own form l.text, more, refl))
  least (inr low) = low

-- and the reverse
low_shallow : (d : ℕ) (form : Form) → IsUnit form.unit.now → (o : List Line) → AreLineTexts form o → AreWithin d o → All (IsShallow d form) (map (whole form) o ++ [] ∷ [])
low_shallow d form u [] h low = All-cons (IsShallow d form) [] [] (λ deep. deep_level d form.unit.now u 0 [] refl deep (omega arith)) (All-nil (IsShallow d form))
low_shallow d form u (l ∷ o) h low =
    All-cons (IsShallow d form) (whole form l) (map (whole form) o ++ [] ∷ []) (λ deep. deep_level d form.unit.now u l.level (own form l.text) h.0.1 deep low.0)
    (low_shallow d form u o h.1 low.1)

-- a tree is within the levels if no line of its indented form is deep
pub within_lines : (d : ℕ) (form : Form) → IsUnit form.unit.now → (text : List ℕ) (t : Tree) → IsIndentedForm form text t
    → All (IsShallow d form) (slice_split (λ b. eqb b 10) text) → height t.children ≤ d
within_lines d form u text t is none =
    let parts = ap (slice_split (λ b. eqb b 10)) is.1 ∙ parts_of_form form u (outline t) is.0 in
    let low = shallow_low d form u (outline t) (subst (All (IsShallow d form)) parts none) in
    omega (arith, height_low d 0 t.children (omega arith) low.1)

-- and only then
pub deep_line : (d : ℕ) (form : Form) → IsUnit form.unit.now → (text : List ℕ) (t : Tree) → IsIndentedForm form text t
    → Any (IsDeep d form.unit.now) (slice_split (λ b. eqb b 10) text) → height t.children ≤ d → ⊥
deep_line d form u text t is some within =
    let parts = ap (slice_split (λ b. eqb b 10)) is.1 ∙ parts_of_form form u (outline t) is.0 in
    let low = low_height d 0 t.children (omega (arith, within)) in
    let none = subst (All (IsShallow d form)) (sym parts) (low_shallow d form u (outline t) is.0 (omega arith, low)) in
    none some.0 some.1 some.2 (subst (IsDeep d form.unit.now) (sym some.3) some.4)

-- ## Forms

-- what two forms of the same unit and bullet write is the same
lines_same : (f g : Form) → f.unit.now ≡ g.unit.now → f.bullet.now ≡ g.bullet.now → (o : List Line) → indented_lines f o ≡ indented_lines g o
lines_same f g unit bullet [] = refl
lines_same f g unit bullet (l ∷ o) =
    ap (λ (w : List ℕ). (indent w l.level ++ ((f.bullet.now ++ l.text) ++ 10 ∷ [])) ++ indented_lines f o) unit
    ∙ (ap (λ (w : List ℕ). (indent g.unit.now l.level ++ ((w ++ l.text) ++ 10 ∷ [])) ++ indented_lines f o) bullet
    ∙ ap (λ (z : List ℕ). indented_line g l ++ z) (lines_same f g unit bullet o))

form_same : (f g : Form) → f.unit.now ≡ g.unit.now → f.bullet.now ≡ g.bullet.now → (text : List ℕ) (t : Tree) → IsIndentedForm f text t → IsIndentedForm g text t
form_same f g unit bullet text t is = (texts (outline t) is.0, is.1 ∙ lines_same f g unit bullet (outline t)) where
  texts : (o : List Line) → AreLineTexts f o → AreLineTexts g o
  texts [] h = tt
  texts (l ∷ o) h = (subst (λ (w : List ℕ). IsLineText (w ++ l.text)) bullet h.0, texts o h.1)

labelled_same : (f g : Form) → f.unit.now ≡ g.unit.now → f.bullet.now ≡ g.bullet.now → (label : Option (Bor (List ℕ))) (ls : List (List ℕ)) → labelled_lines f label ls ≡ labelled_lines g label ls
labelled_same f g unit bullet None ls = refl
labelled_same f g unit bullet (Some label) ls =
    ap (λ (w : List ℕ). (w ++ label.now) ∷ map (λ l. f.unit.now ++ l) ls) bullet
    ∙ ap (λ (w : List ℕ). (g.bullet.now ++ label.now) ∷ map (λ l. w ++ l) ls) unit

-- two forms of an outline have the same unit and bullet
same_options : (outline : Outline) (ls : List (List ℕ)) (f g : Form) → IsFormOf outline ls f → IsFormOf outline ls g → (f.unit.now ≡ g.unit.now) × (f.bullet.now ≡ g.bullet.now)
same_options outline ls f g h k = (h.unit ∙ sym k.unit, h.bullet ∙ sym k.bullet)

-- the text is that of an outline under a form of its options
pub record IsTextOf (source : Source) (outline : Outline) (form : Form) (text : List ℕ) : Type 0 where
  pub options : IsFormOf outline (outline_lines source) form
  pub is : text ≡ text_of_lines (labelled_lines form outline.label (outline_lines source))

-- the form is that of the options, or else of lines
pub form_is : (outline : Outline) (ls : List (List ℕ)) (unit bullet indent first : Bor (List ℕ)) → unit ≡ unwrap_or outline.unit indent → bullet ≡ unwrap_or outline.bullet first
    → indent.now ≡ first_indent ls → first.now ≡ first_bullet ls → IsFormOf outline ls (record { unit = unit; bullet = bullet })
form_is outline ls unit bullet indent first u b i f = record {
  unit = ap (λ (x : Bor (List ℕ)). x.now) u ∙ (text_or_is outline.unit indent ∙ ap (text_or outline.unit) i);
  bullet = ap (λ (x : Bor (List ℕ)). x.now) b ∙ (text_or_is outline.bullet first ∙ ap (text_or outline.bullet) f);
}

-- the same of the lines that count, and their text
pub text_is : (source : Source) (outline : Outline) (form : Form) (ls : List (List ℕ)) (text : List ℕ) → ls ≡ outline_lines source → IsFormOf outline ls form
    → text ≡ text_of_lines (labelled_lines form outline.label ls) → IsTextOf source outline form text
text_is source outline form ls text lines options is = record {
  options = subst (λ (x : List (List ℕ)). IsFormOf outline x form) lines options;
  is = is ∙ ap (λ (x : List (List ℕ)). text_of_lines (labelled_lines form outline.label x)) lines;
}

-- so the outline holds a tree exactly if that is the text's
pub within_held : (source : Source) (outline : Outline) (form : Form) (text : List ℕ) (t : Tree) → IsTextOf source outline form text → IsFormWithin form text t → HoldsOutline source outline t
within_held source outline form text t of within = record { form = form; options = of.options; text = subst (λ (x : List ℕ). IsFormWithin form x t) of.is within }

pub held_within : (source : Source) (outline : Outline) (form : Form) (text : List ℕ) (t : Tree) → IsTextOf source outline form text → HoldsOutline source outline t → IsFormWithin form text t
held_within source outline form text t of holds =
    let same = same_options outline (outline_lines source) holds.form form holds.options of.options in
    let texts = ap text_of_lines (labelled_same holds.form form same.0 same.1 outline.label (outline_lines source)) ∙ sym of.is in
    record {
      read = form_same holds.form form same.0 same.1 text t (subst (λ (x : List ℕ). IsIndentedForm holds.form x t) texts holds.text.read);
      within = holds.text.within;
    }

-- what fails to read the text fails to read the outline
pub outline_fails : (source : Source) (outline : Outline) (form : Form) (text : List ℕ) (e : Failure) → IsTextOf source outline form text → FailsToMake ⊥ (IsFormWithin form text) e → FailsToOutline source outline e
outline_fails source outline form text e of fails =
    let wrong : Type 0 = (g : Form) → IsFormOf outline (outline_lines source) g → IsRightForm g → ⊥ in
    fails_more wrong (IsFormWithin form text) (HoldsOutline source outline) e (λ u holds. (u, held_within source outline form text u of holds))
    (fails_wider ((t : Tree) → IsFormWithin form text t → ⊥) wrong e fails)

-- a usage error says that the form is wrong
pub form_fails : (source : Source) (outline : Outline) (form : Form) (ls : List (List ℕ)) (e : Failure) → ls ≡ outline_lines source → IsFormOf outline ls form → (IsRightForm form → ⊥) → IsUsage e
    → FailsToOutline source outline e
form_fails source outline form ls e lines options wrong usage =
    fails_by_usage ((t : Tree) → HoldsOutline source outline t → ⊥) ((g : Form) → IsFormOf outline (outline_lines source) g → IsRightForm g → ⊥) e usage each where
      each : (g : Form) → IsFormOf outline (outline_lines source) g → IsRightForm g → ⊥
      each g others right =
          let same = same_options outline (outline_lines source) g form others (subst (λ (x : List (List ℕ)). IsFormOf outline x form) lines options) in
          wrong (subst IsUnit same.0 right.0, subst IsLineText same.1 right.1)

-- ## Loops

-- a line more is a line feed more
pub text_more : (old now new start : List ℕ) (lines : List (Bor (List ℕ))) (i : ℕ) (d : Bor (List ℕ)) → i < length lines
    → now ≡ old ++ text_of_lines (map (λ l. start ++ l.now) (take i lines)) → new ≡ now ++ ((start ++ (get_or lines i d).now) ++ 10 ∷ [])
    → new ≡ old ++ text_of_lines (map (λ l. start ++ l.now) (take (i + 1) lines))
text_more old now new start lines i d low before is = is
    ∙ (ap (λ (z : List ℕ). z ++ ((start ++ (get_or lines i d).now) ++ 10 ∷ [])) before
    ∙ (append_assoc old (text_of_lines (map (λ (l : Bor (List ℕ)). start ++ l.now) (take i lines))) ((start ++ (get_or lines i d).now) ++ 10 ∷ [])
    ∙ ap (λ (z : List ℕ). old ++ z) (next ∙ ap text_of_lines (sym (map_more (λ (l : Bor (List ℕ)). start ++ l.now) lines i d low))))) where
      next : text_of_lines (map (λ (l : Bor (List ℕ)). start ++ l.now) (take i lines)) ++ ((start ++ (get_or lines i d).now) ++ 10 ∷ [])
          ≡ text_of_lines (map (λ (l : Bor (List ℕ)). start ++ l.now) (take i lines) ++ (start ++ (get_or lines i d).now) ∷ [])
      next = ap (λ (z : List ℕ). text_of_lines (map (λ (l : Bor (List ℕ)). start ++ l.now) (take i lines)) ++ z) (sym (append-nil ((start ++ (get_or lines i d).now) ++ 10 ∷ [])))
          ∙ sym (flat_map-append (λ (l : List ℕ). l ++ 10 ∷ []) (map (λ (l : Bor (List ℕ)). start ++ l.now) (take i lines)) ((start ++ (get_or lines i d).now) ∷ []))

-- the first line that begins with a blank or a tab has the first indent, and others don't count
indent_some : (line : List ℕ) (ls : List (List ℕ)) → begins_blank line ≡ true → line_indent line ≡ first_indent (line ∷ ls)
indent_some line ls h = ap (λ (b : Bool). head_indent (cond b (line ∷ filter begins_blank ls) (filter begins_blank ls))) (sym h)

indent_none : (line : List ℕ) (ls : List (List ℕ)) → begins_blank line ≡ false → first_indent ls ≡ first_indent (line ∷ ls)
indent_none line ls h = ap (λ (b : Bool). head_indent (cond b (line ∷ filter begins_blank ls) (filter begins_blank ls))) (sym h)

pub indent_here : (lines : List (Bor (List ℕ))) (i : ℕ) (d : Bor (List ℕ)) → i < length lines → begins_blank (get_or lines i d).now ≡ true
    → first_indent (map (λ l. l.now) (drop i lines)) ≡ first_indent (map (λ l. l.now) lines) → line_indent (get_or lines i d).now ≡ first_indent (map (λ l. l.now) lines)
indent_here lines i d low blank before =
    indent_some (get_or lines i d).now (map (λ l. l.now) (drop (i + 1) lines)) blank ∙ (sym (at_drop_more (λ (ls : List (Bor (List ℕ))). first_indent (map (λ l. l.now) ls)) lines i d low) ∙ before)

pub indent_later : (lines : List (Bor (List ℕ))) (i : ℕ) (d : Bor (List ℕ)) → i < length lines → begins_blank (get_or lines i d).now ≡ false
    → first_indent (map (λ l. l.now) (drop i lines)) ≡ first_indent (map (λ l. l.now) lines)
    → first_indent (map (λ l. l.now) (drop (i + 1) lines)) ≡ first_indent (map (λ l. l.now) lines)
indent_later lines i d low other before =
    indent_none (get_or lines i d).now (map (λ l. l.now) (drop (i + 1) lines)) other ∙ (sym (at_drop_more (λ (ls : List (Bor (List ℕ))). first_indent (map (λ l. l.now) ls)) lines i d low) ∙ before)
