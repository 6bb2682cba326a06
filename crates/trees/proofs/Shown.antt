-- What calls write on a terminal.
use Rattle.trees.proofs.Common.{◌≡◌, ℕ, zero, suc, ◌++◌, Bool, true, false, List, [], ◌∷◌, Option, Result, Ok, Err, inl, inr, refl, sym, ap, ◌∙◌, subst, All, append-nil, true≢false, NoCharPasses, All-nil, All-cons, All-head, All-tail, All-append, NoCharPasses-append, Sources, ConfigValue, effective_config, Line, line, outline_at, outline, IsPrefixOf, Form, escaped_text, mapped_forest, mapped_tree, indent, indented_line, indented_lines}
use Rattle.ptree.specs.declared.print_config.OutputKind.TheVariants.{Unknown}
use Rattle.ptree.specs.Drawing.{Look, look_by}
use Rattle.ptree.specs.Tree.{none, item, Forest, Tree}
use Rattle.ptree.specs.Writing.{AppendsPart}
use Rattle.ptree.proofs.Drawing.Engine.{nothing_yet}
use Rattle.trees.specs.declared.command.Diff.{Diff}
use Rattle.trees.specs.declared.command.Drawing.{Drawing}
use Rattle.trees.specs.declared.command.Indented.{Indented}
use Rattle.trees.specs.declared.deps.Dependencies.{Dependencies}
use Rattle.trees.specs.declared.failure.Failure.{Failure}
use Rattle.trees.specs.declared.failure.Failure.TheVariants.{Usage, Input, Said, Output, Memory}
use Rattle.trees.specs.declared.source.Source.{Source}
use Rattle.trees.specs.Asked.{asked_config, drawing_value}
use Rattle.trees.specs.Merging.{IsComparison, IsMergeCode}
use Rattle.trees.specs.Outlining.{text_or}
use Rattle.trees.specs.Shown.{shown_lines, shown_on, AreShownLabels, is_raw, IsNone, IsLookCode, IsShown, ShowsOnly}
use Rattle.trees.specs.Writing.{Compares, FailsToCompare, IsComparisonOf, IsDrawingOf, IsGraphDrawing, IsIndentation, IsShownForm, ShowsDrawing, ShowsMerged, Writes}
use Rattle.trees.proofs.Differences.{difference_calm}
use Rattle.trees.proofs.ShownDrawings.{tree_shown, graph_shown}
use Rattle.trees.proofs.ShownMerges.{merge_drawing_shown}
use Rattle.trees.proofs.ShownTexts.{feed_calm, lines_calm, escaped_calm, none_shown, both_shown, calm_shown, code_shown}

-- ## Indented text

-- the unit, several times
indent_shown : (unit : List ℕ) (n : ℕ) → IsShown (λ part. part ≡ unit) (indent unit n)
indent_shown unit zero = none_shown (λ part. part ≡ unit)
indent_shown unit (suc n) = both_shown (λ part. part ≡ unit) unit (indent unit n) (code_shown (λ part. part ≡ unit) unit refl) (indent_shown unit n)

-- a line without a raw character
abbrev IsCalmLine : Line → Type 0
IsCalmLine l = NoCharPasses is_raw l.text

-- lines behind a bullet
lines_shown : (form : Form) → NoCharPasses is_raw form.bullet.now → (o : List Line) → All IsCalmLine o → IsShown (λ part. part ≡ form.unit.now) (indented_lines form o)
lines_shown form h [] k = none_shown (λ part. part ≡ form.unit.now)
lines_shown form h (l ∷ o) k =
    let Code : List ℕ → Type 0 = λ part. part ≡ form.unit.now in
    let text = NoCharPasses-append is_raw form.bullet.now l.text h (All-head IsCalmLine l o k) in
    let end = calm_shown Code ((form.bullet.now ++ l.text) ++ 10 ∷ []) (NoCharPasses-append is_raw (form.bullet.now ++ l.text) (10 ∷ []) text feed_calm) in
    both_shown Code (indented_line form l) (indented_lines form o)
    (both_shown Code (indent form.unit.now l.level) ((form.bullet.now ++ l.text) ++ 10 ∷ []) (indent_shown form.unit.now l.level) end)
    (lines_shown form h o (All-tail IsCalmLine l o k))

-- the lines of an escaped forest
outline_calm : (n : ℕ) (c : Forest) → All IsCalmLine (outline_at n (mapped_forest escaped_text c))
outline_calm n none = All-nil IsCalmLine
outline_calm n (item t c r) =
    All-cons IsCalmLine (line n (escaped_text t)) _ (escaped_calm t)
    (All-append IsCalmLine (outline_at (suc n) (mapped_forest escaped_text c)) (outline_at n (mapped_forest escaped_text r)) (outline_calm (suc n) c) (outline_calm n r))

-- the indented form of a tree, on a terminal
indented_shown : (b : Bool) (unit bullet : List ℕ) (t : Tree) (bytes : List ℕ) → IsShownForm b unit bullet t bytes → b ≡ true → IsShown (λ part. part ≡ unit) bytes
indented_shown false unit bullet t bytes h e = absurd (true≢false (sym e))
indented_shown true unit bullet t bytes h e =
    let form : Form = h.0 in
    let o : List Line = outline (mapped_tree escaped_text t) in
    let calm : NoCharPasses is_raw form.bullet.now = subst (NoCharPasses is_raw) (sym h.2) (escaped_calm bullet) in
    let lines : All IsCalmLine o = All-cons IsCalmLine (line 0 (escaped_text t.text)) _ (escaped_calm t.text) (outline_calm 1 t.children) in
    subst (λ (u : List ℕ). IsShown (λ part. part ≡ u) bytes) h.1 (subst (IsShown (λ part. part ≡ form.unit.now)) (sym h.3.1) (lines_shown form calm o lines))

-- ## Calls

-- all of a text is a prefix of it
whole : (text : List ℕ) → IsPrefixOf text text
whole text = ([], sym (append-nil text))

-- nothing more is appended than what is shown
pub writes_shown : {A : Type 0} (on : Bool) (Code : List ℕ → Type 0) (old new : Option (List ℕ)) (r : Result A Failure) (Is : List ℕ → Type 0) (Fails : Failure → Type 0)
    → ((bytes : List ℕ) → Is bytes → on ≡ true → IsShown Code bytes) → Writes old new r Is Fails → ShowsOnly on Code old new
writes_shown on Code old new (Ok x) Is Fails shows h = λ yes. (h.0, shows h.0 h.1 yes, (h.0, whole h.0, h.2))
writes_shown on Code old new (Err e) Is Fails shows h = λ yes. elim h [
  | inl nothing ↦ ([], none_shown Code, ([], whole [], nothing.1))
  | inr part ↦ (part.1, shows part.1 part.2 yes, part.3)
]

-- the drawing of a tree
pub drawing_shown : {A : Type 0} (sources : Sources) (drawing : Drawing) (Is : Tree → Type 0) (Fails : Failure → Type 0) (old new : Option (List ℕ)) (r : Result A Failure)
    → Writes old new r (IsDrawingOf sources drawing Is) Fails → ShowsDrawing sources drawing old new
drawing_shown sources drawing Is Fails old new r =
    let b : Bool = drawing.screen.is_terminal in
    let look : Look = look_by (drawing_value sources drawing) Unknown false in
    writes_shown b (IsLookCode look) old new r (IsDrawingOf sources drawing Is) Fails
    (λ bytes is on. tree_shown b (asked_config drawing (effective_config sources)) is.0 bytes is.2 on)

-- the drawing of a graph
pub dependencies_shown : {A : Type 0} (sources : Sources) (drawing : Drawing) (found : Dependencies) (walks : Bool) (Fails : Failure → Type 0) (old new : Option (List ℕ)) (r : Result A Failure)
    → (drawing.screen.is_terminal ≡ true → AreShownLabels found.graph) → Writes old new r (IsGraphDrawing (drawing_value sources drawing) found walks) Fails → ShowsDrawing sources drawing old new
dependencies_shown sources drawing found walks Fails old new r labels =
    let b : Bool = drawing.screen.is_terminal in
    let value : ConfigValue = drawing_value sources drawing in
    writes_shown b (IsLookCode (look_by value Unknown false)) old new r (IsGraphDrawing value found walks) Fails
    (λ bytes is on. graph_shown b (asked_config drawing (effective_config sources)) found walks bytes labels is on)

-- indented text
pub indentation_shown : {A : Type 0} (sources : Sources) (source : Source) (indented : Indented) (Fails : Failure → Type 0) (old new : Option (List ℕ)) (r : Result A Failure)
    → Writes old new r (IsIndentation sources source indented) Fails → ShowsOnly indented.is_terminal (λ part. part ≡ indented.unit.now) old new
indentation_shown sources source indented Fails old new r =
    writes_shown indented.is_terminal (λ part. part ≡ indented.unit.now) old new r (IsIndentation sources source indented) Fails
    (λ bytes is on. indented_shown indented.is_terminal indented.unit.now (text_or indented.bullet []) is.0 bytes is.2 on)

-- lines that are escaped for a terminal
pub lines_part_shown : (b : Bool) (lines text : List ℕ) (old new : Option (List ℕ)) → text ≡ shown_on b lines → AppendsPart old new text → ShowsOnly b IsNone old new
lines_part_shown b lines text old new is part = λ on.
    let shown : text ≡ shown_lines lines = is ∙ ap (λ x. shown_on x lines) on in
    (text, calm_shown IsNone text (subst (NoCharPasses is_raw) (sym shown) (lines_calm lines)), part)

-- nothing
pub nothing_shown : (b : Bool) (Code : List ℕ → Type 0) (a : Option (List ℕ)) → ShowsOnly b Code a a
nothing_shown b Code a = λ on. ([], none_shown Code, nothing_yet a [])

-- no drawing
pub drawing_nothing : (sources : Sources) (drawing : Drawing) (a : Option (List ℕ)) → ShowsDrawing sources drawing a a
drawing_nothing sources drawing a = nothing_shown drawing.screen.is_terminal (IsLookCode (look_by (drawing_value sources drawing) Unknown false)) a

-- two drawings, compared
pub comparison_shown : {A : Type 0} (sources : Sources) (left right : Source) (diff : Diff) (old new : Option (List ℕ)) (r : Result A Failure) → Compares sources left right diff old new r → ShowsMerged sources diff.drawing old new
comparison_shown {A} sources left right diff old new r = by_result r where
  value : ConfigValue
  value = drawing_value sources diff.drawing

  b : Bool
  b = diff.drawing.screen.is_terminal

  by_all : (all : Bool) (t u : Tree) (bytes : List ℕ) → IsComparison all value b t u bytes → b ≡ true → IsShown (IsMergeCode value) bytes
  by_all true t u bytes is on = merge_drawing_shown b (asked_config diff.drawing (effective_config sources)) t u bytes is on
  by_all false t u bytes is on = calm_shown (IsMergeCode value) bytes (difference_calm t u bytes is)

  shows : (bytes : List ℕ) → IsComparisonOf sources left right diff bytes → b ≡ true → IsShown (IsMergeCode value) bytes
  shows bytes (t, u, _, _, is) on = by_all diff.shows_all t u bytes is on

  fails : (e : Failure) → Writes {A = A} old new (Err e) (IsComparisonOf sources left right diff) (FailsToCompare sources left right diff) → ShowsMerged sources diff.drawing old new
  fails e h = writes_shown {A = A} b (IsMergeCode value) old new (Err e) (IsComparisonOf sources left right diff) (FailsToCompare sources left right diff) shows h

  by_result : (r : Result A Failure) → Compares sources left right diff old new r → ShowsMerged sources diff.drawing old new
  by_result (Ok x) h = λ on. ([], none_shown (IsMergeCode value), ([], whole [], h))
  by_result (Err Said) h = λ on. (h.0, shows h.0 h.1 on, (h.0, whole h.0, h.2))
  by_result (Err (Usage wrong)) h = fails (Usage wrong) h
  by_result (Err (Input wrong)) h = fails (Input wrong) h
  by_result (Err (Output kind)) h = fails (Output kind) h
  by_result (Err Memory) h = fails Memory h
