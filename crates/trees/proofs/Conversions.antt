-- Conversions there and back.
use Rattle.trees.proofs.Common.{◌≡◌, ◌≤◌, ◌∙◌, ℕ, Bool, false, Option, Some, None, List, Result, Ok, Err, string_bytes, refl, sym, ap, subst, arith, Appends, Sources, ConfigValue, effective_config}
use Rattle.ptree.specs.declared.print_config.OutputKind.TheVariants.{Unknown}
use Rattle.ptree.specs.declared.print_config.StyleWhen.{StyleWhen}
use Rattle.ptree.specs.declared.print_config.StyleWhen.TheVariants.{Never}
use Rattle.ptree.specs.Drawing.{Look, look_by, IsDrawing}
use Rattle.ptree.specs.DrawnForm.{IsDrawnForm}
use Rattle.ptree.specs.Tree.{Tree, shape_of_tree, height}
use Rattle.ptree.proofs.Reading.SpelledForms.{same_drawn_form}
use Rattle.ptree.proofs.Drawing.TreeDrawing.{tree_drawing, drawing_of_tree}
use Rattle.trees.specs.declared.command.Convert.{Convert}
use Rattle.trees.specs.declared.command.Drawing.{Drawing}
use Rattle.trees.specs.declared.failure.Failure.{Failure}
use Rattle.trees.specs.declared.pieces.Pieces.{Pieces}
use Rattle.trees.specs.declared.source.Source.{Source}
use Rattle.trees.specs.Asked.{with_pieces, asked_config, drawing_value, reading_value}
use Rattle.trees.specs.Changing.{IsKept, IsSortedIf}
use Rattle.trees.specs.Shown.{shown_config}
use Rattle.trees.specs.Reading.{HoldsDrawing}
use Rattle.trees.specs.Writing.{IsTreeDrawing, IsConversion, Converts, ChangesPieces, ConvertsBack}

-- other pieces leave the depth
depth_with : (pieces : Option Pieces) (config : ConfigValue) → (with_pieces pieces config).depth ≡ config.depth
depth_with None config = refl
depth_with (Some pieces) config = refl

-- drawings are read down to level 5,000
reading_depth : (sources : Sources) (pieces : Option Pieces) → (reading_value sources pieces).depth ≡ 5000
reading_depth sources pieces = depth_with pieces (record (effective_config sources) { depth = 5000; styled = Never })

-- other pieces leave the style
styled_with : (pieces : Option Pieces) (config : ConfigValue) → (with_pieces pieces config).styled ≡ config.styled
styled_with None config = refl
styled_with (Some pieces) config = refl

-- without colours, the look depends on no depth
plain_look : (pieces : Option Pieces) (config : ConfigValue) (depth deep : ℕ) (styled : StyleWhen) → styled ≡ Never
    → look_by (with_pieces pieces (record config { depth = depth; styled = styled })) Unknown false ≡ look_by (with_pieces pieces (record config { depth = deep; styled = Never })) Unknown false
plain_look None config depth deep styled h = ap (λ s. look_by (record config { depth = depth; styled = s }) Unknown false) h
plain_look (Some pieces) config depth deep styled h = ap (λ s. look_by (with_pieces (Some pieces) (record config { depth = depth; styled = s })) Unknown false) h

-- the look of drawings that are read
abbrev reading_look : Sources → Option Pieces → Look
reading_look sources pieces = look_by (reading_value sources pieces) Unknown false

-- what is drawn without colours and escapes looks as what is read
same_look : (sources : Sources) (drawing : Drawing) → drawing.screen.is_terminal ≡ false → (drawing_value sources drawing).styled ≡ Never
    → look_by (drawing_value sources drawing) Unknown false ≡ reading_look sources drawing.pieces
same_look sources drawing off plain =
    let asked : ConfigValue = asked_config drawing (effective_config sources) in
    let never : asked.styled ≡ Never = ap (λ (b : Bool). (shown_config b asked).styled) (sym off) ∙ plain in
    ap (λ (b : Bool). look_by (shown_config b asked) Unknown false) off ∙ plain_look drawing.pieces (effective_config sources) _ 5000 _ (sym (styled_with drawing.pieces _) ∙ never)

-- the tree whose drawing a source holds has that depth, and the text is its drawing by recursion
pub held_text : (sources : Sources) (pieces : Option Pieces) (source : Source) (t : Tree) → HoldsDrawing (reading_value sources pieces) source t
    → (height t.children ≤ 5000) × (string_bytes source.text ≡ tree_drawing (reading_look sources pieces) t)
held_text sources pieces source t holds =
    (subst (λ (d : ℕ). height t.children ≤ d) (reading_depth sources pieces) holds.form.within, (drawing_of_tree (reading_look sources pieces) _ t (string_bytes source.text) holds.form.within).0 holds.form.drawn)

-- where the pieces alone change, the tree that is read is drawn, by recursion
changed_text : (sources : Sources) (source : Source) (convert : Convert) (bytes : List ℕ) → ChangesPieces sources convert → IsConversion sources source convert bytes
    → (t : Tree) × HoldsDrawing (reading_value sources convert.pieces) source t × (bytes ≡ tree_drawing (reading_look sources convert.drawing.pieces) t)
changed_text sources source convert bytes same made =
    let u : Tree = made.0 in
    let t : Tree = made.1.whole in
    let part : made.1.part ≡ t = subst (λ keep. IsKept keep t made.1.part) same.whole made.1.kept in
    let order : u ≡ made.1.part = subst (λ (b : Bool). IsSortedIf b made.1.part u) same.unsorted made.1.sorted in
    let value : ConfigValue = drawing_value sources convert.drawing in
    let drawn : IsTreeDrawing value false u bytes = subst (λ (b : Bool). IsTreeDrawing value b u bytes) same.unescaped made.2 in
    let of_t : IsDrawing (look_by value Unknown false) (shape_of_tree t) value.depth bytes = subst (λ (w : Tree). IsTreeDrawing value false w bytes) (order ∙ part) drawn in
    let low : height t.children ≤ value.depth = omega (arith, same.deep, (held_text sources convert.pieces source t made.1.read).0) in
    (t, made.1.read, (drawing_of_tree (look_by value Unknown false) value.depth t bytes low).0 of_t ∙ ap (λ (look : Look). tree_drawing look t) (same_look sources convert.drawing same.unescaped same.plain))

-- a conversion there and one back make the same text again
pub converts_back : {A : Type 0} (sources : Sources) (source : Source) (back : Convert) (old new : Option (List ℕ)) (r : Result A Failure) → Converts sources source back old new r → ConvertsBack sources source back old new r
converts_back sources source back old new (Err e) h = λ first there same_there same_back from to readable made. tt
converts_back sources source back old new (Ok x) h = λ first there same_there same_back from to readable made.
    let made_there = changed_text sources first there (string_bytes source.text) same_there made in
    let made_back = changed_text sources source back h.0 same_back h.1 in
    let t : Tree = made_there.0 in
    let u : Tree = made_back.0 in
    let text : List ℕ = string_bytes source.text in
    let held = held_text sources there.pieces first t made_there.1 in
    let look : Look = reading_look sources back.pieces in
    let depth : ℕ = (reading_value sources back.pieces).depth in
    let low : height t.children ≤ depth = omega (arith, held.0, reading_depth sources back.pieces) in
    let drawn : text ≡ tree_drawing look t = made_there.2 ∙ ap (λ (p : Option Pieces). tree_drawing (reading_look sources p) t) (sym from) in
    let form : IsDrawnForm look depth text t = record { drawn = (drawing_of_tree look depth t text low).1 drawn; within = low } in
    let same : u ≡ t = same_drawn_form look depth readable text u t made_back.1.form form in
    let again : h.0 ≡ string_bytes first.text =
    made_back.2 ∙ ap (λ (w : Tree). tree_drawing (reading_look sources back.drawing.pieces) w) same ∙ ap (λ (p : Option Pieces). tree_drawing (reading_look sources p) t) to ∙ sym held.1 in
    subst (λ (bytes : List ℕ). Appends old new bytes) again h.2
