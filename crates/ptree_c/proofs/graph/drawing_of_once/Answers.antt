use Rattle.std.proofs.Common.{◌≡◌, ◌∙◌, ℕ, List, [], ◌++◌, Some, Ok, ap, sym, subst, Vec, Global}
use Rattle.std.specs.Prelude.{string_bytes}
use Rattle.ptree.specs.declared.sink.DrawError.{DrawError}
use Rattle.ptree.specs.Counted.{inner_of}
use Rattle.ptree.specs.Drawing.{Look, IsDrawing, written_look}
use Rattle.ptree.specs.Occurrence.{occurrence_shape}
use Rattle.ptree.specs.Shape.{Shape}
use Rattle.ptree.specs.Writing.{IsDrawn}
use Rattle.ptree_c.proofs.graph.drawing_of_once.Goals as goal

-- what a success leaves in memory that was empty
drawn : {A : Type 0} (look : Look) (shape : Shape) (depth : ℕ) (old new got : List ℕ) (x : A) → old ≡ [] → got ≡ new → IsDrawn {E = DrawError} look shape depth (Some old) (Some new) (Ok x)
    → IsDrawing look shape depth got
drawn look shape depth old new got x e f h = subst (IsDrawing look shape depth) (sym (f ∙ (h.2 ∙ ap (λ z. z ++ h.0) e))) h.1

pub returns-in-Ok : goal.returns-in-Ok
returns-in-Ok c =
    let one = c.in-Ok.ensures.one_tree in
    let empty : (inner_of c.new-out.result).items ≡ [] = ap (λ (v : Vec ℕ Global). v.items) c.new-out.ensures.inner ∙ c.new.ensures.items in
    let got : c.into_inner.result.items ≡ (inner_of c.write_graph_once_with.new.f).items = ap (λ (v : Vec ℕ Global). v.items) c.into_inner.ensures in (
      one.0,
      one.1,
      drawn {A = Unit {0}} (written_look c.args.config.now) (occurrence_shape string_bytes c.args.graph.now c.args.mark.now one.0) c.args.config.now.depth _ _ _ c.in-Ok.field-0 empty got
          (c.in-Ok.ensures.bytes one.0 one.1),
    )
