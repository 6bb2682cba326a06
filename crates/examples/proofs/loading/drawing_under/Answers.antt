use Rattle.std.proofs.Common.{◌≡◌, ◌∙◌, ℕ, false, List, [], ◌++◌, Some, Ok, ap, sym, subst, Vec, Global}
use Rattle.ptree.specs.declared.print_config.OutputKind.TheVariants.{Unknown}
use Rattle.ptree.specs.declared.sink.DrawError.{DrawError}
use Rattle.ptree.specs.Counted.{inner_of}
use Rattle.ptree.specs.Drawing.{Look, IsDrawing, look_by}
use Rattle.ptree.specs.Loading.{effective_config}
use Rattle.ptree.specs.Shape.{Shape}
use Rattle.ptree.specs.Writing.{IsDrawn}
use Rattle.examples.proofs.loading.drawing_under.Goals as goal

-- what a success leaves in memory that was empty
drawn : {A : Type 0} (look : Look) (shape : Shape) (depth : ℕ) (old new got : List ℕ) (x : A) → old ≡ [] → got ≡ new → IsDrawn {E = DrawError} look shape depth (Some old) (Some new) (Ok x)
    → IsDrawing look shape depth got
drawn look shape depth old new got x e f h = subst (IsDrawing look shape depth) (sym (f ∙ (h.2 ∙ ap (λ z. z ++ h.0) e))) h.1

pub returns : goal.returns
returns g c =
    let effective = effective_config c.args.sources.now in
    let empty : (inner_of c.new-out.result).items ≡ [] = ap (λ (v : Vec ℕ Global). v.items) c.new-out.ensures.inner ∙ c.new.ensures.items in
    let got : c.into_inner.result.items ≡ (inner_of c.write_tree.new.f).items = ap (λ (v : Vec ℕ Global). v.items) c.into_inner.ensures in
    drawn {A = Unit {0}} (look_by effective Unknown false) (g.T.Shaped.shape c.args.item.now) effective.depth _ _ _ c.in_ok-write_tree.field-0 empty got c.in_ok-write_tree.ensures.bytes
