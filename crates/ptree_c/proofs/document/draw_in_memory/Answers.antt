use Rattle.std.proofs.Common.{◌≡◌, ◌∙◌, ℕ, List, [], ◌++◌, false, Some, Result, Ok, Err, IfOk, IfErr, ap, sym, subst, refl, Vec, Global}
use Rattle.std.specs.Prelude.{IsErrAnd}
use Rattle.ptree.specs.Counted.{inner_of}
use Rattle.ptree.specs.Data.{Data, pair_shape}
use Rattle.ptree.specs.Document.{document, IsRefusal}
use Rattle.ptree.specs.Drawing.{Look, IsDrawing, config_look}
use Rattle.ptree.specs.Writing.{IsDrawn}
use Rattle.ptree.specs.declared.print_config.OutputKind.TheVariants.{Stdout}
use Rattle.ptree.specs.declared.value.document.DocError.{DocError}
use Rattle.ptree_c.proofs.document.draw_in_memory.Goals as goal

-- a success leaves the drawing of a document in memory that was empty
document_drawn : {A : Type 0} (P : Type 0) (read : Result Data DocError) (look : Look) (label : List ℕ) (depth : ℕ) (old new got : List ℕ) (x : A) → old ≡ [] → got ≡ new
    → IfErr read (λ _. IsErrAnd (Ok x) (IsRefusal read) × P) → IfOk read (λ v. IsDrawn {E = DocError} look (pair_shape (label, v)) depth (Some old) (Some new) (Ok x))
    → (v : Data) × (read ≡ Ok v) × IsDrawing look (pair_shape (label, v)) depth got
document_drawn P (Ok v) look label depth old new got x e f refused h =
    (v, refl, subst (IsDrawing look (pair_shape (label, v)) depth) (sym (f ∙ (h.2 ∙ ap (λ z. z ++ h.0) e))) h.1)
document_drawn P (Err error) look label depth old new got x e f refused h = absurd refused.0

pub returns-in-Ok-clause-drawn : goal.returns-in-Ok-clause-drawn
returns-in-Ok-clause-drawn c =
    let empty : (inner_of c.new-out.result).items ≡ [] = ap (λ (v : Vec ℕ Global). v.items) c.new-out.ensures.inner ∙ c.new.ensures.items in
    let got : c.into_inner.result.items ≡ (inner_of c.draw_document_with.new.out).items = ap (λ (v : Vec ℕ Global). v.items) c.into_inner.ensures in
    document_drawn {A = Unit {0}} (c.draw_document_with.new.out ≡ c.new-out.result) (document c.args.format c.args.text.now) (config_look c.args.config.now Stdout false) c.args.label.now
    c.args.config.now.depth _ _ _ c.in-Ok.field-0 empty got c.in-Ok.ensures.refused c.in-Ok.ensures.bytes
