-- Calls that draw.
use Rattle.std.specs.Prelude.{IsErrAnd}
use Rattle.std.proofs.Common.{◌≡◌, ℕ, List, Option, Result, Err, subst}
use Rattle.std.proofs.KnownBytes.{Appends-nil}
use Rattle.std.specs.Io.KnownBytes.{Appends}
use Rattle.std.specs.List.{concat}
use Rattle.ptree.specs.declared.sink.DrawError.{DrawError}
use Rattle.ptree.specs.declared.sink.DrawError.TheVariants.{Memory}
use Rattle.ptree.specs.Drawing.{Look}
use Rattle.ptree.specs.Entries.{drawn_entries}
use Rattle.ptree.specs.Shape.{Shape, kids}
use Rattle.ptree.specs.Writing.{AppendsFirst, IsDrawn, IsWritten, LeavesWholeEntries}
use Rattle.ptree.proofs.Drawing.Addresses.{walk, walk_is_list}
use Rattle.ptree.proofs.Drawing.Engine.{nothing_yet}
use Rattle.ptree.proofs.Drawing.Join.{drawn_is_drawing, join_first}
use Rattle.ptree.proofs.Sinks.Written.{written_err}

-- a call that fails before the first byte
pub drawn_nothing : {A E : Type 0} (Q : E → Type 0) (look : Look) (x : Shape) (depth : ℕ) (a : Option (List ℕ)) (r : Result A E) → IsErrAnd r Q → IsDrawn look x depth a a r
drawn_nothing Q look x depth a r h =
    let all = concat (drawn_entries look depth x) in (all, drawn_is_drawing look depth x, written_err Q a a r all h (nothing_yet a all))

-- the first entries by recursion are those of the first addresses
pub whole_entries : {A : Type 0} (look : Look) (x : Shape) (depth : ℕ) (a b : Option (List ℕ)) (r : Result A DrawError) → (r ≡ Err Memory → AppendsFirst a b (drawn_entries look depth x)) → LeavesWholeEntries look x depth a b r
whole_entries look x depth a b r h = λ m.
    let w = h m in (walk kids depth x, w.0, walk_is_list kids depth x, subst (λ (z : List ℕ). Appends a b z) (join_first look depth w.0 x) w.1)

-- what is written of all entries under a look is the drawing under an equal one
pub drawn_under : {A E : Type 0} (look other : Look) (x : Shape) (depth : ℕ) (a b : Option (List ℕ)) (r : Result A E) → look ≡ other
    → IsWritten a b r (concat (drawn_entries look depth x)) → IsDrawn other x depth a b r
drawn_under look other x depth a b r same h =
    subst (λ (l : Look). IsDrawn l x depth a b r) same (concat (drawn_entries look depth x), drawn_is_drawing look depth x, h)

-- the first entries under a look are those under an equal one
pub whole_under : {A : Type 0} (look other : Look) (x : Shape) (depth : ℕ) (a b : Option (List ℕ)) (r : Result A DrawError) → look ≡ other
    → (r ≡ Err Memory → AppendsFirst a b (drawn_entries look depth x)) → LeavesWholeEntries other x depth a b r
whole_under look other x depth a b r same h = subst (λ (l : Look). LeavesWholeEntries l x depth a b r) same (whole_entries look x depth a b r h)

-- if nothing was drawn, the first entries were, namely none
pub whole_nothing : {A : Type 0} (look : Look) (x : Shape) (depth : ℕ) (a : Option (List ℕ)) (r : Result A DrawError) → LeavesWholeEntries look x depth a a r
whole_nothing look x depth a r = whole_entries look x depth a a r (λ m. (0, Appends-nil a))
