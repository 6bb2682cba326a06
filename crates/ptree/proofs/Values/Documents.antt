-- Documents that are refused, and those that are drawn.
use Rattle.std.specs.Prelude.{IsErrAnd, IfOk, IsErrOf}
use Rattle.std.proofs.Common.{◌≡◌, refl, subst, ℕ, List, Option, Result, Ok, Err}
use Rattle.ptree.specs.declared.sink.DrawError.{DrawError}
use Rattle.ptree.specs.declared.sink.DrawError.TheVariants.{Memory}
use Rattle.ptree.specs.declared.value.document.DocError.{DocError}
use Rattle.ptree.specs.declared.value.document.DocError.TheVariants.{Draw}
use Rattle.ptree.specs.Data.{Data, Pair, pair_shape}
use Rattle.ptree.specs.Drawing.{Look}
use Rattle.ptree.specs.Writing.{IsDrawn, AppendsWholeEntries, LeavesWholeEntries}
use Rattle.ptree.proofs.Drawing.Drawn.{drawn_nothing, whole_nothing}
use Rattle.ptree.proofs.Sinks.Written.{written_err}

-- if nothing was drawn, a prefix of the drawing was
pub nothing_drawn : {A E F : Type 0} (Q : E → Type 0) (document : Result Data F) (look : Look) (label : List ℕ) (depth : ℕ) (a : Option (List ℕ)) (r : Result A E) → IsErrAnd r Q
    → IfOk document (λ v. IsDrawn look (pair_shape (label, v)) depth a a r)
nothing_drawn Q (Ok v) look label depth a r h = drawn_nothing Q look (pair_shape (label, v)) depth a r h
nothing_drawn Q (Err e) look label depth a r h = tt

-- if nothing was drawn, the first entries were, namely none
pub no_entries : {F : Type 0} (P : Type 0) (document : Result Data F) (look : Look) (label : List ℕ) (depth : ℕ) (a : Option (List ℕ))
    → IfOk document (λ v. P → AppendsWholeEntries look (pair_shape (label, v)) depth a a)
no_entries P (Ok v) look label depth a = λ h. whole_nothing {A = Unit {0}} look (pair_shape (label, v)) depth a (Err Memory) refl
no_entries P (Err e) look label depth a = tt

module _ {F : Type 0} (document : Result Data F) (v : Data) (look : Look) (label : List ℕ) (p : Pair) (depth : ℕ) (a b : Option (List ℕ)) (is : document ≡ Ok v) (same : p ≡ (label, v)) where
  -- a prefix of the pair's drawing is one of the document's
  pub drawn_err : {A E G : Type 0} (Q : G → Type 0) (e : E) (r : Result A G) → IsErrAnd r Q → IsDrawn {A = Unit {0}} look (pair_shape p) depth a b (Err e) → IfOk document (λ v. IsDrawn look (pair_shape (label, v)) depth a b r)
  drawn_err Q e r h d = rw is (subst (λ q. IsDrawn look (pair_shape q) depth a b r) same (d.0, d.1, written_err Q a b r d.0 h d.2))

  -- whole entries of the pair's drawing are those of the document's
  pub whole_err : {A : Type 0} (e : DrawError) (r : Result A DocError) → IsErrAnd r (λ told. told ≡ Draw e) → LeavesWholeEntries {A = Unit {0}} look (pair_shape p) depth a b (Err e)
      → IfOk document (λ v. IsErrOf r (Draw Memory) → AppendsWholeEntries look (pair_shape (label, v)) depth a b)
  whole_err e (Ok x) h d = absurd h
  whole_err e (Err told) h d = rw is (λ k. subst (λ q. AppendsWholeEntries look (pair_shape q) depth a b) same (d (cc (h, k))))
