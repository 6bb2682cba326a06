use Rattle.std.proofs.Common.{rules, ◌≡◌, ◌⊎◌, inl, inr, [], ◌∷◌, Option, Some, None, option_map, ap, sym, refl, subst}
use Rattle.toml.specs.Data as t
use Rattle.toml.specs.View.{view}
use Rattle.toml.specs.declared.value.Value.{Float, the_lemmas}
use Rattle.ptree_trees.specs.RefusedPath.{Path, path_of, IsPathBefore, IsFirstFloatOrDate}
use Rattle.examples.proofs.documenting.of_float.Goals as goal

-- no path comes before the empty one
at_top : (p : Path) → ([] ≡ p) ⊎ IsPathBefore p [] → p ≡ []
at_top p (inl e) = sym e
at_top [] (inr h) = refl
at_top (s ∷ p) (inr h) = absurd h

-- the first path in a float is the empty one
first_in_float : (d : t.Data) (x : _) (o : Option Path) → d ≡ t.float x → IsFirstFloatOrDate d o → o ≡ Some []
first_in_float d x o e h = by_path o (subst (λ d. IsFirstFloatOrDate d o) e h)
  where
    by_path : (o : Option Path) → IsFirstFloatOrDate (t.float x) o → o ≡ Some []
    by_path None none = absurd (none [] tt)
    by_path (Some p) first = ap Some (at_top p (first.1 [] tt))

pub returns : goal.returns
returns c =
    let e : view (Float c.args.x) ≡ t.float c.args.x = search (rules, the_lemmas) in
    first_in_float _ c.args.x (option_map path_of c.in_ok-path.path) e c.in_ok-path.ensures
