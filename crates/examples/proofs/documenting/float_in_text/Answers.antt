use Rattle.std.proofs.Common.{◌≡◌, Option, Some, None, option_map, refl, subst}
use Rattle.serde_json.specs.Data.{Data}
use Rattle.serde_json.specs.Read.{read}
use Rattle.ptree_trees.specs.RefusedPath.{Path, path_of, LeadsTo, json_at_step, IsFloat, IsFirstFloat, IsPathIn}
use Rattle.examples.proofs.documenting.float_in_text.Goals as goal

-- a path in what was read leads to a float there
in_document : (d : Option Data) (p : Path) → IsPathIn IsFirstFloat d (Some p) → (e : Data) × (d ≡ Some e) × LeadsTo json_at_step IsFloat e p
in_document None p h = absurd (cc)
in_document (Some d) p h = (d, refl, h.0)

pub returns-in-Some : goal.returns-in-Some
returns-in-Some c =
    in_document (read c.args.text.now) (path_of c.in-Some.path) (subst (λ o. IsPathIn IsFirstFloat (read c.args.text.now) (option_map path_of o)) c.in-Some.is c.in_ok-path.ensures)
