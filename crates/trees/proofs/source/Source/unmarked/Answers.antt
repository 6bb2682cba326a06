use Rattle.std.proofs.Common.{◌≡◌, ◌∙◌, ◌∷◌, sym, ap, rules}
use Rattle.trees.specs.Listing.{unmarked}
use Rattle.trees.proofs.Listings.{unmarked_bare}
use Rattle.trees.proofs.source.Source.unmarked.Goals as goal

pub returns-in-Some : goal.returns-in-Some
returns-in-Some c =
    let begins : c.as_str-text.result.now ≡ 239 ∷ 187 ∷ 191 ∷ c.in-Some.rest.now = search rules in
    ap unmarked (sym begins ∙ c.as_str-text.ensures.value)

pub returns-in-None : goal.returns-in-None
returns-in-None c = unmarked_bare c.as_str-text.result.now c.in-None.ensures ∙ ap unmarked c.as_str-text.ensures.value
