-- The configuration of a number.
use Rattle.std.proofs.Common.{◌≡◌, ℕ, suc, ◌<◌, List, ◌∷◌, map, length, get_or, sym, ap, ◌∙◌}
use Rattle.std.proofs.lemmas.List.{get_or-map}
use Rattle.ptree.specs.Config.{ConfigValue}
use Rattle.ptree.specs.Preset.{preset_of}
use Rattle.ptree.specs.declared.presets.Preset.{Preset}

-- behind the first of the list stand the presets
pub numbered_at : (xs : List Preset) (d : ConfigValue) (n m : ℕ) (p : Preset) → n ≡ suc m → m < length xs → p ≡ get_or xs m p → preset_of p ≡ get_or (d ∷ map preset_of xs) n d
numbered_at xs d n m p is h e =
    ap preset_of e ∙ (sym (get_or-map preset_of xs m p d h) ∙ ap (λ k. get_or (d ∷ map preset_of xs) k d) (sym is))
