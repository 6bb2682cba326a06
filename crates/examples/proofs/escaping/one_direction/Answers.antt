use Rattle.std.proofs.Common.{◌≡◌, ℕ, Bool, true, false, ◌||◌, List, [], ◌∷◌, refl, string_bytes}
use Rattle.std.proofs.lemmas.Result.{IfOk-weaker}
use Rattle.std.specs.Char.{is_control}
use Rattle.std.specs.Str.{NonePass, NoCharPasses}
use Rattle.ptree_trees.specs.Escape.{is_hidden, turns_text, separates_lines}
use Rattle.examples.proofs.escaping.one_direction.Goals as goal

-- the middle of three tests that all fail
middle : (a b d : Bool) → ((a || b) || d) ≡ false → b ≡ false
middle a false d h = refl
middle true true d h = h
middle false true d h = h

-- characters of which none is hidden
turns_none : (cs : List ℕ) → NonePass is_hidden cs → NonePass turns_text cs
turns_none [] h = tt
turns_none (c ∷ cs) h = (middle (is_control c) (turns_text c) (separates_lines c) h.0, turns_none cs h.1)

pub returns : goal.returns
returns c = IfOk-weaker c.escaped.result _ (λ s. NoCharPasses turns_text (string_bytes s)) (λ s h. (h.0, h.1, turns_none h.0 h.2)) c.escaped.ensures.shown
