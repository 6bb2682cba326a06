use Rattle.std.proofs.Common.{◌≡◌, ℕ, ◌+◌, ◌≤◌, List, [], ◌∷◌, ◌++◌, arith, map, refl}
use Rattle.std.proofs.lemmas.List.{map-append}
use Rattle.ptree.specs.Outline.{Steps, last_level}
use Rattle.ptree.specs.PartialTree.{text_line}
use Rattle.ptree.specs.declared.builder.TextLine.{TextLine}
use Rattle.ptree.proofs.Trees.Steps.{Steps-push, last_level-push}
use Rattle.std.proofs.lemmas.Grind.{common_steps}
use Rattle.ptree.proofs.builder.TreeBuilder.add_line.Goals as goal

-- lines and another one below an item at the level n, of which an item at the level m is the current one
child_added : (old lines : List TextLine) (added : TextLine) (n m : ℕ) → lines ≡ old ++ added ∷ [] → Steps 0 (map text_line old) → n ≤ last_level 0 (map text_line old)
    → added.level ≡ n + 1 → m ≤ n + 1 → Steps 0 (map text_line lines) × (m ≤ last_level 0 (map text_line lines))
child_added old lines added n m is steps low below within =
    rw (is, map-append)
    (Steps-push 0 (map text_line old) (text_line added) steps (omega (arith, below)) (omega (arith, below, low)), rw last_level-push (omega (arith, below, within)))

pub invariant_of-self-then-is_begun : goal.invariant_of-self-then-is_begun
invariant_of-self-then-is_begun c =
    child_added c.self.inside.lines.items _ _ c.self.inside.level _ c.in_ok-push.ensures.items c.self.invariant.0 c.self.invariant.1 refl (omega arith)

pub invariant_of-self-else-is_begun : goal.invariant_of-self-else-is_begun
invariant_of-self-else-is_begun c =
    child_added c.self.inside.lines.items _ _ c.self.inside.level _ c.in_ok-push.ensures.items c.self.invariant.0 c.self.invariant.1 refl (omega arith)

pub returns-then-is_begun-clause-outline : goal.returns-then-is_begun-clause-outline
returns-then-is_begun-clause-outline c = grind (arith, common_steps)

pub returns-else-is_begun-clause-outline : goal.returns-else-is_begun-clause-outline
returns-else-is_begun-clause-outline c = grind (arith, common_steps)
