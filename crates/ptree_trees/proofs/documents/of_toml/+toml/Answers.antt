use Rattle.std.proofs.Common.{[], refl, subst, sym}
use Rattle.std.proofs.IntoIterSteps.{All-taken}
use Rattle.toml.specs.View.{items_view, members_view}
use Rattle.ptree_trees.specs.WrittenDocument.{AreTomlElements, AreTomlMembers}
use Rattle.ptree_trees.proofs.WrittenTrees.{all_trees}
use Rattle.ptree_trees.proofs.documents.of_toml.+toml.Goals as goal

pub toml_elements-returns : goal.toml_elements-returns
toml_elements-returns t c =
    let none = sym (All-taken c.loop-item.item-iterator [] (c.next.new.self, (c.loop-item.item-iterator, refl, c.in-None.ensures.steps))) in
    all_trees AreTomlElements _ _ _ c.loop-item.invariant.2 (subst (λ vs. AreTomlElements (items_view vs) []) (sym none) refl)

pub toml_members-returns : goal.toml_members-returns
toml_members-returns t c = all_trees AreTomlMembers _ _ _ c.loop-key.invariant.2 (subst (λ z. AreTomlMembers (members_view z) []) (sym c.in-None.ensures.steps.0) refl)
