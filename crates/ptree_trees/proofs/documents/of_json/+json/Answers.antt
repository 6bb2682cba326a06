use Rattle.std.proofs.Common.{[], refl, subst, sym}
use Rattle.std.proofs.IntoIterSteps.{All-taken}
use Rattle.serde_json.specs.View.{items_view, members_view}
use Rattle.ptree_trees.specs.WrittenDocument.{AreJsonElements, AreJsonMembers}
use Rattle.ptree_trees.proofs.WrittenTrees.{all_trees}
use Rattle.ptree_trees.proofs.documents.of_json.+json.Goals as goal

pub json_elements-returns : goal.json_elements-returns
json_elements-returns t c =
    let none = sym (All-taken c.loop-item.item-iterator [] (c.next.new.self, (c.loop-item.item-iterator, refl, c.in-None.ensures.steps))) in
    all_trees AreJsonElements _ _ _ c.loop-item.invariant.2 (subst (λ vs. AreJsonElements (items_view vs) []) (sym none) refl)

pub json_members-returns : goal.json_members-returns
json_members-returns t c = all_trees AreJsonMembers _ _ _ c.loop-key.invariant.2 (subst (λ z. AreJsonMembers (members_view z) []) (sym c.in-None.ensures.steps.0) refl)
