-- The items of an outline as steps: which of them are last children, and which are drawn down to a depth.
use Rattle.std.specs.Prelude.{◌≡◌, ◌<◌, ◌≤◌, ◌⊎◌, ℕ, suc, Bool, false, not, nat_lt, nat_eq, if◌then◌else◌, List, [], ◌∷◌, map, get_or}
use Rattle.ptree.specs.Drawing.{Look}
use Rattle.ptree.specs.GivenItems.{GivenItem, given_text, path_with}
use Rattle.ptree_c.specs.Fields.{is_set}
use Rattle.ptree_c.specs.Refusals.{IsTextBetween, IsTextFault}
use Rattle.ptree_c.specs.Steps.{step_own}
use Rattle.ptree_c.specs.declared.items.Item.{Item}
use Rattle.ptree_c.specs.declared.refusal.Refusal.{Refusal}
use Rattle.ptree_c.specs.declared.refusal.Refusal.TheVariants.{Memory, Level}
use Rattle.ptree_c.specs.declared.steps.Step.{Step}

-- an item at level n above these items has a later sibling among them: the first that is not deeper than n is at level n
abbrev pub has_later_item : List Item → ℕ → Bool
has_later_item [] n = false
has_later_item (i ∷ items) n = if nat_lt n i.level then has_later_item items n else nat_eq n i.level

-- the flags say of each level whether an item there has a later sibling among the items
abbrev pub AreLater : List ℕ → List Item → Type 0
AreLater later items = (n : ℕ) → is_set (get_or later n 0) ≡ has_later_item items n

-- the flags say of each item whether it is its parent's last child
abbrev pub AreLastFlags : List Item → List ℕ → Type 0
AreLastFlags [] [] = Unit {0}
AreLastFlags [] (f ∷ flags) = ⊥
AreLastFlags (i ∷ items) [] = ⊥
AreLastFlags (i ∷ items) (f ∷ flags) = (is_set f ≡ not (has_later_item items i.level)) × AreLastFlags items flags

-- below an item of level previous, each item has at least level 1, at most one level more than the item before it, and at most this level
abbrev pub StepsDown : ℕ → ℕ → List Item → Type 0
StepsDown deepest previous [] = Unit {0}
StepsDown deepest previous (i ∷ items) = (0 < i.level) × (i.level ≤ suc previous) × (i.level ≤ deepest) × StepsDown deepest i.level items

-- the items are those of a tree, and none is at a deeper level
abbrev pub AreItems : ℕ → List Item → Type 0
AreItems deepest [] = ⊥
AreItems deepest (i ∷ items) = (i.level ≡ 0) × StepsDown deepest 0 items

-- an item has a text and a level that it can have after another one
abbrev pub IsRightAfter : List ℕ → Item → Item → Type 0
IsRightAfter texts before i = IsTextBetween texts before.end i.end × (0 < i.level) × (i.level ≤ suc before.level)

-- why the item at a place is none that can be there
abbrev pub IsWrongAfter : List ℕ → Item → ℕ → Item → Refusal → Type 0
IsWrongAfter texts before place i e = IsTextFault texts before.end i.end place e ⊎ ((e ≡ Level place) × ((i.level ≡ 0) ⊎ (suc before.level < i.level)))

-- each item is right after the one before it
abbrev pub AreRightAfter : List ℕ → Item → List Item → Type 0
AreRightAfter texts before [] = Unit {0}
AreRightAfter texts before (i ∷ items) = IsRightAfter texts before i × AreRightAfter texts i items

-- why the first of the items that is wrong is so, where the first of all has this place
abbrev pub IsFirstWrongAfter : List ℕ → Item → ℕ → List Item → Refusal → Type 0
IsFirstWrongAfter texts before place [] e = ⊥
IsFirstWrongAfter texts before place (i ∷ items) e = IsWrongAfter texts before place i e ⊎ (IsRightAfter texts before i × IsFirstWrongAfter texts i (suc place) items e)

-- the items and their texts are those of an outline: a root, and items that are right after one another
abbrev pub AreRight : List ℕ → List Item → Type 0
AreRight texts [] = ⊥
AreRight texts (i ∷ items) = (i.level ≡ 0) × IsTextBetween texts 0 i.end × AreRightAfter texts i items

-- why the first item that is wrong is so; no items lack a root
abbrev pub IsFirstWrong : List ℕ → List Item → Refusal → Type 0
IsFirstWrong texts [] e = e ≡ Level 0
IsFirstWrong texts (i ∷ items) e =
    ((e ≡ Level 0) × (0 < i.level)) ⊎ ((i.level ≡ 0) × IsTextFault texts 0 i.end 0 e)
    ⊎ ((i.level ≡ 0) × IsTextBetween texts 0 i.end × IsFirstWrongAfter texts i 1 items e)

-- why items are not drawn: memory ran out, or one is wrong
abbrev pub IsItemsRefusal : List ℕ → List Item → Refusal → Type 0
IsItemsRefusal texts items e = (e ≡ Memory) ⊎ IsFirstWrong texts items e

-- an item whose text begins at place from
abbrev pub step_of : ℕ → Item → ℕ → Step
step_of from i last = record { text = record { start = from; end = i.end }; level = i.level; is_last = last }

-- an item before others, unless it is deeper than a depth
abbrev pub kept_before : ℕ → Step → List Step → List Step
kept_before depth s steps = if nat_lt depth s.level then steps else s ∷ steps

-- the path behind an item, unless it is deeper than a depth
abbrev pub kept_path : ℕ → List Bool → Step → List Bool
kept_path depth path s =
    if nat_lt depth s.level then path else path_with path s.level (is_set s.is_last)

-- a step as an item that is given
abbrev pub given_of : Look → List ℕ → Step → GivenItem
given_of look texts s =
    record { level = s.level; last = is_set s.is_last; own = step_own look texts s }

-- the entries of steps, joined, where the first one comes behind an item with this path
abbrev pub drawn_text : Look → List ℕ → List Bool → List Step → List ℕ
drawn_text look texts path steps = given_text look path (map (given_of look texts) steps)

-- the items that are drawn down to a depth, each with its flag, where the first one's text begins at place from
abbrev pub steps_from : ℕ → ℕ → List Item → List ℕ → List Step
steps_from depth from [] flags = []
steps_from depth from (i ∷ items) [] = []
steps_from depth from (i ∷ items) (f ∷ flags) = kept_before depth (step_of from i f) (steps_from depth i.end items flags)
