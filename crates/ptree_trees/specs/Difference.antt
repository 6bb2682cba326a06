-- The first difference of two trees.
use Rattle.std.specs.Prelude.{◌≡◌, ◌≢◌, List, [], ◌∷◌, map, ℕ, Option, MatchOption, option_map, slice_get, unwrap_or}
use Rattle.ptree.specs.Address.{Address, at, Before}
use Rattle.ptree.specs.Drawing.{Look}
use Rattle.ptree.specs.DrawnForm.{IsDrawnForm}
use Rattle.ptree.specs.ReadItems.{read_text_of}
use Rattle.ptree.specs.Scanned.{IsError}
use Rattle.ptree.specs.Tree.{Tree, tree_kids, tree_of}
use Rattle.ptree_trees.specs.declared.difference.Difference.{Difference}
use Rattle.ptree_trees.specs.declared.difference.DrawingsError.{DrawingsError}
use Rattle.ptree_trees.specs.declared.difference.DrawingsError.TheVariants.{Left, Right}
use Rattle.ptree_trees.specs.declared.difference.ItemDifference.{ItemDifference}

-- the text at an address of a tree, if an item stands there
abbrev pub text_at_address : Tree → Address → Option (List ℕ)
text_at_address t a = option_map (λ y. y.text) (at tree_kids t a)

-- what stands at the address is not the same in both trees: another text, or nothing in one of them
abbrev pub DifferAt : Tree → Tree → Address → Type 0
DifferAt t u a = text_at_address t a ≢ text_at_address u a

-- at each address before this one, the same stands in both trees
abbrev pub AreSameBefore : Tree → Tree → Address → Type 0
AreSameBefore t u a = (b : Address) → Before b a → text_at_address t b ≡ text_at_address u b

-- the items of a difference are what stands at its address in each tree, with all that is below
pub record StandThere (t u : Tree) (d : Difference) : Type 0 where
  pub left : option_map (λ s. tree_of s.now) d.left ≡ at tree_kids t d.address.items
  pub right : option_map (λ s. tree_of s.now) d.right ≡ at tree_kids u d.address.items

-- the texts above an address, from the root on
abbrev pub texts_above : Tree → Address → List (List ℕ)
texts_above t [] = []
texts_above t (i ∷ rest) = t.text ∷ unwrap_or (option_map (λ c. texts_above c rest) (slice_get (tree_kids t) i)) []

-- two trees differ first at this address, with these texts above it and there
pub record IsTextDifference (t u : Tree) (a : Address) (above : List (List ℕ)) (left right : Option (List ℕ)) : Type 0 where
  pub differ : DifferAt t u a
  pub least : AreSameBefore t u a
  pub above_are : above ≡ texts_above t a
  pub left_is : left ≡ text_at_address t a
  pub right_is : right ≡ text_at_address u a

-- such a difference of the trees of two drawings
abbrev pub IsItemDifference : Tree → Tree → ItemDifference → Type 0
IsItemDifference t u d = IsTextDifference t u d.address.items (map read_text_of d.above.items) (option_map read_text_of d.left) (option_map read_text_of d.right)

-- two texts are drawings of equal trees, or of trees with this first difference
abbrev pub AreDrawingsWith : Look → ℕ → List ℕ → List ℕ → Option ItemDifference → Type 0
AreDrawingsWith look depth x y found =
    (t : Tree) × (u : Tree) × IsDrawnForm look depth x t × IsDrawnForm look depth y u × MatchOption found (t ≡ u) (IsItemDifference t u)

-- the left text has this error; or it is a drawing, and the right one has it
abbrev pub IsErrorOf : Look → ℕ → List ℕ → List ℕ → DrawingsError → Type 0
IsErrorOf look depth x y (Left e) = IsError look depth x e
IsErrorOf look depth x y (Right e) = ((t : Tree) × IsDrawnForm look depth x t) × IsError look depth y e
