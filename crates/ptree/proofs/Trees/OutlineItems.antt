-- The items of a tree one by one, each with its level, and the lines of its outline.
use Rattle.std.proofs.Common.{◌≡◌, ℕ, suc, ◌+◌, ◌<◌, List, [], ◌∷◌, map, length, get_or, drop, refl, sym, ap, ◌∙◌, add-one}
use Rattle.std.proofs.Math.Seq.{drop-cons}
use Rattle.std.specs.Borrow.{Bor}
use Rattle.std.specs.Prelude.{string_bytes}
use Rattle.ptree.specs.Outline.{Line, AreItems, outline}
use Rattle.ptree.specs.Tree.{Tree, tree_of}
use Rattle.ptree.specs.declared.item.StringItem.{StringItem, out-StringItem}
use Rattle.ptree.proofs.Trees.ItemTrees.{tree_of_item}
use Rattle.ptree.proofs.Trees.OutlineAddresses.{line_of, lines_by_addresses, outline_of_tree}

-- two maps are one
lines_twice : {A : Type 0} (f : A → ℕ × Tree) (xs : List A) → map (λ a. line_of (f a)) xs ≡ map line_of (map f xs)
lines_twice f [] = refl
lines_twice f (x ∷ xs) = ap (λ z. line_of (f x) ∷ z) (lines_twice f xs)

-- the lines of all items of a tree are its outline
pub lines_of_items : {A : Type 0} (f : A → ℕ × Tree) (xs items : List A) (t : Tree) → xs ≡ items → AreItems t (map f items) → map (λ a. line_of (f a)) xs ≡ outline t
lines_of_items f xs items t e are =
    ap (map (λ a. line_of (f a))) e ∙ (lines_twice f items ∙ (outline_of_tree t (map line_of (map f items))).0 (lines_by_addresses t (map f items) are))

-- the level and the tree of an item
abbrev pub item_tree : ℕ × Bor StringItem → ℕ × Tree
item_tree p = (p.0, tree_of p.1.now)

-- the line of an item
abbrev pub item_line : ℕ × Bor StringItem → Line
item_line p = line_of (item_tree p)

-- its text is the item's
pub item_text : (s : StringItem) → (tree_of s).text ≡ string_bytes (out-StringItem s).text
item_text s = ap (λ (t : Tree). t.text) (tree_of_item s)

-- those that are left, and the first of them
pub left_more : {A B : Type 0} (g : A → B) (xs : List A) (i : ℕ) (x : A) → i < length xs → x ≡ get_or xs i x → map g (drop i xs) ≡ g x ∷ map g (drop (i + 1) xs)
left_more g xs i x h e =
    ap (map g) (drop-cons xs i x h) ∙ (ap (λ y. g y ∷ map g (drop (suc i) xs)) (sym e) ∙ ap (λ n. g x ∷ map g (drop n xs)) (sym (add-one i)))
