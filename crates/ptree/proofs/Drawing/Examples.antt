-- Examples, by computation.
use Rattle.std.proofs.Common.{◌≡◌, ℕ, true, List, [], ◌∷◌, ◌++◌, refl, ap, ◌∙◌, subst, arith}
use Rattle.std.proofs.lemmas.Fmt.{decimal_digit}
use Rattle.ptree.specs.Characters.{utf}
use Rattle.ptree.specs.Drawing.{Look, look_from, with_inserted, IsDrawing}
use Rattle.std.specs.List.{concat}
use Rattle.ptree.specs.Entries.{drawn_entries}
use Rattle.ptree.specs.Pieces.{pieces_from}
use Rattle.ptree.specs.Style.{plain_value, style_codes, start_codes}
use Rattle.ptree.specs.Tree.{none, item, tree, shape_of_tree}
use Rattle.ptree.proofs.Drawing.Join.{drawn_is_drawing}

-- the default look, unstyled, with a colon and a space as marker
abbrev plain_look : Look
plain_look = look_from plain_value plain_value (pieces_from utf 3 1) (58 ∷ 32 ∷ [])

-- the default look, styled, with bold leaves
abbrev styled_look : Look
styled_look = look_from (record plain_value { dimmed = true }) (record plain_value { bold = true }) (pieces_from utf 3 1) (58 ∷ 32 ∷ [])

-- a, line feed, b
abbrev a_b : List ℕ
a_b = 97 ∷ 10 ∷ 98 ∷ []

-- r [a\nb, c]
two : concat (drawn_entries plain_look 9 (shape_of_tree (tree (114 ∷ []) (item a_b none (item (99 ∷ []) none none)))))
    ≡ 114 ∷ 10 ∷ 226 ∷ 148 ∷ 156 ∷ 226 ∷ 148 ∷ 128 ∷ 32 ∷ 97 ∷ 10 ∷ 226 ∷ 148 ∷ 130 ∷ 32 ∷ 32 ∷ 58 ∷ 32 ∷ 98 ∷ 10 ∷ 226 ∷ 148 ∷ 148 ∷ 226 ∷ 148 ∷ 128 ∷ 32 ∷ 99 ∷ 10 ∷ []
unfolding style_codes
two = refl

-- r [a\nb]
one : concat (drawn_entries plain_look 9 (shape_of_tree (tree (114 ∷ []) (item a_b none none))))
    ≡ 114 ∷ 10 ∷ 226 ∷ 148 ∷ 148 ∷ 226 ∷ 148 ∷ 128 ∷ 32 ∷ 97 ∷ 10 ∷ 32 ∷ 32 ∷ 32 ∷ 58 ∷ 32 ∷ 98 ∷ 10 ∷ []
unfolding style_codes
one = refl

-- the root r\ns
root : concat (drawn_entries plain_look 9 (shape_of_tree (tree (114 ∷ 10 ∷ 115 ∷ []) none))) ≡ 114 ∷ 10 ∷ 58 ∷ 32 ∷ 115 ∷ 10 ∷ []
unfolding style_codes
root = refl

-- a root whose text is one line feed
feed : concat (drawn_entries plain_look 9 (shape_of_tree (tree (10 ∷ []) none))) ≡ 10 ∷ 58 ∷ 32 ∷ 10 ∷ []
unfolding style_codes
feed = refl

-- r [a\n]
open_end : concat (drawn_entries plain_look 9 (shape_of_tree (tree (114 ∷ []) (item (97 ∷ 10 ∷ []) none none))))
    ≡ 114 ∷ 10 ∷ 226 ∷ 148 ∷ 148 ∷ 226 ∷ 148 ∷ 128 ∷ 32 ∷ 97 ∷ 10 ∷ 32 ∷ 32 ∷ 32 ∷ 58 ∷ 32 ∷ 10 ∷ []
unfolding style_codes
open_end = refl

-- the code of dimmed text
dimmed_start : start_codes (record plain_value { dimmed = true }) ≡ 27 ∷ 91 ∷ 50 ∷ 109 ∷ []
unfolding style_codes
dimmed_start = ap (λ d. (27 ∷ 91 ∷ d ++ 109 ∷ []) ++ []) (decimal_digit 2 (omega arith))

-- the code of bold text
bold_start : start_codes (record plain_value { bold = true }) ≡ 27 ∷ 91 ∷ 49 ∷ 109 ∷ []
unfolding style_codes
bold_start = ap (λ d. (27 ∷ 91 ∷ d ++ 109 ∷ []) ++ []) (decimal_digit 1 (omega arith))

-- the root r\ns, given the start codes
abbrev styled_root : List ℕ → List ℕ → List ℕ
styled_root branch leaf =
    let reset : List ℕ = 27 ∷ 91 ∷ 48 ∷ 109 ∷ [] in
    ((branch ++ [] ++ reset) ++ with_inserted (branch ++ (58 ∷ 32 ∷ []) ++ reset) (leaf ++ (114 ∷ 10 ∷ 115 ∷ []) ++ reset) ++ 10 ∷ []) ++ []

-- ESC[2m ESC[0m ESC[1m r \n ESC[2m : space ESC[0m s ESC[0m \n
styled : concat (drawn_entries styled_look 9 (shape_of_tree (tree (114 ∷ 10 ∷ 115 ∷ []) none)))
    ≡ 27 ∷ 91 ∷ 50 ∷ 109 ∷ 27 ∷ 91 ∷ 48 ∷ 109 ∷ 27 ∷ 91 ∷ 49 ∷ 109 ∷ 114 ∷ 10 ∷ 27 ∷ 91 ∷ 50 ∷ 109 ∷ 58 ∷ 32 ∷ 27 ∷ 91 ∷ 48 ∷ 109 ∷ 115 ∷ 27 ∷ 91 ∷ 48 ∷ 109 ∷ 10 ∷ []
unfolding style_codes
styled = ap (λ z. styled_root z (start_codes (record plain_value { bold = true }))) dimmed_start ∙ ap (λ z. styled_root (27 ∷ 91 ∷ 50 ∷ 109 ∷ []) z) bold_start

-- the same drawing, by addresses
by_addresses : IsDrawing plain_look (shape_of_tree (tree (114 ∷ 10 ∷ 115 ∷ []) none)) 9 (114 ∷ 10 ∷ 58 ∷ 32 ∷ 115 ∷ 10 ∷ [])
by_addresses = subst (λ (z : List ℕ). IsDrawing plain_look (shape_of_tree (tree (114 ∷ 10 ∷ 115 ∷ []) none)) 9 z) root (drawn_is_drawing plain_look 9 (shape_of_tree (tree (114 ∷ 10 ∷ 115 ∷ []) none)))
