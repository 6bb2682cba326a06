-- A drawing of UTF-8 texts is UTF-8.
use Rattle.std.specs.Prelude.{All}
use Rattle.std.specs.Str.{IsUtf8}
use Rattle.std.proofs.Common.{ℕ, ◌+◌, ◌<◌, List, [], ◌∷◌, ◌++◌, length, map, get_or, inl, inr, sym, ap, ◌∙◌, subst, append_assoc, arith, length-append}
use Rattle.std.proofs.Math.Seq.{take-append_seam, drop-append-add, get_or-append_seam}
use Rattle.std.proofs.lemmas.List.Elements.{All-nil, All-cons}
use Rattle.std.proofs.lemmas.Str.{IsUtf8-append, IsUtf8-nil, IsUtf8-from_ascii, IsUtf8-string_bytes, IsUtf8-take, IsUtf8-drop, IsCharBoundary-before_ascii, IsCharBoundary-after_ascii}
use Rattle.std.proofs.lemmas.Str.Ascii.{IsAscii-from_all}
use Rattle.ptree.specs.declared.item.StringItem.{StringItem, out-StringItem}
use Rattle.ptree.specs.declared.print_config.PrintConfig.{PrintConfig}
use Rattle.ptree.specs.Characters.{characters_of}
use Rattle.ptree.specs.Drawing.{Look, written_look, passing_text, with_inserted, own_at, IsDrawing}
use Rattle.ptree.specs.Item.{text_own, text_shape}
use Rattle.ptree.specs.Shape.{Shape}
use Rattle.ptree.specs.Style.{StyleValue, painted_text, start_codes, end_codes, style_codes, reset_after}
use Rattle.ptree.specs.Tree.{tree_of, tree_own, tree_kids, shape_of_tree}
use Rattle.ptree.specs.Utf8.{HasUtf8Texts}
use Rattle.ptree.proofs.Drawing.Inserted.{is_feed, inserted_feed, inserted_other}
use Rattle.ptree.proofs.Drawing.Joined.{OfCharacters, OfLook, OfOwn, turning_of, passing_of, passed_of, drawing_of, own_of_kids}
use Rattle.ptree.proofs.Styles.PaintedTexts.{IsUtf8-start_codes}
use Rattle.ptree.proofs.Trees.ItemTrees.{tree_of_item, kids_of_item, map_twice}
use Rattle.ptree.proofs.Trees.Shapes.{kids_of_unfold}

-- ## Parts

-- one byte of ASCII more
ascii_more : (b : ℕ) (bs : List ℕ) → b < 128 → All (λ x. x < 128) bs → All (λ x. x < 128) (b ∷ bs)
ascii_more b bs h k = All-cons (λ x. x < 128) b bs h k

-- the empty text is ASCII
no_ascii : All (λ x. x < 128) []
no_ascii = All-nil (λ x. x < 128)

-- ASCII bytes are UTF-8
from_ascii : (bs : List ℕ) → All (λ x. x < 128) bs → IsUtf8 bs
from_ascii bs h = IsUtf8-from_ascii bs (IsAscii-from_all bs h)

-- so is a line feed
feed : IsUtf8 (10 ∷ [])
feed = from_ascii (10 ∷ []) (ascii_more 10 [] (omega arith) no_ascii)

-- the parts before and after a line feed are UTF-8
beside_feed : (a b : List ℕ) → IsUtf8 (a ++ 10 ∷ b) → IsUtf8 a × IsUtf8 b
beside_feed a b h =
    let seam = get_or-append_seam a 10 b 0 in
    let within : length a < length (a ++ 10 ∷ b) = omega (arith, length-append a (10 ∷ b)) in
    let low : get_or (a ++ 10 ∷ b) (length a) 0 < 128 = omega (arith, seam) in (
      subst IsUtf8 (take-append_seam a (10 ∷ b)) (IsUtf8-take (a ++ 10 ∷ b) (length a) h (IsCharBoundary-before_ascii (a ++ 10 ∷ b) (length a) within low)),
      subst IsUtf8 (drop-append-add a (10 ∷ b) 1) (IsUtf8-drop (a ++ 10 ∷ b) (length a + 1) h (IsCharBoundary-after_ascii (a ++ 10 ∷ b) (length a) h within low)),
    )

-- UTF-8 inserted after the line feeds of UTF-8 gives UTF-8; seen is the part before the text
inserted_behind : (inserted : List ℕ) → IsUtf8 inserted → (seen text : List ℕ) → IsUtf8 (seen ++ text) → IsUtf8 (seen ++ with_inserted inserted text)
inserted_behind inserted i seen [] h = h
inserted_behind inserted i seen (b ∷ text) h = elim (is_feed b) [
  | inl e ↦
      let sides = beside_feed seen text (subst (λ c. IsUtf8 (seen ++ c ∷ text)) e h) in
      subst (λ z. IsUtf8 (seen ++ z)) (sym (inserted_feed inserted b text e))
      (IsUtf8-append seen _ sides.0 (IsUtf8-append (10 ∷ []) _ feed (IsUtf8-append inserted _ i (inserted_behind inserted i [] text sides.1))))
  | inr n ↦
      subst (λ z. IsUtf8 (seen ++ z)) (sym (inserted_other inserted b text n))
      (subst IsUtf8 (append_assoc seen (b ∷ []) (with_inserted inserted text))
      (inserted_behind inserted i (seen ++ b ∷ []) text (subst IsUtf8 (sym (append_assoc seen (b ∷ []) text)) h)))
]

-- ## Drawings

-- so is a reset
reset : {X : Type 0} (xs : List X) → IsUtf8 (reset_after xs)
reset [] = IsUtf8-nil
reset (x ∷ xs) =
    from_ascii (27 ∷ 91 ∷ 48 ∷ 109 ∷ []) (ascii_more 27 (91 ∷ 48 ∷ 109 ∷ []) (omega arith) (ascii_more 91 (48 ∷ 109 ∷ []) (omega arith)
    (ascii_more 48 (109 ∷ []) (omega arith) (ascii_more 109 [] (omega arith) no_ascii))))

-- so is a painted text
painted : (style : StyleValue) (text : List ℕ) → IsUtf8 text → IsUtf8 (painted_text style text)
painted style text h =
    IsUtf8-append (start_codes style ++ text) (end_codes style) (IsUtf8-append (start_codes style) text (IsUtf8-start_codes style) h) (reset (style_codes style))

-- the look of a configuration
of_config : (config : PrintConfig) → OfLook IsUtf8 (written_look config)
of_config config =
    let c = config.characters in
    let all : OfCharacters IsUtf8 (characters_of c) = record {
      down_and_right = IsUtf8-string_bytes c.down_and_right;
      down = IsUtf8-string_bytes c.down;
      turn_right = IsUtf8-string_bytes c.turn_right;
      right = IsUtf8-string_bytes c.right;
      empty = IsUtf8-string_bytes c.empty;
    } in
    record {
      turning = turning_of IsUtf8 IsUtf8-nil IsUtf8-append (characters_of c) config.indent config.padding all;
      passing = passing_of IsUtf8 IsUtf8-nil IsUtf8-append (characters_of c) config.indent config.padding all;
      painted = painted (written_look config).branch;
      feed = feed;
    }

-- so are own bytes with what is inserted into them
own_inserted : (config : PrintConfig) (x : Shape) → HasUtf8Texts (written_look config) x → OfOwn IsUtf8 (written_look config) x
own_inserted config x h a =
    let look = written_look config in
    let passed = passed_of IsUtf8 IsUtf8-nil IsUtf8-append look (of_config config) x a in
    let front = painted look.branch (passing_text look x a ++ look.marker) (IsUtf8-append (passing_text look x a) look.marker passed (IsUtf8-string_bytes config.continued)) in
    inserted_behind (painted_text look.branch (passing_text look x a ++ look.marker)) front [] (own_at look x a) (h a)

-- the drawing of an item with UTF-8 texts is UTF-8
pub IsUtf8-drawing : (config : PrintConfig) (x : Shape) (depth : ℕ) (bytes : List ℕ) → HasUtf8Texts (written_look config) x → IsDrawing (written_look config) x depth bytes → IsUtf8 bytes
IsUtf8-drawing config x depth bytes h drawn =
    drawing_of IsUtf8 IsUtf8-nil IsUtf8-append (written_look config) (of_config config) x (own_inserted config x h) depth bytes drawn

-- ## Items

-- items with a text, as `LentItem` and `MadeItem` make them
pub texts_of_texts : {X : Type 0} (look : Look) (text : X → List ℕ) (below : X → List X) → ((x : X) → IsUtf8 (text x)) → (x : X) → HasUtf8Texts look (text_shape text below x)
texts_of_texts look text below h x =
    own_of_kids IsUtf8 IsUtf8-nil look (text_shape text below) below (λ y. painted look.leaf (text y) (h y)) (λ y. sym (kids_of_unfold (text_own text) below y)) x

-- the texts of a `StringItem` are UTF-8
pub texts_of_item : (look : Look) (s : StringItem) → HasUtf8Texts look (shape_of_tree (tree_of s))
texts_of_item look s =
    let below : StringItem → List StringItem = λ t. (out-StringItem t).children.items in
    own_of_kids IsUtf8 IsUtf8-nil look (λ t. shape_of_tree (tree_of t)) below
    (λ t. subst (λ u. IsUtf8 (painted_text look.leaf u.text)) (sym (tree_of_item t)) (painted look.leaf _ (IsUtf8-string_bytes (out-StringItem t).text)))
    (λ t. sym (kids_of_unfold tree_own tree_kids (tree_of t)) ∙ ap (map shape_of_tree) (kids_of_item t) ∙ sym (map_twice tree_of shape_of_tree (below t)))
    s
