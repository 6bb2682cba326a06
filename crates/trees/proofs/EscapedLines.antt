-- Texts that can stand after an indent still can when they are escaped.
use Rattle.trees.proofs.Common.{◌≡◌, ◌≢◌, ◌∙◌, ℕ, suc, ◌≤◌, Bool, true, false, cond, Option, Some, None, List, [], ◌∷◌, ◌++◌, length, map, flat_map, IsUtf8, lit<, refl, sym, ap, subst, encode_utf8, All, option_map, unwrap_or, chars, encode_utf8_all, arith, map-append, All-nil, All-cons, All-head, All-tail, All-append, All-weaker, AllByRecursion, StringItem, Line, line, outline_at, outline, Form, begins_blank, IsLineText, AreLineTexts}
use Rattle.std.proofs.lemmas.List.Concat.{flat_map-append}
use Rattle.std.proofs.lemmas.Str.{IsUtf8-append, IsUtf8-string_bytes, chars-append, encodes-append, encodes-chars, encode_ascii, length-encode, len_utf8_bounds}
use Rattle.ptree.specs.declared.item.StringItem.TheFolds.{ind-StringItem}
use Rattle.ptree.specs.Tree.{Forest, none, item, Tree, forest, tree_of}
use Rattle.ptree.proofs.Trees.ItemTrees.{tree_of_roll}
use Rattle.ptree_trees.specs.Escape.{is_hidden, escape_letter, hex_digits, escape_char, escaped_text, mapped_forest}
use Rattle.ptree_trees.proofs.Escapes.{text_shown, bytes_shown}
use Rattle.trees.specs.Writing.{AreShownTexts}

-- ## Texts

-- whether a text begins with a blank is seen in its first bytes
begins_front : (front r s : List ℕ) → 1 ≤ length front → begins_blank (front ++ r) ≡ begins_blank (front ++ s)
begins_front [] r s some = absurd (omega (arith, some))
begins_front (b ∷ front) r s some = refl

-- a text that begins with no blank doesn't when it is escaped
begins_escaped : (cs : List ℕ) → begins_blank (encode_utf8_all cs) ≡ false → begins_blank (encode_utf8_all (flat_map escape_char cs)) ≡ false
begins_escaped [] h = refl
begins_escaped (c ∷ cs) h = by_form (escape_letter c) (is_hidden c) where
  behind : (r : List ℕ) → begins_blank (encode_utf8_all (92 ∷ r)) ≡ false
  behind r = ap (λ z. begins_blank (z ++ encode_utf8_all r)) (encode_ascii 92 (lit< tt))

  by_form : (o : Option ℕ) (b : Bool) → begins_blank (encode_utf8_all (unwrap_or (option_map (λ l. 92 ∷ l ∷ []) o) (cond b (92 ∷ 117 ∷ hex_digits c) (c ∷ [])) ++ flat_map escape_char cs)) ≡ false
  by_form (Some l) b = behind (l ∷ flat_map escape_char cs)
  by_form None true = behind (117 ∷ (hex_digits c ++ flat_map escape_char cs))
  by_form None false = begins_front (encode_utf8 c) (encode_utf8_all (flat_map escape_char cs)) (encode_utf8_all cs) (let long = length-encode c in let some = (len_utf8_bounds c).0 in omega (arith, long, some)) ∙ h

-- nor has it a line feed
escaped_line : (text : List ℕ) → IsUtf8 text → IsLineText text → IsLineText (escaped_text text)
escaped_line text utf8 fits = (
  All-weaker (λ b. (32 ≤ b) × (b ≢ 127)) (λ b. b ≢ 10) (λ b h e. let low = h.0 in omega (arith, low, e)) (escaped_text text) (bytes_shown (escaped_text text) (text_shown text)),
  begins_escaped (chars text) (ap begins_blank (encodes-chars text utf8) ∙ fits.1),
)

-- escaped texts, joined
escaped-append : (a b : List ℕ) → IsUtf8 a → escaped_text (a ++ b) ≡ escaped_text a ++ escaped_text b
escaped-append a b utf8 =
    ap (λ cs. encode_utf8_all (flat_map escape_char cs)) (chars-append a b utf8)
    ∙ (ap encode_utf8_all (flat_map-append escape_char (chars a) (chars b)) ∙ encodes-append (flat_map escape_char (chars a)) (flat_map escape_char (chars b)))

-- ## Trees

-- the text of a line is UTF-8
abbrev IsUtf8Line : Line → Type 0
IsUtf8Line l = IsUtf8 l.text

-- so are all texts of a tree
abbrev AreUtf8 : Tree → Type 0
AreUtf8 t = IsUtf8 t.text × ((n : ℕ) → All IsUtf8Line (outline_at n t.children))

-- those of trees side by side
utf8_row : (es : List ((s : StringItem) × AreUtf8 (tree_of s))) (n : ℕ) → All IsUtf8Line (outline_at n (forest (map tree_of (map (λ e. e.0) es))))
utf8_row [] n = All-nil IsUtf8Line
utf8_row (e ∷ es) n =
    let t = tree_of e.0 in
    All-cons IsUtf8Line (line n t.text) _ e.1.0 (All-append IsUtf8Line (outline_at (suc n) t.children) _ (e.1.1 (suc n)) (utf8_row es n))

-- those of an item
utf8_item : (s : StringItem) → AreUtf8 (tree_of s)
utf8_item = ind-StringItem (λ s. AreUtf8 (tree_of s)) (λ x y is.
    subst AreUtf8 (sym (tree_of_roll x)) (IsUtf8-string_bytes x.text, subst (λ z. (n : ℕ) → All IsUtf8Line (outline_at n (forest (map tree_of z.children.items)))) is (utf8_row y.children.items)))

-- the lines of a forest whose texts are replaced
lines_mapped : (f : List ℕ → List ℕ) (n : ℕ) (c : Forest) → outline_at n (mapped_forest f c) ≡ map (λ l. line l.level (f l.text)) (outline_at n c)
lines_mapped f n none = refl
lines_mapped f n (item t c r) = rw (lines_mapped f (suc n) c, lines_mapped f n r, map-append (λ (l : Line). line l.level (f l.text))) refl

-- so what can stand after an indent in a file can on a terminal
pub shown_texts : (b : Bool) (form : Form) (s : StringItem) → IsUtf8 form.bullet.now → AreLineTexts form (outline (tree_of s)) → AreShownTexts b form.bullet.now (tree_of s)
shown_texts false form s utf8 fits = fits
shown_texts true form s utf8 fits =
    let t = tree_of s in
    let utf8_lines = All-cons IsUtf8Line (line 0 t.text) _ (utf8_item s).0 ((utf8_item s).1 1) in
    subst (AllByRecursion IsShownLine) (ap (λ z. line 0 (escaped_text t.text) ∷ z) (sym (lines_mapped escaped_text 1 t.children))) (by_line (outline t) utf8_lines fits) where
      bullet : List ℕ
      bullet = form.bullet.now

      IsShownLine : Line → Type 0
      IsShownLine l = IsLineText (escaped_text bullet ++ l.text)

      by_line : (o : List Line) → All IsUtf8Line o → AreLineTexts form o → AllByRecursion IsShownLine (map (λ l. line l.level (escaped_text l.text)) o)
      by_line [] texts fits = tt
      by_line (l ∷ o) texts fits = (
        subst IsLineText (escaped-append bullet l.text utf8) (escaped_line (bullet ++ l.text) (IsUtf8-append bullet l.text utf8 (All-head IsUtf8Line l o texts)) fits.0),
        by_line o (All-tail IsUtf8Line l o texts) fits.1,
      )
