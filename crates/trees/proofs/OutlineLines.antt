-- Lines of outlines, and what their ends are.
use Rattle.trees.proofs.Common.{◌≡◌, ◌≢◌, ◌∙◌, ℕ, ◌+◌, ◌-◌, ◌&&◌, not, Bool, true, false, cond, eqb, List, [], ◌∷◌, ◌++◌, length, length-append, get_or, take, drop, map, refl, sym, ap, append_assoc, filter, slice_index, encode_utf8_all, IsUtf8, arith, list_all-append, cons_from_encodes, encodes-append, AllByRecursion, list_all, HasCharAt, Line, line, outline, outline_at, is_blank, begins_blank, indent, indented_lines, IsUnit, IsLineText, AreLineTexts, Form, begins_with, begins}
use Rattle.std.proofs.Math.Bool.{and-false}
use Rattle.std.proofs.lemmas.Bool.{eqb-true, false_from_ne_true}
use Rattle.std.proofs.lemmas.List.{append-nil, at_drop_more, drop_all, take-append-drop}
use Rattle.std.specs.Str.Lines.{lines_of_parts, strip_carriage_return}
use Rattle.std.specs.Char.{encode_utf8}
use Rattle.ptree.specs.Tree.{Tree}
use Rattle.ptree_trees.proofs.IndentedLines.{line_parts, own, whole}
use Rattle.trees.specs.Outlining.{is_filled, filled_lines, text_of_lines, EndsInReturn, IsKeptText}
use Rattle.trees.specs.Listing.{byte_order_mark, unmarked}
use Rattle.trees.proofs.Outlines.{parts_of_form}

-- ## Ends of lines

-- what ends in a text that is not empty ends as that does
pub ends_so : (a b front : List ℕ) (c : ℕ) → a ++ (c ∷ b) ≡ front ++ 13 ∷ [] → EndsInReturn (c ∷ b)
ends_so [] b front c e = (front, e)
ends_so (x ∷ a) b [] c e = let long = ap length e in absurd (omega (arith, simp length-append at long))
ends_so (x ∷ a) b (y ∷ front) c e = let tails : a ++ (c ∷ b) ≡ front ++ 13 ∷ [] = cc in ends_so a b front c tails

-- so if that ends in no carriage return, the whole doesn't
pub end_behind : (a x : List ℕ) → x ≢ [] → (EndsInReturn x → ⊥) → EndsInReturn (a ++ x) → ⊥
end_behind a [] some none ends = absurd (some refl)
end_behind a (c ∷ b) some none ends = none (ends_so a b ends.0 c ends.1)

-- a line that ends in no carriage return is as it was
pub strip_same : (l : List ℕ) → (EndsInReturn l → ⊥) → strip_carriage_return l ≡ l
strip_same [] none = refl
strip_same (b ∷ t) none = at (eqb (slice_index l n) 13) refl where
  l : List ℕ
  l = b ∷ t

  n : ℕ
  n = length l - 1

  last : drop n l ≡ get_or l n 0 ∷ []
  last = at_drop_more (λ (x : List ℕ). x) l n 0 (omega arith) ∙ ap (λ (x : List ℕ). get_or l n 0 ∷ x) (drop_all (n + 1) l (omega arith))

  at : (x : Bool) → eqb (slice_index l n) 13 ≡ x → cond x (take n l) l ≡ l
  at true e = absurd (none (take n l, sym (take-append-drop n l) ∙ ap (λ (x : List ℕ). take n l ++ x) (last ∙ ap (λ (z : ℕ). z ∷ []) (eqb-true (get_or l n 0) 13 e))))
  at false e = refl

-- ## Lines

-- what stands behind an indent, and is read again
pub record IsReadLine (x : List ℕ) : Type 0 where
  pub some : x ≢ []
  pub start : begins_blank x ≡ false
  pub end : EndsInReturn x → ⊥

-- a text behind a bullet is not empty
pub not_empty : (bullet text : List ℕ) → (bullet ≡ [] → text ≢ []) → bullet ++ text ≢ []
not_empty [] text some = some refl
not_empty (b ∷ bullet) text some = λ e. cc

-- nor does it end in a carriage return
pub own_end : (bullet text : List ℕ) → (EndsInReturn bullet → ⊥) → (EndsInReturn text → ⊥) → EndsInReturn (bullet ++ text) → ⊥
own_end bullet [] b t ends = b (ends.0, sym (append-nil bullet) ∙ ends.1)
own_end bullet (c ∷ text) b t ends = end_behind bullet (c ∷ text) (λ e. cc) t ends

-- so it is read again
pub own_line : (bullet text : List ℕ) → IsLineText (bullet ++ text) → IsKeptText bullet text → (EndsInReturn bullet → ⊥) → IsReadLine (bullet ++ text)
own_line bullet text line kept end = record {
  some = not_empty bullet text (λ none. (kept.start none).0);
  start = line.1;
  end = own_end bullet text end kept.end;
}

-- the texts of lines are
abbrev pub AreReadLines : Form → List Line → Type 0
AreReadLines form o = AllByRecursion (λ l. IsReadLine (own form l.text)) o

pub own_lines : (form : Form) (o : List Line) → AreLineTexts form o → AllByRecursion (λ l. IsKeptText form.bullet.now l.text) o → (EndsInReturn form.bullet.now → ⊥) → AreReadLines form o
own_lines form [] texts kept end = tt
own_lines form (l ∷ o) texts kept end = (own_line form.bullet.now l.text texts.0 kept.0 end, own_lines form o texts.1 kept.1 end)

-- their lines are filled
pub filled_line : (a x : List ℕ) → x ≢ [] → begins_blank x ≡ false → is_filled (a ++ x) ≡ true
filled_line a [] some start = absurd (some refl)
filled_line a (b ∷ x) some start =
    ap not (list_all-append is_blank a (b ∷ x) ∙ (ap (λ (z : Bool). list_all is_blank a && (z && list_all is_blank x)) start ∙ and-false (list_all is_blank a)))

pub filled_all : (form : Form) (o : List Line) → AreReadLines form o → filter is_filled (map (whole form) o) ≡ map (whole form) o
filled_all form [] h = refl
filled_all form (l ∷ o) h =
    ap (λ (b : Bool). cond b (whole form l ∷ filter is_filled (map (whole form) o)) (filter is_filled (map (whole form) o))) (filled_line (indent form.unit.now l.level) (own form l.text) h.0.some h.0.start)
    ∙ ap (λ (z : List (List ℕ)). whole form l ∷ z) (filled_all form o h.1)

-- and each of them is a line of the text
pub strip_line : (form : Form) (l : Line) → IsReadLine (own form l.text) → strip_carriage_return (whole form l) ≡ whole form l
strip_line form l h = strip_same (whole form l) (end_behind (indent form.unit.now l.level) (own form l.text) h.some h.end)

pub lines_of_form : (form : Form) (o : List Line) → AreReadLines form o → lines_of_parts (map (whole form) o ++ [] ∷ []) ≡ map (whole form) o
lines_of_form form [] h = refl
lines_of_form form (l ∷ []) h = ap (λ (x : List ℕ). x ∷ []) (strip_line form l h.0)
lines_of_form form (l ∷ m ∷ o) h =
    ap (λ (x : List ℕ). x ∷ lines_of_parts (map (whole form) (m ∷ o) ++ [] ∷ [])) (strip_line form l h.0) ∙ ap (λ (z : List (List ℕ)). whole form l ∷ z) (lines_of_form form (m ∷ o) h.1)

-- so these are the lines of the text that count
pub filled_form : (form : Form) → IsUnit form.unit.now → (o : List Line) → AreLineTexts form o → AreReadLines form o → filled_lines (indented_lines form o) ≡ map (whole form) o
filled_form form u o texts h = ap (λ (ps : List (List ℕ)). filter is_filled (lines_of_parts ps)) (parts_of_form form u o texts) ∙ (ap (filter is_filled) (lines_of_form form o h) ∙ filled_all form o h)

-- and with their line feeds they are the text
pub text_of_form : (form : Form) (o : List Line) → text_of_lines (map (whole form) o) ≡ indented_lines form o
text_of_form form [] = refl
text_of_form form (l ∷ o) =
    append_assoc (whole form l) (10 ∷ []) (text_of_lines (map (whole form) o)) ∙ (ap (λ (z : List ℕ). whole form l ++ 10 ∷ z) (text_of_form form o) ∙ sym (line_parts form l (indented_lines form o)))

-- ## The first line

-- a text that begins with no part doesn't with a line behind it
begins_more : (part x r : List ℕ) → AllByRecursion (λ b. eqb b 10 ≡ false) part → begins_with part x ≡ false → begins_with part (x ++ 10 ∷ r) ≡ false
begins_more [] x r h e = e
begins_more (c ∷ part) [] r h e = ap (λ (b : Bool). b && begins_with part r) h.0
begins_more (c ∷ part) (d ∷ x) r h e = at (eqb c d) (begins_with part x) (begins_with part (x ++ 10 ∷ r)) (begins_more part x r h.1) e where
  at : (b y z : Bool) → (y ≡ false → z ≡ false) → (b && y) ≡ false → (b && z) ≡ false
  at true y z h e = h e
  at false y z h e = refl

-- what begins with no byte order mark has none
pub unmarked_form : (form : Form) (t : Tree) → begins_with byte_order_mark (own form t.text) ≡ false → unmarked (indented_lines form (outline t)) ≡ indented_lines form (outline t)
unmarked_form form t none = ap (λ (b : Bool). cond b (drop 3 text) text) (ap (begins_with byte_order_mark) parts ∙ begins_more byte_order_mark (own form t.text) rest (refl, (refl, (refl, tt))) none) where
  text : List ℕ
  text = indented_lines form (outline t)

  rest : List ℕ
  rest = indented_lines form (outline_at 1 t.children)

  parts : text ≡ own form t.text ++ 10 ∷ rest
  parts = line_parts form (line 0 t.text) rest

-- a character at the start of two texts is at the start of the first
char_first : (c : ℕ) (bullet text rest : List ℕ) → IsUtf8 bullet → IsUtf8 text → bullet ≢ [] → bullet ++ text ≡ encode_utf8 c ++ rest → (more : List ℕ) × (bullet ≡ encode_utf8 c ++ more)
char_first c bullet text rest b t some e = at b.0 b.1.1 (cons_from_encodes (b.0 ++ t.0) rest c (encodes-append b.0 t.0 ∙ (ap (λ (z : List ℕ). z ++ encode_utf8_all t.0) b.1.1 ∙ (ap (λ (z : List ℕ). bullet ++ z) t.1.1 ∙ e)))) where
  at : (cs : List ℕ) → encode_utf8_all cs ≡ bullet → (es : List ℕ) × (cs ++ t.0 ≡ c ∷ es) × (encode_utf8_all es ≡ rest) → (more : List ℕ) × (bullet ≡ encode_utf8 c ++ more)
  at [] is first = absurd (some (sym is))
  at (d ∷ cs) is first = let same : d ≡ c = let pair : d ∷ (cs ++ t.0) ≡ c ∷ first.0 = first.1 in cc in (encode_utf8_all cs, sym is ∙ ap (λ (x : ℕ). encode_utf8 x ++ encode_utf8_all cs) same)

-- a byte order mark is these bytes
mark_is : encode_utf8 65279 ≡ byte_order_mark
unfolding encode_utf8
mark_is = refl

-- what begins with that character does, and so does a text behind an empty bullet
pub marked_bullet : (bullet text : List ℕ) (n : ℕ) → HasCharAt 65279 bullet 0 n → begins_with byte_order_mark (bullet ++ text) ≡ true
marked_bullet bullet text n at = ap (λ (z : List ℕ). begins_with byte_order_mark (z ++ text)) (at.split ∙ ap (λ (z : List ℕ). z ++ drop n bullet) mark_is)

pub marked_text : (bullet text : List ℕ) (n : ℕ) → bullet ≡ [] → HasCharAt 65279 text 0 n → begins_with byte_order_mark (bullet ++ text) ≡ true
marked_text bullet text n none at = ap (λ (z : List ℕ). begins_with byte_order_mark (z ++ text)) none ∙ (ap (begins_with byte_order_mark) (sym (append-nil text)) ∙ marked_bullet text [] n at)

-- what does not begin with that character, doesn't
unmarked_so : (x : List ℕ) → ((rest : List ℕ) → x ≢ encode_utf8 65279 ++ rest) → begins_with byte_order_mark x ≡ false
unmarked_so x lacks = false_from_ne_true (begins_with byte_order_mark x) (λ e. let begun = begins byte_order_mark x e in lacks begun.0 (begun.1 ∙ ap (λ (z : List ℕ). z ++ begun.0) (sym mark_is)))

-- behind an empty bullet, and behind one that does not
pub unmarked_text : (bullet text : List ℕ) → bullet ≡ [] → ((rest : List ℕ) → text ≢ encode_utf8 65279 ++ rest) → begins_with byte_order_mark (bullet ++ text) ≡ false
unmarked_text bullet text none lacks = ap (λ (z : List ℕ). begins_with byte_order_mark (z ++ text)) none ∙ unmarked_so text lacks

pub unmarked_bullet : (bullet text : List ℕ) → IsUtf8 bullet → IsUtf8 text → bullet ≢ [] → ((rest : List ℕ) → bullet ≢ encode_utf8 65279 ++ rest) → begins_with byte_order_mark (bullet ++ text) ≡ false
unmarked_bullet bullet text b t some none = unmarked_so (bullet ++ text) (λ rest e. let first = char_first 65279 bullet text rest b t some e in none first.0 first.1)
