-- Rows of occurrences, and what is written for a repeated one.
use Rattle.std.proofs.Common.{◌≡◌, ℕ, List, [], ◌∷◌, ◌++◌, Option, Result, ap, refl, sym, subst, ◌∙◌}
use Rattle.std.proofs.KnownBytes.{Appends-trans}
use Rattle.std.specs.Io.KnownBytes.{Appends}
use Rattle.ptree.specs.Occurrence.{OccurrenceRow, none, item, OccurrenceTree, occurrences, row}
use Rattle.ptree.specs.Style.{StyleValue, plain_value, style_codes, painted_text}
use Rattle.ptree.specs.Writing.{AppendsPart, IsWritten}
use Rattle.ptree.proofs.Styles.PaintedTexts.{plain_codes, painted_plain}
use Rattle.ptree.proofs.Sinks.Written.{part_then, part_more, written_then}

-- the occurrences of a row that is made of occurrences
pub occurrences_of_row : (ps : List OccurrenceTree) → occurrences (row ps) ≡ ps
occurrences_of_row [] = refl
occurrences_of_row (p ∷ ps) = ap (λ z. p ∷ z) (occurrences_of_row ps)

-- a row is made of its occurrences
pub row_of_occurrences : (r : OccurrenceRow) → row (occurrences r) ≡ r
row_of_occurrences none = refl
row_of_occurrences (item v m c r) = ap (λ z. item v m c z) (row_of_occurrences r)

-- a prefix of the label was written, in a style without codes
pub plain_label_part : (style : StyleValue) (text mark : List ℕ) → style_codes style ≡ [] → (a b : Option (List ℕ)) → AppendsPart a b (painted_text style text) → AppendsPart a b (painted_text style (text ++ mark))
plain_label_part style text mark e a b h =
    subst (λ (z : List ℕ). AppendsPart a b z) (sym (painted_plain style (text ++ mark) e)) (part_more a b text mark (subst (λ (z : List ℕ). AppendsPart a b z) (painted_plain style text e) h))

-- the label was, and then the mark or a prefix of it
pub plain_written : {A E : Type 0} (style : StyleValue) (text mark : List ℕ) → style_codes style ≡ [] → (a b c : Option (List ℕ)) (r : Result A E) (y : List ℕ) → y ≡ mark
    → Appends a b (painted_text style text) → IsWritten b c r y → IsWritten a c r (painted_text style (text ++ mark))
plain_written style text mark e a b c r y q h k =
    subst (λ (z : List ℕ). IsWritten a c r z) (sym (painted_plain style (text ++ mark) e))
    (written_then a b c r text mark (subst (λ (z : List ℕ). Appends a b z) (painted_plain style text e) h) (subst (λ (z : List ℕ). IsWritten b c r z) q k))

-- a style that is the plain one paints a text as itself
plain_text : (plain : StyleValue) (text : List ℕ) → plain ≡ plain_value → painted_text plain text ≡ text
plain_text plain text e = painted_plain plain text (ap style_codes e ∙ plain_codes)

module _ (start text mark end : List ℕ) where
  -- the label and the mark, painted as one
  abbrev whole : List ℕ
  whole = start ++ (text ++ mark) ++ end

  -- a prefix of the codes was written
  pub start_part : (a b : Option (List ℕ)) (x : List ℕ) → x ≡ start → AppendsPart a b x → AppendsPart a b whole
  start_part a b x e h = let k = subst (λ (z : List ℕ). AppendsPart a b z) e h in part_more a b (start ++ (text ++ mark)) end (part_more a b start (text ++ mark) k)

  -- the codes and a prefix of the label were
  pub label_part : (a b c : Option (List ℕ)) (x : List ℕ) (plain : StyleValue) → plain ≡ plain_value → x ≡ start → Appends a b x → AppendsPart b c (painted_text plain text) → AppendsPart a c whole
  label_part a b c x plain u e h k =
      let f = subst (λ (z : List ℕ). Appends a b z) e h in
      let l = subst (λ (z : List ℕ). AppendsPart b c z) (plain_text plain text u) k in
      part_more a c (start ++ (text ++ mark)) end (part_then a b c start (text ++ mark) f (part_more b c text mark l))

  -- the codes, the label and a prefix of the mark were
  pub mark_part : (a b c d : Option (List ℕ)) (x y : List ℕ) (plain : StyleValue) → plain ≡ plain_value → x ≡ start → y ≡ mark → Appends a b x → Appends b c (painted_text plain text) → AppendsPart c d y → AppendsPart a d whole
  mark_part a b c d x y plain u e q h k l =
      let f = subst (λ (z : List ℕ). Appends a b z) e h in
      let t = subst (λ (z : List ℕ). Appends b c z) (plain_text plain text u) k in
      let m = subst (λ (z : List ℕ). AppendsPart c d z) q l in
      part_more a d (start ++ (text ++ mark)) end (part_then a b d start (text ++ mark) f (part_then b c d text mark t m))

  -- all was written, or all but an end of the codes
  pub all_repeated : {A E : Type 0} (a b c d e : Option (List ℕ)) (r : Result A E) (x y z : List ℕ) (plain : StyleValue) → plain ≡ plain_value → x ≡ start → y ≡ mark → z ≡ end
      → Appends a b x → Appends b c (painted_text plain text) → Appends c d y → IsWritten d e r z → IsWritten a e r whole
  all_repeated a b c d e r x y z plain u p q s h k l n =
      let f = subst (λ (w : List ℕ). Appends a b w) p h in
      let t = subst (λ (w : List ℕ). Appends b c w) (plain_text plain text u) k in
      let m = subst (λ (w : List ℕ). Appends c d w) q l in
      let w = subst (λ (w : List ℕ). IsWritten d e r w) s n in
      written_then a d e r (start ++ (text ++ mark)) end (Appends-trans a b d start (text ++ mark) f (Appends-trans b c d text mark t m)) w
