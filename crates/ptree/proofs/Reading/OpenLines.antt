-- Which lines continue the open items.
use Rattle.std.proofs.Common.{◌≡◌, ◌≢◌, ℕ, zero, suc, ◌<◌, ◌≤◌, Bool, not, List, [], ◌∷◌, ◌++◌, length, sym, ap, ◌∙◌, subst, append_assoc, arith}
use Rattle.std.proofs.lemmas.List.Elements.{All-append}
use Rattle.std.proofs.lemmas.List.{append_cancel_left}
use Rattle.ptree.specs.declared.read.lines.Flags.{Flags}
use Rattle.ptree.specs.Drawing.{Look, continued_prefix}
use Rattle.ptree.specs.Flags.{has_later, pieces_by, passing_by}
use Rattle.ptree.specs.Outline.{Line, line}
use Rattle.ptree.specs.Pieces.{Pieces, turning_piece}
use Rattle.ptree.specs.Reached.{any_flags, Allows, own_prefix, NoPiece, IsCutTo, ArePath, IsFound, CutsPassing, IsFurtherLine, BeginsWrong}
use Rattle.ptree.specs.Readable.{IsReadableWith}
use Rattle.ptree.specs.Spelled.{ArePassing}
use Rattle.ptree.specs.Style.{start_codes, end_codes}
use Rattle.ptree.specs.Texts.{HasNoLineFeed}
use Rattle.ptree.proofs.Reading.LineEnds.{no_feed_passing}
use Rattle.ptree.proofs.Reading.Markers.{continued_prefix_parts, own_prefix_split}
use Rattle.ptree.proofs.Pieces.Prefixes.{apart_not_both_starts, same_prefix, same_kind}
use Rattle.ptree.proofs.Styles.PaintedTexts.{no_line_feed_start, no_line_feed_end}
use Rattle.ptree.proofs.Reading.OpenItems.{allows_any, passing_deeper}
use Rattle.ptree.proofs.Reading.FoundPieces.{found_at}

-- ## Lines that cannot continue a drawing

-- a text without the branch's codes begins with neither kind of line
pub wrong_without_codes : (k : Look) (depth : ℕ) (fs : List Flags) (x : List ℕ) → ((z : List ℕ) → x ≢ start_codes k.branch ++ z) → BeginsWrong k depth fs x
wrong_without_codes k depth fs x h = record {
  no_further = λ o z a e. h _ (e ∙ continued_prefix_parts k (passing_by k.pieces o (length fs)) z);
  no_own = λ n o z low high deep a e. h _ (e ∙ own_prefix_split k (pieces_by k.pieces o n) z);
}

-- what must still be shown wrong, given the pieces that were found
pub begins_wrong : (k : Look) → IsReadableWith k.pieces k.marker → (depth : ℕ) (fs new : List Flags) (x text shown rest : List ℕ) (n : ℕ) → x ≡ start_codes k.branch ++ text → IsFound k.pieces fs new text shown rest n
    → ((z : List ℕ) → n ≡ length fs → rest ≢ k.marker ++ (end_codes k.branch ++ z))
    → ((b : Bool) (o : List Line) (z : List ℕ) → suc n ≤ depth → Allows new (line (suc n) [] ∷ o) → rest ≢ turning_piece k.pieces b ++ (end_codes k.branch ++ (start_codes k.leaf ++ z)))
    → BeginsWrong k depth fs x
begins_wrong k readable depth fs new x text shown rest n is h no_marker no_turn = record { no_further = further; no_own = own } where
  p : Pieces
  p = k.pieces

  further : (o : List Line) (z : List ℕ) → Allows fs o → x ≢ continued_prefix k (passing_by p o (length fs)) ++ z
  further o z a e =
      let whole : text ≡ passing_by p o (length fs) ++ (k.marker ++ (end_codes k.branch ++ z)) =
      append_cancel_left (start_codes k.branch) _ _ (sym is ∙ (e ∙ continued_prefix_parts k (passing_by p o (length fs)) z)) in
      let there = found_at p readable.pieces fs new text shown rest n h (length fs) o k.marker (end_codes k.branch ++ z) (omega arith) a (λ b. (readable.apart b).1) whole in
      no_marker z there.0 there.2

  own : (m : ℕ) (o : List Line) (z : List ℕ) → 0 < m → m ≤ suc (length fs) → m ≤ depth → Allows fs (line m [] ∷ o) → x ≢ own_prefix k (pieces_by p o m) ++ z
  own zero o z low high deep a e = absurd (omega arith)
  own (suc m) o z low high deep a e =
      let b : Bool = not (has_later o (suc m)) in
      let tail : List ℕ = end_codes k.branch ++ (start_codes k.leaf ++ z) in
      let start : text ≡ (passing_by p o m ++ turning_piece p b) ++ tail = append_cancel_left (start_codes k.branch) _ _ (sym is ∙ (e ∙ own_prefix_split k (pieces_by p o (suc m)) z)) in
      let whole : text ≡ passing_by p (line (suc m) [] ∷ o) m ++ (turning_piece p b ++ tail) =
      start ∙ (append_assoc (passing_by p o m) (turning_piece p b) tail ∙ ap (λ y. y ++ (turning_piece p b ++ tail)) (sym (passing_deeper p m o))) in
      let there = found_at p readable.pieces fs new text shown rest n h m (line (suc m) [] ∷ o) (turning_piece p b) tail (omega (arith, high)) a (λ d. readable.pieces.turning_passing b d) whole in
      let same = there.0 in
      let kept : Allows new (line (suc m) [] ∷ o) = (h.cut (line (suc m) [] ∷ o)).1 (a, ap (λ y. passing_by p (line (suc m) [] ∷ o) y) same ∙ there.1) in
      no_turn b o z (omega (arith, deep, same)) (subst (λ y. Allows new (line (suc y) [] ∷ o)) (sym same) kept) there.2

-- a line with a turning piece there is wrong
pub turned_wrong : (k : Look) → IsReadableWith k.pieces k.marker → (depth : ℕ) (fs new : List Flags) (x text shown rest turned : List ℕ) (n : ℕ) (flags : Flags) → x ≡ start_codes k.branch ++ text → IsFound k.pieces fs new text shown rest n
    → IsCutTo (turning_piece k.pieces) any_flags rest flags turned
    → ((o : List Line) (z : List ℕ) → suc n ≤ depth → Allows new (line (suc n) [] ∷ o) → turned ≢ end_codes k.branch ++ (start_codes k.leaf ++ z)) → BeginsWrong k depth fs x
turned_wrong k readable depth fs new x text shown rest turned n flags is h cut never =
    begins_wrong k readable depth fs new x text shown rest n is h
    (λ z level e. apart_not_both_starts k.marker (turning_piece k.pieces cut.last) (end_codes k.branch ++ z) turned (readable.apart cut.last).0 (sym e ∙ cut.text_is))
    (λ b o z deep a e. never o z deep a (same_prefix (turning_piece k.pieces cut.last) (turning_piece k.pieces b) turned (end_codes k.branch ++ (start_codes k.leaf ++ z))
    (same_kind k.pieces.regular k.pieces.last_regular readable.pieces.turnings cut.last b) (sym cut.text_is ∙ e)).1)

-- a line without a turning piece there is wrong
pub unturned_wrong : (k : Look) → IsReadableWith k.pieces k.marker → (depth : ℕ) (fs new : List Flags) (x text shown rest : List ℕ) (n : ℕ) → x ≡ start_codes k.branch ++ text → IsFound k.pieces fs new text shown rest n
    → NoPiece (turning_piece k.pieces) any_flags rest → ((z : List ℕ) → n ≡ length fs → rest ≢ k.marker ++ (end_codes k.branch ++ z)) → BeginsWrong k depth fs x
unturned_wrong k readable depth fs new x text shown rest n is h none never =
    begins_wrong k readable depth fs new x text shown rest n is h never (λ b o z deep a e. none b (end_codes k.branch ++ (start_codes k.leaf ++ z)) (allows_any b) e)

-- ## Lines that continue drawings

-- a further line, from its parts
pub further_line_from_parts : (k : Look) (fs new : List Flags) (x text shown rest own more : List ℕ) (n : ℕ) → IsFound k.pieces fs new text shown rest n → x ≡ start_codes k.branch ++ text
    → length new ≤ n → rest ≡ k.marker ++ (end_codes k.branch ++ (own ++ 10 ∷ more)) → HasNoLineFeed own → IsFurtherLine k fs x own more new × ArePath k.pieces new n shown
further_line_from_parts k fs new x text shown rest own more n h is all rest_is one =
    let enough = h.enough in
    let count = h.count in
    let level : n ≡ length fs = omega (arith, enough, count, all) in (
      record {
        passing = shown;
        one = one;
        are_passing = subst (λ z. ArePassing k.pieces z shown) level h.are_passing;
        text_is = is ∙ (ap (λ z. start_codes k.branch ++ z) (h.text_is ∙ ap (λ z. shown ++ z) rest_is) ∙ sym (continued_prefix_parts k shown (own ++ 10 ∷ more)));
        cuts = subst (λ z. CutsPassing k.pieces fs z shown new) level h.cut;
        count = count;
      },
      record {
        enough = omega (arith, level, count);
        near = omega (arith, level, count);
        some = h.some;
        same = h.same;
        shown_is = λ o a. ((h.cut o).0 a).1;
      },
    )

-- ## Line feeds

-- two texts without line feeds, as one
both_feedless : (a b : List ℕ) → HasNoLineFeed a → HasNoLineFeed b → HasNoLineFeed (a ++ b)
both_feedless a b h g = All-append (λ c. c ≢ 10) a b h g

-- if no line feed follows an item's own prefix, the text has none
pub own_feedless : (k : Look) → IsReadableWith k.pieces k.marker → (fs new : List Flags) (x text shown rest turned closed start : List ℕ) (n : ℕ) (flags : Flags) → x ≡ start_codes k.branch ++ text → IsFound k.pieces fs new text shown rest n
    → IsCutTo (turning_piece k.pieces) any_flags rest flags turned → turned ≡ end_codes k.branch ++ closed → closed ≡ start_codes k.leaf ++ start → HasNoLineFeed start → HasNoLineFeed x
own_feedless k readable fs new x text shown rest turned closed start n flags is h cut t c s =
    let (above, len, shown_is) = h.are_passing in
    let pieces : HasNoLineFeed shown = subst HasNoLineFeed (sym shown_is) (no_feed_passing k.pieces readable.pieces above) in
    let closed_less : HasNoLineFeed closed = subst HasNoLineFeed (sym c) (both_feedless (start_codes k.leaf) start (no_line_feed_start k.leaf) s) in
    let turned_less : HasNoLineFeed turned = subst HasNoLineFeed (sym t) (both_feedless (end_codes k.branch) closed (no_line_feed_end k.branch) closed_less) in
    let rest_less : HasNoLineFeed rest = subst HasNoLineFeed (sym cut.text_is) (both_feedless (turning_piece k.pieces cut.last) turned (readable.pieces.no_line_feed cut.last).0 turned_less) in
    subst HasNoLineFeed (sym (is ∙ ap (λ z. start_codes k.branch ++ z) h.text_is)) (both_feedless (start_codes k.branch) (shown ++ rest) (no_line_feed_start k.branch) (both_feedless shown rest pieces rest_less))

-- if no line feed follows a further line's prefix, the text has none
pub further_feedless : (k : Look) → IsReadableWith k.pieces k.marker → (fs new : List Flags) (x text shown rest closed start : List ℕ) (n : ℕ) → x ≡ start_codes k.branch ++ text → IsFound k.pieces fs new text shown rest n
    → rest ≡ k.marker ++ closed → closed ≡ end_codes k.branch ++ start → HasNoLineFeed start → HasNoLineFeed x
further_feedless k readable fs new x text shown rest closed start n is h m c s =
    let (above, len, shown_is) = h.are_passing in
    let pieces : HasNoLineFeed shown = subst HasNoLineFeed (sym shown_is) (no_feed_passing k.pieces readable.pieces above) in
    let closed_less : HasNoLineFeed closed = subst HasNoLineFeed (sym c) (both_feedless (end_codes k.branch) start (no_line_feed_end k.branch) s) in
    let rest_less : HasNoLineFeed rest = subst HasNoLineFeed (sym m) (both_feedless k.marker closed readable.no_line_feed closed_less) in
    subst HasNoLineFeed (sym (is ∙ ap (λ z. start_codes k.branch ++ z) h.text_is)) (both_feedless (start_codes k.branch) (shown ++ rest) (no_line_feed_start k.branch) (both_feedless shown rest pieces rest_less))
