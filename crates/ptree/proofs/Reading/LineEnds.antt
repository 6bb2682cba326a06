-- Parts of a drawing that hold no line feed.
use Rattle.std.proofs.Common.{◌≡◌, ◌≢◌, ℕ, zero, suc, ◌<◌, Some, None, Bool, not, List, [], ◌∷◌, ◌++◌, take, drop, refl, sym, ap, ◌∙◌, subst, arith}
use Rattle.std.proofs.lemmas.List.{take-append-drop}
use Rattle.std.proofs.lemmas.List.Elements.{All-nil, All-head, All-tail, All-append}
use Rattle.std.proofs.lemmas.Str.Pattern.{drop_at_char, NoCharPasses-char}
use Rattle.std.specs.Str.Pattern.{RFindsChar}
use Rattle.ptree.specs.Drawing.{Look, continued_prefix}
use Rattle.ptree.specs.Flags.{has_later, last_flags, pieces_by}
use Rattle.ptree.specs.Outline.{Line}
use Rattle.ptree.specs.Pieces.{Pieces, turning_piece, passing_piece, passing_all}
use Rattle.ptree.specs.Readable.{IsReadable, IsReadableWith}
use Rattle.ptree.specs.Style.{StyleValue, start_codes, end_codes, painted_text}
use Rattle.ptree.specs.Texts.{HasNoLineFeed}
use Rattle.ptree.proofs.Drawing.Inserted.{no_line_feed_from_reads}
use Rattle.ptree.proofs.Styles.PaintedTexts.{no_line_feed_start, no_line_feed_end}

-- ## Lists

-- the first line feed of a text comes after a prefix without one
pub first_feed_after_prefix : (a x g e : List ℕ) → HasNoLineFeed a → a ++ x ≡ g ++ 10 ∷ e → (h : List ℕ) × (g ≡ a ++ h) × (x ≡ h ++ 10 ∷ e)
first_feed_after_prefix [] x g e h is = (g, refl, is)
first_feed_after_prefix (b ∷ a) x [] e h is = absurd (All-head (λ c. c ≢ 10) b a h (let heads : b ≡ 10 = cc in heads))
first_feed_after_prefix (b ∷ a) x (c ∷ g) e h is =
    let heads : b ≡ c = cc in
    let tails : a ++ x ≡ g ++ 10 ∷ e = cc in
    let rest = first_feed_after_prefix a x g e (All-tail (λ c. c ≢ 10) b a h) tails in
    (rest.0, ap (λ z. z ∷ g) (sym heads) ∙ ap (λ z. b ∷ z) rest.1, rest.2)

-- what is behind the last line feed holds none
pub last_feed : (text part : List ℕ) (i j : ℕ) → RFindsChar 10 text (Some (i, j)) → part ≡ drop j text → (text ≡ take i text ++ 10 ∷ part) × HasNoLineFeed part
last_feed text part i j h is =
    let low : 10 < 128 = omega arith in (
      sym (take-append-drop i text) ∙ ap (λ z. take i text ++ z) (drop_at_char 10 text i j h.1 low ∙ ap (λ z. 10 ∷ z) (sym is)),
      subst HasNoLineFeed (sym is) (no_line_feed_from_reads (drop j text) (λ k inside. NoCharPasses-char 10 (drop j text) k h.0 low inside)),
    )

-- where none is found, there is none
pub no_feed : (text : List ℕ) → RFindsChar 10 text None → HasNoLineFeed text
no_feed text h = no_line_feed_from_reads text (λ k inside. NoCharPasses-char 10 text k h (omega arith) inside)

-- ## Items

-- passing pieces hold no line feed, if the pieces are readable
pub no_feed_passing : (p : Pieces) → IsReadable p → (flags : List Bool) → HasNoLineFeed (passing_all p flags)
no_feed_passing p h [] = All-nil (λ c. c ≢ 10)
no_feed_passing p h (b ∷ flags) = All-append (λ c. c ≢ 10) (passing_piece p b) (passing_all p flags) (h.no_line_feed b).1 (no_feed_passing p h flags)

-- the pieces of a line hold no line feed
pub no_feed_pieces : (p : Pieces) → IsReadable p → (o : List Line) (n : ℕ) → HasNoLineFeed (pieces_by p o n)
no_feed_pieces p h o zero = All-nil (λ c. c ≢ 10)
no_feed_pieces p h o (suc n) =
    All-append (λ c. c ≢ 10) (passing_all p (last_flags o n)) (turning_piece p (not (has_later o (suc n)))) (no_feed_passing p h (last_flags o n)) (h.no_line_feed (not (has_later o (suc n)))).0

-- a painted text without a line feed holds none
pub no_feed_painted : (s : StyleValue) (text : List ℕ) → HasNoLineFeed text → HasNoLineFeed (painted_text s text)
no_feed_painted s text h =
    All-append (λ c. c ≢ 10) (start_codes s ++ text) (end_codes s) (All-append (λ c. c ≢ 10) (start_codes s) text (no_line_feed_start s) h) (no_line_feed_end s)

-- the prefix of a further line holds no line feed
pub no_feed_continued : (k : Look) → IsReadableWith k.pieces k.marker → (flags : List Bool) → HasNoLineFeed (continued_prefix k (passing_all k.pieces flags))
no_feed_continued k h flags = no_feed_painted k.branch (passing_all k.pieces flags ++ k.marker) (All-append (λ c. c ≢ 10) (passing_all k.pieces flags) k.marker (no_feed_passing k.pieces h.pieces flags) h.no_line_feed)
