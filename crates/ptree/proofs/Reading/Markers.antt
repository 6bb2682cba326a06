-- The pieces and the marker at a line's start can be recognised from the left.
use Rattle.std.proofs.Common.{◌≡◌, ℕ, zero, suc, Bool, false, List, [], ◌∷◌, ◌++◌, length, length-append, All, refl, sym, ap, ◌∙◌, append_assoc, arith}
use Rattle.std.proofs.lemmas.List.{append_cancel_left}
use Rattle.std.proofs.lemmas.List.Elements.{All-head}
use Rattle.ptree.specs.Address.{at}
use Rattle.ptree.specs.Drawing.{Look, with_inserted, continued_prefix}
use Rattle.ptree.specs.Pieces.{Pieces, turning_piece, passing_piece, passing_all}
use Rattle.ptree.specs.Reached.{own_prefix}
use Rattle.ptree.specs.Readable.{ArePrefixFree, IsReadable, IsReadableWith}
use Rattle.ptree.specs.Spelled.{SpelledItem, ArePiecesAt, ArePassing, IsSpelled, IsNotContinued, text_entry, spelled_text}
use Rattle.ptree.specs.Style.{start_codes, end_codes, painted_text}
use Rattle.ptree.proofs.Pieces.Prefixes.{apart_not_both_starts, same_prefix, same_kind}

-- what is before an item's own text, part by part
pub own_prefix_split : (k : Look) (pieces x : List ℕ) → own_prefix k pieces ++ x ≡ start_codes k.branch ++ (pieces ++ (end_codes k.branch ++ (start_codes k.leaf ++ x)))
own_prefix_split k pieces x = at (start_codes k.branch) (end_codes k.branch) (start_codes k.leaf) where
  at : (a b c : List ℕ) → ((a ++ pieces ++ b) ++ c) ++ x ≡ a ++ (pieces ++ (b ++ (c ++ x)))
  at a b c = simp append_assoc

-- n passing pieces at the start of a text are unique
pub passings_once : (p : Pieces) → IsReadable p → (above above' : List Bool) (x y : List ℕ) → length above ≡ length above' → passing_all p above ++ x ≡ passing_all p above' ++ y
    → (passing_all p above ≡ passing_all p above') × (x ≡ y)
passings_once p h [] [] x y len e = (refl, e)
passings_once p h [] (d ∷ ds) x y len e = absurd (omega (arith, len))
passings_once p h (b ∷ bs) [] x y len e = absurd (omega (arith, len))
passings_once p h (b ∷ bs) (d ∷ ds) x y len e =
    let moved : passing_piece p b ++ (passing_all p bs ++ x) ≡ passing_piece p d ++ (passing_all p ds ++ y) =
    sym (append_assoc (passing_piece p b) (passing_all p bs) x) ∙ (e ∙ append_assoc (passing_piece p d) (passing_all p ds) y) in
    let same = same_prefix (passing_piece p b) (passing_piece p d) (passing_all p bs ++ x) (passing_all p ds ++ y) (same_kind p.child p.last_child h.passings b d) moved in
    let rest = passings_once p h bs ds x y (omega (arith, len)) same.1 in
    (ap (λ z. z ++ passing_all p bs) same.0 ∙ ap (λ z. passing_piece p d ++ z) rest.0, rest.1)

-- pieces do not end both in a turning piece and in the marker
pub turning_is_no_marker : (p : Pieces) (marker : List ℕ) → IsReadableWith p marker → (above above' : List Bool) (last : Bool) (x y : List ℕ)
    → (passing_all p above ++ turning_piece p last) ++ x ≡ (passing_all p above' ++ marker) ++ y → ⊥
turning_is_no_marker p marker h [] [] last x y e = apart_not_both_starts marker (turning_piece p last) y x (h.apart last).0 (sym e)
turning_is_no_marker p marker h [] (d ∷ ds) last x y e =
    apart_not_both_starts (turning_piece p last) (passing_piece p d) x (passing_all p ds ++ (marker ++ y)) (h.pieces.turning_passing last d) (e ∙ simp append_assoc)
turning_is_no_marker p marker h (b ∷ bs) [] last x y e =
    apart_not_both_starts marker (passing_piece p b) y (passing_all p bs ++ (turning_piece p last ++ x)) (h.apart b).1 (sym e ∙ simp append_assoc)
turning_is_no_marker p marker h (b ∷ bs) (d ∷ ds) last x y e =
    let moved : passing_piece p b ++ ((passing_all p bs ++ turning_piece p last) ++ x) ≡ passing_piece p d ++ ((passing_all p ds ++ marker) ++ y) = simp append_assoc (simp append_assoc at e) in
    let same = same_prefix (passing_piece p b) (passing_piece p d) ((passing_all p bs ++ turning_piece p last) ++ x) ((passing_all p ds ++ marker) ++ y) (same_kind p.child p.last_child h.pieces.passings b d) moved in
    turning_is_no_marker p marker h bs ds last x y same.1

-- the parts of a text that begins as a further line
pub continued_prefix_parts : (k : Look) (passing x : List ℕ) → continued_prefix k passing ++ x ≡ (start_codes k.branch) ++ (passing ++ (k.marker ++ ((end_codes k.branch) ++ x)))
continued_prefix_parts k passing x = simp append_assoc

-- what comes after an entry's branch codes and pieces
unfoldable pub behind : Look → List ℕ → List ℕ → List ℕ → List ℕ
behind k passing text rest = (end_codes k.branch) ++ (with_inserted (continued_prefix k passing) (painted_text k.leaf text) ++ 10 ∷ rest)

-- the parts of an entry and the rest
pub text_entry_parts : (k : Look) (prefix passing text rest : List ℕ) → text_entry k prefix passing text ++ rest ≡ (start_codes k.branch) ++ (prefix ++ behind k passing text rest)
unfolding behind
text_entry_parts k prefix passing text rest = at (with_inserted (continued_prefix k passing) (painted_text k.leaf text)) where
  at : (own : List ℕ) → (painted_text k.branch prefix ++ own ++ 10 ∷ []) ++ rest ≡ (start_codes k.branch) ++ (prefix ++ ((end_codes k.branch) ++ (own ++ 10 ∷ rest)))
  at own = simp append_assoc

-- the prefix of further lines of one level is unique
pub further_prefix_once : (k : Look) → IsReadable k.pieces → (n : ℕ) (q q' x y : List ℕ) → ArePassing k.pieces n q → ArePassing k.pieces n q' → continued_prefix k q ++ x ≡ continued_prefix k q' ++ y → (q ≡ q') × (x ≡ y)
further_prefix_once k h n q q' x y (above, len, is) (above', len', is') e =
    let start : q ++ (k.marker ++ ((end_codes k.branch) ++ x)) ≡ q' ++ (k.marker ++ ((end_codes k.branch) ++ y)) =
    append_cancel_left (start_codes k.branch) _ _ (sym (continued_prefix_parts k q x) ∙ (e ∙ continued_prefix_parts k q' y)) in
    let moved : passing_all k.pieces above ++ (k.marker ++ ((end_codes k.branch) ++ x)) ≡ passing_all k.pieces above' ++ (k.marker ++ ((end_codes k.branch) ++ y)) =
    ap (λ z. z ++ (k.marker ++ ((end_codes k.branch) ++ x))) (sym is) ∙ (start ∙ ap (λ z. z ++ (k.marker ++ ((end_codes k.branch) ++ y))) is') in
    let same = passings_once k.pieces h above above' _ _ (len ∙ sym len') moved in
    (is ∙ (same.0 ∙ sym is'), append_cancel_left (end_codes k.branch) _ _ (append_cancel_left k.marker _ _ same.1))

-- the empty text continues no item
pub nothing_continues : (k : Look) → IsReadableWith k.pieces k.marker → (n : ℕ) → IsNotContinued k n []
nothing_continues k h n q z at e = some k.marker (turning_piece k.pieces false) (start_codes k.branch) q ((end_codes k.branch) ++ z) (h.apart false).0 (e ∙ continued_prefix_parts k q z)
  where
    some : (m t a b c : List ℕ) → ArePrefixFree m t → [] ≡ a ++ (b ++ (m ++ c)) → ⊥
    some [] t a b c apart e = apart.0 (t, refl)
    some (x ∷ m) t a b c apart e = let long = ap length e in omega (arith, simp length-append at long)

-- an item's own line does not continue the item before it
pub item_does_not_continue : (k : Look) → IsReadableWith k.pieces k.marker → (n m : ℕ) (pieces passing text rest : List ℕ) → ArePiecesAt k.pieces m pieces → IsNotContinued k n (text_entry k pieces passing text ++ rest)
item_does_not_continue k h n zero pieces passing text rest at q z is e = absurd at
item_does_not_continue k h n (suc m) pieces passing text rest (above, last, len, is) q z (above', len', is') e =
    let start : pieces ++ behind k passing text rest ≡ q ++ (k.marker ++ ((end_codes k.branch) ++ z)) =
    append_cancel_left (start_codes k.branch) _ _ (sym (text_entry_parts k pieces passing text rest) ∙ (e ∙ continued_prefix_parts k q z)) in
    turning_is_no_marker k.pieces k.marker h above above' last (behind k passing text rest) ((end_codes k.branch) ++ z)
    (ap (λ y. y ++ behind k passing text rest) (sym is) ∙ (start ∙ (ap (λ y. y ++ (k.marker ++ ((end_codes k.branch) ++ z))) is'
    ∙ sym (append_assoc (passing_all k.pieces above') k.marker ((end_codes k.branch) ++ z)))))

-- a list of items does not continue the item before it
pub items_do_not_continue : (k : Look) → IsReadableWith k.pieces k.marker → (n : ℕ) (lines : List SpelledItem) → All (IsSpelled k.pieces) lines → IsNotContinued k n (spelled_text k lines)
items_do_not_continue k h n [] are = nothing_continues k h n
items_do_not_continue k h n (l ∷ lines) are = item_does_not_continue k h n l.level l.pieces l.passing l.text (spelled_text k lines) (All-head (IsSpelled k.pieces) l lines are).0
