-- With which pieces a drawing can go on after some lines.
use Rattle.trees.proofs.Common.{◌≡◌, ◌≢◌, ℕ, suc, ◌+◌, ◌<◌, ◌⊎◌, Bool, true, false, List, [], ◌∷◌, ◌++◌, codes, length, map, get_or, Result, Ok, Err, String, Global, string_bytes, inl, inr, refl, sym, ap, ◌∙◌, subst, append_assoc, ◌↔◌, Contains, IfOk, arith, cases_lt, ConfigValue, HasContinuation, IsFollowedBy, AreFlags, IsReadable, IsReadableWith, ArePassing, ArePiecesAt, style_codes}
use Rattle.std.proofs.lemmas.List.{append-nil, get_or_default, get_or-map, length-map}
use Rattle.ptree.specs.declared.print_config.OutputKind.TheVariants.{Unknown}
use Rattle.ptree.specs.Drawing.{Look, look_by, effective_style}
use Rattle.ptree.specs.Pieces.{Pieces, turning_piece, passing_piece, passing_all, pieces_from}
use Rattle.ptree.proofs.Pieces.Prefixes.{apart_not_both_starts, same_kind, same_prefix}
use Rattle.ptree.proofs.Styles.PaintedTexts.{plain_codes}
use Rattle.trees.specs.Expected.{CanFollow, IsBeginning, IsUncoloured, ListsBeginnings, IsLastLine, AreDistinct, AddsListed, AddsTexts, IsFlagged, EndsPieces, EndsFront, AreFronts, HasFronts}
use Rattle.trees.proofs.DistinctTexts.{all_contained, distinct_at, adds_same, adds_both, texts_both}
use Rattle.trees.proofs.NextFronts.{lets_front, IsPlainLook, each_let}

-- ## Pieces

-- passing pieces before an item's are unique
fronts_once : (p : Pieces) → IsReadable p → (above other : List Bool) (a b : Bool) → passing_all p above ++ turning_piece p a ≡ passing_all p other ++ turning_piece p b → passing_all p above ≡ passing_all p other
fronts_once p h [] [] a b e = refl
fronts_once p h [] (y ∷ ys) a b e =
    absurd (apart_not_both_starts (turning_piece p a) (passing_piece p y) [] (passing_all p ys ++ turning_piece p b) (h.turning_passing a y)
    (append-nil (turning_piece p a) ∙ (e ∙ append_assoc (passing_piece p y) (passing_all p ys) (turning_piece p b))))
fronts_once p h (x ∷ xs) [] a b e =
    absurd (apart_not_both_starts (turning_piece p b) (passing_piece p x) [] (passing_all p xs ++ turning_piece p a) (h.turning_passing b x)
    (append-nil (turning_piece p b) ∙ (sym e ∙ append_assoc (passing_piece p x) (passing_all p xs) (turning_piece p a))))
fronts_once p h (x ∷ xs) (y ∷ ys) a b e =
    let moved = sym (append_assoc (passing_piece p x) (passing_all p xs) (turning_piece p a)) ∙ (e ∙ append_assoc (passing_piece p y) (passing_all p ys) (turning_piece p b)) in
    let same = same_prefix (passing_piece p x) (passing_piece p y) (passing_all p xs ++ turning_piece p a) (passing_all p ys ++ turning_piece p b) (same_kind p.child p.last_child h.passings x y) moved in
    ap (λ z. z ++ passing_all p xs) same.0 ∙ ap (λ z. passing_piece p y ++ z) (fronts_once p h xs ys a b same.1)

-- the pieces of items behind different passing pieces are different
behind_apart : (p : Pieces) → IsReadable p → (m n : ℕ) (f g x y : List ℕ) → ArePassing p m f → ArePassing p n g → f ≢ g → EndsPieces p f x → EndsPieces p g y → x ≢ y
behind_apart p h m n f g x y (above, _, is) (other, _, are) apart (a, one) (b, two) e =
    let same = ap (λ z. z ++ turning_piece p a) (sym is) ∙ (sym one ∙ (e ∙ (two ∙ ap (λ z. z ++ turning_piece p b) are))) in
    apart (is ∙ (fronts_once p h above other a b same ∙ sym are))

-- a turning piece behind passing ones makes the pieces of an item
item_pieces : (p : Pieces) (n : ℕ) (front text : List ℕ) → ArePassing p n front → EndsPieces p front text → (level : ℕ) × ArePiecesAt p level text
item_pieces p n front text (above, count, is) (last, ends) = (suc n, (above, last, count, ends ∙ ap (λ z. z ++ turning_piece p last) is))

-- an item's piece is one of two
pub either_piece : (p : Pieces) (front text : List ℕ) → EndsPieces p front text → (text ≡ front ++ turning_piece p false) ⊎ (text ≡ front ++ turning_piece p true)
either_piece p front text (false, is) = inl is
either_piece p front text (true, is) = inr is

-- or there is one alone
pub one_piece : (p : Pieces) → turning_piece p true ≡ turning_piece p false → (front text : List ℕ) → EndsPieces p front text → text ≡ front ++ turning_piece p false
one_piece p same front text (false, is) = is
one_piece p same front text (true, is) = is ∙ ap (λ z. front ++ z) same

-- ## Beginnings

-- the pieces of an item behind one of the first fronts, with which a drawing can go on
abbrev pub IsBehind : ConfigValue → List ℕ → Pieces → List (List ℕ) → ℕ → List ℕ → Type 0
IsBehind config lines p fronts n text = CanFollow config lines text × EndsFront p fronts n text

-- behind none of them there is none
pub behind_none : (p : Pieces) (fronts : List (List ℕ)) (text : List ℕ) → EndsFront p fronts 0 text → ⊥
behind_none p fronts text so = omega (arith, so.1)

-- the pieces behind one front more
pub next_items : (p : Pieces) → IsReadable p → (fronts : List (List ℕ)) → AreFronts p fronts → (i : ℕ) (front : List ℕ) → i < length fronts → front ≡ get_or fronts i [] → (a b : List (List ℕ))
    → AddsTexts (EndsFront p fronts i) [] a → AddsTexts (EndsPieces p front) a b → AddsTexts (EndsFront p fronts (i + 1)) [] b
next_items p readable fronts are i front low is a b before added =
    let (n, passes) = subst (λ z. (level : ℕ) × ArePassing p level z) (sym is) (are.0 i [] low) in
    texts_both (EndsFront p fronts i) (EndsPieces p front) (EndsFront p fronts (i + 1))
    (λ text so. (so.0, omega (arith, so.1), so.2))
    (λ text new. (i, omega arith, subst (λ z. EndsPieces p z text) is new))
    (λ text so. elim (cases_lt so.0 i) [
      | inl less ↦ inl (so.0, less, so.2)
      | inr more ↦ let same : so.0 ≡ i = omega (arith, so.1, more) in inr (subst (λ z. EndsPieces p z text) (ap (λ k. get_or fronts k []) same ∙ sym is) so.2)
    ])
    (λ x y so new.
    let (m, passed) = are.0 so.0 [] (omega (arith, so.1)) in
    behind_apart p readable m n (get_or fronts so.0 []) front x y passed passes (λ e. distinct_at fronts so.0 i are.1 so.1 low (e ∙ is)) so.2 new)
    [] a b before added

-- ## Flags

-- of no texts none has its flag set
pub flagged_none : (texts : List (List ℕ)) (flags : List Bool) (text : List ℕ) → IsFlagged texts flags 0 text → ⊥
flagged_none texts flags text so = omega (arith, so.1)

-- one text more, if its flag is set
pub next_flagged : (texts : List (List ℕ)) (flags : List Bool) → AreDistinct texts → (i : ℕ) (text : List ℕ) → i < length texts → text ≡ get_or texts i [] → (a b : List ℕ) → AddsListed (IsFlagged texts flags i) [] a
    → AddsListed (λ x. (get_or flags i false ≡ true) × (x ≡ text)) a b → AddsListed (IsFlagged texts flags (i + 1)) [] b
next_flagged texts flags once i text low is a b before added =
    adds_both (IsFlagged texts flags i) (λ x. (get_or flags i false ≡ true) × (x ≡ text)) (IsFlagged texts flags (i + 1))
    (λ x so. (so.0, omega (arith, so.1), so.2, so.3))
    (λ x new. (i, omega arith, new.0, new.1 ∙ is))
    (λ x so. elim (cases_lt so.0 i) [
      | inl less ↦ inl (so.0, less, so.2, so.3)
      | inr more ↦
          let same : so.0 ≡ i = omega (arith, so.1, more) in
          inr (subst (λ k. get_or flags k false ≡ true) same so.2, so.3 ∙ (ap (λ k. get_or texts k []) same ∙ sym is))
    ])
    (λ x y so new e. distinct_at texts so.0 i once so.1 low (sym so.3 ∙ (e ∙ (new.1 ∙ is))))
    [] a b before added

-- the flags of lines that begin with the pieces of items list those with which a drawing can go on
pub follows_listed : (config : ConfigValue) (lines : List ℕ) (p : Pieces) (fronts texts : List (List ℕ)) (n : ℕ) (flags : List Bool) (listed : List ℕ) → AddsTexts (EndsFront p fronts n) [] texts
    → AreFlags (IsFollowedBy (look_by config Unknown false) config.depth lines) (map (λ text. text ++ codes "x") texts) flags → AddsListed (IsFlagged texts flags (length flags)) [] listed
    → AddsListed (IsBehind config lines p fronts n) [] listed
follows_listed config lines p fronts texts n flags listed h are added =
    let within : (x : List ℕ) → Contains texts x ↔ EndsFront p fronts n x = subst (λ z. (x : List ℕ) → Contains z x ↔ EndsFront p fronts n x) (sym h.1) h.2 in
    adds_same (IsFlagged texts flags (length flags)) (IsBehind config lines p fronts n) [] listed
    (λ x so.
    let low : so.0 < length texts = omega (arith, so.1, count) in
    (subst (CanFollow config lines) (sym so.3) ((follows so.0 low).0 so.2), (within x).0 (so.0, low, get_or_default texts so.0 x [] low ∙ sym so.3)))
    (λ x so.
    let (k, low, there) = (within x).1 so.1 in
    let is : x ≡ get_or texts k [] = sym (get_or_default texts k [] x low ∙ there) in
    (k, omega (arith, low, count), (follows k low).1 (subst (CanFollow config lines) is so.0), is)) added
  where
    count : length flags ≡ length texts
    count = are.count ∙ length-map texts (λ text. text ++ codes "x")

    follows : (k : ℕ) → k < length texts → (get_or flags k false ≡ true) ↔ CanFollow config lines (get_or texts k [])
    follows k low =
        let x : List ℕ = get_or texts k [] in
        let line : get_or (map (λ text. text ++ codes "x") texts) k [] ≡ x ++ codes "x" = get_or-map (λ text. text ++ codes "x") texts k [] [] low in
        subst (λ z. (get_or flags k false ≡ true) ↔ HasContinuation (look_by config Unknown false) config.depth (lines ++ z)) (ap (λ z. z ++ 10 ∷ []) line ∙ append_assoc x (codes "x") (10 ∷ []))
        (are.each k (rw length-map low))

-- what is made of a list is what is made of its texts
pub if_listed : {E : Type 0} (P Q : List ℕ → Type 0) (r : Result (String Global) E) → ((x : List ℕ) → P x → Q x) → IfOk r (λ s. P (string_bytes s)) → IfOk r (λ s. Q (string_bytes s))
if_listed P Q (Ok s) f h = f (string_bytes s) h
if_listed P Q (Err e) f h = tt

-- drawings that are not coloured have no codes
plain_look : (config : ConfigValue) → IsUncoloured config → IsPlainLook (look_by config Unknown false)
plain_look config plain = (
  ap (λ s. style_codes (effective_style s config.branch)) plain ∙ plain_codes,
  ap (λ s. style_codes (effective_style s config.leaf)) plain ∙ plain_codes,
)

-- those behind all fronts of the last line are the beginnings
pub listed_beginnings : (config : ConfigValue) (lines line : List ℕ) → IsReadableWith (pieces_from config.characters config.indent config.padding) config.continued
    → ((front : List ℕ) → lines ≡ front ++ 10 ∷ [] → IsLastLine front line)
    → (fronts : List (List ℕ)) → AreFronts (pieces_from config.characters config.indent config.padding) fronts → HasFronts (pieces_from config.characters config.indent config.padding) line fronts
    → (n : ℕ) → n ≡ length fronts → (listed : List ℕ) → AddsListed (IsBehind config lines (pieces_from config.characters config.indent config.padding) fronts n) [] listed → ListsBeginnings config lines listed
listed_beginnings config lines line readable last fronts are has n all listed h = record {
  texts = h.0;
  listed_is = h.1;
  each_once = h.3;
  no_other = all_contained (IsBeginning config lines) h.0 (λ text there.
      let so = (h.2 text).0 there in
      let (m, passes) = are.0 so.1.0 [] (omega (arith, so.1.1, all)) in
      let (level, at) = item_pieces p m (get_or fronts so.1.0 []) text passes so.1.2 in
      (level, (at, so.0)));
  all = λ plain whole level text low is.
      let goes : HasContinuation k config.depth ((whole.0 ++ 10 ∷ []) ++ (text ++ 120 ∷ 10 ∷ [])) = subst (λ z. HasContinuation k config.depth (z ++ (text ++ 120 ∷ 10 ∷ []))) whole.1 is.1 in
      let found = each_let k readable (plain_look config plain) config.depth whole.0 line (last whole.0 whole.1) level text is.0 goes in
      let (i, inside, here) = lets_front p line fronts has found.n found.front (omega (arith, low, found.level_is)) found.lets in
      let there : get_or fronts i [] ≡ found.front = get_or_default fronts i [] found.front inside ∙ here in
      (h.2 text).1 (is.1, (i, omega (arith, inside, all), subst (λ z. EndsPieces p z text) (sym there) found.ends));
} where
  k : Look
  k = look_by config Unknown false

  p : Pieces
  p = pieces_from config.characters config.indent config.padding
