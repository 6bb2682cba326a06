-- A text shows its items in only one way.
use Rattle.std.proofs.Common.{◌≡◌, ℕ, Bool, true, false, List, [], ◌∷◌, ◌++◌, length, length-append, All, inl, inr, refl, sym, ap, ◌∙◌, subst, append_assoc, arith}
use Rattle.std.proofs.lemmas.Bool.{false≢true}
use Rattle.std.proofs.lemmas.List.{append_cancel_left, append_cancel_right}
use Rattle.std.proofs.lemmas.List.Elements.{All-nil, All-head, All-tail}
use Rattle.ptree.specs.Address.{at}
use Rattle.ptree.specs.Drawing.{Look, with_inserted, continued_prefix}
use Rattle.ptree.specs.Readable.{IsReadableWith}
use Rattle.ptree.specs.Spelled.{has_line_feed, SpelledItem, spelled_item, ArePassing, IsShown, IsSpelled, IsNotContinued, text_entry, spelled_text, HasItem, HasRoot}
use Rattle.ptree.specs.Style.{start_codes, end_codes, painted_text}
use Rattle.ptree.proofs.Pieces.Prefixes.{same_pieces}
use Rattle.ptree.proofs.Drawing.Inserted.{is_feed, inserted_feed, inserted_other, feed_here, feed_tail, feed_behind, feed_painted}
use Rattle.ptree.proofs.Reading.Markers.{behind, text_entry_parts, further_prefix_once, item_does_not_continue, items_do_not_continue}

-- the own bytes of two items of one level at the start of one text are the same
pub record SameOwn (u u' q q' x y : List ℕ) : Type 0 where
  pub own : u ≡ u'
  pub passing : has_line_feed u ≡ true → q ≡ q'
  pub rest : x ≡ y

-- own bytes end at the first line feed that nothing continues
pub own_once : (k : Look) → IsReadableWith k.pieces k.marker → (n : ℕ) (u u' q q' rest rest' : List ℕ)
    → (has_line_feed u ≡ true → ArePassing k.pieces n q) → (has_line_feed u' ≡ true → ArePassing k.pieces n q') → IsNotContinued k n rest → IsNotContinued k n rest'
    → with_inserted (continued_prefix k q) u ++ 10 ∷ rest ≡ with_inserted (continued_prefix k q') u' ++ 10 ∷ rest' → SameOwn u u' q q' rest rest'
own_once k h n [] [] q q' rest rest' a b s t e = record { own = refl; passing = λ f. absurd (false≢true f); rest = cc }
own_once k h n [] (c ∷ u') q q' rest rest' a b s t e = elim (is_feed c) [
  | inl g ↦
      let e' : 10 ∷ rest ≡ (10 ∷ (continued_prefix k q' ++ with_inserted (continued_prefix k q') u')) ++ 10 ∷ rest' = e ∙ ap (λ z. z ++ 10 ∷ rest') (inserted_feed (continued_prefix k q') c u' g) in
      let more : rest ≡ (continued_prefix k q' ++ with_inserted (continued_prefix k q') u') ++ 10 ∷ rest' = cc in
      absurd (s q' (with_inserted (continued_prefix k q') u' ++ 10 ∷ rest') (b (feed_here c u' g)) (more ∙ append_assoc (continued_prefix k q') _ _))
  | inr g ↦
      let e' : 10 ∷ rest ≡ (c ∷ with_inserted (continued_prefix k q') u') ++ 10 ∷ rest' = e ∙ ap (λ z. z ++ 10 ∷ rest') (inserted_other (continued_prefix k q') c u' g) in
      absurd (g (let heads : c ≡ 10 = cc in heads))
]
own_once k h n (c ∷ u) [] q q' rest rest' a b s t e = elim (is_feed c) [
  | inl g ↦
      let e' : (10 ∷ (continued_prefix k q ++ with_inserted (continued_prefix k q) u)) ++ 10 ∷ rest ≡ 10 ∷ rest' = ap (λ z. z ++ 10 ∷ rest) (sym (inserted_feed (continued_prefix k q) c u g)) ∙ e in
      let more : rest' ≡ (continued_prefix k q ++ with_inserted (continued_prefix k q) u) ++ 10 ∷ rest = cc in
      absurd (t q (with_inserted (continued_prefix k q) u ++ 10 ∷ rest) (a (feed_here c u g)) (more ∙ append_assoc (continued_prefix k q) _ _))
  | inr g ↦
      let e' : (c ∷ with_inserted (continued_prefix k q) u) ++ 10 ∷ rest ≡ 10 ∷ rest' = ap (λ z. z ++ 10 ∷ rest) (sym (inserted_other (continued_prefix k q) c u g)) ∙ e in
      absurd (g (let heads : c ≡ 10 = cc in heads))
]
own_once k h n (c ∷ u) (d ∷ u') q q' rest rest' a b s t e = elim (is_feed c) [
  | inl g ↦ elim (is_feed d) [
    | inl f ↦
        let e' : (10 ∷ (continued_prefix k q ++ with_inserted (continued_prefix k q) u)) ++ 10 ∷ rest ≡ (10 ∷ (continued_prefix k q' ++ with_inserted (continued_prefix k q') u')) ++ 10 ∷ rest' =
        ap (λ z. z ++ 10 ∷ rest) (sym (inserted_feed (continued_prefix k q) c u g)) ∙ (e ∙ ap (λ z. z ++ 10 ∷ rest') (inserted_feed (continued_prefix k q') d u' f)) in
        let tails : (continued_prefix k q ++ with_inserted (continued_prefix k q) u) ++ 10 ∷ rest ≡ (continued_prefix k q' ++ with_inserted (continued_prefix k q') u') ++ 10 ∷ rest' = cc in
        let markers = further_prefix_once k h.pieces n q q' _ _ (a (feed_here c u g)) (b (feed_here d u' f)) (sym (append_assoc (continued_prefix k q) _ _) ∙ (tails ∙ append_assoc (continued_prefix k q') _ _)) in
        let others = own_once k h n u u' q q' rest rest' (λ i. a (feed_behind c u i)) (λ i. b (feed_behind d u' i)) s t markers.1 in
        let heads : c ≡ d = g ∙ sym f in
        record { own = ap (λ z. z ∷ u) heads ∙ ap (λ z. d ∷ z) others.own; passing = λ i. markers.0; rest = others.rest }
    | inr f ↦
        let e' : (10 ∷ (continued_prefix k q ++ with_inserted (continued_prefix k q) u)) ++ 10 ∷ rest ≡ (d ∷ with_inserted (continued_prefix k q') u') ++ 10 ∷ rest' =
        ap (λ z. z ++ 10 ∷ rest) (sym (inserted_feed (continued_prefix k q) c u g)) ∙ (e ∙ ap (λ z. z ++ 10 ∷ rest') (inserted_other (continued_prefix k q') d u' f)) in
        absurd (f (let heads : d ≡ 10 = cc in heads))
  ]
  | inr g ↦ elim (is_feed d) [
    | inl f ↦
        let e' : (c ∷ with_inserted (continued_prefix k q) u) ++ 10 ∷ rest ≡ (10 ∷ (continued_prefix k q' ++ with_inserted (continued_prefix k q') u')) ++ 10 ∷ rest' =
        ap (λ z. z ++ 10 ∷ rest) (sym (inserted_other (continued_prefix k q) c u g)) ∙ (e ∙ ap (λ z. z ++ 10 ∷ rest') (inserted_feed (continued_prefix k q') d u' f)) in
        absurd (g (let heads : c ≡ 10 = cc in heads))
    | inr f ↦
        let e' : (c ∷ with_inserted (continued_prefix k q) u) ++ 10 ∷ rest ≡ (d ∷ with_inserted (continued_prefix k q') u') ++ 10 ∷ rest' =
        ap (λ z. z ++ 10 ∷ rest) (sym (inserted_other (continued_prefix k q) c u g)) ∙ (e ∙ ap (λ z. z ++ 10 ∷ rest') (inserted_other (continued_prefix k q') d u' f)) in
        let heads : c ≡ d = cc in
        let tails : with_inserted (continued_prefix k q) u ++ 10 ∷ rest ≡ with_inserted (continued_prefix k q') u' ++ 10 ∷ rest' = cc in
        let others = own_once k h n u u' q q' rest rest' (λ i. a (feed_behind c u i)) (λ i. b (feed_behind d u' i)) s t tails in
        record { own = ap (λ z. z ∷ u) heads ∙ ap (λ z. d ∷ z) others.own; passing = λ i. others.passing (sym (feed_tail c u g) ∙ i); rest = others.rest }
  ]
]

-- equal painted texts are of equal texts
same_painted : (k : Look) (t u : List ℕ) → painted_text k.leaf t ≡ painted_text k.leaf u → t ≡ u
same_painted k t u e = append_cancel_left (start_codes k.leaf) t u (append_cancel_right ((start_codes k.leaf) ++ t) ((start_codes k.leaf) ++ u) (end_codes k.leaf) e)

-- the texts of two items of one level at the start of one text are the same
text_once : (k : Look) → IsReadableWith k.pieces k.marker → (n : ℕ) (t u q q' rest rest' : List ℕ) → (has_line_feed t ≡ true → ArePassing k.pieces n q) → (has_line_feed u ≡ true → ArePassing k.pieces n q')
    → IsNotContinued k n rest → IsNotContinued k n rest' → behind k q t rest ≡ behind k q' u rest' → SameOwn t u q q' rest rest'
unfolding behind
text_once k h n t u q q' rest rest' a b s r e =
    let same = own_once k h n (painted_text k.leaf t) (painted_text k.leaf u) q q' rest rest'
    (λ i. a (sym (feed_painted k.leaf t) ∙ i)) (λ i. b (sym (feed_painted k.leaf u) ∙ i)) s r (append_cancel_left (end_codes k.branch) _ _ e) in
    record { own = same_painted k t u same.own; passing = λ i. same.passing (feed_painted k.leaf t ∙ i); rest = same.rest }

-- items with equal parts are equal
same_spelled : (r s : SpelledItem) → r.level ≡ s.level → r.pieces ≡ s.pieces → r.passing ≡ s.passing → r.text ≡ s.text → r ≡ s
same_spelled r s e f d g =
    ap (λ z. spelled_item z r.pieces r.passing r.text) e ∙ (ap (λ z. spelled_item s.level z r.passing r.text) f
    ∙ (ap (λ z. spelled_item s.level s.pieces z r.text) d ∙ ap (λ z. spelled_item s.level s.pieces s.passing z) g))

-- the passing pieces that one text shows are the same
same_shown : (k : Look) (n m : ℕ) (q q' t u : List ℕ) → IsShown k.pieces n q t → IsShown k.pieces m q' u → t ≡ u → (has_line_feed t ≡ true → q ≡ q') → q ≡ q'
same_shown k n m q q' t u a b e h = at (has_line_feed t) refl where
  at : (f : Bool) → has_line_feed t ≡ f → q ≡ q'
  at true i = h i
  at false i = a.single i ∙ sym (b.single (ap has_line_feed (sym e) ∙ i))

-- the item at the start of a text is unique
pub line_at_once : (k : Look) → IsReadableWith k.pieces k.marker → (r s : SpelledItem) (x rest rest' : List ℕ) → HasItem k r rest x → HasItem k s rest' x → (r ≡ s) × (rest ≡ rest')
line_at_once k readable r s x rest rest' ((at, shown), is, stop) ((at', shown'), is', stop') =
    let whole : (start_codes k.branch) ++ (r.pieces ++ behind k r.passing r.text rest) ≡ (start_codes k.branch) ++ (s.pieces ++ behind k s.passing s.text rest') =
    sym (text_entry_parts k r.pieces r.passing r.text rest) ∙ (sym is ∙ (is' ∙ text_entry_parts k s.pieces s.passing s.text rest')) in
    let pieces = same_pieces k.pieces readable.pieces r.level s.level r.pieces s.pieces at at' _ _ (append_cancel_left (start_codes k.branch) _ _ whole) in
    let level = pieces.level in
    let texts = text_once k readable s.level r.text s.text r.passing s.passing rest rest'
    (λ i. subst (λ n. ArePassing k.pieces n r.passing) level (shown.further i)) shown'.further (subst (λ n. IsNotContinued k n rest) level stop) stop' pieces.rest in
    (same_spelled r s level pieces.pieces (same_shown k r.level s.level r.passing s.passing r.text s.text shown shown' texts.own texts.passing) texts.own, texts.rest)

-- level 0 has no passing pieces
pub none_passing : (k : Look) → ArePassing k.pieces 0 []
none_passing k = ([], refl, refl)

-- the root at the start of a text is unique
pub root_once : (k : Look) → IsReadableWith k.pieces k.marker → (a b x rest rest' : List ℕ) → HasRoot k a rest x → HasRoot k b rest' x → (a ≡ b) × (rest ≡ rest')
root_once k readable a b x rest rest' (is, stop) (is', stop') =
    let same = text_once k readable 0 a b [] [] rest rest' (λ i. none_passing k) (λ i. none_passing k) stop stop'
    (append_cancel_left (start_codes k.branch) _ _ (sym (text_entry_parts k [] [] a rest) ∙ (sym is ∙ (is' ∙ text_entry_parts k [] [] b rest')))) in
    (same.own, same.rest)

-- a text with an entry in it is not empty
pub entry_not_nil : (k : Look) (prefix passing text rest : List ℕ) → text_entry k prefix passing text ++ rest ≡ [] → ⊥
entry_not_nil k prefix passing text rest e = at (with_inserted (continued_prefix k passing) (painted_text k.leaf text)) e where
  at : (own : List ℕ) → (painted_text k.branch prefix ++ own ++ 10 ∷ []) ++ rest ≡ [] → ⊥
  at own e = let long = ap length e in omega (arith, simp length-append at long)

-- rest does not continue the last of the items
abbrev pub Stops : Look → List SpelledItem → List ℕ → Type 0
Stops k [] rest = Unit {0}
Stops k (l ∷ []) rest = IsNotContinued k l.level rest
Stops k (l ∷ m ∷ lines) rest = Stops k (m ∷ lines) rest

-- items that stop before a text do so without the first
stops_tail : (k : Look) (l : SpelledItem) (lines : List SpelledItem) (rest : List ℕ) → Stops k (l ∷ lines) rest → Stops k lines rest
stops_tail k l [] rest s = tt
stops_tail k l (m ∷ lines) rest s = s

-- what follows the first of such items does not continue it
stops_head : (k : Look) → IsReadableWith k.pieces k.marker → (l : SpelledItem) (lines : List SpelledItem) (rest : List ℕ) → All (IsSpelled k.pieces) lines → Stops k (l ∷ lines) rest → IsNotContinued k l.level (spelled_text k lines ++ rest)
stops_head k h l [] rest are s = s
stops_head k h l (m ∷ lines) rest are s =
    subst (λ z. IsNotContinued k l.level z) (sym (append_assoc (text_entry k m.pieces m.passing m.text) (spelled_text k lines) rest))
    (item_does_not_continue k h l.level m.level m.pieces m.passing m.text (spelled_text k lines ++ rest) (All-head (IsSpelled k.pieces) m lines are).0)

-- if items are at the start of a text, and what follows does not continue the last one, then any
-- items of that text begin with them
pub record GoesOn (k : Look) (lines all : List SpelledItem) (rest : List ℕ) : Type 0 where
  pub more : List SpelledItem
  pub are : all ≡ lines ++ more
  pub are_spelled : All (IsSpelled k.pieces) more
  pub rest_is : rest ≡ spelled_text k more

-- any items of a text begin with those at its start
pub lines_once : (k : Look) → IsReadableWith k.pieces k.marker → (lines all : List SpelledItem) (rest : List ℕ)
    → All (IsSpelled k.pieces) lines → All (IsSpelled k.pieces) all → Stops k lines rest → spelled_text k lines ++ rest ≡ spelled_text k all → GoesOn k lines all rest
lines_once k readable [] all rest h g s e = record { more = all; are = refl; are_spelled = g; rest_is = e }
lines_once k readable (r ∷ lines) [] rest h g s e =
    absurd (entry_not_nil k r.pieces r.passing r.text (spelled_text k lines ++ rest) (sym (append_assoc (text_entry k r.pieces r.passing r.text) (spelled_text k lines) rest) ∙ e))
lines_once k readable (r ∷ lines) (l ∷ all) rest h g s e =
    let lines_are = All-tail (IsSpelled k.pieces) r lines h in
    let all_are = All-tail (IsSpelled k.pieces) l all g in
    let first = line_at_once k readable r l (spelled_text k (l ∷ all)) (spelled_text k lines ++ rest) (spelled_text k all)
    (All-head (IsSpelled k.pieces) r lines h, sym e ∙ append_assoc (text_entry k r.pieces r.passing r.text) (spelled_text k lines) rest, stops_head k readable r lines rest lines_are s)
    (All-head (IsSpelled k.pieces) l all g, refl, items_do_not_continue k readable l.level all all_are) in
    let others = lines_once k readable lines all rest lines_are all_are (stops_tail k r lines rest s) first.1 in
    record {
      more = others.more;
      are = ap (λ z. z ∷ all) (sym first.0) ∙ ap (λ z. r ∷ z) others.are;
      are_spelled = others.are_spelled;
      rest_is = others.rest_is;
    }

-- the end of a text continues nothing
pub stops_at_end : (k : Look) → IsReadableWith k.pieces k.marker → (lines : List SpelledItem) → Stops k lines []
stops_at_end k h [] = tt
stops_at_end k h (l ∷ []) = items_do_not_continue k h l.level [] (All-nil (IsSpelled k.pieces))
stops_at_end k h (l ∷ m ∷ lines) = stops_at_end k h (m ∷ lines)
