-- Items given by their addresses, one by one, are drawn as their shape.
use Rattle.std.proofs.Common.{◌≡◌, ℕ, zero, suc, ◌-◌, ◌<◌, Bool, cond, None, Some, List, [], ◌∷◌, ◌++◌, length, map, take, refl, sym, ap, ◌∙◌, subst, arith}
use Rattle.std.specs.Prelude.{flat_map}
use Rattle.std.proofs.lemmas.Bool.{ne_eqb}
use Rattle.std.proofs.lemmas.List.{map-append, take-map}
use Rattle.ptree.specs.Address.{Address, is_last, prefixes, parent}
use Rattle.ptree.specs.Drawing.{Look, entry_from, own_at, passing_text, entry_text}
use Rattle.ptree.specs.GivenItems.{last_of, entry_below, entry_behind, path_with, GivenItem, given_text, IsAt, AreAt, DrawsItems}
use Rattle.ptree.specs.Pieces.{passing_piece, turning_piece, passing_all}
use Rattle.ptree.specs.Shape.{Shape, kids}
use Rattle.ptree.proofs.Drawing.Addresses.{branches, walk, walk_is_list, one_list}
use Rattle.ptree.proofs.Reading.Paths.{passing_all-push}

-- whether each item on the way down to an address is a last child
abbrev flags_at : Shape → Address → List Bool
flags_at x a = map (is_last kids x) (prefixes a)

-- each address has the address before it on its way down, but for its last step
abbrev Behind : Address → List Address → Type 0
Behind a [] = Unit {0}
Behind a (b ∷ bs) = (0 < length b) × (take (length b - 1) a ≡ parent b) × Behind b bs

-- the first prefixes are those of the first steps
prefixes_first : (n : ℕ) (a : Address) → take n (prefixes a) ≡ prefixes (take n a)
prefixes_first zero a = refl
prefixes_first (suc n) [] = refl
prefixes_first (suc n) (i ∷ r) = ap (λ z. (i ∷ []) ∷ z) (take-map (λ b. i ∷ b) n (prefixes r) ∙ ap (map (λ b. i ∷ b)) (prefixes_first n r))

-- the last prefix is the address itself
prefixes_last : (b : Address) → 0 < length b → prefixes b ≡ prefixes (parent b) ++ b ∷ []
prefixes_last [] h = absurd (omega (arith, h))
prefixes_last (i ∷ []) h = refl
prefixes_last (i ∷ j ∷ r) h =
    ap (λ z. (i ∷ []) ∷ z) (ap (map (λ b. i ∷ b)) (prefixes_last (j ∷ r) (omega arith)) ∙ map-append (λ b. i ∷ b) (prefixes (parent (j ∷ r))) ((j ∷ r) ∷ []))

-- its flags are its parent's and its own
flags_last : (x : Shape) (b : Address) → 0 < length b → flags_at x b ≡ flags_at x (parent b) ++ is_last kids x b ∷ []
flags_last x b h = ap (map (is_last kids x)) (prefixes_last b h) ∙ map-append (is_last kids x) (prefixes (parent b)) (b ∷ [])

-- the passing text is the passing pieces by the flags
passing_by_flags : (look : Look) (x : Shape) (bs : List Address) → flat_map (λ b. passing_piece look.pieces (is_last kids x b)) bs ≡ passing_all look.pieces (map (is_last kids x) bs)
passing_by_flags look x [] = refl
passing_by_flags look x (b ∷ bs) = ap (λ z. passing_piece look.pieces (is_last kids x b) ++ z) (passing_by_flags look x bs)

-- an address is behind another one below the same first step
behind_map : (n : ℕ) (a : Address) (bs : List Address) → Behind a bs → Behind (n ∷ a) (map (λ b. n ∷ b) bs)
behind_map n a [] h = tt
behind_map n a ([] ∷ bs) h = absurd (omega (arith, h.0))
behind_map n a ((j ∷ r) ∷ bs) h =
    let one : suc (suc (length r)) - 1 ≡ suc (suc (length r) - 1) = omega arith in
    (omega arith, ap (λ m. take m (n ∷ a)) one ∙ ap (λ z. n ∷ z) h.1, behind_map n (j ∷ r) bs h.2)

behind_append : (a : Address) (xs ys : List Address) → Behind a xs → ((c : Address) → Behind c ys) → Behind a (xs ++ ys)
behind_append a [] ys h f = f a
behind_append a (x ∷ xs) ys h f = (h.0, h.1, behind_append x xs ys h.2 f)

-- the addresses below an item's children are behind any address above them
behind_branches : {X : Type 0} (below : X → List X) (d n : ℕ) (cs : List X) (a : Address) → Behind a (branches (walk below d) n cs)
behind_branches below d n [] a = tt
behind_branches below zero n (c ∷ cs) a = (omega arith, refl, behind_branches below zero (suc n) cs (n ∷ []))
behind_branches below (suc d) n (c ∷ cs) a = (
  omega arith,
  refl,
  behind_append (n ∷ []) (map (λ b. n ∷ b) (branches (walk below d) 0 (below c))) (branches (walk below (suc d)) (suc n) cs)
      (behind_map n [] (branches (walk below d) 0 (below c)) (behind_branches below d 0 (below c) []))
      (behind_branches below (suc d) (suc n) cs),
)

-- the entry of an item behind another one is that of its address
entry_of : (look : Look) (x : Shape) (path : List Bool) (b : Address) (last : Bool) → 0 < length b → take (length b - 1) path ≡ flags_at x (parent b) → last ≡ is_last kids x b
    → entry_behind look path (length b) last (own_at look x b) ≡ entry_text look x b
entry_of look x path [] last some above same = absurd (omega (arith, some))
entry_of look x path (i ∷ r) last some above same =
    let b : Address = i ∷ r in
    let own : List ℕ = own_at look x b in
    let flags : List Bool = flags_at x (parent b) in
    let end : Bool = is_last kids x b in
    ap (λ f. entry_below look f (last_of (length b) last) own) above
    ∙ (ap (λ q. entry_below look flags (cond q None (Some last)) own) (ne_eqb (length b) 0 (omega arith))
    ∙ (ap (λ c. entry_below look flags (Some c) own) same
    ∙ (ap (λ q. entry_from look (passing_all look.pieces flags ++ turning_piece look.pieces end) q own)
    (sym (passing_all-push look.pieces flags end) ∙ (ap (passing_all look.pieces) (sym (flags_last x b some)) ∙ sym (passing_by_flags look x (prefixes b))))
    ∙ ap (λ q. entry_from look (q ++ turning_piece look.pieces end) (passing_text look x b) own) (sym (passing_by_flags look x (prefixes (parent b)))))))

-- its path has the flags of its address
path_of : (x : Shape) (path : List Bool) (b : Address) (last : Bool) → 0 < length b → take (length b - 1) path ≡ flags_at x (parent b) → last ≡ is_last kids x b → path_with path (length b) last ≡ flags_at x b
path_of x path b last some above same =
    ap (λ q. cond q [] (take (length b - 1) path ++ last ∷ [])) (ne_eqb (length b) 0 (omega (arith, some)))
    ∙ (ap (λ f. f ++ last ∷ []) above ∙ (ap (λ c. flags_at x (parent b) ++ c ∷ []) same ∙ sym (flags_last x b some)))

-- the entries of items behind one are those of their addresses
given_behind : (look : Look) (x : Shape) (a : Address) (bs : List Address) (path : List Bool) (items : List GivenItem) → Behind a bs → path ≡ flags_at x a → AreAt look x bs items
    → given_text look path items ≡ flat_map (entry_text look x) bs
given_behind look x a [] path [] behind keeps are = refl
given_behind look x a [] path (i ∷ items) behind keeps are = absurd are
given_behind look x a (b ∷ bs) path [] behind keeps are = absurd are
given_behind look x a (b ∷ bs) path (i ∷ items) behind keeps are =
    let is : IsAt look x b i = are.0 in
    let above : take (length b - 1) path ≡ flags_at x (parent b) =
    ap (take (length b - 1)) keeps ∙ (take-map (is_last kids x) (length b - 1) (prefixes a) ∙ ap (map (is_last kids x)) (prefixes_first (length b - 1) a ∙ ap prefixes behind.1)) in
    let last : i.last ≡ is_last kids x b = is.last behind.0 in
    let entry : entry_behind look path i.level i.last i.own ≡ entry_text look x b =
    ap (λ m. entry_behind look path m i.last i.own) is.level ∙ (ap (entry_behind look path (length b) i.last) is.own ∙ entry_of look x path b i.last behind.0 above last) in
    let next : path_with path i.level i.last ≡ flags_at x b = ap (λ m. path_with path m i.last) is.level ∙ path_of x path b i.last behind.0 above last in
    ap (λ z. z ++ given_text look (path_with path i.level i.last) items) entry
    ∙ ap (λ z. entry_text look x b ++ z) (given_behind look x b bs (path_with path i.level i.last) items behind.2 next are.1)

-- what the walk has behind the root
below_root : {X : Type 0} (below : X → List X) (depth : ℕ) (x : X) → (bs : List Address) × (walk below depth x ≡ [] ∷ bs) × Behind [] bs
below_root below zero x = ([], refl, tt)
below_root below (suc d) x = (branches (walk below d) 0 (below x), refl, behind_branches below d 0 (below x) [])

-- the entries of a root and of what is below it are those of their addresses
given_from_root : (look : Look) (x : Shape) (bs : List Address) (path : List Bool) (items : List GivenItem) → Behind [] bs → AreAt look x ([] ∷ bs) items
    → given_text look path items ≡ flat_map (entry_text look x) ([] ∷ bs)
given_from_root look x bs path [] behind are = absurd are
given_from_root look x bs path (i ∷ items) behind are =
    let is : IsAt look x [] i = are.0 in
    let root : entry_behind look path i.level i.last i.own ≡ entry_text look x [] = ap (λ m. entry_behind look path m i.last i.own) is.level ∙ ap (entry_behind look path 0 i.last) is.own in
    ap (λ z. z ++ given_text look (path_with path i.level i.last) items) root
    ∙ ap (λ z. entry_text look x [] ++ z) (given_behind look x [] bs (path_with path i.level i.last) items behind (ap (λ m. path_with path m i.last) is.level) are.1)

-- the entries of items, given in the order of their addresses, are the drawing
pub draws_items : (look : Look) → DrawsItems look
draws_items look x depth list path items is are =
    let root = below_root kids depth x in
    let same : list ≡ [] ∷ root.0 = one_list kids x depth list (walk kids depth x) is (walk_is_list kids depth x) ∙ root.1 in
    (list, is, given_from_root look x root.0 path items root.2 (subst (λ (l : List Address). AreAt look x l items) same are) ∙ ap (flat_map (entry_text look x)) (sym same))
