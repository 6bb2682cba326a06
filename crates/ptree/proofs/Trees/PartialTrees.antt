-- Trees that are made line by line.
use Rattle.std.proofs.Common.{◌≡◌, ℕ, zero, suc, ◌+◌, ◌-◌, ◌<◌, ◌≤◌, List, [], ◌∷◌, ◌++◌, length, map, take, drop, sym, ap, ◌∙◌, append_assoc, refl, subst, arith}
use Rattle.std.proofs.Math.ListN.{drop_of_length-le}
use Rattle.std.proofs.lemmas.List.{append-nil, map-append, take-append-le, drop-append-le, drop-drop, take_all, length-drop}
use Rattle.std.specs.Prelude.{string_bytes}
use Rattle.ptree.specs.Outline.{Line, line, outline_at}
use Rattle.ptree.specs.PartialTree.{row_lines, lines_from, Ascend, HasOneRoot}
use Rattle.ptree.specs.Tree.{Tree, forest, tree, tree_of}
use Rattle.ptree.specs.declared.item.StringItem.{StringItem}
use Rattle.ptree.specs.declared.builder.partial.Parent.{Parent}

-- ## Places

-- ascending places lie between their bounds
ascend_bounds : (m : ℕ) (parents : List Parent) (count : ℕ) → Ascend m parents count → m ≤ count
ascend_bounds m [] count h = h
ascend_bounds m (o ∷ parents) count h = let low = h.0 in let high = ascend_bounds o.first parents count h.1 in omega (arith, low, high)

-- they ascend also to a greater number of closed items
pub ascend_more : (m : ℕ) (parents : List Parent) (count count' : ℕ) → Ascend m parents count → count ≤ count' → Ascend m parents count'
ascend_more m [] count count' h more = omega (arith, h, more)
ascend_more m (o ∷ parents) count count' h more = (h.0, ascend_more o.first parents count count' h.1 more)

-- one parent more at the end
pub ascend_push : (m : ℕ) (parents : List Parent) (o : Parent) (count : ℕ) → Ascend m parents o.first → o.first ≤ count → Ascend m (parents ++ o ∷ []) count
ascend_push m [] o count h high = (h, high)
ascend_push m (p ∷ parents) o count h high = (h.0, ascend_push p.first parents o count h.1 high)

-- one parent less
pub ascend_pop : (m : ℕ) (parents : List Parent) (o : Parent) (count : ℕ) → Ascend m (parents ++ o ∷ []) count → Ascend m parents o.first × (o.first ≤ count)
ascend_pop m [] o count h = h
ascend_pop m (p ∷ parents) o count h = let more = ascend_pop p.first parents o count h.1 in ((h.0, more.0), more.1)

-- the root stays, if there is one, whatever is closed
pub root_stays : (parents : List Parent) (closed closed' : List StringItem) → 0 < length parents → HasOneRoot parents closed → HasOneRoot parents closed'
root_stays [] closed closed' some h = absurd (omega (arith, some))
root_stays (p ∷ parents) closed closed' some h = h

-- so also if the last parent is closed
pub root_above : (parents : List Parent) (o : Parent) (closed closed' : List StringItem) → 0 < length parents → HasOneRoot (parents ++ o ∷ []) closed → HasOneRoot parents closed'
root_above [] o closed closed' some h = absurd (omega (arith, some))
root_above (p ∷ parents) o closed closed' some h = h

-- one parent more
pub root_pushed : (parents : List Parent) (o : Parent) (closed : List StringItem) → o.first ≡ length closed → HasOneRoot parents closed → HasOneRoot (parents ++ o ∷ []) closed
root_pushed [] o closed at h = at ∙ ap length h
root_pushed (p ∷ parents) o closed at h = h

-- ## Lines

-- the lines of a tree whose root has level n
abbrev pub outline_under : ℕ → Tree → List Line
outline_under n t = line n t.text ∷ outline_at (suc n) t.children

-- one tree more at the end of a forest
outline_at-push : (n : ℕ) (ts : List Tree) (t : Tree)
    → outline_at n (forest (ts ++ t ∷ [])) ≡ outline_at n (forest ts) ++ outline_under n t
outline_at-push n [] t = ap (λ z. line n t.text ∷ z) (append-nil (outline_at (suc n) t.children))
outline_at-push n (u ∷ ts) t =
    ap (λ z. line n u.text ∷ z)
    (ap (λ z. outline_at (suc n) u.children ++ z) (outline_at-push n ts t)
    ∙ sym (append_assoc (outline_at (suc n) u.children) (outline_at n (forest ts)) (outline_under n t)))

-- one closed item more in a row
row_push : (n : ℕ) (items : List StringItem) (x : StringItem) → row_lines n (items ++ x ∷ []) ≡ row_lines n items ++ outline_under n (tree_of x)
row_push n items x = ap (λ z. outline_at n (forest z)) (map-append tree_of items (x ∷ [])) ∙ outline_at-push n (map tree_of items) (tree_of x)

-- how many items are left after some
left_count : (k : ℕ) (xs : List StringItem) → k ≤ length xs → k + length (drop k xs) ≡ length xs
left_count k xs h = let d = length-drop k xs in omega (arith, h, d)

-- the first a of the first a + b items and of one more
take_near : (a b : ℕ) (xs : List StringItem) (x : StringItem) → a + b ≤ length xs → take a (take (a + b) xs ++ x ∷ []) ≡ take a xs
take_near zero b xs x h = refl
take_near (suc a) b [] x h = absurd (omega (arith, h))
take_near (suc a) b (y ∷ ys) x h =
    ap (λ k. take (suc a) (take k (y ∷ ys) ++ x ∷ [])) (let e : suc a + b ≡ suc (a + b) = omega arith in e) ∙ ap (λ z. y ∷ z) (take_near a b ys x (omega (arith, h)))

-- and what is after them
drop_near : (a b : ℕ) (xs : List StringItem) (x : StringItem) → a + b ≤ length xs → drop a (take (a + b) xs ++ x ∷ []) ≡ take b (drop a xs) ++ x ∷ []
drop_near zero b xs x h = ap (λ k. take k xs ++ x ∷ []) (let e : 0 + b ≡ b = omega arith in e)
drop_near (suc a) b [] x h = absurd (omega (arith, h))
drop_near (suc a) b (y ∷ ys) x h =
    ap (λ k. drop (suc a) (take k (y ∷ ys) ++ x ∷ [])) (let e : suc a + b ≡ suc (a + b) = omega arith in e) ∙ drop_near a b ys x (omega (arith, h))

-- one closed item more, below the last parent
lines_push : (n m : ℕ) (parents : List Parent) (closed : List StringItem) (x : StringItem) → Ascend m parents (m + length closed)
    → lines_from n m parents (closed ++ x ∷ []) ≡ lines_from n m parents closed ++ outline_under (n + length parents) (tree_of x)
lines_push n m [] closed x h = row_push n closed x ∙ ap (λ k. row_lines n closed ++ outline_under k (tree_of x)) (let z : n ≡ n + 0 = omega arith in z)
lines_push n m (o ∷ parents) closed x h =
    let here = o.first - m in
    let low = h.0 in
    let high = ascend_bounds o.first parents (m + length closed) h.1 in
    let within : here ≤ length closed = omega (arith, low, high) in
    let count = left_count here closed within in
    let left : m + length closed ≡ o.first + length (drop here closed) = omega (arith, low, count) in
    let rest = lines_push (suc n) o.first parents (drop here closed) x (subst (Ascend o.first parents) left h.1) in
    let level : suc n + length parents ≡ n + suc (length parents) = omega arith in
    ap (λ z. row_lines n z ++ line n (string_bytes o.text) ∷ lines_from (suc n) o.first parents (drop here (closed ++ x ∷ []))) (take-append-le here closed (x ∷ []) within)
    ∙ (ap (λ z. row_lines n (take here closed) ++ line n (string_bytes o.text) ∷ lines_from (suc n) o.first parents z) (drop-append-le here closed (x ∷ []) within)
    ∙ (ap (λ z. row_lines n (take here closed) ++ line n (string_bytes o.text) ∷ z) (rest ∙ ap (λ k. lines_from (suc n) o.first parents (drop here closed) ++ outline_under k (tree_of x)) level)
    ∙ sym (append_assoc (row_lines n (take here closed)) (line n (string_bytes o.text) ∷ lines_from (suc n) o.first parents (drop here closed)) (outline_under (n + suc (length parents)) (tree_of x)))))

-- one parent more, with nothing below it
lines_open : (n m : ℕ) (parents : List Parent) (o : Parent) (closed : List StringItem) → Ascend m parents (m + length closed) → o.first ≡ m + length closed
    → lines_from n m (parents ++ o ∷ []) closed ≡ lines_from n m parents closed ++ line (n + length parents) (string_bytes o.text) ∷ []
lines_open n m [] o closed h at =
    let here = o.first - m in
    let all : here ≡ length closed = omega (arith, at) in
    ap (λ z. row_lines n z ++ line n (string_bytes o.text) ∷ row_lines (suc n) (drop here closed)) (take_all here closed (omega (arith, all)))
    ∙ (ap (λ z. row_lines n closed ++ line n (string_bytes o.text) ∷ row_lines (suc n) z) (drop_of_length-le closed (omega (arith, all)))
    ∙ ap (λ k. row_lines n closed ++ line k (string_bytes o.text) ∷ []) (let z : n ≡ n + 0 = omega arith in z))
lines_open n m (p ∷ parents) o closed h at =
    let here = p.first - m in
    let low = h.0 in
    let high = ascend_bounds p.first parents (m + length closed) h.1 in
    let count = left_count here closed (omega (arith, low, high)) in
    let left : m + length closed ≡ p.first + length (drop here closed) = omega (arith, low, count) in
    let rest = lines_open (suc n) p.first parents o (drop here closed) (subst (Ascend p.first parents) left h.1) (at ∙ left) in
    let level : suc n + length parents ≡ n + suc (length parents) = omega arith in
    ap (λ z. row_lines n (take here closed) ++ line n (string_bytes p.text) ∷ z) (rest ∙ ap (λ k. lines_from (suc n) p.first parents (drop here closed) ++ line k (string_bytes o.text) ∷ []) level)
    ∙ sym (append_assoc (row_lines n (take here closed)) (line n (string_bytes p.text) ∷ lines_from (suc n) p.first parents (drop here closed)) (line (n + suc (length parents)) (string_bytes o.text) ∷ []))

-- the last parent, closed over the items after it
lines_close : (n m : ℕ) (parents : List Parent) (o : Parent) (closed : List StringItem) (x : StringItem) → Ascend m (parents ++ o ∷ []) (m + length closed)
    → tree_of x ≡ tree (string_bytes o.text) (forest (map tree_of (drop (o.first - m) closed)))
    → lines_from n m parents (take (o.first - m) closed ++ x ∷ []) ≡ lines_from n m (parents ++ o ∷ []) closed
lines_close n m [] o closed x h is =
    row_push n (take (o.first - m) closed) x ∙ ap (λ t. row_lines n (take (o.first - m) closed) ++ outline_under n t) is
lines_close n m (p ∷ parents) o closed x h is =
    let here = p.first - m in
    let low = h.0 in
    let bounds = ascend_pop p.first parents o (m + length closed) h.1 in
    let between = ascend_bounds p.first parents o.first bounds.0 in
    let top = bounds.1 in
    let on = o.first - p.first in
    let far : o.first - m ≡ here + on = omega (arith, low, between) in
    let within : here + on ≤ length closed = omega (arith, low, between, top) in
    let count = left_count here closed (omega (arith, within)) in
    let left : m + length closed ≡ p.first + length (drop here closed) = omega (arith, low, count) in
    let rest = lines_close (suc n) p.first parents o (drop here closed) x (subst (Ascend p.first (parents ++ o ∷ [])) left h.1)
    (is ∙ ap (λ z. tree (string_bytes o.text) (forest (map tree_of z))) (ap (λ k. drop k closed) far ∙ sym (drop-drop on here closed))) in
    ap (λ k. lines_from n m (p ∷ parents) (take k closed ++ x ∷ [])) far
    ∙ (ap (λ z. row_lines n z ++ line n (string_bytes p.text) ∷ lines_from (suc n) p.first parents (drop here (take (here + on) closed ++ x ∷ []))) (take_near here on closed x within)
    ∙ ap (λ z. row_lines n (take here closed) ++ line n (string_bytes p.text) ∷ z) (ap (lines_from (suc n) p.first parents) (drop_near here on closed x within) ∙ rest))

-- ## From the root

-- one closed item more
pub root_lines_push : (ps : List Parent) (closed : List StringItem) (x : StringItem) → Ascend 0 ps (length closed) → lines_from 0 0 ps (closed ++ x ∷ []) ≡ lines_from 0 0 ps closed ++ outline_under (length ps) (tree_of x)
root_lines_push ps closed x h =
    lines_push 0 0 ps closed x (subst (Ascend 0 ps) (let e : length closed ≡ 0 + length closed = omega arith in e) h)
    ∙ ap (λ k. lines_from 0 0 ps closed ++ outline_under k (tree_of x)) (let e : 0 + length ps ≡ length ps = omega arith in e)

-- one parent more
pub root_lines_open : (ps : List Parent) (p : Parent) (closed : List StringItem) → Ascend 0 ps (length closed) → p.first ≡ length closed
    → lines_from 0 0 (ps ++ p ∷ []) closed ≡ lines_from 0 0 ps closed ++ line (length ps) (string_bytes p.text) ∷ []
root_lines_open ps p closed h at =
    lines_open 0 0 ps p closed (subst (Ascend 0 ps) (let e : length closed ≡ 0 + length closed = omega arith in e) h) (omega (arith, at))
    ∙ ap (λ k. lines_from 0 0 ps closed ++ line k (string_bytes p.text) ∷ []) (let e : 0 + length ps ≡ length ps = omega arith in e)

-- one parent less
pub root_lines_close : (ps : List Parent) (p : Parent) (closed : List StringItem) (x : StringItem) → Ascend 0 (ps ++ p ∷ []) (length closed) → tree_of x ≡ tree (string_bytes p.text) (forest (map tree_of (drop p.first closed)))
    → lines_from 0 0 ps (take p.first closed ++ x ∷ []) ≡ lines_from 0 0 (ps ++ p ∷ []) closed
root_lines_close ps p closed x h is =
    let first : p.first ≡ p.first - 0 = omega arith in
    ap (λ k. lines_from 0 0 ps (take k closed ++ x ∷ [])) first
    ∙ lines_close 0 0 ps p closed x (subst (Ascend 0 (ps ++ p ∷ [])) (let e : length closed ≡ 0 + length closed = omega arith in e) h) (is ∙ ap (λ k. tree (string_bytes p.text) (forest (map tree_of (drop k closed)))) first)
