-- Which items have a later sibling, by what is known of the later items.
use Rattle.std.proofs.Common.{◌≡◌, ◌≢◌, ℕ, zero, suc, ◌+◌, ◌<◌, ◌≤◌, inl, inr, Bool, false, not, cond, eqb, ltb, List, [], ◌∷◌, length, length-set, drop, drop-cons, replicate, get_or, get_or-set_same, get_or-set_other, set, refl, sym, ap, ◌∙◌, subst, arith}
use Rattle.std.proofs.lemmas.Bool.{cases_lt, lt-ltb, le-ltb, eq-eqb, ne_eqb}
use Rattle.std.proofs.lemmas.List.{drop-set}
use Rattle.ptree_c.specs.Fields.{is_set}
use Rattle.ptree_c.specs.Outlines.{has_later_item, AreLater, AreLastFlags, StepsDown, AreItems}
use Rattle.ptree_c.specs.declared.items.Item.{Item}

-- no item among the later ones has a level further down than one more
none_deeper : (deepest level n : ℕ) (items : List Item) → suc level < n → StepsDown deepest level items → has_later_item items n ≡ false
none_deeper deepest level n [] h down = refl
none_deeper deepest level n (i ∷ items) h down = rw (le-ltb n i.level (omega (arith, h, down.1))) (ne_eqb n i.level (omega (arith, h, down.1)))

-- an item comes before the later ones, the first of which is at most one level deeper
pub later_put : (later : List ℕ) (deepest level : ℕ) (i : Item) (items : List Item) → level + 1 < length later → i.level ≡ level → StepsDown deepest level items → AreLater later items
    → AreLater (set (set later level 1) (level + 1) 0) (i ∷ items)
later_put later deepest level i items long same down are n =
    let here : List ℕ = set later level 1 in
    let next : List ℕ = set here (level + 1) 0 in
    let other : n ≢ level + 1 → get_or next n 0 ≡ get_or here n 0 = get_or-set_other here (level + 1) n 0 0 in
    let later_than : Bool → Bool = λ b. cond b (has_later_item items n) (eqb n i.level) in
    elim (cases_lt n level) [
      | inl low ↦
          ap is_set (other (omega (arith, low)) ∙ get_or-set_other later level n 1 0 (omega (arith, low)))
          ∙ (are n ∙ sym (ap later_than (lt-ltb n i.level (omega (arith, low, same)))))
      | inr high ↦
          let off : ltb n i.level ≡ false = le-ltb n i.level (omega (arith, high, same)) in
          elim (cases_lt level n) [
            | inl beyond ↦ cleared beyond ∙ sym (ap later_than off ∙ ne_eqb n i.level (omega (arith, beyond, same)))
            | inr within ↦
                let at : n ≡ level = omega (arith, high, within) in
                ap is_set (other (omega (arith, at)) ∙ (ap (λ m. get_or here m 0) at ∙ get_or-set_same later level 1 0 (omega (arith, long))))
                ∙ sym (ap later_than off ∙ eq-eqb n i.level (omega (arith, at, same)))
          ]
    ] where
      cleared : level < n → is_set (get_or (set (set later level 1) (level + 1) 0) n 0) ≡ false
      cleared beyond =
          elim (cases_lt (level + 1) n) [
            | inl far ↦
                ap is_set (get_or-set_other (set later level 1) (level + 1) n 0 0 (omega (arith, far)) ∙ get_or-set_other later level n 1 0 (omega (arith, far)))
                ∙ (are n ∙ none_deeper deepest level n items (omega (arith, far)) down)
            | inr near ↦
                let at : n ≡ level + 1 = omega (arith, beyond, near) in
                ap (λ k. is_set (get_or (set (set later level 1) (level + 1) 0) k 0)) at
                ∙ ap is_set (get_or-set_same (set later level 1) (level + 1) 0 0 (omega (arith, long, length-set later level 1)))
          ]

-- no items are later
pub none_later : (count : ℕ) → AreLater (replicate count 0) []
none_later zero n = refl
none_later (suc count) zero = refl
none_later (suc count) (suc n) = none_later count n

-- behind the item at a place the levels step down from its own
steps_behind : (deepest previous : ℕ) (items : List Item) (n : ℕ) (d : Item) → n < length items → StepsDown deepest previous items
    → ((get_or items n d).level ≤ deepest) × StepsDown deepest (get_or items n d).level (drop (suc n) items)
steps_behind deepest previous [] n d h down = absurd (omega (arith, h))
steps_behind deepest previous (i ∷ items) zero d h down = (down.2, down.3)
steps_behind deepest previous (i ∷ items) (suc n) d h down = steps_behind deepest i.level items n d (omega (arith, h)) down.3

-- and so they do in an outline
pub steps_at : (deepest : ℕ) (items : List Item) (n : ℕ) (d : Item) → n < length items → AreItems deepest items
    → ((get_or items n d).level ≤ deepest) × StepsDown deepest (get_or items n d).level (drop (suc n) items)
steps_at deepest [] n d h are = absurd are
steps_at deepest (i ∷ items) zero d h are = (omega (arith, are.0), subst (λ k. StepsDown deepest k items) (sym are.0) are.1)
steps_at deepest (i ∷ items) (suc n) d h are = steps_behind deepest 0 items n d (omega (arith, h)) are.1

-- an item more has its flag
pub flags_put : (items : List Item) (flags : List ℕ) (n f : ℕ) (d : Item) → n < length items → length flags ≡ length items
    → is_set f ≡ not (has_later_item (drop (suc n) items) (get_or items n d).level) → AreLastFlags (drop (suc n) items) (drop (suc n) flags)
    → AreLastFlags (drop n items) (drop n (set flags n f))
flags_put items flags n f d h long is are =
    let i : Item = get_or items n d in
    let one : n + 1 ≡ suc n = omega arith in
    let flag : drop n (set flags n f) ≡ f ∷ drop (suc n) flags = drop-set flags n f (omega (arith, h, long)) ∙ ap (λ k. f ∷ drop k flags) one in
    subst (λ (x : List Item). AreLastFlags x (drop n (set flags n f))) (sym (drop-cons items n d h))
    (subst (λ (y : List ℕ). AreLastFlags (i ∷ drop (suc n) items) y) (sym flag) (is, are))
